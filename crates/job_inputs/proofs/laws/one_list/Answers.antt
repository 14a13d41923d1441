use Rattle.std.proofs.Common.{◌≡◌, ◌<◌, ℕ, zero, suc, List, [], ◌∷◌, Result, Ok, refl, sym, ap, subst, arith, inl, inr}
use Rattle.std.proofs.lemmas.Bool.{cases_lt}
use Rattle.ar_base.specs.Lists.{Stands, Along, one_and}
use Rattle.ar_base.proofs.Standing.{stands_one, stands_none, along_on}
use Rattle.ar_meaning.specs.Runs.{Label}
use Rattle.gts_flatten.specs.Elaborating.{Elaborated}
use Rattle.job_inputs.specs.CutLines.{IsPassed, IsCutLine}
use Rattle.job_inputs.specs.CutLists.{CutLine, ListsCutLines, IsBadLabel, IsFirstBadLabel, IsBadCut, IsFirstBadCut, CutList}
use Rattle.job_inputs.specs.CutListsInside.{HaveOneMeaning}
use Rattle.job_inputs.specs.CutLists as lists
use Rattle.job_inputs.specs.Labels.{IsLabel}
use Rattle.job_inputs.specs.Scripts.{Why, BadLine}
use Rattle.job_inputs.proofs.CutLineLemmas.{one_cut}
use Rattle.job_inputs.proofs.laws.one_list.Goals as goal

-- of two places none is before the other
one_place : (m n : ℕ) → (m < n → ⊥) → (n < m → ⊥) → m ≡ n
one_place m n h k = elim (cases_lt m n)
    [ inl a ↦ absurd (h a) | inr b ↦ elim (cases_lt n m) [ inl c ↦ absurd (k c) | inr d ↦ omega (arith, b, d) ] ]

module _ (x : Elaborated) (is : HaveOneMeaning x) where
  labels_same : (texts : List (List ℕ)) (ls ms : List Label) → Along (IsLabel x) texts ls → Along (IsLabel x) texts ms
      → ls ≡ ms
  labels_same [] [] [] a b = refl
  labels_same [] [] (m ∷ ms) a b = elim b [ ]
  labels_same [] (l ∷ ls) ms a b = elim a [ ]
  labels_same (t ∷ texts) [] ms a b = elim a [ ]
  labels_same (t ∷ texts) (l ∷ ls) [] a b = elim b [ ]
  labels_same (t ∷ texts) (l ∷ ls) (m ∷ ms) (one_and h hs) (one_and k ks) =
      let i : l ≡ m = is.one t l m h k in
      let j : ls ≡ ms = labels_same texts ls ms hs ks in cc

  lists_same : {n : ℕ} {lines : List (List ℕ)} {cs ds : List CutLine} → ListsCutLines x n lines cs → ListsCutLines x n
      lines ds → cs ≡ ds
  lists_same lists.none lists.none = refl
  lists_same (lists.passes h a) (lists.passes k b) = lists_same a b
  lists_same (lists.passes h a) (lists.cut n c along b) = absurd (n h)
  lists_same (lists.cut n c along a) (lists.passes k b) = absurd (n k)
  lists_same (lists.cut {line = line} {texts = texts} {labels = ls} n c along a)
      (lists.cut {texts = others} {labels = ms} m d more b) =
      let same : others ≡ texts = one_cut line texts others c d in
      let i : ls ≡ ms = labels_same texts ls ms along
      (subst (λ (z : List (List ℕ)). Along (IsLabel x) z ms) same more) in
      let j = lists_same a b in cc

  -- of the labels of a line none is bad
  label_good : (texts : List (List ℕ)) (ls : List Label) → Along (IsLabel x) texts ls
      → (n : ℕ) (text : List ℕ) (why : Why) → Stands texts n text → IsBadLabel x why text → ⊥
  label_good texts ls along n text why s (lists.needs_way h) = let l = along_on texts ls along n text s in is.needs_none text l.0 l.2 h
  label_good texts ls along n text why s (lists.no_event h k) = let l = along_on texts ls along n text s in k l.0 l.2

  cut_good : {line : List ℕ} {texts : List (List ℕ)} {ls : List Label} {why : Why} → (IsPassed line → ⊥)
      → IsCutLine line texts → Along (IsLabel x) texts ls → IsBadCut x why line → ⊥
  cut_good {texts = texts} n c along (lists.no_cut m f) = f texts c
  cut_good {line = line} {texts = texts} {ls = ls} {why = why} n c along (lists.bad_label {texts = others} m d f) =
      label_good texts ls along f.place f.text why
      (subst (λ (z : List (List ℕ)). Stands z f.place f.text) (one_cut line texts others c d) f.stands) f.bad

  passed_good : {line : List ℕ} {why : Why} → IsPassed line → IsBadCut x why line → ⊥
  passed_good h (lists.no_cut m f) = m h
  passed_good h (lists.bad_label m d f) = m h

  lists_good : {n : ℕ} {lines : List (List ℕ)} {cs : List CutLine} → ListsCutLines x n lines cs
      → (k : ℕ) (line : List ℕ) (why : Why) → Stands lines k line → IsBadCut x why line → ⊥
  lists_good lists.none k line why s b = stands_none k line s
  lists_good (lists.passes {line = own} h a) zero line why s b =
      let i : own ≡ line = cc in passed_good (subst IsPassed i h) b
  lists_good (lists.passes h a) (suc k) line why s b = lists_good a k line why s b
  lists_good (lists.cut {line = own} {texts = texts} n c along a) zero line why s b =
      let i : line ≡ own = cc in cut_good n c along (subst (λ (z : List ℕ). IsBadCut x why z) i b)
  lists_good (lists.cut n c along a) (suc k) line why s b = lists_good a k line why s b

  -- a line is bad for one reason
  label_once : {text : List ℕ} {v w : Why} → IsBadLabel x v text → IsBadLabel x w text → v ≡ w
  label_once (lists.needs_way h) (lists.needs_way k) = refl
  label_once (lists.needs_way h) (lists.no_event k n) = absurd (k h)
  label_once (lists.no_event h n) (lists.needs_way k) = absurd (h k)
  label_once (lists.no_event h n) (lists.no_event k m) = refl

  first_label_once : (texts : List (List ℕ)) (v w : Why) → IsFirstBadLabel x texts v → IsFirstBadLabel x texts w → v ≡ w
  first_label_once texts v w a b =
      let e : a.place ≡ b.place = one_place a.place b.place (λ h. b.before a.place a.text v h a.stands a.bad)
      (λ h. a.before b.place b.text w h b.stands b.bad) in
      let i : b.text ≡ a.text = stands_one texts a.place b.text a.text
      (subst (λ (n : ℕ). Stands texts n b.text) (sym e) b.stands) a.stands in
      label_once a.bad (subst (λ (z : List ℕ). IsBadLabel x w z) i b.bad)

  cut_once : {line : List ℕ} {v w : Why} → IsBadCut x v line → IsBadCut x w line → v ≡ w
  cut_once (lists.no_cut n f) (lists.no_cut m g) = refl
  cut_once (lists.no_cut n f) (lists.bad_label {texts = texts} m d g) = absurd (f texts d)
  cut_once (lists.bad_label {texts = texts} n c f) (lists.no_cut m g) = absurd (g texts c)
  cut_once {line = line} {v = v} {w = w} (lists.bad_label {texts = texts} n c f)
      (lists.bad_label {texts = others} m d g) =
      first_label_once texts v w f (subst (λ (z : List (List ℕ)). IsFirstBadLabel x z w) (one_cut line texts others c d)
      g)

  first_once : (lines : List (List ℕ)) (m n : ℕ) (v w : Why) → IsFirstBadCut x lines m v → IsFirstBadCut x lines n w
      → (m ≡ n) × (v ≡ w)
  first_once lines m n v w a b =
      let e : m ≡ n = one_place m n (λ h. b.before m a.line v h a.stands a.bad)
      (λ h. a.before n b.line w h b.stands b.bad) in
      let i : b.line ≡ a.line = stands_one lines m b.line a.line
      (subst (λ (k : ℕ). Stands lines k b.line) (sym e) b.stands) a.stands in
      (e, cut_once a.bad (subst (λ (z : List ℕ). IsBadCut x w z) i b.bad))

  list_once : {text : List ℕ} {a b : Result (List CutLine) BadLine} → CutList text x a → CutList text x b → a ≡ b
  list_once (lists.gives h) (lists.gives k) = ap Ok (lists_same h k)
  list_once (lists.gives h) (lists.bad {n = n} {why = why} f) = absurd (lists_good h n f.line why f.stands f.bad)
  list_once (lists.bad {n = n} {why = why} f) (lists.gives h) = absurd (lists_good h n f.line why f.stands f.bad)
  list_once (lists.bad {n = m} {why = v} f) (lists.bad {n = n} {why = w} g) =
      let e = first_once _ m n v w f g in
      let i : m ≡ n = e.0 in
      let j : v ≡ w = e.1 in cc

pub returns : goal.returns
returns c = λ x is text a b h k. list_once x is h k
