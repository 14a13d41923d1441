-- How far a list of cuts is read.
use Rattle.std.proofs.Common.{◌≡◌, ◌+◌, ◌<◌, ℕ, zero, suc, List, [], ◌∷◌, ◌++◌, Result, Ok, Err, IfErr, Vec, Global, length, map, if◌then◌else◌, refl, sym, ◌∙◌, ap, subst, arith, inl, inr, append_assoc}
use Rattle.std.proofs.lemmas.List.{append-nil, length-append, map-append}
use Rattle.ar_base.specs.Lists.{Stands, IsOneOf, Along, none, one_and}
use Rattle.ar_base.specs.Numbers.{WayId}
use Rattle.ar_base.proofs.Standing.{stands_none, stands_split, stands_next, one_none, one_split, one_cases}
use Rattle.ar_meaning.specs.Runs.{Label}
use Rattle.gts_core.specs.declared.bound.Chain.{Chain}
use Rattle.gts_core.specs.declared.system.GtsParts.{GtsParts}
use Rattle.gts_flatten.specs.Elaborating.{Elaborated}
use Rattle.job_inputs.specs.CutLines.{IsPassed, IsCutLine, texts_in, trimmed, is_comma}
use Rattle.job_inputs.specs.Chains.{chain_labels, cut_of, HaveKnownWays, IsBadList, AnswersCuts}
use Rattle.job_inputs.specs.CutLists.{CutLine, ListsCutLines, IsBadLabel, IsFirstBadLabel, IsBadCut, CutList}
use Rattle.job_inputs.specs.CutLists as lists
use Rattle.job_inputs.specs.CutReads.{AreKnownWays, AnswersLabels, AreLabelsSoFar, AddsCuts, IsBadCutLine, HasRead}
use Rattle.text_pieces.specs.WayLabels.{numbered_label}
use Rattle.job_inputs.specs.Labels.{IsLabel, NeedsWay}
use Rattle.job_inputs.specs.Lines.{lines_of, pieces, is_some_word}
use Rattle.job_inputs.specs.Reads.{AnswersLabel}
use Rattle.job_inputs.specs.Scripts.{Why, IsNoCommand, LacksWay, NamesNoEvent}
use Rattle.job_inputs.specs.declared.faults.ScriptFault.{ScriptFault}
use Rattle.job_inputs.specs.declared.faults.ScriptFault.TheVariants as faults

-- Labels

module _ {x : Elaborated} where
  label_good : (text : List ℕ) (k : Label) → IsLabel x text k → (NeedsWay x text → ⊥) → (why : Why)
      → IsBadLabel x why text → ⊥
  label_good text k is way why (lists.needs_way h) = way h
  label_good text k is way why (lists.no_event h n) = n k is

  along_more : (texts : List (List ℕ)) (labels : List Label) (text : List ℕ) (l : Label)
      → Along (IsLabel x) texts labels → IsLabel x text l
      → Along (IsLabel x) (texts ++ text ∷ []) (labels ++ l ∷ [])
  along_more [] [] text l none h = one_and h none
  along_more [] (k ∷ labels) text l a h = elim a [ ]
  along_more (t ∷ texts) [] text l a h = elim a [ ]
  along_more (t ∷ texts) (k ∷ labels) text l (one_and i more) h = one_and i (along_more texts labels text l more h)

  pub reached_none : (all : List (List ℕ)) (labels : List Label) → labels ≡ [] → AreLabelsSoFar x all all labels
  reached_none all labels e = record {
    done = [];
    split = refl;
    along = subst (λ (z : List Label). Along (IsLabel x) [] z) (sym e) none;
    good = λ n text why s b. stands_none n text s;
  }

  pub reached_more : (all left rest : List (List ℕ)) (text : List ℕ) (labels more : List Label) (l : Label)
      → left ≡ text ∷ rest → more ≡ labels ++ l ∷ []
      → AreLabelsSoFar x all left labels → IsLabel x text l → (NeedsWay x text → ⊥) → AreLabelsSoFar x all rest more
  reached_more all left rest text labels more l e f r is way = record {
    done = r.done ++ text ∷ [];
    split = r.split ∙ ap (λ z. r.done ++ z) e ∙ sym (append_assoc r.done (text ∷ []) rest);
    along = subst (λ (z : List Label). Along (IsLabel x) (r.done ++ text ∷ []) z) (sym f)
        (along_more r.done labels text l r.along is);
    good = λ n other why s b. elim (stands_split r.done (text ∷ []) n other s) [
      | inl q ↦ r.good n other why q b
      | inr q ↦ here q.0 other why q.2 b
    ];
  }
    where
      here : (j : ℕ) (other : List ℕ) (why : Why) → Stands (text ∷ []) j other → IsBadLabel x why other → ⊥
      here zero other why s b = let same : text ≡ other = cc in label_good text l is way why (subst (λ (z : List ℕ). IsBadLabel x why z) (sym same) b)
      here (suc j) other why s b = stands_none j other s

  pub reached_bad : (all left rest : List (List ℕ)) (text : List ℕ) (labels : List Label) (why : Why)
      → left ≡ text ∷ rest
      → AreLabelsSoFar x all left labels → IsBadLabel x why text → IsFirstBadLabel x all why
  reached_bad all left rest text labels why e r b =
      let split = r.split ∙ ap (λ z. r.done ++ z) e in
      record {
        place = length r.done;
        text = text;
        stands = subst (λ (z : List (List ℕ)). Stands z (length r.done) text) (sym split)
            (stands_next r.done text rest);
        bad = b;
        before = λ k other w l s c. elim (stands_split r.done (text ∷ rest) k other
            (subst (λ (z : List (List ℕ)). Stands z k other) split s)) [
              | inl p ↦ r.good k other w p c
              | inr p ↦ absurd (omega (arith, l, p.1))
            ];
      }

-- the fault of a label
pub label_fails : (x : Elaborated) (p : GtsParts) (all left rest : List (List ℕ)) (text : List ℕ) (labels : List Label)
    (number : ℕ) (f : ScriptFault) → left ≡ text ∷ rest
    → AreLabelsSoFar x all left labels → AnswersLabel x p text number (Err f) → AnswersLabels x p all number (Err f)
label_fails x p all left rest text labels number (faults.Line n) e r h = absurd h
label_fails x p all left rest text labels number (faults.Unknown n) e r h =
    (h.0, reached_bad all left rest text labels NamesNoEvent e r (lists.no_event h.1 h.2))
label_fails x p all left rest text labels number (faults.Which n) e r h =
    (h.0, reached_bad all left rest text labels LacksWay e r (lists.needs_way h.1))
label_fails x p all left rest text labels number faults.Memory e r h = tt

-- all labels are read
pub labels_end : (x : Elaborated) (p : GtsParts) (all left : List (List ℕ)) (ways : Vec WayId Global) (number : ℕ)
    → left ≡ []
    → AreLabelsSoFar x all left (chain_labels p ways.items) → AreKnownWays p ways.items
    → AnswersLabels x p all number (Ok ways)
labels_end x p all left ways number e r k =
    let same : all ≡ r.done = r.split ∙ ap (λ z. r.done ++ z) e ∙ append-nil r.done in (
      subst (λ (z : List (List ℕ)). Along (IsLabel x) z (chain_labels p ways.items)) (sym same) r.along,
      k,
      λ n text why s b. r.good n text why (subst (λ (z : List (List ℕ)). Stands z n text) same s) b,
    )

pub known_none : (p : GtsParts) (ways : List WayId) → ways ≡ [] → AreKnownWays p ways
known_none p ways e = record { each = λ w o. absurd (one_none w (subst (λ (z : List WayId). IsOneOf z w) e o)) }

pub known_more : (p : GtsParts) (old new : List WayId) (v : WayId) → new ≡ old ++ v ∷ [] → v.n < length p.ways.items
    → AreKnownWays p old → AreKnownWays p new
known_more p old new v e inside h = record {
  each = λ w o. elim (one_split old (v ∷ []) w (subst (λ (z : List WayId). IsOneOf z w) e o)) [
    | inl q ↦ h.each w q
    | inr q ↦ elim (one_cases v [] w q)
        [ inl i ↦ subst (λ (z : WayId). z.n < length p.ways.items) i inside | inr r ↦ absurd (one_none w r) ]
  ];
}

pub labels_more : (p : GtsParts) (old new : List WayId) (v : WayId) → new ≡ old ++ v ∷ []
    → chain_labels p new ≡ chain_labels p old ++ numbered_label p v.n ∷ []
labels_more p old new v e = ap (chain_labels p) e ∙ map-append (λ (w : WayId). numbered_label p w.n) old (v ∷ [])

-- the answer that was passed on
pub labels_as : (x : Elaborated) (p : GtsParts) (texts : List (List ℕ)) (number : ℕ)
    (r : Result (Vec WayId Global) ScriptFault) (d e : ScriptFault)
    → r ≡ Err d → d ≡ e → AnswersLabels x p texts number (Err e) → AnswersLabels x p texts number r
labels_as x p texts number r d e i j h =
    subst (λ (z : Result (Vec WayId Global) ScriptFault). AnswersLabels x p texts number z) (sym (i ∙ ap Err j)) h

-- nothing stands between the braces
pub labels_none : (x : Elaborated) (p : GtsParts) (inner text : List ℕ) (ways : Vec WayId Global) (number : ℕ)
    → text ≡ trimmed inner → text ≡ [] → ways.items ≡ []
    → AnswersLabels x p (texts_in inner) number (Ok ways)
labels_none x p inner text ways number e f g =
    let same : texts_in inner ≡ [] = ap (λ t. if is_some_word t then map trimmed (pieces is_comma inner) else []) (sym e ∙ f) in (
      subst (λ (z : List (List ℕ)). Along (IsLabel x) z (chain_labels p ways.items)) (sym same)
          (subst (λ (z : List WayId). Along (IsLabel x) [] (chain_labels p z)) (sym g) none),
      known_none p ways.items g,
      λ n t why s b. stands_none n t (subst (λ (z : List (List ℕ)). Stands z n t) same s),
    )

-- Lines

module _ {x : Elaborated} {line : List ℕ} {number : ℕ} where
  pub adds_nothing : (cuts : List CutLine) → IsPassed line → AddsCuts x line number cuts cuts
  adds_nothing cuts h = record {
    added = [];
    is = sym (append-nil cuts);
    gives = λ ls more g. lists.passes h g;
    good = good;
  }
    where
      good : (why : Why) → IsBadCut x why line → ⊥
      good why (lists.no_cut n f) = n h
      good why (lists.bad_label n c f) = n h

  pub adds_cut : (cuts : List CutLine) (texts : List (List ℕ)) (labels : List Label) → (IsPassed line → ⊥)
      → IsCutLine line texts → Along (IsLabel x) texts labels
      → ((others : List (List ℕ)) → IsCutLine line others → others ≡ texts)
      → ((n : ℕ) (text : List ℕ) (why : Why) → Stands texts n text → IsBadLabel x why text → ⊥)
      → AddsCuts x line number cuts (cuts ++ record { number = number; labels = labels } ∷ [])
  adds_cut cuts texts labels n c along one none_bad = record {
    added = record { number = number; labels = labels } ∷ [];
    is = refl;
    gives = λ ls more g. lists.cut n c along g;
    good = good;
  }
    where
      good : (why : Why) → IsBadCut x why line → ⊥
      good why (lists.no_cut m f) = f texts c
      good why (lists.bad_label {texts = others} m d f) =
          none_bad f.place f.text why (subst (λ (z : List (List ℕ)). Stands z f.place f.text) (one others d) f.stands)
          f.bad

-- a line without a good label
pub labels_bad : (x : Elaborated) (p : GtsParts) (line : List ℕ) (texts : List (List ℕ)) (number : ℕ) (f : ScriptFault)
    → (IsPassed line → ⊥) → IsCutLine line texts
    → AnswersLabels x p texts number (Err f) → IsBadCutLine x line number f
labels_bad x p line texts number (faults.Line n) m c h = absurd h
labels_bad x p line texts number (faults.Unknown n) m c h = (h.0, lists.bad_label m c h.1)
labels_bad x p line texts number (faults.Which n) m c h = (h.0, lists.bad_label m c h.1)
labels_bad x p line texts number faults.Memory m c h = tt

-- the cuts with one more, by their chains
pub one_added : (p : GtsParts) (x : Elaborated) (line : List ℕ) (number : ℕ) (old new : List Chain) (c : Chain)
    → new ≡ old ++ c ∷ [] → AddsCuts x line number (map (cut_of p) old) (map (cut_of p) old ++ cut_of p c ∷ [])
    → AddsCuts x line number (map (cut_of p) old) (map (cut_of p) new)
one_added p x line number old new c e a =
    subst (λ (z : List CutLine). AddsCuts x line number (map (cut_of p) old) z)
    (sym (ap (map (cut_of p)) e ∙ map-append (cut_of p) old (c ∷ []))) a

pub chains_none : (p : GtsParts) (chains : List Chain) → chains ≡ [] → HaveKnownWays p chains
chains_none p chains e = record { each = λ c o w i. absurd (one_none c (subst (λ (z : List Chain). IsOneOf z c) e o)) }

pub chains_more : (p : GtsParts) (old new : List Chain) (c : Chain) → new ≡ old ++ c ∷ [] → AreKnownWays p c.ways.items
    → HaveKnownWays p old → HaveKnownWays p new
chains_more p old new c e k h = record {
  each = λ d o w i. elim (one_split old (c ∷ []) d (subst (λ (z : List Chain). IsOneOf z d) e o)) [
    | inl q ↦ h.each d q w i
    | inr q ↦ elim (one_cases c [] d q) [
      | inl j ↦ k.each w (subst (λ (z : Chain). IsOneOf z.ways.items w) (sym j) i)
      | inr r ↦ absurd (one_none d r)
    ]
  ];
}

pub read_none : (x : Elaborated) (all : List (List ℕ)) (cuts : List CutLine) → cuts ≡ [] → HasRead x all all cuts 1
read_none x all cuts e = record {
  done = [];
  split = refl;
  counts = omega arith;
  given = λ ls more g. subst (λ (z : List CutLine). ListsCutLines x 1 ls (z ++ more)) (sym e) g;
  good = λ k line why s b. stands_none k line s;
}

pub read_more : {x : Elaborated} (all rest left : List (List ℕ)) (line : List ℕ) (cuts more : List CutLine) (number : ℕ)
    → left ≡ line ∷ rest
    → HasRead x all left cuts number → AddsCuts x line number cuts more → HasRead x all rest more (number + 1)
read_more {x = x} all rest left line cuts next number e r a = record {
  done = r.done ++ line ∷ [];
  split = r.split ∙ ap (λ z. r.done ++ z) e ∙ sym (append_assoc r.done (line ∷ []) rest);
  counts = omega (arith, r.counts, length-append r.done (line ∷ []));
  given = λ ls more g.
      subst (λ (z : List (List ℕ)). ListsCutLines x 1 z (next ++ more)) (sym (append_assoc r.done (line ∷ []) ls))
      (subst (λ (z : List CutLine). ListsCutLines x 1 (r.done ++ (line ∷ ls)) z)
      (sym (ap (λ z. z ++ more) a.is ∙ append_assoc cuts a.added more))
      (r.given (line ∷ ls) (a.added ++ more) (a.gives ls more g)));
  good = λ k other why s b. elim (stands_split r.done (line ∷ []) k other s) [
    | inl q ↦ r.good k other why q b
    | inr q ↦ here q.0 other why q.2 b
  ];
}
  where
    here : (j : ℕ) (other : List ℕ) (why : Why) → Stands (line ∷ []) j other → IsBadCut x why other → ⊥
    here zero other why s b = let same : line ≡ other = cc in a.good why (subst (λ (z : List ℕ). IsBadCut x why z) (sym same) b)
    here (suc j) other why s b = stands_none j other s

pub read_end : {x : Elaborated} (text : List ℕ) (left : List (List ℕ)) (cuts : List CutLine) (number : ℕ) → left ≡ []
    → HasRead x (lines_of text) left cuts number → CutList text x (Ok cuts)
read_end {x = x} text left cuts number e r =
    lists.gives (subst (λ (z : List (List ℕ)). ListsCutLines x 1 z cuts) (sym (r.split ∙ ap (λ z. r.done ++ z) e))
    (subst (λ (z : List CutLine). ListsCutLines x 1 (r.done ++ []) z) (append-nil cuts) (r.given [] [] lists.none)))

first_bad : {x : Elaborated} (text : List ℕ) (rest left : List (List ℕ)) (line : List ℕ) (cuts : List CutLine)
    (number n : ℕ) (why : Why) → left ≡ line ∷ rest
    → HasRead x (lines_of text) left cuts number → n ≡ number → IsBadCut x why line
    → CutList text x (Err (record { number = n; why = why }))
first_bad {x = x} text rest left line cuts number n why e r i h =
    let split = r.split ∙ ap (λ z. r.done ++ z) e in
    subst (λ (k : ℕ). CutList text x (Err (record { number = k; why = why }))) (r.counts ∙ sym i)
    (lists.bad (record {
      line = line;
      stands = subst (λ (z : List (List ℕ)). Stands z (length r.done) line) (sym split) (stands_next r.done line rest);
      bad = h;
      before = λ k other w l s b. elim (stands_split r.done (line ∷ rest) k other
          (subst (λ (z : List (List ℕ)). Stands z k other) split s)) [
            | inl p ↦ r.good k other w p b
            | inr p ↦ absurd (omega (arith, l, p.1))
          ];
    }))

-- a bad line is the first one
pub read_bad : {x : Elaborated} (text : List ℕ) (rest left : List (List ℕ)) (line : List ℕ) (cuts : List CutLine)
    (number : ℕ) (f : ScriptFault) → left ≡ line ∷ rest
    → HasRead x (lines_of text) left cuts number → IsBadCutLine x line number f → IsBadList x text f
read_bad text rest left line cuts number (faults.Line n) e r h =
    first_bad text rest left line cuts number n IsNoCommand e r h.0 h.1
read_bad text rest left line cuts number (faults.Unknown n) e r h =
    first_bad text rest left line cuts number n NamesNoEvent e r h.0 h.1
read_bad text rest left line cuts number (faults.Which n) e r h =
    first_bad text rest left line cuts number n LacksWay e r h.0 h.1
read_bad text rest left line cuts number faults.Memory e r h = tt

-- the fault that was passed on
pub line_passed : {A : Type 0} (x : Elaborated) (line : List ℕ) (number : ℕ) (r : Result A ScriptFault)
    (d e : ScriptFault) → r ≡ Err d → d ≡ e
    → IsBadCutLine x line number e → IfErr r (λ f. IsBadCutLine x line number f)
line_passed {A = A} x line number r d e i j h =
    let P : Result A ScriptFault → Type 0 = λ z. IfErr z (λ f. IsBadCutLine x line number f) in
    let Q : ScriptFault → Type 0 = λ z. IsBadCutLine x line number z in subst P (sym i) (subst Q (sym j) h)

pub list_passed : (x : Elaborated) (p : GtsParts) (text : List ℕ) (r : Result (Vec Chain Global) ScriptFault)
    (d e : ScriptFault) → r ≡ Err d → d ≡ e
    → IsBadList x text e → AnswersCuts x p text r
list_passed x p text r d e i j h =
    let Q : ScriptFault → Type 0 = λ z. IsBadList x text z in
    subst (λ (z : Result (Vec Chain Global) ScriptFault). AnswersCuts x p text z) (sym i) (subst Q (sym j) h)
