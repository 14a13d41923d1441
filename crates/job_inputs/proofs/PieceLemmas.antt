-- Pieces and words, from the left.
use Rattle.std.proofs.Common.{◌≡◌, ◌+◌, ◌-◌, ◌==◌, ◌<◌, ◌≤◌, ℕ, suc, Bool, true, false, not, List, [], ◌∷◌, ◌++◌, length, take, drop, refl, sym, ◌∙◌, ap, subst, arith, cond}
use Rattle.std.proofs.Common.{leb, drop-cons, get_or}
use Rattle.std.proofs.lemmas.List.{take_all, drop_all, length-take-le, length-drop}
use Rattle.std.proofs.lemmas.Bool.{leb-true, leb-false, not-false, eqb-true}
use Rattle.std.specs.Prelude.{filter}
use Rattle.std.specs.List.{prefix_len}
use Rattle.ar_base.proofs.Fronts.{HeadFails, run_stops}
use Rattle.job_inputs.specs.Lines.{pieces, is_space_or_tab, is_some_word, words_of, without_return}

module _ (cuts : ℕ → Bool) where
  -- how many bytes stand before the first that cuts
  abbrev pub front : List ℕ → ℕ
  front bs = prefix_len (λ b. not (cuts b)) bs

  -- a text without a cut is one piece
  pub one_piece : (bs : List ℕ) → length bs ≤ front bs → pieces cuts bs ≡ bs ∷ []
  one_piece [] h = refl
  one_piece (b ∷ bs) h = go (cuts b) refl h (one_piece bs)
    where
      go : (r : Bool) → cuts b ≡ r → suc (length bs) ≤ cond (not (cuts b)) (1 + front bs) 0
          → (length bs ≤ front bs → pieces cuts bs ≡ bs ∷ []) → pieces cuts (b ∷ bs) ≡ (b ∷ bs) ∷ []
      go true e l more = absurd (let k = subst (λ z. suc (length bs) ≤ cond (not z) (1 + front bs) 0) e l in omega (arith, k))
      go false e l more = let k = subst (λ z. suc (length bs) ≤ cond (not z) (1 + front bs) 0) e l in rw (e, more (omega (arith, k))) refl

  -- else the first piece stands before the first cut
  pub first_piece : (bs : List ℕ) → front bs < length bs
      → pieces cuts bs ≡ take (front bs) bs ∷ pieces cuts (drop (suc (front bs)) bs)
  first_piece [] h = absurd (omega arith)
  first_piece (b ∷ bs) h = go (cuts b) refl h (first_piece bs)
    where
      go : (r : Bool) → cuts b ≡ r → cond (not (cuts b)) (1 + front bs) 0 < suc (length bs)
          → (front bs < length bs → pieces cuts bs ≡ take (front bs) bs ∷ pieces cuts (drop (suc (front bs)) bs))
          → pieces cuts (b ∷ bs) ≡ take (cond (not (cuts b)) (1 + front bs) 0) (b ∷ bs) ∷ pieces cuts
          (drop (suc (cond (not (cuts b)) (1 + front bs) 0)) (b ∷ bs))
      go true e l more = rw e refl
      go false e l more =
          let k = subst (λ z. cond (not z) (1 + front bs) 0 < suc (length bs)) e l in
          let i : 1 + front bs ≡ suc (front bs) = omega arith in
          rw (e, more (omega (arith, k)), i) refl

some_word : (w : List ℕ) → 0 < length w → is_some_word w ≡ true
some_word [] h = absurd (omega arith)
some_word (b ∷ bs) h = refl

word_kept : (w : List ℕ) (ps : List (List ℕ)) → 0 < length w → filter is_some_word (w ∷ ps) ≡ w ∷ filter is_some_word ps
word_kept w ps h = rw (some_word w h) refl

blank_first : (b : ℕ) (bs : List ℕ) → is_space_or_tab b ≡ true → words_of (b ∷ bs) ≡ words_of bs
blank_first b bs e = rw e refl

-- blanks at the front give no word
pub words_past : (bs : List ℕ) → words_of bs ≡ words_of (drop (prefix_len is_space_or_tab bs) bs)
words_past [] = refl
words_past (b ∷ bs) = go (is_space_or_tab b) refl (words_past bs)
  where
    go : (r : Bool) → is_space_or_tab b ≡ r → words_of bs ≡ words_of (drop (prefix_len is_space_or_tab bs) bs)
        → words_of (b ∷ bs) ≡ words_of (drop (cond r (1 + prefix_len is_space_or_tab bs) 0) (b ∷ bs))
    go true e h =
        let q : 1 + prefix_len is_space_or_tab bs ≡ suc (prefix_len is_space_or_tab bs) = omega arith in
        blank_first b bs e ∙ h ∙ ap (λ n. words_of (drop n (b ∷ bs))) (sym q)
    go false e h = refl

no_word : (bs : List ℕ) → HeadFails is_space_or_tab bs → front is_space_or_tab bs ≡ 0 → words_of bs ≡ []
no_word [] h e = refl
no_word (b ∷ bs) h e = let k = subst (λ z. cond (not z) (1 + front is_space_or_tab bs) 0 ≡ 0) h e in absurd (omega (arith, k))

word_there : (bs : List ℕ) → 0 < front is_space_or_tab bs → front is_space_or_tab bs ≤ length bs
    → words_of bs ≡ take (front is_space_or_tab bs) bs ∷ words_of (drop (front is_space_or_tab bs) bs)
word_there bs h l = go (leb (length bs) (front is_space_or_tab bs)) refl
  where
    blank_next : (rest : List ℕ) → HeadFails (λ b. not (is_space_or_tab b)) rest → (x : ℕ) (more : List ℕ)
        → rest ≡ x ∷ more → is_space_or_tab x ≡ true
    blank_next rest f x more e = not-false (is_space_or_tab x) (subst (HeadFails (λ b. not (is_space_or_tab b))) e f)

    go : (r : Bool) → leb (length bs) (front is_space_or_tab bs) ≡ r
        → words_of bs ≡ take (front is_space_or_tab bs) bs ∷ words_of (drop (front is_space_or_tab bs) bs)
    go true e =
        let k = leb-true (length bs) (front is_space_or_tab bs) e in
        let t : take (front is_space_or_tab bs) bs ≡ bs = take_all (front is_space_or_tab bs) bs k in
        let d : drop (front is_space_or_tab bs) bs ≡ [] = drop_all (front is_space_or_tab bs) bs k in
        ap (filter is_some_word) (one_piece is_space_or_tab bs k) ∙ word_kept bs [] (omega (arith, h, k, l))
        ∙ ap (λ z. z ∷ []) (sym t) ∙ ap (λ z. take (front is_space_or_tab bs) bs ∷ words_of z) (sym d)
    go false e =
        let k = leb-false (length bs) (front is_space_or_tab bs) e in
        let d : drop (front is_space_or_tab bs) bs
        ≡ get_or bs (front is_space_or_tab bs) 0 ∷ drop (suc (front is_space_or_tab bs)) bs =
        drop-cons bs (front is_space_or_tab bs) 0 k in
        let b = blank_next (drop (front is_space_or_tab bs) bs) (run_stops (λ b. not (is_space_or_tab b)) bs)
        (get_or bs (front is_space_or_tab bs) 0) (drop (suc (front is_space_or_tab bs)) bs) d in
        ap (filter is_some_word) (first_piece is_space_or_tab bs k)
        ∙ word_kept (take (front is_space_or_tab bs) bs)
        (pieces is_space_or_tab (drop (suc (front is_space_or_tab bs)) bs))
        (omega (arith, h, length-take-le (front is_space_or_tab bs) bs l))
        ∙ ap (λ z. take (front is_space_or_tab bs) bs ∷ z)
        (sym (blank_first (get_or bs (front is_space_or_tab bs) 0) (drop (suc (front is_space_or_tab bs)) bs) b)
        ∙ ap words_of (sym d))

-- the bytes from a place on, as the code takes them
pub rest_is : (bs : List ℕ) (n : ℕ) → take (length bs - n) (drop n bs) ≡ drop n bs
rest_is bs n = take_all (length bs - n) (drop n bs) (omega (arith, length-drop n bs))

-- a word of a line, and what stands behind it
pub words_none : (bs word rest : List ℕ) (n m : ℕ) → n ≡ prefix_len is_space_or_tab bs → rest ≡ drop n bs
    → m ≡ front is_space_or_tab rest → m ≤ length rest → word ≡ take m rest → length word ≡ 0 → words_of bs ≡ []
words_none bs word rest n m e f g h i j =
    let p : words_of bs ≡ words_of rest = words_past bs ∙ ap words_of (sym (f ∙ ap (λ z. drop z bs) e)) in
    let q : front is_space_or_tab rest ≡ 0 = sym g ∙ omega (arith, length-take-le m rest h, ap length i, j) in
    let s = subst (HeadFails is_space_or_tab) (sym (f ∙ ap (λ z. drop z bs) e)) (run_stops is_space_or_tab bs) in
    p ∙ no_word rest s q

pub words_some : (bs word rest after : List ℕ) (n m : ℕ) → n ≡ prefix_len is_space_or_tab bs → rest ≡ drop n bs
    → m ≡ front is_space_or_tab rest → m ≤ length rest → word ≡ take m rest → after ≡ drop m rest → 0 < length word
    → words_of bs ≡ word ∷ words_of after
words_some bs word rest after n m e f g h i j k =
    let p : words_of bs ≡ words_of rest = words_past bs ∙ ap words_of (sym (f ∙ ap (λ z. drop z bs) e)) in
    let l : m ≡ length word = sym (ap length i ∙ length-take-le m rest h) in
    let q : 0 < front is_space_or_tab rest = omega (arith, k, l, g) in
    p ∙ word_there rest q (omega (arith, g, h)) ∙ ap (λ z. take z rest ∷ words_of (drop z rest)) (sym g)
    ∙ ap (λ z. z ∷ words_of (drop m rest)) (sym i) ∙ ap (λ z. word ∷ words_of z) (sym j)

-- the carriage return at the end
pub return_dropped : (xs : List ℕ) → without_return (xs ++ 13 ∷ []) ≡ xs
return_dropped [] = refl
return_dropped (b ∷ []) = refl
return_dropped (b ∷ c ∷ xs) = ap (λ z. b ∷ z) (return_dropped (c ∷ xs))

pub no_return : (xs : List ℕ) (b : ℕ) → (b == 13) ≡ false → without_return (xs ++ b ∷ []) ≡ xs ++ b ∷ []
no_return [] b e = rw e refl
no_return (x ∷ []) b e = ap (λ z. x ∷ z) (no_return [] b e)
no_return (x ∷ y ∷ xs) b e = ap (λ z. x ∷ z) (no_return (y ∷ xs) b e)

-- the line before the first line feed, and the lines behind it
pub line_first : (cuts : ℕ → Bool) (bs : List ℕ) (n : ℕ) → n ≡ front cuts bs → n < length bs
    → (pieces cuts bs ≡ take n bs ∷ pieces cuts (take (length bs - (n + 1)) (drop (n + 1) bs)))
    × (length (take (length bs - (n + 1)) (drop (n + 1) bs)) < length bs)
line_first cuts bs n e h =
    let i : n + 1 ≡ suc (front cuts bs) = omega (arith, e) in
    let r : take (length bs - (n + 1)) (drop (n + 1) bs) ≡ drop (n + 1) bs = rest_is bs (n + 1) in (
      first_piece cuts bs (omega (arith, e, h))
          ∙ ap (λ z. take z bs ∷ pieces cuts (drop (suc (front cuts bs)) bs)) (sym e)
          ∙ ap (λ z. take n bs ∷ pieces cuts (drop z bs)) (sym i) ∙ ap (λ z. take n bs ∷ pieces cuts z) (sym r),
      omega (arith, h, ap length r, length-drop (n + 1) bs),
    )

pub no_return_there : (line rest : List ℕ) (b : ℕ) → line ≡ rest ++ b ∷ [] → (b ≡ 13 → ⊥) → line ≡ without_return line
no_return_there line rest b e h = e ∙ sym (no_return rest b (go (b == 13) refl)) ∙ ap without_return (sym e)
  where
    go : (r : Bool) → (b == 13) ≡ r → (b == 13) ≡ false
    go true i = absurd (h (eqb-true b 13 i))
    go false i = i
