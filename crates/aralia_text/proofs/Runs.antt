-- Runs of the bytes of a path, fixed texts and numbers at the front of a text.
use Rattle.std.proofs.Common.{◌≡◌, ℕ, suc, ◌+◌, ◌%◌, ◌<◌, ◌^◌, Bool, true, false, true≢false, cond, List, [], ◌∷◌, ◌++◌, decimal, length, take, drop, refl, sym, ap, ◌∙◌, subst, arith}
use Rattle.std.specs.List.{prefix_len}
use Rattle.std.specs.Str.{bytes_eq}
use Rattle.std.proofs.lemmas.List.{append_cancel_left, take_at, take-append-drop}
use Rattle.std.proofs.lemmas.Slice.Eq.{bytes_eq-Decides}
use Rattle.std.proofs.lemmas.Fmt.{decimal_by_steps}
use Rattle.aralia_text.specs.Readings.{is_path_byte, IsPath}
use Rattle.aralia_text.specs.Fronts.{PathStops}

passes_cons : (b : ℕ) (bs : List ℕ) (r : Bool) → is_path_byte b ≡ r → IsPath (take (prefix_len is_path_byte bs) bs)
    → IsPath (take (cond r (1 + prefix_len is_path_byte bs) 0) (b ∷ bs))
passes_cons b bs true e h =
    let q : 1 + prefix_len is_path_byte bs ≡ suc (prefix_len is_path_byte bs) = omega arith in
    subst (λ n. IsPath (take n (b ∷ bs))) (sym q) (e, h)
passes_cons b bs false e h = tt

-- the run at the front is a path
pub run_passes : (bs : List ℕ) → IsPath (take (prefix_len is_path_byte bs) bs)
run_passes [] = tt
run_passes (b ∷ bs) = passes_cons b bs (is_path_byte b) refl (run_passes bs)

pub stop_len : (back : List ℕ) → PathStops back → prefix_len is_path_byte back ≡ 0
stop_len [] h = refl
stop_len (b ∷ back) h = ap (λ r. cond r (1 + prefix_len is_path_byte back) 0) h

pub len_stops : (back : List ℕ) → prefix_len is_path_byte back ≡ 0 → PathStops back
len_stops [] h = tt
len_stops (b ∷ back) h = by (is_path_byte b) refl
  where
    by : (r : Bool) → is_path_byte b ≡ r → is_path_byte b ≡ false
    by true e =
        let more : 1 + prefix_len is_path_byte back ≡ 0 =
        sym (ap (λ r. cond r (1 + prefix_len is_path_byte back) 0) e) ∙ h in
        absurd (omega (arith, more))
    by false e = e

-- a path before a stop is the run
pub run_exact : (front back : List ℕ) → IsPath front → PathStops back
    → prefix_len is_path_byte (front ++ back) ≡ length front
run_exact [] back h f = stop_len back f
run_exact (b ∷ front) back h f =
    let more : prefix_len is_path_byte (front ++ back) ≡ length front = run_exact front back h.1 f in
    ap (λ r. cond r (1 + prefix_len is_path_byte (front ++ back)) 0) h.0 ∙ omega (arith, more)

-- what is cut off a text behind the run
pub record IsRun (rest run left : List ℕ) : Type 0 where
  pub run_is : run ≡ take (prefix_len is_path_byte rest) rest
  pub joined : rest ≡ run ++ left

pub run_path : (rest run left : List ℕ) → IsRun rest run left → IsPath run
run_path rest run left r = subst IsPath (sym r.run_is) (run_passes rest)

pub run_only : (rest run left path back : List ℕ) → IsRun rest run left → IsPath path → PathStops back → rest ≡ path ++ back
    → (path ≡ run) × (back ≡ left)
run_only rest run left path back r p s e =
    let n : prefix_len is_path_byte rest ≡ length path = ap (prefix_len is_path_byte) e ∙ run_exact path back p s in
    let same : path ≡ run =
    sym (take_at path back (length path) refl) ∙ ap (take (length path)) (sym e) ∙ ap (λ (k : ℕ). take k rest) (sym n)
    ∙ sym r.run_is in
    (same, append_cancel_left path back left (sym e ∙ r.joined ∙ ap (λ (z : List ℕ). z ++ left) (sym same)))

run_stops : (bs : List ℕ) → PathStops (drop (prefix_len is_path_byte bs) bs)
run_stops [] = tt
run_stops (b ∷ bs) = by (is_path_byte b) refl (run_stops bs)
  where
    by : (r : Bool) → is_path_byte b ≡ r → PathStops (drop (prefix_len is_path_byte bs) bs)
        → PathStops (drop (cond r (1 + prefix_len is_path_byte bs) 0) (b ∷ bs))
    by true e h =
        let q : 1 + prefix_len is_path_byte bs ≡ suc (prefix_len is_path_byte bs) = omega arith in
        subst (λ n. PathStops (drop n (b ∷ bs))) (sym q) h
    by false e h = e

-- no path goes on behind the run
pub run_left : (rest run left : List ℕ) → IsRun rest run left → PathStops left
run_left rest run left r =
    let whole : run ++ drop (prefix_len is_path_byte rest) rest ≡ run ++ left =
    ap (λ (z : List ℕ). z ++ drop (prefix_len is_path_byte rest) rest) r.run_is
    ∙ take-append-drop (prefix_len is_path_byte rest) rest ∙ r.joined in
    subst PathStops (append_cancel_left run (drop (prefix_len is_path_byte rest) rest) left whole) (run_stops rest)

-- a text is cut in one way into a path and what stops it
pub path_unique : (one two left back : List ℕ) → IsPath one → IsPath two → PathStops left → PathStops back
    → one ++ left ≡ two ++ back → (two ≡ one) × (back ≡ left)
path_unique one two left back p q s t e =
    run_only (one ++ left) one left two back (record {
      run_is = sym (ap (λ (k : ℕ). take k (one ++ left)) (run_exact one left p s) ∙ take_at one left (length one) refl);
      joined = refl;
    }) q t e

-- each byte of a path
pub path_byte : (front : List ℕ) (b : ℕ) (back : List ℕ) → IsPath (front ++ b ∷ back) → is_path_byte b ≡ true
path_byte [] b back h = h.0
path_byte (c ∷ front) b back h = path_byte front b back h.1

-- fixed texts

pub text_found : (rest text left : List ℕ) → bytes_eq (take (length text) rest) text ≡ true
    → left ≡ drop (length text) rest → rest ≡ text ++ left
text_found rest text left h e =
    let same : take (length text) rest ≡ text = (bytes_eq-Decides (take (length text) rest) text).0 h in
    sym (take-append-drop (length text) rest) ∙ ap (λ (z : List ℕ). z ++ drop (length text) rest) same
    ∙ ap (λ (z : List ℕ). text ++ z) (sym e)

pub text_not_found : (rest text back : List ℕ) → bytes_eq (take (length text) rest) text ≡ false → rest ≡ text ++ back
    → ⊥
text_not_found rest text back h e =
    let same : take (length text) rest ≡ text = ap (take (length text)) e ∙ take_at text back (length text) refl in
    true≢false (sym ((bytes_eq-Decides (take (length text) rest) text).1 same) ∙ h)

-- numbers

digit_passes : (n : ℕ) → n < 10 → is_path_byte (48 + n) ≡ true
digit_passes n h = grind arith

path_more : (front : List ℕ) (b : ℕ) → IsPath front → is_path_byte b ≡ true → IsPath (front ++ b ∷ [])
path_more [] b p h = (h, tt)
path_more (c ∷ front) b p h = (p.0, path_more front b p.1 h)

pub number_passes : (n : ℕ) → n < 2 ^ 64 → IsPath (decimal n)
number_passes n small =
    decimal_by_steps (λ k ds. IsPath ds) (λ k h. (digit_passes k h, tt))
    (λ k ds h more. path_more ds (48 + k % 10) more (digit_passes (k % 10) (omega arith))) n small
