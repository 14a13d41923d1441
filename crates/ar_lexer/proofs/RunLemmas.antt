-- Runs of bytes of one class, and the classes.
use Rattle.std.proofs.Common.{◌≡◌, ℕ, suc, ◌+◌, ◌≤◌, Bool, true, false, cond, List, [], ◌∷◌, ◌++◌, length, take, drop, refl, sym, ap, ◌∙◌, subst, arith}
use Rattle.std.specs.Char.{is_ascii_digit}
use Rattle.std.specs.List.{prefix_len}
use Rattle.ar_base.proofs.Fronts.{HeadFails}
use Rattle.ar_lexer.specs.Spelling.{AllPass, is_letter, is_word_byte}
use Rattle.ar_lexer.specs.Tokens.{is_blank}

passes_cons : (test : ℕ → Bool) (b : ℕ) (bs : List ℕ) (r : Bool) → test b ≡ r
    → AllPass test (take (prefix_len test bs) bs) → AllPass test (take (cond r (1 + prefix_len test bs) 0) (b ∷ bs))
passes_cons test b bs true e h =
    let q : 1 + prefix_len test bs ≡ suc (prefix_len test bs) = omega arith in
    subst (λ n. AllPass test (take n (b ∷ bs))) (sym q) (e, h)
passes_cons test b bs false e h = tt

-- the run at the front passes
pub run_passes : (test : ℕ → Bool) (bs : List ℕ) → AllPass test (take (prefix_len test bs) bs)
run_passes test [] = tt
run_passes test (b ∷ bs) = passes_cons test b bs (test b) refl (run_passes test bs)

-- a front that passes is no longer than the run
pub run_longest : (test : ℕ → Bool) (front back : List ℕ) → AllPass test front
    → length front ≤ prefix_len test (front ++ back)
run_longest test [] back h = omega arith
run_longest test (b ∷ front) back h =
    let more : length front ≤ prefix_len test (front ++ back) = run_longest test front back h.1 in
    let e : prefix_len test (b ∷ (front ++ back)) ≡ 1 + prefix_len test (front ++ back) =
    ap (λ r. cond r (1 + prefix_len test (front ++ back)) 0) h.0 in
    rw e (omega (arith, more))

stop_len : (test : ℕ → Bool) (back : List ℕ) → HeadFails test back → prefix_len test back ≡ 0
stop_len test [] h = refl
stop_len test (b ∷ back) h = ap (λ r. cond r (1 + prefix_len test back) 0) h

-- a front that passes, before what does not, is the run
pub run_exact : (test : ℕ → Bool) (front back : List ℕ) → AllPass test front → HeadFails test back
    → prefix_len test (front ++ back) ≡ length front
run_exact test [] back h f = stop_len test back f
run_exact test (b ∷ front) back h f =
    let more : prefix_len test (front ++ back) ≡ length front = run_exact test front back h.1 f in
    ap (λ r. cond r (1 + prefix_len test (front ++ back)) 0) h.0 ∙ omega (arith, more)

pub letter_no_digit : (b : ℕ) → is_letter b ≡ true → is_ascii_digit b ≡ true → ⊥
letter_no_digit b l d = grind arith

pub letter_of_word : (b : ℕ) → is_letter b ≡ true → is_word_byte b ≡ true
letter_of_word b l = grind arith

pub blank_letter : (b : ℕ) → is_blank b ≡ true → is_letter b ≡ false
blank_letter b k = grind arith

pub blank_digit : (b : ℕ) → is_blank b ≡ true → is_ascii_digit b ≡ false
blank_digit b k = grind arith
