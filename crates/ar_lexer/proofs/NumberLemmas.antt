-- Fractions, exponents and tails of numbers at the front of a text.
use Rattle.std.proofs.lemmas.Bool.{or_cases}
use Rattle.std.proofs.Common.{◌≡◌, ◌≢◌, ℕ, zero, suc, ◌+◌, ◌-◌, ◌*◌, ◌<◌, ◌≤◌, ◌⊎◌, inl, inr, Bool, true, false, cond, ◌||◌, List, [], ◌∷◌, ◌++◌, length, take, drop, refl, sym, ap, ◌∙◌, subst, append_assoc, arith}
use Rattle.std.specs.Prelude.{◌==◌, codes}
use Rattle.std.specs.Char.{is_ascii_digit}
use Rattle.std.specs.List.{prefix_len}
use Rattle.std.proofs.lemmas.List.{length-append, length-take-le, length-drop, take_rest, take-append-drop, take-take, drop-take, drop_at}
use Rattle.std.proofs.lemmas.Bool.{eqb-true}
use Rattle.std.proofs.lemmas.List.Sums.{prefix_len-le-length}
use Rattle.ar_base.proofs.Fronts.{HeadFails}
use Rattle.ar_lexer.specs.Spelling.{AllPass, number_after, IsDigits, IsFraction, IsExponent, IsOptionalSign, IsTail, fraction, exponent, both}
use Rattle.ar_lexer.specs.Scans.{IsLongestFront, sign_len, is_exponent_mark}
use Rattle.ar_lexer.proofs.RunLemmas.{run_passes, run_longest, run_exact}

pub cons_head : {X : Type 0} {x y : X} {xs ys : List X} → x ∷ xs ≡ y ∷ ys → x ≡ y
cons_head e = cc

pub cons_tail : {X : Type 0} {x y : X} {xs ys : List X} → x ∷ xs ≡ y ∷ ys → xs ≡ ys
cons_tail e = cc

pub digits_pass : (bs : List ℕ) → IsDigits bs → AllPass is_ascii_digit bs
digits_pass [] h = elim h [ ]
digits_pass (b ∷ bs) h = h

pub digits_from : (bs : List ℕ) → AllPass is_ascii_digit bs → 0 < length bs → IsDigits bs
digits_from [] h l = absurd (omega (arith, l))
digits_from (b ∷ bs) h l = h

pub digits_some : (bs : List ℕ) → IsDigits bs → 0 < length bs
digits_some [] h = elim h [ ]
digits_some (b ∷ bs) h = omega arith

-- the digits at the front, where there are some
pub digits_run : (bs : List ℕ) → prefix_len is_ascii_digit bs ≢ 0 → IsDigits (take (prefix_len is_ascii_digit bs) bs)
digits_run bs some =
    let within = prefix_len-le-length is_ascii_digit bs in
    let len : length (take (prefix_len is_ascii_digit bs) bs) ≡ prefix_len is_ascii_digit bs =
    length-take-le (prefix_len is_ascii_digit bs) bs within in
    digits_from (take (prefix_len is_ascii_digit bs) bs) (run_passes is_ascii_digit bs) (omega (arith, len, some))

-- a front of digits is at most the run
pub digits_longest : (ds rest back : List ℕ) → rest ≡ ds ++ back → IsDigits ds
    → length ds ≤ prefix_len is_ascii_digit rest
digits_longest ds rest back e h = subst (λ s. length ds ≤ prefix_len is_ascii_digit s) (sym e)
    (run_longest is_ascii_digit ds back (digits_pass ds h))

-- Fractions

fraction_split : (b : ℕ) (rest front back : List ℕ) → (b ∷ rest) ≡ front ++ back → (h : IsFraction front)
    → (b ≡ 46) × ((rest ≡ h.0 ++ back) × (length front ≡ 1 + length h.0))
fraction_split b rest front back e h =
    let q : (b ∷ rest) ≡ 46 ∷ (h.0 ++ back) = e ∙ ap (λ (s : List ℕ). s ++ back) h.1 in
    let n : length front ≡ suc (length h.0) = ap length h.1 in
    (cons_head q, (cons_tail q, omega (arith, n)))

pub fraction_made : (b : ℕ) (rest : List ℕ) → b ≡ 46 → prefix_len is_ascii_digit rest ≢ 0
    → IsLongestFront IsFraction (b ∷ rest) (1 + prefix_len is_ascii_digit rest)
fraction_made b rest dot some = record {
  within = let w = prefix_len-le-length is_ascii_digit rest in omega (arith, w);
  is = λ l. (
    take (prefix_len is_ascii_digit rest) rest,
    (let q : 1 + prefix_len is_ascii_digit rest ≡ suc (prefix_len is_ascii_digit rest) = omega arith in
        ap (λ n. take n (b ∷ rest)) q ∙ ap (λ x. x ∷ take (prefix_len is_ascii_digit rest) rest) dot),
    digits_run rest some,
  );
  none_longer = λ front back e h.
      let s = fraction_split b rest front back e h in
      let l : length h.0 ≤ prefix_len is_ascii_digit rest = digits_longest h.0 rest back s.1.0 h.2 in
      let n = s.1.1 in
      omega (arith, l, n);
}

pub fraction_no_dot : (b : ℕ) (rest : List ℕ) → b ≢ 46 → IsLongestFront IsFraction (b ∷ rest) 0
fraction_no_dot b rest dot = record {
  within = omega arith;
  is = λ l. absurd (omega (arith, l));
  none_longer = λ front back e h. absurd (dot (fraction_split b rest front back e h).0);
}

pub fraction_no_digit : (b : ℕ) (rest : List ℕ) → prefix_len is_ascii_digit rest ≡ 0
    → IsLongestFront IsFraction (b ∷ rest) 0
fraction_no_digit b rest none = record {
  within = omega arith;
  is = λ l. absurd (omega (arith, l));
  none_longer = λ front back e h.
      let s = fraction_split b rest front back e h in
      let l : length h.0 ≤ prefix_len is_ascii_digit rest = digits_longest h.0 rest back s.1.0 h.2 in
      let m = digits_some h.0 h.2 in
      absurd (omega (arith, l, m, none));
}

-- Exponents

mark_passes : (m : List ℕ) → (m ≡ codes "e") ⊎ (m ≡ codes "E") → (b : ℕ) × ((m ≡ b ∷ []) × (is_exponent_mark b ≡ true))
mark_passes m (inl e) = (101, (e, refl))
mark_passes m (inr e) = (69, (e, refl))

mark_from : (b : ℕ) → is_exponent_mark b ≡ true → ((b ∷ []) ≡ codes "e") ⊎ ((b ∷ []) ≡ codes "E")
mark_from b h = elim (or_cases (b == 101) (b == 69) h) as (λ _. ((b ∷ []) ≡ codes "e") ⊎ ((b ∷ []) ≡ codes "E"))
    [ inl e ↦ inl (ap (λ (n : ℕ). n ∷ []) (eqb-true b 101 e)) | inr e ↦ inr (ap (λ (n : ℕ). n ∷ []) (eqb-true b 69 e)) ]

digit_no_sign : (b : ℕ) → is_ascii_digit b ≡ true → ((b == 43) || (b == 45)) ≡ false
digit_no_sign b d = grind arith

no_sign_len : (ds back : List ℕ) → IsDigits ds → sign_len (ds ++ back) ≡ 0
no_sign_len [] back h = elim h [ ]
no_sign_len (d ∷ ds) back h = ap (λ r. cond r 1 0) (digit_no_sign d h.0)

-- an optional sign before digits is as long as what is looked at
sign_is : (sign ds back : List ℕ) → IsOptionalSign sign → IsDigits ds → (sign_len (sign ++ (ds ++ back)) ≡ length sign)
sign_is sign ds back (inl e) h = ap (λ (s : List ℕ). sign_len (s ++ (ds ++ back))) e ∙ no_sign_len ds back h
    ∙ sym (ap length e)
sign_is sign ds back (inr (inl e)) h = ap (λ (s : List ℕ). sign_len (s ++ (ds ++ back))) e ∙ sym (ap length e)
sign_is sign ds back (inr (inr e)) h = ap (λ (s : List ℕ). sign_len (s ++ (ds ++ back))) e ∙ sym (ap length e)

sign_taken : (rest : List ℕ) → IsOptionalSign (take (sign_len rest) rest)
sign_taken [] = inl refl
sign_taken (b ∷ rest) = sign_by b rest ((b == 43) || (b == 45)) refl
  where
    sign_by : (b : ℕ) (rest : List ℕ) (r : Bool) → ((b == 43) || (b == 45)) ≡ r
        → IsOptionalSign (take (cond r 1 0) (b ∷ rest))
    sign_by b rest true e = inr (elim (or_cases (b == 43) (b == 45) e) as
        (λ _. ((b ∷ []) ≡ codes "+") ⊎ ((b ∷ []) ≡ codes "-")) [
          | inl e ↦ inl (ap (λ (n : ℕ). n ∷ []) (eqb-true b 43 e))
          | inr e ↦ inr (ap (λ (n : ℕ). n ∷ []) (eqb-true b 45 e))
        ])
    sign_by b rest false e = inl refl

exponent_split : (b : ℕ) (rest front back : List ℕ) → (b ∷ rest) ≡ front ++ back → (h : IsExponent front)
    → (is_exponent_mark b ≡ true) × ((rest ≡ h.1 ++ (h.2 ++ back)) × (length front ≡ 1 + (length h.1 + length h.2)))
exponent_split b rest front back e h =
    let m = mark_passes h.0 h.4 in
    let f : front ≡ m.0 ∷ (h.1 ++ h.2) = h.3 ∙ ap (λ (s : List ℕ). s ++ (h.1 ++ h.2)) m.1.0 in
    let q : (b ∷ rest) ≡ m.0 ∷ (h.1 ++ h.2 ++ back) = e ∙ ap (λ (s : List ℕ). s ++ back) f in
    let n : length front ≡ suc (length (h.1 ++ h.2)) = ap length f in
    let k : length (h.1 ++ h.2) ≡ length h.1 + length h.2 = length-append h.1 h.2 in
    (ap is_exponent_mark (cons_head q) ∙ m.1.1, (cons_tail q ∙ append_assoc h.1 h.2 back, omega (arith, n, k)))

pub exponent_no_mark : (b : ℕ) (rest : List ℕ) → is_exponent_mark b ≡ false → IsLongestFront IsExponent (b ∷ rest) 0
exponent_no_mark b rest none = record {
  within = omega arith;
  is = λ l. absurd (omega (arith, l));
  none_longer = λ front back e h. let q : true ≡ false = sym (exponent_split b rest front back e h).0 ∙ none in absurd (cc);
}

-- the digits behind the mark and the sign
exponent_digits : (b : ℕ) (rest front back : List ℕ) → (b ∷ rest) ≡ front ++ back → (h : IsExponent front)
    → (length h.1 ≡ sign_len rest) × (length h.2 ≤ prefix_len is_ascii_digit (drop (sign_len rest) rest))
exponent_digits b rest front back e h =
    let s = exponent_split b rest front back e h in
    let n : sign_len rest ≡ length h.1 = ap sign_len s.1.0 ∙ sign_is h.1 h.2 back h.5 h.6 in
    let d : drop (sign_len rest) rest ≡ h.2 ++ back =
    ap (λ (r : List ℕ). drop (sign_len rest) r) s.1.0 ∙ drop_at h.1 (h.2 ++ back) (sign_len rest) (sym n) in
    (sym n, digits_longest h.2 (drop (sign_len rest) rest) back d h.6)

pub exponent_no_digit : (b : ℕ) (rest : List ℕ) → prefix_len is_ascii_digit (drop (sign_len rest) rest) ≡ 0
    → IsLongestFront IsExponent (b ∷ rest) 0
exponent_no_digit b rest none = record {
  within = omega arith;
  is = λ l. absurd (omega (arith, l));
  none_longer = λ front back e h.
      let l = (exponent_digits b rest front back e h).1 in
      let m = digits_some h.2 h.6 in
      absurd (omega (arith, l, m, none));
}

-- as many bytes as two numbers say
pub take_sum : {X : Type 0} (m n : ℕ) (xs : List X) → take (m + n) xs ≡ take m xs ++ take n (drop m xs)
take_sum m n xs =
    sym (take-append-drop m (take (m + n) xs))
    ∙ ap (λ s. s ++ drop m (take (m + n) xs)) (take-take m (m + n) xs (omega arith))
    ∙ ap (λ s. take m xs ++ s) (drop-take m n xs)

pub exponent_made : (b : ℕ) (rest : List ℕ) → is_exponent_mark b ≡ true → sign_len rest ≤ length rest
    → prefix_len is_ascii_digit (drop (sign_len rest) rest) ≢ 0
    → IsLongestFront IsExponent (b ∷ rest) (1 + sign_len rest + prefix_len is_ascii_digit (drop (sign_len rest) rest))
exponent_made b rest mark within some =
    let s = sign_len rest in
    let d = prefix_len is_ascii_digit (drop (sign_len rest) rest) in
    record {
      within = (let w = prefix_len-le-length is_ascii_digit (drop s rest) in let n : length (drop s rest) ≡ length rest - s = length-drop s rest in omega (arith, w, n, within));
      is = λ l. (
        b ∷ [],
        take s rest,
        take d (drop s rest),
        (let q : 1 + s + d ≡ suc (s + d) = omega arith in
            ap (λ n. take n (b ∷ rest)) q ∙ ap (λ (t : List ℕ). b ∷ t) (take_sum s d rest)),
        mark_from b mark,
        sign_taken rest,
        digits_run (drop s rest) some,
      );
      none_longer = λ front back e h.
          let x = exponent_split b rest front back e h in
          let y = exponent_digits b rest front back e h in
          let a = y.0 in let c = y.1 in let n = x.1.1 in
          omega (arith, a, c, n);
    }

-- Fractions with exponents

exponent_head : (b : ℕ) → is_exponent_mark b ≡ true → is_ascii_digit b ≡ false
exponent_head b h = elim (or_cases (b == 101) (b == 69) h) as (λ _. is_ascii_digit b ≡ false)
    [ inl e ↦ ap is_ascii_digit (eqb-true b 101 e) | inr e ↦ ap is_ascii_digit (eqb-true b 69 e) ]

pub exponent_fails : (text back : List ℕ) → IsExponent text → HeadFails is_ascii_digit (text ++ back)
exponent_fails text back h =
    let m = mark_passes h.0 h.4 in
    let f : text ++ back ≡ m.0 ∷ (h.1 ++ h.2 ++ back) =
    ap (λ (s : List ℕ). s ++ back) (h.3 ∙ ap (λ (s : List ℕ). s ++ (h.1 ++ h.2)) m.1.0) in
    subst (HeadFails is_ascii_digit) (sym f) (exponent_head m.0 m.1.1)

pub tail_fails : (text back : List ℕ) → IsTail text → HeadFails is_ascii_digit (text ++ back)
tail_fails text back (fraction h) = subst (HeadFails is_ascii_digit) (sym (ap (λ (s : List ℕ). s ++ back) h.1)) refl
tail_fails text back (exponent h) = exponent_fails text back h
tail_fails text back (both f e q hf he) =
    subst (HeadFails is_ascii_digit) (sym (ap (λ (s : List ℕ). s ++ back) (q ∙ ap (λ (s : List ℕ). s ++ e) hf.1))) refl

-- no fraction stands where an exponent does
no_fraction : (bytes front back : List ℕ) (f : ℕ) → bytes ≡ front ++ back → IsExponent front
    → (0 < f → IsFraction (take f bytes)) → f ≡ 0
no_fraction bytes front back zero e h is = refl
no_fraction bytes front back (suc f) e h is =
    let m = mark_passes h.0 h.4 in
    let x = is (omega arith) in
    let a : bytes ≡ m.0 ∷ (h.1 ++ h.2 ++ back) =
    e ∙ ap (λ (s : List ℕ). s ++ back) (h.3 ∙ ap (λ (s : List ℕ). s ++ (h.1 ++ h.2)) m.1.0) in
    let b : m.0 ∷ take f (h.1 ++ h.2 ++ back) ≡ 46 ∷ x.0 = sym (ap (take (suc f)) a) ∙ x.1 in
    let c : true ≡ false = sym m.1.1 ∙ ap is_exponent_mark (cons_head b) in
    absurd (cc)

-- the fraction at the front, before an exponent, is the longest
fraction_exact : (bytes fr ex back : List ℕ) (f : ℕ) → bytes ≡ fr ++ (ex ++ back) → IsFraction fr → IsExponent ex
    → IsLongestFront IsFraction bytes f → f ≡ length fr
fraction_exact bytes fr ex back f e hf he longest =
    let a : length fr ≤ f = longest.none_longer fr (ex ++ back) e hf in
    let n : length fr ≡ suc (length hf.0) = ap length hf.1 in
    let x = longest.is (omega (arith, a, n)) in
    let b : bytes ≡ 46 ∷ (x.0 ++ drop f bytes) =
    sym (take-append-drop f bytes) ∙ ap (λ (s : List ℕ). s ++ drop f bytes) x.1 in
    let c : bytes ≡ 46 ∷ (hf.0 ++ (ex ++ back)) = e ∙ ap (λ (s : List ℕ). s ++ (ex ++ back)) hf.1 in
    let d : hf.0 ++ (ex ++ back) ≡ x.0 ++ drop f bytes = cons_tail (sym c ∙ b) in
    let r : length x.0 ≤ prefix_len is_ascii_digit (hf.0 ++ (ex ++ back)) =
    digits_longest x.0 (hf.0 ++ (ex ++ back)) (drop f bytes) d x.2 in
    let s : prefix_len is_ascii_digit (hf.0 ++ (ex ++ back)) ≡ length hf.0 =
    run_exact is_ascii_digit hf.0 (ex ++ back) (digits_pass hf.0 hf.2) (exponent_fails ex back he) in
    let t : length (take f bytes) ≡ f = length-take-le f bytes longest.within in
    let u : length (take f bytes) ≡ suc (length x.0) = ap length x.1 in
    omega (arith, a, n, r, s, t, u)

tail_is : (bytes : List ℕ) (f e : ℕ) → (0 < f → IsFraction (take f bytes))
    → (0 < e → IsExponent (take e (drop f bytes))) → 0 < f + e → IsTail (take (f + e) bytes)
tail_is bytes zero e hf he l =
    let q : 0 + e ≡ e = omega arith in
    subst (λ n. IsTail (take n bytes)) (sym q) (exponent (he (omega (arith, l))))
tail_is bytes (suc f) zero hf he l =
    let q : suc f + 0 ≡ suc f = omega arith in
    subst (λ n. IsTail (take n bytes)) (sym q) (fraction (hf (omega arith)))
tail_is bytes (suc f) (suc e) hf he l =
    both (take (suc f) bytes) (take (suc e) (drop (suc f) bytes)) (take_sum (suc f) (suc e) bytes) (hf (omega arith))
    (he (omega arith))

tail_longest : (bytes : List ℕ) (f e : ℕ) → IsLongestFront IsFraction bytes f
    → IsLongestFront IsExponent (drop f bytes) e → (front back : List ℕ) → bytes ≡ front ++ back → IsTail front
    → length front ≤ f + e
tail_longest bytes f e hf he front back q (fraction h) = let l = hf.none_longer front back q h in omega (arith, l)
tail_longest bytes f e hf he front back q (exponent h) =
    let z : f ≡ 0 = no_fraction bytes front back f q h hf.is in
    let d : drop f bytes ≡ front ++ back = ap (λ n. drop n bytes) z ∙ q in
    let l = he.none_longer front back d h in
    omega (arith, l)
tail_longest bytes f e hf he front back q (both fr ex p hfr hex) =
    let a : bytes ≡ fr ++ (ex ++ back) = q ∙ ap (λ (s : List ℕ). s ++ back) p ∙ append_assoc fr ex back in
    let z : f ≡ length fr = fraction_exact bytes fr ex back f a hfr hex hf in
    let d : drop f bytes ≡ ex ++ back = ap (drop f) a ∙ drop_at fr (ex ++ back) f (sym z) in
    let l = he.none_longer ex back d hex in
    let n : length front ≡ length fr + length ex = ap length p ∙ length-append fr ex in
    omega (arith, l, n, z)

pub tail_made : (bytes : List ℕ) (f e : ℕ) → IsLongestFront IsFraction bytes f
    → IsLongestFront IsExponent (drop f bytes) e → IsLongestFront IsTail bytes (f + e)
tail_made bytes f e hf he = record {
  within = (let a = hf.within in let b = he.within in let n : length (drop f bytes) ≡ length bytes - f = length-drop f bytes in omega (arith, a, b, n));
  is = tail_is bytes f e hf.is he.is;
  none_longer = tail_longest bytes f e hf he;
}

-- The value of digits

pub number_grows : (n : ℕ) (bs : List ℕ) → n ≤ number_after n bs
number_grows n [] = omega arith
number_grows n (b ∷ bs) = let l : 10 * n + (b - 48) ≤ number_after (10 * n + (b - 48)) bs = number_grows (10 * n + (b - 48)) bs in omega (arith, l)

-- The same where a text and lengths are known by equations

pub fraction_at : (bytes rest : List ℕ) (b d : ℕ) → bytes ≡ b ∷ rest → b ≡ 46 → d ≡ prefix_len is_ascii_digit rest
    → d ≢ 0 → IsLongestFront IsFraction bytes (1 + d)
fraction_at bytes rest b d e dot n some =
    subst (λ (k : ℕ). IsLongestFront IsFraction bytes (1 + k)) (sym n)
    (subst (λ (s : List ℕ). IsLongestFront IsFraction s (1 + prefix_len is_ascii_digit rest)) (sym e)
    (fraction_made b rest dot (λ z. some (n ∙ z))))

pub exponent_at : (bytes rest : List ℕ) (b s d : ℕ) → bytes ≡ b ∷ rest → true ≡ is_exponent_mark b → s ≡ sign_len rest
    → s ≤ length rest → d ≡ prefix_len is_ascii_digit (take (length rest - s) (drop s rest)) → d ≢ 0
    → IsLongestFront IsExponent bytes (1 + s + d)
exponent_at bytes rest b s d e mark m within n some =
    let q : d ≡ prefix_len is_ascii_digit (drop (sign_len rest) rest) =
    n ∙ ap (prefix_len is_ascii_digit) (take_rest rest s ∙ ap (λ (k : ℕ). drop k rest) m) in
    subst (λ (k : ℕ). IsLongestFront IsExponent bytes (1 + s + k)) (sym q)
    (subst (λ (k : ℕ). IsLongestFront IsExponent bytes (1 + k + prefix_len is_ascii_digit (drop (sign_len rest) rest)))
    (sym m)
    (subst (λ (t : List ℕ). IsLongestFront IsExponent t
    (1 + sign_len rest + prefix_len is_ascii_digit (drop (sign_len rest) rest))) (sym e)
    (exponent_made b rest (sym mark) (subst (λ (k : ℕ). k ≤ length rest) m within) (λ z. some (q ∙ z)))))
