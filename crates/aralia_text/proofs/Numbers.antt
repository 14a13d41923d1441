-- A gate's number at the front of a text.
use Rattle.std.proofs.Common.{◌≡◌, ℕ, zero, suc, ◌+◌, ◌*◌, ◌-◌, ◌/◌, ◌%◌, ◌≤◌, ◌<◌, ◌^◌, ◌⊎◌, inl, inr, true≢false, List, [], ◌∷◌, ◌++◌, codes, decimal, length, take, drop, get_or, refl, sym, ap, ◌∙◌, subst, append-nil, arith}
use Rattle.std.specs.Int.{IsInRange}
use Rattle.std.specs.Char.{digit_value}
use Rattle.std.specs.Str.Parse.{digits_value}
use Rattle.std.proofs.lemmas.List.{length-append, length-take-le, length-drop, take-append-drop, take_at, get_or_at, take_more, drop_more}
use Rattle.std.proofs.lemmas.Fmt.{decimal_injective, decimal_nonempty, first_decimal, decimal_digit, decimal_step, decimal_is_IsNumeral}
use Rattle.std.proofs.lemmas.Str.{digit_value_digit}
use Rattle.std.proofs.lemmas.Str.Parse.{digit_at, digits_value-take-le}
use Rattle.std.proofs.lemmas.Int.Digits.{digits_value_more}
use Rattle.aralia_text.specs.Readings.{IsPath}
use Rattle.aralia_text.specs.Texts.{gate_name}
use Rattle.aralia_text.specs.Fronts.{PathStops, BeginAlike, IsRead, AreBegun, none, part, IsStuck, IsStuckIn, IsBelowGate, IsNumberWith, AreDigits}
use Rattle.aralia_text.proofs.Runs.{path_unique, path_byte, number_passes}
use Rattle.aralia_text.proofs.Stuck.{alike_stops, stops_alike, alike_head, Compared, shorter, same, longer, compared, no_prefix, prefixed_stuck, prefixed_read}

-- a gate's number, from 1
abbrev pub number_text : ℕ → List ℕ
number_text g = decimal (g + 1)

zero_or : (n : ℕ) → (n ≡ 0) ⊎ (0 < n)
zero_or zero = inl refl
zero_or (suc n) = inr (omega arith)

module _ (gates : ℕ) (rest : List ℕ) where
  -- so many digits were read
  pub record SoFar (value n : ℕ) : Type 0 where
    pub within : n ≤ length rest
    pub below : value ≤ gates
    pub none : n ≡ 0 → value ≡ 0
    pub some : 0 < n → (0 < value) × (take n rest ≡ decimal value)

  pub none_read : SoFar 0 0
  none_read = record {
    within = omega arith;
    below = omega arith;
    none = λ e. refl;
    some = λ h. absurd (omega (arith, h));
  }

  module _ (value n : ℕ) (far : SoFar value n) where
    pub all_read : ((c : ℕ) (x : List ℕ) (more : ℕ) → drop n rest ≡ c ∷ x → IsNumberWith gates value c more → ⊥)
        → AreDigits gates rest value n
    all_read ends = record { within = far.within; below = far.below; none = far.none; some = far.some; most = ends }

    pub at_end : (n < length rest → ⊥) → (c : ℕ) (x : List ℕ) (more : ℕ) → drop n rest ≡ c ∷ x
        → IsNumberWith gates value c more → ⊥
    at_end out c x more e is =
        let size : length rest - n ≡ length (c ∷ x) = sym (length-drop n rest) ∙ ap length e in
        let some : length (c ∷ x) ≡ length x + 1 = omega arith in
        out (omega (arith, size, some))

    pub at_byte : (byte : ℕ) → n < length rest → byte ≡ get_or rest n 0
        → ((more : ℕ) → IsNumberWith gates value byte more → ⊥)
        → (c : ℕ) (x : List ℕ) (more : ℕ) → drop n rest ≡ c ∷ x → IsNumberWith gates value c more → ⊥
    at_byte byte inside is ends c x more e w =
        let two : ◌≡◌ {A = List ℕ} (get_or rest n 0 ∷ drop (n + 1) rest) (c ∷ x) =
        sym (drop_more rest n 0 inside) ∙ e in
        let head : ◌≡◌ {A = ℕ} (get_or rest n 0) c = cc in
        ends more (subst (λ (z : ℕ). IsNumberWith gates value z more) (sym (is ∙ head)) w)

    pub one_more : (byte more : ℕ) → n < length rest → gates < 2 ^ 32 → byte ≡ get_or rest n 0
        → IsNumberWith gates value byte more → SoFar more (n + 1)
    one_more byte more inside few is w = record {
      within = omega (arith, inside);
      below = w.within;
      none = λ e. absurd (omega (arith, e));
      some = λ h. (
        w.some,
        take_more rest n 0 inside ∙ ap (λ (z : ℕ). take n rest ++ z ∷ []) (sym is ∙ w.is)
            ∙ written (zero_or n),
      );
    }
      where
        written : (n ≡ 0) ⊎ (0 < n) → take n rest ++ (48 + w.digit) ∷ [] ≡ decimal more
        written (inl z) =
            let nothing : value ≡ 0 = far.none z in
            let m = w.more_is in
            let s = w.small in
            let only : more ≡ w.digit = omega (arith, nothing, m) in
            ap (λ (k : ℕ). take k rest ++ (48 + w.digit) ∷ []) z ∙ sym (decimal_digit w.digit s) ∙ ap decimal (sym only)
        written (inr h) =
            let some = (far.some h).0 in
            let m = w.more_is in
            let s = w.small in
            let f = w.within in
            let ten : 10 ≤ more = omega (arith, some, m) in
            let front : more / 10 ≡ value = omega (arith, m, s) in
            let last : more % 10 ≡ w.digit = omega (arith, m, s) in
            ap (λ (z : List ℕ). z ++ (48 + w.digit) ∷ []) ((far.some h).1 ∙ ap decimal (sym front))
            ∙ ap (λ (z : ℕ). decimal (more / 10) ++ (48 + z) ∷ []) (sym last)
            ∙ sym (decimal_step more ten (omega (arith, f, few)))

module _ (gates : ℕ) (few : gates < 2 ^ 32) (rest : List ℕ) (value n : ℕ) (digits : AreDigits gates rest value n) where
  long : length (take n rest) ≡ n
  long = length-take-le n rest digits.within

  value_small : value < 2 ^ 64
  value_small = let b = digits.below in omega (arith, b, few)

  value_is : digits_value 10 (take n rest) ≡ value
  value_is = by (zero_or n)
    where
      by : (n ≡ 0) ⊎ (0 < n) → digits_value 10 (take n rest) ≡ value
      by (inl z) = ap (λ (k : ℕ). digits_value 10 (take k rest)) z ∙ sym (digits.none z)
      by (inr h) = ap (digits_value 10) (digits.some h).1 ∙ (decimal_is_IsNumeral value value_small).1

  front_path : IsPath (take n rest)
  front_path = by (zero_or n)
    where
      by : (n ≡ 0) ⊎ (0 < n) → IsPath (take n rest)
      by (inl z) = subst (λ (k : ℕ). IsPath (take k rest)) (sym z) tt
      by (inr h) = subst IsPath (sym (digits.some h).1) (number_passes value value_small)

  -- a digit more of a number
  larger : (a : ℕ) → a < gates → (d : ℕ) (x : List ℕ) → decimal (a + 1) ≡ take n rest ++ d ∷ x
      → IsNumberWith gates value d (value * 10 + (d - 48))
  larger a h d x e =
      let num = decimal_is_IsNumeral (a + 1) (omega (arith, h, few)) in
      let size : length (decimal (a + 1)) ≡ length (take n rest) + length (d ∷ x) =
      ap length e ∙ length-append (take n rest) (d ∷ x) in
      let one : length (d ∷ x) ≡ length x + 1 = omega arith in
      let l = long in
      let inside : n < length (decimal (a + 1)) = omega (arith, size, one, l) in
      let at : get_or (decimal (a + 1)) n 0 ≡ d =
      ap (λ (z : List ℕ). get_or z n 0) e ∙ get_or_at (take n rest) d x 0 n l in
      let range : IsInRange 48 57 d = subst (IsInRange 48 57) at (digit_at (decimal (a + 1)) n num.0.1 inside) in
      let front : take n (decimal (a + 1)) ≡ take n rest = ap (take n) e ∙ take_at (take n rest) (d ∷ x) n l in
      let next : digits_value 10 (take (n + 1) (decimal (a + 1)))
      ≡ digits_value 10 (take n (decimal (a + 1))) * 10 + digit_value (get_or (decimal (a + 1)) n 0) =
      digits_value_more 10 (decimal (a + 1)) n inside in
      let before : digits_value 10 (take n (decimal (a + 1))) ≡ value = ap (digits_value 10) front ∙ value_is in
      let digit : digit_value (get_or (decimal (a + 1)) n 0) ≡ digit_value d = ap digit_value at in
      let again : digit_value d + 48 ≡ d = digit_value_digit d range in
      let whole : digits_value 10 (decimal (a + 1)) ≡ a + 1 = num.1 in
      let below : digits_value 10 (take (n + 1) (decimal (a + 1))) ≤ digits_value 10 (decimal (a + 1)) =
      digits_value-take-le 10 (decimal (a + 1)) (n + 1) (omega arith) in
      let low = range.0 in
      let high = range.1 in
      record {
        digit = d - 48;
        small = omega (arith, low, high);
        is = omega (arith, low);
        more_is = refl;
        some = some at low (zero_or n);
        within = omega (arith, next, before, digit, again, whole, below, h);
      }
    where
      some : get_or (decimal (a + 1)) n 0 ≡ d → 48 ≤ d → (n ≡ 0) ⊎ (0 < n) → 0 < value * 10 + (d - 48)
      some at low (inl z) =
          let f : 48 < get_or (decimal (a + 1)) 0 0 = first_decimal (a + 1) (omega arith) (omega (arith, h, few)) in
          let first : get_or (decimal (a + 1)) 0 0 ≡ d = ap (λ (k : ℕ). get_or (decimal (a + 1)) k 0) (sym z) ∙ at in
          omega (arith, f, first)
      some at low (inr p) = let v = (digits.some p).0 in omega (arith, v)

  pub number_stuck : (n ≡ 0) ⊎ (PathStops (drop n rest) → ⊥)
      → IsStuck (IsBelowGate gates) number_text PathStops rest (length (drop n rest))
  number_stuck out = record {
    front = take n rest;
    left = drop n rest;
    joined = sym (take-append-drop n rest);
    count = refl;
    begun = begun (zero_or n);
    wrong = λ a back other is stop alike e. by a back other is stop alike
        (compared (take n rest) (decimal (a + 1)) other back e);
  }
    where
      begun : (n ≡ 0) ⊎ (0 < n) → AreBegun (IsBelowGate gates) number_text (take n rest)
      begun (inl z) = none (ap (λ (k : ℕ). take k rest) z)
      begun (inr h) =
          let some = (digits.some h).0 in
          let b = digits.below in
          let again : value - 1 + 1 ≡ value = omega (arith, some) in
          part (value - 1) [] (omega (arith, some, b))
          (ap decimal again ∙ sym (digits.some h).1 ∙ sym (append-nil (take n rest)))

      exact : (a : ℕ) → a < gates → (back other : List ℕ) → PathStops back → BeginAlike (drop n rest) other
          → decimal (a + 1) ≡ take n rest → other ≡ back → (n ≡ 0) ⊎ (PathStops (drop n rest) → ⊥) → ⊥
      exact a is back other stop alike i j (inl z) =
          let some = decimal_nonempty (a + 1) (omega (arith, is, few)) in
          let size : length (decimal (a + 1)) ≡ n = ap length i ∙ long in
          omega (arith, some, size, z)
      exact a is back other stop alike i j (inr on) =
          on (stops_alike (drop n rest) other alike (subst PathStops (sym j) stop))

      by : (a : ℕ) (back other : List ℕ) → a < gates → PathStops back → BeginAlike (drop n rest) other
          → Compared (take n rest) (decimal (a + 1)) other back → ⊥
      by a back other is stop alike (shorter d x i j) =
          let head = alike_head (drop n rest) other d (x ++ back) alike j in
          digits.most d head.0 (value * 10 + (d - 48)) head.1 (larger a is d x i)
      by a back other is stop alike (same i j) = exact a is back other stop alike i j out
      by a back other is stop alike (longer d x i j) =
          true≢false (sym (path_byte (decimal (a + 1)) d x (subst IsPath i front_path)) ∙ subst PathStops j stop)

  module _ (some : 0 < n) (ends : PathStops (drop n rest)) where
    again : value - 1 + 1 ≡ value
    again = let s = (digits.some some).0 in omega (arith, s)

    pub number_read : IsRead (IsBelowGate gates) number_text PathStops rest (value - 1) (drop n rest)
    number_read = record {
      sought = let s = (digits.some some).0 in let b = digits.below in omega (arith, s, b);
      joined = sym (take-append-drop n rest)
          ∙ ap (λ (z : List ℕ). z ++ drop n rest) ((digits.some some).1 ∙ ap decimal (sym again));
      only = λ b back other is stop alike e.
          let s = (digits.some some).0 in
          let f = digits.below in
          let one = path_unique (decimal (value - 1 + 1)) (decimal (b + 1)) other back
          (number_passes (value - 1 + 1) (omega (arith, f, few, s)))
          (number_passes (b + 1) (omega (arith, is, few))) (alike_stops (drop n rest) other alike ends) stop
          e in
          let next : b + 1 ≡ value - 1 + 1 =
          decimal_injective (b + 1) (value - 1 + 1) (omega (arith, is, few)) (omega (arith, f, few, s)) one.0 in
          (omega (arith, next), one.1);
    }

-- `g` and the number

pub no_mark : (gates : ℕ) (rest : List ℕ) (n : ℕ) → 0 < gates → IsStuckIn (codes "g") rest n
    → IsStuck (IsBelowGate gates) gate_name PathStops rest n
no_mark gates rest n some k = no_prefix (IsBelowGate gates) number_text PathStops (codes "g") rest 0 some n k

module _ (gates : ℕ) (rest behind left : List ℕ) (value n : ℕ) (begun : rest ≡ codes "g" ++ behind)
    (few : gates < 2 ^ 32) where
  pub stuck_at : 0 < gates → AreDigits gates behind value n → left ≡ drop n behind → (n ≡ 0) ⊎ (PathStops left → ⊥)
      → IsStuck (IsBelowGate gates) gate_name PathStops rest (length left)
  stuck_at some digits is out =
      subst (λ (z : List ℕ). IsStuck (IsBelowGate gates) gate_name PathStops rest (length z)) (sym is)
      (prefixed_stuck (IsBelowGate gates) number_text PathStops (codes "g") rest behind begun 0 some
      (length (drop n behind)) (number_stuck gates few behind value n digits
      (subst (λ (z : List ℕ). (n ≡ 0) ⊎ (PathStops z → ⊥)) is out)))

  pub read_at : AreDigits gates behind value n → left ≡ drop n behind → 0 < n → PathStops left → (m : ℕ) → m ≡ value - 1
      → IsRead (IsBelowGate gates) gate_name PathStops rest m left
  read_at digits is some ends m new =
      subst (λ (z : List ℕ). IsRead (IsBelowGate gates) gate_name PathStops rest m z) (sym is)
      (subst (λ (z : ℕ). IsRead (IsBelowGate gates) gate_name PathStops rest z (drop n behind)) (sym new)
      (prefixed_read (IsBelowGate gates) number_text PathStops (codes "g") rest behind begun (value - 1) (drop n behind)
      (number_read gates few behind value n digits some (subst PathStops is ends))))
