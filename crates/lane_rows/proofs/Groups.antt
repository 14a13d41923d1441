-- One group of lanes, word by word.
use Rattle.std.proofs.Common.{◌≡◌, ◌≢◌, ℕ, zero, suc, ◌+◌, ◌-◌, ◌^◌, ◌%◌, ◌<◌, ◌≤◌, inl, inr, Bool, true, false, not, nat_eq, List, [], ◌∷◌, length, get_or, bit_or, slice_index, refl, sym, ap, ◌∙◌, subst, arith, true≢false, eqb-true, eq-eqb}
use Rattle.std.proofs.lemmas.Simd.{length-zip2, length-chunk, get_or-chunk, get_or-put_chunk_below, get_or-put_chunk_at, get_or-put_chunk_above, get_or-zip2, mask_l-mod}
use Rattle.std.specs.Simd.Lanes.{zip2, chunk, put_chunk, mask_l}
use Rattle.lane_rows.specs.Rows.{or_at, TellsDifference, IsOrBetween, CoversBetween}

-- the or of a group differs from no word of it, or from one
pub record MatchesMask (xs ys : List ℕ) (at : ℕ) (same : Bool) : Type 0 where
  pub none : same ≡ true → (k : ℕ) → k < 4 → or_at xs ys (at + k) ≡ slice_index xs (at + k)
  pub some : same ≡ false → (k : ℕ) × (k < 4) × (or_at xs ys (at + k) ≢ slice_index xs (at + k))

module _ (xs ys : List ℕ) (at : ℕ) (in_xs : at + 4 ≤ length xs) (in_ys : at + 4 ≤ length ys) where
  -- the or of the group
  abbrev pub group : List ℕ
  group = zip2 bit_or (chunk at 4 xs) (chunk at 4 ys)

  group_long : length group ≡ 4
  group_long = length-zip2 bit_or (chunk at 4 xs) (chunk at 4 ys)
      (length-chunk at 4 xs in_xs ∙ sym (length-chunk at 4 ys in_ys)) ∙ length-chunk at 4 xs in_xs

  group_at : (k : ℕ) → k < 4 → get_or group k 0 ≡ or_at xs ys (at + k)
  group_at k lt =
      let long_x = length-chunk at 4 xs in_xs in
      let long_y = length-chunk at 4 ys in_ys in
      get_or-zip2 bit_or (chunk at 4 xs) (chunk at 4 ys) k 0 0 0 (omega arith) (omega arith)
      ∙ ap (λ (a : ℕ). bit_or a (get_or (chunk at 4 ys) k 0)) (get_or-chunk at 4 xs k 0 lt)
      ∙ ap (λ (b : ℕ). bit_or (get_or xs (at + k) 0) b) (get_or-chunk at 4 ys k 0 lt)

  pub or_of_group : IsOrBetween xs ys (put_chunk at xs group) at (at + 4)
  or_of_group = record {
    inside = λ k low high.
        let same : k ≡ at + (k - at) = omega arith in
        let here : get_or (put_chunk at xs group) (at + (k - at)) 0 ≡ get_or group (k - at) 0 =
        get_or-put_chunk_at at xs group (k - at) 0 (omega (arith, group_long)) (omega (arith, group_long)) in
        ap (λ (n : ℕ). get_or (put_chunk at xs group) n 0) same ∙ here ∙ group_at (k - at) (omega arith)
        ∙ ap (or_at xs ys) (sym same);
    outside = λ k side. elim side [
      | inl below ↦ get_or-put_chunk_below at xs group k 0 below
      | inr above ↦ get_or-put_chunk_above at xs group k 0 (omega (arith, group_long))
    ];
  }

-- where a mask is not 0, one of its truths holds
pub some_true : (ms : List Bool) → mask_l ms ≢ 0 → (k : ℕ) × (k < length ms) × (get_or ms k false ≡ true)
some_true [] n = absurd (n refl)
some_true (true ∷ ms) n = (0, omega arith, refl)
some_true (false ∷ ms) n = let on = some_true ms (λ (z : mask_l ms ≡ 0). n (omega arith)) in (suc on.0, omega (arith, on.1), on.2)

-- where it is 0, none does
pub none_true : (ms : List Bool) → mask_l ms ≡ 0 → (k : ℕ) → get_or ms k false ≡ false
none_true [] z k = refl
none_true (true ∷ ms) z k = absurd (omega arith)
none_true (false ∷ ms) z zero = refl
none_true (false ∷ ms) z (suc k) = none_true ms (omega arith) k

-- two numbers differ
abbrev pub differ : ℕ → ℕ → Bool
differ a b = not (nat_eq a b)

module _ (xs ys : List ℕ) (at : ℕ) (in_xs : at + 4 ≤ length xs) (in_ys : at + 4 ≤ length ys) where
  -- which words of the group the or changes
  abbrev pub changes : List Bool
  changes = zip2 differ (group xs ys at in_xs in_ys) (chunk at 4 xs)

  changes_long : length changes ≡ 4
  changes_long = length-zip2 differ (group xs ys at in_xs in_ys) (chunk at 4 xs)
      (group_long xs ys at in_xs in_ys ∙ sym (length-chunk at 4 xs in_xs)) ∙ group_long xs ys at in_xs in_ys

  changes_at : (k : ℕ) → k < 4 → get_or changes k false ≡ differ (or_at xs ys (at + k)) (slice_index xs (at + k))
  changes_at k lt =
      let long_g = group_long xs ys at in_xs in_ys in
      let long_x = length-chunk at 4 xs in_xs in
      get_or-zip2 differ (group xs ys at in_xs in_ys) (chunk at 4 xs) k 0 0 false (omega arith) (omega arith)
      ∙ ap (λ (a : ℕ). differ a (get_or (chunk at 4 xs) k 0)) (group_at xs ys at in_xs in_ys k lt)
      ∙ ap (λ (b : ℕ). differ (or_at xs ys (at + k)) b) (get_or-chunk at 4 xs k 0 lt)

  -- two numbers that a test calls different are so, and those that it calls same are
  same_numbers : (a b : ℕ) → differ a b ≡ false → a ≡ b
  same_numbers a b e = elim_same (nat_eq a b) refl
    where
      elim_same : (t : Bool) → nat_eq a b ≡ t → a ≡ b
      elim_same true is = eqb-true a b is
      elim_same false is = absurd (true≢false (sym (ap not is) ∙ e))

  other_numbers : (a b : ℕ) → differ a b ≡ true → a ≢ b
  other_numbers a b e = λ same. true≢false (sym e ∙ ap not (eq-eqb a b same))

  -- what the mask of the changed words says
  pub mask_tells : (ms : List Bool) → ms ≡ changes → (b : Bool) → nat_eq (mask_l ms % 2 ^ 64) 0 ≡ b
      → MatchesMask xs ys at b
  mask_tells ms is b e =
      let small : mask_l ms % 2 ^ 64 ≡ mask_l ms = mask_l-mod ms 64 (omega (arith, ap length is, changes_long)) in
      record {
        none = λ t k lt.
            let zero_mask : mask_l ms ≡ 0 = sym small ∙ eqb-true (mask_l ms % 2 ^ 64) 0 (e ∙ t) in
            let no_change : get_or changes k false ≡ false =
            subst (λ (l : List Bool). get_or l k false ≡ false) is (none_true ms zero_mask k) in
            same_numbers (or_at xs ys (at + k)) (slice_index xs (at + k)) (sym (changes_at k lt) ∙ no_change);
        some = λ f.
            let not_zero : mask_l ms ≢ 0 = λ z. true≢false
            (sym (eq-eqb (mask_l ms % 2 ^ 64) 0 (small ∙ z)) ∙ (e ∙ f)) in
            let one = some_true ms not_zero in
            let lt : one.0 < 4 = omega (arith, one.1, ap length is, changes_long) in
            let change : get_or changes one.0 false ≡ true =
            subst (λ (l : List Bool). get_or l one.0 false ≡ true) is one.2 in (
              one.0,
              lt,
              other_numbers (or_at xs ys (at + one.0)) (slice_index xs (at + one.0))
                  (sym (changes_at one.0 lt) ∙ change),
            );
      }

-- a mask as the truths of a group
pub tells_of : (xs ys : List ℕ) (at : ℕ) (same : Bool) → MatchesMask xs ys at same → TellsDifference xs ys at (at + 4) (not same)
tells_of xs ys at true m = record {
  some = λ e. absurd (true≢false (sym e));
  none = λ e k low high.
      let is : at + (k - at) ≡ k = omega arith in
      subst (λ (n : ℕ). or_at xs ys n ≡ slice_index xs n) is (m.none refl (k - at) (omega arith));
}
tells_of xs ys at false m = record {
  some = λ e. let one = m.some refl in (at + one.0, omega arith, omega (arith, one.1), one.2);
  none = λ e. absurd (true≢false e);
}

pub covers_of : (xs ys : List ℕ) (at : ℕ) (same : Bool) → MatchesMask xs ys at same
    → CoversBetween xs ys at (at + 4) same
covers_of xs ys at same m = record {
  all = λ e k low high.
      let is : at + (k - at) ≡ k = omega arith in
      subst (λ (n : ℕ). or_at xs ys n ≡ slice_index xs n) is (m.none e (k - at) (omega arith));
  missing = λ e. let one = m.some e in (at + one.0, omega arith, omega (arith, one.1), one.2);
}
