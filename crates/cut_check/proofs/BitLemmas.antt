-- Bits of rows.
use Rattle.std.proofs.Common.{◌≡◌, ℕ, ◌+◌, ◌*◌, ◌^◌, ◌/◌, ◌%◌, ◌<◌, ◌⊎◌, ◌↔◌, inl, inr, Bool, true, false, IsTrue, List, length, set, get_or, slice_index, bit_or, refl, sym, ap, ◌∙◌, arith, w64, get_or-set_same, get_or-set_other}
use Rattle.std.specs.Int.{bit_at}
use Rattle.std.proofs.lemmas.Bool.{cases_eq, cases_lt}
use Rattle.std.proofs.lemmas.Nat.Bits.{bit_at_above, bit_at_set_same, bit_at_set_other}
use Rattle.ar_meaning.specs.Found.{IsAnswer}
use Rattle.flow_blocks.specs.Bits.{IsSet}
use Rattle.lane_rows.specs.Rows.{CoversBits}

-- one bit of a word
module _ (row : List ℕ) (number : ℕ) (lt : number / 64 < length row) where
  abbrev pub with_bit : ℕ
  with_bit = bit_or (get_or row (number / 64) 0) (1 * 2 ^ (number % 64) % 18446744073709551616)

  same_word : (n : ℕ) → n / 64 ≡ number / 64
      → bit_at (slice_index (set row (number / 64) with_bit) (n / 64)) (n % 64) ≡ bit_at with_bit (n % 64)
  same_word n same = ap (λ (k : ℕ). bit_at (slice_index (set row (number / 64) with_bit) k) (n % 64)) same
      ∙ ap (λ (w : ℕ). bit_at w (n % 64)) (get_or-set_same row (number / 64) with_bit 0 lt)

  one_number : (n : ℕ) → n / 64 ≡ number / 64 → n % 64 ≡ number % 64 → n ≡ number
  one_number n d m = omega arith

  in_word : (n : ℕ) → n / 64 ≡ number / 64 → ((n % 64 ≡ number % 64) ⊎ (n % 64 ≡ number % 64 → ⊥))
      → IsSet (set row (number / 64) with_bit) n ↔ (IsSet row n ⊎ (n ≡ number))
  in_word n same (inl bit) =
      let set_there : bit_at with_bit (number % 64) ≡ 1 =
      bit_at_set_same w64 (get_or row (number / 64) 0) (number % 64) (omega arith) in
      ((λ _. inr (one_number n same bit)), (λ _. same_word n same ∙ ap (λ (i : ℕ). bit_at with_bit i) bit ∙ set_there))
  in_word n same (inr other) =
      let kept : bit_at with_bit (n % 64) ≡ bit_at (get_or row (number / 64) 0) (n % 64) =
      bit_at_set_other w64 (get_or row (number / 64) 0) (number % 64) (omega arith) (n % 64) other in
      let old : bit_at (get_or row (number / 64) 0) (n % 64) ≡ bit_at (slice_index row (n / 64)) (n % 64) = ap (λ (k : ℕ). bit_at (slice_index row k) (n % 64)) (sym same) in (
        (λ is. inl (sym (same_word n same ∙ kept ∙ old) ∙ is)),
        (λ side. elim side [
          | inl is ↦ same_word n same ∙ kept ∙ old ∙ is
          | inr is ↦ absurd (other (ap (λ (m : ℕ). m % 64) is))
        ]),
      )

  -- a bit that is set in a word of a row
  pub set_sets : (n : ℕ) → IsSet (set row (number / 64) with_bit) n ↔ (IsSet row n ⊎ (n ≡ number))
  set_sets n = elim (cases_eq (n / 64) (number / 64)) [
    | inl same ↦ in_word n same (cases_eq (n % 64) (number % 64))
    | inr other ↦
        let kept : bit_at (slice_index (set row (number / 64) with_bit) (n / 64)) (n % 64)
        ≡ bit_at (slice_index row (n / 64)) (n % 64) =
        ap (λ (w : ℕ). bit_at w (n % 64)) (get_or-set_other row (number / 64) (n / 64) with_bit 0 other) in (
          (λ is. inl (sym kept ∙ is)),
          (λ side. elim side
              [ inl is ↦ kept ∙ is | inr is ↦ absurd (other (ap (λ (m : ℕ). m / 64) is)) ]),
        )
  ]

-- the bit of a word as one of its row
word_bit : (row : List ℕ) (k i n : ℕ) → n / 64 ≡ k → n % 64 ≡ i
    → bit_at (slice_index row (n / 64)) (n % 64) ≡ bit_at (slice_index row k) i
word_bit row k i n d m = ap (λ (j : ℕ). bit_at (slice_index row j) (n % 64)) d
    ∙ ap (λ (j : ℕ). bit_at (slice_index row k) j) m

-- rows cover each other by their bits
pub covers_from : (big small : List ℕ) → ((k : ℕ) → slice_index small k < 2 ^ 64)
    → ((n : ℕ) → IsSet small n → IsSet big n) → CoversBits big small
covers_from big small fits h k i is = elim (cases_lt i 64) [
  | inl low ↦
      let d : (64 * k + i) / 64 ≡ k = omega arith in
      let m : (64 * k + i) % 64 ≡ i = omega arith in
      sym (word_bit big k i (64 * k + i) d m) ∙ h (64 * k + i) (word_bit small k i (64 * k + i) d m ∙ is)
  | inr high ↦ let z = bit_at_above (slice_index small k) 64 i (fits k) high in absurd (omega (arith, z, is))
]

pub within_answer : (big small : List ℕ) (b : Bool) → ((k : ℕ) → slice_index small k < 2 ^ 64)
    → (IsTrue b ↔ CoversBits big small)
    → IsAnswer b ((n : ℕ) → IsSet small n → IsSet big n)
within_answer big small true fits e = λ n is. e.0 refl (n / 64) (n % 64) is
within_answer big small false fits e = λ h. let z : false ≡ true = e.1 (covers_from big small fits h) in cc
