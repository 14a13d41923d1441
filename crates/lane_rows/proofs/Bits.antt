-- Words that are covered, bit by bit.
use Rattle.std.proofs.Common.{◌≡◌, ◌≢◌, ℕ, ◌<◌, inl, inr, max, IsTrue, Bool, true, false, List, length, slice_index, refl, sym, ap, ◌∙◌, arith, true≢false}
use Rattle.std.specs.Int.{bit_at}
use Rattle.std.proofs.lemmas.Nat.Bits.{bit_at_or, bit_at-lt, bit_at-zero, same_from_bits}
use Rattle.std.proofs.lemmas.Bool.{cases_lt}
use Rattle.std.proofs.lemmas.List.{get_or_past}
use Rattle.lane_rows.specs.Rows.{or_at, CoversBits, CoversBetween}

module _ (big small : List ℕ) (same_length : length big ≡ length small) where
  -- where the or with `small` changes no word, each bit is there
  pub covers_all : (covered : CoversBetween big small 0 (length big) true) → CoversBits big small
  covers_all covered k i set = elim (cases_lt k (length big)) [
    | inl below ↦
        let whole : or_at big small k ≡ slice_index big k = covered.all refl k (omega arith) below in
        let both : bit_at (or_at big small k) i ≡ max (bit_at (slice_index big k) i) (bit_at (slice_index small k) i) =
        bit_at_or (slice_index big k) (slice_index small k) i in
        let here : bit_at (or_at big small k) i ≡ bit_at (slice_index big k) i = ap (λ (n : ℕ). bit_at n i) whole in
        let low : bit_at (slice_index big k) i < 2 = bit_at-lt (slice_index big k) i in
        omega (arith, set, both, here, low)
    | inr above ↦
        let past : slice_index small k ≡ 0 = get_or_past small k 0 (omega arith) in
        let unset : bit_at (slice_index small k) i ≡ 0 = ap (λ (n : ℕ). bit_at n i) past ∙ bit_at-zero i in
        absurd (omega (arith, set, unset))
  ]

  -- where each bit is there, the or changes no word
  pub covers_none : CoversBits big small → (k : ℕ) → or_at big small k ≡ slice_index big k
  covers_none covers k = same_from_bits (or_at big small k) (slice_index big k) (λ i.
      let both : bit_at (or_at big small k) i ≡ max (bit_at (slice_index big k) i) (bit_at (slice_index small k) i) =
      bit_at_or (slice_index big k) (slice_index small k) i in
      let low : bit_at (slice_index small k) i < 2 = bit_at-lt (slice_index small k) i in
      elim (cases_lt (bit_at (slice_index small k) i) 1) [
        | inl below ↦ omega (arith, both)
        | inr one ↦ let set : bit_at (slice_index big k) i ≡ 1 = covers k i (omega arith) in omega (arith, both, set)
      ])

  -- a word that is not covered keeps the row from being covered
  pub not_covered : (k : ℕ) → or_at big small k ≢ slice_index big k → CoversBits big small → ⊥
  not_covered k differs covers = differs (covers_none covers k)

  -- what the words up to a place and those behind it say together
  pub covers_whole : (at : ℕ) (rest : Bool) → CoversBetween big small 0 at true
      → CoversBetween big small at (length big) rest
      → (IsTrue rest → CoversBits big small) × (CoversBits big small → IsTrue rest)
  covers_whole at true first rest = (
    (λ _. covers_all (record {
      all = λ _ k low high. elim (cases_lt k at)
          [ inl below ↦ first.all refl k low below | inr above ↦ rest.all refl k above high ];
      missing = λ e. absurd (true≢false e);
    })),
    λ _. refl,
  )
  covers_whole at false first rest = let one = rest.missing refl in ((λ e. absurd (true≢false (sym e))), λ covers. absurd (not_covered one.0 one.3 covers))
