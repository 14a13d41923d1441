-- Rows of bits, kept as words of 64 bits.
use Rattle.std.specs.Prelude.{◌≡◌, ◌≢◌, ℕ, ◌+◌, ◌/◌, ◌%◌, ◌<◌, ◌≤◌, ◌⊎◌, Bool, true, false, List, bit_or, slice_index}
use Rattle.std.specs.Int.{bit_at}

-- bit n of a row is set
abbrev pub IsSet : List ℕ → ℕ → Type 0
IsSet row n = bit_at (slice_index row (n / 64)) (n % 64) ≡ 1

-- as many words as that many bits take
abbrev pub words_for : ℕ → ℕ
words_for count = (count + 63) / 64

-- word k of the or of two rows
abbrev pub or_at : List ℕ → List ℕ → ℕ → ℕ
or_at xs ys k = bit_or (slice_index xs k) (slice_index ys k)

-- each bit that is set in `small` is set in `big`
abbrev pub CoversBits : List ℕ → List ℕ → Type 0
CoversBits big small = (k i : ℕ) → bit_at (slice_index small k) i ≡ 1 → bit_at (slice_index big k) i ≡ 1

-- of the words from place `from` on and below `to`, the or with `other` differs from some, or from none
pub record TellsDifference (row other : List ℕ) (from to : ℕ) (differs : Bool) : Type 0 where
  pub some : differs ≡ true → (k : ℕ) × (from ≤ k) × (k < to) × (or_at row other k ≢ slice_index row k)
  pub none : differs ≡ false → (k : ℕ) → from ≤ k → k < to → or_at row other k ≡ slice_index row k

-- the words from place `from` on and below `to` are the or of both rows, and the others are the old ones
pub record IsOrBetween (old other new : List ℕ) (from to : ℕ) : Type 0 where
  pub inside : (k : ℕ) → from ≤ k → k < to → slice_index new k ≡ or_at old other k
  pub outside : (k : ℕ) → (k < from) ⊎ (to ≤ k) → slice_index new k ≡ slice_index old k

-- the words from place `from` on and below `to` cover those of `small`, or else one bit of some word is missing
pub record CoversBetween (big small : List ℕ) (from to : ℕ) (covered : Bool) : Type 0 where
  pub all : covered ≡ true → (k : ℕ) → from ≤ k → k < to → or_at big small k ≡ slice_index big k
  pub missing : covered ≡ false → (k : ℕ) × (from ≤ k) × (k < to) × (or_at big small k ≢ slice_index big k)
