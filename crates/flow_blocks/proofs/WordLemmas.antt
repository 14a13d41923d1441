-- Words of a row, and their bits.
use Rattle.std.proofs.Common.{◌≡◌, ◌≢◌, ℕ, zero, suc, ◌*◌, ◌^◌, ◌/◌, ◌%◌, ◌<◌, ◌≤◌, ◌⊎◌, ◌↔◌, inl, inr, List, [], ◌∷◌, length, set, get_or, slice_index, bit_or, sym, ap, ◌∙◌, arith, w64, get_or-set_same, get_or-set_other}
use Rattle.std.specs.Int.{bit_at}
use Rattle.std.proofs.lemmas.Bool.{cases_eq, cases_lt}
use Rattle.std.proofs.lemmas.Nat.Bits.{bit_at_or, bit_at-lt, bit_at_set_same, bit_at_set_other}
use Rattle.std.proofs.lemmas.List.{get_or_past}
use Rattle.lane_rows.specs.Rows.{or_at}
use Rattle.lane_rows.specs.Rows.{IsSet}
use Rattle.flow_blocks.specs.Bits.{room_of}

-- a bit of an or is a bit of one of both
pub bit_or_some : (a b i : ℕ) → bit_at (bit_or a b) i ≡ 1 → (bit_at a i ≡ 1) ⊎ (bit_at b i ≡ 1)
bit_or_some a b i e =
    let both = bit_at_or a b i in
    let low = bit_at-lt a i in
    let low' = bit_at-lt b i in
    elim (cases_eq (bit_at a i) 1) [ inl h ↦ inl h | inr n ↦ inr (omega (arith, e, both, low, low')) ]

pub bit_or_left : (a b i : ℕ) → bit_at a i ≡ 1 → bit_at (bit_or a b) i ≡ 1
bit_or_left a b i e = let both = bit_at_or a b i in let low = bit_at-lt b i in omega arith

pub bit_or_right : (a b i : ℕ) → bit_at b i ≡ 1 → bit_at (bit_or a b) i ≡ 1
bit_or_right a b i e = let both = bit_at_or a b i in let low = bit_at-lt a i in omega arith

-- the bits of an or of rows
module _ (old other new : List ℕ) (long : length old ≡ length other) (long_new : length new ≡ length old)
    (or : (k : ℕ) → k < length old → slice_index new k ≡ or_at old other k) where
  -- past the end too
  pub or_everywhere : (k : ℕ) → slice_index new k ≡ or_at old other k
  or_everywhere k = elim (cases_lt k (length old)) [
    | inl below ↦ or k below
    | inr past ↦ get_or_past new k 0 (omega arith)
        ∙ sym ((λ j. bit_or (get_or_past old k 0 past j) (get_or_past other k 0 (omega arith) j)))
  ]

  pub or_sets : (n : ℕ) → IsSet new n ↔ (IsSet old n ⊎ IsSet other n)
  or_sets n =
      let word = or_everywhere (n / 64) in (
        (λ set. bit_or_some (slice_index old (n / 64)) (slice_index other (n / 64)) (n % 64)
            (ap (λ (w : ℕ). bit_at w (n % 64)) (sym word) ∙ set)),
        (λ side. ap (λ (w : ℕ). bit_at w (n % 64)) word ∙ elim side [
          | inl here ↦ bit_or_left (slice_index old (n / 64)) (slice_index other (n / 64)) (n % 64) here
          | inr there ↦ bit_or_right (slice_index old (n / 64)) (slice_index other (n / 64)) (n % 64) there
        ]),
      )

-- no word gets less, so the room gets no more
pub room_no_more : (old new : List ℕ) → length new ≡ length old → ((k : ℕ) → slice_index old k ≤ slice_index new k)
    → room_of new ≤ room_of old
room_no_more [] [] long more = omega arith
room_no_more [] (y ∷ ys) long more = absurd (omega arith)
room_no_more (x ∷ xs) [] long more = absurd (omega arith)
room_no_more (x ∷ xs) (y ∷ ys) long more =
    let on = room_no_more xs ys (omega arith) (λ k. more (suc k)) in
    let here : x ≤ y = more 0 in
    omega arith

-- where a word gets more, the room gets less
pub room_less : (old new : List ℕ) (k : ℕ) → length new ≡ length old → ((j : ℕ) → slice_index old j ≤ slice_index new j)
    → ((j : ℕ) → slice_index old j < 2 ^ 64)
    → k < length old → slice_index new k ≢ slice_index old k → room_of new < room_of old
room_less [] ys k long more fits lt differs = absurd (omega arith)
room_less (x ∷ xs) [] k long more fits lt differs = absurd (omega arith)
room_less (x ∷ xs) (y ∷ ys) zero long more fits lt differs =
    let on = room_no_more xs ys (omega arith) (λ k. more (suc k)) in
    let here : x ≤ y = more 0 in
    let fit : x < 2 ^ 64 = fits 0 in
    omega arith
room_less (x ∷ xs) (y ∷ ys) (suc k) long more fits lt differs =
    let on = room_less xs ys k (omega arith) (λ j. more (suc j)) (λ j. fits (suc j)) (omega arith) differs in
    let here : x ≤ y = more 0 in
    omega arith
