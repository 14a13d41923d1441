-- Rows in a list of rows.
use Rattle.std.proofs.Common.{◌≡◌, ◌≢◌, ℕ, zero, suc, ◌+◌, ◌<◌, ◌≤◌, ◌↔◌, ◌⊎◌, List, [], ◌∷◌, ◌++◌, Vec, Global, length, drop, set, get_or, replicate, slice_index, ◌/◌, ◌%◌, refl, sym, ap, inl, inr, ◌∙◌, subst, arith}
use Rattle.std.proofs.lemmas.Bool.{cases_eq}
use Rattle.std.proofs.lemmas.List.{length-set, take_at}
use Rattle.std.specs.Vec.{with_items}
use Rattle.std.specs.Int.{bit_at}
use Rattle.std.proofs.lemmas.Nat.Bits.{bit_at-zero}
use Rattle.lane_rows.specs.Rows.{IsSet, words_for}
use Rattle.flow_blocks.specs.Bits.{HasBit, row_of, AreRows, room_of, room_left}

abbrev pub Row : Type 0
Row = Vec ℕ Global

pub row_at : (rows : List Row) (a : ℕ) (r : Row) → a < length rows → r ≡ get_or rows a r → row_of rows a ≡ r.items
row_at [] a r lt is = absurd (omega arith)
row_at (x ∷ rows) zero r lt is = ap (λ (v : Row). v.items) (sym is)
row_at (x ∷ rows) (suc a) r lt is = row_at rows a r (omega arith) is

pub row_got : (rows : List Row) (a : ℕ) (d : Row) → a < length rows → (get_or rows a d).items ≡ row_of rows a
row_got [] a d lt = absurd (omega arith)
row_got (x ∷ rows) zero d lt = refl
row_got (x ∷ rows) (suc a) d lt = row_got rows a d (omega arith)

-- the row behind an index, and behind another index after a row was put
pub row_taken : (count : ℕ) (rows : List Row) (a : ℕ) (d r : Row) → AreRows count rows → a < count → r ≡ get_or rows a d
    → r.items ≡ row_of rows a
row_taken count rows a d r are lt is = ap (λ (v : Row). v.items) is ∙ row_got rows a d (omega (arith, are.long))

pub row_set_same : (rows : List Row) (a : ℕ) (v : Row) → a < length rows → row_of (set rows a v) a ≡ v.items
row_set_same [] a v lt = absurd (omega arith)
row_set_same (x ∷ rows) zero v lt = refl
row_set_same (x ∷ rows) (suc a) v lt = row_set_same rows a v (omega arith)

pub row_set_other : (rows : List Row) (a b : ℕ) (v : Row) → b ≢ a → row_of (set rows a v) b ≡ row_of rows b
row_set_other [] a b v ne = refl
row_set_other (x ∷ rows) zero zero v ne = absurd (ne refl)
row_set_other (x ∷ rows) zero (suc b) v ne = refl
row_set_other (x ∷ rows) (suc a) zero v ne = refl
row_set_other (x ∷ rows) (suc a) (suc b) v ne = row_set_other rows a b v (λ (e : b ≡ a). ne (omega arith))

pub row_push : (rows : List Row) (v : Row) (a : ℕ) → a < length rows → row_of (rows ++ v ∷ []) a ≡ row_of rows a
row_push [] v a lt = absurd (omega arith)
row_push (x ∷ rows) v zero lt = refl
row_push (x ∷ rows) v (suc a) lt = row_push rows v a (omega arith)

pub row_last : (rows : List Row) (v : Row) (a : ℕ) → a ≡ length rows → row_of (rows ++ v ∷ []) a ≡ v.items
row_last [] v zero e = refl
row_last [] v (suc a) e = absurd (omega arith)
row_last (x ∷ rows) v zero e = absurd (omega arith)
row_last (x ∷ rows) v (suc a) e = row_last rows v a (omega arith)

pub row_past : (rows : List Row) (a : ℕ) → length rows ≤ a → row_of rows a ≡ []
row_past [] a le = refl
row_past (x ∷ rows) zero le = absurd (omega arith)
row_past (x ∷ rows) (suc a) le = row_past rows a (omega arith)

pub rows_set : (count : ℕ) (rows : List Row) (a : ℕ) (v : Row) → AreRows count rows → a < count
    → length v.items ≡ words_for count → AreRows count (set rows a v)
rows_set count rows a v are lt wide = record {
  long = length-set rows a v ∙ are.long;
  wide = λ b below. elim (cases_eq b a) [
    | inl same ↦ ap length (ap (λ (n : ℕ). row_of (set rows a v) n) same
        ∙ row_set_same rows a v (omega (arith, are.long))) ∙ wide
    | inr other ↦ ap length (row_set_other rows a b v other) ∙ are.wide b below
  ];
}

-- the room that is left after a row is replaced
pub room_set : (rows : List Row) (a : ℕ) (v : Row) → a < length rows
    → room_left (set rows a v) + room_of (row_of rows a) ≡ room_left rows + room_of v.items
room_set [] a v lt = absurd (omega arith)
room_set (x ∷ rows) zero v lt = omega arith
room_set (x ∷ rows) (suc a) v lt = let on = room_set rows a v (omega arith) in omega arith

zeros_at : (words k : ℕ) → slice_index (replicate words 0) k ≡ 0
zeros_at zero k = refl
zeros_at (suc words) zero = refl
zeros_at (suc words) (suc k) = zeros_at words k

-- an empty row has no bit
pub no_bit : (words n : ℕ) (row : List ℕ) → row ≡ replicate words 0 → IsSet row n → ⊥
no_bit words n row is set_bit =
    let word : slice_index row (n / 64) ≡ 0 =
    ap (λ (r : List ℕ). slice_index r (n / 64)) is ∙ zeros_at words (n / 64) in
    let unset : bit_at (slice_index row (n / 64)) (n % 64) ≡ 0 =
    ap (λ (w : ℕ). bit_at w (n % 64)) word ∙ bit_at-zero (n % 64) in
    omega (arith, set_bit, unset)

-- the bits after a row is replaced
pub has_same : (rows : List Row) (a n : ℕ) (v : Row) → a < length rows → HasBit (set rows a v) a n ↔ IsSet v.items n
has_same rows a n v lt = let is = row_set_same rows a v lt in ((λ h. subst (λ (r : List ℕ). IsSet r n) is h), (λ h. subst (λ (r : List ℕ). IsSet r n) (sym is) h))

pub has_other : (rows : List Row) (a b n : ℕ) (v : Row) → b ≢ a → HasBit (set rows a v) b n ↔ HasBit rows b n
has_other rows a b n v ne = let is = row_set_other rows a b v ne in ((λ h. subst (λ (r : List ℕ). IsSet r n) is h), (λ h. subst (λ (r : List ℕ). IsSet r n) (sym is) h))

-- a row whose bits are its old ones and some more, put in the old one's place
pub has_more : (rows : List Row) (a : ℕ) (v : Row) (Also : ℕ → Type 0) → a < length rows
    → ((n : ℕ) → IsSet v.items n ↔ (HasBit rows a n ⊎ Also n))
    → (b n : ℕ) → HasBit (set rows a v) b n ↔ (HasBit rows b n ⊎ ((b ≡ a) × Also n))
has_more rows a v Also lt bits b n = elim (cases_eq b a) [ inl same ↦ at_same same | inr other ↦ at_other other ]
  where
    at_same : b ≡ a → HasBit (set rows a v) b n ↔ (HasBit rows b n ⊎ ((b ≡ a) × Also n))
    at_same same = (
      (λ h. elim ((bits n).0 ((has_same rows a n v lt).0 (subst (λ (k : ℕ). HasBit (set rows a v) k n) same h))) [
        | inl old ↦ inl (subst (λ (k : ℕ). HasBit rows k n) (sym same) old)
        | inr also ↦ inr (same, also)
      ]),
      (λ side. subst (λ (k : ℕ). HasBit (set rows a v) k n) (sym same)
          ((has_same rows a n v lt).1 ((bits n).1 (elim side [
            | inl old ↦ inl (subst (λ (k : ℕ). HasBit rows k n) same old)
            | inr also ↦ inr also.1
          ])))),
    )

    at_other : (b ≡ a → ⊥) → HasBit (set rows a v) b n ↔ (HasBit rows b n ⊎ ((b ≡ a) × Also n))
    at_other other = (
      (λ h. inl ((has_other rows a b n v other).0 h)),
      (λ side. elim side [ inl old ↦ (has_other rows a b n v other).1 old | inr also ↦ absurd (other also.0) ]),
    )

-- a row is put where another one was put before
pub put_again : (rows : List Row) (a b : ℕ) (u v : Row) → a < length rows
    → row_of (set (set rows a u) a v) b ≡ row_of (set rows a v) b
put_again rows a b u v lt = elim (cases_eq b a) [
  | inl same ↦
      let there : a < length (set rows a u) = omega (arith, length-set rows a u) in
      ap (λ (k : ℕ). row_of (set (set rows a u) a v) k) same ∙ row_set_same (set rows a u) a v there
      ∙ sym (row_set_same rows a v lt) ∙ ap (λ (k : ℕ). row_of (set rows a v) k) (sym same)
  | inr other ↦ row_set_other (set rows a u) a b v other ∙ row_set_other rows a b u other
      ∙ sym (row_set_other rows a b v other)
]

pub room_again : (rows : List Row) (a : ℕ) (u v : Row) → a < length rows
    → room_left (set (set rows a u) a v) + room_of (row_of rows a) ≡ room_left rows + room_of v.items
room_again rows a u v lt =
    let there : a < length (set rows a u) = omega (arith, length-set rows a u) in
    let first = room_set rows a u lt in
    let second = room_set (set rows a u) a v there in
    let now : room_of (row_of (set rows a u) a) ≡ room_of u.items = ap room_of (row_set_same rows a u lt) in
    omega (arith, first, second, now)

-- a row that is written over whole
pub items_over : (v : Row) (ws : List ℕ) → length ws ≡ v.len → (with_items v ws).items ≡ ws
items_over v ws long = take_at ws (drop (length ws) v.items) v.len long

-- a row put where another one was put before, by rows and by bits
pub rows_again : (count : ℕ) (rows : List Row) (a : ℕ) (u v : Row) → AreRows count rows → a < count
    → length v.items ≡ words_for count → AreRows count (set (set rows a u) a v)
rows_again count rows a u v are lt wide =
    let simple = rows_set count rows a v are lt wide in
    record {
      long = length-set (set rows a u) a v ∙ length-set rows a u ∙ are.long;
      wide = λ b below. ap length (put_again rows a b u v (omega (arith, are.long))) ∙ simple.wide b below;
    }

pub more_again : (rows : List Row) (a : ℕ) (u v : Row) (Also : ℕ → Type 0) → a < length rows
    → ((n : ℕ) → IsSet v.items n ↔ (HasBit rows a n ⊎ Also n))
    → (b n : ℕ) → HasBit (set (set rows a u) a v) b n ↔ (HasBit rows b n ⊎ ((b ≡ a) × Also n))
more_again rows a u v Also lt bits b n =
    subst (λ (r : List ℕ). IsSet r n ↔ (HasBit rows b n ⊎ ((b ≡ a) × Also n))) (sym (put_again rows a b u v lt))
    (has_more rows a v Also lt bits b n)
