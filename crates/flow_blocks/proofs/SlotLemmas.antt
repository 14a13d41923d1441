-- Slots of rows, and that numbers which depend on each other have one slot.
use Rattle.std.proofs.Common.{◌≡◌, ℕ, suc, ◌+◌, ◌*◌, ◌/◌, ◌%◌, ◌^◌, ◌<◌, inl, inr, List, [], ◌∷◌, ◌++◌, length, set, get_or, slice_index, refl, sym, ap, ◌∙◌, subst, arith}
use Rattle.std.specs.Int.{bit_at}
use Rattle.std.proofs.lemmas.Bool.{cases_eq, cases_lt}
use Rattle.std.proofs.lemmas.List.{length-set}
use Rattle.std.proofs.lemmas.Nat.Bits.{bit_at-lt, bit_at_cat_low, same_from_bits_below}
use Rattle.ar_base.specs.Lists.{IsOneOf}
use Rattle.ar_base.specs.Sets.{Ascends}
use Rattle.ar_base.proofs.Standing.{one_here}
use Rattle.ar_base.proofs.Sets.{ascends_push}
use Rattle.flow_blocks.specs.Blocks.{Depends, Together, same, each_other, IsClass}
use Rattle.flow_blocks.specs.Bits.{row_of, HasBit, AreAllDependences}
use Rattle.flow_blocks.specs.Slots.{mixed, row_sum, slot_of, AreSlots}
use Rattle.flow_blocks.specs.Table.{IsSelection}
use Rattle.flow_blocks.proofs.RowLemmas.{Row, row_at, row_set_same, row_set_other}
use Rattle.flow_blocks.proofs.ClassLemmas.{depends_on}
use Rattle.flow_blocks.proofs.WaitLemmas.{pushed_new, pushed_kept, pushed_split}

-- no number was looked at
pub no_slots : (count : ℕ) (rows slots : List Row) → length slots ≡ count → ((a n : ℕ) → IsOneOf (row_of slots a) n → ⊥)
    → AreSlots count rows 0 slots
no_slots count rows slots long none = record {
  long = long;
  below = λ slot n one. absurd (none slot n one);
  each = λ n lt. absurd (omega (arith, lt));
  ascending = λ slot. record { ascends = λ j k a b lt p q. absurd (none slot a (record { place = j; stands = p })) };
}

-- one number more
pub slots_more : (count : ℕ) (rows : List Row) (number : ℕ) (slots : List Row) (slot : ℕ) (v : Row)
    → AreSlots count rows number slots → slot ≡ slot_of count (row_of rows number)
    → slot < count → v.items ≡ row_of slots slot ++ number ∷ [] → AreSlots count rows (number + 1) (set slots slot v)
slots_more count rows number slots slot v s is lt pushed =
    let within : slot < length slots = omega (arith, lt, s.long) in
    record {
      long = length-set slots slot v ∙ s.long;
      below = λ a n one. elim (pushed_split slots slot number v within pushed a n one) [ inl old ↦ let low = s.below a n old in omega (arith, low) | inr new ↦ omega (arith, new.1) ];
      each = λ n low. elim (cases_eq n number) [
        | inl at_it ↦ subst (λ (k : ℕ). IsOneOf (row_of (set slots slot v) (slot_of count (row_of rows k))) k)
            (sym at_it)
            (subst (λ (k : ℕ). IsOneOf (row_of (set slots slot v) k) number) is
            (pushed_new slots slot number v within pushed))
        | inr other ↦ pushed_kept slots slot number v within pushed (slot_of count (row_of rows n)) n
            (s.each n (omega (arith, low, other)))
      ];
      ascending = λ a. elim (cases_eq a slot) [
        | inl at_it ↦
            let row : row_of (set slots slot v) a ≡ row_of slots slot ++ number ∷ [] =
            ap (row_of (set slots slot v)) at_it ∙ row_set_same slots slot v within ∙ pushed in
            subst Ascends (sym row) (ascends_push (row_of slots slot) number (s.ascending slot) (s.below slot))
        | inr other ↦ subst Ascends (sym (row_set_other slots slot a v other)) (s.ascending a)
      ];
    }

-- the numbers of a slot
pub slot_row : (slots : List Row) (count slot : ℕ) (row : List ℕ) (taken : Row) → slot < count → length slots ≡ count
    → slot ≡ slot_of count row → taken ≡ get_or slots slot taken
    → taken.items ≡ row_of slots (slot_of count row)
slot_row slots count slot row taken lt long is got =
    sym (row_at slots slot taken (omega (arith, lt, long)) got) ∙ ap (row_of slots) is

-- Sums of rows

-- words with the same 64 low bits
same_low : (a b : ℕ) → ((i : ℕ) → i < 64 → bit_at a i ≡ bit_at b i) → a % 2 ^ 64 ≡ b % 2 ^ 64
same_low a b alike = same_from_bits_below 64 (a % 2 ^ 64) (b % 2 ^ 64) (omega arith) (omega arith)
    (λ i lt. sym (low_bit a i lt) ∙ alike i lt ∙ low_bit b i lt)
  where
    low_bit : (n i : ℕ) → i < 64 → bit_at n i ≡ bit_at (n % 2 ^ 64) i
    low_bit n i lt = let e : n ≡ n / 2 ^ 64 * 2 ^ 64 + n % 2 ^ 64 = omega arith in ap (λ (m : ℕ). bit_at m i) e ∙ bit_at_cat_low (n / 2 ^ 64) 64 (n % 2 ^ 64) i lt

-- a sum takes of each word its 64 low bits
sum_alike : (sum : ℕ) (xs ys : List ℕ) → length xs ≡ length ys
    → ((k : ℕ) → slice_index xs k % 2 ^ 64 ≡ slice_index ys k % 2 ^ 64) → row_sum sum xs ≡ row_sum sum ys
sum_alike sum [] [] long alike = refl
sum_alike sum [] (y ∷ ys) long alike = absurd (omega arith)
sum_alike sum (x ∷ xs) [] long alike = absurd (omega arith)
sum_alike sum (x ∷ xs) (y ∷ ys) long alike =
    ap (λ (n : ℕ). row_sum n xs) (on ((sum * 11400714819323198485 % 2 ^ 64 + sum / 2 ^ 32) % 2 ^ 64) (alike 0))
    ∙ sum_alike (mixed sum y) xs ys (omega (arith, long)) (λ k. alike (suc k))
  where
    on : (n : ℕ) → x % 2 ^ 64 ≡ y % 2 ^ 64 → (n + x) % 2 ^ 64 ≡ (n + y) % 2 ^ 64
    on n low = omega (arith, low)

-- Numbers that depend on each other
module _ (count : ℕ) (uses : List (ℕ × ℕ)) (rows : List Row) (all : AreAllDependences count uses rows) (a b : ℕ)
    (low_a : a < count) (low_b : b < count)
    (there : Depends uses a b) (back : Depends uses b a) where
  -- a bit of one is a bit of the other
  same_bit : (k i : ℕ) → i < 64 → bit_at (slice_index (row_of rows a) k) i ≡ bit_at (slice_index (row_of rows b) k) i
  same_bit k i lt =
      let low = bit_at-lt (slice_index (row_of rows a) k) i in
      let low' = bit_at-lt (slice_index (row_of rows b) k) i in
      elim (cases_eq (bit_at (slice_index (row_of rows a) k) i) 1) [
        | inl one ↦ one ∙ sym (at_word b (all.complete b _ low_b (depends_on back (all.sound a _ (to_word a one)))))
        | inr none ↦ elim (cases_eq (bit_at (slice_index (row_of rows b) k) i) 1) [
          | inl one ↦ absurd (none (at_word a
              (all.complete a _ low_a (depends_on there (all.sound b _ (to_word b one))))))
          | inr none' ↦ omega (arith, low, low', none, none')
        ]
      ]
    where
      word : (64 * k + i) / 64 ≡ k
      word = omega (arith, lt)

      bit : (64 * k + i) % 64 ≡ i
      bit = omega (arith, lt)

      at_word : (c : ℕ) → HasBit rows c (64 * k + i) → bit_at (slice_index (row_of rows c) k) i ≡ 1
      at_word c has = subst (λ (m : ℕ). bit_at (slice_index (row_of rows c) k) m ≡ 1) bit
          (subst (λ (m : ℕ). bit_at (slice_index (row_of rows c) m) ((64 * k + i) % 64) ≡ 1) word has)

      to_word : (c : ℕ) → bit_at (slice_index (row_of rows c) k) i ≡ 1 → HasBit rows c (64 * k + i)
      to_word c is = subst (λ (m : ℕ). bit_at (slice_index (row_of rows c) m) ((64 * k + i) % 64) ≡ 1) (sym word)
          (subst (λ (m : ℕ). bit_at (slice_index (row_of rows c) k) m ≡ 1) (sym bit) is)

  -- their rows have one slot
  pub same_slot : slot_of count (row_of rows a) ≡ slot_of count (row_of rows b)
  same_slot =
      ap (λ (n : ℕ). n % count) (sum_alike 0 (row_of rows a) (row_of rows b)
      (all.are_rows.wide a low_a ∙ sym (all.are_rows.wide b low_b))
      (λ k. same_low (slice_index (row_of rows a) k) (slice_index (row_of rows b) k) (same_bit k)))

-- The candidates with both bits are the class
module _ (count : ℕ) (uses : List (ℕ × ℕ)) (rows slots : List Row) (least : ℕ) (all : AreAllDependences count uses rows)
    (sorted : AreSlots count rows count slots) (below : least < count)
    (lone : (n : ℕ) → n < least → Together uses least n → ⊥) where
  abbrev candidates : List ℕ
  candidates = row_of slots (slot_of count (row_of rows least))

  pub class_selected : (members : List ℕ) → HasBit rows least least → IsSelection rows least candidates members
      → IsClass count uses members
  class_selected members own s = record {
    one = least;
    is_member = is_first;
    below = λ n one. elim (s.only n one) [
      | inl is ↦ subst (λ (k : ℕ). k < count) (sym is) below
      | inr more ↦ sorted.below (slot_of count (row_of rows least)) n more.0
    ];
    only = λ n one. elim (s.only n one) [
      | inl is ↦ subst (λ (k : ℕ). Together uses least k) (sym is) same
      | inr more ↦ each_other (all.sound least n more.2) (all.sound n least more.3)
    ];
    all = λ n lt t. there n lt t;
    ascending = s.ascending;
  }
    where
      is_first : IsOneOf members least
      is_first = one_here members 0 least s.first

      there : (n : ℕ) → n < count → Together uses least n → IsOneOf members n
      there n lt same = is_first
      there n lt (each_other f g) = elim (cases_lt n least) [
        | inl less ↦ absurd (lone n less (each_other f g))
        | inr at_least ↦ elim (cases_eq n least) [
          | inl is ↦ subst (λ (k : ℕ). IsOneOf members k) (sym is) is_first
          | inr other ↦ s.all n
              (subst (λ (slot : ℕ). IsOneOf (row_of slots slot) n) (same_slot count uses rows all n least lt below g f)
              (sorted.each n lt))
              (omega (arith, at_least, other)) (all.complete least n below f) (all.complete n least lt g)
        ]
      ]
