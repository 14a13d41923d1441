-- The values of a domain, and their positions.
use Rattle.std.proofs.Common.{◌≡◌, inl, inr, ℕ, zero, suc, ◌+◌, ◌<◌, ◌≤◌, nat_lt, true, false, ℤ, pos, ◌+ℤ◌, ◌-ℤ◌, ◌≤ℤ◌, nat_abs, [], ◌∷◌, map, Contains, refl, sym, ap, ◌∙◌, subst, arith}
use Rattle.std.specs.List.{range_with_len}
use Rattle.std.proofs.lemmas.Bool.Decides.{nat_tests}
use Rattle.std.proofs.lemmas.Int.{ints}
use Rattle.domains.specs.Values.{is_before}
use Rattle.domains.specs.Domains.{IsDomain, Holds, values_of}
use Rattle.domains.specs.DomainsInside.{IsValueAt}
use Rattle.domains.specs.declared.Value.{Value}
use Rattle.domains.specs.declared.Value.TheVariants.{Truth, Whole, Symbol}
use Rattle.domains.specs.declared.Domain.{Domain}
use Rattle.domains.specs.declared.Domain.TheVariants.{Boolean, Symbols, Range}
use Rattle.domains.proofs.Members.{contains-head, contains-cons, contains-cases, contains-map, contains-from_map, nothing-in}
use Rattle.domains.proofs.Ranks.{rank-one, rank-lt}

-- a value has one position
pub one_position : (d : Domain) (v : Value) (p q : ℕ) → IsValueAt d v p → IsValueAt d v q → p ≡ q
one_position Boolean (Truth b) p q h k = h ∙ sym k
one_position Boolean (Whole n) p q h k = absurd h
one_position Boolean (Symbol s) p q h k = absurd h
one_position (Symbols symbols) (Truth b) p q h k = absurd h
one_position (Symbols symbols) (Whole n) p q h k = absurd h
one_position (Symbols symbols) (Symbol s) p q h k = h ∙ sym k
one_position (Range low high) (Truth b) p q h k = absurd h
one_position (Range low high) (Whole n) p q h k = omega (arith, ints)
one_position (Range low high) (Symbol s) p q h k = absurd h

-- a position has one value
pub one_value : (d : Domain) (v w : Value) (p : ℕ) → IsDomain d → Holds d v → Holds d w → IsValueAt d v p → IsValueAt d w p
    → v ≡ w
one_value Boolean (Truth true) (Truth true) p i a b h k = refl
one_value Boolean (Truth true) (Truth false) p i a b h k = absurd (omega (arith, h, k))
one_value Boolean (Truth false) (Truth true) p i a b h k = absurd (omega (arith, h, k))
one_value Boolean (Truth false) (Truth false) p i a b h k = refl
one_value (Symbols symbols) (Symbol s) (Symbol t) p i a b h k = ap Symbol (rank-one symbols.items s t a b (sym h ∙ k))
one_value (Range low high) (Whole m) (Whole n) p i a b h k = ap Whole (h ∙ sym k)
one_value Boolean (Whole n) w p i a b h k = absurd a
one_value Boolean (Symbol s) w p i a b h k = absurd a
one_value Boolean (Truth c) (Whole n) p i a b h k = absurd b
one_value Boolean (Truth c) (Symbol s) p i a b h k = absurd b
one_value (Symbols symbols) (Truth c) w p i a b h k = absurd a
one_value (Symbols symbols) (Whole n) w p i a b h k = absurd a
one_value (Symbols symbols) (Symbol s) (Truth c) p i a b h k = absurd b
one_value (Symbols symbols) (Symbol s) (Whole n) p i a b h k = absurd b
one_value (Range low high) (Truth c) w p i a b h k = absurd a
one_value (Range low high) (Symbol s) w p i a b h k = absurd a
one_value (Range low high) (Whole n) (Truth c) p i a b h k = absurd b
one_value (Range low high) (Whole n) (Symbol s) p i a b h k = absurd b

-- positions follow the order of values
pub in_order : (d : Domain) (v w : Value) (p q : ℕ) → Holds d v → Holds d w → IsValueAt d v p → IsValueAt d w q
    → is_before v w ≡ true → p < q
in_order Boolean (Truth true) (Truth true) p q a b h k l = cc
in_order Boolean (Truth true) (Truth false) p q a b h k l = cc
in_order Boolean (Truth false) (Truth true) p q a b h k l = omega (arith, h, k)
in_order Boolean (Truth false) (Truth false) p q a b h k l = cc
in_order (Symbols symbols) (Symbol s) (Symbol t) p q a b h k l =
    let i : s < t = grind (arith, ints, nat_tests) in
    let j = rank-lt s t symbols.items i a in
    omega (arith, h, k, j)
in_order (Range low high) (Whole m) (Whole n) p q a b h k l = grind (arith, ints, nat_tests)
in_order Boolean (Whole n) w p q a b h k l = absurd a
in_order Boolean (Symbol s) w p q a b h k l = absurd a
in_order Boolean (Truth c) (Whole n) p q a b h k l = absurd b
in_order Boolean (Truth c) (Symbol s) p q a b h k l = absurd b
in_order (Symbols symbols) (Truth c) w p q a b h k l = absurd a
in_order (Symbols symbols) (Whole n) w p q a b h k l = absurd a
in_order (Symbols symbols) (Symbol s) (Truth c) p q a b h k l = absurd b
in_order (Symbols symbols) (Symbol s) (Whole n) p q a b h k l = absurd b
in_order (Range low high) (Truth c) w p q a b h k l = absurd a
in_order (Range low high) (Symbol s) w p q a b h k l = absurd a
in_order (Range low high) (Whole n) (Truth c) p q a b h k l = absurd b
in_order (Range low high) (Whole n) (Symbol s) p q a b h k l = absurd b

in_range : (a n k : ℕ) → a ≤ k → k < a + n → Contains (range_with_len a n) k
in_range a zero k h l = absurd (omega arith)
in_range a (suc n) k h l =
    elim (nat_lt a k) as (λ b. nat_lt a k ≡ b → Contains (range_with_len a (suc n)) k) [
      | true ↦
          λ e. contains-cons a k (range_with_len (a + 1) n)
          (in_range (a + 1) n k (grind (arith, nat_tests)) (omega arith))
      | false ↦
          λ e. let i : a ≡ k = grind (arith, nat_tests) in let P : ℕ → Type 0 = λ z. Contains
          (range_with_len a (suc n)) z in subst P i (contains-head a (range_with_len (a + 1) n))
    ] refl

from_range : (a n k : ℕ) → Contains (range_with_len a n) k → (a ≤ k) × (k < a + n)
from_range a zero k (i, h, e) = absurd (omega (arith, h))
from_range a (suc n) k m =
    elim (contains-cases a k (range_with_len (a + 1) n) m) [
      | inl e ↦ (omega arith, omega arith)
      | inr i ↦ let r = from_range (a + 1) n k i in (let h = r.0 in omega arith, let h = r.1 in omega arith)
    ]

range_held : (low high n : ℤ) → low ≤ℤ n → n ≤ℤ high
    → Contains (map (λ k. Whole (low +ℤ pos k)) (range_with_len 0 (nat_abs (high -ℤ low) + 1))) (Whole n)
range_held low high n h l =
    let k = nat_abs (n -ℤ low) in
    let e : (low +ℤ pos k) ≡ n = grind (arith, ints) in
    let P : ℤ → Type 0 =
    λ z. Contains (map (λ k. Whole (low +ℤ pos k)) (range_with_len 0 (nat_abs (high -ℤ low) + 1))) (Whole z) in
    subst P e
    (contains-map (λ k. Whole (low +ℤ pos k)) k (range_with_len 0 (nat_abs (high -ℤ low) + 1))
    (in_range 0 (nat_abs (high -ℤ low) + 1) k (omega arith) (grind (arith, ints))))

-- what the domain holds is one of its values
pub listed : (d : Domain) (v : Value) → Holds d v → Contains (values_of d) v
listed Boolean (Truth true) h =
    contains-cons (Truth false) (Truth true) (Truth true ∷ []) (contains-head (Truth true) [])
listed Boolean (Truth false) h = contains-head (Truth false) (Truth true ∷ [])
listed (Symbols symbols) (Symbol s) h = contains-map Symbol s symbols.items h
listed (Range low high) (Whole n) h = range_held low high n h.0 h.1
listed Boolean (Whole n) h = absurd h
listed Boolean (Symbol s) h = absurd h
listed (Symbols symbols) (Truth b) h = absurd h
listed (Symbols symbols) (Whole n) h = absurd h
listed (Range low high) (Truth b) h = absurd h
listed (Range low high) (Symbol s) h = absurd h

held_range : (low high : ℤ) (k : ℕ) → low ≤ℤ high → k < nat_abs (high -ℤ low) + 1
    → (low ≤ℤ (low +ℤ pos k)) × ((low +ℤ pos k) ≤ℤ high)
held_range low high k h l = (grind (arith, ints), grind (arith, ints))

-- each of its values is held by the domain
pub held : (d : Domain) (v : Value) → IsDomain d → Contains (values_of d) v → Holds d v
held Boolean v i m =
    elim (contains-cases (Truth false) v (Truth true ∷ []) m) [
      | inl e ↦ subst (Holds Boolean) e tt
      | inr n ↦
          elim
          (contains-cases (Truth true) v [] n) [ inl e ↦ subst (Holds Boolean) e tt | inr k ↦ absurd (nothing-in v k) ]
    ]
held (Symbols symbols) v i m =
    let (s, n, e) = contains-from_map Symbol v symbols.items m in
    subst (Holds (Symbols symbols)) e n
held (Range low high) v i m =
    let (k, n, e) = contains-from_map (λ k. Whole (low +ℤ pos k)) v (range_with_len 0 (nat_abs (high -ℤ low) + 1)) m in
    let r = from_range 0 (nat_abs (high -ℤ low) + 1) k n in
    subst (Holds (Range low high)) e (held_range low high k i.0 (let h = r.1 in omega arith))
