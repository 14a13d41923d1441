-- A value of a domain comes back from its number.
use Rattle.std.proofs.Common.{◌≡◌, pos, ◌+ℤ◌, ◌-ℤ◌, ◌≤ℤ◌, nat_abs, min, ℤ, int_le, cond, ◌&&◌, true, false, refl, ap, ◌∙◌, arith}
use Rattle.std.proofs.lemmas.Int.{ints}
use Rattle.domains.specs.Domains.{Holds}
use Rattle.domains.specs.declared.Value.{Value}
use Rattle.domains.specs.declared.Value.TheVariants.{Truth, Whole, Symbol}
use Rattle.domains.specs.declared.Domain.{Domain}
use Rattle.domains.specs.declared.Domain.TheVariants.{Boolean, Symbols, Range}
use Rattle.flow_changes.specs.Codes.{coded, decoded}

whole_back : (low n : ℤ) → low ≤ℤ n → low +ℤ pos (nat_abs (n -ℤ low)) ≡ n
whole_back low n h = grind (arith, ints)

nearer : (low high n : ℤ) → low ≤ℤ n → n ≤ℤ high → min (nat_abs (n -ℤ low)) (nat_abs (high -ℤ low)) ≡ nat_abs (n -ℤ low)
nearer low high n h k = grind (arith, ints)

tested : (low high n : ℤ) → low ≤ℤ n → n ≤ℤ high → (int_le low n && int_le n high) ≡ true
tested low high n h k = grind (arith, ints)

from_low : (low high n : ℤ) → low ≤ℤ n → n ≤ℤ high
    → low +ℤ pos (min (cond (int_le low n && int_le n high) (nat_abs (n -ℤ low)) 0) (nat_abs (high -ℤ low))) ≡ n
from_low low high n h k =
    ap (λ b. low +ℤ pos (min (cond b (nat_abs (n -ℤ low)) 0) (nat_abs (high -ℤ low)))) (tested low high n h k)
    ∙ ap (λ m. low +ℤ pos m) (nearer low high n h k) ∙ whole_back low n h

-- the number of a value of the domain stands for the value
pub decoded_coded : (d : Domain) (v : Value) → Holds d v → decoded d (coded d v) ≡ v
decoded_coded Boolean (Truth true) h = refl
decoded_coded Boolean (Truth false) h = refl
decoded_coded Boolean (Whole n) h = absurd h
decoded_coded Boolean (Symbol s) h = absurd h
decoded_coded (Symbols symbols) (Truth b) h = absurd h
decoded_coded (Symbols symbols) (Whole n) h = absurd h
decoded_coded (Symbols symbols) (Symbol s) h = refl
decoded_coded (Range low high) (Truth b) h = absurd h
decoded_coded (Range low high) (Whole n) h = ap Whole (from_low low high n h.0 h.1)
decoded_coded (Range low high) (Symbol s) h = absurd h
