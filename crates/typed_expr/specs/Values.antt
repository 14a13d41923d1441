-- What the operators make of the values of their operands.
use Rattle.std.specs.Prelude.{ℤ, pos, ◌+ℤ◌, ◌-ℤ◌, ◌*ℤ◌, Bool, not, ◌&&◌, ◌||◌, if◌then◌else◌, List, [], ◌∷◌, fold}
use Rattle.std.specs.Int.{saturate_signed, w64, int_min, int_max}
use Rattle.domains.specs.Values.{is_before, truth_of, whole_of}
use Rattle.domains.specs.declared.Value.{Value}
use Rattle.typed_expr.specs.declared.expr.Relation.{Relation}
use Rattle.typed_expr.specs.declared.expr.Relation.TheVariants.{Equal, Differs, Less, AtMost, More, AtLeast}

-- two values are so related, in the order of values
abbrev pub is_related : Relation → Value → Value → Bool
is_related Equal a b = not (is_before a b) && not (is_before b a)
is_related Differs a b = is_before a b || is_before b a
is_related Less a b = is_before a b
is_related AtMost a b = not (is_before b a)
is_related More a b = is_before b a
is_related AtLeast a b = not (is_before a b)

-- a sum with one more part, which is added or subtracted, clamped
abbrev pub added : ℤ → Bool × Value → ℤ
added n part = saturate_signed w64 (if part.0 then n +ℤ whole_of part.1 else n -ℤ whole_of part.1)

-- a product with one more factor, clamped
abbrev pub multiplied : ℤ → Value → ℤ
multiplied n v = saturate_signed w64 (n *ℤ whole_of v)

-- the lesser of two numbers
abbrev pub lesser : ℤ → Value → ℤ
lesser n v = int_min n (whole_of v)

-- the greater of two numbers
abbrev pub greater : ℤ → Value → ℤ
greater n v = int_max n (whole_of v)

-- a count with one more operand, clamped
abbrev pub counted : ℤ → Value → ℤ
counted n v = saturate_signed w64 (if truth_of v then n +ℤ pos 1 else n)

-- the sum of the parts, from 0 and from left to right
abbrev pub sum_of : List (Bool × Value) → ℤ
sum_of parts = fold added (pos 0) parts

-- the product of the factors, from 1 and from left to right
abbrev pub product_of : List Value → ℤ
product_of vs = fold multiplied (pos 1) vs

-- the least of the numbers, of which there is one at least
abbrev pub least_of : List Value → ℤ
least_of [] = pos 0
least_of (v ∷ vs) = fold lesser (whole_of v) vs

-- the greatest of the numbers, of which there is one at least
abbrev pub greatest_of : List Value → ℤ
greatest_of [] = pos 0
greatest_of (v ∷ vs) = fold greater (whole_of v) vs

-- how many are true
abbrev pub count_of : List Value → ℤ
count_of vs = fold counted (pos 0) vs
