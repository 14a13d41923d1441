-- Equality of values as a test, and domains that have the same values.
use Rattle.std.specs.Prelude.{Bool, false, not, ◌||◌, if◌then◌else◌, List, [], ◌∷◌, nat_eq}
use Rattle.std.specs.Ordering.{int_eq}
use Rattle.domains.specs.declared.Value.{Value}
use Rattle.domains.specs.declared.Value.TheVariants.{Truth, Whole, Symbol}

-- whether two values are the same
abbrev pub is_same : Value → Value → Bool
is_same (Truth a) (Truth b) = if a then b else not b
is_same (Whole m) (Whole n) = int_eq m n
is_same (Symbol m) (Symbol n) = nat_eq m n
is_same (Truth a) (Whole n) = false
is_same (Truth a) (Symbol n) = false
is_same (Whole m) (Truth b) = false
is_same (Whole m) (Symbol n) = false
is_same (Symbol m) (Truth b) = false
is_same (Symbol m) (Whole n) = false

-- whether the list has the value
abbrev pub has_value : Value → List Value → Bool
has_value v [] = false
has_value v (w ∷ ws) = is_same v w || has_value v ws
