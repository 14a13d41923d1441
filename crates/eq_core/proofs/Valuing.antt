-- The steps of reading values.
use Rattle.std.proofs.Common.{◌≡◌, ℕ, zero, suc, Bool, true, false, List, [], ◌∷◌, ◌||◌, get_or, nat_eq, refl, ap}
use mathlib.Core.Bool.{beq}
use Rattle.ar_base.specs.NumbersInside.{EventId, numbers_of}
use Rattle.std.specs.List.{list_any}
use Rattle.eq_core.specs.Values.{has_event, value_of_gate, signed}

-- a value that is compared with a sign is the signed value
pub compared : (b sign : Bool) → beq b sign ≡ signed sign b
compared true true = refl
compared true false = refl
compared false true = refl
compared false false = refl

-- one of the set has the event's number
pub found : (set : List EventId) (n : ℕ) → list_any (λ (e : EventId). nat_eq e.n n) set ≡ has_event (numbers_of set) n
found [] n = refl
found (e ∷ set) n = ap (λ b. nat_eq e.n n || b) (found set n)

-- what is read at a place
pub read_at : (values : List Bool) (n : ℕ) → get_or values n false ≡ value_of_gate values n
read_at [] n = refl
read_at (b ∷ values) zero = refl
read_at (b ∷ values) (suc n) = read_at values n
