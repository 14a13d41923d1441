use Rattle.std.proofs.Common.{◌≡◌, ℕ, take, nat_eq}
use Rattle.std.specs.HashMap as hash
use Rattle.unit_rules.specs.TypingInside.{type_place_in}
use Rattle.unit_rules.proofs.types.TypePlaces.new.Given as goal

abbrev pub invariant-loop-place : goal.invariant-loop-place
invariant-loop-place l = (x : ℕ) → hash.get nat_eq l.known.places x ≡ type_place_in (take l.place l.types) x
