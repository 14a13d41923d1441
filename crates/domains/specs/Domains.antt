-- What a domain holds, and where its values stand.
use Rattle.std.specs.Prelude.{◌≢◌, ◌<◌, ◌≤◌, pos, ◌+◌, ◌+ℤ◌, ◌-ℤ◌, ◌<ℤ◌, ◌≤ℤ◌, nat_abs, true, false, map, List, [], ◌∷◌, Contains, length, AllPairs}
use Rattle.std.specs.List.{range_with_len}
use Rattle.domains.specs.declared.Value.{Value}
use Rattle.domains.specs.declared.Value.TheVariants.{Truth, Whole, Symbol}
use Rattle.domains.specs.declared.Domain.{Domain}
use Rattle.domains.specs.declared.Domain.TheVariants.{Boolean, Symbols, Range}

-- a domain has at least one and at most 256 values, and no symbol twice
abbrev pub IsDomain : Domain → Type 0
IsDomain Boolean = Unit {0}
IsDomain (Symbols symbols) =
    (0 < length symbols.items) × (length symbols.items ≤ 256) × AllPairs (λ a b. a ≢ b) symbols.items
IsDomain (Range low high) = (low ≤ℤ high) × (high <ℤ (low +ℤ pos 256))

-- the domain has the value
abbrev pub Holds : Domain → Value → Type 0
Holds Boolean (Truth b) = Unit {0}
Holds Boolean (Whole n) = ⊥
Holds Boolean (Symbol s) = ⊥
Holds (Symbols symbols) (Truth b) = ⊥
Holds (Symbols symbols) (Whole n) = ⊥
Holds (Symbols symbols) (Symbol s) = Contains symbols.items s
Holds (Range low high) (Truth b) = ⊥
Holds (Range low high) (Whole n) = (low ≤ℤ n) × (n ≤ℤ high)
Holds (Range low high) (Symbol s) = ⊥

-- the values of the domain, symbols in the order in which they were declared
abbrev pub values_of : Domain → List Value
values_of Boolean = Truth false ∷ Truth true ∷ []
values_of (Symbols symbols) = map Symbol symbols.items
values_of (Range low high) = map (λ k. Whole (low +ℤ pos k)) (range_with_len 0 (nat_abs (high -ℤ low) + 1))
