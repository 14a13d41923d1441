-- Definitions beside those of Domains, of which clauses inside the program speak: what the whole program promises does
-- not rest on them.
use Rattle.std.specs.Prelude.{◌≡◌, ℕ, ◌<◌, ◌≤◌, pos, ◌+◌, ◌+ℤ◌, ◌≤ℤ◌, if◌then◌else◌, nat_lt, count_by, length}
use Rattle.domains.specs.declared.Value.{Value}
use Rattle.domains.specs.declared.Value.TheVariants.{Truth, Whole, Symbol}
use Rattle.domains.specs.declared.Domain.{Domain}
use Rattle.domains.specs.declared.Domain.TheVariants.{Boolean, Symbols, Range}

-- p values of the domain come before the value, in the order of values
abbrev pub IsValueAt : Domain → Value → ℕ → Type 0
IsValueAt Boolean (Truth b) p = p ≡ (if b then 1 else 0)
IsValueAt Boolean (Whole n) p = ⊥
IsValueAt Boolean (Symbol s) p = ⊥
IsValueAt (Symbols symbols) (Truth b) p = ⊥
IsValueAt (Symbols symbols) (Whole n) p = ⊥
IsValueAt (Symbols symbols) (Symbol s) p = p ≡ count_by (λ x. nat_lt x s) symbols.items
IsValueAt (Range low high) (Truth b) p = ⊥
IsValueAt (Range low high) (Whole n) p = n ≡ (low +ℤ pos p)
IsValueAt (Range low high) (Symbol s) p = ⊥

-- the domain has more than p values
abbrev pub HasMore : Domain → ℕ → Type 0
HasMore Boolean p = p < 2
HasMore (Symbols symbols) p = p < length symbols.items
HasMore (Range low high) p = (low +ℤ pos p) ≤ℤ high
