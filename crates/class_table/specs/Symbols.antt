-- The symbols as they are numbered.
use Rattle.std.specs.Prelude.{◌≡◌, ◌<◌, ◌^◌, ℕ, nat_eq, List, map, Some, None}
use Rattle.std.specs.HashMap as hash
use Rattle.ar_base.specs.Lists.{Stands, IsOneOf, AreDifferent}
use Rattle.ar_base.specs.Numbers.{NameId}
use Rattle.class_table.specs.Declaring.{FirstUses}
use Rattle.class_table.specs.declared.symbols.Symbols.{Symbols}

-- the names of the symbols by their numbers
abbrev pub names_of_symbols : Symbols → List ℕ
names_of_symbols s = map (λ (x : NameId). x.n) s.list.items

-- each symbol's number is its place, each number is a symbol's, and symbols are different numbers of 32 bits
pub record AreNumberedSymbols (s : Symbols) : Type 0 where
  pub at : (x k : ℕ) → hash.get nat_eq s.numbers x ≡ Some k → Stands (names_of_symbols s) k x
  pub all : (x : ℕ) → hash.get nat_eq s.numbers x ≡ None → IsOneOf (names_of_symbols s) x → ⊥
  pub different : AreDifferent (names_of_symbols s)
  pub small : (x : ℕ) → IsOneOf (names_of_symbols s) x → x < 2 ^ 32

-- these uses of symbols were added
pub record UsesMore (uses : List ℕ) (old new : Symbols) : Type 0 where
  pub numbered : AreNumberedSymbols new
  pub uses_of : FirstUses (names_of_symbols old) uses (names_of_symbols new)
