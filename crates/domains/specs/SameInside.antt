-- Definitions beside those of Same, of which clauses inside the program speak: what the whole program promises does not
-- rest on them.
use Rattle.std.specs.Prelude.{◌≡◌, ℕ, ℤ, Vec}
use Rattle.std.specs.Global.{Global}
use Rattle.domains.specs.declared.Domain.{Domain}
use Rattle.domains.specs.declared.Domain.TheVariants.{Boolean, Symbols, Range}

-- the domains have the same values in the same order
pub data IsSameDomain : Domain → Domain → Type 0 where
  boolean : IsSameDomain Boolean Boolean
  symbols : {xs ys : Vec ℕ Global} → ys.items ≡ xs.items → IsSameDomain (Symbols xs) (Symbols ys)
  range : {low high least most : ℤ} → least ≡ low → most ≡ high → IsSameDomain (Range low high) (Range least most)
