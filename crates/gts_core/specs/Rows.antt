-- The domains of the variables as rows of values.
use Rattle.std.specs.Prelude.{◌≡◌, ◌<◌, ℕ, Bool, length, Vec}
use Rattle.std.specs.Global.{Global}
use Rattle.ar_base.specs.Lists.{Stands}
use Rattle.domains.specs.Domains.{values_of}
use Rattle.ar_base.specs.Numbers.{VarId}
use Rattle.domains.specs.declared.Value.{Value}
use Rattle.typed_expr.specs.Rows.{Rows, known_row_at}
use Rattle.typed_expr.specs.YieldsInside.{facts_of}
use Rattle.ar_meaning.specs.Found.{IsAnswer}
use Rattle.gts_core.specs.declared.system.Variable.{Variable}
use Rattle.gts_core.specs.declared.system.GtsParts.{GtsParts}

-- the values of the domains of the first so many variables
pub record AreDomains (p : GtsParts) (count : ℕ) (rows : Rows) : Type 0 where
  pub long : length rows ≡ count
  pub row : (n : ℕ) (x : Variable) (r : Vec Value Global) → n < count → Stands p.variables.items n x → Stands rows n r
      → r.items ≡ values_of x.domain

-- what a test says of each system of whose variables these are the domains
abbrev pub TestSays : Rows → (GtsParts → Type 0) → Bool → Type 0
TestSays rows P b = (p : GtsParts) → AreDomains p (length p.variables.items) rows → IsAnswer b (P p)

-- the facts where each variable has the values of its row
abbrev pub RowFacts : Rows → VarId → Value → Type 0
RowFacts rows = facts_of (λ (x : VarId). known_row_at rows x.n)
