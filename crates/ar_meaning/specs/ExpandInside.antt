-- Definitions beside those of Expand, of which clauses inside the program speak: what the whole program promises does
-- not rest on them.
use Rattle.std.specs.Prelude.{◌≡◌, ℕ, List}
use Rattle.ar_base.specs.Lists.{Stands}
use Rattle.ar_meaning.specs.Expand.{EventDeclaration, one}

-- no two events have one key
pub record AreKeyedEvents {L E : Type 0} (events : List (EventDeclaration L E)) : Type 0 where
  pub one : (m n : ℕ) (d e : EventDeclaration L E) → Stands events m d → Stands events n e → d.key ≡ e.key → m ≡ n
