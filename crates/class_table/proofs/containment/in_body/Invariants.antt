use Rattle.std.proofs.Common.{ℕ, List, Vec, Global}
use Rattle.ar_base.specs.Lists.{IsOneOf}
use Rattle.class_table.specs.Declaring.{Declared}
use Rattle.class_table.specs.Earliest.{FindsBeside, Until}
use Rattle.class_table.specs.Members.{own_at}
use Rattle.class_table.specs.Ranks.{AreRanks}
use Rattle.class_table.specs.Rows.{AreInnerBodies}
use Rattle.class_table.specs.Shown.{Shows, NamesRound}
use Rattle.class_table.specs.declared.tables.Owned.{Owned}
use Rattle.class_table.proofs.Looping.{AtItem}
use Rattle.class_table.proofs.containment.in_body.Given as goal

abbrev pub invariant-loop-owned : goal.invariant-loop-owned
invariant-loop-owned l = (d : Declared) (rows : List (Vec ℕ Global)) → Shows d l.bodies l.types → AreInnerBodies d rows
    → AreRanks rows l.ranks → ((o : Owned) → IsOneOf l.owned-items o → IsOneOf (own_at d l.body) o)
    → FindsBeside (Until (AtItem l.owned-items (λ (k : ℕ) (o : Owned). NamesRound d l.body o)) l.owned-index) l.fn.found
    l.first
