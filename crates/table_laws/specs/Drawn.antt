-- What is drawn for a system's gate table, in the words of firing orders.
use Rattle.std.specs.Prelude.{◌≢◌, ℕ, List, [], Option, None}
use Rattle.domains.specs.declared.Value.{Value}
use Rattle.typed_expr.specs.declared.expr.Expr.{Expr}
use Rattle.ar_meaning.specs.Systems.{System}
use Rattle.ar_firing.specs.Cuts.{Cut, ConflictSet, IsConflictFreeUpTo}
use Rattle.ar_firing.specs.Listed.{AreListed}
use Rattle.zdd_nodes.specs.Families.{Family as Sets}
use Rattle.zdd_nodes.specs.Nodes.{family}
use Rattle.firable_families.specs.Firable.{AndUpTo}
use Rattle.gate_diagrams.specs.declared.answer.Family.{Family}
use Rattle.gate_diagrams.specs.declared.answer.Drawn.{Drawn}
use Rattle.gate_diagrams.specs.declared.answer.Drawn.TheVariants.{Conflicts, Cuts}

-- the sets of a drawn family, in order
abbrev pub sets_of : Family → Sets
sets_of f = family f.store f.root.n

-- what was drawn, of either kind
abbrev pub family_of : Drawn → Family
family_of (Conflicts f) = f
family_of (Cuts f) = f

-- of the sets of at most as many events as are asked for the conflict sets of the system, where there are some, or else the
-- cuts of the observer's value
abbrev pub AreDrawnUpTo : {V : Type 0} → Option ℕ → System V → List ℕ → Expr V → Value → Drawn → Type 0
AreDrawnUpTo order sys dropped observer wanted (Conflicts f) =
    (sets_of f ≢ []) × AreListed (AndUpTo order (ConflictSet sys dropped)) (sets_of f)
AreDrawnUpTo order sys dropped observer wanted (Cuts f) =
    IsConflictFreeUpTo order sys dropped × AreListed (AndUpTo order (Cut sys dropped observer wanted)) (sets_of f)

-- the same of all sets
abbrev pub AreDrawn : {V : Type 0} → System V → List ℕ → Expr V → Value → Drawn → Type 0
AreDrawn sys dropped observer wanted drawn = AreDrawnUpTo None sys dropped observer wanted drawn
