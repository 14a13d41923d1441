-- Definitions beside those of Image, of which clauses inside the program speak: what the whole program promises does
-- not rest on them.
use Rattle.std.specs.Prelude.{◌≡◌}
use Rattle.ar_base.specs.Lists.{Along}
use Rattle.ar_meaning.specs.Systems.{Transition, Branches, Net, System}
use Rattle.ar_meaning.specs.Image.{Expr_renames, Assign_renames, Variable_renames, Transition_renames, Branches_along, Event_renames}

-- the same of the ways of parts
abbrev pub Branches_rename : {V W : Type 0} → (V → W → Type 0) → Branches (Transition V) → Branches (Transition W)
    → Type 0
Branches_rename same = Branches_along (Transition_renames same)

-- the lists of two nets agree item by item, and their variables are related one to one
pub record IsNetImage {V W : Type 0} (same : V → W → Type 0) (here : Net V) (there : Net W) : Type 0 where
  pub variables : Along (Variable_renames same) here.variables there.variables
  pub assertions : Along (Assign_renames same) here.assertions there.assertions
  pub one : (x : V) (y z : W) → same x y → same x z → y ≡ z
  pub one_back : (x y : V) (z : W) → same x z → same y z → x ≡ y

-- the lists of two systems agree item by item, and their variables are related one to one
pub record IsImage {V W : Type 0} (same : V → W → Type 0) (here : System V) (there : System W) : Type 0 where
  pub net : IsNetImage same here.net there.net
  pub events : Along (Event_renames same) here.events there.events
  pub observers : Along (Expr_renames same) here.observers there.observers
