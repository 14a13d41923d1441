-- Assignments of variables to each other.
use Rattle.std.specs.Prelude.{◌≡◌, [], ◌∷◌, Vec}
use Rattle.std.specs.Global.{Global}
use Rattle.ar_base.specs.Numbers.{VarId}
use Rattle.ar_base.specs.declared.places.Place.{Place}
use Rattle.typed_expr.specs.declared.expr.Expr.{Expr, out-Expr}
use Rattle.typed_expr.specs.declared.expr.Expr.TheOpen.{Variable}
use Rattle.gts_core.specs.declared.bound.Act.{Act, out-Act}
use Rattle.gts_core.specs.declared.bound.Act.TheOpen as act

-- the instruction gives the variable, at this place, the value of the other one
pub record SetsTo (x : VarId) (at : Place) (y : VarId) (a : Act) : Type 0 where
  pub value : Expr VarId
  pub names : out-Expr VarId value ≡ Variable y
  pub is : out-Act a ≡ act.Set x value at

-- the instruction gives each of the two variables the value of the other one, the first one first
pub record SetsBoth (x : VarId) (at : Place) (y : VarId) (other : Place) (a : Act) : Type 0 where
  pub acts : Vec Act Global
  pub is : out-Act a ≡ act.All acts
  pub first : Act
  pub second : Act
  pub are : acts.items ≡ first ∷ second ∷ []
  pub sets_first : SetsTo x at y first
  pub sets_second : SetsTo y other x second
