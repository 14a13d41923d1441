-- Systems that differ in what stands for their variables alone.
use Rattle.std.specs.Prelude.{◌≡◌, Bool, List, [], ◌∷◌}
use Rattle.ar_base.specs.Lists.{Along}
use Rattle.typed_expr.specs.Renames.{Renames}
use Rattle.typed_expr.specs.declared.expr.Expr.{Expr, out-Expr}
use Rattle.ar_meaning.specs.Systems.{Assign, Variable, Transition, Way, Tree, Leaf, Joint, Branches, Empty, Branch, Event}

-- the expressions differ in their variables alone, which are related
pub record Expr_renames {V W : Type 0} (same : V → W → Type 0) (e : Expr V) (f : Expr W) : Type 0 where
  pub renames : Renames same (out-Expr V e) (out-Expr W f)

-- the same of conditions, which have the same truth values
pub data Conditions_rename {V W : Type 0} (same : V → W → Type 0) : List (Expr V × Bool) → List
    (Expr W × Bool) → Type 0 where
  none : Conditions_rename same [] []
  one_and : {e : Expr V} {f : Expr W} {b : Bool} {es : List (Expr V × Bool)} {fs : List (Expr W × Bool)}
      → Renames same (out-Expr V e) (out-Expr W f)
      → Conditions_rename same es fs → Conditions_rename same ((e, b) ∷ es) ((f, b) ∷ fs)

-- the assignments have related targets, and conditions and expressions that differ in their variables alone
pub record Assign_renames {V W : Type 0} (same : V → W → Type 0) (a : Assign V) (b : Assign W) : Type 0 where
  pub target : same a.target b.target
  pub conditions : Conditions_rename same a.conditions b.conditions
  pub value : Renames same (out-Expr V a.value) (out-Expr W b.value)

-- the variables have related keys, and all else in common
pub record Variable_renames {V W : Type 0} (same : V → W → Type 0) (x : Variable V) (y : Variable W) : Type 0 where
  pub key : same x.key y.key
  pub unit : x.unit ≡ y.unit
  pub domain : x.domain ≡ y.domain
  pub is_state : x.is_state ≡ y.is_state
  pub value : x.value ≡ y.value

-- the transitions differ in their variables alone
pub record Transition_renames {V W : Type 0} (same : V → W → Type 0) (d : Transition V)
    (e : Transition W) : Type 0 where
  pub guard : Renames same (out-Expr V d.guard) (out-Expr W e.guard)
  pub action : Along (Assign_renames same) d.action e.action

mutual
  -- the trees have the same joints and marks, and their leaves are related
  pub data Trees_along {L M : Type 0} (same : L → M → Type 0) : Tree L → Tree M → Type 0 where
    leaves : {d : L} {e : M} → same d e → Trees_along same (Leaf d) (Leaf e)
    joints : {bs : Branches L} {cs : Branches M} → Branches_along same bs cs → Trees_along same (Joint bs) (Joint cs)

  -- the same of the ways of parts, in order
  pub data Branches_along {L M : Type 0} (same : L → M → Type 0) : Branches L → Branches M → Type 0 where
    no_branch : Branches_along same Empty Empty
    branch : {must : Bool} {v : Tree L} {w : Tree M} {bs : Branches L} {cs : Branches M} → Trees_along same v w
        → Branches_along same bs cs
        → Branches_along same (Branch must v bs) (Branch must w cs)

-- the ways have the same joints and marks, and their transitions differ in their variables alone
abbrev pub Way_renames : {V W : Type 0} → (V → W → Type 0) → Way V → Way W → Type 0
Way_renames same = Trees_along (Transition_renames same)

-- the events have one unit, one mark for hidden, and ways that differ in their variables alone
pub record Event_renames {V W : Type 0} (same : V → W → Type 0) (e : Event V) (f : Event W) : Type 0 where
  pub unit : e.unit ≡ f.unit
  pub hidden : e.hidden ≡ f.hidden
  pub ways : Along (Way_renames same) e.ways f.ways
