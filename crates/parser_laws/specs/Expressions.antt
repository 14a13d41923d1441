-- What it is that two expressions or instructions agree: they say the same and say it in the same places. The room that
-- a list
-- has for more items plays no part.
use Rattle.std.specs.Prelude.{◌≡◌, ℕ, zero, suc, Bool, Option, Some, None, Vec, Box}
use Rattle.std.specs.declared.alloc.Global.{Global}
use Rattle.ar_base.specs.Lists.{Along}
use Rattle.ar_syntax.specs.declared.paths.Path.{Path}
use Rattle.ar_syntax.specs.declared.expressions.RawExpr.{RawExpr}
use Rattle.ar_syntax.specs.declared.expressions.RawForm.{RawForm}
use Rattle.ar_syntax.specs.declared.expressions.RawForm.TheVariants as form
use Rattle.ar_syntax.specs.declared.expressions.RawRelation.{RawRelation}
use Rattle.ar_syntax.specs.declared.instructions.Instr.{Instr}
use Rattle.ar_syntax.specs.declared.instructions.Instr.TheVariants as instr

-- one start, the same names and one place
pub record SamePath (p q : Path) : Type 0 where
  pub start : p.start ≡ q.start
  pub names : p.names.items ≡ q.names.items
  pub place : p.at ≡ q.at

-- the forms that are a list of expressions
pub data ListedForm : Type 0 where
  all : ListedForm
  any : ListedForm
  product : ListedForm
  least : ListedForm
  greatest : ListedForm
  count : ListedForm

abbrev pub listed_form : ListedForm → Vec RawExpr Global → RawForm
listed_form all = form.All
listed_form any = form.Any
listed_form product = form.Product
listed_form least = form.Least
listed_form greatest = form.Greatest
listed_form count = form.Count

-- One kind of form, whose parts are the same.
pub data SameParts (Same : RawExpr → RawExpr → Type 0) (f g : RawForm) : Type 0 where
  equal : f ≡ g → SameParts Same f g
  path : (p q : Path) → f ≡ form.Path p → g ≡ form.Path q → SamePath p q → SameParts Same f g
  negation : (x y : Box RawExpr Global) → f ≡ form.Not x → g ≡ form.Not y → Same x.value y.value → SameParts Same f g
  minus : (x y : Box RawExpr Global) → f ≡ form.Minus x → g ≡ form.Minus y → Same x.value y.value → SameParts Same f g
  listed : (k : ListedForm) (v w : Vec RawExpr Global) → f ≡ listed_form k v → g ≡ listed_form k w → Along Same v.items w.items
      → SameParts Same f g
  compared : (r : RawRelation) (x y x' y' : Box RawExpr Global) → f ≡ form.Compare r x y → g ≡ form.Compare r x' y'
      → Same x.value x'.value → Same y.value y'.value → SameParts Same f g
  sum : (v w : Vec (Bool × RawExpr) Global) → f ≡ form.Sum v → g ≡ form.Sum w
      → Along (λ s t. (s.0 ≡ t.0) × Same s.1 t.1) v.items w.items → SameParts Same f g
  choice : (v w : Vec (RawExpr × RawExpr) Global) (x y : Box RawExpr Global) → f ≡ form.Choose v x → g ≡ form.Choose w y
      →
      Along (λ s t. Same s.0 t.0 × Same s.1 t.1) v.items w.items → Same x.value y.value → SameParts Same f g

-- the same down to depth d: one place, one span and, above the depth, the same parts
abbrev pub SameToDepth : ℕ → RawExpr → RawExpr → Type 0
SameToDepth zero e f = Unit {0}
SameToDepth (suc d) e f = (e.at ≡ f.at) × (e.span ≡ f.span) × SameParts (SameToDepth d) e.form f.form

-- the same at every depth
abbrev pub SameExpr : RawExpr → RawExpr → Type 0
SameExpr e f = (d : ℕ) → SameToDepth d e f

-- Instructions

-- both or neither
abbrev pub SameOption : {A : Type 0} → (A → A → Type 0) → Option A → Option A → Type 0
SameOption Same None None = Unit {0}
SameOption Same None (Some y) = ⊥
SameOption Same (Some x) None = ⊥
SameOption Same (Some x) (Some y) = Same x y

-- One kind of instruction, whose parts are the same.
pub data SameSteps (Same : Instr → Instr → Type 0) (i j : Instr) : Type 0 where
  equal : i ≡ j → SameSteps Same i j
  assign : (p q : Path) (e f : RawExpr) → i ≡ instr.Assign p e → j ≡ instr.Assign q f → SamePath p q → SameExpr e f
      → SameSteps Same i j
  tie : (p q p' q' : Path) → i ≡ instr.Tie p q → j ≡ instr.Tie p' q' → SamePath p p' → SamePath q q'
      → SameSteps Same i j
  conditional : (e f : RawExpr) (x y : Box Instr Global) (other other' : Option (Box Instr Global))
      → i ≡ instr.If e x other → j ≡ instr.If f y other' →
      SameExpr e f → Same x.value y.value → SameOption (λ a b. Same a.value b.value) other other' → SameSteps Same i j
  group : (v w : Vec Instr Global) → i ≡ instr.All v → j ≡ instr.All w → Along Same v.items w.items → SameSteps Same i j

-- the same down to depth d
abbrev pub SameStepsToDepth : ℕ → Instr → Instr → Type 0
SameStepsToDepth zero i j = Unit {0}
SameStepsToDepth (suc d) i j = SameSteps (SameStepsToDepth d) i j

-- the same at every depth
abbrev pub SameInstr : Instr → Instr → Type 0
SameInstr i j = (d : ℕ) → SameStepsToDepth d i j
