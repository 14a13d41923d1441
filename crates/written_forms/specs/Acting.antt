-- The bound instruction that a written one becomes.
use Rattle.std.specs.Prelude.{◌≡◌, List, [], ◌∷◌, Option, Some, None, Box, Vec}
use Rattle.std.specs.Global.{Global}
use Rattle.ar_base.specs.Numbers.{VarId}
use Rattle.ar_syntax.specs.declared.expressions.RawExpr.{RawExpr}
use Rattle.ar_syntax.specs.declared.instructions.Instr.{Instr, out-Instr}
use Rattle.ar_syntax.specs.declared.instructions.Instr.TheOpen as instr
use Rattle.ar_syntax.specs.declared.paths.Path.{Path}
use Rattle.domains.specs.declared.Value.{Value}
use Rattle.typed_expr.specs.declared.expr.Expr.{Expr}
use Rattle.gts_core.specs.declared.bound.Act.{Act, out-Act}
use Rattle.gts_core.specs.declared.bound.Act.TheOpen as act
use Rattle.written_forms.specs.Assigning.{SetsBoth}
use Rattle.written_forms.specs.Translating.{BecomesBy}
use Rattle.written_forms.specs.declared.naming.Leaf.{Leaf}
use Rattle.written_forms.specs.declared.naming.Leaf.TheVariants as leaf
use Rattle.written_forms.specs.Parts.{InstrForm}

mutual
  -- the written instruction becomes this one, where paths stand for these variables and values; a `:=:` becomes its two
  -- assignments, and what assigns or ties a value, which no rule lets stand, becomes nothing
  pub data ActsAs (leaves : Path → Leaf) : InstrForm → Act → Type 0 where
    skip : {a : Act} → out-Act a ≡ act.Skip → ActsAs leaves instr.Skip a
    assign : {p : Path} {r : RawExpr} {a : Act} (x : VarId) (e : Expr VarId) → leaves p ≡ leaf.Variable x
        → BecomesBy leaves r e
        → out-Act a ≡ act.Set x e p.at → ActsAs leaves (instr.Assign p r) a
    no_target : {p : Path} {r : RawExpr} {a : Act} (v : Value) → leaves p ≡ leaf.Constant v → out-Act a ≡ act.Skip
        → ActsAs leaves (instr.Assign p r) a
    tie : {p q : Path} {a : Act} (x y : VarId) → leaves p ≡ leaf.Variable x → leaves q ≡ leaf.Variable y
        → SetsBoth x p.at y q.at a
        → ActsAs leaves (instr.Tie p q) a
    no_left : {p q : Path} {a : Act} (v : Value) → leaves p ≡ leaf.Constant v → out-Act a ≡ act.Skip
        → ActsAs leaves (instr.Tie p q) a
    no_right : {p q : Path} {a : Act} (v : Value) → leaves q ≡ leaf.Constant v → out-Act a ≡ act.Skip
        → ActsAs leaves (instr.Tie p q) a
    conditional : {r : RawExpr} {first : Box Instr Global} {second : Option (Box Instr Global)} {a : Act}
        (e : Expr VarId) (b c : Box Act Global)
        → BecomesBy leaves r e → out-Act a ≡ act.If e b c → ActsAs leaves (out-Instr first.value) b.value
        → ElseActs leaves second c.value
        → ActsAs leaves (instr.If r first second) a
    all : {is : Vec Instr Global} {a : Act} (acts : Vec Act Global) → out-Act a ≡ act.All acts
        → All_act leaves is.items acts.items
        → ActsAs leaves (instr.All is) a

  -- a second branch that is not there does nothing
  pub data ElseActs (leaves : Path → Leaf) : Option (Box Instr Global) → Act → Type 0 where
    no_branch : {a : Act} → out-Act a ≡ act.Skip → ElseActs leaves None a
    branch : {i : Box Instr Global} {a : Act} → ActsAs leaves (out-Instr i.value) a → ElseActs leaves (Some i) a

  -- the same of several, one after the other
  pub data All_act (leaves : Path → Leaf) : List Instr → List Act → Type 0 where
    none : All_act leaves [] []
    one_and : {i : Instr} {is : List Instr} {a : Act} {acts : List Act} → ActsAs leaves (out-Instr i) a
        → All_act leaves is acts
        → All_act leaves (i ∷ is) (a ∷ acts)

-- the instruction is a conditional of what this test becomes, and of these branches
pub record IsConditional (leaves : Path → Leaf) (test : RawExpr) (first second a : Act) : Type 0 where
  pub bound : Expr VarId
  pub becomes : BecomesBy leaves test bound
  pub here : Box Act Global
  pub there : Box Act Global
  pub is : out-Act a ≡ act.If bound here there
  pub is_first : here.value ≡ first
  pub is_second : there.value ≡ second
