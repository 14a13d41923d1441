-- The instructions that stand in an instruction.
use Rattle.std.specs.Prelude.{Option, Some, Box, Vec}
use Rattle.std.specs.Global.{Global}
use Rattle.ar_base.specs.Lists.{IsOneOf}
use Rattle.ar_syntax.specs.declared.expressions.RawExpr.{RawExpr}
use Rattle.ar_syntax.specs.declared.instructions.Instr.{Instr, out-Instr}
use Rattle.ar_syntax.specs.declared.instructions.Instr.TheOpen.{Instr-F}
use Rattle.ar_syntax.specs.declared.instructions.Instr.TheOpen as instr

-- an instruction with its outermost form in view
abbrev pub InstrForm : Type 0
InstrForm = Instr-F Instr

-- the instruction is the second, or stands in it
pub data IsPartOf (i : InstrForm) : InstrForm → Type 0 where
  itself : IsPartOf i i
  first : {r : RawExpr} {a : Box Instr Global} {b : Option (Box Instr Global)} → IsPartOf i (out-Instr a.value)
      → IsPartOf i (instr.If r a b)
  second : {r : RawExpr} {a b : Box Instr Global} → IsPartOf i (out-Instr b.value) → IsPartOf i (instr.If r a (Some b))
  item : {is : Vec Instr Global} (j : Instr) → IsOneOf is.items j → IsPartOf i (out-Instr j) → IsPartOf i (instr.All is)
