-- Definitions beside those of Instructions, of which clauses inside the program speak: what the whole program promises
-- does not rest on them.
use Rattle.std.specs.Prelude.{ℕ}
use Rattle.ar_syntax.specs.declared.instructions.Instr.{Instr}
use Rattle.expression_grammar.specs.Words.{Form}
use Rattle.expression_grammar.specs.Expressions.{ReadsExpr}
use Rattle.ar_grammar.specs.Instructions.{ReadsIfOf, ReadsGroupOf, ReadsSimpleOf, ReadsInstr}

abbrev pub ReadsSimple : ℕ → Instr → Form
ReadsSimple n = ReadsSimpleOf (ReadsExpr n)

abbrev pub ReadsGroup : ℕ → Instr → Form
ReadsGroup n = ReadsGroupOf (ReadsInstr n)

abbrev pub ReadsConditional : ℕ → Instr → Form
ReadsConditional n = ReadsIfOf (ReadsExpr n) (ReadsInstr n)
