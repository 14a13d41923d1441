use Rattle.std.proofs.Common.{length, ◌+◌, ◌*◌}
use Rattle.expression_grammar.specs.Words.{deep}
use Rattle.ar_grammar.specs.Texts.{instr_tokens}
use Rattle.ar_grammar.specs.Instructions.{ReadsInstr}
use Rattle.ar_grammar.specs.Results.{ends_group}
use Rattle.expression_grammar.proofs.Finding.{Gathers}
use Rattle.ar_grammar.proofs.instructions.+instruction.Given as goal

abbrev pub decreases-instr : goal.decreases-instr
decreases-instr l = 8 * l.left + 0

abbrev pub decreases-branch : goal.decreases-branch
decreases-branch l = 8 * l.left + 1

abbrev pub decreases-other_branch : goal.decreases-other_branch
decreases-other_branch l = 8 * l.left + 2

abbrev pub decreases-more_instrs : goal.decreases-more_instrs
decreases-more_instrs l = 8 * l.left + 1

abbrev pub decreases-conditional : goal.decreases-conditional
decreases-conditional l = 8 * l.left + 3

abbrev pub decreases-group : goal.decreases-group
decreases-group l = 8 * l.left + 2

abbrev pub invariant-more_instrs-loop-parser : goal.invariant-more_instrs-loop-parser
invariant-more_instrs-loop-parser l =
    Gathers (ReadsInstr l.left) (instr_tokens deep) ends_group l.fn.instrs.items l.instrs.items l.fn.parser.rest.now
    l.parser.rest.now

abbrev pub decreases-more_instrs-loop-parser : goal.decreases-more_instrs-loop-parser
decreases-more_instrs-loop-parser l = length l.parser.rest.now
