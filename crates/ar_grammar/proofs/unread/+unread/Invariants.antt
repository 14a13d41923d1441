use Rattle.std.proofs.Common.{length, ◌+◌, ◌*◌}
use Rattle.ar_grammar.specs.Members.{unread}
use Rattle.expression_grammar.specs.Results.{Spans}
use Rattle.ar_grammar.specs.Results.{ends_unread}
use Rattle.expression_grammar.proofs.Finding.{Loops}
use Rattle.ar_grammar.proofs.unread.+unread.Given as goal
use Rattle.ar_grammar.specs.Parts.{unread_tokens}

abbrev pub decreases-unread_group : goal.decreases-unread_group
decreases-unread_group l = 4 * l.left

abbrev pub decreases-unread_piece : goal.decreases-unread_piece
decreases-unread_piece l = 4 * l.left + 1

abbrev pub decreases-unread : goal.decreases-unread
decreases-unread l = 4 * l.left + 2

abbrev pub invariant-unread-loop-parser : goal.invariant-unread-loop-parser
invariant-unread-loop-parser l =
    Spans (unread l.left) l.fn.parser.rest.now l.parser.rest.now
    × Loops unread_tokens ends_unread l.fn.parser.rest.now l.parser.rest.now

abbrev pub decreases-unread-loop-parser : goal.decreases-unread-loop-parser
decreases-unread-loop-parser l = length l.parser.rest.now
