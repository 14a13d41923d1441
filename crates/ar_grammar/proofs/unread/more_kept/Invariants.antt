use Rattle.std.proofs.Common.{length}
use Rattle.expression_grammar.specs.Words.{many}
use Rattle.ar_grammar.specs.Members.{kept_piece}
use Rattle.expression_grammar.specs.Results.{Spans}
use Rattle.ar_grammar.specs.Results.{ends_kept}
use Rattle.expression_grammar.proofs.Finding.{Loops}
use Rattle.ar_grammar.proofs.unread.more_kept.Given as goal
use Rattle.ar_grammar.specs.Parts.{kept_piece_tokens}

abbrev pub invariant-loop-parser : goal.invariant-loop-parser
invariant-loop-parser l =
    Spans (many (kept_piece l.left)) l.fn.parser.rest.now l.parser.rest.now
    × Loops kept_piece_tokens ends_kept l.fn.parser.rest.now l.parser.rest.now

abbrev pub decreases-loop-parser : goal.decreases-loop-parser
decreases-loop-parser l = length l.parser.rest.now
