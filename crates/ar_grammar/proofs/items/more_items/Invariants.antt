use Rattle.std.proofs.Common.{length}
use Rattle.expression_grammar.specs.Words.{deep}
use Rattle.ar_grammar.specs.Texts.{item_tokens}
use Rattle.ar_grammar.specs.Items.{ReadsItem}
use Rattle.ar_grammar.specs.Results.{AreUnsigned, is_end}
use Rattle.expression_grammar.proofs.Finding.{Gathers}
use Rattle.ar_grammar.proofs.items.more_items.Given as goal

abbrev pub invariant-loop-parser : goal.invariant-loop-parser
invariant-loop-parser l = Gathers (ReadsItem l.left) (item_tokens deep) is_end l.fn.items.items l.items.items
    l.fn.parser.rest.now l.parser.rest.now × AreUnsigned l.parser.rest.now

abbrev pub decreases-loop-parser : goal.decreases-loop-parser
decreases-loop-parser l = length l.parser.rest.now
