use Rattle.std.proofs.Common.{length}
use Rattle.std.specs.Prelude.{reverse}
use Rattle.ar_parser.proofs.NameLemmas.{Numbering}
use Rattle.ar_parser.proofs.numbering.numbered.Given as goal

abbrev pub invariant-loop-token : goal.invariant-loop-token
invariant-loop-token l = Numbering l.text l.fn.names l.names (reverse l.fn.left.items) (reverse l.left.items)
    l.lexemes.items

abbrev pub decreases-loop-token : goal.decreases-loop-token
decreases-loop-token l = length l.left.items
