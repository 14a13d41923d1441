use Rattle.std.proofs.Common.{length}
use Rattle.ar_lexer.proofs.ReadLemmas.{HasRead}
use Rattle.ar_lexer.proofs.lexer.scanned.Given as goal

abbrev pub invariant-loop-len : goal.invariant-loop-len
invariant-loop-len l = HasRead l.text l.cursor.rest.now l.cursor.at l.cursor.place l.found.items

abbrev pub decreases-loop-len : goal.decreases-loop-len
decreases-loop-len l = length l.cursor.rest.now
