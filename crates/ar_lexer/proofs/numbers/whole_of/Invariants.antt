use Rattle.std.proofs.Common.{◌≡◌, ◌^◌, ◌<◌, drop}
use Rattle.ar_lexer.specs.Spelling.{number_after}
use Rattle.ar_lexer.proofs.numbers.whole_of.Given as goal

abbrev pub invariant-loop-digit : goal.invariant-loop-digit
invariant-loop-digit l = (number_after 0 l.digits ≡ number_after l.number (drop l.digit-index l.digits))
    × (l.number < 2 ^ 63)
