use Rattle.std.proofs.Common.{List, ℕ, subst}
use Rattle.std.proofs.lemmas.List.{take_rest}
use Rattle.ar_lexer.specs.Spelling.{IsExponent}
use Rattle.ar_lexer.specs.Scans.{IsLongestFront}
use Rattle.ar_lexer.proofs.NumberLemmas.{tail_made}
use Rattle.ar_lexer.proofs.numbers.tail_len.Goals as goal

pub returns : goal.returns
returns c =
    tail_made _ _ _ c.fraction_len-fraction.ensures
    (subst (λ (s : List ℕ). IsLongestFront IsExponent s c.exponent_len-exponent.result)
    (take_rest c.args.bytes.now c.fraction_len-fraction.result) c.exponent_len-exponent.ensures)
