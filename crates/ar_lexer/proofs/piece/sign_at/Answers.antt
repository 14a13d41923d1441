use Rattle.std.proofs.Common.{arith}
use Rattle.ar_lexer.proofs.PieceLemmas.{sign_one}
use Rattle.ar_lexer.proofs.piece.sign_at.Goals as goal

pub returns-in-Some-sign_front-2-clause-found : goal.returns-in-Some-sign_front-2-clause-found
returns-in-Some-sign_front-2-clause-found c =
    (omega arith, sign_one _ _ c.in_default.ensures c.in_default-sign_front.ensures c.in-Some-sign_front-2.ensures)
