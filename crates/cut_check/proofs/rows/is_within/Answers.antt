use Rattle.std.proofs.Common.{arith}
use Rattle.cut_check.proofs.BitLemmas.{within_answer}
use Rattle.cut_check.proofs.rows.is_within.Goals as goal

pub returns : goal.returns
returns c = within_answer c.args.big.now c.args.small.now c.covers.result (λ k. let fits = c.type_inv.small k in omega (arith, fits)) c.covers.ensures
