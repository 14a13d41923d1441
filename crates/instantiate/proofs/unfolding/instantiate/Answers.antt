use Rattle.std.proofs.lemmas.Result.{err_from_is_err_and}
use Rattle.instantiate.proofs.Joined.{refused_so}
use Rattle.instantiate.proofs.unfolding.instantiate.Goals as goal

pub returns-in_err-settled : goal.returns-in_err-settled
returns-in_err-settled c = λ m t.
    let r = err_from_is_err_and c.from_residual.result c.from_residual.ensures.1 in
    refused_so m c.args.classes _ _ _ r.1 r.2 (c.in_err-settled.ensures.settled m t)

pub returns : goal.returns
returns c = λ m t. let s = c.in_ok-settled.ensures.settled m t in (s.0, s.1, c.in_ok-tree.ensures s.0 s.2)
