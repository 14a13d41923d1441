use Rattle.mode_search.proofs.Allowing.{wide_answer, narrow_is}
use Rattle.mode_search.proofs.searches.is_wide.Goals as goal

pub returns : goal.returns
returns c = λ p a. wide_answer p c.args.domains.now.rows.items a c.args.expr.now c.in_ok-found.found c.is_none.result
    c.is_none.ensures
    (narrow_is p c.args.domains.now.rows.items a c.args.expr.now c.in_ok-found.found _ _ c.in_ok-found.ensures.yields
    c.in_ok-found.ensures.narrow)
