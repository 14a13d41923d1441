use Rattle.std.proofs.Common.{sym, ◌∙◌}
use Rattle.typed_expr.proofs.Putting.{goes-at}
use Rattle.typed_expr.proofs.value_set.place_of.Goals as goal

pub returns-then-before : goal.returns-then-before
returns-then-before c =
    let h = c.in-Some.ensures.lookup in
    goes-at c.args.values.now c.args.v c.in-Some.x.now c.first_not_before-place.result c.requires
    c.first_not_before-place.ensures.bound c.first_not_before-place.ensures.place
    (h.3.1) (sym c.before-in-Some.ensures ∙ c.if-before.true)
