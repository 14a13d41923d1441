use Rattle.std.proofs.Common.{List, Contains, ◌⊎◌, subst}
use Rattle.domains.specs.declared.Value.{Value}
use Rattle.typed_expr.specs.Sets.{Gathers, HasExactly}
use Rattle.typed_expr.proofs.Gathering.{gathered-exactly, wanted-as}
use Rattle.typed_expr.proofs.sets.joined_where.Goals as goal

pub returns-then-values-le-FEW : goal.returns-then-values-le-FEW
returns-then-values-le-FEW c =
    wanted-as c.args.most c.args.set c.args.more.now c.values-values.result.now c.args.wanted c.joined.result
    c.if-not-wanted.false c.values-values.ensures.values c.joined.ensures

pub returns : goal.returns
returns c =
    wanted-as c.args.most c.args.set c.args.more.now c.values-values.result.now c.args.wanted c.set_of.result
    c.if-not-wanted.false c.values-values.ensures.values
    (gathered-exactly c.args.most c.in_ok-all.all.items c.set_of.result
    (λ v. Contains c.args.set v ⊎ Contains c.values-values.result.now v)
    (subst (λ (l : List Value). HasExactly c.in_ok-all.all.items (λ v. Contains l v ⊎ Contains c.values-values.result.now v))
    c.values-2.ensures.values c.in_ok-all.ensures)
    (subst (λ (l : List Value). Gathers c.args.most c.set_of.result (Contains l)) c.deref.ensures.value
    c.set_of.ensures))
