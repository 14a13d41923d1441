use Rattle.std.proofs.Common.{Option, subst}
use Rattle.ar_base.specs.NumbersInside.{UnitId}
use Rattle.hierarchy.specs.Tie.{IsOwner}
use Rattle.bind_names.proofs.Named.{prefix_below}
use Rattle.bind_names.proofs.paths.prefix_of.Goals as goal

pub returns : goal.returns
returns c = λ m units u names fronts owner name.
    let o = subst (λ (o : Option UnitId). IsOwner units u o) c.in-Some.is owner in
    prefix_below m units u c.in-Some.owner c.args.node.now.name c.args.above.now fronts o name _ _ _
    (λ v h. c.in_ok-path.ensures m v names h)
    c.in_ok-push_str.ensures.bytes c.new-2.ensures
