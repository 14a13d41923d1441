use Rattle.std.proofs.Common.{◌≡◌, Err, subst, ◌⊎◌}
use Rattle.zdd_nodes.specs.Sections.{IsMoreThan, IsPartOfBoth}
use Rattle.zdd_nodes.specs.Nodes.{family, Stored, IsStored}
use Rattle.zdd_nodes.specs.declared.NodeFault.TheVariants.{Full}
use Rattle.zdd_nodes.proofs.Limits.{more_than_limit}
use Rattle.zdd_ops.proofs.ops.Ops.without.Goals as goal

pub returns-clause-full : goal.returns-clause-full
returns-clause-full c =
    subst (λ (v : Stored). c.without_in.result ≡ Err Full
    → IsMoreThan v.limit (λ h. IsStored h v ⊎ IsPartOfBoth (family v c.args.f.n) (family v c.args.g.n) h))
    c.self.view_is
    (more_than_limit _ _ c.self.inside.store c.without_in.new.store c.without_in.result c.without_in.ensures.drawn)
