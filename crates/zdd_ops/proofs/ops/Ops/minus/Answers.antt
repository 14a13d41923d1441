use Rattle.std.proofs.Common.{◌≡◌, Err, subst, ◌⊎◌}
use Rattle.zdd_nodes.specs.FamiliesInside.{minus}
use Rattle.zdd_nodes.specs.Sections.{IsMoreThan, IsCounted}
use Rattle.zdd_nodes.specs.Nodes.{family, Stored, IsStored}
use Rattle.zdd_nodes.specs.declared.NodeFault.TheVariants.{Full}
use Rattle.zdd_nodes.proofs.Limits.{more_than_limit}
use Rattle.zdd_ops.proofs.ops.Ops.minus.Goals as goal

pub returns-clause-full : goal.returns-clause-full
returns-clause-full c =
    subst (λ (v : Stored). c.join_in.result ≡ Err Full
    → IsMoreThan v.limit (λ h. IsStored h v ⊎ IsCounted (minus (family v c.args.f.n) (family v c.args.g.n)) h))
    c.self.view_is
    (more_than_limit _ _ c.self.inside.store c.join_in.new.store c.join_in.result c.join_in.ensures.drawn)
