use Rattle.std.proofs.Common.{refl, ◌∙◌}
use Rattle.zdd_nodes.specs.Nodes.{NodeId}
use Rattle.diagram_steps.proofs.Growing.{extends_none}
use Rattle.named_families.proofs.Named.{kept_none}
use Rattle.named_families.proofs.naming.named_family.Goals as goal

abbrev nothing : NodeId
nothing = record { n = 0; of = record {} }

pub returns-in_err-kept-clause-grows : goal.returns-in_err-kept-clause-grows
returns-in_err-kept-clause-grows c = extends_none c.args.ops.now

pub named-requires-clause-kept : goal.named-requires-clause-kept
named-requires-clause-kept c =
    kept_none c.args.names.now c.args.source.now c.args.ops.now c.deref_mut.result.now nothing refl
    (c.deref_mut.ensures.value ∙ c.in_ok-kept.ensures)
