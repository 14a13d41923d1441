use Rattle.std.proofs.Common.{Bool, List, sym, subst}
use Rattle.domains.specs.declared.Value.{Value}
use Rattle.flow_changes.specs.Picking.{AreWithin}
use Rattle.flow_changes.proofs.trying.snapshot_of.Goals as goal

pub picked-requires : goal.picked-requires
picked-requires c = subst (λ (z : List Value). AreWithin c.args.members.now z) (sym c.deref.ensures.value)
    c.requires.values

pub picked-requires-2 : goal.picked-requires-2
picked-requires-2 c = subst (λ (z : List Bool). AreWithin c.args.members.now z) (sym c.deref-2.ensures.value)
    c.requires.known
