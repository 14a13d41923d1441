use Rattle.std.proofs.Common.{refl}
use Rattle.zdd_nodes.specs.Kept.{families_of}
use Rattle.zdd_nodes.proofs.Stored.{IsStore-new}
use Rattle.zdd_nodes.proofs.Calls.{sound_seen, IsStore-same}
use Rattle.zdd_nodes.proofs.Store.new.Goals as goal

pub invariant_of-result : goal.invariant_of-result
invariant_of-result c = IsStore-same _ _ _ _ c.args.limit c.new.ensures.items c.new-2.ensures.empty
    (IsStore-new c.args.limit c.requires)

pub returns-clause-families : goal.returns-clause-families
unfolding families_of
returns-clause-families c = rw c.new.ensures.items refl

pub returns-clause-sound : goal.returns-clause-sound
returns-clause-sound c =
    sound_seen c.new.result.items c.new-2.result.entries c.args.limit _ refl
    (IsStore-same _ _ _ _ c.args.limit c.new.ensures.items c.new-2.ensures.empty
    (IsStore-new c.args.limit c.requires))
