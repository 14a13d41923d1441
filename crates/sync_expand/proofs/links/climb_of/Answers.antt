use Rattle.std.proofs.Common.{Option, subst, sym}
use Rattle.sync_expand.specs.Links.{IsClimbOf, IsFirstLink}
use Rattle.sync_expand.specs.declared.links.Link.{Link}
use Rattle.sync_expand.proofs.LinkLemmas.{climb_none, climb_some, climb_local}
use Rattle.sync_expand.proofs.links.climb_of.Goals as goal

pub returns-in_err-part-in-Sync : goal.returns-in_err-part-in-Sync
returns-in_err-part-in-Sync c =
    let none = rw c.deref.ensures.value at c.in_err-part-in-Sync.ensures.none in
    subst (λ (z : Option Link). IsFirstLink (IsClimbOf c.args.way.now c.args.event c.args.ranks.now c.args.gap) z)
    (sym c.from_residual.ensures)
    (climb_none _ _ _ _ _ _ c.in-Sync.is none)

pub returns-in_ok-part-in-Sync : goal.returns-in_ok-part-in-Sync
returns-in_ok-part-in-Sync c =
    let some = rw c.deref.ensures.value at c.in_ok-part-in-Sync.ensures.some in
    climb_some _ _ _ _ _ _ _ c.in-Sync.is some

pub returns-in-Local : goal.returns-in-Local
returns-in-Local c = climb_local _ _ _ _ _ _ c.in-Local.is
