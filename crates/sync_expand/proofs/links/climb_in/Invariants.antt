use Rattle.std.proofs.Common.{ℕ}
use Rattle.gts_core.specs.declared.bound.DeclaredWay.{DeclaredWay}
use Rattle.sync_expand.specs.Links.{IsFirstLink, UntilLink, IsClimbOf}
use Rattle.sync_expand.proofs.FirstLinks.{AtItem}
use Rattle.sync_expand.proofs.links.climb_in.Given as goal

abbrev pub invariant-loop-way : goal.invariant-loop-way
invariant-loop-way l = IsFirstLink (UntilLink
    (AtItem l.ways (λ (k : ℕ) (w : DeclaredWay). IsClimbOf w l.event l.ranks l.gap)) l.way-index) l.found
