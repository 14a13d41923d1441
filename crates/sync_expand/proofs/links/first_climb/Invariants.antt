use Rattle.sync_expand.specs.Links.{IsFirstLink, UntilLink}
use Rattle.sync_expand.proofs.FirstLinks.{AtItem, IsOfEvent}
use Rattle.sync_expand.proofs.links.first_climb.Given as goal

abbrev pub invariant-loop-place : goal.invariant-loop-place
invariant-loop-place l = IsFirstLink (UntilLink (AtItem l.events (IsOfEvent l.ranks l.gap)) l.place) l.found
