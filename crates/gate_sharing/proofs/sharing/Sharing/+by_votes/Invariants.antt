use Rattle.gate_sharing.proofs.sharing.Sharing.+by_votes.Given as goal

abbrev pub decreases-by_votes : goal.decreases-by_votes
decreases-by_votes l = l.levels
