use Rattle.unit_walks.proofs.settling.+id_of.Given as goal

-- the unit above has a lesser number
abbrev pub decreases-id_of : goal.decreases-id_of
decreases-id_of l = l.number
