use Rattle.mode_diagrams.proofs.paths.+with_path.Given as goal

abbrev pub decreases-with_path : goal.decreases-with_path
decreases-with_path l = l.mode
