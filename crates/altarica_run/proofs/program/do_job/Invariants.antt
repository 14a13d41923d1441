use Rattle.altarica_run.proofs.program.do_job.Given as goal

-- the text begins behind what the sink has
abbrev pub ghosts-run_gathered : goal.ghosts-run_gathered
ghosts-run_gathered g a = record { start = g.K.Sink.state a.out.now }
