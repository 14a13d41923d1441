use Rattle.std.proofs.Common.{◌≡◌, ◌++◌}
use Rattle.run_words.specs.Generator.{flow, up_to}
use Rattle.run_words.proofs.generator.put_flows.Given as goal

abbrev pub invariant-loop-j : goal.invariant-loop-j
invariant-loop-j l = l.text.items ≡ l.initial.text.items ++ up_to flow l.j
