use Rattle.std.proofs.Common.{◌≡◌, ◌++◌}
use Rattle.run_words.specs.Generator.{component, up_to}
use Rattle.run_words.proofs.generator.put_components.Given as goal

abbrev pub invariant-loop-i : goal.invariant-loop-i
invariant-loop-i l = l.text.items ≡ l.initial.text.items ++ up_to component l.i
