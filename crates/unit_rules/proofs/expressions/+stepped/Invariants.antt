use Rattle.std.proofs.Common.{◌≡◌, map, sum, take}
use Rattle.unit_rules.specs.Sizes.{instr_size}
use Rattle.unit_rules.specs.Counting.{capped}
use Rattle.unit_rules.proofs.expressions.+stepped.Given as goal

abbrev pub invariant-steps-loop-instr : goal.invariant-steps-loop-instr
invariant-steps-loop-instr l = l.size ≡ capped (sum (map instr_size (take l.instr-index l.instrs)))
