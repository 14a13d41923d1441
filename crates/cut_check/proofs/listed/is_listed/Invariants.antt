use Rattle.std.proofs.Common.{take}
use Rattle.cut_check.specs.Flat.{chain_lines, flat_event_numbers}
use Rattle.cut_check.specs.Verdicts.{IsListed}
use Rattle.cut_check.proofs.listed.is_listed.Given as goal

-- the lines so far have other events
abbrev pub invariant-loop-chain : goal.invariant-loop-chain
invariant-loop-chain l = IsListed (chain_lines l.gts (take l.chain-index l.chains)) (flat_event_numbers l.cut) → ⊥
