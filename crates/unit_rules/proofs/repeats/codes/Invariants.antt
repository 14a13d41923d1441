use Rattle.std.proofs.Common.{◌≡◌, map, take}
use Rattle.hierarchy.specs.Settings.{target_word_of}
use Rattle.unit_rules.specs.Repeats.{code_of}
use Rattle.unit_rules.proofs.repeats.codes.Given as goal

-- the numbers of the words up to here
abbrev pub invariant-loop-word : goal.invariant-loop-word
invariant-loop-word l = l.codes.items ≡ map code_of (map target_word_of (take l.word-index l.words))
