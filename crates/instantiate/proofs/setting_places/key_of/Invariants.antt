use Rattle.std.proofs.Common.{◌≡◌, ◌∷◌, map, take}
use Rattle.hierarchy.specs.Settings.{target_word_of}
use Rattle.unit_rules.specs.Repeats.{code_of}
use Rattle.instantiate.proofs.setting_places.key_of.Given as goal

abbrev pub invariant-loop-word : goal.invariant-loop-word
invariant-loop-word l = l.key.items ≡ l.body ∷ l.member ∷ map code_of (map target_word_of (take l.word-index l.words))
