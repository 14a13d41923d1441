use Rattle.std.proofs.Common.{◌≡◌, map, sum, take}
use Rattle.unit_rules.specs.Sizes.{setting_size}
use Rattle.unit_rules.specs.Counting.{capped}
use Rattle.unit_rules.proofs.members.settings_size.Given as goal

abbrev pub invariant-loop-setting : goal.invariant-loop-setting
invariant-loop-setting l = l.size ≡ capped (sum (map setting_size (take l.setting-index l.settings)))
