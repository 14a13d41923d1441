use Rattle.std.proofs.Common.{◌≡◌}
use Rattle.class_table.specs.Members.{own_at}
use Rattle.hierarchy.specs.Models.{RootedModel}
use Rattle.instantiate.specs.SettingPlaces.{TellsFirst}
use Rattle.instantiate.proofs.setting_places.SettingPlaces.add_body.Given as goal

abbrev pub invariant-loop-place : goal.invariant-loop-place
invariant-loop-place l = (m : RootedModel) → own_at m.declared l.body ≡ l.own
    → TellsFirst m l.body 0 l.initial.self → TellsFirst m l.body l.place l.self
