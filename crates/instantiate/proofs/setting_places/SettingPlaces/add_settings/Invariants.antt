use Rattle.std.proofs.Common.{◌≤◌, drop, length}
use Rattle.instantiate.specs.SettingPlaces.{AddsSettings}
use Rattle.instantiate.proofs.setting_places.SettingPlaces.add_settings.Given as goal

abbrev pub invariant-loop-place : goal.invariant-loop-place
invariant-loop-place l = record {
  within : l.place ≤ length l.settings;
  adds : AddsSettings (record { body = l.body; place = l.member }) l.place (drop l.place l.settings) l.initial.self l.self;
}

abbrev pub decreases-loop-place : goal.decreases-loop-place
decreases-loop-place l = l.place
