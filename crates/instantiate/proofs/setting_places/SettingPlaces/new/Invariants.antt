use Rattle.class_table.specs.TablesInside.{HoldsDeclared}
use Rattle.hierarchy.specs.Models.{RootedModel}
use Rattle.instantiate.specs.SettingPlaces.{TellsFirst}
use Rattle.instantiate.proofs.setting_places.SettingPlaces.new.Given as goal

abbrev pub invariant-loop-place : goal.invariant-loop-place
invariant-loop-place l = (m : RootedModel) → HoldsDeclared m.declared l.classes → TellsFirst m l.place 0 l.places
