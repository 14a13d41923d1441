use Rattle.std.proofs.Common.{List, map}
use Rattle.ar_base.specs.Lists.{Stands}
use Rattle.hierarchy.specs.Models.{RootedModel}
use Rattle.hierarchy.specs.Units.{UnitPath}
use Rattle.hierarchy.specs.Settings.{target_word_of}
use Rattle.hierarchy.specs.Tie.{AreOutlines}
use Rattle.class_table.specs.declared.tables.Classes.{Classes}
use Rattle.instantiate.specs.SettingPlaces.{TellsSettings}
use Rattle.instantiate.proofs.Upward.{IsOn}
use Rattle.instantiate.proofs.outermost.outermost.Given as goal

abbrev pub invariant-loop-level : goal.invariant-loop-level
invariant-loop-level l = (m : RootedModel) (units : List UnitPath) (classes : Classes) (u : UnitPath)
    → AreOutlines m units classes l.outlines → TellsSettings m l.settings → Stands units l.fn.unit.n u
    → IsOn m units u (map target_word_of l.fn.target.items) l.at.n l._level (map target_word_of l.target.items) l.found
