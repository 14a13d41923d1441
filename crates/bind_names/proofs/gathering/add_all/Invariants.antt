use Rattle.std.proofs.Common.{List, take}
use Rattle.ar_base.specs.Lists.{Stands}
use Rattle.hierarchy.specs.Models.{RootedModel}
use Rattle.hierarchy.specs.Units.{UnitPath}
use Rattle.bind_names.specs.Settled.{AreSettled}
use Rattle.bind_names.specs.Ways.{AreMembersOfUnit}
use Rattle.bind_names.specs.Gathering.{AddsMembers}
use Rattle.bind_names.proofs.Sited.{forms_of_sites}
use Rattle.bind_names.proofs.gathering.add_all.Given as goal

abbrev pub invariant-loop-site : goal.invariant-loop-site
invariant-loop-site l = (m : RootedModel) (units : List UnitPath) (u : UnitPath) → AreSettled m units l.scopes l.values
    → Stands units l.unit.n u
    → AreMembersOfUnit m u (forms_of_sites m.declared l.sites)
    → AddsMembers m units l.scopes.tree.now u (forms_of_sites m.declared (take l.site-index l.sites)) l.fn.events.items
    l.events.items
