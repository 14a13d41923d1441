use Rattle.std.proofs.Common.{List, take}
use Rattle.ar_base.specs.Lists.{Stands}
use Rattle.hierarchy.specs.Models.{RootedModel}
use Rattle.hierarchy.specs.Units.{UnitPath}
use Rattle.hierarchy.specs.Listing.{events}
use Rattle.hierarchy.specs.Tie.{IsTreeOf}
use Rattle.bind_names.specs.Hiding.{HidesIn, Marks}
use Rattle.bind_names.proofs.Sited.{forms_of_sites}
use Rattle.bind_names.proofs.hiding.hide_in.Given as goal

abbrev pub invariant-loop-site : goal.invariant-loop-site
invariant-loop-site l = (m : RootedModel) (units : List UnitPath) (u : UnitPath) → IsTreeOf m units l.scopes.tree.now
    → Stands units l.unit.n u
    → Marks (events m units) (HidesIn m u (forms_of_sites m.declared (take l.site-index l.sites))) l.fn.marks.items
    l.marks.items
