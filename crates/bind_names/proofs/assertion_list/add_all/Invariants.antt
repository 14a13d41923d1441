use Rattle.std.proofs.Common.{◌≡◌, List, map, take}
use Rattle.std.specs.List.{flat_map}
use Rattle.ar_base.specs.Lists.{Stands}
use Rattle.class_table.specs.TablesInside.{site_of}
use Rattle.hierarchy.specs.Listing.{all_in, asserted}
use Rattle.hierarchy.specs.Models.{RootedModel}
use Rattle.hierarchy.specs.Units.{UnitPath, members_at}
use Rattle.unit_rules.specs.Searched.{forms_of}
use Rattle.bind_names.specs.Settled.{AreSettled}
use Rattle.bind_names.specs.Adding.{AddsAssertions}
use Rattle.bind_names.proofs.assertion_list.add_all.Given as goal

abbrev pub invariant-loop-site : goal.invariant-loop-site
invariant-loop-site l = (m : RootedModel) (units : List UnitPath) (u : UnitPath) → AreSettled m units l.scopes l.values
    → Stands units l.unit.n u → map site_of l.sites ≡ members_at m u
    → AddsAssertions m units l.scopes.tree.now
    (all_in u (flat_map asserted (forms_of m.declared (map site_of (take l.site-index l.sites))))) l.fn.acts.items
    l.acts.items
