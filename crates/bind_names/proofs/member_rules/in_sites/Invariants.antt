use Rattle.std.proofs.Common.{ℕ, List}
use Rattle.ar_base.specs.Lists.{Stands}
use Rattle.ar_base.specs.Numbers.{BodyId}
use Rattle.ar_base.specs.declared.places.Place.{Place}
use Rattle.class_table.specs.Earliest.{IsEarliest, Until}
use Rattle.class_table.specs.Members.{owned_at}
use Rattle.class_table.specs.TablesInside.{site_of}
use Rattle.class_table.proofs.Looping.{AtItem}
use Rattle.hierarchy.specs.Models.{RootedModel}
use Rattle.hierarchy.specs.Units.{UnitPath}
use Rattle.hierarchy.specs.Listing.{form_of}
use Rattle.bind_scopes.specs.Scopes.{AreScopes}
use Rattle.bind_names.specs.Breaking.{BreaksOneMember}
use Rattle.bind_names.proofs.member_rules.in_sites.Given as goal

abbrev pub invariant-loop-site : goal.invariant-loop-site
invariant-loop-site l = (m : RootedModel) (units : List UnitPath) (u : UnitPath) → AreScopes m units l.scopes
    → Stands units l.unit.n u
    → IsEarliest (Until (AtItem l.sites
    (λ (j : ℕ) (site : BodyId × ℕ) (q : Place). BreaksOneMember m l.rule u
    (form_of (owned_at m.declared (site_of site))) q)) l.site-index) l.found
