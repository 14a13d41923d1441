use Rattle.std.proofs.Common.{ℕ}
use Rattle.ar_base.specs.Numbers.{BodyId}
use Rattle.ar_base.specs.declared.places.Place.{Place}
use Rattle.class_table.specs.Declaring.{Declared}
use Rattle.class_table.specs.Earliest.{IsEarliest, Until}
use Rattle.class_table.specs.Members.{owned_at}
use Rattle.class_table.specs.TablesInside.{HoldsDeclared, site_of}
use Rattle.class_table.proofs.Looping.{AtItem}
use Rattle.hierarchy.specs.Listing.{form_of}
use Rattle.unit_rules.specs.TypingInside.{KnowsPlaces}
use Rattle.unit_rules.specs.Searched.{BreaksOne}
use Rattle.unit_rules.proofs.declarations.wrong_in.Given as goal

abbrev pub invariant-loop-site : goal.invariant-loop-site
invariant-loop-site l = (d : Declared) → HoldsDeclared d l.classes → KnowsPlaces l.classes.types.items l.places
    → IsEarliest (Until (AtItem l.sites
    (λ (j : ℕ) (site : BodyId × ℕ) (q : Place). BreaksOne d (form_of (owned_at d (site_of site))) q)) l.site-index)
    l.found
