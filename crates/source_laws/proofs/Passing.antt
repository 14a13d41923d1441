-- What the binding passes on: declarations of the units, no two of whose events have one key.
use Rattle.std.proofs.Common.{◌≡◌, List, Ok, sym, ◌∙◌, subst}
use Rattle.ar_base.specs.Lists.{Stands, AreDifferent}
use Rattle.ar_base.specs.Stages.{passes, kept}
use Rattle.ar_base.proofs.Standing.{along_back}
use Rattle.ar_meaning.specs.ExpandInside.{AreKeyedEvents}
use Rattle.hierarchy.specs.Models.{RootedModel}
use Rattle.hierarchy.specs.Units.{UnitPath, Thing}
use Rattle.hierarchy.specs.Listing.{Unfolded, events}
use Rattle.source_meaning.specs.Systems.{Declarations, AreOf, Binds, declares}

pub bound_of : (t : Unfolded) (d : Declarations) → Binds t (Ok d) → AreOf t.model t.units d
bound_of t d (passes u (kept k) (declares of)) = of

-- where no event is listed twice
pub events_keyed : (m : RootedModel) (units : List UnitPath) (d : Declarations) → AreDifferent (events m units)
    → AreOf m units d → AreKeyedEvents d.events
events_keyed m units d different of = record {
  one = λ i j x y p q same.
      let a = along_back (events m units) d.events of.events i x p in
      let b = along_back (events m units) d.events of.events j y q in
      let k : b.0 ≡ a.0 = sym b.2.key ∙ sym same ∙ a.2.key in
      different.one i j a.0 a.1 (subst (λ (t : Thing). Stands (events m units) j t) k b.1);
}
