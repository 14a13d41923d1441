-- The units of a model have one list of declarations.
use Rattle.std.specs.Prelude.{◌≡◌, ℕ, List, [], ◌∷◌}
use Rattle.std.proofs.Common.{refl, sym, ap, subst, ◌∙◌}
use Rattle.ar_base.specs.Lists.{Along, AreDifferent}
use Rattle.ar_base.specs.Lists as along
use Rattle.ar_base.specs.declared.places.Place.{Place}
use Rattle.ar_base.proofs.Standing.{stands_none, different_more}
use Rattle.ar_meaning.specs.Image.{Assign_renames}
use Rattle.ar_meaning.specs.ImageInside.{IsNetImage}
use Rattle.ar_meaning.specs.Systems.{Assign}
use Rattle.ar_meaning.proofs.ImageWays.{along_map}
use Rattle.class_table.specs.Declaring.{FirstUses}
use Rattle.class_table.specs.Declaring.FirstUses.{none, known, first}
use Rattle.hierarchy.specs.Listing.{AreUnits}
use Rattle.hierarchy.specs.Models.{RootedModel}
use Rattle.hierarchy.specs.ModelsInside.{KeepsTextRules}
use Rattle.hierarchy.specs.Units.{UnitPath, Thing}
use Rattle.hierarchy.proofs.Apart.{units_different}
use Rattle.source_meaning.specs.Acts.{Placed, assigns_of, places_of}
use Rattle.source_meaning.specs.Systems.{Declarations, AreOf}
use Rattle.source_meaning.proofs.OneSystem.{Placed_same, along_both, asserted_same, variable_same, observer_same, event_same}
use Rattle.source_laws.specs.Tables.{SameRooted}
use Rattle.source_laws.specs.Declarations.{IsSameThing, SameDeclarations}

-- no symbol is listed twice
uses_different : (old xs new : List ℕ) → FirstUses old xs new → AreDifferent old → AreDifferent new
uses_different old xs new none d = d
uses_different old xs new (known {xs = ys} o h) d = uses_different old ys new h d
uses_different old xs new (first {xs = ys} {x = x} n h) d = uses_different _ ys new h (different_more old x d n)

symbols_different : {m : RootedModel} → KeepsTextRules m → AreDifferent m.declared.symbols
symbols_different k =
    uses_different [] _ _ k.rooted.declared.symbols (record { one = λ i j a p q. absurd (stands_none i a p) })

places_same : {xs ys : List Placed} → Along Placed_same xs ys → places_of xs ≡ places_of ys
places_same along.none = refl
places_same (along.one_and {a = x} {b = y} {xs = xs} {ys = ys} s more) =
    ap (λ (p : Place). p ∷ places_of xs) s.at ∙ ap (λ (ps : List Place). y.at ∷ ps) (places_same more)

module _ (m : RootedModel) (us : List UnitPath) (kept : KeepsTextRules m) (are : AreUnits m us) where
  net_same : (d e : Declarations) → AreOf m us d → AreOf m us e → IsNetImage IsSameThing d.net e.net
  net_same d e p q =
      let placed = asserted_same m (symbols_different kept) p.asserted q.asserted in
      let assigned = along_map {S = Assign_renames IsSameThing} (λ (z : Placed). z.assign) (λ (z : Placed). z.assign)
      (λ z w k. k.assign) placed in
      record {
        variables = along_both (variable_same m (symbols_different kept) (units_different kept are)) p.variables
            q.variables;
        assertions = subst (λ (zs : List (Assign Thing)). Along (Assign_renames IsSameThing) zs e.net.assertions)
            (sym p.assertions) (subst (λ (zs : List (Assign Thing)). Along (Assign_renames IsSameThing)
            (assigns_of p.placed) zs) (sym q.assertions) assigned);
        one = λ t u v g h. sym g ∙ h;
        one_back = λ t u v g h. g ∙ sym h;
      }

  -- declarations of the same units are alike
  pub declarations_same : (d e : Declarations) → SameRooted d.model e.model → AreOf m us d → AreOf m us e
      → SameDeclarations d e
  declarations_same d e agree p q =
      let placed = asserted_same m (symbols_different kept) p.asserted q.asserted in
      record {
        model = agree;
        units = p.units_are ∙ sym q.units_are;
        net = net_same d e p q;
        events = along_both (event_same m (symbols_different kept) (units_different kept are)) p.events q.events;
        observers = along_both (observer_same m (symbols_different kept)) p.observers q.observers;
        places = p.places ∙ places_same placed ∙ sym q.places;
      }
