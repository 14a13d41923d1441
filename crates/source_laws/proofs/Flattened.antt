-- The systems of declarations that are alike have one answer.
use Rattle.std.proofs.Common.{◌≡◌, ◌↔◌, ℕ, Result, sym, subst}
use Rattle.ar_base.specs.Stages.{Then, Keeps, Fits}
use Rattle.ar_base.specs.declared.counts.Count.TheVariants.{Ways as TheWays, WayParts, ExpressionNodes}
use Rattle.ar_base.specs.declared.faults.RuleFault.{RuleFault}
use Rattle.ar_base.specs.declared.places.Place.{Place}
use Rattle.ar_meaning.specs.ExpandInside.{AreKeyedEvents}
use Rattle.ar_meaning.specs.ImageInside.{IsImage}
use Rattle.ar_meaning.specs.Systems.{System}
use Rattle.hierarchy.specs.Units.{Thing}
use Rattle.source_meaning.specs.Systems.{Declarations, HasDeclarations}
use Rattle.sync_expand.specs.Counting.{way_rules}
use Rattle.gts_flatten.specs.Elaborating.{Elaborated, BreaksWayRule, most_ways_counted, way_parts_counted, nodes_counted, HasSystem, has, Flattens}
use Rattle.source_laws.specs.Answers.{SameAnswer}
use Rattle.source_laws.proofs.Alike.{AreAlike, give, then_alike, told, fits_alike, keeps_alike}
use Rattle.source_laws.specs.Declarations.{IsSameThing, SameDeclarations}
use Rattle.source_laws.specs.Sources.{SameSource}

-- declarations that are alike, and no two events of which have one key
pub record AlikeByKey (d e : Declarations) : Type 0 where
  pub same : SameDeclarations d e
  pub keyed : AreKeyedEvents e.events

module _ (rules : (d e : Declarations) → SameDeclarations d e → (r : ℕ) (p : Place)
    → (BreaksWayRule d r p ↔ BreaksWayRule e r p))
    (systems : (d e : Declarations) → SameDeclarations d e → AreKeyedEvents e.events → (x y : System Thing)
    → HasDeclarations d x → HasDeclarations e y → IsImage IsSameThing x y)
    (ways : (x y : Elaborated) → SameSource x y → most_ways_counted x ≡ most_ways_counted y)
    (parts : (x y : Elaborated) → SameSource x y → way_parts_counted x ≡ way_parts_counted y)
    (nodes : (x y : Elaborated) → SameSource x y → nodes_counted x ≡ nodes_counted y) where
  has_alike : (d e : Declarations) → AlikeByKey d e → (a b : Result Elaborated RuleFault) → HasSystem d a
      → HasSystem e b → AreAlike SameSource a b
  has_alike d e s _ _ (has {x = x} i h) (has {x = y} j k) = give (record {
    declarations = subst (λ (z : Declarations). SameDeclarations z y.declarations) (sym i)
        (subst (λ (z : Declarations). SameDeclarations d z) (sym j) s.same);
    system = systems d e s.same s.keyed x.system y.system h k;
  })

  limits_alike : (x y : Elaborated) → SameSource x y → (a b : Result Elaborated RuleFault)
      → Then (Fits TheWays most_ways_counted) (Then (Fits WayParts way_parts_counted) (Fits ExpressionNodes nodes_counted))
      x a
      → Then (Fits TheWays most_ways_counted) (Then (Fits WayParts way_parts_counted) (Fits ExpressionNodes nodes_counted))
      y b
      → AreAlike SameSource a b
  limits_alike =
      then_alike SameSource SameSource SameSource (Fits TheWays most_ways_counted)
      (Then (Fits WayParts way_parts_counted) (Fits ExpressionNodes nodes_counted))
      (fits_alike SameSource TheWays most_ways_counted ways)
      (then_alike SameSource SameSource SameSource (Fits WayParts way_parts_counted) (Fits ExpressionNodes nodes_counted)
      (fits_alike SameSource WayParts way_parts_counted parts)
      (fits_alike SameSource ExpressionNodes nodes_counted nodes))

  -- the stage has one answer
  pub system_alike : (d e : Declarations) → AlikeByKey d e → (a b : Result Elaborated RuleFault) → Flattens d a
      → Flattens e b → SameAnswer SameSource a b
  system_alike d e s a b h k =
      let limits = Then (Fits TheWays most_ways_counted)
      (Then (Fits WayParts way_parts_counted) (Fits ExpressionNodes nodes_counted)) in
      told SameSource a b
      (then_alike AlikeByKey AlikeByKey SameSource (Keeps way_rules BreaksWayRule) (Then HasSystem limits)
      (keeps_alike AlikeByKey way_rules BreaksWayRule (λ x y q r p. rules x y q.same r p))
      (then_alike AlikeByKey SameSource SameSource HasSystem limits has_alike limits_alike) d e s a b h k)
