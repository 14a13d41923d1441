-- The dropped events and the forest of a job.
use Rattle.std.proofs.Common.{◌≡◌, ◌≤◌, ℕ, length, Option, List, [], Ok, Err, map, refl, sym, ◌∙◌, ap, subst}
use Rattle.ar_base.specs.Lists.{IsOneOf}
use Rattle.ar_base.specs.NumbersInside.{EventId}
use Rattle.ar_base.specs.Texts.{text_at}
use Rattle.ar_base.proofs.Standing.{one_none}
use Rattle.typed_expr.specs.PairsInside.{turned_pairs}
use Rattle.ar_meaning.specs.Systems.{System}
use Rattle.ar_meaning.specs.FlatOf.{IsNumber}
use Rattle.ar_meaning.specs.TraceText.{Naming}
use Rattle.ar_meaning.proofs.FlatSystems.{flat_back}
use Rattle.ar_firing.specs.Rules.{Rule, rule_number, Spot, AtEvent, AtUnit, AtVariable, AtObserver, AtWhole, IsFirstBroken, KeepsUpTo}
use Rattle.ar_firing.proofs.ImageRules.{first_broken_there, keeps_asked_there}
use Rattle.gts_core.specs.View.{Views}
use Rattle.gts_core.specs.declared.system.GtsParts.{GtsParts}
use Rattle.gts_flatten.specs.Elaborating.{Elaborated}
use Rattle.gts_flatten.specs.Flat.{IsFlat}
use Rattle.hierarchy.specs.Listing.{variables}
use Rattle.cut_text.specs.ForestPrinted.{edge_count}
use Rattle.mode_trees.specs.Ways.{OwnTheirWays}
use Rattle.mode_trees.specs.Views.{trees_of, number_in}
use Rattle.mode_trees.specs.declared.forests.Forest.{Forest}
use Rattle.static_fragment.specs.Recognised.{IsRecognisedUpTo, IsOutsideUpTo, spot_of}
use Rattle.static_fragment.specs.declared.faults.Spot as there
use Rattle.job_stages.specs.Passing.{IsStageOf, AreDropped, HasForest}
use Rattle.job_stages.specs.Spots.{path_in}
use Rattle.job_stages.specs.Stages.{Ready, Static, keeps, outside, spot_path}
use Rattle.job_stages.specs.declared.refusals.Refusal.{Refusal}
use Rattle.job_stages.specs.declared.refusals.Refusal.TheVariants.{Outside}
use Rattle.job_stages.specs.declared.stops.Stop.TheVariants.{Refused}

-- no dropped events
pub none_dropped : (p : GtsParts) (events : List EventId) → events ≡ [] → AreDropped p [] events
none_dropped p events e = record {
  are = sym (ap (λ (z : List EventId). map (λ (n : EventId). n.n) z) e);
  inside = record { each = λ n o. absurd (one_none n (subst (λ (z : List EventId). IsOneOf z n) e o)) };
}

-- the source has the rules that its flat system keeps or breaks, and calls its things alike
module _ (x : Elaborated) (p : GtsParts) (of : IsFlat x p) (dropped : List ℕ) where
  pub source_keeps : (order : Option ℕ) → KeepsUpTo order of.flat dropped → KeepsUpTo order x.system dropped
  source_keeps order h =
      let things = variables x.declarations.model x.declarations.units in
      keeps_asked_there (turned_pairs (IsNumber things)) of.flat x.system (flat_back things x.system of.flat of.is_flat) dropped
      h

  pub source_breaks : {rule : Rule} {spot : Spot} → IsFirstBroken of.flat dropped rule spot
      → IsFirstBroken x.system dropped rule spot
  source_breaks h =
      let things = variables x.declarations.model x.declarations.units in
      first_broken_there (turned_pairs (IsNumber things)) of.flat x.system (flat_back things x.system of.flat of.is_flat)
      dropped h

  pub same_path : (s : Spot) → path_in p s ≡ spot_path x s
  same_path (AtEvent n) = ap (λ (z : Naming). text_at z.events n) of.names
  same_path (AtUnit n) = ap (λ (z : List (List ℕ)). text_at z n) of.units_are
  same_path (AtVariable n) = ap (λ (z : Naming). text_at z.variables n) of.names
  same_path (AtObserver n) = ap (λ (z : Naming). text_at z.observers n) of.names
  same_path AtWhole = refl

-- The forest of a job

module _ (w : Ready) (p : GtsParts) (of : IsFlat w.source p) where
  pub forest_given : (f : Forest)
      → ((system : System ℕ) → Views p system → IsRecognisedUpTo w.order system w.dropped (trees_of (number_in p) f))
      → OwnTheirWays p f.trees.items → edge_count f.trees.items ≤ length p.events.items
      → IsStageOf (HasForest p) (Static w) (Ok f)
  forest_given f all own few = (
    w,
    keeps (source_keeps w.source p of w.dropped w.order (all of.flat of.views).keeps),
    record {
      own = own;
      few = few;
      keeps = λ flat views. (all flat views).keeps;
      is_forest = λ flat views. (all flat views).forest;
    },
  )

  pub outside_given : (number : ℕ) (path : List ℕ) (s : there.Spot)
      → IsOutsideUpTo w.order of.flat w.dropped number s → path ≡ path_in p (spot_of s)
      → IsStageOf {X = Forest} (HasForest p) (Static w) (Err (Refused (Outside number path)))
  outside_given number path s out e =
      subst (λ (z : Refusal). Static w (Err z))
      (sym (refusals number (rule_number out.rule) path (spot_path w.source (spot_of s)) (sym out.is_rule)
      (e ∙ same_path w.source p of w.dropped (spot_of s))))
      (outside out.asked (source_breaks w.source p of w.dropped out.first))
    where
      refusals : (m n : ℕ) (a b : List ℕ) → m ≡ n → a ≡ b → Outside m a ≡ Outside n b
      refusals m n a b i j = cc
