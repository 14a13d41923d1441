-- From a text to its source.
use Rattle.std.proofs.Common.{ℕ, List, Option, Result, Ok, Err}
use Rattle.ar_base.specs.Stages.{Then, refuses, passes, Keeps, Fits}
use Rattle.ar_base.specs.declared.counts.Count.{Count}
use Rattle.ar_base.specs.declared.counts.Count.TheVariants.{Variables, Events, TreeNodes, Ways as TheWays, WayParts, ExpressionNodes}
use Rattle.ar_base.specs.declared.faults.RuleFault.{RuleFault}
use Rattle.ar_base.specs.declared.faults.RuleFault.TheVariants.{Rule, Limit, Memory}
use Rattle.ar_base.specs.declared.places.Place.{Place}
use Rattle.ar_syntax.specs.declared.items.Model.{Model}
use Rattle.hierarchy.specs.Models.{RootedModel}
use Rattle.hierarchy.specs.ModelsInside.{KeepsTextRules}
use Rattle.hierarchy.specs.Listing.{Unfolded}
use Rattle.unit_walks.specs.Unfolding.{Unfolds}
use Rattle.unit_rules.specs.Limits.{FitsLimits, variables_counted, events_counted, unfolded_nodes}
use Rattle.instantiate.specs.Unfolding.{Instantiates, unit_rules, unit_breaks}
use Rattle.source_meaning.specs.Rules.{name_rules}
use Rattle.source_meaning.specs.Systems.{Declarations, Declares, Binds, name_breaks}
use Rattle.sync_expand.specs.Counting.{way_rules}
use Rattle.gts_flatten.specs.Elaborating.{Elaborated, BreaksWayRule, HasSystem, Flattens, most_ways_counted, way_parts_counted, nodes_counted}
use Rattle.job_stages.specs.Elaborates.{Parses, Tables, rooted, Systems, Ruled, passes as ruled_passes, breaks, exceeds, Elaborates}
use Rattle.job_stages.specs.declared.refusals.Refusal.TheVariants as refusal
use Rattle.existence_laws.specs.Answered.{HasAnswer}
use Rattle.existence_laws.proofs.Stages.{then_answered, keeps_answered, fits_answered}
use Rattle.existence_laws.proofs.System.{system_of}
use Rattle.existence_laws.proofs.Units.{unfolds_some}

-- No stage answers want of memory

then_told : {A B C : Type 0} (first : A → Result B RuleFault → Type 0) (second : B → Result C RuleFault → Type 0)
    → ((a : A) → first a (Err Memory) → ⊥) → ((b : B) → second b (Err Memory) → ⊥) → (a : A)
    → Then first second a (Err Memory) → ⊥
then_told first second f s a (refuses h) = f a h
then_told first second f s a (passes b h g) = s b g

keeps_told : {A : Type 0} (rules : List ℕ) (breaks : A → ℕ → Place → Type 0) (a : A) → Keeps rules breaks a (Err Memory) → ⊥
keeps_told rules broken_by a h = elim h [ ]

fits_told : {A : Type 0} (count : Count) (counted : A → ℕ) (a : A) → Fits count counted a (Err Memory) → ⊥
fits_told count counted a h = elim h [ ]

tables_told : (main : Option (List ℕ)) (a : Model) → Tables main a (Err Memory) → ⊥
tables_told main a h = elim h [ ]

unfolds_told : (m : RootedModel) → Unfolds m (Err Memory) → ⊥
unfolds_told m h = elim h [ ]

declares_told : (t : Unfolded) → Declares t (Err Memory) → ⊥
declares_told t h = elim h [ ]

has_told : (d : Declarations) → HasSystem d (Err Memory) → ⊥
has_told d h = elim h [ ]

abbrev Counted : Elaborated → Result Elaborated RuleFault → Type 0
Counted = Then (Fits TheWays most_ways_counted) (Then (Fits WayParts way_parts_counted) (Fits ExpressionNodes nodes_counted))

systems_told : (main : Option (List ℕ)) (model : Model) → Systems main model (Err Memory) → ⊥
systems_told main = then_told (Tables main) (Then Instantiates (Then Binds Flattens)) (tables_told main)
    (then_told Instantiates (Then Binds Flattens)
    (then_told Unfolds (Then FitsLimits (Keeps unit_rules unit_breaks)) unfolds_told
    (then_told FitsLimits (Keeps unit_rules unit_breaks)
    (then_told (Fits Variables variables_counted) (Then (Fits Events events_counted) (Fits TreeNodes unfolded_nodes))
    (fits_told Variables variables_counted)
    (then_told (Fits Events events_counted) (Fits TreeNodes unfolded_nodes) (fits_told Events events_counted)
    (fits_told TreeNodes unfolded_nodes)))
    (keeps_told unit_rules unit_breaks)))
    (then_told Binds Flattens
    (then_told (Keeps name_rules name_breaks) Declares (keeps_told name_rules name_breaks) declares_told)
    (then_told (Keeps way_rules BreaksWayRule) (Then HasSystem Counted) (keeps_told way_rules BreaksWayRule)
    (then_told HasSystem Counted has_told
    (then_told (Fits TheWays most_ways_counted) (Then (Fits WayParts way_parts_counted) (Fits ExpressionNodes nodes_counted))
    (fits_told TheWays most_ways_counted)
    (then_told (Fits WayParts way_parts_counted) (Fits ExpressionNodes nodes_counted)
    (fits_told WayParts way_parts_counted) (fits_told ExpressionNodes nodes_counted)))))))

ruled_answered : {A B : Type 0} (stage : A → Result B RuleFault → Type 0) (a : A) → (stage a (Err Memory) → ⊥)
    → HasAnswer (stage a) → HasAnswer (Ruled stage a)
ruled_answered {A} {B} stage a never f k = f by
  where
    by : (x : Result B RuleFault) → stage a x → ⊥
    by (Ok b) h = k (Ok b) (ruled_passes h)
    by (Err (Rule r p)) h = k (Err (refusal.Rule r p)) (breaks h)
    by (Err (Limit c)) h = k (Err (refusal.Size c)) (exceeds h)
    by (Err Memory) h = never h

-- The stages

pub limits_answered : (t : Unfolded) → HasAnswer (FitsLimits t)
limits_answered t =
    then_answered (Fits Variables variables_counted) (Then (Fits Events events_counted) (Fits TreeNodes unfolded_nodes)) t
    (fits_answered Variables variables_counted t)
    (λ u h. then_answered (Fits Events events_counted) (Fits TreeNodes unfolded_nodes) u (fits_answered Events events_counted u)
    (λ v g. fits_answered TreeNodes unfolded_nodes v))

counted_answered : (x : Elaborated) → HasAnswer (Counted x)
counted_answered x =
    then_answered (Fits TheWays most_ways_counted) (Then (Fits WayParts way_parts_counted) (Fits ExpressionNodes nodes_counted)) x
    (fits_answered TheWays most_ways_counted x)
    (λ u h. then_answered (Fits WayParts way_parts_counted) (Fits ExpressionNodes nodes_counted) u
    (fits_answered WayParts way_parts_counted u) (λ v g. fits_answered ExpressionNodes nodes_counted v))

keeps_text : (main : Option (List ℕ)) (model : Model) (m : RootedModel) → Tables main model (Ok m) → KeepsTextRules m
keeps_text main model m (rooted r k) = record { model = model; main = main; rooted = r; kept = k }

module _ (main : Option (List ℕ)) (text : List ℕ) (parsed : HasAnswer (Parses text))
    (tabled : (model : Model) → Parses text (Ok model) → HasAnswer (Tables main model))
    (declared : (m : RootedModel) (t u : Unfolded) → KeepsTextRules m → Instantiates m (Ok t)
    → Keeps name_rules name_breaks t (Ok u) → HasAnswer (Declares u)) where
  instantiated : (m : RootedModel) → KeepsTextRules m → HasAnswer (Instantiates m)
  instantiated m k = then_answered Unfolds (Then FitsLimits (Keeps unit_rules unit_breaks)) m
      (λ no. let u = unfolds_some m k in no u.0 u.1)
      (λ t h. then_answered FitsLimits (Keeps unit_rules unit_breaks) t (limits_answered t)
      (λ u g. keeps_answered unit_rules unit_breaks u))

  bound : (m : RootedModel) (t : Unfolded) → KeepsTextRules m → Instantiates m (Ok t) → HasAnswer (Binds t)
  bound m t k i = then_answered (Keeps name_rules name_breaks) Declares t (keeps_answered name_rules name_breaks t)
      (λ u h. declared m t u k i h)

  flattened : (m : RootedModel) (t : Unfolded) (d : Declarations) → KeepsTextRules m → Instantiates m (Ok t)
      → Binds t (Ok d) → HasAnswer (Flattens d)
  flattened m t d k i b = then_answered (Keeps way_rules BreaksWayRule) (Then HasSystem Counted) d
      (keeps_answered way_rules BreaksWayRule d)
      (λ e h. then_answered HasSystem Counted e (λ no. let s = system_of m t d e i b h in no (Ok s.0) s.1)
      (λ x g. counted_answered x))

  systems : (model : Model) → Parses text (Ok model) → HasAnswer (Systems main model)
  systems model p = then_answered (Tables main) (Then Instantiates (Then Binds Flattens)) model (tabled model p)
      (λ m h. let k = keeps_text main model m h in
      then_answered Instantiates (Then Binds Flattens) m (instantiated m k)
      (λ t i. then_answered Binds Flattens t (bound m t k i) (λ d b. flattened m t d k i b)))

  pub answered : HasAnswer (Elaborates main text)
  answered = then_answered Parses (Ruled (Systems main)) text parsed
      (λ model p. ruled_answered (Systems main) model (systems_told main model) (systems model p))
