-- The stages of expanding, one behind the other.
use Rattle.std.proofs.Common.{◌≡◌, ℕ, ◌<◌, ◌≤◌, List, length, map, Option, Some, None, Result, Ok, Err, Vec, sum, ◌^◌, refl, sym, ap, ◌∙◌, subst, arith}
use Rattle.std.specs.Global.{Global}
use Rattle.ar_base.specs.Breach.{AreKept}
use Rattle.ar_base.specs.Stages.{refuses, passes, Keeps, kept, Fits, fits, passes_it}
use Rattle.ar_base.specs.StagesInside.{IsRefusal, rule_told, Meets}
use Rattle.ar_base.specs.Counts.{limit_of}
use Rattle.ar_base.specs.declared.counts.Count.{Count}
use Rattle.ar_base.specs.declared.counts.Count.TheVariants.{Ways as TheWays, WayParts}
use Rattle.ar_base.specs.declared.faults.RuleFault.{RuleFault}
use Rattle.ar_meaning.specs.Systems.{Way}
use Rattle.gts_core.specs.Bound.{declared_from}
use Rattle.gts_core.specs.declared.bound.DeclaredEvent.{DeclaredEvent}
use Rattle.sync_expand.specs.Counts.{AreCounts, all_parts}
use Rattle.sync_expand.specs.Expanding.{AreExpandable, AreWays, BreaksNumberedWayRule, ExpandsWays, have}
use Rattle.sync_expand.specs.Counting.{way_rules, greatest, most_ways, way_parts}
use Rattle.sync_expand.specs.Links.{Falls}
use Rattle.sync_expand.specs.Planned.{IsWayPlan}
use Rattle.sync_expand.specs.declared.plans.WayPlan.{WayPlan}
use Rattle.sync_expand.proofs.DeclaredLemmas.{declared_key, declared_keyed, declared_length}
use Rattle.sync_expand.proofs.KnownLemmas.{sum_within}
use Rattle.sync_expand.proofs.RuleLemmas.{kept_of}
use Rattle.sync_expand.proofs.WaysLemmas.{all_ways, are_counts, parts_total}

one_error : (answer : Result (List ℕ) RuleFault) (x y : RuleFault) → answer ≡ Err x → answer ≡ Err y → x ≡ y
one_error answer x y e f = cc

-- what passes a limit is within it
fits_ok : {A : Type 0} (count : Count) (counted : A → ℕ) (a b : A) (answer : Result A RuleFault) → answer ≡ Ok b
    → Fits count counted a answer → counted a ≤ limit_of count
fits_ok count counted a b answer e (fits l) = l
fits_ok count counted a b answer e (passes_it l) = absurd (cc)

fits_same : {A : Type 0} (count : Count) (counted : A → ℕ) (a b : A) (answer : Result A RuleFault) → answer ≡ Ok b
    → Fits count counted a answer → b ≡ a
fits_same count counted a b answer e (fits l) = cc
fits_same count counted a b answer e (passes_it l) = absurd (cc)

pub fits_within : {A : Type 0} (count : Count) (counted : A → ℕ) (a b : A) → Fits count counted a (Ok b)
    → counted a ≤ limit_of count
fits_within count counted a b h = fits_ok count counted a b (Ok b) refl h

pub fits_one : {A : Type 0} (count : Count) (counted : A → ℕ) (a b : A) → Fits count counted a (Ok b) → b ≡ a
fits_one count counted a b h = fits_same count counted a b (Ok b) refl h

-- what is known of declared events that keep the rule
pub record HaveAll (events : List DeclaredEvent) : Type 0 where
  pub keeps : AreKept way_rules (BreaksNumberedWayRule events)
  pub ways : List (List (Way ℕ))
  pub are : AreWays (declared_from 0 events) ways
  pub counts : AreCounts (declared_from 0 events) (map length ways)
  pub parts : way_parts ways ≡ all_parts (map length ways) (declared_from 0 events)

pub have_all : (events : List DeclaredEvent) (ranks : List ℕ) → Falls events ranks → AreExpandable events
    → HaveAll events
have_all events ranks falls sound =
    let w = all_ways events ranks falls sound in
    record {
      keeps = kept_of events ranks falls;
      ways = w.0;
      are = w.1;
      counts = are_counts (declared_from 0 events) (declared_keyed events) (declared_key events) w.0 w.1;
      parts = parts_total (declared_from 0 events) (declared_keyed events) (declared_key events) w.0 w.1;
    }

-- all ways have numbers
pub sum_small : (events : List DeclaredEvent) (h : HaveAll events) → AreExpandable events
    → greatest (map length h.ways) ≤ 256 → sum (map length h.ways) < 2 ^ 32
sum_small events h sound l =
    let s = sum_within (map length h.ways) l in
    let n = h.counts.long in
    let d = declared_length 0 events in
    omega (arith, s, n, d, sound.few)

module _ (events : List DeclaredEvent) where
  -- the rule is broken
  pub rule_refuses : (t : Option RuleFault) → IsRefusal (Keeps way_rules BreaksNumberedWayRule events) t
      → IsRefusal (ExpandsWays events) t
  rule_refuses (Some r) h = refuses h
  rule_refuses None h = tt

  module _ (keeps : AreKept way_rules (BreaksNumberedWayRule events)) (ways : List (List (Way ℕ)))
      (are : AreWays (declared_from 0 events) ways) where
    -- an event has too many ways
    pub ways_refuse : (t : Option RuleFault) → IsRefusal (Fits TheWays greatest (map length ways)) t
        → IsRefusal (ExpandsWays events) t
    ways_refuse (Some r) h = passes events (kept keeps) (passes ways (have are) (refuses (same (Err r) refl h)))
      where
        same : (answer : Result (List ℕ) RuleFault) → answer ≡ Err r → Fits TheWays greatest (map length ways) answer
            → Fits TheWays most_ways ways (Err r)
        same answer e (fits l) = absurd (cc)
        same answer e (passes_it l) = subst (λ (z : RuleFault). Fits TheWays most_ways ways (Err z))
            (one_error _ _ _ refl e) (passes_it l)
    ways_refuse None h = tt

    -- the synchronised ways have too many parts
    pub parts_refuse : most_ways ways ≤ 256 → way_parts ways ≡ all_parts (map length ways) (declared_from 0 events)
        → (t : Option RuleFault)
        → IsRefusal (Fits WayParts (λ c. all_parts c (declared_from 0 events)) (map length ways)) t
        → IsRefusal (ExpandsWays events) t
    parts_refuse m e (Some r) h = passes events (kept keeps)
        (passes ways (have are) (passes ways (fits m) (same (Err r) refl h)))
      where
        same : (answer : Result (List ℕ) RuleFault) → answer ≡ Err r
            → Fits WayParts (λ c. all_parts c (declared_from 0 events)) (map length ways) answer
            → Fits WayParts way_parts ways (Err r)
        same answer i (fits l) = absurd (cc)
        same answer i (passes_it l) = subst (λ (z : RuleFault). Fits WayParts way_parts ways (Err z))
            (one_error _ _ _ refl i) (passes_it (omega (arith, l, e)))
    parts_refuse m e None h = tt

    -- all is within the limits
    pub expands : most_ways ways ≤ 256 → way_parts ways ≤ 1000000 → ExpandsWays events (Ok ways)
    expands m p = passes events (kept keeps) (passes ways (have are) (passes ways (fits m) (fits p)))

  -- an error that tells a refusal of the stage
  pub meets_err : (r : Result (Vec WayPlan Global) RuleFault) (d e : RuleFault) → r ≡ Err d → d ≡ e
      → IsRefusal (ExpandsWays events) (rule_told e) → Meets ExpandsWays (λ ways plan. IsWayPlan events ways plan.items) events r
  meets_err r d e i j h = subst (λ (z : Result (Vec WayPlan Global) RuleFault). Meets ExpandsWays
      (λ ways plan. IsWayPlan events ways plan.items) events z) (sym (i ∙ ap Err j)) h
