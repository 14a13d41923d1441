-- What the stages of a job refuse, from the reading of its text to the system that it means.
use Rattle.std.proofs.Common.{◌<◌, ◌≤◌, ℕ, List, Ok, Err}
use Rattle.ar_base.specs.Breach.{IsBroken, AreKept}
use Rattle.ar_base.specs.Counts.{limit_of}
use Rattle.ar_base.specs.Stages.{refuses, passes, kept, broken, fits, passes_it}
use Rattle.ar_base.specs.declared.counts.Count.{Count}
use Rattle.ar_base.specs.declared.counts.Count.TheVariants as count
use Rattle.ar_base.specs.declared.faults.RuleFault.{RuleFault}
use Rattle.ar_base.specs.declared.faults.RuleFault.TheVariants as fault
use Rattle.ar_base.specs.declared.places.Place.{Place}
use Rattle.ar_io.specs.Outside.{Told}
use Rattle.ar_parser.specs.Models.{Reads}
use Rattle.ar_syntax.specs.declared.items.Model.{Model}
use Rattle.gts_flatten.specs.Elaborating.{Elaborated, BreaksWayRule, HasSystem, Flattens, most_ways_counted, way_parts_counted, nodes_counted}
use Rattle.hierarchy.specs.Listing.{Unfolded, AreFirstUnits}
use Rattle.hierarchy.specs.Models.{RootedModel}
use Rattle.hierarchy.specs.Units.{UnitPath}
use Rattle.instantiate.specs.Unfolding.{Instantiates, unit_rules, unit_breaks}
use Rattle.run_words.specs.declared.jobs.Asked.{Asked}
use Rattle.source_meaning.specs.Rules.{name_rules}
use Rattle.source_meaning.specs.Systems.{Declarations, Binds, name_breaks}
use Rattle.sync_expand.specs.Counting.{way_rules}
use Rattle.unit_rules.specs.Limits.{FitsLimits, variables_counted, events_counted, unfolded_nodes}
use Rattle.unit_walks.specs.Unfolding.{Unfolds, over, IsFirstOver}
use Rattle.job_stages.specs.Elaborates.{Systems, Tables, reads, Ruled, breaks, exceeds}
use Rattle.job_stages.specs.Files.{files_of, Loaded, IsText}
use Rattle.job_stages.specs.Stages.{Passes, loaded}
use Rattle.job_stages.specs.declared.refusals.Refusal.{Refusal}
use Rattle.job_stages.specs.declared.refusals.Refusal.TheVariants.{Rule, Size}

module _ (files : List ℕ → Told) (asked : Asked) (texts : List (List ℕ)) (text : List ℕ)
    (is_loaded : Loaded files (files_of asked) (Ok texts)) (is_text : IsText asked texts text) (m : Model)
    (is_read : Reads text m) where
  -- the model is refused on its way to a system
  of_model : (r : Refusal) → Ruled (Systems asked.job.main) m (Err r) → Passes files asked (Err r)
  of_model r h = loaded texts is_loaded is_text (refuses (passes m (reads is_read) h))

  pub of_rule : (r : ℕ) (p : Place) → Systems asked.job.main m (Err (fault.Rule r p)) → Passes files asked (Err (Rule r p))
  of_rule r p h = of_model (Rule r p) (breaks h)

  pub of_limit : (n : Count) → Systems asked.job.main m (Err (fault.Limit n)) → Passes files asked (Err (Size n))
  of_limit n h = of_model (Size n) (exceeds h)

  module _ (root : RootedModel) (is_table : Tables asked.job.main m (Ok root)) where
    -- it keeps the rules L1 to L5, and its units are too deep or too many
    pub of_units : (units : List UnitPath) (n : Count) → AreFirstUnits root units → IsFirstOver n units
        → Passes files asked (Err (Size n))
    of_units units n first h = of_limit n (passes root is_table (refuses (refuses (over first h))))

    module _ (t : Unfolded) (unfolds : Unfolds root (Ok t)) where
      -- or its units are within their limits, and its variables, events or nodes are not, or a rule of L6 to L9 is
      -- broken
      of_things : (n : Count) → FitsLimits t (Err (fault.Limit n)) → Passes files asked (Err (Size n))
      of_things n h = of_limit n (passes root is_table (refuses (passes t unfolds (refuses h))))

      pub of_variables : limit_of count.Variables < variables_counted t → Passes files asked (Err (Size count.Variables))
      of_variables h = of_things count.Variables (refuses (passes_it h))

      pub of_events : variables_counted t ≤ limit_of count.Variables → limit_of count.Events < events_counted t
          → Passes files asked (Err (Size count.Events))
      of_events v h = of_things count.Events (passes t (fits v) (refuses (passes_it h)))

      pub of_nodes : variables_counted t ≤ limit_of count.Variables → events_counted t ≤ limit_of count.Events
          → limit_of count.TreeNodes < unfolded_nodes t → Passes files asked (Err (Size count.TreeNodes))
      of_nodes v e h = of_things count.TreeNodes (passes t (fits v) (passes t (fits e) (passes_it h)))

      pub of_unit_rules : FitsLimits t (Ok t) → (r : ℕ) (p : Place) → IsBroken unit_rules (unit_breaks t) r p
          → Passes files asked (Err (Rule r p))
      of_unit_rules l r p h = of_rule r p (passes root is_table (refuses (passes t unfolds (passes t l (broken h)))))

    module _ (t : Unfolded) (is_tree : Instantiates root (Ok t)) where
      -- or it keeps the rules L6 to L9 as well, and a rule of L10 to L13 is broken
      pub of_name_rules : (r : ℕ) (p : Place) → IsBroken name_rules (name_breaks t) r p
          → Passes files asked (Err (Rule r p))
      of_name_rules r p h = of_rule r p (passes root is_table (passes t is_tree (refuses (refuses (broken h)))))

      module _ (d : Declarations) (binds : Binds t (Ok d)) where
        -- or it keeps these, and L14 is broken, or the system is too large
        flat_refused : (f : RuleFault) → Flattens d (Err f) → Systems asked.job.main m (Err f)
        flat_refused f h = passes root is_table (passes t is_tree (passes d binds h))

        pub of_way_rules : (p : Place) → IsBroken way_rules (BreaksWayRule d) 14 p → Passes files asked (Err (Rule 14 p))
        of_way_rules p h = of_rule 14 p (flat_refused (fault.Rule 14 p) (refuses (broken h)))

        module _ (keeps : AreKept way_rules (BreaksWayRule d)) (x : Elaborated) (has : HasSystem d (Ok x)) where
          pub of_ways : limit_of count.Ways < most_ways_counted x → Passes files asked (Err (Size count.Ways))
          of_ways h = of_limit count.Ways (flat_refused (fault.Limit count.Ways)
              (passes d (kept keeps) (passes x has (refuses (passes_it h)))))

          pub of_parts : most_ways_counted x ≤ limit_of count.Ways → limit_of count.WayParts < way_parts_counted x
              → Passes files asked (Err (Size count.WayParts))
          of_parts w h = of_limit count.WayParts (flat_refused (fault.Limit count.WayParts)
              (passes d (kept keeps) (passes x has (passes x (fits w) (refuses (passes_it h))))))

          pub of_expressions : most_ways_counted x ≤ limit_of count.Ways
              → way_parts_counted x ≤ limit_of count.WayParts → limit_of count.ExpressionNodes < nodes_counted x
              → Passes files asked (Err (Size count.ExpressionNodes))
          of_expressions w q h = of_limit count.ExpressionNodes (flat_refused (fault.Limit count.ExpressionNodes)
              (passes d (kept keeps) (passes x has (passes x (fits w) (passes x (fits q) (passes_it h))))))
