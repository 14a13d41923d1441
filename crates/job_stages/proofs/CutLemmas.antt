-- The cuts of a job, as they are written.
use Rattle.std.proofs.Common.{◌≡◌, ◌≢◌, ◌≤◌, true, ℕ, zero, suc, Option, Some, None, List, [], ◌∷◌, Result, Ok, Err, length, map, reverse, refl, sym, ◌∙◌, ap, subst, arith}
use Rattle.std.proofs.lemmas.Option.{same_Some}
use Rattle.ar_base.specs.Lists.{Stands}
use Rattle.ar_base.specs.Lists as l
use Rattle.ar_base.proofs.Standing.{stands_one, stands_some, stands_map, one_here, along_on, along_back}
use Rattle.ar_io.specs.Writing.{SinkState}
use Rattle.domains.specs.declared.Value.{Value}
use Rattle.typed_expr.specs.PairsInside.{turned_pairs}
use Rattle.typed_expr.specs.Yields.{Yields}
use Rattle.typed_expr.specs.Kinds.{HasKind}
use Rattle.typed_expr.specs.declared.expr.Expr.{Expr, out-Expr}
use Rattle.ar_meaning.specs.Systems.{Net, System}
use Rattle.ar_meaning.specs.Facts.{HasValue}
use Rattle.ar_meaning.specs.FactsInside.{AreKeyed}
use Rattle.ar_meaning.specs.Flows.{FlowFault}
use Rattle.ar_meaning.specs.Runs.{Label}
use Rattle.ar_meaning.specs.FlatOf.{IsNumber, IsFlatOf}
use Rattle.ar_meaning.specs.Image.{Expr_renames}
use Rattle.ar_meaning.specs.ImageInside.{IsImage}
use Rattle.ar_meaning.proofs.ByNumber.{keyed}
use Rattle.ar_meaning.proofs.FlatSystems.{flat_image, flat_back}
use Rattle.ar_firing.specs.Static.{IsKeyedStatic}
use Rattle.ar_firing.specs.Cuts.{AreEvents, Conflicts, Cut, ConflictSet, IsConflictFreeUpTo, Makes, Reaches}
use Rattle.ar_firing.specs.CutsInside.{UpTo}
use Rattle.ar_base.proofs.Sets.{within_self}
use Rattle.ar_firing.specs.Forest.{ModeTree, IsForest, IsLine}
use Rattle.ar_firing.specs.Listed.{AreListed}
use Rattle.ar_firing.specs.Operands.{Agrees}
use Rattle.ar_firing.proofs.RulesHold.{asked_static}
use Rattle.ar_firing.proofs.SmallSets.{free_within, told_free}
use Rattle.ar_firing.proofs.Shapes.{are_trees}
use Rattle.ar_firing.proofs.ImageCuts.{meets_there, cut_there, cut_back}
use Rattle.ar_firing.proofs.Cutting.{calm_within}
use Rattle.ar_firing.proofs.ImageModes.{firable_there, line_there}
use Rattle.ar_firing.proofs.Meeting.{met_is_conflicting}
use Rattle.ar_firing.proofs.Lines.{line_is_legal}
use Rattle.ar_firing.proofs.MakingLines.{line_within}
use Rattle.ar_firing.proofs.OneListing.{listed_as, listed_same}
use Rattle.gts_core.proofs.Lawfulness.{system_lawful, observer_kind}
use Rattle.gts_core.proofs.Systems.{one_system as views_one}
use Rattle.gts_core.proofs.Viewing.{are_numbered}
use Rattle.gts_core.specs.Lawful.{IsLawful, kind_by_number}
use Rattle.gts_core.specs.View.{Views, net_of, numbered}
use Rattle.gts_core.specs.declared.bound.Chain.{Chain}
use Rattle.gts_core.specs.declared.system.GtsParts.{GtsParts}
use Rattle.gts_core.specs.declared.system.Observer.{Observer}
use Rattle.gts_flatten.specs.Flat.{naming_of}
use Rattle.hierarchy.specs.Listing.{variables}
use Rattle.hierarchy.specs.Units.{Thing}
use Rattle.mode_trees.specs.declared.forests.Edge.{Edge}
use Rattle.mode_trees.specs.declared.forests.Forest.{Forest}
use Rattle.mode_trees.specs.Views.{trees_of, number_in}
use Rattle.zdd_nodes.specs.Families.{Family as Sets}
use Rattle.zdd_nodes.specs.Sections.{IsCounted, IsMoreThan}
use Rattle.zdd_nodes.proofs.Sections.{counted_nil, IsMoreThan-weaker}
use Rattle.zdd_nodes.proofs.Halves.{counted_unit}
use Rattle.zdd_nodes.specs.Nodes.{Stored, family, IsFamilyNumber as IsNode, IsSoundStore, IsStored}
use Rattle.zdd_nodes.specs.Room.{SectionsAreStored, EachTakesANode}
use Rattle.eq_core.specs.Ordered.{IsOrderedTable}
use Rattle.eq_core.specs.Values.{value_at}
use Rattle.eq_core.specs.Views.{table_of}
use Rattle.eq_build.specs.Table.{IsTable}
use Rattle.table_laws.specs.GateLaws.{TableIsOrdered, TableAgrees}
use Rattle.table_laws.proofs.Agreeing.{agrees as table_meant}
use Rattle.tree_equations.specs.Gives as gives
use Rattle.gate_diagrams.specs.Answers.{IsAnswerUpTo}
use Rattle.firable_families.specs.Firable.{AndUpTo}
use Rattle.firable_families.specs.FirableInside.{IsFirableOf}
use Rattle.firable_families.proofs.Few.{firable_of, small_of, firable_up_to}
use Rattle.cut_text.proofs.UpToOrder.{has_it, is_small, has_other}
use Rattle.firable_families.proofs.InForests.{firable_in_trees, firable_in_system}
use Rattle.gate_diagrams.specs.NodeLimits.{IsConflictUpTo, NodesMayUpTo}
use Rattle.gate_diagrams.specs.declared.answer.Drawn.{Drawn}
use Rattle.table_laws.specs.Drawn.{AreDrawnUpTo}
use Rattle.table_laws.specs.DrawnLaws.{DrawnAreMeantUpTo, NodesByNumbersUpTo}
use Rattle.min_cuts.specs.Lines.{AreInFiringOrder}
use Rattle.min_cuts.specs.Sizes.{count, largest}
use Rattle.cut_text.proofs.Source.{replays as source_replays}
use Rattle.cut_text.specs.Answers.{Prints}
use Rattle.cut_text.specs.Printed.{forest_edges, labels_in, cuts_text, conflict_text, IsForestOf}
use Rattle.check_text.specs.Texts.{IsCheckText, within_order, lines_in}
use Rattle.cut_check.specs.Verdicts.{IsMissing}
use Rattle.cut_check.specs.Flat.{AreVerdicts}
use Rattle.cut_check.specs.declared.checking.Verdict.{Verdict}
use Rattle.cut_text.specs.Texts.{IsCutText, IsConflictText}
use Rattle.module_text.specs.Texts.{IsModuleText}
use Rattle.job_inputs.specs.Chains.{cut_of}
use Rattle.job_inputs.specs.CutLists.{CutLine}
use Rattle.job_inputs.specs.declared.wanting.Wanted.{Wanted}
use Rattle.cut_text.specs.declared.faults.PrintFault.{PrintFault}
use Rattle.cut_text.specs.declared.faults.PrintFault.TheVariants as print
use Rattle.run_words.specs.declared.jobs.Asked.{Asked}
use Rattle.run_words.specs.declared.verbs.Verb.TheVariants.{Cuts, Make, CheckCuts, Modules}
use Rattle.job_stages.specs.Passing.{HasForest, IsGateTable, HasGates}
use Rattle.job_stages.specs.Stages.{Ready, lists_cuts}
use Rattle.job_stages.specs.Telling.{IsWritten, whole, cut, nothing, status_printed}
use Rattle.job_stages.specs.Tells.{HasCuts, IsFirableSet, Replays, make_lines, MayNeedMore, nodes_line, Tells, cuts, make, checks, in_short, conflict, nodes}
use Rattle.job_stages.specs.declared.status.Status.{Status}
use Rattle.job_stages.specs.declared.status.Status.TheVariants.{Done, Fault, Nodes}
use Rattle.job_stages.specs.declared.tabling.GateTable.{GateTable}
use Rattle.job_stages.proofs.LineLemmas.{made_same}
use Rattle.job_stages.proofs.TableLemmas.{at_observer}
use Rattle.job_stages.proofs.TellLemmas.{many_units, many_events}

-- Texts that were printed, or broken off

module _ {old new : SinkState} (told : List ℕ → Status → Type 0) (text : List ℕ) (ends : Status)
    (is : told text ends) where
  pub printed_whole : (u : Unit {0}) → Prints old new text (Ok u) → IsWritten told old new ends
  printed_whole u h = whole is h.whole h.kept

  pub printed_partly : (e : PrintFault) → Prints old new text (Err e) → (r : Result Status PrintFault) (d : PrintFault)
      → r ≡ Err d → d ≡ e → IsWritten told old new (status_printed r)
  printed_partly e h r d i j =
      subst (λ (z : Result Status PrintFault). IsWritten told old new (status_printed z)) (sym (i ∙ ap Err j)) (go e h)
    where
      go : (e : PrintFault) → Prints old new text (Err e) → IsWritten told old new (status_printed (Err e))
      go print.Write h = cut is h.front h.rose
      go print.Memory h = nothing h

-- memory was refused before anything was written
pub none_printed : {old : SinkState} (told : List ℕ → Status → Type 0) (r : Result Status PrintFault) (d : PrintFault)
    → r ≡ Err d → d ≡ print.Memory → IsWritten told old old (status_printed r)
none_printed {old} told r d i j =
    subst (λ (z : Result Status PrintFault). IsWritten told old old (status_printed z)) (sym (i ∙ ap Err j))
    (nothing refl)

-- a text with its count
pub counted_text : (old new : SinkState) (p : GtsParts) (edges : List Edge) (order : Option ℕ) (lists : List (List ℕ))
    (n m : ℕ) → n ≡ m
    → (r : Result (Unit {0}) PrintFault) → Prints old new (cuts_text p edges order lists n) r
    → Prints old new (cuts_text p edges order lists m) r
counted_text old new p edges order lists n m e r h =
    subst (λ (k : ℕ). Prints old new (cuts_text p edges order lists k) r) e h

-- What is counted

-- each counted section of a family of a sound store is stored
counted_stored : SectionsAreStored → (s : Stored) (n : ℕ) → IsSoundStore s → IsNode s n → (h : Sets)
    → IsCounted (family s n) h → IsStored h s
counted_stored law s zero sound is h k = absurd (counted_nil (family s 0) h refl k)
counted_stored law s (suc zero) sound is h k = absurd (counted_unit h k)
counted_stored law s (suc (suc n)) sound is h k =
    law s (family s (suc (suc n))) h sound (suc (suc n), omega arith, is, refl) k

-- a family that a store of so many nodes has, has no more counted sections
pub few_counted : SectionsAreStored → EachTakesANode → (s : Stored) (n limit : ℕ) → IsSoundStore s → IsNode s n
    → length s.families ≤ limit → IsMoreThan limit (IsCounted (family s n)) → ⊥
few_counted sections room s n limit sound is few more =
    let k = room s limit (IsMoreThan-weaker limit (IsCounted (family s n)) (λ h. IsStored h s)
    (λ h c. counted_stored sections s n sound is h c) more) in
    absurd (omega (arith, k, few))

-- more nodes may be needed
pub nodes_told : (asked : Asked) (w : Ready) → lists_cuts asked.job.command ≡ true → (n : ℕ) → asked.job.nodes ≡ n → MayNeedMore w n
    → Tells asked w (nodes_line n) Nodes
nodes_told asked w e n same may =
    subst (λ (z : ℕ). Tells asked w (nodes_line z) Nodes) same
    (nodes e (subst (λ (z : ℕ). MayNeedMore w z) (sym same) may))

-- What stands ready

module _ (w : Ready) (p : GtsParts) (forest : Forest) (gates : GateTable) (is : HasGates w p forest gates) where
  abbrev flat : System ℕ
  flat = is.flat.flat

  abbrev things : List Thing
  things = variables w.source.declarations.model w.source.declarations.units

  own : HasForest p w forest
  own = is.forest

  pub table : IsGateTable p forest w gates
  table = is.table

  pub forest_is : IsForestOf w.source p flat w.dropped forest
  forest_is = record {
    order = w.order;
    is_flat = is.flat;
    views = is.flat.views;
    keeps = own.keeps flat is.flat.views;
    is_forest = own.is_forest flat is.flat.views;
    own = is.forest.own;
  }

  pub seen : (o : Observer) × Stands p.observers.items table.wanted.observer o
  seen = stands_some _ _ table.inside

  abbrev pub observed : Expr ℕ
  observed = numbered seen.0.value

  by_trees : IsTable (net_of p) (trees_of (number_in p) forest) (numbered seen.0.value)
      table.wanted.value (table_of gates.equations)
  by_trees = at_observer _ seen.0 (gives.IsTableOfParts p forest table.wanted.value (table_of gates.equations))
      seen.1 table.by_trees

  pub own_forest : IsForest flat w.dropped (trees_of (number_in p) forest)
  own_forest = own.is_forest flat is.flat.views

  pub both : IsKeyedStatic flat w.dropped
  both = record {
    keyed = subst (λ (z : Net ℕ). AreKeyed z) (sym is.flat.views.net) (keyed (net_of p) (are_numbered p));
    static = asked_static w.order flat w.dropped (own.keeps flat is.flat.views);
  }

  -- the table's gates are in order
  pub ordered : TableIsOrdered → IsOrderedTable (table_of gates.equations)
  ordered law =
      law (net_of p) (trees_of (number_in p) forest) (numbered seen.0.value) table.wanted.value
      (table_of gates.equations) (are_trees flat w.dropped both.keyed both.static
      (trees_of (number_in p) forest) own_forest)
      by_trees

  flat_is : IsFlatOf things w.source.system flat
  flat_is = is.flat.is_flat

  module _ (kinds : IsLawful (net_of p) (kind_by_number p))
      (typed : (o : Observer) → l.IsOneOf p.observers.items o
      → HasKind (kind_by_number p) (out-Expr ℕ (numbered o.value)) o.kind)
    where
      -- the table agrees with the system
      pub agrees : TableAgrees → Agrees flat w.dropped (numbered seen.0.value) table.wanted.value
          (value_at (table_of gates.equations).gates (table_of gates.equations).conflict)
          (value_at (table_of gates.equations).gates (table_of gates.equations).top)
      agrees law =
          law flat w.dropped (kind_by_number p) seen.0.kind (trees_of (number_in p) forest)
          (numbered seen.0.value) table.wanted.value (table_of gates.equations)
          (subst (λ (z : Net ℕ). IsLawful z (kind_by_number p)) (sym is.flat.views.net) kinds) both
          own_forest (typed seen.0 (one_here _ _ seen.0 seen.1))
          (subst (λ (z : Net ℕ). IsTable z (trees_of (number_in p) forest) (numbered seen.0.value)
          table.wanted.value (table_of gates.equations)) (sym is.flat.views.net) by_trees)

      -- what is drawn
      pub are_drawn : DrawnAreMeantUpTo w.order → (d : Drawn)
          → IsAnswerUpTo w.order (trees_of (λ n. n) forest) (table_of gates.equations) d
          → AreDrawnUpTo w.order flat w.dropped (numbered seen.0.value) table.wanted.value d
      are_drawn meant d h =
          meant flat w.dropped (kind_by_number p) seen.0.kind (number_in p) forest
          (numbered seen.0.value)
          table.wanted.value (table_of gates.equations) d
          (subst (λ (z : Net ℕ). IsLawful z (kind_by_number p)) (sym is.flat.views.net) kinds) both
          (own.is_forest flat is.flat.views) (typed seen.0 (one_here _ _ seen.0 seen.1))
          (subst (λ (z : Net ℕ). IsTable z (trees_of (number_in p) forest) (numbered seen.0.value)
          table.wanted.value (table_of gates.equations)) (sym is.flat.views.net) by_trees)
          h

  -- The nodes that may be needed

  there : IsImage (IsNumber things) w.source.system flat
  there = flat_image things w.source.system flat flat_is

  behind : IsImage (turned_pairs (IsNumber things)) flat w.source.system
  behind = flat_back things w.source.system flat flat_is

  abbrev own_trees : List ModeTree
  own_trees = trees_of (number_in p) forest

  -- the sets that are firable in the trees are those of the source
  firable_there_in : (set : List ℕ) → IsFirableOf own_trees set → IsFirableSet w.source.system w.dropped set
  firable_there_in set h =
      let f = firable_in_system flat w.dropped both.keyed both.static own_trees own_forest set h in
      (f.0, firable_there (turned_pairs (IsNumber things)) flat w.source.system behind w.dropped f.1)

  firable_back_in : (set : List ℕ) → IsFirableSet w.source.system w.dropped set → IsFirableOf own_trees set
  firable_back_in set h =
      firable_in_trees flat w.dropped both.keyed both.static own_trees own_forest set h.0
      (firable_there (IsNumber things) w.source.system flat there w.dropped h.1)

  sound_agrees : Agrees flat w.dropped (numbered seen.0.value) table.wanted.value
      (value_at (table_of gates.equations).gates (table_of gates.equations).conflict)
      (value_at (table_of gates.equations).gates (table_of gates.equations).top)
  sound_agrees =
      agrees (system_lawful p table.sound) (λ o h. observer_kind p table.sound o h)
      (λ sys dropped kinds kind trees observer wanted t lawful static forest observed steps.
      table_meant sys dropped kinds kind trees observer wanted t lawful static.static forest observed steps)

  -- the table's conflict operand is true at each set that meets a conflict
  conflict_true : (set : List ℕ) → AndUpTo w.order (ConflictSet w.source.system w.dropped) set
      → IsConflictUpTo w.order own_trees (table_of gates.equations) set
  conflict_true set h =
      let met = met_is_conflicting flat w.dropped both.keyed both.static (numbered seen.0.value) table.wanted.value
      (value_at (table_of gates.equations).gates (table_of gates.equations).conflict)
      (value_at (table_of gates.equations).gates (table_of gates.equations).top) sound_agrees {set = set}
      (meets_there (IsNumber things) w.source.system flat there w.dropped
      (has_it w.order (ConflictSet w.source.system w.dropped) set h).has) in
      record {
        is_firable = firable_up_to w.order own_trees set
            (firable_in_trees flat w.dropped both.keyed both.static own_trees own_forest set met.values met.is_firable)
            (is_small w.order (ConflictSet w.source.system w.dropped) set h);
        holds = met.holds;
      }

  -- where no set of the source meets a conflict, none of the flat system does, and the other way round
  free_there : IsConflictFreeUpTo w.order w.source.system w.dropped → IsConflictFreeUpTo w.order flat w.dropped
  free_there free = told_free w.order flat w.dropped (λ s u m.
      free_within w.order w.source.system w.dropped free s u s (within_self s)
      (meets_there (turned_pairs (IsNumber things)) flat w.source.system behind w.dropped m))

  free_back : IsConflictFreeUpTo w.order flat w.dropped → IsConflictFreeUpTo w.order w.source.system w.dropped
  free_back free = told_free w.order w.source.system w.dropped (λ s u m.
      free_within w.order flat w.dropped free s u s (within_self s)
      (meets_there (IsNumber things) w.source.system flat there w.dropped m))

  -- and at no firable set where no set meets one
  conflict_false : IsConflictFreeUpTo w.order w.source.system w.dropped → (set : List ℕ)
      → IsConflictUpTo w.order own_trees (table_of gates.equations) set → ⊥
  conflict_false free set t =
      let f = firable_in_system flat w.dropped both.keyed both.static own_trees own_forest set
      (firable_of w.order own_trees set t.is_firable) in
      let no = calm_within flat w.dropped both.keyed both.static (numbered seen.0.value) table.wanted.value
      (value_at (table_of gates.equations).gates (table_of gates.equations).conflict)
      (value_at (table_of gates.equations).gates (table_of gates.equations).top) sound_agrees set
      (free_within w.order flat w.dropped (free_there free) set (small_of w.order own_trees set t.is_firable))
      set f.0 (within_self set) f.1 in
      let yes : value_at (table_of gates.equations).gates (table_of gates.equations).conflict set ≡ true =
      t.holds in
      cc

  -- more nodes may be needed
  pub may_need : NodesByNumbersUpTo w.order → (n : ℕ)
      → NodesMayUpTo w.order (trees_of (λ n. n) forest) (table_of gates.equations) n
      → MayNeedMore w n
  may_need law n h =
      let may = law (λ n. n) (number_in p) forest (table_of gates.equations) n h in
      record {
        wanted = table.wanted;
        are_wanted = table.are;
        table = table_of gates.equations;
        is_table = table.is_table;
        firable = may.all;
        are_firable = listed_as
            (has_other w.order (IsFirableOf own_trees) (IsFirableSet w.source.system w.dropped) firable_there_in)
            (has_other w.order (IsFirableSet w.source.system w.dropped) (IsFirableOf own_trees) firable_back_in)
            may.is_all;
        where_conflict = λ set c. may.where_some set (conflict_true set c);
        where_free = λ free. may.where_none (conflict_false free);
      }

  -- verdicts over the observer and the value that are asked for are over those of the table
  pub said_of_table : (asked : Wanted) → w.wanted ≡ Some asked → (chains : List Chain) (said : List Verdict)
      → ((o : Observer) → Stands p.observers.items asked.observer o
      → AreVerdicts p flat w.dropped (numbered o.value) asked.value chains said)
      → AreVerdicts p flat w.dropped observed table.wanted.value chains said
  said_of_table asked e chains said h =
      let same : asked ≡ table.wanted = same_Some asked table.wanted (sym e ∙ table.are) in
      subst (λ (z : Wanted). ((o : Observer) → Stands p.observers.items z.observer o
      → AreVerdicts p flat w.dropped (numbered o.value) z.value chains said)) same h seen.0 seen.1

  -- the source's observer
  pub sourced : (o : Expr Thing) × Stands w.source.system.observers table.wanted.observer o
      × Expr_renames (IsNumber things) o (numbered seen.0.value)
  sourced =
      along_back _ _ flat_is.observers table.wanted.observer (numbered seen.0.value)
      (subst (λ (z : List (Expr ℕ)). Stands z table.wanted.observer (numbered seen.0.value))
      (sym is.flat.views.observers)
      (stands_map (λ (z : Observer). numbered z.value) p.observers.items table.wanted.observer seen.0 seen.1))

  -- the cuts
  abbrev pub source_observer : Expr Thing
  source_observer = sourced.0

  pub renamed : Expr_renames (IsNumber things) source_observer (numbered seen.0.value)
  renamed = sourced.2

  abbrev has_cuts : IsConflictFreeUpTo w.order flat w.dropped → HasCuts w
  has_cuts free = record {
    wanted = table.wanted;
    are_wanted = table.are;
    observed = source_observer;
    is_observed = sourced.1;
    conflict_free = free_back free;
  }

  -- the source's cuts are those of the flat system
  pub listed_of_source : (order : Option ℕ) (sets : Sets)
      → AreListed (AndUpTo order (Cut flat w.dropped (numbered seen.0.value) table.wanted.value)) sets
      → AreListed (AndUpTo order (Cut w.source.system w.dropped source_observer table.wanted.value)) sets
  listed_of_source order sets listed =
      listed_as
      (has_other order (Cut flat w.dropped (numbered seen.0.value) table.wanted.value)
      (Cut w.source.system w.dropped source_observer table.wanted.value)
      (λ s c. cut_back (IsNumber things) w.source.system flat there w.dropped source_observer (numbered seen.0.value)
      renamed table.wanted.value s c))
      (has_other order (Cut w.source.system w.dropped source_observer table.wanted.value)
      (Cut flat w.dropped (numbered seen.0.value) table.wanted.value)
      (λ s c. cut_there (IsNumber things) w.source.system flat there w.dropped source_observer (numbered seen.0.value)
      renamed table.wanted.value s c))
      listed

  -- the events of a line of the source are those of its set
  line_events : (set : List ℕ) (ls : List Label) → IsLine w.source.system w.dropped set ls → AreEvents (reverse ls) set
  line_events set ls h =
      (line_is_legal flat w.dropped both.keyed both.static
      (line_there (IsNumber things) w.source.system flat there w.dropped h)).events

  pub cuts_told : (asked : Asked) → asked.job.command ≡ Cuts → (sets : Sets) (text : List ℕ)
      → (free : IsConflictFreeUpTo w.order flat w.dropped)
      → AreListed (AndUpTo w.order (Cut flat w.dropped (numbered seen.0.value) table.wanted.value)) sets
      → IsCutText w.order (naming_of w.source.declarations) w.source.system w.dropped source_observer table.wanted.value
      text
      → ((sets : List (List ℕ))
      → AreListed (AndUpTo w.order (Cut w.source.system w.dropped source_observer table.wanted.value)) sets
      → (set : List ℕ) → l.IsOneOf sets set → (ls : List Label) → IsLine w.source.system w.dropped set ls
      → (t : List Value) × Reaches w.source.system w.dropped (reverse ls) t × Reaches w.source.system [] (reverse ls) t
      × Yields (HasValue w.source.system.net t) (out-Expr Thing source_observer) table.wanted.value)
      → (IsMoreThan asked.job.nodes (IsCounted sets) → ⊥) → Tells asked w text Done
  cuts_told asked i sets text free listed t replays few =
      let same : t.sets ≡ sets = listed_same t.sets sets
      (AndUpTo w.order (Cut w.source.system w.dropped source_observer table.wanted.value)) t.are_listed
      (listed_of_source w.order sets listed) in
      cuts i
      (record {
        has = has_cuts free;
        is_text = t;
        few = λ more. few (subst (λ (z : Sets). IsMoreThan asked.job.nodes (IsCounted z)) same more);
        replay = λ k set ls s h.
            let g = along_on _ _ t.are_lines k set s in
            let line = subst (λ (z : List Label). IsLine w.source.system w.dropped set z)
            (stands_one t.lines k g.0 ls g.1 h) g.2 in
            let run = replays t.sets t.are_listed set (one_here t.sets k set s) ls line in
            record { events = line_events set ls line; values = run.0; reaches = run.2; shows = run.3 };
      })

  -- the line of a set that makes the value replays
  line_replays : IsConflictFreeUpTo w.order flat w.dropped → (set : List ℕ) (ls : List Label) → UpTo w.order set
      → Makes w.source.system w.dropped source_observer table.wanted.value set
      → IsLine w.source.system w.dropped set ls
      → Replays w.source.system source_observer table.wanted.value set ls
  line_replays free set ls small makes line =
      let fails = value_at (table_of gates.equations).gates (table_of gates.equations).conflict in
      let wins = value_at (table_of gates.equations).gates (table_of gates.equations).top in
      let run = source_replays w.source p flat w.dropped forest (views_one p) forest_is source_observer
      (numbered seen.0.value) renamed table.wanted.value set
      (λ ks m k. line_within flat w.dropped both.keyed both.static (numbered seen.0.value) table.wanted.value fails
      wins sound_agrees
      (calm_within flat w.dropped both.keyed both.static (numbered seen.0.value) table.wanted.value fails wins
      sound_agrees set (free_within w.order flat w.dropped free set small)) m k) ls makes line in
      record { events = line_events set ls line; values = run.0; reaches = run.2; shows = run.3 }

  -- what is to be said of the lines of a list
  pub checks_told : (asked : Asked) → asked.job.command ≡ CheckCuts → (chains : List Chain)
      → w.lines ≡ map (cut_of p) chains
      → (sets : Sets) (text : List ℕ) → IsConflictFreeUpTo w.order flat w.dropped
      → AreListed (AndUpTo w.order (Cut flat w.dropped (numbered seen.0.value) table.wanted.value)) sets
      → IsCheckText w.order (naming_of w.source.declarations) w.source.system w.dropped source_observer
      table.wanted.value (map (cut_of p) chains) text
      → (IsMoreThan asked.job.nodes (IsCounted sets) → ⊥) → Tells asked w text Done
  checks_told asked i chains same sets text free listed t few =
      let given : IsCheckText w.order (naming_of w.source.declarations) w.source.system w.dropped source_observer
      table.wanted.value w.lines text =
      subst (λ (z : List CutLine). IsCheckText w.order (naming_of w.source.declarations) w.source.system w.dropped
      source_observer table.wanted.value z text)
      (sym same) t in
      let lacks = IsMissing w.source.system w.dropped source_observer table.wanted.value
      (lines_in (within_order w.order w.lines)) in
      checks i
      (record {
        has = has_cuts free;
        is_text = given;
        replay = λ k set ls s h.
            let g = along_on _ _ given.are_lines k set s in
            let line = subst (λ (z : List Label). IsLine w.source.system w.dropped set z)
            (stands_one given.lines k g.0 ls g.1 h) g.2 in
            let missing = given.are_missing.sound k set s in
            line_replays free set ls (is_small w.order lacks set missing) (has_it w.order lacks set missing).is_cut.has line;
        sets = sets;
        are_listed = listed_of_source w.order sets listed;
        few = few;
      })

  -- where all cuts are asked for, what is listed are all
  pub listed_all : w.order ≡ None → (sets : Sets)
      → AreListed (AndUpTo w.order (Cut flat w.dropped (numbered seen.0.value) table.wanted.value)) sets
      → AreListed (Cut flat w.dropped (numbered seen.0.value) table.wanted.value) sets
  listed_all all sets listed = subst
      (λ (o : Option ℕ). AreListed (AndUpTo o (Cut flat w.dropped (numbered seen.0.value) table.wanted.value)) sets) all
      listed

  -- the cuts in short
  pub short_told : (asked : Asked) → asked.job.command ≡ Modules → w.order ≡ None → (sets : Sets) (text : List ℕ)
      → IsConflictFreeUpTo w.order flat w.dropped
      → AreListed (AndUpTo w.order (Cut flat w.dropped (numbered seen.0.value) table.wanted.value)) sets
      → IsModuleText w.source w.dropped source_observer table.wanted.value text
      → (IsMoreThan asked.job.nodes (IsCounted sets) → ⊥) → Tells asked w text Done
  short_told asked i all sets text free listed t few =
      let same : t.cuts ≡ sets = listed_same t.cuts sets
      (Cut w.source.system w.dropped source_observer table.wanted.value) t.are_listed
      (listed_of_source None sets (listed_all all sets listed)) in
      in_short i
      (record {
        all = all;
        has = has_cuts free;
        is_text = t;
        few = λ more. few (subst (λ (z : Sets). IsMoreThan asked.job.nodes (IsCounted z)) same more);
      })

  -- how many there are
  pub make_told : (asked : Asked) → asked.job.command ≡ Make → w.order ≡ None → (number : ℕ)
      → asked.job.number ≡ number → (sets : Sets) (text : List ℕ)
      → IsConflictFreeUpTo w.order flat w.dropped
      → AreListed (AndUpTo w.order (Cut flat w.dropped (numbered seen.0.value) table.wanted.value)) sets
      → text ≡ make_lines number (length p.units.items) (length p.events.items) (count sets)
      (largest sets)
      → (IsMoreThan asked.job.nodes (IsCounted sets) → ⊥) → Tells asked w text Done
  make_told asked i all number same sets text free listed t few =
      make i
      (record {
        all = all;
        has = has_cuts free;
        sets = sets;
        are_listed = subst
            (λ (o : Option ℕ). AreListed (AndUpTo o (Cut w.source.system w.dropped source_observer table.wanted.value)) sets)
            all (listed_of_source w.order sets listed);
        is_text = t ∙ made_same (sym same) (many_units w.source p is.flat) (many_events w.source p is.flat)
            (count sets) (largest sets);
        few = few;
      })

  -- the conflict
  module _ (asked : Asked) (e : lists_cuts asked.job.command ≡ true)
      (meets : (set : List ℕ) (sets : List (List ℕ)) (events : List ℕ) (lists : List (List ℕ))
      → AreListed (AndUpTo w.order (ConflictSet flat w.dropped)) (set ∷ sets)
      → AreInFiringOrder (trees_of (λ n. n) forest) (set ∷ sets) (events ∷ lists)
      → (fault : FlowFault) × Conflicts flat w.dropped
      (reverse (labels_in p (forest_edges forest.trees.items) events)) fault)
      (is_text : (set : List ℕ) (sets : List (List ℕ)) (events : List ℕ) (lists : List (List ℕ)) (fault : FlowFault)
      → AreListed (AndUpTo w.order (ConflictSet flat w.dropped)) (set ∷ sets)
      → AreInFiringOrder (trees_of (λ n. n) forest) (set ∷ sets) (events ∷ lists)
      → Conflicts flat w.dropped (reverse (labels_in p (forest_edges forest.trees.items) events)) fault
      → IsConflictText w.order (naming_of w.source.declarations) w.source.system w.dropped
      (conflict_text p (forest_edges forest.trees.items) events fault)) where
    pub conflict_printed : (old new : SinkState) (r : Result (Unit {0}) PrintFault) (sets lists : List (List ℕ))
        → sets ≢ []
        → AreListed (AndUpTo w.order (ConflictSet flat w.dropped)) sets → AreInFiringOrder (trees_of (λ n. n) forest) sets lists
        → ((system : System ℕ) → Views p system
        → (dropped events : List ℕ) (later : List (List ℕ)) (fault : FlowFault)
        → lists ≡ events ∷ later
        → Conflicts system dropped (reverse (labels_in p (forest_edges forest.trees.items) events)) fault
        → Prints old new (conflict_text p (forest_edges forest.trees.items) events fault) r)
        → (text : List ℕ) × Tells asked w text Fault × Prints old new text r
    conflict_printed old new r sets lists some listed l.none prints = absurd (some refl)
    conflict_printed old new r sets lists some listed (l.one_and {a = set} {b = events} {xs = xs} {ys = ys} h hs)
        prints =
        let g = l.one_and h hs in
        let f = meets set xs events ys listed g in (
          conflict_text p (forest_edges forest.trees.items) events f.0,
          conflict e (is_text set xs events ys f.0 listed g f.1),
          prints flat is.flat.views w.dropped events ys f.0 refl f.1,
        )
