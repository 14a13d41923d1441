-- What a job tells that has passed its stages is one text.
use Rattle.std.proofs.Common.{◌≡◌, ◌⊎◌, ℕ, true, false, List, Option, Some, None, Ok, Err, length, refl, sym, ◌∙◌, ap, subst, inl, inr}
use Rattle.ar_base.proofs.Items.{last_one}
use Rattle.ar_base.proofs.Standing.{stands_one}
use Rattle.ar_firing.specs.Cuts.{IsConflictFreeUpTo}
use Rattle.ar_firing.specs.Static.{IsKeyedStatic}
use Rattle.ar_meaning.specs.Runs.{Moment}
use Rattle.ar_meaning.specs.Systems.{System}
use Rattle.ar_meaning.specs.TraceText.{Naming, MomentText, TraceText}
use Rattle.ar_meaning.proofs.OneRun.{runs_same}
use Rattle.ar_meaning.proofs.OneText.{moment_one, trace_one}
use Rattle.ar_meaning.proofs.StatesAlone.{same_flows}
use Rattle.aralia_text.specs.Texts.{equations_text}
use Rattle.check_text.specs.Texts.{IsCheckText}
use Rattle.cut_text.specs.Texts.{IsCutText, IsConflictText}
use Rattle.domains.specs.declared.Value.{Value}
use Rattle.eq_core.specs.Gates.{Table}
use Rattle.job_laws.proofs.Flats.{flat_one}
use Rattle.flow_reasons.proofs.RoundTotals.{states_of}
use Rattle.cut_text.specs.ForestTexts.{IsForestText}
use Rattle.gts_flatten.specs.Elaborating.{Elaborated}
use Rattle.gts_flatten.specs.Flat.{naming_of}
use Rattle.hierarchy.specs.Listing.{variables, events}
use Rattle.hierarchy.specs.Units.{Thing}
use Rattle.min_cuts.specs.Sizes.{count, largest}
use Rattle.module_text.specs.Texts.{IsModuleText}
use Rattle.reason_text.specs.Texts.{IsReasonText}
use Rattle.reason_text.proofs.Source.{text_one}
use Rattle.replayer.specs.Replays.{IsReplay, end_of}
use Rattle.replayer.specs.Settles.{IsFaultLine}
use Rattle.replayer.proofs.SettledOnce.{settled_one, not_settled}
use Rattle.replayer.specs.declared.ends.End.{End}
use Rattle.run_words.specs.declared.jobs.Asked.{Asked}
use Rattle.run_words.specs.declared.verbs.Verb.{Verb}
use Rattle.run_words.specs.declared.verbs.Verb.TheVariants as verb
use Rattle.table_text.specs.Texts.{IsTableText}
use Rattle.table_text.proofs.OneTable.{table_one}
use Rattle.typed_expr.specs.declared.expr.Expr.{Expr}
use Rattle.job_inputs.specs.declared.wanting.Wanted.{Wanted}
use Rattle.job_stages.specs.Refusals.{line_of, status_of}
use Rattle.job_stages.specs.Stages.{Ready, is_static, lists_cuts}
use Rattle.job_stages.specs.Tells.{Tells, check_text, IsFlatText, IsCutsText, IsCheckedText, IsShortText, IsObserverOf, IsExplained, make_lines, IsMakeText, status_at}
use Rattle.job_stages.specs.Tells as told
use Rattle.job_stages.specs.declared.status.Status.{Status}
use Rattle.job_stages.specs.declared.status.Status.TheVariants.{Done, Fault}
use Rattle.altarica_run.proofs.ExplainLemmas.{settled_flows}
use Rattle.job_laws.specs.Definite.{IsDefinite, SaysOf, SaysNodes, AgreeButNodes}
use Rattle.job_laws.specs.Definite as says
use Rattle.job_laws.proofs.Asking.{OneList, same_some}
use Rattle.job_laws.proofs.Cuts.{forest_text_one, cut_text_one, conflict_text_one, no_conflict, check_text_one}
use Rattle.job_laws.proofs.Demanding.{IsFit, IsFitWhere, keyed_static, readies_one, readies_on}
use Rattle.job_laws.proofs.ManyCuts.{as_asked, listing_one, all_asked}
use Rattle.job_laws.proofs.Modules.{module_text_one}
use Rattle.job_laws.proofs.Stages.{same_ok, same_err, ok_err}

-- What stands ready, by command

-- a text that ends the job well
abbrev pub Well : (List ℕ → Type 0) → List ℕ → Status → Type 0
Well P text ends = P text × (ends ≡ Done)

-- a replay's text
pub record Replayed (w : Ready) (text : List ℕ) (ends : Status) : Type 0 where
  pub last : End
  pub replay : IsReplay (naming_of w.source.declarations) w.source.system w.commands text last
  pub is_status : ends ≡ status_at last

-- a gate table's text
pub record TableTold (w : Ready) (text : List ℕ) : Type 0 where
  pub wanted : Wanted
  pub are : w.wanted ≡ Some wanted
  pub is_text : IsTableText (variables w.source.declarations.model w.source.declarations.units)
      (naming_of w.source.declarations)
      w.source.system w.dropped wanted.observer wanted.value text

-- an explanation, or the line of the fault in which the run ends
abbrev pub Explained : Ready → List ℕ → Status → Type 0
Explained w text ends =
    Well (IsExplained w) text ends
    ⊎ (IsFaultLine (naming_of w.source.declarations) w.source.system w.commands text × (ends ≡ Fault))

-- a conflict
abbrev pub Conflicting : Ready → List ℕ → Status → Type 0
Conflicting w text ends =
    IsConflictText w.order (naming_of w.source.declarations) w.source.system w.dropped text × (ends ≡ Fault)

-- a text about cuts, a conflict, or that nodes may lack
abbrev pub AboutCuts : (List ℕ → Type 0) → Asked → Ready → List ℕ → Status → Type 0
AboutCuts P asked w text ends = Well P text ends ⊎ (Conflicting w text ends ⊎ SaysNodes asked text ends)

-- what the command tells
abbrev pub Told : Verb → Asked → Ready → List ℕ → Status → Type 0
Told verb.Check asked w text ends = Well (λ t. t ≡ check_text w.source.declarations) text ends
Told verb.Flat asked w text ends = Well (IsFlatText w.source) text ends
Told verb.Replay asked w text ends = Replayed w text ends
Told verb.Fragment asked w text ends =
    Well (IsForestText (naming_of w.source.declarations) w.source.system w.dropped) text ends
Told verb.Equations asked w text ends = Well (TableTold w) text ends
Told verb.Cuts asked w text ends = AboutCuts (IsCutsText w asked.job.nodes) asked w text ends
Told verb.Make asked w text ends = AboutCuts (IsMakeText w asked.job.number asked.job.nodes) asked w text ends
Told verb.Explain asked w text ends = Explained w text ends
Told verb.CheckCuts asked w text ends = AboutCuts (IsCheckedText w asked.job.nodes) asked w text ends
Told verb.Modules asked w text ends = AboutCuts (IsShortText w asked.job.nodes) asked w text ends

no_listing : {A : Type 0} → false ≡ true → A
no_listing e = cc

module _ (asked : Asked) (w : Ready) where
  told_conflict : (v : Verb) → lists_cuts v ≡ true → (text : List ℕ) (ends : Status) → Conflicting w text ends
      → Told v asked w text ends
  told_conflict verb.Check e text ends h = no_listing e
  told_conflict verb.Flat e text ends h = no_listing e
  told_conflict verb.Replay e text ends h = no_listing e
  told_conflict verb.Fragment e text ends h = no_listing e
  told_conflict verb.Equations e text ends h = no_listing e
  told_conflict verb.Cuts e text ends h = inr (inl h)
  told_conflict verb.Make e text ends h = inr (inl h)
  told_conflict verb.Explain e text ends h = no_listing e
  told_conflict verb.CheckCuts e text ends h = inr (inl h)
  told_conflict verb.Modules e text ends h = inr (inl h)

  told_nodes : (v : Verb) → lists_cuts v ≡ true → (text : List ℕ) (ends : Status)
      → SaysNodes asked text ends → Told v asked w text ends
  told_nodes verb.Check e text ends h = no_listing e
  told_nodes verb.Flat e text ends h = no_listing e
  told_nodes verb.Replay e text ends h = no_listing e
  told_nodes verb.Fragment e text ends h = no_listing e
  told_nodes verb.Equations e text ends h = no_listing e
  told_nodes verb.Cuts e text ends h = inr (inr h)
  told_nodes verb.Make e text ends h = inr (inr h)
  told_nodes verb.Explain e text ends h = no_listing e
  told_nodes verb.CheckCuts e text ends h = inr (inr h)
  told_nodes verb.Modules e text ends h = inr (inr h)

  -- what the job tells is told by its command
  pub told_by : (text : List ℕ) (ends : Status) → Tells asked w text ends → Told asked.job.command asked w text ends
  told_by text ends (told.check e) = subst (λ (v : Verb). Told v asked w text ends) (sym e) (refl, refl)
  told_by text ends (told.flat e h) = subst (λ (v : Verb). Told v asked w text ends) (sym e) (h, refl)
  told_by text ends (told.replay {ends = last} e h) =
      subst (λ (v : Verb). Told v asked w text ends) (sym e) (record { last = last; replay = h; is_status = refl })
  told_by text ends (told.fragment e h) = subst (λ (v : Verb). Told v asked w text ends) (sym e) (h, refl)
  told_by text ends (told.equations {wanted = a} e i h) =
      subst (λ (v : Verb). Told v asked w text ends) (sym e) (record { wanted = a; are = i; is_text = h }, refl)
  told_by text ends (told.cuts e h) = subst (λ (v : Verb). Told v asked w text ends) (sym e) (inl (h, refl))
  told_by text ends (told.make e h) = subst (λ (v : Verb). Told v asked w text ends) (sym e) (inl (h, refl))
  told_by text ends (told.checks e h) = subst (λ (v : Verb). Told v asked w text ends) (sym e) (inl (h, refl))
  told_by text ends (told.in_short e h) = subst (λ (v : Verb). Told v asked w text ends) (sym e) (inl (h, refl))
  told_by text ends (told.explains e h) = subst (λ (v : Verb). Told v asked w text ends) (sym e) (inl (h, refl))
  told_by text ends (told.unsettled e h) = subst (λ (v : Verb). Told v asked w text ends) (sym e) (inr (h, refl))
  told_by text ends (told.conflict e h) = told_conflict asked.job.command e text ends (h, refl)
  told_by text ends (told.nodes e h) = told_nodes asked.job.command e text ends (refl, refl)

-- The names of the source, and its system

abbrev naming : Ready → Naming
naming w = naming_of w.source.declarations

abbrev system : Ready → System Thing
system w = w.source.system

-- Runs

module _ (w : Ready) (is : IsDefinite w.source) where
  replayed_one : (s t : List ℕ) (a b : Status) → Replayed w s a → Replayed w t b → (s ≡ t) × (a ≡ b)
  replayed_one s t a b p q =
      let e : p.replay.moments ≡ q.replay.moments = runs_same (system w) p.replay.runs q.replay.runs in
      let there = subst (λ (z : List Moment). TraceText (naming w) (system w) z s) e p.replay.trace in
      let last : p.last ≡ q.last = p.replay.ends ∙ ap end_of e ∙ sym q.replay.ends in
      (trace_one (naming w) (system w) is.keyed there q.replay.trace, p.is_status ∙ ap status_at last ∙ sym q.is_status)

  observer_one : (n : Option ℕ) (o p : Option (Expr Thing)) → IsObserverOf (system w) n o
      → IsObserverOf (system w) n p → o ≡ p
  observer_one None o p a b = a ∙ sym b
  observer_one (Some n) o p a b = a.1 ∙ ap Some (stands_one (system w).observers n a.0 b.0 a.2 b.2) ∙ sym b.1

  explanations_one : (s t : List ℕ) → IsExplained w s → IsExplained w t → s ≡ t
  explanations_one s t a b =
      let e : a.values ≡ b.values = settled_one (system w) w.commands a.values b.values a.settles b.settles in
      let o : a.observer ≡ b.observer = observer_one w.shown a.observer b.observer a.is_observer b.is_observer in
      let there = subst (λ (z : List Value). IsReasonText (naming w) (system w).net z a.observer s) e a.is_text in
      let moved = subst (λ (z : Option (Expr Thing)). IsReasonText (naming w) (system w).net b.values z s) o there in
      text_one (naming w) (system w).net b.values
      (settled_flows (system w) (λ u total f. same_flows (system w).net (states_of f) f) w.commands b.values
      b.settles)
      b.observer s t moved b.is_text

  fault_lines_one : (s t : List ℕ) → IsFaultLine (naming w) (system w) w.commands s
      → IsFaultLine (naming w) (system w) w.commands t → s ≡ t
  fault_lines_one s t a b =
      let r = last_one a.before b.before a.fault b.fault (runs_same (system w) a.runs b.runs) in
      moment_one (naming w) (system w) is.keyed (subst (λ (z : Moment). MomentText (naming w) (system w) z s) r.1
      a.told) b.told

  explained_one : (s t : List ℕ) (a b : Status) → Explained w s a → Explained w t b → (s ≡ t) × (a ≡ b)
  explained_one s t a b (inl p) (inl q) = (explanations_one s t p.0 q.0, p.1 ∙ sym q.1)
  explained_one s t a b (inl p) (inr q) = absurd (not_settled (system w) w.commands p.0.values (naming w) t p.0.settles q.0)
  explained_one s t a b (inr p) (inl q) = absurd (not_settled (system w) w.commands q.0.values (naming w) s q.0.settles p.0)
  explained_one s t a b (inr p) (inr q) = (fault_lines_one s t p.0 q.0, p.1 ∙ sym q.1)

-- Tables and cuts

module _ (w : Ready) (fit : IsFit w) where
  static : IsKeyedStatic (system w) w.dropped
  static = keyed_static w fit

  table_text_one : (s t : List ℕ) → TableTold w s → TableTold w t → s ≡ t
  table_text_one s t a b =
      let d = w.source.declarations in
      let things = variables d.model d.units in
      let same : b.wanted ≡ a.wanted = same_some w.wanted b.wanted a.wanted b.are a.are in
      let there = subst (λ (z : Wanted). IsTableText things (naming w) (system w) w.dropped z.observer z.value t)
      same b.is_text in
      let i : a.is_text.table ≡ there.table =
      table_one things (system w) w.dropped static a.wanted.observer a.wanted.value a.is_text.table there.table
      a.is_text.is_table there.is_table in
      a.is_text.is_text ∙ ap (λ (z : Table). equations_text (naming w).events z) i ∙ sym there.is_text

  cuts_one : (limit : ℕ) (s t : List ℕ) → IsCutsText w limit s → IsCutsText w limit t → s ≡ t
  cuts_one limit s t a b =
      cut_text_one (naming w) (system w) w.dropped static w.order a.has.observed a.has.wanted.value s t a.is_text
      (as_asked w (λ o v. IsCutText w.order (naming w) (system w) w.dropped o v t) a.has b.has b.is_text)

  checked_one : (limit : ℕ) (s t : List ℕ) → IsCheckedText w limit s → IsCheckedText w limit t → s ≡ t
  checked_one limit s t a b =
      check_text_one (naming w) (system w) w.dropped static w.order a.has.observed a.has.wanted.value w.lines s t a.is_text
      (as_asked w (λ o v. IsCheckText w.order (naming w) (system w) w.dropped o v w.lines t) a.has b.has b.is_text)

  short_one : (limit : ℕ) (s t : List ℕ) → IsShortText w limit s → IsShortText w limit t → s ≡ t
  short_one limit s t a b =
      module_text_one w.source w.dropped static a.has.observed a.has.wanted.value s t a.is_text
      (as_asked w (λ o v. IsModuleText w.source w.dropped o v t) a.has b.has b.is_text)

  made_one : (number limit : ℕ) (s t : List ℕ) → IsMakeText w number limit s → IsMakeText w number limit t → s ≡ t
  made_one number limit s t a b =
      let d = w.source.declarations in
      let e : a.sets ≡ b.sets = listing_one w a.has b.has a.sets b.sets
      (all_asked w a.all a.has a.sets a.are_listed) (all_asked w b.all b.has b.sets b.are_listed) in
      a.is_text
      ∙ ap (λ (z : List (List ℕ)). make_lines number (length d.units) (length (events d.model d.units)) (count z)
      (largest z)) e
      ∙ sym b.is_text

  about_one : (P : List ℕ → Type 0) → ((s t : List ℕ) → P s → P t → s ≡ t)
      → ((s : List ℕ) → P s → IsConflictFreeUpTo w.order (system w) w.dropped) → (asked : Asked) → lists_cuts asked.job.command ≡ true
      → (s t : List ℕ) (a b : Status) → AboutCuts P asked w s a → AboutCuts P asked w t b → AgreeButNodes asked s a t b
  about_one P one free asked sought s t a b (inl p) (inl q) = inl (one s t p.0 q.0, p.1 ∙ sym q.1)
  about_one P one free asked sought s t a b (inl p) (inr (inl q)) = absurd
      (no_conflict (naming w) (system w) w.dropped static w.order (free s p.0) t q.0)
  about_one P one free asked sought s t a b (inr (inl p)) (inl q) = absurd
      (no_conflict (naming w) (system w) w.dropped static w.order (free t q.0) s p.0)
  about_one P one free asked sought s t a b (inr (inl p)) (inr (inl q)) =
      inl (conflict_text_one (naming w) (system w) w.dropped static w.order s t p.0 q.0, p.1 ∙ sym q.1)
  about_one P one free asked sought s t a b (inr (inr p)) q = inr (sought, inl p)
  about_one P one free asked sought s t a b p (inr (inr q)) = inr (sought, inr q)

-- Flat systems

flat_text_one : (x : Elaborated) → IsDefinite x → (s t : List ℕ) → IsFlatText x s → IsFlatText x t → s ≡ t
flat_text_one x is s t a b =
    a.is_text
    ∙ flat_one x is.names.events a.parts b.parts a.is_sound b.is_sound a.is_flat b.is_flat
    ∙ sym b.is_text

-- All commands

module _ (asked : Asked) (w : Ready) where
  well_one : (P : List ℕ → Type 0) → ((s t : List ℕ) → P s → P t → s ≡ t) → (s t : List ℕ) (a b : Status)
      → Well P s a → Well P t b → AgreeButNodes asked s a t b
  well_one P one s t a b p q = inl (one s t p.0 q.0, p.1 ∙ sym q.1)

  told_one : (v : Verb) → asked.job.command ≡ v → IsFitWhere (is_static v) w → (s t : List ℕ) (a b : Status)
      → Told v asked w s a → Told v asked w t b → AgreeButNodes asked s a t b
  told_one verb.Check e fit s t a b p q =
      well_one (λ t. t ≡ check_text w.source.declarations) (λ s t h k. h ∙ sym k) s t a b p q
  told_one verb.Flat e fit s t a b p q =
      well_one (IsFlatText w.source) (flat_text_one w.source fit.0) s t a b p q
  told_one verb.Replay e fit s t a b p q = inl (replayed_one w fit.0 s t a b p q)
  told_one verb.Fragment e fit s t a b p q =
      well_one (IsForestText (naming_of w.source.declarations) w.source.system w.dropped)
      (forest_text_one (naming_of w.source.declarations) w.source.system w.dropped
      (keyed_static w (fit.0, fit.1 refl))) s t a b p q
  told_one verb.Equations e fit s t a b p q = well_one (TableTold w) (table_text_one w (fit.0, fit.1 refl)) s t a b p q
  told_one verb.Cuts e fit s t a b p q =
      about_one w (fit.0, fit.1 refl) (IsCutsText w asked.job.nodes) (cuts_one w (fit.0, fit.1 refl) asked.job.nodes)
      (λ s h. h.has.conflict_free) asked (ap lists_cuts e) s t a b p q
  told_one verb.Make e fit s t a b p q =
      about_one w (fit.0, fit.1 refl) (IsMakeText w asked.job.number asked.job.nodes)
      (made_one w (fit.0, fit.1 refl) asked.job.number asked.job.nodes) (λ s h. h.has.conflict_free) asked (ap lists_cuts e) s t a b
      p q
  told_one verb.Explain e fit s t a b p q = inl (explained_one w fit.0 s t a b p q)
  told_one verb.CheckCuts e fit s t a b p q =
      about_one w (fit.0, fit.1 refl) (IsCheckedText w asked.job.nodes) (checked_one w (fit.0, fit.1 refl) asked.job.nodes)
      (λ s h. h.has.conflict_free) asked (ap lists_cuts e) s t a b p q
  told_one verb.Modules e fit s t a b p q =
      about_one w (fit.0, fit.1 refl) (IsShortText w asked.job.nodes) (short_one w (fit.0, fit.1 refl) asked.job.nodes)
      (λ s h. h.has.conflict_free) asked (ap lists_cuts e) s t a b p q

  pub tells_one : IsFitWhere (is_static asked.job.command) w → (s t : List ℕ) (a b : Status)
      → Tells asked w s a → Tells asked w t b → AgreeButNodes asked s a t b
  tells_one fit s t a b p q = told_one asked.job.command refl fit s t a b (told_by asked w s a p) (told_by asked w t b q)

-- Refusals and texts

module _ (one_list : OneList) (x : Elaborated) (is : IsDefinite x) (asked : Asked) (texts : List (List ℕ)) where
  pub saying_one : (s t : List ℕ) (a b : Status) → SaysOf asked texts x s a → SaysOf asked texts x t b
      → AgreeButNodes asked s a t b
  saying_one s t a b (says.refuses {r = r} h) (says.refuses {r = q} k) =
      let e = same_err r q (readies_one asked texts one_list x is (Err r) (Err q) h k) in
      inl (ap line_of e, ap status_of e)
  saying_one s t a b (says.refuses {r = r} h) (says.tells {w = w} k m) =
      ok_err w r (readies_one asked texts one_list x is (Ok w) (Err r) k h)
  saying_one s t a b (says.tells {w = w} k m) (says.refuses {r = r} h) =
      ok_err w r (readies_one asked texts one_list x is (Ok w) (Err r) k h)
  saying_one s t a b (says.tells {w = w} h p) (says.tells {w = v} k q) =
      let e : v ≡ w = same_ok v w (readies_one asked texts one_list x is (Ok v) (Ok w) k h) in
      tells_one asked w (readies_on asked texts x w is h) s t a b p (subst (λ (z : Ready). Tells asked z t b) e q)
