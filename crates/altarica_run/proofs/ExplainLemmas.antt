-- Explanations, as they are written: where a run settles, its valuation has flows, and its reasons are the source's.
use Rattle.std.proofs.Common.{◌≡◌, ◌<◌, ℕ, List, [], ◌∷◌, Option, Some, None, Result, Ok, Err, length, map, refl, sym, ◌∙◌, ap, subst}
use Rattle.std.specs.List.{AllByRecursion}
use Rattle.std.specs.Prelude.{IfSome}
use Rattle.ar_base.specs.Lists.{Stands}
use Rattle.ar_base.proofs.Standing.{stands_some, stands_map, along_back}
use Rattle.ar_firing.specs.Operands.{HasFlows}
use Rattle.ar_io.specs.Writing.{SinkState}
use Rattle.domains.specs.declared.Value.{Value}
use Rattle.typed_expr.specs.declared.expr.Expr.{Expr}
use Rattle.ar_meaning.specs.FlatOf.{IsNumber, IsFlatOf}
use Rattle.ar_meaning.specs.Image.{Expr_renames}
use Rattle.ar_meaning.specs.Systems.{Net, Way, System}
use Rattle.ar_meaning.specs.Flows.{Flows, Total}
use Rattle.ar_meaning.specs.Runs.{Command, Moment, Starts, Goes, ends, fires, fails, back, no_step, shows, lists, first_values, Runs, starts}
use Rattle.ar_meaning.specs.Steps.{Step, Next, moves}
use Rattle.ar_meaning.proofs.StatesAlone.{same_flows}
use Rattle.flow_propagate.specs.Answers.{IsState}
use Rattle.flow_reasons.proofs.RoundTotals.{states_of}
use Rattle.gts_core.specs.Readings.{IsTotal}
use Rattle.gts_core.specs.View.{Views, net_of, numbered}
use Rattle.gts_core.specs.declared.system.GtsParts.{GtsParts}
use Rattle.gts_core.specs.declared.system.Observer.{Observer}
use Rattle.gts_core.specs.declared.system.Valuation.{Valuation}
use Rattle.gts_flatten.specs.Flat.{IsFlat, naming_of, naming_of_parts}
use Rattle.hierarchy.specs.Listing.{variables}
use Rattle.hierarchy.specs.Units.{Thing}
use Rattle.reason_text.specs.Answers.{Explains, observed, AreSameObserver, IsObserverIn}
use Rattle.reason_text.specs.Texts.{IsReasonText}
use Rattle.job_inputs.specs.Flat.{command_of}
use Rattle.replayer.specs.Settles.{last_standing, Settles, IsFaultLine}
use Rattle.replayer.specs.SettlesInside.{AnswersSettle}
use Rattle.job_inputs.specs.declared.commands.Command.{Command as Given}
use Rattle.replayer.specs.declared.ends.ReplayFault.{ReplayFault}
use Rattle.replayer.specs.declared.ends.ReplayFault.TheVariants as fault
use Rattle.run_words.specs.declared.jobs.Asked.{Asked}
use Rattle.run_words.specs.declared.verbs.Verb.TheVariants.{Explain}
use Rattle.job_stages.specs.Stages.{Ready}
use Rattle.job_stages.specs.Telling.{status_explained, IsWritten, whole, cut, nothing}
use Rattle.job_stages.specs.Tells.{Tells, explains, unsettled, IsObserverOf}
use Rattle.job_stages.specs.declared.status.Status.{Status}
use Rattle.job_stages.specs.declared.status.Status.TheVariants.{Done, Fault}

module _ {V : Type 0} (sys : System V)
    (again : (t total : List Value) → Flows sys.net t (Total total) → Flows sys.net total (Total total)) where
  -- the valuation determines itself
  abbrev Stays : List Value → Type 0
  Stays t = Flows sys.net t (Total t)

  step_stays : (t u : List Value) (w : Way V) → Step sys.net t w (Next u) → Stays u
  step_stays t u w (moves state can one inside gets flows) = again state u flows

  goes_stays : (below : List (List Value)) (t : List Value) (cs : List Command) (ms : List Moment)
      → Goes sys below t cs ms
      → Stays t → AllByRecursion Stays below → Stays (last_standing t ms)
  goes_stays below t [] ms ends h all = h
  goes_stays below t cs ms (fires {u = u} {cs = ds} {ms = ns} w is step g) h all =
      goes_stays (t ∷ below) u ds ns g (step_stays t u w step) (h, all)
  goes_stays below t cs ms (fails w is step) h all = h
  goes_stays below t cs ms (back {below = rest} {u = u} {cs = ds} {ms = ns} g) h all =
      goes_stays rest u ds ns g all.0 all.1
  goes_stays below t cs ms no_step h all = h
  goes_stays below t cs ms (shows {cs = ds} {ms = ns} g) h all = goes_stays below t ds ns g h all
  goes_stays below t cs ms (lists {cs = ds} {ms = ns} l g) h all = goes_stays below t ds ns g h all

  runs_stay : (cs : List Command) (t : List Value) (ms : List Moment) → Runs sys cs (Starts t ∷ ms)
      → Stays (last_standing t ms)
  runs_stay cs t ms (starts start g) = goes_stays [] t cs ms g (again (first_values sys.net.variables) t start) tt

  -- where a run settles, its valuation is total and determines itself
  pub settled_total : (cs : List Command) (t : List Value) → Settles sys cs t → Flows sys.net t (Total t)
  settled_total cs t s = subst Stays s.last (runs_stay cs s.first s.moments s.runs)

  -- so it has flows
  pub settled_flows : (cs : List Command) (t : List Value) → Settles sys cs t → HasFlows sys.net t
  settled_flows cs t s = record { values = t; flows = settled_total cs t s }

-- The text

module _ (asked : Asked) (w : Ready) (p : GtsParts) (is : IsFlat w.source p) (e : asked.job.command ≡ Explain)
    (given_commands : List Given) (same_commands : w.commands ≡ map (command_of p) given_commands) where
  abbrev flat : System ℕ
  flat = is.flat

  abbrev things : List Thing
  things = variables w.source.declarations.model w.source.declarations.units

  abbrev commands : List Command
  commands = map (command_of p) given_commands

  commands_are : commands ≡ w.commands
  commands_are = sym same_commands

  -- the line of the fault
  module _
      (there : (text : List ℕ) → IsFaultLine (naming_of_parts p) flat commands text
      → IsFaultLine (naming_of w.source.declarations) w.source.system commands text) where
    fault_told : (text : List ℕ) → IsFaultLine (naming_of_parts p) flat commands text → Tells asked w text Fault
    fault_told text h =
        unsettled e
        (subst (λ (z : List Command). IsFaultLine (naming_of w.source.declarations) w.source.system z text) commands_are
        (there text h))

    pub fault_told_whole : {old new : SinkState} (o : Option Valuation) → o ≡ None
        → AnswersSettle (naming_of_parts p) flat commands old new (Ok o) → IsWritten (Tells asked w) old new Fault
    fault_told_whole {old} {new} o i h =
        let k = subst (λ (z : Option Valuation). AnswersSettle (naming_of_parts p) flat commands old new (Ok z))
        i h in
        whole (fault_told k.0 k.1) k.2.whole k.2.kept

    -- the run is told of as it ended in its fault, or memory was refused
    pub settle_stops : {old new : SinkState} (f : ReplayFault)
        → AnswersSettle (naming_of_parts p) flat commands old new (Err f)
        → (r : Result Status ReplayFault) (d : ReplayFault) → r ≡ Err d → d ≡ f
        → IsWritten (Tells asked w) old new (status_explained r)
    settle_stops {old} {new} f h r d i j =
        subst (λ (z : Result Status ReplayFault). IsWritten (Tells asked w) old new (status_explained z))
        (sym (i ∙ ap Err j)) (go f h)
      where
        go : (f : ReplayFault) → AnswersSettle (naming_of_parts p) flat commands old new (Err f)
            → IsWritten (Tells asked w) old new (status_explained (Err f))
        go fault.Write h = cut (fault_told h.0 h.1) h.2.front h.2.rose
        go fault.Memory h = nothing h

  -- the observer, where there is one
  module _ (given : Option ℕ) (same : w.shown ≡ given)
      (known : (n : ℕ) → given ≡ Some n → n < length p.observers.items) where
    flat_is : IsFlatOf things w.source.system flat
    flat_is = is.is_flat

    pub source_observer : (o : Option (Expr Thing)) × IsObserverOf w.source.system given o
        × AreSameObserver things o (observed p given)
    source_observer = go given (λ n i. known n i)
      where
        go : (g : Option ℕ) → ((n : ℕ) → g ≡ Some n → n < length p.observers.items)
            → (o : Option (Expr Thing)) × IsObserverOf w.source.system g o
            × AreSameObserver things o (observed p g)
        go None k = (None, refl, tt)
        go (Some n) k =
            let seen = stands_some p.observers.items n (k n refl) in
            let f = along_back _ _ flat_is.observers n (numbered seen.0.value)
            (subst (λ (z : List (Expr ℕ)). Stands z n (numbered seen.0.value)) (sym is.views.observers)
            (stands_map (λ (z : Observer). numbered z.value) p.observers.items n seen.0 seen.1)) in
            (Some f.0, (f.0, refl, f.1), at_observer seen.0 seen.1 f.0 f.2)
          where
            at_observer : (one : Observer) → Stands p.observers.items n one → (o : Expr Thing)
                → Expr_renames (IsNumber things) o (numbered one.value)
                → AreSameObserver things (Some o) (observed p (Some n))
            at_observer one s o r = rw s r

    -- the lines of the reasons
    module _ (values : List Value) (source_settles : Settles flat commands values
        → Settles w.source.system commands values)
        (there : (observer : Option (Expr Thing)) (other : Option (Expr ℕ)) → AreSameObserver things observer other
        → (text : List ℕ)
        → IsReasonText (naming_of_parts p) (net_of p) values other text
        → IsReasonText (naming_of w.source.declarations) w.source.system.net values observer text) where
      explained_told : Settles flat commands values → (text : List ℕ)
          → IsReasonText (naming_of_parts p) (net_of p) values (observed p given) text
          → Tells asked w text Done
      explained_told settles text h =
          let o = source_observer in
          explains e
          (record {
            values = values;
            settles = subst (λ (z : List Command). Settles w.source.system z values) commands_are
                (source_settles settles);
            observer = o.0;
            is_observer = subst (λ (z : Option ℕ). IsObserverOf w.source.system z o.0) (sym same) o.1;
            is_text = there o.0 (observed p given) o.2 text h;
          })

      -- what the settling answered is that the run settles, and nothing is written yet
      module _ (old mid : SinkState) (o : Option Valuation) (t : Valuation) (is_t : t.values.items ≡ values)
          (i : o ≡ Some t)
          (answers : AnswersSettle (naming_of_parts p) flat commands old mid (Ok o)) where
        settled : Settles flat commands t.values.items × (mid ≡ old)
        settled = subst (λ (z : Option Valuation). AnswersSettle (naming_of_parts p) flat commands old mid
            (Ok z)) i answers

        run_settles : Settles flat commands values
        run_settles = subst (λ (z : List Value). Settles flat commands z) is_t settled.0

        abbrev Text : List ℕ → Type 0
        Text = IsReasonText (naming_of_parts p) (net_of p) values (observed p given)

        pub explained_whole : {new : SinkState} {u : Unit {0}} → Explains mid new Text (Ok u)
            → IsWritten (Tells asked w) old new Done
        explained_whole {new} {u} h =
            let k = subst (λ (z : SinkState). Explains z new Text (Ok u)) settled.1 h in
            whole (explained_told run_settles k.0 k.1) k.2.whole k.2.kept

        pub explained_cut : {new : SinkState} (f : ReplayFault) → Explains mid new Text (Err f)
            → (r : Result Status ReplayFault) (d : ReplayFault) → r ≡ Err d → d ≡ f
            → IsWritten (Tells asked w) old new (status_explained r)
        explained_cut {new} f h r d i j =
            subst (λ (z : Result Status ReplayFault). IsWritten (Tells asked w) old new (status_explained z))
            (sym (i ∙ ap Err j))
            (go f (subst (λ (z : SinkState). Explains z new Text (Err f)) settled.1 h))
          where
            go : (f : ReplayFault) → Explains old new Text (Err f)
                → IsWritten (Tells asked w) old new (status_explained (Err f))
            go fault.Write h = cut (explained_told run_settles h.0 h.1) h.2.front h.2.rose
            go fault.Memory h = nothing h

-- where the run settles, the valuation is a state of the system and has flows
pub total_state : (p : GtsParts) (o : Option Valuation) (t : Valuation) → o ≡ Some t
    → IfSome o (λ (v : Valuation). IsTotal p v.values.items) → IsState p t.values.items
total_state p o t i h =
    let k : IsTotal p t.values.items =
    subst (λ (z : Option Valuation). IfSome z (λ (v : Valuation). IsTotal p v.values.items)) i h in
    record { long = k.long; in_domain = λ n x v s state at. k.in_domain n x v s at }

pub flows_at_end : (p : GtsParts) (flat : System ℕ) → Views p flat → (commands : List Command) (old mid : SinkState)
    (o : Option Valuation) (t : Valuation) → o ≡ Some t
    → AnswersSettle (naming_of_parts p) flat commands old mid (Ok o) → HasFlows (net_of p) t.values.items
flows_at_end p flat views commands old mid o t i answers =
    let k : Settles flat commands t.values.items × (mid ≡ old) =
    subst (λ (z : Option Valuation). AnswersSettle (naming_of_parts p) flat commands old mid (Ok z)) i answers in
    subst (λ (n : Net ℕ). HasFlows n t.values.items) views.net
    (settled_flows flat (λ u total f. same_flows flat.net (states_of f) f) commands t.values.items k.0)

-- the number of an observer that the system has is in its range
pub known_there : (p : GtsParts) (g : Option ℕ) → IsObserverIn p g → (n : ℕ) → g ≡ Some n → n < length p.observers.items
known_there p g k n i = subst (λ (z : Option ℕ). IsObserverIn p z) i k
