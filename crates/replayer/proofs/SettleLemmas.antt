-- How far a run is, command by command, where nothing but a fault is told.
use Rattle.std.proofs.Common.{◌≡◌, ◌<◌, ℕ, List, [], ◌∷◌, ◌++◌, codes, length, Option, None, Result, Ok, Err, refl, sym, ◌∙◌, ap, subst, append_assoc}
use Rattle.ar_base.specs.Texts.{line}
use Rattle.ar_io.specs.Writing.{SinkState}
use Rattle.ar_io.specs.Handing.{Writes}
use Rattle.domains.specs.declared.Value.{Value}
use Rattle.ar_meaning.specs.Systems as s
use Rattle.ar_meaning.specs.Flows.{FlowFault}
use Rattle.ar_meaning.specs.Steps.{Step, Refused, Next}
use Rattle.ar_meaning.specs.Steps as steps
use Rattle.ar_meaning.specs.Runs.{Command, Fire, Back, Show, Enabled, Moment, Start, StartFails, Starts, Start_fails, Fires, Fire_fails, Goes_back, No_step, Shows, Lists, Ends, Goes, Runs}
use Rattle.ar_meaning.specs.Runs as r
use Rattle.ar_meaning.specs.TraceText.{Naming, MomentText, step_fault_text, flow_fault_text}
use Rattle.ar_meaning.specs.TraceText as tell
use Rattle.flow_propagate.specs.Answers.{fault_of}
use Rattle.gts_core.specs.View.{Views, IsWayAt, net_of}
use Rattle.gts_core.specs.Sound.{IsSound}
use Rattle.gts_core.specs.declared.system.GtsParts.{GtsParts}
use Rattle.gts_core.specs.declared.system.Valuation.{Valuation}
use Rattle.gts_flatten.specs.Flat.{naming_of_parts}
use Rattle.stepper.specs.Steps.{Standing, IsStepFault}
use Rattle.stepper.specs.declared.faults.StepFault.{StepFault}
use Rattle.stepper.specs.declared.faults.StepFault.TheVariants as fault
use Rattle.text_pieces.specs.WayLabels.{numbered_label, way_label}
use Rattle.replayer.specs.Playing.{IsReplayRefusal}
use Rattle.replayer.specs.Playing as refusal
use Rattle.text_pieces.specs.Faults.{step_text}
use Rattle.replayer.specs.Replays.{end_of}
use Rattle.replayer.specs.Settles.{Settles, IsFaultLine, last_standing}
use Rattle.replayer.specs.SettlesInside.{AnswersSettle}
use Rattle.replayer.specs.Settling.{GoesOn, StopsCommand, AnswersCommand, IsRunning}
use Rattle.replayer.specs.declared.ends.End.{End}
use Rattle.replayer.specs.declared.ends.End.TheVariants.{Fault}
use Rattle.replayer.specs.declared.ends.ReplayFault.{ReplayFault}
use Rattle.replayer.specs.declared.ends.ReplayFault.TheVariants.{Write, Memory}
use Rattle.replayer.proofs.ListLemmas.{some_answers, is_list}
use Rattle.text_pieces.proofs.Ways.{way_named, label_alike}

module _ (p : GtsParts) (sound : IsSound p) (sys : s.System ℕ) (views : Views p sys) where
  -- a way that is fired
  pub fire_goes : (n : ℕ) → n < length p.ways.items → (before after : Standing) → before.system ≡ p
      → after.below ≡ before.values ∷ before.below
      → ((w : s.Way ℕ) → IsWayAt before.system n w → Step (net_of before.system) before.values w (Next after.values))
      → GoesOn sys before after (Fire (numbered_label p n))
  fire_goes n inside before after same below step =
      let named = way_named p sys views sound n inside in
      let own = subst (λ (q : GtsParts). (w : s.Way ℕ) → IsWayAt q n w
      → Step (net_of q) before.values w (Next after.values)) same step in
      let done = subst (λ (net : s.Net ℕ). Step net before.values named.way (Next after.values)) (sym views.net)
      (own named.way named.is_at) in
      record {
        moment = Fires (numbered_label p n) before.values after.values;
        goes = λ cs ms g. r.fires named.way named.is_way done
            (subst (λ (b : List (List Value)). Goes sys b after.values cs ms) below g);
        quiet = λ ms. refl;
        last = λ ms. refl;
      }

  abbrev fault_text : ℕ → StepFault → List ℕ
  fault_text n f = line (codes "fault: " ++ (way_label p n ++ (codes ": " ++ step_text p f)))

  -- a way that meets a fault
  stops_as : (n : ℕ) → n < length p.ways.items → (before : Standing) → (f : StepFault) (g : steps.StepFault)
      → step_fault_text (naming_of_parts p) g ≡ step_text p f
      → ((w : s.Way ℕ) → IsWayAt p n w → Step (net_of p) before.values w (Refused g))
      → StopsCommand (naming_of_parts p) sys before (Fire (numbered_label p n)) (fault_text n f)
  stops_as n inside before f g e step =
      let named = way_named p sys views sound n inside in
      let done = subst (λ (net : s.Net ℕ). Step net before.values named.way (Refused g)) (sym views.net)
      (step named.way named.is_at) in
      record {
        fault = Fire_fails (numbered_label p n) g;
        goes = λ cs. r.fails named.way named.is_way done;
        is_fault = refl;
        told =
            subst (λ (t : List ℕ). MomentText (naming_of_parts p) sys (Fire_fails (numbered_label p n) g)
            (line (codes "fault: " ++ (way_label p n ++ (codes ": " ++ t))))) e
            (subst (λ (l : List ℕ). MomentText (naming_of_parts p) sys (Fire_fails (numbered_label p n) g)
            (line (codes "fault: " ++ (l ++ (codes ": " ++ step_fault_text (naming_of_parts p) g)))))
            (label_alike p sys views n) tell.fire_fails);
      }

  fire_stops : (n : ℕ) → n < length p.ways.items → (before : Standing) (f : StepFault) → (f ≡ fault.Memory → ⊥)
      → ((w : s.Way ℕ) → IsWayAt p n w → IsStepFault (net_of p) before.values w f)
      → StopsCommand (naming_of_parts p) sys before (Fire (numbered_label p n)) (fault_text n f)
  fire_stops n inside before fault.NotEnabled some is =
      stops_as n inside before fault.NotEnabled steps.NotEnabled refl is
  fire_stops n inside before (fault.Clash x) some is =
      stops_as n inside before (fault.Clash x) (steps.Clash x.n) refl is
  fire_stops n inside before (fault.Range x) some is =
      stops_as n inside before (fault.Range x) (steps.Range x.n) refl is
  fire_stops n inside before (fault.Flow f) some is =
      stops_as n inside before (fault.Flow f) (steps.Flow (fault_of f)) refl is
  fire_stops n inside before fault.Memory some is = absurd (some refl)

  -- a way that was not fired
  pub refused : (n : ℕ) → n < length p.ways.items → (before after : Standing) (f : StepFault) → before.system ≡ p
      → ((w : s.Way ℕ) → IsWayAt before.system n w → IsStepFault (net_of before.system) before.values w f)
      → {old new : SinkState} {r : Result End ReplayFault} → IsReplayRefusal p n f old new r
      → AnswersCommand (naming_of_parts p) sys before after (Fire (numbered_label p n)) old new r
  refused n inside before after f same is (refusal.memory e i) = sym i
  refused n inside before after f same is (refusal.told some w) =
      let own = subst (λ (q : GtsParts). (w : s.Way ℕ) → IsWayAt q n w → IsStepFault (net_of q) before.values w f) same
      is in
      (_, fire_stops n inside before f some own, w)
  refused n inside before after f same is (refusal.cut some w) =
      let own = subst (λ (q : GtsParts). (w : s.Way ℕ) → IsWayAt q n w → IsStepFault (net_of q) before.values w f) same
      is in
      (_, fire_stops n inside before f some own, w)

  -- a step that is taken back
  pub back_goes : (before after : Standing) → before.below ≡ after.values ∷ after.below → GoesOn sys before after Back
  back_goes before after below = record {
    moment = Goes_back before.values after.values;
    goes = λ cs ms g. subst (λ (b : List (List Value)). Goes sys b before.values (Back ∷ cs)
        (Goes_back before.values after.values ∷ ms)) (sym below) (r.back g);
    quiet = λ ms. refl;
    last = λ ms. refl;
  }

  pub back_stops : (before : Standing) → before.below ≡ []
      → StopsCommand (naming_of_parts p) sys before Back (line (codes "fault: back: no step"))
  back_stops before below = record {
    fault = No_step;
    goes = λ cs. subst (λ (b : List (List Value)). Goes sys b before.values (Back ∷ cs) (No_step ∷ [])) (sym below)
        r.no_step;
    is_fault = refl;
    told = tell.no_step;
  }

  -- what is shown, and the ways that can fire
  pub show_goes : (at : Standing) → GoesOn sys at at Show
  show_goes at = record { moment = Shows at.values; goes = λ cs ms g. r.shows g; quiet = λ ms. refl; last = λ ms. refl }

  pub list_goes : (at : Standing) → GoesOn sys at at Enabled
  list_goes at =
      let may = some_answers p sound at.values in
      let list = is_list p sys views at.values may.0 may.1 sound in
      record {
        moment = Lists list.labels;
        goes = λ cs ms g. r.lists list.listed g;
        quiet = λ ms. refl;
        last = λ ms. refl;
      }

  -- a fault of the start
  pub unstarted : (f : FlowFault) (cs : List Command) → StartFails (net_of p) f
      → IsFaultLine (naming_of_parts p) sys cs (line (codes "fault: start: " ++ flow_fault_text (naming_of_parts p) f))
  unstarted f cs fails = record {
    before = [];
    fault = Start_fails f;
    runs = r.start_fails (subst (λ (n : s.Net ℕ). StartFails n f) (sym views.net) fails);
    is_fault = refl;
    told = tell.start_fails;
  }

  -- the start
  pub running : (at : Standing) (cs : List Command) → Start (net_of p) at.values → at.below ≡ []
      → IsRunning sys cs at cs
  running at cs starts none = record {
    first = at.values;
    done = [];
    rest = λ ms g. r.starts (subst (λ (n : s.Net ℕ). Start n at.values) (sym views.net) starts)
        (subst (λ (b : List (List Value)). Goes sys b at.values cs ms) none g);
    quiet = λ ms. refl;
    last = λ ms. refl;
  }

module _ {sys : s.System ℕ} {all : List Command} where
  -- one command more
  pub running_on : {at after : Standing} (c : Command) (left rest : List Command) → left ≡ c ∷ rest
      → IsRunning sys all at left → GoesOn sys at after c
      → IsRunning sys all after rest
  running_on {at = at} {after = after} c left rest e h on = record {
    first = h.first;
    done = h.done ++ on.moment ∷ [];
    rest = λ ms g.
        subst (λ (z : List Moment). Runs sys all (Starts h.first ∷ z)) (sym (append_assoc h.done (on.moment ∷ []) ms))
        (h.rest (on.moment ∷ ms) (subst (λ (z : List Command). Goes sys at.below at.values z (on.moment ∷ ms)) (sym e)
        (on.goes rest ms g)));
    quiet = λ ms. ap end_of (append_assoc h.done (on.moment ∷ []) ms) ∙ h.quiet (on.moment ∷ ms) ∙ on.quiet ms;
    last = λ ms. ap (last_standing h.first) (append_assoc h.done (on.moment ∷ []) ms) ∙ h.last (on.moment ∷ ms)
        ∙ on.last ms;
  }

  -- the fault that the run ends in
  pub running_stops : {names : Naming} {at : Standing} (c : Command) (left rest : List Command) (text : List ℕ)
      → left ≡ c ∷ rest → IsRunning sys all at left
      → StopsCommand names sys at c text → IsFaultLine names sys all text
  running_stops {at = at} c left rest text e h stop = record {
    before = Starts h.first ∷ h.done;
    fault = stop.fault;
    runs = h.rest (stop.fault ∷ []) (subst (λ (z : List Command). Goes sys at.below at.values z (stop.fault ∷ []))
        (sym e) (stop.goes rest));
    is_fault = stop.is_fault;
    told = stop.told;
  }

  -- the end of the commands
  pub running_ends : {at : Standing} (left : List Command) → left ≡ [] → IsRunning sys all at left
      → Settles sys all at.values
  running_ends {at = at} left e h = record {
    first = h.first;
    moments = h.done ++ Ends (length at.below) ∷ [];
    runs = h.rest (Ends (length at.below) ∷ [])
        (subst (λ (z : List Command). Goes sys at.below at.values z (Ends (length at.below) ∷ [])) (sym e) r.ends);
    no_fault = h.quiet (Ends (length at.below) ∷ []);
    last = h.last (Ends (length at.below) ∷ []);
  }

  -- a command that was broken off
  pub running_fails : (names : Naming) {at : Standing} (after : Standing) (c : Command) (left rest : List Command)
      (old now new : SinkState) (f : ReplayFault) → left ≡ c ∷ rest
      → IsRunning sys all at left → now ≡ old → AnswersCommand names sys at after c now new (Err f)
      → AnswersSettle names sys all old new (Err f)
  running_fails names after c left rest old now new Write e h same a = (
    a.0,
    running_stops c left rest a.0 e h a.1,
    subst (λ (z : SinkState). Writes z new a.0 (Err (record {}))) same
        a.2,
  )
  running_fails names after c left rest old now new Memory e h same a = a ∙ same

  -- a command that meets a fault
  pub running_told : (names : Naming) {at : Standing} (after : Standing) (c : Command) (left rest : List Command)
      (old now new : SinkState) → left ≡ c ∷ rest
      → IsRunning sys all at left → now ≡ old → AnswersCommand names sys at after c now new (Ok Fault)
      → AnswersSettle names sys all old new (Ok None)
  running_told names after c left rest old now new e h same a =
      (a.0, running_stops c left rest a.0 e h a.1, subst (λ (z : SinkState). Writes z new a.0 (Ok tt)) same a.2)

-- the answer that was passed on
pub settles_as : (names : Naming) (sys : s.System ℕ) (cs : List Command) (old new : SinkState)
    {r q : Result (Option Valuation) ReplayFault}
    → r ≡ q → AnswersSettle names sys cs old new q → AnswersSettle names sys cs old new r
settles_as names sys cs old new e h =
    subst (λ (z : Result (Option Valuation) ReplayFault). AnswersSettle names sys cs old new z) (sym e) h

pub command_as : (names : Naming) (sys : s.System ℕ) (before after : Standing) (c : Command) (old new : SinkState)
    {r q : Result End ReplayFault}
    → r ≡ q → AnswersCommand names sys before after c old new q → AnswersCommand names sys before after c old new r
command_as names sys before after c old new e h =
    subst (λ (z : Result End ReplayFault). AnswersCommand names sys before after c old new z) (sym e) h
