-- What each command answers.
use Rattle.std.proofs.Common.{◌≡◌, ◌<◌, ℕ, List, [], ◌∷◌, ◌++◌, codes, length, Result, Err, refl, sym, subst}
use Rattle.ar_base.specs.Texts.{line}
use Rattle.ar_io.specs.Writing.{SinkState}
use Rattle.ar_io.specs.Handing.{Writes}
use Rattle.ar_io.specs.declared.outside.SinkFailed.{SinkFailed}
use Rattle.ar_io.proofs.Writing.{front_longer, front_nothing}
use Rattle.domains.specs.declared.Value.{Value}
use Rattle.ar_meaning.specs.Systems as s
use Rattle.ar_meaning.specs.Runs.{Command, Fire, Back, Show, Enabled}
use Rattle.ar_meaning.specs.Steps.{Step, Refused, Next}
use Rattle.ar_meaning.specs.Steps as steps
use Rattle.ar_meaning.specs.TraceText.{Naming, step_fault_text}
use Rattle.flow_propagate.specs.Answers.{fault_of}
use Rattle.gts_core.specs.View.{Views, IsWayAt, net_of}
use Rattle.gts_core.specs.Sound.{IsSound}
use Rattle.gts_core.specs.Readings.{IsTotal}
use Rattle.gts_core.specs.declared.system.GtsParts.{GtsParts}
use Rattle.gts_flatten.specs.Flat.{naming_of_parts}
use Rattle.stepper.specs.Steps.{Standing, IsStepFault}
use Rattle.stepper.specs.declared.faults.StepFault.{StepFault}
use Rattle.stepper.specs.declared.faults.StepFault.TheVariants as fault
use Rattle.text_pieces.specs.WayLabels.{numbered_label, way_label}
use Rattle.replayer.specs.Playing.{AreTotal, Follows, AnswersOneCommand, stops, write, memory, IsReplayRefusal}
use Rattle.replayer.specs.Playing as refusal
use Rattle.replayer.specs.Listing.{visible_ways, able}
use Rattle.replayer.specs.Printing.{values_text, changes_text, way_lines}
use Rattle.text_pieces.specs.Faults.{step_text}
use Rattle.replayer.specs.declared.ends.End.{End}
use Rattle.replayer.specs.declared.ends.End.TheVariants.{Fault}
use Rattle.replayer.specs.declared.ends.ReplayFault.{ReplayFault}
use Rattle.replayer.specs.declared.ends.ReplayFault.TheVariants.{Write, Memory}
use Rattle.replayer.proofs.FollowLemmas.{going, later, fires_so, fails_so, back_so, no_step_so, shows_so, lists_so}
use Rattle.replayer.proofs.ListLemmas.{some_answers, is_list}
use Rattle.text_pieces.proofs.Ways.{way_named, label_alike}

module _ (p : GtsParts) (sound : IsSound p) (sys : s.System ℕ) (views : Views p sys) where
  -- A text of which first bytes are written

  -- the run goes on behind the text
  pub on_cut : {before any : Standing} {c : Command} {old new : SinkState} {e : SinkFailed} (below : List (List Value))
      (t : List Value) (text : List ℕ)
      → ((cs : List Command) (more : List ℕ) (end : End) → Follows (naming_of_parts p) sys below t cs more end
      → Follows (naming_of_parts p) sys before.below before.values (c ∷ cs) (text ++ more) end)
      → AreTotal p below → IsTotal p t → Writes old new text (Err e)
      → AnswersOneCommand (naming_of_parts p) sys before any c old new (Err Write)
  on_cut below t text on totals total w =
      write (λ cs h.
      let f = going p sound sys views below t cs totals total (later h) in
      record {
        text = text ++ f.text;
        end = f.end;
        follows = on cs f.text f.end f.follows;
        front = front_longer text f.text w.front;
      }) w.rose

  -- the run stops behind the text
  pub stop_cut : {before any : Standing} {c : Command} {old new : SinkState} {e : SinkFailed} (text : List ℕ)
      → ((cs : List Command) → Follows (naming_of_parts p) sys before.below before.values (c ∷ cs) text Fault)
      → Writes old new text (Err e) → AnswersOneCommand (naming_of_parts p) sys before any c old new (Err Write)
  stop_cut text stop w = write (λ cs h. record { text = text; end = Fault; follows = stop cs; front = w.front }) w.rose

  -- nothing is written
  pub out_of_memory : {before any : Standing} {c : Command} {old : SinkState} → AreTotal p before.below
      → IsTotal p before.values
      → AnswersOneCommand (naming_of_parts p) sys before any c old old (Err Memory)
  out_of_memory {before = before} {c = c} {old = old} totals total =
      memory (λ cs h.
      let f = going p sound sys views before.below before.values (c ∷ cs) totals total h in
      record {
        text = f.text;
        end = f.end;
        follows = f.follows;
        front = front_longer [] f.text (front_nothing old.bytes old.bytes refl);
      }) refl

  -- Commands

  module _ (n : ℕ) (inside : n < length p.ways.items) where
    abbrev fire_text : List Value → List Value → List ℕ
    fire_text t u = line (codes "fire " ++ way_label p n) ++ changes_text p t u

    -- a way that is fired
    pub fire_on : (before after : Standing) → before.system ≡ p → after.below ≡ before.values ∷ before.below
        → ((w : s.Way ℕ) → IsWayAt before.system n w → Step (net_of before.system) before.values w (Next after.values))
        → IsTotal p before.values → IsTotal p after.values
        → (cs : List Command) (more : List ℕ) (end : End)
        → Follows (naming_of_parts p) sys after.below after.values cs more end
        → Follows (naming_of_parts p) sys before.below before.values (Fire (numbered_label p n) ∷ cs)
        (fire_text before.values after.values ++ more) end
    fire_on before after same below step old new cs more end f =
        let named = way_named p sys views sound n inside in
        let own = subst (λ (q : GtsParts). (w : s.Way ℕ) → IsWayAt q n w
        → Step (net_of q) before.values w (Next after.values)) same step in
        let done = subst (λ (net : s.Net ℕ). Step net before.values named.way (Next after.values)) (sym views.net)
        (own named.way named.is_at) in
        subst (λ (l : List ℕ). Follows (naming_of_parts p) sys before.below before.values (Fire (numbered_label p n) ∷ cs)
        ((line (codes "fire " ++ l) ++ changes_text p before.values after.values) ++ more) end)
        (label_alike p sys views n)
        (fires_so p sound sys views before.below before.values after.values (numbered_label p n) named.way named.is_way done
        old new cs more end
        (subst (λ (b : List (List Value)). Follows (naming_of_parts p) sys b after.values cs more end) below f))

    abbrev fault_text : StepFault → List ℕ
    fault_text f = line (codes "fault: " ++ (way_label p n ++ (codes ": " ++ step_text p f)))

    -- a way that meets a fault
    pub fails_as : (before : Standing) → (f : StepFault) (g : steps.StepFault)
        → step_fault_text (naming_of_parts p) g ≡ step_text p f
        → ((w : s.Way ℕ) → IsWayAt p n w → Step (net_of p) before.values w (Refused g))
        → (cs : List Command) → Follows (naming_of_parts p) sys before.below before.values (Fire (numbered_label p n) ∷ cs)
        (fault_text f) Fault
    fails_as before f g e step cs =
        let named = way_named p sys views sound n inside in
        let done = subst (λ (net : s.Net ℕ). Step net before.values named.way (Refused g)) (sym views.net)
        (step named.way named.is_at) in
        subst (λ (t : List ℕ). Follows (naming_of_parts p) sys before.below before.values (Fire (numbered_label p n) ∷ cs)
        (line (codes "fault: " ++ (way_label p n ++ (codes ": " ++ t)))) Fault) e
        (subst (λ (l : List ℕ). Follows (naming_of_parts p) sys before.below before.values (Fire (numbered_label p n) ∷ cs)
        (line (codes "fault: " ++ (l ++ (codes ": " ++ step_fault_text (naming_of_parts p) g)))) Fault)
        (label_alike p sys views n)
        (fails_so p sound sys views before.below before.values (numbered_label p n) named.way g named.is_way done cs))

    pub fire_fails : (before : Standing) → before.system ≡ p → (f : StepFault) → (f ≡ fault.Memory → ⊥)
        → ((w : s.Way ℕ) → IsWayAt before.system n w → IsStepFault (net_of before.system) before.values w f)
        → (cs : List Command) → Follows (naming_of_parts p) sys before.below before.values (Fire (numbered_label p n) ∷ cs)
        (fault_text f) Fault
    fire_fails before same f some is =
        go f some (subst (λ (q : GtsParts). (w : s.Way ℕ) → IsWayAt q n w → IsStepFault (net_of q) before.values w f)
        same is)
      where
        go : (f : StepFault) → (f ≡ fault.Memory → ⊥)
            → ((w : s.Way ℕ) → IsWayAt p n w → IsStepFault (net_of p) before.values w f)
            → (cs : List Command) → Follows (naming_of_parts p) sys before.below before.values
            (Fire (numbered_label p n) ∷ cs) (fault_text f) Fault
        go fault.NotEnabled some is cs = fails_as before fault.NotEnabled steps.NotEnabled refl is cs
        go (fault.Clash x) some is cs = fails_as before (fault.Clash x) (steps.Clash x.n) refl is cs
        go (fault.Range x) some is cs = fails_as before (fault.Range x) (steps.Range x.n) refl is cs
        go (fault.Flow f) some is cs = fails_as before (fault.Flow f) (steps.Flow (fault_of f)) refl is cs
        go fault.Memory some is cs = absurd (some refl)

  -- a step that is taken back
  pub back_on : (before after : Standing) → before.below ≡ after.values ∷ after.below → IsTotal p before.values
      → IsTotal p after.values
      → (cs : List Command) (more : List ℕ) (end : End)
      → Follows (naming_of_parts p) sys after.below after.values cs more end
      → Follows (naming_of_parts p) sys before.below before.values (Back ∷ cs)
      ((line (codes "back") ++ changes_text p before.values after.values) ++ more) end
  back_on before after below old new cs more end f =
      subst (λ (b : List (List Value)). Follows (naming_of_parts p) sys b before.values (Back ∷ cs)
      ((line (codes "back") ++ changes_text p before.values after.values) ++ more) end) (sym below)
      (back_so p sound sys views after.below before.values after.values old new cs more end f)

  pub back_stops : (before : Standing) → before.below ≡ [] → (cs : List Command)
      → Follows (naming_of_parts p) sys before.below before.values (Back ∷ cs) (line (codes "fault: back: no step"))
      Fault
  back_stops before below cs =
      subst (λ (b : List (List Value)). Follows (naming_of_parts p) sys b before.values (Back ∷ cs)
      (line (codes "fault: back: no step")) Fault) (sym below)
      (no_step_so p sound sys views before.values cs)

  -- the ways that can fire
  pub list_on : (at : Standing) → (cs : List Command) (more : List ℕ) (end : End)
      → Follows (naming_of_parts p) sys at.below at.values cs more end
      → Follows (naming_of_parts p) sys at.below at.values (Enabled ∷ cs)
      ((line (codes "enabled") ++ way_lines p (able (some_answers p sound at.values).0 (visible_ways p.events.items)))
      ++ more) end
  list_on at cs more end f =
      let may = some_answers p sound at.values in
      lists_so p sound sys views at.below at.values (way_lines p (able may.0 (visible_ways p.events.items)))
      (is_list p sys views at.values may.0 may.1 sound) cs more end f

  pub show_on : (at : Standing) → IsTotal p at.values → (cs : List Command) (more : List ℕ) (end : End)
      → Follows (naming_of_parts p) sys at.below at.values cs more end
      → Follows (naming_of_parts p) sys at.below at.values (Show ∷ cs)
      ((line (codes "show") ++ values_text p at.values) ++ more) end
  show_on at total cs more end f = shows_so p sound sys views at.below at.values total cs more end f

  -- a way that was not fired
  pub refused : (n : ℕ) (inside : n < length p.ways.items) (before after : Standing) (f : StepFault) → before.system ≡ p
      → ((w : s.Way ℕ) → IsWayAt before.system n w → IsStepFault (net_of before.system) before.values w f)
      → AreTotal p before.below → IsTotal p before.values
      → {old new : SinkState} {r : Result End ReplayFault} → IsReplayRefusal p n f old new r
      → AnswersOneCommand (naming_of_parts p) sys before after (Fire (numbered_label p n)) old new r
  refused n inside before after f same is totals total {old = old} {new = new} (refusal.memory e i) =
      subst (λ (z : SinkState). AnswersOneCommand (naming_of_parts p) sys before after (Fire (numbered_label p n)) old z (Err Memory)) i
      (out_of_memory totals total)
  refused n inside before after f same is totals total (refusal.told some w) =
      stops w (fire_fails n inside before same f some is)
  refused n inside before after f same is totals total (refusal.cut some w) =
      stop_cut _ (fire_fails n inside before same f some is) w

-- the answer that was passed on
pub answers_as : {names : Naming} {sys : s.System ℕ} {before after : Standing} {c : Command} {old new : SinkState}
    {r q : Result End ReplayFault}
    → r ≡ q → AnswersOneCommand names sys before after c old new q → AnswersOneCommand names sys before after c old new r
answers_as {names = names} {sys = sys} {before = before} {after = after} {c = c} {old = old} {new = new} e h =
    subst (λ (z : Result End ReplayFault). AnswersOneCommand names sys before after c old new z) (sym e) h

pub refusal_as : {p : GtsParts} {n : ℕ} {f : StepFault} {old new : SinkState} {r q : Result End ReplayFault} → r ≡ q
    → IsReplayRefusal p n f old new q → IsReplayRefusal p n f old new r
refusal_as {p = p} {n = n} {f = f} {old = old} {new = new} e h =
    subst (λ (z : Result End ReplayFault). IsReplayRefusal p n f old new z) (sym e) h
