-- How far a replay is.
use Rattle.std.proofs.Common.{◌≡◌, ℕ, List, [], ◌∷◌, ◌++◌, codes, decimal, length, Result, Ok, Err, refl, sym, ◌∙◌, subst, append_assoc}
use Rattle.ar_base.specs.Texts.{line}
use Rattle.ar_io.specs.Writing.{SinkState}
use Rattle.ar_io.specs.Handing.{Writes}
use Rattle.ar_io.specs.declared.outside.SinkFailed.{SinkFailed}
use Rattle.ar_io.proofs.Writing.{front_longer, front_more, front_nothing, writes_on, rose_after}
use Rattle.domains.specs.declared.Value.{Value}
use Rattle.ar_meaning.specs.Systems as s
use Rattle.ar_meaning.specs.Runs.{Command, Start, StartFails}
use Rattle.ar_meaning.specs.RunsInside.{FiresWays}
use Rattle.ar_meaning.specs.TraceText.{Naming, flow_fault_text}
use Rattle.ar_meaning.specs.Flows.{FlowFault}
use Rattle.gts_core.specs.View.{Views, net_of}
use Rattle.gts_core.specs.Sound.{IsSound}
use Rattle.gts_core.specs.Readings.{IsTotal}
use Rattle.gts_core.specs.declared.system.GtsParts.{GtsParts}
use Rattle.gts_flatten.specs.Flat.{naming_of_parts}
use Rattle.stepper.specs.Steps.{Standing}
use Rattle.replayer.specs.Playing.{Follows, AnswersOneCommand, goes_on, stops, write, memory, IsPlayed}
use Rattle.replayer.specs.Printing.{values_text}
use Rattle.replayer.specs.Replays.{IsReplay}
use Rattle.replayer.specs.ReplaysInside.{AnswersReplay, whole}
use Rattle.replayer.specs.Replays as answers
use Rattle.replayer.specs.ReplaysInside as replay
use Rattle.replayer.specs.declared.ends.End.{End}
use Rattle.replayer.specs.declared.ends.End.TheVariants.{Done, Fault}
use Rattle.replayer.specs.declared.ends.ReplayFault.{ReplayFault}
use Rattle.replayer.specs.declared.ends.ReplayFault.TheVariants.{Write, Memory}
use Rattle.replayer.proofs.FollowLemmas.{going, later, total_none, starts_so, no_start_so, some_replay, ends_so}

-- the answer that was passed on
pub replay_as : {names : Naming} {sys : s.System ℕ} {cs : List Command} {old new : SinkState}
    {r q : Result End ReplayFault}
    → r ≡ q → AnswersReplay names sys cs old new q → AnswersReplay names sys cs old new r
replay_as {names = names} {sys = sys} {cs = cs} {old = old} {new = new} e h =
    subst (λ (z : Result End ReplayFault). AnswersReplay names sys cs old new z) (sym e) h

module _ {names : Naming} {sys : s.System ℕ} {all : List Command} where
  -- one command more
  pub obeyed_on : {at after : Standing} (c : Command) (left rest : List Command) {old now new : SinkState}
      → left ≡ c ∷ rest
      → IsPlayed names sys all at left old now → AnswersOneCommand names sys at after c now new (Ok Done)
      → IsPlayed names sys all after rest old new
  obeyed_on {at = at} {after = after} c left rest e p (goes_on {text = text} w on) = record {
    text = p.text ++ text;
    writes = writes_on p.writes w;
    fires = later (subst (λ (z : List Command). FiresWays sys z) e p.fires);
    rest = λ more end f.
        subst (λ (z : List ℕ). IsReplay names sys all z end) (sym (append_assoc p.text text more))
        (p.rest (text ++ more) end (subst
        (λ (z : List Command). Follows names sys at.below at.values z (text ++ more) end) (sym e)
        (on rest more end f)));
  }

  -- a command that ends the run
  pub obeyed_stop : {at after : Standing} (c : Command) (left rest : List Command) {old now new : SinkState}
      → left ≡ c ∷ rest
      → IsPlayed names sys all at left old now → AnswersOneCommand names sys at after c now new (Ok Fault)
      → AnswersReplay names sys all old new (Ok Fault)
  obeyed_stop {at = at} c left rest e p (stops {text = text} w stop) =
      let done = writes_on p.writes w in
      whole (p.rest text Fault (subst (λ (z : List Command). Follows names sys at.below at.values z text Fault) (sym e)
      (stop rest))) done.whole done.kept

  -- a command that is broken off
  pub obeyed_err : {at after : Standing} (c : Command) (left rest : List Command) {old now new : SinkState}
      (f : ReplayFault) → left ≡ c ∷ rest
      → IsPlayed names sys all at left old now → AnswersOneCommand names sys at after c now new (Err f)
      → AnswersReplay names sys all old new (Err f)
  obeyed_err {at = at} c left rest {old = old} {now = now} {new = new} Write e p (write broken rose) =
      let b = broken rest (subst (λ (z : List Command). FiresWays sys z) e p.fires) in
      replay.write (p.rest b.text b.end
      (subst (λ (z : List Command). Follows names sys at.below at.values z b.text b.end) (sym e) b.follows))
      (front_more old.bytes now.bytes new.bytes p.text b.text p.writes.whole b.front)
      (rose_after old.faults now.faults new.faults p.writes.rises rose)
  obeyed_err {at = at} c left rest {old = old} {now = now} {new = new} Memory e p (memory broken kept) =
      let b = broken rest (subst (λ (z : List Command). FiresWays sys z) e p.fires) in
      replay.memory (p.rest b.text b.end
      (subst (λ (z : List Command). Follows names sys at.below at.values z b.text b.end) (sym e) b.follows))
      (front_more old.bytes now.bytes new.bytes p.text b.text p.writes.whole b.front) (kept ∙ p.writes.kept)

module _ (p : GtsParts) (sound : IsSound p) (sys : s.System ℕ) (views : Views p sys) where
  -- Starts

  abbrev start_text : List Value → List ℕ
  start_text t = line (codes "start") ++ values_text p t

  own_start : (t : List Value) → Start (net_of p) t → Start sys.net t
  own_start t h = subst (λ (n : s.Net ℕ). Start n t) (sym views.net) h

  pub started_on : (at : Standing) (cs : List Command) → Start (net_of p) at.values → at.below ≡ []
      → IsTotal p at.values → FiresWays sys cs
      → {old new : SinkState} → Writes old new (start_text at.values) (Ok tt)
      → IsPlayed (naming_of_parts p) sys cs at cs old new
  started_on at cs start below total fires w = record {
    text = start_text at.values;
    writes = w;
    fires = fires;
    rest = λ more end f.
        starts_so p sound sys views at.values (own_start at.values start) total cs more end
        (subst (λ (b : List (List Value)). Follows (naming_of_parts p) sys b at.values cs more end) below f);
  }

  pub started_cut : (t : List Value) (cs : List Command) → Start (net_of p) t → IsTotal p t → FiresWays sys cs
      → {old new : SinkState} {e : SinkFailed} → Writes old new (start_text t) (Err e)
      → AnswersReplay (naming_of_parts p) sys cs old new (Err Write)
  started_cut t cs start total fires w =
      let f = going p sound sys views [] t cs (total_none p) total fires in
      replay.write (starts_so p sound sys views t (own_start t start) total cs f.text f.end f.follows)
      (front_longer (start_text t) f.text w.front) w.rose

  abbrev fault_line : FlowFault → List ℕ
  fault_line f = line (codes "fault: start: " ++ flow_fault_text (naming_of_parts p) f)

  pub no_start_whole : (f : FlowFault) (cs : List Command) → StartFails (net_of p) f
      → {old new : SinkState} → Writes old new (fault_line f) (Ok tt)
      → AnswersReplay (naming_of_parts p) sys cs old new (Ok Fault)
  no_start_whole f cs fails w = whole
      (no_start_so p sound sys views f (subst (λ (n : s.Net ℕ). StartFails n f) (sym views.net) fails) cs) w.whole
      w.kept

  pub no_start_cut : (f : FlowFault) (cs : List Command) → StartFails (net_of p) f
      → {old new : SinkState} {e : SinkFailed} → Writes old new (fault_line f) (Err e)
      → AnswersReplay (naming_of_parts p) sys cs old new (Err Write)
  no_start_cut f cs fails w = replay.write
      (no_start_so p sound sys views f (subst (λ (n : s.Net ℕ). StartFails n f) (sym views.net) fails) cs) w.front w.rose

  -- want of memory before anything is written
  pub no_memory : (cs : List Command) → FiresWays sys cs → (old : SinkState)
      → AnswersReplay (naming_of_parts p) sys cs old old (Err Memory)
  no_memory cs fires old =
      let f = some_replay p sound sys views cs fires in
      replay.memory f.replay (front_longer [] f.text (front_nothing old.bytes old.bytes refl)) refl

  -- Ends

  abbrev end_text : Standing → List ℕ
  end_text at = line (codes "end " ++ decimal (length at.below))

  pub ended_whole : {all left : List Command} {at : Standing} {old now new : SinkState} → left ≡ []
      → IsPlayed (naming_of_parts p) sys all at left old now
      → Writes now new (end_text at) (Ok tt) → AnswersReplay (naming_of_parts p) sys all old new (Ok Done)
  ended_whole {at = at} e q w =
      let done = writes_on q.writes w in
      whole (q.rest (end_text at) Done (subst
      (λ (z : List Command). Follows (naming_of_parts p) sys at.below at.values z (end_text at) Done) (sym e)
      (ends_so p sound sys views at.below at.values)))
      done.whole done.kept

  pub ended_cut : {all left : List Command} {at : Standing} {old now new : SinkState} {f : SinkFailed} → left ≡ []
      → IsPlayed (naming_of_parts p) sys all at left old now
      → Writes now new (end_text at) (Err f) → AnswersReplay (naming_of_parts p) sys all old new (Err Write)
  ended_cut {at = at} {old = old} {now = now} {new = new} e q w =
      replay.write
      (q.rest (end_text at) Done (subst (λ (z : List Command). Follows (naming_of_parts p) sys at.below at.values z
      (end_text at) Done) (sym e) (ends_so p sound sys views at.below at.values)))
      (front_more old.bytes now.bytes new.bytes q.text (end_text at) q.writes.whole w.front)
      (rose_after old.faults now.faults new.faults q.writes.rises w.rose)
