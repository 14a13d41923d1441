-- The texts of jobs, as they are written.
use Rattle.std.proofs.Common.{◌≡◌, ℕ, List, Result, Ok, Err, map, length, refl, sym, ◌∙◌, ap, subst}
use Rattle.std.proofs.lemmas.List.{length-map}
use Rattle.ar_io.specs.Writing.{SinkState}
use Rattle.ar_io.specs.Handing.{Writes}
use Rattle.aralia_text.specs.Texts.{equations_text}
use Rattle.eq_core.specs.Views.{table_of}
use Rattle.ar_io.specs.declared.outside.SinkFailed.{SinkFailed}
use Rattle.ar_meaning.specs.Runs.{Command}
use Rattle.ar_meaning.specs.TraceText.{Naming}
use Rattle.gts_core.specs.declared.system.GtsParts.{GtsParts}
use Rattle.gts_core.specs.declared.system.Event.{Event}
use Rattle.gts_core.specs.declared.system.Observer.{Observer}
use Rattle.gts_core.specs.declared.system.Variable.{Variable}
use Rattle.cut_text.specs.ForestPrinted.{forest_text}
use Rattle.cut_text.specs.ForestTexts.{IsForestText}
use Rattle.gts_core.specs.Printed.{flat_text}
use Rattle.gts_core.specs.Sound.{IsSound}
use Rattle.gts_flatten.specs.Elaborating.{Elaborated}
use Rattle.gts_flatten.specs.Flat.{IsFlat, naming_of, naming_of_parts}
use Rattle.hierarchy.specs.Listing.{variables, events, observers}
use Rattle.hierarchy.specs.Paths.{unit_path, thing_path}
use Rattle.job_inputs.specs.Flat.{command_of}
use Rattle.job_inputs.specs.declared.commands.Command.{Command as Given}
use Rattle.mode_trees.specs.declared.forests.Forest.{Forest}
use Rattle.replayer.specs.Replays.{IsReplay}
use Rattle.replayer.specs.ReplaysInside.{AnswersReplay}
use Rattle.replayer.specs.ReplaysInside as replays
use Rattle.replayer.specs.declared.ends.End.{End}
use Rattle.replayer.specs.declared.ends.ReplayFault.{ReplayFault}
use Rattle.run_words.specs.declared.jobs.Asked.{Asked}
use Rattle.run_words.specs.declared.verbs.Verb.TheVariants.{Check, Flat, Replay, Fragment, Equations}
use Rattle.job_stages.specs.Passing.{IsGateTable}
use Rattle.job_stages.specs.Stages.{Ready}
use Rattle.job_stages.specs.Telling.{status_written, status_replayed, IsWritten, whole, cut, IsWrittenFor, written, stopped}
use Rattle.job_stages.specs.Tells.{counts_line, check_text, status_at, Tells, check, flat, replay, fragment, equations}
use Rattle.job_stages.specs.declared.status.Status.{Status}
use Rattle.job_stages.specs.declared.status.Status.TheVariants.{Done}
use Rattle.job_stages.specs.declared.tabling.GateTable.{GateTable}

-- a text that was written, or was cut
pub text_written : {old new : SinkState} (told : List ℕ → Status → Type 0) (text : List ℕ) (ends s : Status)
    (r : Result (Unit {0}) SinkFailed)
    → s ≡ status_written ends r → told text ends
    → Writes old new text r → IsWritten told old new s
text_written {old} {new} told text ends s r e t w = subst (λ (z : Status). IsWritten told old new z) (sym e) (go r w)
  where
    go : (r : Result (Unit {0}) SinkFailed) → Writes old new text r → IsWritten told old new (status_written ends r)
    go (Ok x) w = whole t w.whole w.kept
    go (Err e) w = cut t w.front w.rose

-- How much is declared

module _ (x : Elaborated) (p : GtsParts) (is : IsFlat x p) where
  pub many_units : length p.units.items ≡ length x.declarations.units
  many_units = ap length is.units_are ∙ length-map x.declarations.units (unit_path x.declarations.model)

  many_variables : length p.variables.items ≡ length (variables x.declarations.model x.declarations.units)
  many_variables =
      sym (length-map p.variables.items (λ (v : Variable). v.path)) ∙ ap (λ (n : Naming). length n.variables) is.names
      ∙ length-map (variables x.declarations.model x.declarations.units) (thing_path x.declarations.model)

  pub many_events : length p.events.items ≡ length (events x.declarations.model x.declarations.units)
  many_events =
      sym (length-map p.events.items (λ (e : Event). e.path)) ∙ ap (λ (n : Naming). length n.events) is.names
      ∙ length-map (events x.declarations.model x.declarations.units) (thing_path x.declarations.model)

  pub many_observers : length p.observers.items ≡ length (observers x.declarations.model x.declarations.units)
  many_observers =
      sym (length-map p.observers.items (λ (o : Observer). o.path)) ∙ ap (λ (n : Naming). length n.observers) is.names
      ∙ length-map (observers x.declarations.model x.declarations.units) (thing_path x.declarations.model)

  counted : counts_line (length p.units.items) (length p.variables.items) (length p.events.items)
      (length p.observers.items) ≡ check_text x.declarations
  counted = simp (many_units, many_variables, many_events, many_observers) refl

-- The commands

module _ (asked : Asked) (w : Ready) (p : GtsParts) (is : IsFlat w.source p) where
  pub checked : {old new : SinkState} → asked.job.command ≡ Check → (s : Status) (r : Result (Unit {0}) SinkFailed)
      → s ≡ status_written Done r
      → Writes old new (counts_line (length p.units.items) (length p.variables.items)
      (length p.events.items) (length p.observers.items)) r
      → IsWritten (Tells asked w) old new s
  checked e s r k h =
      let i = counted w.source p is in
      text_written (Tells asked w) _ Done s r k (subst (λ (z : List ℕ). Tells asked w z Done) (sym i) (check e)) h

  pub flattened : {old new : SinkState} → asked.job.command ≡ Flat → IsSound p
      → (s : Status) (r : Result (Unit {0}) SinkFailed)
      → s ≡ status_written Done r → Writes old new (flat_text p) r
      → IsWritten (Tells asked w) old new s
  flattened e sound s r k h =
      text_written (Tells asked w) (flat_text p) Done s r k
      (flat e (record { parts = p; is_sound = sound; is_flat = is; is_text = refl })) h

  pub forest_told : {old new : SinkState} (forest : Forest) → asked.job.command ≡ Fragment
      → IsForestText (naming_of w.source.declarations) w.source.system w.dropped (forest_text p forest)
      → (s : Status) (r : Result (Unit {0}) SinkFailed) → s ≡ status_written Done r
      → Writes old new (forest_text p forest) r → IsWritten (Tells asked w) old new s
  forest_told forest e t s r k h = text_written (Tells asked w) (forest_text p forest) Done s r k (fragment e t) h

  pub table_told : {old new : SinkState} (forest : Forest) (table : GateTable) → asked.job.command ≡ Equations
      → IsGateTable p forest w table
      → (events : List (List ℕ)) → events ≡ table.events.items → (s : Status) (r : Result (Unit {0}) SinkFailed)
      → s ≡ status_written Done r → Writes old new (equations_text events (table_of table.equations)) r
      → IsWritten (Tells asked w) old new s
  table_told forest table e own events same s r k h =
      let names = same ∙ own.events ∙ ap (λ (n : Naming). n.events) is.names in
      text_written (Tells asked w) _ Done s r k
      (equations e own.are (record {
        table = table_of table.equations;
        is_table = own.is_table;
        is_text = ap (λ (z : List (List ℕ)). equations_text z (table_of table.equations)) names;
      })) h

  module _ (commands : List Given) (same : w.commands ≡ map (command_of p) commands)
      (there : (cs : List Command) (text : List ℕ) (end : End)
      → IsReplay (naming_of_parts p) is.flat cs text end
      → IsReplay (naming_of w.source.declarations) w.source.system cs text end) (e : asked.job.command ≡ Replay) where
    said : (text : List ℕ) (end : End)
        → IsReplay (naming_of_parts p) is.flat (map (command_of p) commands) text end
        → Tells asked w text (status_at end)
    said text end h =
        replay e
        (subst (λ (z : List Command). IsReplay (naming_of w.source.declarations) w.source.system z text end)
        (sym same)
        (there (map (command_of p) commands) text end h))

    pub replayed : {old new : SinkState} (s : Status) (r : Result End ReplayFault) → s ≡ status_replayed r
        → AnswersReplay (naming_of_parts p) is.flat (map (command_of p) commands) old new r
        → IsWrittenFor asked (Tells asked w) old new s
    replayed {old} {new} s r i h = subst (λ (z : Status). IsWrittenFor asked (Tells asked w) old new z) (sym i) (go r h)
      where
        go : (r : Result End ReplayFault)
            → AnswersReplay (naming_of_parts p) is.flat (map (command_of p) commands) old new r
            → IsWrittenFor asked (Tells asked w) old new (status_replayed r)
        go r (replays.whole {text = text} {end = end} h a k) = written (whole (said text end h) a k)
        go r (replays.write {text = text} {end = end} h c k) = written (cut (said text end h) c k)
        go r (replays.memory {text = text} {end = end} h c k) = stopped e (said text end h) c k
