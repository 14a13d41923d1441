use Rattle.std.proofs.Common.{ap, sym, subst}
use Rattle.std.proofs.lemmas.Result.{err_from_is_err_and}
use Rattle.run_words.specs.Commands.{shape_of, is_script, is_list, is_made}
use Rattle.run_words.specs.CommandsInside.{is_second}
use Rattle.run_words.specs.declared.verbs.Verb.{Verb}
use Rattle.job_stages.specs.Passing.{IsScripted}
use Rattle.job_stages.specs.Stages.{bare, is_static, has_table}
use Rattle.job_stages.specs.Telling.{IsWritten, written}
use Rattle.job_stages.specs.Tells.{Tells}
use Rattle.job_stages.specs.declared.status.Status.{Status}
use Rattle.altarica_run.proofs.CommandLemmas.{elaborate_stops, done, script_stops, shown_stops, shown_ready}
use Rattle.altarica_run.proofs.commands.explain.Goals as goal

pub elaborate-requires : goal.elaborate-requires
elaborate-requires g c = c.requires.given.model

pub returns-in_err-model : goal.returns-in_err-model
returns-in_err-model g c =
    let r = err_from_is_err_and c.from_residual.result c.from_residual.ensures.1 in
    elaborate_stops c.args.asked.now c.args.texts _ _ _ _ r.1 r.2 c.in_err-model.ensures

pub commands_of-requires-clause-source : goal.commands_of-requires-clause-source
commands_of-requires-clause-source g c = let f = c.in_ok-model.ensures in (f.0, f.2)

pub commands_of-requires-clause-there : goal.commands_of-requires-clause-there
commands_of-requires-clause-there g c =
    c.requires.given.second (ap (λ (v : Verb). is_second (shape_of v).files) c.requires.command)

pub returns-in_err-commands : goal.returns-in_err-commands
returns-in_err-commands g c =
    let r = err_from_is_err_and c.from_residual-in_err-commands.result c.from_residual-in_err-commands.ensures.1 in
    let asked = c.args.asked.now in
    let t = c.args.texts in
    let e = c.requires.command in
    let script = ap (λ (v : Verb). is_script (shape_of v).files) e in
    let list = ap (λ (v : Verb). is_list (shape_of v).files) e in
    let made = ap (λ (v : Verb). is_made (shape_of v).files) e in
    let f = c.in_ok-model.ensures in
    script_stops asked t f.0 f.1 script list made _ _ _ _ r.1 r.2 (c.in_err-commands.ensures f.0 f.2)

pub shown_of-requires : goal.shown_of-requires
shown_of-requires g c = let f = c.in_ok-model.ensures in record { source = (f.0, f.2) }

pub returns-in_err-shown : goal.returns-in_err-shown
returns-in_err-shown g c =
    let r = err_from_is_err_and c.from_residual-in_err-shown.result c.from_residual-in_err-shown.ensures.1 in
    let asked = c.args.asked.now in
    let t = c.args.texts in
    let e = c.requires.command in
    let script = ap (λ (v : Verb). is_script (shape_of v).files) e in
    let list = ap (λ (v : Verb). is_list (shape_of v).files) e in
    let made = ap (λ (v : Verb). is_made (shape_of v).files) e in
    let f = c.in_ok-model.ensures in
    let none = c.requires.given.dropped (ap (λ (v : Verb). (shape_of v).dropped) e) in
    let static = ap is_static e in
    let table = ap has_table e in
    let explains = ap (λ (v : Verb). (shape_of v).explains) e in
    let k = c.in_ok-commands.ensures f.0 f.2 in
    shown_stops asked t f.0 f.1 script list made k.0 k.1 none static table explains _ _ _ _ r.1 r.2
    (c.in_err-shown.ensures f.0 f.2)

pub write_reasons-requires : goal.write_reasons-requires
write_reasons-requires g c =
    let f = c.in_ok-model.ensures in
    let k = c.in_ok-commands.ensures f.0 f.2 in
    let n = c.in_ok-shown.ensures f.0 f.2 in
    record {
      ready = (
        record (bare c.args.asked.now.order f.0) { commands = k.0; shown = n.0 },
        rw c.deref.ensures.value (record { flat = f.2.flat; commands = k.2; shown = n.2 }),
      );
    }

pub returns : goal.returns
returns g c =
    let asked = c.args.asked.now in
    let t = c.args.texts in
    let e = c.requires.command in
    let script = ap (λ (v : Verb). is_script (shape_of v).files) e in
    let list = ap (λ (v : Verb). is_list (shape_of v).files) e in
    let made = ap (λ (v : Verb). is_made (shape_of v).files) e in
    let f = c.in_ok-model.ensures in
    let none = c.requires.given.dropped (ap (λ (v : Verb). (shape_of v).dropped) e) in
    let static = ap is_static e in
    let table = ap has_table e in
    let explains = ap (λ (v : Verb). (shape_of v).explains) e in
    let k = c.in_ok-commands.ensures f.0 f.2 in
    let n = c.in_ok-shown.ensures f.0 f.2 in
    let p = c.in_ok-model.model.system in
    let w = record (bare c.args.asked.now.order f.0) { commands = k.0; shown = n.0 } in
    let is : IsScripted w p c.in_ok-commands.commands.items c.in_ok-shown.shown =
    record { flat = f.2.flat; commands = k.2; shown = n.2 } in
    let h = rw c.deref.ensures.value at c.write_reasons.ensures asked w in
    done asked t f.0 f.1 w _
    (shown_ready asked t f.0 f.1 script list made k.0 k.1 none static table explains n.0 n.1)
    (written (subst (λ (z : Status). IsWritten (Tells asked w) (g.K.Sink.state c.args.out.now)
    (g.K.Sink.state c.write_reasons.new.out) z) (sym c.explained.ensures) (h is e)))
