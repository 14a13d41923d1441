use Rattle.std.proofs.Common.{◌∙◌, List, Ok, Err, map, get_or, ap, subst, sym, refl}
use Rattle.std.proofs.lemmas.List.{at_drop_more, at_drop_all}
use Rattle.std.proofs.lemmas.Result.{err_from_is_err_and}
use Rattle.ar_base.proofs.Standing.{stands_get}
use Rattle.domains.specs.declared.Value.{Value}
use Rattle.gts_flatten.specs.Flat.{naming_of_parts}
use Rattle.job_inputs.specs.Flat.{command_of}
use Rattle.replayer.specs.Settles.{Settles}
use Rattle.replayer.specs.Settling.{AnswersCommand}
use Rattle.job_inputs.specs.declared.commands.Command.{Command}
use Rattle.job_inputs.specs.declared.commands.Command.TheVariants as code
use Rattle.replayer.specs.declared.ends.End.{End}
use Rattle.replayer.proofs.WayLemmas.{firable_at}
use Rattle.replayer.proofs.SettleLemmas.{running, running_on, running_fails, running_told, running_ends, settles_as}
use Rattle.replayer.proofs.settling.run.Goals as goal

-- what is read past the end
abbrev none : Command
none = code.Fire (record { n = 0; of = record {} })

pub loop-command-init : goal.loop-command-init
loop-command-init g c = record {
  same = c.requires.same;
  silent = λ system views. refl;
  running = λ system views. running c.args.gts.now c.requires.sound system views c.args.stepper _ c.requires.starts
      c.requires.no_step;
}

pub take-requires-clause-firable : goal.take-requires-clause-firable
take-requires-clause-firable g c =
    let cs = c.args.commands.now in
    let i = c.loop-command.command-index in
    firable_at c.args.gts.now cs i (get_or cs i none) c.requires.firable (stands_get cs i none c.loop-command-test.true)

pub returns-in_err-take-clause-answers : goal.returns-in_err-take-clause-answers
returns-in_err-take-clause-answers g c = λ system views.
    let p = c.args.gts.now in
    let cs = c.args.commands.now in
    let i = c.loop-command.command-index in
    let r = err_from_is_err_and c.from_residual.result c.from_residual.ensures.1 in
    settles_as (naming_of_parts p) system (map (command_of p) cs) _ _ (r.1 ∙ ap Err r.2)
    (running_fails (naming_of_parts p) c.take.new.stepper (command_of p (get_or cs i none)) _ _ _ _ _ _
    (at_drop_more (λ (xs : List Command). map (command_of p) xs) cs i none c.loop-command-test.true)
    (c.loop-command.invariant.running system views) (c.loop-command.invariant.silent system views)
    (c.in_err-take.ensures.answers system views))

pub returns-in-Fault-clause-answers : goal.returns-in-Fault-clause-answers
returns-in-Fault-clause-answers g c = λ system views.
    let p = c.args.gts.now in
    let cs = c.args.commands.now in
    let i = c.loop-command.command-index in
    let a = subst (λ (z : End). AnswersCommand (naming_of_parts p) system c.loop-command.stepper c.take.new.stepper
    (command_of p (get_or cs i none)) (g.K.Sink.state c.loop-command.out) (g.K.Sink.state c.take.new.out)
    (Ok z))
    c.in-Fault.is (c.in_ok-take.ensures.answers system views) in
    running_told (naming_of_parts p) c.take.new.stepper (command_of p (get_or cs i none)) _ _ _ _ _
    (at_drop_more (λ (xs : List Command). map (command_of p) xs) cs i none c.loop-command-test.true)
    (c.loop-command.invariant.running system views) (c.loop-command.invariant.silent system views) a

pub loop-command-preserved : goal.loop-command-preserved
loop-command-preserved g c =
    let p = c.args.gts.now in
    let cs = c.args.commands.now in
    let i = c.loop-command.command-index in
    record {
      same = c.in_ok-take.ensures.system ∙ c.loop-command.invariant.same;
      silent = λ system views.
          let a = subst (λ (z : End). AnswersCommand (naming_of_parts p) system c.loop-command.stepper
          c.take.new.stepper (command_of p (get_or cs i none)) (g.K.Sink.state c.loop-command.out)
          (g.K.Sink.state c.take.new.out) (Ok z))
          c.in-Done.is (c.in_ok-take.ensures.answers system views) in
          a.1 ∙ c.loop-command.invariant.silent system views;
      running = λ system views.
          let a = subst (λ (z : End). AnswersCommand (naming_of_parts p) system c.loop-command.stepper
          c.take.new.stepper (command_of p (get_or cs i none)) (g.K.Sink.state c.loop-command.out)
          (g.K.Sink.state c.take.new.out) (Ok z))
          c.in-Done.is (c.in_ok-take.ensures.answers system views) in
          running_on (command_of p (get_or cs i none)) _ _
          (at_drop_more (λ (xs : List Command). map (command_of p) xs) cs i none c.loop-command-test.true)
          (c.loop-command.invariant.running system views) a.0;
    }

pub returns-clause-answers : goal.returns-clause-answers
returns-clause-answers g c = λ system views.
    let p = c.args.gts.now in
    let settled = running_ends _ (at_drop_all (λ (xs : List Command). map (command_of p) xs) c.args.commands.now
    c.loop-command.command-index c.loop-command-test.false)
    (c.loop-command.invariant.running system views) in (
      subst (λ (t : List Value). Settles system (map (command_of p) c.args.commands.now) t)
          (sym (c.in_ok-values.ensures ∙ c.deref.ensures.value ∙ c.values.ensures.values)) settled,
      c.loop-command.invariant.silent system views,
    )
