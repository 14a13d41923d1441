use Rattle.std.proofs.Common.{◌∙◌, ◌++◌, codes, decimal, List, Ok, Err, map, get_or, ap, subst, sym}
use Rattle.std.proofs.lemmas.List.{at_drop_more, at_drop_all}
use Rattle.std.proofs.lemmas.Result.{err_from_is_err_and}
use Rattle.ar_base.specs.Texts.{line}
use Rattle.ar_base.proofs.Standing.{stands_get}
use Rattle.ar_io.proofs.Writing.{writes_as}
use Rattle.domains.specs.declared.Value.{Value}
use Rattle.gts_core.specs.Readings.{IsTotal}
use Rattle.gts_core.specs.declared.system.GtsParts.{GtsParts}
use Rattle.gts_flatten.specs.Flat.{naming_of_parts}
use Rattle.job_inputs.specs.Flat.{command_of}
use Rattle.replayer.specs.Listing.{IsListReady}
use Rattle.replayer.specs.Observing.{AreInOrder}
use Rattle.replayer.specs.Playing.{AreTotal, AnswersOneCommand}
use Rattle.replayer.specs.Printing.{values_text}
use Rattle.job_inputs.specs.declared.commands.Command.{Command}
use Rattle.job_inputs.specs.declared.commands.Command.TheVariants as code
use Rattle.replayer.specs.declared.ends.End.{End}
use Rattle.replayer.proofs.FollowLemmas.{total_none}
use Rattle.replayer.proofs.WayLemmas.{fires_ways, firable_at}
use Rattle.replayer.proofs.PlayLemmas.{no_memory, started_on, started_cut, obeyed_on, obeyed_stop, obeyed_err, ended_whole, ended_cut, replay_as}
use Rattle.replayer.proofs.replaying.play.Goals as goal

-- what is read past the end
abbrev none : Command
none = code.Fire (record { n = 0; of = record {} })

pub returns-in_err-latest : goal.returns-in_err-latest
returns-in_err-latest g c = λ system views.
    let r = err_from_is_err_and c.from_residual.result c.from_residual.ensures.1 in
    replay_as (r.1 ∙ ap Err r.2) (no_memory c.args.gts.now c.requires.sound system views _
    (fires_ways c.args.gts.now system views c.requires.sound c.args.commands.now c.requires.firable) _)

pub returns-in_err-started : goal.returns-in_err-started
returns-in_err-started g c = λ system views.
    let p = c.args.gts.now in
    let t = c.args.stepper.values in
    let total = subst (λ (q : GtsParts). IsTotal q t) c.requires.same c.values.ensures.total in
    let e = ap (λ (u : List Value). line (codes "start") ++ values_text p u)
    (c.deref-2.ensures.value ∙ c.values-2.ensures.values) in
    let r = err_from_is_err_and c.from_residual-in_err-started.result c.from_residual-in_err-started.ensures.1 in
    replay_as (r.1 ∙ ap Err r.2)
    (started_cut p c.requires.sound system views t _ c.requires.starts total
    (fires_ways p system views c.requires.sound c.args.commands.now c.requires.firable)
    (writes_as _ _ e c.in_err-started.ensures))

pub loop-command-init : goal.loop-command-init
loop-command-init g c =
    let p = c.args.gts.now in
    let total = subst (λ (q : GtsParts). IsTotal q c.args.stepper.values) c.requires.same c.values.ensures.total in
    let e = ap (λ (u : List Value). line (codes "start") ++ values_text p u)
    (c.deref-2.ensures.value ∙ c.values-2.ensures.values) in
    record {
      same = c.requires.same;
      totals = subst (AreTotal p) (sym c.requires.no_step) (total_none p);
      latest = record {
        values = c.in_ok-latest.ensures.values ∙ c.deref.ensures.value ∙ c.values.ensures.values;
        total = total;
        observed = subst (λ (q : GtsParts). AreInOrder q c.in_ok-latest.latest.observed.items) c.parts.ensures.parts
            c.in_ok-latest.ensures.observed;
        ready = subst (λ (q : GtsParts). IsListReady q c.args.stepper.values c.in_ok-latest.latest.ready)
            c.parts.ensures.parts
            (subst (λ (t : List Value). IsListReady c.parts.result.now t c.in_ok-latest.latest.ready)
            (c.deref.ensures.value ∙ c.values.ensures.values) c.in_ok-latest.ensures.ready);
      };
      played = λ system views.
          started_on p c.requires.sound system views c.args.stepper _ c.requires.starts c.requires.no_step total
          (fires_ways p system views c.requires.sound c.args.commands.now c.requires.firable)
          (writes_as _ _ e c.in_ok-started.ensures);
    }

pub obey-requires-clause-firable : goal.obey-requires-clause-firable
obey-requires-clause-firable g c =
    let cs = c.args.commands.now in
    let i = c.loop-command.command-index in
    firable_at c.args.gts.now cs i (get_or cs i none) c.requires.firable (stands_get cs i none c.loop-command-test.true)

pub returns-in_err-obey : goal.returns-in_err-obey
returns-in_err-obey g c = λ system views.
    let p = c.args.gts.now in
    let cs = c.args.commands.now in
    let i = c.loop-command.command-index in
    let r = err_from_is_err_and c.from_residual-in_err-obey.result c.from_residual-in_err-obey.ensures.1 in
    replay_as (r.1 ∙ ap Err r.2)
    (obeyed_err (command_of p (get_or cs i none)) _ _ _
    (at_drop_more (λ (xs : List Command). map (command_of p) xs) cs i none c.loop-command-test.true)
    (c.loop-command.invariant.played system views) (c.in_err-obey.ensures.answers system views))

pub returns-in-Fault : goal.returns-in-Fault
returns-in-Fault g c = λ system views.
    let p = c.args.gts.now in
    let cs = c.args.commands.now in
    let i = c.loop-command.command-index in
    let a = subst (λ (z : End). AnswersOneCommand (naming_of_parts p) system c.loop-command.stepper c.obey.new.stepper
    (command_of p (get_or cs i none)) (g.K.Sink.state c.loop-command.out) (g.K.Sink.state c.obey.new.out)
    (Ok z))
    c.in-Fault.is (c.in_ok-obey.ensures.answers system views) in
    obeyed_stop (command_of p (get_or cs i none)) _ _
    (at_drop_more (λ (xs : List Command). map (command_of p) xs) cs i none c.loop-command-test.true)
    (c.loop-command.invariant.played system views) a

pub loop-command-preserved : goal.loop-command-preserved
loop-command-preserved g c =
    let p = c.args.gts.now in
    let cs = c.args.commands.now in
    let i = c.loop-command.command-index in
    record {
      same = c.in_ok-obey.ensures.system ∙ c.loop-command.invariant.same;
      totals = c.in_ok-obey.ensures.below;
      latest = c.in_ok-obey.ensures.latest c.in-Done.is;
      played = λ system views.
          let a = subst (λ (z : End). AnswersOneCommand (naming_of_parts p) system c.loop-command.stepper c.obey.new.stepper
          (command_of p (get_or cs i none)) (g.K.Sink.state c.loop-command.out) (g.K.Sink.state c.obey.new.out)
          (Ok z))
          c.in-Done.is (c.in_ok-obey.ensures.answers system views) in
          obeyed_on (command_of p (get_or cs i none)) _ _
          (at_drop_more (λ (xs : List Command). map (command_of p) xs) cs i none c.loop-command-test.true)
          (c.loop-command.invariant.played system views) a;
    }

pub returns-in_err-ended : goal.returns-in_err-ended
returns-in_err-ended g c = λ system views.
    let p = c.args.gts.now in
    let r = err_from_is_err_and c.from_residual-in_err-ended.result c.from_residual-in_err-ended.ensures.1 in
    replay_as (r.1 ∙ ap Err r.2)
    (ended_cut p c.requires.sound system views
    (at_drop_all (λ (xs : List Command). map (command_of p) xs) c.args.commands.now c.loop-command.command-index
    c.loop-command-test.false)
    (c.loop-command.invariant.played system views)
    (writes_as _ _ (ap (λ n. line (codes "end " ++ decimal n)) c.steps.ensures) c.in_err-ended.ensures))

pub returns : goal.returns
returns g c = λ system views.
    let p = c.args.gts.now in
    ended_whole p c.requires.sound system views
    (at_drop_all (λ (xs : List Command). map (command_of p) xs) c.args.commands.now c.loop-command.command-index
    c.loop-command-test.false)
    (c.loop-command.invariant.played system views)
    (writes_as _ _ (ap (λ n. line (codes "end " ++ decimal n)) c.steps.ensures) c.in_ok-ended.ensures)
