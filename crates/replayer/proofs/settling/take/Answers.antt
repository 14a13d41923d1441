use Rattle.std.proofs.Common.{◌∙◌, Err, ap, refl, subst, sym}
use Rattle.std.proofs.lemmas.Result.{err_from_is_err_and}
use Rattle.ar_meaning.specs.Runs.{Back}
use Rattle.gts_flatten.specs.Flat.{naming_of_parts}
use Rattle.job_inputs.specs.Flat.{IsWayOfSystem, command_of}
use Rattle.text_pieces.proofs.Ranges.{fire_inside}
use Rattle.replayer.specs.Settling.{GoesOn}
use Rattle.job_inputs.specs.declared.commands.Command.{Command}
use Rattle.replayer.proofs.SettleLemmas.{fire_goes, refused, back_goes, back_stops, command_as, show_goes, list_goes}
use Rattle.replayer.proofs.settling.take.Goals as goal

pub refuse-requires-clause-inside : goal.refuse-requires-clause-inside
refuse-requires-clause-inside g c = subst (IsWayOfSystem c.args.gts.now) c.in-Fire.is c.requires.firable

pub refuse-requires-clause-range : goal.refuse-requires-clause-range
refuse-requires-clause-range g c =
    let inside = subst (IsWayOfSystem c.args.gts.now) c.in-Fire.is c.requires.firable in
    fire_inside c.args.gts.now c.requires.sound c.in-Fire.way.n inside c.args.stepper.now c.requires.same
    c.in-Err.fault c.in-Err.ensures.fault

pub returns-in-Ok-clause-answers : goal.returns-in-Ok-clause-answers
returns-in-Ok-clause-answers g c = λ system views.
    let inside = subst (IsWayOfSystem c.args.gts.now) c.in-Fire.is c.requires.firable in
    rw c.in-Fire.is (
      fire_goes c.args.gts.now c.requires.sound system views c.in-Fire.way.n inside c.args.stepper.now
          c.fire.new.self c.requires.same c.in-Ok.ensures.below c.in-Ok.ensures.step,
      refl,
    )

pub returns-in-Err-clause-answers : goal.returns-in-Err-clause-answers
returns-in-Err-clause-answers g c = λ system views.
    let inside = subst (IsWayOfSystem c.args.gts.now) c.in-Fire.is c.requires.firable in
    rw c.in-Fire.is (refused c.args.gts.now c.requires.sound system views c.in-Fire.way.n inside c.args.stepper.now
    c.fire.new.self c.in-Err.fault c.requires.same c.in-Err.ensures.fault c.refuse.ensures)

pub returns-in-Ok-back-clause-answers : goal.returns-in-Ok-back-clause-answers
returns-in-Ok-back-clause-answers g c = λ system views.
    rw c.in-Back.is (
      back_goes c.args.gts.now c.requires.sound system views c.args.stepper.now c.back.new.self
          c.in-Ok-back.ensures.back,
      refl,
    )

pub returns-in_err-no_step-in-Err-back-clause-answers : goal.returns-in_err-no_step-in-Err-back-clause-answers
returns-in_err-no_step-in-Err-back-clause-answers g c = λ system views.
    let p = c.args.gts.now in
    let r = err_from_is_err_and c.from_residual.result c.from_residual.ensures.1 in
    rw c.in-Back.is (command_as (naming_of_parts p) system c.args.stepper.now c.back.new.self Back _ _ (r.1 ∙ ap Err r.2) (
      _,
      back_stops p c.requires.sound system views c.args.stepper.now c.in-Err-back.ensures.none,
      c.in_err-no_step-in-Err-back.ensures,
    ))

pub returns-in_ok-no_step-in-Err-back-clause-answers : goal.returns-in_ok-no_step-in-Err-back-clause-answers
returns-in_ok-no_step-in-Err-back-clause-answers g c = λ system views.
    rw c.in-Back.is (
      _,
      back_stops c.args.gts.now c.requires.sound system views c.args.stepper.now c.in-Err-back.ensures.none,
      c.in_ok-no_step-in-Err-back.ensures,
    )

pub returns-in-Show-clause-answers : goal.returns-in-Show-clause-answers
returns-in-Show-clause-answers g c = λ system views.
    let p = c.args.gts.now in
    let at = c.args.stepper.now in (
      subst (λ (z : Command). GoesOn system at at (command_of p z)) (sym c.in-Show.is)
          (show_goes p c.requires.sound system views at),
      refl,
    )

pub returns-in-Enabled-clause-answers : goal.returns-in-Enabled-clause-answers
returns-in-Enabled-clause-answers g c = λ system views.
    let p = c.args.gts.now in
    let at = c.args.stepper.now in (
      subst (λ (z : Command). GoesOn system at at (command_of p z)) (sym c.in-Enabled.is)
          (list_goes p c.requires.sound system views at),
      refl,
    )
