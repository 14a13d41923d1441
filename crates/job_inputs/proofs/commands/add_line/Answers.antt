use Rattle.std.proofs.Common.{◌∷◌, [], ◌++◌, map, refl, sym, subst}
use Rattle.std.proofs.lemmas.Result.{err_from_is_err_and}
use Rattle.job_inputs.specs.Flat.{command_of, IsWayOfSystem}
use Rattle.text_pieces.specs.WayLabels.{numbered_label}
use Rattle.job_inputs.specs.Reads.{AddsCommands}
use Rattle.job_inputs.specs.Scripts.{no_command}
use Rattle.job_inputs.specs.declared.commands.Command.{Command}
use Rattle.job_inputs.proofs.ScriptLemmas.{adds_nothing, adds_fire, adds_back, adds_show, adds_list, one_added, firable_more, label_bad, line_passed}
use Rattle.job_inputs.proofs.commands.add_line.Goals as goal
use Rattle.job_inputs.proofs.commands.add_line.Goals.{in-Fires+in_ok-way_named-in-Fires, in-GoesBack, in-Shows, in-ListsEnabled}

pub returns-in-Skipped-clause-added : goal.returns-in-Skipped-clause-added
returns-in-Skipped-clause-added c = λ x of. adds_nothing _ c.in-Skipped.ensures

pub returns-in-NoCommand-clause-bad : goal.returns-in-NoCommand-clause-bad
returns-in-NoCommand-clause-bad c = λ x of. (refl, no_command c.in-NoCommand.ensures)

pub returns-in_err-way_named-in-Fires-clause-bad : goal.returns-in_err-way_named-in-Fires-clause-bad
returns-in_err-way_named-in-Fires-clause-bad c = λ x of.
    let r = err_from_is_err_and c.from_residual.result c.from_residual.ensures.1 in
    line_passed x c.args.line.now c.args.number _ _ _ r.1 r.2
    (label_bad x c.args.gts.now c.args.line.now c.in-Fires.label.now c.args.number _ c.in-Fires.ensures
    (c.in_err-way_named-in-Fires.ensures x of))

pub returns-clause-added : goal.returns-clause-added
returns-clause-added c = λ x of.
    let p = c.args.gts.now in
    let line = c.args.line.now in
    let old = c.args.commands.now.items in
    one_added (command_of p) x line old c.push.new.self.items c.match-line_of.command c.in_ok-push.ensures.items
    (elim c.match-line_of.branch [
      | in-Fires+in_ok-way_named-in-Fires w ↦ (
          let a = w.in_ok-way_named-in-Fires.ensures x of in
          subst (λ (z : Command). AddsCommands x line (map (command_of p) old) (map (command_of p) old ++ command_of p z ∷ []))
          (sym w.command-is)
          (adds_fire (map (command_of p) old) w.in-Fires.label.now (numbered_label p w.in_ok-way_named-in-Fires.field-0.n)
          w.in-Fires.ensures a.0 a.2))
      | in-GoesBack w ↦ subst (λ (z : Command). AddsCommands x line (map (command_of p) old)
          (map (command_of p) old ++ command_of p z ∷ [])) (sym w.command-is) (adds_back _ w.in-GoesBack.ensures)
      | in-Shows w ↦ subst (λ (z : Command). AddsCommands x line (map (command_of p) old)
          (map (command_of p) old ++ command_of p z ∷ [])) (sym w.command-is) (adds_show _ w.in-Shows.ensures)
      | in-ListsEnabled w ↦ subst (λ (z : Command). AddsCommands x line (map (command_of p) old)
          (map (command_of p) old ++ command_of p z ∷ [])) (sym w.command-is) (adds_list _ w.in-ListsEnabled.ensures)
    ])

pub returns-clause-firable : goal.returns-clause-firable
returns-clause-firable c = λ x of h.
    let p = c.args.gts.now in
    firable_more p c.args.commands.now.items c.push.new.self.items c.match-line_of.command c.in_ok-push.ensures.items
    (elim c.match-line_of.branch [
      | in-Fires+in_ok-way_named-in-Fires w ↦ (
          let a = w.in_ok-way_named-in-Fires.ensures x of in
          subst (λ (z : Command). IsWayOfSystem p z) (sym w.command-is) a.1)
      | in-GoesBack w ↦ subst (λ (z : Command). IsWayOfSystem p z) (sym w.command-is) tt
      | in-Shows w ↦ subst (λ (z : Command). IsWayOfSystem p z) (sym w.command-is) tt
      | in-ListsEnabled w ↦ subst (λ (z : Command). IsWayOfSystem p z) (sym w.command-is) tt
    ]) h
