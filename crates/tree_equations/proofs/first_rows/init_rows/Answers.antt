use Rattle.std.proofs.Common.{◌≡◌, if◌then◌else◌, Bool, List, [], map, sym, ap, ◌∙◌, take_all}
use Rattle.eq_build.specs.Entries as e
use Rattle.eq_build.specs.Views.{entries_in}
use Rattle.gts_core.specs.declared.system.Variable.{Variable}
use Rattle.tree_equations.specs.Answers.{row_in, init_of}
use Rattle.tree_equations.proofs.FirstReading.{init_all, init_more}
use Rattle.tree_equations.proofs.first_rows.init_rows.Goals as goal
use Rattle.tree_equations.proofs.first_rows.init_rows.Goals.{then-variable+in_ok-row, else-variable}

-- the entries of a variable that is a state variable, or a flow
abbrev at : Variable → Bool → List e.Entry
at x b = if b then e.only x.value else []

pub loop-variable-preserved : goal.loop-variable-preserved
loop-variable-preserved c =
    let x = c.variable-item.result in
    let row : row_in c.if-variable.row ≡ init_of x = elim c.if-variable.branch [
      | then-variable+in_ok-row w ↦
          ap row_in w.row-is ∙ ap entries_in w.in_ok-row.ensures.items ∙ ap (at x) (sym w.if-variable.true)
      | else-variable w ↦ ap row_in w.row-is ∙ ap entries_in w.new-row.ensures.items ∙ ap (at x) (sym w.if-variable.false)
    ] in
    init_more c.loop-variable.rows.items c.push.new.self.items c.args.variables.now c.loop-variable.variable-index
    x c.if-variable.row c.loop-variable-test.true c.variable-item.is row
    c.in_ok-push.ensures.items c.loop-variable.invariant

pub returns : goal.returns
returns c =
    let all = init_all c.loop-variable.rows.items c.args.variables.now
    (c.loop-variable.invariant ∙ ap (map init_of)
    (take_all c.loop-variable.variable-index c.args.variables.now c.loop-variable-test.false)) in
    record { long = all.0; reading = all.1 }
