use Rattle.std.proofs.Common.{◌≡◌, ◌<◌, ℕ, List, length, get_or, Ok, Err, sym, ap, ◌∙◌, subst, arith}
use Rattle.std.proofs.lemmas.List.{get_or_default}
use Rattle.ar_base.proofs.Standing.{stands_within, stands_get, stands_one, one_here, stands_item}
use Rattle.ar_meaning.specs.Systems as s
use Rattle.eq_build.specs.Views.{gates_in, row_at, entries_in, StopsBuilding, MakesEntries}
use Rattle.eq_build.specs.Entries as e
use Rattle.eq_build.proofs.Reading.{row_here}
use Rattle.gts_core.specs.View.{variables_from, variable_of}
use Rattle.gts_core.specs.declared.system.Variable.{Variable}
use Rattle.eq_build.specs.Steps.{Threads, Totals_of, total_of, flows_from}
use Rattle.eq_build.specs.Steps as t
use Rattle.tree_equations.specs.Answers.{TooMany, Gives, row_in, rows_in}
use Rattle.tree_equations.proofs.Each.{as_is, all_as_is, each_start, each_next, each_stops, each_ends}
use Rattle.tree_equations.proofs.Determined.{total_one}
use Rattle.tree_equations.proofs.Rising.{total_more}
use Rattle.tree_equations.proofs.Giving.{along_at, along_end, entries_give}
use Rattle.tree_equations.proofs.IndexLemmas.{flows_under}
use Rattle.tree_equations.proofs.totals.totals.Goals as goal

pub bounds-rows-number : goal.bounds-rows-number
bounds-rows-number c =
    let ns = c.args.flows.now in
    let i = c.loop-n.n-index in
    let h = flows_under c.args.variables.now c.requires.flows (get_or ns i 0)
    (one_here ns i (get_or ns i 0) (stands_get ns i 0 c.loop-n-test.true)) in
    let l = c.requires.long in omega (arith, h, l)

pub bounds-variables-number : goal.bounds-variables-number
bounds-variables-number c =
    let ns = c.args.flows.now in
    let i = c.loop-n.n-index in
    flows_under c.args.variables.now c.requires.flows (get_or ns i 0)
    (one_here ns i (get_or ns i 0) (stands_get ns i 0 c.loop-n-test.true))

pub bounds-variables-number-in-loop-n : goal.bounds-variables-number-in-loop-n
bounds-variables-number-in-loop-n c =
    let ns = c.args.flows.now in
    let i = c.loop-n.n-index in
    flows_under c.args.variables.now c.requires.flows (get_or ns i 0)
    (one_here ns i (get_or ns i 0) (stands_get ns i 0 c.loop-n-test.true))

pub loop-n-init : goal.loop-n-init
loop-n-init c =
    let read = row_at c.args.rows.now in
    record {
      few = c.requires.few;
      so_far = each_start as_is row_in (Totals_of read) (total_one read) (total_more read)
          (gates_in c.args.gates.now.items) (flows_from 0 (variables_from 0 c.args.variables.now))
          c.new-totals.result.items
          c.new-totals.ensures.items;
    }

pub loop-n-preserved : goal.loop-n-preserved
loop-n-preserved c =
    let read = row_at c.args.rows.now in
    let vs = c.args.variables.now in
    let ns = c.args.flows.now in
    let i = c.loop-n.n-index in
    let n = get_or ns i 0 in
    let h = gates_in c.loop-n.gates.items in
    let k = gates_in c.total.new.gates.items in
    let x = c.index-variables-number.result in
    let at = along_at c.requires.flows i n c.loop-n-test.true (get_or_default ns i 0 n c.loop-n-test.true) in
    let within = stands_within vs n at.1.variable at.1.stands in
    let one = stands_one vs n at.1.variable x at.1.stands (stands_item vs n x within c.index-variables-number.is) in
    let pair = at.1.is ∙ ap (λ (z : Variable). (n, variable_of n z)) one in
    let rows : n < length c.args.rows.now = (let l = c.requires.long in omega (arith, within, l)) in
    let row : entries_in c.deref.result.now ≡ read n = ap entries_in c.deref.ensures.value
    ∙ ap row_in c.index-rows-number.is ∙ row_here c.args.rows.now n c.index-rows-number.result rows in
    let b = total_of h (read n) x.value in
    let step : Totals_of read h (n, variable_of n x) b.entries b.gates = t.total in
    let made = entries_give b (Totals_of read h (n, variable_of n x)) (Ok c.in_ok-row.row) c.total.new.gates.items step
    (λ y j d. (total_one read h _ j (n, variable_of n x) _ y step d).1)
    (subst (λ (z : List e.Entry). MakesEntries (total_of h z x.value) (Ok c.in_ok-row.row) c.total.new.gates.items) row
    (subst (λ (z : Variable). MakesEntries (total_of h (entries_in c.deref.result.now) z.value) (Ok c.in_ok-row.row)
    c.total.new.gates.items) (sym c.index-variables-number.is) c.in_ok-row.ensures)) in
    record {
      few = made.1;
      so_far = each_next as_is row_in (Totals_of read) (total_one read) (total_more read)
          (gates_in c.args.gates.now.items) h k (flows_from 0 (variables_from 0 vs)) i at.0 c.loop-n.totals.items
          c.push.new.self.items c.in_ok-row.row at.2
          (subst (λ (z : ℕ × s.Variable ℕ). Totals_of read h z (row_in c.in_ok-row.row) k) (sym pair) made.0)
          c.in_ok-push.ensures.items c.loop-n.invariant.so_far;
    }

pub returns-in_err-row : goal.returns-in_err-row
returns-in_err-row c =
    let read = row_at c.args.rows.now in
    let vs = c.args.variables.now in
    let ns = c.args.flows.now in
    let i = c.loop-n.n-index in
    let n = get_or ns i 0 in
    let h = gates_in c.loop-n.gates.items in
    let f = c.in_err-row.field-0.0 in
    let x = c.index-variables-number.result in
    let at = along_at c.requires.flows i n c.loop-n-test.true (get_or_default ns i 0 n c.loop-n-test.true) in
    let within = stands_within vs n at.1.variable at.1.stands in
    let one = stands_one vs n at.1.variable x at.1.stands (stands_item vs n x within c.index-variables-number.is) in
    let pair = at.1.is ∙ ap (λ (z : Variable). (n, variable_of n z)) one in
    let rows : n < length c.args.rows.now = (let l = c.requires.long in omega (arith, within, l)) in
    let row : entries_in c.deref.result.now ≡ read n = ap entries_in c.deref.ensures.value
    ∙ ap row_in c.index-rows-number.is ∙ row_here c.args.rows.now n c.index-rows-number.result rows in
    let b = total_of h (read n) x.value in
    let step : Totals_of read h (n, variable_of n x) b.entries b.gates = t.total in
    let fails = entries_give b (Totals_of read h (n, variable_of n x)) (Err f) c.total.new.gates.items step
    (λ y j d. (total_one read h _ j (n, variable_of n x) _ y step d).1)
    (subst (λ (z : List e.Entry). MakesEntries (total_of h z x.value) (Err f) c.total.new.gates.items) row
    (subst (λ (z : Variable). MakesEntries (total_of h (entries_in c.deref.result.now) z.value) (Err f)
    c.total.new.gates.items) (sym c.index-variables-number.is) c.in_err-row.ensures)) in
    let flows = flows_from 0 (variables_from 0 vs) in
    subst (λ (z : List (ℕ × s.Variable ℕ)). Gives rows_in (λ ess j. Threads (Totals_of read)
    (gates_in c.args.gates.now.items) z ess j) c.from_residual.result c.total.new.gates.items) (all_as_is flows)
    (each_stops as_is row_in (Totals_of read) (total_one read) (total_more read) (gates_in c.args.gates.now.items) h
    flows i at.0 c.loop-n.totals.items c.from_residual.result f c.total.new.gates.items at.2 c.loop-n.invariant.so_far
    c.from_residual.ensures.1
    (subst (λ (z : ℕ × s.Variable ℕ). StopsBuilding f (TooMany (λ y j. Totals_of read h z y j))) (sym pair) fails))

pub returns : goal.returns
returns c =
    let read = row_at c.args.rows.now in
    let flows = flows_from 0 (variables_from 0 c.args.variables.now) in (
      subst (λ (z : List (ℕ × s.Variable ℕ)). Threads (Totals_of read) (gates_in c.args.gates.now.items) z
          (rows_in c.loop-n.totals) (gates_in c.loop-n.gates.items)) (all_as_is flows)
          (each_ends as_is row_in (Totals_of read) (total_one read) (total_more read) (gates_in c.args.gates.now.items)
          (gates_in c.loop-n.gates.items) flows c.loop-n.n-index c.loop-n.totals.items
          (along_end c.requires.flows c.loop-n.n-index c.loop-n-test.false) c.loop-n.invariant.so_far),
      c.loop-n.invariant.few,
    )
