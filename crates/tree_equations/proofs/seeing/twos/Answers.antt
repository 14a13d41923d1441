use Rattle.std.proofs.Common.{◌≡◌, get_or, Ok, Err, ap, ◌∙◌, subst}
use Rattle.std.proofs.lemmas.List.{get_or_default}
use Rattle.ar_base.proofs.Standing.{stands_get, one_here}
use Rattle.eq_core.specs.Views.{operand_of}
use Rattle.eq_build.specs.Entries.{one_of_alls}
use Rattle.eq_build.specs.Views.{gates_in, row_at, entries_in, terms_in, MakesOperand}
use Rattle.eq_build.specs.declared.entries.BuildFault.{BuildFault}
use Rattle.eq_build.proofs.Places.{item_next}
use Rattle.eq_build.proofs.Reading.{row_here}
use Rattle.eq_build.specs.Steps.{Sees_two, pairs_in}
use Rattle.eq_build.specs.Steps as t
use Rattle.tree_equations.specs.Answers.{itself, row_in}
use Rattle.tree_equations.proofs.Each.{each_start, each_next, each_stops, each_ends}
use Rattle.tree_equations.proofs.Determined.{two_one}
use Rattle.tree_equations.proofs.Rising.{two_more}
use Rattle.tree_equations.proofs.Giving.{operand_gives}
use Rattle.tree_equations.proofs.seeing.twos.Goals as goal

pub bounds-rows-n : goal.bounds-rows-n
bounds-rows-n c =
    let ns = c.args.flows.now in
    let i = c.loop-n.n-index in
    c.requires.under (get_or ns i 0) (one_here ns i (get_or ns i 0) (stands_get ns i 0 c.loop-n-test.true))

pub loop-n-init : goal.loop-n-init
loop-n-init c =
    let read = row_at c.args.rows.now in
    record {
      few = c.requires.few;
      so_far = each_start itself operand_of (Sees_two read) (two_one read) (two_more read)
          (gates_in c.args.gates.now.items) c.args.flows.now c.new-seen.result.items c.new-seen.ensures.items;
    }

pub loop-n-preserved : goal.loop-n-preserved
loop-n-preserved c =
    let read = row_at c.args.rows.now in
    let ns = c.args.flows.now in
    let i = c.loop-n.n-index in
    let n = get_or ns i 0 in
    let h = gates_in c.loop-n.gates.items in
    let under = c.requires.under n (one_here ns i n (stands_get ns i 0 c.loop-n-test.true)) in
    let row : entries_in c.deref.result.now ≡ read n = ap entries_in c.deref.ensures.value
    ∙ ap row_in c.index-rows-n.is ∙ row_here c.args.rows.now n c.index-rows-n.result under in
    let terms = ap terms_in c.deref-in-loop-n.ensures.value ∙ c.in_ok-terms.ensures ∙ ap pairs_in row in
    let made = operand_gives (one_of_alls h (pairs_in (read n))) (Sees_two read h n) (Ok c.in_ok-operand.operand)
    c.one_of_alls.new.gates.items t.sees_two (λ y k d. (two_one read h _ k n _ y t.sees_two d).1)
    (subst (λ z. MakesOperand (one_of_alls h z) (Ok c.in_ok-operand.operand) c.one_of_alls.new.gates.items) terms
    c.in_ok-operand.ensures) in
    record {
      few = made.1;
      so_far = each_next itself operand_of (Sees_two read) (two_one read) (two_more read)
          (gates_in c.args.gates.now.items) h (gates_in c.one_of_alls.new.gates.items) ns i n c.loop-n.seen.items
          c.push.new.self.items c.in_ok-operand.operand
          (item_next ns i n c.loop-n-test.true (get_or_default ns i 0 n c.loop-n-test.true)) made.0
          c.in_ok-push.ensures.items c.loop-n.invariant.so_far;
    }

pub returns-in_err-operand : goal.returns-in_err-operand
returns-in_err-operand c =
    let read = row_at c.args.rows.now in
    let ns = c.args.flows.now in
    let i = c.loop-n.n-index in
    let n = get_or ns i 0 in
    let h = gates_in c.loop-n.gates.items in
    let under = c.requires.under n (one_here ns i n (stands_get ns i 0 c.loop-n-test.true)) in
    let row : entries_in c.deref.result.now ≡ read n = ap entries_in c.deref.ensures.value
    ∙ ap row_in c.index-rows-n.is ∙ row_here c.args.rows.now n c.index-rows-n.result under in
    let terms = ap terms_in c.deref-in-loop-n.ensures.value ∙ c.in_ok-terms.ensures ∙ ap pairs_in row in
    let fault : BuildFault = c.in_err-operand.field-0.0 in
    let fails = operand_gives (one_of_alls h (pairs_in (read n))) (Sees_two read h n) (Err fault)
    c.one_of_alls.new.gates.items t.sees_two (λ y k d. (two_one read h _ k n _ y t.sees_two d).1)
    (subst (λ z. MakesOperand (one_of_alls h z) (Err fault) c.one_of_alls.new.gates.items) terms
    c.in_err-operand.ensures) in
    each_stops itself operand_of (Sees_two read) (two_one read) (two_more read) (gates_in c.args.gates.now.items) h ns
    i n c.loop-n.seen.items c.from_residual-in_err-operand.result fault c.one_of_alls.new.gates.items
    (item_next ns i n c.loop-n-test.true (get_or_default ns i 0 n c.loop-n-test.true)) c.loop-n.invariant.so_far
    c.from_residual-in_err-operand.ensures.1 fails

pub returns : goal.returns
returns c =
    let read = row_at c.args.rows.now in (
      each_ends itself operand_of (Sees_two read) (two_one read) (two_more read) (gates_in c.args.gates.now.items)
          (gates_in c.loop-n.gates.items) c.args.flows.now c.loop-n.n-index c.loop-n.seen.items c.loop-n-test.false
          c.loop-n.invariant.so_far,
      c.loop-n.invariant.few,
    )
