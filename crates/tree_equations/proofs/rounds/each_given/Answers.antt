use Rattle.std.proofs.Common.{get_or, subst}
use Rattle.std.proofs.lemmas.List.{get_or_default}
use Rattle.ar_base.proofs.Standing.{stands_within, stands_one, stands_item}
use Rattle.domains.specs.Domains.{values_of}
use Rattle.eq_build.specs.Views.{gates_in, row_at, StopsBuilding}
use Rattle.gts_core.specs.View.{assign_of}
use Rattle.gts_core.specs.declared.system.Assign.{Assign}
use Rattle.eq_build.specs.Steps.{Gives_target}
use Rattle.tree_equations.specs.Answers.{TooMany, row_in}
use Rattle.tree_equations.proofs.Each.{each_start, each_next, each_stops, each_ends}
use Rattle.tree_equations.proofs.Determined.{given_one}
use Rattle.tree_equations.proofs.Rising.{given_more}
use Rattle.tree_equations.proofs.Giving.{along_at, along_end}
use Rattle.tree_equations.proofs.rounds.each_given.Goals as goal

pub loop-number-init : goal.loop-number-init
loop-number-init c =
    let read = row_at c.args.rows.now in
    let domain = values_of c.args.domain.now in
    record {
      few = c.requires.few;
      so_far = λ picked a. each_start assign_of row_in (Gives_target read domain) (given_one read domain)
          (given_more read domain) (gates_in c.args.gates.now.items) picked c.new-lists.result.items
          c.new-lists.ensures.items;
    }

pub bounds-assigns-number : goal.bounds-assigns-number
bounds-assigns-number c =
    let ns = c.args.numbers.now in
    let i = c.loop-number.number-index in
    let n = get_or ns i 0 in
    let at = along_at c.requires.numbers.1 i n c.loop-number-test.true
    (get_or_default ns i 0 n c.loop-number-test.true) in
    stands_within c.args.assigns.now n at.0 at.1

pub loop-number-preserved : goal.loop-number-preserved
loop-number-preserved c =
    let read = row_at c.args.rows.now in
    let domain = values_of c.args.domain.now in
    let ns = c.args.numbers.now in
    let i = c.loop-number.number-index in
    let n = get_or ns i 0 in
    let made = c.in_ok-list.ensures in
    record {
      few = made.1;
      so_far = λ picked a.
          let at = along_at a i n c.loop-number-test.true (get_or_default ns i 0 n c.loop-number-test.true) in
          let here = stands_item c.args.assigns.now n c.index-assigns-number.result
          (stands_within c.args.assigns.now n at.0 at.1) c.index-assigns-number.is in
          let same = stands_one c.args.assigns.now n c.index-assigns-number.result at.0 here at.1 in
          each_next assign_of row_in (Gives_target read domain) (given_one read domain) (given_more read domain)
          (gates_in c.args.gates.now.items) (gates_in c.loop-number.gates.items) (gates_in c.given.new.gates.items)
          picked i at.0 c.loop-number.lists.items c.push.new.self.items c.in_ok-list.list at.2
          (subst (λ (z : Assign). Gives_target read domain (gates_in c.loop-number.gates.items) (assign_of z)
          (row_in c.in_ok-list.list) (gates_in c.given.new.gates.items)) same made.0)
          c.in_ok-push.ensures.items (c.loop-number.invariant.so_far picked a);
    }

pub returns-in_err-list : goal.returns-in_err-list
returns-in_err-list c = λ picked a.
    let read = row_at c.args.rows.now in
    let domain = values_of c.args.domain.now in
    let ns = c.args.numbers.now in
    let i = c.loop-number.number-index in
    let n = get_or ns i 0 in
    let at = along_at a i n c.loop-number-test.true (get_or_default ns i 0 n c.loop-number-test.true) in
    let here = stands_item c.args.assigns.now n c.index-assigns-number.result
    (stands_within c.args.assigns.now n at.0 at.1) c.index-assigns-number.is in
    let same = stands_one c.args.assigns.now n c.index-assigns-number.result at.0 here at.1 in
    each_stops assign_of row_in (Gives_target read domain) (given_one read domain) (given_more read domain)
    (gates_in c.args.gates.now.items) (gates_in c.loop-number.gates.items) picked i at.0 c.loop-number.lists.items
    c.from_residual.result c.in_err-list.field-0.0 c.given.new.gates.items at.2
    (c.loop-number.invariant.so_far picked a) c.from_residual.ensures.1
    (subst (λ (z : Assign). StopsBuilding c.in_err-list.field-0.0 (TooMany (λ y k. Gives_target read domain
    (gates_in c.loop-number.gates.items) (assign_of z) y k))) same c.in_err-list.ensures)

pub returns : goal.returns
returns c = λ picked a.
    let read = row_at c.args.rows.now in
    let domain = values_of c.args.domain.now in (
      each_ends assign_of row_in (Gives_target read domain) (given_one read domain) (given_more read domain)
          (gates_in c.args.gates.now.items) (gates_in c.loop-number.gates.items) picked c.loop-number.number-index
          c.loop-number.lists.items (along_end a c.loop-number.number-index c.loop-number-test.false)
          (c.loop-number.invariant.so_far picked a),
      c.loop-number.invariant.few,
    )
