use Rattle.std.proofs.Common.{◌≡◌, ◌<◌, ◌≤◌, ◌+◌, ◌^◌, ℕ, List, take, drop, ◌++◌, length, add-one, rules, sym, ◌∙◌, subst, arith}
use Rattle.ar_base.specs.Lists.{IsOneOf}
use Rattle.ar_base.proofs.Standing.{stands_some, stands_within, one_here}
use Rattle.flow_reasons.specs.declared.fact_marks.Mark.{Mark}
use Rattle.flow_reasons.specs.Marks.{AreRoundMarks, unknown_count}
use Rattle.flow_reasons.specs.Bringing.{BringsAt, BringAll, NameOne}
use Rattle.flow_reasons.proofs.Placing.{written}
use Rattle.flow_reasons.proofs.Counting.{count_most, open_counts}
use Rattle.flow_reasons.proofs.Rounding.{marks_zero, marks_more, names_fresh, marks_last, round_fewer, marked_as}
use Rattle.flow_reasons.proofs.rounds.last_marks.Goals as goal

pub all_rounds-init : goal.all_rounds-init
all_rounds-init c =
    let p = c.args.parts.now in
    let marks = c.in_ok-marks.marks.items in
    let h = count_most marks in
    let are : AreRoundMarks p c.args.values.now 0 marks =
    subst (λ (z : List Mark). AreRoundMarks p c.args.values.now 0 z) (sym c.in_ok-marks.ensures)
    (marks_zero p c.requires.sound c.args.values.now c.requires.standing) in
    record {
      are = are;
      all = subst (λ (z : List Mark). BringAll p c.args.values.now z c.in_ok-found.found.items) c.deref.ensures.value
          c.in_ok-found.ensures;
      few = omega (arith, h, are.long);
    }

pub overflow_add-round : goal.overflow_add-round
overflow_add-round c =
    let some : 0 < length c.all_rounds.found.items = search rules in
    let x = stands_some c.all_rounds.found.items 0 some in
    let b = (c.all_rounds.invariant.all.each x.0).0 (one_here c.all_rounds.found.items 0 x.0 x.1) in
    let k = open_counts c.all_rounds.marks.items b.assign.target.n b.brings.is_open in
    let h : c.all_rounds.round + 1 < 2 ^ 32 =
    omega (arith, k, c.all_rounds.invariant.few, c.requires.sound.short.variables) in
    search (rules, h)

pub mark_all-requires-clause-inside : goal.mark_all-requires-clause-inside
mark_all-requires-clause-inside c = λ n o.
    let b = (c.all_rounds.invariant.all.each n).0
    (subst (λ (z : List ℕ). IsOneOf z n) c.deref-in-all_rounds.ensures.value o) in
    stands_within c.args.parts.now.assigns.items n b.assign b.stands

pub next_bringing-requires-clause-named : goal.next_bringing-requires-clause-named
next_bringing-requires-clause-named c = λ n b.
    let p = c.args.parts.now in
    let marks = c.all_rounds.marks.items in
    let new = c.mark_all.new.marks in
    let found = c.all_rounds.found.items in
    let d = marked_as p c.deref-in-all_rounds.result.now found (c.all_rounds.round + 1) c.deref_mut.result.now marks new
    c.in_ok-fresh.fresh.items c.deref-in-all_rounds.ensures.value c.deref_mut.ensures.value
    c.in_ok-fresh.ensures in
    let e = c.deref-in-all_rounds-3.ensures.value
    ∙ written new marks c.all_rounds.marks.len d.long c.all_rounds.marks.ok.0 in
    subst (λ (z : List ℕ). NameOne p z n) (sym c.deref-in-all_rounds-2.ensures.value)
    (names_fresh p c.requires.sound c.args.values.now c.requires.standing c.all_rounds.round marks
    c.all_rounds.invariant.are found c.all_rounds.invariant.all
    (c.all_rounds.round + 1) (add-one c.all_rounds.round) new c.in_ok-fresh.fresh.items d c.args.pairs.now
    c.requires.pairs n
    (subst (λ (z : List Mark). BringsAt p c.args.values.now z n) e b))

pub all_rounds-smaller : goal.all_rounds-smaller
all_rounds-smaller c =
    let p = c.args.parts.now in
    let marks = c.all_rounds.marks.items in
    let new = c.mark_all.new.marks in
    let found = c.all_rounds.found.items in
    let d = marked_as p c.deref-in-all_rounds.result.now found (c.all_rounds.round + 1) c.deref_mut.result.now marks new
    c.in_ok-fresh.fresh.items c.deref-in-all_rounds.ensures.value c.deref_mut.ensures.value
    c.in_ok-fresh.ensures in
    let e : take c.all_rounds.marks.len (new ++ drop (length new) marks) ≡ new =
    written new marks c.all_rounds.marks.len d.long c.all_rounds.marks.ok.0 in
    let some : 0 < length found = search rules in
    let x = stands_some found 0 some in
    subst (λ (z : List Mark). unknown_count z < unknown_count marks) (sym e)
    (round_fewer p c.args.values.now marks new found c.in_ok-fresh.fresh.items (c.all_rounds.round + 1) x.0
    c.all_rounds.invariant.all d (one_here found 0 x.0 x.1))

pub all_rounds-preserved : goal.all_rounds-preserved
all_rounds-preserved c =
    let p = c.args.parts.now in
    let marks = c.all_rounds.marks.items in
    let new = c.mark_all.new.marks in
    let found = c.all_rounds.found.items in
    let d = marked_as p c.deref-in-all_rounds.result.now found (c.all_rounds.round + 1) c.deref_mut.result.now marks new
    c.in_ok-fresh.fresh.items c.deref-in-all_rounds.ensures.value c.deref_mut.ensures.value
    c.in_ok-fresh.ensures in
    let e : take c.all_rounds.marks.len (new ++ drop (length new) marks) ≡ new =
    written new marks c.all_rounds.marks.len d.long c.all_rounds.marks.ok.0 in
    let some : 0 < length found = search rules in
    let x = stands_some found 0 some in
    let less = round_fewer p c.args.values.now marks new found c.in_ok-fresh.fresh.items (c.all_rounds.round + 1) x.0
    c.all_rounds.invariant.all d (one_here found 0 x.0 x.1) in
    let few : c.all_rounds.round + 1 + unknown_count new ≤ length p.variables.items =
    omega (arith, less, c.all_rounds.invariant.few) in
    let are = marks_more p c.requires.sound c.args.values.now c.requires.standing c.all_rounds.round marks
    c.all_rounds.invariant.are found c.all_rounds.invariant.all
    (c.all_rounds.round + 1) (add-one c.all_rounds.round) new c.in_ok-fresh.fresh.items d in
    record {
      are = subst (λ (z : List Mark). AreRoundMarks p c.args.values.now (c.all_rounds.round + 1) z) (sym e) are;
      all = subst (λ (z : List Mark). BringAll p c.args.values.now z c.in_ok-found-2.found.items)
          c.deref-in-all_rounds-3.ensures.value c.in_ok-found-2.ensures;
      few = subst (λ (z : List Mark). c.all_rounds.round + 1 + unknown_count z ≤ length p.variables.items) (sym e) few;
    }

pub returns : goal.returns
returns c =
    let none : length c.all_rounds.found.items ≡ 0 = search rules in
    marks_last c.args.parts.now c.requires.sound c.args.values.now c.requires.standing c.all_rounds.round
    c.all_rounds.marks.items c.all_rounds.invariant.are
    c.all_rounds.found.items c.all_rounds.invariant.all
    (λ n o. let l = stands_within c.all_rounds.found.items o.place n o.stands in omega (arith, l, none))
