use Rattle.std.proofs.Common.{◌<◌, List, length, sym, ap, ◌∙◌, subst}
use Rattle.eq_build.specs.Entries.{Built, chosen, entries_for, case_terms}
use Rattle.eq_build.specs.BuildsInside.{most_gates}
use Rattle.eq_build.specs.Views.{entries_in, gates_in, cases_in}
use Rattle.eq_build.specs.declared.entries.Entry as flat
use Rattle.eq_build.proofs.Stopping.{stops_up, entries_passed_on, case_stops, chosen_last, cases_split}
use Rattle.eq_build.proofs.forms.chosen.Goals as goal

pub returns-in_err-next : goal.returns-in_err-next
returns-in_err-next c =
    let fault = c.in_err-next.field-0.0 in
    let g = gates_in c.args.gates.now.items in
    let h = gates_in c.loop-test.gates.items in
    let other = entries_in c.loop-test.so_far.items in
    let cs = cases_in c.pop.new.self.items in
    let test = c.in-Some.test in
    let value = c.in-Some.value in
    let made : List flat.Entry → List flat.Entry → List flat.Entry → Built =
    λ x y z. entries_for h (case_terms (entries_in x) (entries_in y) (entries_in z)) in
    let split = cases_split c.loop-test.cases.items c.pop.new.self.items test value c.in-Some.ensures.items in
    let same = c.loop-test.invariant.same ∙ ap (λ z. chosen h z other) split in
    entries_passed_on (chosen g (cases_in c.args.cases.items) (entries_in c.args.other.items))
    c.from_residual.result fault
    c.with_case.new.gates.items c.from_residual.ensures.1
    (stops_up fault
    (λ l. case_stops g h (cases_in c.args.cases.items) cs (entries_in test.items, entries_in value.items)
    (entries_in c.args.other.items) other same
    (subst (λ z. most_gates < length (made z value.items c.loop-test.so_far.items).gates) c.deref.ensures.value
    (subst (λ z. most_gates < length (made c.deref.result.now z c.loop-test.so_far.items).gates)
    c.deref-in-Some.ensures.value
    (subst (λ z. most_gates < length (made c.deref.result.now c.deref-in-Some.result.now z).gates)
    c.deref-in-Some-2.ensures.value l))))
    c.in_err-next.ensures)

pub loop-test-preserved : goal.loop-test-preserved
loop-test-preserved c =
    let g = gates_in c.args.gates.now.items in
    let h = gates_in c.loop-test.gates.items in
    let other = entries_in c.loop-test.so_far.items in
    let cs = cases_in c.pop.new.self.items in
    let test = c.in-Some.test in
    let value = c.in-Some.value in
    let made : List flat.Entry → List flat.Entry → List flat.Entry → Built =
    λ x y z. entries_for h (case_terms (entries_in x) (entries_in y) (entries_in z)) in
    let split = cases_split c.loop-test.cases.items c.pop.new.self.items test value c.in-Some.ensures.items in
    let args = ap (λ z. made z value.items c.loop-test.so_far.items) (sym c.deref.ensures.value)
    ∙ ap (λ z. made c.deref.result.now z c.loop-test.so_far.items) (sym c.deref-in-Some.ensures.value)
    ∙ ap (λ z. made c.deref.result.now c.deref-in-Some.result.now z) (sym c.deref-in-Some-2.ensures.value) in
    let next = c.in_ok-next.ensures in
    record {
      few = next.1;
      same = c.loop-test.invariant.same ∙ ap (λ z. chosen h z other) split
          ∙ chosen_last h cs (entries_in test.items, entries_in value.items) other
          ∙ ap (λ (r : Built). chosen r.gates cs r.entries) (args ∙ next.0);
    }
