use Rattle.std.proofs.Common.{◌<◌, [], ◌∷◌, ◌++◌, length, ap, ◌∙◌, subst}
use Rattle.eq_core.specs.Gates.{all_of}
use Rattle.eq_build.specs.BuildsInside.{most_gates}
use Rattle.eq_build.specs.Views.{gates_in, entries_in, operands_in}
use Rattle.eq_build.proofs.Growing.{longer_on, terms_more}
use Rattle.eq_build.proofs.Stopping.{stops_up, entries_passed_on}
use Rattle.eq_build.specs.Steps.{total_of, opposites, as_terms}
use Rattle.tree_equations.proofs.totals.total.Goals as goal

pub returns-in_err-none : goal.returns-in_err-none
returns-in_err-none c =
    let g = gates_in c.args.gates.now.items in
    let row = entries_in c.args.row.now in
    let fault = c.in_err-none.field-0.0 in
    let os = ap operands_in c.deref.ensures.value ∙ c.in_ok-unknown.ensures in
    entries_passed_on (total_of g row c.args.reset) c.from_residual-in_err-none.result fault c.made.new.gates.items
    c.from_residual-in_err-none.ensures.1
    (stops_up fault
    (λ l. longer_on (terms_more (all_of g (opposites row)).gates
    (as_terms row ++ record { value = c.args.reset; operands = (all_of g (opposites row)).operand ∷ [] } ∷ []))
    (subst (λ z. most_gates < length (all_of g z).gates) os l)) c.in_err-none.ensures)
