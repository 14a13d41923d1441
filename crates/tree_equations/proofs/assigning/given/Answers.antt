use Rattle.std.proofs.Common.{List, subst}
use Rattle.domains.specs.Domains.{values_of}
use Rattle.eq_build.specs.Entries.{Group, entries_of, entries_for}
use Rattle.eq_build.specs.Views.{gates_in, row_at, MakesEntries}
use Rattle.gts_core.specs.View.{assign_of}
use Rattle.eq_build.specs.Steps.{Gives_target, given_terms}
use Rattle.eq_build.specs.Steps as t
use Rattle.tree_equations.specs.Answers.{TooMany, row_in, signs_in}
use Rattle.tree_equations.proofs.Determined.{given_one}
use Rattle.tree_equations.proofs.Giving.{gives_on, entries_give}
use Rattle.tree_equations.proofs.Flowing.{Assigned, given_stops}
use Rattle.tree_equations.proofs.assigning.given.Goals as goal

pub returns-in_err-assigned : goal.returns-in_err-assigned
returns-in_err-assigned c =
    let read = row_at c.args.rows.now in
    let g = gates_in c.args.gates.now.items in
    let a = assign_of c.args.assign.now in
    let domain = values_of c.args.domain.now in
    gives_on row_in (λ es h. Gives_target read domain g a es h) (TooMany (Assigned read g a))
    c.from_residual.result c.in_err-assigned.field-0.0 c.build_assign.new.gates.items
    (given_stops read g a domain) c.from_residual.ensures.1 c.in_err-assigned.ensures

pub returns : goal.returns
returns c =
    let read = row_at c.args.rows.now in
    let g = gates_in c.args.gates.now.items in
    let h = gates_in c.build_assign.new.gates.items in
    let a = assign_of c.args.assign.now in
    let domain = values_of c.args.domain.now in
    let r = c.in_ok-assigned.assigned in
    let terms = given_terms domain (signs_in r.conditions) (row_in r.entries) in
    let made : Gives_target read domain g a (entries_for h terms).entries (entries_for h terms).gates =
    t.gives c.in_ok-assigned.ensures.0 in
    entries_give (entries_for h terms) (Gives_target read domain g a) c.entries.result c.entries.new.gates.items made
    (λ y k d. (given_one read domain g _ k a _ y made d).1)
    (subst (λ (z : List Group). MakesEntries (entries_of h z) c.entries.result c.entries.new.gates.items)
    c.in_ok-groups.ensures c.entries.ensures)
