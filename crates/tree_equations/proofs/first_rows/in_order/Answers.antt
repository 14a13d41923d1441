use Rattle.std.proofs.Common.{◌<◌, List, [], length, arith, subst, ap, ◌∙◌}
use Rattle.std.proofs.lemmas.List.{length-map}
use Rattle.eq_core.specs.declared.joints.Gate.{Gate}
use Rattle.eq_build.specs.BuildsInside.{most_gates}
use Rattle.eq_build.specs.Entries.{Group, entries_of, with_terms}
use Rattle.eq_build.specs.Views.{entry_of, entries_in, gates_in}
use Rattle.eq_build.specs.Steps.{as_terms}
use Rattle.tree_equations.proofs.FewGates.{order_makes_few}
use Rattle.tree_equations.proofs.first_rows.in_order.Goals as goal

pub unreachable-requires : goal.unreachable-requires
unreachable-requires c =
    let es = entries_in c.args.entries.now in
    let over = rw c.in-Err-Gates.field-0-is at c.in-Err-Gates.ensures in
    let bare = subst (λ (g : List Gate). most_gates < length (entries_of (gates_in g) c.put_all.new.groups).gates)
    c.new-gates.ensures.items over in
    let all = subst (λ (g : List Group). most_gates < length (entries_of [] g).gates)
    (c.in_ok-put_all.ensures ∙ ap (λ (g : List Group). with_terms (as_terms es) g) c.new-groups.ensures) bare in
    let few = order_makes_few es in
    let short = c.requires in
    let long = length-map c.args.entries.now entry_of in
    omega (arith, all, few, short, long)
