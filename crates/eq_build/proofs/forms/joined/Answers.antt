use Rattle.std.proofs.Common.{◌≡◌, not, [], List, refl, ap, ◌∙◌, subst, rules}
use Rattle.domains.specs.declared.Value.TheVariants.{Truth}
use Rattle.eq_build.specs.Entries.{Group, entries_of, with_term, with_terms, apart, each_for}
use Rattle.eq_build.specs.Views.{operands_in, gates_in, lists_in, MakesEntries}
use Rattle.eq_build.proofs.Grouping.{joint_groups}
use Rattle.eq_build.proofs.forms.joined.Goals as goal

pub returns : goal.returns
returns c =
    let b = c.args.all_needed in
    let ess = lists_in c.args.operands.now in
    let os = operands_in c.deref.result.now in
    let some = c.put_apart.new.groups in
    let all = c.put.new.self in
    let front : some ≡ with_terms (apart (Truth (not b)) (each_for (Truth (not b)) ess)) [] = search rules in
    let each : os ≡ each_for (Truth b) ess = ap operands_in c.deref.ensures.value ∙ c.in_ok-each.ensures in
    let last : all ≡ with_term (record { value = Truth b; operands = os }) some = search rules in
    let same = joint_groups b b ess os some all refl front each last in
    subst (λ (z : List Group). MakesEntries (entries_of (gates_in c.args.gates.now.items) z) c.entries.result
    c.entries.new.gates.items)
    same c.entries.ensures
