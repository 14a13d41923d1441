use Rattle.std.proofs.Common.{length, List, subst, rules, ◌≡◌, arith}
use Rattle.ar_base.specs.Lists.{IsOneOf}
use Rattle.ar_base.proofs.Standing.{stands_within}
use Rattle.gts_core.specs.declared.system.Assign.{Assign}
use Rattle.tree_equations.proofs.index.make_index.Goals as goal

pub by_target-requires-clause-under : goal.by_target-requires-clause-under
by_target-requires-clause-under c = λ a o.
    let p = c.args.parts.now in
    let h = c.requires.assertions a (subst (λ (z : List Assign). IsOneOf z a) c.deref-2.ensures.value o) in
    let l = stands_within p.variables.items a.target.n h.variable h.stands in
    let long : c.len.result ≡ length p.variables.items = search rules in
    omega (arith, l, long)
