use Rattle.std.proofs.Common.{◌≡◌, ◌<◌, ◌≤◌, ◌++◌, ◌∷◌, [], length, take, get_or, false, sym, ap, ◌∙◌, rules, arith, take_all}
use Rattle.std.proofs.lemmas.List.{take_more}
use Rattle.domains.specs.declared.Value.TheVariants.{Truth}
use Rattle.eq_core.specs.declared.joints.Operand.TheVariants.{Always}
use Rattle.eq_build.specs.declared.entries.Entry.{Entry}
use Rattle.tree_equations.proofs.rows.same_row.Goals as goal

pub loop-k-preserved : goal.loop-k-preserved
loop-k-preserved c =
    let a = c.args.first.now in
    let b = c.args.second.now in
    let k = c.loop-k.k in
    let d0 : Entry = record { value = Truth false; operand = Always } in
    let l : k < length a = omega arith in
    let m : k < length b = omega arith in
    let e : get_or a k d0 ≡ get_or b k d0 = search rules in
    take_more a k d0 l ∙ ap (λ z. z ++ get_or a k d0 ∷ []) c.loop-k.invariant
    ∙ ap (λ z. take k b ++ z ∷ []) e ∙ sym (take_more b k d0 m)

pub returns : goal.returns
returns c = λ t.
    let a = c.args.first.now in
    let b = c.args.second.now in
    let k = c.loop-k.k in
    let l : length a ≤ k = omega arith in
    let m : length b ≤ k = omega arith in
    sym (take_all k a l) ∙ c.loop-k.invariant ∙ take_all k b m
