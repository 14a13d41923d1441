use Rattle.std.proofs.Common.{◌≡◌, ◌+◌, ◌++◌, get_or, drop, rules, sym, subst, Vec, Global}
use Rattle.std.proofs.Common.{false}
use Rattle.std.proofs.lemmas.List.{get_or_default}
use Rattle.domains.specs.declared.Value.TheVariants.{Truth}
use Rattle.eq_core.specs.declared.joints.Operand.TheVariants.{Always}
use Rattle.eq_core.specs.declared.joints.Operand as sign
use Rattle.eq_build.specs.Views.{operands_in, entries_in, entry_of, terms_in}
use Rattle.eq_build.specs.declared.entries.Entry.{Entry}
use Rattle.eq_build.specs.Steps.{others_with}
use Rattle.tree_equations.proofs.SeeingLemmas.{others_put, others_skip}
use Rattle.tree_equations.proofs.seeing.push_others.Goals as goal
use Rattle.tree_equations.proofs.seeing.push_others.Goals.{then-ne+in_ok-term+in_ok-push, else-ne}

pub loop-other-preserved : goal.loop-other-preserved
loop-other-preserved c =
    let cs = operands_in c.args.conditions.now in
    let x = c.args.entry in
    let ys = c.args.others.now in
    let i = c.loop-other.other-index in
    let l = c.loop-other-test.true in
    let old = c.loop-other.terms in
    let whole = terms_in c.args.terms.now.items ++ others_with cs (entry_of x) (entries_in ys) in
    let so_far : Vec (Vec sign.Operand Global) Global → Type 0 = λ ts. terms_in ts.items
    ++ others_with cs (entry_of x) (entries_in (drop (i + 1) ys)) ≡ whole in
    let d0 : Entry = record { value = Truth false; operand = Always } in
    elim c.if-ne.branch [
      | then-ne+in_ok-term+in_ok-push w ↦
          let d : x.value ≡ (get_or ys i d0).value → ⊥ = search rules in
          subst so_far (sym w.terms-is)
          (others_put cs x old.items w.push.new.self.items w.in_ok-term.term ys i (get_or ys i d0) whole l
          (get_or_default ys i _ _ l) d w.in_ok-term.ensures w.in_ok-push.ensures.items c.loop-other.invariant)
      | else-ne w ↦
          let s : x.value ≡ (get_or ys i d0).value = search rules in
          subst so_far (sym w.terms-is)
          (others_skip cs x old.items ys i (get_or ys i d0) whole l (get_or_default ys i _ _ l) s
          c.loop-other.invariant)
    ]
