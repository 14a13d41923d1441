use Rattle.std.proofs.Common.{◌≡◌, ◌+◌, List, [], ◌∷◌, ◌++◌, get_or, drop, rules, sym, ap, ◌∙◌, subst, Vec, Global}
use Rattle.std.proofs.lemmas.List.{get_or_default}
use Rattle.domains.specs.Domains.{values_of}
use Rattle.eq_core.specs.Views.{operand_of}
use Rattle.eq_core.specs.declared.joints.Operand as sign
use Rattle.eq_build.specs.Views.{operands_in, entries_in, terms_in}
use Rattle.eq_build.specs.declared.entries.Entry.{Entry}
use Rattle.eq_build.specs.Steps.{outside_terms}
use Rattle.tree_equations.specs.Answers.{signs_in, row_in}
use Rattle.tree_equations.proofs.SeeingLemmas.{outside_put, outside_skip, never_true}
use Rattle.tree_equations.proofs.seeing.terms_outside.Goals as goal
use Rattle.tree_equations.proofs.seeing.terms_outside.Goals.{then-not-holds+in_ok-term+in_ok-push, else-not-holds}

pub loop-entry-preserved : goal.loop-entry-preserved
loop-entry-preserved c =
    let dom = c.args.domain.now in
    let r = c.args.assigned.now in
    let cs = signs_in r.conditions in
    let es = c.deref-entry-items.result.now in
    let i = c.loop-entry.entry-index in
    let l = c.loop-entry-test.true in
    let items = c.deref-entry-items.ensures.value in
    let old = c.loop-entry.terms in
    let whole = outside_terms (values_of dom) cs (row_in r.entries) in
    let so_far : List Entry → Vec (Vec sign.Operand Global) Global → Type 0 = λ z ts. whole
    ≡ terms_in ts.items ++ outside_terms (values_of dom) cs (entries_in z) in
    let before = subst (λ (z : List Entry). so_far (drop i z) old) (sym items) c.loop-entry.invariant in
    elim c.if-not-holds.branch [
      | then-not-holds+in_ok-term+in_ok-push w ↦
          subst (λ (ts : Vec (Vec sign.Operand Global) Global). so_far (drop (i + 1) r.entries.items) ts)
          (sym w.terms-is)
          (subst (λ (z : List Entry). so_far (drop (i + 1) z) w.push.new.self) items
          (outside_put dom cs old.items w.push.new.self.items w.in_ok-term.term es i (get_or es i _) whole l
          (get_or_default es i _ _ l) c.requires (λ h. never_true (w.if-not-holds.ensures.1 h))
          (w.in_ok-term.ensures
          ∙ ap (λ (z : List sign.Operand). operands_in z ++ operand_of (get_or es i _).operand ∷ [])
          w.deref.ensures.value)
          w.in_ok-push.ensures.items before))
      | else-not-holds w ↦
          subst (λ (ts : Vec (Vec sign.Operand Global) Global). so_far (drop (i + 1) r.entries.items) ts)
          (sym w.terms-is)
          (subst (λ (z : List Entry). so_far (drop (i + 1) z) old) items
          (outside_skip dom cs old.items es i (get_or es i _) whole l (get_or_default es i _ _ l)
          (w.if-not-holds.ensures.0 (search rules)) before))
    ]
