use Rattle.std.proofs.Common.{◌≡◌, ◌+◌, List, [], ◌∷◌, ◌++◌, get_or, drop, rules, sym, ap, ◌∙◌, subst}
use Rattle.std.proofs.lemmas.List.{get_or_default}
use Rattle.domains.specs.Domains.{values_of}
use Rattle.eq_core.specs.Views.{operand_of}
use Rattle.eq_core.specs.declared.joints.Operand as sign
use Rattle.eq_build.specs.Entries.{Group, with_terms}
use Rattle.eq_build.specs.Views.{operands_in, entries_in}
use Rattle.eq_build.specs.declared.entries.Entry.{Entry}
use Rattle.eq_build.specs.Steps.{given_terms}
use Rattle.tree_equations.specs.Answers.{signs_in, row_in}
use Rattle.tree_equations.proofs.SeeingLemmas.{given_put, given_skip, never_true}
use Rattle.tree_equations.proofs.assigning.given_groups.Goals as goal
use Rattle.tree_equations.proofs.assigning.given_groups.Goals.{then-holds+in_ok-term+in_ok-put, else-holds}

pub loop-entry-preserved : goal.loop-entry-preserved
loop-entry-preserved c =
    let dom = c.args.domain.now in
    let r = c.args.assigned.now in
    let cs = signs_in r.conditions in
    let es = c.deref-entry-items.result.now in
    let i = c.loop-entry.entry-index in
    let l = c.loop-entry-test.true in
    let items = c.deref-entry-items.ensures.value in
    let old = c.loop-entry.groups in
    let whole = with_terms (given_terms (values_of dom) cs (row_in r.entries)) [] in
    let so_far : List Entry → List Group
    → Type 0 = λ z gs. with_terms (given_terms (values_of dom) cs (entries_in z)) gs ≡ whole in
    let before = subst (λ (z : List Entry). so_far (drop i z) old) (sym items) c.loop-entry.invariant in
    elim c.if-holds.branch [
      | then-holds+in_ok-term+in_ok-put w ↦
          subst (λ (gs : List Group). so_far (drop (i + 1) r.entries.items) gs) (sym w.groups-is)
          (subst (λ (z : List Entry). so_far (drop (i + 1) z) w.put.new.self) items
          (given_put dom cs old w.put.new.self (operands_in w.deref-then-holds.result.now) es i (get_or es i _) whole l
          (get_or_default es i _ _ l) (w.if-holds.ensures.0 (search rules))
          (ap operands_in w.deref-then-holds.ensures.value ∙ w.in_ok-term.ensures
          ∙ ap (λ (z : List sign.Operand). operands_in z ++ operand_of (get_or es i _).operand ∷ [])
          w.deref.ensures.value)
          w.in_ok-put.ensures before))
      | else-holds w ↦
          subst (λ (gs : List Group). so_far (drop (i + 1) r.entries.items) gs) (sym w.groups-is)
          (subst (λ (z : List Entry). so_far (drop (i + 1) z) old) items
          (given_skip dom cs old es i (get_or es i _) whole l (get_or_default es i _ _ l) c.requires
          (λ h. never_true (w.if-holds.ensures.1 h)) before))
    ]
