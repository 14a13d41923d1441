-- One candidate more.
use Rattle.std.proofs.Common.{ℕ, ◌∙◌, true, false, true≢false, refl, sym, ap, List, Vec, Global, arith, subst}
use Rattle.std.proofs.lemmas.List.{take_all}
use Rattle.flow_blocks.specs.Table.{IsSelection}
use Rattle.flow_blocks.proofs.UseLemmas.{one_at}
use Rattle.flow_blocks.proofs.ClassLemmas.{selection_on}
use Rattle.flow_blocks.proofs.classing.add_others.Goals as goal
use Rattle.flow_blocks.proofs.classing.add_others.Goals.{then-least-number+then-are_mutual+in_ok-push, else-least-number, else-least-number-via-then-least-number+else-are_mutual, else-least-number-via-else-least-number}

pub are_mutual-requires-clause-b : goal.are_mutual-requires-clause-b
are_mutual-requires-clause-b c =
    c.requires.candidates _ (one_at c.args.candidates.now c.loop-number.number-index 0 c.loop-number-test.true)

pub loop-number-preserved : goal.loop-number-preserved
loop-number-preserved c =
    let on = selection_on c.args.rows.now c.args.least c.args.candidates.now c.loop-number.number-index
    c.loop-number-test.true c.requires.ascend c.loop-number.members.items c.if-least-number.members.items
    c.loop-number.invariant in
    elim c.if-least-number.branch [
      | then-least-number+then-are_mutual+in_ok-push w ↦
          on true (λ y. let both = w.are_mutual.ensures.0 w.if-are_mutual.true in (w.if-least-number.true, both.0, both.1), λ p. refl)
          (ap (λ (z : Vec ℕ Global). z.items) w.members-is ∙ w.in_ok-push.ensures.items)
      | else-least-number w ↦ elim w.else-least-number.branch [
        | else-least-number-via-then-least-number+else-are_mutual v ↦
            on false (λ y. absurd (true≢false (sym y)), λ p. sym v.if-are_mutual.false ∙ v.are_mutual.ensures.1 (p.1, p.2))
            (ap (λ (z : Vec ℕ Global). z.items) w.members-is)
        | else-least-number-via-else-least-number v ↦
            on false (λ y. absurd (true≢false (sym y)), λ p. absurd (omega (arith, p.0, v.if-least-number.false)))
            (ap (λ (z : Vec ℕ Global). z.items) w.members-is)
      ]
    ]

pub returns : goal.returns
returns c =
    subst (λ (l : List ℕ). IsSelection c.args.rows.now c.args.least l c.loop-number.members.items)
    (take_all c.loop-number.number-index c.args.candidates.now (omega (arith, c.loop-number-test.false)))
    c.loop-number.invariant
