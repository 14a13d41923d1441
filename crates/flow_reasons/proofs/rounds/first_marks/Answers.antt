use Rattle.std.proofs.Common.{◌≡◌, ◌<◌, if◌then◌else◌, Bool, List, [], ◌∷◌, ◌++◌, length, take, get_or, sym, ap, ◌∙◌, arith}
use Rattle.std.proofs.lemmas.List.{map-append}
use Rattle.ar_base.proofs.Items.{take_item}
use Rattle.gts_core.specs.declared.system.Variable.{Variable}
use Rattle.flow_reasons.specs.Marks.{first_mark_of, first_marks_of}
use Rattle.flow_reasons.specs.declared.fact_marks.Mark.{Mark}
use Rattle.flow_reasons.specs.declared.fact_marks.Mark.TheVariants.{Given, Unknown}
use Rattle.flow_reasons.proofs.rounds.first_marks.Goals as goal
use Rattle.flow_reasons.proofs.rounds.first_marks.Goals.{then-variable, else-variable}

pub loop-variable-preserved : goal.loop-variable-preserved
loop-variable-preserved c =
    let xs = c.args.parts.now.variables.items in
    let i = c.loop-variable.variable-index in
    let x = c.variable-item.result in
    let items = c.deref-variable-items.ensures.value in
    let item : x ≡ get_or xs i x = c.variable-item.is ∙ ap (λ (z : List Variable). get_or z i x) items in
    let below : i < length xs = (let h = c.loop-variable-test.true in let k = ap length items in omega arith) in
    let by : Bool → Mark = λ b. if b then Given else Unknown in
    let mark : c.if-variable.mark ≡ first_mark_of x = elim c.if-variable.branch [
      | then-variable w ↦ w.mark-is ∙ ap by (sym w.if-variable.true)
      | else-variable w ↦ w.mark-is ∙ ap by (sym w.if-variable.false)
    ] in
    c.in_ok-push.ensures.items ∙ ap (λ (z : List Mark). z ++ c.if-variable.mark ∷ []) c.loop-variable.invariant
    ∙ ap (λ (z : Mark). first_marks_of (take i xs) ++ z ∷ []) mark
    ∙ sym (map-append first_mark_of (take i xs) (x ∷ [])) ∙ ap first_marks_of (sym (take_item xs i x below item))
