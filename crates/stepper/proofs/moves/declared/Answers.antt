use Rattle.std.proofs.Common.{◌≡◌, ◌+◌, ◌++◌, ◌∷◌, [], List, take, get_or, sym, ap, ◌∙◌, arith, ◌<◌, length}
use Rattle.ar_base.proofs.Items.{take_item}
use Rattle.domains.specs.declared.Value.{Value}
use Rattle.ar_meaning.specs.Runs.{first_values}
use Rattle.gts_core.specs.View.{variables_from}
use Rattle.gts_core.specs.declared.system.Variable.{Variable}
use Rattle.stepper.proofs.Growing.{first_more}
use Rattle.stepper.proofs.moves.declared.Goals as goal

pub loop-variable-preserved : goal.loop-variable-preserved
loop-variable-preserved c =
    let xs = c.args.parts.now.variables.items in
    let i = c.loop-variable.variable-index in
    let x = c.variable-item.result in
    let item : x ≡ get_or xs i x = c.variable-item.is
    ∙ ap (λ (z : List Variable). get_or z i x) c.deref-variable-items.ensures.value in
    let below : i < length xs = (let h = c.loop-variable-test.true in let k = ap length c.deref-variable-items.ensures.value in omega arith) in
    let more : take (i + 1) xs ≡ take i xs ++ x ∷ [] = take_item xs i x below item in
    c.in_ok-push.ensures.items ∙ ap (λ (z : List Value). z ++ x.value ∷ []) c.loop-variable.invariant
    ∙ sym (first_more 0 (take i xs) x) ∙ ap (λ (z : List Variable). first_values (variables_from 0 z)) (sym more)
