use Rattle.std.proofs.Common.{◌≡◌, ◌<◌, ◌≤◌, List, Vec, Global, length, get_or, set, take, take_all, sym, ap, ◌∙◌, arith}
use Rattle.std.proofs.lemmas.List.{set_past}
use Rattle.domains.specs.declared.Value.{Value}
use Rattle.ar_base.specs.Numbers.{VarId}
use Rattle.ar_base.proofs.Standing.{stands_get}
use Rattle.flow_changes.specs.Restoring.{decoded_at, restored}
use Rattle.flow_changes.proofs.Restored.{restored_next}
use Rattle.flow_changes.proofs.restoring.put.Goals as goal
use Rattle.flow_changes.proofs.restoring.put.Goals.{then-n-len, else-n-len}

pub loop-place-preserved : goal.loop-place-preserved
loop-place-preserved c =
    let p = c.args.parts.now in
    let i = c.loop-place.place in
    let xs = c.args.variables.now in
    let cs = c.args.codes.now in
    let t = c.args.values.now.items in
    let none : VarId = record { n = 0; of = record {} } in
    let x = get_or xs i none in
    let d = get_or cs i 0 in
    let below : i < length xs = c.loop-place-test.true in
    let also : i < length cs = omega (arith, below, c.requires.long) in
    let old = c.loop-place.values.items in
    let one : c.if-n-len.values.items ≡ set old x.n c.value_at-value.result = elim c.if-n-len.branch [
      | then-n-len h ↦ ap (λ (z : Vec Value Global). z.items) h.values-is
      | else-n-len h ↦
          let past : length old ≤ x.n = (let e = h.if-n-len.false in omega (arith, e, c.len.ensures)) in
          ap (λ (z : Vec Value Global). z.items) h.values-is ∙ sym (set_past old x.n c.value_at-value.result past)
    ] in
    one ∙ ap (λ (z : Value). set old x.n z) c.value_at-value.ensures
    ∙ ap (λ (z : List Value). set z x.n (decoded_at p x.n d)) c.loop-place.invariant
    ∙ sym (restored_next p t xs cs i x d c.requires.long below (stands_get xs i none below) (stands_get cs i 0 also))

pub returns : goal.returns
returns c =
    let p = c.args.parts.now in
    let i = c.loop-place.place in
    let xs = c.args.variables.now in
    let cs = c.args.codes.now in
    let t = c.args.values.now.items in
    c.loop-place.invariant ∙ ap (λ (z : List VarId). restored p t z (take i cs)) (take_all i xs c.loop-place-test.false)
    ∙ ap (restored p t xs) (take_all i cs (omega (arith, c.loop-place-test.false, c.requires.long)))
