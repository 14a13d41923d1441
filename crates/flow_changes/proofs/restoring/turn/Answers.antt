use Rattle.std.proofs.Common.{◌≡◌, ◌+◌, ◌<◌, ◌≤◌, ◌++◌, ◌∷◌, [], Bool, false, not, List, Vec, Global, Option, unwrap_or, length, set, take, take_all, get_or, sym, ap, ◌∙◌, arith}
use Rattle.std.proofs.lemmas.List.{take_more, set_past}
use Rattle.ar_base.specs.Numbers.{VarId}
use Rattle.ar_base.proofs.Standing.{stands_item}
use Rattle.flow_changes.specs.Restoring.{mark_at, marks_turned}
use Rattle.flow_changes.proofs.Turns.{flip, turned_last}
use Rattle.flow_changes.proofs.restoring.turn.Goals as goal
use Rattle.flow_changes.proofs.restoring.turn.Goals.{then-n-len, else-n-len}

abbrev no_variable : VarId
no_variable = record { n = 0; of = record {} }

pub loop-variable-preserved : goal.loop-variable-preserved
loop-variable-preserved c =
    let xs = c.args.variables.now in
    let first = c.args.marks.now.items in
    let i = c.loop-variable.variable-index in
    let x = get_or xs i no_variable in
    let more : take (i + 1) xs ≡ take i xs ++ x ∷ [] = take_more xs i no_variable c.loop-variable-test.true in
    let old = c.loop-variable.marks.items in
    let one : c.if-n-len.marks.items ≡ flip old x.n = elim c.if-n-len.branch [
      | then-n-len h ↦
          let below : x.n < length old = (let e = h.if-n-len.true in omega (arith, e, c.len.ensures)) in
          ap (λ (z : Vec Bool Global). z.items) h.marks-is
          ∙ sym (ap (λ (o : Option Bool). set old x.n (not (unwrap_or o false)))
          (stands_item old x.n h.index.result.now below h.index.ensures))
      | else-n-len h ↦
          let past : length old ≤ x.n = (let e = h.if-n-len.false in omega (arith, e, c.len.ensures)) in
          ap (λ (z : Vec Bool Global). z.items) h.marks-is ∙ sym (set_past old x.n (not (mark_at old x.n)) past)
    ] in
    one ∙ ap (λ (z : List Bool). flip z x.n) c.loop-variable.invariant
    ∙ sym (ap (marks_turned first) more ∙ turned_last first (take i xs) x)

pub returns : goal.returns
returns c = c.loop-variable.invariant
    ∙ ap (marks_turned c.args.marks.now.items)
    (take_all c.loop-variable.variable-index c.args.variables.now c.loop-variable-test.false)
