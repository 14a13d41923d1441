use Rattle.std.proofs.Common.{◌≡◌, sym, ap, ◌∙◌, nat_eq, rules}
use Rattle.std.specs.List.{list_any}
use Rattle.ar_base.specs.NumbersInside.{EventId}
use mathlib.Core.Bool.{beq}
use Rattle.eq_core.specs.Values.{operand_at}
use Rattle.ar_base.specs.NumbersInside.{numbers_of}
use Rattle.eq_core.specs.Views.{operand_of}
use Rattle.eq_core.proofs.Valuing.{compared, found, read_at}
use Rattle.eq_core.proofs.joints.Operand.value.Goals as goal

pub returns-in-Event : goal.returns-in-Event
returns-in-Event c =
    let set = c.args.set.now in
    let n = c.in-Event.event.n in
    ap (λ b. beq b c.in-Event.sign) (let h : c.contains.result ≡ list_any (λ (e : EventId). nat_eq e.n n) set = search (rules, c.contains.ensures) in h ∙ found set n) ∙ compared _ c.in-Event.sign
    ∙ ap (λ o. operand_at (numbers_of set) c.args.before.now (operand_of o)) (sym c.in-Event.is)

pub returns-in-Gate : goal.returns-in-Gate
returns-in-Gate c =
    ap (λ b. beq b c.in-Gate.sign) (read_at c.args.before.now c.in-Gate.gate.n) ∙ compared _ c.in-Gate.sign
    ∙ ap (λ o. operand_at (numbers_of c.args.set.now) c.args.before.now (operand_of o)) (sym c.in-Gate.is)
