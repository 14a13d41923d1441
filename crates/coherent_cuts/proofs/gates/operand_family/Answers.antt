use Rattle.std.proofs.Common.{◌≡◌, ◌<◌, true, length, get_or, sym, ap, subst, arith}
use Rattle.ar_base.proofs.Results.{ok_map}
use Rattle.ar_base.proofs.Standing.{stands_get}
use Rattle.zdd_nodes.specs.Nodes.{NodeId, family}
use Rattle.eq_core.specs.Gates.{EventIs, GateIs}
use Rattle.eq_core.specs.ValuesInside.{IsBelow}
use Rattle.eq_core.specs.Views.{operand_of}
use Rattle.least_families.proofs.Held.{keeps_none}
use Rattle.coherent_cuts.specs.Coherent.{IsPlain}
use Rattle.coherent_cuts.specs.Gates.{IsFamilyOf}
use Rattle.coherent_cuts.proofs.Families.{always_least, never_least}
use Rattle.coherent_cuts.proofs.gates.operand_family.Goals as goal

abbrev no_number : NodeId
no_number = record { n = 0; of = record {} }

pub returns-in-Always-clause-kept : goal.returns-in-Always-clause-kept
returns-in-Always-clause-kept c = keeps_none c.args.ops.now c.args.memo.now c.requires.held

pub returns-in-Always-clause-operand : goal.returns-in-Always-clause-operand
returns-in-Always-clause-operand c = let one = c.new.ensures in record {
  in_store = omega (arith, one);
  apart = (always_least c.args.order c.args.trees.now (family c.args.ops.now c.new.result.n)
      (ap (family c.args.ops.now) one)).apart;
}

pub returns-in-Always-clause-family : goal.returns-in-Always-clause-family
returns-in-Always-clause-family c = λ gates tabled. let one = c.new.ensures in
    subst (λ o. IsFamilyOf c.args.order c.args.trees.now gates (operand_of o) c.args.ops.now c.new.result.n)
    (sym c.in-Always.is)
    (record {
      in_store = omega (arith, one);
      least = always_least c.args.order c.args.trees.now (family c.args.ops.now c.new.result.n)
          (ap (family c.args.ops.now) one);
    })

pub returns-in-Never-clause-kept : goal.returns-in-Never-clause-kept
returns-in-Never-clause-kept c = keeps_none c.args.ops.now c.args.memo.now c.requires.held

pub returns-in-Never-clause-operand : goal.returns-in-Never-clause-operand
returns-in-Never-clause-operand c = let none = c.new-in-Never.ensures in record {
  in_store = omega (arith, none);
  apart = (never_least {P = λ x. Unit {0}} (family c.args.ops.now c.new-in-Never.result.n) (ap (family c.args.ops.now) none)).apart;
}

pub returns-in-Never-clause-family : goal.returns-in-Never-clause-family
returns-in-Never-clause-family c = λ gates tabled. let none = c.new-in-Never.ensures in
    subst (λ o. IsFamilyOf c.args.order c.args.trees.now gates (operand_of o) c.args.ops.now c.new-in-Never.result.n)
    (sym c.in-Never.is)
    (record {
      in_store = omega (arith, none);
      least = never_least (family c.args.ops.now c.new-in-Never.result.n) (ap (family c.args.ops.now) none);
    })

pub returns-in-Event-clause-family : goal.returns-in-Event-clause-family
returns-in-Event-clause-family c =
    let e = c.in-Event.event.n in
    let plain : c.in-Event.field-1 ≡ true = subst (λ o. IsPlain (operand_of o)) c.in-Event.is c.requires.plain in
    ok_map c.event_family.result
    (λ n f. λ gates tabled.
    subst (λ o. IsFamilyOf c.args.order c.args.trees.now gates (operand_of o) c.event_family.new.ops n.n)
    (sym c.in-Event.is)
    (subst (λ s. IsFamilyOf c.args.order c.args.trees.now gates (EventIs e s) c.event_family.new.ops n.n) (sym plain)
    (f gates)))
    c.event_family.ensures.family

pub returns-in-Gate-clause-kept : goal.returns-in-Gate-clause-kept
returns-in-Gate-clause-kept c = keeps_none c.args.ops.now c.args.memo.now c.requires.held

pub returns-in-Gate-clause-operand : goal.returns-in-Gate-clause-operand
returns-in-Gate-clause-operand c =
    let g = c.in-Gate.gate.n in
    let inside : g < length c.args.table.now =
    subst (λ o. IsBelow (length c.args.table.now) (operand_of o)) c.in-Gate.is c.requires.below in
    c.requires.table.each g (get_or c.args.table.now g no_number) (stands_get c.args.table.now g no_number inside)

pub returns-in-Gate-clause-family : goal.returns-in-Gate-clause-family
returns-in-Gate-clause-family c = λ gates tabled.
    let g = c.in-Gate.gate.n in
    let table = c.args.table.now in
    let plain : c.in-Gate.field-1 ≡ true = subst (λ o. IsPlain (operand_of o)) c.in-Gate.is c.requires.plain in
    let inside : g < length table = subst (λ o. IsBelow (length table) (operand_of o)) c.in-Gate.is c.requires.below in
    let at = stands_get table g no_number inside in
    subst (λ o. IsFamilyOf c.args.order c.args.trees.now gates (operand_of o) c.args.ops.now (get_or table g no_number).n)
    (sym c.in-Gate.is)
    (subst (λ s. IsFamilyOf c.args.order c.args.trees.now gates (GateIs g s) c.args.ops.now (get_or table g no_number).n)
    (sym plain)
    (tabled.gate g c.in-Gate.field-1 (get_or table g no_number) (ap operand_of c.in-Gate.is) at))
