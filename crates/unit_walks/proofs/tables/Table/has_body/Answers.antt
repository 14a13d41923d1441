use Rattle.std.proofs.Common.{sym, refl, ◌∙◌, arith}
use Rattle.class_table.proofs.MemberNames.{none_of}
use Rattle.unit_walks.proofs.TableSteps.{up_found, up_none, up_on, up_before, unit_there, unit_within}
use Rattle.unit_walks.proofs.tables.Table.has_body.Goals as goal

pub loop-level-init : goal.loop-level-init
loop-level-init c = λ m frames u t h. (record { path = u; stands = h; same = refl }, omega arith)

pub loop-level-preserved : goal.loop-level-preserved
loop-level-preserved c = λ m frames u t h.
    let i = c.loop-level.invariant m frames u t h in
    let k = i.1 in
    let b = up_before m frames c.args.self.now t u c.loop-level.at c.args.body.n c.in-Some.met i.0 c.in-Some.ensures
    c.in-Some-owner.above c.in-Some-owner.is in (
      up_on m frames c.args.self.now t u c.loop-level.at c.args.body.n c.in-Some.met
          i.0 c.in-Some.ensures c.in-Some-owner.above c.if-met-body.false c.in-Some-owner.is,
      omega arith,
    )

pub returns-in_default : goal.returns-in_default
returns-in_default c = λ m frames u t h.
    let i = c.loop-level.invariant m frames u t h in
    let e = none_of c.unit.result c.in_default.not-Some in
    absurd (unit_there m frames c.args.self.now t c.loop-level.at i.0.path i.0.stands (sym e ∙ c.unit.ensures))

pub returns-then-met-body : goal.returns-then-met-body
returns-then-met-body c = λ m frames u t h. up_found m frames c.args.self.now t u c.loop-level.at c.args.body.n
    c.in-Some.met (c.loop-level.invariant m frames u t h).0 c.in-Some.ensures c.if-met-body.true

pub returns-in_default-owner : goal.returns-in_default-owner
returns-in_default-owner c = λ m frames u t h. up_none m frames c.args.self.now t u c.loop-level.at c.args.body.n
    c.in-Some.met (c.loop-level.invariant m frames u t h).0 c.in-Some.ensures c.if-met-body.false
    c.in_default-owner.is

pub returns : goal.returns
returns c = λ m frames u t h.
    let i = (c.loop-level.invariant m frames u t h).1 in
    let w = unit_within m frames c.args.self.now t c.args.unit u h in
    absurd (omega arith)
