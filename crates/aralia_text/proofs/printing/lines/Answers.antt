use Rattle.std.proofs.Common.{◌+◌, List, refl, drop, map}
use Rattle.ar_io.proofs.Writing.{writes_exit, writes_on, writes_front, writes_as, leaves_all, leaves_on, leaves_front, leaves_none, next_item, no_item}
use Rattle.eq_core.specs.Views.{gate_of}
use Rattle.eq_core.specs.declared.joints.Gate.{Gate}
use Rattle.aralia_text.specs.Texts.{gate_line, gate_lines}
use Rattle.aralia_text.proofs.printing.lines.Goals as goal

pub loop-n-init : goal.loop-n-init
loop-n-init g c = leaves_all _ _

pub returns-in_err-name : goal.returns-in_err-name
returns-in_err-name g c =
    writes_exit _ _ c.from_residual.ensures.1
    (leaves_front (gate_lines c.args.events.now c.loop-n.n (map gate_of (drop c.loop-n.n c.args.gates.now)))
    (gate_lines c.args.events.now (c.loop-n.n + 1) (map gate_of (drop (c.loop-n.n + 1) c.args.gates.now)))
    c.loop-n.invariant
    (writes_as _ (gate_line c.args.events.now c.loop-n.n (gate_of c.index-gates-n.result)) refl
    (writes_front _ _ c.in_err-name.ensures))
    (next_item (λ (xs : List Gate). gate_lines c.args.events.now c.loop-n.n (map gate_of xs)) c.args.gates.now
    c.loop-n.n c.index-gates-n.result c.loop-n-test.true c.index-gates-n.is))

pub returns-in_err-write_text : goal.returns-in_err-write_text
returns-in_err-write_text g c =
    writes_exit _ _ c.from_residual-in_err-write_text.ensures.1
    (leaves_front (gate_lines c.args.events.now c.loop-n.n (map gate_of (drop c.loop-n.n c.args.gates.now)))
    (gate_lines c.args.events.now (c.loop-n.n + 1) (map gate_of (drop (c.loop-n.n + 1) c.args.gates.now)))
    c.loop-n.invariant
    (writes_as _ (gate_line c.args.events.now c.loop-n.n (gate_of c.index-gates-n.result)) refl
    (writes_on c.in_ok-name.ensures (writes_front _ _ c.in_err-write_text.ensures)))
    (next_item (λ (xs : List Gate). gate_lines c.args.events.now c.loop-n.n (map gate_of xs)) c.args.gates.now
    c.loop-n.n c.index-gates-n.result c.loop-n-test.true c.index-gates-n.is))

pub returns-in_err-operands : goal.returns-in_err-operands
returns-in_err-operands g c =
    writes_exit _ _ c.from_residual-in_err-operands.ensures.1
    (leaves_front (gate_lines c.args.events.now c.loop-n.n (map gate_of (drop c.loop-n.n c.args.gates.now)))
    (gate_lines c.args.events.now (c.loop-n.n + 1) (map gate_of (drop (c.loop-n.n + 1) c.args.gates.now)))
    c.loop-n.invariant
    (writes_as _ (gate_line c.args.events.now c.loop-n.n (gate_of c.index-gates-n.result)) refl
    (writes_on c.in_ok-name.ensures (writes_on c.in_ok-write_text.ensures (writes_front _ _ c.in_err-operands.ensures))))
    (next_item (λ (xs : List Gate). gate_lines c.args.events.now c.loop-n.n (map gate_of xs)) c.args.gates.now
    c.loop-n.n c.index-gates-n.result c.loop-n-test.true c.index-gates-n.is))

pub returns-in_err-write_text-2 : goal.returns-in_err-write_text-2
returns-in_err-write_text-2 g c =
    writes_exit _ _ c.from_residual-in_err-write_text-2.ensures.1
    (leaves_front (gate_lines c.args.events.now c.loop-n.n (map gate_of (drop c.loop-n.n c.args.gates.now)))
    (gate_lines c.args.events.now (c.loop-n.n + 1) (map gate_of (drop (c.loop-n.n + 1) c.args.gates.now)))
    c.loop-n.invariant
    (writes_as _ (gate_line c.args.events.now c.loop-n.n (gate_of c.index-gates-n.result)) refl
    (writes_on c.in_ok-name.ensures (writes_on c.in_ok-write_text.ensures (writes_on c.in_ok-operands.ensures c.in_err-write_text-2.ensures))))
    (next_item (λ (xs : List Gate). gate_lines c.args.events.now c.loop-n.n (map gate_of xs)) c.args.gates.now
    c.loop-n.n c.index-gates-n.result c.loop-n-test.true c.index-gates-n.is))

pub loop-n-preserved : goal.loop-n-preserved
loop-n-preserved g c =
    leaves_on (gate_lines c.args.events.now c.loop-n.n (map gate_of (drop c.loop-n.n c.args.gates.now)))
    (gate_lines c.args.events.now (c.loop-n.n + 1) (map gate_of (drop (c.loop-n.n + 1) c.args.gates.now)))
    c.loop-n.invariant
    (writes_as _ (gate_line c.args.events.now c.loop-n.n (gate_of c.index-gates-n.result)) refl
    (writes_on c.in_ok-name.ensures (writes_on c.in_ok-write_text.ensures (writes_on c.in_ok-operands.ensures c.in_ok-write_text-2.ensures))))
    (next_item (λ (xs : List Gate). gate_lines c.args.events.now c.loop-n.n (map gate_of xs)) c.args.gates.now
    c.loop-n.n c.index-gates-n.result c.loop-n-test.true c.index-gates-n.is)

pub returns : goal.returns
returns g c =
    leaves_none _ c.loop-n.invariant
    (no_item (λ (xs : List Gate). gate_lines c.args.events.now c.loop-n.n (map gate_of xs)) c.args.gates.now c.loop-n.n
    c.loop-n-test.false)
