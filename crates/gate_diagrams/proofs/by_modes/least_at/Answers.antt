use Rattle.std.proofs.Common.{Ok, Err, map, ◌∙◌}
use Rattle.std.proofs.lemmas.Result.{err_from_is_err_and}
use Rattle.zdd_nodes.specs.Nodes.{family}
use Rattle.eq_core.specs.Views.{gate_of, operand_of}
use Rattle.gate_diagrams.proofs.ByModes.{minimal_is, minimal_as, minimal_copied, undrawn_drawn}
use Rattle.gate_diagrams.proofs.by_modes.least_at.Goals as goal

pub returns-in_err-least : goal.returns-in_err-least
returns-in_err-least c = λ forest b all l old o same.
    let p = err_from_is_err_and c.from_residual.result c.from_residual.ensures.1 in
    rw (p.1, p.2) (undrawn_drawn all old o c.args.ops.now c.in_err-least.field-0.0)

pub returns-in_err-copied : goal.returns-in_err-copied
returns-in_err-copied c = λ forest b all l old o same.
    let gates = map gate_of c.args.gates.now in
    let root = operand_of c.args.root in
    let f = family c.in_ok-least.least.store c.in_ok-least.least.root.n in
    let p = err_from_is_err_and c.from_residual-in_err-copied.result c.from_residual-in_err-copied.ensures.1 in
    rw (p.1, p.2) (minimal_copied all old o f
    (minimal_is c.args.order forest gates root f all (c.in_ok-least.ensures.are forest b) l
    ∙ minimal_as all gates root old o same) c.args.ops.now c.copied.new.ops
    (Err c.in_err-copied.field-0.0) c.in_err-copied.ensures.drawn)

pub returns : goal.returns
returns c = λ forest b all l old o same.
    let gates = map gate_of c.args.gates.now in
    let root = operand_of c.args.root in
    let f = family c.in_ok-least.least.store c.in_ok-least.least.root.n in
    minimal_copied all old o f
    (minimal_is c.args.order forest gates root f all (c.in_ok-least.ensures.are forest b) l
    ∙ minimal_as all gates root old o same) c.args.ops.now c.copied.new.ops
    (Ok c.in_ok-copied.field-0) c.in_ok-copied.ensures.drawn
