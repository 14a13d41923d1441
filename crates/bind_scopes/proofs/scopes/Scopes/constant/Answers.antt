use Rattle.std.proofs.Common.{◌∙◌, Some, None, true, false, sym}
use Rattle.bind_scopes.proofs.NamedPaths.{parameter_there, first_parameter, first_symbol}
use Rattle.bind_scopes.proofs.scopes.Scopes.constant.Goals as goal

pub returns-then-is_read : goal.returns-then-is_read
returns-then-is_read c =
    first_parameter c.args.self.now c.requires.scopes c.args.unit.n c.requires.in_range c.args.path.now c.in-Some.place
    true
    (parameter_there c.args.self.now c.requires.scopes c.args.unit.n c.requires.in_range c.args.path.now _
    (rw c.deref.ensures.value at c.in-Some.ensures))
    (sym c.is_read.ensures.value ∙ c.if-is_read.true)

pub returns-else-is_read : goal.returns-else-is_read
returns-else-is_read c =
    first_parameter c.args.self.now c.requires.scopes c.args.unit.n c.requires.in_range c.args.path.now c.in-Some.place
    false
    (parameter_there c.args.self.now c.requires.scopes c.args.unit.n c.requires.in_range c.args.path.now _
    (rw c.deref.ensures.value at c.in-Some.ensures))
    (sym c.is_read.ensures.value ∙ c.if-is_read.false)

pub returns-in-Some-symbol : goal.returns-in-Some-symbol
returns-in-Some-symbol c =
    first_symbol c.args.self.now c.requires.scopes c.args.unit.n c.requires.in_range c.args.path.now
    (Some c.in-Some-symbol.symbol)
    (parameter_there c.args.self.now c.requires.scopes c.args.unit.n c.requires.in_range c.args.path.now None
    (rw c.deref.ensures.value at c.in-None.ensures))
    c.in-Some-symbol.ensures

pub returns-in-None-symbol : goal.returns-in-None-symbol
returns-in-None-symbol c =
    first_symbol c.args.self.now c.requires.scopes c.args.unit.n c.requires.in_range c.args.path.now None
    (parameter_there c.args.self.now c.requires.scopes c.args.unit.n c.requires.in_range c.args.path.now None
    (rw c.deref.ensures.value at c.in-None.ensures))
    c.in-None-symbol.ensures
