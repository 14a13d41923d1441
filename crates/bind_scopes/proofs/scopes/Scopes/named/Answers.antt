use Rattle.std.proofs.Common.{Option, ◌∙◌, sym, subst}
use Rattle.bind_scopes.specs.Scopes.{IsNamedIn}
use Rattle.bind_scopes.specs.declared.scopes.Named.{Named}
use Rattle.bind_scopes.proofs.NamedPaths.{variable_there, first_variable, first_constant, names_right}
use Rattle.bind_scopes.proofs.scopes.Scopes.named.Goals as goal

pub returns-in-Some-clause-value : goal.returns-in-Some-clause-value
returns-in-Some-clause-value c =
    first_variable c.args.self.now c.requires.scopes c.args.unit.n c.requires.in_range c.args.path.now
    c.in-Some.variable.n
    (variable_there c.args.self.now c.requires.scopes c.args.unit.n c.requires.in_range c.args.path.now _
    (rw c.deref.ensures.value at c.in-Some.ensures))

pub returns-in-Some-clause-names : goal.returns-in-Some-clause-names
returns-in-Some-clause-names c = λ m units u are at.
    subst (λ (r : Option Named). IsNamedIn m units u c.args.path.now r) (sym (returns-in-Some-clause-value c))
    (names_right are c.args.unit.n u at c.args.path.now)

pub returns-in-None-clause-value : goal.returns-in-None-clause-value
returns-in-None-clause-value c =
    c.constant.ensures
    ∙ first_constant c.args.self.now c.requires.scopes c.args.unit.n c.requires.in_range c.args.path.now
    (variable_there c.args.self.now c.requires.scopes c.args.unit.n c.requires.in_range c.args.path.now _
    (rw c.deref.ensures.value at c.in-None.ensures))

pub returns-in-None-clause-names : goal.returns-in-None-clause-names
returns-in-None-clause-names c = λ m units u are at.
    subst (λ (r : Option Named). IsNamedIn m units u c.args.path.now r) (sym (returns-in-None-clause-value c))
    (names_right are c.args.unit.n u at c.args.path.now)
