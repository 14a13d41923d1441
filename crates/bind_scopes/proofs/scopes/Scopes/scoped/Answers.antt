use Rattle.bind_scopes.proofs.NamedPaths.{scoped_names, none_named_in, some_named_in}
use Rattle.bind_scopes.proofs.scopes.Scopes.scoped.Goals as goal

pub returns-clause-none : goal.returns-clause-none
returns-clause-none c = λ m units u s are at is. none_named_in m units u c.args.path.now s c.narrowed.result _
    c.narrowed.ensures (scoped_names are c.args.unit.n u at c.args.scope s is c.args.path.now)

pub returns-clause-some : goal.returns-clause-some
returns-clause-some c = λ m units u s are at is. some_named_in m units u c.args.path.now s c.narrowed.result _
    c.narrowed.ensures (scoped_names are c.args.unit.n u at c.args.scope s is c.args.path.now)
