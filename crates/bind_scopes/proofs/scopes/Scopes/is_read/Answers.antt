use Rattle.std.proofs.Common.{◌≡◌, Some, None, slice_get, refl}
use Rattle.std.proofs.lemmas.Option.{slice_get_past}
use Rattle.class_table.proofs.Taken.{item_stands}
use Rattle.bind_scopes.proofs.NamedPaths.{read_valued}
use Rattle.bind_scopes.proofs.scopes.Scopes.is_read.Goals as goal

pub returns-in-Some-clause-value : goal.returns-in-Some-clause-value
returns-in-Some-clause-value c =
    let there : slice_get c.args.self.now.tree.now.parameters.items c.args.place ≡ Some c.in-Some.node.now =
    rw c.deref.ensures.value at (item_stands c.deref.result.now c.args.place c.in-Some.node.now
    c.in-Some.ensures.lookup.3.0 c.in-Some.ensures.lookup.1) in
    rw there c.is_read.ensures

pub returns-in-Some-clause-valued : goal.returns-in-Some-clause-valued
returns-in-Some-clause-valued c = λ m units t are st. read_valued are c.args.place t st c.is_read.result
    (returns-in-Some-clause-value c)

pub returns-in-None-clause-value : goal.returns-in-None-clause-value
returns-in-None-clause-value c =
    let past : slice_get c.args.self.now.tree.now.parameters.items c.args.place ≡ None =
    rw c.deref.ensures.value at (slice_get_past c.deref.result.now c.args.place c.in-None.ensures.lookup.3) in
    rw past refl

pub returns-in-None-clause-valued : goal.returns-in-None-clause-valued
returns-in-None-clause-valued c = λ m units t are st. read_valued are c.args.place t st _
    (returns-in-None-clause-value c)
