use Rattle.std.proofs.Common.{sym, ap, ◌∙◌}
use Rattle.std.proofs.lemmas.Option.{slice_get_past}
use Rattle.ar_base.proofs.Standing.{stands_item}
use Rattle.flow_changes.specs.Restoring.{decoded_in}
use Rattle.flow_changes.proofs.restoring.value_at.Goals as goal

pub value_of-requires : goal.value_of-requires
value_of-requires c =
    let xs = c.args.parts.now.variables.items in
    let l = rw c.deref.ensures.value at c.in-Some.ensures.lookup.3.0 in
    let i = rw c.deref.ensures.value at c.in-Some.ensures.lookup.1 in
    (c.requires.variables c.args.variable.n c.in-Some.one.now
    (stands_item xs c.args.variable.n c.in-Some.one.now l i)).domain

pub returns-in-Some : goal.returns-in-Some
returns-in-Some c =
    let xs = c.args.parts.now.variables.items in
    let l = rw c.deref.ensures.value at c.in-Some.ensures.lookup.3.0 in
    let i = rw c.deref.ensures.value at c.in-Some.ensures.lookup.1 in
    let s = stands_item xs c.args.variable.n c.in-Some.one.now l i in
    c.value_of.ensures ∙ sym (ap (λ z. decoded_in z c.args.code) s)

pub returns-in-None : goal.returns-in-None
returns-in-None c =
    let xs = c.args.parts.now.variables.items in
    let l = rw c.deref.ensures.value at c.in-None.ensures.lookup.3 in
    sym (ap (λ z. decoded_in z c.args.code) (slice_get_past xs c.args.variable.n l))
