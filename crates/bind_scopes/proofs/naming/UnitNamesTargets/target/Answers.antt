use Rattle.std.proofs.Common.{◌∙◌, None, Some, Bool, not, sym, ap}
use Rattle.std.proofs.lemmas.Option.{slice_get_past}
use Rattle.class_table.proofs.Taken.{item_stands}
use Rattle.bind_scopes.specs.Naming.{sort_of}
use Rattle.bind_scopes.specs.declared.naming.Sort.{Sort}
use Rattle.bind_scopes.proofs.Kinding.{sort_found, sort_read}
use Rattle.bind_scopes.proofs.naming.UnitNamesTargets.target.Goals as goal

pub returns-in_err-variable : goal.returns-in_err-variable
returns-in_err-variable c = c.from_residual.ensures
    ∙ sort_found c.args.self.now c.requires c.args.path.now None (rw c.deref.ensures.value at c.in_err-variable.ensures)

pub returns-in_err-node : goal.returns-in_err-node
returns-in_err-node c =
    let l = rw c.deref-2.ensures.value at c.in_err-node.ensures.lookup.3 in
    c.from_residual-in_err-node.ensures
    ∙ (sort_read c.args.self.now.scopes.now.tree.now c.args.self.now.sort c.in_ok-variable.variable.n None
    (slice_get_past _ _ l)
    ∙ sort_found c.args.self.now c.requires c.args.path.now (Some c.in_ok-variable.variable.n)
    (rw c.deref.ensures.value at c.in_ok-variable.ensures))

pub returns-in-States : goal.returns-in-States
returns-in-States c =
    let tree = c.args.self.now.scopes.now.tree.now in
    let l = rw c.deref-2.ensures.value at c.in_ok-node.ensures.lookup.3.0 in
    let e = rw c.deref-2.ensures.value at c.in_ok-node.ensures.lookup.1 in
    let s = item_stands tree.variables.items c.in_ok-variable.variable.n c.in_ok-node.node.now l e in
    ap (λ (s : Sort). Some (sort_of tree s c.in_ok-node.node.now)) (sym c.in-States.is)
    ∙ (sort_read tree c.args.self.now.sort c.in_ok-variable.variable.n (Some c.in_ok-node.node.now) s
    ∙ sort_found c.args.self.now c.requires c.args.path.now (Some c.in_ok-variable.variable.n)
    (rw c.deref.ensures.value at c.in_ok-variable.ensures))

pub returns-in-Flows : goal.returns-in-Flows
returns-in-Flows c =
    let tree = c.args.self.now.scopes.now.tree.now in
    let l = rw c.deref-2.ensures.value at c.in_ok-node.ensures.lookup.3.0 in
    let e = rw c.deref-2.ensures.value at c.in_ok-node.ensures.lookup.1 in
    let s = item_stands tree.variables.items c.in_ok-variable.variable.n c.in_ok-node.node.now l e in
    ap (λ (b : Bool). Some (not b)) c.is_flow_at.ensures
    ∙ ap (λ (s : Sort). Some (sort_of tree s c.in_ok-node.node.now)) (sym c.in-Flows.is)
    ∙ (sort_read tree c.args.self.now.sort c.in_ok-variable.variable.n (Some c.in_ok-node.node.now) s
    ∙ sort_found c.args.self.now c.requires c.args.path.now (Some c.in_ok-variable.variable.n)
    (rw c.deref.ensures.value at c.in_ok-variable.ensures))
