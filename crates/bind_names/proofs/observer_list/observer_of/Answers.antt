use Rattle.std.proofs.Common.{sym}
use Rattle.source_meaning.specs.Tested.{observer}
use Rattle.bind_names.proofs.Valued.{observer_is}
use Rattle.bind_names.proofs.Observed.{listed_observer, bound_observer, node_declared, node_kind}
use Rattle.bind_names.proofs.observer_list.observer_of.Goals as goal

pub returns : goal.returns
returns c = λ m units t st pre is one.
    let tied = st.are.is_tree in
    let form = c.in-Some.form in
    let written = c.in-Some.written.now in
    let e = observer_is m units t c.args.node.now is (listed_observer m units t tied.table.kept one) form written
    (c.in-Some.ensures m.declared tied.table.table.holds.bodies) in
    let kind = c.in-Some-kind_of_type.ensures m units st.are in
    let tested = observer t form one e (sym kind) in
    bound_observer m units c.args.scopes.now.tree.now t _ form written e kind
    (c.in_ok-value.ensures.bound m units t.unit c.in-Some-kind_of_type.kind st is.node.unit tested)
    (c.in_ok-value.ensures.typed m units t.unit c.in-Some-kind_of_type.kind st is.node.unit tested)
    (c.in_ok-path.ensures m units t is.given tied pre is.node)

pub unreachable-requires : goal.unreachable-requires
unreachable-requires c =
    let h = c.requires.scopes in
    let tied = h.are.is_tree in
    node_declared h.model h.units c.args.scopes.now.tree.now tied c.args.node.now c.requires.listed
    (c.in_default.ensures h.model.declared tied.table.table.holds.bodies)

pub unreachable-requires-in_default-kind_of_type : goal.unreachable-requires-in_default-kind_of_type
unreachable-requires-in_default-kind_of_type c =
    let h = c.requires.scopes in
    let tied = h.are.is_tree in
    node_kind h.model h.units c.args.scopes.now.tree.now tied c.args.node.now c.in-Some.form c.in-Some.written.now
    (c.in-Some.ensures h.model.declared tied.table.table.holds.bodies)
    (c.in_default-kind_of_type.ensures h.model h.units h.are)
