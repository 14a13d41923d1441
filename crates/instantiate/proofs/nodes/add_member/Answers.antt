use Rattle.std.proofs.Common.{◌≡◌, ◌∷◌, [], ◌++◌, OnOk, List, sym, ◌∙◌, ap, subst}
use Rattle.std.proofs.lemmas.List.{append-nil}
use Rattle.ar_syntax.specs.declared.members.Member.{out-Member}
use Rattle.class_table.specs.TablesInside.{site_of}
use Rattle.hierarchy.specs.declared.tree.MemNode.{MemNode}
use Rattle.instantiate.proofs.Noded.{declared_nodes, declared_none, singles}
use Rattle.instantiate.proofs.nodes.add_member.Goals as goal

pub returns-then-declares : goal.returns-then-declares
unfolding out-Member denote.Hole.Carrier.out
returns-then-declares c = λ d holds known. rw c.in-Plain.is (rw c.in-Declare.is (
    let e = declared_nodes c.args.unit (site_of c.args.site) d c.in-Declare.field-2.items c.in-Declare.names.items
    c.args.listed c.in-Declare.type_name.form (sym (c.declares.ensures d holds known) ∙ c.if-declares.true) in
    subst (λ (ds : List MemNode). OnOk c.add_names.result (c.add_names.new.nodes.items ≡ c.args.nodes.now.items ++ ds))
    (sym e) (rw c.deref.ensures.value at c.add_names.ensures)))

pub returns-in-Declare : goal.returns-in-Declare
unfolding out-Member denote.Hole.Carrier.out
returns-in-Declare c = λ d holds known. rw c.in-Plain.is (rw c.in-Declare.is (
    let e = declared_none c.args.unit (site_of c.args.site) d c.in-Declare.field-2.items c.in-Declare.names.items
    c.args.listed c.in-Declare.type_name.form (sym (c.declares.ensures d holds known) ∙ c.if-declares.false) in
    sym (ap (λ (ds : List MemNode). c.args.nodes.now.items ++ ds) e ∙ append-nil c.args.nodes.now.items)))

pub returns-in_ok-push-in-Some : goal.returns-in_ok-push-in-Some
returns-in_ok-push-in-Some c = λ d holds known. rw c.in-Plain.is (
    let e = singles c.args.unit (site_of c.args.site) d c.args.listed (out-Member c.in-Plain.member) c.in-Some.name
    (sym c.in-Some.ensures) in
    c.in_ok-push-in-Some.ensures.items
    ∙ (ap (λ (n : MemNode). c.args.nodes.now.items ++ n ∷ []) c.node.ensures
    ∙ ap (λ (ds : List MemNode). c.args.nodes.now.items ++ ds) (sym e)))
