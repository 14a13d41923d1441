use Rattle.std.proofs.Common.{[], ◌∷◌, subst}
use Rattle.std.proofs.lemmas.Result.{on_ok_weaker}
use Rattle.ar_base.proofs.Standing.{one_first}
use Rattle.ar_syntax.specs.declared.members.Member.{out-Member}
use Rattle.bind_names.specs.Gathering.{IsNamedWay}
use Rattle.bind_names.proofs.Gathered.{members_idle, members_named, members_unnamed, no_way}
use Rattle.bind_names.proofs.gathering.add.Goals as goal

pub returns-in_default : goal.returns-in_default
returns-in_default c = λ m units u st at mem.
    let f = out-Member c.args.member.now in
    let tree = c.args.scopes.now.tree.now in
    let none = subst (IsNamedWay m units tree u f) c.in_default.is
    (c.in_ok-name.ensures m units u st at (mem f (one_first f []))) in
    members_idle m units tree u (f ∷ []) c.args.events.now.items
    (λ n t s q. no_way m units tree t.name f (none t.name))

pub returns-in-None : goal.returns-in-None
returns-in-None c = λ m units u st at mem.
    let f = out-Member c.args.member.now in
    let tree = c.args.scopes.now.tree.now in
    let named = subst (IsNamedWay m units tree u f) c.in-Some.is
    (c.in_ok-name.ensures m units u st at (mem f (one_first f []))) in
    members_unnamed m units tree st.are.is_tree u f c.in-Some.name.n
    c.args.events.now.items (c.in-None.ensures m units u st.are.is_tree at) named.0

pub returns-in-Some-event_at : goal.returns-in-Some-event_at
returns-in-Some-event_at c = λ m units u st at mem.
    let f = out-Member c.args.member.now in
    let tree = c.args.scopes.now.tree.now in
    let found = c.in-Some-event_at.ensures m units u st.are.is_tree at in
    let named = subst (IsNamedWay m units tree u f) c.in-Some.is
    (c.in_ok-name.ensures m units u st at (mem f (one_first f []))) in
    on_ok_weaker c.put.result
    (λ p. members_named m units tree st.are.is_tree u f c.in-Some.name.n
    c.in-Some.way c.in-Some-event_at.event.n c.args.events.now.items c.put.new.events.items
    found.0 found.1 found.2 named.0 named.1 p)
    c.put.ensures
