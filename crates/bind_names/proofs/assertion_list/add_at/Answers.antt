use Rattle.std.proofs.Common.{List, ap}
use Rattle.std.specs.List.{flat_map}
use Rattle.class_table.specs.Declaring.{MemberForm}
use Rattle.class_table.specs.Members.{owned_at}
use Rattle.class_table.specs.TablesInside.{site_of}
use Rattle.ar_syntax.specs.declared.members.Member.TheOpen as member
use Rattle.hierarchy.specs.Listing.{all_in, asserted, form_of}
use Rattle.bind_names.proofs.Asserted.{adds_none, adds_one, form_asserted, none_asserted, site_member}
use Rattle.bind_names.proofs.assertion_list.add_at.Goals as goal

pub returns-in-None : goal.returns-in-None
returns-in-None c = λ m units u st at one.
    let e = rw c.deref.ensures.value at (c.in-None.ensures m.declared) in
    let owned = owned_at m.declared (site_of c.args.site) in
    adds_none m units c.args.scopes.now.tree.now (all_in u (flat_map asserted (form_of owned))) c.args.acts.now.items
    (ap (all_in u) (none_asserted owned (e st.are.is_tree.table.table.holds.bodies)))

pub returns-in_ok-push-in-Some : goal.returns-in_ok-push-in-Some
returns-in_ok-push-in-Some c = λ m units u st at one.
    let e = rw c.deref.ensures.value at (c.in-Some.ensures m.declared) in
    let owned = owned_at m.declared (site_of c.args.site) in
    let instr = c.in-Some.instr.now in
    let form = form_asserted owned instr (e st.are.is_tree.table.table.holds.bodies) in
    let here = site_member m u (site_of c.args.site) (member.Assert instr) form one in
    adds_one m units c.args.scopes.now.tree.now (all_in u (flat_map asserted (form_of owned)))
    (record { unit = u; item = instr }) c.in_ok-act-in-Some.act c.args.acts.now.items c.push.new.self.items
    (ap (λ (fs : List MemberForm). all_in u (flat_map asserted fs)) form)
    (record {
      bound = c.in_ok-act-in-Some.ensures.bound m units u st at here;
      sound = c.in_ok-act-in-Some.ensures.sound m units u st at here;
    }) c.in_ok-push-in-Some.ensures.items
