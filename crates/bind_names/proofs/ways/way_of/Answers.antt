use Rattle.std.proofs.Common.{refl, subst}
use Rattle.ar_base.specs.Lists.{IsOneOf}
use Rattle.ar_base.proofs.Standing.{one_here}
use Rattle.ar_syntax.specs.declared.members.Member.{Member, out-Member}
use Rattle.ar_syntax.specs.declared.members.Part.{Part}
use Rattle.hierarchy.specs.Listing.{forms_at}
use Rattle.typed_expr.specs.declared.expr.ValueKind.TheVariants.{Truth}
use Rattle.source_meaning.specs.Tested.{guard}
use Rattle.bind_names.proofs.Wayed.{bound_local, bound_sync, parts_named}
use Rattle.bind_names.proofs.ways.way_of.Goals as goal

pub returns-in_ok-bound-in-Sync : goal.returns-in_ok-bound-in-Sync
unfolding out-Member denote.Hole.Carrier.out
returns-in_ok-bound-in-Sync c = λ m units u st at o.
    let x = c.in-Sync.name in
    let parts = c.in-Sync.parts in
    let here = subst (λ (w : Member). IsOneOf (forms_at m u) (out-Member w)) c.in-Sync.is o in
    let each = λ (p : Part) (i : IsOneOf parts.items p). parts_named st c.args.unit.n u at x c.in-Sync.at parts here p i in
    rw c.in-Sync.is (
      λ y. refl,
      bound_sync m units c.args.scopes.now.tree.now u x c.in-Sync.at parts c.in_ok-bound-in-Sync.bound st.are.is_tree
          (rw c.deref.ensures.value at (c.in_ok-bound-in-Sync.ensures m units u st.are.is_tree at) each),
    )

pub returns-in_ok-act-in-Local : goal.returns-in_ok-act-in-Local
unfolding out-Member denote.Hole.Carrier.out
returns-in_ok-act-in-Local c = λ m units u st at o.
    let x = c.in-Local.name in
    let place = c.in-Local.field-1 in
    let test = c.in-Local.guard in
    let act = c.in-Local.action in
    let here = subst (λ (w : Member). IsOneOf (forms_at m u) (out-Member w)) c.in-Local.is o in
    let tested = guard x place act (one_here units c.args.unit.n u at) here in
    rw c.in-Local.is (
      λ y. refl,
      bound_local m units c.args.scopes.now.tree.now u x place test act c.in_ok-test-in-Local.test
          c.in_ok-act-in-Local.act (c.in_ok-test-in-Local.ensures.bound m units u Truth st at tested)
          (c.in_ok-test-in-Local.ensures.typed m units u Truth st at tested)
          (c.in_ok-act-in-Local.ensures.bound m units u x place test st at here)
          (c.in_ok-act-in-Local.ensures.sound m units u x place test st at here),
    )
