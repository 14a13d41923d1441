use Rattle.std.proofs.Common.{List, map, sym, ap, ◌∙◌, subst, arith}
use Rattle.std.proofs.lemmas.List.{take_all}
use Rattle.ar_base.proofs.Standing.{one_first}
use Rattle.class_table.specs.Listing.{InheritsMore}
use Rattle.class_table.specs.Members.{Inherits, nothing}
use Rattle.class_table.specs.TablesInside.{site_of}
use Rattle.class_table.specs.declared.tables.Owned.{Owned}
use Rattle.class_table.proofs.Taken.{item_stands, take_item, map_join}
use Rattle.class_table.proofs.Inheriting.{inherit_none, inherit_some, inherit_next}
use Rattle.class_table.proofs.Listed.{one_done}
use Rattle.class_table.proofs.members.inherited.Goals as goal
use Rattle.class_table.proofs.members.inherited.Goals.{in-Some+in_ok-extend_from_slice, in_default}

pub listed_of-requires : goal.listed_of-requires
listed_of-requires c =
    let s = item_stands c.args.own.now c.loop-owned.owned-index c.owned-item.result (omega arith) c.owned-item.is in
    let are = one_done c.requires.0 c.requires.1 _ c.loop-owned.owned-index _ s c.requires.3 in
    (c.requires.0, c.requires.1, c.requires.2, are.each c.owned-item.result _ (one_first _ _) (sym c.in-Some.ensures))

pub loop-owned-init : goal.loop-owned-init
loop-owned-init c = λ d done lists are. rw c.in_ok-all.ensures.items nothing

pub loop-owned-preserved : goal.loop-owned-preserved
loop-owned-preserved c = λ d done lists are.
    let e = take_item c.args.own.now c.loop-owned.owned-index c.owned-item.result (omega arith) c.owned-item.is in
    let s = item_stands c.args.own.now c.loop-owned.owned-index c.owned-item.result (omega arith) c.owned-item.is in
    let one = one_done d done _ c.loop-owned.owned-index _ s are in
    let more : InheritsMore d c.owned-item.result (map site_of c.loop-owned.all.items)
    (map site_of c.match-extended.all.items) =
    elim c.match-extended.branch [
      | in-Some+in_ok-extend_from_slice w ↦
          rw w.all-is (inherit_some d _ _ _ _ (sym w.in-Some.ensures) (record {
            sites = map site_of w.listed_of.result.now;
            of_class = w.listed_of.ensures d done lists (one.each c.owned-item.result _ (one_first _ _) (sym w.in-Some.ensures));
            joined = ap (map site_of) w.in_ok-extend_from_slice.ensures.items ∙ map_join site_of c.loop-owned.all.items _;
          }))
      | in_default w ↦ rw w.all-is (inherit_none d _ _ (sym w.in_default.ensures))
    ] in
    subst (λ (os : List Owned). Inherits d os (map site_of c.match-extended.all.items)) (sym e)
    (inherit_next d _ _ _ _ (c.loop-owned.invariant d done lists are) more)

pub returns : goal.returns
returns c = λ d done lists are.
    let e = take_all c.loop-owned.owned-index c.args.own.now (omega arith) in
    subst (λ (os : List Owned). Inherits d os (map site_of c.loop-owned.all.items)) e
    (c.loop-owned.invariant d done lists are)
