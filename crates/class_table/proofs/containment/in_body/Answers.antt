use Rattle.std.proofs.Common.{List, ap, ◌∙◌, sym, subst}
use Rattle.ar_base.specs.Lists.{IsOneOf}
use Rattle.ar_base.proofs.Standing.{stands_get, stands_one, one_here}
use Rattle.class_table.specs.Earliest.{FindsBeside, kept}
use Rattle.class_table.specs.Shown.{NamesAgain}
use Rattle.class_table.specs.declared.tables.Body.{Body}
use Rattle.class_table.specs.declared.tables.Owned.{Owned}
use Rattle.class_table.proofs.Beside.{finds_start, finds_next, finds_end, finds_round, finds_no_round}
use Rattle.class_table.proofs.Enclosing.{again_to, again_back}
use Rattle.class_table.proofs.OwnAt.{own_shown}
use Rattle.class_table.proofs.Taken.{item_stands}
use Rattle.ar_base.proofs.Truths.{not_both}
use Rattle.class_table.proofs.containment.in_body.Goals as goal
use Rattle.class_table.proofs.containment.in_body.Goals.{in-Some+in_ok-reaches+then-branch, in-Some+in_ok-reaches+else-branch, in_default}

pub loop-owned-init : goal.loop-owned-init
loop-owned-init c = λ d rows known inner are own. finds_start _ _ _

pub loop-owned-preserved : goal.loop-owned-preserved
loop-owned-preserved c = λ d rows known inner are own.
    let items = c.deref-owned-items.result.now in
    let s = item_stands items c.loop-owned.owned-index c.owned-item.result c.loop-owned-test.true c.owned-item.is in
    let h = c.loop-owned.invariant d rows known inner are own in
    elim c.match-to_search.branch [
      | in-Some+in_ok-reaches+then-branch w ↦
          let f = w.in-Some.ensures.some d known.known in
          rw w.first-is (finds_next _ _ _ _ _ _ _ s h (finds_round d c.args.body c.owned-item.result w.in-Some.class w.in-Some.at
          c.loop-owned.first f.0 f.1 ((w.in_ok-reaches.ensures d known).0 w.if-branch.true)))
      | in-Some+in_ok-reaches+else-branch w ↦
          let f = w.in-Some.ensures.some d known.known in
          rw w.first-is (finds_next _ _ _ _ _ _ _ s h (finds_no_round d c.args.body c.owned-item.result w.in-Some.class
          w.in-Some.at c.loop-owned.first f.0 (λ i. not_both _ w.if-branch.false ((w.in_ok-reaches.ensures d known).1 i))))
      | in_default w ↦
          rw w.first-is (finds_next _ _ _ _ _ _ _ s h (kept (w.in_default.ensures.none d rows known.known inner are
          (own c.owned-item.result (one_here items c.loop-owned.owned-index c.owned-item.result s)))))
    ]

pub returns : goal.returns
returns c = λ d rows b known inner are s.
    let same = stands_one c.args.bodies.now c.args.body _ b
    (stands_get c.args.bodies.now c.args.body c.index-bodies-body.result c.requires) s in
    let e = c.deref-owned-items.ensures.value ∙ ap (λ (z : Body). z.own.items) same in
    let own = own_shown d c.args.bodies.now known.as_text c.args.body b s in
    let h = c.loop-owned.invariant d rows known inner are
    (λ o i. subst (λ (os : List Owned). IsOneOf os o) (e ∙ sym own) i) in
    subst (λ (os : List Owned). FindsBeside (NamesAgain d c.args.body os) c.args.found c.loop-owned.first) e
    (finds_end _ _ _ _ _ _ c.loop-owned-test.false (again_to d c.args.body _) (again_back d c.args.body _) h)
