use Rattle.std.proofs.Common.{◌≡◌, length, get_or, None, subst, ap, rules, arith}
use Rattle.std.specs.Map.{lookup}
use Rattle.ar_base.specs.Lists.{Stands}
use Rattle.ar_base.proofs.Standing.{along_back, along_length, stands_get}
use Rattle.unit_walks.specs.Forms.{same_pair}
use Rattle.unit_walks.specs.Settling.{AreChildrenTo}
use Rattle.unit_walks.specs.declared.growing.Node.{Node}
use Rattle.unit_walks.proofs.Listed.{units_apart}
use Rattle.unit_walks.proofs.Outcomes.{children_none, children_main, children_more, outline_none, outline_some}
use Rattle.unit_walks.proofs.settling.children_of.Goals as goal
use Rattle.unit_walks.proofs.settling.children_of.Goals.{in-Some+in_ok-insert, in_default}

pub loop-place-init : goal.loop-place-init
loop-place-init c = λ m units paths once are t. children_none units c.new-children.result
    (λ q. ap (lookup (same_pair q)) c.new-children.ensures.empty)

pub loop-place-preserved : goal.loop-place-preserved
loop-place-preserved c = λ m units paths once are t.
    let none : Node = record {
      unit = 0;
      outline = record {
        name = record { n = 0; of = record {} };
        owner = None;
        body = record { n = 0; of = record {} };
        set_at = None;
      };
    } in
    let at = along_back units c.args.nodes.now t c.loop-place.place _
    (stands_get c.args.nodes.now c.loop-place.place none c.loop-place-test.true) in
    let outline = (get_or c.args.nodes.now c.loop-place.place none).outline in
    let before = c.loop-place.invariant m units paths once are t in
    elim c.match-outline.branch [
      | in-Some+in_ok-insert w ↦
          let h = w.in_ok-insert.ensures.updates in
          let number : w.new.result.n ≡ c.loop-place.place = search (rules, w.new.ensures) in
          let v = outline_some units at.0 outline.owner outline.name w.in-Some.owner at.2.outline.owner
          at.2.outline.name w.in-Some.is in
          rw w.children-is (children_more units c.loop-place.place w.in-Some.owner.n outline.name.n w.new.result v.0 v.1
          c.loop-place.children w.insert.new.self (units_apart once are) number
          (subst (λ u. Stands units c.loop-place.place u) v.2 at.1) v.3 v.4 h.1 h.2 before)
      | in_default w ↦
          let e = outline_none units at.0 outline.owner at.2.outline.owner w.in_default.is in
          rw w.children-is (children_main units c.loop-place.place c.loop-place.children
          (subst (λ u. Stands units c.loop-place.place u) e at.1) before)
    ]

pub returns : goal.returns
returns c = λ m units paths once are t.
    let e = along_length units c.args.nodes.now t in
    let a = c.loop-place-test.false in
    let b = c.loop-place.auto.place-end in
    let same : c.loop-place.place ≡ length units = omega (arith, a, b, e) in
    subst (λ n. AreChildrenTo units n c.loop-place.children) same (c.loop-place.invariant m units paths once are t)
