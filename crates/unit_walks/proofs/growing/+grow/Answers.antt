use Rattle.std.proofs.Common.{[], refl, sym, ◌∙◌, arith}
use Rattle.std.proofs.lemmas.Result.{err_from_is_err_and}
use Rattle.class_table.proofs.MemberNames.{none_of}
use Rattle.hierarchy.specs.Units.{names_at}
use Rattle.unit_walks.specs.Forms.{only_units}
use Rattle.unit_walks.specs.declared.growing.Node.{Node}
use Rattle.unit_walks.proofs.TableSteps.{met_there, unit_there}
use Rattle.unit_walks.proofs.Running.{on_ok}
use Rattle.unit_walks.proofs.Fronts.{fronts_none, fronts_passed, fronts_grown, fronts_over, fronts_all, unit_grown, unit_many, unit_deep, unit_over, name_there, names_length, made_depth, outline_of, if_limit}
use Rattle.unit_walks.proofs.growing.+grow.Goals.{grow_insides-in-None, grow_insides-in-Some-2+in_ok-grow_unit-in-Some-2}
use Rattle.unit_walks.proofs.growing.+grow.Goals as goal

pub grow_insides-loop-named-init : goal.grow_insides-loop-named-init
grow_insides-loop-named-init t c = record {
  small = c.requires;
  fronts = λ m u f k p b d. fronts_none m c.args.table.now c.args.nodes.now.items u c.args.at.n
      (only_units (names_at m u)) k;
}

pub grow_insides-returns-in_err-grow_unit-in-Some-2-clause-limit : goal.grow_insides-returns-in_err-grow_unit-in-Some-2-clause-limit
grow_insides-returns-in_err-grow_unit-in-Some-2-clause-limit t c = λ m u f k p b d.
    let q = err_from_is_err_and c.from_residual-in_err-grow_unit-in-Some-2.result
    c.from_residual-in_err-grow_unit-in-Some-2.ensures.1 in
    let i = c.loop-named.invariant.fronts m u f k p b d in
    let n = name_there m c.args.forms.now u c.args.node.outline.body.n c.in-Some.names.now c.loop-named.named-index
    c.named-item.result f b c.in-Some.ensures c.loop-named-test.true c.named-item.is in
    let made = c.in_ok-made.ensures m u n.member f i.run.table (i.run.extends.units c.args.node.unit u p) n.is_name
    n.kind in
    rw (q.1, q.2) (fronts_over m c.in_err-grow_unit-in-Some-2.field-0.0 c.args.table.now c.loop-named.table
    c.made.new.table c.args.nodes.now.items c.loop-named.nodes.items u c.args.at c.loop-named.named-index
    c.in-Some-2.inner n.member
    c.in_ok-made.field-0 n.stands made c.in-Some-2.is
    (λ v z x. c.in_err-grow_unit-in-Some-2.ensures.limit m v f made.run.table z
    (made_depth m u v n.member c.args.room x d)) i)

pub grow_insides-loop-named-preserved : goal.grow_insides-loop-named-preserved
grow_insides-loop-named-preserved t c = elim c.match-branch-2.branch [
  | grow_insides-in-None w ↦ rw (w.table-is, w.nodes-is) (record {
    small = c.loop-named.invariant.small;
    fronts = λ m u f k p b d.
        let i = c.loop-named.invariant.fronts m u f k p b d in
        let n = name_there m c.args.forms.now u c.args.node.outline.body.n c.in-Some.names.now c.loop-named.named-index
        c.named-item.result f b c.in-Some.ensures c.loop-named-test.true c.named-item.is in
        let made = c.in_ok-made.ensures m u n.member f i.run.table (i.run.extends.units c.args.node.unit u p) n.is_name
        n.kind in
        fronts_passed m c.args.table.now c.loop-named.table c.made.new.table c.args.nodes.now.items
        c.loop-named.nodes.items u c.args.at.n (only_units (names_at m u)) c.loop-named.named-index n.member
        c.in_ok-made.field-0
        n.stands made w.in-None.is i;
  })
  | grow_insides-in-Some-2+in_ok-grow_unit-in-Some-2 w ↦ rw (w.table-is, w.nodes-is) (record {
    small = w.in_ok-grow_unit-in-Some-2.ensures.small;
    fronts = λ m u f k p b d.
        let i = c.loop-named.invariant.fronts m u f k p b d in
        let n = name_there m c.args.forms.now u c.args.node.outline.body.n c.in-Some.names.now c.loop-named.named-index
        c.named-item.result f b c.in-Some.ensures c.loop-named-test.true c.named-item.is in
        let made = c.in_ok-made.ensures m u n.member f i.run.table (i.run.extends.units c.args.node.unit u p) n.is_name
        n.kind in
        fronts_grown m c.args.table.now c.loop-named.table c.made.new.table w.grow_unit.new.table c.args.nodes.now.items
        c.loop-named.nodes.items w.grow_unit.new.nodes.items u c.args.at (only_units (names_at m u))
        c.loop-named.named-index
        w.in-Some-2.inner n.member c.in_ok-made.field-0 n.stands made w.in-Some-2.is
        (λ v z x. w.in_ok-grow_unit-in-Some-2.ensures.ok m v f made.run.table z
        (made_depth m u v n.member c.args.room x d)) i;
  })
]

pub grow_insides-returns-clause-ok : goal.grow_insides-returns-clause-ok
grow_insides-returns-clause-ok t c = λ m u f k p b d.
    let e = names_length m c.args.forms.now u c.args.node.outline.body.n c.in-Some.names.now f b c.in-Some.ensures in
    let z = c.loop-named-test.false in
    fronts_all m c.args.table.now c.loop-named.table c.args.nodes.now.items c.loop-named.nodes.items u c.args.at.n
    c.loop-named.named-index (omega (arith, e, z)) (c.loop-named.invariant.fronts m u f k p b d)

pub grow_unit-returns-then-room-eq0-clause-limit : goal.grow_unit-returns-then-room-eq0-clause-limit
grow_unit-returns-then-room-eq0-clause-limit t c = λ m u f k p d. unit_deep m u c.args.owner c.args.nodes.now.items c.requires (let e = c.if-room-eq0.true in omega (arith, e, d))

pub grow_unit-returns-then-at-ge16384-clause-limit : goal.grow_unit-returns-then-at-ge16384-clause-limit
grow_unit-returns-then-at-ge16384-clause-limit t c = λ m u f k p d. unit_many m u c.args.owner c.args.nodes.now.items (let h = c.requires in let e = c.len-at.ensures ∙ c.args.nodes.now.ok.0 in let z = c.if-at-ge16384.true in omega (arith, h, e, z))
    (let z = c.if-room-eq0.false in omega (arith, d, z))

pub grow_insides-returns-in_default-clause-ok : goal.grow_insides-returns-in_default-clause-ok
grow_insides-returns-in_default-clause-ok t c = λ m u f k p b d.
    let none = none_of c.list.result c.in_default.not-Some in
    let e = names_length m c.args.forms.now u c.args.node.outline.body.n [] f b (rw none at c.list.ensures) in
    fronts_all m c.args.table.now c.args.table.now c.args.nodes.now.items c.args.nodes.now.items u c.args.at.n
    0 (omega (arith, e))
    (fronts_none m c.args.table.now c.args.nodes.now.items u c.args.at.n (only_units (names_at m u)) k)

pub grow_unit-returns-in_default-clause-ok : goal.grow_unit-returns-in_default-clause-ok
grow_unit-returns-in_default-clause-ok t c = λ m u f k p d. absurd (unit_there m [] c.args.table.now k c.args.unit u p
    (sym (none_of c.unit.result c.in_default.not-Some) ∙ c.unit.ensures))

pub grow_unit-returns-clause-ok : goal.grow_unit-returns-clause-ok
grow_unit-returns-clause-ok t c = λ m u f k p d.
    let met = met_there m [] c.args.table.now k c.args.unit u c.in-Some.met p c.in-Some.ensures in
    let node : Node = record {
      unit = c.args.unit;
      outline = record {
        name = c.in-Some.met.name;
        owner = c.args.owner;
        body = c.in-Some.met.body;
        set_at = c.in-Some.met.set_at;
      };
    } in
    let z = c.if-room-eq0.false in
    on_ok c.grow_insides.result (λ w. unit_grown m c.args.table.now c.grow_insides.new.table u c.args.nodes.now.items
    c.push_node.new.nodes.items c.grow_insides.new.nodes.items node c.new.result.n c.in_ok-push_node.ensures
    (c.new.ensures ∙ c.len-at.ensures ∙ c.args.nodes.now.ok.0) (omega (arith, d, z))
    (λ before o. outline_of m c.args.table.now c.args.unit u c.in-Some.met node before k p c.in-Some.ensures refl
    refl refl o) p w)
    (c.grow_insides.ensures.ok m u f k p (sym met.body) (omega (arith, d, z)))

pub grow_unit-returns-clause-limit : goal.grow_unit-returns-clause-limit
grow_unit-returns-clause-limit t c = λ m u f k p d.
    let met = met_there m [] c.args.table.now k c.args.unit u c.in-Some.met p c.in-Some.ensures in
    let node : Node = record {
      unit = c.args.unit;
      outline = record {
        name = c.in-Some.met.name;
        owner = c.args.owner;
        body = c.in-Some.met.body;
        set_at = c.in-Some.met.set_at;
      };
    } in
    let z = c.if-room-eq0.false in
    if_limit c.grow_insides.result (λ e w. unit_over m e u c.args.owner c.args.nodes.now.items
    c.push_node.new.nodes.items node c.new.result.n c.in_ok-push_node.ensures
    (c.new.ensures ∙ c.len-at.ensures ∙ c.args.nodes.now.ok.0) (omega (arith, d, z)) w)
    (c.grow_insides.ensures.limit m u f k p (sym met.body) (omega (arith, d, z)))
