use Rattle.std.proofs.Common.{◌≡◌, ◌+◌, ◌∙◌, true, false, Bool, List, sym, ap, subst, arith, get_or}
use Rattle.ar_base.proofs.Standing.{stands_get}
use Rattle.way_flags.specs.Parts.{flag_at}
use Rattle.way_flags.specs.Ways.{IsPlacing, KeepsMarks, ArePartsPlaced}
use Rattle.way_flags.specs.declared.order.Placing.{Placing}
use Rattle.way_flags.proofs.Heights.{part_low}
use Rattle.way_flags.proofs.Placing.{placed_more, keeps_on, keeps_same, each_set}
use Rattle.way_flags.proofs.order.+place.Goals as goal
use Rattle.way_flags.proofs.order.+place.Goals.{place_parts-then-not-is_set+in_ok-place, place_parts-else-not-is_set}

pub place_parts-place-requires : goal.place_parts-place-requires
place_parts-place-requires t c =
    let d = c.requires.deep in
    let tree = part_low c.args.parts.now c.args.ways.now d.0 c.args.left c.loop-way.way-index _ d.1 d.2
    (stands_get c.args.ways.now c.loop-way.way-index _ c.loop-way-test.true) in
    (omega arith, (tree, c.loop-way.invariant.0))

pub place_parts-loop-way-preserved : goal.place_parts-loop-way-preserved
place_parts-loop-way-preserved t c =
    let ways = c.args.ways.now in
    let i = c.loop-way.way-index in
    let mid = c.loop-way.placing.placed.items in
    let first = c.args.placing.now.placed.items in
    elim c.if-not-is_set.branch [
      | place_parts-then-not-is_set+in_ok-place w ↦
          (let new = w.place.new.placing.placed.items in
          let e = w.in_ok-place.ensures in
          subst (λ (z : Placing). IsPlacing c.args.parts.now z.order.items z.placed.items × KeepsMarks first z.placed.items
          × ArePartsPlaced z.placed.items ways (i + 1)) (sym w.placing-is) (
            e.order,
            keeps_on first mid new c.loop-way.invariant.1 e.keeps,
            placed_more first mid new ways i _
                (stands_get ways i _ c.loop-way-test.true) e.keeps e.placed c.loop-way.invariant.2,
          ))
      | place_parts-else-not-is_set w ↦
          (let set : flag_at mid (get_or ways i (false, record { n = 0; of = record {} })).1.n ≡ true = ap (λ (z : List Bool). flag_at z (get_or ways i (false, record { n = 0; of = record {} })).1.n) (sym c.deref.ensures.value) ∙ sym c.is_set.ensures ∙ w.if-not-is_set.false in
          subst (λ (z : Placing). IsPlacing c.args.parts.now z.order.items z.placed.items × KeepsMarks first z.placed.items
          × ArePartsPlaced z.placed.items ways (i + 1)) (sym w.placing-is) (
            c.loop-way.invariant.0,
            c.loop-way.invariant.1,
            placed_more first mid mid ways i _
                (stands_get ways i _ c.loop-way-test.true) (keeps_same mid) set c.loop-way.invariant.2,
          ))
    ]

pub place_parts-returns-clause-placed : goal.place_parts-returns-clause-placed
place_parts-returns-clause-placed t c =
    each_set c.loop-way.placing.placed.items c.args.ways.now c.loop-way.way-index (omega arith) c.loop-way.invariant.2
