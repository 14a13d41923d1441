use Rattle.std.proofs.Common.{◌+◌, ◌<◌, [], length, ap, ◌∙◌, arith}
use Rattle.ar_base.proofs.Standing.{one_here}
use Rattle.class_table.proofs.Ordered.{Row, got_stands, in_room, released_state, sorted, order_fits}
use Rattle.class_table.proofs.order.Sorting.release_all.Goals as goal

pub loop-next-init : goal.loop-next-init
loop-next-init c = λ rows h. h

pub loop-next-preserved : goal.loop-next-preserved
loop-next-preserved c = λ rows h.
    let there : c.loop-next.next < length c.loop-next.self.order.items =
    omega (arith, c.if-next-len.false, c.len.ensures, c.loop-next.self.order.ok.0) in
    let at = got_stands c.loop-next.self.order.items c.loop-next.next _ _ there c.index.ensures in
    c.in_ok-settle_all.ensures rows (c.loop-next.next + 1)
    (released_state rows c.loop-next.self c.loop-next.next _ c.replace-waiting.new.dest _ c.deref.result.now
    (c.loop-next.invariant rows h) at
    (ap (λ (r : Row). r.items) c.replace-waiting.ensures.after ∙ c.new.ensures.items)
    (c.deref.ensures.value
    ∙ ap (λ (r : Row). r.items) (c.replace-waiting.ensures.value ∙ c.index_mut.ensures.value)))

pub index-requires : goal.index-requires
index-requires c = omega (arith, c.if-next-len.false, c.len.ensures, c.loop-next.self.order.ok.0)

pub index_mut-requires : goal.index_mut-requires
index_mut-requires c =
    let there : c.loop-next.next < length c.loop-next.self.order.items =
    omega (arith, c.if-next-len.false, c.len.ensures, c.loop-next.self.order.ok.0) in
    let at = got_stands c.loop-next.self.order.items c.loop-next.next _ _ there c.index.ensures in
    let l = in_room c.requires.rows c.loop-next.self c.loop-next.next [] (c.loop-next.invariant c.requires.rows c.requires.is) _
    (one_here c.loop-next.self.order.items c.loop-next.next _ at) in
    omega (arith, l, c.loop-next.self.waiting.ok.0)

pub settle_all-requires : goal.settle_all-requires
settle_all-requires c =
    let there : c.loop-next.next < length c.loop-next.self.order.items =
    omega (arith, c.if-next-len.false, c.len.ensures, c.loop-next.self.order.ok.0) in
    let at = got_stands c.loop-next.self.order.items c.loop-next.next _ _ there c.index.ensures in (
      c.loop-next.next + 1,
      record {
        rows = c.requires.rows;
        is = released_state c.requires.rows c.loop-next.self c.loop-next.next _ c.replace-waiting.new.dest _
            c.deref.result.now (c.loop-next.invariant c.requires.rows c.requires.is) at
            (ap (λ (r : Row). r.items) c.replace-waiting.ensures.after ∙ c.new.ensures.items)
            (c.deref.ensures.value
            ∙ ap (λ (r : Row). r.items) (c.replace-waiting.ensures.value ∙ c.index_mut.ensures.value));
      },
    )

pub returns-then-next-len : goal.returns-then-next-len
returns-then-next-len c = λ rows h. sorted rows c.loop-next.self c.loop-next.next
    (omega (arith, c.if-next-len.true, c.len.ensures, c.loop-next.self.order.ok.0)) (c.loop-next.invariant rows h)

pub returns : goal.returns
returns c = λ rows h.
    let k = c.loop-next.invariant rows h in
    let fits = order_fits rows _ _ _ k in
    sorted rows c.loop-next.self c.loop-next.next
    (omega (arith, fits, k.long_placed, h.long_placed, c.loop-next-test.false, c.len-next-end.ensures, c.args.self.now.placed.ok.0))
    k
