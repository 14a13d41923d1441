use Rattle.std.proofs.Common.{ℕ, ◌<◌, ◌⊎◌, ◌++◌, ◌∷◌, [], Bool, true, List, Vec, Global, length, refl, sym, ap, ◌∙◌, subst, arith}
use Rattle.std.proofs.lemmas.Result.{on_ok_weaker}
use Rattle.ar_base.specs.Lists.{Stands, IsOneOf}
use Rattle.ar_base.proofs.Standing.{one_first}
use Rattle.class_table.specs.Rows.{IsInRow}
use Rattle.class_table.proofs.Ordered.{Row, AreTrimmed, got_row, row_got, trimmed_set, waits_now, placed_now}
use Rattle.class_table.proofs.order.Sorting.settle.Goals as goal

pub index_mut-requires : goal.index_mut-requires
index_mut-requires c =
    let w = c.requires.2.is in
    let l = w.to_settle c.args.body (one_first c.args.body c.requires.1) in
    omega (arith, l, w.long_rows, c.args.self.now.rows.ok.0)

pub next_awaited-requires : goal.next_awaited-requires
next_awaited-requires c = λ b one.
    let w = c.requires.2.is in
    let l = w.to_settle c.args.body (one_first c.args.body c.requires.1) in
    let lt : c.args.body < length c.args.self.now.rows.items = omega (arith, l, w.long_rows) in
    let here = subst (λ (r : Row). IsOneOf r.items b) c.index_mut.ensures.value one in
    let low = w.within c.args.body b (w.fewer c.args.body b (got_row c.args.self.now.rows.items c.args.body c.index_mut.result.now lt _ b here)) in
    omega (arith, low, w.long_placed, ap length c.deref.ensures.value)

pub index_mut-requires-in-Some : goal.index_mut-requires-in-Some
index_mut-requires-in-Some c =
    let w = c.requires.2.is in
    let l = w.to_settle c.args.body (one_first c.args.body c.requires.1) in
    let lt : c.args.body < length c.args.self.now.rows.items = omega (arith, l, w.long_rows) in
    let here = subst (λ (r : Row). IsOneOf r.items c.in-Some.awaited) c.index_mut.ensures.value c.in-Some.ensures.some.0 in
    let low = w.within c.args.body _ (w.fewer c.args.body _ (got_row c.args.self.now.rows.items c.args.body c.index_mut.result.now lt _ _ here)) in
    omega (arith, low, w.long_waiting, c.args.self.now.waiting.ok.0)

pub returns-in_ok-push-in-Some : goal.returns-in_ok-push-in-Some
returns-in_ok-push-in-Some c = λ rows next pending h.
    let l = h.to_settle c.args.body (one_first c.args.body pending) in
    let lt : c.args.body < length c.args.self.now.rows.items = omega (arith, l, h.long_rows) in
    let row = c.index_mut.ensures.value in
    let placed = c.deref.ensures.value in
    let trimmed = trimmed_set c.args.self.now.rows.items c.args.body c.next_awaited.new.row c.index_mut.result.now
    c.args.self.now.placed.items lt
    (λ b one. subst (λ (r : Row). IsOneOf r.items b) row (c.next_awaited.ensures.fewer b one))
    (λ b one. subst (λ (p : List Bool). Stands p b true ⊎ IsOneOf c.next_awaited.new.row.items b) placed
    (c.next_awaited.ensures.kept b (subst (λ (r : Row). IsOneOf r.items b) (sym row) one))) in
    let target = got_row c.args.self.now.rows.items c.args.body c.index_mut.result.now lt _ _
    (subst (λ (r : Row). IsOneOf r.items c.in-Some.awaited) row c.in-Some.ensures.some.0) in
    waits_now rows c.args.self.now _ next c.args.body pending h trimmed c.in-Some.awaited c.push.new.self _ target
    (λ s. c.in-Some.ensures.some.1 (subst (λ (p : List Bool). Stands p c.in-Some.awaited true) (sym placed) s)) refl refl
    refl
    (c.in_ok-push-in-Some.ensures.items
    ∙ ap (λ (r : Row). r.items ++ c.args.body ∷ []) c.index_mut-in-Some.ensures.value)

pub place-requires : goal.place-requires
place-requires c =
    let w = c.requires.2.is in
    let l = w.to_settle c.args.body (one_first c.args.body c.requires.1) in
    omega (arith, l, w.long_placed)

pub returns-in-None : goal.returns-in-None
returns-in-None c = λ rows next pending h.
    let l = h.to_settle c.args.body (one_first c.args.body pending) in
    let lt : c.args.body < length c.args.self.now.rows.items = omega (arith, l, h.long_rows) in
    let row = c.index_mut.ensures.value in
    let placed = c.deref.ensures.value in
    let trimmed = trimmed_set c.args.self.now.rows.items c.args.body c.next_awaited.new.row c.index_mut.result.now
    c.args.self.now.placed.items lt
    (λ b one. subst (λ (r : Row). IsOneOf r.items b) row (c.next_awaited.ensures.fewer b one))
    (λ b one. subst (λ (p : List Bool). Stands p b true ⊎ IsOneOf c.next_awaited.new.row.items b) placed
    (c.next_awaited.ensures.kept b (subst (λ (r : Row). IsOneOf r.items b) (sym row) one))) in
    let none = λ (b : ℕ) (r : IsInRow c.args.self.now.rows.items c.args.body b).
    subst (λ (p : List Bool). Stands p b true) placed
    (c.in-None.ensures.none b (subst (λ (q : Row). IsOneOf q.items b) (sym row)
    (row_got c.args.self.now.rows.items c.args.body c.index_mut.result.now lt _ b r))) in
    on_ok_weaker _ (λ o. placed_now rows c.args.self.now c.place.new.self next c.args.body pending h
    (subst (λ (r : Vec Row Global). AreTrimmed c.args.self.now.rows.items r.items c.args.self.now.placed.items)
    (sym c.place.ensures.rows) trimmed) none o c.place.ensures.long c.place.ensures.waiting)
    (c.place.ensures.opens h.is_seen)
