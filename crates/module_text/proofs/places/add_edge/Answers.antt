use Rattle.std.proofs.Common.{◌≡◌, ◌<◌, ◌∙◌, ◌++◌, ◌∷◌, [], ℕ, List, Vec, Global, length, refl, ap, arith}
use Rattle.flow_blocks.proofs.RowLemmas.{row_got}
use Rattle.module_text.proofs.Placing.{edge_more}
use Rattle.module_text.proofs.places.add_edge.Goals as goal

pub returns : goal.returns
returns c = λ before are.
    let rows : List (Vec ℕ Global) = c.make_room.new.places.items in
    let e = c.args.edge.event.n in
    let n = c.len-place.result in
    let lt : e < length rows = omega (arith, c.in_ok-make_room.ensures.room) in
    let at : n ≡ length c.args.table.now.ways.items = omega (arith, c.len-place.ensures, c.args.table.now.ways.ok) in
    edge_more before c.args.edge c.args.table.now _ rows c.push.new.self are c.in_ok-make_room.ensures.rows lt n at
    (c.in_ok-push.ensures.items ∙ ap (λ (z : List ℕ). z ++ n ∷ [])
    (ap (λ (r : Vec ℕ Global). r.items) c.index_mut.ensures.value ∙ row_got rows e c.index_mut.result.now lt))
    refl c.in_ok-push-2.ensures.items
