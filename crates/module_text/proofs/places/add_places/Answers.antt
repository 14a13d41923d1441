use Rattle.std.proofs.Common.{◌∙◌, ◌++◌, List, ℕ, Vec, Global, append-nil, ap, sym}
use Rattle.flow_blocks.proofs.RowLemmas.{row_got}
use Rattle.module_text.proofs.Placing.{on_ok_as, row_past}
use Rattle.module_text.proofs.places.add_places.Goals as goal

pub returns-in-Some : goal.returns-in-Some
returns-in-Some c = on_ok_as _ _ c.add_all.result
    (λ h. h ∙ ap (λ (z : List ℕ). c.args.spots.now.items ++ z)
    (c.deref.ensures.value ∙ ap (λ (r : Vec ℕ Global). r.items) c.in-Some.ensures.lookup.1
    ∙ row_got c.args.places.now c.args.event.n c.in-Some.row.now c.in-Some.ensures.lookup.3.0))
    c.add_all.ensures

pub returns-in-None : goal.returns-in-None
returns-in-None c = sym (append-nil c.args.spots.now.items)
    ∙ ap (λ (z : List ℕ). c.args.spots.now.items ++ z)
    (sym (row_past c.args.places.now c.args.event.n c.in-None.ensures.lookup.3))
