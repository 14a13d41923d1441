use Rattle.std.proofs.Common.{map, sym, ◌∙◌, ap, arith}
use Rattle.ar_base.specs.Numbers.{NameId}
use Rattle.class_table.proofs.Taken.{map_join, length_map}
use Rattle.class_table.proofs.Numbered.{number_known, number_new, room_new}
use Rattle.class_table.proofs.symbols.Symbols.number.Goals as goal

pub returns-in-Some : goal.returns-in-Some
returns-in-Some c = number_known c.args.self.now c.args.name.n c.in-Some.number
    (sym c.get.ensures.value ∙ (sym c.copied.ensures ∙ c.in-Some.is)) c.requires

pub returns-in_ok-push-in-None : goal.returns-in_ok-push-in-None
returns-in_ok-push-in-None c = number_new c.args.self.now _ c.args.name.n c.len-number.result (sym c.get.ensures.value ∙ (sym c.copied.ensures ∙ c.in-None.is))
    (let f = c.len-number.ensures in let g = length_map (λ (x : NameId). x.n) c.args.self.now.list.items in omega arith)
    (ap (map (λ (x : NameId). x.n)) c.in_ok-push-in-None.ensures.items
    ∙ map_join (λ (x : NameId). x.n) c.args.self.now.list.items _)
    c.in_ok-insert-in-None.ensures.updates.0 (omega arith) c.requires

pub overflow_cast-number : goal.overflow_cast-number
overflow_cast-number c =
    let l = room_new c.args.self.now c.args.name.n (sym c.get.ensures.value ∙ (sym c.copied.ensures ∙ c.in-None.is)) (omega arith) c.requires in
    let g = length_map (λ (x : NameId). x.n) c.args.self.now.list.items in
    omega (arith, l, g, c.len-number.ensures)
