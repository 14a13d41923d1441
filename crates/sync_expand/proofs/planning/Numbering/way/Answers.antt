use Rattle.std.proofs.Common.{◌≡◌, slice_index, ◌∙◌, arith}
use Rattle.sync_expand.specs.Plans.{first_of}
use Rattle.sync_expand.proofs.Capping.{read_number}
use Rattle.sync_expand.proofs.KnownLemmas.{first_fits, read_within}
use Rattle.sync_expand.proofs.planning.Numbering.way.Goals as goal

pub overflow_add-number_at : goal.overflow_add-number_at
overflow_add-number_at c =
    let counts = c.args.self.now.counts.items in
    let l = read_within counts c.args.event.n c.args.place c.requires.place in
    let e = (rw c.deref.ensures.value at c.number_at.ensures)
    ∙ read_number c.args.self.now.firsts.items c.args.event.n _ (c.requires.numbered.are_firsts.each c.args.event.n l) in
    let f = first_fits counts c.args.event.n c.requires.numbered.small l in
    omega (arith, e, f, c.requires.place)

pub returns : goal.returns
returns c =
    let counts = c.args.self.now.counts.items in
    let l = read_within counts c.args.event.n c.args.place c.requires.place in
    let e = (rw c.deref.ensures.value at c.number_at.ensures)
    ∙ read_number c.args.self.now.firsts.items c.args.event.n _ (c.requires.numbered.are_firsts.each c.args.event.n l) in
    omega (arith, e, c.new.ensures)
