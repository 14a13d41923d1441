use Rattle.std.proofs.Common.{◌∙◌, ◌<◌, length, ap, subst, sym}
use Rattle.ar_io.proofs.Writing.{writes_as}
use Rattle.gts_core.specs.Sound.{IsSound}
use Rattle.gts_core.specs.declared.system.GtsParts.{GtsParts}
use Rattle.text_pieces.specs.WayLabels.{way_label}
use Rattle.text_pieces.proofs.Ways.{read_stands, label_read, number_read}
use Rattle.text_pieces.proofs.labels.print_label.Goals as goal

pub label-requires : goal.label-requires
label-requires g c =
    let parts = c.parts-parts.result.now in
    let sound = subst IsSound (sym c.parts-parts.ensures.parts) c.parts-parts.ensures.sound in
    number_read parts c.args.way.n c.index-found.result.now sound
    (read_stands parts.ways.items c.args.way.n c.index-found.result.now
    (subst (λ (p : GtsParts). c.args.way.n < length p.ways.items) (sym c.parts-parts.ensures.parts) c.requires)
    c.index-found.ensures)

pub returns : goal.returns
returns g c =
    let parts = c.parts-parts.result.now in
    let found = read_stands parts.ways.items c.args.way.n c.index-found.result.now
    (subst (λ (p : GtsParts). c.args.way.n < length p.ways.items) (sym c.parts-parts.ensures.parts) c.requires)
    c.index-found.ensures in
    writes_as _ _ (label_read parts c.args.way.n c.index-found.result.now found
    ∙ ap (λ (p : GtsParts). way_label p c.args.way.n) c.parts-parts.ensures.parts) c.label.ensures
