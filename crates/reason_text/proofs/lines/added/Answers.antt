use Rattle.std.proofs.Common.{refl}
use Rattle.std.proofs.Common.{slice_get}
use Rattle.ar_base.proofs.Standing.{stands_item}
use Rattle.ar_io.proofs.Writing.{writes_exit, writes_on, writes_front, writes_as}
use Rattle.ar_meaning.specs.TraceText.{optional_place_text}
use Rattle.gts_flatten.specs.Flat.{naming_of_parts}
use Rattle.flow_reasons.specs.Answers.{numbers_of}
use Rattle.reason_text.proofs.Pieces.{added_pieces}
use Rattle.reason_text.proofs.lines.added.Goals as goal
use Rattle.text_pieces.proofs.Ways.{place_read}

pub returns-in_err-write_text : goal.returns-in_err-write_text
returns-in_err-write_text g c =
    let names = naming_of_parts c.args.parts.now in
    writes_exit _ _ c.from_residual.ensures.1
    (writes_as _ _ (added_pieces names c.args.by.n c.args.round (numbers_of c.args.rests_on.now)
    (optional_place_text (slice_get names.places c.args.by.n)) refl) (writes_front _ _ c.in_err-write_text.ensures))

pub returns-in_err-write_number : goal.returns-in_err-write_number
returns-in_err-write_number g c =
    let names = naming_of_parts c.args.parts.now in
    writes_exit _ _ c.from_residual-in_err-write_number.ensures.1
    (writes_as _ _ (added_pieces names c.args.by.n c.args.round (numbers_of c.args.rests_on.now)
    (optional_place_text (slice_get names.places c.args.by.n)) refl)
    (writes_on c.in_ok-write_text.ensures (writes_front _ _ c.in_err-write_number.ensures)))

pub returns-in_err-write_text-2 : goal.returns-in_err-write_text-2
returns-in_err-write_text-2 g c =
    let names = naming_of_parts c.args.parts.now in
    writes_exit _ _ c.from_residual-in_err-write_text-2.ensures.1
    (writes_as _ _ (added_pieces names c.args.by.n c.args.round (numbers_of c.args.rests_on.now)
    (optional_place_text (slice_get names.places c.args.by.n)) refl)
    (writes_on c.in_ok-write_text.ensures (writes_on c.in_ok-write_number.ensures (writes_front _ _ c.in_err-write_text-2.ensures))))

pub returns-in_err-write_count : goal.returns-in_err-write_count
returns-in_err-write_count g c =
    let names = naming_of_parts c.args.parts.now in
    writes_exit _ _ c.from_residual-in_err-write_count.ensures.1
    (writes_as _ _ (added_pieces names c.args.by.n c.args.round (numbers_of c.args.rests_on.now)
    (optional_place_text (slice_get names.places c.args.by.n)) refl)
    (writes_on c.in_ok-write_text.ensures (writes_on c.in_ok-write_number.ensures
    (writes_on c.in_ok-write_text-2.ensures (writes_front _ _ c.in_err-write_count.ensures)))))

pub returns-in_err-write_text-3 : goal.returns-in_err-write_text-3
returns-in_err-write_text-3 g c =
    let names = naming_of_parts c.args.parts.now in
    writes_exit _ _ c.from_residual-in_err-write_text-3.ensures.1
    (writes_as _ _ (added_pieces names c.args.by.n c.args.round (numbers_of c.args.rests_on.now)
    (optional_place_text (slice_get names.places c.args.by.n)) refl)
    (writes_on c.in_ok-write_text.ensures (writes_on c.in_ok-write_number.ensures
    (writes_on c.in_ok-write_text-2.ensures (writes_on c.in_ok-write_count.ensures (writes_front _ _ c.in_err-write_text-3.ensures))))))

pub returns-in_err-place : goal.returns-in_err-place
returns-in_err-place g c =
    let names = naming_of_parts c.args.parts.now in
    let item = c.index.result.now in
    let e = place_read c.args.parts.now c.args.by.n item
    (stands_item c.args.parts.now.assigns.items c.args.by.n item c.requires c.index.ensures) in
    writes_exit _ _ c.from_residual-in_err-place.ensures.1
    (writes_as _ _ (added_pieces names c.args.by.n c.args.round (numbers_of c.args.rests_on.now) _ e)
    (writes_on c.in_ok-write_text.ensures (writes_on c.in_ok-write_number.ensures
    (writes_on c.in_ok-write_text-2.ensures (writes_on c.in_ok-write_count.ensures
    (writes_on c.in_ok-write_text-3.ensures (writes_front _ _ c.in_err-place.ensures)))))))

pub returns : goal.returns
returns g c =
    let names = naming_of_parts c.args.parts.now in
    let item = c.index.result.now in
    let e = place_read c.args.parts.now c.args.by.n item
    (stands_item c.args.parts.now.assigns.items c.args.by.n item c.requires c.index.ensures) in
    writes_as _ _ (added_pieces names c.args.by.n c.args.round (numbers_of c.args.rests_on.now) _ e)
    (writes_on c.in_ok-write_text.ensures (writes_on c.in_ok-write_number.ensures
    (writes_on c.in_ok-write_text-2.ensures (writes_on c.in_ok-write_count.ensures
    (writes_on c.in_ok-write_text-3.ensures (writes_on c.in_ok-place.ensures c.from.ensures))))))
