use Rattle.std.proofs.Common.{◌≡◌, ◌∙◌, ℕ, Bool, true, false, List, [], length, nat_lt, Some, slice_get, slice_index_or, sym, ap, arith}
use Rattle.std.proofs.lemmas.Bool.Decides.{nat_tests}
use Rattle.std.proofs.lemmas.Option.{slice_get_past, slice_get-get_or}
use Rattle.ar_io.proofs.Writing.{writes_on, writes_front, writes_exit, writes_as}
use Rattle.gts_core.specs.declared.system.GtsParts.{GtsParts}
use Rattle.gts_core.specs.declared.system.Way.{Way}
use Rattle.gts_core.specs.Printed.{way_line, line_found}
use Rattle.gts_core.proofs.print.way_at.Goals as goal

-- the line of the way that stands there, and none past the last way
line_here : (p : GtsParts) (hidden : Bool) (ys xs : List Way) (n : ℕ) (w : Way) → ys ≡ xs
    → true ≡ nat_lt n (length ys) → w ≡ slice_index_or ys n w
    → way_line p hidden w ≡ line_found p hidden (slice_get xs n)
line_here p hidden ys xs n w e h i =
    ap (line_found p hidden) (ap Some i ∙ sym (slice_get-get_or ys n w (grind (arith, nat_tests)))
    ∙ ap (λ (z : List Way). slice_get z n) e)

line_past : (p : GtsParts) (hidden : Bool) (ys xs : List Way) (n : ℕ) → ys ≡ xs → false ≡ nat_lt n (length ys)
    → [] ≡ line_found p hidden (slice_get xs n)
line_past p hidden ys xs n e h =
    ap (line_found p hidden) (sym (slice_get_past ys n (grind (arith, nat_tests)))
    ∙ ap (λ (z : List Way). slice_get z n) e)

pub returns-in_err-write_text-in-Some : goal.returns-in_err-write_text-in-Some
returns-in_err-write_text-in-Some g c =
    writes_exit _ _ c.from_residual.ensures.1
    (writes_as _ _ (line_here c.args.parts.now c.args.hidden _ _ c.args.n c.in-Some.way.now c.deref.ensures.value
    c.in-Some.ensures.lookup.0 c.in-Some.ensures.lookup.1)
    (writes_front _ _ (writes_front _ _ (writes_front _ _
    (writes_front _ _ (writes_front _ _ (writes_as _ _ c.either.ensures c.in_err-write_text-in-Some.ensures)))))))

pub returns-in_err-write_text-in-Some-2 : goal.returns-in_err-write_text-in-Some-2
returns-in_err-write_text-in-Some-2 g c =
    writes_exit _ _ c.from_residual-in_err-write_text-in-Some-2.ensures.1
    (writes_as _ _ (line_here c.args.parts.now c.args.hidden _ _ c.args.n c.in-Some.way.now c.deref.ensures.value
    c.in-Some.ensures.lookup.0 c.in-Some.ensures.lookup.1)
    (writes_front _ _ (writes_front _ _ (writes_front _ _
    (writes_front _ _ (writes_on (writes_as _ _ c.either.ensures c.in_ok-write_text-in-Some.ensures) c.in_err-write_text-in-Some-2.ensures))))))

pub returns-in_err-label-in-Some : goal.returns-in_err-label-in-Some
returns-in_err-label-in-Some g c =
    writes_exit _ _ c.from_residual-in_err-label-in-Some.ensures.1
    (writes_as _ _ (line_here c.args.parts.now c.args.hidden _ _ c.args.n c.in-Some.way.now c.deref.ensures.value
    c.in-Some.ensures.lookup.0 c.in-Some.ensures.lookup.1)
    (writes_front _ _ (writes_front _ _ (writes_front _ _
    (writes_on (writes_on (writes_as _ _ c.either.ensures c.in_ok-write_text-in-Some.ensures) c.in_ok-write_text-in-Some-2.ensures)
    c.in_err-label-in-Some.ensures)))))

pub returns-in_err-write_text-in-Some-3 : goal.returns-in_err-write_text-in-Some-3
returns-in_err-write_text-in-Some-3 g c =
    writes_exit _ _ c.from_residual-in_err-write_text-in-Some-3.ensures.1
    (writes_as _ _ (line_here c.args.parts.now c.args.hidden _ _ c.args.n c.in-Some.way.now c.deref.ensures.value
    c.in-Some.ensures.lookup.0 c.in-Some.ensures.lookup.1)
    (writes_front _ _ (writes_front _ _ (writes_on
    (writes_on (writes_on (writes_as _ _ c.either.ensures c.in_ok-write_text-in-Some.ensures) c.in_ok-write_text-in-Some-2.ensures)
    c.in_ok-label-in-Some.ensures) c.in_err-write_text-in-Some-3.ensures))))

pub returns-in_err-body-in-Some : goal.returns-in_err-body-in-Some
returns-in_err-body-in-Some g c =
    writes_exit _ _ c.from_residual-in_err-body-in-Some.ensures.1
    (writes_as _ _ (line_here c.args.parts.now c.args.hidden _ _ c.args.n c.in-Some.way.now c.deref.ensures.value
    c.in-Some.ensures.lookup.0 c.in-Some.ensures.lookup.1)
    (writes_front _ _ (writes_on (writes_on
    (writes_on (writes_on (writes_as _ _ c.either.ensures c.in_ok-write_text-in-Some.ensures) c.in_ok-write_text-in-Some-2.ensures)
    c.in_ok-label-in-Some.ensures) c.in_ok-write_text-in-Some-3.ensures) c.in_err-body-in-Some.ensures)))

pub returns-in_ok-body-in-Some : goal.returns-in_ok-body-in-Some
returns-in_ok-body-in-Some g c =
    writes_as _ _ (line_here c.args.parts.now c.args.hidden _ _ c.args.n c.in-Some.way.now c.deref.ensures.value
    c.in-Some.ensures.lookup.0 c.in-Some.ensures.lookup.1)
    (writes_on (writes_on (writes_on (writes_on
    (writes_on (writes_as _ _ c.either.ensures c.in_ok-write_text-in-Some.ensures) c.in_ok-write_text-in-Some-2.ensures) c.in_ok-label-in-Some.ensures)
    c.in_ok-write_text-in-Some-3.ensures) c.in_ok-body-in-Some.ensures) c.write_text-in-Some-3.ensures)

pub returns-in-None : goal.returns-in-None
returns-in-None g c =
    writes_as _ _ (line_past c.args.parts.now c.args.hidden _ _ c.args.n c.deref.ensures.value
    c.in-None.ensures.lookup.0) c.write_text-in-None.ensures
