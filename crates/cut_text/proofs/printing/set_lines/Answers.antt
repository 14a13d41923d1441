use Rattle.std.proofs.Common.{List, ℕ, ap}
use Rattle.ar_io.proofs.Writing.{writes_exit, writes_on, writes_front, leaves_on, leaves_front}
use Rattle.cut_text.specs.Tables.{lines_at}
use Rattle.cut_text.proofs.Pieces.{gives_some, all_first, all_rest}
use Rattle.cut_text.proofs.printing.set_lines.Goals as goal

pub write_set-requires : goal.write_set-requires
write_set-requires g c =
    all_first c.args.gts.now c.args.ways.now c.loop-events.lister _ c.in-Some.ensures.first.0
    c.in-Some.ensures.first.1 c.loop-events.invariant.1

pub loop-events-preserved : goal.loop-events-preserved
loop-events-preserved g c =
    let e = gives_some c.loop-events.lister c.next.follows.lender-at-none c.next.result c.in-Some.events c.in-Some.is
    c.next.follows.holds-at-none in (
      leaves_on _ _ c.loop-events.invariant.0 (writes_on c.in_ok-write_set.ensures c.in_ok-write_text.ensures)
          (ap (λ (z : List (List ℕ)). lines_at c.args.gts.now c.args.ways.now z) e),
      all_rest c.args.gts.now c.args.ways.now c.loop-events.lister _ c.next.follows.lender-at-none e
          c.loop-events.invariant.1,
    )

pub returns-in_err-write_set : goal.returns-in_err-write_set
returns-in_err-write_set g c =
    writes_exit _ _ c.from_residual.ensures.1
    (leaves_front _ _ c.loop-events.invariant.0 (writes_front _ _ c.in_err-write_set.ensures)
    (ap (λ (z : List (List ℕ)). lines_at c.args.gts.now c.args.ways.now z) c.in-Some.ensures.first.1))

pub returns-in_err-write_text : goal.returns-in_err-write_text
returns-in_err-write_text g c =
    writes_exit _ _ c.from_residual-in_err-write_text.ensures.1
    (leaves_front _ _ c.loop-events.invariant.0 (writes_on c.in_ok-write_set.ensures c.in_err-write_text.ensures)
    (ap (λ (z : List (List ℕ)). lines_at c.args.gts.now c.args.ways.now z) c.in-Some.ensures.first.1))
