use Rattle.std.proofs.Common.{List, ℕ, get_or, sym, subst, arith}
use Rattle.std.proofs.lemmas.List.{take_all}
use Rattle.ar_base.proofs.Standing.{stands_get}
use Rattle.class_table.specs.Ranks.{AddsSource}
use Rattle.class_table.proofs.Ranked.{sources_none, sources_past, sources_put}
use Rattle.class_table.proofs.Taken.{take_next}
use Rattle.class_table.proofs.ranks.add_source.Goals as goal
use Rattle.class_table.proofs.ranks.add_source.Goals.{then-place-sources+in_ok-push, else-place-sources}

pub loop-to-init : goal.loop-to-init
loop-to-init c = sources_none _ _

pub loop-to-preserved : goal.loop-to-preserved
loop-to-preserved c =
    let i = c.loop-to.to-index in
    let item = get_or c.args.row.now i 0 in
    let e = take_next c.args.row.now i item (stands_get c.args.row.now i 0 c.loop-to-test.true) in
    subst (λ (xs : List ℕ). AddsSource xs c.args.from c.args.sources.now c.if-place-sources.sources) (sym e)
    (elim c.if-place-sources.branch [
      | then-place-sources+in_ok-push w ↦ rw w.sources-is (
          sources_put _ c.args.from c.args.sources.now c.loop-to.sources item _ w.index-sources-place.result
          w.if-place-sources.true
          w.in_ok-push.ensures.items
          c.loop-to.invariant)
      | else-place-sources w ↦ rw w.sources-is (
          sources_past _ c.args.from c.args.sources.now c.loop-to.sources item
          (omega (arith, w.if-place-sources.false, c.loop-to.auto.sources)) c.loop-to.invariant)
    ])

pub returns : goal.returns
returns c = subst (λ (xs : List ℕ). AddsSource xs c.args.from c.args.sources.now c.loop-to.sources)
    (take_all c.loop-to.to-index c.args.row.now c.loop-to-test.false) c.loop-to.invariant
