-- One use more, if there is one at the place.
use Rattle.std.proofs.Common.{ℕ, List, ap, sym, subst, inl, inr, get_or, arith}
use Rattle.flow_blocks.specs.Blocks.{Depends, through}
use Rattle.flow_blocks.specs.Bits.{HasBit, AreRows, AreDependences, room_left}
use Rattle.flow_blocks.proofs.RowLemmas.{Row}
use Rattle.ar_base.proofs.Standing.{one_contains}
use Rattle.flow_blocks.proofs.closing.join_at_all.Goals as goal
use Rattle.flow_blocks.proofs.closing.join_at_all.Goals.{in-Some, in_default}

pub join-requires-clause-from : goal.join-requires-clause-from
join-requires-clause-from c =
    let lookup = c.in-Some.ensures.lookup in
    (c.requires.below _ _ (one_contains c.args.uses.now c.in-Some.field-0.now
    (get_or c.args.places.now c.loop-place.place-index 0, lookup.3.0, sym lookup.1))).0

pub join-requires-clause-to : goal.join-requires-clause-to
join-requires-clause-to c =
    let lookup = c.in-Some.ensures.lookup in
    (c.requires.below _ _ (one_contains c.args.uses.now c.in-Some.field-0.now
    (get_or c.args.places.now c.loop-place.place-index 0, lookup.3.0, sym lookup.1))).1

pub loop-place-preserved : goal.loop-place-preserved
loop-place-preserved c =
    let so_far = c.loop-place.invariant in
    elim c.match-get.branch [
      | in-Some w ↦
          let lookup = w.in-Some.ensures.lookup in
          let less = w.join.ensures.no_more in
          let is = ap room_left w.rows-is in
          record {
            rows = subst (λ (rows : List Row). AreRows c.args.count rows) (sym w.rows-is) w.join.ensures.rows;
            grows = λ a n h. subst (λ (rows : List Row). HasBit rows a n) (sym w.rows-is)
                ((w.join.ensures.bits a n).1 (inl (so_far.grows a n h)));
            sound = λ old a n h.
                elim ((w.join.ensures.bits a n).0 (subst (λ (rows : List Row). HasBit rows a n) w.rows-is h)) [
                  | inl before ↦ so_far.sound old a n before
                  | inr new ↦ subst (λ (k : ℕ). Depends c.args.uses.now k n) (sym new.0)
                      (through (one_contains c.args.uses.now w.in-Some.field-0.now
                      (get_or c.args.places.now c.loop-place.place-index 0, lookup.3.0, sym lookup.1))
                      (so_far.sound old _ n new.1))
                ];
            no_more = omega (arith, less, so_far.no_more, is);
          }
      | in_default w ↦
          let is = ap room_left w.rows-is in
          record {
            rows = subst (λ (rows : List Row). AreRows c.args.count rows) (sym w.rows-is) so_far.rows;
            grows = λ a n h. subst (λ (rows : List Row). HasBit rows a n) (sym w.rows-is) (so_far.grows a n h);
            sound = λ old. subst (λ (rows : List Row). AreDependences c.args.uses.now rows) (sym w.rows-is)
                (so_far.sound old);
            no_more = omega (arith, so_far.no_more, is);
          }
    ]
