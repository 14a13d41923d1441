use Rattle.std.proofs.Common.{ℕ}
use Rattle.ar_base.specs.Numbers.{BodyId}
use Rattle.ar_base.proofs.Standing.{stands_get}
use Rattle.class_table.proofs.Looping.{loop_start, loop_next, loop_end}
use Rattle.unit_rules.proofs.Kept.{kept_found}
use Rattle.unit_rules.proofs.Ending.{site_none, site_some, among_to, among_back}
use Rattle.unit_rules.proofs.statements.broken_among.Goals as goal
use Rattle.unit_rules.proofs.statements.broken_among.Goals.{in-Some, in_default}

pub loop-site-init : goal.loop-site-init
loop-site-init c = λ m units u k a s. loop_start _ _

pub loop-site-preserved : goal.loop-site-preserved
loop-site-preserved c = λ m units u k a s.
    let first : BodyId × ℕ = (record { n = 0; of = record {} }, 0) in
    let here = stands_get c.args.all.now c.loop-site.site-index first c.loop-site-test.true in
    let so_far = c.loop-site.invariant m units u k a s in
    elim c.match-owned_at.branch [
      | in-Some w ↦
          (let g = site_some _ w.in-Some.owned.now w.broken_at.result (w.in-Some.ensures m.declared k)
          (w.broken_at.ensures m units u a s) in
          rw w.found-is (loop_next _ _ _ _ _ _ _ here so_far g w.earliest-found.ensures))
      | in_default w ↦
          (let g = site_none _ (w.in_default.ensures m.declared k) in
          rw w.found-is (loop_next _ _ _ _ _ _ _ here so_far g (kept_found _)))
    ]

pub returns : goal.returns
returns c = λ m units u k a s. loop_end _ _ _ _ _ c.loop-site-test.false (among_to c.args.all.now)
    (among_back c.args.all.now) (c.loop-site.invariant m units u k a s)
