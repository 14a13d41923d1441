use Rattle.std.proofs.Common.{◌≡◌, ℕ, List, None, get_or, sym, subst, rules}
use Rattle.hierarchy.specs.declared.outline.Outline.{Outline}
use Rattle.ar_base.specs.Lists.{Stands, Along}
use Rattle.ar_base.proofs.Standing.{stands_get}
use Rattle.class_table.specs.Earliest.{IsEarliest}
use Rattle.class_table.specs.TablesInside.{IsBodyOf}
use Rattle.class_table.specs.declared.tables.Body.{Body}
use Rattle.class_table.proofs.Looping.{loop_start, loop_next, loop_end}
use Rattle.class_table.proofs.Taken.{item_stands}
use Rattle.unit_rules.specs.Statements.{EndsIn}
use Rattle.unit_rules.specs.Naming.{broken_so}
use Rattle.unit_rules.proofs.Ending.{here_to, all_to, all_back, no_body, unit_ends}
use Rattle.unit_rules.proofs.Nodes.{members_here, outline_at}
use Rattle.unit_rules.proofs.statements.first_broken.Goals as goal
use Rattle.unit_rules.proofs.statements.first_broken.Goals.{in-None, in-Some}

pub loop-place-init : goal.loop-place-init
loop-place-init c = λ m units o a. loop_start _ _

pub loop-place-preserved : goal.loop-place-preserved
loop-place-preserved c = λ m units o a.
    let first : Outline = record {
      name = record { n = 0; of = record {} };
      owner = None;
      body = record { n = 0; of = record {} };
      set_at = None;
    } in
    let at = outline_at o c.loop-place.place c.loop-place-test.true first in
    let number : c.new-unit.result.n ≡ c.loop-place.place = search (rules, c.new-unit.ensures) in
    let own = get_or c.args.outlines.now c.loop-place.place first in
    let h : IsEarliest (EndsIn m at.0 (broken_so c.args.looping)) c.match-get.broken = elim c.match-get.branch [
      | in-None w ↦ rw w.broken-is (no_body at.0 o.table at.2.body (rw c.deref.ensures.value at w.in-None.ensures.lookup.3))
      | in-Some w ↦
          (let here = item_stands c.deref.result.now own.body.n w.in-Some.body.now w.in-Some.ensures.lookup.3.0
          w.in-Some.ensures.lookup.1 in
          let body = members_here at.0 o.table at.2.body w.in-Some.body.now
          (subst (λ (bs : List Body). Stands bs own.body.n w.in-Some.body.now) c.deref.ensures.value here) in
          rw w.broken-is (unit_ends o.table.kept w.broken_among-broken.result body w.deref-in-Some-2.ensures.value
          (w.broken_among-broken.ensures m units at.0
          (subst (λ (bs : List Body). Along IsBodyOf bs m.declared.bodies) (sym w.deref-in-Some.ensures.value)
          o.table.table.holds.bodies) a (subst (λ (n : ℕ). Stands units n at.0) (sym number) at.1))))
    ] in
    loop_next _ _ _ _ _ _ _ (stands_get c.args.outlines.now c.loop-place.place first c.loop-place-test.true)
    (c.loop-place.invariant m units o a) (here_to c.loop-place.place _ at.0 c.match-get.broken at.1 h)
    c.earliest-found.ensures

pub returns : goal.returns
returns c = λ m units o a. loop_end _ _ _ _ _ c.loop-place-test.false (λ k d p s h. all_to k d p h) (all_back o)
    (c.loop-place.invariant m units o a)
