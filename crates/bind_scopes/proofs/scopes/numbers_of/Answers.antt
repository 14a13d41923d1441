use Rattle.std.proofs.Common.{◌<◌, ℕ, length, arith, rules}
use Rattle.ar_base.specs.Numbers.{NameId}
use Rattle.ar_base.proofs.Standing.{stands_get, stands_within, stands_map}
use Rattle.class_table.proofs.Taken.{length_map, below_next}
use Rattle.hierarchy.specs.Units.{numbers}
use Rattle.bind_scopes.proofs.NameSets.{numbers_none, numbers_more}
use Rattle.bind_scopes.proofs.SymbolPlaces.{place_below}
use Rattle.bind_scopes.proofs.scopes.numbers_of.Goals as goal

pub loop-place-init : goal.loop-place-init
loop-place-init c = (
  numbers_none c.args.list.now c.new-numbers.result c.new-numbers.ensures.empty,
  λ k x l s. absurd (omega (arith, l)),
)

pub overflow_cast-place : goal.overflow_cast-place
overflow_cast-place c =
    let l : c.loop-place.place < length c.args.list.now = omega arith in
    let none : NameId = record { n = 0; of = record {} } in
    let st = stands_get c.args.list.now c.loop-place.place none l in
    let below : c.loop-place.place < 4294967296 =
    place_below (numbers c.args.list.now) 4294967296 c.loop-place.place _ c.requires c.loop-place.invariant.1
    (stands_map (λ (n : NameId). n.n) c.args.list.now c.loop-place.place _ st) (omega arith) in
    search (rules, below)

pub loop-place-preserved : goal.loop-place-preserved
loop-place-preserved c =
    let l : c.loop-place.place < length c.args.list.now = omega arith in
    let none : NameId = record { n = 0; of = record {} } in
    let st = stands_get c.args.list.now c.loop-place.place none l in (
      numbers_more c.args.list.now c.loop-place.place _ st _ _ c.in_ok-insert.ensures.updates.0
          c.loop-place.invariant.0,
      below_next (numbers c.args.list.now) (λ (x : ℕ). x < 4294967296) c.loop-place.place _
          (stands_map (λ (n : NameId). n.n) c.args.list.now c.loop-place.place _ st) c.loop-place.invariant.1
          (omega arith),
    )

pub returns-clause-at : goal.returns-clause-at
returns-clause-at c = c.loop-place.invariant.0.at

pub returns-clause-all : goal.returns-clause-all
returns-clause-all c = λ x k g s.
    let w = stands_within _ k x s in
    let e = length_map (λ (n : NameId). n.n) c.args.list.now in
    c.loop-place.invariant.0.all x k g (omega (arith, w, e)) s
