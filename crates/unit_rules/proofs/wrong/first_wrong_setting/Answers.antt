use Rattle.std.proofs.Common.{◌≡◌, ◌<◌, ℕ, List, length, None, sym, subst, arith, rules}
use Rattle.ar_base.specs.Lists.{Stands}
use Rattle.ar_base.proofs.Standing.{stands_get, along_back}
use Rattle.ar_syntax.specs.declared.members.Setting.{Setting}
use Rattle.class_table.proofs.Looping.{loop_start, loop_end}
use Rattle.hierarchy.specs.declared.outline.Outline.{Outline}
use Rattle.unit_rules.specs.ToTest.{AreToTest}
use Rattle.unit_rules.proofs.Searched.{number_to, number_back}
use Rattle.unit_rules.proofs.ToTest.{test_next, skip_next}
use Rattle.unit_rules.proofs.wrong.first_wrong_setting.Goals as goal
use Rattle.unit_rules.proofs.wrong.first_wrong_setting.Goals.{in-Some+in_ok-wrong+in_ok-add, in_default}

pub loop-place-init : goal.loop-place-init
loop-place-init c = λ m units o a. (c.new-search.ensures.left m, rw c.new-search.ensures.found (loop_start _ _))

pub loop-place-preserved : goal.loop-place-preserved
loop-place-preserved c = λ m units o a.
    let l : c.loop-place.place < length c.args.outlines.now = omega arith in
    let none : Outline = record {
      name = record { n = 0; of = record {} };
      owner = None;
      body = record { n = 0; of = record {} };
      set_at = None;
    } in
    let s = stands_get c.args.outlines.now c.loop-place.place none l in
    let v = along_back units c.args.outlines.now o.along c.loop-place.place _ s in
    let n : c.new-unit.result.n ≡ c.loop-place.place = search (rules, c.new-unit.ensures) in
    let there = subst (λ (k : ℕ). Stands units k v.0) (sym n) v.1 in
    let k = c.loop-place.invariant m units o a in
    elim c.match-settings_in.branch [
      | in-Some+in_ok-wrong+in_ok-add w ↦
          let f = w.in-Some.ensures.some m units v.0 o.table.table.holds v.2 in
          let t = w.to_test-tested.ensures m k.0 f.1 in
          let g = w.in_ok-wrong.ensures m units c.args.classes.now v.0 o a (c.in_ok-settables.ensures m units o) there in
          rw w.search-is (
            w.in_ok-add.ensures.left m k.0 (subst (λ (xs : List Setting). AreToTest xs c.loop-place.search.found w.to_test-tested.result.now) f.1 t),
            test_next m units c.args.outlines.now c.loop-place.place _ v.0 _ _ _ _ _ _ s v.1 f.0 f.1 t k.1 g
                w.in_ok-add.ensures.found,
          )
      | in_default w ↦
          rw w.search-is (
            k.0,
            skip_next m units c.args.outlines.now c.loop-place.place _ v.0 _ s v.1
                (w.in_default.ensures.none m units v.0 o.table.table.holds v.2) k.1,
          )
    ]

pub returns : goal.returns
returns c = λ m units o a. loop_end _ _ _ _ _ (omega arith) (number_to m units _ o.along)
    (number_back m units _ o.along) (c.loop-place.invariant m units o a).1
