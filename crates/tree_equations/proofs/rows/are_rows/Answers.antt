use Rattle.std.proofs.Common.{◌<◌, ℕ, inl, inr, length, get_or, sym, ap, ◌∙◌, subst, arith}
use Rattle.std.proofs.Math.Path.{fun_ext}
use Rattle.ar_base.specs.Lists.{Stands}
use Rattle.ar_base.proofs.Standing.{stands_get, stands_within, stands_one, one_here, stands_item, at_most}
use Rattle.eq_build.specs.Views.{row_at, entries_in}
use Rattle.eq_build.proofs.Reading.{row_here}
use Rattle.tree_equations.specs.Answers.{row_in}
use Rattle.tree_equations.proofs.RowsPut.{put_same}
use Rattle.tree_equations.proofs.rows.are_rows.Goals as goal

pub bounds-rows-numbers : goal.bounds-rows-numbers
bounds-rows-numbers c =
    let ns = c.args.numbers.now in
    let k = c.loop-k.k in
    let long = c.requires.long in
    let test = c.loop-k-test.true in
    let l : k < length ns = omega (arith, long, test) in
    c.requires.under (get_or ns k 0) (one_here ns k (get_or ns k 0) (stands_get ns k 0 l))

pub loop-k-preserved : goal.loop-k-preserved
loop-k-preserved c = λ j n r l st su.
    let ns = c.args.numbers.now in
    let k = c.loop-k.k in
    let long = c.requires.long in
    let test = c.loop-k-test.true in
    let m : k < length ns = omega (arith, long, test) in
    let here = stands_get ns k 0 m in
    let under = c.requires.under (get_or ns k 0) (one_here ns k (get_or ns k 0) here) in
    elim (at_most j k l) [
      | inl h ↦ c.loop-k.invariant j n r h st su
      | inr e ↦
          let number = stands_one ns k n (get_or ns k 0) (subst (λ (z : ℕ). Stands ns z n) e su) here in
          let one = stands_one c.args.new.now k r c.index-new-k.result
          (subst (λ (z : ℕ). Stands c.args.new.now z r) e st)
          (stands_item c.args.new.now k c.index-new-k.result c.loop-k-test.true c.index-new-k.is) in
          let same = c.same_row.ensures c.if-not-same_row.false in
          ap (row_at c.args.rows.now) number
          ∙ sym (row_here c.args.rows.now (get_or ns k 0) c.index-rows-numbers.result under)
          ∙ ap row_in (sym c.index-rows-numbers.is)
          ∙ ap entries_in (sym c.deref.ensures.value ∙ same ∙ c.deref-in-loop-k.ensures.value) ∙ ap row_in (sym one)
    ]

pub returns : goal.returns
returns c = λ t.
    fun_ext (put_same (row_at c.args.rows.now) c.args.numbers.now c.args.new.now
    (λ j n r st su. c.loop-k.invariant j n r
    (let w = stands_within c.args.new.now j r st in let past = c.loop-k-test.false in omega (arith, w, past)) st su))
