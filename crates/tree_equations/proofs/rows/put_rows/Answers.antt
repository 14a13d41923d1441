use Rattle.std.proofs.Common.{◌≡◌, ◌<◌, ℕ, [], List, length, get_or, set, sym, ap, ◌∙◌, refl, rules, arith, take_all}
use Rattle.std.proofs.Math.Path.{fun_ext}
use Rattle.ar_base.proofs.Standing.{stands_get, one_here}
use Rattle.std.proofs.lemmas.List.{length_push, length-set, get_or_default}
use Rattle.eq_build.specs.Views.{row_at, lists_in}
use Rattle.eq_build.specs.Steps.{updated}
use Rattle.tree_equations.proofs.RowsPut.{put_step, put_done}
use Rattle.tree_equations.proofs.rows.put_rows.Goals as goal

pub loop-row-init : goal.loop-row-init
loop-row-init c = record {
  long = refl;
  few = let l = c.requires.long in omega (arith, l);
  same = λ x. ap (λ (ns : List ℕ). updated (row_at c.args.rows.now.items) ns (lists_in c.args.new.items) x)
      (sym (take_all (length c.args.new.items) c.args.numbers.now (let l = c.requires.long in omega (arith, l))));
}

pub index_mut-requires : goal.index_mut-requires
index_mut-requires c =
    let ns = c.args.numbers.now in
    let left = c.pop.new.self.items in
    let n = get_or ns c.len.result 0 in
    let size : c.len.result ≡ length left = search rules in
    let long = ap length c.in-Some.ensures.items ∙ length_push left c.in-Some.row in
    let few = c.loop-row.invariant.few in
    let l : c.len.result < length ns = omega (arith, size, long, few) in
    let under = c.requires.under n (one_here ns c.len.result n (stands_get ns c.len.result 0 l)) in
    let keeps = c.loop-row.invariant.long in
    let h : n < length c.loop-row.rows.items = omega (arith, under, keeps) in search (rules, h)

pub loop-row-preserved : goal.loop-row-preserved
loop-row-preserved c =
    let ns = c.args.numbers.now in
    let left = c.pop.new.self.items in
    let rows = c.loop-row.rows.items in
    let n = get_or ns c.len.result 0 in
    let size : c.len.result ≡ length left = search rules in
    let long = ap length c.in-Some.ensures.items ∙ length_push left c.in-Some.row in
    let few = c.loop-row.invariant.few in
    let l : c.len.result < length ns = omega (arith, size, long, few) in
    let under = c.requires.under n (one_here ns c.len.result n (stands_get ns c.len.result 0 l)) in
    let keeps = c.loop-row.invariant.long in
    let within : n < length rows = omega (arith, under, keeps) in
    let at : n ≡ get_or ns (length left) n = get_or_default ns c.len.result 0 n l
    ∙ ap (λ (k : ℕ). get_or ns k n) size in
    record {
      long = length-set rows n c.in-Some.row ∙ keeps;
      few = omega (arith, size, l);
      same = λ x. c.loop-row.invariant.same x
          ∙ put_step rows (set rows n c.in-Some.row) ns left c.loop-row.new.items c.in-Some.row n x
          c.in-Some.ensures.items few at within refl;
    }

pub returns : goal.returns
returns c =
    let e : c.loop-row.new.items ≡ [] = search rules in
    record {
      reading = fun_ext (λ x. sym (c.loop-row.invariant.same x
          ∙ put_done c.loop-row.rows.items c.args.numbers.now c.loop-row.new.items x e));
      long = c.loop-row.invariant.long;
    }
