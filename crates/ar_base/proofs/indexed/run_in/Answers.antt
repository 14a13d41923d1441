use Rattle.std.proofs.Common.{◌≤◌, ◌+◌, ℕ, length, List, rules, subst, arith, sym, refl}
use Rattle.ar_base.specs.Lists.{IsOneOf}
use Rattle.ar_base.proofs.Standing.{stands_item}
use Rattle.ar_base.specs.Starts.{IsPairStart}
use Rattle.ar_base.proofs.PairRuns.{from_to, run_among, run_exact, run_all}
use Rattle.ar_base.proofs.indexed.run_in.Goals as goal

pub slice_bounds-result-count : goal.slice_bounds-result-count
slice_bounds-result-count c =
    let runs = c.args.indexed.now in
    let low = runs.runs.each c.args.first c.index.result.now
    (stands_item runs.starts.items c.args.first c.index.result.now (omega arith) c.index.ensures) in
    let high = runs.runs.each (c.args.first + 1) c.index-2.result.now
    (stands_item runs.starts.items (c.args.first + 1) c.index-2.result.now (omega arith) c.index-2.ensures) in
    from_to runs.pairs.items c.args.first c.index.result.now c.index-2.result.now low high

pub slice_bounds-result-start : goal.slice_bounds-result-start
slice_bounds-result-start c =
    let runs = c.args.indexed.now in
    let low = runs.runs.each c.args.first c.index.result.now
    (stands_item runs.starts.items c.args.first c.index.result.now (omega arith) c.index.ensures) in
    let high = runs.runs.each (c.args.first + 1) c.index-2.result.now
    (stands_item runs.starts.items (c.args.first + 1) c.index-2.result.now (omega arith) c.index-2.ensures) in
    let h : c.index.result.now ≤ c.index-2.result.now =
    from_to runs.pairs.items c.args.first c.index.result.now c.index-2.result.now low high in
    search (rules, h)

pub slice_bounds-result-end-2 : goal.slice_bounds-result-end-2
slice_bounds-result-end-2 c =
    let runs = c.args.indexed.now in
    let high = runs.runs.each (c.args.first + 1) c.index-2.result.now
    (stands_item runs.starts.items (c.args.first + 1) c.index-2.result.now (omega arith) c.index-2.ensures) in
    let l : c.index-2.result.now ≤ length c.deref.result.now =
    subst (λ (z : List (ℕ × ℕ)). c.index-2.result.now ≤ length z) (sym c.deref.ensures.value) high.within in
    search (rules, l)

pub returns : goal.returns
returns c =
    let runs = c.args.indexed.now in
    let from = c.index.result.now in
    let to = c.index-2.result.now in
    let x = c.args.first in
    let pairs = c.deref.result.now in
    let e = c.deref.ensures.value in
    let low : IsPairStart pairs x from = subst (λ (z : List (ℕ × ℕ)). IsPairStart z x from) (sym e)
    (runs.runs.each x from (stands_item runs.starts.items x from (omega arith) c.index.ensures)) in
    let high : IsPairStart pairs (x + 1) to =
    subst (λ (z : List (ℕ × ℕ)). IsPairStart z (x + 1) to) (sym e)
    (runs.runs.each (x + 1) to (stands_item runs.starts.items (x + 1) to (omega arith) c.index-2.ensures)) in
    record {
      among = λ r o. (
        subst (λ (z : List (ℕ × ℕ)). IsOneOf z r) e (run_among pairs x from to low high r o),
        run_exact
            pairs x from to low high r o,
      );
      all = λ n o. run_all pairs x from to low high (x, n) (subst (λ (z : List (ℕ × ℕ)). IsOneOf z (x, n)) (sym e) o)
          refl;
    }

pub returns-then-place-len-clause-all : goal.returns-then-place-len-clause-all
returns-then-place-len-clause-all c = λ n o. let h = c.args.indexed.now.runs.all (c.args.first, n) o in absurd (omega (arith, h))

pub offset_bounds-deref-index : goal.offset_bounds-deref-index
offset_bounds-deref-index c =
    let runs = c.args.indexed.now in
    let low = runs.runs.each c.args.first c.index.result.now
    (stands_item runs.starts.items c.args.first c.index.result.now (omega arith) c.index.ensures) in
    let w = low.within in
    search (rules, w)
