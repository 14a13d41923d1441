use Rattle.std.proofs.Common.{◌≤◌, ◌+◌, ◌-◌, length, take, drop, List, rules, subst, arith, sym}
use Rattle.ar_base.specs.Lists.{IsOneOf}
use Rattle.ar_base.proofs.Standing.{stands_item}
use Rattle.flow_propagate.specs.Runs.{Reader, IsStart}
use Rattle.flow_propagate.proofs.PairRuns.{from_to, run_short, run_among, run_exact, run_all}
use Rattle.flow_propagate.proofs.pairs.pairs_of.Goals as goal

pub slice_bounds-result-count : goal.slice_bounds-result-count
slice_bounds-result-count c =
    let runs = c.args.runs.now in
    let low = runs.runs.each c.args.variable c.index.result.now
    (stands_item runs.starts.items c.args.variable c.index.result.now (omega arith) c.index.ensures) in
    let high = runs.runs.each (c.args.variable + 1) c.index-2.result.now
    (stands_item runs.starts.items (c.args.variable + 1) c.index-2.result.now (omega arith)
    c.index-2.ensures) in
    from_to runs.pairs.items c.args.variable c.index.result.now c.index-2.result.now low high

pub slice_bounds-result-start : goal.slice_bounds-result-start
slice_bounds-result-start c =
    let runs = c.args.runs.now in
    let low = runs.runs.each c.args.variable c.index.result.now
    (stands_item runs.starts.items c.args.variable c.index.result.now (omega arith) c.index.ensures) in
    let high = runs.runs.each (c.args.variable + 1) c.index-2.result.now
    (stands_item runs.starts.items (c.args.variable + 1) c.index-2.result.now (omega arith)
    c.index-2.ensures) in
    let h : c.index.result.now ≤ c.index-2.result.now =
    from_to runs.pairs.items c.args.variable c.index.result.now c.index-2.result.now low high in
    search (rules, h)

pub slice_bounds-result-end-2 : goal.slice_bounds-result-end-2
slice_bounds-result-end-2 c =
    let runs = c.args.runs.now in
    let high = runs.runs.each (c.args.variable + 1) c.index-2.result.now
    (stands_item runs.starts.items (c.args.variable + 1) c.index-2.result.now (omega arith)
    c.index-2.ensures) in
    let l : c.index-2.result.now ≤ length c.deref.result.now =
    subst (λ (z : List Reader). c.index-2.result.now ≤ length z) (sym c.deref.ensures.value) high.within in
    search (rules, l)

pub returns : goal.returns
returns c =
    let runs = c.args.runs.now in
    let from = c.index.result.now in
    let to = c.index-2.result.now in
    let x = c.args.variable in
    let pairs = c.deref.result.now in
    let e = c.deref.ensures.value in
    let low : IsStart pairs x from = subst (λ (z : List Reader). IsStart z x from) (sym e)
    (runs.runs.each x from (stands_item runs.starts.items x from (omega arith) c.index.ensures)) in
    let high : IsStart pairs (x + 1) to =
    subst (λ (z : List Reader). IsStart z (x + 1) to) (sym e)
    (runs.runs.each (x + 1) to (stands_item runs.starts.items (x + 1) to (omega arith) c.index-2.ensures)) in
    record {
      among = λ r o. subst (λ (z : List Reader). IsOneOf z r) e (run_among pairs x from to low high r o);
      all = λ r o v. run_all pairs x from to low high r (subst (λ (z : List Reader). IsOneOf z r) (sym e) o) v;
      exact = run_exact pairs x from to low high;
      short = subst (λ (z : List Reader). length (take (to - from) (drop from pairs)) ≤ length z) e
          (run_short pairs x from to low high);
    }
