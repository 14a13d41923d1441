use Rattle.std.proofs.Common.{◌≤◌, rules, refl}
use Rattle.ar_base.proofs.PairRuns.{from_to, run_among, run_exact, run_all}
use Rattle.ar_base.proofs.pairing.run_of.Goals as goal

pub slice_bounds-result-count : goal.slice_bounds-result-count
slice_bounds-result-count c =
    from_to c.args.pairs.now c.args.first c.start_of-from.result c.start_of-to.result c.start_of-from.ensures
    c.start_of-to.ensures

pub slice_bounds-result-start : goal.slice_bounds-result-start
slice_bounds-result-start c =
    let h : c.start_of-from.result ≤ c.start_of-to.result =
    from_to c.args.pairs.now c.args.first c.start_of-from.result c.start_of-to.result c.start_of-from.ensures
    c.start_of-to.ensures in
    search (rules, h, c.start_of-to.ensures.within)

pub returns : goal.returns
returns c =
    let pairs = c.args.pairs.now in
    let x = c.args.first in
    let from = c.start_of-from.result in
    let to = c.start_of-to.result in
    let low = c.start_of-from.ensures in
    let high = c.start_of-to.ensures in
    record {
      among = λ r o. (run_among pairs x from to low high r o, run_exact pairs x from to low high r o);
      all = λ n o. run_all pairs x from to low high (x, n) o refl;
    }
