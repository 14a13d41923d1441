use Rattle.std.proofs.Common.{◌≡◌, ◌<◌, ◌+◌, ◌∙◌, ◌∷◌, ◌++◌, [], ℕ, List, get_or, take, length, reverse, vec_len, ap, sym, subst, arith, length-append}
use Rattle.std.proofs.lemmas.List.{take_more}
use Rattle.ar_base.specs.Numbers.{WayId}
use Rattle.ar_base.proofs.Standing.{stands_get, stands_map}
use Rattle.ar_firing.specs.Cuts.{Reaches}
use Rattle.ar_firing.specs.Fragment.{IsOpen}
use Rattle.ar_firing.specs.Replays.{AreOpen}
use Rattle.ar_meaning.specs.Systems.{System, Way}
use Rattle.gts_core.specs.declared.system.GtsParts.{GtsParts}
use Rattle.job_inputs.specs.Chains.{chain_labels}
use Rattle.text_pieces.specs.WayLabels.{numbered_label}
use Rattle.cut_check.proofs.RowLemmas.{known_at}
use Rattle.cut_check.proofs.TruthLemmas.{stops_all}
use Rattle.cut_check.proofs.firing.go_on.Goals as goal

-- what is read past the end
abbrev none : WayId
none = record { n = 0; of = record {} }

-- the way at a place is open
open_at : (p : GtsParts) (system : System ℕ) (dropped : List ℕ) (ways : List WayId) (n : ℕ) → n < length ways
    → AreOpen system dropped (chain_labels p ways)
    → (w : Way ℕ) × IsOpen system dropped (numbered_label p (get_or ways n none).n) w
open_at p system dropped ways n lt op =
    op.each n (numbered_label p (get_or ways n none).n)
    (stands_map (λ (v : WayId). numbered_label p v.n) ways n (get_or ways n none) (stands_get ways n none lt))

pub fire-requires-clause-known : goal.fire-requires-clause-known
fire-requires-clause-known c =
    let ways = c.args.ways.now in
    let n = c.len-in-loop-fired.result in
    known_at c.args.gts.now ways n (get_or ways n none) c.requires.known
    (stands_get ways n none (omega (arith, c.loop-fired-test.true, c.len.ensures, c.len-in-loop-fired.ensures)))

pub returns-then-not-done-clause-fired : goal.returns-then-not-done-clause-fired
returns-then-not-done-clause-fired c = λ system views dropped op h.
    let w = open_at c.args.gts.now system dropped c.args.ways.now c.len-in-loop-fired.result
    (omega (arith, c.loop-fired-test.true, c.len.ensures, c.len-in-loop-fired.ensures)) op in
    c.in_ok-done.ensures.fired system views dropped w.0 w.1 (c.loop-fired.invariant.fired system views dropped op h)

pub returns-then-not-done-clause-stops : goal.returns-then-not-done-clause-stops
returns-then-not-done-clause-stops c = λ system views dropped op h e t r.
    let p = c.args.gts.now in
    let ways = c.args.ways.now in
    let n = c.len-in-loop-fired.result in
    let lt : n < length ways = omega (arith, c.loop-fired-test.true, c.len.ensures, c.len-in-loop-fired.ensures) in
    let front : take n ways ≡ c.loop-fired.fired.items =
    ap (λ (k : ℕ). take k ways) c.len-in-loop-fired.ensures ∙ sym c.loop-fired.invariant.front in
    stops_all p system dropped ways n none lt
    (λ u q. c.in_ok-done.ensures.stops system views dropped (c.loop-fired.invariant.fired system views dropped op h)
    c.if-not-done.true u
    (subst (λ (z : List WayId). Reaches system dropped (numbered_label p (get_or ways n none).n ∷ reverse (chain_labels p z)) u)
    front q)) t r

pub loop-fired-preserved : goal.loop-fired-preserved
loop-fired-preserved c =
    let ways = c.args.ways.now in
    let n = c.len-in-loop-fired.result in
    let lt : n < length ways = omega (arith, c.loop-fired-test.true, c.len.ensures, c.len-in-loop-fired.ensures) in
    let front : take n ways ≡ c.loop-fired.fired.items =
    ap (λ (k : ℕ). take k ways) c.len-in-loop-fired.ensures ∙ sym c.loop-fired.invariant.front in
    let all = c.in_ok-done.ensures.all c.if-not-done.false in
    let long : vec_len c.fire.new.fired ≡ n + 1 =
    omega (
      arith,
      ap length all,
      length-append c.loop-fired.fired.items (get_or ways n none ∷ []),
      c.len-in-loop-fired.ensures,
      c.fire.new.fired.ok,
      c.loop-fired.fired.ok,
    ) in
    record {
      system = c.in_ok-done.ensures.system ∙ c.loop-fired.invariant.system;
      short = omega (arith, long, lt);
      front = all ∙ ap (λ (z : List WayId). z ++ get_or ways n none ∷ []) (sym front) ∙ sym (take_more ways n none lt)
          ∙ ap (λ (k : ℕ). take k ways) (sym long);
      fired = λ system views dropped op h.
          let w = open_at c.args.gts.now system dropped ways n lt op in
          c.in_ok-done.ensures.fired system views dropped w.0 w.1
          (c.loop-fired.invariant.fired system views dropped op h);
    }
