use Rattle.std.proofs.Common.{◌≡◌, ◌+◌, ◌-◌, ◌<◌, ◌^◌, decimal, sym, ◌∙◌, ap, arith}
use Rattle.std.proofs.lemmas.Fmt.{decimal_injective}
use Rattle.ar_base.proofs.Standing.{stands_get}
use Rattle.job_inputs.proofs.way_numbers.way_of.Goals as goal
use Rattle.job_inputs.proofs.way_numbers.way_of.Goals.{then-k-eq0-via-then-k-eq0, then-k-eq0-via-else-k-eq0+then-k-count}

pub returns-then-k-eq0 : goal.returns-then-k-eq0
returns-then-k-eq0 c = λ i same inside.
    let small : i + 1 < 2 ^ 64 = omega (arith, inside, c.requires) in
    let e : i + 1 ≡ c.in_ok-k.k = decimal_injective (i + 1) c.in_ok-k.k small c.in_ok-k.ensures.small
    (sym same ∙ c.in_ok-k.ensures.found) in
    elim c.then-k-eq0.branch [
      | then-k-eq0-via-then-k-eq0 w ↦ absurd (let h = w.if-k-eq0.true in omega (arith, e, h))
      | then-k-eq0-via-else-k-eq0+then-k-count w ↦ absurd (let h = w.if-k-count.true in omega (arith, e, h, inside))
    ]

pub returns : goal.returns
returns c =
    let some = c.if-k-eq0.false in
    let few = c.if-k-count.false in (
      c.in_ok-k.k - 1,
      c.in_ok-k.ensures.found
          ∙ ap decimal (omega (arith, some)),
      stands_get c.args.ways.now (c.in_ok-k.k - 1) _ (omega (arith, some, few)),
    )
