use Rattle.std.proofs.Common.{◌≡◌, ◌∙◌, List, get_or, take, subst, arith}
use Rattle.std.proofs.lemmas.List.{take_all}
use Rattle.ar_base.specs.Numbers.{WayId}
use Rattle.ar_base.proofs.Standing.{stands_get}
use Rattle.job_inputs.specs.Chains.{chain_labels}
use Rattle.text_pieces.specs.WayLabels.{numbered_label}
use Rattle.text_pieces.proofs.Ways.{read_stands}
use Rattle.cut_check.specs.Rows.{IsRow}
use Rattle.cut_check.proofs.ListedLemmas.{labels_more}
use Rattle.cut_check.proofs.RowLemmas.{event_read, event_inside, known_at, row_more}
use Rattle.cut_check.proofs.rows.row_of.Goals as goal

-- what is read past the end
abbrev none : WayId
none = record { n = 0; of = record {} }

pub index-requires : goal.index-requires
index-requires c =
    let ways = c.args.ways.now in
    let i = c.loop-way.way-index in
    let k = known_at c.args.parts.now ways i (get_or ways i none) c.requires.known
    (stands_get ways i none c.loop-way-test.true) in
    omega (arith, k, c.args.parts.now.ways.ok)

pub add-requires-clause-inside : goal.add-requires-clause-inside
add-requires-clause-inside c =
    let p = c.args.parts.now in
    let ways = c.args.ways.now in
    let i = c.loop-way.way-index in
    let k = known_at p ways i (get_or ways i none) c.requires.known (stands_get ways i none c.loop-way-test.true) in
    let s = read_stands p.ways.items (get_or ways i none).n c.index.result.now k c.index.ensures in
    let lt = event_inside p (get_or ways i none).n c.index.result.now c.requires.sound s in
    let long = c.loop-way.invariant.long in
    omega (arith, lt, long)

pub add-requires-clause-allowed : goal.add-requires-clause-allowed
add-requires-clause-allowed c =
    let p = c.args.parts.now in
    let ways = c.args.ways.now in
    let i = c.loop-way.way-index in
    let k = known_at p ways i (get_or ways i none) c.requires.known (stands_get ways i none c.loop-way-test.true) in
    let s = read_stands p.ways.items (get_or ways i none).n c.index.result.now k c.index.ensures in
    let lt = event_inside p (get_or ways i none).n c.index.result.now c.requires.sound s in
    omega (arith, lt, c.requires.allowed)

pub loop-way-preserved : goal.loop-way-preserved
loop-way-preserved c =
    let p = c.args.parts.now in
    let ways = c.args.ways.now in
    let i = c.loop-way.way-index in
    let k = known_at p ways i (get_or ways i none) c.requires.known (stands_get ways i none c.loop-way-test.true) in
    let s = read_stands p.ways.items (get_or ways i none).n c.index.result.now k c.index.ensures in
    let lt = event_inside p (get_or ways i none).n c.index.result.now c.requires.sound s in
    record {
      long = c.add.ensures.long ∙ c.loop-way.invariant.long;
      row = λ dropped table.
          row_more p dropped c.args.allowed.now table (chain_labels p (take i ways)) _ (numbered_label p (get_or ways i none).n)
          c.index.result.now.event.n c.loop-way.row c.add.new.row
          (labels_more p ways i none c.loop-way-test.true) (event_read p (get_or ways i none).n c.index.result.now s)
          (omega (arith, lt, c.requires.allowed))
          (c.loop-way.invariant.row dropped table) c.add.ensures.long c.add.ensures.bits c.add.ensures.fit;
    }

pub returns : goal.returns
returns c = λ dropped table.
    let e : take c.loop-way.way-index c.args.ways.now ≡ c.args.ways.now =
    take_all c.loop-way.way-index c.args.ways.now (omega (arith, c.loop-way-test.false)) in
    subst (λ (z : List WayId). IsRow c.args.parts.now dropped (chain_labels c.args.parts.now z) c.loop-way.row) e
    (c.loop-way.invariant.row dropped table)
