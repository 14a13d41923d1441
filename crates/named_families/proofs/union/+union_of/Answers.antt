use Rattle.std.proofs.Common.{◌/◌, length, sym, ap, ◌∙◌, subst, arith}
use Rattle.ar_base.proofs.Results.{ok_map}
use Rattle.zdd_nodes.specs.FamiliesInside.{union}
use Rattle.zdd_nodes.specs.Nodes.{NodeId, family}
use Rattle.diagram_steps.proofs.Growing.{extends_none, extends_then, extends_by, kept}
use Rattle.named_families.specs.Named.{AreNumbers, HasAllSets}
use Rattle.named_families.proofs.Named.{number_first, numbers_grow, numbers_front, numbers_rest, all_both}
use Rattle.named_families.proofs.union.+union_of.Goals as goal

abbrev nothing : NodeId
nothing = record { n = 0; of = record {} }

pub returns-then-parts-eq0-clause-grows : goal.returns-then-parts-eq0-clause-grows
returns-then-parts-eq0-clause-grows t c = extends_none c.args.ops.now

pub returns-then-parts-eq1-clause-grows : goal.returns-then-parts-eq1-clause-grows
returns-then-parts-eq1-clause-grows t c = extends_none c.args.ops.now

pub returns-then-parts-eq1-clause-in_store : goal.returns-then-parts-eq1-clause-in_store
returns-then-parts-eq1-clause-in_store t c =
    number_first c.args.ops.now c.args.parts.now nothing c.if-parts-eq1.true c.requires.numbers

pub union_of-requires : goal.union_of-requires
union_of-requires t c = (
  omega (arith, c.split_at.ensures.front_len, c.if-parts-eq0.false, c.if-parts-eq1.false),
  subst (AreNumbers c.args.ops.now) (sym c.split_at.ensures.front)
      (numbers_front c.args.ops.now c.args.parts.now (length c.args.parts.now / 2) c.requires.numbers),
)

pub union_of-requires-2 : goal.union_of-requires-2
union_of-requires-2 t c = (
  omega (arith, c.split_at.ensures.back_len, c.if-parts-eq0.false, c.if-parts-eq1.false),
  numbers_grow c.args.ops.now c.union_of.new.ops c.split_at.result.1.now c.in_ok-lower.ensures.grows
      (subst (AreNumbers c.args.ops.now) (sym c.split_at.ensures.back)
      (numbers_rest c.args.ops.now c.args.parts.now (length c.args.parts.now / 2) c.requires.numbers)),
)

pub returns-in_err-upper-clause-grows : goal.returns-in_err-upper-clause-grows
returns-in_err-upper-clause-grows t c =
    extends_then c.args.ops.now c.union_of.new.ops c.union_of-2.new.ops c.in_ok-lower.ensures.grows
    c.in_err-upper.ensures.grows

pub returns-clause-grows : goal.returns-clause-grows
returns-clause-grows t c =
    extends_then c.args.ops.now c.union_of-2.new.ops c.union.new.self
    (extends_then c.args.ops.now c.union_of.new.ops c.union_of-2.new.ops c.in_ok-lower.ensures.grows
    c.in_ok-upper.ensures.grows)
    (extends_by _ c.union_of-2.new.ops c.union.new.self c.union.ensures.drawn.grows)

pub returns-clause-sets : goal.returns-clause-sets
returns-clause-sets t c =
    let s = c.args.ops.now in
    let u = c.union_of.new.ops in
    let v = c.union_of-2.new.ops in
    let ns = c.args.parts.now in
    let lower = family u c.in_ok-lower.lower.n in
    let upper = family v c.in_ok-upper.upper.n in
    let front = subst (λ z. HasAllSets s z lower) c.split_at.ensures.front c.in_ok-lower.ensures.sets in
    let rest = subst (λ z. HasAllSets u z upper) c.split_at.ensures.back c.in_ok-upper.ensures.sets in
    let whole = all_both s u ns (length ns / 2) lower upper c.in_ok-lower.ensures.grows c.requires.numbers front rest in
    ok_map c.union.result
    (λ n d. subst (HasAllSets s ns)
    (sym (d.1 ∙ ap (λ z. union z upper)
    (kept u v c.in_ok-lower.lower.n c.in_ok-upper.ensures.grows c.in_ok-lower.ensures.in_store))) whole)
    c.union.ensures.drawn.ok
