use Rattle.std.proofs.Common.{◌≡◌, ◌+◌, ◌<◌, ⊎_elim, suc, length, refl, sym, ap, ◌∙◌, subst, arith, rules}
use Rattle.std.proofs.lemmas.Bool.{cases_eq}
use Rattle.std.proofs.lemmas.Option.{slice_get_read}
use Rattle.ar_base.specs.Lists.{Stands}
use Rattle.ar_base.proofs.Standing.{stands_one, stands_map, stands_map_back}
use Rattle.domains.specs.declared.Value.{Value}
use Rattle.ar_firing.specs.Forest.{Row}
use Rattle.mode_trees.specs.declared.forests.Edge.{Edge}
use Rattle.mode_trees.specs.Views.{edge_row, tree_of}
use Rattle.mode_diagrams.specs.Numbers.{modes_in}
use Rattle.mode_diagrams.proofs.numbering.mode_number.Goals as goal

to_mode : (edge : Edge) (row : Row) (mode : Value) → edge_row (λ n. n) edge ≡ row → row.to ≡ mode → edge.to ≡ mode
to_mode edge row mode same to = ap (λ (r : Row). r.to) same ∙ to

pub returns-then-eq-2 : goal.returns-then-eq-2
returns-then-eq-2 c =
    let tree = tree_of (λ n. n) c.args.tree.now in
    let items = c.args.tree.now.edges.items in
    let k = c.loop-k.k in
    let edge = c.index.result.now in
    let inside : k < length items = omega (arith, c.loop-k-test.true, c.requires.place) in
    let at : Stands items k edge = slice_get_read items (length items) k edge refl inside c.index.ensures in
    let same : edge.to ≡ c.args.mode = search rules in
    let next : k + 1 ≡ suc k = omega arith in
    record {
      early = omega (arith, c.loop-k-test.true);
      stands = subst (λ n. Stands (modes_in tree) n c.args.mode) (sym next)
          (subst (λ v. Stands (modes_in tree) (suc k) v) same
          (stands_map (λ (r : Row). r.to) tree.edges k (edge_row (λ n. n) edge)
          (stands_map (edge_row (λ n. n)) items k edge at)));
    }

pub loop-k-init : goal.loop-k-init
loop-k-init c = λ j e lt st same. omega (arith, lt)

pub loop-k-preserved : goal.loop-k-preserved
loop-k-preserved c = λ j e lt st same.
    let items = c.args.tree.now.edges.items in
    let k = c.loop-k.k in
    let edge = c.index.result.now in
    let inside : k < length items = omega (arith, c.loop-k-test.true, c.requires.place) in
    let at : Stands items k edge = slice_get_read items (length items) k edge refl inside c.index.ensures in
    let differs : edge.to ≡ c.args.mode → ⊥ = search rules in
    ⊎_elim
    (λ (q : j ≡ k).
    let one = stands_one items k e edge (subst (λ n. Stands items n e) q st) at in
    differs (ap (λ (x : Edge). x.to) (sym one) ∙ same))
    (λ n. c.loop-k.invariant j e (let l : j < k = grind (arith, lt, n) in l) st same)
    (cases_eq j k)

pub unreachable-requires : goal.unreachable-requires
unreachable-requires c =
    let tree = tree_of (λ n. n) c.args.tree.now in
    let differs : c.args.tree.now.first ≡ c.args.mode → ⊥ = search rules in
    ⊎_elim
    (λ e. differs (sym e))
    (λ w.
    let b = stands_map_back (edge_row (λ n. n)) c.args.tree.now.edges.items w.0 w.1 w.3 in
    c.loop-k.invariant w.0 b.0 (omega (arith, w.2, c.loop-k-test.false)) b.1
    (to_mode b.0 w.1 c.args.mode b.2 w.4))
    c.requires.known
