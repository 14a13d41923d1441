use Rattle.std.proofs.Common.{◌≡◌, ◌-◌, ◌<◌, suc, length, [], ◌∷◌, refl, sym, ap, subst, arith}
use Rattle.std.proofs.lemmas.Option.{slice_get_read}
use Rattle.ar_base.specs.Lists.{Stands}
use Rattle.ar_base.proofs.Results.{ok_map}
use Rattle.zdd_nodes.specs.Nodes.{family}
use Rattle.diagram_steps.specs.Trees.{edges_of}
use Rattle.diagram_steps.proofs.Growing.{extends_none, extends_then}
use Rattle.mode_diagrams.specs.Sets.{HasPathEvents}
use Rattle.mode_diagrams.proofs.Pathing.{path_none, path_more}
use Rattle.coherent_cuts.proofs.paths.+path_to.Goals as goal

pub returns-then-mode-eq0-clause-grows : goal.returns-then-mode-eq0-clause-grows
returns-then-mode-eq0-clause-grows t c = extends_none c.args.ops.now

pub returns-then-mode-eq0-clause-path : goal.returns-then-mode-eq0-clause-path
returns-then-mode-eq0-clause-path t c =
    subst (HasPathEvents (edges_of c.args.tree.now) c.args.mode ([] ∷ [])) (sym (ap (family c.args.ops.now) c.new.ensures))
    (path_none (edges_of c.args.tree.now) c.args.mode ([] ∷ []) c.if-mode-eq0.true)

pub path_to-requires : goal.path_to-requires
path_to-requires t c =
    let edges = edges_of c.args.tree.now in
    let k = c.args.mode - 1 in
    let inside : k < length edges = grind (arith, c.requires.mode, c.if-mode-eq0.false) in
    let at : Stands edges k c.index-edge.result.now =
    slice_get_read edges (length edges) k c.index-edge.result.now refl inside c.index-edge.ensures in
    let low = c.requires.numbered.each k c.index-edge.result.now at in (
      grind (arith, c.decreases, low, c.if-mode-eq0.false),
      (c.requires.numbered, omega (arith, low, inside)),
    )

pub returns-clause-grows : goal.returns-clause-grows
returns-clause-grows t c =
    extends_then c.args.ops.now c.path_to.new.ops c.with_event.new.ops c.in_ok-before.ensures.grows
    c.with_event.ensures.grows

pub returns-clause-path : goal.returns-clause-path
returns-clause-path t c =
    let edges = edges_of c.args.tree.now in
    let k = c.args.mode - 1 in
    let inside : k < length edges = grind (arith, c.requires.mode, c.if-mode-eq0.false) in
    let at : Stands edges k c.index-edge.result.now =
    slice_get_read edges (length edges) k c.index-edge.result.now refl inside c.index-edge.ensures in
    let up : c.args.mode ≡ suc k = grind (arith, c.if-mode-eq0.false) in
    ok_map c.with_event.result
    (λ n w. path_more edges k c.args.mode c.index-edge.result.now up at ([] ∷ [])
    (family c.path_to.new.ops c.in_ok-before.before.n) (family c.with_event.new.ops n.n)
    c.in_ok-before.ensures.path w)
    c.with_event.ensures.sets
