use Rattle.std.proofs.Common.{◌≡◌, ◌+◌, [], ◌∷◌, ◌++◌, map, take, IfNone, IfSome, arith, sym, ap, ◌∙◌, subst}
use Rattle.std.proofs.lemmas.List.{take_all, take_more, map-append, nil_from_length}
use Rattle.std.proofs.lemmas.List.Elements.{All-nil}
use Rattle.ar_base.proofs.Standing.{stands_item, stands_map}
use Rattle.mode_trees.specs.Views.{edge_row, tree_of}
use Rattle.mode_diagrams.specs.Numbers.{none, HasFewEdges, IsNumberOf, IsWideTree}
use Rattle.mode_diagrams.proofs.Making.{AreMade, made_passed, made_more, none_wide, zero_from}
use Rattle.mode_diagrams.proofs.numbering.numbered.Goals as goal
use Rattle.mode_diagrams.proofs.numbering.numbered.Goals.{then-not-is_empty+in_ok-next+in-Some+in_ok-push, else-not-is_empty}

pub loop-tree-init : goal.loop-tree-init
loop-tree-init c = subst (AreMade []) (sym c.new-made.ensures.items) (record { numbers = none; few = All-nil HasFewEdges })

pub loop-tree-preserved : goal.loop-tree-preserved
loop-tree-preserved c =
    let trees = c.args.trees.now in
    let k = c.loop-tree.tree-index in
    let tree = c.tree-item.result in
    let view = tree_of (λ n. n) in
    let grown : map view (take k trees) ++ view tree ∷ [] ≡ map view (take (k + 1) trees) =
    sym (ap (map view) (take_more trees k tree c.loop-tree-test.true ∙ ap (λ t. take k trees ++ t ∷ []) (sym c.tree-item.is))
    ∙ map-append view (take k trees) (tree ∷ [])) in
    subst (λ z. AreMade z c.if-not-is_empty.made.items) grown
    (elim c.if-not-is_empty.branch [
      | then-not-is_empty+in_ok-next+in-Some+in_ok-push w ↦ subst (AreMade (map view (take k trees) ++ view tree ∷ []))
          (sym (ap (λ v. v.items) w.made-is ∙ w.in_ok-push.ensures.items))
          (made_more (map view (take k trees)) c.loop-tree.made.items (view tree) w.in-Some.next
          (subst (λ o. IfSome o (λ n. IsNumberOf (view tree) n)) w.in-Some.is w.in_ok-next.ensures.number)
          (subst (λ o. IfSome o (λ n. HasFewEdges n)) w.in-Some.is w.in_ok-next.ensures.few) c.loop-tree.invariant)
      | else-not-is_empty w ↦ subst (AreMade (map view (take k trees) ++ view tree ∷ []))
          (sym (ap (λ v. v.items) w.made-is))
          (made_passed (map view (take k trees)) c.loop-tree.made.items (view tree)
          (ap (map (edge_row (λ n. n)))
          (nil_from_length tree.edges.items (let z = zero_from _ (sym w.if-not-is_empty.ensures) in omega (arith, z, tree.edges.ok)))) c.loop-tree.invariant)
    ])

pub numbered_tree-requires : goal.numbered_tree-requires
numbered_tree-requires c =
    let trees = c.args.trees.now in
    let k = c.loop-tree.tree-index in
    let tree = c.tree-item.result in
    let view = tree_of (λ n. n) in
    record {
      tree = c.requires.trees.each k (view tree) (stands_map view trees k tree
          (stands_item trees k tree c.loop-tree-test.true c.tree-item.is));
    }

pub returns-in_default-clause-none : goal.returns-in_default-clause-none
returns-in_default-clause-none c =
    let trees = c.args.trees.now in
    let k = c.loop-tree.tree-index in
    let tree = c.tree-item.result in
    let view = tree_of (λ n. n) in
    record {
      tree = view tree;
      one = record {
        place = k;
        stands = stands_map view trees k tree (stands_item trees k tree c.loop-tree-test.true c.tree-item.is);
      };
      wide = subst (λ o. IfNone o (IsWideTree (view tree))) c.in_default.is c.in_ok-next.ensures.none;
    }

pub returns-clause-some : goal.returns-clause-some
returns-clause-some c = λ w.
    let trees = c.args.trees.now in
    let all : take c.loop-tree.tree-index trees ≡ trees = take_all c.loop-tree.tree-index trees c.loop-tree-test.false in
    let made = subst (λ z. AreMade (map (tree_of (λ n. n)) z) c.loop-tree.made.items) all c.loop-tree.invariant in
    none_wide (map (tree_of (λ n. n)) trees) c.loop-tree.made.items made.numbers made.few w.tree w.one w.wide
