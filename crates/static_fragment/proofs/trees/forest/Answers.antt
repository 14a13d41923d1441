use Rattle.std.proofs.Common.{◌≡◌, ◌<◌, ◌+◌, Bool, true, false, true≢false, List, ◌∷◌, map, Vec, Global, length, get_or, refl, sym, ap, ◌∙◌, subst, arith}
use Rattle.gts_core.specs.declared.system.Variable.{Variable}
use Rattle.ar_base.specs.Lists.{Stands, AreDifferent}
use Rattle.ar_base.proofs.Standing.{stands_item, stands_get, stands_one}
use Rattle.mode_trees.specs.declared.forests.Edge.{Edge}
use Rattle.mode_trees.specs.declared.forests.ModeTree.{ModeTree}
use Rattle.mode_search.specs.declared.searching.Reach.{Reach}
use Rattle.mode_trees.specs.Below.{AreEdgesBelow}
use Rattle.static_fragment.specs.Trees.{AreTreesBelow, HasTree}
use Rattle.static_fragment.proofs.Growing.{none_more, one_more}
use Rattle.static_fragment.proofs.Forests.{all_once}
use Rattle.static_fragment.proofs.trees.forest.Goals as goal
use Rattle.static_fragment.proofs.trees.forest.Goals.{then-variable+then-moving-variable+in_ok-edges+in_ok-push, else-variable, else-variable-via-then-variable+else-moving-variable, else-variable-via-else-variable}

pub bounds-moving-variable : goal.bounds-moving-variable
bounds-moving-variable c =
    let items = c.deref-variable-items.ensures.value in
    let below = subst (λ (z : List Variable). c.loop-n.n < length z) items c.loop-n-test.true in
    let is = subst (λ (z : List Variable). c.variable-item.result ≡ get_or z c.loop-n.n c.variable-item.result) items
    c.variable-item.is in
    let st = stands_item c.args.parts.now.variables.items c.loop-n.n c.variable-item.result below is in
    let unit = (c.requires.sound.variables c.loop-n.n c.variable-item.result st).unit in
    omega (arith, unit, c.requires.units)

pub edges_below-requires : goal.edges_below-requires
edges_below-requires c =
    let items = c.deref-variable-items.ensures.value in
    let below = subst (λ (z : List Variable). c.loop-n.n < length z) items c.loop-n-test.true in
    let is = subst (λ (z : List Variable). c.variable-item.result ≡ get_or z c.loop-n.n c.variable-item.result) items
    c.variable-item.is in
    let st = stands_item c.args.parts.now.variables.items c.loop-n.n c.variable-item.result below is in
    let reach = stands_item c.args.reaches.now c.loop-n.n c.index-reaches-n.result
    (omega (arith, below, c.requires.found.are.long)) c.index-reaches-n.is in
    let x = c.variable-item.result in
    record {
      enters = subst (λ (z : List Edge). AreDifferent (x.value ∷ map (λ (y : Edge). y.to) z))
          (sym (c.deref.ensures.value ∙ ap (λ (z : Reach). z.edges.items) (sym c.index-reaches-n.is)))
          (all_once c.requires.found c.requires.once c.loop-n.n x c.index-reaches-n.result st reach);
    }

pub loop-n-preserved : goal.loop-n-preserved
loop-n-preserved c =
    let items = c.deref-variable-items.ensures.value in
    let below = subst (λ (z : List Variable). c.loop-n.n < length z) items c.loop-n-test.true in
    let x = c.variable-item.result in
    let is = subst (λ (z : List Variable). x ≡ get_or z c.loop-n.n x) items c.variable-item.is in
    let st = stands_item c.args.parts.now.variables.items c.loop-n.n x below is in
    let p = c.args.parts.now in
    let moving = c.args.moving.now in
    let reaches = c.args.reaches.now in
    let old = c.loop-n.trees.items in
    let unit = (c.requires.sound.variables c.loop-n.n x st).unit in
    let mark = stands_get moving x.unit.n false (omega (arith, unit, c.requires.units)) in
    let stays : (trees : Vec ModeTree Global) → trees ≡ c.loop-n.trees → (HasTree moving x → ⊥)
    → AreTreesBelow p moving reaches (c.loop-n.n + 1) trees.items =
    λ trees is lacks. subst (λ (z : List ModeTree). AreTreesBelow p moving reaches (c.loop-n.n + 1) z)
    (sym (ap (λ (z : Vec ModeTree Global). z.items) is))
    (none_more p moving reaches c.loop-n.n x st old c.loop-n.invariant lacks) in
    elim c.if-variable.branch [
      | then-variable+then-moving-variable+in_ok-edges+in_ok-push w ↦
          let r = w.index-reaches-n.result in
          let reach = stands_item reaches c.loop-n.n r (omega (arith, below, c.requires.found.are.long))
          w.index-reaches-n.is in
          let tree : ModeTree = record { variable = w.new.result; first = x.value; edges = w.in_ok-edges.edges } in
          let has : HasTree moving x = record {
            is_state = w.if-variable.true;
            moves = subst (λ (z : Bool). Stands moving x.unit.n z) w.if-moving-variable.true mark;
          } in
          subst (λ (z : List ModeTree). AreTreesBelow p moving reaches (c.loop-n.n + 1) z)
          (sym (ap (λ (z : Vec ModeTree Global). z.items) w.trees-is ∙ w.in_ok-push.ensures.items))
          (one_more p moving reaches c.loop-n.n x st old c.loop-n.invariant r reach has tree w.new.ensures refl
          (subst (λ (z : List Edge). AreEdgesBelow z x.value 0 w.in_ok-edges.edges.items)
          (w.deref.ensures.value ∙ ap (λ (z : Reach). z.edges.items) (sym w.index-reaches-n.is))
          w.in_ok-edges.ensures))
      | else-variable w ↦ elim w.else-variable.branch [
        | else-variable-via-then-variable+else-moving-variable v ↦ stays c.if-variable.trees w.trees-is (λ h.
            let e = stands_one moving x.unit.n true false h.moves
            (subst (λ (z : Bool). Stands moving x.unit.n z) v.if-moving-variable.false mark) in absurd (true≢false e))
        | else-variable-via-else-variable v ↦ stays c.if-variable.trees w.trees-is
            (λ h. absurd (true≢false (sym h.is_state ∙ v.if-variable.false)))
      ]
    ]
