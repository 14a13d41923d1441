-- The trees of the variables, one after the other.
use Rattle.std.proofs.Common.{◌≡◌, ◌<◌, ◌+◌, ℕ, zero, suc, ◌⊎◌, inl, inr, Bool, List, [], ◌∷◌, ◌++◌, length, refl, sym, ap, ◌∙◌, subst, arith}
use Rattle.ar_base.specs.Lists.{Stands}
use Rattle.ar_base.proofs.Standing.{stands_one, stands_within, stands_none, stands_left, stands_split, stands_next, at_most}
use Rattle.gts_core.specs.declared.system.Variable.{Variable}
use Rattle.gts_core.specs.declared.system.GtsParts.{GtsParts}
use Rattle.mode_trees.specs.declared.forests.ModeTree.{ModeTree}
use Rattle.mode_search.specs.declared.searching.Reach.{Reach}
use Rattle.mode_trees.specs.Below.{AreEdgesBelow}
use Rattle.static_fragment.specs.Units.{IsMovingState}
use Rattle.static_fragment.specs.Trees.{IsTreeAt, AreTreesBelow, HasTree}

pub trees_start : (p : GtsParts) (moving : List Bool) (reaches : List Reach) (trees : List ModeTree) → trees ≡ []
    → AreTreesBelow p moving reaches 0 trees
trees_start p moving reaches trees e = subst (λ (z : List ModeTree). AreTreesBelow p moving reaches 0 z) (sym e)
    (record {
      sound = λ k tree st. absurd (stands_none k tree st);
      whole = λ n h. absurd (omega arith);
      ascend = λ j k s t h u v. absurd (stands_none j s u);
    })

module _ (p : GtsParts) (moving : List Bool) (reaches : List Reach) (n : ℕ) (x : Variable)
    (sx : Stands p.variables.items n x)
    (old : List ModeTree) (a : AreTreesBelow p moving reaches n old) where
  wider : (tree : ModeTree) → IsTreeAt p moving reaches n tree → IsTreeAt p moving reaches (n + 1) tree
  wider tree h = record {
    below = omega (arith, h.below);
    state = h.state;
    first = h.first;
    reach = h.reach;
    stands =
        h.stands;
    edges = h.edges;
  }

  has_here : IsMovingState p moving n → HasTree moving x
  has_here h =
      let same = stands_one p.variables.items n h.variable x h.stands sx in
      subst (λ (z : Variable). HasTree moving z) same (record { is_state = h.is_state; moves = h.moves })

  pub none_more : (HasTree moving x → ⊥) → AreTreesBelow p moving reaches (n + 1) old
  none_more lacks = record {
    sound = λ k tree st. wider tree (a.sound k tree st);
    whole = λ m l h. elim (at_most m n l) [
      | inl b ↦ a.whole m b h
      | inr e ↦ absurd (lacks (has_here (subst (λ (z : ℕ). IsMovingState p moving z) e h)))
    ];
    ascend = a.ascend;
  }

  module _ (r : Reach) (sr : Stands reaches n r) (has : HasTree moving x) (tree : ModeTree)
      (number : tree.variable.n ≡ n) (first : tree.first ≡ x.value)
      (edges : AreEdgesBelow r.edges.items tree.first 0 tree.edges.items) where
    here : IsTreeAt p moving reaches (n + 1) tree
    here = record {
      below = omega (arith, number);
      state = record {
        variable = x;
        stands = subst (λ (z : ℕ). Stands p.variables.items z x) (sym number) sx;
        is_state
            = has.is_state;
        moves = has.moves;
      };
      first = first;
      reach = r;
      stands = subst (λ (z : ℕ). Stands reaches z r) (sym number) sr;
      edges = edges;
    }

    last : (k : ℕ) (t : ModeTree) → Stands (tree ∷ []) k t → (k ≡ 0) × (tree ≡ t)
    last zero t st = (refl, cc)
    last (suc k) t st = absurd (stands_none k t st)

    sound : (k : ℕ) (t : ModeTree) → Stands (old ++ tree ∷ []) k t → IsTreeAt p moving reaches (n + 1) t
    sound k t st = elim (stands_split old (tree ∷ []) k t st) [
      | inl h ↦ wider t (a.sound k t h)
      | inr h ↦ subst (λ (z : ModeTree). IsTreeAt p moving reaches (n + 1) z) (last h.0 t h.2).1 here
    ]

    ascend : (j k : ℕ) (s t : ModeTree) → j < k → Stands (old ++ tree ∷ []) j s → Stands (old ++ tree ∷ []) k t
        → s.variable.n < t.variable.n
    ascend j k s t l u v = by (stands_split old (tree ∷ []) j s u) (stands_split old (tree ∷ []) k t v)
      where
        by : Stands old j s ⊎ ((i : ℕ) × (j ≡ length old + i) × Stands (tree ∷ []) i s)
            → Stands old k t ⊎ ((i : ℕ) × (k ≡ length old + i) × Stands (tree ∷ []) i t)
            → s.variable.n < t.variable.n
        by (inl f) (inl g) = a.ascend j k s t l f g
        by (inl f) (inr g) =
            let b = (a.sound j s f).below in
            let e = ap (λ (z : ModeTree). z.variable.n) (last g.0 t g.2).1 in omega (arith, b, e, number)
        by (inr f) (inl g) = let w = stands_within old k t g in absurd (omega (arith, f.1))
        by (inr f) (inr g) = absurd (omega (arith, f.1, g.1, (last f.0 s f.2).0, (last g.0 t g.2).0))

    pub one_more : AreTreesBelow p moving reaches (n + 1) (old ++ tree ∷ [])
    one_more = record {
      sound = sound;
      whole = λ m l h. elim (at_most m n l) [
        | inl b ↦ (let w = a.whole m b h in (w.0, w.1, stands_left old (tree ∷ []) w.0 w.1 w.2, w.3))
        | inr e ↦ (length old, tree, stands_next old tree [], number ∙ sym e)
      ];
      ascend = ascend;
    }
