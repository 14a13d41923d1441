-- Tables of places, node by node.
use Rattle.std.proofs.Common.{◌≡◌, ℕ, zero, suc, ◌+◌, ◌≤◌, inl, inr, Bool, true, false, cond, List, [], ◌∷◌, ◌++◌, take, take_all, length, Option, Some, None, refl, sym, ◌∙◌, ap, subst, arith, length-take}
use Rattle.std.specs.HashMap.{HashMap, get}
use Rattle.ar_base.specs.Lists.{Stands}
use Rattle.ar_base.proofs.Standing.{stands_none, stands_within, stands_left, stands_right, stands_split}
use Rattle.class_table.proofs.Taken.{take_next}
use Rattle.hierarchy.specs.Finding.{FindsNode}
use Rattle.hierarchy.specs.declared.tree.MemNode.{MemNode}
use Rattle.bind_scopes.specs.Indexed.{is_same_index, TellsNodes}
use Rattle.bind_scopes.proofs.Pairs.{pair_same, pair_one}

module _ {A S : Type 0} (node : A → MemNode) where
  pub tells_none : (nodes : List A) (places : HashMap (ℕ × ℕ) ℕ S) → places.entries ≡ []
      → TellsNodes node (take 0 nodes) places
  tells_none nodes places e u x = rw e (λ n d s. absurd (stands_none n d s))

  -- one node more
  module _ (nodes : List A) (n : ℕ) (d : A) (at : Stands nodes n d) (old new : HashMap (ℕ × ℕ) ℕ S) where
    abbrev pub before : List A
    before = take n nodes

    far : n ≡ length before + 0
    far = let w = stands_within nodes n d at in let l = length-take n nodes in omega (arith, w, l)

    pub tells_more : ((q : ℕ × ℕ) → get is_same_index new q
        ≡ cond (is_same_index ((node d).unit.n, (node d).name.n) q) (Some n) (get is_same_index old q))
        → TellsNodes node before old
        → TellsNodes node (take (n + 1) nodes) new
    tells_more up h u x =
        let key : ℕ × ℕ = ((node d).unit.n, (node d).name.n) in
        subst (λ (xs : List A). FindsNode node xs u x (get is_same_index new (u, x))) (sym (take_next nodes n d at))
        (subst (λ (r : Option ℕ). FindsNode node (before ++ d ∷ []) u x r) (sym (up (u, x)))
        (by (is_same_index key (u, x)) refl))
      where
        kept : ((node d).unit.n ≡ u → (node d).name.n ≡ x → ⊥) → (r : Option ℕ) → FindsNode node before u x r
            → FindsNode node (before ++ d ∷ []) u x r
        kept other None f = λ k e s un nn. elim (stands_split before (d ∷ []) k e s) [
          | inl t ↦ f k e t un nn
          | inr t ↦ here t.0 e t.2 un nn
        ]
          where
            here : (k : ℕ) (e : A) → Stands (d ∷ []) k e → (node e).unit.n ≡ u → (node e).name.n ≡ x → ⊥
            here zero e s un nn = let q : d ≡ e = cc in other (ap (λ (z : A). (node z).unit.n) q ∙ un) (ap (λ (z : A). (node z).name.n) q ∙ nn)
            here (suc k) e s un nn = stands_none k e s
        kept other (Some k) f = (f.0, stands_left before (d ∷ []) k f.0 f.1, f.2, f.3)

        by : (b : Bool) → is_same_index ((node d).unit.n, (node d).name.n) (u, x) ≡ b
            → FindsNode node (before ++ d ∷ []) u x (cond b (Some n) (get is_same_index old (u, x)))
        by true e = let w = pair_one (node d).unit.n (node d).name.n u x e in (d, stands_right before (d ∷ []) 0 n d far refl, w.0, w.1)
        by false e = kept (λ p q. apart p q) (get is_same_index old (u, x)) (h u x)
          where
            apart : (node d).unit.n ≡ u → (node d).name.n ≡ x → ⊥
            apart p q = let s = pair_same (node d).unit.n (node d).name.n in let r = subst (λ (z : ℕ). is_same_index ((node d).unit.n, (node d).name.n) ((node d).unit.n, z) ≡ true) q s in
                let t = subst (λ (z : ℕ). is_same_index ((node d).unit.n, (node d).name.n) (z, x) ≡ true) p r in cc

  -- all nodes
  pub tells_all : (nodes : List A) (n : ℕ) (places : HashMap (ℕ × ℕ) ℕ S) → length nodes ≤ n
      → TellsNodes node (take n nodes) places → TellsNodes node nodes places
  tells_all nodes n places l h = subst (λ (xs : List A). TellsNodes node xs places) (take_all n nodes l) h
