-- One more tree of a forest, and the firable sets of the whole.
use Rattle.std.proofs.Common.{◌≡◌, ⊎_elim, ℕ, zero, suc, ◌<◌, ◌+◌, List, [], ◌∷◌, ◌++◌, length, map, take, get_or, refl, sym, ap, ap₂, ◌∙◌, subst}
use Rattle.std.proofs.lemmas.List.{take_more, map-append}
use Rattle.ar_base.specs.Lists.{Stands}
use Rattle.ar_base.specs.Lists.Along.{none}
use Rattle.ar_base.proofs.Standing.{stands_none, stands_split}
use Rattle.ar_base.proofs.Items.{along_push}
use Rattle.ar_firing.specs.Forest.{ModeTree}
use Rattle.ar_firing.specs.Listed.{AreListed}
use Rattle.zdd_nodes.specs.Families.{Family}
use Rattle.zdd_nodes.specs.Nodes.{NodeId, Stored, family, IsFamilyNumber}
use Rattle.zdd_nodes.proofs.Growing.{kept, still}
use Rattle.firable_families.specs.FirableInside.{IsPathSet}
use Rattle.firable_families.specs.Walk.{AreTreeFamilies}
use Rattle.gate_diagrams.specs.Walked.{families_left, AreNumbers}
use Rattle.gate_diagrams.specs.Paths.{AddsFamilies}
use Rattle.gate_diagrams.proofs.Stepping.{families_more}

-- the trees that are drawn so far
pub record AreDrawn (trees : List ModeTree) (s : Stored) (ns : List NodeId) : Type 0 where
  pub in_store : AreNumbers s ns
  pub listed : AreTreeFamilies trees (families_left s ns)

pub none_drawn : (s : Stored) → AreDrawn [] s []
none_drawn s = record { in_store = record { each = λ k n i. absurd (stands_none k n i) }; listed = none }

families_kept : (s t : Stored) (ns : List NodeId) → AddsFamilies s t → AreNumbers s ns
    → families_left t ns ≡ families_left s ns
families_kept s t [] g a = refl
families_kept s t (n ∷ ns) g a =
    ap₂ (λ (f : Family) (fs : List Family). f ∷ fs) (kept (λ h. Unit {0}) s t n.n g (a.each zero n refl))
    (families_kept s t ns g (record { each = λ k m i. a.each (suc k) m i }))

pub tree_drawn : (trees : List ModeTree) (s t : Stored) (ns : List NodeId) (tree : ModeTree) (n : NodeId)
    → AreDrawn trees s ns → AddsFamilies s t → IsFamilyNumber t n.n
    → AreListed (IsPathSet tree) (family t n.n) → AreDrawn (trees ++ tree ∷ []) t (ns ++ n ∷ [])
tree_drawn trees s t ns tree n a g i l = record {
  in_store = record {
    each = λ k m x. ⊎_elim (λ y. still (λ h. Unit {0}) s t m.n g (a.in_store.each k m y))
        (λ y. last y.0 m y.2) (stands_split ns (n ∷ []) k m x);
  };
  listed = subst (AreTreeFamilies (trees ++ tree ∷ [])) (sym (families_more t ns (n ∷ [])))
      (along_push _ _ tree (family t n.n)
      (subst (AreTreeFamilies trees) (sym (families_kept s t ns g a.in_store)) a.listed) l);
}
  where
    last : (j : ℕ) (m : NodeId) → Stands (n ∷ []) j m → IsFamilyNumber t m.n
    last zero m x = let q : n ≡ m = cc in subst (λ (z : NodeId). IsFamilyNumber t z.n) q i
    last (suc j) m x = absurd (stands_none j m x)

pub next_drawn : {A : Type 0} (f : A → ModeTree) (trees : List A) (k : ℕ) (tree : A) (s t : Stored)
    (ns ms : List NodeId) (n : NodeId) → k < length trees → tree ≡ get_or trees k tree
    → AreDrawn (map f (take k trees)) s ns → AddsFamilies s t → IsFamilyNumber t n.n
    → AreListed (IsPathSet (f tree)) (family t n.n) → ms ≡ ns ++ n ∷ []
    → AreDrawn (map f (take (k + 1) trees)) t ms
next_drawn f trees k tree s t ns ms n l at a g i listed is =
    let more : map f (take (k + 1) trees) ≡ map f (take k trees) ++ f tree ∷ [] =
    ap (map f) (take_more trees k tree l ∙ ap (λ b. take k trees ++ b ∷ []) (sym at))
    ∙ map-append f (take k trees) (tree ∷ []) in
    subst (λ z. AreDrawn z t ms) (sym more)
    (subst (AreDrawn (map f (take k trees) ++ f tree ∷ []) t) (sym is)
    (tree_drawn (map f (take k trees)) s t ns (f tree) n a g i listed))
