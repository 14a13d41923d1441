-- A static system has one list of edges in preorder.
use Rattle.std.proofs.Common.{◌≡◌, ◌+◌, ◌<◌, ◌≤◌, ℕ, zero, suc, List, [], ◌∷◌, ◌++◌, refl, sym, ◌∙◌, ap, subst, arith}
use Rattle.ar_base.specs.Lists.{Stands, IsOneOf}
use Rattle.ar_base.proofs.Standing.{stands_one}
use Rattle.ar_meaning.specs.Systems.{System}
use Rattle.ar_meaning.specs.FactsInside.{AreKeyed}
use Rattle.ar_meaning.specs.Runs.{Label}
use Rattle.ar_firing.specs.Fragment.{Edge, Path, root, edge}
use Rattle.ar_firing.specs.Static.{IsStatic}
use Rattle.ar_firing.specs.Forest.{IsModeVariable, Row, Under, no_more, next, ModeTree, IsModeTree, IsForest}
use Rattle.domains.specs.declared.Value.{Value}
use Rattle.ar_firing.proofs.Ends.{live, end_same, label_same}

module _ {V : Type 0} (sys : System V) (dropped : List ℕ) (keyed : AreKeyed sys.net) (static : IsStatic sys dropped)
    (n : ℕ) where
  pub under_same : {m : Value} {low : ℕ} {ls : List Label} {xs ys : List Row} → Path sys dropped n ls m
      → Under sys dropped n m low xs → Under sys dropped n m low ys → xs ≡ ys
  under_same p (no_more h) (no_more k) = refl
  under_same p (no_more h) (next {to = to} {l = l} i e s d f) = absurd (h l to i e)
  under_same p (next {to = to} {l = l} i e s d f) (no_more h) = absurd (h l to i e)
  under_same {m = m} p (next {to = to} {low = low} {l = l} {es = es} {fs = fs} i e s d f)
      (next {to = on} {l = k} {es = gs} {fs = hs} i' e' s' d' f') =
      let x : l.event < k.event → ⊥ = λ h. s' l to i h e in
      let y : k.event < l.event → ⊥ = λ h. s k on i' h e' in
      let z : l.event ≡ k.event = omega arith in
      let c =
      static.one_edge.one l k n n m m to on (live sys dropped keyed static p e)
      (live sys dropped keyed static p e') z in
      let j : l ≡ k = label_same l k z c.0 in
      let g : Edge sys dropped l n m on = subst (λ q. Edge sys dropped q n m on) (sym j) e' in
      let t : to ≡ on = end_same sys dropped keyed static e g in
      let a : es ≡ gs = under_same (edge p e) d (subst (λ q. Under sys dropped n q 0 gs) (sym t) d') in
      let b : fs ≡ hs = under_same p f (subst (λ q. Under sys dropped n m (q + 1) hs) (sym z) f') in
      rows m l k to on es gs fs hs j t a b
    where
      rows : (m : Value) (l k : Label) (to on : Value) (es gs fs hs : List Row) → l ≡ k → to ≡ on → es ≡ gs → fs ≡ hs
          → ◌≡◌ {A = List Row} (record { from = m; label = l; to = to } ∷ (es ++ fs))
          (record { from = m; label = k; to = on } ∷ (gs ++ hs))
      rows m l k to on es gs fs hs j t a b = cc

module _ {V : Type 0} (sys : System V) (dropped : List ℕ) (keyed : AreKeyed sys.net)
    (static : IsStatic sys dropped) where
  -- a mode variable has one tree
  tree_same : (x y : ModeTree) → IsModeTree sys dropped x → IsModeTree sys dropped y → x.variable ≡ y.variable → x ≡ y
  tree_same x y a b e =
      let v : a.is_mode.variable ≡ b.is_mode.variable =
      stands_one sys.net.variables y.variable a.is_mode.variable b.is_mode.variable
      (subst (λ z. Stands sys.net.variables z a.is_mode.variable) e a.is_mode.stands) b.is_mode.stands in
      let f : x.first ≡ y.first = a.first ∙ (ap (λ z. z.value) v ∙ sym b.first) in
      let p : Path sys dropped y.variable [] y.first = root b.is_mode.stands b.is_mode.is_state (sym b.first) in
      let d : Under sys dropped y.variable y.first 0 x.edges =
      subst (λ z. Under sys dropped y.variable z 0 x.edges) f
      (subst (λ z. Under sys dropped z x.first 0 x.edges) e a.edges) in
      trees x.variable y.variable x.first y.first x.edges y.edges e f
      (under_same sys dropped keyed static y.variable p d b.edges)
    where
      trees : (m n : ℕ) (u v : Value) (es fs : List Row) → m ≡ n → u ≡ v → es ≡ fs
          → ◌≡◌ {A = ModeTree} (record { variable = m; first = u; edges = es })
          (record { variable = n; first = v; edges = fs })
      trees m n u v es fs e f g = cc

  -- the trees of the mode variables from a number on
  record AreTrees (low : ℕ) (trees : List ModeTree) : Type 0 where
    pub sound : (k : ℕ) (tree : ModeTree) → Stands trees k tree → IsModeTree sys dropped tree
    pub above : (k : ℕ) (tree : ModeTree) → Stands trees k tree → low ≤ tree.variable
    pub whole : (n : ℕ) → low ≤ n → IsModeVariable sys dropped n
        → (tree : ModeTree) × IsOneOf trees tree × (tree.variable ≡ n)
    pub ascends : (j k : ℕ) (s t : ModeTree) → j < k → Stands trees j s → Stands trees k t → s.variable < t.variable

  at_head : {low : ℕ} {x y : ModeTree} {xs ys : List ModeTree} → AreTrees low (x ∷ xs) → AreTrees low (y ∷ ys)
      → x.variable ≤ y.variable
  at_head {x = x} {y = y} {xs = xs} a b =
      let m = b.sound zero y refl in
      let t = a.whole y.variable (b.above zero y refl) m.is_mode in
      go t.0 t.1.place t.1.stands t.2
    where
      go : (t : ModeTree) (k : ℕ) → Stands (x ∷ xs) k t → t.variable ≡ y.variable → x.variable ≤ y.variable
      go t zero s e = let i : x ≡ t = cc in let j = ap (λ z. z.variable) i in omega (arith, j, e)
      go t (suc k) s e = let i = a.ascends zero (suc k) x t (omega arith) refl s in omega (arith, i, e)

  rest : {low : ℕ} {x : ModeTree} {xs : List ModeTree} → AreTrees low (x ∷ xs) → AreTrees (suc x.variable) xs
  rest {x = x} {xs = xs} a = record {
    sound = λ k t s. a.sound (suc k) t s;
    above = λ k t s. let i = a.ascends zero (suc k) x t (omega arith) refl s in omega (arith, i);
    whole = λ n h m.
        let i =
        a.above zero x refl in let t = a.whole n (omega (arith, h, i)) m in
        (t.0, go t.0 n h t.1.place t.1.stands t.2, t.2);
    ascends = λ j k s t h p q. a.ascends (suc j) (suc k) s t (omega (arith, h)) p q;
  }
    where
      go : (t : ModeTree) (n : ℕ) → suc x.variable ≤ n → (k : ℕ) → Stands (x ∷ xs) k t → t.variable ≡ n → IsOneOf xs t
      go t n h zero s e = let i : x ≡ t = cc in let j = ap (λ z. z.variable) i in absurd (omega (arith, h, j, e))
      go t n h (suc k) s e = record { place = k; stands = s }

  trees_same : (low : ℕ) (xs ys : List ModeTree) → AreTrees low xs → AreTrees low ys → xs ≡ ys
  trees_same low [] [] a b = refl
  trees_same low [] (y ∷ ys) a b =
      let m = b.sound zero y refl in
      let t = a.whole y.variable (b.above zero y refl) m.is_mode in
      let h = t.1.stands in
      cc
  trees_same low (x ∷ xs) [] a b =
      let m = a.sound zero x refl in
      let t = b.whole x.variable (a.above zero x refl) m.is_mode in
      let h = t.1.stands in
      cc
  trees_same low (x ∷ xs) (y ∷ ys) a b =
      let h = at_head a b in
      let k = at_head b a in
      let v : x.variable ≡ y.variable = omega (arith, h, k) in
      let e : x ≡ y = tree_same x y (a.sound zero x refl) (b.sound zero y refl) v in
      let r : xs ≡ ys =
      trees_same (suc x.variable) xs ys (rest a) (subst (λ z. AreTrees (suc z) ys) (sym v) (rest b)) in cc

  -- a static system has one forest
  pub forest_same : {ts us : List ModeTree} → IsForest sys dropped ts → IsForest sys dropped us → ts ≡ us
  forest_same {ts = ts} {us = us} a b = trees_same zero ts us (from_none a) (from_none b)
    where
      from_none : {ts : List ModeTree} → IsForest sys dropped ts → AreTrees zero ts
      from_none a = record {
        sound = a.sound;
        above = λ k t s. omega arith;
        whole = λ n h m. a.whole n m;
        ascends = a.ascends;
      }
