-- A store keeps what it keeps when a node is added.
use Rattle.std.proofs.Common.{◌≡◌, ◌≢◌, ℕ, zero, suc, ◌+◌, ◌-◌, ◌<◌, ◌≤◌, Bool, true, false, cond, ◌&&◌, eqb, List, [], ◌∷◌, ◌++◌, length, get_or, slice_get, Some, None, refl, sym, ap, ◌∙◌, subst, arith, length-append, ⊎_elim, ◌⊎◌, eqb-true, eq-eqb}
use Rattle.std.specs.Map.{lookup}
use Rattle.std.proofs.lemmas.Bool.{and_parts}
use Rattle.std.proofs.lemmas.Option.{slice_get_within, slice_get-get_or, get_or_from_slice_get}
use Rattle.ar_base.specs.Lists.{AreDifferent}
use Rattle.ar_base.specs.declared.numbers.Id.{Id}
use Rattle.ar_base.proofs.Comparing.{id_from}
use Rattle.zdd_nodes.specs.Families.{Family}
use Rattle.zdd_nodes.specs.FamiliesInside.{node, IsAbove, IsFamily}
use Rattle.zdd_nodes.specs.Nodes.{NodeId, all_families, at, IsNode}
use Rattle.zdd_nodes.specs.Kept.{grown, families_of, node_eq, IsStore}
use Rattle.zdd_nodes.specs.declared.Node.{Node}
use Rattle.zdd_nodes.proofs.Order.{IsFamily-node, IsFamily-nil, IsFamily-unit}
use Rattle.zdd_nodes.proofs.Canonical.{node_same, node_some, node_not_unit}
use Rattle.zdd_nodes.proofs.Lists.{slice_get-push_cases, slice_get-push_here, slice_get-push_before, AreDifferent-push, at-append, at-seam, same_number, some_sets}

length-grown : (fs : List Family) (ns : List Node) → length (grown fs ns) ≡ length fs + length ns
length-grown fs [] = omega arith
length-grown fs (n ∷ ns) = let f = node n.event.n (at fs n.lo.n) (at fs n.hi.n) in omega (arith, length-grown (fs ++ f ∷ []) ns, length-append fs (f ∷ []))

grown-push : (fs : List Family) (ns : List Node) (n : Node)
    → grown fs (ns ++ n ∷ []) ≡ grown fs ns ++ node n.event.n (at (grown fs ns) n.lo.n) (at (grown fs ns) n.hi.n) ∷ []
grown-push fs [] n = refl
grown-push fs (m ∷ ns) n = grown-push (fs ++ node m.event.n (at fs m.lo.n) (at fs m.hi.n) ∷ []) ns n

pub length-families : (ns : List Node) → length (families_of ns) ≡ length ns
unfolding families_of
length-families ns = omega (arith, length-grown [] ns)

pub families-push : (ns : List Node) (n : Node)
    → families_of (ns ++ n ∷ []) ≡ families_of ns ++ node n.event.n (at (families_of ns) n.lo.n)
    (at (families_of ns) n.hi.n) ∷ []
unfolding families_of
families-push ns n = grown-push [] ns n

families-new : (k : ℕ) → k < 2 → IsFamily (at (families_of []) k)
unfolding families_of
families-new zero h = IsFamily-nil
families-new (suc zero) h = IsFamily-unit
families-new (suc (suc k)) h = absurd (omega (arith, h))

different-new : AreDifferent (all_families (families_of []))
unfolding families_of
different-new = record { one = two }
  where
    two : (m n : ℕ) (a : Family) → slice_get (all_families []) m ≡ Some a → slice_get (all_families []) n ≡ Some a → m ≡ n
    two zero zero a p q = refl
    two zero (suc zero) a p q = let e : ⊥ = cc in absurd e
    two zero (suc (suc n)) a p q = let e : ⊥ = cc in absurd e
    two (suc zero) zero a p q = let e : ⊥ = cc in absurd e
    two (suc zero) (suc zero) a p q = refl
    two (suc zero) (suc (suc n)) a p q = let e : ⊥ = cc in absurd e
    two (suc (suc m)) n a p q = let e : ⊥ = cc in absurd e

pub IsStore-new : (limit : ℕ) → limit ≤ 16777216 → IsStore [] [] limit
IsStore-new limit h = record {
  each = λ k n e. cc;
  families = λ k l. families-new k (omega (arith, l));
  different = different-new;
  found = λ k n e. cc;
  listed = λ k n e. cc;
  within_limit = omega arith;
  limit_small = h;
}

node_from : (a b : Node) → a.event ≡ b.event → a.lo ≡ b.lo → a.hi ≡ b.hi → a ≡ b
node_from a b p q r =
    ap (λ x. record { event = x; lo = a.lo; hi = a.hi }) p ∙ ap (λ x. record { event = b.event; lo = x; hi = a.hi }) q
    ∙ ap (λ x. record { event = b.event; lo = b.lo; hi = x }) r

node_eq-parts : (a b c d e f : ℕ) → (eqb a b && (eqb c d && eqb e f)) ≡ true → (a ≡ b) × (c ≡ d) × (e ≡ f)
node_eq-parts a b c d e f h = let p = and_parts _ _ h in let q = and_parts _ _ p.1 in (eqb-true a b p.0, eqb-true c d q.0, eqb-true e f q.1)

node_eq-true : (a b : Node) → node_eq a b ≡ true → a ≡ b
node_eq-true a b h = let t = node_eq-parts a.event.n b.event.n a.lo.n b.lo.n a.hi.n b.hi.n h in node_from a b (id_from _ _ t.0) (id_from _ _ t.1) (id_from _ _ t.2)

node_eq-refl : (a : Node) → node_eq a a ≡ true
node_eq-refl a = rw (eq-eqb a.event.n a.event.n refl, eq-eqb a.lo.n a.lo.n refl, eq-eqb a.hi.n a.hi.n refl) refl

IsNode-more : (fs gs : List Family) (k v lo hi : ℕ) → k ≤ length fs + 2 → at (fs ++ gs) k ≡ node v (at fs lo) (at fs hi)
    → lo < k → hi < k → at fs hi ≢ [] → IsAbove v (at fs lo) → IsAbove v (at fs hi) → IsNode (fs ++ gs) k v lo hi
IsNode-more fs gs k v lo hi h e p q z a b =
    let el = at-append fs gs lo (omega arith) in
    let eh = at-append fs gs hi (omega arith) in
    record {
      lo_before = p;
      hi_before = q;
      hi_some = λ x. z (sym eh ∙ x);
      lo_above = subst (IsAbove v) (sym el) a;
      hi_above = subst (IsAbove v) (sym eh) b;
      is = e ∙ ap (λ x. node v x (at fs hi)) (sym el) ∙ ap (λ x. node v (at (fs ++ gs) lo) x) (sym eh);
    }

pub IsNode-grow : (fs gs : List Family) (k v lo hi : ℕ) → k < length fs + 2 → IsNode fs k v lo hi
    → IsNode (fs ++ gs) k v lo hi
IsNode-grow fs gs k v lo hi h i = IsNode-more fs gs k v lo hi (omega arith) (at-append fs gs k h ∙ i.is) i.lo_before
    i.hi_before i.hi_some i.lo_above i.hi_above

-- what a call of `node` knows of its arguments, where the upper half is not empty
pub record IsCall (fs : List Family) (n : Node) : Type 0 where
  pub lo_in : n.lo.n < length fs + 2
  pub hi_in : n.hi.n < length fs + 2
  pub hi_some : 0 < n.hi.n
  pub lo_above : IsAbove n.event.n (at fs n.lo.n)
  pub hi_above : IsAbove n.event.n (at fs n.hi.n)

-- the family that a node over these families stands for
abbrev pub made : List Family → Node → Family
made fs n = node n.event.n (at fs n.lo.n) (at fs n.hi.n)

module _ (nodes : List Node) (index : List (Node × NodeId)) (limit : ℕ) (n : Node) (s : IsStore nodes index limit)
    (c : IsCall (families_of nodes) n) (absent : lookup (node_eq n) index ≡ None) where
  abbrev fs : List Family
  fs = families_of nodes

  hi_sets : at fs n.hi.n ≢ []
  hi_sets = some_sets fs s.different n.hi.n c.hi_some c.hi_in

  stored_not : (k : ℕ) (m : Node) → slice_get nodes k ≡ Some m → at fs (k + 2) ≢ made fs n
  stored_not k m was = λ e.
      let i = s.each k m was in
      let long = length-families nodes in
      let k_in = slice_get_within nodes k m was in
      let m_lo : m.lo.n < length fs + 2 = omega (arith, i.lo_before) in
      let m_hi : m.hi.n < length fs + 2 = omega (arith, i.hi_before) in
      let t = node_same m.event.n n.event.n (at fs m.hi.n) (at fs n.hi.n) (at fs m.lo.n) (at fs n.lo.n) i.hi_some
      hi_sets i.lo_above c.lo_above (sym i.is ∙ e) in
      let lo_same = same_number fs s.different m.lo.n n.lo.n m_lo c.lo_in t.2 in
      let hi_same = same_number fs s.different m.hi.n n.hi.n m_hi c.hi_in t.1 in
      let mn : m ≡ n = node_from m n (id_from _ _ t.0) (id_from _ _ lo_same) (id_from _ _ hi_same) in
      let l = s.listed k m was in
      let found : lookup (node_eq n) index ≡ Some l.0 = ap (λ x. lookup (node_eq x) index) (sym mn) ∙ l.1 in
      let e : ⊥ = cc in absurd e

  -- the node that is made is none that is stored
  pub is_missing : (j : ℕ) → j < length fs + 2 → at fs j ≢ made fs n
  is_missing zero h = λ e. node_some n.event.n _ _ hi_sets (sym e)
  is_missing (suc zero) h = λ e. node_not_unit n.event.n _ _ hi_sets (sym e)
  is_missing (suc (suc k)) h = λ e.
      let k_in : k < length nodes = omega (arith, length-families nodes) in
      let two : k + 2 ≡ suc (suc k) = omega arith in
      stored_not k (get_or nodes k n) (slice_get-get_or nodes k n k_in) (ap (at fs) two ∙ e)

  module _ (index2 : List (Node × NodeId)) (number : NodeId) (room : length nodes < limit)
      (number_is : number.n ≡ length nodes + 2)
      (updates : (q : Node) → lookup (node_eq q) index2
      ≡ cond (node_eq n q) (Some number) (lookup (node_eq q) index)) where
    found_after : (k : Node) (m : NodeId) → lookup (node_eq k) index2 ≡ Some m → (b : Bool) → node_eq n k ≡ b
        → (2 ≤ m.n) × (slice_get (nodes ++ n ∷ []) (m.n - 2) ≡ Some k)
    found_after k m h true e =
        let g : Some number ≡ Some m = ap (λ b. cond b (Some number) (lookup (node_eq k) index)) (sym e)
        ∙ sym (updates k) ∙ h in
        let mm : number ≡ m = cc in
        let mn : m.n ≡ length nodes + 2 = ap (λ x. x.n) (sym mm) ∙ number_is in
        let ml : m.n - 2 ≡ length nodes = omega arith in
        (omega arith, ap (slice_get (nodes ++ n ∷ [])) ml ∙ slice_get-push_here nodes n ∙ ap Some (node_eq-true n k e))
    found_after k m h false e =
        let g : lookup (node_eq k) index ≡ Some m =
        ap (λ b. cond b (Some number) (lookup (node_eq k) index)) (sym e) ∙ sym (updates k) ∙ h in
        let o = s.found k m g in
        (o.0, slice_get-push_before nodes n (m.n - 2) k o.1)

    listed_old : (k : ℕ) (m : Node) → slice_get nodes k ≡ Some m → (b : Bool) → node_eq n m ≡ b
        → (x : NodeId) × (lookup (node_eq m) index2 ≡ Some x) × (x.n ≡ k + 2)
    listed_old k m l true e = let t = s.listed k m l in
        let h : lookup (node_eq n) index ≡ Some t.0 = ap (λ z. lookup (node_eq z) index) (node_eq-true n m e) ∙ t.1 in
        let o : ⊥ = cc in absurd o
    listed_old k m l false e = let t = s.listed k m l in (t.0, updates m ∙ ap (λ b. cond b (Some number) (lookup (node_eq m) index)) e ∙ t.1, t.2)

    listed_new : (k : ℕ) (m : Node) → (k ≡ length nodes) × (m ≡ n)
        → (x : NodeId) × (lookup (node_eq m) index2 ≡ Some x) × (x.n ≡ k + 2)
    listed_new k m t = (
      number,
      updates m ∙ ap (λ z. cond (node_eq n z) (Some number) (lookup (node_eq m) index)) t.1
          ∙ ap (λ b. cond b (Some number) (lookup (node_eq m) index)) (node_eq-refl n),
      number_is ∙ ap (λ x. x + 2) (sym t.0),
    )

    each_new : (k : ℕ) (m : Node) → (k ≡ length nodes) × (m ≡ n)
        → IsNode (fs ++ made fs n ∷ []) (k + 2) m.event.n m.lo.n m.hi.n
    each_new k m t =
        let kl : k + 2 ≡ length fs + 2 = omega (arith, length-families nodes, t.0) in
        subst (λ x. IsNode (fs ++ made fs n ∷ []) (k + 2) x.event.n x.lo.n x.hi.n) (sym t.1)
        (IsNode-more fs (made fs n ∷ []) (k + 2) n.event.n n.lo.n n.hi.n (omega arith)
        (ap (at (fs ++ made fs n ∷ [])) kl ∙ at-seam fs (made fs n)) (omega (arith, c.lo_in))
        (omega (arith, c.hi_in)) hi_sets c.lo_above c.hi_above)

    families_after : (k : ℕ) → k < length (nodes ++ n ∷ []) + 2 → IsFamily (at (fs ++ made fs n ∷ []) k)
    families_after k h =
        let long = length-families nodes in
        let split : (k < length fs + 2) ⊎ (k ≡ length fs + 2) = let x = length-append nodes (n ∷ []) in grind arith in
        ⊎_elim
        (λ l. subst IsFamily (sym (at-append fs (made fs n ∷ []) k l)) (s.families k (omega arith)))
        (λ e. subst IsFamily (sym (ap (at (fs ++ made fs n ∷ [])) e ∙ at-seam fs (made fs n)))
        (IsFamily-node n.event.n (at fs n.lo.n) (at fs n.hi.n) c.lo_above c.hi_above
        (s.families n.lo.n (omega (arith, c.lo_in))) (s.families n.hi.n (omega (arith, c.hi_in)))))
        split

    different_after : AreDifferent (all_families (fs ++ made fs n ∷ []))
    different_after = AreDifferent-push (all_families fs) (made fs n) s.different
        (λ k h. is_missing k (omega (arith, slice_get_within (all_families fs) k (made fs n) h))
        (get_or_from_slice_get (all_families fs) k (made fs n) [] h))

    pub IsStore-push : IsStore (nodes ++ n ∷ []) index2 limit
    IsStore-push =
        let e = families-push nodes n in
        let long = length-families nodes in
        record {
          each = λ k m h. subst (λ gs. IsNode gs (k + 2) m.event.n m.lo.n m.hi.n) (sym e) (⊎_elim
              (λ l. let k_in = slice_get_within nodes k m l in IsNode-grow fs (made fs n ∷ []) (k + 2) m.event.n m.lo.n m.hi.n (omega (arith, long)) (s.each k m l))
              (each_new k m)
              (slice_get-push_cases nodes n k m h));
          families = λ k h. subst (λ gs. IsFamily (at gs k)) (sym e) (families_after k h);
          different = subst (λ gs. AreDifferent (all_families gs)) (sym e) different_after;
          found = λ k m h. found_after k m h (node_eq n k) refl;
          listed = λ k m h. ⊎_elim (λ l. listed_old k m l (node_eq n m) refl) (listed_new k m)
              (slice_get-push_cases nodes n k m h);
          within_limit = omega (arith, length-append nodes (n ∷ []));
          limit_small = s.limit_small;
        }
