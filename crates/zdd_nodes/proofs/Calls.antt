-- What callers of a store see.
use Rattle.std.proofs.Common.{◌≡◌, ◌≢◌, ℕ, suc, ◌+◌, ◌-◌, ◌<◌, ◌≤◌, Bool, cond, false, true, ◌&&◌, eqb, ap₂, List, [], ◌∷◌, ◌++◌, length, get_or, Some, None, Result, Ok, Err, refl, sym, ap, ◌∙◌, subst, arith, length-append, take, is_ok, is_err, OnOk}
use Rattle.std.specs.Map.{lookup}
use Rattle.std.proofs.Math.Bool.{and-true}
use Rattle.std.proofs.Math.Seq.{take-append_seam}
use Rattle.std.proofs.lemmas.Option.{slice_get-get_or, slice_get_within}
use Rattle.std.proofs.lemmas.List.Elements.{All-nil, All-push, All-from_get_or}
use Rattle.ar_base.proofs.Standing.{stands_some}
use Rattle.zdd_nodes.specs.Families.{Family}
use Rattle.zdd_nodes.specs.FamiliesInside.{node}
use Rattle.zdd_nodes.specs.SectionsInside.{IsMade}
use Rattle.zdd_nodes.specs.Nodes.{NodeId, Stored, at, family, IsFamilyNumber, IsNode, IsSoundStore, IsFullFor, Draws, HasNoRoom, MakesFamily}
use Rattle.zdd_nodes.specs.Nodes.MakesFamily.{added}
use Rattle.zdd_nodes.specs.Kept.{families_of, node_eq, IsStore}
use Rattle.zdd_nodes.specs.declared.Node.{Node}
use Rattle.zdd_nodes.proofs.Canonical.{node_some, node_not_unit}
use Rattle.zdd_nodes.proofs.Lists.{at-seam, nodes_different, some_sets}
use Rattle.zdd_nodes.proofs.Stored.{length-families, families-push, IsCall, is_missing, IsStore-push}

-- the value that callers see
abbrev pub seen : List Node → ℕ → Stored
seen nodes limit = record { families = families_of nodes; limit = limit }

-- the family of the node that is asked for
abbrev pub asked : Stored → Node → Family
asked v n = node n.event.n (family v n.lo.n) (family v n.hi.n)

pub sound_seen : (nodes : List Node) (index : List (Node × NodeId)) (limit : ℕ) (v : Stored) → seen nodes limit ≡ v
    → IsStore nodes index limit → IsSoundStore v
sound_seen nodes index limit v e s = subst IsSoundStore e (record {
  different = s.different;
  families = λ n h. s.families n (omega (arith, h, length-families nodes));
  nodes = λ n two h.
      let long = length-families nodes in
      let kk : n - 2 + 2 ≡ n = omega (arith, two) in
      let found = stands_some nodes (n - 2) (omega (arith, two, h, long)) in
      let m = found.0 in
      record {
        event = m.event.n;
        lo = m.lo.n;
        hi = m.hi.n;
        halves = subst (λ x. IsNode (families_of nodes) x m.event.n m.lo.n m.hi.n) kk (s.each (n - 2) m found.1);
      };
  within = omega (arith, length-families nodes, s.within_limit);
})

pub long_seen : (nodes : List Node) (limit : ℕ) (v : Stored) → seen nodes limit ≡ v → length nodes ≡ length v.families
long_seen nodes limit v e = subst (λ (v : Stored). length nodes ≡ length v.families) e (sym (length-families nodes))

pub split_at : (nodes found : List Node) (index : List (Node × NodeId)) (limit : ℕ) (v : Stored) (k : ℕ) (d : Node)
    → found ≡ nodes → seen nodes limit ≡ v → IsStore nodes index limit → IsFamilyNumber v k → 2 ≤ k
    → (let n = get_or found (k - 2) d in IsNode v.families k n.event.n n.lo.n n.hi.n)
split_at nodes found index limit v k d same e s h two =
    subst (λ (ns : List Node). let n = get_or ns (k - 2) d in IsNode v.families k n.event.n n.lo.n n.hi.n) (sym same)
    (subst (λ (v : Stored). IsFamilyNumber v k → (let n = get_or nodes (k - 2) d in IsNode v.families k n.event.n n.lo.n n.hi.n)) e (λ h.
    let long = length-families nodes in
    let kk : k - 2 + 2 ≡ k = omega arith in
    let n = get_or nodes (k - 2) d in
    subst (λ x. IsNode (families_of nodes) x n.event.n n.lo.n n.hi.n) kk
    (s.each (k - 2) n (slice_get-get_or nodes (k - 2) d (omega (arith, h))))) h)

-- ---- a family that has a number
-- the number n stands for the family
abbrev pub Numbers : Stored → ℕ → Family → Type 0
Numbers v n f = IsFamilyNumber v n × (family v n ≡ f)

pub number_of_lo : (v : Stored) (n : Node) → IsFamilyNumber v n.lo.n → n.hi.n ≡ 0 → Numbers v n.lo.n (asked v n)
number_of_lo v n h z = (h, sym (ap (λ k. node n.event.n (family v n.lo.n) (family v k)) z))

pub number_found : (nodes : List Node) (index : List (Node × NodeId)) (limit : ℕ) (v : Stored) (n : Node) (m : NodeId)
    → seen nodes limit ≡ v → IsStore nodes index limit → lookup (node_eq n) index ≡ Some m → Numbers v m.n (asked v n)
number_found nodes index limit v n m e s l = subst (λ (v : Stored). Numbers v m.n (asked v n)) e
    (let f = s.found n m l in
    let i = s.each (m.n - 2) n f.1 in
    let m2 : m.n - 2 + 2 ≡ m.n = omega (arith, f.0) in (
      omega (arith, slice_get_within nodes (m.n - 2) n f.1, length-families nodes, f.0),
      ap (at (families_of nodes))
          (sym m2) ∙ i.is,
    ))

pub no_room_not : (made : Family) (v : Stored) (n : ℕ) → Numbers v n made → HasNoRoom made v → ⊥
no_room_not made v n t f = f.is_new n t.0 t.1

-- ---- a family that has none
pub room_left : (nodes : List Node) (limit : ℕ) (v : Stored) (made : Family) → seen nodes limit ≡ v
    → length nodes < limit → HasNoRoom made v → ⊥
room_left nodes limit v made e h = subst (λ (v : Stored). HasNoRoom made v → ⊥) e
    (λ f. omega (arith, f.full, length-families nodes))

made_of : (nodes : List Node) (index : List (Node × NodeId)) (limit : ℕ) (n : Node) → IsStore nodes index limit
    → IsCall (families_of nodes) n → IsMade (asked (seen nodes limit) n) (asked (seen nodes limit) n)
made_of nodes index limit n s c = let p = some_sets (families_of nodes) s.different n.hi.n c.hi_some c.hi_in in (refl, node_some n.event.n _ _ p, node_not_unit n.event.n _ _ p)

pub no_room : (nodes : List Node) (index : List (Node × NodeId)) (limit : ℕ) (v : Stored) (n : Node)
    → seen nodes limit ≡ v → IsStore nodes index limit → IsCall v.families n → lookup (node_eq n) index ≡ None
    → limit ≤ length nodes
    → HasNoRoom (asked v n) v
no_room nodes index limit v n e s =
    subst (λ (v : Stored). IsCall v.families n → lookup (node_eq n) index ≡ None → limit ≤ length nodes
    → HasNoRoom (asked v n) v) e (λ c none h.
    record {
      is_new = is_missing nodes index limit n s c none;
      full = omega (arith, length-families nodes, s.within_limit);
    })

pub is_full : (nodes : List Node) (index : List (Node × NodeId)) (limit : ℕ) (v : Stored) (n : Node)
    → seen nodes limit ≡ v → IsStore nodes index limit → IsCall v.families n → lookup (node_eq n) index ≡ None
    → limit ≤ length nodes
    → IsFullFor (IsMade (asked v n)) v
is_full nodes index limit v n e s =
    subst (λ (v : Stored). IsCall v.families n → lookup (node_eq n) index ≡ None → limit ≤ length nodes
    → IsFullFor (IsMade (asked v n)) v) e (λ c none h.
    let f = asked (seen nodes limit) n in
    record {
      family = f;
      allowed = made_of nodes index limit n s c;
      missing = All-from_get_or (λ g. g ≢ f) (families_of nodes) [] (λ j l. λ e.
          is_missing nodes index limit n s c none (suc (suc j)) (omega (arith, l)) e);
      different = nodes_different (families_of nodes) s.different;
      full = omega (arith, length-families nodes, s.within_limit);
    })

pub from_ok : {T E : Type 0} (r : Result T E) (P : Type 0) → is_err r ≡ false → OnOk r P → P
from_ok (Ok x) P h p = p
from_ok (Err x) P h p = let wrong : ⊥ = cc in absurd wrong

pub ok_from_not_err : {T E : Type 0} (r : Result T E) → is_err r ≡ false → is_ok r ≡ true
ok_from_not_err (Ok x) h = refl
ok_from_not_err (Err x) h = let wrong : ⊥ = cc in absurd wrong

pub IsStore-same : (nodes nodes2 : List Node) (index index2 : List (Node × NodeId)) (limit : ℕ) → nodes2 ≡ nodes
    → index2 ≡ index → IsStore nodes index limit → IsStore nodes2 index2 limit
IsStore-same nodes nodes2 index index2 limit p q s =
    subst (λ x. IsStore x index2 limit) (sym p) (subst (λ y. IsStore nodes y limit) (sym q) s)

pub not_ok : {T E : Type 0} (r : Result T E) → is_err r ≡ true → is_ok r ≡ false
not_ok (Ok x) h = let wrong : ⊥ = cc in absurd wrong
not_ok (Err x) h = refl

pub popped_same : {A : Type 0} (xs ys zs : List A) (x : A) (m : ℕ) → zs ≡ xs ++ x ∷ [] → m ≡ length zs
    → ys ≡ take (m - 1) zs → ys ≡ xs
popped_same xs ys zs x m p l q =
    let m1 : m - 1 ≡ length xs = omega (arith, l, ap length p, length-append xs (x ∷ [])) in
    q ∙ ap (λ k. take k zs) m1 ∙ ap (take (length xs)) p ∙ take-append_seam xs (x ∷ [])

-- a node that is added: the call, the lists after it, and its number
module _ (nodes nodes2 : List Node) (index index2 : List (Node × NodeId)) (limit : ℕ) (v : Stored) (n : Node)
    (number : NodeId) (e : seen nodes limit ≡ v) (s : IsStore nodes index limit)
    (c : IsCall v.families n) (absent : lookup (node_eq n) index ≡ None) (room : length nodes < limit)
    (pushed : nodes2 ≡ nodes ++ n ∷ []) (number_is : number.n ≡ length nodes + 2) where
  pub store_new : ((q : Node) → lookup (node_eq q) index2 ≡ cond (node_eq n q) (Some number) (lookup (node_eq q) index))
      → IsStore nodes2 index2 limit
  store_new u =
      let c2 : IsCall (families_of nodes) n = subst (λ (w : Stored). IsCall w.families n) (sym e) c in
      subst (λ ns. IsStore ns index2 limit) (sym pushed)
      (IsStore-push nodes index limit n s c2 absent index2 number room number_is u)

  families2 : families_of nodes2 ≡ families_of nodes ++ asked (seen nodes limit) n ∷ []
  families2 = ap families_of pushed ∙ families-push nodes n

  seen2 : seen nodes2 limit ≡ record { families = v.families ++ asked v n ∷ []; limit = v.limit }
  seen2 = ap (λ fs. record { families = fs; limit = limit }) families2
      ∙ ap (λ (w : Stored). record { families = w.families ++ asked w n ∷ []; limit = w.limit }) e

  number_seen : number.n ≡ length v.families + 2
  number_seen = number_is ∙ ap (λ k. k + 2) (long_seen nodes limit v e)

  pub makes_new : MakesFamily (asked v n) v (seen nodes2 limit) number.n
  makes_new =
      let c2 : IsCall (families_of nodes) n = subst (λ (w : Stored). IsCall w.families n) (sym e) c in
      let new : (k : ℕ) → IsFamilyNumber v k → family v k ≢ asked v n =
      subst (λ (w : Stored). (k : ℕ) → IsFamilyNumber w k → family w k ≢ asked w n) e
      (is_missing nodes index limit n s c2 absent) in
      let m : MakesFamily (asked v n) v (record { families = v.families ++ asked v n ∷ []; limit = v.limit })
      (length v.families + 2) = added new in
      subst (λ w. MakesFamily (asked v n) v w number.n) (sym seen2)
      (subst (λ k. MakesFamily (asked v n) v (record { families = v.families ++ asked v n ∷ []; limit = v.limit }) k)
      (sym number_seen) m)

  pub draws_new : Draws (IsMade (asked v n)) (asked v n) v (seen nodes2 limit) (Ok number)
  draws_new =
      let c2 : IsCall (families_of nodes) n = subst (λ (w : Stored). IsCall w.families n) (sym e) c in
      let made : IsMade (asked v n) (asked v n) =
      subst (λ (w : Stored). IsMade (asked w n) (asked w n)) e (made_of nodes index limit n s c2) in
      let f = asked v n in
      subst (λ w. Draws (IsMade f) f v w (Ok number)) (sym seen2) (record {
        grows = record {
          limit = refl;
          added = f ∷ [];
          families = refl;
          all = All-push (IsMade f) [] f (All-nil (IsMade f)) made;
        };
        ok = (
          omega (arith, number_seen, length-append v.families (f ∷ [])),
          ap (at (v.families ++ f ∷ [])) number_seen
              ∙ at-seam v.families f,
        );
        full = λ x. cc;
      })

-- ---- the derived `==` of nodes
-- what it computes
abbrev pub derived_eq : Node → Node → Bool
derived_eq a b = (eqb a.event.n b.event.n && true) && ((eqb a.lo.n b.lo.n && true) && (eqb a.hi.n b.hi.n && true))

same_nodes : (a b : Node) → derived_eq a b ≡ node_eq a b
same_nodes a b = ap₂ (λ x y. x && y) (and-true (eqb a.event.n b.event.n))
    (ap₂ (λ x y. x && y) (and-true (eqb a.lo.n b.lo.n)) (and-true (eqb a.hi.n b.hi.n)))

lookup_alike : (p q : Node → Bool) → ((k : Node) → p k ≡ q k) → (es : List (Node × NodeId)) → lookup p es ≡ lookup q es
lookup_alike p q h [] = refl
lookup_alike p q h (e ∷ es) = ap₂ (λ b x. cond b (Some e.1) x) (h e.0) (lookup_alike p q h es)

pub derived_lookup : (k : Node) (es : List (Node × NodeId)) → lookup (derived_eq k) es ≡ lookup (node_eq k) es
derived_lookup k es = lookup_alike (derived_eq k) (node_eq k) (same_nodes k) es

pub derived_updates : (k : Node) (n : NodeId) (old new : List (Node × NodeId))
    → ((q : Node) → lookup (derived_eq q) new ≡ cond (derived_eq k q) (Some n) (lookup (derived_eq q) old))
    → (q : Node) → lookup (node_eq q) new ≡ cond (node_eq k q) (Some n) (lookup (node_eq q) old)
derived_updates k n old new u q = sym (derived_lookup q new) ∙ u q
    ∙ ap₂ (λ b x. cond b (Some n) x) (same_nodes k q) (derived_lookup q old)
