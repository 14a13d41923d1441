-- The numbers of planned ways stand for the ways.
use Rattle.std.proofs.Common.{◌≡◌, ℕ, zero, suc, ◌+◌, Bool, List, [], ◌∷◌, ◌++◌, length, map, take, refl, sym, subst, arith}
use Rattle.std.specs.List.{flat_map, range_with_len}
use Rattle.std.proofs.lemmas.List.Sums.{sum_by-cons}
use Rattle.ar_base.specs.Lists.{Stands, IsOneOf, Along}
use Rattle.ar_base.specs.Lists as l
use Rattle.ar_base.proofs.Standing.{stands_one, stands_none, stands_left, stands_right, along_back, along_length, one_first, one_rest}
use Rattle.ar_base.proofs.Items.{along_append}
use Rattle.ar_meaning.specs.Systems.{Tree, Leaf, Joint, Branches, Empty, Branch}
use Rattle.ar_meaning.specs.Expand.{EventDeclaration, Member, One, Synchronises, Ways, Members_give, no_member, one, synchronises, Parts_give, no_part, choice, choices}
use Rattle.ar_meaning.specs.ExpandInside.{AreKeyedEvents}
use Rattle.ar_meaning.specs.Numbered.{Body, Acts, Joins, Means_way, leaf, joint, Mean_parts, part}
use Rattle.ar_meaning.specs.Numbered as m
use Rattle.ar_meaning.proofs.ImageWays.{along_map}
use Rattle.ar_meaning.proofs.OneRun.{ways_same}
use Rattle.sync_expand.specs.Expanding.{AreWays}
use Rattle.sync_expand.specs.Plans.{first_of, choices_by, bodies_by, numbered_from, planned_ways}
use Rattle.sync_expand.specs.Planned.{all_bodies, IsResolved, acts, joins}
use Rattle.sync_expand.proofs.WaysLemmas.{ways_at, count_read, own_members}

-- two lists of ways of the same events are one
pub ways_one : {L : Type 0} (ds : List (EventDeclaration L ℕ)) → AreKeyedEvents ds
    → {xs : List (EventDeclaration L ℕ)} {a b : List (List (Tree L))} → Along (λ d ts. Ways ds d.key ts) xs a
    → Along (λ d ts. Ways ds d.key ts) xs b → a ≡ b
ways_one ds keyed l.none l.none = refl
ways_one ds keyed (l.one_and v vs) (l.one_and w ws) = let e = ways_same ds keyed v w in let i = ways_one ds keyed vs ws in cc

module _ {L : Type 0} (ds : List (EventDeclaration L ℕ)) (keyed : AreKeyedEvents ds)
    (numbered : (n : ℕ) (d : EventDeclaration L ℕ) → Stands ds n d → d.key ≡ n) (wss : List (List (Tree L)))
    (are : AreWays ds wss) where
  -- each number is that of the way of its part
  data IsChoice : List (Bool × ℕ) → Branches L → Type 0 where
    none : IsChoice [] Empty
    with_one : {must : Bool} {n : ℕ} {ns : List (Bool × ℕ)} {t : Tree L} {bs : Branches L} (e k : ℕ)
        (ts : List (Tree L)) → Stands wss e ts → Stands ts k t → n ≡ first_of (map length wss) e + k → IsChoice ns bs
        → IsChoice ((must, n) ∷ ns) (Branch must t bs)

  choice_blocks : (must : Bool) (e : ℕ) (ts : List (Tree L)) → Stands wss e ts
      → {cs : List (List (Bool × ℕ))} {bss : List (Branches L)} → Along IsChoice cs bss → (k n : ℕ) (us : List (Tree L))
      → n ≡ first_of (map length wss) e + k → ((j : ℕ) (t : Tree L) → Stands us j t → Stands ts (k + j) t)
      → Along IsChoice (flat_map (λ i. map (λ c. (must, i) ∷ c) cs) (range_with_len n (length us)))
      (choices must us bss)
  choice_blocks must e ts s all k n [] f h = l.none
  choice_blocks must e ts s all k n (t ∷ us) f h =
      along_append
      (along_map (λ c. (must, n) ∷ c) (λ bs. Branch must t bs) (λ c bs i. with_one e k ts s (subst (λ (x : ℕ). Stands ts x t) (let z : k + 0 ≡ k = omega arith in z) (h 0 t refl)) f i) all)
      (choice_blocks must e ts s all (k + 1) (n + 1) us (omega (arith, f)) (λ j u i. subst (λ (x : ℕ). Stands ts x u) (let z : k + suc j ≡ k + 1 + j = omega arith in z) (h (suc j) u i)))

  choices_match : {ps : List (Bool × ℕ)} {bss : List (Branches L)} → Parts_give ds ps bss
      → Along IsChoice (choices_by (map length wss) ps) bss
  choices_match no_part = l.one_and none l.none
  choices_match (choice {must = must} {e = e} {ps = ps} {ts = ts} {bss = bss} w p) =
      let c = count_read ds keyed numbered wss are e ts w in
      let s = ways_at ds keyed numbered wss are e ts w in
      subst (λ (n : ℕ). Along IsChoice (flat_map (λ i. map (λ c. (must, i) ∷ c) (choices_by (map length wss) ps))
      (range_with_len (first_of (map length wss) e) n)) (choices must ts bss)) (sym c)
      (choice_blocks must e ts s (choices_match p) 0 (first_of (map length wss) e) ts (omega arith) (λ j t i. subst (λ (x : ℕ). Stands ts x t) (let z : j ≡ 0 + j = omega arith in z) i))

  -- the body is that of the way
  data IsBody : Body L → Tree L → Type 0 where
    of_leaf : {x : L} → IsBody (Acts x) (Leaf x)
    of_joint : {ns : List (Bool × ℕ)} {bs : Branches L} → IsChoice ns bs → IsBody (Joins ns) (Joint bs)

  members_match : (k : ℕ) {ms : List (Member L ℕ)} {ts : List (Tree L)} → Members_give ds ms ts
      → Along IsBody (bodies_by (λ i x. x) (map length wss) k ms) ts
  members_match k no_member = l.none
  members_match k (one d) = l.one_and of_leaf (members_match (k + 1) d)
  members_match k (synchronises p d) =
      along_append (along_map Joins Joint (λ ns bs c. of_joint c) (choices_match p)) (members_match (k + 1) d)

  -- the body at a way's number is that of the way
  body_stands : {xs : List (EventDeclaration L ℕ)} {uss : List (List (Tree L))}
      → ((d : EventDeclaration L ℕ) → IsOneOf xs d → IsOneOf ds d) → Along (λ d ts. Ways ds d.key ts) xs uss
      → (e k : ℕ) (ts : List (Tree L)) (t : Tree L) → Stands uss e ts → Stands ts k t
      → (b : Body L) × Stands (all_bodies (map length wss) xs) (first_of (map length uss) e + k) b × IsBody b t
  body_stands of l.none e k ts t s u = absurd (stands_none e ts s)
  body_stands of (l.one_and {a = d} {b = us} {xs = xs} {ys = uss} w ws) zero k ts t s u =
      let same : us ≡ ts = stands_one (us ∷ uss) 0 us ts refl s in
      let o = of d (one_first d xs) in
      let m = members_match 0 (own_members ds keyed numbered wss are o.place d us o.stands w) in
      let b = along_back _ _ m k t (subst (λ (x : List (Tree L)). Stands x k t) (sym same) u) in
      (b.0, subst (λ (n : ℕ). Stands (all_bodies (map length wss) (d ∷ xs)) n b.0) (let z : k ≡ 0 + k = omega arith in z) (stands_left (bodies_by (λ i x. x) (map length wss) 0 d.members) (all_bodies (map length wss) xs) k b.0 b.1), b.2)
  body_stands of (l.one_and {a = d} {b = us} {xs = xs} {ys = uss} w ws) (suc e) k ts t s u =
      let o = of d (one_first d xs) in
      let m = members_match 0 (own_members ds keyed numbered wss are o.place d us o.stands w) in
      let b = body_stands (λ x i. of x (one_rest d xs x i)) ws e k ts t s u in
      let n = along_length _ _ m in
      let f : first_of (map length (us ∷ uss)) (suc e) ≡ length us + first_of (map length uss) e =
      sum_by-cons (λ x. x) (length us) (take e (map length uss)) in (
        b.0,
        stands_right (bodies_by (λ i x. x) (map length wss) 0 d.members) (all_bodies (map length wss) xs)
            (first_of (map length uss) e + k) (first_of (map length (us ∷ uss)) (suc e) + k) b.0 (omega (arith, f, n))
            b.1,
        b.2,
      )

  leaf_means : (x : L) (n : ℕ) (b : Body L) → Stands (all_bodies (map length wss) ds) n b → IsBody b (Leaf x)
      → Means_way (all_bodies (map length wss) ds) n (Leaf x)
  leaf_means x n b s of_leaf = leaf s

  joint_means : (bs : Branches L) (n : ℕ) (b : Body L) → Stands (all_bodies (map length wss) ds) n b
      → IsBody b (Joint bs) → ((ns : List (Bool × ℕ)) → IsChoice ns bs
      → Mean_parts (all_bodies (map length wss) ds) ns bs)
      → Means_way (all_bodies (map length wss) ds) n (Joint bs)
  joint_means bs n b s (of_joint {ns = ns} c) mean = joint s (mean ns c)

  mutual
    pub way_means : (t : Tree L) (e k : ℕ) (ts : List (Tree L)) → Stands wss e ts → Stands ts k t
        → Means_way (all_bodies (map length wss) ds) (first_of (map length wss) e + k) t
    way_means (Leaf x) e k ts s u = let b = body_stands (λ d i. i) are e k ts (Leaf x) s u in leaf_means x (first_of (map length wss) e + k) b.0 b.1 b.2
    way_means (Joint bs) e k ts s u = let b = body_stands (λ d i. i) are e k ts (Joint bs) s u in joint_means bs (first_of (map length wss) e + k) b.0 b.1 b.2 (λ ns c. parts_mean bs ns c)

    parts_mean : (bs : Branches L) (ns : List (Bool × ℕ)) → IsChoice ns bs
        → Mean_parts (all_bodies (map length wss) ds) ns bs
    parts_mean Empty ns none = m.no_part
    parts_mean (Branch must t bs) ns (with_one {ns = rest} e k ts s u f c) =
        part (subst (λ (n : ℕ). Means_way (all_bodies (map length wss) ds) n t) (sym f) (way_means t e k ts s u))
        (parts_mean bs rest c)

-- each way of the plan with its transition in it
module _ {L : Type 0} (ds : List (EventDeclaration L ℕ)) (counts : List ℕ) where
  members_resolved : (d : EventDeclaration L ℕ) → Stands ds d.key d → (k n : ℕ) (ms : List (Member L ℕ))
      → ((j : ℕ) (x : L) → Stands ms j (One x) → Stands d.members (k + j) (One x))
      → Along (IsResolved ds) (numbered_from d.key n (bodies_by (λ i x. i) counts k ms))
      (bodies_by (λ i x. x) counts k ms)
  members_resolved d s k n [] h = l.none
  members_resolved d s k n (One x ∷ ms) h =
      l.one_and (acts refl s (subst (λ (i : ℕ). Stands d.members i (One x)) (let z : k + 0 ≡ k = omega arith in z) (h 0 x refl)))
      (members_resolved d s (k + 1) (n + 1) ms (λ j y i. subst (λ (a : ℕ). Stands d.members a (One y)) (let z : k + suc j ≡ k + 1 + j = omega arith in z) (h (suc j) y i)))
  members_resolved d s k n (Synchronises ps ∷ ms) h = go n (choices_by counts ps) (λ i. members_resolved d s (k + 1) i ms (λ j y u. subst (λ (a : ℕ). Stands d.members a (One y)) (let z : k + suc j ≡ k + 1 + j = omega arith in z) (h (suc j) y u)))
    where
      go : (n : ℕ) (cs : List (List (Bool × ℕ)))
          → ((i : ℕ) → Along (IsResolved ds) (numbered_from d.key i (bodies_by (λ i x. i) counts (k + 1) ms))
          (bodies_by (λ i x. x) counts (k + 1) ms))
          → Along (IsResolved ds) (numbered_from d.key n (map Joins cs ++ bodies_by (λ i x. i) counts (k + 1) ms))
          (map Joins cs ++ bodies_by (λ i x. x) counts (k + 1) ms)
      go n [] later = later n
      go n (c ∷ cs) later = l.one_and (joins refl) (go (n + 1) cs later)

  pub plan_resolved : (xs : List (EventDeclaration L ℕ)) → ((d : EventDeclaration L ℕ) → IsOneOf xs d → Stands ds d.key
      d) → Along (IsResolved ds) (planned_ways counts xs) (all_bodies counts xs)
  plan_resolved [] h = l.none
  plan_resolved (d ∷ xs) h =
      along_append
      (members_resolved d (h d (one_first d xs)) 0 1 d.members (λ j x i. subst (λ (a : ℕ). Stands d.members a (One x)) (let z : j ≡ 0 + j = omega arith in z) i))
      (plan_resolved xs (λ x i. h x (one_rest d xs x i)))
