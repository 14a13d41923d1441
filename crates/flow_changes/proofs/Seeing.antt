-- What a change of the state reaches, gathered.
use Rattle.std.proofs.Common.{◌≡◌, ℕ, zero, suc, ◌+◌, ◌<◌, ◌≤◌, ◌⊎◌, inl, inr, Bool, true, false, List, [], ◌∷◌, ◌++◌, map, length, take, set, slice_get, refl, sym, ap, ◌∙◌, subst, arith, length-append, take_all}
use Rattle.std.proofs.lemmas.Bool.{cases_eq}
use Rattle.ar_base.specs.Lists.{Stands, IsOneOf}
use Rattle.ar_base.specs.Numbers.{VarId}
use Rattle.ar_base.specs.Sets.{Ascends}
use Rattle.ar_base.proofs.Standing.{stands_within, stands_some, stands_one, stands_left, stands_map_back, one_none, one_here, one_first, one_left, one_right, one_split, only_item, at_most}
use Rattle.ar_base.proofs.Sets.{member_told}
use Rattle.domains.specs.declared.Value.{Value}
use Rattle.ar_meaning.specs.Dependence.{Names}
use Rattle.gts_core.specs.Sound.{IsSound}
use Rattle.gts_core.specs.View.{assign_of}
use Rattle.gts_core.specs.declared.system.Assign.{Assign}
use Rattle.gts_core.specs.declared.system.GtsParts.{GtsParts}
use Rattle.flow_propagate.specs.Plan.{AreReaders, Reader, plain_pair}
use Rattle.flow_propagate.proofs.Numbered.{read_there}
use Rattle.flow_propagate.specs.NewValues.{IsRenewed}
use Rattle.flow_changes.specs.Cone.{IsFlowAt, IsCone}
use Rattle.flow_changes.specs.Picking.{AreSet}
use Rattle.flow_propagate.specs.Marks.{AreMarked}
use Rattle.flow_changes.specs.Gathering.{Sees, IsTargetOf, IsFollowed}
use Rattle.flow_changes.proofs.Picks.{set_same, set_other, same_lists, one_taken, one_before, one_now}
use Rattle.flow_changes.proofs.Puts.{unmarked_set, aims}

module _ (n : ℕ) (marks : List Bool) (found : List ℕ) (m : AreMarked marks found) (s : Stands marks n false) where
  there : (k : ℕ) → IsOneOf (found ++ n ∷ []) k → (k ≡ n) ⊎ (k ≡ n → ⊥) → Stands (set marks n true) k true
  there k o (inl e) = subst (λ (z : ℕ). Stands (set marks n true) z true) (sym e)
      (set_same marks n true (stands_within marks n false s))
  there k o (inr f) = elim (one_split found (n ∷ []) k o)
      [ inl h ↦ set_other marks n k true f ∙ (m.each k).0 h | inr h ↦ absurd (f (sym (only_item n k h))) ]

  back : (k : ℕ) → Stands (set marks n true) k true → (k ≡ n) ⊎ (k ≡ n → ⊥) → IsOneOf (found ++ n ∷ []) k
  back k h (inl e) = subst (λ (z : ℕ). IsOneOf (found ++ n ∷ []) z) (sym e)
      (one_right found (n ∷ []) n (one_first n []))
  back k h (inr f) = one_left found (n ∷ []) k ((m.each k).1 (sym (set_other marks n k true f) ∙ h))

  pub marking_more : AreMarked (set marks n true) (found ++ n ∷ [])
  marking_more = record { each = λ k. (λ o. there k o (cases_eq k n), λ h. back k h (cases_eq k n)) }

  pub sees_one : Sees (λ k. k ≡ n) marks found (set marks n true) (found ++ n ∷ [])
  sees_one = record {
    front = λ j k h. stands_left found (n ∷ []) j k h;
    longer = (let l = length-append found (n ∷ []) in omega (arith, l));
    only = λ k o. elim (one_split found (n ∷ []) k o) [ inl h ↦ inl h | inr h ↦ inr (sym (only_item n k h)) ];
    all = λ k e. subst (λ (z : ℕ). IsOneOf (found ++ n ∷ []) z) (sym e) (one_right found (n ∷ []) n (one_first n []));
    left = (let l = length-append found (n ∷ []) in let u = unmarked_set marks n s in omega (arith, l, u));
  }

pub sees_nothing : (P : ℕ → Type 0) (marks : List Bool) (found : List ℕ) → ((k : ℕ) → P k → IsOneOf found k)
    → Sees P marks found marks found
sees_nothing P marks found h = record
    { front = λ j k s. s; longer = omega arith; only = λ k o. inl o; all = h; left = refl }

pub sees_then : (P Q R : ℕ → Type 0) (marks mid new : List Bool) (found more all : List ℕ) → Sees P marks found mid more
    → Sees Q mid more new all → ((k : ℕ) → R k → P k ⊎ Q k) → ((k : ℕ) → P k → R k) → ((k : ℕ) → Q k → R k)
    → Sees R marks found new all
sees_then P Q R marks mid new found more all a b split left right = record {
  front = λ j k s. b.front j k (a.front j k s);
  longer = (let l = a.longer in let m = b.longer in omega (arith, l, m));
  only = λ k o. elim (b.only k o) [
    | inl h ↦ (elim (a.only k h) [ inl i ↦ inl i | inr p ↦ inr (left k p) ])
    | inr q ↦ inr (right k q)
  ];
  all = λ k r. elim (split k r) [ inl p ↦ (let o = a.all k p in one_here all o.place k (b.front o.place k o.stands)) | inr q ↦ b.all k q ];
  left = (let l = a.left in let m = b.left in omega (arith, l, m));
}

pub none_renewed : (new : List (VarId × Value)) (k : ℕ) → IsRenewed (take 0 new) k → ⊥
none_renewed new k h = one_none h.pair h.is_one

pub renewed_next : (new : List (VarId × Value)) (i : ℕ) (r : VarId × Value) → Stands new i r
    → (marks mid end : List Bool) (found more all : List ℕ) → Sees (IsRenewed (take i new)) marks found mid more
    → Sees (λ k. k ≡ r.0.n) mid more end all → Sees (IsRenewed (take (i + 1) new)) marks found end all
renewed_next new i r st marks mid end found more all a b =
    sees_then (IsRenewed (take i new)) (λ k. k ≡ r.0.n) (IsRenewed (take (i + 1) new)) marks mid end found more all a b
    (λ k h. elim (one_taken new i r h.pair st h.is_one) [
      | inl o ↦ inl (record { pair = h.pair; is_one = o; is = h.is })
      | inr e ↦ inr (sym h.is ∙ ap (λ (z : VarId × Value). z.0.n) (sym e))
    ])
    (λ k h. record { pair = h.pair; is_one = one_before new i r h.pair st h.is_one; is = h.is })
    (λ k e. record { pair = r; is_one = one_now new i r st; is = sym e })

pub none_targets : (p : GtsParts) (pairs : List Reader) (k : ℕ) → IsTargetOf p (take 0 pairs) k → ⊥
none_targets p pairs k h = one_none h.pair h.is_one

pub targets_next : (p : GtsParts) (pairs : List Reader) (i : ℕ) (r : Reader) (a : Assign) → Stands pairs i r
    → Stands p.assigns.items r.1.n a → (marks mid end : List Bool) (found more all : List ℕ)
    → Sees (IsTargetOf p (take i pairs)) marks found mid more → Sees (λ k. k ≡ a.target.n) mid more end all
    → Sees (IsTargetOf p (take (i + 1) pairs)) marks found end all
targets_next p pairs i r a st sa marks mid end found more all x y =
    sees_then (IsTargetOf p (take i pairs)) (λ k. k ≡ a.target.n) (IsTargetOf p (take (i + 1) pairs)) marks mid end
    found more all x y
    (λ k h. elim (one_taken pairs i r h.pair st h.is_one) [
      | inl o ↦ inl (record { pair = h.pair; is_one = o; assign = h.assign; stands = h.stands; is = h.is })
      | inr e ↦ inr (
          let same : h.assign ≡ a = stands_one p.assigns.items r.1.n h.assign a
          (subst (λ (z : Reader). Stands p.assigns.items z.1.n h.assign) (sym e) h.stands) sa in
          sym h.is ∙ ap (λ (z : Assign). z.target.n) same)
    ])
    (λ k h. record {
      pair = h.pair;
      is_one = one_before pairs i r h.pair st h.is_one;
      assign = h.assign;
      stands = h.stands;
      is = h.is;
    })
    (λ k e. record { pair = r; is_one = one_now pairs i r st; assign = a; stands = sa; is = sym e })

pub sees_done : {A : Type 0} (P : List A → ℕ → Type 0) (xs : List A) (i : ℕ) (marks new : List Bool)
    (found all : List ℕ) → length xs ≤ i → Sees (P (take i xs)) marks found new all → Sees (P xs) marks found new all
sees_done {A} P xs i marks new found all h s =
    subst (λ (z : List A). Sees (P z) marks found new all) (take_all i xs h) s

-- at the start those that get new values were gathered
pub follows_start : (p : GtsParts) (new : List (VarId × Value)) (marks end : List Bool) (found : List ℕ)
    → Sees (IsRenewed new) marks [] end found → IsFollowed p new found 0
follows_start p new marks end found s = record {
  starts = s.all;
  only = λ n o. elim (s.only n o) [ inl h ↦ absurd (one_none n h) | inr r ↦ inl r ];
  closed = λ k n m a h. absurd (omega (arith, h));
}

module _ (p : GtsParts) (sound : IsSound p) (readers : List Reader) (are : AreReaders p (map plain_pair readers))
    (new : List (VarId × Value)) (found more : List ℕ) (at n : ℕ) (st : Stands found at n)
    (run : List Reader) (all : (r : Reader) → IsOneOf readers r → r.0.n ≡ n → IsOneOf run r) (marks end : List Bool)
    (s : Sees (IsTargetOf p run) marks found end more) (f : IsFollowed p new found at) where
  old_there : (k m : ℕ) → k < length found → Stands more k m → Stands found k m
  old_there k m h sk =
      let b = stands_some found k h in
      let e : b.0 ≡ m = stands_one more k b.0 m (s.front k b.0 b.1) sk in
      subst (λ (z : ℕ). Stands found k z) e b.1

  grown : (k : ℕ) → IsOneOf found k → IsOneOf more k
  grown k o = one_here more o.place k (s.front o.place k o.stands)

  flow_of : (k : ℕ) → IsTargetOf p run k → IsFlowAt p k
  flow_of k t =
      let a = aims p t.assign sound (record { place = t.pair.1.n; stands = t.stands }) in
      subst (λ (z : ℕ). IsFlowAt p z) t.is (record { variable = a.variable; stands = a.stands; is_flow = a.is_flow })

  reader : (m : ℕ) (a : Assign) → Stands p.assigns.items m a → Names (assign_of a) n → IsOneOf more a.target.n
  reader m a sa named =
      let o = are.all n m (read_there p n m (record { assign = a; stands = sa; names = named })) in
      let r = stands_map_back plain_pair readers o.place (n, m) o.stands in
      let e : r.0.0.n ≡ n = ap (λ (z : ℕ × ℕ). z.0) r.2 in
      let i : r.0.1.n ≡ m = ap (λ (z : ℕ × ℕ). z.1) r.2 in
      s.all a.target.n (record {
        pair = r.0;
        is_one = all r.0 (one_here readers o.place r.0 r.1) e;
        assign = a;
        stands = subst (λ (z : ℕ). Stands p.assigns.items z a) (sym i) sa;
        is = refl;
      })

  within : at < length found
  within = stands_within found at n st

  pub follows_more : IsFollowed p new more (at + 1)
  follows_more = record {
    starts = λ k r. grown k (f.starts k r);
    only = λ k o. elim (s.only k o) [ inl h ↦ f.only k h | inr t ↦ inr (flow_of k t) ];
    closed = λ k m j a h sk sa named. by k m j a sk sa named (at_most k at h);
  }
    where
      by : (k m j : ℕ) (a : Assign) → Stands more k m → Stands p.assigns.items j a → Names (assign_of a) m
          → (k < at) ⊎ (k ≡ at) → IsOneOf more a.target.n
      by k m j a sk sa named (inl h) = grown a.target.n
          (f.closed k m j a h (old_there k m (omega (arith, h, within)) sk) sa named)
      by k m j a sk sa named (inr e) =
          let here : m ≡ n = stands_one more at m n (subst (λ (z : ℕ). Stands more z m) e sk) (s.front at n st) in
          reader j a sa (subst (λ (z : ℕ). Names (assign_of a) z) here named)

pub follows_done : (p : GtsParts) (new : List (VarId × Value)) (found : List ℕ) (at : ℕ)
    → length found ≤ at → at ≤ length found → IsFollowed p new found at → IsFollowed p new found (length found)
follows_done p new found at h k f = let e : at ≡ length found = omega (arith, h, k) in subst (λ (z : ℕ). IsFollowed p new found z) e f

-- what was gathered, ascending, is the cone
pub cone_of : (p : GtsParts) (new : List (VarId × Value)) (found members : List ℕ)
    → IsFollowed p new found (length found) → ((n : ℕ) → IsOneOf found n → IsOneOf members n)
    → ((n : ℕ) → IsOneOf members n → IsOneOf found n) → Ascends members → IsCone p new members
cone_of p new found members f there back ascend = record {
  ascend = ascend;
  starts = λ n r. there n (f.starts n r);
  only = λ n o. f.only n (back n o);
  closed = λ n m a o sa named. let k = back n o in there a.target.n (f.closed k.place n m a (stands_within found k.place n k.stands) k.stands sa named);
}

-- the marks of what was gathered are unset again
pub marks_back : (marks mid end : List Bool) (found : List ℕ) → length mid ≡ length marks
    → ((n : ℕ) → Stands marks n true → ⊥) → AreMarked mid found → AreSet false found mid end → end ≡ marks
marks_back marks mid end found long unset m s = same_lists end marks (λ n. at n (member_told found n))
  where
    unset_at : (bs : List Bool) (n : ℕ) (b : Bool) → (Stands bs n true → ⊥) → Stands bs n b → b ≡ false
    unset_at bs n true f st = absurd (f st)
    unset_at bs n false f st = refl

    side : (xs ys : List Bool) (n : ℕ) → length xs ≡ length ys → (Stands xs n true → ⊥) → (Stands ys n true → ⊥)
        → slice_get xs n ≡ slice_get ys n
    side [] [] n l f g = refl
    side [] (y ∷ ys) n l f g = absurd (omega (arith, l))
    side (x ∷ xs) [] n l f g = absurd (omega (arith, l))
    side (x ∷ xs) (y ∷ ys) zero l f g = let a : x ≡ false = unset_at (x ∷ xs) 0 x f refl in let b : y ≡ false = unset_at (y ∷ ys) 0 y g refl in cc (a ∙ sym b)
    side (x ∷ xs) (y ∷ ys) (suc n) l f g = side xs ys n (omega (arith, l)) f g

    at : (n : ℕ) → IsOneOf found n ⊎ (IsOneOf found n → ⊥) → slice_get end n ≡ slice_get marks n
    at n (inl o) =
        let e : Stands end n false = s.each n o in
        let l = stands_within mid n true ((m.each n).0 o) in
        let b = stands_some marks n (omega (arith, l, long)) in
        let f : b.0 ≡ false = unset_at marks n b.0 (unset n) b.1 in
        e ∙ sym (subst (λ (z : Bool). Stands marks n z) f b.1)
    at n (inr o) = s.keeps.others n o ∙ side mid marks n long (λ h. o ((m.each n).1 h)) (unset n)
