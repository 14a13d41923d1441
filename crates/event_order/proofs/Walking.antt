-- The walk through the gates.
use Rattle.std.proofs.Common.{◌≡◌, ◌⊎◌, ⊎_elim, inl, inr, ℕ, zero, suc, ◌+◌, ◌<◌, ◌≤◌, Bool, true, false, List, [], ◌∷◌, ◌++◌, length, map, replicate, set, refl, sym, ap, ◌∙◌, subst, arith, length-append}
use Rattle.std.specs.List.Sorted.{IsPermutation}
use Rattle.std.proofs.lemmas.List.{length-map, length-set}
use Rattle.std.proofs.lemmas.List.Sorted.{Contains-permutation, IsPermutation-sym, length_permutation}
use Rattle.ar_base.specs.Lists.{Stands, IsOneOf}
use Rattle.ar_base.proofs.Items.{stands_set, none_marked, last_cases, one_last}
use Rattle.ar_base.proofs.Standing.{stands_none, stands_one, stands_within, stands_map, stands_map_back, one_none, one_first, one_left, one_contains, contains_one, only_item}
use Rattle.eq_core.specs.Gates as g
use Rattle.eq_core.specs.Gates.{Always, Never, EventIs, GateIs}
use Rattle.eq_core.specs.Ordered.{AreOrdered}
use Rattle.eq_core.specs.ValuesInside.{IsBelow}
use Rattle.eq_core.specs.Views.{operand_of}
use Rattle.eq_core.specs.declared.joints.Operand.{Operand}
use Rattle.eq_core.proofs.Telling.{place_below}
use Rattle.eq_core.specs.Cones.{InGateCone, own, named}
use Rattle.diagram_steps.specs.declared.trees.NumberedTree.{NumberedTree}
use Rattle.diagram_steps.specs.Trees.{TreeHasEvent}
use Rattle.event_order.specs.Ordered.{RestsOn, HasAllNames, IsOfUse, HasNoOtherNames}
use Rattle.event_order.specs.Ordered.RestsOn.{own as names_it, inside}
use Rattle.event_order.specs.Renumbered.{IsNamed}
use Rattle.event_order.specs.Taking.{AreTaken, Meets, names_in}
use Rattle.event_order.specs.Visiting.{Pushes, unseen, waiting, work, IsDone, IsOfGate, IsMetBy, Looks}
use Rattle.event_order.specs.declared.visiting.Walk.{Walk}
use Rattle.event_order.proofs.Taking.{none_named}

-- ---- marks
set_kept : (ms : List Bool) (i k : ℕ) → Stands ms k true → Stands (set ms i true) k true
set_kept [] i k st = absurd (stands_none k true st)
set_kept (b ∷ ms) zero zero st = refl
set_kept (b ∷ ms) zero (suc k) st = st
set_kept (b ∷ ms) (suc i) zero st = st
set_kept (b ∷ ms) (suc i) (suc k) st = set_kept ms i k st

set_back : (ms : List Bool) (i k : ℕ) → Stands (set ms i true) k true → Stands ms k true ⊎ (k ≡ i)
set_back [] i k st = inl st
set_back (b ∷ ms) zero zero st = inr refl
set_back (b ∷ ms) zero (suc k) st = inl st
set_back (b ∷ ms) (suc i) zero st = inl st
set_back (b ∷ ms) (suc i) (suc k) st = ⊎_elim (λ l. inl l) (λ e. inr (ap suc e)) (set_back ms i k st)

unseen_set : (gates : List g.Gate) (ms : List Bool) (n : ℕ) (gate : g.Gate) → Stands gates n gate → Stands ms n false
    → unseen gates (set ms n true) + length gate.operands ≡ unseen gates ms
unseen_set [] ms n gate st sm = absurd (stands_none n gate st)
unseen_set (x ∷ gates) [] n gate st sm = absurd (stands_none n false sm)
unseen_set (x ∷ gates) (true ∷ ms) zero gate st sm = let wrong : ⊥ = cc in absurd wrong
unseen_set (x ∷ gates) (false ∷ ms) zero gate st sm =
    let same : x ≡ gate = cc in
    let long = ap (λ (y : g.Gate). length y.operands) same in
    omega (arith, long)
unseen_set (x ∷ gates) (true ∷ ms) (suc n) gate st sm = unseen_set gates ms n gate st sm
unseen_set (x ∷ gates) (false ∷ ms) (suc n) gate st sm =
    let e = unseen_set gates ms n gate st sm in omega (arith, e)

-- ---- the operands on the stack
one_as : (f : Operand → g.Operand) (xs : List Operand) (o : g.Operand) → IsOneOf (map f xs) o
    → (x : Operand) × IsOneOf xs x × (f x ≡ o)
one_as f xs o i =
    let w = stands_map_back f xs i.place o i.stands in (w.0, record { place = i.place; stands = w.1 }, w.2)

one_is : (f : Operand → g.Operand) (xs : List Operand) (x : Operand) → IsOneOf xs x → IsOneOf (map f xs) (f x)
one_is f xs x i = record { place = i.place; stands = stands_map f xs i.place x i.stands }

moved : (xs ys : List Operand) (x : Operand) → IsPermutation xs ys → IsOneOf xs x → IsOneOf ys x
moved xs ys x p i = one_contains ys x (Contains-permutation xs ys x p (contains_one xs x i))

-- ---- one at a time on the stack
pub record IsPushing (operands old left new : List Operand) : Type 0 where
  pub long : length new + length left ≡ length old + length operands
  pub kept : (o : Operand) → IsOneOf old o → IsOneOf new o
  pub put : (o : Operand) → IsOneOf operands o → IsOneOf new o ⊎ IsOneOf left o
  pub among : (o : Operand) → IsOneOf left o → IsOneOf operands o
  pub sound : (o : Operand) → IsOneOf new o → IsOneOf old o ⊎ IsOneOf operands o

pub pushing_begins : (operands old : List Operand) → IsPushing operands old operands old
pushing_begins operands old = record {
  long = refl;
  kept = λ o i. i;
  put = λ o i. inr i;
  among = λ o i. i;
  sound = λ o i. inl i;
}

pub pushing_next : (operands old left rest new : List Operand) (x : Operand) → left ≡ rest ++ x ∷ []
    → IsPushing operands old left new → IsPushing operands old rest (new ++ x ∷ [])
pushing_next operands old left rest new x e p = record {
  long =
      let l = p.long in
      let m = ap length e in
      omega (arith, l, m, length-append rest (x ∷ []), length-append new (x ∷ []));
  kept = λ o i. one_left new (x ∷ []) o (p.kept o i);
  put = λ o i. ⊎_elim
      (λ l. inl (one_left new (x ∷ []) o l))
      (λ r. ⊎_elim (λ l. inr l) (λ q. inl (subst (λ y. IsOneOf (new ++ x ∷ []) y) q (one_last new x)))
      (last_cases rest x o (subst (λ z. IsOneOf z o) e r)))
      (p.put o i);
  among = λ o i. p.among o (subst (λ z. IsOneOf z o) (sym e) (one_left rest (x ∷ []) o i));
  sound = λ o i. ⊎_elim
      (λ l. p.sound o l)
      (λ q. inr (subst (λ y. IsOneOf operands y) q
      (p.among x (subst (λ z. IsOneOf z x) (sym e) (one_last rest x)))))
      (last_cases new x o i);
}

pub pushing_ends : (operands old left new : List Operand) → length left ≡ 0 → IsPushing operands old left new
    → Pushes operands old new
pushing_ends operands old left new z p = record {
  long = let l = p.long in omega (arith, l, z);
  kept = p.kept;
  put = λ o i. ⊎_elim (λ l. l)
      (λ r. let w = stands_within left r.place o r.stands in absurd (omega (arith, w, z))) (p.put o i);
  sound = p.sound;
}

-- ---- one operand
module _ (trees : List NumberedTree) (gates : List g.Gate) where
  pub looks_none : (o : g.Operand) (w : Walk) → AreTaken trees w.numbering → IsDone trees w o → Looks trees gates o w w
  looks_none o w t d = record {
    taken = t;
    long = refl;
    is_done = d;
    named = λ e x. x;
    seen = λ n s. s;
    opened = λ n s. inl s;
    kept = λ p i. i;
    sound = λ p i. inl i;
    fresh = λ x n. inl n;
    less = refl;
  }

  pub looks_meet : (e : ℕ) (sign : Bool) (w new : Walk) → new.seen.items ≡ w.seen.items
      → new.stack.items ≡ w.stack.items → Meets trees e w.numbering new.numbering → Looks trees gates (EventIs e sign) w new
  looks_meet e sign w new same still m = record {
    taken = m.taken;
    long = ap length same;
    is_done = m.met;
    named = m.kept;
    seen = λ n s. subst (λ z. Stands z n true) (sym same) s;
    opened = λ n s. inl (subst (λ z. Stands z n true) same s);
    kept = λ p i. subst (λ z. IsOneOf (map operand_of z) p) (sym still) i;
    sound = λ p i. inl (subst (λ z. IsOneOf (map operand_of z) p) still i);
    fresh = λ x n. ⊎_elim
        (λ l. inl l)
        (λ r. inr (record { event = e; sign = sign; is = refl; one = r }))
        (m.fresh x n);
    less =
        let a = ap (unseen gates) same in
        let b = ap (λ z. length (map operand_of z)) still in
        omega (arith, a, b);
  }

  pub looks_gate : (n : ℕ) (sign : Bool) (gate : g.Gate) (w new : Walk) (written operands : List Operand)
      → Stands gates n gate → gate.operands ≡ map operand_of written → IsPermutation written operands
      → Stands w.seen.items n false → new.seen.items ≡ set w.seen.items n true → AreTaken trees new.numbering
      → names_in new.numbering ≡ names_in w.numbering → Pushes operands w.stack.items new.stack.items
      → Looks trees gates (GateIs n sign) w new
  looks_gate n sign gate w new written operands st are perm not_seen marked taken same p = record {
    taken = taken;
    long = ap length marked ∙ length-set w.seen.items n true;
    is_done = subst (λ z. Stands z n true) (sym marked)
        (stands_set w.seen.items n true (stands_within w.seen.items n false not_seen));
    named = λ e x. subst (λ z. IsNamed z e) (sym same) x;
    seen = λ k s. subst (λ z. Stands z k true) (sym marked) (set_kept w.seen.items n k s);
    opened = λ k s. ⊎_elim
        (λ l. inl l)
        (λ q. inr (λ other so o i. on_stack o
        (subst (λ (y : g.Gate). IsOneOf y.operands o)
        (stands_one gates n other gate (subst (λ j. Stands gates j other) q so) st) i)))
        (set_back w.seen.items n k (subst (λ z. Stands z k true) marked s));
    kept = λ o i.
        let x = one_as operand_of w.stack.items o i in
        subst (λ y. IsOneOf (waiting new) y) x.2 (one_is operand_of new.stack.items x.0 (p.kept x.0 x.1));
    sound = λ o i.
        let x = one_as operand_of new.stack.items o i in
        ⊎_elim
        (λ l. inl (subst (λ y. IsOneOf (waiting w) y) x.2 (one_is operand_of w.stack.items x.0 l)))
        (λ r. inr (
          n,
          gate,
          st,
          (record { sign = sign; is = refl }),
          subst (λ z. IsOneOf z o) (sym are) (subst (λ y. IsOneOf (map operand_of written) y) x.2
              (one_is operand_of written x.0 (moved operands written x.0 (IsPermutation-sym written operands perm) r))),
        ))
        (p.sound x.0 x.1);
    fresh = λ x h. inl (subst (λ z. IsNamed z x) same h);
    less =
        let a = ap (unseen gates) marked in
        let b = unseen_set gates w.seen.items n gate st not_seen in
        let c = ap length are in
        let d = p.long in
        omega (
          arith,
          a,
          b,
          c,
          d,
          length-map written operand_of,
          length-map new.stack.items operand_of,
          length-map w.stack.items operand_of,
          length_permutation written operands perm,
        );
  }
    where
      on_stack : (o : g.Operand) → IsOneOf gate.operands o → IsOneOf (waiting new) o
      on_stack o i =
          let x = one_as operand_of written o (subst (λ z. IsOneOf z o) are i) in
          subst (λ y. IsOneOf (waiting new) y) x.2
          (one_is operand_of new.stack.items x.0 (p.put x.0 (moved written operands x.0 perm x.1)))

-- ---- the whole walk
below_more : (l n : ℕ) (o : g.Operand) → l ≤ n → IsBelow l o → IsBelow n o
below_more l n Always h b = tt
below_more l n Never h b = tt
below_more l n (EventIs e sign) h b = tt
below_more l n (GateIs k sign) h b = omega (arith, h, b)

-- the operand is the root, or one of a gate that it rests on
abbrev pub IsReached : List g.Gate → g.Operand → g.Operand → Type 0
IsReached gates root o =
    (o ≡ root) ⊎ ((n : ℕ) × (gate : g.Gate) × InGateCone gates root n × Stands gates n gate × IsOneOf gate.operands o)

-- each operand of a gate that was seen is on the stack, or was visited, and nothing else was
pub record IsWalk (trees : List NumberedTree) (gates : List g.Gate) (root : g.Operand) (w : Walk) : Type 0 where
  pub taken : AreTaken trees w.numbering
  pub long : length w.seen.items ≡ length gates
  pub below : (o : g.Operand) → IsOneOf (waiting w) o → IsBelow (length gates) o
  pub own : IsOneOf (waiting w) root ⊎ IsDone trees w root
  pub operands : (n : ℕ) (gate : g.Gate) (o : g.Operand) → Stands w.seen.items n true → Stands gates n gate
      → IsOneOf gate.operands o → IsOneOf (waiting w) o ⊎ IsDone trees w o
  pub sound : (o : g.Operand) → IsOneOf (waiting w) o → IsReached gates root o
  pub used : (e : ℕ) → IsNamed (names_in w.numbering) e → IsOfUse trees gates root e

module _ (trees : List NumberedTree) (gates : List g.Gate) (root : g.Operand) where
  pub walk_begins : (w : Walk) (r : Operand) → w.stack.items ≡ r ∷ [] → operand_of r ≡ root
      → w.seen.items ≡ replicate (length gates) false → length w.seen.items ≡ length gates → AreTaken trees w.numbering
      → AreTaken [] w.numbering → IsBelow (length gates) root → IsWalk trees gates root w
  walk_begins w r e is none long t fresh b = record {
    taken = t;
    long = long;
    below = λ o i. subst (IsBelow (length gates))
        (sym is ∙ only_item (operand_of r) o (subst (λ z. IsOneOf (map operand_of z) o) e i)) b;
    own = inl (subst (λ z. IsOneOf (map operand_of z) root) (sym e)
        (subst (λ o. IsOneOf (operand_of r ∷ []) o) is (one_first (operand_of r) [])));
    operands = λ n gate o s st i. absurd (none_marked (length gates) n (subst (λ z. Stands z n true) none s));
    sound = λ o i. inl (sym (sym is ∙ only_item (operand_of r) o (subst (λ z. IsOneOf (map operand_of z) o) e i)));
    used = λ x n. absurd (none_named w.numbering fresh x n);
  }

  pub top_below : (w : Walk) (rest : List Operand) (x : Operand) → w.stack.items ≡ rest ++ x ∷ [] → IsWalk trees gates root w
      → IsBelow (length gates) (operand_of x)
  top_below w rest x popped i = i.below (operand_of x)
      (one_is operand_of w.stack.items x (subst (λ z. IsOneOf z x) (sym popped) (one_last rest x)))

  -- ---- a step
  module _ (ordered : AreOrdered gates) (w mid new : Walk) (x : Operand) (popped : w.stack.items ≡ mid.stack.items ++ x ∷ [])
      (seen : mid.seen.items ≡ w.seen.items) (names : names_in mid.numbering ≡ names_in w.numbering)
      (i : IsWalk trees gates root w) (l : Looks trees gates (operand_of x) mid new) where
    still : (o : g.Operand) → IsDone trees w o → IsDone trees new o
    still Always d = tt
    still Never d = tt
    still (EventIs e sign) d = λ k tree st h. l.named e (subst (λ z. IsNamed z e) (sym names) (d k tree st h))
    still (GateIs n sign) d = l.seen n (subst (λ z. Stands z n true) (sym seen) d)

    of_stack : (o : g.Operand) → IsOneOf (waiting w) o → IsOneOf (waiting mid) o ⊎ (operand_of x ≡ o)
    of_stack o one =
        let y = one_as operand_of w.stack.items o one in
        ⊎_elim
        (λ a. inl (subst (λ z. IsOneOf (waiting mid) z) y.2 (one_is operand_of mid.stack.items y.0 a)))
        (λ q. inr (ap operand_of q ∙ y.2))
        (last_cases mid.stack.items x y.0 (subst (λ z. IsOneOf z y.0) popped y.1))

    met : (o : g.Operand) → IsOneOf (waiting w) o ⊎ IsDone trees w o → IsOneOf (waiting new) o ⊎ IsDone trees new o
    met o (inl one) = ⊎_elim
        (λ a. inl (l.kept o a))
        (λ q. inr (subst (λ z. IsDone trees new z) q l.is_done))
        (of_stack o one)
    met o (inr d) = inr (still o d)

    in_stack : (o : g.Operand) → IsOneOf (waiting mid) o → IsOneOf (waiting w) o
    in_stack o one =
        let y = one_as operand_of mid.stack.items o one in
        subst (λ z. IsOneOf (waiting w) z) y.2
        (one_is operand_of w.stack.items y.0
        (subst (λ z. IsOneOf z y.0) (sym popped) (one_left mid.stack.items (x ∷ []) y.0 y.1)))

    reached : IsReached gates root (operand_of x)
    reached = i.sound (operand_of x)
        (one_is operand_of w.stack.items x (subst (λ z. IsOneOf z x) (sym popped) (one_last mid.stack.items x)))

    in_cone : (n : ℕ) (sign : Bool) → operand_of x ≡ GateIs n sign → InGateCone gates root n
    in_cone n sign e = ⊎_elim
        (λ q. own (sym q ∙ e))
        (λ r. named r.2 r.3 (subst (λ z. IsOneOf r.1.operands z) e r.4))
        reached

    rests_on : (k : ℕ) (sign : Bool) → operand_of x ≡ EventIs k sign → RestsOn gates root k
    rests_on k sign e = ⊎_elim
        (λ q. names_it (sym q ∙ e))
        (λ r. inside r.2 r.3 (subst (λ z. IsOneOf r.1.operands z) e r.4))
        reached

    pub walk_next : IsWalk trees gates root new
    walk_next = record {
      taken = l.taken;
      long = l.long ∙ ap length seen ∙ i.long;
      below = λ o one. ⊎_elim
          (λ a. i.below o (in_stack o a))
          (λ r.
          let w = stands_within gates r.0 r.1 r.2 in
          below_more r.0 (length gates) o (omega (arith, w)) ((place_below (ordered.each r.0 r.1 r.2)).each o r.4))
          (l.sound o one);
      own = met root i.own;
      operands = λ n gate o s st one. ⊎_elim
          (λ a. met o (i.operands n gate o (subst (λ z. Stands z n true) seen a) st one))
          (λ f. inl (f gate st o one))
          (l.opened n s);
      sound = λ o one. ⊎_elim
          (λ a. i.sound o (in_stack o a))
          (λ r. inr (r.0, r.1, in_cone r.0 r.3.sign r.3.is, r.2, r.4))
          (l.sound o one);
      used = λ e h. ⊎_elim
          (λ a. i.used e (subst (λ z. IsNamed z e) names a))
          (λ r. record {
            place = r.one.place;
            tree = r.one.tree;
            stands = r.one.stands;
            has = r.one.second;
            used = r.event;
            has_used = r.one.first;
            rests = rests_on r.event r.sign r.is;
          })
          (l.fresh e h);
    }

    pub walk_less : work gates new < work gates w
    walk_less =
        let a = l.less in
        let b = ap (unseen gates) seen in
        let c = ap length popped in
        omega (
          arith,
          a,
          b,
          c,
          length-append mid.stack.items (x ∷ []),
          length-map mid.stack.items operand_of,
          length-map w.stack.items operand_of,
        )

  -- ---- the end
  pub walk_uses : (w : Walk) → IsWalk trees gates root w → HasNoOtherNames (names_in w.numbering) trees gates root
  walk_uses w i = record { each = i.used }

  pub walk_ends : (w : Walk) → w.stack.items ≡ [] → IsWalk trees gates root w → HasAllNames (names_in w.numbering) trees gates root
  walk_ends w empty i = record { each = λ e k tree rests st h. named_by e k tree st h rests }
    where
      done : (o : g.Operand) → IsOneOf (waiting w) o ⊎ IsDone trees w o → IsDone trees w o
      done o (inl one) = absurd (one_none o (subst (λ z. IsOneOf (map operand_of z) o) empty one))
      done o (inr d) = d

      seen_of : {n : ℕ} → InGateCone gates root n → Stands w.seen.items n true
      seen_of (own {g = n} {sign = sign} e) = done (GateIs n sign) (subst (λ o. IsOneOf (waiting w) o ⊎ IsDone trees w o) e i.own)
      seen_of (named {g = n} {h = h} {gate = gate} {sign = sign} c st one) =
          done (GateIs h sign) (i.operands n gate (GateIs h sign) (seen_of c) st one)

      named_by : (e k : ℕ) (tree : NumberedTree) → Stands trees k tree → TreeHasEvent tree e → RestsOn gates root e
          → IsNamed (names_in w.numbering) e
      named_by e k tree st h (names_it {sign = sign} q) =
          done (EventIs e sign) (subst (λ o. IsOneOf (waiting w) o ⊎ IsDone trees w o) q i.own) k tree st h
      named_by e k tree st h (inside {g = n} {gate = gate} {sign = sign} c so one) =
          done (EventIs e sign) (i.operands n gate (EventIs e sign) (seen_of c) so one) k tree st h
