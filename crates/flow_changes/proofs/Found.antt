-- What changed, found member by member.
use Rattle.std.proofs.Common.{◌≡◌, ◌<◌, ◌≤◌, ◌+◌, ◌⊎◌, ◌↔◌, ℕ, zero, suc, Bool, true, false, not, List, [], ◌∷◌, ◌++◌, length, take, drop, set, Option, unwrap_or, refl, sym, ap, ◌∙◌, subst, inl, inr, arith, take_all}
use Rattle.std.proofs.lemmas.List.{length_push}
use Rattle.ar_base.specs.Lists.{Stands, IsOneOf}
use Rattle.ar_base.specs.Numbers.{VarId}
use Rattle.ar_base.specs.Sets.{Ascends}
use Rattle.ar_base.proofs.Standing.{stands_none, stands_within, stands_one, stands_some, stands_split, one_here, one_none, one_left, one_right, one_first, one_split, only_item}
use Rattle.ar_base.proofs.Sets.{member_told, ascends_push}
use Rattle.ar_base.proofs.Truths.{other_mark}
use Rattle.domains.specs.declared.Value.{Value}
use Rattle.gts_core.specs.Readings.{IsTotal}
use Rattle.gts_core.specs.declared.system.Variable.{Variable}
use Rattle.gts_core.specs.declared.system.GtsParts.{GtsParts}
use Rattle.flow_changes.specs.Changes.{HasChanged, AreChanges, changed_numbers}
use Rattle.flow_changes.specs.Codes.{coded}
use Rattle.flow_changes.specs.Picking.{KeepsOthers, ArePicked}
use Rattle.flow_changes.specs.Restoring.{decoded_in, decoded_at, restored, mark_at, marks_turned, GivesBack, TurnsBack}
use Rattle.flow_changes.proofs.Picks.{set_other, one_taken, one_before, one_now, keeps_same, back_next, back_done}
use Rattle.flow_changes.proofs.Coding.{decoded_coded}
use Rattle.flow_changes.proofs.Restored.{restored_more}
use Rattle.flow_changes.proofs.Turns.{turned_last}

module _ {A : Type 0} where
  -- what stands is set
  pub set_here : (xs : List A) (n : ℕ) (a : A) → Stands xs n a → set xs n a ≡ xs
  set_here [] zero a s = refl
  set_here [] (suc n) a s = refl
  set_here (x ∷ xs) zero a s = let same : x ≡ a = cc in ap (λ (z : A). z ∷ xs) (sym same)
  set_here (x ∷ xs) (suc n) a s = ap (λ (z : List A). x ∷ z) (set_here xs n a s)

  -- what stands somewhere among the first
  first_place : (xs : List A) (i k : ℕ) (a : A) → Stands (take i xs) k a → (k < i) × Stands xs k a
  first_place [] zero k a s = absurd (stands_none k a s)
  first_place [] (suc i) k a s = absurd (stands_none k a s)
  first_place (x ∷ xs) zero k a s = absurd (stands_none k a s)
  first_place (x ∷ xs) (suc i) zero a s = (omega arith, s)
  first_place (x ∷ xs) (suc i) (suc k) a s = let r = first_place xs i k a s in let l = r.0 in (omega (arith, l), r.1)

-- the next member is none of the first
pub not_before : (m : List ℕ) (i n : ℕ) → Ascends m → Stands m i n → IsOneOf (take i m) n → ⊥
not_before m i n a s o =
    let r = first_place m i o.place n o.stands in
    let l = a.ascends o.place i n n r.0 r.1 s in omega (arith, l)

-- a list on its way back: the first members are as they were, and all but those as they are
pub record IsBack {A : Type 0} (first rest : List ℕ) (was now then : List A) : Type 0 where
  pub kept : KeepsOthers first now then
  pub back : KeepsOthers rest was then

module _ {A : Type 0} (m : List ℕ) (was old now : List A) (picked : ArePicked m was old) where
  -- nothing was written
  pub back_none : KeepsOthers m was now → IsBack (take 0 m) (drop 0 m) was now now
  back_none k = record { kept = keeps_same (take 0 m) now; back = k }

  module _ (i n : ℕ) (back : List A) (ascend : Ascends m) (is : IsBack (take i m) (drop i m) was now back)
      (s : Stands m i n) where
    -- what stands at the next member stands there still
    pub still : (a : A) → Stands now n a → Stands back n a
    still a t = is.kept.others n (not_before m i n ascend s) ∙ t

    -- the next one was written
    pub back_set : (a : A) → Stands old i a → n < length now
        → IsBack (take (i + 1) m) (drop (i + 1) m) was now (set back n a)
    back_set a t below = record {
      kept = record { long = next.long ∙ (let l = is.back.long in let k = is.kept.long in sym l ∙ k); others = λ k o. set_other back n k a (λ e. o (subst (λ (z : ℕ). IsOneOf (take (i + 1) m) z) (sym e) (one_now m i n s))) ∙ is.kept.others k (λ h. o (one_before m i n k s h)) };
      back = next;
    }
      where
        next : KeepsOthers (drop (i + 1) m) was (set back n a)
        next = back_next m was old back i n a s t (omega (arith, below, is.kept.long)) picked is.back

    -- the next one is as it was
    pub back_keep : (a : A) → Stands old i a → Stands now n a → n < length now
        → IsBack (take (i + 1) m) (drop (i + 1) m) was now back
    back_keep a t u below = subst (λ (z : List A). IsBack (take (i + 1) m) (drop (i + 1) m) was now z)
        (set_here back n a (still a u)) (back_set a t below)

  -- all were looked at
  pub back_all : (i : ℕ) (back : List A) → length m ≤ i → IsBack (take i m) (drop i m) was now back → back ≡ was
  back_all i back h is = back_done m was back i h is.back

-- these are those of the first members that changed, ascending
pub record AreFirstChanges {A : Type 0} (first : List ℕ) (old new : List A) (variables : List VarId) : Type 0 where
  pub ascend : Ascends (changed_numbers variables)
  pub each : (n : ℕ) → (IsOneOf (changed_numbers variables) n ↔ (IsOneOf first n × HasChanged old new n))

numbers_more : (xs : List VarId) (x : VarId) → changed_numbers (xs ++ x ∷ []) ≡ changed_numbers xs ++ x.n ∷ []
numbers_more [] x = refl
numbers_more (y ∷ xs) x = ap (λ (z : List ℕ). y.n ∷ z) (numbers_more xs x)

last_one : (xs : List ℕ) (a n b : ℕ) → Stands (xs ++ a ∷ []) n b → (Stands xs n b) ⊎ ((n ≡ length xs) × (b ≡ a))
last_one xs a n b h = elim (stands_split xs (a ∷ []) n b h) [ inl k ↦ inl k | inr k ↦ inr (last k.0 k.1 k.2) ]
  where
    last : (k : ℕ) → n ≡ length xs + k → Stands (a ∷ []) k b → (n ≡ length xs) × (b ≡ a)
    last zero e s = (omega (arith, e), cc)
    last (suc k) e s = absurd (stands_none k b s)

-- none of no members changed
pub no_changes : {A : Type 0} (m : List ℕ) (old new : List A) → AreFirstChanges (take 0 m) old new []
no_changes m old new = record {
  ascend = record { ascends = λ j k a b l s t. absurd (stands_none j a s) };
  each = λ n. (λ h. absurd (one_none n h), λ h. absurd (one_none n h.0));
}

module _ {A : Type 0} (m : List ℕ) (i n : ℕ) (ascend : Ascends m) (s : Stands m i n) (old new : List A)
    (xs : List VarId) (are : AreFirstChanges (take i m) old new xs) where
  -- the next one changed
  pub changed_more : HasChanged old new n → (x : VarId) → x.n ≡ n
      → AreFirstChanges (take (i + 1) m) old new (xs ++ x ∷ [])
  changed_more changed x e = record {
    ascend = subst Ascends (sym (numbers_more xs x)) (ascends_push (changed_numbers xs) x.n are.ascend less);
    each = λ k. subst (λ (z : List ℕ). IsOneOf z k ↔ (IsOneOf (take (i + 1) m) k × HasChanged old new k))
        (sym (numbers_more xs x)) (on k, off k);
  }
    where
      less : (b : ℕ) → IsOneOf (changed_numbers xs) b → b < x.n
      less b h =
          let o = ((are.each b).0 h).0 in
          let r = first_place m i o.place b o.stands in
          let l = ascend.ascends o.place i b n r.0 r.1 s in omega (arith, l, e)

      on : (k : ℕ) → IsOneOf (changed_numbers xs ++ x.n ∷ []) k → IsOneOf (take (i + 1) m) k × HasChanged old new k
      on k h = elim (one_split (changed_numbers xs) (x.n ∷ []) k h) [
        | inl o ↦ let p = (are.each k).0 o in (one_before m i n k s p.0, p.1)
        | inr o ↦ (
            let same : n ≡ k = sym e ∙ only_item x.n k o in (
              subst (λ (z : ℕ). IsOneOf (take (i + 1) m) z) same (one_now m i n s),
              subst
                  (λ (z : ℕ). HasChanged old new z) same changed,
            ))
      ]

      off : (k : ℕ) → IsOneOf (take (i + 1) m) k × HasChanged old new k → IsOneOf (changed_numbers xs ++ x.n ∷ []) k
      off k h = elim (one_taken m i n k s h.0) [
        | inl o ↦ one_left (changed_numbers xs) (x.n ∷ []) k ((are.each k).1 (o, h.1))
        | inr o ↦ subst (λ (z : ℕ). IsOneOf (changed_numbers xs ++ x.n ∷ []) z) (e ∙ o)
            (one_right (changed_numbers xs) (x.n ∷ []) x.n (one_first x.n []))
      ]

  -- the next one did not change
  pub changed_same : (HasChanged old new n → ⊥) → AreFirstChanges (take (i + 1) m) old new xs
  changed_same kept = record {
    ascend = are.ascend;
    each = λ k. (λ h. let p = (are.each k).0 h in (one_before m i n k s p.0, p.1), λ h. (are.each k).1 (before k h.1 (one_taken m i n k s h.0), h.1));
  }
    where
      before : (k : ℕ) → HasChanged old new k → IsOneOf (take i m) k ⊎ (n ≡ k) → IsOneOf (take i m) k
      before k h (inl o) = o
      before k h (inr e) = absurd (kept (subst (λ (z : ℕ). HasChanged old new z) (sym e) h))

-- all were looked at, and the others are as they were
pub changed_all : {A : Type 0} (m : List ℕ) (i : ℕ) (old new : List A) (xs : List VarId) → length m ≤ i
    → KeepsOthers m old new → AreFirstChanges (take i m) old new xs → AreChanges old new xs
changed_all {A} m i old new xs l keeps are = record {
  ascend = are.ascend;
  each = λ n. (
    λ h. ((are.each n).0 h).1,
    λ h. (are.each n).1
        (subst (λ (z : List ℕ). IsOneOf z n) (sym (take_all i m l)) (member n h (member_told m n)), h),
  );
}
  where
    member : (n : ℕ) → HasChanged old new n → IsOneOf m n ⊎ (IsOneOf m n → ⊥) → IsOneOf m n
    member n h (inl o) = o
    member n h (inr f) = absurd (h.differ (stands_one new n h.before h.after (keeps.others n f ∙ h.had) h.has))

-- what changed on the way there changes on the way back
pub changes_back : {A : Type 0} (old new : List A) (xs : List VarId) → AreChanges old new xs → AreChanges new old xs
changes_back {A} old new xs are = record {
  ascend = are.ascend;
  each = λ n. (λ h. other old new n ((are.each n).0 h), λ h. (are.each n).1 (other new old n h));
}
  where
    other : (a b : List A) (n : ℕ) → HasChanged a b n → HasChanged b a n
    other a b n h = record {
      before = h.after;
      after = h.before;
      had = h.has;
      has = h.had;
      differ = λ e. h.differ (sym e);
    }

-- what a member had
had : {A : Type 0} (m : List ℕ) (old new before : List A) (i n : ℕ) (v w : A) → Stands m i n → Stands old i v
    → Stands new n w → ArePicked m before old → KeepsOthers m before new → Stands before n v
had {A} m old new before i n v w s t u picked keeps =
    let b = stands_some before n (let l = stands_within new n w u in omega (arith, l, keeps.long)) in
    subst (λ (z : A). Stands before n z) (stands_one old i b.0 v (picked.each i n b.0 s b.1) t) b.1

-- the variables found among the first members, the codes of their old values, and what these give back
pub record IsFound (p : GtsParts) (first rest : List ℕ) (before new : List Value) (variables : List VarId)
    (codes : List ℕ) : Type 0 where
  pub long : length variables ≡ length codes
  pub back : IsBack first rest before new (restored p new variables codes)
  pub changes : AreFirstChanges first before new variables

-- what a loop over the members keeps, whatever they were
abbrev pub AreFound : GtsParts → (members : List ℕ) → ℕ → (old new : List Value) → List VarId → List ℕ → Type 0
AreFound p m i old new variables codes = (before : List Value) → ArePicked m before old → KeepsOthers m before new
    → IsTotal p before → IsFound p (take i m) (drop i m) before new variables codes

module _ (p : GtsParts) (m : List ℕ) (old new : List Value) (ascend : Ascends m) where
  -- nothing was looked at
  pub found_none : AreFound p m 0 old new [] []
  found_none before picked keeps total =
      record { long = refl; back = back_none m before old new picked keeps; changes = no_changes m before new }

  module _ (i n : ℕ) (xs : List VarId) (cs : List ℕ) (s : Stands m i n) (found : AreFound p m i old new xs cs)
      (v w : Value) (t : Stands old i v) (u : Stands new n w) where
    -- one more was found
    pub found_more : (v ≡ w → ⊥) → (x : VarId) → x.n ≡ n → (variable : Variable) → Stands p.variables.items n variable
        → AreFound p m (i + 1) old new (xs ++ x ∷ []) (cs ++ coded variable.domain v ∷ [])
    found_more differ x e variable stands before picked keeps total =
        let f = found before picked keeps total in
        let c = coded variable.domain v in
        let here = had m old new before i n v w s t u picked keeps in
        let value : decoded_at p x.n c ≡ v =
        ap (λ (z : ℕ). decoded_at p z c) e ∙ ap (λ (z : Option Variable). decoded_in z c) stands
        ∙ decoded_coded variable.domain v (total.in_domain n variable v stands here) in
        let more : restored p new (xs ++ x ∷ []) (cs ++ c ∷ []) ≡ set (restored p new xs cs) n v =
        restored_more p new xs cs x c f.long ∙ ap (λ (z : ℕ). set (restored p new xs cs) z (decoded_at p x.n c)) e
        ∙ ap (λ (z : Value). set (restored p new xs cs) n z) value in
        record {
          long = length_push xs x ∙ ap (λ k. k + 1) f.long ∙ sym (length_push cs c);
          back = subst (λ (z : List Value). IsBack (take (i + 1) m) (drop (i + 1) m) before new z) (sym more)
              (back_set m before old new picked i n (restored p new xs cs) ascend f.back s v t
              (stands_within new n w u));
          changes = changed_more m i n ascend s before new xs f.changes
              (record { before = v; after = w; had = here; has = u; differ = differ }) x e;
        }

    -- the next one did not change
    pub found_same : v ≡ w → AreFound p m (i + 1) old new xs cs
    found_same e before picked keeps total =
        let f = found before picked keeps total in
        let there : Stands new n v = subst (λ (z : Value). Stands new n z) (sym e) u in
        let here = had m old new before i n v w s t u picked keeps in
        record {
          long = f.long;
          back = back_keep m before old new picked i n (restored p new xs cs) ascend f.back s v t there
              (stands_within new n w u);
          changes = changed_same m i n ascend s before new xs f.changes
              (λ h. h.differ (stands_one before n h.before v h.had here
              ∙ sym (stands_one new n h.after v h.has there)));
        }

  -- all were looked at
  pub found_all : (i : ℕ) (xs : List VarId) (cs : List ℕ) → length m ≤ i → AreFound p m i old new xs cs
      → (before : List Value) → ArePicked m before old → KeepsOthers m before new → IsTotal p before
      → GivesBack p before new xs cs
  found_all i xs cs l found before picked keeps total =
      let f = found before picked keeps total in
      record {
        long = f.long;
        changes = changed_all m i before new xs l keeps f.changes;
        values = back_all m before old new picked i (restored p new xs cs) l f.back;
      }

-- the variables found among the first members whose marks turned, and what these give back
pub record IsTurned (first rest : List ℕ) (before new : List Bool) (variables : List VarId) : Type 0 where
  pub back : IsBack first rest before new (marks_turned new variables)
  pub turns : AreFirstChanges first before new variables

-- what a loop over the members keeps of the marks, whatever they were
abbrev pub AreTurned : (members : List ℕ) → ℕ → (old new : List Bool) → List VarId → Type 0
AreTurned m i old new variables = (before : List Bool) → ArePicked m before old → KeepsOthers m before new
    → IsTurned (take i m) (drop i m) before new variables

mark_there : (marks : List Bool) (n : ℕ) (b : Bool) → Stands marks n b → mark_at marks n ≡ b
mark_there marks n b s = ap (λ (z : Option Bool). unwrap_or z false) s

module _ (m : List ℕ) (old new : List Bool) (ascend : Ascends m) where
  -- nothing was looked at
  pub turned_none : AreTurned m 0 old new []
  turned_none before picked keeps = record
      { back = back_none m before old new picked keeps; turns = no_changes m before new }

  module _ (i n : ℕ) (xs : List VarId) (s : Stands m i n) (turning : AreTurned m i old new xs) (a b : Bool)
      (t : Stands old i a) (u : Stands new n b) where
    -- one more was turned
    pub turned_more : (a ≡ b → ⊥) → (x : VarId) → x.n ≡ n → AreTurned m (i + 1) old new (xs ++ x ∷ [])
    turned_more differ x e before picked keeps =
        let f = turning before picked keeps in
        let back = marks_turned new xs in
        let there : mark_at back n ≡ b = mark_there back n b
        (still m before old new picked i n back ascend f.back s b u) in
        let more : marks_turned new (xs ++ x ∷ []) ≡ set back n a =
        turned_last new xs x ∙ ap (λ (z : ℕ). set back z (not (mark_at back z))) e
        ∙ ap (λ (z : Bool). set back n (not z)) there ∙ ap (λ (z : Bool). set back n z) (other_mark a b differ) in
        record {
          back = subst (λ (z : List Bool). IsBack (take (i + 1) m) (drop (i + 1) m) before new z) (sym more)
              (back_set m before old new picked i n back ascend f.back s a t (stands_within new n b u));
          turns = changed_more m i n ascend s before new xs f.turns
              (record {
                before = a;
                after = b;
                had = had m old new before i n a b s t u picked keeps;
                has = u;
                differ = differ;
              }) x e;
        }

    -- the next one has the mark that it had
    pub turned_same : a ≡ b → AreTurned m (i + 1) old new xs
    turned_same e before picked keeps =
        let f = turning before picked keeps in
        let there : Stands new n a = subst (λ (z : Bool). Stands new n z) (sym e) u in
        let here = had m old new before i n a b s t u picked keeps in
        record {
          back = back_keep m before old new picked i n (marks_turned new xs) ascend f.back s a t there
              (stands_within new n b u);
          turns = changed_same m i n ascend s before new xs f.turns
              (λ h. h.differ (stands_one before n h.before a h.had here
              ∙ sym (stands_one new n h.after a h.has there)));
        }

  -- all were looked at
  pub turned_all : (i : ℕ) (xs : List VarId) → length m ≤ i → AreTurned m i old new xs → (before : List Bool)
      → ArePicked m before old → KeepsOthers m before new → TurnsBack before new xs
  turned_all i xs l turning before picked keeps =
      let f = turning before picked keeps in
      record {
        turns = changed_all m i before new xs l keeps f.turns;
        marks = back_all m before old new picked i (marks_turned new xs) l f.back;
      }
