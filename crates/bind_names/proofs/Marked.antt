-- Marks of events.
use Rattle.std.proofs.Common.{◌≡◌, ℕ, zero, suc, ◌+◌, ◌<◌, ◌⊎◌, inl, inr, Bool, true, false, List, [], ◌∷◌, ◌++◌, take, set, length, replicate, Some, refl, sym, ◌∙◌, ap, subst, arith, length-set}
use Rattle.std.specs.List.{flat_map}
use Rattle.std.proofs.lemmas.List.{length-replicate, append-nil}
use Rattle.std.proofs.lemmas.List.Concat.{flat_map-append}
use Rattle.ar_base.specs.Lists.{Stands, IsOneOf, AreDifferent}
use Rattle.ar_base.proofs.Standing.{stands_one, stands_none, stands_within, stands_map, stands_map_back, one_none, one_cases, one_first, one_split, one_left, one_right, one_here}
use Rattle.ar_base.proofs.Items.{last_one}
use Rattle.ar_meaning.specs.Found.{IsAnswer}
use Rattle.ar_syntax.specs.declared.members.Member.TheOpen as member
use Rattle.ar_syntax.specs.declared.paths.Path.{Path}
use Rattle.ar_syntax.specs.declared.paths.PathStart.{PathStart}
use Rattle.class_table.specs.Declaring.{MemberForm}
use Rattle.class_table.specs.Members.{MemberKind}
use Rattle.class_table.proofs.Taken.{stands_set, take_next}
use Rattle.hierarchy.specs.Models.{RootedModel}
use Rattle.hierarchy.specs.Units.{UnitPath, Thing, start_of}
use Rattle.hierarchy.specs.Walks.{Reaches, NamesLead, IsThingAt, Finds, is_event}
use Rattle.hierarchy.specs.Listing.{In, all_in, events, forms_at, hidden, hidden_paths}
use Rattle.hierarchy.proofs.Outcomes.{walks_same, unit_of_reaches}
use Rattle.source_meaning.specs.Systems.{IsHidden}
use Rattle.bind_names.specs.Hiding.{HidesIn, Marks, AreHidden}

-- Names name one thing

pub one_thing : {m : RootedModel} {u : UnitPath} {start : PathStart} (test : MemberKind → Bool) (names : List ℕ)
    (t s : Thing)
    → IsThingAt m test u start names t → IsThingAt m test u start names s → t ≡ s
one_thing {m = m} {u = u} {start = start} test names t s p q =
    let e = last_one p.leads.front q.leads.front t.name s.name (sym p.leads.split ∙ q.leads.split) in
    let w = unit_of_reaches (walks_same
    (subst (λ (ns : List ℕ). NamesLead m [] (start_of start u) ns (Reaches t.unit)) e.0 p.leads.reaches)
    q.leads.reaches) in
    both t.unit s.unit t.name s.name w e.1
  where
    both : (v w : UnitPath) (x y : ℕ) → v ≡ w → x ≡ y
        → ◌≡◌ {A = Thing} (record { unit = v; name = x }) (record { unit = w; name = y })
    both v w x y e i = cc

-- Marks

set_kept : (xs : List Bool) (i k : ℕ) → Stands xs k true → Stands (set xs i true) k true
set_kept [] i k s = s
set_kept (x ∷ xs) zero zero s = refl
set_kept (x ∷ xs) zero (suc k) s = s
set_kept (x ∷ xs) (suc i) zero s = s
set_kept (x ∷ xs) (suc i) (suc k) s = set_kept xs i k s

set_here : (xs : List Bool) (i : ℕ) → i < length xs → Stands (set xs i true) i true
set_here [] i l = absurd (omega (arith, l))
set_here (x ∷ xs) zero l = refl
set_here (x ∷ xs) (suc i) l = set_here xs i (omega (arith, l))

pub replicate_next : (n : ℕ) → replicate n false ++ false ∷ [] ≡ replicate (n + 1) false
replicate_next n = go n ∙ ap (λ (k : ℕ). replicate k false) (more n)
  where
    go : (k : ℕ) → replicate k false ++ false ∷ [] ≡ replicate (suc k) false
    go zero = refl
    go (suc k) = ap (λ (xs : List Bool). false ∷ xs) (go k)

    more : (k : ℕ) → suc k ≡ k + 1
    more k = omega arith

module _ (things : List Thing) where
  -- nothing is marked
  pub marks_none : (P : Thing → Type 0) (old : List Bool) → ((t : Thing) → P t → ⊥) → Marks things P old old
  marks_none P old n = record {
    same = refl;
    kept = λ k s. s;
    set = λ k t l s p. absurd (n t p);
    only = λ k t s h. inl h;
  }

  -- the same by another name
  pub marks_same : (P Q : Thing → Type 0) (old new : List Bool) → ((t : Thing) → P t → Q t) → ((t : Thing) → Q t → P t)
      → Marks things P old new → Marks things Q old new
  marks_same P Q old new to from h = record {
    same = h.same;
    kept = h.kept;
    set = λ k t l s q. h.set k t l s (from t q);
    only = λ k t s n. elim (h.only k t s n) [ inl o ↦ inl o | inr p ↦ inr (to t p) ];
  }

  -- one after the other
  pub marks_join : (P Q R : Thing → Type 0) (old mid new : List Bool) → ((t : Thing) → P t ⊎ Q t → R t)
      → ((t : Thing) → R t → P t ⊎ Q t)
      → Marks things P old mid → Marks things Q mid new → Marks things R old new
  marks_join P Q R old mid new to from h k = record {
    same = k.same ∙ h.same;
    kept = λ n s. k.kept n (h.kept n s);
    set = λ n t l s r. elim (from t r) [
      | inl p ↦ k.kept n (h.set n t l s p)
      | inr q ↦ k.set n t (subst (λ (z : ℕ). n < z) (sym h.same) l) s q
    ];
    only = λ n t s i. elim (k.only n t s i) [
      | inl o ↦ elim (h.only n t s o) [ inl j ↦ inl j | inr p ↦ inr (to t (inl p)) ]
      | inr q ↦ inr (to t (inr q))
    ];
  }

  -- one thing is marked
  pub marks_one : AreDifferent things → (P : Thing → Type 0) (old new : List Bool) (n : ℕ) (t : Thing)
      → Stands things n t → P t → ((s : Thing) → P s → s ≡ t)
      → new ≡ set old n true → Marks things P old new
  marks_one d P old new n t at p one e = subst (λ (z : List Bool). Marks things P old z) (sym e) (record {
    same = length-set old n true;
    kept = λ k s. set_kept old n k s;
    set = λ k s l st q.
        let j = d.one k n s st (subst (λ (z : Thing). Stands things n z) (sym (one s q)) at) in
        subst (λ (z : ℕ). Stands (set old n true) z true) (sym j)
        (set_here old n (subst (λ (z : ℕ). z < length old) j l));
    only = λ k s st h. elim (stands_set old n true k true h) [
      | inl i ↦ inr (subst P (stands_one things n t s at (subst (λ (z : ℕ). Stands things z s) i.0 st)) p)
      | inr o ↦ inl o
    ];
  })

-- Hide clauses

module _ (m : RootedModel) (u : UnitPath) (t : Thing) where
  -- one clause
  pub hides_to : (p : Path) → Finds m is_event u p t → HidesIn m u (member.Hide p ∷ []) t
  hides_to p h = record { path = p; is_clause = one_first p []; names = h }

  pub hides_from : (p : Path) → HidesIn m u (member.Hide p ∷ []) t → Finds m is_event u p t
  hides_from p h = elim (one_cases p [] h.path h.is_clause) [
    | inl e ↦ subst (λ (q : Path). Finds m is_event u q t) (sym e) h.names
    | inr n ↦ absurd (one_none h.path n)
  ]

  -- none
  pub hides_none : HidesIn m u [] t → ⊥
  hides_none h = one_none h.path h.is_clause

  -- some and others
  pub hides_join : (xs ys : List MemberForm) → HidesIn m u xs t ⊎ HidesIn m u ys t → HidesIn m u (xs ++ ys) t
  hides_join xs ys (inl h) = record {
    path = h.path;
    is_clause = subst (λ (ps : List Path). IsOneOf ps h.path) (sym (flat_map-append hidden xs ys))
        (one_left (flat_map hidden xs) (flat_map hidden ys) h.path h.is_clause);
    names = h.names;
  }
  hides_join xs ys (inr h) = record {
    path = h.path;
    is_clause = subst (λ (ps : List Path). IsOneOf ps h.path) (sym (flat_map-append hidden xs ys))
        (one_right (flat_map hidden xs) (flat_map hidden ys) h.path h.is_clause);
    names = h.names;
  }

  pub hides_split : (xs ys : List MemberForm) → HidesIn m u (xs ++ ys) t → HidesIn m u xs t ⊎ HidesIn m u ys t
  hides_split xs ys h = elim (one_split (flat_map hidden xs) (flat_map hidden ys) h.path
      (subst (λ (ps : List Path). IsOneOf ps h.path) (flat_map-append hidden xs ys) h.is_clause)) [
        | inl i ↦ inl (record { path = h.path; is_clause = i; names = h.names })
        | inr i ↦ inr (record { path = h.path; is_clause = i; names = h.names })
      ]

-- Units

abbrev in_this : UnitPath → Path → In Path
in_this u p = record { unit = u; item = p }

module _ (m : RootedModel) (units : List UnitPath) (i : ℕ) (u : UnitPath) (at : Stands units i u) where
  abbrev of_unit : List (In Path)
  of_unit = all_in u (flat_map hidden (forms_at m u))

  -- the clauses of one unit more
  paths_next : hidden_paths m (take (i + 1) units) ≡ hidden_paths m (take i units) ++ of_unit
  paths_next =
      let f = λ (v : UnitPath). all_in v (flat_map hidden (forms_at m v)) in
      ap (flat_map f) (take_next units i u at)
      ∙ (flat_map-append f (take i units) (u ∷ [])
      ∙ ap (λ (cs : List (In Path)). flat_map f (take i units) ++ cs) (append-nil (f u)))

  pub hidden_next : (t : Thing) → IsHidden m (take i units) t ⊎ HidesIn m u (forms_at m u) t
      → IsHidden m (take (i + 1) units) t
  hidden_next t (inl h) = record {
    clause = h.clause;
    is_clause = subst (λ (cs : List (In Path)). IsOneOf cs h.clause) (sym paths_next)
        (one_left (hidden_paths m (take i units)) of_unit h.clause h.is_clause);
    names = h.names;
  }
  hidden_next t (inr h) =
      let c : In Path = record { unit = u; item = h.path } in
      let s = stands_map (in_this u) (flat_map hidden (forms_at m u)) h.is_clause.place h.path h.is_clause.stands in
      record {
        clause = c;
        is_clause = subst (λ (cs : List (In Path)). IsOneOf cs c) (sym paths_next)
            (one_right (hidden_paths m (take i units)) of_unit c (one_here of_unit h.is_clause.place c s));
        names = h.names;
      }

  pub hidden_back : (t : Thing) → IsHidden m (take (i + 1) units) t
      → IsHidden m (take i units) t ⊎ HidesIn m u (forms_at m u) t
  hidden_back t h = elim (one_split (hidden_paths m (take i units)) of_unit h.clause
      (subst (λ (cs : List (In Path)). IsOneOf cs h.clause) paths_next h.is_clause)) [
        | inl o ↦ inl (record { clause = h.clause; is_clause = o; names = h.names })
        | inr o ↦
            let f = in_this u in
            let w = stands_map_back f (flat_map hidden (forms_at m u)) o.place h.clause o.stands in
            inr (record {
              path = w.0;
              is_clause = one_here (flat_map hidden (forms_at m u)) o.place w.0 w.1;
              names = subst (λ (c : In Path). Finds m is_event c.unit c.item t) (sym w.2) h.names;
            })
      ]

-- the marks, where none was set before
module _ (m : RootedModel) (units : List UnitPath) where
  unset_is : (k n : ℕ) → Stands (replicate k false) n true → ⊥
  unset_is zero n s = stands_none n true s
  unset_is (suc k) zero s = cc
  unset_is (suc k) (suc n) s = unset_is k n s

  pub marks_tell : (k : ℕ) (marks : List Bool) → k ≡ length (events m units)
      → Marks (events m units) (IsHidden m units) (replicate k false) marks → AreHidden m units marks
  marks_tell k marks e h = record { same = h.same ∙ (length-replicate k false ∙ e); tell = tell }
    where
      apart : Some true ≡ Some false → ⊥
      apart q = cc

      tell : (n : ℕ) (t : Thing) (b : Bool) → Stands (events m units) n t → Stands marks n b
          → IsAnswer b (IsHidden m units t)
      tell n t true s is = elim (h.only n t s is) [ inl o ↦ absurd (unset_is k n o) | inr p ↦ p ]
      tell n t false s is = λ p.
          let w = stands_within (events m units) n t s in
          let r = length-replicate k false in
          let set = h.set n t (omega (arith, w, r, e)) s p in
          absurd (apart (sym set ∙ is))
