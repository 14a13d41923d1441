-- What is kept for names, one entry after the other.
use Rattle.std.proofs.Common.{◌≡◌, ◌<◌, ◌+◌, ◌⊎◌, inl, inr, ℕ, false, List, [], ◌∷◌, ◌++◌, Option, Some, None, option_map, option_and_then, refl, sym, ◌∙◌, ap, subst, arith}
use Rattle.std.specs.HashMap.{get}
use Rattle.std.proofs.lemmas.Bool.{cases_eq}
use Rattle.ar_base.specs.Lists.{Stands, IsOneOf}
use Rattle.ar_base.proofs.Standing.{one_none, one_first, one_split, one_left, one_right, one_cases, stands_one}
use Rattle.class_table.specs.Members.{NamedMember}
use Rattle.hierarchy.specs.Models.{RootedModel}
use Rattle.hierarchy.specs.ModelsInside.{KeepsTextRules}
use Rattle.hierarchy.specs.Units.{UnitPath, body_of, names_at, name_at}
use Rattle.hierarchy.specs.UnitsInside.{names_in}
use Rattle.hierarchy.proofs.Apart.{members_apart, named_here, named_back}
use Rattle.unit_rules.proofs.Sited.{flat_one, one_flat}
use Rattle.unit_walks.specs.Forms.{same_pair}
use Rattle.unit_walks.proofs.TableSteps.{pair_apart}
use Rattle.unit_rules.specs.declared.settables.Settable.{Settable}
use Rattle.unit_rules.specs.declared.settables.Settables.{Settables}
use Rattle.unit_rules.specs.Settables.{settable_of, one_entry, settable_entries, kept_at, AddsSettables, AreSettables, AreSettablesTo}

module _ (b : ℕ) where
  -- nothing was added
  pub adds_none : (t : Settables) → AddsSettables b [] t t
  adds_none t = record { found = λ c x s h. inl h; kept = λ c x s h. (s, h); all = λ x s o. absurd (one_none (x, s) o) }

  -- some entries were added, and then some more
  pub adds_more : (xs ys : List (ℕ × Settable)) (old mid new : Settables) → AddsSettables b xs old mid → AddsSettables b ys mid new
      → AddsSettables b (xs ++ ys) old new
  adds_more xs ys old mid new a e = record {
    found = λ c x s h. elim (e.found c x s h) [
      | inl p ↦ elim (a.found c x s p) [ inl q ↦ inl q | inr q ↦ inr (q.0, one_left xs ys (x, s) q.1) ]
      | inr p ↦ inr (p.0, one_right xs ys (x, s) p.1)
    ];
    kept = λ c x s h. (let r = a.kept c x s h in e.kept c x r.0 r.1);
    all = λ x s o. elim (one_split xs ys (x, s) o) [ inl p ↦ (let r = a.all x s p in e.kept b x r.0 r.1) | inr p ↦ e.all x s p ];
  }

  -- one entry was
  module _ (x : ℕ) (s : Settable) (old new : Settables) (here : kept_at new b x ≡ Some s)
      (other : (q : ℕ × ℕ) → same_pair (b, x) q ≡ false → get same_pair new.kept q ≡ get same_pair old.kept q) where
    apart : (c y : ℕ) → ((c ≡ b) × (y ≡ x) → ⊥) → kept_at new c y ≡ kept_at old c y
    apart c y n = other (c, y) (pair_apart b x c y n)

    at_entry : (c y : ℕ) → c ≡ b → y ≡ x → kept_at new c y ≡ Some s
    at_entry c y e f = subst (λ (z : ℕ). kept_at new z y ≡ Some s) (sym e)
        (subst (λ (z : ℕ). kept_at new b z ≡ Some s) (sym f) here)

    is_it : (y : ℕ) (r : Settable) → y ≡ x → s ≡ r → IsOneOf {A = ℕ × Settable} ((x, s) ∷ []) (y, r)
    is_it y r f g = subst (λ (e : ℕ × Settable). IsOneOf ((x, s) ∷ []) e) (let h : (x, s) ≡ (y, r) = cc in h) (one_first (x, s) [])

    found_here : (c y : ℕ) (r : Settable) → kept_at new c y ≡ Some r → (c ≡ b) ⊎ (c ≡ b → ⊥) → (y ≡ x) ⊎ (y ≡ x → ⊥)
        → (kept_at old c y ≡ Some r) ⊎ ((c ≡ b) × IsOneOf {A = ℕ × Settable} ((x, s) ∷ []) (y, r))
    found_here c y r h (inl e) (inl f) = inr (e, is_it y r f (let k : Some s ≡ Some r = sym (at_entry c y e f) ∙ h in let g : s ≡ r = cc in g))
    found_here c y r h (inl e) (inr n) = inl (sym (apart c y (λ q. n q.1)) ∙ h)
    found_here c y r h (inr n) f = inl (sym (apart c y (λ q. n q.0)) ∙ h)

    kept_here : (c y : ℕ) (r : Settable) → kept_at old c y ≡ Some r → (c ≡ b) ⊎ (c ≡ b → ⊥) → (y ≡ x) ⊎ (y ≡ x → ⊥)
        → (t : Settable) × (kept_at new c y ≡ Some t)
    kept_here c y r h (inl e) (inl f) = (s, at_entry c y e f)
    kept_here c y r h (inl e) (inr n) = (r, apart c y (λ q. n q.1) ∙ h)
    kept_here c y r h (inr n) f = (r, apart c y (λ q. n q.0) ∙ h)

    pub adds_one : AddsSettables b ((x, s) ∷ []) old new
    adds_one = record {
      found = λ c y r h. found_here c y r h (cases_eq c b) (cases_eq y x);
      kept = λ c y r h. kept_here c y r h (cases_eq c b) (cases_eq y x);
      all = λ y r o. elim (one_cases (x, s) [] (y, r) o) [
        | inl e ↦ (s, subst (λ (z : ℕ). kept_at new b z ≡ Some s) (ap (λ (p : ℕ × Settable). p.0) e) here)
        | inr e ↦ absurd (one_none (y, r) e)
      ];
    }

-- Bodies of units

module _ (m : RootedModel) (units : List UnitPath) where
  -- the entries of the body of one unit more
  pub settables_next : (i b : ℕ) (u : UnitPath) (old new : Settables) → Stands units i u → b ≡ body_of m u
      → AreSettablesTo m units i old → AddsSettables b (settable_entries (names_in m b)) old new → AreSettablesTo m units (i + 1) new
  settables_next i b u old new s e h a = record {
    right = λ c x r k. elim (a.found c x r k) [
      | inl p ↦ h.right c x r p
      | inr p ↦ subst (λ (z : ℕ). IsOneOf (settable_entries (names_in m z)) (x, r)) (sym p.0) p.1
    ];
    all = λ k v x r l t o. go k v x r l t o (cases_eq k i);
  }
    where
      go : (k : ℕ) (v : UnitPath) (x : ℕ) (r : Settable) → k < i + 1 → Stands units k v
          → IsOneOf (settable_entries (names_at m v)) (x, r) → (k ≡ i) ⊎ (k ≡ i → ⊥)
          → (t : Settable) × (kept_at new (body_of m v) x ≡ Some t)
      go k v x r l t o (inr n) = (let w = h.all k v x r (omega arith) t o in a.kept (body_of m v) x w.0 w.1)
      go k v x r l t o (inl q) =
          let same : v ≡ u = stands_one units i v u (subst (λ (z : ℕ). Stands units z v) q t) s in
          let body : b ≡ body_of m v = e ∙ ap (body_of m) (sym same) in
          subst (λ (z : ℕ). (t : Settable) × (kept_at new z x ≡ Some t)) body
          (a.all x r (subst (λ (z : ℕ). IsOneOf (settable_entries (names_in m z)) (x, r)) (sym body) o))

  entry_given : (gs : List NamedMember) (x : ℕ) (s : Settable) → IsOneOf (settable_entries gs) (x, s)
      → (k : ℕ) × (g : NamedMember) × Stands gs k g × (g.name ≡ x) × (settable_of g.kind ≡ Some s)
  entry_given gs x s o =
      let w = flat_one (λ (g : NamedMember). one_entry g.name (settable_of g.kind)) gs (x, s) o in
      let q = go w.1.name (settable_of w.1.kind) _ refl w.3 in (w.0, w.1, w.2, q.0, q.1)
    where
      go : (y : ℕ) (o r : Option Settable) → o ≡ r → IsOneOf (one_entry y r) (x, s) → (y ≡ x) × (o ≡ Some s)
      go y o None e h = absurd (one_none (x, s) h)
      go y o (Some r) e h = elim (one_cases (y, r) [] (x, s) h) [
        | inl f ↦ (ap (λ (p : ℕ × Settable). p.0) f, e ∙ ap (λ (p : ℕ × Settable). Some p.1) f)
        | inr f ↦ absurd (one_none (x, s) f)
      ]

  given_entry : (gs : List NamedMember) (g : NamedMember) (s : Settable) → IsOneOf gs g → settable_of g.kind ≡ Some s
      → IsOneOf (settable_entries gs) (g.name, s)
  given_entry gs g s o e = one_flat (λ (h : NamedMember). one_entry h.name (settable_of h.kind)) gs o.place g
      (g.name, s) o.stands
      (subst (λ (r : Option Settable). IsOneOf (one_entry g.name r) (g.name, s)) (sym e) (one_first (g.name, s) []))

  -- all of them are found so
  pub settables_all : KeepsTextRules m → (i : ℕ) (t : Settables) → ((k : ℕ) (u : UnitPath) → Stands units k u → k < i)
      → AreSettablesTo m units i t → AreSettables m units t
  settables_all kept i t within h = record
      { each = λ u x o. by u x o (kept_at t (body_of m u) x) refl (name_at m u x) refl }
    where
      by : (u : UnitPath) (x : ℕ) → IsOneOf units u → (o : Option Settable) → kept_at t (body_of m u) x ≡ o
          → (n : Option NamedMember) → name_at m u x ≡ n
          → o ≡ option_and_then settable_of (option_map (λ (g : NamedMember). g.kind) n)
      by u x a (Some s) e n f =
          let w = entry_given (names_at m u) x s (h.right (body_of m u) x s e) in
          let named : name_at m u x ≡ Some w.1 =
          subst (λ (y : ℕ). name_at m u y ≡ Some w.1) w.3
          (named_here (names_at m u) w.0 w.1 (members_apart kept u) w.2) in
          sym (ap (λ (z : Option NamedMember). option_and_then settable_of (option_map (λ (g : NamedMember). g.kind) z))
          (sym f ∙ named) ∙ w.4)
      by u x a None e None f = refl
      by u x a None e (Some g) f = look (settable_of g.kind) refl
        where
          look : (r : Option Settable) → settable_of g.kind ≡ r → None ≡ r
          look None q = refl
          look (Some s) q =
              let b = named_back (names_at m u) x g f in
              let w = h.all a.place u g.name s (within a.place u a.stands) a.stands
              (given_entry (names_at m u) g s b.0 q) in
              let z : kept_at t (body_of m u) x ≡ Some w.0 =
              subst (λ (y : ℕ). kept_at t (body_of m u) y ≡ Some w.0) b.1 w.1 in
              let v : None ≡ Some w.0 = sym e ∙ z in absurd cc
