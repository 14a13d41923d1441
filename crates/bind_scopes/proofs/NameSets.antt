-- Names of members that are added to a set.
use Rattle.std.proofs.Common.{◌≡◌, ℕ, ◌+◌, ◌<◌, ◌≤◌, ◌⊎◌, inl, inr, Bool, true, false, cond, nat_eq, List, [], ◌∷◌, ◌++◌, map, length, Option, Some, None, option_map, is_some, refl, sym, ◌∙◌, ap, subst, arith, append_assoc}
use Rattle.std.proofs.lemmas.Bool.Decides.{nat_tests}
use Rattle.std.specs.HashMap as hash
use Rattle.std.specs.HashMap.{HashMap}
use Rattle.std.specs.HashSet.{HashSet, contains}
use Rattle.ar_base.specs.Lists.{Stands}
use Rattle.ar_base.specs.Numbers.{NameId}
use Rattle.ar_base.specs.declared.places.Place.{Place}
use Rattle.ar_base.proofs.Standing.{one_none, one_cases, one_first, one_split, one_left, one_right, stands_map, stands_one, stands_within}
use Rattle.ar_base.proofs.Comparing.{side}
use Rattle.ar_syntax.specs.declared.members.Setting.{Setting}
use Rattle.ar_syntax.specs.declared.members.TypeForm.{TypeForm}
use Rattle.ar_syntax.specs.declared.members.TypeForm.TheVariants as form
use Rattle.class_table.specs.Declaring.{Declared, NamedType}
use Rattle.class_table.specs.Members.{Site, NamedMember, MemberKind, declared_kind, all_named, names_of, named_at, owned_at, member_kind_of, type_named}
use Rattle.class_table.specs.Shown.{IsDeclaredBy}
use Rattle.hierarchy.specs.Models.{RootedModel}
use Rattle.hierarchy.specs.Units.{UnitPath, body_of, names_at}
use Rattle.hierarchy.specs.UnitsInside.{names_in}
use Rattle.hierarchy.specs.Tie.{IsTreeOf}
use Rattle.unit_rules.specs.TypingInside.{KnowsPlaces}
use Rattle.bind_scopes.specs.Scopes.{AreScopes}
use Rattle.bind_scopes.specs.declared.scopes.Scopes.{Scopes}
use Rattle.bind_scopes.specs.Indexed.{is_same_index, IsIndexOf}
use Rattle.bind_scopes.proofs.Pairs.{pair_same, pair_one}
use Rattle.bind_scopes.specs.Members.{HasName, NamesSo, AddsMemberNames, HasFirst}

so_none : (x : ℕ) → NamesSo [] x → ⊥
so_none x n = one_none n.member n.is_one

so_left : (gs hs : List NamedMember) (x : ℕ) → NamesSo gs x → NamesSo (gs ++ hs) x
so_left gs hs x n = record { member = n.member; is_one = one_left gs hs n.member n.is_one; name = n.name }

so_right : (gs hs : List NamedMember) (x : ℕ) → NamesSo hs x → NamesSo (gs ++ hs) x
so_right gs hs x n = record { member = n.member; is_one = one_right gs hs n.member n.is_one; name = n.name }

so_split : (gs hs : List NamedMember) (x : ℕ) → NamesSo (gs ++ hs) x → NamesSo gs x ⊎ NamesSo hs x
so_split gs hs x n = elim (one_split gs hs n.member n.is_one) [
  | inl i ↦ inl (record { member = n.member; is_one = i; name = n.name })
  | inr i ↦ inr (record { member = n.member; is_one = i; name = n.name })
]

module _ {S : Type 0} (b : ℕ) where
  -- nothing is added
  pub adds_none : (s : HashSet (ℕ × ℕ) S) → AddsMemberNames b [] s s
  adds_none s = record { kept = λ c x h. h; added = λ x n. absurd (so_none x n); only = λ c x h. inl h }

  -- one name is added
  pub adds_one : (g : NamedMember) (x : ℕ) → g.name ≡ x → (old new : HashSet (ℕ × ℕ) S)
      → ((q : ℕ × ℕ) → contains is_same_index new q ≡ cond (is_same_index (b, x) q) true (contains is_same_index old q))
      → AddsMemberNames b (g ∷ []) old new
  adds_one g x e old new u = record { kept = kept; added = added; only = only }
    where
      kept : (c y : ℕ) → HasName old c y → HasName new c y
      kept c y h = by (is_same_index (b, x) (c, y)) (u (c, y))
        where
          by : (t : Bool) → contains is_same_index new (c, y) ≡ cond t true (contains is_same_index old (c, y))
              → HasName new c y
          by true f = f
          by false f = f ∙ h

      here : HasName new b x
      here = u (b, x) ∙ ap (λ (t : Bool). cond t true (contains is_same_index old (b, x))) (pair_same b x)

      added : (y : ℕ) → NamesSo (g ∷ []) y → HasName new b y
      added y n = elim (one_cases g [] n.member n.is_one) [
        | inl i ↦ subst (λ (z : ℕ). HasName new b z) (sym e ∙ (ap (λ (z : NamedMember). z.name) i ∙ n.name)) here
        | inr i ↦ absurd (one_none n.member i)
      ]

      only : (c y : ℕ) → HasName new c y → HasName old c y ⊎ ((c ≡ b) × NamesSo (g ∷ []) y)
      only c y h = by (is_same_index (b, x) (c, y)) refl (u (c, y))
        where
          by : (t : Bool) → is_same_index (b, x) (c, y) ≡ t
              → contains is_same_index new (c, y) ≡ cond t true (contains is_same_index old (c, y))
              → HasName old c y ⊎ ((c ≡ b) × NamesSo (g ∷ []) y)
          by true f k = let w = pair_one b x c y f in inr (sym w.0, record { member = g; is_one = one_first g []; name = e ∙ w.1 })
          by false f k = inl (sym k ∙ h)

  -- more names are added
  pub adds_more : (gs hs : List NamedMember) (old mid new : HashSet (ℕ × ℕ) S) → AddsMemberNames b gs old mid
      → AddsMemberNames b hs mid new → AddsMemberNames b (gs ++ hs) old new
  adds_more gs hs old mid new h k = record {
    kept = λ c x p. k.kept c x (h.kept c x p);
    added = λ x n. elim (so_split gs hs x n) [ inl i ↦ k.kept b x (h.added x i) | inr i ↦ k.added x i ];
    only = λ c x p. elim (k.only c x p) [
      | inl i ↦ elim (h.only c x i) [ inl j ↦ inl j | inr j ↦ inr (j.0, so_left gs hs x j.1) ]
      | inr i ↦ inr (i.0, so_right gs hs x i.1)
    ];
  }

  -- a declaration that declares nothing, or something
  pub adds_declared : (d : Declared) (s : Site) (f : TypeForm) (settings : List Setting) (names : List (NameId × Place))
      (old new : HashSet (ℕ × ℕ) S) → IsDeclaredBy d f true
      → ((kind : MemberKind) → AddsMemberNames b (all_named s (Some kind) names) old new)
      → AddsMemberNames b (all_named s (declared_kind d s f settings) names) old new
  adds_declared d s form.Boolean settings names old new e h = h _
  adds_declared d s form.Integer settings names old new e h = cc
  adds_declared d s (form.Named x) settings names old new e h = by (type_named d x.n) e
    where
      by : (t : Option NamedType) → true ≡ is_some t
          → AddsMemberNames b (all_named s (option_map (λ (u : NamedType). member_kind_of s (form.Named x) u settings) t)
          names) old
          new
      by None i = cc
      by (Some t) i = h _

  pub adds_nothing : (d : Declared) (s : Site) (f : TypeForm) (settings : List Setting) (names : List (NameId × Place))
      (old : HashSet (ℕ × ℕ) S) → IsDeclaredBy d f false
      → AddsMemberNames b (all_named s (declared_kind d s f settings) names) old old
  adds_nothing d s form.Boolean settings names old e = cc
  adds_nothing d s form.Integer settings names old e = adds_none old
  adds_nothing d s (form.Named x) settings names old e = by (type_named d x.n) e
    where
      by : (t : Option NamedType) → false ≡ is_some t
          → AddsMemberNames b (all_named s (option_map (λ (u : NamedType). member_kind_of s (form.Named x) u settings) t)
          names) old
          old
      by None i = adds_none old
      by (Some t) i = cc

-- names of one declaration more, and of one site more
pub all_next : (s : Site) (kind : MemberKind) (names : List (NameId × Place)) (n : NameId × Place)
    → all_named s (Some kind) (names ++ n ∷ [])
    ≡ all_named s (Some kind) names ++ record { name = n.0.n; at = n.1; kind = kind; site = s } ∷ []
all_next s kind [] n = refl
all_next s kind (x ∷ xs) n = ap (λ (gs : List NamedMember). record
    { name = x.0.n; at = x.1; kind = kind; site = s } ∷ gs) (all_next s kind xs n)

pub named_more : (d : Declared) (xs : List Site) (x : Site)
    → named_at d (xs ++ x ∷ []) ≡ named_at d xs ++ names_of d x (owned_at d x)
named_more d [] x = end (names_of d x (owned_at d x))
  where
    end : (gs : List NamedMember) → gs ++ [] ≡ gs
    end [] = refl
    end (g ∷ gs) = ap (λ (hs : List NamedMember). g ∷ hs) (end gs)
named_more d (y ∷ ys) x = ap (λ (gs : List NamedMember). names_of d y (owned_at d y) ++ gs) (named_more d ys x)
    ∙ sym (append_assoc (names_of d y (owned_at d y)) (named_at d ys) (names_of d x (owned_at d x)))

-- Units

module _ {S : Type 0} (m : RootedModel) (units : List UnitPath) where
  pub first_none : (s : HashSet (ℕ × ℕ) S) → s.keys ≡ [] → HasFirst m units 0 s
  first_none s e = record { there = λ k u x l t n. absurd (omega (arith, l)); only = λ b x h. absurd (none b x h) }
    where
      none : (b x : ℕ) → HasName s b x → ⊥
      none b x h = let g = rw e at h in cc

  pub first_more : (n : ℕ) (u : UnitPath) → Stands units n u → (old new : HashSet (ℕ × ℕ) S)
      → AddsMemberNames (body_of m u) (names_in m (body_of m u)) old new
      → HasFirst m units n old → HasFirst m units (n + 1) new
  first_more n u s old new a h = record { there = there; only = only }
    where
      there : (k : ℕ) (v : UnitPath) (x : ℕ) → k < n + 1 → Stands units k v → NamesSo (names_at m v) x
          → HasName new (body_of m v) x
      there k v x l t g = by (side n k)
        where
          by : (n ≤ k) ⊎ (k < n) → HasName new (body_of m v) x
          by (inr q) = a.kept (body_of m v) x (h.there k v x q t g)
          by (inl q) =
              let e : n ≡ k = omega (arith, q, l) in
              let i : u ≡ v = stands_one units k u v (subst (λ (z : ℕ). Stands units z u) e s) t in
              subst (λ (w : UnitPath). HasName new (body_of m w) x) i
              (a.added x (subst (λ (w : UnitPath). NamesSo (names_at m w) x) (sym i) g))

      only : (b x : ℕ) → HasName new b x → NamesSo (names_in m b) x
      only b x k = elim (a.only b x k) [
        | inl i ↦ h.only b x i
        | inr i ↦ subst (λ (z : ℕ). NamesSo (names_in m z) x) (sym i.0) i.1
      ]

-- Symbols

-- the first n of these names have their places as numbers
pub record AreNumbersOf {S : Type 0} (list : List NameId) (n : ℕ) (numbers : HashMap ℕ ℕ S) : Type 0 where
  pub at : (x k : ℕ) → hash.get nat_eq numbers x ≡ Some k → Stands (map (λ (x : NameId). x.n) list) k x
  pub all : (x k : ℕ) → hash.get nat_eq numbers x ≡ None → k < n → Stands (map (λ (x : NameId). x.n) list) k x → ⊥

module _ {S : Type 0} (list : List NameId) where
  pub numbers_none : (t : HashMap ℕ ℕ S) → t.entries ≡ [] → AreNumbersOf list 0 t
  numbers_none t e = record { at = λ x k h. absurd (none x k h); all = λ x k h l s. omega (arith, l) }
    where
      none : (x k : ℕ) → hash.get nat_eq t x ≡ Some k → ⊥
      none x k h = let g = rw e at h in cc

  pub numbers_more : (n : ℕ) (a : NameId) → Stands list n a → (old new : HashMap ℕ ℕ S)
      → ((q : ℕ) → hash.get nat_eq new q ≡ cond (nat_eq a.n q) (Some n) (hash.get nat_eq old q))
      → AreNumbersOf list n old → AreNumbersOf list (n + 1) new
  numbers_more n a s old new u h = record { at = at; all = all }
    where
      here : Stands (map (λ (x : NameId). x.n) list) n a.n
      here = stands_map (λ (x : NameId). x.n) list n a s

      at : (x k : ℕ) → hash.get nat_eq new x ≡ Some k → Stands (map (λ (x : NameId). x.n) list) k x
      at x k g = by (nat_eq a.n x) refl (sym (u x) ∙ g)
        where
          by : (b : Bool) → nat_eq a.n x ≡ b → cond b (Some n) (hash.get nat_eq old x) ≡ Some k
              → Stands (map (λ (x : NameId). x.n) list) k x
          by true e f =
              let i : a.n ≡ x = grind (arith, nat_tests) in let j : n ≡ k = cc in
              subst (λ (z : ℕ). Stands (map (λ (x : NameId). x.n) list) k z) i
              (subst (λ (z : ℕ). Stands (map (λ (x : NameId). x.n) list) z a.n) j here)
          by false e f = h.at x k f

      all : (x k : ℕ) → hash.get nat_eq new x ≡ None → k < n + 1 → Stands (map (λ (x : NameId). x.n) list) k x → ⊥
      all x k g l t = by (nat_eq a.n x) refl (sym (u x) ∙ g)
        where
          by : (b : Bool) → nat_eq a.n x ≡ b → cond b (Some n) (hash.get nat_eq old x) ≡ None → ⊥
          by true e f = cc
          by false e f = below (side n k)
            where
              below : (n ≤ k) ⊎ (k < n) → ⊥
              below (inr q) = h.all x k f q t
              below (inl q) =
                  let i : k ≡ n = omega (arith, q, l) in
                  let j = stands_one (map (λ (x : NameId). x.n) list) n a.n x here
                  (subst (λ (z : ℕ). Stands (map (λ (x : NameId). x.n) list) z x) i t) in
                  let w : nat_eq a.n x ≡ true = grind (arith, nat_tests) in cc

-- the table is that of the tree
pub scopes_of : (m : RootedModel) (units : List UnitPath) (s : Scopes) → IsTreeOf m units s.tree.now
    → ((x k : ℕ) → hash.get nat_eq s.symbols x ≡ Some k
    → Stands (map (λ (x : NameId). x.n) s.tree.now.classes.symbols.items) k x)
    → ((x k : ℕ) → hash.get nat_eq s.symbols x ≡ None
    → Stands (map (λ (x : NameId). x.n) s.tree.now.classes.symbols.items) k x → ⊥)
    → HasFirst m units (length units) s.members → KnowsPlaces s.tree.now.classes.types.items s.types
    → IsIndexOf s.tree.now s.index → AreScopes m units s
scopes_of m units s is at all first known index = record {
  index = index;
  types = known;
  is_tree = is;
  symbols = λ x k e. subst (λ (z : List ℕ). Stands z k x) is.table.table.holds.symbols (at x k e);
  no_symbols = λ x k e t. all x k e (subst (λ (z : List ℕ). Stands z k x) (sym is.table.table.holds.symbols) t);
  names = λ n u x t g. first.there n u x (stands_within units n u t) t g;
  only_names = first.only;
}
