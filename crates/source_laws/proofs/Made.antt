-- Units that are made from a unit on, and how deep they are.
use Rattle.std.proofs.Common.{◌≡◌, ℕ, zero, suc, ◌+◌, ◌≤◌, ◌<◌, ◌⊎◌, inl, inr, Bool, true, false, not, ◌==◌, ◌||◌, List, [], ◌∷◌, ◌++◌, map, length, Option, Some, None, slice_get, unwrap_or, refl, sym, ◌∙◌, ap, subst, arith}
use Rattle.std.specs.List.{flat_map}
use Rattle.ar_base.specs.Lists.{IsOneOf}
use Rattle.ar_base.proofs.Standing.{one_none, one_cases, one_first, one_rest, one_left, one_right, stands_map}
use Rattle.class_table.specs.Members.{Site, NamedMember, MemberKind, Inner, named_at}
use Rattle.class_table.specs.Rules.{IsWithin, itself as here}
use Rattle.hierarchy.specs.Models.{RootedModel}
use Rattle.hierarchy.specs.ModelsInside.{KeepsTextRules}
use Rattle.hierarchy.specs.Units.{UnitLevel, UnitPath, body_of, bodies_of, has_number, names_at}
use Rattle.hierarchy.proofs.Finding.{same_or_not}
use Rattle.hierarchy.proofs.Things.{flat_one}
use Rattle.source_laws.proofs.UnitsPassing.{passing, passing_length, no_more, fewer}
use Rattle.source_laws.proofs.Containment.{within_all, not_again}
use Rattle.source_laws.proofs.Inside.{inner_inside}
use Rattle.class_table.specs.Rules.{further}

-- the second unit is the first, or above it
pub data IsAbove : UnitPath → UnitPath → Type 0 where
  itself : {u : UnitPath} → IsAbove u u
  owner : {l : UnitLevel} {u v : UnitPath} → IsAbove u v → IsAbove (l ∷ u) v

-- the body of a block or an instance
abbrev pub inner_body : MemberKind → List ℕ
inner_body (Inner b from) = b ∷ []
inner_body _ = []

-- the names of a model's members, and of the levels of a unit
abbrev pub all_names : RootedModel → UnitPath → List ℕ
all_names m base = map (λ (l : UnitLevel). l.name) base ++ flat_map
    (λ (sites : List Site). map (λ (g : NamedMember). g.name) (named_at m.declared sites)) m.members

-- the bodies of its blocks and instances, and of a unit and those above it
abbrev pub all_bodies : RootedModel → UnitPath → List ℕ
all_bodies m base = bodies_of m base ++ flat_map
    (λ (sites : List Site). flat_map (λ (g : NamedMember). inner_body g.kind) (named_at m.declared sites)) m.members

-- a unit that is above this one, or is made from such a unit on by blocks, instances and clones; the bodies are those
-- since the last clone
pub data IsMade (m : RootedModel) (base : UnitPath) : List ℕ → UnitPath → Type 0 where
  given : {u : UnitPath} → IsAbove base u → IsMade m base (body_of m u ∷ []) u
  inner : {run : List ℕ} {u : UnitPath} {b : ℕ} {from : Option Site} (g : NamedMember) → IsMade m base run u
      → IsOneOf (names_at m u) g → g.kind ≡ Inner b from
      → IsMade m base (b ∷ run) (record { name = g.name; body = b; set_at = from } ∷ u)
  copied : {run : List ℕ} {u : UnitPath} {l : UnitLevel} → IsMade m base run u → IsOneOf (all_names m base) l.name
      → IsOneOf (all_bodies m base) l.body → has_number (bodies_of m u) l.body ≡ false
      → IsMade m base (l.body ∷ []) (l ∷ u)

-- not in the list
abbrev pub is_free : List ℕ → ℕ → Bool
is_free used b = not (has_number used b)

-- how many bodies are not in the list
abbrev pub free : RootedModel → UnitPath → List ℕ → ℕ
free m base used = passing (is_free used) (all_bodies m base)

-- n times w
abbrev pub times : ℕ → ℕ → ℕ
times zero w = 0
times (suc n) w = w + times n w

times_more : (n p w : ℕ) → n ≤ p → times n w ≤ times p w
times_more zero p w h = omega arith
times_more (suc n) zero w h = absurd (omega (arith, h))
times_more (suc n) (suc p) w h = let t = times_more n p w (omega (arith, h)) in omega (arith, t)

times_less : (n p w : ℕ) → n < p → times n w + w ≤ times p w
times_less n zero w h = absurd (omega (arith, h))
times_less n (suc p) w h = let t = times_more n p w (omega (arith, h)) in omega (arith, t)

-- the number is the first of a list, or among the rest
has_cases : (x : ℕ) (xs : List ℕ) (n : ℕ) → has_number (x ∷ xs) n ≡ true → (x ≡ n) ⊎ (has_number xs n ≡ true)
has_cases x xs n h = elim (same_or_not x n) [
  | inl e ↦ inl e.1
  | inr e ↦ (let w : (x == n) ≡ false = e.0 in inr (rw w at h))
]

has_first : (x : ℕ) (xs : List ℕ) → has_number (x ∷ xs) x ≡ true
has_first x xs = elim (same_or_not x x) [
  | inl e ↦ (let w : (x == x) ≡ true = e.0 in rw w refl)
  | inr e ↦ absurd (e.1 refl)
]

free_less : (x : ℕ) (xs : List ℕ) (n : ℕ) → is_free (x ∷ xs) n ≡ true → is_free xs n ≡ true
free_less x xs n h = go (has_number xs n) refl
  where
    go : (b : Bool) → has_number xs n ≡ b → is_free xs n ≡ true
    go false e = ap not e
    go true e = over (x == n) refl
      where
        over : (c : Bool) → (x == n) ≡ c → is_free xs n ≡ true
        over true f = let k : is_free (x ∷ xs) n ≡ false = ap (λ (z : Bool). not (z || has_number xs n)) f in cc
        over false f = let k : is_free (x ∷ xs) n ≡ is_free xs n =
            ap (λ (z : Bool). not (z || has_number xs n)) f in sym k ∙ h

module _ (m : RootedModel) (base : UnitPath) where
  -- one more body leaves no more free
  free_more : (x : ℕ) (xs : List ℕ) → free m base (x ∷ xs) ≤ free m base xs
  free_more x xs = no_more (is_free (x ∷ xs)) (is_free xs) (free_less x xs) (all_bodies m base)

  -- a new one leaves fewer free
  free_fewer : (x : ℕ) (xs : List ℕ) → IsOneOf (all_bodies m base) x → has_number xs x ≡ false
      → free m base (x ∷ xs) < free m base xs
  free_fewer x xs o n = fewer (is_free (x ∷ xs)) (is_free xs) (free_less x xs) (all_bodies m base) o.place x o.stands
      (ap not (has_first x xs)) (ap not n)

  free_all : (xs : List ℕ) → free m base xs ≤ length (all_bodies m base)
  free_all xs = passing_length (is_free xs) (all_bodies m base)

  -- a unit's members are among those of the model
  members_among : (u : UnitPath) (g : NamedMember) → IsOneOf (names_at m u) g
      → (sites : List Site) × IsOneOf m.members sites × IsOneOf (named_at m.declared sites) g
  members_among u g o = go (slice_get m.members (body_of m u)) refl
    where
      go : (all : Option (List Site)) → slice_get m.members (body_of m u) ≡ all
          → (sites : List Site) × IsOneOf m.members sites × IsOneOf (named_at m.declared sites) g
      go None i = absurd (one_none g (subst
          (λ (z : Option (List Site)). IsOneOf (named_at m.declared (unwrap_or z [])) g) i o))
      go (Some sites) i = (
        sites,
        record { place = body_of m u; stands = i },
        subst
            (λ (z : Option (List Site)). IsOneOf (named_at m.declared (unwrap_or z [])) g) i o,
      )

  -- the name of a member is among the names
  pub name_among : (u : UnitPath) (g : NamedMember) → IsOneOf (names_at m u) g → IsOneOf (all_names m base) g.name
  name_among u g o =
      let s = members_among u g o in
      one_right (map (λ (l : UnitLevel). l.name) base) _ g.name
      (flat_one (λ (sites : List Site). map (λ (h : NamedMember). h.name) (named_at m.declared sites)) m.members s.0
      g.name s.1
      (record {
        place = s.2.place;
        stands = stands_map (λ (h : NamedMember). h.name) (named_at m.declared s.0) s.2.place
            g s.2.stands;
      }))

  inner_first : (g : NamedMember) (b : ℕ) (from : Option Site) → g.kind ≡ Inner b from → IsOneOf (inner_body g.kind) b
  inner_first g b from e = subst (λ (k : MemberKind). IsOneOf (inner_body k) b) (sym e) (one_first b [])

  -- the body of a block or an instance is among the bodies
  body_among : (u : UnitPath) (g : NamedMember) (b : ℕ) (from : Option Site) → IsOneOf (names_at m u) g
      → g.kind ≡ Inner b from → IsOneOf (all_bodies m base) b
  body_among u g b from o e =
      let s = members_among u g o in
      one_right (bodies_of m base) _ b
      (flat_one (λ (sites : List Site). flat_map (λ (h : NamedMember). inner_body h.kind) (named_at m.declared sites))
      m.members s.0 b s.1
      (flat_one (λ (h : NamedMember). inner_body h.kind) (named_at m.declared s.0) g b s.2 (inner_first g b from e)))

  body_above : {u v : UnitPath} → IsAbove u v → IsOneOf (bodies_of m u) (body_of m v)
  body_above {u = []} itself = one_first m.main []
  body_above {u = l ∷ u} itself = one_first l.body (bodies_of m u)
  body_above {u = l ∷ u} (owner a) = one_rest l.body (bodies_of m u) _ (body_above a)

  -- the body of a unit that is made is among the bodies
  pub made_body : {run : List ℕ} {u : UnitPath} → IsMade m base run u → IsOneOf (all_bodies m base) (body_of m u)
  made_body {u = u} (given a) = one_left (bodies_of m base) _ (body_of m u) (body_above a)
  made_body (inner {u = u} {b = b} {from = from} g h o e) = body_among u g b from o e
  made_body (copied h x b n) = b

  -- the levels of a unit have names and bodies among these
  pub record HasKeys (u : UnitPath) : Type 0 where
    pub each : (l : UnitLevel) → IsOneOf u l → IsOneOf (all_names m base) l.name × IsOneOf (all_bodies m base) l.body

  levels_above : {u v : UnitPath} → IsAbove u v → (l : UnitLevel) → IsOneOf v l
      → IsOneOf (map (λ (k : UnitLevel). k.name) u) l.name × IsOneOf (bodies_of m u) l.body
  levels_above {u = k ∷ u} (owner a) l o = let r = levels_above a l o in (one_rest k.name _ l.name r.0, one_rest k.body _ l.body r.1)
  levels_above {u = u} itself l o = (
    record
        { place = o.place; stands = stands_map (λ (k : UnitLevel). k.name) u o.place l o.stands },
    body_at u o,
  )
    where
      body_at : (w : UnitPath) → IsOneOf w l → IsOneOf (bodies_of m w) l.body
      body_at [] i = absurd (one_none l i)
      body_at (k ∷ w) i = elim (one_cases k w l i) [
        | inl e ↦ subst (λ (z : UnitLevel). IsOneOf (k.body ∷ bodies_of m w) z.body) e
            (one_first k.body (bodies_of m w))
        | inr r ↦ one_rest k.body (bodies_of m w) l.body (body_at w r)
      ]

  keys_more : (k : UnitLevel) (u : UnitPath) → IsOneOf (all_names m base) k.name → IsOneOf (all_bodies m base) k.body
      → HasKeys u → HasKeys (k ∷ u)
  keys_more k u x b h = record {
    each = λ l o. elim (one_cases k u l o) [
      | inl e ↦ subst (λ (z : UnitLevel). IsOneOf (all_names m base) z.name × IsOneOf (all_bodies m base) z.body) e
          (x, b)
      | inr r ↦ h.each l r
    ];
  }

  pub made_keys : {run : List ℕ} {u : UnitPath} → IsMade m base run u → HasKeys u
  made_keys (given a) = record { each = λ l o. let r = levels_above a l o in (one_left _ _ l.name r.0, one_left _ _ l.body r.1) }
  made_keys (inner {u = u} {b = b} {from = from} g h o e) =
      keys_more _ u (name_among u g o) (body_among u g b from o e) (made_keys h)
  made_keys (copied {u = u} {l = l} h x b n) = keys_more l u x b (made_keys h)

  above_short : {u v : UnitPath} → IsAbove u v → length v ≤ length u
  above_short itself = omega arith
  above_short (owner a) = let h = above_short a in omega (arith, h)

  -- how deep a unit that is made may be
  abbrev pub most : ℕ
  most = length base + (length (all_bodies m base) + times (length (all_bodies m base))
      (suc (length (all_bodies m base))))

  module _ (k : KeepsTextRules m) where
    -- the bodies since the last clone have the unit's body inside
    run_within : {run : List ℕ} {u : UnitPath} → IsMade m base run u → (r : ℕ) → has_number run r ≡ true
        → IsWithin m.declared r (body_of m u)
    run_within {u = u} (given a) r h =
        elim (has_cases (body_of m u) [] r h)
        [ inl e ↦ subst (λ (z : ℕ). IsWithin m.declared z (body_of m u)) e here | inr n ↦ cc ]
    run_within (inner {run = run} {u = u} {b = b} {from = from} g d o e) r h = elim (has_cases b run r h) [
      | inl f ↦ subst (λ (z : ℕ). IsWithin m.declared z b) f here
      | inr f ↦ (let i = inner_inside k u g b from o e in within_all (run_within d r f) (within_all i.within (further b i.inside here)))
    ]
    run_within (copied {l = l} d x b n) r h =
        elim (has_cases l.body [] r h) [ inl e ↦ subst (λ (z : ℕ). IsWithin m.declared z l.body) e here | inr f ↦ cc ]

    -- a block's or an instance's body is none of them
    new_body : {run : List ℕ} {u : UnitPath} (g : NamedMember) (b : ℕ) (from : Option Site) → IsMade m base run u
        → IsOneOf (names_at m u) g → g.kind ≡ Inner b from → has_number run b ≡ false
    new_body {run = run} {u = u} g b from d o e = go (has_number run b) refl
      where
        go : (t : Bool) → has_number run b ≡ t → has_number run b ≡ false
        go false f = f
        go true f = let i = inner_inside k u g b from o e in absurd (not_again k i.inside (within_all (run_within d b f) i.within))

    -- what of the depth is used up
    depth : {run : List ℕ} {u : UnitPath} → IsMade m base run u
        → length u + (free m base run + times (free m base (bodies_of m u)) (suc (length (all_bodies m base)))) ≤ most
    depth {u = u} (given a) =
        let s = above_short a in
        let f = free_all (body_of m u ∷ []) in
        let t = times_more (free m base (bodies_of m u)) (length (all_bodies m base)) (suc (length (all_bodies m base)))
        (free_all (bodies_of m u)) in
        omega (arith, s, f, t)
    depth (inner {run = run} {u = u} {b = b} {from = from} g d o e) =
        let h = depth d in
        let f = free_fewer b run (body_among u g b from o e) (new_body g b from d o e) in
        let t = times_more (free m base (b ∷ bodies_of m u)) (free m base (bodies_of m u))
        (suc (length (all_bodies m base))) (free_more b (bodies_of m u)) in
        omega (arith, h, f, t)
    depth (copied {run = run} {u = u} {l = l} d x b n) =
        let h = depth d in
        let f = free_all (l.body ∷ []) in
        let t = times_less (free m base (l.body ∷ bodies_of m u)) (free m base (bodies_of m u))
        (suc (length (all_bodies m base))) (free_fewer l.body (bodies_of m u) b n) in
        omega (arith, h, f, t)

    -- no unit that is made is deeper
    pub made_deep : {run : List ℕ} {u : UnitPath} → IsMade m base run u → length u ≤ most
    made_deep d = let h = depth d in omega (arith, h)
