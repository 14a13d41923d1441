-- What is looked up of the names of a body is what they are.
use Rattle.std.proofs.Common.{◌≡◌, ℕ, zero, suc, Bool, true, false, List, [], ◌∷◌, Option, Some, None, slice_get, unwrap_or, option_map, refl, sym, ◌∙◌, ap, subst, arith, ◌==◌, Vec}
use Rattle.std.proofs.lemmas.Bool.Decides.{nat_tests}
use Rattle.std.proofs.lemmas.Option.{same_Some}
use Rattle.std.specs.Global.{Global}
use Rattle.ar_base.specs.Lists.{Stands, Along}
use Rattle.ar_base.specs.Lists as a
use Rattle.ar_base.proofs.Standing.{stands_one, along_on, along_back, stands_none}
use Rattle.class_table.specs.Members.{Site, NamedMember, named_at, member_named}
use Rattle.hierarchy.specs.Models.{RootedModel}
use Rattle.hierarchy.specs.UnitsInside.{names_in}
use Rattle.unit_walks.specs.Forms.{member_kind_in, may_be_unit, only_units, IsUnitName, IsLookedUp, is, no_unit, absent, body_names, list_at, name_place, form_from, form_at, HasUnitName, IsFormsFor}
use Rattle.unit_walks.specs.declared.forms.Forms.{Forms}
use Rattle.unit_walks.specs.declared.forms.UnitName.{UnitName}

is_equal : (a b : ℕ) → (a == b) ≡ true → a ≡ b
is_equal a b e = grind (arith, nat_tests)

none_some : {A P : Type 0} {c : A} → None ≡ Some c → P
none_some e = cc

-- the first of a name, if there is one, has the name
pub named_first : (gs : List NamedMember) (x : ℕ) (g : NamedMember) → member_named gs x ≡ Some g
    → (n : ℕ) × Stands gs n g × (g.name ≡ x)
named_first [] x g e = none_some e
named_first (h ∷ gs) x g e = go (named_first gs x g) (h.name == x) refl
  where
    go : (member_named gs x ≡ Some g → (n : ℕ) × Stands gs n g × (g.name ≡ x)) → (b : Bool) → (h.name == x) ≡ b
        → (n : ℕ) × Stands (h ∷ gs) n g × (g.name ≡ x)
    go r true p = let k = rw p at e in let same : h ≡ g = same_Some _ _ k in (0, ap Some same, ap (λ (g : NamedMember). g.name) (sym same) ∙ is_equal h.name x p)
    go r false p = let k = rw p at e in let i = r k in (suc i.0, i.1, i.2)

-- where one has the name, some first one has it
first_named : (gs : List NamedMember) (n : ℕ) (g : NamedMember) → Stands gs n g
    → (h : NamedMember) × (member_named gs g.name ≡ Some h)
first_named [] n g p = absurd (stands_none n g p)
first_named (h ∷ gs) zero g p =
    let same : h ≡ g = same_Some _ _ p in
    let e : (h.name == g.name) ≡ true = rw same (grind (arith, nat_tests)) in
    (h, rw e refl)
first_named (h ∷ gs) (suc n) g p = go (first_named gs n g p) (h.name == g.name) refl
  where
    go : (k : NamedMember) × (member_named gs g.name ≡ Some k) → (b : Bool) → (h.name == g.name) ≡ b
        → (k : NamedMember) × (member_named (h ∷ gs) g.name ≡ Some k)
    go r true e = (h, rw e refl)
    go r false e = (r.0, rw e r.1)

-- what stands among those that may be units stands among all
pub units_back : (gs : List NamedMember) (n : ℕ) (g : NamedMember) → Stands (only_units gs) n g
    → ((k : ℕ) × Stands gs k g) × (may_be_unit g.kind ≡ true)
units_back [] n g p = absurd (stands_none n g p)
units_back (h ∷ gs) n g p = go (λ k q. units_back gs k g q) n p (may_be_unit h.kind) refl
  where
    next : ((k : ℕ) × Stands gs k g) × (may_be_unit g.kind ≡ true)
        → ((k : ℕ) × Stands (h ∷ gs) k g) × (may_be_unit g.kind ≡ true)
    next r = ((suc r.0.0, r.0.1), r.1)

    at_head : ((k : ℕ) → Stands (only_units gs) k g → ((j : ℕ) × Stands gs j g) × (may_be_unit g.kind ≡ true)) → (n : ℕ)
        → may_be_unit h.kind ≡ true → Stands (h ∷ only_units gs) n g
        → ((k : ℕ) × Stands (h ∷ gs) k g) × (may_be_unit g.kind ≡ true)
    at_head r zero e q = let same : h ≡ g = same_Some _ _ q in ((0, q), subst (λ (g : NamedMember). may_be_unit g.kind ≡ true) same e)
    at_head r (suc n) e q = next (r n q)

    go : ((k : ℕ) → Stands (only_units gs) k g → ((j : ℕ) × Stands gs j g) × (may_be_unit g.kind ≡ true)) → (n : ℕ)
        → Stands (only_units (h ∷ gs)) n g → (b : Bool) → may_be_unit h.kind ≡ b
        → ((k : ℕ) × Stands (h ∷ gs) k g) × (may_be_unit g.kind ≡ true)
    go r n p true e = let q = rw e at p in at_head r n e q
    go r n p false e = let q = rw e at p in next (r n q)

-- and the other way round
pub units_there : (gs : List NamedMember) (n : ℕ) (g : NamedMember) → Stands gs n g → may_be_unit g.kind ≡ true
    → (k : ℕ) × Stands (only_units gs) k g
units_there [] n g p u = absurd (stands_none n g p)
units_there (h ∷ gs) zero g p u =
    let same : h ≡ g = same_Some _ _ p in
    let e : may_be_unit h.kind ≡ true = subst (λ (g : NamedMember). may_be_unit g.kind ≡ true) (sym same) u in
    (0, rw e p)
units_there (h ∷ gs) (suc n) g p u = go (units_there gs n g p u) (may_be_unit h.kind) refl
  where
    go : (k : ℕ) × Stands (only_units gs) k g → (b : Bool) → may_be_unit h.kind ≡ b
        → (k : ℕ) × Stands (only_units (h ∷ gs)) k g
    go r true e = (suc r.0, rw e r.1)
    go r false e = (r.0, rw e r.1)

module _ (m : RootedModel) (f : Forms) (i : IsFormsFor m f) where
  -- the list of a body has the names of the body that may be units
  pub list_along : (b : ℕ) → Along IsUnitName (list_at f b) (only_units (names_in m b))
  list_along b = go (slice_get f.lists.items b) refl (slice_get m.members b) refl
    where
      go : (o : Option (Vec UnitName Global)) → slice_get f.lists.items b ≡ o → (p : Option (List Site))
          → slice_get m.members b ≡ p
          → Along IsUnitName (body_names o) (only_units (named_at m.declared (unwrap_or p [])))
      go None e None h = a.none
      go None e (Some sites) h = let q = along_back f.lists.items m.members i.lists b sites h in none_some (sym e ∙ q.1)
      go (Some list) e p h =
          let q = along_on f.lists.items m.members i.lists b list e in
          subst (λ p. Along IsUnitName list.items (only_units (named_at m.declared (unwrap_or p [])))) (sym q.1 ∙ h) q.2

  -- a name that stands in a body is what the first of its name is
  pub only_kind : (b n : ℕ) (g : NamedMember) → Stands (names_in m b) n g → member_kind_in m b g.name ≡ Some g.kind
  only_kind b n g p =
      let h = first_named (names_in m b) n g p in
      let k = named_first (names_in m b) g.name h.0 h.1 in
      let e = i.names.once b k.0 n h.0 g k.1 p k.2 in
      let same : h.0 ≡ g = stands_one (names_in m b) n h.0 g (subst (λ j. Stands (names_in m b) j h.0) e k.1) p in
      ap (λ (o : Option NamedMember). option_map (λ (g : NamedMember). g.kind) o) (h.1 ∙ ap Some same)

  list_here : (b : ℕ) (list : Vec UnitName Global) → Stands f.lists.items b list → list_at f b ≡ list.items
  list_here b list e = ap body_names e

  -- where the list of a body has a name, it is found
  found_at : (b x k : ℕ) → name_place f b x ≡ Some k → (n : UnitName) × Stands (list_at f b) k n × (n.name.n ≡ x)
  found_at b x k e = let h = i.index b x k e in (h.named, subst (λ ns. Stands ns k h.named) (sym (list_here b h.list h.has_list)) h.has_name, h.name)

  looked_some : (b x k : ℕ) → name_place f b x ≡ Some k → IsLookedUp (form_from (list_at f b) (Some k)) (member_kind_in m b x)
  looked_some b x k e =
      let n = found_at b x k e in
      let g = along_on (list_at f b) (only_units (names_in m b)) (list_along b) k n.0 n.1 in
      let back = units_back (names_in m b) k g.0 g.1 in
      let kind : member_kind_in m b x ≡ Some g.0.kind =
      ap (member_kind_in m b) (sym n.2 ∙ g.2.name) ∙ only_kind b back.0.0 g.0 back.0.1 in
      let form : form_from (list_at f b) (Some k) ≡ Some n.0.form =
      ap (λ (o : Option UnitName). option_map (λ (n : UnitName). n.form) o) n.1 in
      subst (λ o. IsLookedUp o (member_kind_in m b x)) (sym form)
      (subst (λ o. IsLookedUp (Some n.0.form) o) (sym kind) (is g.2.form))

  looked_not : (b x : ℕ) → name_place f b x ≡ None → IsLookedUp None (member_kind_in m b x)
  looked_not b x e = go (member_named (names_in m b) x) refl
    where
      -- a name that may be a unit is in the list, and so it would be found
      found : (g : NamedMember) (n : ℕ) → Stands (names_in m b) n g → g.name ≡ x → may_be_unit g.kind ≡ true → ⊥
      found g n p named u =
          let k = units_there (names_in m b) n g p u in
          let z = along_back (list_at f b) (only_units (names_in m b)) (list_along b) k.0 g k.1 in
          let h = i.all b k.0 x (has (slice_get f.lists.items b) refl k.0 z.0 z.1 (z.2.name ∙ named)) in
          none_some (sym e ∙ h.1)
        where
          has : (o : Option (Vec UnitName Global)) → slice_get f.lists.items b ≡ o → (k : ℕ) (z : UnitName)
              → Stands (body_names o) k z → z.name.n ≡ x → HasUnitName f.lists.items b k x
          has None e k z p q = absurd (stands_none k z p)
          has (Some list) e k z p q = record { list = list; named = z; has_list = e; has_name = p; name = q }

      kinds : (g : NamedMember) (n : ℕ) → Stands (names_in m b) n g → g.name ≡ x → (c : Bool) → may_be_unit g.kind ≡ c
          → IsLookedUp None (Some g.kind)
      kinds g n p named true u = absurd (found g n p named u)
      kinds g n p named false u = no_unit u

      go : (o : Option NamedMember) → member_named (names_in m b) x ≡ o
          → IsLookedUp None (option_map (λ (g : NamedMember). g.kind) o)
      go None h = absent
      go (Some g) h = let k = named_first (names_in m b) x g h in kinds g k.0 k.1 k.2 (may_be_unit g.kind) refl

  -- what is looked up is what the name is
  pub looked_up : (b x : ℕ) → IsLookedUp (form_at f b x) (member_kind_in m b x)
  looked_up b x = go (name_place f b x) refl
    where
      go : (o : Option ℕ) → name_place f b x ≡ o → IsLookedUp (form_from (list_at f b) o) (member_kind_in m b x)
      go None e = looked_not b x e
      go (Some k) e = looked_some b x k e
