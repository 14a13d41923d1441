-- The names of bodies that may be units, as they are listed.
use Rattle.std.proofs.Common.{◌≡◌, ◌<◌, ◌≤◌, ◌+◌, ◌⊎◌, ℕ, zero, suc, Bool, true, false, List, [], ◌∷◌, ◌++◌, map, length, take, get_or, slice_get, unwrap_or, Option, Some, None, option_map, option_and_then, refl, sym, ◌∙◌, ap, subst, inl, inr, arith, append_assoc, Vec}
use Rattle.std.proofs.lemmas.Bool.{cases_eq}
use Rattle.std.proofs.lemmas.List.{append-nil}
use Rattle.std.proofs.lemmas.Option.{same_Some}
use Rattle.std.specs.Global.{Global}
use Rattle.std.specs.HashMap.{get, HashMap}
use Rattle.ar_base.specs.Lists.{Along, Stands}
use Rattle.ar_base.specs.Numbers.{NameId, BodyId}
use Rattle.ar_base.specs.declared.places.Place.{Place}
use Rattle.ar_base.proofs.Standing.{stands_one, stands_within, stands_none, stands_get}
use Rattle.ar_base.proofs.Items.{along_push}
use Rattle.ar_syntax.specs.declared.members.Setting.{Setting}
use Rattle.ar_syntax.specs.declared.members.TypeForm.{TypeForm}
use Rattle.ar_syntax.specs.declared.members.TypeForm.TheVariants as form
use Rattle.class_table.specs.Declaring.{Declared, NamedType, DomainType, ClassType}
use Rattle.class_table.specs.Members.{Site, MemberKind, Inner, Variable, NamedMember, named_at, names_of, owned_at, all_named, declared_kind, member_kind_of, class_body, type_named}
use Rattle.class_table.specs.Rules.{l4}
use Rattle.class_table.specs.declared.tables.Body.{Body}
use Rattle.class_table.specs.TablesInside.{site_of}
use Rattle.class_table.proofs.Taken.{map_next, item_stands}
use Rattle.hierarchy.specs.Models.{RootedModel}
use Rattle.hierarchy.specs.ModelsInside.{KeepsTextRules, sites_kept}
use Rattle.hierarchy.specs.UnitsInside.{names_in}
use Rattle.unit_walks.specs.Classes.{ClassBodies, instance_in, AreClasses}
use Rattle.unit_walks.specs.Forms.{may_be_unit, only_units, instances, IsUnitName, IsUnitList, same_pair, HasUnitName, AreIndexed, AreOnce, IsFormsFor, inner}
use Rattle.unit_walks.specs.declared.forms.Forms.{Forms}
use Rattle.unit_walks.specs.declared.forms.UnitForm.TheVariants as unit
use Rattle.unit_walks.specs.declared.forms.UnitName.{UnitName}
use Rattle.unit_walks.proofs.TableSteps.{pair_apart}

none_some : {A P : Type 0} {c : A} → None ≡ Some c → P
none_some e = cc

-- Instances

only_none : (s : Site) (k : MemberKind) (names : List (NameId × Place)) → may_be_unit k ≡ false
    → only_units (all_named s (Some k) names) ≡ []
only_none s k [] e = refl
only_none s k (n ∷ ns) e = let h = only_none s k ns e in rw e h

cons_same : {g : NamedMember} {xs ys : List NamedMember} → xs ≡ ys → g ∷ xs ≡ g ∷ ys
cons_same e = cc

only_all : (s : Site) (k : MemberKind) (names : List (NameId × Place)) → may_be_unit k ≡ true
    → only_units (all_named s (Some k) names) ≡ all_named s (Some k) names
only_all s k [] e = refl
only_all s k (n ∷ ns) e = let h = only_all s k ns e in rw e (cons_same h)

-- a declaration of which the type is no class declares no unit
pub declares_none : (d : Declared) (classes : ClassBodies) (s : Site) (f : TypeForm) (settings : List Setting)
    (names : List (NameId × Place)) → AreClasses d classes → None ≡ instance_in classes f
    → only_units (all_named s (declared_kind d s f settings) names) ≡ []
declares_none d classes s form.Boolean settings names k e = only_none s (Variable form.Boolean settings) names refl
declares_none d classes s form.Integer settings names k e = refl
declares_none d classes s (form.Named x) settings names k e =
    go (type_named d x.n) (sym (k.each x.n) ∙ ap (λ o. option_map (λ (b : BodyId). b.n) o) (sym e))
  where
    go : (t : Option NamedType) → option_and_then class_body t ≡ None
        → only_units (all_named s (option_map (λ (t : NamedType). member_kind_of s (form.Named x) t settings) t) names)
        ≡ []
    go None h = refl
    go (Some (DomainType b)) h = only_none s (Variable (form.Named x) settings) names refl
    go (Some (ClassType b)) h = none_some (sym h)

-- one of which it is a class declares instances
pub declares_instances : (d : Declared) (classes : ClassBodies) (s : Site) (f : TypeForm) (settings : List Setting)
    (names : List (NameId × Place)) (b : BodyId) → AreClasses d classes → Some b ≡ instance_in classes f
    → only_units (all_named s (declared_kind d s f settings) names) ≡ instances s b.n names
declares_instances d classes s form.Boolean settings names b k e = none_some (sym e)
declares_instances d classes s form.Integer settings names b k e = none_some (sym e)
declares_instances d classes s (form.Named x) settings names b k e =
    go (type_named d x.n) (sym (k.each x.n) ∙ ap (λ o. option_map (λ (b : BodyId). b.n) o) (sym e))
  where
    go : (t : Option NamedType) → option_and_then class_body t ≡ Some b.n
        → only_units (all_named s (option_map (λ (t : NamedType). member_kind_of s (form.Named x) t settings) t) names)
        ≡ instances s b.n names
    go None h = none_some h
    go (Some (DomainType z)) h = none_some h
    go (Some (ClassType z)) h = only_all s (Inner z (Some s)) names refl
        ∙ ap (λ n. instances s n names) (same_Some _ _ h)

pub instances_next : (s : Site) (b : ℕ) (names : List (NameId × Place)) (i : ℕ) (n : NameId × Place) → Stands names i n
    → instances s b (take (i + 1) names)
    ≡ instances s b (take i names) ++ record { name = n.0.n; at = n.1; kind = Inner b (Some s); site = s } ∷ []
instances_next s b names i n p = map_next
    (λ (n : NameId × Place). record { name = n.0.n; at = n.1; kind = Inner b (Some s); site = s }) names i n p

-- Members

only_join : (xs ys : List NamedMember) → only_units (xs ++ ys) ≡ only_units xs ++ only_units ys
only_join [] ys = refl
only_join (g ∷ xs) ys = go (only_join xs ys) (may_be_unit g.kind) refl
  where
    go : only_units (xs ++ ys) ≡ only_units xs ++ only_units ys → (b : Bool) → may_be_unit g.kind ≡ b
        → only_units ((g ∷ xs) ++ ys) ≡ only_units (g ∷ xs) ++ only_units ys
    go h true e = rw e (cons_same h)
    go h false e = rw e h

named_join : (d : Declared) (xs ys : List Site) → named_at d (xs ++ ys) ≡ named_at d xs ++ named_at d ys
named_join d [] ys = refl
named_join d (x ∷ xs) ys = ap (λ gs. names_of d x (owned_at d x) ++ gs) (named_join d xs ys)
    ∙ sym (append_assoc (names_of d x (owned_at d x)) (named_at d xs) (named_at d ys))

pub units_next : (d : Declared) (xs : List Site) (x : Site)
    → only_units (named_at d (xs ++ x ∷ [])) ≡ only_units (named_at d xs) ++ only_units (names_of d x (owned_at d x))
units_next d xs x = ap only_units (named_join d xs (x ∷ [])
    ∙ ap (λ gs. named_at d xs ++ gs) (append-nil (names_of d x (owned_at d x))))
    ∙ only_join (named_at d xs) (names_of d x (owned_at d x))

-- Places

module _ (lists : List (Vec UnitName Global)) where
  one_name : (b i x y : ℕ) → HasUnitName lists b i x → HasUnitName lists b i y → x ≡ y
  one_name b i x y p q =
      let e = stands_one lists b p.list q.list p.has_list q.has_list in
      let n = stands_one q.list.items i p.named q.named (subst (λ l. Stands l.items i p.named) e p.has_name)
      q.has_name in
      sym p.name ∙ ap (λ n. n.name.n) n ∙ q.name

  pub name_at : (b i : ℕ) (l : Vec UnitName Global) (n : UnitName) → Stands lists b l → Stands l.items i n
      → HasUnitName lists b i n.name.n
  name_at b i l n p q = record { list = l; named = n; has_list = p; has_name = q; name = refl }

module _ {S : Type 0} (lists : List (Vec UnitName Global)) where
  pub index_none : (places : HashMap (ℕ × ℕ) ℕ S) → ((q : ℕ × ℕ) → get same_pair places q ≡ None)
      → AreIndexed lists 0 0 places
  index_none places h = record {
    found = λ c x k e. none_some (sym (h (c, x)) ∙ e);
    all = λ c k x n w. elim w [ inl l ↦ absurd (omega (arith, l)) | inr l ↦ absurd (omega (arith, l.1)) ];
  }

  pub index_more : (b i x : ℕ) (old new : HashMap (ℕ × ℕ) ℕ S) → HasUnitName lists b i x → AreIndexed lists b i old
      → get same_pair new (b, x) ≡ Some i
      → ((q : ℕ × ℕ) → same_pair (b, x) q ≡ false → get same_pair new q ≡ get same_pair old q)
      → AreIndexed lists b (i + 1) new
  index_more b i x old new n w here other =
      record {
        found = λ c y k e. found c y k e (cases_eq c b) (cases_eq y x);
        all = λ c k y h l. all c k y h l (cases_eq c b) (cases_eq y x);
      }
    where
      back : (c y : ℕ) → ((c ≡ b) × (y ≡ x) → ⊥) → get same_pair new (c, y) ≡ get same_pair old (c, y)
      back c y z = other (c, y) (pair_apart b x c y z)

      same : (c y : ℕ) → c ≡ b → y ≡ x → get same_pair new (c, y) ≡ Some i
      same c y p q = subst (λ c. get same_pair new (c, y) ≡ Some i) (sym p)
          (subst (λ y. get same_pair new (b, y) ≡ Some i) (sym q) here)

      found : (c y k : ℕ) → get same_pair new (c, y) ≡ Some k → (c ≡ b) ⊎ (c ≡ b → ⊥) → (y ≡ x) ⊎ (y ≡ x → ⊥)
          → HasUnitName lists c k y
      found c y k e (inl p) (inl q) =
          let z : i ≡ k = same_Some _ _ (sym (same c y p q) ∙ e) in
          subst (λ c. HasUnitName lists c k y) (sym p)
          (subst (λ y. HasUnitName lists b k y) (sym q) (subst (λ k. HasUnitName lists b k x) z n))
      found c y k e (inl p) (inr q) = w.found c y k (sym (back c y (λ z. q z.1)) ∙ e)
      found c y k e (inr p) q = w.found c y k (sym (back c y (λ z. p z.0)) ∙ e)

      before : (c k y : ℕ) → HasUnitName lists c k y → (c < b) ⊎ ((c ≡ b) × (k < i)) → ((c ≡ b) × (y ≡ x) → ⊥)
          → (j : ℕ) × (get same_pair new (c, y) ≡ Some j)
      before c k y h l z = let g = w.all c k y h l in (g.0, back c y z ∙ g.1)

      at_last : (c k y : ℕ) → HasUnitName lists c k y → (c ≡ b) × (k < i + 1) → (k ≡ i) ⊎ (k ≡ i → ⊥) → (y ≡ x → ⊥)
          → (j : ℕ) × (get same_pair new (c, y) ≡ Some j)
      at_last c k y h l (inl e) q = absurd
          (q (one_name lists b i y x (subst (λ c. HasUnitName lists c i y) l.0 (subst (λ k. HasUnitName lists c k y) e h)) n))
      at_last c k y h l (inr e) q = before c k y h (inr (l.0, omega (arith, l.1, e))) (λ z. q z.1)

      all : (c k y : ℕ) → HasUnitName lists c k y → (c < b) ⊎ ((c ≡ b) × (k < i + 1)) → (c ≡ b) ⊎ (c ≡ b → ⊥)
          → (y ≡ x) ⊎ (y ≡ x → ⊥) → (j : ℕ) × (get same_pair new (c, y) ≡ Some j)
      all c k y h l (inl p) (inl q) = (i, same c y p q)
      all c k y h (inl l) (inl p) (inr q) = before c k y h (inl l) (λ z. q z.1)
      all c k y h (inr l) (inl p) (inr q) = at_last c k y h l (cases_eq k i) q
      all c k y h (inl l) (inr p) q = before c k y h (inl l) (λ z. p z.0)
      all c k y h (inr l) (inr p) q = absurd (p l.0)

  -- the same, where the numbers were cast
  pub index_put : (b i number place : ℕ) (l : Vec UnitName Global) (n : UnitName) (old new : HashMap (ℕ × ℕ) ℕ S)
      → number ≡ b → place ≡ i → Stands lists b l → Stands l.items i n → AreIndexed lists b i old
      → get same_pair new (number, n.name.n) ≡ Some place
      → ((q : ℕ × ℕ) → same_pair (number, n.name.n) q ≡ false → get same_pair new q ≡ get same_pair old q)
      → AreIndexed lists b (i + 1) new
  index_put b i number place l n old new e f p q w here other =
      index_more b i n.name.n old new (name_at lists b i l n p q) w
      (subst (λ b. get same_pair new (b, n.name.n) ≡ Some i) e (here ∙ ap Some f))
      (λ k h. other k (subst (λ b. same_pair (b, n.name.n) k ≡ false) (sym e) h))

  pub index_next : (b i : ℕ) (l : Vec UnitName Global) (places : HashMap (ℕ × ℕ) ℕ S) → Stands lists b l
      → length l.items ≤ i → AreIndexed lists b i places → AreIndexed lists (b + 1) 0 places
  index_next b i l places p e w = record {
    found = w.found;
    all = λ c k x h z. elim z
        [ inl j ↦ go c k x h j (cases_eq c b) | inr j ↦ absurd (omega (arith, j.1)) ];
  }
    where
      inside : (c k x : ℕ) → HasUnitName lists c k x → c ≡ b → k < i
      inside c k x h q =
          let same = stands_one lists b h.list l (subst (λ c. Stands lists c h.list) q h.has_list) p in
          let j = stands_within l.items k h.named (subst (λ l. Stands l.items k h.named) same h.has_name) in omega arith

      go : (c k x : ℕ) → HasUnitName lists c k x → c < b + 1 → (c ≡ b) ⊎ (c ≡ b → ⊥)
          → (j : ℕ) × (get same_pair places (c, x) ≡ Some j)
      go c k x h j (inl q) = w.all c k x h (inr (q, inside c k x h q))
      go c k x h j (inr q) = w.all c k x h (inl (omega arith))

-- The rule on names

members_out : (m : RootedModel) (b j : ℕ) (g : NamedMember) → Stands (names_in m b) j g
    → (sites : List Site) × (slice_get m.members b ≡ Some sites)
members_out m b j g p = go (slice_get m.members b) refl
  where
    go : (o : Option (List Site)) → slice_get m.members b ≡ o
        → (sites : List Site) × (slice_get m.members b ≡ Some sites)
    go (Some sites) e = (sites, e)
    go None e = absurd (stands_none j g (subst (λ o. Stands (named_at m.declared (unwrap_or o [])) j g) e p))

never_before : (m : RootedModel) → KeepsTextRules m → (b i j : ℕ) (g h : NamedMember) → Stands (names_in m b) i g
    → Stands (names_in m b) j h → g.name ≡ h.name → i < j → ⊥
never_before m k b i j g h p q e l =
    let o = members_out m b i g p in
    let at : (n : ℕ) (g : NamedMember) → Stands (names_in m b) n g
    → Stands (named_at m.declared o.0) n g =
    λ n g p. subst (λ o. Stands (named_at m.declared (unwrap_or o [])) n g) o.1 p in
    k.kept.kept 4 h.at (record { place = 3; stands = refl }) (l4 (record {
      body = b;
      sites = o.0;
      are_members = k.rooted.members b o.0 o.1;
      j = i;
      k = j;
      first = g;
      later = h;
      before = l;
      is_first = at i g p;
      is_later = at j h q;
      one_name = e;
      place = refl;
    }))

pub are_once : (m : RootedModel) → KeepsTextRules m → AreOnce m
are_once m k = record { once = λ b i j g h p q e. go b i j g h p q e (cases_eq i j) }
  where
    order : (i j : ℕ) → (i ≡ j → ⊥) → (i < j) ⊎ (j < i)
    order zero zero n = absurd (n refl)
    order zero (suc j) n = inl (omega arith)
    order (suc i) zero n = inr (omega arith)
    order (suc i) (suc j) n = elim (order i j (λ e. n (ap suc e)))
        [ inl l ↦ inl (omega (arith, l)) | inr l ↦ inr (omega (arith, l)) ]

    go : (b i j : ℕ) (g h : NamedMember) → Stands (names_in m b) i g → Stands (names_in m b) j h → g.name ≡ h.name
        → (i ≡ j) ⊎ (i ≡ j → ⊥) → i ≡ j
    go b i j g h p q e (inl z) = z
    go b i j g h p q e (inr z) = elim (order i j z) [
      | inl l ↦ absurd (never_before m k b i j g h p q e l)
      | inr l ↦ absurd (never_before m k b j i h g q p (sym e) l)
    ]

pub forms_ready : (m : RootedModel) (f : Forms) (bodies : List Body) → KeepsTextRules m → map sites_kept bodies
    ≡ m.members → Along (IsUnitList m.declared) f.lists.items (map sites_kept bodies)
    → AreIndexed f.lists.items (length f.lists.items) 0 f.places → IsFormsFor m f
forms_ready m f bodies k e a i = record {
  lists = subst (λ ss. Along (IsUnitList m.declared) f.lists.items ss) e a;
  index = i.found;
  all = λ c k x h. i.all c k x h (inl (stands_within f.lists.items c h.list h.has_list));
  names = are_once m k;
}

-- Loops

pub instance_pushed : (old new : List UnitName) (names : List (NameId × Place)) (i : ℕ) (gs : List NamedMember)
    (b : BodyId) (at : BodyId × ℕ) (d : NameId × Place) → i < length names
    → new ≡ old ++ record { name = (get_or names i d).0; form = unit.Inner b (Some at) } ∷ []
    → Along IsUnitName old (gs ++ instances (site_of at) b.n (take i names))
    → Along IsUnitName new (gs ++ instances (site_of at) b.n (take (i + 1) names))
instance_pushed old new names i gs b at d l e h =
    let n = get_or names i d in
    let g : NamedMember = record { name = n.0.n; at = n.1; kind = Inner b.n (Some (site_of at)); site = site_of at } in
    let next = instances_next (site_of at) b.n names i n (stands_get names i d l) in
    let list = ap (λ xs. gs ++ xs) next ∙ sym (append_assoc gs (instances (site_of at) b.n (take i names)) (g ∷ [])) in
    subst (λ xs. Along IsUnitName xs (gs ++ instances (site_of at) b.n (take (i + 1) names))) (sym e)
    (subst (λ ys. Along IsUnitName (old ++ record { name = n.0; form = unit.Inner b (Some at) } ∷ []) ys) (sym list)
    (along_push old (gs ++ instances (site_of at) b.n (take i names))
    (record { name = n.0; form = unit.Inner b (Some at) }) g h (record { name = refl; form = inner refl refl })))

pub site_added : (d : Declared) (new : List UnitName) (all : List (BodyId × ℕ)) (i : ℕ) (z : BodyId × ℕ)
    → i < length all
    → Along IsUnitName new (only_units (named_at d (map site_of (take i all))) ++ only_units
    (names_of d (site_of (get_or all i z)) (owned_at d (site_of (get_or all i z)))))
    → Along IsUnitName new (only_units (named_at d (map site_of (take (i + 1) all))))
site_added d new all i z l h =
    let e = map_next site_of all i (get_or all i z) (stands_get all i z l) in
    subst (λ gs. Along IsUnitName new gs)
    (sym (ap (λ xs. only_units (named_at d xs)) e
    ∙ units_next d (map site_of (take i all)) (site_of (get_or all i z)))) h

pub list_pushed : (d : Declared) (old new : List (Vec UnitName Global)) (bodies : List Body) (i : ℕ) (b : Body)
    (list : Vec UnitName Global) → i < length bodies → b ≡ get_or bodies i b → new ≡ old ++ list ∷ []
    → Along (IsUnitList d) old (map sites_kept (take i bodies)) → IsUnitList d list (sites_kept b)
    → Along (IsUnitList d) new (map sites_kept (take (i + 1) bodies))
list_pushed d old new bodies i b list l q e h k =
    let next = map_next sites_kept bodies i b (item_stands bodies i b l q) in
    subst (λ xs. Along (IsUnitList d) xs (map sites_kept (take (i + 1) bodies))) (sym e)
    (subst (λ ys. Along (IsUnitList d) (old ++ list ∷ []) ys) (sym next)
    (along_push old (map sites_kept (take i bodies)) list (sites_kept b) h k))
