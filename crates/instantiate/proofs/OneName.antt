-- Members of units, by their names and by their bodies.
use Rattle.std.proofs.Common.{◌≡◌, ℕ, zero, suc, ◌<◌, ◌≤◌, Bool, true, false, cond, List, [], ◌∷◌, map, filter, length, unwrap_or, slice_get, Option, Some, None, refl, sym, ◌∙◌, ap, subst, inl, inr, eq-eqb, ne_eqb, arith}
use Rattle.std.proofs.lemmas.Bool.{cases_eq, cases_lt}
use Rattle.std.proofs.lemmas.List.{length-map}
use Rattle.std.proofs.lemmas.Option.{slice_get_past}
use Rattle.ar_base.specs.Lists.{Stands, Along, none, one_and}
use Rattle.ar_base.specs.NumbersInside.{UnitId}
use Rattle.ar_base.proofs.Standing.{stands_one, stands_none, stands_map, one_here}
use Rattle.class_table.specs.Members.{Site, NamedMember, MemberKind, member_named, named_at}
use Rattle.class_table.specs.Rules.{text_rules, l4}
use Rattle.class_table.specs.declared.tables.Classes.{Classes}
use Rattle.class_table.specs.declared.tables.Body.{Body}
use Rattle.hierarchy.specs.Models.{RootedModel}
use Rattle.hierarchy.specs.ModelsInside.{KeepsTextRules, IsRootedTable, sites_kept}
use Rattle.hierarchy.specs.Units.{UnitPath, body_of, names_at, name_at}
use Rattle.hierarchy.specs.Walks.{thing}
use Rattle.hierarchy.proofs.Places.{AreApart}
use Rattle.instantiate.specs.Nodes.{node_at, nodes_of_members, IsNodeSo}

-- where names are apart, each is looked up as what stands there
pub named_own : (gs : List NamedMember) → AreApart gs → (i : ℕ) (g : NamedMember) → Stands gs i g
    → member_named gs g.name ≡ Some g
named_own [] a i g s = absurd (stands_none i g s)
named_own (h ∷ hs) a zero g s =
    let e : h ≡ g = stands_one (h ∷ hs) 0 h g refl s in
    ap (λ (b : Bool). cond b (Some h) (member_named hs g.name))
    (eq-eqb h.name g.name (ap (λ (k : NamedMember). k.name) e)) ∙ ap (λ (k : NamedMember). Some k) e
named_own (h ∷ hs) a (suc i) g s =
    let n : h.name ≡ g.name → ⊥ = λ (e : h.name ≡ g.name). let z = a.apart 0 (suc i) h g refl s e in omega (arith, z) in
    let rest : AreApart hs = record { apart = λ j k u v p q e. let z = a.apart (suc j) (suc k) u v p q e in omega (arith, z) } in
    ap (λ (b : Bool). cond b (Some h) (member_named hs g.name)) (ne_eqb h.name g.name n) ∙ named_own hs rest i g s

-- no two members of a body have one name
pub names_apart : (m : RootedModel) → KeepsTextRules m → (b : ℕ)
    → AreApart (named_at m.declared (unwrap_or (slice_get m.members b) []))
names_apart m k b = by (slice_get m.members b) refl
  where
    by : (o : Option (List Site)) → slice_get m.members b ≡ o → AreApart (named_at m.declared (unwrap_or o []))
    by None e = record { apart = λ i j g h p q f. absurd (stands_none i g p) }
    by (Some sites) e = record {
      apart = λ i j g h p q f. elim (cases_eq i j)
          [ inl z ↦ z | inr n ↦ absurd (apart i j g h p q f n) ];
    }
      where
        broken : (i j : ℕ) (g h : NamedMember) → Stands (named_at m.declared sites) i g
            → Stands (named_at m.declared sites) j h → g.name ≡ h.name → i < j → ⊥
        broken i j g h p q f l = k.kept.kept 4 h.at (one_here text_rules 3 4 refl) (l4 (record {
          body = b;
          sites = sites;
          are_members = k.rooted.members b sites e;
          j = i;
          k = j;
          first = g;
          later = h;
          before = l;
          is_first = p;
          is_later = q;
          one_name = f;
          place = refl;
        }))

        apart : (i j : ℕ) (g h : NamedMember) → Stands (named_at m.declared sites) i g
            → Stands (named_at m.declared sites) j h → g.name ≡ h.name → (i ≡ j → ⊥) → ⊥
        apart i j g h p q f n = elim (cases_lt i j)
            [ inl l ↦ broken i j g h p q f l | inr l ↦ broken j i h g q p (sym f) (omega (arith, n, l)) ]

-- each member of a unit is what its name is there
pub name_own : (m : RootedModel) → KeepsTextRules m → (u : UnitPath) (i : ℕ) (g : NamedMember) → Stands (names_at m u) i
    g → name_at m u g.name ≡ Some g
name_own m k u i g s = named_own (names_at m u) (names_apart m k (body_of m u)) i g s

module _ (m : RootedModel) (classes : Classes) (table : IsRootedTable m classes) where
  -- the members of a body that is there, and of none
  pub members_there : (b : ℕ) (body : Body) → Stands classes.bodies.items b body
      → sites_kept body ≡ unwrap_or (slice_get m.members b) []
  members_there b body s =
      let t = subst (λ (ms : List (List Site)). Stands ms b (sites_kept body)) table.members
      (stands_map sites_kept classes.bodies.items b body s) in
      ap (λ (o : Option (List Site)). unwrap_or o []) (sym t)

  pub members_past : (b : ℕ) → length classes.bodies.items ≤ b → unwrap_or (slice_get m.members b) [] ≡ []
  members_past b l =
      let k = ap length table.members in
      let j = length-map classes.bodies.items sites_kept in
      ap (λ (o : Option (List Site)). unwrap_or o []) (slice_get_past m.members b (omega arith))

module _ (m : RootedModel) (units : List UnitPath) (test : MemberKind → Bool) (unit : UnitId) (u : UnitPath)
    (there : Stands units unit.n u) where
  members_nodes : (gs : List NamedMember) → ((i : ℕ) (g : NamedMember) → Stands gs i g → name_at m u g.name ≡ Some g)
      → Along (IsNodeSo m units test) (map (λ (g : NamedMember). thing u g.name)
      (filter (λ (g : NamedMember). test g.kind) gs)) (nodes_of_members unit test gs)
  members_nodes [] own = none
  members_nodes (g ∷ gs) own = by (test g.kind) refl (members_nodes gs (λ i h s. own (suc i) h s))
    where
      by : (b : Bool) → test g.kind ≡ b → Along (IsNodeSo m units test)
          (map (λ (g : NamedMember). thing u g.name) (filter (λ (g : NamedMember). test g.kind) gs))
          (nodes_of_members unit test gs)
          → Along (IsNodeSo m units test) (map (λ (g : NamedMember). thing u g.name)
          (cond b (g ∷ filter (λ (g : NamedMember). test g.kind) gs)
          (filter (λ (g : NamedMember). test g.kind) gs)))
          (map (node_at unit) (cond b (g ∷ filter (λ (g : NamedMember). test g.kind) gs)
          (filter (λ (g : NamedMember). test g.kind) gs)))
      by false e r = r
      by true e r = one_and (record {
        given = g;
        node = record {
          unit = there;
          name = refl;
          is = own 0 g refl;
          source = record { body = refl; member = refl; setting_is = refl };
        };
        passes = e;
      }) r

  -- the nodes of what is listed of a unit
  pub unit_nodes : KeepsTextRules m → Along (IsNodeSo m units test)
      (map (λ (g : NamedMember). thing u g.name) (filter (λ (g : NamedMember). test g.kind) (names_at m u)))
      (nodes_of_members unit test (names_at m u))
  unit_nodes k = members_nodes (names_at m u) (λ i g s. name_own m k u i g s)
