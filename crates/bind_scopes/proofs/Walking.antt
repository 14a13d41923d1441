-- What names lead to, as the lists of a tree tell it.
use Rattle.std.proofs.Common.{◌≡◌, ℕ, zero, suc, ◌+◌, ◌⊎◌, inl, inr, Bool, true, false, ◌==◌, List, [], ◌∷◌, ◌++◌, Option, Some, None, option_map, option_and_then, refl, sym, ◌∙◌, ap, subst, arith}
use Rattle.std.specs.Option.{option_or}
use Rattle.std.specs.List.{flat_map}
use Rattle.ar_base.specs.Lists.{Stands, AreDifferent, Along}
use Rattle.ar_base.proofs.Standing.{stands_none, stands_one, stands_right, along_on}
use Rattle.ar_syntax.specs.declared.paths.PathStart.{PathStart}
use Rattle.ar_syntax.specs.declared.paths.PathStart.TheVariants.{Here, Owner, Main}
use Rattle.class_table.specs.Members.{NamedMember, MemberKind}
use Rattle.hierarchy.specs.Models.{RootedModel}
use Rattle.hierarchy.specs.Units.{UnitPath, Thing, kind_at, name_at, start_of}
use Rattle.hierarchy.specs.Walks.{Reaches, NamesLead, IsUnitAt, on, arrives}
use Rattle.hierarchy.specs.WalksInside.{LeadsFrom}
use Rattle.hierarchy.specs.Listing.{things_in, is_inner}
use Rattle.hierarchy.specs.Tie.{IsUnitNode, IsTreeOf, IsThingNode, AnswersThing, entry_in, is_alias}
use Rattle.hierarchy.specs.Finding.{StartsAt, FindsNode, HasOwner, unit_number}
use Rattle.hierarchy.specs.declared.tree.MemNode.{MemNode}
use Rattle.hierarchy.specs.declared.tree.UnitNode.{UnitNode}
use Rattle.hierarchy.specs.declared.tree.Tree.{Tree}
use Rattle.hierarchy.proofs.Finding.{same_or_not}
use Rattle.hierarchy.proofs.Looking.{leads_kind, named_so, main_first, owner_starts, starts_nowhere, thing_answer}
use Rattle.hierarchy.proofs.Outcomes.{leads_same, unit_of_reaches}
use Rattle.bind_scopes.specs.Searching.{step_in, owner_in, start_in, node_in}
use Rattle.source_meaning.proofs.OneMeaning.{leads_same as leads_one}

-- no names end in one
no_names : (front : List ℕ) (y : ℕ) → [] ≡ front ++ y ∷ [] → ⊥
no_names [] y e = cc
no_names (b ∷ bs) y e = cc

-- a walk goes on from the unit to which its first name leads
walk_on : {m : RootedModel} {v w t : UnitPath} {x : ℕ} {xs : List ℕ} → LeadsFrom m v x (Reaches w)
    → NamesLead m [] (Some v) (x ∷ xs) (Reaches t) → NamesLead m [] (Some w) xs (Reaches t)
walk_on {m = m} {t = t} {xs = xs} l (on v' n g) =
    subst (λ (z : UnitPath). NamesLead m [] (Some z) xs (Reaches t)) (unit_of_reaches (leads_same n l)) g

walk_stops : {m : RootedModel} {v t : UnitPath} {x : ℕ} {xs : List ℕ}
    → ((w : UnitPath) → LeadsFrom m v x (Reaches w) → ⊥) → NamesLead m [] (Some v) (x ∷ xs) (Reaches t) → ⊥
walk_stops n (on v' l g) = n v' l

module _ (m : RootedModel) (units : List UnitPath) where
  -- the number is that of the unit to which the name leads, or it leads to none
  abbrev pub Leads : UnitPath → ℕ → Option ℕ → Type 0
  Leads u x None = (w : UnitPath) → LeadsFrom m u x (Reaches w) → ⊥
  Leads u x (Some k) = (w : UnitPath) × Stands units k w × LeadsFrom m u x (Reaches w)

  -- the same of all names but the last, with the last, from the unit v on
  abbrev pub Owners : UnitPath → List ℕ → Option (ℕ × ℕ) → Type 0
  Owners v names None = (front : List ℕ) (y : ℕ) (w : UnitPath) → names ≡ front ++ y ∷ []
      → NamesLead m [] (Some v) front (Reaches w) → ⊥
  Owners v names (Some o) = (front : List ℕ) × (w : UnitPath) × (names ≡ front ++ o.1 ∷ []) × Stands units o.0 w
      × NamesLead m [] (Some v) front (Reaches w)

  -- the same of a path that is read in the unit u
  abbrev pub LeadsIn : UnitPath → PathStart → List ℕ → Option (ℕ × ℕ) → Type 0
  LeadsIn u start names None = (front : List ℕ) (y : ℕ) (w : UnitPath) → names ≡ front ++ y ∷ []
      → IsUnitAt m u start front w → ⊥
  LeadsIn u start names (Some o) = HasOwner m units u start names o.0 o.1

  -- one name, by the entries of its unit
  step_by : (u : UnitPath) (d : UnitNode) → IsUnitNode m units u d → (x : ℕ) (a b : Option ℕ) → entry_in d.inner.items x
      ≡ a → entry_in d.aliases.items x ≡ b → Leads u x (option_or a b)
  step_by u d is x (Some k) b e f = let r = is.inner.found x k e in (r.0, r.1, r.2.leads)
  step_by u d is x None (Some k) e f = let r = is.aliases.found x k f in (r.0, r.1, r.2.leads)
  step_by u d is x None None e f = λ w l.
      let k = leads_kind (kind_at m u x) l in
      let g = named_so m u x (name_at m u x) refl k.1 in
      elim k.2 [
        | inl i ↦ is.inner.absent x w e (record { given = g.0; is = g.1; passes = ap is_inner g.2 ∙ i; leads = l })
        | inr i ↦ is.aliases.absent x w f (record { given = g.0; is = g.1; passes = ap is_alias g.2 ∙ i; leads = l })
      ]

  -- the first of more names stops, or leads on
  stops_at : (x y : ℕ) (more : List ℕ) (v : UnitPath) → ((w : UnitPath) → LeadsFrom m v x (Reaches w) → ⊥)
      → Owners v (x ∷ y ∷ more) None
  stops_at x y more v n [] z w e h = cc
  stops_at x y more v n (b ∷ bs) z w e h = let q : b ≡ x = cc in walk_stops n (subst (λ (c : ℕ). NamesLead m [] (Some v) (c ∷ bs) (Reaches w)) q h)

  on_none : (x y : ℕ) (more : List ℕ) (v w : UnitPath) → LeadsFrom m v x (Reaches w) → Owners w (y ∷ more) None
      → Owners v (x ∷ y ∷ more) None
  on_none x y more v w l n [] z t e h = cc
  on_none x y more v w l n (b ∷ bs) z t e h =
      let q : b ≡ x = cc in let r : y ∷ more ≡ bs ++ z ∷ [] = cc in
      n bs z t r (walk_on l (subst (λ (c : ℕ). NamesLead m [] (Some v) (c ∷ bs) (Reaches t)) q h))

  on_from : (x y : ℕ) (more : List ℕ) (v w : UnitPath) → LeadsFrom m v x (Reaches w) → (o : Option (ℕ × ℕ))
      → Owners w (y ∷ more) o → Owners v (x ∷ y ∷ more) o
  on_from x y more v w l None h = on_none x y more v w l h
  on_from x y more v w l (Some o) h = (x ∷ h.0, h.1, ap (λ (zs : List ℕ). x ∷ zs) h.2, h.3, on w l h.4)

  owners_next : (nodes : List UnitNode) (x y : ℕ) (more : List ℕ) (v : UnitPath) (o : Option ℕ) → Leads v x o
      → ((k : ℕ) (w : UnitPath) → Stands units k w → Owners w (y ∷ more) (owner_in nodes (y ∷ more) k))
      → Owners v (x ∷ y ∷ more) (option_and_then (owner_in nodes (y ∷ more)) o)
  owners_next nodes x y more v None l next = stops_at x y more v l
  owners_next nodes x y more v (Some k) l next =
      on_from x y more v l.0 l.2 (owner_in nodes (y ∷ more) k) (next k l.0 l.1)

  module _ (tree : Tree) (t : IsTreeOf m units tree) where
    pub step_leads : (n : ℕ) (u : UnitPath) → Stands units n u → (x : ℕ) → Leads u x (step_in tree.units.items n x)
    step_leads n u s x =
        let a = along_on units tree.units.items t.units_are n u s in
        subst (λ (o : Option UnitNode). Leads u x
        (option_and_then (λ (d : UnitNode). option_or (entry_in d.inner.items x) (entry_in d.aliases.items x)) o))
        (sym a.1)
        (step_by u a.0 a.2 x (entry_in a.0.inner.items x) (entry_in a.0.aliases.items x) refl refl)

    pub owners : (names : List ℕ) (n : ℕ) (v : UnitPath) → Stands units n v
        → Owners v names (owner_in tree.units.items names n)
    owners [] n v s = λ front y w e h. no_names front y e
    owners (x ∷ []) n v s = ([], v, refl, s, arrives)
    owners (x ∷ y ∷ more) n v s = owners_next tree.units.items x y more v (step_in tree.units.items n x)
        (step_leads n v s x) (λ k w q. owners (y ∷ more) k w q)

    pub starts : (start : PathStart) (n : ℕ) (u : UnitPath) → Stands units n u
        → StartsAt units (start_of start u) (start_in tree.units.items start n)
    starts Here n u s = (n, refl, s)
    starts Main n u s = (0, refl, main_first t.are_units)
    starts Owner n u s =
        let a = along_on units tree.units.items t.units_are n u s in
        subst (λ (o : Option UnitNode). StartsAt units (start_of Owner u)
        (option_and_then (λ (d : UnitNode). unit_number d.owner) o)) (sym a.1)
        (owner_starts units u a.0.owner a.2.owner)

    lead_owner : (u : UnitPath) (start : PathStart) (names : List ℕ) (v : UnitPath) → start_of start u ≡ Some v
        → (o : Option (ℕ × ℕ)) → Owners v names o → LeadsIn u start names o
    lead_owner u start names v e None h =
        λ front y w q r. h front y w q (subst (λ (z : Option UnitPath). NamesLead m [] z front (Reaches w)) e r)
    lead_owner u start names v e (Some o) h = record {
      front = h.0;
      split = h.2;
      unit = h.1;
      stands = h.3;
      reaches = subst (λ (z : Option UnitPath). NamesLead m [] z h.0 (Reaches h.1)) (sym e) h.4;
    }

    lead_start : (u : UnitPath) (start : PathStart) (names : List ℕ) (o : Option UnitPath) (k : Option ℕ)
        → StartsAt units o k → start_of start u ≡ o
        → LeadsIn u start names (option_and_then (owner_in tree.units.items names) k)
    lead_start u start names None None h e = λ front y w q r. starts_nowhere (start_of start u) e w r
    lead_start u start names None (Some k) h e = cc
    lead_start u start names (Some v) None h e = cc h.1
    lead_start u start names (Some v) (Some k) h e =
        let q : h.0 ≡ k = cc h.1 in
        lead_owner u start names v e (owner_in tree.units.items names k)
        (owners names k v (subst (λ (n : ℕ). Stands units n v) q h.2))

    pub leads_in : (n : ℕ) (u : UnitPath) → Stands units n u → (start : PathStart) (names : List ℕ)
        → LeadsIn u start names (option_and_then (owner_in tree.units.items names) (start_in tree.units.items start n))
    leads_in n u s start names = lead_start u start names (start_of start u) (start_in tree.units.items start n)
        (starts start n u s) refl

-- the first node of a unit with a name is found
module _ {A : Type 0} (node : A → MemNode) (u x : ℕ) where
  later : (d : A) (ds : List A) → ((node d).unit.n ≡ u → (node d).name.n ≡ x → ⊥) → (o : Option ℕ)
      → FindsNode node ds u x o → FindsNode node (d ∷ ds) u x (option_map (λ k. k + 1) o)
  later d ds n None h = by
    where
      by : (k : ℕ) (e : A) → Stands (d ∷ ds) k e → (node e).unit.n ≡ u → (node e).name.n ≡ x → ⊥
      by zero e s a b = let q : d ≡ e = stands_one (d ∷ ds) 0 d e refl s in n (ap (λ (z : A). (node z).unit.n) q ∙ a) (ap (λ (z : A). (node z).name.n) q ∙ b)
      by (suc k) e s a b = h k e s a b
  later d ds n (Some k) h = (h.0, stands_right (d ∷ []) ds k (k + 1) h.0 (omega arith) h.1, h.2, h.3)

  pub node_finds : (nodes : List A) → FindsNode node nodes u x (node_in node nodes (u, x))
  node_finds [] = λ n d s a b. stands_none n d s
  node_finds (d ∷ ds) = by (same_or_not (node d).unit.n u) (same_or_not (node d).name.n x) (node_finds ds)
    where
      by : ((((node d).unit.n == u) ≡ true) × ((node d).unit.n ≡ u))
          ⊎ ((((node d).unit.n == u) ≡ false) × ((node d).unit.n ≡ u → ⊥))
          → ((((node d).name.n == x) ≡ true) × ((node d).name.n ≡ x))
          ⊎ ((((node d).name.n == x) ≡ false) × ((node d).name.n ≡ x → ⊥))
          → FindsNode node ds u x (node_in node ds (u, x)) → FindsNode node (d ∷ ds) u x (node_in node (d ∷ ds) (u, x))
      by (inl p) (inl q) h = let v : ((node d).unit.n == u) ≡ true = p.0 in let w : ((node d).name.n == x) ≡ true = q.0 in rw (v, w) (d, refl, p.1, q.1)
      by (inl p) (inr q) h = let v : ((node d).unit.n == u) ≡ true = p.0 in let w : ((node d).name.n == x) ≡ false = q.0 in rw (v, w) (later d ds (λ a b. q.1 b) (node_in node ds (u, x)) h)
      by (inr p) q h = let v : ((node d).unit.n == u) ≡ false = p.0 in rw v (later d ds (λ a b. p.1 a) (node_in node ds (u, x)) h)

-- what is found is what the path names
module _ {m : RootedModel} {units : List UnitPath} {tree : Tree} (t : IsTreeOf m units tree) {A : Type 0}
    (test : MemberKind → Bool) (node : A → MemNode) (IsIt : Thing → A → Type 0)
    (is_node : (s : Thing) (d : A) → IsIt s d → (g : NamedMember) × IsThingNode m units s g (node d)) (nodes : List A)
    (along : Along IsIt (flat_map (things_in test m) units) nodes) where
  by_owner : (u : UnitPath) (start : PathStart) (names : List ℕ) (o : Option (ℕ × ℕ)) → LeadsIn m units u start names o
      → AnswersThing m (flat_map (things_in test m) units) test u start names (option_and_then (node_in node nodes) o)
  by_owner u start names None h = λ s i. h i.leads.front s.name s.unit i.leads.split i.leads.reaches
  by_owner u start names (Some o) h =
      thing_answer t.table.kept t.are_units test node IsIt is_node nodes along h (node_in node nodes o)
      (node_finds node o.0 o.1 nodes)

  pub answers : (n : ℕ) (u : UnitPath) → Stands units n u → (start : PathStart) (names : List ℕ)
      → AnswersThing m (flat_map (things_in test m) units) test u start names
      (option_and_then (node_in node nodes)
      (option_and_then (owner_in tree.units.items names) (start_in tree.units.items start n)))
  answers n u s start names = by_owner u start names _ (leads_in m units tree t n u s start names)

-- A path leads to one thing

-- there is one answer
pub answer_one : (m : RootedModel) (things : List Thing) (test : MemberKind → Bool) (u : UnitPath) (start : PathStart)
    (names : List ℕ) → AreDifferent things → (a b : Option ℕ)
    → AnswersThing m things test u start names a → AnswersThing m things test u start names b → a ≡ b
answer_one m things test u start names d None None h k = refl
answer_one m things test u start names d None (Some n) h k = absurd (h k.0 k.2)
answer_one m things test u start names d (Some n) None h k = absurd (k h.0 h.2)
answer_one m things test u start names d (Some n) (Some j) h k =
    ap (λ (z : ℕ). Some z) (d.one n j k.0 (subst (λ (z : Thing). Stands things n z) (leads_one h.2.leads k.2.leads) h.1)
    k.1)
