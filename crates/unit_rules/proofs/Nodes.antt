-- The members of a unit, as the table keeps them.
use Rattle.std.proofs.Common.{◌≡◌, ℕ, ◌+◌, ◌<◌, ◌≤◌, List, [], ◌∷◌, ◌++◌, map, take, length, slice_index_or, sym, ap, subst, arith}
use Rattle.std.specs.Prelude.{unwrap_or}
use Rattle.std.proofs.lemmas.List.{length-map, take_all}
use Rattle.std.proofs.lemmas.Option.{slice_get_past}
use Rattle.ar_base.specs.Lists.{Stands, Along, none, one_and}
use Rattle.ar_base.proofs.Standing.{stands_map, stands_get, along_back, along_length}
use Rattle.class_table.proofs.Taken.{take_next}
use Rattle.hierarchy.specs.Tie.{IsOutline, IsUnitNode, AreOutlines}
use Rattle.hierarchy.specs.declared.outline.Outline.{Outline}
use Rattle.hierarchy.specs.declared.tree.UnitNode.{UnitNode}
use Rattle.class_table.specs.Members.{Site}
use Rattle.class_table.specs.TablesInside.{site_of}
use Rattle.ar_base.specs.Numbers.{BodyId}
use Rattle.class_table.specs.declared.tables.Owned.{Owned}
use Rattle.unit_rules.specs.Naming.{NameEntry, AddsNames, names_at_sites}
use Rattle.class_table.specs.declared.tables.Body.{Body}
use Rattle.class_table.specs.declared.tables.Classes.{Classes}
use Rattle.hierarchy.specs.Models.{RootedModel}
use Rattle.hierarchy.specs.ModelsInside.{IsKeptTable, sites_kept}
use Rattle.hierarchy.specs.Units.{UnitPath, body_of, members_at}

along_push : {A B : Type 0} {R : A → B → Type 0} {xs : List A} {ys : List B} {a : A} {b : B} → Along R xs ys → R a b
    → Along R (xs ++ a ∷ []) (ys ++ b ∷ [])
along_push none r = one_and r none
along_push (one_and q h) r = one_and q (along_push h r)

pub members_here : {m : RootedModel} {c : Classes} (u : UnitPath) {b : ℕ} → IsKeptTable m c → b ≡ body_of m u
    → (body : Body) → Stands c.bodies.items b body → members_at m u ≡ map site_of body.all.items
members_here {m = m} {c = c} u {b = b} t e body s =
    let p = stands_map sites_kept c.bodies.items b body s in
    let q : Stands m.members b (sites_kept body) =
    subst (λ (xs : List (List Site)). Stands xs b (sites_kept body)) t.table.members p in
    let r : Stands m.members (body_of m u) (sites_kept body) =
    subst (λ (n : ℕ). Stands m.members n (sites_kept body)) e q in
    ap (λ o. unwrap_or o []) r

pub members_past : {m : RootedModel} {c : Classes} (u : UnitPath) {b : ℕ} → IsKeptTable m c → b ≡ body_of m u
    → length c.bodies.items ≤ b → members_at m u ≡ []
members_past {m = m} {c = c} u {b = b} t e l =
    let k = ap length t.table.members in
    let j = length-map c.bodies.items sites_kept in
    ap (λ o. unwrap_or o []) (slice_get_past m.members (body_of m u) (omega arith))

-- what was added for the members of a body was added for those of the unit
pub at_members : {m : RootedModel} {units : List UnitPath} {u : UnitPath} {list : List NameEntry}
    {all read : List (BodyId × ℕ)} (names : Owned → List ℕ) → members_at m u ≡ map site_of all → read ≡ all
    → AddsNames m units u [] (names_at_sites names m.declared (map site_of read)) list
    → AddsNames m units u [] (names_at_sites names m.declared (members_at m u)) list
at_members {m = m} {units = units} {u = u} {list = list} names at same adds =
    subst (λ (sites : List Site). AddsNames m units u [] (names_at_sites names m.declared sites) list) (sym at)
    (subst (λ (xs : List (BodyId × ℕ)). AddsNames m units u [] (names_at_sites names m.declared (map site_of xs))
    list) same adds)

-- the unit of an outline
pub outline_at : {m : RootedModel} {units : List UnitPath} {c : Classes} {outlines : List Outline}
    → AreOutlines m units c outlines → (k : ℕ) → k < length outlines → (d : Outline)
    → (u : UnitPath) × Stands units k u × IsOutline m units u (slice_index_or outlines k d)
outline_at {units = units} {outlines = outlines} o k h d =
    along_back units outlines o.along k (slice_index_or outlines k d) (stands_get outlines k d h)

-- one unit more has its node
pub along_next : {A B : Type 0} {R : A → B → Type 0} (xs : List A) (k : ℕ) (a : A) (ys new : List B) (b : B)
    → Stands xs k a → R a b → new ≡ ys ++ b ∷ [] → Along R (take k xs) ys → Along R (take (k + 1) xs) new
along_next {R = R} xs k a ys new b s r e h =
    let t : take (k + 1) xs ≡ take k xs ++ a ∷ [] = take_next xs k a s in
    subst (λ zs. Along R zs new) (sym t) (subst (λ zs. Along R (take k xs ++ a ∷ []) zs) (sym e) (along_push h r))

-- all units have their nodes
pub along_all : {m : RootedModel} {units : List UnitPath} {c : Classes} {outlines : List Outline}
    {nodes : List UnitNode} → AreOutlines m units c outlines → (k : ℕ) → length outlines ≤ k
    → Along (IsUnitNode m units) (take k units) nodes → Along (IsUnitNode m units) units nodes
along_all {m = m} {units = units} {outlines = outlines} {nodes = nodes} o k h a =
    let l = along_length units outlines o.along in
    subst (λ (us : List UnitPath). Along (IsUnitNode m units) us nodes) (take_all k units (omega (arith, l, h))) a
