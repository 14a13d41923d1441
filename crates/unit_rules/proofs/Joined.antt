-- Counts of lists of members, one after the other.
use Rattle.std.proofs.Common.{◌≡◌, ℕ, ◌+◌, ◌≤◌, List, [], ◌∷◌, ◌++◌, take, length, unwrap_or, slice_get, Option, Some, None, Vec, Global, sym, ◌∙◌, ap, subst, arith}
use Rattle.std.proofs.lemmas.List.{length-map, append-nil}
use Rattle.std.specs.List.{flat_map}
use Rattle.std.proofs.lemmas.List.Concat.{flat_map-append}
use Rattle.std.proofs.lemmas.Option.{slice_get_past}
use Rattle.ar_base.specs.Lists.{Stands, Along}
use Rattle.ar_base.specs.Numbers.{BodyId}
use Rattle.ar_base.proofs.Standing.{along_back, along_length, stands_map}
use Rattle.class_table.specs.Declaring.{Declared}
use Rattle.class_table.specs.Members.{Site, NamedMember, named_at, names_of, owned_at}
use Rattle.class_table.specs.TablesInside.{IsBodyOf, site_of}
use Rattle.class_table.specs.declared.tables.Classes.{Classes}
use Rattle.class_table.specs.declared.tables.Body.{Body}
use Rattle.class_table.specs.declared.tables.Owned.{Owned}
use Rattle.class_table.proofs.OwnAt.{own_shown}
use Rattle.class_table.proofs.MemberNames.{site_past}
use Rattle.class_table.proofs.Taken.{take_next}
use Rattle.hierarchy.specs.Models.{RootedModel}
use Rattle.hierarchy.specs.ModelsInside.{IsRootedTable, sites_kept}
use Rattle.hierarchy.specs.Units.{UnitPath, names_at}
use Rattle.hierarchy.specs.Tie.{IsOutline}
use Rattle.hierarchy.specs.declared.outline.Outline.{Outline}
use Rattle.unit_rules.specs.Sizes.{owned_size, unit_size, tree_nodes}
use Rattle.unit_rules.specs.Counting.{AreMemberCounts, AreOwn, AreAt, AreOfBody, nodes_at}
use Rattle.unit_rules.specs.declared.counts.Counts.{Counts}
use Rattle.unit_rules.proofs.Sums.{sum_join, sum_next}

-- two counts that are read as others are
pub counts_same : (gs hs : List NamedMember) (n k : ℕ) (c : Counts) → gs ≡ hs → n ≡ k → AreMemberCounts gs n c
    → AreMemberCounts hs k c
counts_same gs hs n k c e i h = subst (λ (xs : List NamedMember). AreMemberCounts xs k c) e
    (subst (λ (m : ℕ). AreMemberCounts gs m c) i h)

module _ (d : Declared) where
  -- the counts at joined sites
  pub at_join : (xs ys : List Site) (c : Counts)
      → AreMemberCounts (named_at d xs ++ named_at d ys) (nodes_at d xs + nodes_at d ys) c → AreAt d (xs ++ ys) c
  at_join xs ys c h =
      counts_same _ (named_at d (xs ++ ys)) _ (nodes_at d (xs ++ ys)) c
      (sym (flat_map-append (λ (s : Site). names_of d s (owned_at d s)) xs ys))
      (sym (sum_join (λ (s : Site). owned_size (owned_at d s)) xs ys)) h

  -- the counts at one site, by the member that is there
  pub at_one : (s : Site) (o : Option Owned) (c : Counts) → owned_at d s ≡ o
      → AreMemberCounts (names_of d s o) (owned_size o) c → AreAt d (s ∷ []) c
  at_one s o c e h =
      let n : owned_size (owned_at d s) ≡ 0 + owned_size (owned_at d s) = omega arith in
      counts_same (names_of d s (owned_at d s)) (named_at d (s ∷ [])) _ (nodes_at d (s ∷ [])) c
      (sym (append-nil (names_of d s (owned_at d s)))) n
      (subst (λ (p : Option Owned). AreMemberCounts (names_of d s p) (owned_size p) c) (sym e) h)

module _ (d : Declared) (bodies : List Body) (rows : List (Vec Counts Global)) (shown : Along IsBodyOf bodies d.bodies)
    (own : Along (AreOwn d) bodies rows) where
  -- there is no such body, no such member of it, or the member is there
  pub no_row : (site : BodyId × ℕ) (c : Counts) → length rows ≤ site.0.n → AreMemberCounts [] 0 c
      → AreAt d (site_of site ∷ []) c
  no_row site c l h = let e = along_length bodies rows own in at_one d (site_of site) None c (sym (site_past d bodies shown site.0.n site.1 (omega arith))) h

  pub no_place : (site : BodyId × ℕ) (row : Vec Counts Global) (c : Counts) → Stands rows site.0.n row
      → length row.items ≤ site.1 → AreMemberCounts [] 0 c → AreAt d (site_of site ∷ []) c
  no_place site row c s l h =
      let w = along_back bodies rows own site.0.n row s in
      let e = along_length w.0.own.items row.items w.2 in
      at_one d (site_of site) None c (ap (λ (os : List Owned). slice_get os site.1)
      (own_shown d bodies shown site.0.n w.0 w.1) ∙ slice_get_past w.0.own.items site.1 (omega arith)) h

  pub at_place : (site : BodyId × ℕ) (row : Vec Counts Global) (c : Counts) → Stands rows site.0.n row
      → Stands row.items site.1 c → AreAt d (site_of site ∷ []) c
  at_place site row c s t =
      let w = along_back bodies rows own site.0.n row s in
      let o = along_back w.0.own.items row.items w.2 site.1 c t in
      at_one d (site_of site) (Some o.0) c
      (ap (λ (os : List Owned). slice_get os site.1) (own_shown d bodies shown site.0.n w.0 w.1) ∙ o.1)
      (o.2.at (site_of site))

module _ (m : RootedModel) (classes : Classes) (counts : List Counts) (table : IsRootedTable m classes)
    (bodies : Along (AreOfBody m.declared) classes.bodies.items counts) where
  -- there is no such body, or it is there
  pub no_body : (b : ℕ) (c : Counts) → length counts ≤ b → AreMemberCounts [] 0 c
      → AreAt m.declared (unwrap_or (slice_get m.members b) []) c
  no_body b c l h =
      let n = along_length classes.bodies.items counts bodies in
      let k = ap length table.members in
      let j = length-map classes.bodies.items sites_kept in
      subst (λ (o : Option (List Site)). AreAt m.declared (unwrap_or o []) c)
      (sym (slice_get_past m.members b (omega arith))) h

  pub at_that_body : (b : ℕ) (c : Counts) → Stands counts b c
      → AreAt m.declared (unwrap_or (slice_get m.members b) []) c
  at_that_body b c s =
      let w = along_back classes.bodies.items counts bodies b c s in
      let t = subst (λ (ms : List (List Site)). Stands ms b (sites_kept w.0)) table.members
      (stands_map sites_kept classes.bodies.items b w.0 w.1) in
      subst (λ (o : Option (List Site)). AreAt m.declared (unwrap_or o []) c) (sym t) w.2

module _ (m : RootedModel) (units : List UnitPath) (outlines : List Outline)
    (along : Along (IsOutline m units) units outlines) where
  -- the counts of the units so far, and of one more
  pub units_next : (i : ℕ) (o : Outline) (c : Counts) → Stands outlines i o
      → AreMemberCounts (flat_map (names_at m) (take i units) ++ named_at m.declared
      (unwrap_or (slice_get m.members o.body.n) []))
      (tree_nodes m (take i units) + nodes_at m.declared (unwrap_or (slice_get m.members o.body.n) [])) c
      → AreMemberCounts (flat_map (names_at m) (take (i + 1) units)) (tree_nodes m (take (i + 1) units)) c
  units_next i o c s h =
      let w = along_back units outlines along i o s in
      let e = ap (λ (b : ℕ). unwrap_or (slice_get m.members b) []) w.2.body in
      let n : tree_nodes m (take (i + 1) units) ≡ tree_nodes m (take i units) + unit_size m w.0 = let j = sum_next (unit_size m) units i w.0 w.1 in omega (arith, j) in
      let g : flat_map (names_at m) (take (i + 1) units) ≡ flat_map (names_at m) (take i units) ++ names_at m w.0 =
      ap (flat_map (names_at m)) (take_next units i w.0 w.1)
      ∙ (flat_map-append (names_at m) (take i units) (w.0 ∷ [])
      ∙ ap (λ (xs : List NamedMember). flat_map (names_at m) (take i units) ++ xs) (append-nil (names_at m w.0))) in
      counts_same _ _ _ _ c (ap (λ (ss : List Site). flat_map (names_at m) (take i units) ++ named_at m.declared ss) e
      ∙ sym g) (ap (λ (ss : List Site). tree_nodes m (take i units) + nodes_at m.declared ss) e ∙ sym n) h
