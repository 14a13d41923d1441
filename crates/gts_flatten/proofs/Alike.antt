-- Systems that differ in their variables alone have as many ways, parts of ways and nodes.
use Rattle.std.proofs.Common.{◌≡◌, ℕ, ◌+◌, max, Bool, List, map, length, refl, ap, ◌∙◌}
use Rattle.ar_base.specs.Lists.{Along, none, one_and}
use Rattle.ar_base.proofs.Standing.{along_length}
use Rattle.typed_expr.specs.declared.expr.Expr.{Expr}
use Rattle.ar_meaning.specs.Systems.{Assign, Transition, Way, Event, System, Branches}
use Rattle.ar_meaning.specs.Image.{Expr_renames, Conditions_rename, Assign_renames, Transition_renames, leaves, joints, Branches_along, no_branch, branch, Way_renames, Event_renames}
use Rattle.ar_meaning.specs.Image as i
use Rattle.sync_expand.specs.Counting.{most_ways, branch_count, part_count, parts_in, way_parts}
use Rattle.gts_flatten.specs.Sizes.{nodes_in, condition_nodes, assigns_nodes, way_nodes, ways_nodes, events_nodes, system_nodes}
use Rattle.gts_flatten.proofs.Renamed.{renamed_nodes}

plus : (a b c d : ℕ) → a ≡ c → b ≡ d → a + b ≡ c + d
plus a b c d i j = cc

module _ {V W : Type 0} {same : V → W → Type 0} where
  -- ways
  branches_counted : {bs : Branches (Transition V)} {cs : Branches (Transition W)}
      → Branches_along (Transition_renames same) bs cs → branch_count bs ≡ branch_count cs
  branches_counted no_branch = refl
  branches_counted (branch t k) = ap (λ (n : ℕ). 1 + n) (branches_counted k)

  parts_counted : {v : Way V} {w : Way W} → Way_renames same v w → part_count v ≡ part_count w
  parts_counted (leaves k) = refl
  parts_counted (joints k) = branches_counted k

  parts_alike : {vs : List (Way V)} {ws : List (Way W)} → Along (Way_renames same) vs ws → parts_in vs ≡ parts_in ws
  parts_alike none = refl
  parts_alike (one_and k ks) = plus _ _ _ _ (parts_counted k) (parts_alike ks)

  pub way_parts_alike : {es : List (Event V)} {fs : List (Event W)} → Along (Event_renames same) es fs
      → way_parts (map (λ (e : Event V). e.ways) es) ≡ way_parts (map (λ (e : Event W). e.ways) fs)
  way_parts_alike none = refl
  way_parts_alike (one_and k ks) = plus _ _ _ _ (parts_alike k.ways) (way_parts_alike ks)

  pub most_ways_alike : {es : List (Event V)} {fs : List (Event W)} → Along (Event_renames same) es fs
      → most_ways (map (λ (e : Event V). e.ways) es) ≡ most_ways (map (λ (e : Event W). e.ways) fs)
  most_ways_alike none = refl
  most_ways_alike (one_and {a = e} {b = f} {xs = es} {ys = fs} k ks) =
      let l = along_length e.ways f.ways k.ways in
      let h = most_ways_alike ks in
      ap (λ (n : ℕ). max n (most_ways (map (λ (e : Event V). e.ways) es))) l ∙ ap (λ (n : ℕ). max (length f.ways) n) h

  pub lengths_alike : {es : List (Event V)} {fs : List (Event W)} → Along (Event_renames same) es fs
      → map (λ (e : Event V). length e.ways) es ≡ map (λ (e : Event W). length e.ways) fs
  lengths_alike none = refl
  lengths_alike (one_and {a = e} {b = f} k ks) =
      let l = along_length e.ways f.ways k.ways in
      let h = lengths_alike ks in
      cc

  -- nodes
  conditions_alike : {cs : List (Expr V × Bool)} {ds : List (Expr W × Bool)} → Conditions_rename same cs ds
      → condition_nodes cs ≡ condition_nodes ds
  conditions_alike i.none = refl
  conditions_alike (i.one_and {e = e} {f = f} k ks) = plus _ _ _ _ (renamed_nodes e f k) (conditions_alike ks)

  assigns_alike : {xs : List (Assign V)} {ys : List (Assign W)} → Along (Assign_renames same) xs ys
      → assigns_nodes xs ≡ assigns_nodes ys
  assigns_alike none = refl
  assigns_alike (one_and {a = a} {b = b} k ks) =
      plus _ _ _ _ (plus _ _ _ _ (conditions_alike k.conditions) (renamed_nodes a.value b.value k.value))
      (assigns_alike ks)

  way_alike : {v : Way V} {w : Way W} → Way_renames same v w → way_nodes v ≡ way_nodes w
  way_alike (leaves {d = d} {e = e} k) = plus _ _ _ _ (renamed_nodes d.guard e.guard k.guard) (assigns_alike k.action)
  way_alike (joints k) = refl

  ways_alike : {vs : List (Way V)} {ws : List (Way W)} → Along (Way_renames same) vs ws → ways_nodes vs ≡ ways_nodes ws
  ways_alike none = refl
  ways_alike (one_and k ks) = plus _ _ _ _ (way_alike k) (ways_alike ks)

  events_alike : {es : List (Event V)} {fs : List (Event W)} → Along (Event_renames same) es fs
      → events_nodes es ≡ events_nodes fs
  events_alike none = refl
  events_alike (one_and k ks) = plus _ _ _ _ (ways_alike k.ways) (events_alike ks)

  observers_alike : {xs : List (Expr V)} {ys : List (Expr W)} → Along (Expr_renames same) xs ys
      → nodes_in xs ≡ nodes_in ys
  observers_alike none = refl
  observers_alike (one_and {a = a} {b = b} k ks) = plus _ _ _ _ (renamed_nodes a b k.renames) (observers_alike ks)

  pub nodes_alike : (x : System V) (y : System W) → Along (Event_renames same) x.events y.events
      → Along (Assign_renames same) x.net.assertions y.net.assertions
      → Along (Expr_renames same) x.observers y.observers → system_nodes x ≡ system_nodes y
  nodes_alike x y e a o = plus _ _ _ _ (events_alike e) (plus _ _ _ _ (assigns_alike a) (observers_alike o))
