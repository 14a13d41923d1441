-- The plan of the ways of declared events rests on their keys and on the keys of their parts.
use Rattle.std.proofs.Common.{◌≡◌, ℕ, ◌+◌, Bool, List, ◌∷◌, ◌++◌, map, refl, ap, ◌∙◌}
use Rattle.ar_base.specs.Lists.{Along}
use Rattle.ar_base.specs.Lists as l
use Rattle.ar_meaning.specs.Expand.{EventDeclaration, Member}
use Rattle.ar_meaning.specs.ExpandImage.{Part_renames, Member_along, transitions, synchronise, Declared_along}
use Rattle.ar_meaning.specs.Numbered.{Body, Acts, Joins}
use Rattle.gts_core.proofs.Systems.{along_one}
use Rattle.sync_expand.specs.Plans.{PlannedWay, choices_by, bodies_by, numbered_from, ways_of_event, planned_ways}

module _ {L M E : Type 0} (same : L → M → Type 0) (key : E → ℕ → Type 0)
    (one : (e : E) (m n : ℕ) → key e m → key e n → m ≡ n) (counts : List ℕ) where
  part_one : (p : Bool × E) (q r : Bool × ℕ) → Part_renames key p q → Part_renames key p r → q ≡ r
  part_one (s, e) (t, m) (u, n) a b = let i = a.must in let j = b.must in let k = one e m n a.key b.key in cc

  -- members of one list
  bodies_one : (k : ℕ) {ms : List (Member L E)} {xs ys : List (Member M ℕ)} → Along (Member_along same key) ms xs
      → Along (Member_along same key) ms ys
      → bodies_by (λ i x. i) counts k xs ≡ bodies_by (λ i x. i) counts k ys
  bodies_one k l.none l.none = refl
  bodies_one k (l.one_and (transitions d) ds) (l.one_and (transitions e) es) =
      ap (λ (z : List (Body ℕ)). Acts k ∷ z) (bodies_one (k + 1) ds es)
  bodies_one k (l.one_and (synchronise {qs = qs} d) ds) (l.one_and {ys = ys} (synchronise {qs = rs} e) es) =
      ap (λ (z : List (Body ℕ)). map Joins (choices_by counts qs) ++ z) (bodies_one (k + 1) ds es)
      ∙ ap (λ (z : List (Bool × ℕ)). map Joins (choices_by counts z) ++ bodies_by (λ i x. i) counts (k + 1) ys)
      (along_one (Part_renames key) part_one d e)

  event_one : (d : EventDeclaration L E) (a b : EventDeclaration M ℕ) → Declared_along same key d a → Declared_along
      same key d b → ways_of_event counts a ≡ ways_of_event counts b
  event_one d a b p q =
      ap (λ (z : ℕ). numbered_from z 1 (bodies_by (λ i x. i) counts 0 a.members)) (one d.key a.key b.key p.key q.key)
      ∙ ap (numbered_from b.key 1) (bodies_one 0 p.members q.members)

  -- two lists that differ from one list in their keys alone have one plan
  pub plans_one : {ds : List (EventDeclaration L E)} {xs ys : List (EventDeclaration M ℕ)} → Along (Declared_along same
      key) ds xs → Along (Declared_along same key) ds ys → planned_ways counts xs ≡ planned_ways counts ys
  plans_one l.none l.none = refl
  plans_one (l.one_and {a = d} {b = a} {ys = xs} p ps) (l.one_and {b = b} {ys = ys} q qs) =
      ap (λ (z : List PlannedWay). z ++ planned_ways counts xs) (event_one d a b p q)
      ∙ ap (λ (z : List PlannedWay). ways_of_event counts b ++ z) (plans_one ps qs)
