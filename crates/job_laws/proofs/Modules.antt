-- The text of the modules of cuts is one.
use Rattle.std.proofs.Common.{◌≡◌, ◌<◌, ◌≤◌, ◌⊎◌, ◌-◌, ◌&&◌, ℕ, suc, Bool, true, false, not, List, [], ◌∷◌, map, nat_lt, refl, sym, ◌∙◌, ap, subst, arith, inl, inr}
use Rattle.std.proofs.lemmas.Bool.{cases_lt}
use Rattle.std.proofs.lemmas.Bool.Decides.{nat_tests}
use Rattle.ar_base.specs.Lists.{Stands, IsOneOf, Along}
use Rattle.ar_base.specs.NumbersInside.{UnitId}
use Rattle.ar_base.proofs.Comparing.{id_from}
use Rattle.ar_base.proofs.Standing.{stands_within, stands_some, one_none, one_first, one_here, one_rest, one_cases}
use Rattle.ar_firing.specs.Cuts.{Cut}
use Rattle.ar_firing.specs.Forest.{ModeTree}
use Rattle.ar_firing.specs.Static.{IsKeyedStatic}
use Rattle.ar_firing.proofs.OneForest.{forest_same}
use Rattle.ar_firing.proofs.OneListing.{listed_same}
use Rattle.domains.specs.declared.Value.{Value}
use Rattle.gate_modules.specs.Modules.{lies, inside, IsPartOfUnit, IsModule, IsChosen, AreChosen}
use Rattle.gate_modules.specs.ModulesInside.{HasEvents}
use Rattle.gate_modules.specs.Shortened.{UnitSets, ShortForm, short_form, once, IsModuleOf, IsShortened}
use Rattle.gate_modules.specs.declared.ranges.Range.{Range}
use Rattle.gts_flatten.specs.Elaborating.{Elaborated}
use Rattle.gts_flatten.specs.Flat.{naming_of}
use Rattle.hierarchy.specs.Models.{RootedModel}
use Rattle.hierarchy.specs.Paths.{unit_path}
use Rattle.hierarchy.specs.Units.{UnitPath, Thing}
use Rattle.module_text.specs.Ranges.{AreRangesOf}
use Rattle.module_text.specs.Texts.{short_text, IsModuleText}
use Rattle.typed_expr.specs.declared.expr.Expr.{Expr}
use Rattle.zdd_nodes.specs.Families.{Family}
use Rattle.job_laws.proofs.Labels.{along_one}

-- The events of a range

lies_from : (r : Range) (e : ℕ) → r.from ≤ e → e < r.to → lies r e ≡ true
lies_from r e l m = grind (arith, nat_tests)

lies_to : (r : Range) (e : ℕ) → lies r e ≡ true → (r.from ≤ e) × (e < r.to)
lies_to r e h = go (nat_lt e r.from) (nat_lt e r.to) refl refl h
  where
    go : (a b : Bool) → nat_lt e r.from ≡ a → nat_lt e r.to ≡ b → (not a && b) ≡ true → (r.from ≤ e) × (e < r.to)
    go true b p q i = let z : false ≡ true = i in cc
    go false false p q i = let z : false ≡ true = i in cc
    go false true p q i = (grind (arith, nat_tests), grind (arith, nat_tests))

range_from : (r s : Range) → r.unit ≡ s.unit → r.from ≡ s.from → r.to ≡ s.to → r ≡ s
range_from r s e f g = go r.unit s.unit r.from s.from r.to s.to e f g
  where
    go : (u v : UnitId) (a b k l : ℕ) → u ≡ v → a ≡ b → k ≡ l
        → ◌≡◌ {A = Range} (record { unit = u; from = a; to = k }) (record { unit = v; from = b; to = l })
    go u v a b k l e f g = cc

-- ranges of one unit with the same events are one, where there is an event
ranges_one : (r s : Range) → r.unit ≡ s.unit → HasEvents r → ((e : ℕ) → lies r e ≡ true → lies s e ≡ true)
    → ((e : ℕ) → lies s e ≡ true → lies r e ≡ true) → r ≡ s
ranges_one r s e some on back =
    let first = lies_to s r.from (on r.from (lies_from r r.from (omega arith) some)) in
    let last = lies_to s (r.to - 1) (on (r.to - 1) (lies_from r (r.to - 1) (omega (arith, some))
    (omega (arith, some)))) in
    let there : s.from < s.to = omega (arith, first.0, first.1) in
    let begins = lies_to r s.from (back s.from (lies_from s s.from (omega arith) there)) in
    let ends = lies_to r (s.to - 1) (back (s.to - 1) (lies_from s (s.to - 1) (omega (arith, there))
    (omega (arith, there)))) in
    range_from r s e (omega (arith, first.0, begins.0)) (omega (arith, last.1, ends.1, some, there))

-- The ranges of units

module _ (m : RootedModel) (units : List UnitPath) where
  -- the ranges of one unit in two lists are one, where it has events
  range_there : (rs ss : List Range) → AreRangesOf m units rs → AreRangesOf m units ss → (r : Range) → HasEvents r
      → IsOneOf rs r → IsOneOf ss r
  range_there rs ss a b r some o =
      let k = o.place in
      let l = stands_within rs k r o.stands in
      let la = a.long in
      let lb = b.long in
      let other = stands_some ss k (omega (arith, l, la, lb)) in
      let p = a.each k r o.stands in
      let q = b.each k other.0 other.1 in
      let same = ranges_one r other.0 (id_from r.unit other.0.unit (p.unit ∙ sym q.unit)) some
      (λ e h. (q.events e).1 ((p.events e).0 h)) (λ e h. (p.events e).1 ((q.events e).0 h)) in
      subst (λ (z : Range). IsOneOf ss z) (sym same) (one_here ss k other.0 other.1)

-- Modules

-- a range without events has none of a set
none_inside : (r : Range) (set : List ℕ) → r.to ≤ r.from → inside r set ≡ []
none_inside r [] l = refl
none_inside r (x ∷ xs) l = go (lies r x) refl (none_inside r xs l)
  where
    go : (b : Bool) → lies r x ≡ b → inside r xs ≡ [] → inside r (x ∷ xs) ≡ []
    go true e h = let k = lies_to r x e in absurd (omega (arith, k.0, k.1, l))
    go false e h = rw e h

-- in what follows units come by their numbers
abbrev Ascend : List Range → Type 0
Ascend xs = (j k : ℕ) (a b : Range) → j < k → Stands xs j a → Stands xs k b → a.unit.n < b.unit.n

ascend_rest : (x : Range) (xs : List Range) → Ascend (x ∷ xs) → Ascend xs
ascend_rest x xs a j k r s l p q = a (suc j) (suc k) r s (omega (arith, l)) p q

later_more : (x : Range) (xs : List Range) → Ascend (x ∷ xs) → (r : Range) → IsOneOf xs r → x.unit.n < r.unit.n
later_more x xs a r o = a 0 (suc o.place) x r (omega arith) refl o.stands

-- what stands behind the first of one list stands behind the first of the other
rest_in : (u v : Range) (us vs : List Range) → u ≡ v → Ascend (u ∷ us)
    → ((r : Range) → IsOneOf (u ∷ us) r → IsOneOf (v ∷ vs) r) → (r : Range) → IsOneOf us r → IsOneOf vs r
rest_in u v us vs e a h r o = elim (one_cases v vs r (h r (one_rest u us r o))) [
  | inl i ↦ (let l = later_more u us a r o in let n : u.unit.n ≡ r.unit.n =
      ap (λ (z : Range). z.unit.n) (e ∙ i) in absurd (omega (arith, l, n)))
  | inr j ↦ j
]

-- ascending lists with the same members are one
ascending_same : (xs ys : List Range) → Ascend xs → Ascend ys → ((r : Range) → IsOneOf xs r → IsOneOf ys r)
    → ((r : Range) → IsOneOf ys r → IsOneOf xs r) → xs ≡ ys
ascending_same [] [] a b on back = refl
ascending_same [] (y ∷ ys) a b on back = absurd (one_none y (back y (one_first y ys)))
ascending_same (x ∷ xs) [] a b on back = absurd (one_none x (on x (one_first x xs)))
ascending_same (x ∷ xs) (y ∷ ys) a b on back =
    go (one_cases y ys x (on x (one_first x xs))) (one_cases x xs y (back y (one_first y ys)))
    (λ e. ascending_same xs ys (ascend_rest x xs a) (ascend_rest y ys b) (rest_in x y xs ys e a on)
    (rest_in y x ys xs (sym e) b back))
  where
    same : x ≡ y → (x ≡ y → xs ≡ ys) → x ∷ xs ≡ y ∷ ys
    same e more = let r = more e in cc

    go : (y ≡ x) ⊎ IsOneOf ys x → (x ≡ y) ⊎ IsOneOf xs y → (x ≡ y → xs ≡ ys) → x ∷ xs ≡ y ∷ ys
    go (inl e) o more = same (sym e) more
    go (inr o) (inl e) more = same e more
    go (inr o) (inr p) more =
        let l = later_more y ys b x o in let m = later_more x xs a y p in absurd (omega (arith, l, m))

module _ (f : Family) where
  -- a module has events
  part_some : (r : Range) (part : List ℕ) → IsPartOfUnit f r part → HasEvents r
  part_some r part p = elim (cases_lt r.from r.to) [
    | inl l ↦ l
    | inr l ↦ absurd
        (p.some (sym p.is ∙ none_inside r p.set l))
  ]

  module_some : (r : Range) → IsModule f r → HasEvents r
  module_some r m = part_some r m.one m.one_is

  module _ (m : RootedModel) (units : List UnitPath) where
    chosen_there : (rs ss : List Range) → AreRangesOf m units rs → AreRangesOf m units ss → (r : Range)
        → IsChosen f rs r → IsChosen f ss r
    chosen_there rs ss a b r c = record {
      listed = range_there m units rs ss a b r (module_some r c.is_module) c.listed;
      is_module = c.is_module;
      outermost =
          λ outer o round is.
          c.outermost outer (range_there m units ss rs b a outer (module_some outer is) o) round is;
    }

    chosen_one : (rs ss xs ys : List Range) → AreRangesOf m units rs → AreRangesOf m units ss → AreChosen f rs xs
        → AreChosen f ss ys → xs ≡ ys
    chosen_one rs ss xs ys a b c d =
        ascending_same xs ys c.ascend d.ascend (λ r o. d.whole r (chosen_there rs ss a b r (c.sound r o)))
        (λ r o. c.whole r (chosen_there ss rs b a r (d.sound r o)))

  module_of_one : (r : Range) (m n : UnitSets) → IsModuleOf f r m → IsModuleOf f r n → m ≡ n
  module_of_one r m n a b = both m.unit n.unit m.sets n.sets (a.unit ∙ sym b.unit)
      (listed_same m.sets n.sets (IsPartOfUnit f r) a.sets b.sets)
    where
      both : (u v : ℕ) (xs ys : List (List ℕ)) → u ≡ v → xs ≡ ys
          → ◌≡◌ {A = UnitSets} (record { unit = u; sets = xs }) (record { unit = v; sets = ys })
      both u v xs ys e i = cc

-- The text

module _ (x : Elaborated) (dropped : List ℕ) (static : IsKeyedStatic x.system dropped) where
  abbrev model : RootedModel
  model = x.declarations.model

  abbrev units : List UnitPath
  units = x.declarations.units

  abbrev shortened : List ModeTree → List UnitSets → List ShortForm → List ℕ
  shortened trees modules forms = short_text (naming_of x.declarations) (map (unit_path model) units) x.system trees
      modules forms

  -- one family in short
  modules_one : (f : Family) (rs ss : List Range) (xs ys : List UnitSets) (gs hs : List ShortForm)
      → AreRangesOf model units rs
      → AreRangesOf model units ss → IsShortened f rs xs gs → IsShortened f ss ys hs → (xs ≡ ys) × (gs ≡ hs)
  modules_one f rs ss xs ys gs hs a b p q =
      let e : p.chosen ≡ q.chosen = chosen_one f model units rs ss p.chosen q.chosen a b p.are_chosen q.are_chosen in
      let there = subst (λ (z : List Range). Along (IsModuleOf f) z ys) (sym e) q.modules_are in (
        along_one (module_of_one f) p.modules_are there,
        p.forms_are ∙ ap (λ (z : List Range). once (map (short_form z) f)) e ∙ sym q.forms_are,
      )

  pub module_text_one : (observer : Expr Thing) (wanted : Value) (s t : List ℕ)
      → IsModuleText x dropped observer wanted s
      → IsModuleText x dropped observer wanted t → s ≡ t
  module_text_one observer wanted s t a b =
      let e : a.cuts ≡ b.cuts = listed_same a.cuts b.cuts (Cut x.system dropped observer wanted) a.are_listed
      b.are_listed in
      let there = subst (λ (z : Family). IsShortened z b.ranges b.modules b.forms) (sym e) b.is_short in
      let r = modules_one a.cuts a.ranges b.ranges a.modules b.modules a.forms b.forms a.are_ranges b.are_ranges
      a.is_short there in
      let i : a.trees ≡ b.trees = forest_same x.system dropped static.keyed static.static a.is_forest b.is_forest in
      a.is_text
      ∙ ap (λ (z : List ModeTree). shortened z a.modules a.forms) i
      ∙ ap (λ (z : List UnitSets). shortened b.trees z a.forms) r.0
      ∙ ap (λ (z : List ShortForm). shortened b.trees b.modules z) r.1
      ∙ sym b.is_text
