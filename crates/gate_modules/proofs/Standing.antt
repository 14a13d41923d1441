-- The short forms of a family stand for it.
use Rattle.std.proofs.Common.{◌≡◌, ℕ, Bool, true, false, not, ◌||◌, ◌&&◌, List, [], ◌∷◌, filter, map, refl, sym, ap, ap₂, ◌∙◌, subst, true≢false}
use Rattle.std.proofs.lemmas.Bool.{or_left, false_from_ne_true}
use Rattle.std.specs.List.{AllByRecursion, list_any}
use Rattle.ar_base.specs.Lists.{IsOneOf, Along}
use Rattle.ar_base.specs.Lists.Along.{none, one_and}
use Rattle.ar_base.specs.Sets.{Ascends}
use Rattle.ar_base.proofs.Standing.{one_first, one_rest, one_here, stands_map, stands_map_back, along_on, along_back}
use Rattle.ar_base.proofs.Truths.{alike}
use Rattle.ar_firing.proofs.OneListing.{ascending_same}
use Rattle.zdd_nodes.specs.Families.{Family, has, holds}
use Rattle.zdd_nodes.specs.FamiliesInside.{IsFamily}
use Rattle.zdd_nodes.proofs.Minimal.{member_of}
use Rattle.gate_modules.specs.Choices.{IsSetOf, IsChoice, IsChoiceOf, ComesFrom, StandFor}
use Rattle.gate_modules.specs.Forms.{AreOfDifferentUnits}
use Rattle.gate_modules.specs.Modules.{lies, inside, IsPartOfUnit, IsModule}
use Rattle.gate_modules.specs.ModulesInside.{AreRanges}
use Rattle.gate_modules.specs.Shortened.{UnitSets, ShortForm, touches, is_covered, short_form, once, IsModuleOf, IsShortened}
use Rattle.gate_modules.specs.declared.ranges.Range.{Range}
use Rattle.gate_modules.proofs.Choosing.{different_units}
use Rattle.gate_modules.proofs.Choices.{holds_filter, any_event, event_any, filter_some, filtered, same_events, has_one_of, once_sound, once_whole, Apart, apart, apart_filter, covered_in_some, covered_touched, free, not_both, and_no, parts_covered, Exchanged, exchange_all, recover, part_touches, inside_events}
use Rattle.gate_modules.proofs.Forming.{all_members, filter_same, passed_one, one_passes, covered_in}
use Rattle.firable_families.proofs.Listing.{has_stands}

module _ (f : Family) (up : AllByRecursion Ascends f) (chosen : List Range) (modules : List UnitSets)
    (sound : (c : Range) → IsOneOf chosen c → IsModule f c)
    (d : AreOfDifferentUnits chosen) (far : Apart chosen) (are : Along (IsModuleOf f) chosen modules) where
  abbrev unit_of : Range → ℕ
  unit_of r = r.unit.n

  abbrev touched : List ℕ → List Range
  touched s = filter (touches s) chosen

  -- ---- the sets of a module are the parts of its range
  part_of : (c : Range) → IsOneOf chosen c → (set : List ℕ) → IsSetOf modules c.unit.n set → IsPartOfUnit f c set
  part_of c i set h =
      let r = along_back chosen modules are h.listed.place h.sets_of h.listed.stands in
      let is : r.0 ≡ c = d.units r.0 c (one_here chosen h.listed.place r.0 r.1) i (sym r.2.unit ∙ h.unit_is) in
      subst (λ z. IsPartOfUnit f z set) is (r.2.sets.sound h.is_set.place set h.is_set.stands)

  parts_of : (rs : List Range) → ((c : Range) → IsOneOf rs c → IsOneOf chosen c) → (parts : List (List ℕ))
      → Along (IsSetOf modules) (map unit_of rs) parts → Along (IsPartOfUnit f) rs parts
  parts_of [] h [] none = none
  parts_of [] h (y ∷ ys) k = elim k [ ]
  parts_of (r ∷ rs) h [] k = elim k [ ]
  parts_of (r ∷ rs) h (a ∷ parts) (one_and p ps) =
      one_and (part_of r (h r (one_first r rs)) a p) (parts_of rs (λ c i. h c (one_rest r rs c i)) parts ps)

  part_ascends : (r : Range) (a : List ℕ) → IsPartOfUnit f r a → Ascends a
  part_ascends r a p = subst Ascends p.is (filtered (lies r) p.set (member_of Ascends f p.set up p.among))

  set_of_part : (c : Range) → IsOneOf chosen c → (a : List ℕ) → IsPartOfUnit f c a → IsSetOf modules c.unit.n a
  set_of_part c i a p =
      let m = along_on chosen modules are i.place c i.stands in
      let w = m.2.sets.whole a p in
      let is : w.0 ≡ a = ascending_same w.0 a (m.2.sets.ascend w.1.place w.0 w.1.stands) (part_ascends c a p) w.3 w.2 in
      record {
        sets_of = m.0;
        listed = one_here modules i.place m.0 m.1;
        unit_is = m.2.unit;
        is_set = subst (IsOneOf m.0.sets) is w.1;
      }

  -- ---- a set comes from its short form and its own parts
  own_parts : (s : List ℕ) → has f s ≡ true → (rs : List Range)
      → ((c : Range) → IsOneOf rs c → IsOneOf chosen c × (touches s c ≡ true))
      → Along (IsSetOf modules) (map unit_of rs) (map (λ r. inside r s) rs)
  own_parts s h [] t = none
  own_parts s h (r ∷ rs) t =
      let k = t r (one_first r rs) in
      one_and (set_of_part r k.0 (inside r s)
      (record { set = s; among = h; is = refl; some = filter_some (lies r) s k.1 }))
      (own_parts s h rs (λ c i. t c (one_rest r rs c i)))

  all_or_free : (a b h : Bool) → (h ≡ true → a ≡ b) → h ≡ ((a && h) || (not b && h))
  all_or_free a true true k = ap (λ z. (z && true) || false) (sym (k refl))
  all_or_free a false true k = ap (λ z. (z && true) || true) (sym (k refl))
  all_or_free a b false k = sym (ap₂ (λ x y. x || y) (and_no a false refl) (and_no (not b) false refl))

  made_of_own : (s : List ℕ) → has f s ≡ true → IsChoiceOf (short_form chosen s) (map (λ r. inside r s) (touched s)) s
  made_of_own s h = record {
    ascends = member_of Ascends f s up h;
    each = λ e.
        all_or_free (is_covered (touched s) e) (is_covered chosen e) (holds e s) (λ k. covered_touched s e k chosen)
        ∙ ap₂ (λ x y. x || y) (sym (inside_events f (touched s) s e))
        (sym (holds_filter e (λ x. not (is_covered chosen x)) s));
  }

  abbrev forms : List ShortForm
  forms = once (map (short_form chosen) f)

  comes_from : (s : List ℕ) → has f s ≡ true → ComesFrom modules forms s
  comes_from s h =
      let i = has_stands f s h in
      record {
        form = short_form chosen s;
        choice = map (λ r. inside r s) (touched s);
        listed = once_whole (map (short_form chosen) f) (short_form chosen s)
            (one_here (map (short_form chosen) f) i.place (short_form chosen s)
            (stands_map (short_form chosen) f i.place s i.stands));
        is_choice = own_parts s h (touched s) (λ c j. passed_one (touches s) chosen c j);
        is_made = made_of_own s h;
      }

  -- a form is that of a set of the family
  record IsFormOf (form : ShortForm) : Type 0 where
    pub set : List ℕ
    pub among : has f set ≡ true
    pub is : short_form chosen set ≡ form

  form_of_set : (form : ShortForm) → IsOneOf forms form → IsFormOf form
  form_of_set form i =
      let j = once_sound (map (short_form chosen) f) form i in
      let t = stands_map_back (short_form chosen) f j.place form j.stands in
      record { set = t.0; among = has_one_of f t.0 (one_here f j.place t.0 t.1); is = t.2 }

  -- ---- what is made of a choice
  module _ (s : List ℕ) (s_in : has f s ≡ true) (parts : List (List ℕ))
      (ps : Along (IsPartOfUnit f) (touched s) parts) where
    far_touched : Apart (touched s)
    far_touched = apart_filter (touches s) chosen far

    exchanged : Exchanged f (touched s) parts s
    exchanged = exchange_all f (touched s) parts ps far_touched (λ c i. sound c (passed_one (touches s) chosen c i).0) s
        s_in (λ c i. (passed_one (touches s) chosen c i).1)

    kept_or_free : (a b h : Bool) → (h ≡ true → a ≡ b) → (h && not a) ≡ (not b && h)
    kept_or_free a true true k = ap not (k refl)
    kept_or_free a false true k = ap not (k refl)
    kept_or_free a b false k = sym (and_no (not b) false refl)

    made_of : IsChoiceOf (short_form chosen s) parts exchanged.set
    made_of = record {
      ascends = member_of Ascends f exchanged.set up exchanged.among;
      each = λ e. exchanged.each e ∙ ap (λ z. list_any (holds e) parts || z)
          (kept_or_free (is_covered (touched s) e) (is_covered chosen e) (holds e s) (λ k. covered_touched s e k chosen)
          ∙ sym (holds_filter e (λ x. not (is_covered chosen x)) s));
    }

    -- a set that is made of it tells the form and the choice
    module _ (t : List ℕ) (t_up : Ascends t)
        (made : (e : ℕ) → holds e t ≡ (list_any (holds e) parts || holds e (free chosen s))) where
      no_free : (e : ℕ) → is_covered chosen e ≡ true → holds e (free chosen s) ≡ false
      no_free e c = holds_filter e (λ x. not (is_covered chosen x)) s ∙ ap (λ z. not z && holds e s) c

      or_none : (a b : Bool) → b ≡ false → (a || b) ≡ a
      or_none true b h = refl
      or_none false b h = h

      touched_covered : (e : ℕ) → is_covered (touched s) e ≡ true → is_covered chosen e ≡ true
      touched_covered e h = covered_in_some (touches s) chosen e h

      parts_are : parts ≡ map (λ r. inside r t) (touched s)
      parts_are = recover f (touched s) parts ps up far_touched t t_up
          (λ e c. made e ∙ or_none (list_any (holds e) parts) (holds e (free chosen s))
          (no_free e (touched_covered e c)))

      covered_one : (xs : List Range) (e : ℕ) → is_covered xs e ≡ true → (c : Range) × IsOneOf xs c × (lies c e ≡ true)
      covered_one [] e h = absurd (true≢false (sym h))
      covered_one (x ∷ xs) e h = step (covered_one xs e) (lies x e) refl
        where
          step : (is_covered xs e ≡ true → (c : Range) × IsOneOf xs c × (lies c e ≡ true)) → (b : Bool) → lies x e ≡ b
              → (c : Range) × IsOneOf (x ∷ xs) c × (lies c e ≡ true)
          step ih true k = (x, one_first x xs, k)
          step ih false k = let t = ih (sym (ap (λ z. z || is_covered xs e) k) ∙ h) in (t.0, one_rest x xs t.0 t.1, t.2)

      same_touched : (c : Range) → IsOneOf chosen c → touches s c ≡ touches t c
      same_touched c i = alike (touches s c) (touches t c) there back
        where
          there : touches s c ≡ true → touches t c ≡ true
          there h =
              let w = part_touches f (touched s) parts ps c (one_passes (touches s) chosen c i h) in
              event_any (lies c) t w.0 (made w.0 ∙ or_left (list_any (holds w.0) parts) (holds w.0 (free chosen s)) w.1)
              w.2

          back : touches t c ≡ true → touches s c ≡ true
          back h =
              let w = any_event (lies c) t h in
              let covered = covered_in chosen c w.0 i w.2 in
              let in_parts : list_any (holds w.0) parts ≡ true =
              sym (made w.0 ∙ or_none (list_any (holds w.0) parts) (holds w.0 (free chosen s))
              (no_free w.0 covered)) ∙ w.1 in
              let r = covered_one (touched s) w.0 (parts_covered f (touched s) parts ps w.0 in_parts) in
              let p = passed_one (touches s) chosen r.0 r.1 in
              ap (touches s) (sym (d.one r.0 c p.0 i w.0 r.2 w.2)) ∙ p.1

      same_ranges : touched s ≡ touched t
      same_ranges = filter_same (touches s) (touches t) chosen
          (all_members (λ c. touches s c ≡ touches t c) chosen same_touched)

      same_free : free chosen s ≡ free chosen t
      same_free = same_events (free chosen s) (free chosen t) (filtered free_test s (member_of Ascends f s up s_in))
          (filtered free_test t t_up) (λ e. by e (is_covered chosen e) refl)
        where
          free_test : ℕ → Bool
          free_test x = not (is_covered chosen x)

          by : (e : ℕ) (b : Bool) → is_covered chosen e ≡ b → holds e (free chosen s) ≡ holds e (free chosen t)
          by e true c = no_free e c ∙ sym (holds_filter e (λ x. not (is_covered chosen x)) t
              ∙ ap (λ z. not z && holds e t) c)
          by e false c =
              let no : list_any (holds e) parts ≡ false =
              false_from_ne_true (list_any (holds e) parts)
              (λ k. not_both (is_covered chosen e)
              (touched_covered e (parts_covered f (touched s) parts ps e k)) c) in
              sym (holds_filter e (λ x. not (is_covered chosen x)) t ∙ ap (λ z. not z && holds e t) c ∙ made e
              ∙ ap (λ z. z || holds e (free chosen s)) no)

      form_is : short_form chosen s ≡ short_form chosen t
      form_is = ap₂ (λ x y. (let z : ShortForm = record { units = map unit_of x; events = y } in z)) same_ranges
          same_free

      choice_is : parts ≡ map (λ r. inside r t) (touched t)
      choice_is = parts_are ∙ ap (map (λ r. inside r t)) same_ranges

  made_set : (form : ShortForm) (choice : List (List ℕ)) → IsOneOf forms form → IsChoice modules form choice
      → (set : List ℕ) × (has f set ≡ true) × IsChoiceOf form choice set
  made_set form choice i c =
      let k = form_of_set form i in
      let ps = parts_of (touched k.set) (λ r j. (passed_one (touches k.set) chosen r j).0) choice
      (subst (λ (z : ShortForm). Along (IsSetOf modules) z.units choice) (sym k.is) c) in
      let x = exchanged k.set k.among choice ps in
      (x.set, x.among, subst (λ z. IsChoiceOf z choice x.set) k.is (made_of k.set k.among choice ps))

  -- the form and the choice by the set
  told : (set : List ℕ) (a : ComesFrom modules forms set)
      → (a.form ≡ short_form chosen set) × (a.choice ≡ map (λ r. inside r set) (touched set))
  told set a =
      let k = form_of_set a.form a.listed in
      let ps = parts_of (touched k.set) (λ r j. (passed_one (touches k.set) chosen r j).0) a.choice
      (subst (λ (z : ShortForm). Along (IsSetOf modules) z.units a.choice) (sym k.is) a.is_choice) in
      let made = subst (λ (z : ShortForm). (e : ℕ) → holds e set ≡ (list_any (holds e) a.choice || holds e z.events))
      (sym k.is) a.is_made.each in (
        sym k.is ∙ form_is k.set k.among a.choice ps set a.is_made.ascends made,
        choice_is k.set k.among a.choice ps set
            a.is_made.ascends made,
      )

  pub stands : StandFor f modules forms
  stands = record {
    made = made_set;
    whole = comes_from;
    one = λ set a b. let x = told set a in let y = told set b in (x.0 ∙ sym y.0, x.1 ∙ sym y.1);
  }

pub stand_for : (f : Family) → IsFamily f → (ranges : List Range) → AreRanges ranges
    → (modules : List UnitSets) (short : List ShortForm) → IsShortened f ranges modules short → StandFor f modules short
stand_for f family ranges are modules short is =
    let d = different_units f ranges are is.chosen is.are_chosen.sound in
    subst (StandFor f modules) (sym is.forms_are)
    (stands f family.ascending is.chosen modules (λ c i. (is.are_chosen.sound c i).is_module) d
    (apart is.chosen d.one is.are_chosen.ascend) is.modules_are)
