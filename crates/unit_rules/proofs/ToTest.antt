-- Settings that are to be tested, where wrong ones were found.
use Rattle.std.proofs.Common.{◌≡◌, ◌≤◌, ◌<◌, ◌-◌, ◌⊎◌, inl, inr, ℕ, ◌+◌, false, List, take, length, Option, Some, None, sym, ◌∙◌, ap, subst, arith}
use Rattle.std.proofs.lemmas.Bool.{cases_eq}
use Rattle.std.proofs.lemmas.List.{take_all}
use Rattle.std.specs.HashMap.{get}
use Rattle.ar_base.specs.Lists.{Stands}
use Rattle.ar_base.specs.Breach.{IsEarlier}
use Rattle.ar_base.specs.declared.places.Place.{Place}
use Rattle.ar_base.proofs.Standing.{stands_one, stands_within}
use Rattle.ar_base.proofs.Comparing.{side, lt_or_same}
use Rattle.ar_syntax.specs.declared.members.Setting.{Setting}
use Rattle.class_table.specs.Earliest.{IsEarliest, nowhere, IsEarlierOf, IsNotBefore, behind, Until}
use Rattle.class_table.specs.Members.{Site}
use Rattle.class_table.proofs.FirstPlaces.{behind_earlier}
use Rattle.class_table.proofs.Looping.{AtItem, loop_next, loop_beside}
use Rattle.class_table.proofs.Taken.{stands_take, take_stands}
use Rattle.hierarchy.specs.Models.{RootedModel}
use Rattle.hierarchy.specs.Units.{UnitPath, set_at_of}
use Rattle.hierarchy.specs.Settings.{settings_at}
use Rattle.hierarchy.specs.declared.outline.Outline.{Outline}
use Rattle.unit_walks.specs.Forms.{same_pair}
use Rattle.unit_walks.proofs.TableSteps.{pair_apart}
use Rattle.unit_rules.specs.ToTest.{NoneBeforeFrom, AreToTest, left_at, KnowsLeft}
use Rattle.unit_rules.specs.Wrong.{BreaksIn, BreaksSettings}
use Rattle.unit_rules.specs.declared.left.WrongSearch.{WrongSearch}
use Rattle.unit_rules.proofs.Kept.{kept_found}
use Rattle.unit_rules.proofs.Searched.{BreaksNumber}

-- from which number on none of the settings stands before a place

pub none_behind : (settings : List Setting) (found : Option Place) → NoneBeforeFrom settings (length settings) found
none_behind settings found k s t l = absurd (let w = stands_within settings k s t in omega (arith, l, w))

pub behind_next : (settings : List Setting) (n : ℕ) (x : Setting) (p : Place) → 0 < n → Stands settings (n - 1) x
    → (IsEarlier x.at p → ⊥) → NoneBeforeFrom settings n (Some p) → NoneBeforeFrom settings (n - 1) (Some p)
behind_next settings n x p more there not h k s t l = elim (lt_or_same (n - 1) k l) [
  | inl a ↦ h k s t (omega (arith, a, more))
  | inr e ↦
      let u = subst (λ (j : ℕ). Stands settings j x) e there in
      let same : x ≡ s = stands_one settings k x s u t in
      subst (λ (z : Setting). IsNotBefore z.at (Some p)) same (behind not)
]

pub all_to_test : (settings : List Setting) (found : Option Place) → AreToTest settings found settings
all_to_test settings found = record {
  n = length settings;
  first = sym (take_all (length settings) settings (omega arith));
  rest = none_behind settings found;
}

-- the first ones of the settings

module _ (m : RootedModel) (u : UnitPath) (settings : List Setting) (n : ℕ) where
  -- what is wrong among them is wrong among all
  more : (p : Place) → BreaksIn m u (take n settings) p → BreaksIn m u settings p
  more p b = record {
    k = b.k;
    setting = b.setting;
    stands = stands_take settings n b.k b.setting b.stands;
    breaks = record {
      wrong = elim b.breaks.wrong [
        | inl h ↦ inl h
        | inr w ↦ inr (record {
          j = w.j;
          before = w.before;
          first = w.first;
          has_first = stands_take settings n w.j w.first w.has_first;
          later = w.later;
          has_later = stands_take settings n b.k w.later w.has_later;
          same = w.same;
        })
      ];
      place = b.breaks.place;
    };
  }

  -- what is wrong among all is wrong among them, or stands behind them
  fewer : (p : Place) → (b : BreaksIn m u settings p) → b.k < n → BreaksIn m u (take n settings) p
  fewer p b l = record {
    k = b.k;
    setting = b.setting;
    stands = take_stands settings n b.k b.setting l b.stands;
    breaks = record {
      wrong = elim b.breaks.wrong [
        | inl h ↦ inl h
        | inr w ↦ inr (record {
          j = w.j;
          before = w.before;
          first = w.first;
          has_first = take_stands settings n w.j w.first (let e = w.before in omega (arith, l, e)) w.has_first;
          later = w.later;
          has_later = take_stands settings n b.k w.later l w.has_later;
          same = w.same;
        })
      ];
      place = b.breaks.place;
    };
  }

-- a unit whose settings were tested as far as needed

module _ (m : RootedModel) (u : UnitPath) (site : Site) (settings tested : List Setting) (found : Option Place)
    (set : set_at_of u ≡ Some site) (all : settings ≡ settings_at m site) (t : AreToTest settings found tested) where
  pub tested_to : (p : Place) → BreaksIn m u tested p → BreaksSettings m u p
  tested_to p b = record {
    site = site;
    set_at = set;
    breaks = subst (λ (xs : List Setting). BreaksIn m u xs p) all
        (more m u settings t.n p (subst (λ (xs : List Setting). BreaksIn m u xs p) t.first b));
  }

  pub tested_from : (p : Place) → BreaksSettings m u p → BreaksIn m u tested p ⊎ IsNotBefore p found
  tested_from p b = by (side t.n w.k)
    where
      w : BreaksIn m u settings p
      w =
          let f : Some site ≡ Some b.site = sym set ∙ b.set_at in
          let g : site ≡ b.site = cc in
          subst (λ (xs : List Setting). BreaksIn m u xs p) (ap (settings_at m) (sym g) ∙ sym all) b.breaks

      by : (t.n ≤ w.k) ⊎ (w.k < t.n) → BreaksIn m u tested p ⊎ IsNotBefore p found
      by (inl l) = inr (subst (λ (q : Place). IsNotBefore q found) (sym w.breaks.place) (t.rest w.k w.setting w.stands l))
      by (inr l) = inl (subst (λ (xs : List Setting). BreaksIn m u xs p) (sym t.first) (fewer m u settings t.n p w l))

module _ (m : RootedModel) (units : List UnitPath) (outlines : List Outline) where
  -- a unit was tested so
  pub test_next : (k : ℕ) (o : Outline) (u : UnitPath) (site : Site) (settings tested : List Setting) (f g r : Option Place)
      → Stands outlines k o → Stands units k u → set_at_of u ≡ Some site → settings ≡ settings_at m site
      → AreToTest settings f tested → IsEarliest (Until (AtItem outlines (BreaksNumber m units)) k) f
      → IsEarliest (BreaksIn m u tested) g → IsEarlierOf f g r
      → IsEarliest (Until (AtItem outlines (BreaksNumber m units)) (k + 1)) r
  test_next k o u site settings tested f g r s t set all a h i e =
      loop_beside outlines (BreaksNumber m units) k o f g r (BreaksIn m u tested) s h i e
      (λ p b. record { unit = u; stands = t; breaks = tested_to m u site settings tested f set all a p b })
      (λ p b. tested_from m u site settings tested f set all a p
      (subst (λ (v : UnitPath). BreaksSettings m v p) (stands_one units k b.unit u b.stands t) b.breaks))

  -- a unit has no settings
  pub skip_next : (k : ℕ) (o : Outline) (u : UnitPath) (f : Option Place) → Stands outlines k o → Stands units k u
      → ((p : Place) → BreaksSettings m u p → ⊥) → IsEarliest (Until (AtItem outlines (BreaksNumber m units)) k) f
      → IsEarliest (Until (AtItem outlines (BreaksNumber m units)) (k + 1)) f
  skip_next k o u f s t none h = loop_next outlines (BreaksNumber m units) k o f None f s h
      (nowhere (λ p b. none p (subst (λ (v : UnitPath). BreaksSettings m v p) (stands_one units k b.unit u b.stands t) b.breaks)))
      (kept_found f)

-- what is kept of declarations

module _ (m : RootedModel) (old new : WrongSearch) (site : Site) (tested : List Setting) (wrong : Option Place) (count : ℕ)
    (here : left_at new site ≡ Some count)
    (other : (q : ℕ × ℕ) → same_pair (site.body, site.place) q ≡ false → get same_pair new.left q ≡ get same_pair old.left q)
    (earlier : IsEarlierOf old.found wrong new.found) (before : NoneBeforeFrom tested count new.found)
    (t : AreToTest (settings_at m site) old.found tested) (known : KnowsLeft m old) where
  still : (settings : List Setting) (n : ℕ) → NoneBeforeFrom settings n old.found → NoneBeforeFrom settings n new.found
  still settings n h k s i l = behind_earlier old.found wrong new.found s.at (h k s i l) earlier

  at_site : NoneBeforeFrom (settings_at m site) count new.found
  at_site k s i l = by (side t.n k)
    where
      by : (t.n ≤ k) ⊎ (k < t.n) → IsNotBefore s.at new.found
      by (inl b) = still (settings_at m site) t.n t.rest k s i b
      by (inr b) = before k s (subst (λ (xs : List Setting). Stands xs k s) (sym t.first) (take_stands (settings_at m site) t.n k s b i)) l

  pub left_next : KnowsLeft m new
  left_next = record { each = λ s n h. by s n h (cases_eq s.body site.body) (cases_eq s.place site.place) }
    where
      apart : (s : Site) (n : ℕ) → left_at new s ≡ Some n → ((s.body ≡ site.body) × (s.place ≡ site.place) → ⊥)
          → NoneBeforeFrom (settings_at m s) n new.found
      apart s n h d = still (settings_at m s) n
          (known.each s n (sym (other (s.body, s.place) (pair_apart site.body site.place s.body s.place d)) ∙ h))

      by : (s : Site) (n : ℕ) → left_at new s ≡ Some n → (s.body ≡ site.body) ⊎ (s.body ≡ site.body → ⊥)
          → (s.place ≡ site.place) ⊎ (s.place ≡ site.place → ⊥) → NoneBeforeFrom (settings_at m s) n new.found
      by s n h (inl e) (inl f) =
          let one : s ≡ site = ap (λ (b : ℕ). record { body = b; place = s.place }) e ∙ ap (λ (p : ℕ). record { body = site.body; place = p }) f in
          let same : Some n ≡ Some count = sym h ∙ (ap (left_at new) one ∙ here) in
          let number : n ≡ count = cc in
          subst (λ (z : Site). NoneBeforeFrom (settings_at m z) n new.found) (sym one)
          (subst (λ (j : ℕ). NoneBeforeFrom (settings_at m site) j new.found) (sym number) at_site)
      by s n h (inl e) (inr d) = apart s n h (λ q. d q.1)
      by s n h (inr d) f = apart s n h (λ q. d q.0)
