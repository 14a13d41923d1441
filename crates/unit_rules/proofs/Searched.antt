-- Settings one after the other, and unit by unit.
use Rattle.std.proofs.Common.{◌≡◌, ◌⊎◌, inl, inr, ℕ, List, [], ◌∷◌, Option, Some, None, refl, sym, ◌∙◌, ap, subst}
use Rattle.ar_base.specs.Lists.{Stands, IsOneOf, Along}
use Rattle.ar_base.specs.Numbers.{BodyId}
use Rattle.ar_base.specs.declared.places.Place.{Place}
use Rattle.ar_base.proofs.Standing.{stands_one, stands_none, one_here, along_on}
use Rattle.ar_base.proofs.Comparing.{not_before}
use Rattle.ar_syntax.specs.declared.members.Setting.{Setting}
use Rattle.class_table.specs.Earliest.{IsEarliest, nowhere, there}
use Rattle.class_table.specs.Members.{Site, owned_at}
use Rattle.class_table.specs.TablesInside.{site_of}
use Rattle.class_table.proofs.Looping.{AtItem}
use Rattle.hierarchy.specs.Models.{RootedModel}
use Rattle.hierarchy.specs.Units.{UnitPath, set_at_of}
use Rattle.hierarchy.specs.Settings.{target_of, settings_at, settings_of}
use Rattle.hierarchy.specs.Tie.{IsOutline, IsSetAt, none, some}
use Rattle.hierarchy.specs.declared.outline.Outline.{Outline}
use Rattle.unit_rules.specs.Rules.{IsSettingTarget, HasSetting, BreaksSetting, no_target, twice}
use Rattle.unit_rules.specs.Wrong.{IsSetBefore, BreaksAt, BreaksIn, BreaksSettings}

-- One setting

module _ {m : RootedModel} {u : UnitPath} {settings : List Setting} {k : ℕ} {s : Setting} where
  pub wrong_here : (IsSettingTarget m u (target_of s) → ⊥) ⊎ IsSetBefore settings k
      → IsEarliest (BreaksAt m u settings k s) (Some s.at)
  wrong_here h = there (record { wrong = h; place = refl }) (λ q e b. not_before q s.at e b.place)

  pub right_here : IsSettingTarget m u (target_of s) → (IsSetBefore settings k → ⊥)
      → IsEarliest (BreaksAt m u settings k s) None
  right_here t n = nowhere (λ p b. elim b.wrong [ inl h ↦ h t | inr h ↦ n h ])

-- Settings of a unit

module _ (m : RootedModel) (u : UnitPath) (settings : List Setting) where
  pub setting_to : (k : ℕ) (s : Setting) (p : Place) → Stands settings k s → BreaksAt m u settings k s p
      → BreaksIn m u settings p
  setting_to k s p t b = record { k = k; setting = s; stands = t; breaks = b }

  pub setting_back : (p : Place) → BreaksIn m u settings p → (k : ℕ) × AtItem settings (BreaksAt m u settings) k p
  setting_back p b = (b.k, record { item = b.setting; stands = b.stands; has = b.breaks })

module _ (m : RootedModel) (u : UnitPath) where
  -- a unit without settings
  pub no_declaration : set_at_of u ≡ None → (p : Place) → BreaksSettings m u p → ⊥
  no_declaration e p b = (let f : None ≡ Some b.site = sym e ∙ b.set_at in absurd cc)

  pub no_settings : (site : Site) → set_at_of u ≡ Some site → owned_at m.declared site ≡ None → (p : Place)
      → BreaksSettings m u p → ⊥
  no_settings site e n p b =
      let f : Some site ≡ Some b.site = sym e ∙ b.set_at in
      let g : site ≡ b.site = cc in
      let h : settings_at m b.site ≡ [] = ap (settings_at m) (sym g) ∙ ap settings_of n in
      stands_none b.breaks.k b.breaks.setting
      (subst (λ (xs : List Setting). Stands xs b.breaks.k b.breaks.setting) h b.breaks.stands)

-- the declaration whose settings hold in a unit
pub set_nowhere : (u : UnitPath) (at : Option (BodyId × ℕ)) → IsSetAt (set_at_of u) at → at ≡ None → set_at_of u ≡ None
set_nowhere u at s e = go (set_at_of u) at s e
  where
    go : (o : Option Site) (a : Option (BodyId × ℕ)) → IsSetAt o a → a ≡ None → o ≡ None
    go o a none e = refl
    go o a (some b p) e = cc

pub set_there : (u : UnitPath) (at : Option (BodyId × ℕ)) (site : BodyId × ℕ) → IsSetAt (set_at_of u) at
    → at ≡ Some site → set_at_of u ≡ Some (site_of site)
set_there u at site s e = go (set_at_of u) at s e
  where
    go : (o : Option Site) (a : Option (BodyId × ℕ)) → IsSetAt o a → a ≡ Some site → o ≡ Some (site_of site)
    go o a none e = cc
    go o a (some {site = t} {at = b} p q) e =
        let f : b ≡ site = cc in
        let body : t.body ≡ site.0.n = sym p ∙ ap (λ (z : BodyId × ℕ). z.0.n) f in
        let place : t.place ≡ site.1 = sym q ∙ ap (λ (z : BodyId × ℕ). z.1) f in
        rw (body, place) refl

-- Units

-- the unit of number k has a wrong setting here
pub record BreaksNumber (m : RootedModel) (units : List UnitPath) (k : ℕ) (o : Outline) (p : Place) : Type 0 where
  pub unit : UnitPath
  pub stands : Stands units k unit
  pub breaks : BreaksSettings m unit p

module _ (m : RootedModel) (units : List UnitPath) (outlines : List Outline)
    (along : Along (IsOutline m units) units outlines) where
  setting_of : (u : UnitPath) → IsOneOf units u → (site : Site) → set_at_of u ≡ Some site → (k : ℕ) (s : Setting)
      → Stands (settings_at m site) k s → HasSetting m units u k s
  setting_of [] o site e k s t = cc
  setting_of (l ∷ above) o site e k s t =
      record { level = l; above = above; split = refl; is_unit = o; site = site; set_at = e; stands = t }

  pub number_to : (k : ℕ) (o : Outline) (p : Place) → Stands outlines k o → BreaksNumber m units k o p
      → BreaksSetting m units p
  number_to k o p z b = go b.breaks.breaks.breaks.wrong
    where
      one : IsOneOf units b.unit
      one = one_here units k b.unit b.stands

      setting : Setting
      setting = b.breaks.breaks.setting

      go : (IsSettingTarget m b.unit (target_of b.breaks.breaks.setting) → ⊥)
          ⊎ IsSetBefore (settings_at m b.breaks.site) b.breaks.breaks.k → BreaksSetting m units p
      go (inl n) = subst (BreaksSetting m units) (sym b.breaks.breaks.breaks.place)
          (no_target (setting_of b.unit one b.breaks.site b.breaks.set_at b.breaks.breaks.k b.breaks.breaks.setting
          b.breaks.breaks.stands) n)
      go (inr w) = subst (BreaksSetting m units)
          (ap (λ (s : Setting). s.at) (stands_one (settings_at m b.breaks.site) b.breaks.breaks.k w.later
          b.breaks.breaks.setting w.has_later b.breaks.breaks.stands) ∙ sym b.breaks.breaks.breaks.place)
          (twice (setting_of b.unit one b.breaks.site b.breaks.set_at w.j w.first w.has_first)
          (setting_of b.unit one b.breaks.site b.breaks.set_at b.breaks.breaks.k w.later w.has_later) w.before
          w.same)

  has_site : {u : UnitPath} {k : ℕ} {s : Setting} → (h : HasSetting m units u k s) → set_at_of u ≡ Some h.site
  has_site h = ap set_at_of h.split ∙ h.set_at

  at_number : (u : UnitPath) (p : Place) → IsOneOf units u → BreaksSettings m u p
      → (k : ℕ) × AtItem outlines (BreaksNumber m units) k p
  at_number u p o b =
      let w = along_on units outlines along o.place u o.stands in
      (o.place, record { item = w.0; stands = w.1; has = record { unit = u; stands = o.stands; breaks = b } })

  pub number_back : (p : Place) → BreaksSetting m units p → (k : ℕ) × AtItem outlines (BreaksNumber m units) k p
  number_back p (no_target {u = u} {k = k} {s = s} h n) =
      at_number u p h.is_unit (record {
        site = h.site;
        set_at = has_site h;
        breaks = record { k = k; setting = s; stands = h.stands; breaks = record { wrong = inl n; place = refl } };
      })
  number_back p (twice {u = u} {j = j} {k = k} {s = s} {t = t} h i l e) =
      let q : Some h.site ≡ Some i.site = sym (has_site h) ∙ has_site i in
      let r : h.site ≡ i.site = cc in
      let first : Stands (settings_at m i.site) j s = subst (λ (z : Site). Stands (settings_at m z) j s) r h.stands in
      at_number u p h.is_unit (record {
        site = i.site;
        set_at = has_site i;
        breaks = record {
          k = k;
          setting = t;
          stands = i.stands;
          breaks = record {
            wrong = inr (record {
              j = j;
              before = l;
              first = s;
              has_first = first;
              later = t;
              has_later = i.stands;
              same = e;
            });
            place = refl;
          };
        };
      })
