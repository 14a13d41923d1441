-- The way up from a unit, and what is set on it.
use Rattle.std.proofs.Common.{◌≡◌, ◌+◌, ℕ, length, List, [], ◌∷◌, Option, Some, None, refl, sym, ◌∙◌, ap, subst, arith}
use Rattle.std.specs.Option.{option_or}
use Rattle.ar_base.specs.Lists.{Stands, Along}
use Rattle.ar_base.proofs.Standing.{along_on, stands_one}
use Rattle.ar_base.specs.Numbers.{BodyId}
use Rattle.ar_base.specs.NumbersInside.{UnitId}
use Rattle.class_table.specs.Members.{Site}
use Rattle.class_table.specs.TablesInside.{site_of}
use Rattle.hierarchy.specs.Models.{RootedModel}
use Rattle.hierarchy.specs.Units.{UnitLevel, UnitPath}
use Rattle.hierarchy.specs.Settings.{TargetWord, Named, settings_at, set_by, outermost}
use Rattle.hierarchy.specs.Settings as s
use Rattle.hierarchy.specs.Tie.{IsOwner, of_main, of_unit, IsSetAt, IsOutline}
use Rattle.hierarchy.specs.Tie.IsSetAt.{none as not_set, some as is_set}
use Rattle.hierarchy.specs.declared.outline.Outline.{Outline}
use Rattle.hierarchy.specs.declared.tree.Attribute.{Attribute}
use Rattle.instantiate.specs.SettingPlaces.{SetsAt}
use Rattle.instantiate.specs.InForce.{AreAttribute, none, some}

-- the declaration whose settings hold in a unit, as the code keeps it
pub set_none : (site : Option Site) (o : Option (BodyId × ℕ)) → IsSetAt site o → o ≡ None → site ≡ None
set_none site o not_set e = refl
set_none site o (is_set b p) e = cc

pub set_some : (site : Option Site) (o : Option (BodyId × ℕ)) (at : BodyId × ℕ) → IsSetAt site o
    → o ≡ Some at → site ≡ Some (site_of at)
set_some site o at not_set e = cc
set_some site o at (is_set {site = z} {at = a} b p) e =
    let same : a ≡ at = cc in
    let k : z ≡ site_of a = let body : z.body ≡ a.0.n = sym b in let place : z.place ≡ a.1 = sym p in ap (λ (n : ℕ). record { body = n; place = z.place }) body ∙ ap (λ (n : ℕ). record { body = a.0.n; place = n }) place in
    ap (λ (y : Site). Some y) (k ∙ ap site_of same)

-- the unit above
pub owner_none : (units : List UnitPath) (w : UnitPath) (o : Option UnitId) → IsOwner units w o → o ≡ None → w ≡ []
owner_none units w o of_main e = refl
owner_none units w o (of_unit t) e = cc

pub owner_some : (units : List UnitPath) (w : UnitPath) (o : Option UnitId) (id : UnitId) → IsOwner units w o
    → o ≡ Some id → (l : UnitLevel) × (above : UnitPath) × (w ≡ l ∷ above) × Stands units id.n above
owner_some units w o id of_main e = cc
owner_some units w o id (of_unit {l = l} {above = above} {id = k} t) e = let same : k ≡ id = cc in (l, above, refl, subst (λ (j : UnitId). Stands units j.n above) same t)

or_none : (a : Option s.Attribute) → option_or a None ≡ a
or_none None = refl
or_none (Some a) = refl

or_or : (a b c : Option s.Attribute) → option_or (option_or a b) c ≡ option_or a (option_or b c)
or_or None b c = refl
or_or (Some a) b c = refl

-- the way up from the unit u has come to this unit, so many levels up, with these words and this found
pub record IsOn (m : RootedModel) (units : List UnitPath) (u : UnitPath) (target : List TargetWord) (at level : ℕ)
    (words : List TargetWord) (found : Option Attribute) : Type 0 where
  pub unit : UnitPath
  pub levels : length unit + level ≡ length u
  pub stands : Stands units at unit
  pub so_far : Option s.Attribute
  pub is : AreAttribute units so_far found
  pub rest : outermost m u target ≡ option_or (outermost m unit words) so_far

module _ (m : RootedModel) (units : List UnitPath) (u : UnitPath) (target : List TargetWord) where
  pub on_start : (at : ℕ) → Stands units at u → IsOn m units u target at 0 target None
  on_start at t = record { unit = u; levels = omega arith; stands = t; so_far = None; is = none; rest = sym (or_none (outermost m u target)) }

  pub on_end : (at level : ℕ) (words : List TargetWord) (found : Option Attribute)
      (h : IsOn m units u target at level words found)
      → h.unit ≡ [] → AreAttribute units (outermost m u target) found
  on_end at level words found h e =
      subst (λ (a : Option s.Attribute). AreAttribute units a found)
      (sym (h.rest ∙ ap (λ (w : UnitPath). option_or (outermost m w words) h.so_far) e)) h.is

  module _ (at level : ℕ) (words : List TargetWord) (found : Option Attribute)
      (h : IsOn m units u target at level words found)
      (l : UnitLevel) (above : UnitPath) (split : h.unit ≡ l ∷ above) (owner : ℕ) (t : Stands units owner above) where
    higher : length above + (level + 1) ≡ length u
    higher = let k = h.levels in let e = ap length split in omega (arith, k, e)

    up : outermost m u target ≡ option_or (outermost m above (Named l.name ∷ words))
        (option_or (set_by m above l.set_at words) h.so_far)
    up = h.rest ∙ (ap (λ (w : UnitPath). option_or (outermost m w words) h.so_far) split
        ∙ or_or (outermost m above (Named l.name ∷ words)) (set_by m above l.set_at words) h.so_far)

    -- one level up, where its declaration sets the target, and where not
    pub on_set : (name : ℕ) (b : Attribute) → name ≡ l.name
        → AreAttribute units (set_by m above l.set_at words) (Some b)
        → IsOn m units u target owner (level + 1) (Named name ∷ words) (Some b)
    on_set name b e a = subst (λ (n : ℕ). IsOn m units u target owner (level + 1) (Named n ∷ words) (Some b)) (sym e)
        (go (set_by m above l.set_at words) refl a)
      where
        go : (o : Option s.Attribute) → set_by m above l.set_at words ≡ o → AreAttribute units o (Some b)
            → IsOn m units u target owner (level + 1) (Named l.name ∷ words) (Some b)
        go o i (some {a = x} k) = record {
          unit = above;
          levels = higher;
          stands = t;
          so_far = Some x;
          is = some k;
          rest = up ∙ ap (λ (y : Option s.Attribute). option_or (outermost m above (Named l.name ∷ words))
              (option_or y h.so_far)) i;
        }

    pub on_none : (name : ℕ) → name ≡ l.name → AreAttribute units (set_by m above l.set_at words) None
        → IsOn m units u target owner (level + 1) (Named name ∷ words) found
    on_none name e a = subst (λ (n : ℕ). IsOn m units u target owner (level + 1) (Named n ∷ words) found) (sym e)
        (go (set_by m above l.set_at words) refl a)
      where
        go : (o : Option s.Attribute) → set_by m above l.set_at words ≡ o → AreAttribute units o None
            → IsOn m units u target owner (level + 1) (Named l.name ∷ words) found
        go o i none = record {
          unit = above;
          levels = higher;
          stands = t;
          so_far = h.so_far;
          is = h.is;
          rest = up ∙ ap (λ (y : Option s.Attribute). option_or (outermost m above (Named l.name ∷ words))
              (option_or y h.so_far)) i;
        }

-- a setting that is found in the declaration of a unit
pub set_there : (m : RootedModel) (units : List UnitPath) (above : UnitPath) (target : List TargetWord)
    (site : Option Site) (o : Option (BodyId × ℕ)) (at : BodyId × ℕ) (k n : ℕ) (owner : UnitId)
    → IsSetAt site o → o ≡ Some at → n ≡ k → Stands units owner.n above
    → SetsAt above (site_of at) (settings_at m (site_of at)) target (Some k)
    → AreAttribute units (set_by m above site target)
    (Some (record { from = owner; source = record { body = at.0; member = at.1; setting = Some n } }))
set_there m units above target site o at k n owner i e f t (value, g) =
    let b : Attribute = record { from = owner; source = record { body = at.0; member = at.1; setting = Some n } } in
    subst (λ (z : Option Site). AreAttribute units (set_by m above z target) (Some b)) (sym (set_some site o at i e))
    (subst (λ (a : Option s.Attribute). AreAttribute units a (Some b)) (sym g)
    (some (record {
      unit = t;
      source = record { body = refl; member = refl; setting_is = ap (λ (j : ℕ). Some j) f };
    })))

module _ (m : RootedModel) (units : List UnitPath) (outlines : List Outline)
    (along : Along (IsOutline m units) units outlines) where
  -- the outline at the number of a unit is that unit's
  pub outline_of : (n : ℕ) (u : UnitPath) (o : Outline) → Stands units n u → Stands outlines n o → IsOutline m units u o
  outline_of n u o t r = let w = along_on units outlines along n u t in subst (IsOutline m units u) (stands_one outlines n w.0 o w.1 r) w.2
