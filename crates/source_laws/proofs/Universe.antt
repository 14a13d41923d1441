-- All names in all units of some depth, by names and bodies, and those that are not being followed.
use Rattle.std.proofs.Common.{◌≡◌, ℕ, zero, suc, ◌≤◌, ◌<◌, Bool, true, false, not, ◌==◌, ◌&&◌, ◌||◌, List, [], ◌∷◌, map, length, None, refl, sym, ◌∙◌, ap, arith}
use Rattle.std.specs.List.{flat_map}
use Rattle.ar_base.specs.Lists.{IsOneOf}
use Rattle.ar_base.proofs.Standing.{one_first, one_rest, stands_map}
use Rattle.ar_base.proofs.Comparing.{itself}
use Rattle.hierarchy.specs.Models.{RootedModel}
use Rattle.hierarchy.specs.Units.{UnitLevel, UnitPath, Thing, same_unit, same_thing, is_among}
use Rattle.hierarchy.specs.Walks.{thing}
use Rattle.hierarchy.proofs.Things.{flat_one}
use Rattle.hierarchy.proofs.SameUnits.{unit_itself}
use Rattle.source_laws.proofs.UnitsPassing.{passing, fewer}
use Rattle.source_laws.proofs.Made.{all_names, all_bodies, HasKeys}

-- a level by its name and body alone
abbrev pub level : ℕ → ℕ → UnitLevel
level x b = record { name = x; body = b; set_at = None }

abbrev pub plain : UnitPath → UnitPath
plain [] = []
plain (l ∷ u) = level l.name l.body ∷ plain u

-- Tests see names and bodies alone

unit_plain : (v u : UnitPath) → same_unit v (plain u) ≡ same_unit v u
unit_plain [] [] = refl
unit_plain [] (l ∷ u) = refl
unit_plain (k ∷ v) [] = refl
unit_plain (k ∷ v) (l ∷ u) = ap (λ (z : Bool). (k.name == l.name) && ((k.body == l.body) && z)) (unit_plain v u)

among_plain : (f : List Thing) (u : UnitPath) (x : ℕ) → is_among f (thing (plain u) x) ≡ is_among f (thing u x)
among_plain [] u x = refl
among_plain (s ∷ f) u x =
    ap (λ (z : Bool). ((s.name == x) && z) || is_among f (thing (plain u) x)) (unit_plain s.unit u)
    ∙ ap (λ (z : Bool). ((s.name == x) && same_unit s.unit u) || z) (among_plain f u x)

among_first : (f : List Thing) (u : UnitPath) (x : ℕ) → is_among (thing u x ∷ f) (thing u x) ≡ true
among_first f u x =
    ap (λ (z : Bool). (z && same_unit u u) || is_among f (thing u x)) (itself x)
    ∙ ap (λ (z : Bool). z || is_among f (thing u x)) (unit_itself u)

-- the name in the unit is not being followed
abbrev pub is_new : List Thing → Thing → Bool
is_new f t = not (is_among f t)

new_less : (s : Thing) (f : List Thing) (t : Thing) → is_new (s ∷ f) t ≡ true → is_new f t ≡ true
new_less s f t h = go (same_thing s t) refl
  where
    go : (b : Bool) → same_thing s t ≡ b → is_new f t ≡ true
    go true e = let k : is_new (s ∷ f) t ≡ false = ap (λ (z : Bool). not (z || is_among f t)) e in cc
    go false e = let k : is_new (s ∷ f) t ≡ is_new f t = ap (λ (z : Bool). not (z || is_among f t)) e in sym k ∙ h

module _ (m : RootedModel) (base : UnitPath) where
  -- units of these levels, of this depth at most
  abbrev levels : List UnitLevel
  levels = flat_map (λ (x : ℕ). map (λ (b : ℕ). level x b) (all_bodies m base)) (all_names m base)

  abbrev units : ℕ → List UnitPath
  units zero = [] ∷ []
  units (suc n) = [] ∷ flat_map (λ (u : UnitPath). map (λ (l : UnitLevel). l ∷ u) levels) (units n)

  abbrev things : ℕ → List Thing
  things n = flat_map (λ (u : UnitPath). map (λ (x : ℕ). thing u x) (all_names m base)) (units n)

  level_in : (l : UnitLevel) → IsOneOf (all_names m base) l.name → IsOneOf (all_bodies m base) l.body
      → IsOneOf levels (level l.name l.body)
  level_in l x b = flat_one (λ (y : ℕ). map (λ (c : ℕ). level y c) (all_bodies m base)) (all_names m base) l.name
      (level l.name l.body) x
      (record {
        place = b.place;
        stands = stands_map (λ (c : ℕ). level l.name c) (all_bodies m base) b.place l.body
            b.stands;
      })

  unit_in : (n : ℕ) (u : UnitPath) → length u ≤ n → HasKeys m base u → IsOneOf (units n) (plain u)
  unit_in zero [] h k = one_first [] []
  unit_in (suc n) [] h k = one_first [] _
  unit_in zero (l ∷ u) h k = absurd (omega (arith, h))
  unit_in (suc n) (l ∷ u) h k =
      let here = k.each l (one_first l u) in
      let o = level_in l here.0 here.1 in
      let r = unit_in n u (omega (arith, h)) (record { each = λ j i. k.each j (one_rest l u j i) }) in
      one_rest [] _ (plain (l ∷ u))
      (flat_one (λ (v : UnitPath). map (λ (j : UnitLevel). j ∷ v) levels) (units n) (plain u)
      (plain (l ∷ u)) r
      (record {
        place = o.place;
        stands = stands_map (λ (j : UnitLevel). j ∷ plain u) levels o.place (level l.name l.body)
            o.stands;
      }))

  thing_in : (n : ℕ) (u : UnitPath) (x : ℕ) → length u ≤ n → HasKeys m base u → IsOneOf (all_names m base) x
      → IsOneOf (things n) (thing (plain u) x)
  thing_in n u x h k o = flat_one (λ (v : UnitPath). map (λ (y : ℕ). thing v y) (all_names m base)) (units n) (plain u)
      (thing (plain u) x) (unit_in n u h k)
      (record {
        place = o.place;
        stands = stands_map (λ (y : ℕ). thing (plain u) y) (all_names m base) o.place x
            o.stands;
      })

  -- how many names in units of this depth at most are not being followed
  abbrev pub left : ℕ → List Thing → ℕ
  left n f = passing (is_new f) (things n)

  -- following one more leaves fewer
  pub left_fewer : (n : ℕ) (f : List Thing) (u : UnitPath) (x : ℕ) → length u ≤ n → HasKeys m base u
      → IsOneOf (all_names m base) x → is_among f (thing u x) ≡ false → left n (thing u x ∷ f) < left n f
  left_fewer n f u x h k o e =
      let i = thing_in n u x h k o in
      fewer (is_new (thing u x ∷ f)) (is_new f) (new_less (thing u x) f) (things n) i.place (thing (plain u) x) i.stands
      (ap not (among_plain (thing u x ∷ f) u x ∙ among_first f u x)) (ap not (among_plain f u x ∙ e))
