-- What sound instructions assign.
use Rattle.std.proofs.Common.{◌≡◌, ℕ, Bool, true, false, List, [], ◌∷◌, ◌++◌, inl, inr, refl, ◌∙◌, subst}
use Rattle.std.specs.List.{flat_map}
use Rattle.ar_base.specs.Lists.{Stands, IsOneOf}
use Rattle.ar_base.proofs.Standing.{one_none, one_cases, one_split, one_first, one_rest}
use Rattle.ar_meaning.specs.Systems as s
use Rattle.gts_core.specs.View.{numbered}
use Rattle.gts_core.specs.Bound.{NumberedConditions, assigns_under}
use Rattle.gts_core.specs.declared.bound.Act.{Act, out-Act}
use Rattle.gts_core.specs.declared.bound.Act.TheOpen as act
use Rattle.gts_core.specs.declared.bound.Act.TheOpen.{Act-F}
use Rattle.gts_core.specs.declared.system.GtsParts.{GtsParts}
use Rattle.source_meaning.specs.SoundBound.{IsSoundAct, SetsSort}
use Rattle.source_meaning.specs.SoundBound as sound
use Rattle.source_meaning.proofs.BoundInstructions.{under, each_under}

-- an item of joined lists is one of one of them
pub joined_one : {A B : Type 0} (f : A → List B) (xs : List A) (b : B) → IsOneOf (flat_map f xs) b
    → (x : A) × IsOneOf xs x × IsOneOf (f x) b
joined_one f [] b i = absurd (one_none b i)
joined_one f (x ∷ xs) b i = elim (one_split (f x) (flat_map f xs) b i) [
  | inl j ↦ (x, one_first x xs, j)
  | inr j ↦ let k = joined_one f xs b j in (k.0, one_rest x xs k.0 k.1, k.2)
]

module _ (p : GtsParts) (to_state : Bool) where
  sets_sort : {x : Act-F Act} → IsSoundAct p to_state x → (b : Act) → out-Act b ≡ x → (ds : NumberedConditions)
      (q : s.Assign ℕ) → IsOneOf (assigns_under b ds) q → SetsSort p to_state q
  sets_sort sound.skip b e ds q i = absurd (one_none q (subst (λ z. IsOneOf z q) (under b act.Skip e ds) i))
  sets_sort (sound.set {x = x} {e = f} {at = at} v k is_sort t) b e ds q i =
      let a : s.Assign ℕ = record { target = x.n; conditions = ds; value = numbered f } in
      let only : List (s.Assign ℕ) = [] in
      elim (one_cases a only q (subst (λ z. IsOneOf z q) (under b (act.Set x f at) e ds) i)) [
        | inl same ↦ record {
          variable = v;
          stands = subst (λ (z : s.Assign ℕ). Stands p.variables.items z.target v) same k;
          sort = is_sort;
        }
        | inr none ↦ absurd (one_none q none)
      ]
  sets_sort (sound.conditional {test = t} {first = c} {second = d} k h j) b e ds q i =
      elim (one_split (assigns_under c.value (ds ++ (numbered t, true) ∷ []))
      (assigns_under d.value (ds ++ (numbered t, false) ∷ [])) q
      (subst (λ z. IsOneOf z q) (under b (act.If t c d) e ds) i)) [
        | inl o ↦ sets_sort h c.value refl (ds ++ (numbered t, true) ∷ []) q o
        | inr o ↦ sets_sort j d.value refl (ds ++ (numbered t, false) ∷ []) q o
      ]
  sets_sort (sound.all {acts = acts} h) b e ds q i =
      let one = joined_one (λ (c : Act). assigns_under c ds) acts.items q
      (subst (λ z. IsOneOf z q) (under b (act.All acts) e ds ∙ each_under acts.items ds) i) in
      sets_sort (h one.0 one.1) one.0 refl ds q one.2

  pub sound_sets : (a : Act) (q : s.Assign ℕ) → IsSoundAct p to_state (out-Act a) → IsOneOf (assigns_under a []) q
      → SetsSort p to_state q
  sound_sets a q h i = sets_sort h a refl [] q i
