-- The assignments of instructions, one after the other.
use Rattle.std.proofs.Common.{◌≡◌, ℕ, ◌+◌, ◌<◌, List, [], ◌∷◌, ◌++◌, take, length, get_or, sym, ◌∙◌, ap, subst, append-nil}
use Rattle.std.specs.List.{flat_map}
use Rattle.std.proofs.lemmas.List.{take_more}
use Rattle.std.proofs.lemmas.Grind.{flat_map-append}
use Rattle.ar_base.specs.Lists.{Along}
use Rattle.ar_base.specs.Lists as l
use Rattle.ar_base.proofs.Items.{along_append}
use Rattle.ar_meaning.specs.Image.{Assign_renames}
use Rattle.gts_core.specs.Bound.{assigns_of_act, places_of_act, places_in, AreAssigns}
use Rattle.gts_core.specs.View.{assign_of}
use Rattle.gts_core.specs.declared.bound.Act.{Act}
use Rattle.gts_core.specs.declared.system.Assign.{Assign}
use Rattle.sync_expand.proofs.WaysLemmas.{map_join}

pub assigns_start : (xs : List Assign) → xs ≡ [] → AreAssigns [] xs × (places_in xs ≡ [])
assigns_start xs e = (subst (λ z. AreAssigns [] z) (sym e) l.none, ap places_in e)

pub assigns_next : (acts : List Act) (n : ℕ) (act : Act) (old added new : List Assign) → n < length acts
    → act ≡ get_or acts n act → AreAssigns (flat_map assigns_of_act (take n acts)) old
    → places_in old ≡ flat_map places_of_act (take n acts) → AreAssigns (assigns_of_act act) added
    → places_in added ≡ places_of_act act → new ≡ old ++ added
    → AreAssigns (flat_map assigns_of_act (take (n + 1) acts)) new
    × (places_in new ≡ flat_map places_of_act (take (n + 1) acts))
assigns_next acts n act old added new h e a p b q j =
    let t : take (n + 1) acts ≡ take n acts ++ act ∷ [] =
    take_more acts n act h ∙ ap (λ z. take n acts ++ z ∷ []) (sym e) in
    let f : flat_map assigns_of_act (take (n + 1) acts) ≡ flat_map assigns_of_act (take n acts) ++ assigns_of_act act =
    ap (flat_map assigns_of_act) t ∙ (flat_map-append assigns_of_act (take n acts) (act ∷ [])
    ∙ ap (λ z. flat_map assigns_of_act (take n acts) ++ z) (append-nil (assigns_of_act act))) in
    let g : flat_map places_of_act (take (n + 1) acts) ≡ flat_map places_of_act (take n acts) ++ places_of_act act =
    ap (flat_map places_of_act) t ∙ (flat_map-append places_of_act (take n acts) (act ∷ []) ∙ ap (λ z. flat_map places_of_act (take n acts) ++ z) (append-nil (places_of_act act))) in (
      subst (λ z. AreAssigns (flat_map assigns_of_act (take (n + 1) acts)) z) (sym j)
          (subst (λ z. AreAssigns z (old ++ added)) (sym f)
          (subst (λ z. Along (Assign_renames (λ (x y : ℕ). x ≡ y))
          (flat_map assigns_of_act (take n acts) ++ assigns_of_act act) z) (sym (map_join assign_of old added))
          (along_append a b))),
      ap places_in j ∙ (map_join (λ (x : Assign). x.at) old added
          ∙ (ap (λ z. z ++ places_in added) p ∙ (ap (λ z. flat_map places_of_act (take n acts) ++ z) q ∙ sym g))),
    )
