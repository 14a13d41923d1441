-- Whether two things are one can be told.
use Rattle.std.proofs.Common.{◌≡◌, inl, inr, ⊎_elim, ℕ, List, [], ◌∷◌, Option, Some, None, refl, ap}
use Rattle.std.proofs.lemmas.Bool.{cases_eq}
use Rattle.ar_meaning.specs.FoundInside.{AreTold}
use Rattle.class_table.specs.Members.{Site}
use Rattle.hierarchy.specs.Units.{UnitLevel, Thing}

told_option : {A : Type 0} → AreTold A → AreTold (Option A)
told_option t None None = inl refl
told_option t None (Some y) = inr (λ e. cc)
told_option t (Some x) None = inr (λ e. cc)
told_option t (Some x) (Some y) = ⊎_elim (λ e. inl (ap Some e)) (λ n. inr (λ e. let h : x ≡ y = cc in n h)) (t x y)

told_list : {A : Type 0} → AreTold A → AreTold (List A)
told_list t [] [] = inl refl
told_list t [] (y ∷ ys) = inr (λ e. cc)
told_list t (x ∷ xs) [] = inr (λ e. cc)
told_list t (x ∷ xs) (y ∷ ys) =
    ⊎_elim (λ e. ⊎_elim (λ h. inl (λ j. e j ∷ h j)) (λ n. inr (λ h. let k : xs ≡ ys = cc in n k)) (told_list t xs ys))
    (λ n. inr (λ h. let k : x ≡ y = cc in n k)) (t x y)

told_number : AreTold ℕ
told_number n m = cases_eq n m

told_site : AreTold Site
told_site s t =
    ⊎_elim (λ e. ⊎_elim (λ h. inl (λ j. record { body = e j; place = h j })) (λ n. inr (λ h. n (ap (λ (z : Site). z.place) h)))
    (told_number s.place t.place)) (λ n. inr (λ h. n (ap (λ (z : Site). z.body) h))) (told_number s.body t.body)

told_level : AreTold UnitLevel
told_level l k =
    ⊎_elim
    (λ e. ⊎_elim
    (λ h. ⊎_elim (λ i. inl (λ j. record { name = e j; body = h j; set_at = i j }))
    (λ n. inr (λ q. n (ap (λ (z : UnitLevel). z.set_at) q))) (told_option told_site l.set_at k.set_at))
    (λ n. inr (λ q. n (ap (λ (z : UnitLevel). z.body) q))) (told_number l.body k.body))
    (λ n. inr (λ q. n (ap (λ (z : UnitLevel). z.name) q))) (told_number l.name k.name)

pub told_thing : AreTold Thing
told_thing s t =
    ⊎_elim
    (λ e. ⊎_elim (λ h. inl (λ j. record { unit = e j; name = h j })) (λ n. inr (λ q. n (ap (λ (z : Thing). z.name) q)))
    (told_number s.name t.name)) (λ n. inr (λ q. n (ap (λ (z : Thing). z.unit) q))) (told_list told_level s.unit t.unit)
