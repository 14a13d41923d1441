-- Short forms, each once.
use Rattle.std.proofs.Common.{◌≡◌, ℕ, zero, suc, Bool, true, false, not, cond, ◌||◌, ◌&&◌, List, [], ◌∷◌, ◌++◌, filter, refl, sym, ap, ap₂, ◌∙◌}
use Rattle.std.specs.List.{AllByRecursion, list_any}
use Rattle.std.proofs.lemmas.List.Elements.{filter-append}
use Rattle.std.proofs.Math.Bool.{or-true}
use Rattle.zdd_nodes.proofs.Laws.{same-refl, not-or}
use Rattle.gate_modules.specs.Shortened.{ShortForm, same_form, once}

-- the form is none of these
abbrev pub is_new : List ShortForm → ShortForm → Bool
is_new xs b = not (list_any (λ a. same_form a b) xs)

form_refl : (a : ShortForm) → same_form a a ≡ true
form_refl a = ap₂ (λ p q. p && q) (same-refl a.units) (same-refl a.events)

filter_twice : (p q r : ShortForm → Bool) → ((a : ShortForm) → r a ≡ (q a && p a)) → (xs : List ShortForm)
    → filter p (filter q xs) ≡ filter r xs
filter_twice p q r h [] = refl
filter_twice p q r h (a ∷ xs) = step (filter_twice p q r h xs) (q a) refl (p a) refl
  where
    step : filter p (filter q xs) ≡ filter r xs → (b : Bool) → q a ≡ b → (d : Bool) → p a ≡ d
        → filter p (filter q (a ∷ xs)) ≡ filter r (a ∷ xs)
    step ih true e true k =
        ap (λ b. filter p (cond b (a ∷ filter q xs) (filter q xs))) e
        ∙ ap (λ b. cond b (a ∷ filter p (filter q xs)) (filter p (filter q xs))) k ∙ ap (λ z. a ∷ z) ih
        ∙ sym (ap (λ b. cond b (a ∷ filter r xs) (filter r xs)) (h a ∙ ap₂ (λ x y. x && y) e k))
    step ih true e false k =
        ap (λ b. filter p (cond b (a ∷ filter q xs) (filter q xs))) e
        ∙ ap (λ b. cond b (a ∷ filter p (filter q xs)) (filter p (filter q xs))) k ∙ ih
        ∙ sym (ap (λ b. cond b (a ∷ filter r xs) (filter r xs)) (h a ∙ ap₂ (λ x y. x && y) e k))
    step ih false e d k =
        ap (λ b. filter p (cond b (a ∷ filter q xs) (filter q xs))) e ∙ ih
        ∙ sym (ap (λ b. cond b (a ∷ filter r xs) (filter r xs)) (h a ∙ ap (λ x. x && p a) e))

pub filter_all_forms : (p : ShortForm → Bool) (xs : List ShortForm) → AllByRecursion (λ a. p a ≡ true) xs
    → filter p xs ≡ xs
filter_all_forms p [] h = refl
filter_all_forms p (a ∷ xs) h = ap (λ b. cond b (a ∷ filter p xs) (filter p xs)) h.0
    ∙ ap (λ z. a ∷ z) (filter_all_forms p xs h.1)

pub filter_no_forms : (p : ShortForm → Bool) (xs : List ShortForm) → AllByRecursion (λ a. p a ≡ false) xs
    → filter p xs ≡ []
filter_no_forms p [] h = refl
filter_no_forms p (a ∷ xs) h = ap (λ b. cond b (a ∷ filter p xs) (filter p xs)) h.0 ∙ filter_no_forms p xs h.1

forms_kept : (P : ShortForm → Type 0) (q : ShortForm → Bool) (xs : List ShortForm) → AllByRecursion P xs
    → AllByRecursion P (filter q xs)
forms_kept P q [] h = tt
forms_kept P q (a ∷ xs) h = elim (q a) as (λ b. AllByRecursion P (cond b (a ∷ filter q xs) (filter q xs)))
    [ true ↦ (h.0, forms_kept P q xs h.1) | false ↦ forms_kept P q xs h.1 ]

pub all_once : (P : ShortForm → Type 0) (xs : List ShortForm) → AllByRecursion P xs → AllByRecursion P (once xs)
all_once P [] h = tt
all_once P (a ∷ xs) h = (h.0, forms_kept P (λ b. not (same_form a b)) (once xs) (all_once P xs h.1))

-- forms in front: those behind that are new stay
pub once_append : (xs ys : List ShortForm) → once (xs ++ ys) ≡ once xs ++ filter (is_new xs) (once ys)
once_append [] ys = sym (filter_all_forms (is_new []) (once ys) (every (once ys)))
  where
    every : (zs : List ShortForm) → AllByRecursion (λ b. is_new [] b ≡ true) zs
    every [] = tt
    every (z ∷ zs) = (refl, every zs)
once_append (a ∷ xs) ys =
    ap (λ z. a ∷ filter (λ b. not (same_form a b)) z) (once_append xs ys)
    ∙ ap (λ z. a ∷ z) (filter-append (λ b. not (same_form a b)) (once xs) (filter (is_new xs) (once ys))
    ∙ ap (λ z. filter (λ b. not (same_form a b)) (once xs) ++ z)
    (filter_twice (λ b. not (same_form a b)) (is_new xs) (is_new (a ∷ xs))
    (λ b. not-or (same_form a b) (list_any (λ c. same_form c b) xs)) (once ys)))

-- forms that differ
pub once_apart : (xs ys : List ShortForm) → AllByRecursion (λ b. is_new xs b ≡ true) ys
    → once (xs ++ ys) ≡ once xs ++ once ys
once_apart xs ys h = once_append xs ys
    ∙ ap (λ z. once xs ++ z) (filter_all_forms (is_new xs) (once ys) (all_once (λ b. is_new xs b ≡ true) ys h))

each_known : (xs : List ShortForm) → AllByRecursion (λ b. is_new xs b ≡ false) xs
each_known xs = known xs xs (λ b h. h)
  where
    any_here : (a : ShortForm) (ys : List ShortForm) → list_any (λ c. same_form c a) (a ∷ ys) ≡ true
    any_here a ys = ap (λ z. z || list_any (λ c. same_form c a) ys) (form_refl a)

    known : (xs ys : List ShortForm) → ((b : ShortForm) → list_any (λ c. same_form c b) ys ≡ true
        → list_any (λ c. same_form c b) xs ≡ true) → AllByRecursion (λ b. is_new xs b ≡ false) ys
    known xs [] h = tt
    known xs (a ∷ ys) h = (
      ap not (h a (any_here a ys)),
      known xs ys
          (λ b k. h b (ap (λ z. same_form a b || z) k ∙ or-true (same_form a b))),
    )

-- the list k times and then some more
abbrev pub repeated : ℕ → List ShortForm → List ShortForm → List ShortForm
repeated zero xs ys = ys
repeated (suc k) xs ys = xs ++ repeated k xs ys

new_of_repeated : (k : ℕ) (xs ys : List ShortForm) → AllByRecursion (λ b. is_new xs b ≡ true) ys
    → filter (is_new xs) (once (repeated k xs ys)) ≡ once ys
new_of_repeated zero xs ys h = filter_all_forms (is_new xs) (once ys) (all_once (λ b. is_new xs b ≡ true) ys h)
new_of_repeated (suc k) xs ys h =
    ap (filter (is_new xs)) (once_append xs (repeated k xs ys))
    ∙ filter-append (is_new xs) (once xs) (filter (is_new xs) (once (repeated k xs ys)))
    ∙ ap₂ (λ a b. a ++ b) (filter_no_forms (is_new xs) (once xs)
    (all_once (λ b. is_new xs b ≡ false) xs (each_known xs)))
    (filter_twice (is_new xs) (is_new xs) (is_new xs) (λ b. idem (is_new xs b)) (once (repeated k xs ys))
    ∙ new_of_repeated k xs ys h)
  where
    idem : (a : Bool) → a ≡ (a && a)
    idem true = refl
    idem false = refl

pub once_repeated : (k : ℕ) (xs ys : List ShortForm) → AllByRecursion (λ b. is_new xs b ≡ true) ys
    → once (repeated (suc k) xs ys) ≡ once xs ++ once ys
once_repeated k xs ys h = once_append xs (repeated k xs ys) ∙ ap (λ z. once xs ++ z) (new_of_repeated k xs ys h)
