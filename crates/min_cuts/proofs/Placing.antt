-- The table of places.
use Rattle.std.proofs.Common.{◌≡◌, ◌⊎◌, ⊎_elim, ℕ, ◌<◌, ◌+◌, List, length, get_or, set, sym, ◌∙◌, subst, arith}
use Rattle.std.proofs.lemmas.List.{get_or-set_same, get_or-set_other, length-set}
use Rattle.std.proofs.lemmas.Option.{get_or_from_slice_get}
use Rattle.ar_base.specs.Lists.{Stands, AreDifferent}
use Rattle.ar_base.specs.NumbersInside.{EventId}
use Rattle.ar_base.proofs.Standing.{stands_within, stands_map, stands_get}
use Rattle.min_cuts.specs.Kept.{numbers_of_set}

set_here : (xs : List ℕ) (i v : ℕ) → i < length xs → Stands (set xs i v) i v
set_here xs i v l = subst (λ z. Stands (set xs i v) i z) (get_or-set_same xs i v 0 l)
    (stands_get (set xs i v) i 0 (subst (λ z. i < z) (sym (length-set xs i v)) l))

set_there : (xs : List ℕ) (i v j w : ℕ) → (i ≡ j → ⊥) → Stands xs j w → Stands (set xs i v) j w
set_there xs i v j w n s = subst (λ z. Stands (set xs i v) j z) (get_or-set_other xs i j v 0 (λ e. n (sym e))
    ∙ get_or_from_slice_get xs j w 0 s)
    (stands_get (set xs i v) j 0 (subst (λ z. j < z) (sym (length-set xs i v)) (stands_within xs j w s)))

-- what the table has after the first i events
pub record ArePlaced (order : List ℕ) (i : ℕ) (places : List ℕ) : Type 0 where
  pub inside : (k e : ℕ) → Stands order k e → e < length places
  pub placed : (k e : ℕ) → k < i → Stands order k e → Stands places e k

pub event_stands : (order : List EventId) (i : ℕ) (d : EventId) → i < length order
    → Stands (numbers_of_set order) i (get_or order i d).n
event_stands order i d l = stands_map (λ (x : EventId). x.n) order i (get_or order i d) (stands_get order i d l)

pub placed_more : (order : List ℕ) (i e : ℕ) (places : List ℕ) → Stands order i e → AreDifferent order
    → ArePlaced order i places → ArePlaced order (i + 1) (set places e i)
placed_more order i e places s d p = record {
  inside = λ k f t. subst (λ z. f < z) (sym (length-set places e i)) (p.inside k f t);
  placed = λ k f l t. ⊎_elim
      (λ (z : k < i). set_there places e i f k (λ q. apart k f z t q) (p.placed k f z t))
      (λ (z : k ≡ i). let q : e ≡ f = same k f z t in
      subst (λ y. Stands (set places e i) y k) q
      (subst (λ y. Stands (set places e i) e y) (sym z) (set_here places e i (p.inside i e s))))
      (which k i l);
}
  where
    which : (k i : ℕ) → k < i + 1 → (k < i) ⊎ (k ≡ i)
    which k i l = grind arith

    apart : (k f : ℕ) → k < i → Stands order k f → e ≡ f → ⊥
    apart k f l t q = let z : k ≡ i = d.one k i e (subst (λ y. Stands order k y) (sym q) t) s in omega (arith, z, l)

    same : (k f : ℕ) → k ≡ i → Stands order k f → e ≡ f
    same k f z t = one (subst (λ y. Stands order y f) z t)
      where
        one : Stands order i f → e ≡ f
        one u = sym (get_or_from_slice_get order i e 0 s) ∙ get_or_from_slice_get order i f 0 u
