-- Ways that are put into the rows of their variables.
use Rattle.std.proofs.Common.{◌≡◌, ◌<◌, ◌≤◌, ℕ, ◌+◌, inl, inr, Bool, true, false, not, ◌&&◌, cond, nat_eq, List, [], ◌∷◌, ◌++◌, take, take_all, length, get_or, set, Vec, Global, refl, sym, ap, ◌∙◌, subst, arith}
use Rattle.std.proofs.lemmas.Bool.Decides.{nat_tests}
use Rattle.std.proofs.lemmas.List.{append-nil, take_more, length_push, length-set}
use Rattle.std.proofs.lemmas.List.Elements.{filter-append}
use Rattle.std.proofs.lemmas.Bool.{cases_eq, eq-eqb}
use Rattle.ar_base.specs.Lists.{Stands}
use Rattle.ar_base.proofs.Standing.{stands_none, stands_split, only_item, stands_get}
use Rattle.mode_search.specs.declared.kept.KeptWay.{KeptWay}
use Rattle.mode_search.proofs.Reading.{stands_set_other, stands_set_same}
use Rattle.mode_search.specs.Rows.{is_of, variable_ways, HaveVariablesBelow, AreVariableRows, PutsKeptWay}

other : (m n : ℕ) → (n ≡ m → ⊥) → nat_eq m n ≡ false
other m n d = grind (arith, nat_tests)

-- the ways with one more
more : (n : ℕ) (kept : List KeptWay) (way : KeptWay)
    → variable_ways n (kept ++ way ∷ []) ≡ variable_ways n kept ++ cond (is_of n way) (way ∷ []) []
more n kept way = filter-append (is_of n) kept (way ∷ [])

not_more : (n : ℕ) (kept : List KeptWay) (way : KeptWay) → is_of n way ≡ false
    → variable_ways n (kept ++ way ∷ []) ≡ variable_ways n kept
not_more n kept way e = more n kept way ∙ ap (λ (b : Bool). variable_ways n kept ++ cond b (way ∷ []) []) e
    ∙ append-nil (variable_ways n kept)

one_more : (n : ℕ) (kept : List KeptWay) (way : KeptWay) → is_of n way ≡ true
    → variable_ways n (kept ++ way ∷ []) ≡ variable_ways n kept ++ way ∷ []
one_more n kept way e = more n kept way ∙ ap (λ (b : Bool). variable_ways n kept ++ cond b (way ∷ []) []) e

pub puts_hidden : (way : KeptWay) (rows : List (Vec KeptWay Global)) → way.visible ≡ false → PutsKeptWay way rows rows
puts_hidden way rows e = record {
  on = λ count kept a. record {
    long = a.long;
    row = λ n r s. a.row n r s
        ∙ sym (not_more n kept way (ap (λ (b : Bool). b && nat_eq way.mode.variable.n n) e));
  };
}

pub puts_visible : (way : KeptWay) (rows : List (Vec KeptWay Global)) (old new : Vec KeptWay Global)
    → way.visible ≡ true → Stands rows way.mode.variable.n old → new.items ≡ old.items ++ way ∷ []
    → PutsKeptWay way rows (set rows way.mode.variable.n new)
puts_visible way rows old new e st grown = record {
  on = λ count kept a. record {
    long = length-set rows way.mode.variable.n new ∙ a.long;
    row = λ n r s. elim (cases_eq n way.mode.variable.n) [
      | inl i ↦ (let is : r ≡ new = stands_set_same rows way.mode.variable.n new r (subst (λ (z : ℕ). Stands (set rows way.mode.variable.n new) z r) i s) in
          let old_is : old.items ≡ variable_ways n kept = a.row n old (subst (λ (z : ℕ). Stands rows z old) (sym i) st) in
          ap (λ (z : Vec KeptWay Global). z.items) is ∙ grown ∙ ap (λ (z : List KeptWay). z ++ way ∷ []) old_is
          ∙ sym (one_more n kept way (ap (λ (b : Bool). b && nat_eq way.mode.variable.n n) e
          ∙ eq-eqb way.mode.variable.n n (sym i))))
      | inr d ↦ a.row n r (stands_set_other rows way.mode.variable.n n new r d s)
          ∙ sym (not_more n kept way (ap (λ (b : Bool). b && nat_eq way.mode.variable.n n) e
          ∙ other way.mode.variable.n n d))
    ];
  };
}

pub rows_push : (count : ℕ) (rows : List (Vec KeptWay Global)) (r : Vec KeptWay Global)
    (new : List (Vec KeptWay Global)) → AreVariableRows count [] rows → r.items ≡ [] → new ≡ rows ++ r ∷ []
    → AreVariableRows (count + 1) [] new
rows_push count rows r new a e is =
    subst (λ (z : List (Vec KeptWay Global)). AreVariableRows (count + 1) [] z) (sym is) (record {
      long = length_push rows r ∙ ap (λ (k : ℕ). k + 1) a.long;
      row = λ n x s. elim (stands_split rows (r ∷ []) n x s) [
        | inl k ↦ a.row n x k
        | inr k ↦ ap (λ (z : Vec KeptWay Global). z.items) (sym (only_item r x (record { place = k.0; stands = k.2 }))) ∙ e
      ];
    })

-- one way more of a list
pub rows_more : (count : ℕ) (kept : List KeptWay) (i : ℕ) (d : KeptWay) (old new : List (Vec KeptWay Global))
    → i < length kept → AreVariableRows count (take i kept) old → PutsKeptWay (get_or kept i d) old new
    → AreVariableRows count (take (i + 1) kept) new
rows_more count kept i d old new h a p =
    subst (λ (z : List KeptWay). AreVariableRows count z new) (sym (take_more kept i d h)) (p.on count (take i kept) a)

pub rows_all : (count : ℕ) (kept : List KeptWay) (i : ℕ) (rows : List (Vec KeptWay Global)) → length kept ≤ i
    → AreVariableRows count (take i kept) rows → AreVariableRows count kept rows
rows_all count kept i rows h a = subst (λ (z : List KeptWay). AreVariableRows count z rows) (take_all i kept h) a

pub below_read : (count : ℕ) (kept : List KeptWay) (i : ℕ) (d : KeptWay) (rows : List (Vec KeptWay Global))
    → i < length kept → HaveVariablesBelow count kept → length rows ≡ count → (get_or kept i d).mode.variable.n < length rows
below_read count kept i d rows h b e = let l = b.below i (get_or kept i d) (stands_get kept i d h) in omega arith

pub rows_none : (rows : List (Vec KeptWay Global)) → rows ≡ [] → AreVariableRows 0 [] rows
rows_none rows e = subst (λ (z : List (Vec KeptWay Global)). AreVariableRows 0 [] z) (sym e)
    (record { long = refl; row = λ n r s. absurd (stands_none n r s) })

pub not_false : (b : Bool) → not b ≡ false → b ≡ true
not_false true e = refl
not_false false e = cc
