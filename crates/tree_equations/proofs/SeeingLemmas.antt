-- Terms of entries, one entry at a time.
use Rattle.std.proofs.Common.{◌≡◌, ℕ, ◌+◌, ◌<◌, Bool, true, false, if◌then◌else◌, List, [], ◌∷◌, ◌++◌, length, get_or, drop, Vec, Global, refl, sym, ap, ◌∙◌, append_assoc}
use Rattle.std.proofs.lemmas.List.{map-append}
use Rattle.ar_base.proofs.Items.{next_left}
use Rattle.domains.specs.Domains.{IsDomain, Holds, values_of}
use Rattle.domains.specs.Same.{is_same, has_value}
use Rattle.domains.specs.declared.Domain.{Domain}
use Rattle.domains.specs.declared.Value.{Value}
use Rattle.domains.proofs.Same.{same_is, has_in, in_has}
use Rattle.domains.proofs.Domains.{held, listed}
use Rattle.eq_core.specs.Gates.{Operand}
use Rattle.eq_core.specs.Views.{operand_of}
use Rattle.eq_core.specs.declared.joints.Operand as sign
use Rattle.eq_build.specs.Entries as e
use Rattle.eq_build.specs.Entries.{Group, with_terms, with_term}
use Rattle.eq_build.specs.Views.{entry_of, entries_in, operands_in, terms_in}
use Rattle.eq_build.specs.declared.entries.Entry.{Entry}
use Rattle.eq_build.proofs.EntriesTell.{is_so}
use Rattle.eq_build.specs.Steps.{others_with, outside_terms, given_terms}

abbrev Terms : Type 0
Terms = Vec sign.Operand Global

differs : (v w : Value) → (v ≡ w → ⊥) → is_same v w ≡ false
differs v w d = by (is_same v w) refl
  where
    by : (b : Bool) → is_same v w ≡ b → b ≡ false
    by true h = absurd (d (same_is v w h))
    by false h = refl

-- one term more
terms_more : (old new : List Terms) (term : Terms) (os : List Operand) (rest whole : List (List Operand))
    → new ≡ old ++ term ∷ [] → operands_in term.items ≡ os → terms_in old ++ os ∷ rest ≡ whole
    → terms_in new ++ rest ≡ whole
terms_more old new term os rest whole p is h =
    ap (λ (z : List Terms). terms_in z ++ rest) p
    ∙ ap (λ z. z ++ rest) (map-append (λ (t : Terms). operands_in t.items) old (term ∷ []))
    ∙ ap (λ z. (terms_in old ++ z ∷ []) ++ rest) is ∙ append_assoc (terms_in old) (os ∷ []) rest ∙ h

module _ (cs : List Operand) (x : Entry) where
  abbrev Others : List Entry → List (List Operand)
  Others ys = others_with cs (entry_of x) (entries_in ys)

  pub others_put : (old new : List Terms) (term : Terms) (others : List Entry) (i : ℕ) (y : Entry)
      (whole : List (List Operand)) → i < length others → y ≡ get_or others i y → (x.value ≡ y.value → ⊥)
      → operands_in term.items ≡ cs ++ operand_of x.operand ∷ operand_of y.operand ∷ [] → new ≡ old ++ term ∷ []
      → terms_in old ++ Others (drop i others) ≡ whole → terms_in new ++ Others (drop (i + 1) others) ≡ whole
  others_put old new term others i y whole l at d is p h =
      let os = cs ++ operand_of x.operand ∷ operand_of y.operand ∷ [] in
      let rest = Others (drop (i + 1) others) in
      let step = ap Others (next_left others i y l at)
      ∙ ap (λ (b : Bool). if b then rest else os ∷ rest) (differs x.value y.value d) in
      terms_more old new term os rest whole p is (ap (λ z. terms_in old ++ z) (sym step) ∙ h)

  pub others_skip : (old : List Terms) (others : List Entry) (i : ℕ) (y : Entry) (whole : List (List Operand))
      → i < length others → y ≡ get_or others i y → x.value ≡ y.value
      → terms_in old ++ Others (drop i others) ≡ whole → terms_in old ++ Others (drop (i + 1) others) ≡ whole
  others_skip old others i y whole l at d h =
      let os = cs ++ operand_of x.operand ∷ operand_of y.operand ∷ [] in
      let rest = Others (drop (i + 1) others) in
      let step = ap Others (next_left others i y l at)
      ∙ ap (λ (b : Bool). if b then rest else os ∷ rest) (is_so x.value y.value d) in
      ap (λ z. terms_in old ++ z) (sym step) ∙ h

has_yes : (d : Domain) (v : Value) → Holds d v → has_value v (values_of d) ≡ true
has_yes d v h = in_has v (values_of d) (listed d v h)

has_no : (d : Domain) (v : Value) → IsDomain d → (Holds d v → ⊥) → has_value v (values_of d) ≡ false
has_no d v is never = by (has_value v (values_of d)) refl
  where
    by : (b : Bool) → has_value v (values_of d) ≡ b → b ≡ false
    by true h = absurd (never (held d v is (has_in v (values_of d) h)))
    by false h = refl

module _ (d : Domain) (cs : List Operand) where
  abbrev Outside : List Entry → List (List Operand)
  Outside es = outside_terms (values_of d) cs (entries_in es)

  pub outside_put : (old new : List Terms) (term : Terms) (es : List Entry) (i : ℕ) (y : Entry)
      (whole : List (List Operand)) → i < length es → y ≡ get_or es i y → IsDomain d → (Holds d y.value → ⊥)
      → operands_in term.items ≡ cs ++ operand_of y.operand ∷ [] → new ≡ old ++ term ∷ []
      → whole ≡ terms_in old ++ Outside (drop i es) → whole ≡ terms_in new ++ Outside (drop (i + 1) es)
  outside_put old new term es i y whole l at dom never is p h =
      let os = cs ++ operand_of y.operand ∷ [] in
      let rest = Outside (drop (i + 1) es) in
      let step = ap Outside (next_left es i y l at)
      ∙ ap (λ (b : Bool). if b then rest else os ∷ rest) (has_no d y.value dom never) in
      sym (terms_more old new term os rest whole p is (ap (λ z. terms_in old ++ z) (sym step) ∙ sym h))

  pub outside_skip : (old : List Terms) (es : List Entry) (i : ℕ) (y : Entry) (whole : List (List Operand))
      → i < length es → y ≡ get_or es i y → Holds d y.value → whole ≡ terms_in old ++ Outside (drop i es)
      → whole ≡ terms_in old ++ Outside (drop (i + 1) es)
  outside_skip old es i y whole l at sure h =
      let os = cs ++ operand_of y.operand ∷ [] in
      let rest = Outside (drop (i + 1) es) in
      let step = ap Outside (next_left es i y l at)
      ∙ ap (λ (b : Bool). if b then rest else os ∷ rest) (has_yes d y.value sure) in
      h ∙ ap (λ z. terms_in old ++ z) step

  abbrev Given : List Entry → List e.Term
  Given es = given_terms (values_of d) cs (entries_in es)

  pub given_put : (old new : List Group) (os : List Operand) (es : List Entry) (i : ℕ) (y : Entry) (whole : List Group)
      → i < length es → y ≡ get_or es i y → Holds d y.value → os ≡ cs ++ operand_of y.operand ∷ []
      → new ≡ with_term (record { value = y.value; operands = os }) old → with_terms (Given (drop i es)) old ≡ whole
      → with_terms (Given (drop (i + 1) es)) new ≡ whole
  given_put old new os es i y whole l at sure is p h =
      let t : List Operand → e.Term = λ z. record { value = y.value; operands = z } in
      let rest = Given (drop (i + 1) es) in
      let step = ap Given (next_left es i y l at)
      ∙ ap (λ (b : Bool). if b then t (cs ++ operand_of y.operand ∷ []) ∷ rest else rest) (has_yes d y.value sure) in
      ap (with_terms rest) (p ∙ ap (λ z. with_term (t z) old) is)
      ∙ ap (λ z. with_terms z old) (sym step) ∙ h

  pub given_skip : (old : List Group) (es : List Entry) (i : ℕ) (y : Entry) (whole : List Group) → i < length es
      → y ≡ get_or es i y → IsDomain d → (Holds d y.value → ⊥) → with_terms (Given (drop i es)) old ≡ whole
      → with_terms (Given (drop (i + 1) es)) old ≡ whole
  given_skip old es i y whole l at dom never h =
      let t : List Operand → e.Term = λ z. record { value = y.value; operands = z } in
      let rest = Given (drop (i + 1) es) in
      let step = ap Given (next_left es i y l at)
      ∙ ap (λ (b : Bool). if b then t (cs ++ operand_of y.operand ∷ []) ∷ rest else rest)
      (has_no d y.value dom never) in
      ap (λ z. with_terms z old) (sym step) ∙ h

pub never_true : false ≡ true → ⊥
never_true h = absurd (cc h)
