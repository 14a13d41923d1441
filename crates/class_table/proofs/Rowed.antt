-- The bodies inside each body, row by row.
use Rattle.std.proofs.Common.{◌≡◌, ℕ, Vec, Global, List, [], ◌∷◌, ◌++◌, length, Option, Some, sym, ap, ◌∙◌, subst, inl, inr, arith}
use Rattle.std.proofs.lemmas.Option.{same_Some}
use Rattle.ar_base.specs.Lists.{Stands, IsOneOf, Along}
use Rattle.ar_base.specs.declared.places.Place.{Place}
use Rattle.ar_base.proofs.Standing.{stands_none, stands_one, stands_some, stands_split, stands_within, along_length, one_left, one_right, one_split, one_first, one_none, only_item}
use Rattle.class_table.specs.Declaring.{Declared}
use Rattle.class_table.specs.Shown.{put_inside}
use Rattle.class_table.specs.TablesInside.{IsBodyOf}
use Rattle.class_table.specs.Rows.{AreInnerBodies, IsRowOf, AddsInside}
use Rattle.class_table.specs.Rows.AddsInside.{nothing, body as adds_body}
use Rattle.class_table.specs.declared.tables.Body.{Body}
use Rattle.class_table.specs.declared.tables.Owned.{Owned}
use Rattle.class_table.proofs.OwnAt.{own_shown, shown_back}
use Rattle.class_table.proofs.Enclosing.{inside_owned, owned_inside}

pub row_start : (d : Declared) → IsRowOf d [] []
row_start d = record { to = λ b i. absurd (one_none b i); from = λ o b at i e. absurd (one_none o i) }

pub row_next : (d : Declared) (os : List Owned) (o : Owned) (old new : List ℕ) → IsRowOf d os old
    → AddsInside d o old new → IsRowOf d (os ++ o ∷ []) new
row_next d os o old new h (nothing e) = record {
  to = λ b i. let w = h.to b i in (w.0, w.1, one_left os (o ∷ []) w.0 w.2, w.3);
  from = λ p b at i f. elim (one_split os (o ∷ []) p i) [
    | inl j ↦ h.from p b at j f
    | inr j ↦ (let s = only_item o p j in let g = sym e ∙ (ap (put_inside d) s ∙ f) in cc)
  ];
}
row_next d os o old new h (adds_body {b = c} {at = q} e) = record {
  to = λ b i. elim (one_split old (c ∷ []) b i) [
    | inl j ↦ (let w = h.to b j in (w.0, w.1, one_left os (o ∷ []) w.0 w.2, w.3))
    | inr j ↦ (let s = only_item c b j in (o, q, one_right os (o ∷ []) o (one_first o []), e ∙ ap (λ (x : ℕ). Some (x, q)) s))
  ];
  from = λ p b at i f. elim (one_split os (o ∷ []) p i) [
    | inl j ↦ one_left old (c ∷ []) b (h.from p b at j f)
    | inr j ↦
        let s = only_item o p j in
        let same : c ≡ b = ap (λ (z : ℕ × Option Place). z.0) (same_Some _ _ (sym e ∙ (ap (put_inside d) s ∙ f))) in
        one_right old (c ∷ []) b (subst (IsOneOf (c ∷ [])) same (one_first c []))
  ];
}

-- each row is that of the body at its place
pub record AreRowsOf (d : Declared) (bodies : List Body) (rows : List (Vec ℕ Global)) : Type 0 where
  pub each : (k : ℕ) (row : Vec ℕ Global) (body : Body) → Stands rows k row → Stands bodies k body
      → IsRowOf d body.own.items row.items

pub rows_start : (d : Declared) (bodies : List Body) (rows : List (Vec ℕ Global)) → rows ≡ [] → AreRowsOf d bodies rows
rows_start d bodies rows e = record { each = λ k row body s t. absurd (stands_none k row (subst (λ (l : List (Vec ℕ Global)). Stands l k row) e s)) }

pub rows_next : (d : Declared) (bodies : List Body) (rows new : List (Vec ℕ Global)) (i : ℕ) (body : Body)
    (row : Vec ℕ Global) → length rows ≡ i → Stands bodies i body → AreRowsOf d bodies rows
    → IsRowOf d body.own.items row.items → new ≡ rows ++ row ∷ [] → AreRowsOf d bodies new
rows_next d bodies rows new i body row l s h r e = record { each = each_one }
  where
    each_one : (k : ℕ) (q : Vec ℕ Global) (b : Body) → Stands new k q → Stands bodies k b → IsRowOf d b.own.items q.items
    each_one k q b p t = elim (stands_split rows (row ∷ []) k q (subst (λ (z : List (Vec ℕ Global)). Stands z k q) e p)) [
      | inl o ↦ h.each k q b o t
      | inr o ↦
          let z = stands_within (row ∷ []) o.0 q o.2 in
          let k_is : k ≡ i = omega (arith, z, o.1, l) in
          let row_is : row ≡ q = only_item row q (record { place = o.0; stands = o.2 }) in
          let body_is : body ≡ b = stands_one bodies i body b s (subst (λ (n : ℕ). Stands bodies n b) k_is t) in
          subst (λ (x : Body). IsRowOf d x.own.items q.items) body_is
          (subst (λ (x : Vec ℕ Global). IsRowOf d body.own.items x.items) row_is r)
    ]

pub rows_end : (d : Declared) (bodies : List Body) (rows : List (Vec ℕ Global)) → Along IsBodyOf bodies d.bodies
    → length rows ≡ length bodies → AreRowsOf d bodies rows → AreInnerBodies d rows
rows_end d bodies rows shown l h = record {
  long = l ∙ along_length bodies d.bodies shown;
  to = λ a b r.
      let m = stands_within rows a r.row r.stands in
      let w = stands_some bodies a (omega (arith, m, l)) in
      let v = (h.each a r.row w.0 r.stands w.1).to b r.is_one in
      owned_inside d a b v.0 v.1
      (subst (λ (os : List Owned). IsOneOf os v.0) (sym (own_shown d bodies shown a w.0 w.1)) v.2) v.3;
  from = λ a b i.
      let v = inside_owned d a b i in
      let w = shown_back d bodies shown a v.0 v.2 in
      let m = stands_within bodies a w.0 w.1 in
      let r = stands_some rows a (omega (arith, m, l)) in
      record { row = r.0; stands = r.1; is_one = (h.each a r.0 w.0 r.1 w.1).from v.0 b v.1 w.2 v.3 };
}
