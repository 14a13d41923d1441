-- What the first rows of a table have.
use Rattle.std.proofs.Common.{◌≡◌, ℕ, zero, suc, ◌<◌, Bool, true, false, cond, List, [], ◌∷◌, length, Contains, refl, sym, ap, ◌∙◌, subst, arith}
use Rattle.ar_base.specs.Lists.{Stands}
use Rattle.ar_base.proofs.Standing.{stands_some, stands_within}
use Rattle.domains.specs.declared.Value.{Value}
use Rattle.domains.proofs.Members.{nothing-in, contains-one}
use Rattle.ar_meaning.specs.Systems as s
use Rattle.ar_meaning.specs.Facts.{HasStateValue, FactOf, given}
use Rattle.ar_meaning.proofs.ByNumber.{given_from}
use Rattle.gts_core.specs.View.{net_of, variable_of}
use Rattle.gts_core.proofs.Viewing.{variable_there, variable_back, are_numbered}
use Rattle.gts_core.specs.declared.system.Variable.{Variable}
use Rattle.gts_core.specs.declared.system.GtsParts.{GtsParts}
use Rattle.typed_expr.specs.Rows.{Rows, known_row_at}
use Rattle.flow_propagate.specs.Rows.{Starts}
use Rattle.flow_propagate.specs.Table.{TableHolds, IsSoundTable}

pub one_there : (v : Value) → Contains (v ∷ []) v
one_there v = (0, omega arith, refl)

pub holds_within : (rows : Rows) (n : ℕ) (v : Value) → TableHolds rows n v → n < length rows
holds_within [] zero v h = absurd (nothing-in v h)
holds_within [] (suc n) v h = absurd (nothing-in v h)
holds_within (r ∷ rows) zero v h = omega arith
holds_within (r ∷ rows) (suc n) v h = let k = holds_within rows n v h in omega arith

module _ (p : GtsParts) (t : List Value) (rows : Rows) (long : length t ≡ length p.variables.items)
    (st : Starts p.variables.items t (length p.variables.items) rows) where
  by_state : (n : ℕ) (x : Variable) (w v : Value) (b : Bool) → x.is_state ≡ b → Stands p.variables.items n x
      → Stands t n w → Contains (cond b (w ∷ []) []) v → FactOf (net_of p) t n v
  by_state n x w v true is sx sw h =
      let i = contains-one w v h in
      given (given_from (net_of p) (are_numbered p) t n (variable_of n x) v (variable_there p n x sx) is
      (subst (λ (z : Value). Stands t n z) i sw))
  by_state n x w v false is sx sw h = absurd (nothing-in v h)

  pub starts_sound : IsSoundTable (net_of p) t rows
  starts_sound n v h =
      let below : n < length p.variables.items = let k = holds_within rows n v h in omega (arith, st.long) in
      let x = stands_some p.variables.items n below in
      let w = stands_some t n (omega (arith, long)) in
      by_state n x.0 w.0 v x.0.is_state refl x.1 w.1
      (subst (λ (z : List Value). Contains z v) (st.row n x.0 w.0 below x.1 w.1) h)

  pub starts_given : (n : ℕ) (v : Value) → HasStateValue (net_of p) t n v → TableHolds rows n v
  starts_given n v g =
      let r = variable_back p g.place g.variable g.stands in
      let place : g.place ≡ n = ap (λ (z : s.Variable ℕ). z.key) r.2 ∙ g.is_key in
      let is : r.0.is_state ≡ true = ap (λ (z : s.Variable ℕ). z.is_state) r.2 ∙ g.is_state in
      let row = st.row g.place r.0 v (stands_within p.variables.items g.place r.0 r.1) r.1 g.value in
      let full : known_row_at rows g.place ≡ v ∷ [] = row ∙ ap (λ b. cond b (v ∷ []) []) is in
      subst (λ (z : ℕ). TableHolds rows z v) place (subst (λ (z : List Value). Contains z v) (sym full) (one_there v))
