-- What the domains of the variables allow.
use Rattle.std.proofs.Common.{◌≡◌, ℕ, List, [], length, slice_get, Contains, Option, Some, None, Vec, Global, refl, sym, ap, ◌∙◌, subst, arith}
use Rattle.ar_base.specs.Lists.{Stands}
use Rattle.ar_base.proofs.Standing.{stands_within, stands_some, one_none, one_contains}
use Rattle.domains.specs.Domains.{values_of}
use Rattle.domains.specs.declared.Value.{Value}
use Rattle.typed_expr.specs.Rows.{Rows, row_values, known_row_at}
use Rattle.ar_meaning.specs.Systems as s
use Rattle.ar_meaning.specs.Facts.{Allows}
use Rattle.gts_core.specs.View.{net_of, variable_of}
use Rattle.gts_core.proofs.Viewing.{variable_there, variable_back}
use Rattle.gts_core.specs.declared.system.Variable.{Variable}
use Rattle.gts_core.specs.declared.system.GtsParts.{GtsParts}
use Rattle.gts_core.specs.Rows.{AreDomains}

module _ (p : GtsParts) (rows : Rows) (a : AreDomains p (length p.variables.items) rows) where
  pub there : (n : ℕ) (v : Value) → Contains (known_row_at rows n) v → Allows (net_of p) n v
  there n v c = by (slice_get rows n) refl c
    where
      by : (o : Option (Vec Value Global)) → slice_get rows n ≡ o → Contains (row_values o) v → Allows (net_of p) n v
      by None e c = absurd (one_none v (one_contains [] v c))
      by (Some r) e c =
          let within = stands_within rows n r e in
          let x = stands_some p.variables.items n (omega (arith, within, a.long)) in
          record {
            place = n;
            variable = variable_of n x.0;
            stands = variable_there p n x.0 x.1;
            is_key = refl;
            has = subst (λ (z : List Value). Contains z v)
                (a.row n x.0 r (stands_within p.variables.items n x.0 x.1) x.1 e) c;
          }

  pub back : (n : ℕ) (v : Value) → Allows (net_of p) n v → Contains (known_row_at rows n) v
  back n v h =
      let k = variable_back p h.place h.variable h.stands in
      let at : h.place ≡ n = ap (λ (z : s.Variable ℕ). z.key) k.2 ∙ h.is_key in
      by k.0 at k.1 (subst (λ (z : s.Variable ℕ). Contains z.domain v) (sym k.2) h.has)
    where
      by : (x : Variable) → h.place ≡ n → Stands p.variables.items h.place x → Contains (values_of x.domain) v
          → Contains (known_row_at rows n) v
      by x e st c =
          let here = subst (λ (z : ℕ). Stands p.variables.items z x) e st in
          let within = stands_within p.variables.items n x here in
          let r = stands_some rows n (omega (arith, within, a.long)) in
          subst (λ (o : Option (Vec Value Global)). Contains (row_values o) v) (sym r.1)
          (subst (λ (z : List Value). Contains z v) (sym (a.row n x r.0 within here r.1)) c)
