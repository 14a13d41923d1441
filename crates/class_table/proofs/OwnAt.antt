-- The members that stand in bodies, as the table keeps them and as they are declared.
use Rattle.std.proofs.Common.{◌≡◌, ℕ, List, Option, Some, None, slice_get, refl, sym, ◌∙◌, ap, subst}
use Rattle.ar_base.specs.Lists.{Stands, IsOneOf, Along}
use Rattle.ar_base.proofs.Standing.{along_on, along_back, one_none}
use Rattle.class_table.specs.Declaring.{TextBody, Declared}
use Rattle.class_table.specs.Members.{own_of, own_at}
use Rattle.class_table.specs.TablesInside.{IsBodyOf}
use Rattle.class_table.specs.declared.tables.Body.{Body}
use Rattle.class_table.specs.declared.tables.Owned.{Owned}

module _ (d : Declared) (bodies : List Body) (shown : Along IsBodyOf bodies d.bodies) where
  -- what stands in a body is what is declared there
  pub own_shown : (k : ℕ) (b : Body) → Stands bodies k b → own_at d k ≡ b.own.items
  own_shown k b s = let h = along_on bodies d.bodies shown k b s in ap own_of h.1 ∙ sym h.2.own

  -- where something is declared in a body, there is the body
  pub shown_back : (k : ℕ) (o : Owned) → IsOneOf (own_at d k) o → (b : Body) × Stands bodies k b × IsOneOf b.own.items o
  shown_back k o h = by (slice_get d.bodies k) refl h
    where
      by : (t : Option TextBody) → slice_get d.bodies k ≡ t → IsOneOf (own_of t) o
          → (b : Body) × Stands bodies k b × IsOneOf b.own.items o
      by None e h = absurd (one_none o h)
      by (Some t) e h = let w = along_back bodies d.bodies shown k t e in (w.0, w.1, subst (λ (os : List Owned). IsOneOf os o) (sym w.2.own) h)
