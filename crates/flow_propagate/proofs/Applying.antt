-- What an assertion's assignment adds to a table.
use Rattle.std.proofs.Common.{inl, inr, ℕ, Bool, false, List, Some, None, refl, sym, ◌∙◌, subst, arith}
use Rattle.ar_base.specs.Lists.{Stands, IsOneOf}
use Rattle.ar_base.proofs.Standing.{stands_map}
use Rattle.domains.specs.Domains as domains
use Rattle.domains.proofs.Domains.{listed, held}
use Rattle.domains.specs.declared.Value.{Value}
use Rattle.typed_expr.proofs.Facts.{yields_more}
use Rattle.ar_meaning.specs.Facts.{Allows, HasStateValue, FactOf}
use Rattle.ar_meaning.proofs.Least.{passes_more, closed}
use Rattle.ar_meaning.proofs.ByNumber.{allowed_from, allowed_at}
use Rattle.gts_core.specs.View.{assign_of, net_of, variable_of}
use Rattle.gts_core.proofs.Viewing.{variable_there, are_numbered}
use Rattle.gts_core.specs.declared.system.Variable.{Variable}
use Rattle.gts_core.specs.declared.system.Assign.{Assign}
use Rattle.gts_core.specs.declared.system.GtsParts.{GtsParts}
use Rattle.typed_expr.specs.Rows.{Rows}
use Rattle.flow_propagate.specs.Table.{TableHolds, PutsAll, Moves, YieldsFromTable}
use Rattle.flow_propagate.specs.Closing.{AppliesAssignment}
use Rattle.flow_propagate.proofs.Missing.{missing_less}

module _ (p : GtsParts) (a : Assign) (one : IsOneOf p.assigns.items a) (x : Variable)
    (stands : Stands p.variables.items a.target.n x) (is_domain : domains.IsDomain x.domain)
    (old new : Rows) (set : List Value) (changed : Bool) (r : YieldsFromTable old (assign_of a) (Some set))
    (m : PutsAll x.domain a.target.n set old new changed) where
  moves : Moves (net_of p) old new
  moves = record {
    long = m.long;
    grows = m.grows;
    sound = λ t sound n w h. elim (m.only n w h) [
      | inl k ↦ sound n w k
      | inr k ↦ (
          let allowed : Allows (net_of p) a.target.n w =
          allowed_from (net_of p) (are_numbered p) a.target.n (variable_of a.target.n x) w
          (variable_there p a.target.n x stands) (listed x.domain w k.2) in
          subst (λ (z : ℕ). FactOf (net_of p) t z w) (sym k.0)
          (closed (net_of p).assertions (Allows (net_of p)) (HasStateValue (net_of p) t) (assign_of a) w
          (record { place = one.place; stands = stands_map assign_of p.assigns.items one.place a one.stands })
          (passes_more ℕ (TableHolds old) (FactOf (net_of p) t) sound r.0)
          (yields_more ℕ (TableHolds old) (FactOf (net_of p) t) sound (r.1.sound w k.1)) allowed))
    ];
  }

  pub applies : AppliesAssignment p a old new changed
  applies = record {
    moves = moves;
    others = λ n v h ne. elim (m.only n v h) [ inl k ↦ k | inr k ↦ absurd (ne k.0) ];
    still = m.still;
    done = λ v pass y al. m.there v (r.1.complete v y)
        (held x.domain v is_domain (allowed_at (net_of p) (are_numbered p) a.target.n (variable_of a.target.n x) v
        (variable_there p a.target.n x stands) al));
    less = λ e.
        let g = m.gains e in
        missing_less 0 p.variables.items old new m.grows a.target.n a.target.n x g.value (omega arith) stands
        (listed x.domain g.value g.allowed) g.was_not g.is;
  }

pub moves_not : (p : GtsParts) (old : Rows) → Moves (net_of p) old old
moves_not p old = record { long = refl; grows = λ n v h. h; sound = λ t h. h }

pub moves_then : (p : GtsParts) (old mid new : Rows) → Moves (net_of p) old mid → Moves (net_of p) mid new
    → Moves (net_of p) old new
moves_then p old mid new x y = record
    { long = y.long ∙ x.long; grows = λ n v h. y.grows n v (x.grows n v h); sound = λ t h. y.sound t (x.sound t h) }

pub applies_not : (p : GtsParts) (a : Assign) (old : Rows) → YieldsFromTable old (assign_of a) None → AppliesAssignment p a old old false
applies_not p a old r = record {
  moves = moves_not p old;
  others = λ n v h ne. h;
  still = λ e. refl;
  done = λ v pass y al. absurd (r pass);
  less = λ e. absurd (cc e);
}
