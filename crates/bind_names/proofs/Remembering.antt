-- Values that are remembered.
use Rattle.std.proofs.Common.{◌≡◌, ℕ, Bool, true, false, cond, List, [], Some, sym, ◌∙◌, subst}
use Rattle.std.specs.HashMap.{HashMap, get}
use Rattle.domains.specs.declared.Value.{Value}
use Rattle.hierarchy.specs.declared.tree.Attribute.{Attribute}
use Rattle.bind_scopes.specs.Indexed.{is_same_index}
use Rattle.bind_scopes.specs.declared.scopes.Scopes.{Scopes}
use Rattle.bind_names.specs.Known.{IsScopeKnown, AreKnown}

module _ {S : Type 0} (s : Scopes) (parameters : List Value) where
  pub known_none : (known : HashMap (ℕ × ℕ) (Attribute × Value) S) → known.entries ≡ [] → AreKnown s parameters known
  known_none known e = record { each = λ k x h. let g = rw e at h in cc }

  pub known_more : (old new : HashMap (ℕ × ℕ) (Attribute × Value) S) (k : ℕ × ℕ) (a : Attribute) (v : Value)
      → ((q : ℕ × ℕ) → get is_same_index new q ≡ cond (is_same_index k q) (Some (a, v)) (get is_same_index old q))
      → AreKnown s parameters old → IsScopeKnown s parameters a v → AreKnown s parameters new
  known_more old new k a v u known one = record { each = each }
    where
      each : (q : ℕ × ℕ) (e : Attribute × Value) → get is_same_index new q ≡ Some e → IsScopeKnown s parameters e.0 e.1
      each q e g = by (is_same_index k q) (sym (u q) ∙ g)
        where
          by : (b : Bool) → cond b (Some (a, v)) (get is_same_index old q) ≡ Some e → IsScopeKnown s parameters e.0 e.1
          by true f = let j : (a, v) ≡ e = cc in
              subst (λ (z : Attribute × Value). IsScopeKnown s parameters z.0 z.1) j one
          by false f = known.each q e f

  -- what is remembered of the attribute itself
  pub known_same : (known : HashMap (ℕ × ℕ) (Attribute × Value) S) (k : ℕ × ℕ) (a b : Attribute) (v : Value)
      → get is_same_index known k ≡ Some (a, v) → a ≡ b → AreKnown s parameters known → IsScopeKnown s parameters b v
  known_same known k a b v g e h =
      subst (λ (z : Attribute). IsScopeKnown s parameters z v) e (h.each k (a, v) g)
