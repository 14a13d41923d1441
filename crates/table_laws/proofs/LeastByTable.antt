-- The conflict sets and the cuts are the least firable sets at which the operands of a table that agrees are true.
use Rattle.std.proofs.Common.{◌≡◌, ℕ, Bool, false, List, Option}
use Rattle.ar_base.specs.Sets.{Within}
use Rattle.ar_base.proofs.Sets.{within_self}
use Rattle.domains.specs.declared.Value.{Value}
use Rattle.typed_expr.specs.declared.expr.Expr.{Expr}
use Rattle.ar_meaning.specs.Systems.{System}
use Rattle.ar_firing.specs.Static.{IsKeyedStatic}
use Rattle.ar_firing.specs.Cuts.{IsLeast, Makes, MeetsConflict, IsFirable, IsConflictFreeUpTo}
use Rattle.ar_firing.specs.CutsInside.{UpTo}
use Rattle.ar_firing.specs.Operands.{Agrees, IsFirableWith}
use Rattle.ar_firing.proofs.Meeting.{met_is_conflicting, conflict_is_met}
use Rattle.ar_firing.proofs.Cutting.{made_within, counted_within, calm_within}
use Rattle.ar_firing.proofs.SmallSets.{part_up_to, free_within}
use Rattle.ar_firing.proofs.LeastSets.{least_on, least_back}
use Rattle.eq_core.specs.Gates.{Table}
use Rattle.eq_core.specs.Values.{value_at}
use Rattle.table_laws.specs.GateLaws.{ShowsLeast}

module _ (sys : System ℕ) (dropped : List ℕ) (static : IsKeyedStatic sys dropped) (observer : Expr ℕ) (wanted : Value)
    (table : Table) where
  abbrev conflict : List ℕ → Bool
  conflict = value_at table.gates table.conflict

  abbrev top : List ℕ → Bool
  top = value_at table.gates table.top

  pub shows_least : Agrees sys dropped observer wanted conflict top → ShowsLeast sys dropped observer wanted table
  shows_least agrees = record {
    conflict_sets = λ set. (
      λ m. least_back (MeetsConflict sys dropped) (IsFirableWith sys dropped conflict) met back m,
      λ f. least_on (MeetsConflict sys dropped) (IsFirableWith sys dropped conflict) met back f,
    );
    cuts = λ order free set u. (
      λ m. record {
        has = made order free u set (within_self set) m.has;
        least = λ part w f. m.least part w (makes order free u part w f);
      },
      λ f. record {
        has = makes order free u set (within_self set) f.has;
        least = λ part w m. f.least part w (made order free u part w m);
      },
    );
  }
    where
      met : (s : List ℕ) → MeetsConflict sys dropped s → IsFirableWith sys dropped conflict s
      met s m =
          met_is_conflicting sys dropped static.keyed static.static observer wanted conflict top agrees {set = s} m

      back : (s : List ℕ) → IsLeast (IsFirableWith sys dropped conflict) s → MeetsConflict sys dropped s
      back = conflict_is_met sys dropped static.keyed static.static observer wanted conflict top agrees

      calm : (order : Option ℕ) → IsConflictFreeUpTo order sys dropped → {set : List ℕ} → UpTo order set
          → (s : List ℕ) → Within s set → (part : List ℕ) (t : List Value) → Within part s → IsFirable sys dropped part t
          → conflict part ≡ false
      calm order free u s w = calm_within sys dropped static.keyed static.static observer wanted conflict top agrees s
          (free_within order sys dropped free s (part_up_to order w u))

      made : (order : Option ℕ) → IsConflictFreeUpTo order sys dropped → {set : List ℕ} → UpTo order set
          → (s : List ℕ) → Within s set → Makes sys dropped observer wanted s → IsFirableWith sys dropped top s
      made order free u s w m = made_within sys dropped static.keyed static.static observer wanted conflict top agrees s
          (calm order free u s w) m

      makes : (order : Option ℕ) → IsConflictFreeUpTo order sys dropped → {set : List ℕ} → UpTo order set
          → (s : List ℕ) → Within s set → IsFirableWith sys dropped top s → Makes sys dropped observer wanted s
      makes order free u s w f = counted_within sys dropped static.keyed static.static observer wanted conflict top agrees
          s (calm order free u s w) f
