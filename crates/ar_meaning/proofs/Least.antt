-- The facts are closed under the assignments, and are the least such set.
use Rattle.std.proofs.Common.{Bool, List, [], ◌++◌}
use Rattle.std.proofs.lemmas.List.Elements.{Contains-append_left, Contains-append_right}
use Rattle.ar_base.specs.Lists.{IsOneOf}
use Rattle.domains.specs.declared.Value.{Value}
use Rattle.typed_expr.specs.Yields.{Yields}
use Rattle.typed_expr.specs.declared.expr.Expr.{Expr, out-Expr}
use Rattle.typed_expr.specs.Pairs.{HasPair}
use Rattle.typed_expr.specs.PairsInside.{Needs}
use Rattle.typed_expr.proofs.Facts.{yields_more, needs, either_holds, nothing_holds}
use Rattle.ar_meaning.specs.Systems.{Assign}
use Rattle.ar_meaning.specs.Facts.{PassesConditions, Fact, given, assigned}
use Rattle.ar_meaning.specs.Facts as f

module _ (V : Type 0) (P Q : V → Value → Type 0) (more : (x : V) (v : Value) → P x v → Q x v) where
  -- what more facts pass
  pub passes_more : {cs : List (Expr V × Bool)} → PassesConditions P cs → PassesConditions Q cs
  passes_more f.none = f.none
  passes_more (f.one_and d ds) = f.one_and (yields_more V P Q more d) (passes_more ds)

-- the least: what holds of the state and is closed holds of every fact
pub least : {V : Type 0} (assigns : List (Assign V)) (allows state P : V → Value → Type 0)
    → ((x : V) (v : Value) → state x v → P x v)
    → ((a : Assign V) (v : Value) → IsOneOf assigns a → PassesConditions P a.conditions
    → Yields P (out-Expr V a.value) v
    → allows a.target v → P a.target v)
    → (x : V) (v : Value) → Fact assigns allows state x v → P x v
least assigns allows state P g c x v (given h) = g x v h
least {V = V} assigns allows state P g c x v (assigned a K m h p d l) =
    let all = λ (x : V) (w : Value) (k : HasPair K x w). least assigns allows state P g c x w (h x w k) in
    c a v m (passes_more V (HasPair K) P all p) (yields_more V (HasPair K) P all d) l

-- finitely many facts suffice for a list of conditions
pub passes_need : {V : Type 0} (P : V → Value → Type 0) {cs : List (Expr V × Bool)} → PassesConditions P cs
    → Needs V P (λ F. PassesConditions F cs)
passes_need P f.none = record { pairs = []; hold = λ x v m. absurd (nothing_holds x v m); suffice = f.none }
passes_need {V = V} P (f.one_and d ds) =
    let n = needs V P d in let k = passes_need P ds in
    record {
      pairs = n.pairs ++ k.pairs;
      hold = either_holds P n.pairs k.pairs n.hold k.hold;
      suffice =
          f.one_and
          (yields_more V (HasPair n.pairs) (HasPair (n.pairs ++ k.pairs))
          (λ x v m. Contains-append_left n.pairs k.pairs (x, v) m) n.suffice)
          (passes_more V (HasPair k.pairs) (HasPair (n.pairs ++ k.pairs))
          (λ x v m. Contains-append_right n.pairs k.pairs (x, v) m) k.suffice);
    }

-- the facts are closed under the assignments
pub closed : {V : Type 0} (assigns : List (Assign V)) (allows state : V → Value → Type 0) (a : Assign V) (v : Value)
    → IsOneOf assigns a
    → PassesConditions (Fact assigns allows state) a.conditions
    → Yields (Fact assigns allows state) (out-Expr V a.value) v
    → allows a.target v → Fact assigns allows state a.target v
closed {V = V} assigns allows state a v m p d l =
    let F = Fact assigns allows state in
    let n = passes_need F p in let k = needs V F d in
    assigned a (n.pairs ++ k.pairs) m (either_holds F n.pairs k.pairs n.hold k.hold)
    (passes_more V (HasPair n.pairs) (HasPair (n.pairs ++ k.pairs))
    (λ x v m. Contains-append_left n.pairs k.pairs (x, v) m)
    n.suffice)
    (yields_more V (HasPair k.pairs) (HasPair (n.pairs ++ k.pairs))
    (λ x v m. Contains-append_right n.pairs k.pairs (x, v) m)
    k.suffice) l
