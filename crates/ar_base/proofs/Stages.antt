-- One stage after the other, as calls joined by `?`.
use Rattle.std.proofs.Common.{◌≡◌, Option, Some, None, Result, Ok, Err, sym, ◌∙◌, ap, subst}
use Rattle.ar_base.specs.Stages.{Then, refuses, passes}
use Rattle.ar_base.specs.StagesInside.{IsRefusal, IsStage}

module _ {A B C R X Y E : Type 0} (told : E → Option R) (first : A → Result B R → Type 0)
    (next : B → Result C R → Type 0) (a : A) (view : B → X → Type 0) (see : C → Y → Type 0) where
  -- the first stage stops, and with it both
  pub stage_stops : (r : Result Y E) (d e : E) → r ≡ Err d → d ≡ e → IsStage {X = X} told view (first a) (Err e)
      → IsStage told see (Then first next a) r
  stage_stops r d e i j h =
      let P : Result Y E → Type 0 = λ z. IsStage told see (Then first next a) z in
      subst P (sym (i ∙ ap Err j)) (go (told e) h)
    where
      go : (t : Option R) → IsRefusal (first a) t → IsRefusal (Then first next a) t
      go (Some r) h = refuses h
      go None h = tt

  -- the first stage passes, and the next answers
  pub stage_passes : (b : B) (r : Result Y E) → first a (Ok b) → IsStage told see (next b) r
      → IsStage told see (Then first next a) r
  stage_passes b (Ok y) p k = (k.0, passes b p k.1, k.2)
  stage_passes b (Err e) p k = go (told e) k
    where
      go : (t : Option R) → IsRefusal (next b) t → IsRefusal (Then first next a) t
      go (Some r) h = passes b p h
      go None h = tt
