-- The standing valuations of a stepper that goes on or back.
use Rattle.std.proofs.Common.{◌≡◌, suc, List, [], ◌∷◌, ◌++◌, Bool, length, reverse, refl, ap, ◌∙◌, subst}
use Rattle.std.proofs.lemmas.List.{reverse-append}
use Rattle.domains.specs.declared.Value.{Value}
use Rattle.gts_core.specs.declared.system.GtsParts.{GtsParts}
use Rattle.stepper.specs.Changes.{Point, before, below_by, TellsStepChanges, AreToldSteps}
use Rattle.stepper.specs.declared.changes.StepChanges.{StepChanges}

reverse_last : (cs : List StepChanges) (c : StepChanges) → reverse (cs ++ c ∷ []) ≡ c ∷ reverse cs
reverse_last cs c = reverse-append cs (c ∷ [])

-- what is the same in each part is the same
pub same_point : (a b : Point) → a.values ≡ b.values → a.known ≡ b.known → a.can ≡ b.can → a ≡ b
same_point a b u k f = go a.values b.values a.known b.known a.can b.can u k f
  where
    point : List Value → List Bool → List Bool → Point
    point u k f = record { values = u; known = k; can = f }

    go : (u v : List Value) (k l f g : List Bool) → u ≡ v → k ≡ l → f ≡ g → point u k f ≡ point v l g
    go u v k l f g a b c = ap (λ z. point z k f) a ∙ ap (λ z. point v z f) b ∙ ap (λ z. point v l z) c

module _ (p : GtsParts) where
  -- the steps that stand before the last one, and what the last one says
  pub told_back : (s : Point) (steps rest : List StepChanges) (c : StepChanges) → steps ≡ rest ++ c ∷ []
      → AreToldSteps p s (reverse steps) → TellsStepChanges p s c × AreToldSteps p (before p s c) (reverse rest)
  told_back s steps rest c e h = subst (AreToldSteps p s) (ap reverse e ∙ reverse_last rest c) h

  -- as many as there are steps
  pub below_long : (s : Point) (steps : List StepChanges) → length (below_by p s steps) ≡ length steps
  below_long s [] = refl
  below_long s (c ∷ cs) = ap suc (below_long (before p s c) cs)
