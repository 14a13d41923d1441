-- The two assignments, form by form.
use Rattle.std.proofs.Common.{◌≡◌, List, [], ◌∷◌, ◌++◌, Vec, Global, ap, ◌∙◌}
use Rattle.ar_base.specs.Numbers.{VarId}
use Rattle.ar_base.specs.declared.places.Place.{Place}
use Rattle.typed_expr.specs.declared.expr.Expr.{Variable}
use Rattle.typed_expr.proofs.Opened.{opened-variable}
use Rattle.gts_core.specs.declared.bound.Act.{Act, Set}
use Rattle.gts_core.specs.declared.bound.Act.TheViews.{All, outs-All}
use Rattle.gts_core.proofs.ActForms.{opened_set}
use Rattle.written_forms.specs.Assigning.{SetsTo, SetsBoth}

pub set_one : (x : VarId) (at : Place) (y : VarId) → SetsTo x at y (Set x (Variable y) at)
set_one x at y = record { value = Variable y; names = opened-variable y; is = opened_set x (Variable y) at }

pub set_both : (x : VarId) (at : Place) (y : VarId) (other : Place) (v : Vec Act Global) (b c : Act)
    → v.items ≡ b ∷ c ∷ [] → SetsTo x at y b → SetsTo y other x c → SetsBoth x at y other (All v)
set_both x at y other v b c e h k =
    record { acts = v; is = outs-All v; first = b; second = c; are = e; sets_first = h; sets_second = k }

-- two items put behind none
pub two_items : (xs ys zs : List Act) (b c : Act) → xs ≡ [] → ys ≡ xs ++ b ∷ [] → zs ≡ ys ++ c ∷ [] → zs ≡ b ∷ c ∷ []
two_items xs ys zs b c e i j =
    let first : ys ≡ b ∷ [] = i ∙ ap (λ (l : List Act). l ++ b ∷ []) e in
    j ∙ ap (λ (l : List Act). l ++ c ∷ []) first
