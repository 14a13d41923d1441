-- An image of an image is an image.
use Rattle.std.proofs.Common.{Bool, List, ◌∙◌}
use Rattle.ar_base.specs.Lists.{Along}
use Rattle.ar_base.specs.Lists as l
use Rattle.typed_expr.specs.declared.expr.Expr.{Expr}
use Rattle.typed_expr.proofs.Renaming.{renames_joined}
use Rattle.ar_meaning.specs.Systems.{Assign, Variable, Transition, Way, Branches, Event}
use Rattle.ar_meaning.specs.Image.{Conditions_rename, Assign_renames, Variable_renames, Transition_renames, Way_renames, leaves, joints, no_branch, branch, Event_renames, Expr_renames}
use Rattle.ar_meaning.specs.ImageInside.{Branches_rename}
use Rattle.ar_meaning.specs.Image as i

pub along_joined : {A B C : Type 0} {R : A → B → Type 0} {S : B → C → Type 0} {T : A → C → Type 0}
    → ((a : A) (b : B) (c : C) → R a b → S b c → T a c)
    → {xs : List A} {ys : List B} {zs : List C} → Along R xs ys → Along S ys zs → Along T xs zs
along_joined f l.none l.none = l.none
along_joined f (l.one_and {a = a} {b = b} r d) (l.one_and {b = c} s e) = l.one_and (f a b c r s) (along_joined f d e)

module _ {U V W : Type 0} (first : U → V → Type 0) (second : V → W → Type 0) (third : U → W → Type 0)
    (through : (x : U) (y : V) (z : W) → first x y → second y z → third x z) where
  pub conditions_joined : {es : List (Expr U × Bool)} {fs : List (Expr V × Bool)} {gs : List (Expr W × Bool)}
      → Conditions_rename first es fs → Conditions_rename second fs gs → Conditions_rename third es gs
  conditions_joined i.none i.none = i.none
  conditions_joined (i.one_and p ps) (i.one_and q qs) =
      i.one_and (renames_joined first second third through p q) (conditions_joined ps qs)

  pub assign_joined : (a : Assign U) (b : Assign V) (c : Assign W) → Assign_renames first a b
      → Assign_renames second b c → Assign_renames third a c
  assign_joined a b c p q = record {
    target = through a.target b.target c.target p.target q.target;
    conditions = conditions_joined p.conditions q.conditions;
    value = renames_joined first second third through p.value q.value;
  }

  pub variable_joined : (x : Variable U) (y : Variable V) (z : Variable W) → Variable_renames first x y
      → Variable_renames second y z → Variable_renames third x z
  variable_joined x y z p q = record {
    key = through x.key y.key z.key p.key q.key;
    unit = p.unit ∙ q.unit;
    domain = p.domain ∙ q.domain;
    is_state = p.is_state ∙ q.is_state;
    value = p.value ∙ q.value;
  }

  pub transition_joined : (d : Transition U) (e : Transition V) (f : Transition W) → Transition_renames first d e
      → Transition_renames second e f → Transition_renames third d f
  transition_joined d e f p q = record {
    guard = renames_joined first second third through p.guard q.guard;
    action = along_joined assign_joined p.action q.action;
  }

  mutual
    pub way_joined : {u : Way U} {v : Way V} {w : Way W} → Way_renames first u v → Way_renames second v w
        → Way_renames third u w
    way_joined (leaves {d = d} {e = e} p) (leaves {e = f} q) = leaves (transition_joined d e f p q)
    way_joined (joints p) (joints q) = joints (branches_joined p q)

    pub branches_joined : {bs : Branches (Transition U)} {cs : Branches (Transition V)} {ds : Branches (Transition W)}
        → Branches_rename first bs cs → Branches_rename second cs ds → Branches_rename third bs ds
    branches_joined no_branch no_branch = no_branch
    branches_joined (branch p ps) (branch q qs) = branch (way_joined p q) (branches_joined ps qs)

  pub event_joined : (e : Event U) (f : Event V) (g : Event W) → Event_renames first e f → Event_renames second f g
      → Event_renames third e g
  event_joined e f g p q = record {
    unit = p.unit ∙ q.unit;
    hidden = p.hidden ∙ q.hidden;
    ways = along_joined (λ u v w p q. way_joined p q) p.ways q.ways;
  }

  pub observer_joined : (e : Expr U) (f : Expr V) (g : Expr W) → Expr_renames first e f → Expr_renames second f g
      → Expr_renames third e g
  observer_joined e f g p q = record { renames = renames_joined first second third through p.renames q.renames }
