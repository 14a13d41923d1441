-- An image turned round.
use Rattle.std.proofs.Common.{Bool, List, sym}
use Rattle.ar_base.specs.Lists.{Along}
use Rattle.ar_base.specs.Lists as l
use Rattle.typed_expr.specs.declared.expr.Expr.{Expr}
use Rattle.typed_expr.specs.PairsInside.{turned_pairs}
use Rattle.typed_expr.proofs.Renaming.{renames_turned}
use Rattle.ar_meaning.specs.Systems.{Assign, Variable, Transition, Way, Branches, Event, Net, System}
use Rattle.ar_meaning.specs.Image.{Conditions_rename, Assign_renames, Variable_renames, Transition_renames, Way_renames, leaves, joints, no_branch, branch, Event_renames}
use Rattle.ar_meaning.specs.ImageInside.{Branches_rename, IsNetImage, IsImage}
use Rattle.ar_meaning.specs.Image as i

pub along_turned : {A B : Type 0} {R : A → B → Type 0} {S : B → A → Type 0} → ((a : A) (b : B) → R a b → S b a)
    → {xs : List A} {ys : List B} → Along R xs ys → Along S ys xs
along_turned f l.none = l.none
along_turned f (l.one_and {a = a} {b = b} r d) = l.one_and (f a b r) (along_turned f d)

module _ {V W : Type 0} (same : V → W → Type 0) where
  pub conditions_turned : {es : List (Expr V × Bool)} {fs : List (Expr W × Bool)} → Conditions_rename same es fs
      → Conditions_rename (turned_pairs same) fs es
  conditions_turned i.none = i.none
  conditions_turned (i.one_and q qs) = i.one_and (renames_turned same q) (conditions_turned qs)

  pub assign_turned : (a : Assign V) (b : Assign W) → Assign_renames same a b → Assign_renames (turned_pairs same) b a
  assign_turned a b r = record {
    target = r.target;
    conditions = conditions_turned r.conditions;
    value = renames_turned same r.value;
  }

  pub variable_turned : (x : Variable V) (y : Variable W) → Variable_renames same x y
      → Variable_renames (turned_pairs same) y x
  variable_turned x y r = record {
    key = r.key;
    unit = sym r.unit;
    domain = sym r.domain;
    is_state = sym r.is_state;
    value = sym r.value;
  }

  pub transition_turned : (d : Transition V) (e : Transition W) → Transition_renames same d e
      → Transition_renames (turned_pairs same) e d
  transition_turned d e r = record { guard = renames_turned same r.guard; action = along_turned assign_turned r.action }

  mutual
    pub way_turned : {v : Way V} {w : Way W} → Way_renames same v w → Way_renames (turned_pairs same) w v
    way_turned (leaves {d = d} {e = e} q) = leaves (transition_turned d e q)
    way_turned (joints q) = joints (branches_turned q)

    pub branches_turned : {bs : Branches (Transition V)} {cs : Branches (Transition W)} → Branches_rename same bs cs
        → Branches_rename (turned_pairs same) cs bs
    branches_turned no_branch = no_branch
    branches_turned (branch q qs) = branch (way_turned q) (branches_turned qs)

  pub event_turned : (e : Event V) (f : Event W) → Event_renames same e f → Event_renames (turned_pairs same) f e
  event_turned e f r = record {
    unit = sym r.unit;
    hidden = sym r.hidden;
    ways = along_turned (λ v w q. way_turned q) r.ways;
  }

  pub net_turned : {here : Net V} {there : Net W} → IsNetImage same here there → IsNetImage (turned_pairs same) there here
  net_turned image = record {
    variables = along_turned variable_turned image.variables;
    assertions = along_turned assign_turned image.assertions;
    one = λ z x y p q. image.one_back x y z p q;
    one_back = λ y z x p q. image.one x y z p q;
  }

  pub image_turned : {here : System V} {there : System W} → IsImage same here there → IsImage (turned_pairs same) there here
  image_turned image = record {
    net = net_turned image.net;
    events = along_turned event_turned image.events;
    observers = along_turned (λ e f q. record { renames = renames_turned same q.renames }) image.observers;
  }
