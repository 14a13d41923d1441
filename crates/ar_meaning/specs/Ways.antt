-- Whether a way can fire, and what it does.
use Rattle.std.specs.Prelude.{◌≡◌, Bool, true, false}
use Rattle.ar_base.specs.Lists.{IsOneOf}
use Rattle.domains.specs.declared.Value.{Value}
use Rattle.domains.specs.declared.Value.TheVariants.{Truth}
use Rattle.typed_expr.specs.Yields.{Yields}
use Rattle.typed_expr.specs.declared.expr.Expr.{out-Expr}
use Rattle.ar_meaning.specs.Systems.{Assign, Transition, Way, Leaf, Joint, Branches, Empty, Branch}
use Rattle.ar_meaning.specs.Facts.{PassesConditions}

-- one of the parts is marked !
abbrev pub has_must : {L : Type 0} → Branches L → Bool
has_must Empty = false
has_must (Branch true w bs) = true
has_must (Branch false w bs) = has_must bs

mutual
  -- the way can fire: its guard is true; or all its ! parts can; or, where all its parts are ? parts, one of them can
  pub data Can {V : Type 0} (facts : V → Value → Type 0) : Way V → Type 0 where
    guard_holds : {d : Transition V} → Yields facts (out-Expr V d.guard) (Truth true) → Can facts (Leaf d)
    all_musts : {bs : Branches (Transition V)} → has_must bs ≡ true → Musts_can facts bs → Can facts (Joint bs)
    some_may : {bs : Branches (Transition V)} → has_must bs ≡ false → Some_can facts bs → Can facts (Joint bs)

  -- each ! part can fire
  pub data Musts_can {V : Type 0} (facts : V → Value → Type 0) : Branches (Transition V) → Type 0 where
    no_part : Musts_can facts Empty
    must : {w : Way V} {bs : Branches (Transition V)} → Can facts w → Musts_can facts bs
        → Musts_can facts (Branch true w bs)
    may : {w : Way V} {bs : Branches (Transition V)} → Musts_can facts bs → Musts_can facts (Branch false w bs)

  -- one of the parts can fire
  pub data Some_can {V : Type 0} (facts : V → Value → Type 0) : Branches (Transition V) → Type 0 where
    this : {m : Bool} {w : Way V} {bs : Branches (Transition V)} → Can facts w → Some_can facts (Branch m w bs)
    later : {m : Bool} {w : Way V} {bs : Branches (Transition V)} → Some_can facts bs → Some_can facts (Branch m w bs)

mutual
  -- the way gives the variable this value: an assignment of its action that the facts reach yields it, or a part that
  -- takes part gives it
  pub data Effects {V : Type 0} (facts : V → Value → Type 0) : Way V → V → Value → Type 0 where
    acts : {d : Transition V} {v : Value} (a : Assign V) → IsOneOf d.action a → PassesConditions facts a.conditions
        → Yields facts (out-Expr V a.value) v → Effects facts (Leaf d) a.target v
    by_part : {bs : Branches (Transition V)} {x : V} {v : Value} → Part_effects facts bs x v
        → Effects facts (Joint bs) x v

  -- a ! part gives it, or a ? part that can fire
  pub data Part_effects {V : Type 0} (facts : V → Value → Type 0) : Branches (Transition V) → V → Value → Type 0 where
    by_must : {w : Way V} {bs : Branches (Transition V)} {x : V} {v : Value} → Effects facts w x v
        → Part_effects facts (Branch true w bs) x v
    by_may : {w : Way V} {bs : Branches (Transition V)} {x : V} {v : Value} → Can facts w → Effects facts w x v
        → Part_effects facts (Branch false w bs) x v
    by_later : {m : Bool} {w : Way V} {bs : Branches (Transition V)} {x : V} {v : Value} → Part_effects facts bs x v
        → Part_effects facts (Branch m w bs) x v
