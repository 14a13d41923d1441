-- The systems that declarations which are alike mean.
use Rattle.std.proofs.Common.{List, sym, ◌∙◌, subst}
use Rattle.ar_base.specs.Lists.{Along}
use Rattle.typed_expr.specs.declared.expr.Expr.{Expr}
use Rattle.ar_meaning.specs.Systems.{Event, Net, System}
use Rattle.ar_meaning.specs.ExpandInside.{AreKeyedEvents}
use Rattle.ar_meaning.specs.Image.{Expr_renames, Event_renames}
use Rattle.ar_meaning.specs.ImageInside.{IsNetImage, IsImage}
use Rattle.ar_meaning.proofs.ImageWays.{events_along}
use Rattle.ar_meaning.proofs.OneRun.{events_same}
use Rattle.hierarchy.specs.Units.{Thing}
use Rattle.source_meaning.specs.Systems.{Declarations, HasDeclarations}
use Rattle.source_laws.specs.Declarations.{IsSameThing, SameDeclarations}

pub systems_same : (d e : Declarations) → SameDeclarations d e → AreKeyedEvents e.events → (x y : System Thing)
    → HasDeclarations d x → HasDeclarations e y → IsImage IsSameThing x y
systems_same d e s keyed x y p q =
    let there = events_along IsSameThing IsSameThing d.events e.events s.events (λ t u v i j. sym i ∙ j) s.events
    p.events in
    let net = subst (λ (n : Net Thing). IsNetImage IsSameThing d.net n) (sym q.net) s.net in
    let observers = subst (λ (os : List (Expr Thing)). Along (Expr_renames IsSameThing) d.observers os) (sym q.observers)
    s.observers in
    record {
      net = subst (λ (n : Net Thing). IsNetImage IsSameThing n y.net) (sym p.net) net;
      events = subst (λ (ws : List (Event Thing)). Along (Event_renames IsSameThing) x.events ws)
          (events_same e.events keyed there.1 q.events) there.2;
      observers = subst (λ (os : List (Expr Thing)). Along (Expr_renames IsSameThing) os y.observers) (sym p.observers)
          observers;
    }
