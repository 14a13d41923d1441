-- What is reached in the end.
use Rattle.std.proofs.Common.{◌≡◌, ℕ, ◌≤◌, inl, Bool, true, false, List, length, Contains, Vec, refl, sym, ap, ◌∙◌, subst, arith}
use Rattle.std.specs.Global.{Global}
use Rattle.ar_base.specs.Lists.{Stands, IsOneOf}
use Rattle.ar_base.specs.Numbers.{VarId, WayId}
use Rattle.ar_base.specs.NumbersInside.{EventId}
use Rattle.ar_base.proofs.Standing.{stands_one, stands_within, one_here, one_contains}
use Rattle.domains.specs.declared.Value.{Value}
use Rattle.typed_expr.specs.declared.expr.Expr.{Expr}
use Rattle.ar_meaning.specs.Systems.{Transition, Leaf}
use Rattle.ar_meaning.specs.Ways.{Can}
use Rattle.ar_meaning.specs.Found.{IsAnswer}
use Rattle.ar_firing.specs.Fragment.{At}
use Rattle.ar_firing.specs.Rules.{GivesOther, nothing, two, outside}
use Rattle.gts_core.specs.declared.system.Way.{Way}
use Rattle.gts_core.specs.declared.system.WayBody.TheVariants.{Local}
use Rattle.gts_core.specs.declared.system.Assign.{Assign}
use Rattle.gts_core.specs.declared.system.GtsParts.{GtsParts}
use Rattle.mode_search.specs.Modes.{transition_of}
use Rattle.mode_search.specs.Moves.{IsModeStep, IsMove}
use Rattle.mode_search.specs.declared.moves.Move.{Move}
use Rattle.mode_search.specs.declared.moves.Move.TheVariants.{Still, To, Wrong}
use Rattle.mode_search.specs.Kept.{IsLocal}
use Rattle.mode_search.specs.declared.kept.KeptWay.{KeptWay}
use Rattle.mode_trees.specs.declared.forests.Edge.{Edge}
use Rattle.mode_search.specs.declared.searching.Reach.{Reach}
use Rattle.mode_search.specs.Reached.{Leads, IsMoveOf, Setting, IsEdgeOf, IsReachable, here, along, HasWrong, IsRecorded, Records, IsReaching, IsReachFrom}
use Rattle.mode_trees.proofs.Fewer.{no_more}

-- fewer modes are reached than the domain has values
pub modes_few : (s : Setting) (first : Value) (next i : ℕ) (r : Reach) → IsReaching s first next i r
    → length r.modes.items ≤ length s.domain
modes_few s first next i r h = no_more r.modes.items s.domain h.different
    (λ k e p. one_contains s.domain e (h.inside e (one_here r.modes.items k e p)))

-- a way is one transition
same_transition : (p : GtsParts) (way : ℕ) (g h : Expr VarId) (u v : Vec Assign Global) → IsLocal p way g u
    → IsLocal p way h v → transition_of g u.items ≡ transition_of h v.items
same_transition p way g h u v x y = go bodies
  where
    same_way : x.way ≡ y.way
    same_way = stands_one p.ways.items way x.way y.way x.stands y.stands

    bodies : Local g u ≡ Local h v
    bodies = sym x.body ∙ ap (λ (z : Way). z.body) same_way ∙ y.body

    go : Local g u ≡ Local h v → transition_of g u.items ≡ transition_of h v.items
    go e = let i : g ≡ h = cc in let j : u ≡ v = cc in
        subst (λ (z : Expr VarId). transition_of g u.items ≡ transition_of z v.items) i
        (subst (λ (z : Vec Assign Global). transition_of g u.items ≡ transition_of g z.items) j refl)

module _ (p : GtsParts) (n : ℕ) (domain : List Value) (way : ℕ) (from : Value) where
  pub led_is : (g : Expr VarId) (u : Vec Assign Global) → IsLocal p way g u → (move : Move)
      → IsMove (At n from) (transition_of g u.items) n domain move → IsMoveOf p n domain way from move
  led_is g u x Still h = λ k v y can. h
      (subst (λ (z : Transition ℕ). Can (At n from) (Leaf z)) (same_transition p way k g v u y x) can)
  led_is g u x Wrong h = record { guard = g; action = u; local = x; is = h }
  led_is g u x (To v) h = record { guard = g; action = u; local = x; is = h }

  still_not : (v : Value) → IsMoveOf p n domain way from Still → Leads p n domain way from (To v) → ⊥
  still_not v h x = h x.guard x.action x.local x.is.can

  still_not_wrong : IsMoveOf p n domain way from Still → Leads p n domain way from Wrong → ⊥
  still_not_wrong h x = h x.guard x.action x.local x.is.can

  one_to : (v w : Value) → Leads p n domain way from (To v) → Leads p n domain way from (To w) → w ≡ v
  one_to v w x y =
      let e = same_transition p way y.guard x.guard y.action x.action y.local x.local in
      let k = subst (λ (z : Transition ℕ). IsModeStep (At n from) z n domain w) e y.is in
      x.is.one w k.gives

  not_other : {effects : Value → Type 0} (v : Value) → effects v → ((w : Value) → effects w → w ≡ v) → Contains domain v
      → GivesOther effects domain → ⊥
  not_other v g one inside (nothing h) = h v g
  not_other v g one inside (two a b i j d) = d (one a i ∙ sym (one b j))
  not_other v g one inside (outside a i d) = d (subst (λ z. Contains domain z) (sym (one a i)) inside)

  to_not_wrong : (v : Value) → Leads p n domain way from (To v) → Leads p n domain way from Wrong → ⊥
  to_not_wrong v x y =
      let e = same_transition p way x.guard y.guard x.action y.action x.local y.local in
      let k = subst (λ (z : Transition ℕ). IsModeStep (At n from) z n domain v) e x.is in
      not_other v k.gives k.one k.in_domain y.is.gives

edge_is : (e : Edge) (event : EventId) (way : WayId) (to : Value) → e.event ≡ event → e.way ≡ way → to ≡ e.to
    → ◌≡◌ {A = Edge} (record { from = e.from; event = event; way = way; to = to }) e
edge_is e event way to i j k = go e.event event e.way way e.to to i j k
  where
    go : (a b : EventId) (c d : WayId) (u v : Value) → a ≡ b → c ≡ d → v ≡ u
        → ◌≡◌ {A = Edge} (record { from = e.from; event = b; way = d; to = v })
        (record { from = e.from; event = a; way = c; to = u })
    go a b c d u v i j k = cc

module _ (s : Setting) (first : Value) (next : ℕ) (r : Reach) (past : length r.modes.items ≤ next)
    (h : IsReaching s first next 0 r) where
  records_at : (m : Value) → IsOneOf r.modes.items m → (q : ℕ) (way : KeptWay) → Stands s.ways q way → Records s way m r
  records_at m o q way sw = let w = stands_within r.modes.items o.place m o.stands in h.records o.place q m way (inl (omega arith)) o.stands sw

  edge_there : (e : Edge) (g : IsEdgeOf s e) → Records s g.way e.from r
      → IsOneOf r.modes.items e.to × IsOneOf r.edges.items e
  edge_there e g k = by k.move k.is k.recorded
    where
      by : (move : Move) → IsMoveOf s.parts s.number s.domain g.way.way.n e.from move → IsRecorded g.way e.from move r
          → IsOneOf r.modes.items e.to × IsOneOf r.edges.items e
      by Still is rec = absurd (still_not s.parts s.number s.domain g.way.way.n e.from e.to is g.leads)
      by Wrong is rec = absurd (to_not_wrong s.parts s.number s.domain g.way.way.n e.from e.to g.leads is)
      by (To v) is rec =
          let i : v ≡ e.to = one_to s.parts s.number s.domain g.way.way.n e.from e.to v g.leads is in (
            subst (λ (z : Value). IsOneOf r.modes.items z) i rec.0,
            subst (λ (z : Edge). IsOneOf r.edges.items z)
                (edge_is e g.way.event g.way.way v g.is_event g.is_way i) rec.1,
          )

  modes_whole : {m : Value} → IsReachable s first m → IsOneOf r.modes.items m
  modes_whole here = one_here r.modes.items 0 first h.begins
  modes_whole (along e k g) = (edge_there e g (records_at e.from (modes_whole k) g.place g.way g.stands)).0

  wrong_there : HasWrong s first → r.wrong ≡ true
  wrong_there w = let k = records_at w.mode (modes_whole w.reachable) w.place w.way w.stands in by k.move k.is k.recorded
    where
      by : (move : Move) → IsMoveOf s.parts s.number s.domain w.way.way.n w.mode move → IsRecorded w.way w.mode move r
          → r.wrong ≡ true
      by Still is rec = absurd (still_not_wrong s.parts s.number s.domain w.way.way.n w.mode is w.leads)
      by Wrong is rec = rec
      by (To v) is rec = absurd (to_not_wrong s.parts s.number s.domain w.way.way.n w.mode v is w.leads)

  answer : (b : Bool) → r.wrong ≡ b → IsAnswer b (HasWrong s first)
  answer true e = h.wrong e
  answer false e = λ w. let f = wrong_there w in absurd (cc (e, f))

  pub reached_end : IsReachFrom s first r
  reached_end = record {
    different = h.different;
    modes_sound = h.modes;
    modes_whole = λ m k. modes_whole k;
    edges_sound = λ e o. let f = h.edges e o in (h.modes e.from (one_here r.modes.items f.place e.from f.from), f.is_edge);
    edges_whole = λ e k g. (edge_there e g (records_at e.from (modes_whole k) g.place g.way g.stands)).1;
    apart = h.apart;
    wrong = answer r.wrong refl;
    again = h.again;
  }
