-- How the facts of a cone are gathered in place.
use Rattle.std.proofs.Common.{◌≡◌, ◌<◌, ℕ, ◌⊎◌, inl, inr, Bool, List, [], ◌∷◌, sym, ◌∙◌, subst, arith}
use Rattle.ar_base.specs.Lists.{Stands, IsOneOf}
use Rattle.ar_base.proofs.Standing.{stands_some, stands_within, one_none, one_cases}
use Rattle.domains.specs.declared.Value.{Value}
use Rattle.ar_meaning.specs.Facts.{FactOf}
use Rattle.ar_meaning.specs.Dependence.{Names}
use Rattle.gts_core.specs.Readings.{IsTotal}
use Rattle.gts_core.specs.Sound.{IsSound}
use Rattle.gts_core.specs.View.{net_of, assign_of}
use Rattle.gts_core.specs.declared.system.Variable.{Variable}
use Rattle.gts_core.specs.declared.system.Assign.{Assign}
use Rattle.gts_core.specs.declared.system.GtsParts.{GtsParts}
use Rattle.flow_propagate.specs.Plan.{IsPlan, Reader}
use Rattle.flow_propagate.specs.declared.plan.Plan.{Plan}
use Rattle.flow_changes.specs.Cone.{Knows, HasAll}
use Rattle.flow_changes.specs.Known.{Touches}
use Rattle.flow_changes.specs.Picking.{KeepsOthers}
use Rattle.flow_changes.specs.Queue.{IsQueue, PlaceWaits, TakesPlace}
use Rattle.flow_changes.specs.Following.{WaitsInQueue, Looks, HasPlacesTo, ClosesUp, work_left}
use Rattle.flow_changes.specs.declared.queue.Queue.{Queue}
use Rattle.flow_changes.proofs.Picks.{keeps_same, keeps_then, keeps_more}
use Rattle.flow_changes.proofs.Looks.{read_by, touches_total, looks_sound, taken}
use Rattle.flow_changes.proofs.Puts.{aims}

-- what holds while the facts of the members are gathered
pub record Closing (p : GtsParts) (plan : Plan) (members : List ℕ) (state : List Value) (first : List Bool)
    (values : List Value) (known : List Bool) (work : Queue) : Type 0 where
  pub of_values : KeepsOthers members state values
  pub of_marks : KeepsOthers members first known
  pub total : IsTotal p values
  pub grows : (m : ℕ) (v : Value) → Knows state first m v → Knows values known m v
  pub sound : (m : ℕ) (v : Value) → Knows values known m v → FactOf (net_of p) state m v
  pub queue : IsQueue work
  pub places : HasPlacesTo p plan members work.list.items
  pub settled : (m : ℕ) (a : Assign) → Stands p.assigns.items m a → IsOneOf members a.target.n
      → WaitsInQueue plan work m ⊎ HasAll (Knows values known) (assign_of a)

-- at the start all assignments to the members wait
pub closing_start : (p : GtsParts) (plan : Plan) (members : List ℕ) (state : List Value) (first : List Bool)
    (work : Queue) → IsPlan p plan → IsTotal p state
    → ((m : ℕ) (v : Value) → Knows state first m v → FactOf (net_of p) state m v)
    → IsQueue work → work.next ≡ 0 → HasPlacesTo p plan members work.list.items
    → Closing p plan members state first state first work
closing_start p plan members state first work is total sound queue fresh places = record {
  of_values = keeps_same members state;
  of_marks = keeps_same members first;
  total = total;
  grows = λ m v k. k;
  sound = sound;
  queue = queue;
  places = places;
  settled = λ m a sa o.
      let q = stands_some plan.places.items m (let h = stands_within p.assigns.items m a sa in omega (arith, h, is.schedule.long)) in
      let l = places.all m q.0 a sa o q.1 in
      inl (record {
        place = q.0;
        stands = q.1;
        waits = inl (record { at = l.place; later = omega (arith, fresh); stands = l.stands });
      });
}

module _ (p : GtsParts) (sound : IsSound p) (plan : Plan) (is : IsPlan p plan) (members : List ℕ)
    (closed : (n m : ℕ) (a : Assign) → IsOneOf members n → Stands p.assigns.items m a → Names (assign_of a) n
    → IsOneOf members a.target.n)
    (state : List Value) (first : List Bool) (values : List Value) (known : List Bool) (work : Queue)
    (c : Closing p plan members state first values known work) (mid : Queue) (place n : ℕ)
    (st : Stands plan.order.items place n) (t : TakesPlace place work mid) where
  -- the target of the assignment that was taken is a member
  pub target_in : (a : Assign) → Stands p.assigns.items n a → IsOneOf members a.target.n
  target_in a sa = c.places.targets place n a t.one st sa

  -- the places of what names its target are of the list
  pub listed : (a : Assign) (r : Reader) (q : ℕ) → Stands p.assigns.items n a → IsOneOf plan.readers.pairs.items r
      → r.0.n ≡ a.target.n → Stands plan.places.items r.1.n q → IsOneOf mid.list.items q
  listed a r q sa o e sq =
      let b = read_by p plan.readers.pairs.items is.readers r o in
      let inside : IsOneOf members r.0.n = subst (λ (z : ℕ). IsOneOf members z) (sym e) (target_in a sa) in
      let target : IsOneOf members b.assign.target.n = closed r.0.n r.1.n b.assign inside b.stands b.names in
      subst (λ (z : List ℕ). IsOneOf z q) (sym t.same) (c.places.all r.1.n q b.assign b.stands target sq)

  module _ (values' : List Value) (known' : List Bool)
      (touches : (a : Assign) (x : Variable) → Stands p.assigns.items n a → Stands p.variables.items a.target.n x
      → Touches x.domain a.target.n values known values' known') (a : Assign) (sa : Stands p.assigns.items n a) where
    touch : (x : Variable) → Stands p.variables.items a.target.n x
        → Touches x.domain a.target.n values known values' known'
    touch x sx = touches a x sa sx

    aim_touch : Touches (aims p a sound (record { place = n; stands = sa })).variable.domain a.target.n values known
        values' known'
    aim_touch = let x = aims p a sound (record { place = n; stands = sa }) in touch x.variable x.stands

    inside : (k : ℕ) → IsOneOf (a.target.n ∷ []) k → IsOneOf members k
    inside k o = elim (one_cases a.target.n [] k o)
        [ inl e ↦ subst (λ (z : ℕ). IsOneOf members z) e (target_in a sa) | inr h ↦ absurd (one_none k h) ]

    pub kept_values : KeepsOthers members state values'
    kept_values = keeps_then members state values values' c.of_values
        (keeps_more (a.target.n ∷ []) members values values' inside aim_touch.of_values)

    pub kept_marks : KeepsOthers members first known'
    kept_marks = keeps_then members first known known' c.of_marks
        (keeps_more (a.target.n ∷ []) members known known' inside aim_touch.of_marks)

    stays_total : IsTotal p values'
    stays_total = let x = aims p a sound (record { place = n; stands = sa }) in touches_total p a.target.n x.variable values known values' known' x.stands aim_touch c.total

    module _ (work' : Queue) (l : Looks p plan n values known mid values' known' work') where
      pub closing_more : Closing p plan members state first values' known' work'
      closing_more = record {
        of_values = kept_values;
        of_marks = kept_marks;
        total = stays_total;
        grows = λ m v k. l.grows m v (c.grows m v k);
        sound = looks_sound p state n values known values' known' stays_total c.sound l.only;
        queue = l.is;
        places = subst (λ (z : List ℕ). HasPlacesTo p plan members z) (sym (l.same ∙ t.same)) c.places;
        settled = λ m b sb o. l.settled m b sb
            (taken p plan work mid place n is st t (Knows values known) m b (c.settled m b sb o));
      }

      pub closing_less : work_left plan known' work' < work_left plan known work
      closing_less = let k = t.less in let h = l.less in omega (arith, k, h)

-- where none waits the facts are gathered
pub closing_done : (p : GtsParts) (plan : Plan) (members : List ℕ) (state : List Value) (first : List Bool)
    (values : List Value) (known : List Bool) (work : Queue) → Closing p plan members state first values known work
    → ((q : ℕ) → PlaceWaits work q → ⊥) → ClosesUp p plan members state first values known work.list.items
closing_done p plan members state first values known work c none = record {
  total = c.total;
  grows = c.grows;
  sound = c.sound;
  has_all = λ m a sa o. elim (c.settled m a sa o) [ inl w ↦ absurd (none w.place w.waits) | inr h ↦ h ];
  places = c.places;
}
