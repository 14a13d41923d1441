-- A system's image has the same runs.
use Rattle.std.proofs.Common.{◌≡◌, ℕ, List, refl, sym, ◌∙◌, subst}
use Rattle.ar_base.specs.Lists.{Stands, Along, IsFirst}
use Rattle.ar_base.specs.Lists as l
use Rattle.ar_meaning.specs.Systems.{Variable, System, Event, Way}
use Rattle.ar_meaning.specs.Image.{Way_renames, Variable_renames, Event_renames}
use Rattle.ar_meaning.specs.ImageInside.{IsImage}
use Rattle.ar_meaning.specs.Facts.{HasValue}
use Rattle.ar_meaning.specs.Flows.{Flows, Fails, Total}
use Rattle.ar_meaning.specs.Runs.{Label, IsWay, Command, Moment, Ways_listed, can, cannot, Listed, visible, hidden, Goes, ends, fires, fails, back, no_step, shows, lists, Runs, starts, start_fails, first_values}
use Rattle.ar_meaning.specs.Runs as r
use Rattle.domains.specs.declared.Value.{Value}
use Rattle.typed_expr.specs.PairsInside.{turned_pairs}
use Rattle.ar_meaning.proofs.ImageTurned.{net_turned, way_turned}
use Rattle.ar_meaning.proofs.ImageFlows.{partner, can_there, value_there, flows_there, step_there}

module _ {V W : Type 0} (same : V → W → Type 0) (A : System V) (B : System W) (image : IsImage same A B) where
  pub ways_listed_there : (t : List Value) {vs : List (Way V)} {ws : List (Way W)} {e k : ℕ} {ls : List Label}
      → Along (Way_renames same) vs ws
      → Ways_listed (HasValue A.net t) e k vs ls → Ways_listed (HasValue B.net t) e k ws ls
  ways_listed_there t l.none r.none = r.none
  ways_listed_there t (l.one_and q qs) (can c d) =
      can
      (can_there V W (HasValue A.net t) (HasValue B.net t) same
      (λ x y d s h. value_there same A.net B.net image.net t x y d s h) image.net.one q c)
      (ways_listed_there t qs d)
  ways_listed_there t (l.one_and q qs) (cannot n d) =
      let behind = net_turned same image.net in
      cannot
      (λ c. n (can_there W V (HasValue B.net t) (HasValue A.net t) (turned_pairs same)
      (λ y x d s h. value_there (turned_pairs same) B.net A.net behind t y x d s h) behind.one (way_turned same q) c))
      (ways_listed_there t qs d)

  pub listed_there : (t : List Value) {vs : List (Event V)} {ws : List (Event W)} {e : ℕ} {ls : List Label}
      → Along (Event_renames same) vs ws
      → Listed (HasValue A.net t) e vs ls → Listed (HasValue B.net t) e ws ls
  listed_there t l.none r.none = r.none
  listed_there t (l.one_and q qs) (visible h w d) =
      visible (sym q.hidden ∙ h) (ways_listed_there t q.ways w) (listed_there t qs d)
  listed_there t (l.one_and q qs) (hidden h d) = hidden (sym q.hidden ∙ h) (listed_there t qs d)

  pub goes_there : {below : List (List Value)} {t : List Value} {cs : List Command} {ms : List Moment}
      → Goes A below t cs ms → Goes B below t cs ms
  goes_there ends = ends
  goes_there (fires {l = k} w a s d) =
      let e = partner image.events k.event a.event a.is_event in
      let v = partner e.related.ways k.way w a.is_way in
      fires v.item (record { event = e.item; is_event = e.stands; is_way = v.stands })
      (step_there same A.net B.net image.net v.related s) (goes_there d)
  goes_there (fails {l = k} w a s) =
      let e = partner image.events k.event a.event a.is_event in
      let v = partner e.related.ways k.way w a.is_way in
      fails v.item (record { event = e.item; is_event = e.stands; is_way = v.stands })
      (step_there same A.net B.net image.net v.related s)
  goes_there (back d) = back (goes_there d)
  goes_there no_step = no_step
  goes_there (shows d) = shows (goes_there d)
  goes_there {t = t} (lists a d) = lists (listed_there t image.events a) (goes_there d)

  pub first_values_there : {xs : List (Variable V)} {ys : List (Variable W)} → Along (Variable_renames same) xs ys
      → first_values xs ≡ first_values ys
  first_values_there l.none = refl
  first_values_there (l.one_and r rs) = let h = r.value in let i = first_values_there rs in cc

  pub runs_there : {cs : List Command} {ms : List Moment} → Runs A cs ms → Runs B cs ms
  runs_there (starts {t = t} f d) =
      starts
      (subst (λ z. Flows B.net z (Total t)) (first_values_there image.net.variables)
      (flows_there same A.net B.net image.net f))
      (goes_there d)
  runs_there (start_fails {f = x} f) =
      start_fails
      (subst (λ z. Flows B.net z (Fails x)) (first_values_there image.net.variables)
      (flows_there same A.net B.net image.net f))
