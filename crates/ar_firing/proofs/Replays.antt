-- A list of labels fires without fault exactly where the script that fires them does.
use Rattle.std.proofs.Common.{◌≡◌, ◌+◌, ℕ, zero, suc, List, [], ◌∷◌, ◌++◌, reverse, map, length, refl, sym, ◌∙◌, ap, subst, arith}
use Rattle.std.proofs.lemmas.List.{reverse-append, reverse-reverse}
use Rattle.ar_base.specs.Lists.{Stands}
use Rattle.domains.specs.declared.Value.{Value}
use Rattle.ar_meaning.specs.Systems.{Way, System}
use Rattle.ar_meaning.specs.Flows.{FlowFault}
use Rattle.ar_meaning.specs.Steps.{Step, Next, Refused, Flow}
use Rattle.ar_meaning.specs.Runs.{Label, IsWay, Command, Fire, Moment, Start, Starts, Fires, Goes, ends, fires, fails, back, no_step, shows, lists, Runs, starts, start_fails}
use Rattle.ar_meaning.proofs.OneRun.{way_same}
use Rattle.ar_firing.specs.Fragment.{IsOpen}
use Rattle.ar_firing.specs.Cuts.{Reaches, start, fire, Conflicts}
use Rattle.ar_firing.specs.Cuts as conflict
use Rattle.ar_firing.specs.Replays.{AreOpen, AllFire, LastFails, FailsLast}
use Rattle.ar_firing.specs.Replays as replays

-- the labels fire one after the other, the first first
pub data Chain {V : Type 0} (sys : System V) (dropped : List ℕ) : List Value → List Label → List Value → Type 0 where
  none : {t : List Value} → Chain sys dropped t [] t
  step : {t u v : List Value} {l : Label} {ls : List Label} (w : Way V) → IsOpen sys dropped l w
      → Step sys.net t w (Next u) → Chain sys dropped u ls v → Chain sys dropped t (l ∷ ls) v

module _ {V : Type 0} (sys : System V) (dropped : List ℕ) where
  longer : {t u v : List Value} {ls : List Label} (l : Label) → Chain sys dropped t ls u → (w : Way V)
      → IsOpen sys dropped l w → Step sys.net u w (Next v) → Chain sys dropped t (ls ++ (l ∷ [])) v
  longer l none w o s = step w o s none
  longer l (step w o s c) v p r = step w o s (longer l c v p r)

  pub unwound : {ls : List Label} {t : List Value} → Reaches sys dropped ls t
      → (s : List Value) × Start sys.net s × Chain sys dropped s (reverse ls) t
  unwound (start {t = t} f) = (t, f, none)
  unwound {t = t} (fire {ls = ls} {l = l} w r o s) =
      let c = unwound r in
      (c.0, c.1, subst (λ z. Chain sys dropped c.0 z t) (sym (reverse-append (l ∷ []) ls)) (longer l c.2 w o s))

  rewound : {ls ks : List Label} {t u : List Value} → Reaches sys dropped ls t → Chain sys dropped t ks u
      → Reaches sys dropped (reverse ks ++ ls) u
  rewound r none = r
  rewound {ls = ls} {u = u} r (step {l = l} {ls = ks} w o s c) =
      let e : reverse ks ++ (l ∷ ls) ≡ reverse (l ∷ ks) ++ ls =
      sym (ap (λ z. z ++ ls) (reverse-append (l ∷ []) ks) ∙ regrouped (reverse ks) l ls) in
      subst (λ z. Reaches sys dropped z u) e (rewound (fire w r o s) c)
    where
      regrouped : (front : List Label) (l : Label) (b : List Label) → (front ++ (l ∷ [])) ++ b ≡ front ++ (l ∷ b)
      regrouped [] l b = refl
      regrouped (x ∷ front) l b = ap (λ z. x ∷ z) (regrouped front l b)

  goes : {t u : List Value} {ls : List Label} (below : List (List Value)) (steps : ℕ) → steps ≡ length below + length ls
      → Chain sys dropped t ls u
      → (ms : List Moment) × Goes sys below t (map Fire ls) ms × AllFire steps ls t ms u
  goes {t = t} below steps e none =
      let i : length below ≡ steps = omega (arith, e) in
      (_, ends, subst (λ z. AllFire steps [] t (Rattle.ar_meaning.specs.Runs.Ends z ∷ []) t) (sym i) replays.none)
  goes {t = t} below steps e (step {u = u} w o s c) =
      let r = goes (t ∷ below) steps (omega (arith, e)) c in
      (_, fires w o.is_kept.is_way s r.1, replays.fire r.2)

  -- what a run tells where a label fires without fault
  record Fired (below : List (List Value)) (t : List Value) (l : Label) (cs : List Command) (u : List Value)
      (ms : List Moment) : Type 0 where
    pub way : Way V
    pub is_way : IsWay sys l way
    pub steps : Step sys.net t way (Next u)
    pub goes_on : Goes sys (t ∷ below) u cs ms

  fired : {below : List (List Value)} {t : List Value} {ds : List Command} {ns : List Moment} → Goes sys below t ds ns
      → (l : Label) (cs : List Command) (u : List Value) (ms : List Moment)
      → ds ≡ Fire l ∷ cs → ns ≡ Fires l t u ∷ ms → Fired below t l cs u ms
  fired ends l cs u ms e f = cc
  fired {below = below} {t = t} (fires {u = v} {l = k} {cs = ds} {ms = ns} w i s g) l cs u ms e f =
      let a : k ≡ l = cc in
      let b : ds ≡ cs = cc in
      let c : v ≡ u = cc in
      let d : ns ≡ ms = cc in
      record {
        way = w;
        is_way = subst (λ z. IsWay sys z w) a i;
        steps = subst (λ z. Step sys.net t w (Next z)) c s;
        goes_on =
            subst (λ z. Goes sys (t ∷ below) z cs ms) c
            (subst (λ z. Goes sys (t ∷ below) v z ms) b (subst (λ z. Goes sys (t ∷ below) v ds z) d g));
      }
  fired (fails w i s) l cs u ms e f = cc
  fired (back g) l cs u ms e f = cc
  fired no_step l cs u ms e f = cc
  fired (shows g) l cs u ms e f = cc
  fired (lists a g) l cs u ms e f = cc

  went : {steps : ℕ} {t u : List Value} {ls : List Label} {below : List (List Value)} {ms : List Moment}
      → AreOpen sys dropped ls → AllFire steps ls t ms u → Goes sys below t (map Fire ls) ms → Chain sys dropped t ls u
  went o replays.none g = none
  went {t = t} o (replays.fire {l = l} {ls = ls} {u = u} {ms = ms} d) g =
      let r = fired g l (map Fire ls) u ms refl refl in
      let k = o.each zero l refl in
      let e : r.way ≡ k.0 = way_same sys r.is_way k.1.is_kept.is_way in
      step k.0 k.1 (subst (λ z. Step sys.net t z (Next u)) e r.steps)
      (went (record { each = λ j m h. o.each (suc j) m h }) d r.goes_on)

  all_open : {t u : List Value} {ls : List Label} → Chain sys dropped t ls u → AreOpen sys dropped ls
  all_open none = record { each = λ k l s. cc }
  all_open (step {l = l} {ls = ls} w o s c) = record { each = λ k m h. go (all_open c) k m h }
    where
      go : AreOpen sys dropped ls → (k : ℕ) (m : Label) → Stands (l ∷ ls) k m → (w : Way V) × IsOpen sys dropped m w
      go r zero m h = let e : l ≡ m = cc in (w, subst (λ z. IsOpen sys dropped z w) e o)
      go r (suc k) m h = r.each k m h

  -- what fires without fault replays
  pub replays_so : {ls : List Label} {u : List Value} → Reaches sys dropped (reverse ls) u
      → AreOpen sys dropped ls
      × ((t : List Value) × (ms : List Moment) × Runs sys (map Fire ls) (Starts t ∷ ms) × AllFire (length ls) ls t ms u)
  replays_so {ls = ls} {u = u} r =
      let c = unwound r in
      let d = subst (λ z. Chain sys dropped c.0 z u) (reverse-reverse ls) c.2 in
      let g = goes [] (length ls) (omega arith) d in
      (all_open d, (c.0, g.0, starts c.1 g.1, g.2))

  -- what replays fires without fault
  pub fires_so : {ls : List Label} {t u : List Value} {ms : List Moment} {steps : ℕ} → AreOpen sys dropped ls
      → Runs sys (map Fire ls) (Starts t ∷ ms) → AllFire steps ls t ms u → Reaches sys dropped (reverse ls) u
  fires_so {ls = ls} {u = u} o (starts f g) d =
      subst (λ z. Reaches sys dropped z u) (nil (reverse ls)) (rewound (start f) (went o d g))
    where
      nil : (xs : List Label) → xs ++ [] ≡ xs
      nil [] = refl
      nil (x ∷ xs) = ap (λ z. x ∷ z) (nil xs)

  fails_last : {t u : List Value} {ls : List Label} {f : FlowFault} (below : List (List Value)) (l : Label)
      → Chain sys dropped t ls u → (w : Way V) → IsOpen sys dropped l w → Step sys.net u w (Refused (Flow f))
      → (ms : List Moment) × Goes sys below t (map Fire (ls ++ (l ∷ []))) ms × LastFails f (ls ++ (l ∷ [])) t ms
  fails_last below l none w o s = (_, fails w o.is_kept.is_way s, replays.last)
  fails_last {t = t} below l (step v p r c) w o s =
      let k = fails_last (t ∷ below) l c w o s in
      (_, fires v p.is_kept.is_way r k.1, replays.fire k.2)

  -- what meets a conflict replays up to its fault
  conflict_unwound : {ls : List Label} {f : FlowFault} → Conflicts sys dropped ls f
      → (ms : List Moment) × Runs sys (map Fire (reverse ls)) ms × FailsLast f (reverse ls) ms
  conflict_unwound (conflict.start f) = (_, start_fails f, replays.at_start)
  conflict_unwound {f = f} (conflict.fire {ls = ls} {l = l} w r o s) =
      let c = unwound r in
      let k = fails_last [] l c.2 w o s in
      let e : reverse ls ++ (l ∷ []) ≡ reverse (l ∷ ls) = sym (reverse-append (l ∷ []) ls) in
      subst (λ z. (ms : List Moment) × Runs sys (map Fire z) ms × FailsLast f z ms) e
      (_, starts c.1 k.1, replays.at_last k.2)

  pub conflict_replays : {ls : List Label} {f : FlowFault} → Conflicts sys dropped (reverse ls) f
      → (ms : List Moment) × Runs sys (map Fire ls) ms × FailsLast f ls ms
  conflict_replays {ls = ls} {f = f} c =
      subst (λ z. (ms : List Moment) × Runs sys (map Fire z) ms × FailsLast f z ms) (reverse-reverse ls)
      (conflict_unwound c)
