-- Ways, runs have one answer.
use Rattle.std.proofs.Common.{◌≡◌, ℕ, Bool, List, [], ◌∷◌, refl, sym, ◌∙◌, ap, subst}
use Rattle.ar_base.specs.Lists.{Stands, Along}
use Rattle.ar_base.specs.Lists as l
use Rattle.ar_base.proofs.Standing.{stands_one}
use Rattle.ar_meaning.specs.Systems.{System, Event, Transition, Way, Tree, Branches, Leaf, Joint}
use Rattle.ar_meaning.specs.Expand.{EventDeclaration, Member, Ways, event, Members_give, no_member, one, synchronises, Parts_give, no_part, choice, IsExpanded}
use Rattle.ar_meaning.specs.ExpandInside.{AreKeyedEvents}
use Rattle.ar_meaning.specs.Numbered.{Body, Means_way, leaf, joint, Mean_parts, part}
use Rattle.ar_meaning.specs.Numbered as numbered
use Rattle.ar_meaning.specs.Steps.{Step, Refused, Next}
use Rattle.ar_meaning.specs.Runs.{Label, IsWay, Command, Moment, Ways_listed, can, cannot, Listed, visible, hidden, Goes, ends, fires, fails, back, no_step, shows, lists, Runs, starts, start_fails, Fires, Fire_fails, first_values}
use Rattle.ar_meaning.specs.Runs as r
use Rattle.domains.specs.declared.Value.{Value}
use Rattle.ar_meaning.proofs.OneAnswer.{flows_same, step_same}

-- an event has one list of ways
module _ {L E : Type 0} (events : List (EventDeclaration L E)) (keyed : AreKeyedEvents events) where
  mutual
    pub ways_same : {e : E} {ts us : List (Tree L)} → Ways events e ts → Ways events e us → ts ≡ us
    ways_same {us = us} (event {d = d} n s k m) (event {d = d'} n' s' k' m') =
        let i = keyed.one n n' d d' s s' (k ∙ sym k') in
        let j : d ≡ d' = stands_one events n' _ _ (subst (λ z. Stands events z d) i s) s' in
        members_same m (subst (λ z. Members_give events z.members us) (sym j) m')

    pub members_same : {ms : List (Member L E)} {ts us : List (Tree L)} → Members_give events ms ts
        → Members_give events ms us → ts ≡ us
    members_same no_member no_member = refl
    members_same (one {l = l} d) (one d') = ap (λ ts. Leaf l ∷ ts) (members_same d d')
    members_same (synchronises p d) (synchronises p' d') = let e = parts_same p p' in let i = members_same d d' in cc

    pub parts_same : {ps : List (Bool × E)} {xs ys : List (Branches L)} → Parts_give events ps xs
        → Parts_give events ps ys → xs ≡ ys
    parts_same no_part no_part = refl
    parts_same (choice {must = m} w p) (choice w' p') = let e = ways_same w w' in let i = parts_same p p' in cc

-- the declared events make one list of events
module _ {V E : Type 0} (events : List (EventDeclaration (Transition V) E)) (keyed : AreKeyedEvents events) where
  event_same : (d : EventDeclaration (Transition V) E) (e f : Event V) → IsExpanded events d e → IsExpanded events d f
      → e ≡ f
  event_same d e f a b =
      go e.unit f.unit e.hidden f.hidden e.ways f.ways (sym a.unit ∙ b.unit) (sym a.hidden ∙ b.hidden)
      (ways_same events keyed a.ways b.ways)
    where
      go : (u v : ℕ) (h k : Bool) (ws xs : List (Way V)) → u ≡ v → h ≡ k → ws ≡ xs
          → ◌≡◌ {A = Event V} (record { unit = u; hidden = h; ways = ws }) (record { unit = v; hidden = k; ways = xs })
      go u v h k ws xs a b c = cc

  pub events_same : {ds : List (EventDeclaration (Transition V) E)} {es fs : List (Event V)} → Along (IsExpanded events)
      ds es → Along (IsExpanded events) ds fs → es ≡ fs
  events_same l.none l.none = refl
  events_same (l.one_and {a = d} {b = e} r rs) (l.one_and {b = f} s ss) =
      let i : e ≡ f = event_same d e f r s in
      let j = events_same rs ss in
      cc

-- a number stands for one way
module _ {L : Type 0} (bodies : List (Body L)) where
  mutual
    pub means_same : {n : ℕ} {t u : Tree L} → Means_way bodies n t → Means_way bodies n u → t ≡ u
    means_same {n = n} (leaf s) (leaf s') = let e = stands_one bodies n _ _ s s' in cc
    means_same {n = n} (leaf s) (joint s' d') = let e = stands_one bodies n _ _ s s' in cc
    means_same {n = n} (joint s d) (leaf s') = let e = stands_one bodies n _ _ s s' in cc
    means_same {n = n} (joint {parts = ps} s d) (joint {parts = qs} {bs = us} s' d') =
        let e = stands_one bodies n _ _ s s' in let i : ps ≡ qs = cc in
        ap Joint (mean_same d (subst (λ z. Mean_parts bodies z us) (sym i) d'))

    pub mean_same : {ns : List (Bool × ℕ)} {bs cs : Branches L} → Mean_parts bodies ns bs → Mean_parts bodies ns cs
        → bs ≡ cs
    mean_same numbered.no_part numbered.no_part = refl
    mean_same (part w p) (part w' p') = let e = means_same w w' in let i = mean_same p p' in cc

module _ {V : Type 0} (sys : System V) where
  pub way_same : {k : Label} {v w : Way V} → IsWay sys k v → IsWay sys k w → v ≡ w
  way_same {k = k} {v = v} {w = w} a b =
      let e = stands_one sys.events k.event a.event b.event a.is_event b.is_event in
      stands_one b.event.ways k.way v w (subst (λ z. Stands z.ways k.way v) e a.is_way) b.is_way

  pub ways_listed_same : {P : V → Value → Type 0} {e k : ℕ} {ws : List (Way V)} {ls ms : List Label}
      → Ways_listed P e k ws ls → Ways_listed P e k ws ms → ls ≡ ms
  ways_listed_same r.none r.none = refl
  ways_listed_same (can c d) (can c' d') = let i = ways_listed_same d d' in cc
  ways_listed_same (can c d) (cannot n d') = absurd (n c)
  ways_listed_same (cannot n d) (can c d') = absurd (n c)
  ways_listed_same (cannot n d) (cannot n' d') = ways_listed_same d d'

  pub listed_same : {P : V → Value → Type 0} {e : ℕ} {vs : List (Event V)} {ls ms : List Label} → Listed P e vs ls
      → Listed P e vs ms → ls ≡ ms
  listed_same r.none r.none = refl
  listed_same (visible h w d) (visible h' w' d') = let i = ways_listed_same w w' in let j = listed_same d d' in cc
  listed_same (visible h w d) (hidden h' d') = cc
  listed_same (hidden h d) (visible h' w' d') = cc
  listed_same (hidden h d) (hidden h' d') = listed_same d d'

  pub goes_same : {below : List (List Value)} {t : List Value} {cs : List Command} {ms ns : List Moment}
      → Goes sys below t cs ms → Goes sys below t cs ns → ms ≡ ns
  goes_same ends ends = refl
  goes_same {below = below} {t = t} (fires {u = u} {l = k} {cs = cs} {ms = ms} w i s d)
      (fires {u = u'} {ms = ns} w' i' s' d') =
      let e : w ≡ w' = way_same i i' in
      let a = step_same sys.net (subst (λ z. Step sys.net t z (Next u)) e s) s' in
      let b : u ≡ u' = cc in
      let c = goes_same d (subst (λ z. Goes sys (t ∷ below) z cs ns) (sym b) d') in cc
  goes_same {t = t} (fires {u = u} w i s d) (fails w' i' s') =
      let e : w ≡ w' = way_same i i' in
      let a = step_same sys.net (subst (λ z. Step sys.net t z (Next u)) e s) s' in cc
  goes_same {t = t} (fails {f = f} w i s) (fires w' i' s' d') =
      let e : w ≡ w' = way_same i i' in
      let a = step_same sys.net (subst (λ z. Step sys.net t z (Refused f)) e s) s' in cc
  goes_same {t = t} (fails {f = f} w i s) (fails w' i' s') =
      let e : w ≡ w' = way_same i i' in
      let a = step_same sys.net (subst (λ z. Step sys.net t z (Refused f)) e s) s' in cc
  goes_same (back d) (back d') = let i = goes_same d d' in cc
  goes_same no_step no_step = refl
  goes_same (shows d) (shows d') = let i = goes_same d d' in cc
  goes_same (lists a d) (lists a' d') = let i = listed_same a a' in let j = goes_same d d' in cc

  pub runs_same : {cs : List Command} {ms ns : List Moment} → Runs sys cs ms → Runs sys cs ns → ms ≡ ns
  runs_same {cs = cs} {ns = ns} (starts {t = t} {ms = ms} f d) (starts {t = u} {ms = ns'} f' d') =
      let a = flows_same sys.net f f' in let b : t ≡ u = cc in
      let c = goes_same d (subst (λ z. Goes sys [] z cs ns') (sym b) d') in cc
  runs_same (starts f d) (start_fails f') = let a = flows_same sys.net f f' in cc
  runs_same (start_fails f) (starts f' d') = let a = flows_same sys.net f f' in cc
  runs_same (start_fails f) (start_fails f') = let a = flows_same sys.net f f' in cc
