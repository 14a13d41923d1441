-- Edges that enter a mode again break the sixth rule.
use Rattle.std.proofs.Common.{◌≡◌, ◌<◌, ℕ, suc, ◌⊎◌, inl, inr, Bool, true, false, List, ◌∷◌, map, refl, sym, ap, ◌∙◌, subst, arith}
use Rattle.std.proofs.lemmas.Bool.{cases_eq}
use Rattle.ar_base.specs.Lists.{Stands, IsOneOf}
use Rattle.ar_base.proofs.Standing.{stands_one, stands_map, one_here}
use Rattle.domains.specs.declared.Value.{Value}
use Rattle.typed_expr.proofs.Listing.{value_told}
use Rattle.ar_meaning.specs.Systems as s
use Rattle.ar_meaning.specs.Systems.{System}
use Rattle.ar_meaning.specs.Runs.{Label}
use Rattle.ar_firing.specs.Fragment.{IsLive}
use Rattle.ar_firing.specs.Rules.{KeepsS1, KeepsS2, AreTwoEdges, ways, modes, BreaksS6, stays, by_events, by_edges, initial, Spot, S6, BreaksStaticRule, s6}
use Rattle.gts_core.specs.View.{variable_of}
use Rattle.gts_core.specs.declared.system.GtsParts.{GtsParts}
use Rattle.mode_search.specs.declared.kept.KeptWay.{KeptWay}
use Rattle.mode_trees.specs.Views.{number_in}
use Rattle.mode_trees.specs.declared.forests.Edge.{Edge}
use Rattle.mode_search.specs.Reached.{Setting, IsReachable, here, along, IsReachFrom, EntersAgain, HasModeAgain}
use Rattle.mode_search.specs.declared.searching.Reach.{Reach}
use Rattle.mode_search.specs.Reaches.{IsAgainAt}
use Rattle.static_fragment.specs.Setting.{AreReached, label_in}
use Rattle.static_fragment.proofs.Ways.{variable_at}
use Rattle.static_fragment.proofs.Leading.{looked, variable_is, live_there, FoundEdge, live_back, way_of_label}
use Rattle.static_fragment.proofs.Listing.{not_two, label_same}

-- a flag that is not unset is set
again_is : (first : Value) (ms : List Value) (es : List Edge) (b : Bool) → HasModeAgain first ms es b
    → (HasModeAgain first ms es false → ⊥) → b ≡ true
again_is first ms es true h n = refl
again_is first ms es false h n = absurd (n h)

again_says : (first : Value) (ms : List Value) (es : List Edge) (b : Bool) → b ≡ true → HasModeAgain first ms es b
    → EntersAgain first es
again_says first ms es true e h = h
again_says first ms es false e h = absurd (cc e)

-- where each mode but the first is entered by one edge, none enters the first, no two enter one, and none stays
module _ (s : Setting) (first : Value) (r : Reach) (q : IsReachFrom s first r)
    (once : r.modes.items ≡ first ∷ map (λ (e : Edge). e.to) r.edges.items) where
  mode_after : (j : ℕ) (e : Edge) → Stands r.edges.items j e → Stands r.modes.items (suc j) e.to
  mode_after j e st = subst (λ (z : List Value). Stands z (suc j) e.to) (sym once)
      (stands_map (λ (x : Edge). x.to) r.edges.items j e st)

  mode_first : Stands r.modes.items 0 first
  mode_first = subst (λ (z : List Value). Stands z 0 first) (sym once) refl

  pub none_begins : (e : Edge) → IsOneOf r.edges.items e → e.to ≡ first → ⊥
  none_begins e o i =
      let k = q.different.one (suc o.place) 0 first (subst (λ (z : Value). Stands r.modes.items (suc o.place) z) i
      (mode_after o.place e o.stands)) mode_first in omega arith

  pub one_enters : (e f : Edge) → IsOneOf r.edges.items e → IsOneOf r.edges.items f → e.to ≡ f.to → e ≡ f
  one_enters e f o u i =
      let k = q.different.one (suc o.place) (suc u.place) f.to
      (subst (λ (z : Value). Stands r.modes.items (suc o.place) z) i (mode_after o.place e o.stands))
      (mode_after u.place f u.stands) in
      let same : o.place ≡ u.place = omega arith in
      stands_one r.edges.items u.place e f (subst (λ (z : ℕ). Stands r.edges.items z e) same o.stands) u.stands

  -- a mode that only its own edge enters is not reached
  not_by_itself : (e : Edge) → IsOneOf r.edges.items e → e.from ≡ e.to → (m : Value) → IsReachable s first m
      → m ≡ e.to → ⊥
  not_by_itself e o i m here j = none_begins e o (sym j)
  not_by_itself e o i m (along f h g) j =
      let same : f ≡ e = one_enters f e (q.edges_whole f h g) o j in
      not_by_itself e o i f.from h (ap (λ (z : Edge). z.from) same ∙ i)

  pub none_stays : (e : Edge) → IsOneOf r.edges.items e → e.from ≡ e.to → ⊥
  none_stays e o i = not_by_itself e o i e.from (q.edges_sound e o).0 i

module _ {p : GtsParts} {system : System ℕ} {dropped : List ℕ} {kept : List KeptWay} {reaches : List Reach}
    (a : AreReached p system dropped kept reaches) where
  -- two edges that enter one mode
  two_enter : (n : ℕ) (r : Reach) → Stands reaches n r → (j k : ℕ) (f e : Edge) → j < k → Stands r.edges.items j f
      → Stands r.edges.items k e → f.to ≡ e.to
      → (f.event.n ≡ e.event.n) ⊎ (f.event.n ≡ e.event.n → ⊥) → BreaksS6 system dropped n
  two_enter n r st j k f e l sf se i t = by t
    where
      live_f : IsLive system dropped (label_in p f) n f.from e.to
      live_f = subst (λ (z : Value). IsLive system dropped (label_in p f) n f.from z) i
          (live_there a n r st f (one_here r.edges.items j f sf))

      live_e : IsLive system dropped (label_in p e) n e.from e.to
      live_e = live_there a n r st e (one_here r.edges.items k e se)

      two : f.event.n ≡ e.event.n → (number_in p f.way.n ≡ number_in p e.way.n) ⊎
          (number_in p f.way.n ≡ number_in p e.way.n → ⊥)
          → (f.from ≡ e.from) ⊎ (f.from ≡ e.from → ⊥) → AreTwoEdges (label_in p f) (label_in p e) n n f.from e.from
      two ev (inr d) u = ways d
      two ev (inl w) (inr d) = modes d
      two ev (inl w) (inl u) =
          let way = way_of_label a n n r r st st f e (one_here r.edges.items j f sf) (one_here r.edges.items k e se)
          (label_same p f e ev w) in
          let q = a.are.each n r st in
          let same = q.is.apart j k f e sf se u way in absurd (omega arith)

      by : (f.event.n ≡ e.event.n) ⊎ (f.event.n ≡ e.event.n → ⊥) → BreaksS6 system dropped n
      by (inr d) = by_events (label_in p f) (label_in p e) f.from e.from e.to live_f live_e d
      by (inl ev) = by_edges (label_in p f) (label_in p e) f.from e.from e.to live_f live_e ev
          (two ev (cases_eq (number_in p f.way.n) (number_in p e.way.n)) (value_told f.from e.from))

  pub again_breaks : (n : ℕ) → IsAgainAt reaches n → BreaksS6 system dropped n
  again_breaks n w =
      let q = a.are.each n w.reach w.stands in
      let k = again_says q.variable.value w.reach.modes.items w.reach.edges.items w.reach.again w.again q.is.again in
      elim k.again [
        | inl i ↦ initial (label_in p k.edge) k.edge.from (variable_of n q.variable)
            (variable_at a.ways n q.variable q.stands)
            (subst (λ (z : Value). IsLive system dropped (label_in p k.edge) n k.edge.from z) i
            (live_there a n w.reach w.stands k.edge (one_here w.reach.edges.items k.place k.edge k.stands)))
        | inr h ↦ two_enter n w.reach w.stands h.0 k.place h.1 k.edge h.2 h.3 k.stands h.4
            (cases_eq h.1.event.n k.edge.event.n)
      ]

  module _ (k1 : KeepsS1 system) (k2 : KeepsS2 system dropped) where
    -- the value of the variable of this number
    abbrev IsValueOf : ℕ → Value → Type 0
    IsValueOf n first = (x : s.Variable ℕ) → Stands system.net.variables n x → x.value ≡ first

    -- in what is reached from the first mode some edges contradict that each mode is entered once
    again_at : (n : ℕ) (r : Reach) → Stands reaches n r
        → ((first : Value) (s : Setting) → IsValueOf n first → IsReachFrom s first r
        → r.modes.items ≡ first ∷ map (λ (e : Edge). e.to) r.edges.items → ⊥) → IsAgainAt reaches n
    again_at n r st never =
        let q = a.are.each n r st in
        record {
          reach = r;
          stands = st;
          again = again_is q.variable.value r.modes.items r.edges.items r.again q.is.again
              (never q.variable.value (looked a.ways n q.variable)
              (λ x sx. ap (λ (z : s.Variable ℕ). z.value) (variable_is a.ways n q.variable q.stands x sx)) q.is);
        }

    -- the edge that was found, in the reach of another of the variable
    also : (n : ℕ) (r : Reach) → Stands reaches n r → (l : Label) (from to : Value) (b : FoundEdge a k1 k2 l n from to)
        → IsOneOf r.edges.items b.edge
    also n r st l from to b = subst (λ (z : Reach). IsOneOf z.edges.items b.edge)
        (stands_one reaches n b.reach r b.stands st) b.is_one

    two_again : (n : ℕ) (k l : Label) (u v x : Value) → IsLive system dropped k n u x → IsLive system dropped l n v x
        → ((k ≡ l) → (u ≡ v) → ⊥) → IsAgainAt reaches n
    two_again n k l u v x h i d =
        let b = live_back a k1 k2 k n u x h in
        let g = live_back a k1 k2 l n v x i in
        again_at n b.reach b.stands (λ first s is q once.
        let same = one_enters s first b.reach q once b.edge g.edge b.is_one (also n b.reach b.stands l v x g)
        (b.is_to ∙ sym g.is_to) in
        d (sym b.label ∙ (ap (label_in p) same ∙ g.label)) (sym b.is_from ∙
        (ap (λ (z : Edge). z.from) same ∙ g.is_from)))

    pub breaks_again : (n : ℕ) → BreaksS6 system dropped n → IsAgainAt reaches n
    breaks_again n (stays l u v h e) =
        let b = live_back a k1 k2 l n u v h in
        again_at n b.reach b.stands (λ first s is q once. none_stays s first b.reach q once b.edge b.is_one
        (b.is_from ∙ (e ∙ sym b.is_to)))
    breaks_again n (by_events k l u v x h i d) = two_again n k l u v x h i (λ e f. d (ap (λ (z : Label). z.event) e))
    breaks_again n (by_edges k l u v x h i e t) = two_again n k l u v x h i (λ j f. not_two k l n n u v j refl f t)
    breaks_again n (initial l u x sx h) =
        let b = live_back a k1 k2 l n u x.value h in
        again_at n b.reach b.stands (λ first s is q once. none_begins s first b.reach q once b.edge b.is_one
        (b.is_to ∙ is x sx))

    pub unbroken_s6 : ((n : ℕ) → IsAgainAt reaches n → ⊥) → (spot : Spot) → BreaksStaticRule system dropped S6 spot → ⊥
    unbroken_s6 none spot (s6 {n = n} h) = none n (breaks_again n h)
