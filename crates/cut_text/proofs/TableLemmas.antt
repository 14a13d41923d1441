-- The table of the ways of events.
use Rattle.std.proofs.Common.{◌≡◌, ◌<◌, ◌≤◌, ◌+◌, ⊎_elim, ℕ, zero, suc, List, [], ◌∷◌, ◌++◌, drop, length, set, get_or, refl, sym, ◌∙◌, ap, subst, arith}
use Rattle.std.proofs.lemmas.Bool.{cases_eq}
use Rattle.std.proofs.lemmas.List.{length-set, at_drop_more, at_drop_all}
use Rattle.ar_base.specs.Lists.{Stands, IsOneOf}
use Rattle.ar_base.specs.Numbers.{WayId}
use Rattle.ar_base.proofs.Standing.{one_cases, one_first, one_rest, one_here, one_left, one_right, one_split, one_none, stands_get, stands_within}
use Rattle.ar_base.proofs.Items.{stands_set}
use Rattle.gts_core.specs.Sound.{IsSound}
use Rattle.gts_core.specs.declared.system.GtsParts.{GtsParts}
use Rattle.mode_trees.specs.Ways.{HasOwnWay, OwnTheirWays}
use Rattle.mode_trees.specs.declared.forests.Edge.{Edge}
use Rattle.mode_trees.specs.declared.forests.ModeTree.{ModeTree}
use Rattle.cut_text.specs.Printed.{forest_edges, HaveOneWay}
use Rattle.cut_text.specs.Tables.{HasEdgeWays, with_ways}

set_else : {A : Type 0} (xs : List A) (i : ℕ) (v : A) (k : ℕ) (a : A) → (i ≡ k → ⊥) → Stands xs k a → Stands
    (set xs i v) k a
set_else [] i v k a d s = s
set_else (x ∷ xs) zero v zero a d s = absurd (d refl)
set_else (x ∷ xs) zero v (suc k) a d s = s
set_else (x ∷ xs) (suc i) v zero a d s = s
set_else (x ∷ xs) (suc i) v (suc k) a d s = set_else xs i v k a (λ e. d (ap suc e)) s

-- the table has this number of a way for the event
abbrev Has : List WayId → ℕ → ℕ → Type 0
Has ways e v = (way : WayId) × Stands ways e way × (way.n ≡ v)

-- the events of these edges are numbers of the table
pub record AreWithin (n : ℕ) (edges : List Edge) : Type 0 where
  pub each : (x : Edge) → IsOneOf edges x → x.event.n < n

pub long : (xs : List Edge) (ways : List WayId) → length (with_ways xs ways) ≡ length ways
long [] ways = refl
long (x ∷ xs) ways = long xs (set ways x.event.n x.way) ∙ length-set ways x.event.n x.way

keeps : (xs : List Edge) (ways : List WayId) (e v : ℕ) → AreWithin (length ways) xs
    → ((x : Edge) → IsOneOf xs x → x.event.n ≡ e → x.way.n ≡ v) → Has ways e v → Has (with_ways xs ways) e v
keeps [] ways e v within one h = h
keeps (x ∷ xs) ways e v within one h =
    keeps xs (set ways x.event.n x.way) e v
    (record {
      each = λ y o. let l = within.each y (one_rest x xs y o) in omega
          (arith, l, length-set ways x.event.n x.way);
    })
    (λ y o. one y (one_rest x xs y o))
    (⊎_elim
    (λ (i : x.event.n ≡ e). (
      x.way,
      subst (λ (k : ℕ). Stands (set ways x.event.n x.way) k x.way) i
          (stands_set ways x.event.n x.way (within.each x (one_first x xs))),
      one x (one_first x xs) i,
    ))
    (λ (d : x.event.n ≡ e → ⊥). (h.0, set_else ways x.event.n x.way e h.0 d h.1, h.2))
    (cases_eq x.event.n e))

tabled : (xs : List Edge) (ways : List WayId) → AreWithin (length ways) xs → HaveOneWay xs → (x : Edge) → IsOneOf xs x
    → Has (with_ways xs ways) x.event.n x.way.n
tabled [] ways within one x o = absurd (one_none x o)
tabled (y ∷ xs) ways within one x o =
    let rest : AreWithin (length (set ways y.event.n y.way)) xs =
    record {
      each = λ z q. let l = within.each z (one_rest y xs z q) in omega
          (arith, l, length-set ways y.event.n y.way);
    } in
    ⊎_elim
    (λ (i : y ≡ x).
    keeps xs (set ways y.event.n y.way) x.event.n x.way.n rest
    (λ z q e. one.one z x (one_rest y xs z q) o e) (
      y.way,
      subst (λ (z : Edge). Stands (set ways y.event.n y.way) z.event.n y.way) i
          (stands_set ways y.event.n y.way (within.each y (one_first y xs))),
      ap (λ (z : Edge). z.way.n) i,
    ))
    (λ (q : IsOneOf xs x).
    tabled xs (set ways y.event.n y.way) rest (record {
      one = λ a b p r. one.one a b (one_rest y xs a p)
          (one_rest y xs b r);
    }) x q)
    (one_cases y xs x o)

-- the table of all edges
pub are_ways : (xs : List Edge) (ways : List WayId) → AreWithin (length ways) xs → HaveOneWay xs
    → HasEdgeWays xs (with_ways xs ways)
are_ways xs ways within one = record { each = λ x o. tabled xs ways within one x o }

-- edges and then others
pub with_both : (xs ys : List Edge) (ways : List WayId) → with_ways (xs ++ ys) ways ≡ with_ways ys (with_ways xs ways)
with_both [] ys ways = refl
with_both (x ∷ xs) ys ways = with_both xs ys (set ways x.event.n x.way)

-- an edge of a tree
pub edge_in : (ts : List ModeTree) (t : ModeTree) (x : Edge) → IsOneOf ts t → IsOneOf t.edges.items x → IsOneOf
    (forest_edges ts) x
edge_in [] t x o q = absurd (one_none t o)
edge_in (u ∷ ts) t x o q = ⊎_elim
    (λ (i : u ≡ t). one_left u.edges.items (forest_edges ts) x (subst (λ (z : ModeTree). IsOneOf z.edges.items x)
    (sym i) q))
    (λ (r : IsOneOf ts t). one_right u.edges.items (forest_edges ts) x (edge_in ts t x r q))
    (one_cases u ts t o)

pub tree_of_edge : (ts : List ModeTree) (x : Edge) → IsOneOf (forest_edges ts) x
    → (t : ModeTree) × IsOneOf ts t × IsOneOf t.edges.items x
tree_of_edge [] x o = absurd (one_none x o)
tree_of_edge (t ∷ ts) x o = ⊎_elim
    (λ (q : IsOneOf t.edges.items x). (t, one_first t ts, q))
    (λ (q : IsOneOf (forest_edges ts) x). let r = tree_of_edge ts x q in (r.0, one_rest t ts r.0 r.1, r.2))
    (one_split t.edges.items (forest_edges ts) x o)

-- the edges' events are those of the parts
module _ (p : GtsParts) (sound : IsSound p) (ts : List ModeTree) (own : OwnTheirWays p ts) where
  pub own_edge : (x : Edge) → IsOneOf (forest_edges ts) x → HasOwnWay p x
  own_edge x o = let t = tree_of_edge ts x o in (own.each t.0 t.1).each x t.2

  pub events_within : AreWithin (length p.events.items) (forest_edges ts)
  events_within = record {
    each = λ x o.
        let h = own_edge x o in
        let w = sound.own_ways x.way.n h.way h.stands in
        let l = stands_within p.events.items h.way.event.n w.event w.stands in omega (arith, l, h.is_event);
  }

-- one tree more
module _ (ts : List ModeTree) (i : ℕ) (t : ModeTree) (start old new : List WayId) where
  abbrev Kept : List WayId → ℕ → Type 0
  Kept now k = (with_ways (forest_edges (drop k ts)) now ≡ with_ways (forest_edges ts) start) × (length now ≡ length start)

  pub one_more : forest_edges (drop i ts) ≡ t.edges.items ++ forest_edges (drop (i + 1) ts) → new ≡ with_ways t.edges.items old
      → Kept old i → Kept new (i + 1)
  one_more e n k = (
    ap (λ (z : List WayId). with_ways (forest_edges (drop (i + 1) ts)) z) n
        ∙ sym (with_both t.edges.items (forest_edges (drop (i + 1) ts)) old)
        ∙ ap (λ (z : List Edge). with_ways z old) (sym e) ∙ k.0,
    ap length n ∙ long t.edges.items old ∙ k.1,
  )

-- the same table in another form
pub kept_as : (ts : List ModeTree) (i : ℕ) (start new other : List WayId) → other ≡ new
    → (with_ways (forest_edges (drop i ts)) new ≡ with_ways (forest_edges ts) start) × (length new ≡ length start)
    → (with_ways (forest_edges (drop i ts)) other ≡ with_ways (forest_edges ts) start) × (length other ≡ length start)
kept_as ts i start new other e k =
    subst (λ (z : List WayId). (with_ways (forest_edges (drop i ts)) z ≡ with_ways (forest_edges ts) start) ×
    (length z ≡ length start)) (sym e) k

-- the event of the edge at hand is a number of the table
pub inside_here : (xs : List Edge) (n m i : ℕ) (d : Edge) → ((x : Edge) → IsOneOf xs x → x.event.n < n) → m ≡ n
    → i < length xs
    → (get_or xs i d).event.n < m
inside_here xs n m i d h e l = subst (λ (z : ℕ). (get_or xs i d).event.n < z) (sym e)
    (h (get_or xs i d) (one_here xs i (get_or xs i d) (stands_get xs i d l)))

-- the tree at hand is one of the trees
pub tree_here : (ts us : List ModeTree) (i : ℕ) (t : ModeTree) → us ≡ ts → i < length us → t ≡ get_or us i t
    → IsOneOf ts t
tree_here ts us i t e l is =
    subst (λ (z : List ModeTree). IsOneOf z t) e (one_here us i t
    (subst (λ (z : ModeTree). Stands us i z) (sym is) (stands_get us i t l)))

-- the edges of the trees that are left begin with those of the tree at hand
pub next_edges : (ts us : List ModeTree) (i : ℕ) (t : ModeTree) → us ≡ ts → i < length us → t ≡ get_or us i t
    → forest_edges (drop i ts) ≡ t.edges.items ++ forest_edges (drop (i + 1) ts)
next_edges ts us i t e l is =
    subst (λ (z : List ModeTree). forest_edges (drop i z) ≡ t.edges.items ++ forest_edges (drop (i + 1) z)) e
    (at_drop_more forest_edges us i t l ∙ ap (λ (z : ModeTree). forest_edges (z ∷ drop (i + 1) us)) (sym is))

pub no_edges : (ts us : List ModeTree) (i : ℕ) → us ≡ ts → length us ≤ i → forest_edges (drop i ts) ≡ []
no_edges ts us i e l = subst (λ (z : List ModeTree). forest_edges (drop i z) ≡ []) e (at_drop_all forest_edges us i l)
