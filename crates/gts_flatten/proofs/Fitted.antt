-- The nodes of a system are those of what it is declared by.
use Rattle.std.proofs.Common.{◌≡◌, ℕ, ◌+◌, ◌≤◌, List, [], ◌∷◌, ◌++◌, map, take, length, refl, ap, ◌∙◌, subst, min, arith}
use Rattle.std.specs.List.{flat_map}
use Rattle.std.proofs.lemmas.List.{take_all}
use Rattle.ar_base.specs.Lists.{Stands, IsOneOf, Along}
use Rattle.ar_base.specs.Lists as l
use Rattle.ar_base.proofs.Standing.{stands_one, one_first, one_rest}
use Rattle.ar_meaning.specs.Systems.{System, Transition, Tree, Joint, Branches, Event}
use Rattle.ar_meaning.specs.Expand.{EventDeclaration, Member, Ways, event, Members_give, no_member, one, synchronises, IsExpanded}
use Rattle.ar_meaning.specs.ExpandInside.{AreKeyedEvents}
use Rattle.gts_core.specs.Bound.{assigns_under, declared_from, declared_of, member_of}
use Rattle.gts_core.specs.View.{numbered}
use Rattle.gts_core.specs.declared.bound.Act.{Act}
use Rattle.gts_core.specs.declared.bound.DeclaredEvent.{DeclaredEvent}
use Rattle.ar_base.specs.Numbers.{VarId}
use Rattle.typed_expr.specs.declared.expr.Expr.{Expr}
use Rattle.gts_core.specs.declared.bound.DeclaredWay.{DeclaredWay}
use Rattle.gts_core.specs.declared.bound.DeclaredWay.TheVariants.{Local}
use Rattle.gts_core.specs.declared.system.Observer.{Observer}
use Rattle.sync_expand.proofs.DeclaredLemmas.{declared_keyed, declared_stands, declared_length}
use Rattle.sync_expand.proofs.Placed.{take_next}
use Rattle.gts_flatten.specs.Bounds.{IsSystemOf, member_nodes, members_nodes, declared_nodes, observers_nodes}
use Rattle.gts_flatten.specs.Sizes.{nodes_of, nodes_in, assigns_nodes, ways_nodes, events_nodes, system_nodes}
use Rattle.gts_flatten.proofs.Renamed.{numbered_nodes}

-- joints have no nodes
joints_nodes : (bss : List (Branches (Transition ℕ))) (ts : List (Tree (Transition ℕ)))
    → ways_nodes (map Joint bss ++ ts) ≡ ways_nodes ts
joints_nodes [] ts = refl
joints_nodes (bs ∷ bss) ts = let i = joints_nodes bss ts in omega (arith, i)

given_nodes : {ds : List (EventDeclaration (Transition ℕ) ℕ)} {ms : List (Member (Transition ℕ) ℕ)}
    {ts : List (Tree (Transition ℕ))} → Members_give ds ms ts → ways_nodes ts ≡ members_nodes ms
given_nodes no_member = refl
given_nodes (one {l = t} d) = let i = given_nodes d in omega (arith, i)
given_nodes (synchronises {bss = bss} {ts = ts} p d) = let i = given_nodes d in let j = joints_nodes bss ts in omega (arith, i, j)

-- an event has the nodes of its members
own_nodes : (ds : List (EventDeclaration (Transition ℕ) ℕ)) → AreKeyedEvents ds → (d : EventDeclaration (Transition ℕ)
    ℕ) → IsOneOf ds d → (ts : List (Tree (Transition ℕ))) → Ways ds d.key ts → ways_nodes ts ≡ members_nodes d.members
own_nodes ds keyed d o ts w = by w
  where
    by : Ways ds d.key ts → ways_nodes ts ≡ members_nodes d.members
    by (event {d = x} k s e m) =
        let here = keyed.one k o.place x d s o.stands e in
        let same : x ≡ d = stands_one ds o.place x d (subst (λ (i : ℕ). Stands ds i x) here s) o.stands in
        given_nodes m ∙ ap (λ (y : EventDeclaration (Transition ℕ) ℕ). members_nodes y.members) same

all_own : (ds : List (EventDeclaration (Transition ℕ) ℕ)) → AreKeyedEvents ds
    → {xs : List (EventDeclaration (Transition ℕ) ℕ)} {es : List (Event ℕ)}
    → ((d : EventDeclaration (Transition ℕ) ℕ) → IsOneOf xs d → IsOneOf ds d) → Along (IsExpanded ds) xs es
    → events_nodes es ≡ declared_nodes xs
all_own ds keyed of l.none = refl
all_own ds keyed of (l.one_and {a = d} {b = e} {xs = xs} x rest) =
    let i = all_own ds keyed (λ y h. of y (one_rest d xs y h)) rest in
    let j = own_nodes ds keyed d (of d (one_first d xs)) e.ways x.ways in
    omega (arith, i, j)

observers_are : (os : List Observer) → nodes_in (map (λ (o : Observer). numbered o.value) os) ≡ observers_nodes os
observers_are [] = refl
observers_are (o ∷ rest) = let i = observers_are rest in let n = numbered_nodes o.value in omega (arith, i, n)

pub system_counted : (events : List DeclaredEvent) (assertions : List Act) (observers : List Observer)
    (system : System ℕ) → IsSystemOf events assertions observers system
    → system_nodes system ≡ declared_nodes
    (declared_from 0 events) + (assigns_nodes
    (flat_map (λ (a : Act). assigns_under a []) assertions) + observers_nodes observers)
system_counted events assertions observers system is =
    let a = all_own (declared_from 0 events) (declared_keyed events) (λ d h. h) is.events_are in
    let b = ap assigns_nodes is.assertions_are in
    let c = ap nodes_in is.observers_are ∙ observers_are observers in
    omega (arith, a, b, c)

-- one more
members_append : (ms ns : List (Member (Transition ℕ) ℕ))
    → members_nodes (ms ++ ns) ≡ members_nodes ms + members_nodes ns
members_append [] ns = omega arith
members_append (m ∷ ms) ns = let i = members_append ms ns in omega (arith, i)

map_join : (ws vs : List DeclaredWay) → map member_of (ws ++ vs) ≡ map member_of ws ++ map member_of vs
map_join [] vs = refl
map_join (w ∷ ws) vs = ap (λ (ms : List (Member (Transition ℕ) ℕ)). member_of w ∷ ms) (map_join ws vs)

pub ways_next : (ws : List DeclaredWay) (i : ℕ) (w : DeclaredWay) (old n new : ℕ) → Stands ws i w
    → old ≡ min 1000001 (members_nodes (map member_of (take i ws))) → n ≡ min 1000001 (member_nodes (member_of w))
    → new ≡ min 1000001 (old + n) → new ≡ min 1000001 (members_nodes (map member_of (take (i + 1) ws)))
ways_next ws i w old n new s a b c =
    let t = ap (λ (vs : List DeclaredWay). members_nodes (map member_of vs)) (take_next ws i w s) in
    let j = ap members_nodes (map_join (take i ws) (w ∷ [])) in
    let k = members_append (map member_of (take i ws)) (member_of w ∷ []) in
    omega (arith, t, j, k, a, b, c)

declared_append : (ds es : List (EventDeclaration (Transition ℕ) ℕ))
    → declared_nodes (ds ++ es) ≡ declared_nodes ds + declared_nodes es
declared_append [] es = omega arith
declared_append (d ∷ ds) es = let i = declared_append ds es in omega (arith, i)

pub events_next : (events : List DeclaredEvent) (i : ℕ) (d : DeclaredEvent) (old n new : ℕ) → Stands events i d
    → old ≡ min 1000001 (declared_nodes (take i (declared_from 0 events)))
    → n ≡ min 1000001 (members_nodes (map member_of d.ways.items)) → new ≡ min 1000001 (old + n)
    → new ≡ min 1000001 (declared_nodes (take (i + 1) (declared_from 0 events)))
events_next events i d old n new s a b c =
    let t = ap declared_nodes (take_next (declared_from 0 events) i (declared_of (0 + i) d)
    (declared_stands 0 events i d s)) in
    let k : declared_nodes (take i (declared_from 0 events) ++ declared_of (0 + i) d ∷ [])
    ≡ declared_nodes (take i (declared_from 0 events)) + (members_nodes (map member_of d.ways.items) + 0) =
    declared_append (take i (declared_from 0 events)) (declared_of (0 + i) d ∷ []) in
    omega (arith, t, k, a, b, c)

pub events_end : (events : List DeclaredEvent) (i : ℕ) (n : ℕ) → length events ≤ i
    → n ≡ min 1000001 (declared_nodes (take i (declared_from 0 events)))
    → n ≡ min 1000001 (declared_nodes (declared_from 0 events))
events_end events i n l e = e ∙ ap (λ (ds : List (EventDeclaration (Transition ℕ) ℕ)). min 1000001 (declared_nodes ds)) (take_all i (declared_from 0 events) (let d = declared_length 0 events in omega (arith, l, d)))

observers_append : (os ps : List Observer) → observers_nodes (os ++ ps) ≡ observers_nodes os + observers_nodes ps
observers_append [] ps = omega arith
observers_append (o ∷ rest) ps = let i = observers_append rest ps in omega (arith, i)

pub observers_next : (os : List Observer) (i : ℕ) (o : Observer) (old n new : ℕ) → Stands os i o
    → old ≡ min 1000001 (observers_nodes (take i os)) → n ≡ min 1000001 (nodes_of o.value) → new ≡ min 1000001 (old + n)
    → new ≡ min 1000001 (observers_nodes (take (i + 1) os))
observers_next os i o old n new s a b c =
    let t = ap observers_nodes (take_next os i o s) in
    let k = observers_append (take i os) (o ∷ []) in
    omega (arith, t, k, a, b, c)

pub way_counted : (way : DeclaredWay) (guard : Expr VarId) (action : Act) (n m r : ℕ) → way ≡ Local guard action
    → n ≡ min 1000001 (nodes_of guard) → m ≡ min 1000001 (assigns_nodes (assigns_under action []))
    → r ≡ min 1000001 (n + m) → r ≡ min 1000001 (member_nodes (member_of way))
way_counted way guard action n m r e a b c =
    let g = numbered_nodes guard in
    let h : member_nodes (member_of way) ≡ nodes_of (numbered guard) + assigns_nodes (assigns_under action []) =
    ap (λ (w : DeclaredWay). member_nodes (member_of w)) e in
    omega (arith, g, h, a, b, c)

-- the whole count
pub fit_counted : (whole own flows seen a b c d r : ℕ) → whole ≡ own + (flows + seen) → a ≡ min 1000001 own
    → b ≡ min 1000001 flows → c ≡ min 1000001 seen → d ≡ min 1000001 (b + c) → r ≡ min 1000001 (a + d)
    → r ≡ min 1000001 whole
fit_counted whole own flows seen a b c d r e f g h i j = omega (arith, e, f, g, h, i, j)
