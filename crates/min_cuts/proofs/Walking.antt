-- Steps down to a set, and back.
use Rattle.std.proofs.Common.{◌≡◌, ◌≢◌, ⊎_elim, ◌<◌, ℕ, suc, ◌+◌, max, List, [], ◌∷◌, ◌++◌, map, length, refl, sym, ap, ap₂, ◌∙◌, subst, arith, append_assoc, append-nil, length-append}
use Rattle.std.proofs.lemmas.List.{map-append}
use Rattle.ar_base.proofs.Standing.{stands_left, stands_next}
use Rattle.zdd_nodes.specs.Families.{Family}
use Rattle.zdd_nodes.specs.Behind.{behind_events}
use Rattle.zdd_nodes.proofs.Behind.{behind_node}
use Rattle.zdd_nodes.specs.Nodes.{Stored, family, IsNode}
use Rattle.zdd_nodes.proofs.Lists.{slice_get-push_cases}
use Rattle.min_cuts.specs.Sizes.{largest}
use Rattle.min_cuts.specs.Kept.{taken_events, waiting, to_give, HasRoom, HaveRoom}
use Rattle.min_cuts.specs.declared.steps.Step.{Step}
use Rattle.min_cuts.proofs.Sizing.{largest-node}

with_event : (p : List ℕ) (v : ℕ) (hi : Family) → behind_events p (map (λ t. v ∷ t) hi) ≡ behind_events (p ++ v ∷ []) hi
with_event p v [] = refl
with_event p v (s ∷ hi) = ap₂ (λ (a : List ℕ) (b : Family). a ∷ b) (sym (append_assoc p (v ∷ []) s)) (with_event p v hi)

taken_push : (steps : List Step) (x : Step) → taken_events (steps ++ x ∷ []) ≡ taken_events steps ++ x.event.n ∷ []
taken_push steps x = map-append (λ (x : Step). x.event.n) steps (x ∷ [])

-- what a last step left comes first
waiting_push : (s : Stored) (p : List ℕ) (steps : List Step) (x : Step)
    → waiting s p (steps ++ x ∷ []) ≡ behind_events (p ++ taken_events steps) (family s x.rest.n) ++ waiting s p steps
waiting_push s p [] x = ap (λ z. behind_events z (family s x.rest.n)) (sym (append-nil p))
    ∙ sym (append-nil (behind_events (p ++ []) (family s x.rest.n)))
waiting_push s p (y ∷ steps) x =
    ap (λ z. z ++ behind_events p (family s y.rest.n)) (waiting_push s (p ++ y.event.n ∷ []) steps x
    ∙ ap (λ z. behind_events z (family s x.rest.n) ++ waiting s (p ++ y.event.n ∷ []) steps)
    (append_assoc p (y.event.n ∷ []) (taken_events steps)))
    ∙ append_assoc (behind_events (p ++ (y.event.n ∷ taken_events steps)) (family s x.rest.n))
    (waiting s (p ++ y.event.n ∷ []) steps) (behind_events p (family s y.rest.n))

-- a step changes nothing of what is to be given
pub step_gives : (s : Stored) (steps : List Step) (x : Step) (n hi : ℕ) → IsNode s.families n x.event.n x.rest.n hi
    → to_give s (steps ++ x ∷ []) hi ≡ to_give s steps n
step_gives s steps x n hi i =
    ap₂ (λ (a : List ℕ) (b : Family). behind_events a (family s hi) ++ b) (taken_push steps x) (waiting_push s [] steps x)
    ∙ sym (append_assoc (behind_events (taken_events steps ++ x.event.n ∷ []) (family s hi))
    (behind_events (taken_events steps) (family s x.rest.n)) (waiting s [] steps))
    ∙ ap (λ z. z ++ waiting s [] steps) (sym (behind_node (taken_events steps) x.event.n (family s x.rest.n) (family s hi))
    ∙ ap (behind_events (taken_events steps)) (sym i.is))

-- the last step goes where what it left is to be given
pub back_gives : (s : Stored) (steps : List Step) (x : Step) → waiting s [] (steps ++ x ∷ []) ≡ to_give s steps x.rest.n
back_gives s steps x = waiting_push s [] steps x

-- where it left nothing, it goes
pub back_none : (s : Stored) (steps : List Step) (x : Step) → x.rest.n ≡ 0
    → waiting s [] (steps ++ x ∷ []) ≡ waiting s [] steps
back_none s steps x e = waiting_push s [] steps x ∙ ap (λ n. behind_events (taken_events steps) (family s n) ++ waiting s [] steps) e

-- at the number of the family of the empty set the events that were taken are the next set
pub unit_gives : (s : Stored) (steps : List Step) → to_give s steps 1 ≡ taken_events steps ∷ waiting s [] steps
unit_gives s steps = ap (λ z. z ∷ waiting s [] steps) (append-nil (taken_events steps))

-- ---- room
-- both halves of a node have room where it has
room_high : (s : Stored) (room depth n event lo hi : ℕ) → IsNode s.families n event lo hi → HasRoom s room depth n
    → HasRoom s room (suc depth) hi
room_high s room depth n event lo hi i h =
    let e : largest (family s n) ≡ max (largest (family s hi) + 1) (largest (family s lo)) = ap largest i.is
    ∙ largest-node event (family s lo) (family s hi) i.hi_some in
    let l : n < length s.families + 2 = h.in_store in
    record { in_store = omega (arith, l, i.hi_before); fits = omega (arith, e, h.fits) }

room_low : (s : Stored) (room depth n event lo hi : ℕ) → IsNode s.families n event lo hi → HasRoom s room depth n
    → HasRoom s room depth lo
room_low s room depth n event lo hi i h =
    let e : largest (family s n) ≡ max (largest (family s hi) + 1) (largest (family s lo)) = ap largest i.is
    ∙ largest-node event (family s lo) (family s hi) i.hi_some in
    let l : n < length s.families + 2 = h.in_store in
    record { in_store = omega (arith, l, i.lo_before); fits = omega (arith, e, h.fits) }

have_push : (s : Stored) (room : ℕ) (steps : List Step) (x : Step) → HaveRoom s room steps
    → HasRoom s room (length steps) x.rest.n → HaveRoom s room (steps ++ x ∷ [])
have_push s room steps x h r = record {
  each = λ k y i. ⊎_elim (λ j. h.each k y j)
      (λ p. subst (λ (z : Step). HasRoom s room k z.rest.n) (sym p.1)
      (subst (λ d. HasRoom s room d x.rest.n) (sym p.0) r))
      (slice_get-push_cases steps x k y i);
}

-- what the way down keeps: what is to be given, and room for it
pub record IsDescent (s : Stored) (begun : List Step) (from : ℕ) (steps : List Step) (number : ℕ) : Type 0 where
  pub same : to_give s steps number ≡ to_give s begun from
  pub some : number ≢ 0
  pub room : (room : ℕ) → HasRoom s room (length begun) from → HasRoom s room (length steps) number
  pub rests : (room : ℕ) → HasRoom s room (length begun) from → HaveRoom s room begun → HaveRoom s room steps

pub descent_begins : (s : Stored) (begun : List Step) (from : ℕ) → from ≢ 0 → IsDescent s begun from begun from
descent_begins s begun from some = record { same = refl; some = some; room = λ room h. h; rests = λ room h r. r }

pub descent_goes : (s : Stored) (begun : List Step) (from : ℕ) (steps : List Step) (n : ℕ) (x : Step) (hi : ℕ)
    → IsNode s.families n x.event.n x.rest.n hi → IsDescent s begun from steps n
    → IsDescent s begun from (steps ++ x ∷ []) hi
descent_goes s begun from steps n x hi i d = record {
  same = step_gives s steps x n hi i ∙ d.same;
  some = λ e. i.hi_some (ap (family s) e);
  room = λ room h. let l : length (steps ++ x ∷ []) ≡ suc (length steps) = length-append steps (x ∷ []) ∙ omega arith in
      subst (λ z. HasRoom s room z hi) (sym l)
      (room_high s room (length steps) n x.event.n x.rest.n hi i (d.room room h));
  rests = λ room h r. have_push s room steps x (d.rests room h r)
      (room_low s room (length steps) n x.event.n x.rest.n hi i (d.room room h));
}

-- what the way back keeps
pub record IsRetreat (begun steps : List Step) : Type 0 where
  pub same : (s : Stored) → waiting s [] begun ≡ waiting s [] steps
  pub rests : (s : Stored) (room : ℕ) → HaveRoom s room begun → HaveRoom s room steps

pub retreat_begins : (begun : List Step) → IsRetreat begun begun
retreat_begins begun = record { same = λ s. refl; rests = λ s room h. h }

pub have_front : (s : Stored) (room : ℕ) (steps : List Step) (x : Step) → HaveRoom s room (steps ++ x ∷ [])
    → HaveRoom s room steps
have_front s room steps x h = record { each = λ k y i. h.each k y (stands_left steps (x ∷ []) k y i) }

pub have_last : (s : Stored) (room : ℕ) (steps : List Step) (x : Step) → HaveRoom s room (steps ++ x ∷ [])
    → HasRoom s room (length steps) x.rest.n
have_last s room steps x h = h.each (length steps) x (stands_next steps x [])

pub retreat_goes : (begun steps : List Step) (x : Step) → x.rest.n ≡ 0 → IsRetreat begun (steps ++ x ∷ [])
    → IsRetreat begun steps
retreat_goes begun steps x e r = record {
  same = λ s. r.same s ∙ back_none s steps x e;
  rests = λ s room h. have_front s room steps x (r.rests s room h);
}
