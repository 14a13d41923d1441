-- What the labels of a conflict do when they are fired one after the other.
use Rattle.std.proofs.Common.{◌≡◌, ◌<◌, ◌+◌, ℕ, List, [], ◌∷◌, ◌++◌, take, drop, reverse, length, get_or, refl, sym, ◌∙◌, ap, subst, append_assoc}
use Rattle.std.proofs.lemmas.List.{reverse-append, take_more, take-append-drop, at_drop_more}
use Rattle.domains.specs.declared.Value.{Value}
use Rattle.ar_meaning.specs.Systems.{System, Way}
use Rattle.ar_meaning.specs.Flows.{FlowFault, Outcome, Total, Fails}
use Rattle.ar_meaning.specs.Steps.{Step, Answer, Next, Refused, Flow}
use Rattle.ar_meaning.specs.Runs.{Label, IsWay, StartFails}
use Rattle.ar_meaning.proofs.OneAnswer.{flows_same, step_same}
use Rattle.ar_meaning.proofs.OneRun.{way_same}
use Rattle.ar_firing.specs.Cuts.{Reaches, Conflicts}
use Rattle.ar_firing.specs.Cuts as cuts
use Rattle.ar_firing.proofs.RunsTold.{reaches_same}

-- the labels up to a place, that at the place, and those behind it
pub around : (ls : List Label) (i : ℕ) (d : Label) → i < length ls
    → reverse ls ≡ reverse (drop (i + 1) ls) ++ (get_or ls i d ∷ reverse (take i ls))
around ls i d h =
    let e : ls ≡ take i ls ++ (get_or ls i d ∷ drop (i + 1) ls) =
    sym (take-append-drop i ls) ∙ ap (λ (z : List Label). take i ls ++ z)
    (at_drop_more (λ (z : List Label). z) ls i d h) in
    ap reverse e
    ∙ reverse-append (take i ls) (get_or ls i d ∷ drop (i + 1) ls)
    ∙ ap (λ (z : List Label). z ++ reverse (take i ls)) (reverse-append (get_or ls i d ∷ []) (drop (i + 1) ls))
    ∙ append_assoc (reverse (drop (i + 1) ls)) (get_or ls i d ∷ []) (reverse (take i ls))

pub one_further : (ls : List Label) (i : ℕ) (d : Label) → i < length ls
    → reverse (take (i + 1) ls) ≡ get_or ls i d ∷ reverse (take i ls)
one_further ls i d h = ap reverse (take_more ls i d h) ∙ reverse-append (take i ls) (get_or ls i d ∷ [])

module _ (sys : System ℕ) (dropped : List ℕ) where
  -- what the label answers: it fires, or it is the last one and meets the fault
  pub data Goes (later : List Label) (l : Label) (before : List Label) (f : FlowFault) (t : List Value)
      (w : Way ℕ) : Type 0 where
    fires : (u : List Value) → Step sys.net t w (Next u) → Reaches sys dropped (l ∷ before) u
        → Goes later l before f t w
    fails : later ≡ [] → Step sys.net t w (Refused (Flow f)) → Goes later l before f t w

  below : (later ls : List Label) {u : List Value} → Reaches sys dropped (later ++ ls) u → (t : List Value)
      × Reaches sys dropped ls t
  below [] ls {u = u} r = (u, r)
  below (m ∷ later) ls (cuts.fire w r o s) = below later ls r

  moved : (l : Label) (before : List Label) {u t : List Value} (w : Way ℕ) → IsWay sys l w
      → Reaches sys dropped before t
      → Reaches sys dropped (l ∷ before) u → Step sys.net t w (Next u)
  moved l before {u = u} {t = t} w is r (cuts.fire {t = v} x q o s) =
      let e : v ≡ t = reaches_same sys dropped q r in
      let i : x ≡ w = way_same sys o.is_kept.is_way is in
      subst (λ (z : Way ℕ). Step sys.net t z (Next u)) i (subst (λ (z : List Value). Step sys.net z x (Next u)) e s)

  pub goes : (later : List Label) (l : Label) (before : List Label) (f : FlowFault) (t : List Value) (w : Way ℕ)
      → IsWay sys l w
      → Reaches sys dropped before t → Conflicts sys dropped (later ++ (l ∷ before)) f → Goes later l before f t w
  goes [] l before f t w is r (cuts.fire {t = v} x q o s) =
      let e : v ≡ t = reaches_same sys dropped q r in
      let i : x ≡ w = way_same sys o.is_kept.is_way is in
      fails refl (subst (λ (z : Way ℕ). Step sys.net t z (Refused (Flow f))) i
      (subst (λ (z : List Value). Step sys.net z x (Refused (Flow f))) e s))
  goes (m ∷ later) l before f t w is r (cuts.fire x q o s) =
      let b = below later (l ∷ before) q in
      fires b.0 (moved l before w is r b.1) b.1

  -- a label that fires reaches what it gives
  pub reached : (later : List Label) (l : Label) (before : List Label) (f : FlowFault) (t u : List Value) (w : Way ℕ)
      → Goes later l before f t w → Step sys.net t w (Next u) → Reaches sys dropped (l ∷ before) u
  reached later l before f t u w (fires v s r) k =
      let e : ◌≡◌ {A = Answer} (Next v) (Next u) = step_same sys.net s k in
      let i : v ≡ u = cc in subst (λ (z : List Value). Reaches sys dropped (l ∷ before) z) i r
  reached later l before f t u w (fails e s) k =
      let i : ◌≡◌ {A = Answer} (Refused (Flow f)) (Next u) = step_same sys.net s k in cc

  -- a fault that it meets is the flow fault
  pub met : (later : List Label) (l : Label) (before : List Label) (f : FlowFault) (t : List Value) (w : Way ℕ)
      (a : Answer)
      → ((u : List Value) → a ≡ Next u → ⊥) → Goes later l before f t w → Step sys.net t w a → a ≡ Refused (Flow f)
  met later l before f t w a none (fires u s r) k = absurd (none u (step_same sys.net k s))
  met later l before f t w a none (fails e s) k = step_same sys.net k s

  -- labels do not both fire and meet a fault
  pub not_both : (ls : List Label) (f : FlowFault) (t : List Value) → Reaches sys dropped ls t
      → Conflicts sys dropped ls f → ⊥
  not_both ls f t (cuts.start s) (cuts.start g) =
      let e : ◌≡◌ {A = Outcome} (Total t) (Fails f) = flows_same sys.net s g in cc
  not_both ls f t (cuts.fire {t = u} w r o s) (cuts.fire {t = v} x q p k) =
      let e : u ≡ v = reaches_same sys dropped r q in
      let i : w ≡ x = way_same sys o.is_kept.is_way p.is_kept.is_way in
      let a : ◌≡◌ {A = Answer} (Next t) (Refused (Flow f)) =
      step_same sys.net (subst (λ (z : Way ℕ). Step sys.net v z (Next t)) i
      (subst (λ (z : List Value). Step sys.net z w (Next t)) e s)) k in cc

  -- a fault of the start is the one
  pub start_met : (ls : List Label) (f g : FlowFault) → StartFails sys.net g → Conflicts sys dropped ls f → g ≡ f
  start_met ls f g h (cuts.start k) = let e : ◌≡◌ {A = Outcome} (Fails g) (Fails f) = flows_same sys.net h k in cc
  start_met ls f g h (cuts.fire w r o s) = absurd (unreached r)
    where
      unreached : {ls : List Label} {t : List Value} → Reaches sys dropped ls t → ⊥
      unreached {t = t} (cuts.start k) = let e : ◌≡◌ {A = Outcome} (Fails g) (Total t) = flows_same sys.net h k in cc
      unreached (cuts.fire w r o s) = unreached r
