-- An operand at the front of a text.
use Rattle.std.proofs.Common.{◌≡◌, ℕ, ◌+◌, ◌≤◌, ◌<◌, Bool, true, false, ◌==◌, true≢false, List, [], ◌∷◌, ◌++◌, codes, decimal, length, take, refl, sym, ap, ◌∙◌, subst, append_assoc, append-nil, arith}
use Rattle.std.proofs.lemmas.Bool.{eqb-true}
use Rattle.std.proofs.lemmas.List.{length-take-le}
use Rattle.ar_base.specs.Texts.{text_at}
use Rattle.eq_core.specs.Gates.{Operand, Always, Never, EventIs, GateIs}
use Rattle.aralia_text.specs.Texts.{sign_text, operand_text, gate_name}
use Rattle.aralia_text.specs.Fronts.{PathStops, BeginAlike, begins_with, IsRead, AreBegun, none, part, IsStuck, IsStuckIn, IsAny, IsPathOf, event_text, IsEventPart, IsBelowGate, IsOperandAt, HasOperand, HasNoMinus}
use Rattle.aralia_text.proofs.Stuck.{alike_first, alike_behind, Inside, stuck_behind, not_stuck}

-- Whether there is an operand

pub gate_there : (gates : ℕ) (events : List (List ℕ)) → 0 < gates → HasOperand gates events
gate_there gates events h = (GateIs 0 true, record { earlier = h; named = tt })

module _ (gates : ℕ) (events : List (List ℕ)) (n : ℕ) (event : IsEventPart events (codes "e") n) where
  pub event_there : 0 < n → HasOperand gates events
  event_there some = by event.begun
    where
      by : AreBegun (IsPathOf events) (event_text events) (take n (codes "e")) → HasOperand gates events
      by (none e) =
          let size : length (take n (codes "e")) ≡ 0 = ap length e in
          let all = length-take-le n (codes "e") event.within in
          absurd (omega (arith, size, all, some))
      by (part a more is e) = (EventIs a true, record { earlier = tt; named = is })

  pub nothing_there : (0 < gates → ⊥) → (0 < n → ⊥) → HasOperand gates events → ⊥
  nothing_there no_gate no_event o = by o.0 o.1
    where
      by : (o : Operand) → IsOperandAt gates events o → ⊥
      by Always is = is.earlier
      by Never is = is.earlier
      by (EventIs e s) is = no_event (event.most e is.named [] 101 [] (46 ∷ text_at events e) refl refl)
      by (GateIs g s) is = no_gate (let h = is.earlier in omega (arith, h))

-- Signs

-- a sign was cut off
pub record IsSigned (rest named : List ℕ) (s : Bool) : Type 0 where
  pub joined : rest ≡ sign_text s ++ named
  pub plain : s ≡ true → HasNoMinus rest

sign_same : (rest named other : List ℕ) (s t : Bool) (c : ℕ) (more : List ℕ) → IsSigned rest named s → 46 ≤ c
    → BeginAlike named other → sign_text s ++ other ≡ sign_text t ++ (c ∷ more)
    → (t ≡ s) × (other ≡ c ∷ more)
sign_same rest named other true true c more is h alike e = (refl, e)
sign_same rest named other true false c more is h alike e =
    let here : begins_with 45 other ≡ false =
    alike_first 45 named other alike ∙ ap (begins_with 45) (sym is.joined) ∙ is.plain refl in
    absurd (true≢false (sym (ap (begins_with 45) e) ∙ here))
sign_same rest named other false true c more is h alike e =
    let both : ◌≡◌ {A = List ℕ} (45 ∷ other) (c ∷ more) = e in
    let head : ◌≡◌ {A = ℕ} 45 c = cc in
    absurd (omega (arith, head, h))
sign_same rest named other false false c more is h alike e =
    let both : ◌≡◌ {A = List ℕ} (45 ∷ other) (45 ∷ (c ∷ more)) = e in
    (refl, cc)

-- behind the sign stands an event or a gate
pub data Behind (gates : ℕ) (events : List (List ℕ)) (s : Bool) (other back : List ℕ) (o : Operand) : Type 0 where
  event : (e : ℕ) → o ≡ EventIs e s → IsPathOf events e → other ≡ event_text events e ++ back
      → Behind gates events s other back o
  gate : (g : ℕ) → o ≡ GateIs g s → g < gates → other ≡ gate_name g ++ back → Behind gates events s other back o

module _ (gates : ℕ) (events : List (List ℕ)) (rest named : List ℕ) (s : Bool) (cut : IsSigned rest named s) where
  behind : (o : Operand) (back other : List ℕ) → IsOperandAt gates events o → BeginAlike named other
      → sign_text s ++ other ≡ operand_text events o ++ back → Behind gates events s other back o
  behind Always back other is alike e = absurd is.earlier
  behind Never back other is alike e = absurd is.earlier
  behind (EventIs n t) back other is alike e =
      let one = sign_same rest named other s t 101 (46 ∷ (text_at events n ++ back)) cut (omega arith) alike
      (e ∙ append_assoc (sign_text t) (101 ∷ 46 ∷ text_at events n) back) in
      event n (ap (λ (z : Bool). EventIs n z) one.0) is.named one.1
  behind (GateIs n t) back other is alike e =
      let one = sign_same rest named other s t 103 (decimal (n + 1) ++ back) cut (omega arith) alike
      (e ∙ append_assoc (sign_text t) (103 ∷ decimal (n + 1)) back) in
      gate n (ap (λ (z : Bool). GateIs n z) one.0) is.earlier one.1

  event_not_gate : (e g : ℕ) (other back : List ℕ) → event_text events e ++ other ≡ gate_name g ++ back → ⊥
  event_not_gate e g other back i =
      let both : ◌≡◌ {A = List ℕ} (101 ∷ 46 ∷ (text_at events e ++ other)) (103 ∷ (decimal (g + 1) ++ back)) = i in
      let head : ◌≡◌ {A = ℕ} 101 103 = cc in
      omega (arith, head)

  pub event_read : (n : ℕ) (left : List ℕ) → IsRead (IsPathOf events) (event_text events) PathStops named n left
      → IsRead (IsOperandAt gates events) (operand_text events) PathStops rest (EventIs n s) left
  event_read n left r = record {
    sought = record { earlier = tt; named = r.sought };
    joined = cut.joined ∙ ap (λ (z : List ℕ). sign_text s ++ z) r.joined
        ∙ sym (append_assoc (sign_text s) (event_text events n) left);
    only = λ o back other is stop alike e.
        by o back other stop alike
        (behind o back (event_text events n ++ other) is
        (subst (λ (z : List ℕ). BeginAlike z (event_text events n ++ other)) (sym r.joined)
        (alike_behind (event_text events n) left other alike))
        (sym (append_assoc (sign_text s) (event_text events n) other) ∙ e));
  }
    where
      by : (o : Operand) (back other : List ℕ) → PathStops back → BeginAlike left other
          → Behind gates events s (event_text events n ++ other) back o → (o ≡ EventIs n s) × (back ≡ other)
      by o back other stop alike (event k is p f) = let both = r.only k back other p stop alike f in (is ∙ ap (λ (z : ℕ). EventIs z s) both.0, both.1)
      by o back other stop alike (gate k is p f) = absurd (event_not_gate n k other back f)

  pub gate_read : (n : ℕ) (left : List ℕ) → IsRead (IsBelowGate gates) gate_name PathStops named n left
      → IsRead (IsOperandAt gates events) (operand_text events) PathStops rest (GateIs n s) left
  gate_read n left r = record {
    sought = record { earlier = r.sought; named = tt };
    joined = cut.joined ∙ ap (λ (z : List ℕ). sign_text s ++ z) r.joined
        ∙ sym (append_assoc (sign_text s) (gate_name n) left);
    only = λ o back other is stop alike e.
        by o back other stop alike
        (behind o back (gate_name n ++ other) is
        (subst (λ (z : List ℕ). BeginAlike z (gate_name n ++ other)) (sym r.joined)
        (alike_behind (gate_name n) left other alike))
        (sym (append_assoc (sign_text s) (gate_name n) other) ∙ e));
  }
    where
      by : (o : Operand) (back other : List ℕ) → PathStops back → BeginAlike left other
          → Behind gates events s (gate_name n ++ other) back o → (o ≡ GateIs n s) × (back ≡ other)
      by o back other stop alike (event k is p f) = absurd (event_not_gate k n back other (sym f))
      by o back other stop alike (gate k is p f) = let both = r.only k back other p stop alike f in (is ∙ ap (λ (z : ℕ). GateIs z s) both.0, both.1)

  -- the sign is the first part of an operand, where there is one
  sign_begun : (t : Bool) → HasOperand gates events
      → AreBegun (IsOperandAt gates events) (operand_text events) (sign_text t)
  sign_begun true some = none refl
  sign_begun false some = by some.0 some.1
    where
      by : (o : Operand) → IsOperandAt gates events o
          → AreBegun (IsOperandAt gates events) (operand_text events) (codes "-")
      by Always is = absurd is.earlier
      by Never is = absurd is.earlier
      by (EventIs e t) is = part (EventIs e false) (event_text events e) (record { earlier = tt; named = is.named })
          refl
      by (GateIs g t) is = part (GateIs g false) (gate_name g) (record { earlier = is.earlier; named = tt }) refl

  module _ (some : HasOperand gates events) (n : ℕ) where
    pub event_stuck : begins_with 103 named ≡ false → IsStuck (IsPathOf events) (event_text events) PathStops named n
        → IsStuck (IsOperandAt gates events) (operand_text events) PathStops rest n
    event_stuck no_gate k =
        stuck_behind (IsPathOf events) (event_text events) PathStops (IsOperandAt gates events) (operand_text events) PathStops
        rest (sign_text s) named n cut.joined (sign_begun s some)
        (λ a is. record {
          b = EventIs a s;
          more = [];
          sought = record { earlier = tt; named = is };
          is = ap (λ (z : List ℕ). sign_text s ++ z) (sym (append-nil (event_text events a)));
        })
        (λ o back other is stop alike e. by o back other stop alike (behind o back other is alike e)) k
      where
        by : (o : Operand) (back other : List ℕ) → PathStops back → BeginAlike named other
            → Behind gates events s other back o
            → Inside (IsPathOf events) (event_text events) PathStops (IsOperandAt gates events) (operand_text events) PathStops
            other
        by o back other stop alike (event k is p f) = record { a = k; back = back; sought = p; ends = stop; is = f }
        by o back other stop alike (gate k is p f) =
            let here : begins_with 103 other ≡ false = alike_first 103 named other alike ∙ no_gate in
            absurd (true≢false (sym (ap (begins_with 103) f) ∙ here))

    pub gate_stuck : begins_with 103 named ≡ true → IsStuck (IsBelowGate gates) gate_name PathStops named n
        → IsStuck (IsOperandAt gates events) (operand_text events) PathStops rest n
    gate_stuck a_gate k =
        stuck_behind (IsBelowGate gates) gate_name PathStops (IsOperandAt gates events) (operand_text events) PathStops rest
        (sign_text s) named n cut.joined (sign_begun s some)
        (λ a is. record {
          b = GateIs a s;
          more = [];
          sought = record { earlier = is; named = tt };
          is = ap (λ (z : List ℕ). sign_text s ++ z) (sym (append-nil (gate_name a)));
        })
        (λ o back other is stop alike e. by o back other stop alike (behind o back other is alike e)) k
      where
        by : (o : Operand) (back other : List ℕ) → PathStops back → BeginAlike named other
            → Behind gates events s other back o
            → Inside (IsBelowGate gates) gate_name PathStops (IsOperandAt gates events) (operand_text events) PathStops other
        by o back other stop alike (event k is p f) =
            let here : begins_with 103 other ≡ true = alike_first 103 named other alike ∙ a_gate in
            absurd (true≢false (sym here ∙ ap (begins_with 103) f))
        by o back other stop alike (gate k is p f) = record { a = k; back = back; sought = p; ends = stop; is = f }

pub no_minus : (rest : List ℕ) (n : ℕ) → IsStuckIn (codes "-") rest n → HasNoMinus rest
no_minus [] n k = refl
no_minus (b ∷ bs) n k = by (b == 45) refl
  where
    by : (r : Bool) → (b == 45) ≡ r → (b == 45) ≡ false
    by true e = absurd (not_stuck (λ u. Unit {0}) (λ u. codes "-") IsAny (b ∷ bs) n k tt bs tt tt
        (ap (λ (z : ℕ). z ∷ bs) (eqb-true b 45 e)))
    by false e = e
