-- Where no event is reached from its own synchronisations, each has ways.
use Rattle.std.proofs.Common.{◌≡◌, inl, inr, ℕ, zero, suc, ◌+◌, ◌<◌, ◌≤◌, Bool, List, [], ◌∷◌, ◌++◌, map, length, refl, sym, ◌∙◌, ap, subst, arith}
use Rattle.ar_base.specs.Lists.{Stands, IsOneOf}
use Rattle.ar_base.proofs.Few.{AllDiffer, nothing, new, few}
use Rattle.ar_base.proofs.Standing.{stands_within, stands_one, one_none, one_cases, one_first, one_rest}
use Rattle.ar_meaning.specs.Systems.{Tree, Leaf, Joint, Branches, Empty}
use Rattle.ar_meaning.specs.Expand.{Member, One, Synchronises, EventDeclaration, choices, Ways, event, Members_give, no_member, one, synchronises, Parts_give, no_part, choice, HasPart, ReachesPart, part_of, further}

-- one step further
reaches_on : {L E : Type 0} {ds : List (EventDeclaration L E)} {a b c : E} → ReachesPart ds a b → HasPart ds b c
    → ReachesPart ds a c
reaches_on (part_of h) k = further h (part_of k)
reaches_on (further h r) k = further h (reaches_on r k)

module _ {L E : Type 0} (events : List (EventDeclaration L E)) where
  abbrev pub HasWays : E → Type 0
  HasWays e = (ts : List (Tree L)) × Ways events e ts

  parts_give : (ps : List (Bool × E)) → ((p : Bool × E) → IsOneOf ps p → HasWays p.1)
      → (bss : List (Branches L)) × Parts_give events ps bss
  parts_give [] h = (Empty ∷ [], no_part)
  parts_give (p ∷ ps) h =
      let w = h p (one_first p ps) in
      let r = parts_give ps (λ q i. h q (one_rest p ps q i)) in
      (choices p.0 w.0 r.0, choice w.1 r.1)

  members_give : (ms : List (Member L E))
      → ((ps : List (Bool × E)) → IsOneOf ms (Synchronises ps) → (p : Bool × E) → IsOneOf ps p → HasWays p.1)
      → (ts : List (Tree L)) × Members_give events ms ts
  members_give [] h = ([], no_member)
  members_give (One l ∷ ms) h =
      let r = members_give ms (λ ps i. h ps (one_rest (One l) ms (Synchronises ps) i)) in
      (Leaf l ∷ r.0, one r.1)
  members_give (Synchronises ps ∷ ms) h =
      let r = members_give ms (λ qs i. h qs (one_rest (Synchronises ps) ms (Synchronises qs) i)) in
      let b = parts_give ps (h ps (one_first (Synchronises ps) ms)) in
      (map Joint b.0 ++ r.0, synchronises b.1 r.1)

  -- the event stands among these
  pub record IsDeclared (e : E) : Type 0 where
    pub place : ℕ
    pub declared : EventDeclaration L E
    pub stands : Stands events place declared
    pub is_key : declared.key ≡ e

  module _ (known : (d : EventDeclaration L E) (ps : List (Bool × E)) (p : Bool × E) → IsOneOf events d
      → IsOneOf d.members (Synchronises ps) → IsOneOf ps p → IsDeclared p.1)
      (never : (e : E) → ReachesPart events e e → ⊥) where
    -- the place has an event from which this one is reached
    record IsHigher (a : ℕ) (e : E) : Type 0 where
      pub declared : EventDeclaration L E
      pub stands : Stands events a declared
      pub reaches : ReachesPart events declared.key e

    not_above : (above : List ℕ) (e : E) → ((a : ℕ) → IsOneOf above a → IsHigher a e) → (b : IsDeclared e)
        → IsOneOf above b.place → ⊥
    not_above above e h b i =
        let w = h b.place i in
        let same : w.declared ≡ b.declared = stands_one events b.place w.declared b.declared w.stands b.stands in
        never e (subst (λ (z : E). ReachesPart events z e) (ap (λ (z : EventDeclaration L E). z.key) same ∙ b.is_key)
        w.reaches)

    -- an event that is reached from the events of so many other places has ways: as many places are left below it
    ways_below : (fuel : ℕ) (above : List ℕ) (e : E) → length events ≤ fuel + length above → AllDiffer above
        → ((a : ℕ) → IsOneOf above a → IsHigher a e) → IsDeclared e → HasWays e
    ways_below zero above e l d h b =
        let n = few (length events) (b.place ∷ above) (new (not_above above e h b) d)
        (λ x i. elim (one_cases b.place above x i) [
          | inl k ↦ subst (λ (z : ℕ). z < length events) k (stands_within events b.place b.declared b.stands)
          | inr j ↦ (let w = h x j in stands_within events x w.declared w.stands)
        ]) in
        absurd (omega (arith, n, l))
    ways_below (suc fuel) above e l d h b =
        let m = members_give b.declared.members (λ ps i p j.
        let part : HasPart events e p.1 = record {
          place = b.place;
          declared = b.declared;
          stands = b.stands;
          is_key = b.is_key;
          parts = ps;
          is_member = i;
          must = p.0;
          is_part = j;
        } in
        ways_below fuel (b.place ∷ above) p.1 (omega (arith, l)) (new (not_above above e h b) d)
        (λ a k. elim (one_cases b.place above a k) [
          | inl s ↦ record {
            declared = b.declared;
            stands = subst (λ (z : ℕ). Stands events z b.declared) s b.stands;
            reaches = part_of (subst (λ (z : E). HasPart events z p.1) (sym b.is_key) part);
          }
          | inr s ↦ (let w = h a s in
              record { declared = w.declared; stands = w.stands; reaches = reaches_on w.reaches part })
        ])
        (known b.declared ps p (record { place = b.place; stands = b.stands }) i j)) in
        (m.0, event b.place b.stands b.is_key m.1)

    pub all_have_ways : (d : EventDeclaration L E) → IsOneOf events d → HasWays d.key
    all_have_ways d i = ways_below (length events) [] d.key (omega arith) nothing (λ a j. absurd (one_none a j))
        (record { place = i.place; declared = d; stands = i.stands; is_key = refl })
