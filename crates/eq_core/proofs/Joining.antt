-- What one operand does to a joint of the operands before it, which are kept, and those behind it.
use Rattle.std.proofs.Common.{◌≡◌, ℕ, ◌+◌, ◌<◌, Bool, true, false, List, [], ◌∷◌, ◌++◌, map, drop, length, get_or, refl, sym, ap, ◌∙◌}
use Rattle.std.proofs.lemmas.List.{drop_more, map-append}
use Rattle.ar_base.specs.NumbersInside.{EventId, GateId}
use denote.Enum.Bare.{sameb}
use Rattle.eq_core.specs.contracts.joints.Joint.{the_type}
use Rattle.eq_core.specs.declared.joints.Joint.{Joint}
use Rattle.eq_core.specs.declared.joints.Joint.TheVariants.{And, Or}
use Rattle.eq_core.specs.declared.joints.Operand.{Operand}
use Rattle.eq_core.specs.declared.joints.Operand.TheVariants.{Always, Never, Event, Gate}
use Rattle.eq_core.specs.Gates as g
use Rattle.eq_core.specs.Gates.{joined}
use Rattle.eq_core.specs.Views.{all_needed, operand_of}

-- an operand that is neutral is dropped, and its opposite decides
always_drops : (j : Joint) (gates : List g.Gate) (kept rest : List g.Operand) → sameb the_type j Or ≡ false
    → joined (all_needed j) gates kept rest ≡ joined (all_needed j) gates kept (g.Always ∷ rest)
always_drops And gates kept rest e = refl
always_drops Or gates kept rest e = cc

always_decides : (j : Joint) (gates : List g.Gate) (kept rest : List g.Operand) → sameb the_type j Or ≡ true
    → record { operand = g.Always; gates = gates } ≡ joined (all_needed j) gates kept (g.Always ∷ rest)
always_decides And gates kept rest e = cc
always_decides Or gates kept rest e = refl

never_drops : (j : Joint) (gates : List g.Gate) (kept rest : List g.Operand) → sameb the_type j And ≡ false
    → joined (all_needed j) gates kept rest ≡ joined (all_needed j) gates kept (g.Never ∷ rest)
never_drops And gates kept rest e = cc
never_drops Or gates kept rest e = refl

never_decides : (j : Joint) (gates : List g.Gate) (kept rest : List g.Operand) → sameb the_type j And ≡ true
    → record { operand = g.Never; gates = gates } ≡ joined (all_needed j) gates kept (g.Never ∷ rest)
never_decides And gates kept rest e = refl
never_decides Or gates kept rest e = cc

-- an event or a gate is kept
event_stays : (both : Bool) (gates : List g.Gate) (kept rest : List g.Operand) (e : ℕ) (sign : Bool)
    → joined both gates (kept ++ g.EventIs e sign ∷ []) rest ≡ joined both gates kept (g.EventIs e sign ∷ rest)
event_stays true gates kept rest e sign = refl
event_stays false gates kept rest e sign = refl

gate_stays : (both : Bool) (gates : List g.Gate) (kept rest : List g.Operand) (n : ℕ) (sign : Bool)
    → joined both gates (kept ++ g.GateIs n sign ∷ []) rest ≡ joined both gates kept (g.GateIs n sign ∷ rest)
gate_stays true gates kept rest n sign = refl
gate_stays false gates kept rest n sign = refl

-- what comes of the kept operands and those from this place on
abbrev pub from_place : Joint → List g.Gate → List Operand → List Operand → ℕ → g.Made
from_place j gates kept os i = joined (all_needed j) gates (map operand_of kept) (map operand_of (drop i os))

-- at a place among the operands, by what stands there
module _ (j : Joint) (gates : List g.Gate) (kept os : List Operand) (i : ℕ) (inside : i < length os) where
  at_place : (o : Operand) → get_or os i Always ≡ o → from_place j gates kept os i
      ≡ joined (all_needed j) gates (map operand_of kept) (operand_of o ∷ map operand_of (drop (i + 1) os))
  at_place o is =
      ap (λ z. joined (all_needed j) gates (map operand_of kept) (map operand_of z))
      (drop_more os i Always inside ∙ ap (λ p. p ∷ drop (i + 1) os) is)

  pub past_always : get_or os i Always ≡ Always → sameb the_type j Or ≡ false
      → from_place j gates kept os (i + 1) ≡ from_place j gates kept os i
  past_always is e =
      always_drops j gates (map operand_of kept) (map operand_of (drop (i + 1) os)) e ∙ sym (at_place Always is)

  pub at_always : get_or os i Always ≡ Always → sameb the_type j Or ≡ true
      → record { operand = g.Always; gates = gates } ≡ from_place j gates kept os i
  at_always is e =
      always_decides j gates (map operand_of kept) (map operand_of (drop (i + 1) os)) e ∙ sym (at_place Always is)

  pub past_never : get_or os i Always ≡ Never → sameb the_type j And ≡ false
      → from_place j gates kept os (i + 1) ≡ from_place j gates kept os i
  past_never is e =
      never_drops j gates (map operand_of kept) (map operand_of (drop (i + 1) os)) e ∙ sym (at_place Never is)

  pub at_never : get_or os i Always ≡ Never → sameb the_type j And ≡ true
      → record { operand = g.Never; gates = gates } ≡ from_place j gates kept os i
  at_never is e =
      never_decides j gates (map operand_of kept) (map operand_of (drop (i + 1) os)) e ∙ sym (at_place Never is)

  -- with the operand behind those that were kept
  one_more : (new : List Operand) (o : Operand) → get_or os i Always ≡ o → new ≡ kept ++ get_or os i Always ∷ []
      → from_place j gates new os (i + 1) ≡ joined (all_needed j) gates (map operand_of kept ++ operand_of o ∷ [])
      (map operand_of (drop (i + 1) os))
  one_more new o is e =
      ap (λ z. joined (all_needed j) gates z (map operand_of (drop (i + 1) os)))
      (ap (map operand_of) (e ∙ ap (λ p. kept ++ p ∷ []) is) ∙ map-append operand_of kept (o ∷ []))

  pub past_event : (new : List Operand) (e : EventId) (sign : Bool) → get_or os i Always ≡ Event e sign
      → new ≡ kept ++ get_or os i Always ∷ [] → from_place j gates new os (i + 1) ≡ from_place j gates kept os i
  past_event new e sign is more =
      one_more new (Event e sign) is more
      ∙ event_stays (all_needed j) gates (map operand_of kept) (map operand_of (drop (i + 1) os)) e.n sign
      ∙ sym (at_place (Event e sign) is)

  pub past_gate : (new : List Operand) (n : GateId) (sign : Bool) → get_or os i Always ≡ Gate n sign
      → new ≡ kept ++ get_or os i Always ∷ [] → from_place j gates new os (i + 1) ≡ from_place j gates kept os i
  past_gate new n sign is more =
      one_more new (Gate n sign) is more
      ∙ gate_stays (all_needed j) gates (map operand_of kept) (map operand_of (drop (i + 1) os)) n.n sign
      ∙ sym (at_place (Gate n sign) is)
