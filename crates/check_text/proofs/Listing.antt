-- Whether sets are listed, as tests.
use Rattle.std.proofs.Common.{◌≡◌, ◌<◌, ◌+◌, ℕ, length, drop, get_or, Option, Bool, true, false, ◌&&◌, inl, inr, if◌then◌else◌, List, [], ◌∷◌, ◌++◌, nat_eq, eq-eqb, codes, append_assoc, Result, Ok, Err, OnOk, refl, sym, ◌∙◌, ap, subst}
use Rattle.std.proofs.lemmas.Bool.{eqb-true}
use Rattle.std.proofs.lemmas.List.{at_drop_more}
use Rattle.ar_base.specs.Lists.{IsOneOf}
use Rattle.ar_base.specs.Numbers.{WayId}
use Rattle.ar_base.specs.Sets.{Within}
use Rattle.ar_base.specs.Texts.{line}
use Rattle.ar_base.proofs.Standing.{one_none, one_cases, one_first, one_rest, stands_within}
use Rattle.ar_meaning.specs.Found.{IsAnswer}
use Rattle.ar_meaning.specs.Runs.{Label}
use Rattle.ar_meaning.proofs.Found.{same_answer}
use Rattle.ar_io.specs.declared.outside.SinkFailed.{SinkFailed}
use Rattle.gts_core.specs.declared.bound.Chain.{Chain}
use Rattle.gts_core.specs.declared.system.GtsParts.{GtsParts}
use Rattle.gts_core.proofs.Tests.{and_answer, or_answer}
use Rattle.cut_check.specs.Flat.{chain_lines}
use Rattle.cut_check.specs.LineSets.{AreEventNumbers, HaveEventNumbers}
use Rattle.cut_check.specs.Verdicts.{events_of, IsListed}
use Rattle.cut_check.specs.declared.checking.Verdict.{Verdict}
use Rattle.gts_core.specs.Sound.{IsSound}
use Rattle.mode_trees.specs.Ways.{OwnTheirWays}
use Rattle.mode_trees.specs.declared.forests.Edge.{Edge}
use Rattle.mode_trees.specs.declared.forests.ModeTree.{ModeTree}
use Rattle.text_pieces.specs.WayLabels.{way_label}
use Rattle.cut_text.specs.Printed.{HaveOneWay, AreOfEdges, HasEdge, forest_edges, events_text}
use Rattle.cut_text.specs.Tables.{HasEdgeWays, texts_at}
use Rattle.cut_text.specs.Texts.{braced}
use Rattle.eq_core.specs.Values.{has_event}
use Rattle.check_text.specs.Printed.{all_among, listed_in, missing_one, missing_at, missing_text, is_chain_above, chain_line, verdict_lines, all_verdicts_good, all_listed, text_of_check}
use Rattle.check_text.specs.Texts.{later, last_line}
use Rattle.cut_text.proofs.Known.{same_map}
use Rattle.cut_text.proofs.TableLemmas.{tree_of_edge}

eq_answer : (a b : ℕ) (r : Bool) → nat_eq a b ≡ r → IsAnswer r (a ≡ b)
eq_answer a b true e = eqb-true a b e
eq_answer a b false e = λ i. let h : nat_eq a b ≡ true = eq-eqb a b i in let z : false ≡ true = sym e ∙ h in cc

pub among_answer : (xs : List ℕ) (e : ℕ) → IsAnswer (has_event xs e) (IsOneOf xs e)
among_answer [] e = λ o. one_none e o
among_answer (x ∷ xs) e =
    or_answer (nat_eq x e) (has_event xs e) (x ≡ e) (IsOneOf xs e) (IsOneOf (x ∷ xs) e)
    (λ i. subst (λ (z : ℕ). IsOneOf (x ∷ xs) z) i (one_first x xs)) (one_rest x xs e)
    (λ n m o. elim (one_cases x xs e o) [ inl i ↦ n i | inr q ↦ m q ]) (eq_answer x e (nat_eq x e) refl)
    (among_answer xs e)

pub all_answer : (xs ys : List ℕ) → IsAnswer (all_among xs ys) (Within xs ys)
all_answer [] ys = record { each = λ e o. absurd (one_none e o) }
all_answer (x ∷ xs) ys =
    and_answer (has_event ys x) (all_among xs ys) (IsOneOf ys x) (Within xs ys) (Within (x ∷ xs) ys)
    (λ o w. record {
      each = λ e q. elim (one_cases x xs e q)
          [ inl i ↦ subst (λ (z : ℕ). IsOneOf ys z) i o | inr r ↦ w.each e r ];
    })
    (λ w. w.each x (one_first x xs)) (λ w. record { each = λ e o. w.each e (one_rest x xs e o) }) (among_answer ys x)
    (all_answer xs ys)

pub listed_answer : (lines : List (List Label)) (set : List ℕ) → IsAnswer (listed_in lines set) (IsListed lines set)
listed_answer [] set = λ h. one_none h.line h.is_line
listed_answer (ls ∷ lines) set =
    or_answer (all_among (events_of ls) set && all_among set (events_of ls)) (listed_in lines set)
    (Within (events_of ls) set × Within set (events_of ls)) (IsListed lines set) (IsListed (ls ∷ lines) set)
    (λ w. record { line = ls; is_line = one_first ls lines; within = w.0; whole = w.1 })
    (λ h. record { line = h.line; is_line = one_rest ls lines h.line h.is_line; within = h.within; whole = h.whole })
    (λ n m h. elim (one_cases ls lines h.line h.is_line) [
      | inl e ↦ n (
        subst (λ (z : List Label). Within (events_of z) set) (sym e) h.within,
        subst
            (λ (z : List Label). Within set (events_of z)) (sym e) h.whole,
      )
      | inr o ↦ m (record { line = h.line; is_line = o; within = h.within; whole = h.whole })
    ])
    (and_answer (all_among (events_of ls) set) (all_among set (events_of ls)) (Within (events_of ls) set)
    (Within set (events_of ls)) (Within (events_of ls) set × Within set (events_of ls))
    (λ a b. (a, b)) (λ w. w.0) (λ w. w.1) (all_answer (events_of ls) set) (all_answer set (events_of ls)))
    (listed_answer lines set)

-- a set that is listed, or not
pub listed_yes : (lines : List (List Label)) (set : List ℕ) → IsListed lines set → listed_in lines set ≡ true
listed_yes lines set h = same_answer (IsListed lines set) (listed_in lines set) true (listed_answer lines set) h

pub listed_not : (lines : List (List Label)) (set : List ℕ) → (IsListed lines set → ⊥) → listed_in lines set ≡ false
listed_not lines set h = same_answer (IsListed lines set) (listed_in lines set) false (listed_answer lines set) h

-- what is written of a set
pub missing_none : (p : GtsParts) (ways : List WayId) (lines : List (List Label)) (set : List ℕ) → IsListed lines set
    → ◌≡◌ {A = List ℕ} [] (missing_one p ways lines set)
missing_none p ways lines set h = sym
    (ap (λ (b : Bool). if b then [] else line (codes "missing " ++ braced (texts_at p ways set)))
    (listed_yes lines set h))

pub missing_some : (p : GtsParts) (ways : List WayId) (lines : List (List Label)) (set : List ℕ)
    → (IsListed lines set → ⊥)
    → codes "missing " ++ (braced (texts_at p ways set) ++ 10 ∷ []) ≡ missing_one p ways lines set
missing_some p ways lines set h =
    sym (append_assoc (codes "missing ") (braced (texts_at p ways set)) (10 ∷ []))
    ∙ sym (ap (λ (b : Bool). if b then [] else line (codes "missing " ++ braced (texts_at p ways set)))
    (listed_not lines set h))

pub and_false : (b : Bool) → false ≡ (b && false)
and_false true = refl
and_false false = refl

pub and_then : (a b c : Bool) → ((a && b) && c) ≡ (a && (b && c))
and_then true b c = refl
and_then false b c = refl

pub on_ok : (P : Type 0) (r : Result (Unit {0}) SinkFailed) → P → OnOk r P
on_ok P (Ok u) h = h
on_ok P (Err e) h = tt

-- the missing lines by the edges
pub same_missing : (edges : List Edge) → HaveOneWay edges → (ways : List WayId) → HasEdgeWays edges ways
    → (p : GtsParts) (lines : List (List Label)) (sets : List (List ℕ)) → AreOfEdges edges sets
    → missing_at p ways lines sets ≡ missing_text p edges lines sets
same_missing edges one ways are p lines [] h = refl
same_missing edges one ways are p lines (s ∷ ss) h =
    ap (λ (z : List (List ℕ)). (if listed_in lines s then [] else line (codes "missing " ++ braced z)) ++ missing_at p
    ways lines ss)
    (same_map edges one ways are (way_label p) s (h.each s (one_first s ss)))
    ∙ ap (λ (z : List ℕ). (if listed_in lines s then [] else line (codes "missing " ++ events_text p edges s)) ++ z)
    (same_missing edges one ways are p lines ss (record { each = λ x o. h.each x (one_rest s ss x o) }))

-- the lines of the chains that are left begin with that of the next one
pub next_chain : (order : Option ℕ) (chains : List Chain) (left : List Verdict) (i : ℕ) (c : Chain) → i < length chains
    → c ≡ get_or chains i c
    → verdict_lines order (drop i chains) left
    ≡ chain_line (is_chain_above order c) c.line left
    ++ verdict_lines order (drop (i + 1) chains) (later (is_chain_above order c) left)
next_chain order chains left i c lt is =
    at_drop_more (λ (xs : List Chain). verdict_lines order xs left) chains i c lt
    ∙ ap (λ (d : Chain). chain_line (is_chain_above order d) d.line left
    ++ verdict_lines order (drop (i + 1) chains) (later (is_chain_above order d) left)) (sym is)

-- the whole text by the table of ways
pub whole_text : (edges : List Edge) → HaveOneWay edges → (ways : List WayId) → HasEdgeWays edges ways
    → (p : GtsParts) (order : Option ℕ) (chains short : List Chain) (vs : List Verdict) (sets : List (List ℕ))
    → AreOfEdges edges sets
    → (b : Bool) → b ≡ (all_verdicts_good vs && all_listed (chain_lines p short) sets)
    → verdict_lines order chains vs ++ (missing_at p ways (chain_lines p short) sets ++ last_line order b)
    ≡ text_of_check p edges order chains short vs sets
whole_text edges one ways are p order chains short vs sets h b e =
    ap (λ (z : List ℕ). verdict_lines order chains vs ++ (z ++ last_line order b))
    (same_missing edges one ways are p (chain_lines p short) sets h)
    ∙ ap (λ (z : Bool). verdict_lines order chains vs
    ++ (missing_text p edges (chain_lines p short) sets ++ last_line order z)) e

-- the events of the set that is given are events of the system, and so are those of the sets that are left
module _ (p : GtsParts) where
  pub first_numbers : (old : List (List ℕ)) (events : List ℕ) (rest : List (List ℕ)) → old ≡ events ∷ rest
      → HaveEventNumbers p old → AreEventNumbers p events
  first_numbers old events rest e h = (subst (λ z. HaveEventNumbers p z) e h).each events (one_first events rest)

  pub rest_numbers : (old : List (List ℕ)) (events : List ℕ) (rest : List (List ℕ)) → old ≡ events ∷ rest
      → HaveEventNumbers p old → HaveEventNumbers p rest
  rest_numbers old events rest e h = record {
    each = λ x o. (subst (λ z. HaveEventNumbers p z) e h).each x (one_rest events rest x o);
  }

  -- the events of edges are events of the system
  edge_number : IsSound p → (ts : List ModeTree) → OwnTheirWays p ts → (e : ℕ) → HasEdge (forest_edges ts) e
      → e < length p.events.items
  edge_number sound ts own e h =
      let t = tree_of_edge ts h.edge h.is_edge in
      let o = (own.each t.0 t.1).each h.edge t.2 in
      let event = sound.own_ways h.edge.way.n o.way o.stands in
      subst (λ (z : ℕ). z < length p.events.items) (o.is_event ∙ h.is_event)
      (stands_within p.events.items o.way.event.n event.event event.stands)

  pub set_numbers : IsSound p → (ts : List ModeTree) → OwnTheirWays p ts → (sets : List (List ℕ))
      → AreOfEdges (forest_edges ts) sets → HaveEventNumbers p sets
  set_numbers sound ts own sets h = record {
    each = λ events o. record { each = λ e q. edge_number sound ts own e (h.each events o e q) };
  }
