-- What is known round by round.
use Rattle.std.proofs.Common.{◌≡◌, ◌<◌, ◌⊎◌, inl, inr, ℕ, suc, Bool, true, false, List, if◌then◌else◌, refl, sym, ap, ◌∙◌, subst, arith}
use Rattle.std.proofs.lemmas.List.{length-map}
use Rattle.ar_base.specs.Lists.{Stands, IsOneOf}
use Rattle.ar_base.proofs.Standing.{stands_one, stands_within, stands_some, stands_map, stands_map_back, one_here}
use Rattle.domains.specs.declared.Value.{Value}
use Rattle.typed_expr.specs.Yields.{Yields}
use Rattle.typed_expr.specs.declared.expr.Expr.{out-Expr}
use Rattle.typed_expr.proofs.Facts.{yields_more, yields_named}
use Rattle.ar_meaning.specs.Systems as s
use Rattle.ar_meaning.specs.Dependence.{Names}
use Rattle.ar_meaning.specs.Facts.{PassesConditions, Allows, HasStateValue}
use Rattle.ar_meaning.proofs.ByNumber.{given_from}
use Rattle.ar_meaning.proofs.Dependence.{passes_named}
use Rattle.ar_meaning.proofs.Least.{least, passes_more}
use Rattle.ar_meaning.proofs.Outcomes.{one_told}
use Rattle.flow_reasons.specs.Rounds.{Round, AddsFact}
use Rattle.flow_reasons.proofs.RoundRounding.{round_grows, round_fact, added_fact}
use Rattle.gts_core.specs.Sound.{IsSound}
use Rattle.gts_core.specs.View.{net_of, assign_of, variable_of}
use Rattle.gts_core.specs.declared.system.Assign.{Assign}
use Rattle.gts_core.specs.declared.system.Variable.{Variable}
use Rattle.gts_core.specs.declared.system.GtsParts.{GtsParts}
use Rattle.gts_core.proofs.Viewing.{variable_there, variable_back, are_numbered}
use Rattle.flow_propagate.specs.Plan.{AreReaders}
use Rattle.flow_propagate.proofs.Looking.{one_or_not}
use Rattle.flow_reasons.specs.declared.fact_marks.Mark.{Mark}
use Rattle.flow_reasons.specs.declared.fact_marks.Mark.TheVariants.{Unknown, Given, Added}
use Rattle.flow_reasons.specs.FactMarks.{is_fact, HasNoFact, IsMarkedBy, MarksAll}
use Rattle.flow_reasons.specs.Marks.{unknown_count, Known, IsStanding, IsAddedIn, MarkSays, AreRoundMarks, AreLastMarks, first_mark_of, first_marks_of}
use Rattle.flow_reasons.specs.Bringing.{Brings, BringsAt, BringAll, NameOne}
use Rattle.flow_reasons.proofs.Counting.{fewer}
use Rattle.flow_reasons.proofs.Marking.{open_not}
use Rattle.flow_reasons.proofs.Standing.{fact_stands, value_allowed, at_number}

-- a mark that is a fact or not
fact_or_open : (marks : List Mark) (n : ℕ) (m : Mark) → Stands marks n m → (is_fact m ≡ true) ⊎ HasNoFact marks n
fact_or_open marks n m st = go (is_fact m) refl
  where
    go : (b : Bool) → is_fact m ≡ b → (is_fact m ≡ true) ⊎ HasNoFact marks n
    go true e = inl e
    go false e = inr (record { mark = m; stands = st; is = e })

module _ (p : GtsParts) (sound : IsSound p) (values : List Value) (standing : IsStanding p values) where
  abbrev net : s.Net ℕ
  net = net_of p

  -- before the first round
  first_is : (x : Variable) (b : Bool) → x.is_state ≡ b → first_mark_of x ≡ (if b then Given else Unknown)
  first_is x b e = ap (λ (z : Bool). (let m : Mark = if z then Given else Unknown in m)) e

  first_given : (x : Variable) → is_fact (first_mark_of x) ≡ true → x.is_state ≡ true
  first_given x i = go x.is_state refl
    where
      go : (b : Bool) → x.is_state ≡ b → x.is_state ≡ true
      go true e = e
      go false e = let j = ap is_fact (first_is x false e) in absurd (cc (i, j))

  first_says : (n : ℕ) (x : Variable) (v : Value) → MarkSays p values n x v (first_mark_of x)
  first_says n x v = go x.is_state refl
    where
      go : (b : Bool) → x.is_state ≡ b → MarkSays p values n x v (first_mark_of x)
      go true e = subst (λ (z : Mark). MarkSays p values n x v z) (sym (first_is x true e)) e
      go false e = subst (λ (z : Mark). MarkSays p values n x v z) (sym (first_is x false e)) e

  pub marks_zero : AreRoundMarks p values 0 (first_marks_of p.variables.items)
  marks_zero = record {
    long = length-map p.variables.items first_mark_of;
    sound = λ n v k.
        let b = stands_map_back first_mark_of p.variables.items n k.mark k.stands in
        given_from net (are_numbered p) values n (variable_of n b.0) v (variable_there p n b.0 b.1)
        (first_given b.0 (subst (λ (z : Mark). is_fact z ≡ true) (sym b.2) k.is)) k.value;
    whole = λ n v g.
        let r = variable_back p g.place g.variable g.stands in
        let e = at_number p sound values standing g.place n g.variable g.stands g.is_key in
        let i : r.0.is_state ≡ true = ap (λ (z : s.Variable ℕ). z.is_state) r.2 ∙ g.is_state in
        subst (λ z. Known values (first_marks_of p.variables.items) z v) e (record {
          mark = first_mark_of r.0;
          stands = stands_map first_mark_of p.variables.items g.place r.0 r.1;
          is = ap is_fact (first_is r.0 true i);
          value = g.value;
        });
    says = λ n x v m sx sv sm.
        let b = stands_map_back first_mark_of p.variables.items n m sm in
        let e = stands_one p.variables.items n b.0 x b.1 sx in
        subst (λ (z : Mark). MarkSays p values n x v z) (ap first_mark_of (sym e) ∙ b.2) (first_says n x v);
  }

  -- what is known after some rounds
  module _ (k : ℕ) (old : List Mark) (are : AreRoundMarks p values k old) where
    known_round : (x : ℕ) (w : Value) → Known values old x w → Round net values k x w
    known_round x w h = are.sound x w h

    -- an assignment that brings something adds it
    pub brings_adds : (a : Assign) → (b : Brings values old a)
        → AddsFact net (Round net values k) a.target.n b.value (assign_of a)
    brings_adds a b = record {
      is_target = refl;
      passes = passes_more ℕ (Known values old) (Round net values k) known_round b.passes;
      yields = yields_more ℕ (Known values old) (Round net values k) known_round b.yields;
      allowed = value_allowed p sound values standing a.target.n b.value b.is_value;
    }

    -- an assignment that adds to an open variable brings something
    pub adds_brings : (j : ℕ) (a : Assign) → Stands p.assigns.items j a → (n : ℕ) (v : Value)
        → AddsFact net (Round net values k) n v (assign_of a)
        → HasNoFact old n → BringsAt p values old j
    adds_brings j a st n v h o =
        let e : a.target.n ≡ n = h.is_target in
        let fact = added_fact net values (Round net values k) (round_fact net values k) n v
        (record {
          assign = assign_of a;
          is_one = one_here net.assertions j (assign_of a)
              (stands_map assign_of p.assigns.items j a st);
          adds = h;
        }) in
        record {
          assign = a;
          stands = st;
          brings = record {
            is_open = subst (λ z. HasNoFact old z) (sym e) o;
            value = v;
            is_value = subst (λ z. Stands values z v) (sym e) (fact_stands p sound values standing n v fact);
            passes = passes_more ℕ (Round net values k) (Known values old) are.whole h.passes;
            yields = yields_more ℕ (Round net values k) (Known values old) are.whole h.yields;
          };
        }

    -- an open variable is a flow
    open_flow : (n : ℕ) (x : Variable) (v : Value) → Stands p.variables.items n x → Stands values n v → HasNoFact old n
        → x.is_state ≡ false
    open_flow n x v sx sv o = go o.mark o.is (are.says n x v o.mark sx sv o.stands)
      where
        go : (m : Mark) → is_fact m ≡ false → MarkSays p values n x v m → x.is_state ≡ false
        go Unknown i says = says
        go Given i says = absurd (cc i)
        go (Added r a) i says = absurd (cc i)

    -- the next round
    module _ (found : List ℕ) (all : BringAll p values old found) (round : ℕ) (is_round : round ≡ suc k)
        (new : List Mark) (fresh : List ℕ)
        (d : MarksAll p found round old new fresh) where
      known_more : (n : ℕ) (v : Value) → Known values old n v → Known values new n v
      known_more n v h = record { mark = h.mark; stands = d.kept n h.mark h.stands h.is; is = h.is; value = h.value }

      open_before : (n : ℕ) → HasNoFact new n → HasNoFact old n
      open_before n o =
          let l = stands_within new n o.mark o.stands in
          let m = stands_some old n (omega (arith, l, d.long)) in
          elim (fact_or_open old n m.0 m.1) [
            | inl i ↦ absurd (open_not o (d.kept n m.0 m.1 i) i)
            | inr q ↦ q
          ]

      -- what the marked variable got
      marked_adds : (n : ℕ) (m : Mark) (v : Value) → (q : IsMarkedBy p found round n m) → Stands values n v
          → (a : Assign) × Stands p.assigns.items q.by.n a × AddsFact net (Round net values k) n v (assign_of a)
      marked_adds n m v q sv =
          let b = (all.each q.by.n).0 q.is_one in
          let e = stands_one p.assigns.items q.by.n b.assign q.is_to.assign b.stands q.is_to.stands in
          let t : b.assign.target.n ≡ n = ap (λ (z : Assign). z.target.n) e ∙ q.is_to.is in
          let i : b.brings.value ≡ v = stands_one values n b.brings.value v
          (subst (λ z. Stands values z b.brings.value) t b.brings.is_value) sv in
          let h = brings_adds b.assign b.brings in (
            b.assign,
            b.stands,
            subst (λ z. AddsFact net (Round net values k) n z (assign_of b.assign)) i
                (subst (λ z. AddsFact net (Round net values k) z b.brings.value (assign_of b.assign)) t h),
          )

      sound_next : (n : ℕ) (v : Value) → Known values new n v → Round net values (suc k) n v
      sound_next n v h = elim (d.only n h.mark h.stands) [
        | inl q ↦ inl (are.sound n v (record { mark = h.mark; stands = q; is = h.is; value = h.value }))
        | inr q ↦ (let r = marked_adds n h.mark v q.1.1 h.value in
            inr (record {
              assign = assign_of r.0;
              is_one = one_here net.assertions q.1.1.by.n (assign_of r.0)
                  (stands_map assign_of p.assigns.items q.1.1.by.n r.0 r.1);
              adds = r.2;
            }))
      ]

      whole_next : (n : ℕ) (v : Value) → Round net values (suc k) n v → Known values new n v
      whole_next n v (inl h) = known_more n v (are.whole n v h)
      whole_next n v (inr h) =
          let b = stands_map_back assign_of p.assigns.items h.is_one.place h.assign h.is_one.stands in
          let adds : AddsFact net (Round net values k) n v (assign_of b.0) =
          subst (λ (z : s.Assign ℕ). AddsFact net (Round net values k) n v z) (sym b.2) h.adds in
          let sv = fact_stands p sound values standing n v
          (added_fact net values (Round net values k) (round_fact net values k) n v h) in
          let l = stands_within values n v sv in
          let m = stands_some new n (omega (arith, l, d.long, are.long, standing.total.long)) in
          elim (fact_or_open new n m.0 m.1) [
            | inl i ↦ record { mark = m.0; stands = m.1; is = i; value = sv }
            | inr o ↦ (let at = adds_brings h.is_one.place b.0 b.1 n v adds (open_before n o) in
                absurd (d.all h.is_one.place n ((all.each h.is_one.place).1 at)
                (record { assign = b.0; stands = b.1; is = adds.is_target }) o))
          ]

      says_next : (n : ℕ) (x : Variable) (v : Value) (m : Mark) → Stands p.variables.items n x → Stands values n v
          → Stands new n m → MarkSays p values n x v m
      says_next n x v m sx sv sm = elim (d.only n m sm) [
        | inl q ↦ are.says n x v m sx sv q
        | inr q ↦ subst (λ (z : Mark). MarkSays p values n x v z) (sym q.1.1.is)
            (open_flow n x v sx sv q.0, added q.0 q.1.1)
      ]
        where
          added : HasNoFact old n → (q : IsMarkedBy p found round n m) → IsAddedIn p values n v round q.by.n
          added o q =
              let r = marked_adds n m v q sv in
              record {
                before = k;
                is_round = is_round;
                not_yet = λ h. (let w = are.whole n v h in open_not o w.stands w.is);
                first = record {
                  item = assign_of r.0;
                  stands = stands_map assign_of p.assigns.items q.by.n r.0 r.1;
                  has = r.2;
                  before = λ j b l sb h.
                      let c = stands_map_back assign_of p.assigns.items j b sb in
                      let g : AddsFact net (Round net values k) n v (assign_of c.0) =
                      subst (λ (z : s.Assign ℕ). AddsFact net (Round net values k) n v z) (sym c.2) h in
                      let at = adds_brings j c.0 c.1 n v g o in
                      let f = q.least j ((all.each j).1 at) (record { assign = c.0; stands = c.1; is = g.is_target }) in
                      omega (arith, l, f);
                };
              }

      pub marks_more : AreRoundMarks p values round new
      marks_more = subst (λ z. AreRoundMarks p values z new) (sym is_round)
          (record { long = d.long ∙ are.long; sound = sound_next; whole = whole_next; says = says_next })

      module _ (pairs : List (ℕ × ℕ)) (readers : AreReaders p pairs) (n : ℕ) (b : BringsAt p values new n)
          (none : ((x : ℕ) × IsOneOf fresh x × IsOneOf pairs (x, n)) → ⊥) where
        as_before : (x : ℕ) (w : Value) → Names (assign_of b.assign) x → Known values new x w → Known values old x w
        as_before x w names h = elim (d.only x h.mark h.stands) [
          | inl q ↦ record { mark = h.mark; stands = q; is = h.is; value = h.value }
          | inr q ↦ absurd (none (
            x,
            q.1.0,
            readers.all x n
                (record {
                  assign = assign_of b.assign;
                  stands = stands_map assign_of p.assigns.items n b.assign b.stands;
                  names = names;
                }),
          ))
        ]

        at_before : BringsAt p values old n
        at_before = record {
          assign = b.assign;
          stands = b.stands;
          brings = record {
            is_open = open_before b.assign.target.n b.brings.is_open;
            value = b.brings.value;
            is_value = b.brings.is_value;
            passes = passes_named (λ x w m h. as_before x w (inr m) h) b.brings.passes;
            yields = yields_named (λ x w m h. as_before x w (inl m) h) b.brings.yields;
          };
        }

        never : ⊥
        never = d.all n b.assign.target.n ((all.each n).1 at_before)
            (record { assign = b.assign; stands = b.stands; is = refl }) b.brings.is_open

      -- what the next round brings comes by assignments that name a fresh variable
      pub names_fresh : (pairs : List (ℕ × ℕ)) → AreReaders p pairs → (n : ℕ) → BringsAt p values new n
          → NameOne p fresh n
      names_fresh pairs readers n b = elim (one_told (λ x. IsOneOf pairs (x, n)) fresh (λ x o. one_or_not pairs (x, n))) [
        | inl r ↦ record { variable = r.0; is_one = r.1; reads = readers.only r.0 n r.2 }
        | inr none ↦ absurd (never pairs readers n b none)
      ]

    -- where nothing is brought any more each fact is known
    pub marks_last : (found : List ℕ) → BringAll p values old found → ((n : ℕ) → IsOneOf found n → ⊥)
        → AreLastMarks p values old
    marks_last found all none = record {
      rounds = k;
      are = are;
      facts = least net.assertions (Allows net) (HasStateValue net values) (Known values old)
          (λ n v g. are.whole n v (round_grows net values 0 k (omega arith) n v g)) last;
    }
      where
        last : (a : s.Assign ℕ) (v : Value) → IsOneOf net.assertions a
            → PassesConditions (Known values old) a.conditions
            → Yields (Known values old) (out-Expr ℕ a.value) v → Allows net a.target v → Known values old a.target v
        last a v o q y l =
            let b = stands_map_back assign_of p.assigns.items o.place a o.stands in
            let adds : AddsFact net (Round net values k) a.target v a = record {
              is_target = refl;
              passes = passes_more ℕ (Known values old) (Round net values k) known_round q;
              yields = yields_more ℕ (Known values old) (Round net values k) known_round y;
              allowed = l;
            } in
            let sv = fact_stands p sound values standing a.target v
            (added_fact net values (Round net values k) (round_fact net values k) a.target v
            (record { assign = a; is_one = o; adds = adds })) in
            let w = stands_within values a.target v sv in
            let m = stands_some old a.target (omega (arith, w, are.long, standing.total.long)) in
            elim (fact_or_open old a.target m.0 m.1) [
              | inl i ↦ record { mark = m.0; stands = m.1; is = i; value = sv }
              | inr u ↦ absurd (none o.place ((all.each o.place).1
                  (adds_brings o.place b.0 b.1 a.target v
                  (subst (λ (z : s.Assign ℕ). AddsFact net (Round net values k) a.target v z) (sym b.2) adds) u)))
            ]

-- what is brought comes to an open variable, which then has its fact
pub round_fewer : (p : GtsParts) (values : List Value) (old new : List Mark) (found fresh : List ℕ) (round n : ℕ)
    → BringAll p values old found
    → MarksAll p found round old new fresh → IsOneOf found n → unknown_count new < unknown_count old
round_fewer p values old new found fresh round n all d o =
    let b = (all.each n).0 o in
    fewer old new d.long d.kept b.assign.target.n b.brings.is_open
    (λ u. d.all n b.assign.target.n o (record { assign = b.assign; stands = b.stands; is = refl }) u)

pub marked_as : (p : GtsParts) (xs found : List ℕ) (round : ℕ) (old marks new : List Mark) (fresh : List ℕ) → xs ≡ found
    → old ≡ marks
    → MarksAll p xs round old new fresh → MarksAll p found round marks new fresh
marked_as p xs found round old marks new fresh e f d =
    subst (λ (z : List Mark). MarksAll p found round z new fresh) f
    (subst (λ (z : List ℕ). MarksAll p z round old new fresh) e d)
