-- The reasons that marks make.
use Rattle.std.proofs.Common.{◌≡◌, ◌<◌, ◌≤◌, ◌+◌, inr, ℕ, suc, true, false, List, [], ◌∷◌, ◌++◌, length, take, get_or, Vec, Global, refl, sym, ap, ◌∙◌, subst, arith}
use Rattle.std.proofs.lemmas.Bool.{ltb-true}
use Rattle.std.proofs.lemmas.Bool.Decides.{nat_tests}
use Rattle.std.proofs.lemmas.List.{take_more, take_all, map-append, length-take-le}
use Rattle.ar_base.specs.Lists.{Stands, IsOneOf}
use Rattle.ar_base.specs.Numbers.{VarId}
use Rattle.ar_base.specs.NumbersInside.{AssignId}
use Rattle.ar_base.proofs.Standing.{stands_one, stands_within, stands_some, stands_map_back, stands_get, one_here}
use Rattle.domains.specs.declared.Value.{Value}
use Rattle.ar_meaning.specs.Systems as s
use Rattle.ar_meaning.specs.Dependence.{Names}
use Rattle.ar_meaning.specs.Facts.{FactOf}
use Rattle.ar_meaning.proofs.ByNumber.{given_from}
use Rattle.flow_reasons.specs.Rounds.{Round}
use Rattle.flow_reasons.specs.Reasons.{IsNamedFact, RestsOn, IsReason, derived, reset, AreReasonsFrom, AreReasons, none, state, flow}
use Rattle.flow_reasons.specs.Reasons as rounds
use Rattle.flow_reasons.proofs.RoundRounding.{round_grows, round_fact}
use Rattle.gts_core.specs.Sound.{IsSound}
use Rattle.gts_core.specs.View.{net_of, assign_of, variable_of, variables_from}
use Rattle.gts_core.specs.declared.system.Variable.{Variable}
use Rattle.gts_core.specs.declared.system.GtsParts.{GtsParts}
use Rattle.gts_core.proofs.Viewing.{variable_there, variables_long, are_numbered}
use Rattle.flow_propagate.specs.Plan.{AreReaders}
use Rattle.flow_reasons.specs.Answers.{numbers_of, reason_of, reasons_of}
use Rattle.flow_reasons.specs.FactMarks.{is_fact}
use Rattle.flow_reasons.specs.Marks.{IsStanding, IsAddedIn, MarkSays, AreLastMarks}
use Rattle.flow_reasons.specs.Resting.{came_before, IsRestRow, HaveRests, reason_made}
use Rattle.flow_reasons.specs.declared.fact_marks.Mark.{Mark}
use Rattle.flow_reasons.specs.declared.fact_marks.Mark.TheVariants.{Unknown, Given, Added}
use Rattle.flow_reasons.specs.declared.reason.Reason.{Reason}
use Rattle.flow_reasons.proofs.Standing.{reset_value}

-- lists of reasons that grow
module _ {V : Type 0} (net : s.Net V) (t : List Value) where
  pub state_more : {k : ℕ} {xs : List (s.Variable V)} {rs : List rounds.Reason} (x : s.Variable V)
      → AreReasonsFrom net t k xs rs → x.is_state ≡ true
      → AreReasonsFrom net t k (xs ++ x ∷ []) rs
  state_more x none i = state i none
  state_more x (state j d) i = state j (state_more x d i)
  state_more x (flow j e w d) i = flow j e w (state_more x d i)

  pub flow_more : {k : ℕ} {xs : List (s.Variable V)} {rs : List rounds.Reason} (x : s.Variable V) (r : rounds.Reason)
      → AreReasonsFrom net t k xs rs
      → x.is_state ≡ false → r.flow ≡ k + length xs → IsReason net t x r
      → AreReasonsFrom net t k (xs ++ x ∷ []) (rs ++ r ∷ [])
  flow_more {k = k} x r none i e w = flow i (omega (arith, e)) w none
  flow_more x r (state j d) i e w = state j (flow_more x r d i (omega (arith, e)) w)
  flow_more x r (flow j f v d) i e w = flow j f v (flow_more x r d i (omega (arith, e)) w)

pub from_more : (k m : ℕ) (xs : List Variable) (x : Variable) → m ≡ k + length xs
    → variables_from k (xs ++ x ∷ []) ≡ variables_from k xs ++ variable_of m x ∷ []
from_more k m [] x e = let i : k ≡ m = omega (arith, e) in ap (λ z. variable_of z x ∷ []) i
from_more k m (y ∷ xs) x e = ap (λ z. variable_of k y ∷ z) (from_more (k + 1) m xs x (omega (arith, e)))

module _ (p : GtsParts) (sound : IsSound p) (values : List Value) (standing : IsStanding p values) (marks : List Mark)
    (last : AreLastMarks p values marks) where
  abbrev net : s.Net ℕ
  net = net_of p

  -- what an added mark says
  stands_in : (n : ℕ) (v : Value) (round by : ℕ) → (h : IsAddedIn p values n v round by)
      → Round net values (suc h.before) n v
  stands_in n v round by h = inr (record
      { assign = h.first.item; is_one = one_here net.assertions by h.first.item h.first.stands; adds = h.first.has })

  -- a fact that came before a round stands before it
  before_round : (x : ℕ) (m : Mark) (w : Value) (k : ℕ) → Stands marks x m → Stands values x w
      → came_before m (suc k) ≡ true → Round net values k x w
  before_round x m w k sm sv c =
      go m (last.are.says x y.0 w m y.1 sv sm) c
    where
      y : (y : Variable) × Stands p.variables.items x y
      y = let l = stands_within marks x m sm in stands_some p.variables.items x (omega (arith, l, last.are.long))

      go : (m : Mark) → MarkSays p values x y.0 w m → came_before m (suc k) ≡ true → Round net values k x w
      go Unknown h c = absurd (cc c)
      go Given h c = round_grows net values 0 k (omega arith) x w
          (given_from net (are_numbered p) values x (variable_of x y.0) w (variable_there p x y.0 y.1) h sv)
      go (Added r a) h c =
          let i = ltb-true _ _ c in
          round_grows net values (suc h.1.before) k (omega (arith, i, h.1.is_round)) x w (stands_in x w r a.n h.1)

  -- a fact that stands before a round came before it
  came_then : (x : ℕ) (m : Mark) (w : Value) (k : ℕ) → Stands marks x m → Stands values x w → is_fact m ≡ true
      → Round net values k x w → came_before m (suc k) ≡ true
  came_then x m w k sm sv i r = go m (last.are.says x y.0 w m y.1 sv sm) i
    where
      y : (y : Variable) × Stands p.variables.items x y
      y = let l = stands_within marks x m sm in stands_some p.variables.items x (omega (arith, l, last.are.long))

      go : (m : Mark) → MarkSays p values x y.0 w m → is_fact m ≡ true → came_before m (suc k) ≡ true
      go Unknown h i = absurd (cc i)
      go Given h i = refl
      go (Added r' a) h i =
          let late : k ≤ h.1.before → ⊥ = λ l. h.1.not_yet (round_grows net values k h.1.before l x w r) in
          let less : r' < suc k = omega (arith, h.1.is_round) in grind (arith, nat_tests, less)

  -- what the reason of a flow rests on
  module _ (n : ℕ) (v : Value) (round : ℕ) (by : AssignId) (sm : Stands marks n (Added round by))
      (h : IsAddedIn p values n v round by.n)
      (pairs : List (ℕ × ℕ)) (readers : AreReaders p pairs) (row : List ℕ) (rests : IsRestRow p marks pairs n row) where
    rest_sound : (x : ℕ) → IsOneOf row x → IsNamedFact net (Round net values h.before) h.first.item x
    rest_sound x o =
        let q = (rests.each x).0 o in
        let e = stands_one marks n (Added q.is.round q.is.by) (Added round by) q.is.added sm in
        let same_round : q.is.round ≡ suc h.before = (let f : q.is.round ≡ round = cc in f ∙ h.is_round) in
        let same_by : q.assign ≡ by.n = (let f : q.is.by ≡ by = cc in sym q.is.is_by ∙ ap (λ (z : AssignId). z.n) f) in
        let r = readers.only x q.assign q.pair in
        let item = stands_one net.assertions by.n r.assign h.first.item
        (subst (λ z. Stands net.assertions z r.assign) same_by r.stands) h.first.stands in
        let l = stands_within marks x q.is.other q.is.stands in
        let y = stands_some p.variables.items x (omega (arith, l, last.are.long)) in
        let w = stands_some values x (omega (arith, l, last.are.long, standing.total.long)) in
        record {
          variable = variable_of x y.0;
          stands = variable_there p x y.0 y.1;
          names = subst (λ (z : s.Assign ℕ). Names z x) item r.names;
          value = w.0;
          has = before_round x q.is.other w.0 h.before q.is.stands w.1
              (subst (λ z. came_before q.is.other z ≡ true) same_round q.is.before);
        }

    rest_whole : (x : ℕ) → IsNamedFact net (Round net values h.before) h.first.item x → IsOneOf row x
    rest_whole x q =
        let e : q.variable.key ≡ x = (are_numbered p).key x q.variable q.stands in
        let r : Round net values h.before x q.value = subst (λ z. Round net values h.before z q.value) e q.has in
        let k = last.facts x q.value (round_fact net values h.before x q.value r) in
        let b = stands_map_back assign_of p.assigns.items by.n h.first.item h.first.stands in
        let t : b.0.target.n ≡ n = ap (λ (z : s.Assign ℕ). z.target) b.2 ∙ h.first.has.is_target in
        (rests.each x).1 (record {
          assign = by.n;
          pair = readers.all x by.n (record
              { assign = h.first.item; stands = h.first.stands; names = subst (λ z. Names h.first.item z) e q.names });
          is = record {
            is_to = record { assign = b.0; stands = b.1; is = t };
            round = round;
            by = by;
            added = sm;
            is_by = refl;
            other = k.mark;
            stands = k.stands;
            before = subst (λ z. came_before k.mark z ≡ true) (sym h.is_round)
                (came_then x k.mark q.value h.before k.stands k.value k.is r);
          };
        })

    pub rests_are : RestsOn net (Round net values h.before) h.first.item row
    rests_are = record { ascends = rests.ascends; sound = rest_sound; whole = rest_whole }

  -- the reason that the mark of a flow makes
  pub is_reason : (n : ℕ) (x : Variable) (v : Value) (m : Mark) (row : Vec VarId Global) → Stands p.variables.items n x
      → x.is_state ≡ false → Stands values n v
      → Stands marks n m → (pairs : List (ℕ × ℕ)) → AreReaders p pairs
      → IsRestRow p marks pairs n (numbers_of row.items)
      → IsReason net values (variable_of n x) (reason_made n v m row.items)
  is_reason n x v m row sx f sv sm pairs readers rests = go m sm (last.are.says n x v m sx sv sm)
    where
      go : (m : Mark) → Stands marks n m → MarkSays p values n x v m
          → IsReason net values (variable_of n x) (reason_made n v m row.items)
      go Unknown sm says =
          let nothing : (w : Value) → FactOf net values n w → ⊥ = λ w g.
          (let k = last.facts n w g in let e = stands_one marks n k.mark Unknown k.stands sm in
          let i : is_fact Unknown ≡ true = subst (λ (z : Mark). is_fact z ≡ true) e k.is in absurd (cc i)) in
          reset (record {
            no_fact = nothing;
            value = reset_value p sound values standing n x v sx f sv nothing;
            round = refl;
            by = refl;
            rests_on = refl;
          })
      go Given sm says = absurd (cc (f, says))
      go (Added round by) sm says = derived (record {
        before = says.1.before;
        round = says.1.is_round;
        not_yet = says.1.not_yet;
        assertion = by.n;
        by = refl;
        first = says.1.first;
        rests_on = rests_are n v round by sm says.1 pairs readers (numbers_of row.items) rests;
      })

  -- the reasons of the flows among the first so many variables
  abbrev pub AreListed : ℕ → List Reason → Type 0
  AreListed i found = AreReasonsFrom net values 0 (variables_from 0 (take i p.variables.items)) (reasons_of found)

  listed_split : (i : ℕ) (x : Variable) → Stands p.variables.items i x
      → variables_from 0 (take (i + 1) p.variables.items)
      ≡ variables_from 0 (take i p.variables.items) ++ variable_of i x ∷ []
  listed_split i x sx =
      let l = stands_within p.variables.items i x sx in
      let e = stands_one p.variables.items i (get_or p.variables.items i x) x (stands_get p.variables.items i x l) sx in
      let long = length-take-le i p.variables.items (omega (arith, l)) in
      ap (variables_from 0) (take_more p.variables.items i x l
      ∙ ap (λ (z : Variable). take i p.variables.items ++ z ∷ []) e)
      ∙ from_more 0 i (take i p.variables.items) x (omega (arith, long))

  pub listed_none : (found : List Reason) → found ≡ [] → AreListed 0 found
  listed_none found e = subst (λ (z : List Reason). AreListed 0 z) (sym e) none

  pub listed_state : (i : ℕ) (x : Variable) (found : List Reason) → Stands p.variables.items i x → x.is_state ≡ true
      → AreListed i found
      → AreListed (i + 1) found
  listed_state i x found sx f h =
      subst (λ (z : List (s.Variable ℕ)). AreReasonsFrom net values 0 z (reasons_of found)) (sym (listed_split i x sx))
      (state_more net values (variable_of i x) h f)

  pub listed_flow : (i : ℕ) (x : Variable) (found : List Reason) (r : Reason) (v : Value) (m : Mark)
      (row : Vec VarId Global) → Stands p.variables.items i x
      → x.is_state ≡ false → Stands values i v → Stands marks i m → (rests : List (Vec VarId Global))
      → HaveRests p marks rests → Stands rests i row
      → reason_of r ≡ reason_made i v m row.items → AreListed i found → AreListed (i + 1) (found ++ r ∷ [])
  listed_flow i x found r v m row sx f sv sm rests have sr e h =
      let l = stands_within p.variables.items i x sx in
      let long = length-take-le i p.variables.items (omega (arith, l)) in
      let count = variables_long 0 (take i p.variables.items) in
      let w : IsReason net values (variable_of i x) (reason_of r) =
      subst (λ z. IsReason net values (variable_of i x) z) (sym e)
      (is_reason i x v m row sx f sv sm have.pairs have.readers (have.are.each i row sr)) in
      let number : r.flow.n ≡ i = ap (λ (z : rounds.Reason). z.flow) e ∙ made_flow i v m row.items in
      subst (λ (z : List rounds.Reason). AreReasonsFrom net values 0 (variables_from 0 (take (i + 1) p.variables.items))
      z) (sym (map-append reason_of found (r ∷ [])))
      (subst (λ (z : List (s.Variable ℕ)). AreReasonsFrom net values 0 z (reasons_of found ++ reason_of r ∷ []))
      (sym (listed_split i x sx))
      (flow_more net values (variable_of i x) (reason_of r) h f (omega (arith, number, count, long)) w))
    where
      made_flow : (n : ℕ) (v : Value) (m : Mark) (rest : List VarId) → (reason_made n v m rest).flow ≡ n
      made_flow n v Unknown rest = refl
      made_flow n v Given rest = refl
      made_flow n v (Added r a) rest = refl

  pub listed_done : (i : ℕ) (found : List Reason) → length p.variables.items ≤ i → AreListed i found
      → AreReasons net values (reasons_of found)
  listed_done i found l h =
      subst (λ (z : List Variable). AreReasonsFrom net values 0 (variables_from 0 z) (reasons_of found))
      (take_all i p.variables.items l) h
