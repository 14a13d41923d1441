-- The variables that reasons rest on, as they are gathered pair by pair.
use Rattle.std.proofs.Common.{◌≡◌, ◌<◌, ◌≤◌, ◌+◌, ◌⊎◌, inl, inr, ℕ, Bool, true, false, List, [], ◌∷◌, ◌++◌, length, get_or, set, take, Vec, Global, refl, sym, ap, ◌∙◌, subst, arith, length-set, length-append}
use Rattle.std.proofs.lemmas.Bool.{cases_eq}
use Rattle.std.proofs.lemmas.List.{take_more, take_all, map-append}
use Rattle.ar_base.specs.Lists.{Stands, IsOneOf}
use Rattle.ar_base.specs.Numbers.{VarId}
use Rattle.ar_base.specs.NumbersInside.{AssignId}
use Rattle.ar_base.proofs.Standing.{stands_one, stands_some, stands_get, stands_none, one_none, one_here}
use Rattle.ar_base.proofs.Sets.{ascends_push}
use Rattle.ar_meaning.specs.Found.{IsAnswer}
use Rattle.gts_core.specs.declared.system.Assign.{Assign}
use Rattle.gts_core.specs.declared.system.GtsParts.{GtsParts}
use Rattle.flow_propagate.specs.Plan.{AreReaders}
use Rattle.flow_reasons.specs.Answers.{numbers_of}
use Rattle.flow_reasons.specs.FactMarks.{IsTo}
use Rattle.flow_reasons.specs.declared.fact_marks.Mark.{Mark}
use Rattle.flow_reasons.specs.declared.fact_marks.Mark.TheVariants.{Unknown, Given, Added}
use Rattle.flow_reasons.specs.Resting.{came_before, IsReasonRest, HasRest, IsRestRow, AreRests, IsMarkedRest, added, AreEmpty, AddsRest}
use Rattle.flow_reasons.proofs.Placing.{set_here, set_back, take_stands, pushed_cases, pushed_old, pushed_last, ascends_none}

-- whether the assignment added the first fact and the other one came before
pub rest_told : (m : Mark) (a : ℕ) (o : Mark) → IsMarkedRest m a o ⊎ (IsMarkedRest m a o → ⊥)
rest_told Unknown a o = inr (λ h. elim h [ ])
rest_told Given a o = inr (λ h. elim h [ ])
rest_told (Added round by) a o = elim (cases_eq by.n a) [
  | inl e ↦ go (came_before o round) refl e
  | inr n ↦ inr (λ h. elim h [ added e i ↦ n e ])
]
  where
    go : (b : Bool) → came_before o round ≡ b → by.n ≡ a
        → IsMarkedRest (Added round by) a o ⊎ (IsMarkedRest (Added round by) a o → ⊥)
    go true i e = inl (added e i)
    go false i e = inr (λ h. elim h [ added f j ↦ (let k : came_before o round ≡ true = j in cc (i, k)) ])

module _ (p : GtsParts) (marks : List Mark) where
  -- no pair was looked at
  pub rests_none : (pairs : List (ℕ × ℕ)) (rests : List (Vec VarId Global)) → AreEmpty (length marks) rests
      → AreRests p marks (take 0 pairs) rests
  rests_none pairs rests h = record {
    long = h.long;
    each = λ n row s. subst (λ (z : List VarId). IsRestRow p marks [] n (numbers_of z)) (sym (h.each n row s))
        (record {
          ascends = ascends_none;
          each = λ x. (λ o. absurd (one_none x o), λ k. absurd (one_none (x, k.assign) k.pair));
        });
  }

  -- what a rest of the reason says of the marks
  rest_marked : (n x a : ℕ) (m o : Mark) → Stands marks n m → Stands marks x o → IsReasonRest p marks n x a
      → IsMarkedRest m a o
  rest_marked n x a m o sm so r =
      let e = stands_one marks n (Added r.round r.by) m r.added sm in
      let f = stands_one marks x r.other o r.stands so in
      subst (λ (z : Mark). IsMarkedRest z a o) e
      (subst (λ (z : Mark). IsMarkedRest (Added r.round r.by) a z) f (added r.is_by r.before))

  marked_rest : (n x a : ℕ) (m o : Mark) → IsTo p a n → Stands marks n m → Stands marks x o → IsMarkedRest m a o
      → IsReasonRest p marks n x a
  marked_rest n x a (Added round by) o t sm so (added e i) =
      record { is_to = t; round = round; by = by; added = sm; is_by = e; other = o; stands = so; before = i }
  marked_rest n x a Unknown o t sm so h = elim h [ ]
  marked_rest n x a Given o t sm so h = elim h [ ]

  module _ (pairs : List (ℕ × ℕ)) (readers : AreReaders p pairs) (i x a : ℕ) (l : i < length pairs)
      (at : Stands pairs i (x, a))
      (assign : Assign) (st : Stands p.assigns.items a assign) (old new : List (Vec VarId Global))
      (are : AreRests p marks (take i pairs) old) (inside : x < length marks)
      (target_inside : assign.target.n < length marks)
      (adds : AddsRest marks assign.target.n x a old new) where
    abbrev done : List (ℕ × ℕ)
    done = take i pairs

    split : take (i + 1) pairs ≡ take i pairs ++ (x, a) ∷ []
    split =
        let e = stands_one pairs i (get_or pairs i (x, a)) (x, a) (stands_get pairs i (x, a) l) at in
        let P : ℕ × ℕ → Type 0 = λ q. take (i + 1) pairs ≡ take i pairs ++ q ∷ [] in
        subst P e (take_more pairs i (x, a) l)

    to_target : (n : ℕ) → IsTo p a n → n ≡ assign.target.n
    to_target n t = let e = stands_one p.assigns.items a t.assign assign t.stands st in sym t.is ∙ ap (λ (z : Assign). z.target.n) e

    more_rest : (n y : ℕ) → HasRest p marks done n y → HasRest p marks (done ++ (x, a) ∷ []) n y
    more_rest n y h = record { assign = h.assign; pair = pushed_old done (x, a) (y, h.assign) h.pair; is = h.is }

    -- a rest by the pairs with the new one
    rest_cases : (n y : ℕ) → HasRest p marks (done ++ (x, a) ∷ []) n y
        → HasRest p marks done n y ⊎ ((x ≡ y) × IsReasonRest p marks n y a)
    rest_cases n y h = elim (pushed_cases done (x, a) (y, h.assign) h.pair) [
      | inl o ↦ inl (record { assign = h.assign; pair = o; is = h.is })
      | inr e ↦ (let e0 : x ≡ y = ap (λ (z : ℕ × ℕ). z.0) e in
          let e1 : a ≡ h.assign = ap (λ (z : ℕ × ℕ). z.1) e in
          inr (e0, subst (λ z. IsReasonRest p marks n y z) (sym e1) h.is))
    ]

    other_row : (n : ℕ) (row : Vec VarId Global) → (n ≡ assign.target.n → ⊥) → Stands old n row
        → IsRestRow p marks (done ++ (x, a) ∷ []) n (numbers_of row.items)
    other_row n row d s =
        let r = are.each n row s in
        record {
          ascends = r.ascends;
          each = λ y. (
            λ o. more_rest n y ((r.each y).0 o),
            λ h. elim (rest_cases n y h) [ inl k ↦ (r.each y).1 k | inr k ↦ absurd (d (to_target n k.1.is_to)) ],
          );
        }

    -- what was gathered for the target is less than the new variable
    earlier : (y : ℕ) → HasRest p marks done assign.target.n y → IsReasonRest p marks assign.target.n x a → y < x
    earlier y h r =
        let s = take_stands i pairs h.pair.place (y, h.assign) h.pair.stands in
        let e = stands_one marks assign.target.n (Added h.is.round h.is.by) (Added r.round r.by) h.is.added r.added in
        let by : h.is.by ≡ r.by = cc in
        let same : h.assign ≡ a = sym h.is.is_by ∙ (ap (λ (z : AssignId). z.n) by ∙ r.is_by) in
        elim (readers.ascending h.pair.place i (y, h.assign) (x, a) s.0 s.1 at) [
          | inl k ↦ k
          | inr k ↦ (let f = k.1 in absurd (omega (arith, f, same)))
        ]

    target_row : (before after : Vec VarId Global) → Stands old assign.target.n before
        → Stands new assign.target.n after
        → IsRestRow p marks (done ++ (x, a) ∷ []) assign.target.n (numbers_of after.items)
    target_row before after sb sa =
        let m = stands_some marks assign.target.n target_inside in
        let o = stands_some marks x inside in
        let r = are.each assign.target.n before sb in
        let row = adds.row before after sb sa in
        elim (rest_told m.0 a o.0) [
          | inl k ↦ (let rest = marked_rest assign.target.n x a m.0 o.0 (record { assign = assign; stands = st; is = refl }) m.1 o.1 k in
              subst (λ (z : List ℕ). IsRestRow p marks (done ++ (x, a) ∷ []) assign.target.n z)
              (sym (row.taken m.0 o.0 m.1 o.1 k)) (record {
                ascends = ascends_push (numbers_of before.items) x r.ascends (λ y q. earlier y ((r.each y).0 q) rest);
                each = λ y. (
                  λ q. elim (pushed_cases (numbers_of before.items) x y q) [
                    | inl w ↦ more_rest assign.target.n y ((r.each y).0 w)
                    | inr e ↦ subst (λ z. HasRest p marks (done ++ (x, a) ∷ []) assign.target.n z) e
                        (record { assign = a; pair = pushed_last done (x, a); is = rest })
                  ],
                  λ h. elim (rest_cases assign.target.n y h) [
                    | inl w ↦ pushed_old (numbers_of before.items) x y ((r.each y).1 w)
                    | inr w ↦ subst (λ z. IsOneOf (numbers_of before.items ++ x ∷ []) z) w.0
                        (pushed_last (numbers_of before.items) x)
                  ],
                );
              }))
          | inr k ↦ (let e = row.left (λ m' o' sm so h. k (subst (λ (z : Mark). IsMarkedRest z a o.0) (stands_one marks assign.target.n m' m.0 sm m.1)
              (subst (λ (z : Mark). IsMarkedRest m' a z) (stands_one marks x o' o.0 so o.1) h))) in
              subst (λ (z : List VarId). IsRestRow p marks (done ++ (x, a) ∷ []) assign.target.n (numbers_of z)) (sym e)
              (record {
                ascends = r.ascends;
                each = λ y. (
                  λ q. more_rest assign.target.n y ((r.each y).0 q),
                  λ h. elim (rest_cases assign.target.n y h) [
                    | inl w ↦ (r.each y).1 w
                    | inr w ↦ absurd (k (rest_marked assign.target.n x a m.0 o.0 m.1 o.1
                        (subst (λ z. IsReasonRest p marks assign.target.n z a) (sym w.0) w.1)))
                  ],
                );
              }))
        ]

    each_row : (n : ℕ) (row : Vec VarId Global) → Stands new n row
        → IsRestRow p marks (done ++ (x, a) ∷ []) n (numbers_of row.items)
    each_row n row s = elim (cases_eq n assign.target.n) [
      | inl e ↦ (let sa : Stands new assign.target.n row = subst (λ z. Stands new z row) e s in
          let b = stands_some old assign.target.n (omega (arith, target_inside, are.long)) in
          subst (λ z. IsRestRow p marks (done ++ (x, a) ∷ []) z (numbers_of row.items)) (sym e)
          (target_row b.0 row b.1 sa))
      | inr d ↦ other_row n row d (adds.other n row s d)
    ]

    pub rests_more : AreRests p marks (take (i + 1) pairs) new
    rests_more = record {
      long = adds.long ∙ are.long;
      each = λ n row s. subst (λ (z : List (ℕ × ℕ)). IsRestRow p marks z n (numbers_of row.items)) (sym split)
          (each_row n row s);
    }

  pub rests_done : (pairs : List (ℕ × ℕ)) (i : ℕ) (rests : List (Vec VarId Global)) → length pairs ≤ i
      → AreRests p marks (take i pairs) rests
      → AreRests p marks pairs rests
  rests_done pairs i rests l h = subst (λ (z : List (ℕ × ℕ)). AreRests p marks z rests) (take_all i pairs l) h

-- a variable was added to a row
pub adds_taken : (marks : List Mark) (target variable assign : ℕ) (old : List (Vec VarId Global))
    (row new : Vec VarId Global) (x : VarId)
    → target < length old → Stands old target row → x.n ≡ variable → new.items ≡ row.items ++ x ∷ []
    → (m o : Mark) → Stands marks target m → Stands marks variable o → IsMarkedRest m assign o
    → AddsRest marks target variable assign old (set old target new)
adds_taken marks target variable assign old row new x l sr e is m o sm so rest = record {
  long = length-set old target new;
  other = λ n r s d. elim (set_back old target n new r s) [ inl k ↦ absurd (d k.0) | inr k ↦ k.1 ];
  row = λ before after sb sa.
      let b = stands_one old target before row sb sr in
      let a = stands_one (set old target new) target after new sa (set_here old target new l) in
      record {
        taken = λ m' o' sm' so' h'.
            ap (λ (z : Vec VarId Global). numbers_of z.items) a
            ∙ (ap numbers_of is ∙ (map-append (λ (z : VarId). z.n) row.items (x ∷ [])
            ∙ (ap (λ z. numbers_of row.items ++ z ∷ []) e
            ∙ ap (λ (z : Vec VarId Global). numbers_of z.items ++ variable ∷ []) (sym b))));
        left = λ lacks. absurd (lacks m o sm so rest);
      };
}

-- nothing was added
pub adds_left : (marks : List Mark) (target variable assign : ℕ) (old : List (Vec VarId Global))
    → ((m o : Mark) → Stands marks target m → Stands marks variable o → IsMarkedRest m assign o → ⊥)
    → AddsRest marks target variable assign old old
adds_left marks target variable assign old lacks = record {
  long = refl;
  other = λ n r s d. s;
  row = λ before after sb sa. record {
    taken = λ m o sm so h. absurd (lacks m o sm so h);
    left = λ k. ap (λ (z : Vec VarId Global). z.items) (stands_one old target after before sa sb);
  };
}

pub rest_answer : (m : Mark) (round : ℕ) (by : AssignId) (a : ℕ) (o : Mark) (b : Bool) → m ≡ Added round by → by.n ≡ a
    → b ≡ came_before o round
    → IsAnswer b (IsMarkedRest m a o)
rest_answer m round by a o true e f g = subst (λ (z : Mark). IsMarkedRest z a o) (sym e) (added f (sym g))
rest_answer m round by a o false e f g = λ h.
    elim (subst (λ (z : Mark). IsMarkedRest z a o) e h) [ added i j ↦ (let k : came_before o round ≡ true = j in absurd (cc (g, k))) ]

-- one empty list more
pub empty_none : (rests : List (Vec VarId Global)) → rests ≡ [] → AreEmpty 0 rests
empty_none rests e = subst (λ (z : List (Vec VarId Global)). AreEmpty 0 z) (sym e)
    (record { long = refl; each = λ n row s. absurd (stands_none n row s) })

pub empty_more : (k : ℕ) (old new : List (Vec VarId Global)) (row : Vec VarId Global) → AreEmpty k old → row.items ≡ []
    → new ≡ old ++ row ∷ [] → AreEmpty (k + 1) new
empty_more k old new row h e f = subst (λ (z : List (Vec VarId Global)). AreEmpty (k + 1) z) (sym f) (record {
  long = (let l = length-append old (row ∷ []) in omega (arith, l, h.long));
  each = λ n r s. elim (pushed_cases old row r (one_here (old ++ row ∷ []) n r s)) [
    | inl o ↦ h.each o.place r o.stands
    | inr i ↦ ap (λ (z : Vec VarId Global). z.items) (sym i) ∙ e
  ];
})
