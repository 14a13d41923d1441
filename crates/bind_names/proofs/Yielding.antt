-- What expressions without variables yield, where nothing in them has a wrong kind.
use Rattle.std.proofs.Common.{◌≡◌, inl, inr, Bool, true, false, List, [], ◌∷◌, map, Box, Vec, Global, refl, sym, ◌∙◌, ap, subst}
use Rattle.std.proofs.lemmas.Bool.{cond-true, cond-false}
use Rattle.ar_base.specs.Lists.{IsOneOf}
use Rattle.ar_base.specs.Numbers.{VarId}
use Rattle.ar_base.specs.declared.places.Place.{Place}
use Rattle.ar_base.proofs.Standing.{one_first, one_rest}
use Rattle.ar_syntax.specs.declared.expressions.RawExpr.{RawExpr}
use Rattle.ar_syntax.specs.declared.expressions.RawForm.TheOpen as raw
use Rattle.ar_syntax.specs.declared.paths.Path.{Path}
use Rattle.domains.specs.declared.Value.{Value}
use Rattle.domains.specs.declared.Value.TheVariants as val
use Rattle.typed_expr.specs.Kinds.{kind_of}
use Rattle.typed_expr.specs.Total.{value_of, all_true, one_true, first_true}
use Rattle.domains.specs.Values.{truth_of}
use Rattle.typed_expr.specs.Yields.{Level, Yields, Some_yields, All_yield, Picks, Picks_parts, Takes}
use Rattle.typed_expr.specs.Yields as y
use Rattle.typed_expr.specs.declared.expr.Expr.{Expr, out-Expr}
use Rattle.typed_expr.specs.declared.expr.Expr.TheOpen as form
use Rattle.typed_expr.specs.declared.expr.ValueKind.{ValueKind}
use Rattle.typed_expr.specs.declared.expr.ValueKind.TheVariants.{Truth, Whole}
use Rattle.typed_expr.proofs.Valued.{Valued, level_value, value_of-level, truth-form}
use Rattle.written_forms.specs.Operands.{RawLevel, level_of, OfKind, Like, OperandOfKind, wanting, first_branch, is_equality, operands_of, PathIn}
use Rattle.written_forms.specs.Operands as in_form
use Rattle.written_forms.specs.Forms.{HasForm}
use Rattle.written_forms.specs.Forms as of_form
use Rattle.written_forms.specs.Wrong.{IsWantedKind, this, that_of, IsMistyped}
use Rattle.written_forms.specs.Wrong as wrong
use Rattle.written_forms.specs.Translating.{leaf_level, StandsFor, Becomes, All_become, Parts_become, Cases_become, BecomesBy}
use Rattle.written_forms.specs.Translating as t
use Rattle.written_forms.specs.declared.naming.Leaf.{Leaf}
use Rattle.written_forms.specs.declared.naming.Leaf.TheVariants as leaf
use Rattle.written_forms.proofs.OperandLists.{mapped_one, test_one, branch_one, other_one, left_side, right_side}
use Rattle.written_forms.proofs.RightForms.{same_kind}

module _ {V : Type 0} (facts : V → Value → Type 0) (values : V → Value) where
  abbrev Is : Expr V → ValueKind → Type 0
  Is e k = Valued facts values (out-Expr V e) k

  truth_yields : (e : Expr V) → Is e Truth → Yields facts (out-Expr V e) (val.Truth (truth_of (value_of values e)))
  truth_yields e h =
      subst (λ (z : Value). Yields facts (out-Expr V e) z)
      (truth-form (level_value values (out-Expr V e)) h.is_kind
      ∙ ap (λ (z : Value). val.Truth (truth_of z)) (sym (value_of-level values e))) h.yields

  value_yields : (e : Expr V) (k : ValueKind) → Is e k → Yields facts (out-Expr V e) (value_of values e)
  value_yields e k h = subst (λ (z : Value). Yields facts (out-Expr V e) z) (sym (value_of-level values e)) h.yields

  -- lists of which each has the kind
  data Each_is (k : ValueKind) : List (Expr V) → Type 0 where
    none : Each_is k []
    one_and : {e : Expr V} {es : List (Expr V)} → Is e k → Each_is k es → Each_is k (e ∷ es)

  data Parts_are : List (Bool × Expr V) → Type 0 where
    no_part : Parts_are []
    part_and : {plus : Bool} {e : Expr V} {ps : List (Bool × Expr V)} → Is e Whole → Parts_are ps
        → Parts_are ((plus, e) ∷ ps)

  data Cases_are (k : ValueKind) : List (Expr V × Expr V) → Type 0 where
    no_case : Cases_are k []
    case_and : {d e : Expr V} {cs : List (Expr V × Expr V)} → Is d Truth → Is e k → Cases_are k cs
        → Cases_are k ((d, e) ∷ cs)

  -- all are true, or one is false
  data Conjoined (es : List (Expr V)) : Type 0 where
    each_true : all_true (map (value_of values) es) ≡ true → All_yield facts es (val.Truth true) → Conjoined es
    some_false : all_true (map (value_of values) es) ≡ false → Some_yields facts es (val.Truth false) → Conjoined es

  conjoin : (e : Expr V) (es : List (Expr V)) (b : Bool) → truth_of (value_of values e) ≡ b
      → Yields facts (out-Expr V e) (val.Truth b) → Conjoined es → Conjoined (e ∷ es)
  conjoin e es true i d (each_true j c) = each_true (cond-true _ _ _ i ∙ j) (y.one_and d c)
  conjoin e es true i d (some_false j c) = some_false (cond-true _ _ _ i ∙ j) (y.later c)
  conjoin e es false i d c = some_false (cond-false _ _ _ i) (y.here d)

  conjoined : {es : List (Expr V)} → Each_is Truth es → Conjoined es
  conjoined none = each_true refl y.none
  conjoined (one_and {e = e} {es = es} d ds) =
      conjoin e es (truth_of (value_of values e)) refl (truth_yields e d) (conjoined ds)

  all_valued : (es : Vec (Expr V) Global) → Conjoined es.items → Valued facts values (form.All es) Truth
  all_valued es (each_true j c) = record
      { yields = subst (λ (z : Bool). Yields facts (form.All es) (val.Truth z)) (sym j) (y.all_true c); is_kind = refl }
  all_valued es (some_false j c) = record {
    yields = subst (λ (z : Bool). Yields facts (form.All es) (val.Truth z)) (sym j) (y.one_false c);
    is_kind = refl;
  }

  -- all are false, or one is true
  data Disjoined (es : List (Expr V)) : Type 0 where
    each_false : one_true (map (value_of values) es) ≡ false → All_yield facts es (val.Truth false) → Disjoined es
    some_true : one_true (map (value_of values) es) ≡ true → Some_yields facts es (val.Truth true) → Disjoined es

  disjoin : (e : Expr V) (es : List (Expr V)) (b : Bool) → truth_of (value_of values e) ≡ b
      → Yields facts (out-Expr V e) (val.Truth b) → Disjoined es → Disjoined (e ∷ es)
  disjoin e es true i d c = some_true (cond-true _ _ _ i) (y.here d)
  disjoin e es false i d (each_false j c) = each_false (cond-false _ _ _ i ∙ j) (y.one_and d c)
  disjoin e es false i d (some_true j c) = some_true (cond-false _ _ _ i ∙ j) (y.later c)

  disjoined : {es : List (Expr V)} → Each_is Truth es → Disjoined es
  disjoined none = each_false refl y.none
  disjoined (one_and {e = e} {es = es} d ds) =
      disjoin e es (truth_of (value_of values e)) refl (truth_yields e d) (disjoined ds)

  any_valued : (es : Vec (Expr V) Global) → Disjoined es.items → Valued facts values (form.Any es) Truth
  any_valued es (each_false j c) = record {
    yields = subst (λ (z : Bool). Yields facts (form.Any es) (val.Truth z)) (sym j) (y.all_false c);
    is_kind = refl;
  }
  any_valued es (some_true j c) = record
      { yields = subst (λ (z : Bool). Yields facts (form.Any es) (val.Truth z)) (sym j) (y.one_true c); is_kind = refl }

  picks : {k : ValueKind} {es : List (Expr V)} → Each_is k es → Picks facts es (map (value_of values) es)
  picks none = y.no_operand
  picks {k = k} (one_and {e = e} d ds) = y.operand (value_yields e k d) (picks ds)

  picks_parts : {ps : List (Bool × Expr V)} → Parts_are ps
      → Picks_parts facts ps (map (λ p. (p.0, value_of values p.1)) ps)
  picks_parts no_part = y.no_part
  picks_parts (part_and {e = e} d ds) = y.part (value_yields e Whole d) (picks_parts ds)

  -- what a choice takes
  abbrev chosen_of : List (Expr V × Expr V) → Value → Value
  chosen_of cs v = first_true (map (λ c. (value_of values c.0, value_of values c.1)) cs) v

  record Chosen (cs : List (Expr V × Expr V)) (other : Level V) (k : ValueKind) : Type 0 where
    takes : Takes facts cs other (chosen_of cs (level_value values other))
    is_kind : kind_of (chosen_of cs (level_value values other)) ≡ k

  choose : (d e : Expr V) (cs : List (Expr V × Expr V)) (other : Level V) (k : ValueKind) (b : Bool)
      → truth_of (value_of values d) ≡ b → Yields facts (out-Expr V d) (val.Truth b)
      → Is e k → Chosen cs other k → Chosen ((d, e) ∷ cs) other k
  choose d e cs other k true i f h c =
      let w = cond-true (truth_of (value_of values d)) (value_of values e) (chosen_of cs (level_value values other))
      i in
      record {
        takes = subst (λ (z : Value). Takes facts ((d, e) ∷ cs) other z) (sym w) (y.taken f (value_yields e k h));
        is_kind = ap kind_of w ∙ (ap kind_of (value_of-level values e) ∙ h.is_kind);
      }
  choose d e cs other k false i f h c =
      let w = cond-false (truth_of (value_of values d)) (value_of values e) (chosen_of cs (level_value values other))
      i in
      record {
        takes = subst (λ (z : Value). Takes facts ((d, e) ∷ cs) other z) (sym w) (y.passed f c.takes);
        is_kind = ap kind_of w ∙ c.is_kind;
      }

  chosen : {k : ValueKind} {cs : List (Expr V × Expr V)} {other : Level V} → Cases_are k cs
      → Valued facts values other k → Chosen cs other k
  chosen no_case h = record { takes = y.otherwise h.yields; is_kind = h.is_kind }
  chosen {k = k} {other = other} (case_and {d = d} {e = e} {cs = cs} a b ds) h =
      choose d e cs other k (truth_of (value_of values d)) refl (truth_yields d a) b (chosen ds h)

  choice_valued : (k : ValueKind) (cs : Vec (Expr V × Expr V) Global) (other : Box (Expr V) Global)
      → Cases_are k cs.items → Is other.value k → Valued facts values (form.Choose cs other) k
  choice_valued k cs other ds h =
      let c = chosen ds h in
      let i = value_of-level values other.value in
      record {
        yields = y.choice (subst (λ (z : Value). Takes facts cs.items (out-Expr V other.value) (chosen_of cs.items z))
            (sym i) c.takes);
        is_kind = subst (λ (z : Value). kind_of (chosen_of cs.items z) ≡ k) (sym i) c.is_kind;
      }

module _ (names : Path → ValueKind → Type 0) (leaves : Path → Leaf) (facts : VarId → Value → Type 0)
    (values : VarId → Value) where
  -- the path stands for a value, which is of the kind of what it names
  pub record Fits (p : Path) : Type 0 where
    pub value : Value
    pub is : leaves p ≡ leaf.Constant value
    pub kind : names p (kind_of value)

  -- each path stands for such a value, no operand has a wrong kind, and the form is no real
  record Right (l : RawLevel) : Type 0 where
    fits : (p : Path) → PathIn p l → Fits p
    right : (o : OperandOfKind) → IsOneOf (operands_of l) o → (at : Place) → IsMistyped names o.demand o.written at → ⊥
    no_real : l ≡ raw.Real → ⊥

  operand_right : {l : RawLevel} → Right l → (o : OperandOfKind) → IsOneOf (operands_of l) o
      → Right (level_of o.written)
  operand_right g o i = record {
    fits = λ p h. g.fits p (in_form.inside o i h);
    right = λ q j at k. g.right o i at (wrong.inside q j k);
    no_real = λ e. g.right o i o.written.at (wrong.real e);
  }

  -- what the form becomes yields its value, which is of the kind of the form
  record Comes (l : RawLevel) (x : Level VarId) : Type 0 where
    kind : ValueKind
    has : HasForm names l kind
    valued : Valued facts values x kind

  -- an operand comes to a value of the kind that is wanted of it
  wanted : {l : RawLevel} {x : Level VarId} → Right l → (o : OperandOfKind) → IsOneOf (operands_of l) o
      → (k : ValueKind) → IsWantedKind names o.demand k → Comes (level_of o.written) x → Valued facts values x k
  wanted {x = x} g o i k w c = elim (same_kind c.kind k) [
    | inl e ↦ subst (λ (z : ValueKind). Valued facts values x z) e c.valued
    | inr n ↦ absurd (g.right o i o.written.at (wrong.itself c.kind k c.has w n))
  ]

  path_comes : (p : Path) → Fits p → Comes (raw.Path p) (leaf_level (leaves p))
  path_comes p f = subst (λ (z : Leaf). Comes (raw.Path p) (leaf_level z)) (sym f.is) (record {
    kind = kind_of f.value;
    has = of_form.path f.kind;
    valued = record { yields = y.constant; is_kind = refl };
  })

  abbrev here : RawLevel → Level VarId → Type 0
  here l x = Becomes (StandsFor leaves) l x

  mutual
    comes : {l : RawLevel} {x : Level VarId} → here l x → Right l → Comes l x
    comes t.truth g = record {
      kind = Truth;
      has = of_form.own refl;
      valued = record { yields = y.constant; is_kind = refl };
    }
    comes t.whole g = record {
      kind = Whole;
      has = of_form.own refl;
      valued = record { yields = y.constant; is_kind = refl };
    }
    comes t.real g = absurd (g.no_real refl)
    comes (t.path {p = p} s) g = subst (λ (z : Level VarId). Comes (raw.Path p) z) s
        (path_comes p (g.fits p in_form.itself))
    comes (t.opposite {a = a} {b = b} d) g =
        let o = wanting (OfKind Truth) a.value in
        let i = one_first o [] in
        let v = wanted g o i Truth this (comes d (operand_right g o i)) in
        record {
          kind = Truth;
          has = of_form.own refl;
          valued = record { yields = y.opposite (truth_yields facts values b.value v); is_kind = refl };
        }
    comes (t.negative {a = a} {parts = ps} e d q) g =
        let o = wanting (OfKind Whole) a.value in
        let i = one_first o [] in
        let v = wanted g o i Whole this (comes d (operand_right g o i)) in
        let w = subst (λ (z : List (Bool × Expr VarId)). Parts_are facts values z) (sym q) (part_and v no_part) in
        record {
          kind = Whole;
          has = of_form.own refl;
          valued = record { yields = y.sum (picks_parts facts values w); is_kind = refl };
        }
    comes (t.all {rs = rs} {es = es} ds) g =
        record {
          kind = Truth;
          has = of_form.own refl;
          valued = all_valued facts values es
              (conjoined facts values (each_comes ds Truth g (λ r i. mapped_one (wanting (OfKind Truth)) rs.items r i)));
        }
    comes (t.any {rs = rs} {es = es} ds) g =
        record {
          kind = Truth;
          has = of_form.own refl;
          valued = any_valued facts values es
              (disjoined facts values (each_comes ds Truth g (λ r i. mapped_one (wanting (OfKind Truth)) rs.items r i)));
        }
    comes (t.compared {r = r} {a = a} {b = b} {d = c} {e = e} d h) g =
        let p = left_side (is_equality r) a.value b.value in
        let q = right_side (is_equality r) a.value b.value in
        let u = comes d (subst (λ (z : RawExpr). Right (level_of z)) p.2 (operand_right g p.0 p.1)) in
        let v = comes h (subst (λ (z : RawExpr). Right (level_of z)) q.2 (operand_right g q.0 q.1)) in
        record {
          kind = Truth;
          has = of_form.own refl;
          valued = record {
            yields = y.compared (value_yields facts values c.value u.kind u.valued)
                (value_yields facts values e.value v.kind v.valued);
            is_kind = refl;
          };
        }
    comes (t.sum {rs = rs} ds) g =
        let w = parts_comes ds g (λ plus r i. mapped_one (λ (p : Bool × RawExpr). wanting (OfKind Whole) p.1) rs.items
        (plus, r) i) in
        record {
          kind = Whole;
          has = of_form.own refl;
          valued = record { yields = y.sum (picks_parts facts values w); is_kind = refl };
        }
    comes (t.product {rs = rs} ds) g =
        let w = each_comes ds Whole g (λ r i. mapped_one (wanting (OfKind Whole)) rs.items r i) in
        record {
          kind = Whole;
          has = of_form.own refl;
          valued = record { yields = y.product (picks facts values w); is_kind = refl };
        }
    comes (t.least {rs = rs} ds) g =
        let w = each_comes ds Whole g (λ r i. mapped_one (wanting (OfKind Whole)) rs.items r i) in
        record {
          kind = Whole;
          has = of_form.own refl;
          valued = record { yields = y.least (picks facts values w); is_kind = refl };
        }
    comes (t.greatest {rs = rs} ds) g =
        let w = each_comes ds Whole g (λ r i. mapped_one (wanting (OfKind Whole)) rs.items r i) in
        record {
          kind = Whole;
          has = of_form.own refl;
          valued = record { yields = y.greatest (picks facts values w); is_kind = refl };
        }
    comes (t.count {rs = rs} ds) g =
        let w = each_comes ds Truth g (λ r i. mapped_one (wanting (OfKind Truth)) rs.items r i) in
        record {
          kind = Whole;
          has = of_form.own refl;
          valued = record { yields = y.count (picks facts values w); is_kind = refl };
        }
    comes (t.choice {rs = rs} {es = es} {a = a} {b = b} ds d) g =
        let first = first_branch rs.items a.value in
        let o = wanting (Like first) a.value in
        let i = other_one rs.items a.value first in
        let c = comes d (operand_right g o i) in
        let k = first_kind ds a.value (c.kind, c.has) g (λ q r j. branch_one rs.items a.value first q r j) in
        let w = cases_come ds k.0 first k.1 g (λ q r j. test_one rs.items a.value first q r j)
        (λ q r j. branch_one rs.items a.value first q r j) in
        record {
          kind = k.0;
          has = of_form.choice k.1;
          valued = choice_valued facts values k.0 es b w (wanted g o i k.0 (that_of k.1) c);
        }

    each_comes : {l : RawLevel} {rs : List RawExpr} {es : List (Expr VarId)} → All_become (StandsFor leaves) rs es
        → (k : ValueKind) → Right l
        → ((r : RawExpr) → IsOneOf rs r → IsOneOf (operands_of l) (wanting (OfKind k) r)) → Each_is facts values k es
    each_comes t.none k g h = none
    each_comes (t.one_and {r = r} {rs = rs} d ds) k g h =
        let i = h r (one_first r rs) in
        one_and (wanted g (wanting (OfKind k) r) i k this (comes d (operand_right g (wanting (OfKind k) r) i)))
        (each_comes ds k g (λ q j. h q (one_rest r rs q j)))

    parts_comes : {l : RawLevel} {rs : List (Bool × RawExpr)} {es : List (Bool × Expr VarId)}
        → Parts_become (StandsFor leaves) rs es → Right l
        → ((plus : Bool) (r : RawExpr) → IsOneOf rs (plus, r) → IsOneOf (operands_of l) (wanting (OfKind Whole) r))
        → Parts_are facts values es
    parts_comes t.no_part g h = no_part
    parts_comes (t.part {plus = plus} {r = r} {rs = rs} d ds) g h =
        let i = h plus r (one_first (plus, r) rs) in
        part_and (wanted g (wanting (OfKind Whole) r) i Whole this
        (comes d (operand_right g (wanting (OfKind Whole) r) i)))
        (parts_comes ds g (λ b q j. h b q (one_rest (plus, r) rs (b, q) j)))

    -- the kind of the first branch
    first_kind : {l : RawLevel} {rs : List (RawExpr × RawExpr)} {es : List (Expr VarId × Expr VarId)}
        → Cases_become (StandsFor leaves) rs es → (other : RawExpr)
        → (k : ValueKind) × HasForm names (level_of other) k → Right l
        → ((q r : RawExpr) → IsOneOf rs (q, r) → IsOneOf (operands_of l) (wanting (Like (first_branch rs other)) r))
        → (k : ValueKind) × HasForm names (level_of (first_branch rs other)) k
    first_kind t.no_case other k g h = k
    first_kind (t.case_and {q = q} {r = r} {rs = rs} d e ds) other k g h =
        let i = h q r (one_first (q, r) rs) in
        let c = comes e (operand_right g (wanting (Like r) r) i) in (c.kind, c.has)

    cases_come : {l : RawLevel} {rs : List (RawExpr × RawExpr)} {es : List (Expr VarId × Expr VarId)}
        → Cases_become (StandsFor leaves) rs es → (k : ValueKind) (first : RawExpr)
        → HasForm names (level_of first) k → Right l
        → ((q r : RawExpr) → IsOneOf rs (q, r) → IsOneOf (operands_of l) (wanting (OfKind Truth) q))
        → ((q r : RawExpr) → IsOneOf rs (q, r) → IsOneOf (operands_of l) (wanting (Like first) r))
        → Cases_are facts values k es
    cases_come t.no_case k first f g a b = no_case
    cases_come (t.case_and {q = q} {r = r} {rs = rs} d e ds) k first f g a b =
        let i = a q r (one_first (q, r) rs) in
        let j = b q r (one_first (q, r) rs) in
        case_and (wanted g (wanting (OfKind Truth) q) i Truth this
        (comes d (operand_right g (wanting (OfKind Truth) q) i)))
        (wanted g (wanting (Like first) r) j k (that_of f) (comes e (operand_right g (wanting (Like first) r) j)))
        (cases_come ds k first f g (λ u v z. a u v (one_rest (q, r) rs (u, v) z))
        (λ u v z. b u v (one_rest (q, r) rs (u, v) z)))

  -- a whole expression, of which a kind is wanted
  pub whole_valued : (e : RawExpr) (f : Expr VarId) (k : ValueKind) → ((p : Path) → PathIn p (level_of e) → Fits p)
      → ((at : Place) → IsMistyped names (OfKind k) e at → ⊥)
      → BecomesBy leaves e f → Yields facts (out-Expr VarId f) (value_of values f) × (kind_of (value_of values f) ≡ k)
  whole_valued e f k fits right b =
      let g : Right (level_of e) = record {
        fits = fits;
        right = λ o i at h. right at (wrong.inside o i h);
        no_real = λ q. right e.at (wrong.real q);
      } in
      by (comes b g)
    where
      by : Comes (level_of e) (out-Expr VarId f)
          → Yields facts (out-Expr VarId f) (value_of values f) × (kind_of (value_of values f) ≡ k)
      by c = (
        value_yields facts values f c.kind c.valued,
        ap kind_of (value_of-level values f)
            ∙ (c.valued.is_kind ∙ is c),
      )
        where
          is : (c : Comes (level_of e) (out-Expr VarId f)) → c.kind ≡ k
          is c = elim (same_kind c.kind k)
              [ inl q ↦ q | inr n ↦ absurd (right e.at (wrong.itself c.kind k c.has this n)) ]
