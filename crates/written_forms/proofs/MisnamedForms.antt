-- The earliest place in a form at which a path names nothing.
use Rattle.std.proofs.Common.{◌≡◌, Bool, true, false, Option, Some, None, Box, Global, refl, sym, ◌∙◌, ap, subst}
use Rattle.ar_base.specs.Lists.{IsOneOf}
use Rattle.ar_base.specs.declared.places.Place.{Place}
use Rattle.ar_base.proofs.Standing.{one_none}
use Rattle.ar_base.proofs.Comparing.{not_before}
use Rattle.ar_syntax.specs.declared.expressions.RawExpr.{RawExpr}
use Rattle.ar_syntax.specs.declared.expressions.RawForm.TheOpen as raw
use Rattle.ar_syntax.specs.declared.paths.Path.{Path}
use Rattle.class_table.specs.Earliest.{IsEarliest, nowhere, there, IsEarlierOf}
use Rattle.class_table.proofs.FirstPlaces.{earliest_same}
use Rattle.ar_syntax.specs.declared.expressions.RawRelation.{RawRelation}
use Rattle.typed_expr.specs.declared.expr.ValueKind.TheVariants.{Whole}
use Rattle.written_forms.specs.Operands.{RawLevel, level_of, AnyKind, OfKind, Like, OperandOfKind, wanting, is_equality, sides_by, operands_of, PathIn}
use Rattle.written_forms.specs.Operands as in_form
use Rattle.written_forms.specs.Wrong.{IsMisnamed}
use Rattle.written_forms.specs.WrongInside.{Among, MisnamedOperand}
use Rattle.written_forms.proofs.Gathering.{two_among}

-- a path in a form that is no path stands in an operand
in_operand : (l : RawLevel) (q : Path) → PathIn q l → ((p : Path) → l ≡ raw.Path p → ⊥)
    → (o : OperandOfKind) × IsOneOf (operands_of l) o × PathIn q (level_of o.written)
in_operand l q in_form.itself n = absurd (n q refl)
in_operand l q (in_form.inside o i h) n = (o, i, h)

-- the path in a path is that path
only_path : (q r : Path) → PathIn r (raw.Path q) → r ≡ q
only_path q r in_form.itself = refl
only_path q r (in_form.inside o i h) = absurd (one_none o i)

module _ (may : Path → Type 0) where
  pub misnamed_inside : (e : RawExpr) (l : RawLevel) (f : Option Place) → level_of e ≡ l
      → ((p : Path) → l ≡ raw.Path p → ⊥) → IsEarliest (Among (MisnamedOperand may) (operands_of l)) f
      → IsEarliest (IsMisnamed may (level_of e)) f
  misnamed_inside e l f i n h = subst (λ (z : RawLevel). IsEarliest (IsMisnamed may z) f) (sym i)
      (earliest_same f to from h)
    where
      to : (p : Place) → Among (MisnamedOperand may) (operands_of l) p → IsMisnamed may l p
      to p a = record {
        path = a.has.path;
        is_in = in_form.inside a.operand a.is_operand a.has.is_in;
        not = a.has.not;
        place = a.has.place;
      }

      from : (p : Place) → IsMisnamed may l p → Among (MisnamedOperand may) (operands_of l) p
      from p m =
          let o = in_operand l m.path m.is_in n in
          record {
            operand = o.0;
            is_operand = o.1;
            has = record { path = m.path; is_in = o.2; not = m.not; place = m.place };
          }

  pub path_named : (q : Path) → may q → IsEarliest (IsMisnamed may (raw.Path q)) None
  path_named q k = nowhere (λ p m. m.not (subst may (sym (only_path q m.path m.is_in)) k))

  pub path_unnamed : (q : Path) → (may q → ⊥) → IsEarliest (IsMisnamed may (raw.Path q)) (Some q.at)
  path_unnamed q n =
      there (record { path = q; is_in = in_form.itself; not = n; place = refl })
      (λ p b m. not_before p q.at b (m.place ∙ ap (λ (z : Path). z.at) (only_path q m.path m.is_in)))

  pub path_at : (e : RawExpr) (q : Path) (f : Option Place) → level_of e ≡ raw.Path q
      → IsEarliest (IsMisnamed may (raw.Path q)) f → IsEarliest (IsMisnamed may (level_of e)) f
  path_at e q f i h = subst (λ (z : RawLevel). IsEarliest (IsMisnamed may z) f) (sym i) h

  -- the sides of a comparison, whatever is wanted of them
  pub misnamed_sides : (e : RawExpr) (r : RawRelation) (a b : Box RawExpr Global) (f g h : Option Place)
      → level_of e ≡ raw.Compare r a b → IsEarliest (IsMisnamed may (level_of a.value)) f
      → IsEarliest (IsMisnamed may (level_of b.value)) g → IsEarlierOf f g h
      → IsEarliest (IsMisnamed may (level_of e)) h
  misnamed_sides e r a b f g h i k m o = misnamed_inside e (raw.Compare r a b) h i (λ p n. cc) (by (is_equality r))
    where
      by : (equal : Bool) → IsEarliest (Among (MisnamedOperand may) (sides_by equal a.value b.value)) h
      by true = two_among (MisnamedOperand may) (wanting AnyKind a.value) (wanting (Like a.value) b.value) f g h k m o
      by false = two_among (MisnamedOperand may) (wanting (OfKind Whole) a.value) (wanting (OfKind Whole) b.value) f g h
          k m o

-- what may be named less may be misnamed more
pub misnamed_move : {may other : Path → Type 0} {l : RawLevel} {at : Place} → ((p : Path) → other p → may p)
    → IsMisnamed may l at → IsMisnamed other l at
misnamed_move from h = record { path = h.path; is_in = h.is_in; not = λ m. h.not (from h.path m); place = h.place }
