use Rattle.std.proofs.Common.{◌≡◌, ◌↔◌, Bool, true, false, not, IsTrue, List, refl, sym, ap, ◌∙◌, subst}
use Rattle.domains.specs.declared.Value.{Value}
use Rattle.typed_expr.specs.Values.{is_related}
use Rattle.typed_expr.specs.Evaluating.{SomeRelated}
use Rattle.typed_expr.specs.declared.expr.Relation.{Relation}
use Rattle.typed_expr.proofs.relations.some_related.Goals as goal

not-so : (b : Bool) → not b ≡ true → b ≡ false
not-so true e = cc
not-so false e = refl

-- two values are so related where they are not related by the opposite
by_opposite : (p q : Relation) (xs ys : List Value) (found : Bool)
    → ((a b : Value) → is_related p a b ≡ not (is_related q a b))
    → IsTrue found ↔ SomeRelated p xs ys true → IsTrue found ↔ SomeRelated q xs ys false
by_opposite p q xs ys found f h = (
  (λ t. let s : SomeRelated p xs ys true = h.0 t in
      record {
        left = s.left;
        right = s.right;
        in_left = s.in_left;
        in_right = s.in_right;
        related = not-so (is_related q s.left s.right) (sym (f s.left s.right) ∙ s.related);
      }),
  (λ s. h.1 (record {
    left = s.left;
    right = s.right;
    in_left = s.in_left;
    in_right = s.in_right;
    related = f s.left s.right ∙ ap not s.related;
  })),
)

pub some_so-requires-clause-left : goal.some_so-requires-clause-left
some_so-requires-clause-left c = c.requires.left

pub some_so-requires-clause-right : goal.some_so-requires-clause-right
some_so-requires-clause-right c = c.requires.right

pub some_so-requires-else-wanted-clause-left : goal.some_so-requires-else-wanted-clause-left
some_so-requires-else-wanted-clause-left c = c.requires.left

pub some_so-requires-else-wanted-clause-right : goal.some_so-requires-else-wanted-clause-right
some_so-requires-else-wanted-clause-right c = c.requires.right

pub returns-then-wanted : goal.returns-then-wanted
returns-then-wanted c =
    subst
    (λ (b : Bool). IsTrue c.some_so.result ↔ SomeRelated c.args.relation c.args.left.now c.args.right.now b)
    (sym c.if-wanted.true) c.some_so.ensures

pub returns-else-wanted : goal.returns-else-wanted
returns-else-wanted c =
    subst
    (λ (b : Bool). IsTrue c.some_so-else-wanted.result ↔ SomeRelated c.args.relation c.args.left.now c.args.right.now b)
    (sym c.if-wanted.false)
    (by_opposite c.opposite.result c.args.relation c.args.left.now c.args.right.now c.some_so-else-wanted.result
    c.opposite.ensures c.some_so-else-wanted.ensures)
