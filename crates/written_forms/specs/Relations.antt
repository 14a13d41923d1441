-- The relations of written comparisons.
use Rattle.ar_syntax.specs.declared.expressions.RawRelation.{RawRelation}
use Rattle.ar_syntax.specs.declared.expressions.RawRelation.TheVariants as written
use Rattle.typed_expr.specs.declared.expr.Relation.{Relation}
use Rattle.typed_expr.specs.declared.expr.Relation.TheVariants as relation

-- the relation that is written so
abbrev pub relation_of : RawRelation → Relation
relation_of written.Equal = relation.Equal
relation_of written.Differs = relation.Differs
relation_of written.Less = relation.Less
relation_of written.AtMost = relation.AtMost
relation_of written.More = relation.More
relation_of written.AtLeast = relation.AtLeast
