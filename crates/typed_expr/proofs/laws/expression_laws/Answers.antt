use Rattle.typed_expr.specs.YieldsInside.{facts_of}
use Rattle.typed_expr.proofs.Facts.{yields_more}
use Rattle.typed_expr.proofs.Kinded.{one_kind}
use Rattle.typed_expr.proofs.OneValue.{yields_one}
use Rattle.typed_expr.proofs.Valued.{one-fact, total-kind, renamed, count-true}
use Rattle.typed_expr.proofs.Listing.{yields_listed, yields_told, facts_listed}
use Rattle.std.proofs.Common.{IsTrue}
use Rattle.typed_expr.proofs.KindsYielded.{kind_yielded}
use Rattle.typed_expr.proofs.laws.expression_laws.Goals as goal

pub returns-clause-more_facts : goal.returns-clause-more_facts
returns-clause-more_facts g c = λ few more kept e v d. yields_more g.row.V.Denot (facts_of few) (facts_of more) kept d

pub returns-clause-one_fact : goal.returns-clause-one_fact
returns-clause-one_fact g c = one-fact

pub returns-clause-total_kind : goal.returns-clause-total_kind
returns-clause-total_kind g c = total-kind

pub returns-clause-one_kind : goal.returns-clause-one_kind
returns-clause-one_kind g c = λ kinds e m n d f. one_kind kinds d f

pub returns-clause-one_value : goal.returns-clause-one_value
returns-clause-one_value g c = λ facts one e v w d k. yields_one g.row.V.Denot (facts_of facts) one d k

pub returns-clause-listed : goal.returns-clause-listed
returns-clause-listed g c =
    λ facts e. let r = yields_listed (facts_of facts) (facts_listed facts) e in
    (r.items, record { sound = r.sound; complete = r.whole })

pub returns-clause-told : goal.returns-clause-told
returns-clause-told g c = λ facts e v. yields_told (facts_of facts) (facts_listed facts) e v

pub returns-clause-renaming_laws : goal.returns-clause-renaming_laws
returns-clause-renaming_laws g c = λ same facts others agree e f r v. renamed (λ x y. IsTrue (same x y)) facts others agree e f r v

pub returns-clause-count_law : goal.returns-clause-count_law
returns-clause-count_law g c = count-true

pub returns-clause-kind_law : goal.returns-clause-kind_law
returns-clause-kind_law g c = λ facts kinds o e kind h v y. kind_yielded (facts_of facts) kinds o h y
