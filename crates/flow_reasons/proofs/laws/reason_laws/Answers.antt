use Rattle.flow_reasons.proofs.RoundRounding.{round_grows, round_fact, fact_round}
use Rattle.flow_reasons.proofs.Sufficing.{suffices}
use Rattle.flow_reasons.proofs.RoundStanding.{no_two, descends, reasons_one}
use Rattle.ar_base.proofs.Sets.{same_ascending}
use Rattle.ar_meaning.proofs.StatesAlone.{same_flows, turned as turned_states}
use Rattle.flow_reasons.proofs.RoundTotals.{states_of, reasons_same}
use Rattle.typed_expr.specs.PairsInside.{turned_pairs}
use Rattle.typed_expr.proofs.Renaming.{renames_turned}
use Rattle.ar_meaning.specs.FlatOf.{IsNumber}
use Rattle.ar_meaning.proofs.FlatSystems.{flat_image, flat_back}
use Rattle.flow_reasons.proofs.ImageRounds.{round_there, reasons_there, cone_there}
use Rattle.flow_reasons.proofs.laws.reason_laws.Goals as goal

pub returns-clause-some_round : goal.returns-clause-some_round
returns-clause-some_round g c = fact_round

pub returns-clause-rounds_are_facts : goal.returns-clause-rounds_are_facts
returns-clause-rounds_are_facts g c = round_fact

pub returns-clause-rounds_grow : goal.returns-clause-rounds_grow
returns-clause-rounds_grow g c = λ net t j k x v l h. round_grows net t j k l x v h

pub returns-clause-reasons_suffice : goal.returns-clause-reasons_suffice
returns-clause-reasons_suffice g c = suffices

pub returns-clause-rounds_descend : goal.returns-clause-rounds_descend
returns-clause-rounds_descend g c = λ net t total flows reasons are r s o p rests. descends net t (no_two flows) reasons are
    r s o p rests

pub returns-clause-one_list_of_reasons : goal.returns-clause-one_list_of_reasons
returns-clause-one_list_of_reasons g c = λ net t total flows rs qs a b. reasons_one net t (no_two flows) a b

pub returns-clause-one_cone : goal.returns-clause-one_cone
returns-clause-one_cone g c = λ net reasons e ms ns a b.
    same_ascending ms ns a.ascends b.ascends (λ n o. b.whole n (a.sound n o)) (λ n o. a.whole n (b.sound n o))

pub returns-clause-same_flows : goal.returns-clause-same_flows
returns-clause-same_flows g c = λ net t total flows. same_flows net (states_of flows) flows

pub returns-clause-same_reasons : goal.returns-clause-same_reasons
returns-clause-same_reasons g c = λ net t total flows rs.
    (λ d. reasons_same net t total (states_of flows) d, λ d. reasons_same net total t (turned_states (states_of flows)) d)

pub returns-clause-flat_rounds : goal.returns-clause-flat_rounds
returns-clause-flat_rounds g c = λ things sys flat of t k x n v s.
    let on = (flat_image things sys flat of).net in
    let off = (flat_back things sys flat of).net in (
      λ h. round_there (IsNumber things) sys.net flat.net on t k x n v s h,
      λ h. round_there (turned_pairs (IsNumber things))
          flat.net sys.net off t k n x v s h,
    )

pub returns-clause-flat_reasons : goal.returns-clause-flat_reasons
returns-clause-flat_reasons g c = λ things sys flat of t rs.
    let on = (flat_image things sys flat of).net in
    let off = (flat_back things sys flat of).net in (
      λ d. reasons_there (IsNumber things) sys.net flat.net on t on.variables d,
      λ d. reasons_there
          (turned_pairs (IsNumber things)) flat.net sys.net off t off.variables d,
    )

pub returns-clause-flat_cones : goal.returns-clause-flat_cones
returns-clause-flat_cones g c = λ things sys flat of reasons e f q n.
    let on = (flat_image things sys flat of).net in
    let off = (flat_back things sys flat of).net in (
      λ h. cone_there (IsNumber things) sys.net flat.net on reasons e f q h,
      λ h. cone_there (turned_pairs (IsNumber things)) flat.net sys.net off reasons f e
          (record { renames = renames_turned (IsNumber things) q.renames }) h,
    )
