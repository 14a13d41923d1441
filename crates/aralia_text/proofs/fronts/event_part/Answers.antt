use Rattle.std.proofs.Common.{◌≡◌, ◌<◌, ◌+◌, ℕ, List, [], ◌++◌, codes, take, length, sym, ap, ◌∙◌, subst, append-nil, arith}
use Rattle.std.specs.List.{prefix_len}
use Rattle.std.proofs.lemmas.List.{take_all}
use Rattle.aralia_text.specs.Fronts.{AreCommon}
use Rattle.ar_base.specs.Lists.{Stands}
use Rattle.ar_base.proofs.Standing.{stands_within}
use Rattle.aralia_text.specs.Readings.{is_path_byte, IsPath}
use Rattle.aralia_text.proofs.Runs.{run_passes, run_exact}
use Rattle.aralia_text.proofs.Events.{mark_common, mark_part, part_start, part_done, part_passed, part_more, IsPartSoFar}
use Rattle.aralia_text.proofs.fronts.event_part.Goals as goal
use Rattle.aralia_text.proofs.fronts.event_part.Goals.{then-run-bytes, else-run-bytes, in-Ok, in-Err}

whole : (text : List ℕ) → prefix_len is_path_byte text ≡ length text → IsPath text
whole text all = subst IsPath (ap (λ (k : ℕ). take k text) all ∙ take_all (length text) text (omega arith))
    (run_passes text)

all_pass : (text : List ℕ) → IsPath text → prefix_len is_path_byte text ≡ length text
all_pass text h = ap (prefix_len is_path_byte) (sym (append-nil text)) ∙ run_exact text [] h tt

pub overflow_add-n : goal.overflow_add-n
overflow_add-n c =
    let inside : c.new.result.n < length c.args.names.now =
    stands_within c.args.names.now c.new.result.n c.in-Some.path.now c.in-Some.ensures.text in
    let n = c.new.ensures in
    let few = c.requires.few in
    omega (arith, inside, n, few)

pub loop-path-init : goal.loop-path-init
loop-path-init c = (omega arith, part_start _ _)

pub loop-path-smaller : goal.loop-path-smaller
loop-path-smaller c =
    let inside : c.new.result.n < length c.args.names.now =
    stands_within c.args.names.now c.new.result.n c.in-Some.path.now c.in-Some.ensures.text in
    let n = c.new.ensures in
    omega (arith, inside, n)

pub loop-path-preserved : goal.loop-path-preserved
loop-path-preserved c =
    let inside : c.new.result.n < length c.args.names.now =
    stands_within c.args.names.now c.new.result.n c.in-Some.path.now c.in-Some.ensures.text in
    let n = c.new.ensures in
    let here : Stands c.args.names.now c.loop-path.n c.in-Some.path.now = subst (λ (k : ℕ). Stands c.args.names.now k c.in-Some.path.now) n c.in-Some.ensures.text in (
      omega (arith, inside, n),
      elim c.if-run-bytes.branch [
        | then-run-bytes w ↦
            let event = codes "e." ++ c.as_bytes-bytes.result.now in
            let same : AreCommon c.args.rest.now event w.match-literal.same = elim w.match-literal.branch [
              | in-Ok v ↦ subst (AreCommon c.args.rest.now event) (sym v.same-is)
                  (mark_common _ _ _ _ v.in-Ok.ensures.found v.common.ensures)
              | in-Err v ↦ subst (AreCommon c.args.rest.now event) (sym v.same-is)
                  (mark_part _ _ _ _ v.in-Err.ensures.stuck v.common-same.ensures)
            ] in
            part_more c.args.names.now c.args.rest.now c.loop-path.n c.loop-path.most c.if-run-bytes.most
            w.match-literal.same c.in-Some.path.now c.loop-path.invariant.1 here
            (subst IsPath c.as_bytes-bytes.ensures.value
            (whole c.as_bytes-bytes.result.now (sym c.path_len-run.ensures.value ∙ w.if-run-bytes.true)))
            (subst (λ (z : List ℕ). AreCommon c.args.rest.now (codes "e." ++ z) w.match-literal.same)
            c.as_bytes-bytes.ensures.value same)
            (w.most-is ∙ w.max-most.ensures)
        | else-run-bytes w ↦
            subst (λ (k : ℕ). IsPartSoFar c.args.names.now c.args.rest.now (c.loop-path.n + 1) k) (sym w.most-is)
            (part_passed c.args.names.now c.args.rest.now c.loop-path.n c.loop-path.most c.in-Some.path.now
            c.loop-path.invariant.1 here
            (λ path. w.if-run-bytes.false (c.path_len-run.ensures.value
            ∙ all_pass c.as_bytes-bytes.result.now (subst IsPath (sym c.as_bytes-bytes.ensures.value) path))))
      ],
    )

pub returns : goal.returns
returns c = part_done _ _ _ _ c.loop-path.invariant.1 (let past = c.in_default.ensures.past in let n = c.new.ensures in omega (arith, past, n))
