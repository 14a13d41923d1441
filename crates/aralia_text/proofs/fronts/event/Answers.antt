use Rattle.std.proofs.Common.{◌∙◌, ap, take}
use Rattle.aralia_text.specs.Fronts.{HasNoEvent}
use Rattle.aralia_text.proofs.Events.{event_read, event_stuck, event_not_found, no_event_mark}
use Rattle.aralia_text.proofs.fronts.event.Goals as goal
use Rattle.aralia_text.proofs.fronts.event.Goals.{in-Ok+in_default-find_bytes, in_default}

pub returns-in-Some-clause-found : goal.returns-in-Some-clause-found
returns-in-Some-clause-found c =
    event_read _ _ _ _ _ c.in-Ok.ensures.found
    (record {
      run_is = c.split_at.ensures.front ∙ ap (λ k. take k c.in-Ok.behind.now) c.path_len.ensures.value;
      joined = c.split_at.ensures.by_index.0;
    })
    c.in-Some.name.n _ c.requires.different c.in-Some.ensures.found c.new.ensures

pub returns-clause-stuck : goal.returns-clause-stuck
returns-clause-stuck c =
    let none : HasNoEvent c.args.names.now c.args.rest.now = elim c.match-literal.branch [
      | in-Ok+in_default-find_bytes w ↦
          event_not_found _ _ _ _ _ w.in-Ok.ensures.found
          (record {
            run_is = w.split_at.ensures.front ∙ ap (λ k. take k w.in-Ok.behind.now) w.path_len.ensures.value;
            joined = w.split_at.ensures.by_index.0;
          })
          w.in_default-find_bytes.ensures.absent
      | in_default w ↦ no_event_mark _ _ _ w.in_default.ensures.stuck
    ] in
    event_stuck _ _ _ c.event_part.ensures none
