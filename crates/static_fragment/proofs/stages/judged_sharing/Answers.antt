use Rattle.std.proofs.Common.{List, length, Err, ◌∙◌, ap, subst, sym, arith}
use Rattle.std.proofs.lemmas.Result.{err_from_is_err_and}
use Rattle.mode_search.specs.declared.listing.Live.{Live}
use Rattle.mode_search.specs.Sharing.{HaveEventsWithin, IsSharing}
use Rattle.static_fragment.proofs.Judging.{on_err, refused5, kept5}
use Rattle.static_fragment.proofs.Forests.{all_apart, all_within}
use Rattle.static_fragment.proofs.stages.judged_sharing.Goals as goal

pub live_edges-requires-clause-apart : goal.live_edges-requires-clause-apart
live_edges-requires-clause-apart c = all_apart c.requires.found

pub shared-requires : goal.shared-requires
shared-requires c = subst (λ (z : List Live). HaveEventsWithin c.len.result z) (sym c.deref.ensures.value)
    (all_within c.requires.found c.in_ok-live.live.items c.in_ok-live.ensures c.len.result
    (omega (arith, c.len.ensures, c.args.parts.now.events.ok.0)))

pub returns-in_err-at_variable : goal.returns-in_err-at_variable
returns-in_err-at_variable c = λ order system dropped h.
    let r = err_from_is_err_and c.from_residual-in_err-at_variable.result c.from_residual-in_err-at_variable.ensures.1
    in
    let s = subst (λ (z : List Live). IsSharing c.len.result z (length z) c.in_ok-sharing.sharing) c.deref.ensures.value
    c.in_ok-sharing.ensures in
    on_err _ _ c.from_residual-in_err-at_variable.result _ (r.1 ∙ ap Err r.2)
    (refused5 system dropped (record { reached = h.reached; are = c.in_ok-live.ensures }) h.keeps order
    c.in_ok-sharing.sharing.least s.least _ c.in_err-at_variable.ensures)

pub returns : goal.returns
returns c = λ order system dropped h.
    let s = subst (λ (z : List Live). IsSharing c.len.result z (length z) c.in_ok-sharing.sharing) c.deref.ensures.value
    c.in_ok-sharing.ensures in
    record {
      parts = c.args.parts.now;
      kept = h.kept;
      reaches = c.args.reaches.now;
      live = c.in_ok-live.live.items;
      edges = record { reached = h.reached; are = c.in_ok-live.ensures };
      count = c.len.result;
      sharing = s;
      keeps = kept5 system dropped (record { reached = h.reached; are = c.in_ok-live.ensures }) h.keeps
          c.in_ok-sharing.sharing.least _ s.least c.in_ok-at_variable.ensures;
    }
