use Rattle.std.proofs.Common.{ℕ, List, Err, subst}
use Rattle.job_stages.specs.Logs.{Grew}
use Rattle.ar_base.specs.TextsInside.{bytes_of_all}
use Rattle.ar_io.specs.Outside.{Rose}
use Rattle.altarica_run.specs.Doing.{AnswersWords, AnswersReading}
use Rattle.job_stages.specs.declared.stops.Stop.{Stop}
use Rattle.altarica_run.proofs.EndLemmas.{refused_first, memory_told, same_shelf}
use Rattle.altarica_run.proofs.ReadingLemmas.{refused_by, memory_by}
use Rattle.altarica_run.proofs.program.altarica.Goals as goal

pub returns-in-Ok-clause-told : goal.returns-in-Ok-clause-told
returns-in-Ok-clause-told g c = record {
  ends = c.in-Ok.ensures.words;
  untouched = λ none. same_shelf g.H.Shelf.holds g.H.Shelf.faults c.args.shelf.now c.do_job.new.shelf
      (c.in-Ok.ensures.untouched none);
}

pub returns-in-Refused-clause-told : goal.returns-in-Refused-clause-told
returns-in-Refused-clause-told g c =
    let files = g.H.Shelf.holds c.args.shelf.now in
    let rose : List ℕ → Type 0 = λ name. Rose (g.H.Shelf.faults c.args.shelf.now name)
    (g.H.Shelf.faults c.do_job.new.shelf name) in
    let words = bytes_of_all c.args.words.now in
    let old = g.K.Sink.state c.args.out.now in
    let mid = g.K.Sink.state c.do_job.new.out in
    let h = subst (λ (z : Stop). AnswersWords files rose words old mid (Err z)) c.in-Refused.is c.in-Err.ensures.words in
    record {
      ends = refused_first files rose words old _ mid h.1 c.in-Refused.refusal h.0 _ c.refuse.ensures;
      untouched = λ none. same_shelf g.H.Shelf.holds g.H.Shelf.faults c.args.shelf.now c.do_job.new.shelf
          (c.in-Err.ensures.untouched none);
    }

pub returns-in-Memory-clause-told : goal.returns-in-Memory-clause-told
returns-in-Memory-clause-told g c =
    let files = g.H.Shelf.holds c.args.shelf.now in
    let rose : List ℕ → Type 0 = λ name. Rose (g.H.Shelf.faults c.args.shelf.now name)
    (g.H.Shelf.faults c.do_job.new.shelf name) in
    let words = bytes_of_all c.args.words.now in
    let old = g.K.Sink.state c.args.out.now in
    let mid = g.K.Sink.state c.do_job.new.out in
    let h = subst (λ (z : Stop). AnswersWords files rose words old mid (Err z)) c.in-Memory.is c.in-Err.ensures.words in
    record {
      ends = memory_told files rose words old mid h;
      untouched = λ none. same_shelf g.H.Shelf.holds g.H.Shelf.faults c.args.shelf.now c.do_job.new.shelf
          (c.in-Err.ensures.untouched none);
    }

pub returns-in-Refused-clause-loads : goal.returns-in-Refused-clause-loads
returns-in-Refused-clause-loads g c =
    let words = bytes_of_all c.args.words.now in
    let old = g.K.Sink.state c.args.out.now in
    let mid = g.K.Sink.state c.do_job.new.out in
    let a = g.H.Shelf.loads c.args.shelf.now in
    let b = g.H.Shelf.loads c.do_job.new.shelf in
    refused_by words old mid a b c.in-Refused.refusal
    (subst (λ (z : Stop). Grew a b (AnswersReading words old mid (Err z))) c.in-Refused.is c.in-Err.ensures.loads)
    _ _ c.refuse.ensures

pub returns-in-Memory-clause-loads : goal.returns-in-Memory-clause-loads
returns-in-Memory-clause-loads g c =
    let words = bytes_of_all c.args.words.now in
    let old = g.K.Sink.state c.args.out.now in
    let mid = g.K.Sink.state c.do_job.new.out in
    let a = g.H.Shelf.loads c.args.shelf.now in
    let b = g.H.Shelf.loads c.do_job.new.shelf in
    memory_by words old mid a b
    (subst (λ (z : Stop). Grew a b (AnswersReading words old mid (Err z))) c.in-Memory.is c.in-Err.ensures.loads)
