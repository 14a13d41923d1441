-- Text that was gathered and then handed on: what is so of the gathered text is so of the sink behind it.
use Rattle.std.proofs.Common.{◌≡◌, ℕ, Bool, true, false, List, [], Option, Result, Ok, Err, sym, ap, subst}
use Rattle.ar_io.proofs.Writing.{front_longer}
use Rattle.ar_io.specs.Writing.{SinkState, IsFront, Appended, WroteFront}
use Rattle.ar_io.specs.Handing.{Writes}
use Rattle.ar_io.specs.declared.outside.SinkFailed.{SinkFailed}
use Rattle.ar_io.proofs.Gathering.{put_whole, put_front, put_nothing, rose_failed}
use Rattle.ar_io.specs.Gathering.{gathered_state}
use Rattle.run_words.specs.declared.jobs.Asked.{Asked}
use Rattle.altarica_run.specs.Doing.{AnswersFor}
use Rattle.job_stages.specs.Telling.{status_written, whole, cut, nothing, IsWrittenFor, written, stopped}
use Rattle.job_stages.specs.Tells.{Tells}
use Rattle.job_stages.specs.declared.loading.Texts.{Texts}
use Rattle.job_stages.specs.declared.status.Status.{Status}
use Rattle.job_stages.specs.declared.stops.Stop.{Stop}
use Rattle.job_stages.specs.declared.stops.Stop.TheVariants.{Refused, Memory}

-- how the text of gathered output goes on to the sink in the end
pub record IsHandedOn (start now : SinkState) (text : List ℕ) (failed : Bool) (r : Result (Unit {0}) SinkFailed)
    : Type 0 where
  pub writes : Writes start now text r
  pub fails : failed ≡ true → r ≡ Err (record {})
  pub empty : text ≡ [] → (r ≡ Ok tt) × (now ≡ start)

-- first bytes of first bytes of a text are first bytes of it
front_on : (old new : Option (List ℕ)) (t text : List ℕ) → IsFront t text → WroteFront old new t → WroteFront old new text
front_on old new t text i h = subst (λ (z : List ℕ). WroteFront old new z) i.joined (front_longer t i.rest h)

-- what was written to gathered output, of which nothing was told before
module _ (asked : Asked) (told : List ℕ → Status → Type 0) {m n : ℕ} {s t : List ℕ} (a b : Bool)
    (none : s ≡ []) where
  -- the reference to the sink stays
  pub same_reference : (ends : Status) → IsWrittenFor asked told (gathered_state m s a) (gathered_state n t b) ends → n ≡ m
  same_reference ends (written (whole {text = text} is h k)) = (put_whole text none h).0
  same_reference ends (written (cut {text = text} is h k)) = (put_front text none h).0
  same_reference ends (written (nothing e)) = (put_nothing a b none e).0
  same_reference ends (stopped {text = text} replay is h k) = (put_front text none h).0

  -- and the sink has it when it is handed on
  module _ (fresh : a ≡ false) {start now : SinkState} where
    pub handed_on : (r : Result (Unit {0}) SinkFailed) (ends : Status) → IsHandedOn start now t b r
        → IsWrittenFor asked told (gathered_state m s a) (gathered_state n t b) ends
        → IsWrittenFor asked told start now (status_written ends r)
    handed_on (Ok x) ends on (written (whole {text = text} is h k)) =
        let same = (put_whole text none h).1 in
        written (whole is (subst (λ (z : List ℕ). Appended start.bytes now.bytes z) same on.writes.whole) on.writes.kept)
    handed_on (Err x) ends on (written (whole {text = text} is h k)) =
        let same = (put_whole text none h).1 in
        written (cut is (subst (λ (z : List ℕ). WroteFront start.bytes now.bytes z) same on.writes.front) on.writes.rose)
    handed_on (Ok x) ends on (written (cut is h k)) = let f = on.fails (rose_failed a b fresh k) in cc
    handed_on (Err x) ends on (written (cut {text = text} is h k)) =
        written (cut is (front_on start.bytes now.bytes t text (put_front text none h).1 on.writes.front) on.writes.rose)
    handed_on (Ok x) ends on (written (nothing e)) = written (nothing (on.empty (put_nothing a b none e).1).1)
    handed_on (Err x) ends on (written (nothing e)) = let i = (on.empty (put_nothing a b none e).1).0 in cc
    handed_on (Ok x) ends on (stopped {text = text} replay is h k) =
        stopped replay is (λ bytes e. (t, (put_front text none h).1, on.writes.whole bytes e)) on.writes.kept
    handed_on (Err x) ends on (stopped {text = text} replay is h k) =
        written (cut is (front_on start.bytes now.bytes t text (put_front text none h).1 on.writes.front) on.writes.rose)

-- where nothing was put to gathered output, the sink is as it was
pub none_handed : {m n : ℕ} {s t : List ℕ} (a b : Bool) → s ≡ [] → {start now : SinkState}
    (r : Result (Unit {0}) SinkFailed) → IsHandedOn start now t b r → gathered_state n t b ≡ gathered_state m s a
    → (n ≡ m) × (now ≡ start)
none_handed a b none r on e =
    let put = put_nothing a b none e in
    (put.0, (on.empty put.1).1)

-- what a command answers over gathered output is what it answers over the sink behind
module _ (asked : Asked) (texts : Texts) {m n : ℕ} {s t : List ℕ} (a b : Bool) (none : s ≡ []) (fresh : a ≡ false)
    {start now : SinkState} (r : Result (Unit {0}) SinkFailed) (on : IsHandedOn start now t b r) where
  pub gathered_done : (status : Status)
      → AnswersFor asked texts (gathered_state m s a) (gathered_state n t b) (Ok status)
      → (n ≡ m) × AnswersFor asked texts start now (Ok (status_written status r))
  gathered_done status h = (
    same_reference asked (Tells asked h.0) a b none status h.2,
    (h.0, h.1, handed_on asked (Tells asked h.0) a b none fresh r status on h.2),
  )

  pub gathered_stops : (e : Stop) → AnswersFor asked texts (gathered_state m s a) (gathered_state n t b) (Err e)
      → (n ≡ m) × AnswersFor asked texts start now (Err e)
  gathered_stops (Refused f) h = let k = none_handed a b none r on h.1 in (k.0, (h.0, k.1))
  gathered_stops Memory h = none_handed a b none r on h

-- the same of the sink itself, where the reference to it is the one that was lent
pub of_sink : {K : Type 0} (state : K → SinkState) (P : SinkState → SinkState → Type 0) {m n : ℕ} {x y : K}
    {start old : SinkState} → m ≡ n → (m ≡ n → x ≡ y) → start ≡ old → P start (state y) → P old (state x)
of_sink state P {x = x} {y = y} {start = start} same back begins h =
    subst (λ (z : SinkState). P z (state x)) begins
    (subst (λ (z : SinkState). P start z) (sym (ap state (back same))) h)
