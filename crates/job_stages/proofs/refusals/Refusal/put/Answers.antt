use Rattle.std.proofs.Common.{◌∙◌, ap, sym}
use Rattle.ar_io.proofs.Writing.{writes_as}
use Rattle.job_stages.specs.Refusals.{line_of}
use Rattle.job_stages.proofs.refusals.Refusal.put.Goals as goal

pub returns-in-Usage : goal.returns-in-Usage
returns-in-Usage g c = writes_as _ _ (ap line_of (sym c.in-Usage.is)) c.write_text.ensures

pub returns-in-NotRead : goal.returns-in-NotRead
returns-in-NotRead g c =
    writes_as _ _ (c.not_read_line.ensures ∙ ap line_of (sym c.in-NotRead.is)) c.write_text-in-NotRead.ensures

pub returns-in-NoCommand : goal.returns-in-NoCommand
returns-in-NoCommand g c = writes_as _ _ (ap line_of (sym c.in-NoCommand.is)) c.put_script_line.ensures

pub returns-in-NoCut : goal.returns-in-NoCut
returns-in-NoCut g c = writes_as _ _ (ap line_of (sym c.in-NoCut.is)) c.put_script_line-in-NoCut.ensures

pub returns-in-NeedsWay : goal.returns-in-NeedsWay
returns-in-NeedsWay g c = writes_as _ _ (ap line_of (sym c.in-NeedsWay.is)) c.put_script_line-in-NeedsWay.ensures

pub returns-in-NoEvent : goal.returns-in-NoEvent
returns-in-NoEvent g c = writes_as _ _ (ap line_of (sym c.in-NoEvent.is)) c.put_script_line-in-NoEvent.ensures

pub returns-in-NoDropped : goal.returns-in-NoDropped
returns-in-NoDropped g c = writes_as _ _ (ap line_of (sym c.in-NoDropped.is)) c.write_text-in-NoDropped.ensures

pub returns-in-NoObserver : goal.returns-in-NoObserver
returns-in-NoObserver g c = writes_as _ _ (ap line_of (sym c.in-NoObserver.is)) c.write_text-in-NoObserver.ensures

pub returns-in-NoValue : goal.returns-in-NoValue
returns-in-NoValue g c = writes_as _ _ (ap line_of (sym c.in-NoValue.is)) c.write_text-in-NoValue.ensures
