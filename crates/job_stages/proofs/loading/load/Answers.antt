use Rattle.ar_io.specs.declared.outside.LoadFault.TheVariants as fault
use Rattle.job_stages.proofs.LogLemmas.{one_came, one_stops}
use Rattle.job_stages.proofs.loading.load.Goals as goal

pub returns-in-Ok-clause-came : goal.returns-in-Ok-clause-came
returns-in-Ok-clause-came g c =
    one_came (record { kind = c.args.kind; name = c.args.name.now; count = c.args.count }) c.limit.result
    c.limit.ensures _ _ c.in-Ok.bytes c.in-Ok.ensures.room c.in-Ok.ensures.logs

pub returns-in-Err-Failed-clause-came : goal.returns-in-Err-Failed-clause-came
returns-in-Err-Failed-clause-came g c =
    one_stops (record { kind = c.args.kind; name = c.args.name.now; count = c.args.count }) c.limit.result
    c.limit.ensures _ _ fault.Failed c.in-Err-Failed.field-0
    c.in-Err-Failed.field-0-is c.in-Err-Failed.ensures.logs

pub returns-in-Err-TooLong-clause-came : goal.returns-in-Err-TooLong-clause-came
returns-in-Err-TooLong-clause-came g c =
    one_stops (record { kind = c.args.kind; name = c.args.name.now; count = c.args.count }) c.limit.result
    c.limit.ensures _ _ fault.TooLong c.in-Err-TooLong.field-0
    c.in-Err-TooLong.field-0-is c.in-Err-TooLong.ensures.logs

pub returns-in-Err-Memory-clause-came : goal.returns-in-Err-Memory-clause-came
returns-in-Err-Memory-clause-came g c =
    one_stops (record { kind = c.args.kind; name = c.args.name.now; count = c.args.count }) c.limit.result
    c.limit.ensures _ _ fault.Memory c.in-Err-Memory.field-0
    c.in-Err-Memory.field-0-is c.in-Err-Memory.ensures.logs
