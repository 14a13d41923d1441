use Rattle.std.proofs.Common.{◌≡◌, length, refl, rules}
use Rattle.ar_io.proofs.Writing.{writes_exit, writes_on, writes_front, writes_as}
use Rattle.job_stages.proofs.LineLemmas.{made_put}
use Rattle.altarica_run.proofs.making.put_made.Goals as goal

pub returns-in_err-put_line : goal.returns-in_err-put_line
returns-in_err-put_line g c =
    let n : c.from.result ≡ c.args.number = search rules in
    writes_exit _ _ c.from_residual.ensures.1
    (writes_as _ _ (made_put c.args.counted.sets n refl refl refl)
    (writes_front _ _ c.in_err-put_line.ensures))

pub returns-in_err-put_line-2 : goal.returns-in_err-put_line-2
returns-in_err-put_line-2 g c =
    let n : c.from.result ≡ c.args.number = search rules in
    let u : c.len.result ≡ length c.args.parts.now.units.items = search rules in
    writes_exit _ _ c.from_residual-in_err-put_line-2.ensures.1
    (writes_as _ _ (made_put c.args.counted.sets n u refl refl)
    (writes_on c.in_ok-put_line.ensures (writes_front _ _ c.in_err-put_line-2.ensures)))

pub returns-in_err-put_line-3 : goal.returns-in_err-put_line-3
returns-in_err-put_line-3 g c =
    let n : c.from.result ≡ c.args.number = search rules in
    let u : c.len.result ≡ length c.args.parts.now.units.items = search rules in
    let e : c.len-2.result ≡ length c.args.parts.now.events.items = search rules in
    writes_exit _ _ c.from_residual-in_err-put_line-3.ensures.1
    (writes_as _ _ (made_put c.args.counted.sets n u e refl)
    (writes_on c.in_ok-put_line.ensures
    (writes_on c.in_ok-put_line-2.ensures (writes_front _ _ c.in_err-put_line-3.ensures))))

pub returns-in_err-put_line-4 : goal.returns-in_err-put_line-4
returns-in_err-put_line-4 g c =
    let n : c.from.result ≡ c.args.number = search rules in
    let u : c.len.result ≡ length c.args.parts.now.units.items = search rules in
    let e : c.len-2.result ≡ length c.args.parts.now.events.items = search rules in
    writes_exit _ _ c.from_residual-in_err-put_line-4.ensures.1
    (writes_as _ _ (made_put c.args.counted.sets n u e refl)
    (writes_on c.in_ok-put_line.ensures
    (writes_on c.in_ok-put_line-2.ensures
    (writes_on c.in_ok-put_line-3.ensures (writes_front _ _ c.in_err-put_line-4.ensures)))))

pub returns : goal.returns
returns g c =
    let n : c.from.result ≡ c.args.number = search rules in
    let u : c.len.result ≡ length c.args.parts.now.units.items = search rules in
    let e : c.len-2.result ≡ length c.args.parts.now.events.items = search rules in
    let l : c.from-2.result ≡ c.args.counted.largest = search rules in
    writes_as _ _ (made_put c.args.counted.sets n u e l)
    (writes_on c.in_ok-put_line.ensures
    (writes_on c.in_ok-put_line-2.ensures
    (writes_on c.in_ok-put_line-3.ensures (writes_on c.in_ok-put_line-4.ensures c.put_line-5.ensures))))
