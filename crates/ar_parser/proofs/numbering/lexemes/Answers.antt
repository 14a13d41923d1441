use Rattle.std.proofs.Common.{◌≡◌, ◌≤◌, length, arith, ap}
use Rattle.ar_parser.proofs.NameLemmas.{front_of, last_of, turned_twice, lexical_told}
use Rattle.ar_parser.proofs.numbering.lexemes.Goals as goal

pub returns-in-Err-clause-fault : goal.returns-in-Err-clause-fault
returns-in-Err-clause-fault c = lexical_told c.args.text.now c.in-Err.fault _ c.lexical.ensures c.in-Err.ensures.refused

pub numbered-requires-clause-spelled : goal.numbered-requires-clause-spelled
numbered-requires-clause-spelled c =
    (front_of c.args.text.now c.in-Ok.all.items _ c.unwrap-end.result c.in-Ok.ensures.found
    (turned_twice _ _ (last_of _ c.pop.ensures.items c.unwrap-end.ensures) c.reverse.ensures.items)).spelled

pub numbered-requires-clause-room : goal.numbered-requires-clause-room
numbered-requires-clause-room c =
    let f = (front_of c.args.text.now c.in-Ok.all.items _ c.unwrap-end.result c.in-Ok.ensures.found
    (turned_twice _ _ (last_of _ c.pop.ensures.items c.unwrap-end.ensures) c.reverse.ensures.items)).count in
    let n : length c.args.names.now ≡ 0 = ap length c.requires.empty in
    let z : length c.args.text.now ≤ 4194304 = c.requires.size in
    omega (arith, f, n, z)
