-- The or of two rows, by bits and by room.
use Rattle.std.proofs.Common.{◌≡◌, ℕ, ◌≤◌, length, slice_index, arith}
use Rattle.std.proofs.lemmas.Nat.{le_or_l}
use Rattle.flow_blocks.proofs.WordLemmas.{or_sets, or_everywhere, room_no_more, room_less}
use Rattle.flow_blocks.proofs.rows.add.Goals as goal

long : (c : goal.After-slice_known-2-1) → length c.or_into.new.row ≡ length c.args.row.now
long c = c.or_into.auto.row

-- no word gets less
more : (c : goal.After-slice_known-2-1) (k : ℕ) → slice_index c.args.row.now k ≤ slice_index c.or_into.new.row k
more c k =
    let word = or_everywhere c.args.row.now c.args.with.now c.or_into.new.row c.requires (long c) c.or_into.ensures.or
    k in
    let least = le_or_l (slice_index c.args.row.now k) (slice_index c.args.with.now k) in
    omega arith

pub returns-clause-bits : goal.returns-clause-bits
returns-clause-bits c = or_sets c.args.row.now c.args.with.now c.or_into.new.row c.requires (long c)
    c.or_into.ensures.or

pub returns-clause-less : goal.returns-clause-less
returns-clause-less c = λ yes.
    let one = c.or_into.ensures.changed yes in
    room_less c.args.row.now c.or_into.new.row one.0 (long c) (more c)
    (λ j. let fits = c.type_inv.row j in let up = more c j in omega (arith, fits, up)) one.1 one.2

pub returns-clause-no_more : goal.returns-clause-no_more
returns-clause-no_more c = room_no_more c.args.row.now c.or_into.new.row (long c) (more c)
