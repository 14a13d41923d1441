use Rattle.bind_names.proofs.Wayed.{part_bound}
use Rattle.bind_names.proofs.ways.add_part.Goals as goal

pub returns-in-None : goal.returns-in-None
returns-in-None c = λ m units u is at names. absurd (names (rw c.deref.ensures.value at (c.in-None.ensures m units u is at)))

pub returns-in_ok-push-in-Some : goal.returns-in_ok-push-in-Some
returns-in_ok-push-in-Some c = λ m units u is at names.
    let found = rw c.deref.ensures.value at (c.in-Some.ensures m units u is at) in
    record {
      added = (c.args.part.now.must, c.in-Some.event);
      is = part_bound m units u c.args.part.now c.in-Some.event found.0 found.1 found.2;
      behind = c.in_ok-push-in-Some.ensures.items;
    }
