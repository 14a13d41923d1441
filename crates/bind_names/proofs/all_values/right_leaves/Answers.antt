use Rattle.bind_names.proofs.Leafing.{right_leaf}
use Rattle.bind_names.proofs.all_values.right_leaves.Goals as goal

pub returns : goal.returns
returns c = λ m units u leaves p are at along may. right_leaf are leaves.unit.n u at leaves.parameters.now p along may
