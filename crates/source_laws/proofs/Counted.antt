-- The counts of sources that are alike.
use Rattle.std.proofs.Common.{◌≡◌}
use Rattle.gts_flatten.specs.Elaborating.{Elaborated, most_ways_counted, way_parts_counted, nodes_counted}
use Rattle.gts_flatten.proofs.Alike.{most_ways_alike, way_parts_alike, nodes_alike}
use Rattle.source_laws.specs.Sources.{SameSource}

module _ (x y : Elaborated) (s : SameSource x y) where
  pub ways_same : most_ways_counted x ≡ most_ways_counted y
  ways_same = most_ways_alike s.system.events

  pub parts_same : way_parts_counted x ≡ way_parts_counted y
  parts_same = way_parts_alike s.system.events

  pub nodes_same : nodes_counted x ≡ nodes_counted y
  nodes_same = nodes_alike x.system y.system s.system.events s.system.net.assertions s.system.observers
