use Rattle.world_laws.proofs.GrownLogs.{freed_named, full_named, order_named, resets_named, rest_named}
use Rattle.world_laws.proofs.growth.orders_are_by_what_was_named.Goals as goal

pub returns : goal.returns
returns c = record {
  resets = resets_named;
  full = full_named;
  freed = freed_named;
  order = order_named;
  rest = λ i logs other asked n h. rest_named i logs other h asked n;
}
