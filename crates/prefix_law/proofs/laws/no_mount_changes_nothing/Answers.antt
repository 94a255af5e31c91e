use Rattle.prefix_law.proofs.Prefix.{without_beginning}
use Rattle.prefix_law.proofs.laws.no_mount_changes_nothing.Goals as goal

pub returns : goal.returns
returns c = λ i w mount sealed none. (without_beginning i w mount sealed none).contents
