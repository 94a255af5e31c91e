use Rattle.std.proofs.Common.{ap, ◌∙◌}
use Rattle.pblk_model.specs.Frames.{count_left, count_out}
use Rattle.sector_pool.proofs.Flags.{left_of_all, out_of_all}
use Rattle.sector_pool.proofs.pool.Pool.new.Goals as goal

pub returns-clause-all_left : goal.returns-clause-all_left
returns-clause-all_left c = ap count_left c.cut-ranges.ensures.1 ∙ left_of_all c.args.count

pub returns-clause-none_out : goal.returns-clause-none_out
returns-clause-none_out c = ap count_out c.cut-ranges.ensures.1 ∙ out_of_all c.args.count
