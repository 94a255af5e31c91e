use Rattle.pblk_core.proofs.SmallCalls.{padded_stands}
use Rattle.std.proofs.Common.{ap}
use Rattle.stripe_placer.specs.Placing.{Placing}
use Rattle.pblk_core.proofs.target_core.Core.ask_pad.Goals as goal

pub returns-clause-stands : goal.returns-clause-stands
returns-clause-stands c = λ i logs st. padded_stands i logs c.args.self.now c.pad_to.new.self c.args.to st c.pad_to.ensures

pub returns-clause-raised : goal.returns-clause-raised
returns-clause-raised c = ap (λ (p : Placing). record c.args.self.now { placer = p }) c.pad_to.ensures
