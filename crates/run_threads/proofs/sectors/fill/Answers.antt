use Rattle.std.proofs.Common.{◌/◌, ◌∙◌, ap}
use Rattle.std.specs.List.{repeat}
use Rattle.run_threads.proofs.Tags.{filled}
use Rattle.run_threads.proofs.sectors.fill.Goals as goal

pub returns-clause-sectors : goal.returns-clause-sectors
returns-clause-sectors c =
    filled c.args.size c.args.count c.args.tag c.repeat_in.new.bytes c.repeat_in-2.new.bytes c.requires.size
    (c.repeat_in.ensures.repeated ∙ ap (repeat 8) c.to_le_bytes.ensures) (c.repeat_in-2.ensures.len ∙ c.requires.bytes)
    (c.repeat_in-2.ensures.repeated ∙ ap (λ n. repeat (n / 64) c.repeat_in.new.bytes) c.requires.bytes)
