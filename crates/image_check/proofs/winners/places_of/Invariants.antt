use Rattle.std.proofs.Common.{◌≡◌, ℕ, Option, length}
use Rattle.std.specs.List.{filter_map, range_with_len}
use Rattle.pblk_model.specs.Records.{Record}
use Rattle.image_check.specs.Right.{win_by}
use Rattle.pblk_model.specs.Tables.{IsTable}
use Rattle.image_check.proofs.winners.places_of.Given as goal

abbrev pub invariant-loop-lba : goal.invariant-loop-lba
invariant-loop-lba l = (f : ℕ → Option Record) → IsTable (length l.best) f l.best
    → l.wins.items ≡ filter_map (λ lba. win_by lba (f lba)) (range_with_len 0 l.lba)
