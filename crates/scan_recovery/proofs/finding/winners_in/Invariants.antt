use Rattle.std.proofs.Common.{◌≡◌, ℕ, Option, length, map}
use Rattle.std.specs.List.{filter_map, range_with_len}
use Rattle.std.specs.Option.{option_map}
use Rattle.pblk_model.specs.Records.{Record}
use Rattle.world_laws.specs.Finding.{winner_with}
use Rattle.scan_recovery.specs.Traces.{bare}
use Rattle.scan_recovery.proofs.finding.winners_in.Given as goal
use Rattle.pblk_model.specs.Tables.{IsTable}

abbrev pub invariant-loop-lba : goal.invariant-loop-lba
invariant-loop-lba l = (f : ℕ → Option Record) → IsTable (length l.best) f (map (option_map bare) l.best)
    → l.winners.items ≡ filter_map (λ lba. option_map (winner_with lba) (f lba)) (range_with_len 0 l.lba)
