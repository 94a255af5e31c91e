-- Which sector is held, by the newest records.
use Rattle.std.specs.Prelude.{ℕ, List, map, Option, Some, None}
use Rattle.std.specs.Option.{option_map, option_map_or}
use Rattle.pblk_model.specs.Image.{Image, block_at}
use Rattle.pblk_model.specs.Records.{Record}
use Rattle.pblk_model.specs.Contents.{counted, winner}
use Rattle.scan_recovery.specs.declared.holding.Held.{Held}
use Rattle.scan_recovery.specs.declared.trace.Trace.{Trace}
use Rattle.scan_recovery.specs.Holding.{IsSummaryOf}
use Rattle.scan_recovery.specs.Traces.{bare, without_sector}
use Rattle.pblk_model.specs.Tables.{IsTable}

-- the newest counted record of a sector, but for what it holds
abbrev pub thin_winner : Image → ℕ → Option Record
thin_winner i lba = option_map without_sector (winner (counted i) lba)

-- the sector of the block that a trace is of, and else these zeros
abbrev pub held_by : Image → List ℕ → Option Trace → List ℕ
held_by i zeros None = zeros
held_by i zeros (Some t) = option_map_or (λ b. b.sector) (block_at i t.line t.at) zeros

-- of each sector the newest counted record, and the summary of the image
pub record IsHeld (i : Image) (h : Held) : Type 0 where
  pub winners : IsTable i.shape.capacity (thin_winner i) (map (option_map bare) h.winners.items)
  pub summary : IsSummaryOf i h.summary
