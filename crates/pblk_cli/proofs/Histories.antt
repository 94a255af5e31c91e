-- The lines of an engine's log, the history, and where they stand.
use Rattle.std.proofs.Common.{◌≡◌, ◌<◌, List, [], ◌∷◌, ◌++◌, map, Some, refl, sym, ap, ◌∙◌, arith}
use Rattle.std.specs.List.{AllByRecursion, cons_option, filter}
use Rattle.std.proofs.lemmas.Option.{none-some}
use mathlib.Core.List.{IsPrefix}
use Rattle.pblk_model.specs.History.{SectorWrite}
use Rattle.pblk_model.specs.Image.{Image}
use Rattle.pblk_model.proofs.Maps.{all_filter, all_mapped}
use Rattle.pblk_model.proofs.Parts.{all_by_get}
use Rattle.pblk_world.specs.EngineLog.{Begun, Taken, begun, begun_by, taken_by, takes}
use Rattle.pblk_world.specs.Events.{Begin, Decides, Event, Logged}
use Rattle.pblk_world.specs.Fronts.{history, is_users, taken, user_positions, user_takes}
use Rattle.pblk_world.specs.Legal.{IsLegal}
use Rattle.pblk_world.specs.World.{World, log_of}
use Rattle.core_laws.specs.Positions.{AreNumbered}
use Rattle.world_laws.proofs.Positions.{position_below}
use Rattle.block_port.specs.Own.{PlacedSector}
use Rattle.block_port.specs.Port.{positions}
use Rattle.block_target.specs.Sessions.{history_lines, line_of}
use Rattle.block_port.proofs.PlacedLines.{rise_from}
use Rattle.block_target.proofs.LogLines.{IsMore, more_lines, positions_placed}

-- ---- a log

writes_placed : (ts : List Taken) → map (λ (x : PlacedSector). x.write) (map line_of ts) ≡ map (λ t. record { lba = t.entry.lba; sector = t.entry.sector }) ts
writes_placed [] = refl
writes_placed (t ∷ ts) = ap (λ (ws : List SectorWrite). record { lba = t.entry.lba; sector = t.entry.sector } ∷ ws) (writes_placed ts)

-- the history are the lines
pub writes_are : (log : List Logged) → history log ≡ map (λ (x : PlacedSector). x.write) (history_lines log)
writes_are log = sym (writes_placed (user_takes log))

-- where they stand
pub positions_are : (log : List Logged) → positions (history_lines log) ≡ user_positions log
positions_are log = positions_placed (user_takes log)

-- each line is below the front taken
pub lines_taken : (i : Image) (w : World) → IsLegal i w
    → AllByRecursion (λ (x : PlacedSector). x.position < taken (log_of w 0)) (history_lines (log_of w 0))
lines_taken i w legal =
    all_mapped (λ (x : PlacedSector). x.position < taken (log_of w 0)) line_of (user_takes (log_of w 0))
    (all_filter (λ (t : Taken). t.entry.position < taken (log_of w 0)) (λ t. is_users t.entry.source) (takes (log_of w 0))
    (all_by_get (λ (t : Taken). t.entry.position < taken (log_of w 0)) (takes (log_of w 0)) (λ k t there. position_below i w k t legal there)))

-- ---- a longer log, of which nothing may have been known

-- a beginning takes nothing
none_at_first : (l : Logged) (b : Begun) → begun (l ∷ []) ≡ Some b → takes (l ∷ []) ≡ []
none_at_first l b begins = by l.event begins
  where
    by : (e : Event) → begun_by l.knows e ≡ Some b → cons_option (taken_by e) [] ≡ []
    by (Decides (Begin first)) is = refl
    by e is = absurd (none-some b is)

pub later_lines : (early late : List Logged) (b : Begun) → IsPrefix early late → begun late ≡ Some b → AreNumbered late → IsMore early late
later_lines [] [] b prefix begins numbered = absurd (none-some b begins)
later_lines [] (l ∷ log) b prefix begins numbered =
    let more = more_lines (l ∷ []) (l ∷ log) b (log, refl) begins numbered in
    let none : takes (l ∷ []) ≡ [] = none_at_first l b begins in
    record {
      before = omega arith;
      more = more.more;
      lines = more.lines ∙ ap (λ (ts : List Taken). map line_of (filter (λ t. is_users t.entry.source) ts) ++ more.more) none;
      rise = rise_from (taken []) (taken (l ∷ [])) (taken (l ∷ log)) more.more (omega arith) more.rise;
    }
later_lines (e ∷ early) late b prefix begins numbered = more_lines (e ∷ early) late b prefix (first_of late prefix.0 prefix.1 ∙ begins) numbered
  where
    first_of : (xs more : List Logged) → (e ∷ early) ++ more ≡ xs → begun (e ∷ early) ≡ begun xs
    first_of xs more same = ap begun same
