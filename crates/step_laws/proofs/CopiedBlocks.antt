-- The block that stands on the drive where the map says that a sector is, and its mark.
use Rattle.std.proofs.Common.{◌≡◌, ℕ, ◌<◌, ◌==◌, false, Some, None, Option, List, sym, subst, ap, ◌∙◌}
use Rattle.std.specs.Prelude.{slice_get}
use Rattle.std.specs.List.{list_any}
use Rattle.std.specs.Option.{is_some, option_and_then}
use Rattle.pblk_model.specs.Contents.{counted, winner}
use Rattle.pblk_model.specs.Image.{Image, block_at, line_units}
use Rattle.pblk_model.specs.LineOrder.{line_order}
use Rattle.pblk_model.specs.Records.{Record}
use Rattle.pblk_model.specs.StartRecord.{StartRecord, start_of}
use Rattle.pblk_laws.proofs.LineUnits.{block_named}
use Rattle.pblk_world.specs.Taking.{BearsIt, IsLatest}
use Rattle.pblk_world.specs.World.{World, log_of, media}
use Rattle.pblk_world.specs.EngineLog.{AsFound, Begun, begun, last_opening, Opening, Opened, life_of, Taken}
use Rattle.pblk_world.specs.Fronts.{last_take}
use Rattle.pblk_world.specs.Lines.{found_image, known_image}
use Rattle.pblk_world.specs.LegalMounts.{IsLegalMount}
use Rattle.world_laws.proofs.LifePlaces.{units_now}
use Rattle.world_laws.proofs.Lives.{life_is_known}
use Rattle.l2p_map.specs.declared.slot.Slot.TheVariants.{Media}
use Rattle.core_laws.specs.SlotOf.{slot_of}
use Rattle.core_laws.proofs.LatestSources.{named_is_place}
use Rattle.step_laws.specs.SlotBlocks.{IsBlockOfSlot, IsOfLatest}
use Rattle.step_laws.proofs.FoundLines.{media_units, no_stray, units_kept}
use Rattle.step_laws.proofs.FoundRecords.{IsFoundRecord, winner_found}
use Rattle.step_laws.proofs.LiveUnits.{online_units}

-- ---- the line has its units on the media as the engine knows them

found_units : (i : Image) (w : World) (b : Begun) (lba line : ℕ) (r : Record) → IsLegalMount i w → begun (log_of w 0) ≡ Some b
    → winner (counted (found_image i (log_of w))) lba ≡ Some r → r.line ≡ line → life_of (log_of w 0) line ≡ AsFound
    → line_units (known_image i (log_of w)) line ≡ line_units (media i (log_of w)) line
found_units i w b lba line r mount begins wins of_line life =
    let is : IsFoundRecord (found_image i (log_of w)) r = winner_found (found_image i (log_of w)) lba r wins in
    let none : list_any (λ stray. stray == line) b.beginning.strays ≡ false =
    no_stray i w b line mount.legal begins
    (ap (λ l. is_some (start_of (found_image i (log_of w)) l)) (sym of_line) ∙ ap (λ (o : Option StartRecord). is_some o) is.starts) in
    units_kept i w mount.legal b begins line life none ∙ sym (media_units i w mount.legal b begins line life none)

opened_units_now : (i : Image) (w : World) (line : ℕ) (o : Opening) → IsLegalMount i w → life_of (log_of w 0) line ≡ Opened o
    → line_units (known_image i (log_of w)) line ≡ line_units (media i (log_of w)) line
opened_units_now i w line o mount opened =
    let same : o.line ≡ line = (life_is_known (log_of w 0) line o (ap last_opening opened)).1 in
    subst (λ l. line_units (known_image i (log_of w)) l ≡ line_units (media i (log_of w)) l) same
    (units_now i w mount o (ap (life_of (log_of w 0)) same ∙ opened))

-- ---- the block to which a slot leads

-- it is the one at the line and the address
pub block_there : (i : Image) (w : World) (b : Begun) (lba line at q : ℕ) → IsLegalMount i w → begun (log_of w 0) ≡ Some b
    → (is : IsBlockOfSlot i (log_of w) lba line at q) → block_at (media i (log_of w)) line at ≡ Some is.block
block_there i w b lba line at q mount begins is =
    block_named (media i (log_of w)) line at (is.unit, is.number) mount.accepted.drive.ws_opt mount.accepted.drive.whole_stripes
    (ap (λ (us : List ℕ). slice_get (line_order i.shape us) at) (sym (online_units i w line mount ∙ same (last_take (log_of w 0) lba) is.latest)) ∙ is.place)
    ∙ ap (option_and_then (λ c. slice_get c.blocks is.number)) is.there ∙ is.written
  where
    same : (o : Option Taken) → IsOfLatest i (log_of w) lba line at q is.block o
        → line_units (known_image i (log_of w)) line ≡ line_units (media i (log_of w)) line
    same None its = found_units i w b lba line its.winning mount begins its.wins its.of_line its.as_found
    same (Some t) its = opened_units_now i w line its.opening mount its.opened

-- ---- the latest

-- What the slot names is the latest of its sector, and a copy of it becomes the latest.
pub source_is_latest : (i : Image) (w : World) (b : Begun) (lba line at q : ℕ) → IsLegalMount i w → begun (log_of w 0) ≡ Some b
    → lba < i.shape.capacity → slot_of i (log_of w) lba ≡ Media line at q → (is : IsBlockOfSlot i (log_of w) lba line at q)
    → IsLatest i (log_of w) lba (record { line = line; at = at; position = q }) is.block
source_is_latest i w b lba line at q mount begins inside slot is = record {
  place = named_is_place i w mount lba line at q inside slot;
  there = block_there i w b lba line at q mount begins is;
  bears = go (last_take (log_of w 0) lba) is.latest;
}
  where
    go : (o : Option Taken) → IsOfLatest i (log_of w) lba line at q is.block o
        → BearsIt lba (record { line = line; at = at; position = q }) is.block o
    go None its = tt
    go (Some t) its = its.mark
