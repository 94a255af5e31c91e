-- The block of a slot that names the same place and position at a later time is the same block.
use Rattle.std.proofs.Common.{◌≡◌, ℕ, ◌<◌, ◌==◌, false, Some, None, Option, List, sym, subst, ap, ap₂, ◌∙◌, arith}
use Rattle.std.specs.Prelude.{is_some, slice_get}
use Rattle.std.specs.List.{Contains, list_any}
use Rattle.std.proofs.lemmas.Option.{none-some, same_Some}
use Rattle.pblk_model.specs.declared.chunk.Mark.{Mark}
use Rattle.pblk_model.specs.Chunk.{Block, Chunk}
use Rattle.pblk_model.specs.Contents.{counted}
use Rattle.pblk_model.specs.Image.{Image, line_units}
use Rattle.pblk_model.specs.LineOrder.{line_order}
use Rattle.pblk_model.specs.StartRecord.{StartRecord, start_of}
use Rattle.pblk_laws.specs.LineBlocks.{chunk_in}
use Rattle.pblk_laws.proofs.Winners.{winner_is_winner}
use Rattle.pblk_layout.specs.Online.{units_in}
use Rattle.pblk_world.specs.EngineLog.{Begun, Taken, begun, last_opening, takes}
use Rattle.pblk_world.specs.Fronts.{first_position, last_take}
use Rattle.pblk_world.specs.LegalMounts.{IsLegalMount}
use Rattle.pblk_world.specs.Lines.{found_image}
use Rattle.pblk_world.specs.Taking.{IsLatest}
use Rattle.pblk_world.specs.World.{World, log_of}
use Rattle.l2p_map.specs.declared.slot.Slot.TheVariants.{Media}
use Rattle.pblk_model.proofs.Parts.{is_in}
use Rattle.world_laws.specs.EarlyLogs.{ArePrefixes}
use Rattle.world_laws.proofs.BeforeFreeing.{IsEarlier}
use Rattle.world_laws.proofs.EarlierLogs.{begun_now, found_same, is_earlier, taken_since, unopened_then}
use Rattle.world_laws.proofs.MarkedBlocks.{below_first, one_entry}
use Rattle.core_laws.specs.OpenedLines.{online_now}
use Rattle.core_laws.specs.SlotOf.{slot_of}
use Rattle.step_laws.specs.SlotBlocks.{IsBlockOfSlot, IsOfEntry, IsOfLatest, IsOfWinner}
use Rattle.step_laws.proofs.CopiedBlocks.{source_is_latest}
use Rattle.step_laws.proofs.FoundLines.{no_stray, units_kept}
use Rattle.step_laws.proofs.FoundRecords.{IsFoundRecord, winner_found}
use Rattle.step_laws.proofs.LiveUnits.{online_units}
use Rattle.step_laws.proofs.LookedUp.{found_block}
use Rattle.step_laws.proofs.SlotBlocks.{on_the_drive}

-- ---- the place of a winner's block

-- its line has the units that it was found with
found_place : (i : Image) (w : World) (b : Begun) (lba line at q : ℕ) (block : Block) (place : ℕ × ℕ) → IsLegalMount i w → begun (log_of w 0) ≡ Some b
    → IsOfWinner i (log_of w) lba line at q block → slice_get (line_order i.shape (units_in (online_now i (log_of w) line))) at ≡ Some place
    → slice_get (line_order i.shape (line_units (found_image i (log_of w)) line)) at ≡ Some place
found_place i w b lba line at q block place mount begins its there =
    let is : IsFoundRecord (found_image i (log_of w)) its.winning = winner_found (found_image i (log_of w)) lba its.winning its.wins in
    let none : list_any (λ stray. stray == line) b.beginning.strays ≡ false =
    no_stray i w b line mount.legal begins
    (ap (λ l. is_some (start_of (found_image i (log_of w)) l)) (sym its.of_line) ∙ ap (λ (o : Option StartRecord). is_some o) is.starts) in
    ap (λ (us : List ℕ). slice_get (line_order i.shape us) at)
    (sym (online_units i w line mount ∙ units_kept i w mount.legal b begins line its.as_found none))
    ∙ there

-- ---- the block

module _ (i : Image) (v w : World) (b : Begun) (lba line at q : ℕ) (earlier : IsEarlier i w b v) (then_ : IsLegalMount i v) (now_ : IsLegalMount i w)
    (begins : begun (log_of w 0) ≡ Some b) (is : IsBlockOfSlot i (log_of v) lba line at q) (later : IsBlockOfSlot i (log_of w) lba line at q) where
  same_image : found_image i (log_of w) ≡ found_image i (log_of v)
  same_image = found_same i w b v earlier begins

  -- two winners are one, and stand where they were found
  both_found : IsOfWinner i (log_of v) lba line at q is.block → IsOfWinner i (log_of w) lba line at q later.block → later.block ≡ is.block
  both_found old new =
      let a = found_block i v b lba line at q is then_ earlier.begins old in
      let z = found_block i w b lba line at q later now_ begins new in
      let there : (later.unit, later.number) ≡ (is.unit, is.number) =
      same_Some (later.unit, later.number) (is.unit, is.number)
      (sym (found_place i w b lba line at q later.block (later.unit, later.number) now_ begins new later.place)
      ∙ ap (λ j. slice_get (line_order i.shape (line_units j line)) at) same_image
      ∙ found_place i v b lba line at q is.block (is.unit, is.number) then_ earlier.begins old is.place) in
      let same : z.0 ≡ a.0 =
      same_Some z.0 a.0 (sym z.1 ∙ ap₂ (λ j (p : ℕ × ℕ). chunk_in j line p.0) same_image there ∙ a.1) in
      same_Some later.block is.block (sym z.2 ∙ ap₂ (λ (c : Chunk) (p : ℕ × ℕ). slice_get c.blocks p.1) same there ∙ a.2)

  -- two entries of one position are one
  both_taken : (t u : Taken) → IsOfEntry i (log_of v) lba line q is.block t → IsOfEntry i (log_of w) lba line q later.block u → later.block ≡ is.block
  both_taken t u old new =
      let had : Contains (takes (log_of v 0)) t = is_in (takes (log_of v 0)) _ t old.taken in
      let has : Contains (takes (log_of w 0)) u = is_in (takes (log_of w 0)) _ u new.taken in
      let same : t ≡ u = one_entry i w t u now_.legal (taken_since i w b v earlier t had) has (old.of_position ∙ sym new.of_position) in
      let sector : later.block.sector ≡ is.block.sector = new.sector ∙ ap (λ (x : Taken). x.entry.sector) (sym same) ∙ sym old.sector in
      let mark : later.block.mark ≡ is.block.mark = new.mark ∙ sym old.mark in
      ap₂ (λ (bytes : List ℕ) (mark : Mark). record { sector = bytes; mark = mark }) sector mark

  -- a winner's position is below each entry's
  found_or_taken : (u : Taken) → IsOfWinner i (log_of v) lba line at q is.block → ¬ IsOfEntry i (log_of w) lba line q later.block u
  found_or_taken u old new =
      let counts : Contains (counted (found_image i (log_of w))) old.winning =
      subst (λ j. Contains (counted j) old.winning) (sym same_image) (winner_is_winner (found_image i (log_of v)) lba old.winning old.wins).there in
      let below : old.winning.position < first_position (log_of w 0) = below_first i w b old.winning now_.legal begins counts in
      let its : old.winning.position ≡ q = old.of_position in
      let from = new.from_first in
      absurd (omega arith)

  -- and a line that was opened then isn't as it was found
  taken_or_found : (t : Taken) → IsOfEntry i (log_of v) lba line q is.block t → ¬ IsOfWinner i (log_of w) lba line at q later.block
  taken_or_found t old new =
      absurd (none-some old.opening (sym (unopened_then i w b v earlier line (ap last_opening new.as_found)) ∙ ap last_opening old.opened))

  pub same_block : later.block ≡ is.block
  same_block = go (last_take (log_of v 0) lba) is.latest (last_take (log_of w 0) lba) later.latest
    where
      go : (t : Option Taken) → IsOfLatest i (log_of v) lba line at q is.block t → (u : Option Taken) → IsOfLatest i (log_of w) lba line at q later.block u
          → later.block ≡ is.block
      go None old None new = both_found old new
      go (Some t) old (Some u) new = both_taken t u old new
      go None old (Some u) new = absurd (found_or_taken u old new)
      go (Some t) old None new = absurd (taken_or_found t old new)

-- ---- by two worlds

pub block_kept : (i : Image) (v w : World) (b : Begun) (lba line at q : ℕ) → IsLegalMount i v → IsLegalMount i w → ArePrefixes w (log_of v)
    → begun (log_of v 0) ≡ Some b → (is : IsBlockOfSlot i (log_of v) lba line at q) (later : IsBlockOfSlot i (log_of w) lba line at q)
    → later.block ≡ is.block
block_kept i v w b lba line at q then_ now_ prefix begins is later =
    same_block i v w b lba line at q (is_earlier i v w b then_.legal prefix begins) then_ now_ (begun_now i v w b prefix begins) is later

pub source_kept : (i : Image) (v w : World) (b : Begun) (lba line at q : ℕ) → IsLegalMount i v → IsLegalMount i w → ArePrefixes w (log_of v)
    → begun (log_of v 0) ≡ Some b → lba < i.shape.capacity → (is : IsBlockOfSlot i (log_of v) lba line at q) → slot_of i (log_of w) lba ≡ Media line at q
    → IsLatest i (log_of w) lba (record { line = line; at = at; position = q }) is.block
source_kept i v w b lba line at q then_ now_ prefix begins inside is slot =
    let started : begun (log_of w 0) ≡ Some b = begun_now i v w b prefix begins in
    let later : IsBlockOfSlot i (log_of w) lba line at q = on_the_drive i w b lba line at q now_ started inside slot in
    subst (IsLatest i (log_of w) lba (record { line = line; at = at; position = q }))
    (block_kept i v w b lba line at q then_ now_ prefix begins is later) (source_is_latest i w b lba line at q now_ started inside slot later)
