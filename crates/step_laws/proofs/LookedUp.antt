-- A block that is met where a look said that a sector is, later and whatever became of its line:
-- where its mark names the sector at the position looked up, it has the sector that was there.
use Rattle.std.proofs.Common.{◌≡◌, ℕ, ◌-◌, ◌<◌, ◌≤◌, ◌==◌, nat_lt, suc, Bool, true, false, Some, None, Option, List, length, take, refl, sym, subst, ap, ap₂, ◌∙◌, arith, length-take, if◌then◌else◌}
use Rattle.std.specs.Prelude.{slice_get}
use Rattle.std.specs.List.{Contains}
use Rattle.std.proofs.lemmas.Option.{none-some, same_Some}
use Rattle.pblk_model.specs.declared.chunk.Mark.{Mark}
use Rattle.pblk_model.specs.declared.shape.Shape.{Shape}
use Rattle.pblk_model.specs.Chunk.{Block, Chunk}
use Rattle.pblk_model.specs.Contents.{contents, counted}
use Rattle.pblk_model.specs.History as histories
use Rattle.pblk_model.specs.Image.{Image}
use Rattle.pblk_model.specs.LineOrder.{line_order}
use Rattle.pblk_model.specs.Marks.{void_lba}
use Rattle.pblk_model.specs.Records.{named}
use Rattle.pblk_laws.specs.LineBlocks.{chunk_in}
use Rattle.pblk_laws.proofs.Winners.{winner_is_winner}
use Rattle.pblk_layout.specs.Online.{units_in}
use Rattle.pblk_world.specs.AtRest.{logs_at}
use Rattle.pblk_world.specs.EngineLog.{Begun, Opening, Taken, begun, block_of_taken, last_opening, life_of, takes}
use Rattle.pblk_world.specs.Fronts.{first_position, history, last_take}
use Rattle.pblk_world.specs.Legal.{IsLegal}
use Rattle.pblk_world.specs.LegalMounts.{IsLegalMount}
use Rattle.pblk_world.specs.Lines.{found_image}
use Rattle.pblk_world.specs.Victims.{engine_prefix}
use Rattle.pblk_world.specs.World.{Logs, World, log_of}
use Rattle.pblk_world.proofs.EngineLogLemmas.{begun_taken}
use Rattle.l2p_map.specs.declared.slot.Slot.TheVariants.{Media}
use Rattle.stripe_placer.proofs.Chunks.{lt_of}
use Rattle.pblk_model.proofs.Parts.{is_in}
use Rattle.world_laws.specs.EarlyLogs.{ArePrefixes}
use Rattle.world_laws.specs.SameTold.{AreSameNamed, AreSameTold}
use Rattle.world_laws.proofs.BeforeFreeing.{IsEarlier}
use Rattle.world_laws.proofs.MarkedBlocks.{as_it_was_now, of_its_entry, opened_chunk, past_found}
use Rattle.core_laws.specs.OpenedLines.{online_now}
use Rattle.core_laws.specs.SlotOf.{slot_of}
use Rattle.step_laws.specs.LookedUp.{IsLookedUp, IsMarkedBlock}
use Rattle.step_laws.specs.SlotBlocks.{IsBlockOfSlot, IsOfEntry, IsOfLatest, IsOfWinner}
use Rattle.step_laws.proofs.LatestSectors.{media_latest}
use Rattle.core_laws.proofs.ToldTables.{online_told, slot_told}
use Rattle.step_laws.proofs.SlotBlocks.{on_the_drive}
use Rattle.world_laws.proofs.EarlierLogs.{found_same, is_earlier, named_at, named_earlier, some_begun, taken_since, unopened_then, world_then}
use Rattle.world_laws.proofs.ToldSince.{same_told}

-- ---- the block of a slot, and one that is met in its place later

-- where the slot is of a winner, the block is the one that the mount found
pub found_block : (i : Image) (w : World) (b : Begun) (lba line at q : ℕ) (is : IsBlockOfSlot i (log_of w) lba line at q) → IsLegalMount i w
    → begun (log_of w 0) ≡ Some b → IsOfWinner i (log_of w) lba line at q is.block
    → (x : Chunk) × (chunk_in (found_image i (log_of w)) line is.unit ≡ Some x) × (slice_get x.blocks is.number ≡ Some is.block)
found_block i w b lba line at q is mount begins its =
    as_it_was_now i w b line is.unit is.number is.chunk is.block mount begins (ap last_opening its.as_found) is.there is.written

module _ (i : Image) (v w : World) (b : Begun) (lba line at q : ℕ) (earlier : IsEarlier i w b v) (then_ : IsLegalMount i v) (now_ : IsLegalMount i w)
    (begins : begun (log_of w 0) ≡ Some b) (is : IsBlockOfSlot i (log_of v) lba line at q) where
  same_image : found_image i (log_of w) ≡ found_image i (log_of v)
  same_image = found_same i w b v earlier begins

  module _ (block : Block) (m : IsMarkedBlock i (log_of w) lba line q is.unit is.number block) where
    -- the winner's, in a line that wasn't opened since
    as_found : last_opening (life_of (log_of w 0) line) ≡ None → IsOfWinner i (log_of v) lba line at q is.block → block ≡ is.block
    as_found never its =
        let old = found_block i v b lba line at q is then_ earlier.begins its in
        let new = as_it_was_now i w b line is.unit is.number m.chunk block now_ begins never m.there m.written in
        let same : new.0 ≡ old.0 = same_Some new.0 old.0 (sym new.1 ∙ ap (λ j. chunk_in j line is.unit) same_image ∙ old.1) in
        same_Some block is.block (sym new.2 ∙ ap (λ (c : Chunk). slice_get c.blocks is.number) same ∙ old.2)

    -- in one that was, the mark refuses
    refused : (o : Opening) → last_opening (life_of (log_of w 0) line) ≡ Some o → ¬ IsOfWinner i (log_of v) lba line at q is.block
    refused o last its =
        let r = its.winning in
        let counts : Contains (counted (found_image i (log_of w))) its.winning =
        subst (λ j. Contains (counted j) its.winning) (sym same_image) (winner_is_winner (found_image i (log_of v)) lba its.winning its.wins).there in
        let below : its.winning.position < block.mark.position =
        past_found i w o line is.unit (length (log_of w (suc is.unit))) is.number m.chunk block
        (opened_chunk i w b o line is.unit m.chunk now_ begins last m.there) m.written (Some lba) m.names its.winning counts in
        let its_own : its.winning.position ≡ q = its.of_position in
        let bears : block.mark.position ≡ q = m.bears in
        absurd (omega arith)

    -- an entry's, in a line that was opened then
    of_entry : (t : Taken) (o : Opening) → last_opening (life_of (log_of w 0) line) ≡ Some o → IsOfEntry i (log_of v) lba line q is.block t
        → block.sector ≡ is.block.sector
    of_entry t o last its =
        let there : Contains (takes (log_of w 0)) t =
        taken_since i w b v earlier t (is_in (takes (log_of v 0)) (q - first_position (log_of v 0)) t its.taken) in
        let same : block ≡ block_of_taken t =
        of_its_entry i w o line is.unit (length (log_of w (suc is.unit))) is.number m.chunk block
        (opened_chunk i w b o line is.unit m.chunk now_ begins last m.there) m.written (Some lba) m.names t there (its.of_position ∙ sym m.bears) in
        ap (λ (x : Block). x.sector) same ∙ sym its.sector

    -- it has the sector of the slot's block
    pub met : block.sector ≡ is.block.sector
    met = by (last_opening (life_of (log_of w 0) line)) refl (last_take (log_of v 0) lba) is.latest
      where
        by : (o : Option Opening) → last_opening (life_of (log_of w 0) line) ≡ o → (t : Option Taken) → IsOfLatest i (log_of v) lba line at q is.block t
            → block.sector ≡ is.block.sector
        by None never None its = ap (λ (x : Block). x.sector) (as_found never its)
        by (Some o) last None its = absurd (refused o last its)
        by None never (Some t) its =
            absurd (none-some its.opening (sym (unopened_then i w b v earlier line never) ∙ ap last_opening its.opened))
        by (Some o) last (Some t) its = of_entry t o last its

-- ---- by a look

module _ (i : Image) (w : World) (looked : Logs) (n : ℕ) (legal : IsLegal i w) (within : n ≤ length (log_of w 0))
    (same : AreSameNamed (engine_prefix n (log_of w)) looked) where
  -- the engine was told the same in the world as it was then
  told_then : (v : World) → IsLegal i v → ArePrefixes w (log_of v) → log_of v 0 ≡ take n (log_of w 0) → AreSameTold i (log_of v) looked
  told_then v was prefix own =
      let count : length (log_of v 0) ≡ n = omega (arith, ap length own, length-take n (log_of w 0)) in
      let its : AreSameNamed (engine_prefix n (log_of w)) (log_of v) =
      subst (λ m. AreSameNamed (engine_prefix m (log_of w)) (log_of v)) count (named_earlier i v w was prefix) in
      same_told i v looked was (record {
        own = same.own ∙ sym its.own;
        named = λ unit l there.
            let in_prefix : Contains (take n (log_of w 0)) l = subst (λ log. Contains log l) its.own there in
            same.named unit l in_prefix ∙ sym (its.named unit l in_prefix);
      })

-- the slot and the units that a look meets are those by the logs at that length
pub slot_looked : (i : Image) (w : World) (looked : Logs) (n lba : ℕ) → IsLegal i w → n ≤ length (log_of w 0)
    → AreSameNamed (engine_prefix n (log_of w)) looked → slot_of i looked lba ≡ slot_of i (logs_at n (log_of w)) lba
slot_looked i w looked n lba legal within same =
    let v = world_then i w n legal within in
    slot_told i (log_of v.0) looked (told_then i w looked n legal within same v.0 v.1 v.2 v.3) lba
    ∙ sym (slot_told i (log_of v.0) (logs_at n (log_of w))
    (told_then i w (logs_at n (log_of w)) n legal within (named_at i w n legal within) v.0 v.1 v.2 v.3) lba)

pub online_looked : (i : Image) (w : World) (looked : Logs) (n line : ℕ) → IsLegal i w → n ≤ length (log_of w 0)
    → AreSameNamed (engine_prefix n (log_of w)) looked → online_now i looked line ≡ online_now i (logs_at n (log_of w)) line
online_looked i w looked n line legal within same =
    let v = world_then i w n legal within in
    online_told i (log_of v.0) looked (told_then i w looked n legal within same v.0 v.1 v.2 v.3) line
    ∙ sym (online_told i (log_of v.0) (logs_at n (log_of w))
    (told_then i w (logs_at n (log_of w)) n legal within (named_at i w n legal within) v.0 v.1 v.2 v.3) line)

-- a mark names sectors of the drive alone
names_few : (s : Shape) (m : Mark) (lba : ℕ) → named s m ≡ Some (Some lba) → lba < s.capacity
names_few s m lba names = go (nat_lt m.lba s.capacity) refl names
  where
    inner : (b : Bool) → (if b then Some None else None) ≡ Some (Some lba) → ⊥
    inner true e = cc
    inner false e = cc

    go : (b : Bool) → nat_lt m.lba s.capacity ≡ b → (if b then Some (Some m.lba) else (if m.lba == void_lba then Some None else None)) ≡ Some (Some lba)
        → lba < s.capacity
    go true below e = subst (λ n. n < s.capacity) (same_Some m.lba lba (same_Some (Some m.lba) (Some lba) e)) (lt_of m.lba s.capacity below)
    go false above e = absurd (inner (m.lba == void_lba) e)

-- the sector of a block that is met later, where its mark names the sector at the position looked up
pub accepted : (i : Image) (w : World) (looked : Logs) (n lba line at q unit number : ℕ) (block : Block) → IsLegalMount i w → 0 < n
    → n ≤ length (log_of w 0) → AreSameNamed (engine_prefix n (log_of w)) looked → IsLookedUp i looked lba line at q unit number
    → IsMarkedBlock i (log_of w) lba line q unit number block
    → slice_get (histories.after (contents (found_image i (log_of w))) (history (take n (log_of w 0)))) lba ≡ Some block.sector
accepted i w looked n lba line at q unit number block mount some within same look m =
    go (world_then i w n mount.legal within) (some_begun i w mount.legal (omega arith))
  where
    go : (v : World) × IsLegal i v × ArePrefixes w (log_of v) × (log_of v 0 ≡ take n (log_of w 0)) → (b : Begun) × (begun (log_of w 0) ≡ Some b)
        → slice_get (histories.after (contents (found_image i (log_of w))) (history (take n (log_of w 0)))) lba ≡ Some block.sector
    go v b =
        let told : AreSameTold i (log_of v.0) looked = told_then i w looked n mount.legal within same v.0 v.1 v.2 v.3 in
        let inside : lba < i.shape.capacity = names_few i.shape block.mark lba m.names in
        let then_ : IsLegalMount i v.0 = record { accepted = mount.accepted; fit = mount.fit; legal = v.1 } in
        let begins : begun (log_of v.0 0) ≡ Some b.0 = ap begun v.3 ∙ begun_taken n (log_of w 0) some ∙ b.1 in
        let earlier : IsEarlier i w b.0 v.0 = is_earlier i v.0 w b.0 v.1 v.2 begins in
        let slot : slot_of i (log_of v.0) lba ≡ Media line at q = sym (slot_told i (log_of v.0) looked told lba) ∙ look.slot in
        let is : IsBlockOfSlot i (log_of v.0) lba line at q = on_the_drive i v.0 b.0 lba line at q then_ begins inside slot in
        let place : slice_get (line_order i.shape (units_in (online_now i (log_of v.0) line))) at ≡ Some (unit, number) =
        ap (λ live. slice_get (line_order i.shape (units_in live)) at) (sym (online_told i (log_of v.0) looked told line)) ∙ look.place in
        let there : (unit, number) ≡ (is.unit, is.number) = same_Some (unit, number) (is.unit, is.number) (sym place ∙ is.place) in
        let its : IsMarkedBlock i (log_of w) lba line q is.unit is.number block =
        subst (λ (p : ℕ × ℕ). IsMarkedBlock i (log_of w) lba line q p.0 p.1 block) there m in
        ap₂ (λ j log. slice_get (histories.after (contents j) (history log)) lba) (found_same i w b.0 v.0 earlier b.1) (sym v.3)
        ∙ media_latest i v.0 lba line at q then_ inside is
        ∙ ap (λ (bytes : List ℕ). Some bytes) (sym (met i v.0 w b.0 lba line at q earlier then_ mount b.1 is block its))
