-- The block of a sector whose last entry is on the drive.
use Rattle.std.proofs.Common.{◌≡◌, ℕ, ◌+◌, ◌-◌, ◌*◌, ◌/◌, ◌<◌, ◌≤◌, ◌==◌, true, Some, None, Option, List, length, refl, sym, subst, ap, ap₂, ◌∙◌, arith}
use Rattle.std.specs.Prelude.{is_some, slice_get}
use Rattle.std.specs.List.{Contains}
use Rattle.std.specs.Option.{option_and_then}
use Rattle.std.proofs.lemmas.Bool.{eqb-true}
use Rattle.std.proofs.lemmas.Option.{same_Some, none-some, slice_get_within}
use Rattle.pblk_model.specs.Shape.{units}
use Rattle.pblk_model.specs.Chunk.{Chunk, Block}
use Rattle.pblk_model.specs.LineOrder.{line_order}
use Rattle.pblk_model.specs.Marks.{sector_mark}
use Rattle.pblk_model.specs.Records.{named}
use Rattle.pblk_model.specs.Image.{Image}
use Rattle.pblk_layout.specs.Online.{units_in}
use Rattle.pblk_world.specs.World.{World, Logs, log_of, media}
use Rattle.pblk_world.specs.EngineLog.{Opening, Opened, life_of, is_life, Taken, takes, block_of_taken, Placed, placements, stripes_of, stripes_on, bears_position}
use Rattle.pblk_world.specs.Fronts.{first_position, last_take}
use Rattle.pblk_world.specs.Space.{is_readable_in}
use Rattle.pblk_laws.specs.LineBlocks.{chunk_in}
use Rattle.core_laws.specs.OpenedLines.{online_now, as_opened, opened_units}
use Rattle.pblk_world.specs.LegalMounts.{IsLegalMount}
use Rattle.core_laws.specs.Positions.{AreNumbered}
use Rattle.core_laws.specs.SlotOf.{address_in}
use Rattle.core_laws.proofs.CachedEntries.{last_is_among, numbered_at}
use Rattle.core_laws.proofs.UsersEntries.{in_order}
use Rattle.core_laws.specs.InOrder.{IsInPlace}
use Rattle.core_laws.proofs.LogOrders.{in_order as ordered}
use Rattle.core_laws.specs.StripeTurns.{IsAtTurn}
use Rattle.core_laws.proofs.StripeBlocks.{have_blocks}
use Rattle.core_laws.proofs.KeptLines.{keeps_units}
use Rattle.core_laws.proofs.LatestLines.{latest_stands}
use Rattle.core_laws.proofs.OpenedTurns.{bits_are_units, turn_of}
use Rattle.core_laws.proofs.PlacedAnew.{landed_not_lost}
use Rattle.world_laws.proofs.Stripes.{life_of_stripe}
use Rattle.step_laws.proofs.Given.{given}
use Rattle.step_laws.specs.SlotBlocks.{IsOfEntry, IsOfLatest, IsBlockOfSlot}
use Rattle.step_laws.proofs.Borne.{IsOfOne, IsEntrys, placed_entries}
use Rattle.core_laws.proofs.LineAddresses.{number_is, address_within, place_is}
use Rattle.step_laws.proofs.LiveUnits.{online_units}
use Rattle.core_laws.proofs.ReadBlocks.{IsReadIn, IsEntryOnDrive}
use Rattle.pblk_model.proofs.Lists.{IsAmong}
use Rattle.pblk_model.proofs.Maps.{any_member, in_filter}
use Rattle.pblk_model.proofs.Parts.{all_at, contained_among}
use Rattle.pblk_model.proofs.Tests.{both, same_number}
use Rattle.pblk_model.proofs.MarksLemmas.{accepted_small}
use Rattle.pblk_world.proofs.WorldLemmas.{length_media}

-- ---- entries by their positions

-- where an entry stands among what was taken
pub taken_at : (i : Image) (w : World) (t : Taken) → IsLegalMount i w → IsAmong (takes (log_of w 0)) t
    → (first_position (log_of w 0) ≤ t.entry.position) × (slice_get (takes (log_of w 0)) (t.entry.position - first_position (log_of w 0)) ≡ Some t)
taken_at i w t mount among =
    let numbered : AreNumbered (log_of w 0) = (in_order i w (accepted_small i.shape mount.accepted) mount.legal).numbered in
    let at : t.entry.position ≡ first_position (log_of w 0) + among.0 =
    numbered_at (first_position (log_of w 0)) (length (takes (log_of w 0))) (takes (log_of w 0)) among.0 t numbered among.1 in
    let index : t.entry.position - first_position (log_of w 0) ≡ among.0 = omega arith in
    (omega arith, ap (slice_get (takes (log_of w 0))) index ∙ among.1)

pub its_mark : (i : Image) (w : World) (t : Taken) → IsLegalMount i w → IsAmong (takes (log_of w 0)) t → t.mark.position ≡ t.entry.position
its_mark i w t mount among = all_at (λ (t : Taken). t.mark.position ≡ t.entry.position) (takes (log_of w 0)) among.0 t among.1
    (in_order i w (accepted_small i.shape mount.accepted) mount.legal).marked

-- a block of a stripe that bears the position of an entry is that entry's
pub its_block : (i : Image) (w : World) (t : Taken) (p : Placed) (r : ℕ) (b : Block) → IsLegalMount i w → IsAmong (takes (log_of w 0)) t
    → IsAmong (placements (log_of w 0)) p → slice_get p.stripe.blocks r ≡ Some b
    → bears_position i.shape t.entry.position b ≡ true → b ≡ block_of_taken t
its_block i w t p r b mount among placed there bears =
    let one : IsOfOne (takes (log_of w 0)) b = all_at (IsEntrys i.shape (takes (log_of w 0))) p.stripe.blocks r b there
    (all_at (λ (p : Placed). _) (placements (log_of w 0)) placed.0 p placed.1 (placed_entries i w (accepted_small i.shape mount.accepted) mount.legal))
    t.entry.position bears in
    let position : b.mark.position ≡ t.entry.position =
    eqb-true b.mark.position t.entry.position (both (is_some (named i.shape b.mark)) (b.mark.position == t.entry.position) bears).1 in
    let marked : b.mark.position ≡ one.entry.mark.position = ap (λ (x : Block). x.mark.position) one.its in
    let own : one.entry.mark.position ≡ one.entry.entry.position = its_mark i w one.entry mount one.among in
    let same_position : one.entry.entry.position ≡ t.entry.position = omega arith in
    let same : one.entry ≡ t = same_Some one.entry t
    (sym (taken_at i w one.entry mount one.among).1 ∙ ap (λ n. slice_get (takes (log_of w 0)) (n - first_position (log_of w 0))) same_position
    ∙ (taken_at i w t mount among).1) in
    one.its ∙ ap block_of_taken same

-- ---- its unit

pub unit_within : (j : Image) (line unit : ℕ) (c : Chunk) → chunk_in j line unit ≡ Some c → unit < length j.units
unit_within j line unit c there = by (slice_get j.units unit) refl there
  where
    by : (o : Option (List Chunk)) → slice_get j.units unit ≡ o → option_and_then (λ (chunks : List Chunk). slice_get chunks line) o ≡ Some c
        → unit < length j.units
    by None e f = absurd (none-some c f)
    by (Some chunks) e f = slice_get_within j.units unit chunks e

-- ---- its address

-- the block of this number in a stripe stands at this address of the line
pub record IsAddressed (i : Image) (logs : Logs) (p : Placed) (number at : ℕ) : Type 0 where
  pub place : slice_get (line_order i.shape (units_in (online_now i logs p.stripe.line))) at ≡ Some (p.stripe.unit, p.stripe.at + number)
  pub within : at < length (units_in (online_now i logs p.stripe.line)) * i.shape.clba

-- its line is opened still
pub record IsOpenIn (i : Image) (logs : Logs) (p : Placed) : Type 0 where
  pub opening : Opening
  pub life : p.life ≡ Opened opening
  pub opened : life_of (logs 0) p.stripe.line ≡ Opened opening

pub still_open : (i : Image) (w : World) (lba : ℕ) (t : Taken) (p : Placed) → IsLegalMount i w → lba < i.shape.capacity → last_take (log_of w 0) lba ≡ Some t
    → IsReadIn i (log_of w) t.entry.position p → IsOpenIn i (log_of w) p
still_open i w lba t p mount inside last read =
    let there : Contains (placements (log_of w 0)) p = contained_among (placements (log_of w 0)) p read.among in
    let life = life_of_stripe i w p mount.legal there in
    record {
      opening = life.0;
      life = life.1;
      opened = latest_stands i w mount lba t p inside last there
          (any_member (bears_position i.shape t.entry.position) p.stripe.blocks read.number read.block read.there read.bears)
          (landed_not_lost (log_of w 0) p read.landed) ∙ life.1;
    }

pub entry_address : (i : Image) (w : World) (line at q : ℕ) (t : Taken) → IsLegalMount i w → (is : IsEntryOnDrive i (log_of w) t line at q)
    → IsOpenIn i (log_of w) is.stripe → IsAddressed i (log_of w) is.stripe is.read.number at
entry_address i w line at q t mount is open_in =
    let p : Placed = is.stripe in
    let read : IsReadIn i (log_of w) t.entry.position is.stripe = is.read in
    let o : Opening = open_in.opening in
    let opened : life_of (log_of w 0) p.stripe.line ≡ Opened o = open_in.opened in
    let among : IsAmong (stripes_of (log_of w 0) o) p =
    in_filter (λ (x : Placed). is_life o.number x.life) (placements (log_of w 0)) p read.among (ap (is_life o.number) open_in.life ∙ same_number o.number) in
    let turn_is = turn_of i w p.stripe.line o mount opened p among in
    let n : ℕ = turn_is.0 in
    let turn : IsAtTurn i.shape (opened_units i (log_of w) o) p.stripe.line n p = turn_is.1 in
    let count : length p.stripe.blocks ≡ i.shape.ws_opt =
    all_at (λ (x : Placed). length x.stripe.blocks ≡ i.shape.ws_opt) (placements (log_of w 0)) read.among.0 p read.among.1
    (have_blocks i w mount.accepted mount.legal).blocks in
    let short : read.number < length p.stripe.blocks = slice_get_within p.stripe.blocks read.number read.block read.there in
    let inside : read.number < i.shape.ws_opt = omega arith in
    let some : 0 < i.shape.ws_opt = mount.accepted.drive.ws_opt in
    let whole = mount.accepted.drive.whole_stripes in
    let live : units_in (as_opened i (log_of w) o).online ≡ opened_units i (log_of w) o = bits_are_units i w o mount in
    let below : n < i.shape.clba / i.shape.ws_opt * length (opened_units i (log_of w) o) = turn_is.2 in
    let number = number_is i (log_of w) o (opened_units i (log_of w) o) p.stripe.line n p some whole live turn read.number inside below in
    let left : p.stripe.at + read.number - p.stripe.at ≡ read.number = omega arith in
    let address : at ≡ n * i.shape.ws_opt + read.number =
    sym is.address ∙ ap (λ l. address_in i (log_of w) l p (p.stripe.at + read.number)) open_in.life ∙ ap₂ (λ m n. m * i.shape.ws_opt + n) number left in
    let now : units_in (online_now i (log_of w) p.stripe.line) ≡ opened_units i (log_of w) o = online_units i w p.stripe.line mount
    ∙ keeps_units i w p.stripe.line o mount opened in
    record {
      place = ap₂ (λ (xs : List ℕ) n. slice_get (line_order i.shape xs) n) now address
          ∙ place_is i (log_of w) o (opened_units i (log_of w) o) p.stripe.line n p some whole live turn read.number inside below;
      within = subst (λ (xs : List ℕ). at < length xs * i.shape.clba) (sym now)
          (subst (λ n. n < length (opened_units i (log_of w) o) * i.shape.clba) (sym address)
          (address_within i (log_of w) o (opened_units i (log_of w) o) p.stripe.line n p some whole live turn read.number inside below));
    }

-- ---- the block

pub block_of_entry : (i : Image) (w : World) (lba line at q : ℕ) (t : Taken) → IsLegalMount i w → lba < i.shape.capacity → last_take (log_of w 0) lba ≡ Some t
    → IsEntryOnDrive i (log_of w) t line at q → IsBlockOfSlot i (log_of w) lba line at q
block_of_entry i w lba line at q t mount small last is =
    let p : Placed = is.stripe in
    let read : IsReadIn i (log_of w) t.entry.position is.stripe = is.read in
    let last_one = last_is_among (log_of w 0) lba t last in
    let place : IsInPlace i (log_of w 0) is.stripe =
    all_at (IsInPlace i (log_of w 0)) (placements (log_of w 0)) read.among.0 is.stripe read.among.1 (ordered i w mount).placed in
    let open_in : IsOpenIn i (log_of w) is.stripe = still_open i w lba t is.stripe mount small last read in
    let o : Opening = open_in.opening in
    let opened : life_of (log_of w 0) p.stripe.line ≡ Opened o = open_in.opened in
    let among : IsAmong (stripes_of (log_of w 0) o) p =
    in_filter (λ (x : Placed). is_life o.number x.life) (placements (log_of w 0)) p read.among (ap (is_life o.number) open_in.life ∙ same_number o.number) in
    let on : IsAmong (stripes_on (log_of w 0) o p.stripe.unit) p =
    in_filter (λ (x : Placed). x.stripe.unit == p.stripe.unit) (stripes_of (log_of w 0) o) p among (same_number p.stripe.unit) in
    let count : length p.stripe.blocks ≡ i.shape.ws_opt =
    all_at (λ (x : Placed). length x.stripe.blocks ≡ i.shape.ws_opt) (placements (log_of w 0)) read.among.0 p read.among.1
    (have_blocks i w mount.accepted mount.legal).blocks in
    let short : read.number < length p.stripe.blocks = slice_get_within p.stripe.blocks read.number read.block read.there in
    let inside : read.number < i.shape.ws_opt = omega arith in
    let stands = given i w p.stripe.line p.stripe.unit on.0 read.number o p read.block mount opened on.1 inside read.there read.landed
    (subst (λ l. is_readable_in i.shape (log_of w 0) p.stripe.unit (p.stripe.at + read.number) l ≡ true) open_in.life read.readable) in
    let unit : p.stripe.unit < length (media i (log_of w)).units = unit_within (media i (log_of w)) p.stripe.line p.stripe.unit stands.0 stands.1 in
    let drive : p.stripe.unit < units i.shape = subst (λ n. p.stripe.unit < n) (length_media i (log_of w) ∙ mount.fit.units) unit in
    let addressed : IsAddressed i (log_of w) is.stripe is.read.number at = entry_address i w line at q t mount is open_in in
    let block : read.block ≡ block_of_taken t = its_block i w t p read.number read.block mount last_one.0 read.among read.there read.bears in
    let mark : t.mark ≡ sector_mark lba t.entry.position = ap₂ sector_mark last_one.1 (its_mark i w t mount last_one.0) in
    let its : IsOfEntry i (log_of w) lba p.stripe.line t.entry.position read.block t = record {
      of_position = refl;
      from_first = (taken_at i w t mount last_one.0).0;
      taken = (taken_at i w t mount last_one.0).1;
      opening = o;
      opened = opened;
      sector = ap (λ (x : Block). x.sector) block;
      mark = ap (λ (x : Block). x.mark) block ∙ mark;
    } in
    let found : IsBlockOfSlot i (log_of w) lba p.stripe.line at t.entry.position = record {
      in_range = place.in_range;
      within = addressed.within;
      unit = p.stripe.unit;
      number = p.stripe.at + read.number;
      place = addressed.place;
      of_drive = drive;
      chunk = stands.0;
      there = stands.1;
      readable = stands.2.1;
      block = read.block;
      written = stands.2.2;
      latest = subst (λ (o : Option Taken). IsOfLatest i (log_of w) lba p.stripe.line at t.entry.position read.block o) (sym last) its;
    } in
    subst (λ n. IsBlockOfSlot i (log_of w) lba line at n) is.of_position (subst (λ l. IsBlockOfSlot i (log_of w) lba l at t.entry.position) is.of_line found)
