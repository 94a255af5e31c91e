-- A copy that gets the mark of its sector holds what the sector held: its source is the block of
-- the sector's latest entry, or that of its winner in the image that the mount found.
use Rattle.std.proofs.Common.{◌≡◌, inl, inr, ℕ, ◌+◌, ◌-◌, ◌^◌, ◌<◌, ◌≤◌, ◌==◌, not, suc, Bool, true, false, Some, None, Option, List, length, take, refl, sym, subst, ap, ◌∙◌, arith}
use Rattle.std.specs.Prelude.{slice_get, slice_index}
use Rattle.std.specs.List.{Contains, filter, list_any, range_with_len}
use Rattle.std.specs.Option.{is_some}
use Rattle.std.proofs.lemmas.Option.{none-some, same_Some}
use Rattle.pblk_model.specs.declared.chunk.Mark.{Mark}
use Rattle.pblk_model.specs.Chunk.{Block, Chunk}
use Rattle.pblk_model.specs.Contents.{contents, counted, winner}
use Rattle.pblk_model.specs.Image.{Image, block_at, line_units, width}
use Rattle.pblk_model.specs.LineOrder.{block_of, column_of}
use Rattle.pblk_model.specs.Marks.{sector_mark}
use Rattle.pblk_model.specs.Records.{Record, named}
use Rattle.pblk_model.specs.StartRecord.{start_of}
use Rattle.pblk_model.proofs.ContentsLemmas.{contents_count}
use Rattle.pblk_laws.specs.LineBlocks.{chunk_in, written_at}
use Rattle.pblk_laws.proofs.MarkNames.{named_sector}
use Rattle.pblk_laws.proofs.Winners.{winner_is_winner}
use Rattle.pblk_world.specs.Events.{Source, Entry, Take, Decides, Logged}
use Rattle.pblk_world.specs.World.{World, Logs, log_of, cut_logs, prefixes, media}
use Rattle.pblk_world.specs.EngineLog.{Begun, begun, Opening, AsFound, Opened, life_of, Placed, placements, Taken, takes}
use Rattle.pblk_world.specs.Fronts.{last_take}
use Rattle.pblk_world.specs.Lines.{are_empty, found_by, found_image, is_stray, stray_lines}
use Rattle.pblk_world.specs.Taking.{BearsIt, IsPlaceOf, IsPlaceOfWinner, IsPlaceOfLatest, Copies, IsMarked, MayTake}
use Rattle.pblk_world.proofs.EngineLogLemmas.{begun_knows}
use Rattle.pblk_world.proofs.LegalLemmas.{whole_own}
use Rattle.pblk_world.proofs.WorldLemmas.{length_media}
use Rattle.world_laws.proofs.ImageLines.{line_block, same_block}
use Rattle.pblk_world.specs.LegalMounts.{IsLegalMount}
use Rattle.world_laws.proofs.Entries.{IsEntryOrNone, entries_of_stripe, marks_bear}
use Rattle.world_laws.proofs.HeldSectors.{AreFollowing, FollowsBy, held, held_by}
use Rattle.world_laws.proofs.Latest.{one_entry}
use Rattle.world_laws.proofs.Made.{IsMade, step_by, made, own_then}
use Rattle.world_laws.proofs.Openings.{allowed_by}
use Rattle.world_laws.proofs.Stripes.{life_of_stripe}
use Rattle.world_laws.proofs.TakenEvents.{IsTakenAt, taken_at}
use Rattle.world_laws.proofs.ToldImages.{found_at}
use Rattle.world_laws.proofs.ToldSince.{told_up_to, told_when_made}
use Rattle.world_laws.proofs.WinnerBlocks.{HasBlock, counted_block, winner_holds}
use Rattle.world_laws.proofs.WinnerLines.{counted_has_start}
use Rattle.pblk_model.proofs.Lists.{IsAmong, all_imply, among_all, last_in}
use Rattle.pblk_model.proofs.Maps.{all_filter, all_passed, any_fail, from_filter}
use Rattle.pblk_model.proofs.Options.{split_then}
use Rattle.pblk_model.proofs.Parts.{all_at, contained_among, is_in, take-all}
use Rattle.pblk_model.proofs.Tests.{first_of, no_both, not_true, same}
use Rattle.world_laws.specs.LifeBlocks.{IsBlockOfLife}
use Rattle.world_laws.specs.UnitChunks.{chunk_after}
use Rattle.world_laws.proofs.FirstEvent.{IsBeginning, beginning_of}
use Rattle.world_laws.proofs.KeptChunks.{found_stays}
use Rattle.world_laws.proofs.LifeBlocks.{blocks_of_life}
use Rattle.world_laws.proofs.NextLives.{IsOpenSince, open_since}
use Rattle.world_laws.proofs.UnitChunks.{named_chunk}

-- ---- the chunk that has a block of a line

record IsInChunk (j : Image) (line : ℕ) (block : Block) : Type 0 where
  unit : ℕ
  chunk : Chunk
  at : ℕ
  there : chunk_in j line unit ≡ Some chunk
  holds : slice_get chunk.blocks at ≡ Some block

in_chunk : (j : Image) (line a : ℕ) (block : Block) → block_at j line a ≡ Some block → IsInChunk j line block
in_chunk j line a block is =
    let n : ℕ = block_of j.shape (width j line) a in
    let unit = split_then (λ u. written_at j line (u, n)) (slice_get (line_units j line) (column_of j.shape (width j line) a)) block
    (sym (line_block j line a) ∙ is) in
    let chunk = split_then (λ (c : Chunk). slice_get c.blocks n) (chunk_in j line unit.0) block unit.2 in
    record { unit = unit.0; chunk = chunk.0; at = n; there = chunk.1; holds = chunk.2 }

-- ---- a copy at its event

module _ (i : Image) (w : World) (n : ℕ) (l : Logged) (entry : Entry) (mark : Mark) (mount : IsLegalMount i w) (there : slice_get (log_of w 0) n ≡ Some l)
    (is : l.event ≡ Decides (Take entry mark)) where
  made_then : IsMade i w 0 n l
  made_then = made i w 0 n l mount.legal there

  -- the world then, and what the engine knew of its logs
  abbrev then_ : World
  then_ = made_then.before

  abbrev logs : Logs
  logs = prefixes l (log_of then_)

  may_take : (g : Begun) × (begun (logs 0) ≡ Some g) × MayTake i logs entry mark
  may_take = allowed_by i w n l (Decides (Take entry mark)) made_then is

  own : logs 0 ≡ log_of then_ 0
  own = whole_own i (step_by 0 l) then_ made_then.step

  begins : begun (log_of then_ 0) ≡ Some may_take.0
  begins = ap begun (sym own) ∙ may_take.1

  -- what an earlier event knew of a unit's log, the copy knew too
  knew_more : (m : Logged) (unit : ℕ) → Contains (log_of then_ 0) m → slice_index m.knows (suc unit) ≤ slice_index l.knows (suc unit)
  knew_more m unit earlier = made_then.step.knowledge.rising m (suc unit) earlier

  within : (unit : ℕ) → slice_index l.knows (suc unit) ≤ length (log_of then_ (suc unit))
  within unit = made_then.step.knowledge.within (suc unit)

  -- ---- its source is a block of this mount

  module _ (source : Source) (block : Block) (lba : ℕ) (low : lba < i.shape.capacity) (at : block_at (media i logs) source.line source.at ≡ Some block)
      (bears : block.mark ≡ sector_mark lba source.position) where
    -- the entry of a block of the mount that has its mark and its position
    same_sector : (t : Taken) (p : Placed) (index : ℕ) → IsAmong (takes (log_of then_ 0)) t → source.position ≡ t.entry.position
        → Contains (placements (log_of then_ 0)) p → slice_get p.stripe.blocks index ≡ Some block → block.sector ≡ t.entry.sector
    same_sector t p index among position placed got =
        go (all_at (IsEntryOrNone i.shape (log_of then_ 0)) p.stripe.blocks index block got
        (entries_of_stripe i then_ p mount.accepted made_then.legal placed))
      where
        go : IsEntryOrNone i.shape (log_of then_ 0) block → block.sector ≡ t.entry.sector
        go (inl none) = absurd (none-some (Some lba) (sym none ∙ ap (λ m. named i.shape m) bears ∙ named_sector i.shape (sector_mark lba source.position) low))
        go (inr e) =
            let its : e.0.mark.position ≡ e.0.entry.position =
            all_at (λ (x : Taken). x.mark.position ≡ x.entry.position) (takes (log_of then_ 0)) e.1.0 e.0 e.1.1 (marks_bear i then_ made_then.legal) in
            let placed_at : e.0.mark.position ≡ source.position = ap (λ (x : Block). x.mark.position) e.2 ∙ ap (λ (m : Mark). m.position) bears in
            let one : e.0 ≡ t = one_entry i then_ e.0 t made_then.legal e.1 among (sym its ∙ placed_at ∙ position) in
            ap (λ (x : Block). x.sector) (sym e.2) ∙ ap (λ (x : Taken). x.entry.sector) one

    of_mount : (t : Taken) → IsAmong (takes (log_of then_ 0)) t → IsPlaceOf i logs t source → block.sector ≡ t.entry.sector
    of_mount t among place =
        let life = life_of_stripe i then_ place.placed made_then.legal
        (subst (λ (log : List Logged). Contains (placements log) place.placed) own place.is_placed) in
        let open_now : life_of (log_of then_ 0) source.line ≡ Opened life.0 =
        ap (λ (log : List Logged). life_of log source.line) (sym own) ∙ place.not_freed ∙ life.1 in
        go life.0 open_now (in_chunk (media i logs) source.line source.at block at)
      where
        go : (o : Opening) → life_of (log_of then_ 0) source.line ≡ Opened o → IsInChunk (media i logs) source.line block → block.sector ≡ t.entry.sector
        go o open_now inside =
            let since : IsOpenSince i then_ made_then.legal source.line (length (log_of then_ 0)) o =
            open_since i then_ made_then.legal (length (log_of then_ 0)) source.line o (omega arith)
            (ap (λ (log : List Logged). life_of log source.line) (take-all (log_of then_ 0)) ∙ open_now) in
            let from : slice_index o.knows (suc inside.unit) ≤ slice_index l.knows (suc inside.unit) =
            subst (λ (ks : List ℕ). slice_index ks (suc inside.unit) ≤ slice_index l.knows (suc inside.unit)) since.knows
            (knew_more since.logged inside.unit (is_in (log_of then_ 0) o.number since.logged since.there)) in
            let chunk : chunk_after i (log_of then_) source.line inside.unit (slice_index l.knows (suc inside.unit)) ≡ Some inside.chunk =
            sym (named_chunk i (log_of then_) l source.line inside.unit (slice_index l.knows (suc inside.unit)) refl) ∙ inside.there in
            let its : IsBlockOfLife (log_of then_) o source.line inside.unit (slice_index l.knows (suc inside.unit)) inside.at block =
            blocks_of_life i then_ mount.accepted mount.fit made_then.legal may_take.0 begins inside.unit source.line o open_now
            (slice_index l.knows (suc inside.unit)) inside.at inside.chunk block from (within inside.unit) chunk inside.holds in
            let placed : Contains (placements (log_of then_ 0)) its.placed =
            contained_among (placements (log_of then_ 0)) its.placed
            (from_filter (λ (p : Placed). p.stripe.unit == inside.unit) (placements (log_of then_ 0)) its.placed (_, its.its_stripe)) in
            same_sector t its.placed its.index among place.position placed its.is_block

  -- ---- its source is a block of the image that the mount found

  first : IsBeginning i then_ may_take.0
  first = beginning_of i then_ may_take.0 made_then.legal begins

  abbrev found : Image
  found = media i (prefixes first.logged (log_of then_))

  found_is : found_image i (log_of then_) ≡ found
  found_is = ap (found_by i (log_of then_)) begins ∙ ap (λ (ks : List ℕ). media i (cut_logs ks (log_of then_))) (sym first.knows)

  -- a line with a start record is no stray
  no_stray : (line : ℕ) → is_some (start_of found line) ≡ true → list_any (λ stray. stray == line) may_take.0.beginning.strays ≡ false
  no_stray line has =
      ap (list_any (λ stray. stray == line)) first.may.strays ∙ any_fail (λ stray. stray == line) (stray_lines found)
      (all_imply (λ x. is_stray found x ≡ true) (λ x. (x == line) ≡ false) (λ x stray. other x stray (x == line) refl) (stray_lines found)
      (all_passed (is_stray found) (range_with_len 0 found.shape.chunks)))
    where
      other : (x : ℕ) → is_stray found x ≡ true → (b : Bool) → (x == line) ≡ b → b ≡ false
      other x stray false e = refl
      other x stray true e =
          let none : is_some (start_of found x) ≡ false =
          not_true (is_some (start_of found x)) (first_of (not (is_some (start_of found x))) (not (are_empty found x)) stray) in
          no_both (is_some (start_of found line)) has (ap (λ n. is_some (start_of found n)) (sym (same x line e)) ∙ none)

  -- such a line stands as it was found
  stands : (line unit : ℕ) → life_of (log_of then_ 0) line ≡ AsFound → is_some (start_of found line) ≡ true
      → chunk_in (media i logs) line unit ≡ chunk_in found line unit
  stands line unit life has =
      let low : slice_index may_take.0.knows (suc unit) ≤ slice_index l.knows (suc unit) =
      subst (λ (ks : List ℕ). slice_index ks (suc unit) ≤ slice_index l.knows (suc unit)) first.knows
      (knew_more first.logged unit (is_in (log_of then_ 0) 0 first.logged first.there)) in
      let inside : slice_index l.knows (suc unit) ≤ length (log_of then_ (suc unit)) = within unit in
      let far : slice_index may_take.0.knows (suc unit) + (slice_index l.knows (suc unit) - slice_index may_take.0.knows (suc unit))
      ≡ slice_index l.knows (suc unit) = omega arith in
      named_chunk i (log_of then_) l line unit (slice_index l.knows (suc unit)) refl
      ∙ ap (chunk_after i (log_of then_) line unit) (sym far)
      ∙ found_stays i then_ made_then.legal may_take.0 begins unit line life (no_stray line has)
      (slice_index l.knows (suc unit) - slice_index may_take.0.knows (suc unit)) (omega arith)
      ∙ sym (named_chunk i (log_of then_) first.logged line unit (slice_index may_take.0.knows (suc unit)) (ap (λ ks. slice_index ks (suc unit)) first.knows))

  of_winner : (source : Source) (block : Block) (lba : ℕ) → lba < i.shape.capacity → block_at (media i logs) source.line source.at ≡ Some block
      → IsPlaceOfWinner i logs lba source → slice_get (contents (found_image i (log_of then_))) lba ≡ Some block.sector
  of_winner source block lba low at place =
      let r : Record = place.winning in
      let wins : winner (counted found) lba ≡ Some r =
      ap (λ (j : Image). winner (counted j) lba) (sym ((told_when_made i w n l made_then).found ∙ found_is)) ∙ place.is_winner in
      let there_in : Contains (counted found) r = (winner_is_winner found lba r wins).there in
      let has : HasBlock found r = counted_block found r there_in in
      let life : life_of (log_of then_ 0) r.line ≡ AsFound =
      ap (life_of (log_of then_ 0)) (sym place.line) ∙ ap (λ (log : List Logged). life_of log source.line) (sym own) ∙ place.not_freed in
      let kept : block_at (media i logs) r.line r.at ≡ block_at found r.line r.at =
      same_block i.shape found.units (media i logs).units r.line (length_media i logs ∙ sym (length_media i (prefixes first.logged (log_of then_))))
      (λ unit. stands r.line unit life (counted_has_start found r there_in)) r.at in
      let here : block_at (media i logs) r.line r.at ≡ Some block =
      ap (λ x. block_at (media i logs) x r.at) (sym place.line) ∙ ap (block_at (media i logs) source.line) (sym place.at) ∙ at in
      let one : has.block ≡ block = same_Some has.block block (sym has.there ∙ sym kept ∙ here) in
      ap (λ (j : Image). slice_get (contents j) lba) found_is ∙ winner_holds found lba r low wins
      ∙ ap (λ x. Some x) (sym has.sector ∙ ap (λ (x : Block). x.sector) one)

  -- ---- so it follows the entries before it

  before_is : log_of then_ 0 ≡ take n (log_of w 0)
  before_is = own_then i w 0 n l made_then

  found_now : found_image i (log_of then_) ≡ found_image i (log_of w)
  found_now =
      sym (told_up_to i w n l made_then).found
      ∙ found_at i (log_of w) n (begun_knows n (log_of w 0) may_take.0 (ap begun (sym before_is) ∙ begins))

  abbrev base : List (List ℕ)
  base = contents (found_image i (log_of w))

  copied : (source : Source) (c : Copies i logs entry mark source) (o : Option Taken) → last_take (log_of then_ 0) entry.lba ≡ o
      → IsPlaceOfLatest i logs entry.lba source o → BearsIt entry.lba source c.block o
      → held_by (slice_get base entry.lba) o ≡ Some entry.sector
  copied source c None e place bears =
      ap (λ (j : Image). slice_get (contents j) entry.lba) (sym found_now) ∙ of_winner source c.block entry.lba may_take.2.lba c.latest.there place
      ∙ ap (λ x. Some x) (sym c.sector)
  copied source c (Some t) e place bears =
      let test : Taken → Bool = λ u. u.mark.lba == entry.lba in
      let among : IsAmong (takes (log_of then_ 0)) t =
      last_in (IsAmong (takes (log_of then_ 0))) None (filter test (takes (log_of then_ 0))) t (λ y none. absurd (none-some y none))
      (all_filter (IsAmong (takes (log_of then_ 0))) test (takes (log_of then_ 0)) (among_all (takes (log_of then_ 0)))) e in
      ap (λ x. Some x) (sym (of_mount source c.block entry.lba may_take.2.lba c.latest.there bears t among place) ∙ sym c.sector)

  pub copy_follows : FollowsBy base (takes (take n (log_of w 0))) (record { entry = entry; mark = mark }) entry.source
  copy_follows = go entry.source may_take.2.marked
    where
      go : (o : Option Source) → IsMarked i logs entry mark o → FollowsBy base (takes (take n (log_of w 0))) (record { entry = entry; mark = mark }) o
      go None is = ap (λ (m : Mark). m.lba) is
      go (Some source) (inl c) = λ low.
          ap (λ (log : List Logged). held base (takes log) mark.lba) (sym before_is)
          ∙ ap (held base (takes (log_of then_ 0))) (ap (λ (m : Mark). m.lba) c.names_sector)
          ∙ copied source c (last_take (log_of then_ 0) entry.lba) refl
          (subst (λ (log : List Logged). IsPlaceOfLatest i logs entry.lba source (last_take log entry.lba)) own c.latest.place)
          (subst (λ (log : List Logged). BearsIt entry.lba source c.block (last_take log entry.lba)) own c.latest.bears)
      go (Some source) (inr stale) = λ low.
          let lba : mark.lba ≡ 2 ^ 64 - 2 = ap (λ (m : Mark). m.lba) stale.names_none in
          let few : i.shape.capacity < 2 ^ 40 = mount.accepted.target.capacity_number in
          let count : length base ≡ (found_image i (log_of w)).shape.capacity = contents_count (found_image i (log_of w)) in
          let same_shape : (found_image i (log_of w)).shape.capacity ≡ i.shape.capacity =
          ap (λ (j : Image). j.shape.capacity) (sym found_now ∙ found_is) in
          absurd (omega arith)

-- each entry follows those before it
pub entries_follow : (i : Image) (w : World) → IsLegalMount i w → AreFollowing (contents (found_image i (log_of w))) (takes (log_of w 0))
entries_follow i w mount k t at =
    let e : IsTakenAt (log_of w 0) k t = taken_at (log_of w 0) k t at in
    subst (λ (ts : List Taken). FollowsBy (contents (found_image i (log_of w))) ts t t.entry.source) e.before
    (copy_follows i w e.number e.logged t.entry t.mark mount e.there e.event)
