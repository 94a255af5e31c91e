-- A source that was the place of its sector's latest, in a line that has its life still, is so as
-- long as no entry of the sector is taken.
use Rattle.std.proofs.Common.{◌≡◌, ◌⊎◌, inl, inr, ℕ, ◌+◌, ◌-◌, ◌<◌, ◌≤◌, ◌==◌, ◌++◌, [], suc, true, false, Some, None, Option, List, length, take, drop, refl, sym, subst, ap, ap₂, ◌∙◌, arith}
use Rattle.std.specs.Prelude.{slice_get, slice_index}
use Rattle.std.specs.List.{Contains, list_any}
use Rattle.std.specs.Option.{option_and_then, option_map, option_map_or}
use Rattle.pblk_model.specs.Chunk.{Block}
use Rattle.pblk_model.specs.Contents.{counted, winner}
use Rattle.pblk_model.specs.Image.{Image, block_at, line_units}
use Rattle.pblk_model.specs.Marks.{sector_mark}
use Rattle.pblk_model.specs.StartRecord.{StartRecord, start_of}
use Rattle.pblk_laws.specs.LineBlocks.{chunk_in, written_at}
use Rattle.pblk_laws.proofs.Winners.{winner_is_winner}
use Rattle.pblk_world.specs.AtRest.{logs_at}
use Rattle.pblk_world.specs.EngineLog.{AsFound, Begun, begun, block_of_taken, has_landed, is_life, LineLife, life_of, Opened, Opening, Placed, placements, stripes_of, Taken, takes}
use Rattle.pblk_world.specs.Events.{Logged, Source}
use Rattle.pblk_world.specs.Fronts.{last_take, taken}
use Rattle.pblk_world.specs.Lines.{found_by, found_image, is_given_up_by, known_image, place_of, strays_of}
use Rattle.pblk_world.specs.Starts.{seq_in, seq_of}
use Rattle.pblk_world.specs.Taking.{BearsIt, IsLatest, IsPlaceOf, IsPlaceOfLatest, IsPlaceOfWinner}
use Rattle.pblk_world.specs.Victims.{engine_prefix}
use Rattle.pblk_world.specs.World.{World, Logs, log_of, cut_logs, media}
use Rattle.pblk_world.proofs.WorldLemmas.{length_media}
use Rattle.pblk_model.proofs.Lists.{IsAmong, among_contained, among_more}
use Rattle.pblk_model.proofs.Maps.{in_filter}
use Rattle.pblk_model.proofs.Options.{some_value}
use Rattle.pblk_model.proofs.Parts.{all_at, contained_among, take_and_drop}
use Rattle.pblk_model.proofs.Tests.{same_number}
use Rattle.pblk_world.specs.LegalMounts.{IsLegalMount}
use Rattle.world_laws.specs.SameTold.{AreSameTold}
use Rattle.world_laws.specs.UnitChunks.{chunk_after}
use Rattle.world_laws.proofs.Entries.{marks_bear}
use Rattle.world_laws.proofs.ImageLines.{same_block}
use Rattle.world_laws.proofs.KeptChunks.{found_stays}
use Rattle.world_laws.proofs.Later.{landed_later, placed_later, placed_within, takes_joined}
use Rattle.world_laws.proofs.Latest.{one_entry}
use Rattle.world_laws.proofs.LifePlaces.{began, units_now}
use Rattle.world_laws.proofs.LifeUnits.{begun_within, units_of_life}
use Rattle.world_laws.proofs.LineAddresses.{same_place}
use Rattle.world_laws.proofs.LineBlocks.{block_placed, landed_written}
use Rattle.world_laws.proofs.MediaChunks.{chunk_of_found, chunk_of_media}
use Rattle.world_laws.proofs.Stripes.{life_of_stripe, opening_then}
use Rattle.world_laws.proofs.ToldImages.{image_same}
use Rattle.world_laws.proofs.WinnerBlocks.{HasBlock, counted_block}
use Rattle.world_laws.proofs.WinnerLines.{counted_has_start}
use Rattle.world_laws.proofs.EarlierLogs.{some_begun}
use Rattle.core_laws.proofs.FreedWidths.{not_given_up}
use Rattle.core_laws.proofs.LastTakes.{last_is, last_none}
use Rattle.rest_laws.specs.AtWork.{WasTakenSince}
use Rattle.rest_laws.proofs.Latest.{entry_after}
use Rattle.rest_laws.proofs.LengthLogs.{IsWorldAt, found_then_at, told_at, world_at}

-- Logs that have, of what the units did, all that the engine was told: its log is the same, and by
-- them a line that is opened has the units that it has, and the blocks of its stripes that have
-- landed. A line that is as it was found, and isn't to be reset, has the chunks that were found.
pub record HoldsTold (i : Image) (w : World) (b : Logs) : Type 0 where
  pub told : AreSameTold i (log_of w) b
  pub units : (o : Opening) → life_of (log_of w 0) o.line ≡ Opened o → line_units (media i b) o.line ≡ line_units (media i (log_of w)) o.line
  pub blocks : (o : Opening) → life_of (log_of w 0) o.line ≡ Opened o → (p : Placed) → Contains (stripes_of (log_of w 0) o) p
      → has_landed (log_of w 0) p ≡ true → (index : ℕ) (block : Block) → slice_get p.stripe.blocks index ≡ Some block
      → written_at (media i b) o.line (p.stripe.unit, p.stripe.at + index) ≡ Some block
  pub found : (g : Begun) → begun (log_of w 0) ≡ Some g → (line unit : ℕ) → life_of (log_of w 0) line ≡ AsFound
      → list_any (λ stray. stray == line) g.beginning.strays ≡ false → chunk_in (media i b) line unit ≡ chunk_in (found_image i (log_of w)) line unit

-- up to a length of a unit's log such a chunk stays as it was found
pub found_upto : (i : Image) (w : World) → IsLegalMount i w → (g : Begun) → begun (log_of w 0) ≡ Some g → (line unit n : ℕ)
    → life_of (log_of w 0) line ≡ AsFound → list_any (λ stray. stray == line) g.beginning.strays ≡ false → slice_index g.knows (suc unit) ≤ n
    → n ≤ length (log_of w (suc unit)) → chunk_after i (log_of w) line unit n ≡ chunk_in (found_image i (log_of w)) line unit
found_upto i w mount g begins line unit n is_found no_stray from inside =
    let far : slice_index g.knows (suc unit) + (n - slice_index g.knows (suc unit)) ≡ n = omega arith in
    ap (chunk_after i (log_of w) line unit) (sym far)
    ∙ found_stays i w mount.legal g begins unit line is_found no_stray (n - slice_index g.knows (suc unit)) (omega arith)
    ∙ sym (chunk_of_found i (log_of w) g line unit begins)

-- all that was done is
pub whole_holds : (i : Image) (w : World) → IsLegalMount i w → HoldsTold i w (log_of w)
whole_holds i w mount = record {
  told = record { own = refl; found = refl; told = λ unit l there. refl };
  units = λ o is_open. refl;
  blocks = λ o is_open p there landed index block is. landed_written i w mount o is_open p index block there landed is;
  found = λ g begins line unit is_found no_stray.
      chunk_of_media i (log_of w) line unit
      ∙ found_upto i w mount g begins line unit (length (log_of w (suc unit))) is_found no_stray (begun_within i w mount.legal g begins unit) (omega arith);
}

module _ (i : Image) (w : World) (mount : IsLegalMount i w) (a lba : ℕ) (source : Source) (some : 0 < a) (within : a ≤ length (log_of w 0))
    (lives : life_of (log_of w 0) source.line ≡ life_of (take a (log_of w 0)) source.line) (as_told : Logs) (holds : HoldsTold i w as_told) where
  abbrev log : List Logged
  log = log_of w 0

  abbrev v : IsWorldAt i w a
  v = world_at i w a mount.legal within

  rest : take a (log_of w 0) ++ drop a (log_of w 0) ≡ log_of w 0
  rest = take_and_drop a log

  known_then : known_image i (logs_at a (log_of w)) ≡ known_image i (engine_prefix a (log_of w))
  known_then = image_same i (log_of v.world) (logs_at a (log_of w)) (told_at i w a mount.legal within v)
      ∙ sym (image_same i (log_of v.world) (engine_prefix a (log_of w)) v.told)

  -- ---- an entry

  module _ (t : Taken) (its : IsPlaceOf i (logs_at a (log_of w)) t source) (last : last_take (log_of w 0) lba ≡ Some t) where
    there_now : Contains (placements (log_of w 0)) its.placed
    there_now = subst (λ (ys : List Logged). Contains (placements ys) its.placed) rest (placed_later (take a log) (drop a log) its.placed its.is_placed)

    landed_now : has_landed (log_of w 0) its.placed ≡ true
    landed_now = ap (λ (ys : List Logged). has_landed ys its.placed) (sym rest)
        ∙ landed_later (take a log) (drop a log) its.placed (placed_within (take a log) its.placed its.is_placed) its.landed

    life : (o : Opening) × (its.placed.life ≡ Opened o) × (life_of (take its.placed.number (log_of w 0)) its.placed.stripe.line ≡ Opened o)
    life = life_of_stripe i w its.placed mount.legal there_now

    abbrev o : Opening
    o = life.0

    in_line : source.line ≡ life.0.line
    in_line = its.line ∙ sym (opening_then log its.placed.number its.placed.stripe.line life.0 life.2).1

    was_open : life_of (take a (log_of w 0)) source.line ≡ Opened life.0
    was_open = its.not_freed ∙ life.1

    is_open : life_of (log_of w 0) life.0.line ≡ Opened life.0
    is_open = ap (life_of log) (sym in_line) ∙ lives ∙ was_open

    early : life.0.number < a
    early = (opening_then log a source.line life.0 was_open).2

    of_life : Contains (stripes_of (log_of w 0) life.0) its.placed
    of_life = contained_among (stripes_of log life.0) its.placed
        (in_filter (λ (x : Placed). is_life life.0.number x.life) (placements log) its.placed (among_contained (placements log) its.placed there_now)
        (ap (is_life life.0.number) life.1 ∙ same_number life.0.number))

    -- the units of its line are those of then
    units_then : line_units (known_image i (engine_prefix a (log_of w))) life.0.line ≡ line_units (media i as_told) life.0.line
    units_then =
        let b = began i w life.0.line life.0 mount.legal is_open in
        units_of_life i w mount.legal b.0 b.1 life.0.line life.0 is_open a (omega (arith, early)) within ∙ sym (holds.units life.0 is_open)

    on_media : place_of (media i as_told) life.0.line source.at ≡ Some (its.placed.stripe.unit, its.placed.stripe.at + its.block)
    on_media =
        sym (same_place (known_image i (engine_prefix a (log_of w))) (media i as_told) life.0.line source.at refl units_then)
        ∙ ap (λ (j : Image). place_of j life.0.line source.at) (sym known_then)
        ∙ ap (λ n. place_of (known_image i (logs_at a (log_of w))) n source.at) (sym in_line) ∙ its.place

    place_now : IsPlaceOf i as_told t source
    place_now = record {
      position = its.position;
      placed = its.placed;
      is_placed = subst (λ (ys : List Logged). Contains (placements ys) its.placed) (sym holds.told.own) there_now;
      landed = ap (λ (ys : List Logged). has_landed ys its.placed) holds.told.own ∙ landed_now;
      line = its.line;
      not_freed = ap (λ (ys : List Logged). life_of ys source.line) holds.told.own ∙ lives ∙ its.not_freed;
      block = its.block;
      entry = its.entry;
      place = ap (λ (j : Image). place_of j source.line source.at) (image_same i (log_of w) as_told holds.told)
          ∙ ap (λ n. place_of (known_image i (log_of w)) n source.at) in_line
          ∙ same_place (known_image i (log_of w)) (media i as_told) life.0.line source.at refl
          (units_now i w mount life.0 is_open ∙ sym (holds.units life.0 is_open)) ∙ on_media;
    }

    block_there : block_at (media i as_told) source.line source.at ≡ Some (block_of_taken t)
    block_there =
        ap (λ n. block_at (media i as_told) n source.at) in_line
        ∙ block_placed (media i as_told) life.0.line source.at
        ∙ ap (option_and_then (written_at (media i as_told) life.0.line)) on_media
        ∙ holds.blocks life.0 is_open its.placed of_life landed_now its.block (block_of_taken t) its.entry

    last_told : last_take (as_told 0) lba ≡ Some t
    last_told = ap (λ (ys : List Logged). last_take ys lba) holds.told.own ∙ last

    entry_latest : IsLatest i as_told lba source (block_of_taken t)
    entry_latest =
        let t_is = last_is i w mount.legal lba t last in
        let own : t.mark.position ≡ t.entry.position =
        all_at (λ (x : Taken). x.mark.position ≡ x.entry.position) (takes log) t_is.0.0 t t_is.0.1 (marks_bear i w mount.legal) in
        record {
          place = subst (IsPlaceOfLatest i as_told lba source) (sym last_told) place_now;
          there = block_there;
          bears = subst (BearsIt lba source (block_of_taken t)) (sym last_told)
              (ap₂ (λ m n. sector_mark m n) t_is.1 (own ∙ sym its.position));
        }

  -- ---- a winner

  module _ (its : IsPlaceOfWinner i (logs_at a (log_of w)) lba source) (last : last_take (log_of w 0) lba ≡ None) where
    b : (x : Begun) × (begun (log_of w 0) ≡ Some x)
    b = some_begun i w mount.legal (omega (arith, some, within))

    wins : winner (counted (found_image i (log_of w))) lba ≡ Some its.winning
    wins = ap (λ (j : Image). winner (counted j) lba) (sym (found_then_at i w a mount.legal some within)) ∙ its.is_winner

    counts : Contains (counted (found_image i (log_of w))) its.winning
    counts = (winner_is_winner (found_image i (log_of w)) lba its.winning wins).there

    found_now : life_of (log_of w 0) its.winning.line ≡ AsFound
    found_now = ap (life_of log) (sym its.line) ∙ lives ∙ its.not_freed

    no_stray : list_any (λ stray. stray == its.winning.line) b.0.beginning.strays ≡ false
    no_stray =
        let start = some_value (start_of (found_image i (log_of w)) its.winning.line) (counted_has_start (found_image i (log_of w)) its.winning counts) in
        let has_seq : seq_of i (log_of w) its.winning.line ≡ Some start.0.seq =
        ap (λ (l : LineLife). seq_in i (log_of w) l its.winning.line) found_now
        ∙ ap (option_map (λ (s : StartRecord). s.seq)) start.1 in
        ap (λ (x : Option Begun). list_any (λ stray. stray == its.winning.line) (option_map_or (λ (y : Begun). y.beginning.strays) x [])) (sym b.1)
        ∙ ap (is_given_up_by (strays_of log) its.winning.line) (sym found_now)
        ∙ not_given_up i w mount its.winning.line b.0 b.1 start.0.seq has_seq

    block_stays : block_at (media i as_told) its.winning.line its.winning.at ≡ block_at (found_image i (log_of w)) its.winning.line its.winning.at
    block_stays =
        let cut : Image = media i (cut_logs b.0.knows (log_of w)) in
        let is : found_image i (log_of w) ≡ media i (cut_logs b.0.knows (log_of w)) = ap (found_by i (log_of w)) b.1 in
        same_block i.shape cut.units (media i as_told).units its.winning.line
        (length_media i as_told ∙ sym (length_media i (cut_logs b.0.knows (log_of w))))
        (λ unit. holds.found b.0 b.1 its.winning.line unit found_now no_stray ∙ ap (λ (j : Image). chunk_in j its.winning.line unit) is) its.winning.at
        ∙ ap (λ (j : Image). block_at j its.winning.line its.winning.at) (sym is)

    none_told : last_take (as_told 0) lba ≡ None
    none_told = ap (λ (ys : List Logged). last_take ys lba) holds.told.own ∙ last

    winner_latest : (block : Block) × IsLatest i as_told lba source block
    winner_latest =
        let has : HasBlock (found_image i (log_of w)) its.winning = counted_block (found_image i (log_of w)) its.winning counts in (
          has.block,
          record {
            place = subst (IsPlaceOfLatest i as_told lba source) (sym none_told) (record {
              winning = its.winning;
              is_winner = ap (λ (j : Image). winner (counted j) lba) holds.told.found ∙ wins;
              line = its.line;
              at = its.at;
              position = its.position;
              not_freed = ap (λ (ys : List Logged). life_of ys source.line) holds.told.own ∙ lives ∙ its.not_freed;
            });
            there = ap₂ (λ n m. block_at (media i as_told) n m) its.line its.at ∙ block_stays ∙ has.there;
            bears = subst (BearsIt lba source has.block) (sym none_told) tt;
          },
        )

  -- ---- so it was overtaken where it isn't

  in_all : (t : Taken) → IsAmong (takes (take a (log_of w 0))) t → IsAmong (takes (log_of w 0)) t
  in_all t at = subst (λ (ts : List Taken). IsAmong ts t) (sym (takes_joined (take a log) (drop a log)) ∙ ap takes rest)
      (among_more (takes (take a log)) (takes (drop a log)) t at)

  pub stale_taken : IsPlaceOfLatest i (logs_at a (log_of w)) lba source (last_take (take a (log_of w 0)) lba)
      → ((block : Block) → IsLatest i as_told lba source block → ⊥) → WasTakenSince (log_of w 0) lba a
  stale_taken place stale = go (last_take log lba) refl
    where
      since : (u : Taken) → IsAmong (takes (log_of w 0)) u → u.mark.lba ≡ lba → taken (take a (log_of w 0)) ≤ u.entry.position
          → WasTakenSince (log_of w 0) lba a
      since u at its after = record { t = u; there = contained_among (takes log) u at; of_it = its; since = after }

      to_v : (u : Taken) → IsAmong (takes (take a (log_of w 0))) u → IsAmong (takes (log_of (world_at i w a mount.legal within).world 0)) u
      to_v u at = subst (λ (xs : List Logged). IsAmong (takes xs) u) (sym v.own) at

      then_v : (o : Option Taken) → last_take (take a (log_of w 0)) lba ≡ o → last_take (log_of (world_at i w a mount.legal within).world 0) lba ≡ o
      then_v o e = ap (λ (xs : List Logged). last_take xs lba) v.own ∙ e

      some_now : (u : Taken) → last_take (log_of w 0) lba ≡ Some u → IsAmong (takes (take a (log_of w 0))) u → (o : Option Taken)
          → last_take (take a (log_of w 0)) lba ≡ o → IsPlaceOfLatest i (logs_at a (log_of w)) lba source o → WasTakenSince (log_of w 0) lba a
      some_now u last before None was its =
          let u_is = last_is i w mount.legal lba u last in
          absurd (last_none i v.world v.legal lba (then_v None was) u (to_v u before) u_is.1)
      some_now u last before (Some t) was its =
          let u_is = last_is i w mount.legal lba u last in
          let t_is = last_is i v.world v.legal lba t (then_v (Some t) was) in
          let among : IsAmong (takes log) t = in_all t (subst (λ (xs : List Logged). IsAmong (takes xs) t) v.own t_is.0) in
          let most : t.entry.position ≤ u.entry.position = u_is.2 t among t_is.1 in
          let least : u.entry.position ≤ t.entry.position = t_is.2 u (to_v u before) u_is.1 in
          let level : u.entry.position ≡ t.entry.position = omega arith in
          let one : u ≡ t = one_entry i w u t mount.legal u_is.0 among level in
          absurd (stale (block_of_taken t) (entry_latest t its (last ∙ ap (λ x. Some x) one)))

      none_now : last_take (log_of w 0) lba ≡ None → (o : Option Taken) → last_take (take a (log_of w 0)) lba ≡ o
          → IsPlaceOfLatest i (logs_at a (log_of w)) lba source o → WasTakenSince (log_of w 0) lba a
      none_now last None was its = let now = winner_latest its last in absurd (stale now.0 now.1)
      none_now last (Some t) was its =
          let t_is = last_is i v.world v.legal lba t (then_v (Some t) was) in
          absurd (last_none i w mount.legal lba last t (in_all t (subst (λ (xs : List Logged). IsAmong (takes xs) t) v.own t_is.0)) t_is.1)

      go : (o : Option Taken) → last_take (log_of w 0) lba ≡ o → WasTakenSince (log_of w 0) lba a
      go None last = none_now last (last_take (take a log) lba) refl place
      go (Some u) last =
          let u_is = last_is i w mount.legal lba u last in
          by u last u_is.1 u_is.0 (entry_after i w a u mount some u_is.0)
        where
          by : (u : Taken) → last_take (log_of w 0) lba ≡ Some u → u.mark.lba ≡ lba → IsAmong (takes (log_of w 0)) u
              → IsAmong (takes (take a (log_of w 0))) u ⊎ (taken (take a (log_of w 0)) ≤ u.entry.position) → WasTakenSince (log_of w 0) lba a
          by u last its at (inr after) = since u at its after
          by u last its at (inl before) = some_now u last before (last_take (take a log) lba) refl place
