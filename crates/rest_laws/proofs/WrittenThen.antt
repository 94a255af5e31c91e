-- What was written in an opened line, by what an event of the engine knew of its units, is written
-- there still.
use Rattle.std.proofs.Common.{◌≡◌, ℕ, ◌+◌, ◌-◌, ◌<◌, ◌≤◌, nat_eq, zero, suc, Bool, true, false, Some, None, Option, List, length, take, refl, sym, subst, ap, ◌∙◌, arith, length-take}
use Rattle.std.specs.Prelude.{slice_get, slice_index}
use Rattle.std.specs.Option.{option_and_then}
use Rattle.std.proofs.lemmas.Bool.{eqb-false, eqb-true}
use Rattle.std.proofs.lemmas.Option.{none-some, same_Some}
use Rattle.pblk_model.specs.Chunk.{Block, Chunk}
use Rattle.pblk_model.specs.ChunkStep.{ChunkCommand, Read, Reset, Write}
use Rattle.pblk_model.specs.Image.{block_at, Image, is_online_in, line_units}
use Rattle.pblk_model.specs.Records.{Record}
use Rattle.pblk_model.specs.UnitLog.{after_outcome, IsOutcome}
use Rattle.pblk_model.proofs.UnitLogLemmas.{read_leaves}
use Rattle.pblk_laws.specs.LineBlocks.{chunk_in, written_at}
use Rattle.pblk_world.specs.AtRest.{knows_last, logs_at}
use Rattle.pblk_world.specs.Commanding.{is_program}
use Rattle.pblk_world.specs.EngineLog.{Begun, begun, life_of, Opened, Opening}
use Rattle.pblk_world.specs.Events.{Logged}
use Rattle.pblk_world.specs.Freeing.{IsWrittenRecord}
use Rattle.pblk_world.specs.Legal.{IsLegal}
use Rattle.pblk_world.specs.Lines.{is_empty_state, place_of}
use Rattle.pblk_world.specs.World.{World, known, log_of, media, prefixes}
use Rattle.pblk_world.proofs.Growing.{knowledge_rises}
use Rattle.pblk_world.proofs.WorldLemmas.{length_media, media_same}
use Rattle.pblk_model.proofs.Options.{split_then}
use Rattle.pblk_model.proofs.Parts.{get_below, get_more, get_whole, got_within, is_in}
use Rattle.pblk_world.specs.LegalMounts.{IsLegalMount}
use Rattle.world_laws.specs.UnitChunks.{chunk_after}
use Rattle.world_laws.proofs.Deeds.{deed, IsDeed}
use Rattle.world_laws.proofs.LifePlaces.{began}
use Rattle.world_laws.proofs.LineAddresses.{same_place}
use Rattle.world_laws.proofs.LineBlocks.{block_placed}
use Rattle.world_laws.proofs.Made.{known_within}
use Rattle.world_laws.proofs.MediaChunks.{chunk_of_cut, chunk_of_media}
use Rattle.world_laws.proofs.OnlineUnits.{is_on, online_after_write, same_units}
use Rattle.world_laws.proofs.OpenedChunks.{empty_at_reset, grows, IsLonger, named, since}
use Rattle.world_laws.proofs.Resets.{empty_stays, reset}
use Rattle.world_laws.proofs.UnitChunks.{still_there}
use Rattle.core_laws.proofs.LandedNow.{opened_now}
use Rattle.rest_laws.proofs.LengthLogs.{IsWorldAt, world_at}

-- ---- a chunk of an opened line is Offline only where it was so when the line was opened

module _ (i : Image) (w : World) (legal : IsLegal i w) (b : Begun) (begins : begun (log_of w 0) ≡ Some b) (unit line : ℕ) (o : Opening)
    (is_open : life_of (log_of w 0) line ≡ Opened o) where
  record IsAsOnline (y : ℕ) (c : Chunk) : Type 0 where
    chunk : Chunk
    next : chunk_after i (log_of w) line unit (suc y) ≡ Some chunk
    online : is_online_in chunk.state ≡ is_online_in c.state

  module _ (y : ℕ) (l : Logged) (there : slice_get (log_of w (suc unit)) y ≡ Some l) (d : IsDeed i w unit y l) (from : slice_index o.knows (suc unit) ≤ y)
      (c : Chunk) (now : chunk_after i (log_of w) line unit y ≡ Some c) where
    stays : chunk_after i (log_of w) line unit (suc y) ≡ chunk_after i (log_of w) line unit y → IsAsOnline y c
    stays same = record { chunk = c; next = same ∙ now; online = refl }

    module _ (its : d.event.chunk ≡ line) where
      found : d.found ≡ c
      found = same_Some d.found c (sym d.there ∙ ap (λ k. chunk_after i (log_of w) k unit y) its ∙ now)

      left : chunk_after i (log_of w) line unit (suc y) ≡ Some (after_outcome i.shape c d.event.command d.event.outcome)
      left = ap (λ k. chunk_after i (log_of w) k unit (suc y)) (sym its) ∙ d.left
          ∙ ap (λ x. Some (after_outcome i.shape x d.event.command d.event.outcome)) found

      by_command : (command : ChunkCommand) → d.event.command ≡ command → IsAsOnline y c
      by_command (Write at blocks) is = record {
        chunk = after_outcome i.shape c (Write at blocks) d.event.outcome;
        next = left ∙ ap (λ x. Some (after_outcome i.shape c x d.event.outcome)) is;
        online = online_after_write i.shape c at blocks d.event.outcome
            (subst (λ x. IsOutcome i.shape c x d.event.outcome) is (subst (λ x. IsOutcome i.shape x d.event.command d.event.outcome) found d.outcome));
      }
      by_command (Read at) is = stays (left ∙ ap (λ x. Some (after_outcome i.shape c x d.event.outcome)) is
          ∙ ap (λ x. Some x) (read_leaves i.shape c at d.event.outcome) ∙ sym now)
      by_command Reset is =
          let empty : is_empty_state c.state ≡ true =
          empty_at_reset i w legal b begins unit line o is_open y l there d from c now (reset i w legal unit y l there d is) its in
          stays (empty_stays i w legal unit y l there d (ap (λ (x : Chunk). is_empty_state x.state) found ∙ empty) (ap is_program is) line)

    online_next : IsAsOnline y c
    online_next = go (nat_eq d.event.chunk line) refl
      where
        go : (t : Bool) → nat_eq d.event.chunk line ≡ t → IsAsOnline y c
        go true same = by_command (eqb-true d.event.chunk line same) d.event.command refl
        go false other = stays (d.others line (eqb-false d.event.chunk line other))

  online_from : (n d : ℕ) → slice_index o.knows (suc unit) ≤ n → n + d ≤ length (log_of w (suc unit))
      → is_on (chunk_after i (log_of w) line unit (n + d)) ≡ is_on (chunk_after i (log_of w) line unit n)
  online_from n zero from inside = let same : n + 0 ≡ n = omega arith in ap (λ m. is_on (chunk_after i (log_of w) line unit m)) same
  online_from n (suc d) from inside =
      let next : n + suc d ≡ suc (n + d) = omega arith in
      let event = got_within (log_of w (suc unit)) (n + d) (omega arith) in
      ap (λ m. is_on (chunk_after i (log_of w) line unit m)) next
      ∙ go event.0 event.1 (chunk_after i (log_of w) line unit (n + d)) refl ∙ online_from n d from (omega arith)
    where
      go : (l : Logged) → slice_get (log_of w (suc unit)) (n + d) ≡ Some l → (x : Option Chunk) → chunk_after i (log_of w) line unit (n + d) ≡ x
          → is_on (chunk_after i (log_of w) line unit (suc (n + d))) ≡ is_on (chunk_after i (log_of w) line unit (n + d))
      go l at (Some c) now =
          let one : IsAsOnline (n + d) c = online_next (n + d) l at (deed i w unit (n + d) l legal at) (omega arith) c now in
          ap is_on one.next ∙ one.online ∙ ap is_on (sym now)
      go l at None now = by (chunk_after i (log_of w) line unit (suc (n + d))) refl ∙ ap is_on (sym now)
        where
          by : (x : Option Chunk) → chunk_after i (log_of w) line unit (suc (n + d)) ≡ x → is_on (chunk_after i (log_of w) line unit (suc (n + d))) ≡ false
          by None none = ap is_on none
          by (Some c) there =
              let was = still_there i (log_of w) line unit (suc (n + d)) (n + d) c there in
              absurd (none-some was.0 (sym now ∙ was.1))

-- ---- what an event of the engine knew to be written in a line that was opened by then

module _ (i : Image) (w : World) (mount : IsLegalMount i w) (line : ℕ) (o : Opening) (is_open : life_of (log_of w 0) line ≡ Opened o)
    (m : ℕ) (l : Logged) (there : slice_get (log_of w 0) m ≡ Some l) (after : o.number ≤ m) where
  b : (x : Begun) × (begun (log_of w 0) ≡ Some x)
  b = began i w line o mount.legal is_open

  module _ (unit : ℕ) where
    knew : slice_index o.knows (suc unit) ≤ known l (suc unit)
    knew =
        let h = since i w mount.legal b.0 b.1 unit line o is_open in
        let same : known h.logged (suc unit) ≡ slice_index o.knows (suc unit) = named i w mount.legal b.0 b.1 unit line o is_open in
        let less : known h.logged (suc unit) ≤ known l (suc unit) = knowledge_rises i w 0 (suc unit) o.number m h.logged l mount.legal after h.there there in
        omega arith

    inside : known l (suc unit) ≤ length (log_of w (suc unit))
    inside = known_within i w 0 (suc unit) l mount.legal (is_in (log_of w 0) m l there)

    rest : known l (suc unit) + (length (log_of w (suc unit)) - known l (suc unit)) ≡ length (log_of w (suc unit))
    rest = omega (arith, inside)

    all_within : known l (suc unit) + (length (log_of w (suc unit)) - known l (suc unit)) ≤ length (log_of w (suc unit))
    all_within = omega (arith, inside)

    -- its blocks are there still
    blocks_there : (c : Chunk) (k : ℕ) (block : Block) → chunk_in (media i (prefixes l (log_of w))) line unit ≡ Some c → slice_get c.blocks k ≡ Some block
        → written_at (media i (log_of w)) line (unit, k) ≡ Some block
    blocks_there c k block left at =
        let was : chunk_after i (log_of w) line unit (known l (suc unit)) ≡ Some c = sym (chunk_of_cut i (log_of w) l.knows line unit) ∙ left in
        let now = still_there i (log_of w) line unit (known l (suc unit)) (length (log_of w (suc unit))) c was in
        let longer : IsLonger i w mount.legal b.0 b.1 unit line o is_open c now.0 =
        grows i w mount.legal b.0 b.1 unit line o is_open (known l (suc unit)) (length (log_of w (suc unit)) - known l (suc unit)) c now.0 knew all_within was
        (ap (chunk_after i (log_of w) line unit) rest ∙ now.1) in
        ap (option_and_then (λ (x : Chunk). slice_get x.blocks k)) (chunk_of_media i (log_of w) line unit ∙ now.1)
        ∙ ap (λ (bs : List Block). slice_get bs k) longer.left ∙ get_more c.blocks longer.more k block at

    on_then : is_on (chunk_in (media i (prefixes l (log_of w))) line unit) ≡ is_on (chunk_in (media i (log_of w)) line unit)
    on_then = ap is_on (chunk_of_cut i (log_of w) l.knows line unit)
        ∙ sym (online_from i w mount.legal b.0 b.1 unit line o is_open (known l (suc unit)) (length (log_of w (suc unit)) - known l (suc unit)) knew all_within)
        ∙ ap (λ n. is_on (chunk_after i (log_of w) line unit n)) rest ∙ ap is_on (sym (chunk_of_media i (log_of w) line unit))

  units_then : line_units (media i (prefixes l (log_of w))) line ≡ line_units (media i (log_of w)) line
  units_then = same_units (media i (prefixes l (log_of w))) (media i (log_of w)) line
      (length_media i (prefixes l (log_of w)) ∙ sym (length_media i (log_of w))) (λ unit below. on_then unit)

  still_written : (a : ℕ) (block : Block) → block_at (media i (prefixes l (log_of w))) line a ≡ Some block → block_at (media i (log_of w)) line a ≡ Some block
  still_written a block is =
      let old : Image = media i (prefixes l (log_of w)) in
      let place = split_then (written_at old line) (place_of old line a) block (sym (block_placed old line a) ∙ is) in
      let c = split_then (λ (x : Chunk). slice_get x.blocks place.0.1) (chunk_in old line place.0.0) block place.2 in
      block_placed (media i (log_of w)) line a
      ∙ ap (option_and_then (written_at (media i (log_of w)) line)) (sym (same_place old (media i (log_of w)) line a refl units_then) ∙ place.1)
      ∙ blocks_there place.0.0 c.0 place.0.1 block c.1 c.2

-- ---- what was known at a length of the engine's log

pub written_then : (i : Image) (w : World) (mount : IsLegalMount i w) (n : ℕ) → 0 < n → (within : n ≤ length (log_of w 0)) → (line : ℕ) (o : Opening)
    → life_of (log_of (world_at i w n mount.legal within).world 0) line ≡ Opened o → (r : Record) → IsWrittenRecord i (logs_at n (log_of w)) o r
    → IsWrittenRecord i (log_of (world_at i w n mount.legal within).world) o r
written_then i w mount n some within line o is_open r written = record {
  block = written.block;
  written = still_written i v.world mount_v o.line o stands (n - 1) last.0 last.1 before r.at written.block
      (ap (λ (j : Image). block_at j o.line r.at) (sym same) ∙ written.written);
  bears = written.bears;
}
  where
    v : IsWorldAt i w n
    v = world_at i w n mount.legal within

    mount_v : IsLegalMount i (world_at i w n mount.legal within).world
    mount_v = record { accepted = mount.accepted; fit = mount.fit; legal = v.legal }

    count : length (log_of (world_at i w n mount.legal within).world 0) ≡ n
    count = let long : length (log_of v.world 0) ≡ length (take n (log_of w 0)) = ap (λ (xs : List Logged). length xs) v.own in
        omega (arith, long, length-take n (log_of w 0), within)

    stands : life_of (log_of (world_at i w n mount.legal within).world 0) o.line ≡ Opened o
    stands = ap (life_of (log_of v.world 0)) (opened_now i v.world mount_v line o is_open).1 ∙ is_open

    last : (l : Logged) × (slice_get (log_of (world_at i w n mount.legal within).world 0) (n - 1) ≡ Some l)
    last = got_within (log_of v.world 0) (n - 1) (omega (arith, count, some))

    before : o.number ≤ n - 1
    before =
        let b = began i v.world o.line o v.legal stands in
        let h = since i v.world v.legal b.0 b.1 0 o.line o stands in
        let less : o.number < length (log_of v.world 0) = get_below (log_of v.world 0) o.number h.logged h.there in
        omega (arith, count, less)

    same : media i (logs_at n (log_of w)) ≡ media i (prefixes last.0 (log_of (world_at i w n mount.legal within).world))
    same = media_same i (logs_at n (log_of w)) (prefixes last.0 (log_of v.world)) (λ unit.
        ap (λ x. take (knows_last x (suc unit)) (log_of w (suc unit)))
        (get_whole n (log_of w 0) (n - 1) last.0 (ap (λ (xs : List Logged). slice_get xs (n - 1)) (sym v.own) ∙ last.1))
        ∙ v.units unit last.0 (is_in (log_of v.world 0) (n - 1) last.0 last.1))
