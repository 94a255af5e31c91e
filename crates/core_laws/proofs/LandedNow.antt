-- The records of entries that have landed in a line that is opened now, and where the newest start
-- record's front is.
use Rattle.std.proofs.Common.{◌≡◌, ℕ, ◌+◌, ◌<◌, ◌≤◌, ◌==◌, true, Some, List, length, refl, sym, ap, ◌∙◌, arith}
use Rattle.std.specs.Prelude.{map}
use Rattle.std.specs.List.{AllByRecursion, Contains, filter}
use Rattle.std.specs.Option.{is_some, option_map, option_map_or}
use Rattle.std.proofs.lemmas.Option.{slice_get_within}
use Rattle.std.proofs.Math.Seq.{take-length}
use Rattle.pblk_model.specs.Contents.{counted, end, head}
use Rattle.pblk_model.specs.Image.{Image}
use Rattle.pblk_model.specs.Records.{Record, named}
use Rattle.pblk_model.specs.StartRecord.{StartRecord}
use Rattle.pblk_world.specs.Events.{Logged}
use Rattle.pblk_world.specs.World.{World, Logs, log_of}
use Rattle.pblk_world.specs.EngineLog.{Begun, begun, Opened, Opening, openings, bears_position, has_landed, life_of, is_life, Placed, placements, stripes_of, Taken, takes}
use Rattle.pblk_world.specs.Freeing.{IsLandedRecord}
use Rattle.pblk_world.specs.Fronts.{first_position, synced}
use Rattle.pblk_world.specs.Lines.{found_image, known_image, next_seq, place_of}
use Rattle.pblk_world.specs.Starts.{has_landed_start, newest_start}
use Rattle.pblk_world.proofs.VictimsLemmas.{whole_prefix}
use Rattle.pblk_model.proofs.Lists.{IsAmong, among_contained, last_in}
use Rattle.pblk_model.proofs.Maps.{all_filter, all_mapped, any_member, in_filter}
use Rattle.pblk_model.proofs.Options.{map_some}
use Rattle.pblk_model.proofs.Parts.{all_by_get, contained_among}
use Rattle.pblk_model.proofs.Tests.{and_both, same_number}
use Rattle.pblk_world.specs.LegalMounts.{IsLegalMount}
use Rattle.world_laws.proofs.Begun.{IsBegunWith, begun_with}
use Rattle.world_laws.proofs.FoundCounts.{counted_below}
use Rattle.world_laws.proofs.LandedRecords.{IsBlockAt, block_at_position}
use Rattle.world_laws.proofs.Later.{placed_within}
use Rattle.world_laws.proofs.Latest.{entry_of_block}
use Rattle.world_laws.proofs.LifePlaces.{have_places}
use Rattle.world_laws.proofs.LandedRecords.{HavePlaces}
use Rattle.world_laws.proofs.Positions.{position_of}
use Rattle.world_laws.proofs.StartRecords.{IsNthOpening, front_synced, nth_opening, seq_of_nth}
use Rattle.world_laws.proofs.Stripes.{life_of_stripe, opening_then, stripe_is}
use Rattle.core_laws.proofs.PlacedAnew.{landed_not_lost}
use Rattle.core_laws.proofs.StandingLines.{IsStanding}

module _ (i : Image) (w : World) (mount : IsLegalMount i w) where
  abbrev log : List Logged
  log = log_of w 0

  -- what is opened now was opened in this log
  pub opened_now : (line : ℕ) (o : Opening) → life_of (log_of w 0) line ≡ Opened o → Contains (openings (log_of w 0)) o × (o.line ≡ line)
      × (o.number < length (log_of w 0))
  opened_now line o is_open = opening_then log (length log) line o (ap (λ (xs : List Logged). life_of xs line) (take-length log) ∙ is_open)

  -- ---- from a stripe that has landed to its records

  -- the record of a position that has landed, and its entry
  pub record HasRecord (position : ℕ) (p : Placed) : Type 0 where
    pub o : Opening
    pub is_open : life_of (log_of w 0) p.stripe.line ≡ Opened o
    pub r : Record
    pub landed : IsLandedRecord i (log_of w) o r
    pub at : r.position ≡ position
    pub seq : r.seq ≡ o.start.seq
    pub t : Taken
    pub taken : IsAmong (takes (log_of w 0)) t
    pub its : t.entry.position ≡ position
    pub names : named i.shape t.mark ≡ Some r.lba

  pub has_record : (position : ℕ) (p : Placed) → IsStanding i w mount position p → has_landed (log_of w 0) p ≡ true → HasRecord position p
  unfolding HavePlaces
  has_record position p h landed =
      let life = life_of_stripe i w p mount.legal h.there in
      let is_open : life_of log p.stripe.line ≡ Opened life.0 = h.stands ∙ life.1 in
      let opened = opened_now p.stripe.line life.0 is_open in
      let b : IsBlockAt i.shape p position = block_at_position i.shape p position h.holds in
      let there : Contains (stripes_of log life.0) p = contained_among (stripes_of log life.0) p
      (in_filter (λ (q : Placed). is_life life.0.number q.life) (placements log) p (among_contained (placements log) p h.there)
      (ap (is_life life.0.number) life.1 ∙ same_number life.0.number)) in
      let places : HavePlaces i w = have_places i w mount.accepted mount.legal in
      let place = places life.0 p (length log) b.index there
      (ap (λ (xs : List Logged). life_of xs life.0.line) (take-length log) ∙ ap (life_of log) opened.1 ∙ is_open)
      (placed_within log p h.there) (slice_get_within p.stripe.blocks b.index b.block b.is_block) in
      let r : Record = record {
        line = life.0.line;
        seq = life.0.start.seq;
        at = place.0;
        position = b.block.mark.position;
        lba = b.lba;
        sector = b.block.sector;
      } in
      let entry = entry_of_block i w p b.index b.block b.lba mount.accepted mount.legal h.there b.is_block b.names in
      record {
        o = life.0;
        is_open = is_open;
        r = r;
        landed = record {
          placed = p;
          of_opening = there;
          landed = landed;
          index = b.index;
          block = b.block;
          is_block = b.is_block;
          place = ap (λ (logs : Logs). place_of (known_image i logs) life.0.line place.0) (sym (whole_prefix (log_of w))) ∙ place.1;
          bears = ap (option_map (λ lba. record {
            line = life.0.line;
            seq = life.0.start.seq;
            at = place.0;
            position = b.block.mark.position;
            lba = lba;
            sector = b.block.sector;
          })) b.names;
        };
        at = b.at;
        seq = refl;
        t = entry.0;
        taken = entry.1.there;
        its = entry.1.position ∙ b.at;
        names = ap (named i.shape) entry.1.mark ∙ b.names;
      }

  -- ---- and back

  -- the stripe of a landed record, and its entry
  pub record IsFrom (line : ℕ) (r : Record) : Type 0 where
    pub placed : Placed
    pub standing : IsStanding i w mount r.position placed
    pub landed : has_landed (log_of w 0) placed ≡ true
    pub its_line : placed.stripe.line ≡ line
    pub t : Taken
    pub taken : IsAmong (takes (log_of w 0)) t
    pub its : t.entry.position ≡ r.position
    pub names : named i.shape t.mark ≡ Some r.lba

  pub is_from : (line : ℕ) (o : Opening) (r : Record) → life_of (log_of w 0) line ≡ Opened o → IsLandedRecord i (log_of w) o r → IsFrom line r
  is_from line o r is_open h =
      let opened = opened_now line o is_open in
      let is = stripe_is i w o h.placed mount.legal opened.0 h.of_opening in
      let its_line : h.placed.stripe.line ≡ line = is.3 ∙ opened.1 in
      let name = map_some (λ lba. record {
        line = o.line;
        seq = o.start.seq;
        at = r.at;
        position = h.block.mark.position;
        lba = lba;
        sector = h.block.sector;
      }) (named i.shape h.block.mark) r h.bears in
      let at : h.block.mark.position ≡ r.position = ap (λ (x : Record). x.position) name.2 in
      let names : named i.shape h.block.mark ≡ Some r.lba = name.1 ∙ ap (λ (x : Record). Some x.lba) name.2 in
      let entry = entry_of_block i w h.placed h.index h.block r.lba mount.accepted mount.legal is.0 h.is_block names in
      record {
        placed = h.placed;
        standing = record {
          there = is.0;
          holds = any_member (bears_position i.shape r.position) h.placed.stripe.blocks h.index h.block h.is_block
              (and_both (is_some (named i.shape h.block.mark)) (h.block.mark.position == r.position) (ap is_some names)
              (ap (λ n. n == r.position) at ∙ same_number r.position));
          kept = landed_not_lost log h.placed h.landed;
          stands = ap (life_of log) its_line ∙ is_open ∙ sym is.1;
        };
        landed = h.landed;
        its_line = its_line;
        t = entry.0;
        taken = entry.1.there;
        its = entry.1.position ∙ at;
        names = ap (named i.shape) entry.1.mark ∙ names;
      }

  -- ---- records of the image that was found

  -- they stand below each entry of this mount
  pub found_below : (g : Begun) (r : Record) (t : Taken) → begun (log_of w 0) ≡ Some g → Contains (counted (found_image i (log_of w))) r
      → IsAmong (takes (log_of w 0)) t → r.position < t.entry.position
  found_below g r t begins there at =
      let with_ : IsBegunWith i w g = begun_with i w g mount.legal begins in
      let low : r.position < end (found_image i (log_of w)) = counted_below (found_image i (log_of w)) r there in
      let first : first_position log ≡ end (found_image i (log_of w)) =
      ap (λ e. option_map_or (λ (b : Begun). b.beginning.first) e 0) begins ∙ with_.first in
      let position : t.entry.position ≡ first_position log + at.0 = position_of i w at.0 t mount.legal at.1 in
      omega arith

  -- ---- the newest start record

  -- where it is newer than that of a line of this mount its front is at most the front synced
  pub front_within : (o : Opening) (newest : StartRecord) → Contains (openings (log_of w 0)) o → newest_start i (log_of w) ≡ Some newest
      → o.start.seq < newest.seq → newest.front ≤ synced i.shape (log_of w 0)
  front_within o newest opened is_newest older =
      last_in Fits (head (found_image i (log_of w))) (map (λ (p : Opening). p.start) (filter (has_landed_start i.shape log) (openings log))) newest
      found each is_newest older
    where
      Fits : StartRecord → Type 0
      Fits s = o.start.seq < s.seq → s.front ≤ synced i.shape (log_of w 0)

      found : (h : StartRecord) → head (found_image i (log_of w)) ≡ Some h → Fits h
      found h is_head newer =
          let at = among_contained (openings log) o opened in
          let is : IsNthOpening i w at.0 o = nth_opening i w at.0 o mount.legal at.1 in
          let with_ : IsBegunWith i w is.g = begun_with i w is.g mount.legal is.is_begun in
          let seq : o.start.seq ≡ is.g.beginning.seq + at.0 = seq_of_nth i w at.0 o is.g mount.legal is.is_begun at.1 in
          let next : is.g.beginning.seq ≡ h.seq + 1 = with_.seq ∙ ap next_seq is_head in
          absurd (omega arith)

      each : AllByRecursion Fits (map (λ (p : Opening). p.start) (filter (has_landed_start i.shape log) (openings log)))
      each = all_mapped Fits (λ (p : Opening). p.start) (filter (has_landed_start i.shape log) (openings log))
          (all_filter (λ (p : Opening). Fits p.start) (has_landed_start i.shape log) (openings log)
          (all_by_get (λ (p : Opening). Fits p.start) (openings log) (λ k p at newer. front_synced i w k p mount.legal at)))
