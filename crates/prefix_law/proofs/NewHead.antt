-- An image whose head is of the mount that followed a found one is assembled from that mount's
-- entries.
use Rattle.std.proofs.Common.{◌≡◌, inl, inr, ℕ, ◌<◌, ◌≤◌, Bool, true, false, Some, None, Option, refl, sym, subst, ap, ◌∙◌, arith}
use Rattle.std.specs.List.{Contains}
use Rattle.std.specs.Option.{option_map_or}
use Rattle.pblk_model.specs.declared.shape.Shape.{Shape}
use Rattle.pblk_model.specs.Bytes.{zeros}
use Rattle.pblk_model.specs.Image.{Image}
use Rattle.pblk_model.specs.StartRecord.{Row, StartRecord}
use Rattle.pblk_model.specs.Records.{Record, line_records, records}
use Rattle.pblk_model.specs.Contents.{Bears, IsWinner, head, end, counted, winner, sector_of}
use Rattle.pblk_world.specs.Lines.{next_seq}
use Rattle.pblk_world.specs.Starts.{bound_by}
use Rattle.pblk_laws.proofs.Winners.{winner_is_winner, no_winner_no_record}
use Rattle.pblk_model.proofs.Lists.{among_contained}
use Rattle.pblk_model.proofs.Parts.{contained_among}
use Rattle.world_laws.proofs.FoundCounts.{bound_within, seq_older}
use Rattle.prefix_law.specs.Assembled.{Given, Entries, IsEntry, IsEntryOf, by_row, CountsOld, HoldsUnder, IsAssembled}
use Rattle.prefix_law.specs.AfterMount.{start_rows, IsOldLine, IsAfterMount, IsBorneAnew, StandsUnder, HasNewHead}
use Rattle.prefix_law.proofs.OldRows.{IsByRow, by_row_is, is_by_row, IsRowFound, row_from, counts_still, IsOldCounted, counted_by_row}
use Rattle.prefix_law.proofs.RecordLines.{IsAt, record_is_at}
use Rattle.prefix_law.proofs.Reduced.{old_record}

module _ (found now : Image) (es : Entries) (front : ℕ) (c : IsAfterMount found now es front) where
  -- ---- a record is an old line's or a new one's

  pub old_below : (line : ℕ) (r : StartRecord) → line < now.shape.chunks → IsOldLine found now line r → r.seq < next_seq (head found)
  old_below line r inside old = seq_older found line r (subst (λ (s : Shape). line < s.chunks) c.shape inside) old.start

  was_found : (x : Record) → Contains (records now) x → x.seq < next_seq (head found) → Contains (records found) x
  was_found x there low =
      let at : IsAt now x = record_is_at now x there in
      elim (c.lines x.line at.start at.in_range at.whole) [
        | inl old ↦ old_record found now x c.shape at old
        | inr new ↦ (let high : next_seq (head found) ≤ at.start.seq = new.start.seq in let same : x.seq ≡ at.start.seq = at.seq in absurd (omega arith))
      ]

  of_entry : (x : Record) → Contains (records now) x → next_seq (head found) ≤ x.seq
      → (g : Given) × IsEntry es x.position g × (x.lba ≡ g.lba) × (x.sector ≡ g.sector)
  of_entry x there high =
      let at : IsAt now x = record_is_at now x there in
      elim (c.lines x.line at.start at.in_range at.whole) [
        | inl old ↦
            let low : at.start.seq < next_seq (head found) = old_below x.line at.start at.in_range old in
            let same : x.seq ≡ at.start.seq = at.seq in
            absurd (omega arith)
        | inr new ↦ new.bears x (contained_among (line_records now x.line) x at.there)
      ]

  module _ (h : StartRecord) (n : HasNewHead found now es front h) where
    first_seq : h.first_seq ≡ next_seq (head found)
    first_seq = n.start.first_seq

    -- ---- rows

    record IsRowThere (x : Record) : Type 0 where
      row : Row
      by_it : IsByRow (start_rows found) x row
      is_found : IsRowFound found row

    row_there : (x : Record) → by_row h x ≡ true → IsRowThere x
    row_there x is =
        let at = by_row_is h x is in
        let there : Contains (start_rows found) at.0 = n.start.rows at.0 (contained_among h.rows at.0 at.1.there) in record {
          row = at.0;
          by_it = record { there = among_contained (start_rows found) at.0 there; line = at.1.line; seq = at.1.seq; below = at.1.below };
          is_found = row_from found at.0 (among_contained (start_rows found) at.0 there);
        }

    no_rows : (x : Record) → Contains (records now) x → h.first_seq ≤ x.seq → by_row h x ≡ false
    no_rows x there mount = go (by_row h x) refl
      where
        go : (b : Bool) → by_row h x ≡ b → b ≡ false
        go false is = refl
        go true is =
            let at : IsRowThere x = row_there x is in
            let seq : at.is_found.start.seq ≡ x.seq = ap (λ (row : Row). row.seq) at.is_found.is ∙ at.by_it.seq in
            let low : at.is_found.start.seq < next_seq (head found) =
            seq_older found at.is_found.line at.is_found.start at.is_found.in_range at.is_found.whole in
            let first = first_seq in
            absurd (omega arith)

    old_low : (x : Record) → by_row h x ≡ true → x.position < es.first
    old_low x is =
        let at : IsRowThere x = row_there x is in
        let bound : bound_by (head found) (end found) at.is_found.line at.is_found.start.seq ≡ at.row.bound = ap (λ (row : Row). row.bound) at.is_found.is in
        let low : bound_by (head found) (end found) at.is_found.line at.is_found.start.seq ≤ end found =
        bound_within found (head found) (end found) at.is_found.line at.is_found.start.seq refl refl in
        let below : x.position < at.row.bound = at.by_it.below in
        let first : es.first ≡ end found = c.first in
        omega arith

    -- ---- what counts under the entries is what counted

    counted_still : (lba : ℕ) (x : Record) → CountsOld now h lba x → Contains (counted found) x
    counted_still lba x old =
        let at : IsRowThere x = row_there x old.row in
        let less : x.seq < h.first_seq = old.old in
        let first = first_seq in
        counts_still found x at.row (was_found x old.there (omega arith)) at.by_it

    still_counts : (lba : ℕ) (x : Record) → Contains (counted found) x → x.lba ≡ Some lba → StandsUnder found now h x → CountsOld now h lba x
    still_counts lba x there of_it stands =
        let of : IsOldCounted found x = counted_by_row found x there in
        let at : IsAt found x = record_is_at found x of.there in
        let low : at.start.seq < next_seq (head found) = seq_older found x.line at.start at.in_range at.whole in
        let same : x.seq ≡ at.start.seq = at.seq in
        let first = first_seq in
        let row : Contains h.rows of.row = stands.rows of.row (contained_among (start_rows found) of.row of.by_it.there) of.by_it.line in record {
          there = stands.there;
          old = omega arith;
          row = is_by_row h x of.row (record { there = among_contained h.rows of.row row; line = of.by_it.line; seq = of.by_it.seq; below = of.by_it.below });
          of_it = of_it;
        }

    holds_under : (lba : ℕ) → ((p : ℕ) → IsEntryOf es lba p → p < front → ⊥) → HoldsUnder now h lba (sector_of found lba)
    holds_under lba none = go (winner (counted found) lba) refl
      where
        go : (o : Option Record) → winner (counted found) lba ≡ o → HoldsUnder now h lba (sector_of found lba)
        go None e = inr (
          λ x old. no_winner_no_record (counted found) lba x e (counted_still lba x old) old.of_it,
          ap (λ o. option_map_or (λ (x : Record). x.sector) o (zeros found.shape.sector)) e ∙ ap (λ (s : Shape). zeros s.sector) (sym c.shape),
        )
        go (Some x) e =
            let wins : IsWinner (counted found) lba x = winner_is_winner found lba x e in
            inl (
              x,
              record {
                counts = still_counts lba x wins.there wins.of_it (n.under lba x e none);
                sector = sym (ap (λ o. option_map_or (λ (y : Record). y.sector) o (zeros found.shape.sector)) e);
                newest = λ other old. wins.newest other (counted_still lba other old) old.of_it;
              },
            )

    -- ---- all together

    borne_by : (p : ℕ) → (x : Record) × IsBorneAnew found now p x → (x : Record) × Contains (records now) x × Bears h p x
    borne_by p b =
        let high : next_seq (head found) ≤ b.0.seq = b.1.seq in
        let first = first_seq in
        (b.0, b.1.there, record { mount = omega arith; position = b.1.position })

    pub assembled : IsAssembled now h es front (sector_of found)
    assembled = record {
      head = n.head;
      from = n.start.within;
      within = c.within;
      young = λ x there mount. of_entry x there (let first = first_seq in omega arith);
      rows = λ x there mount. no_rows x there mount;
      old = λ x there old row. old_low x row;
      borne = λ p from below. borne_by p (n.borne p from below);
      kept = λ lba p last. borne_by p (n.kept lba p last);
      under = λ lba none. holds_under lba none;
    }
