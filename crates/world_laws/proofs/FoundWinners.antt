-- The winners, as they are found.
use Rattle.std.proofs.Common.{◌≡◌, ℕ, ◌*◌, ◌<◌, Option, Some, None, length, refl, sym, subst, ap, ◌∙◌, arith}
use Rattle.std.specs.List.{Contains, slice_get, filter_map, range_with_len}
use Rattle.std.specs.Option.{option_map}
use Rattle.std.proofs.lemmas.Option.{none-some, same_Some}
use Rattle.pblk_model.specs.declared.found.Found.{Found}
use Rattle.pblk_model.specs.declared.found.Winner.{Winner}
use Rattle.pblk_model.specs.Found.{WinnerFits, online_units}
use Rattle.pblk_model.specs.LineOrder.{column_of}
use Rattle.pblk_model.specs.Image.{Image, IsFit, line_units, width}
use Rattle.pblk_model.specs.StartRecord.{StartRecord}
use Rattle.pblk_model.specs.Records.{Record}
use Rattle.pblk_model.specs.Contents.{IsWinner, counted, winner}
use Rattle.pblk_laws.proofs.LineUnits.{line_units_count}
use Rattle.pblk_laws.proofs.RecordPlaces.{counted_alike}
use Rattle.pblk_laws.proofs.Winners.{winner_is_winner}
use Rattle.world_laws.specs.Finding.{IsFoundOf, line_row, winner_of, winner_with}
use Rattle.world_laws.proofs.FoundCounts.{below_top}
use Rattle.world_laws.proofs.NumberedLists.{made_of, made_rise, made_once}
use Rattle.world_laws.proofs.WrittenBlocks.{IsInClosed, IsOfBlock, counted_of, written_in}
use Rattle.world_laws.proofs.FoundRows.{row_at}
use Rattle.world_laws.proofs.FoundStates.{state_of, state_is, live_are}

-- a winner is that of a sector
pub record IsWinnerOf (i : Image) (lba : ℕ) (w : Winner) : Type 0 where
  pub winning : Record
  pub is_winner : IsWinner (counted i) lba winning
  pub has : winner (counted i) lba ≡ Some winning
  pub is : winner_with lba winning ≡ w

pub won : (i : Image) (lba : ℕ) (w : Winner) → winner_of i lba ≡ Some w → IsWinnerOf i lba w
won i lba w e = go (winner (counted i) lba) refl e
  where
    go : (o : Option Record) → winner (counted i) lba ≡ o → option_map (winner_with lba) o ≡ Some w → IsWinnerOf i lba w
    go None is h = absurd (none-some w h)
    go (Some r) is h = record { winning = r; is_winner = winner_is_winner i lba r is; has = is; is = same_Some (winner_with lba r) w h }

pub names_its_sector : (i : Image) (lba : ℕ) (w : Winner) → winner_of i lba ≡ Some w → w.lba ≡ lba
names_its_sector i lba w e = ap (λ (v : Winner). v.lba) (sym (won i lba w e).is)

pub winner_at : (i : Image) (f : Found) (k : ℕ) (w : Winner) → IsFoundOf i f → slice_get f.winners k ≡ Some w
    → slice_get (filter_map (winner_of i) (range_with_len 0 i.shape.capacity)) k ≡ Some w
winner_at i f k w is there = ap (λ ws. slice_get ws k) (sym is.winners_are) ∙ there

pub winners_rise : (i : Image) (f : Found) (j k : ℕ) (v w : Winner) → IsFoundOf i f → j < k → slice_get f.winners j ≡ Some v → slice_get f.winners k ≡ Some w
    → v.lba < w.lba
winners_rise i f j k v w is before a b =
    made_rise (winner_of i) (λ (x : Winner). x.lba) (names_its_sector i) 0 i.shape.capacity j k v w before (winner_at i f j v is a) (winner_at i f k w is b)

-- ---- a winner fits

fits_record : (i : Image) (f : Found) (lba : ℕ) (r : Record) → IsFit i → IsFoundOf i f → lba < i.shape.capacity → Contains (counted i) r
    → WinnerFits i.shape f (winner_with lba r)
fits_record i f lba r fit is inside there =
    let of : IsOfBlock i r = counted_of i r there in
    let place : IsInClosed i r.line r.at = written_in i r.line r.at of.block fit of.is_block in
    let live : online_units i.shape f r.line ≡ line_units i r.line = live_are i f r.line fit is of.line in
    let wide : length (online_units i.shape f r.line) ≡ width i r.line = ap (λ us. length us) live ∙ line_units_count i r.line in
    record {
      sector = inside;
      row = line_row i r.line;
      row_is = row_at i f r.line is of.line;
      seq = of.start.seq;
      seq_is = ap (option_map (λ (s : StartRecord). s.seq)) of.is_start;
      below_top = below_top (counted i) r there;
      at = subst (λ n. r.at < n * i.shape.clba) (sym wide) of.at;
      unit = place.unit;
      unit_is = ap (λ us. slice_get us (column_of i.shape (length (online_units i.shape f r.line)) r.at)) live
          ∙ ap (λ n. slice_get (line_units i r.line) (column_of i.shape n r.at)) wide ∙ place.is_unit;
      closed = state_is i f r.line place.unit fit is of.line ∙ ap (option_map state_of) place.is_chunk ∙ ap (λ s. Some s) place.closed;
    }

pub winner_fits : (i : Image) (f : Found) (k : ℕ) (w : Winner) → IsFit i → IsFoundOf i f → slice_get f.winners k ≡ Some w → WinnerFits i.shape f w
winner_fits i f k w fit is there =
    let of = made_of (winner_of i) 0 i.shape.capacity k w (winner_at i f k w is there) in
    let one : IsWinnerOf i of.0 w = won i of.0 w of.3 in
    subst (WinnerFits i.shape f) one.is (fits_record i f of.0 one.winning fit is (omega (arith, of.2)) one.is_winner.there)

-- ---- two winners of one block are one

same_lba : (o : Option ℕ) (m n : ℕ) → o ≡ Some m → o ≡ Some n → m ≡ n
same_lba o m n e f = same_Some m n (sym e ∙ f)

pub winners_apart : (i : Image) (f : Found) (j k : ℕ) (v w : Winner) → IsFoundOf i f → slice_get f.winners j ≡ Some v → slice_get f.winners k ≡ Some w
    → v.line ≡ w.line → v.at ≡ w.at → j ≡ k
winners_apart i f j k v w is a b lines ats =
    let of = made_of (winner_of i) 0 i.shape.capacity j v (winner_at i f j v is a) in
    let also = made_of (winner_of i) 0 i.shape.capacity k w (winner_at i f k w is b) in
    let one : IsWinnerOf i of.0 v = won i of.0 v of.3 in
    let two : IsWinnerOf i also.0 w = won i also.0 w also.3 in
    let line : one.winning.line ≡ two.winning.line = ap (λ (x : Winner). x.line) one.is ∙ lines ∙ ap (λ (x : Winner). x.line) (sym two.is) in
    let at : one.winning.at ≡ two.winning.at = ap (λ (x : Winner). x.at) one.is ∙ ats ∙ ap (λ (x : Winner). x.at) (sym two.is) in
    let alike : one.winning ≡ two.winning = counted_alike i one.winning two.winning one.is_winner.there two.is_winner.there line at in
    let sector : of.0 ≡ also.0 = same_lba one.winning.lba of.0 also.0 one.is_winner.of_it (ap (λ (r : Record). r.lba) alike ∙ two.is_winner.of_it) in
    made_once (winner_of i) (λ (x : Winner). x.lba) (names_its_sector i) 0 i.shape.capacity j k v w (winner_at i f j v is a) (winner_at i f k w is b)
    (names_its_sector i of.0 v of.3 ∙ sector ∙ sym (names_its_sector i also.0 w also.3))
