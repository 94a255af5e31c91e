-- The newest counted records, one more at a time.
use Rattle.std.proofs.Common.{◌≡◌, ℕ, ◌+◌, ◌<◌, ◌≤◌, Bool, true, false, cond, List, [], ◌∷◌, ◌++◌, length, take, get_or, Option, Some, None, refl, sym, ap, ◌∙◌, arith, append_assoc, append-nil}
use Rattle.std.specs.List.{filter, filter_map, flat_map, range_with_len, slice_get, slice_set}
use native.Mathlib.Decide.{ℕ_discrete}
use Rattle.pblk_model.specs.declared.found.Winner.{Winner}
use Rattle.pblk_model.specs.Image.{Image}
use Rattle.pblk_model.specs.Records.{Record, line_records, records}
use Rattle.pblk_model.specs.StartRecord.{StartRecord}
use Rattle.pblk_model.specs.Contents.{counted, counted_after, counts, end, end_after, head, newer, is_of, winner}
use Rattle.pblk_model.proofs.ContentsLemmas.{of_same, filter_one, winner_more, of_other}
use Rattle.image_check.specs.Right.{win_by, wins_of}
use Rattle.pblk_model.specs.Tables.{IsTable}
use Rattle.pblk_model.proofs.TableLemmas.{get_table, table_same, table_set, take_one}
use Rattle.pblk_model.proofs.Maps.{filter_map_none, range_from_0}

other_lba : (rs : List Record) (r : Record) (lba : ℕ) → is_of lba r.lba ≡ false → winner (rs ++ r ∷ []) lba ≡ winner rs lba
other_lba rs r lba other = winner_more rs r lba ∙ ap (λ x. cond x (newer (winner rs lba) r) (winner rs lba)) other

pub noted_void : (n : ℕ) (rs : List Record) (best : List (Option Record)) (r : Record) → IsTable n (winner rs) best → r.lba ≡ None
    → IsTable n (winner (rs ++ r ∷ [])) best
noted_void n rs best r h void = table_same n (winner rs) (winner (rs ++ r ∷ [])) best h (λ k below. other_lba rs r k (ap (is_of k) void))

pub noted_past : (n : ℕ) (rs : List Record) (best : List (Option Record)) (r : Record) (lba : ℕ) → IsTable n (winner rs) best → r.lba ≡ Some lba
    → length best ≤ lba
    → IsTable n (winner (rs ++ r ∷ [])) best
noted_past n rs best r lba h is past =
    table_same n (winner rs) (winner (rs ++ r ∷ [])) best h (λ k below. other_lba rs r k (of_other lba k r.lba is (λ e. omega (arith, h.count))))

module _ (n : ℕ) (rs : List Record) (best : List (Option Record)) (r : Record) (lba : ℕ) (old : Option Record) (h : IsTable n (winner rs) best)
    (is : r.lba ≡ Some lba) (there : slice_get best lba ≡ Some old) (inside : lba < length best) where
  won : winner (rs ++ r ∷ []) lba ≡ newer old r
  won = winner_more rs r lba ∙ ap (λ b. cond b (newer (winner rs lba) r) (winner rs lba)) (of_same lba r.lba is)
      ∙ ap (λ o. newer o r) (get_table n (winner rs) best lba old h there)

  pub noted_older : newer old r ≡ old → IsTable n (winner (rs ++ r ∷ [])) best
  noted_older same = table_same n (winner rs) (winner (rs ++ r ∷ [])) best h (λ k below. at_place k (ℕ_discrete k lba)) where
    at_place : (k : ℕ) → Dec (k ≡ lba) → winner (rs ++ r ∷ []) k ≡ winner rs k
    at_place k (yes e) = ap (winner (rs ++ r ∷ [])) e ∙ won ∙ same ∙ sym (get_table n (winner rs) best lba old h there) ∙ ap (winner rs) (sym e)
    at_place k (no other) = other_lba rs r k (of_other lba k r.lba is other)

  pub noted_newer : newer old r ≡ Some r → IsTable n (winner (rs ++ r ∷ [])) (slice_set best lba (Some r))
  noted_newer new = table_set n (winner rs) (winner (rs ++ r ∷ [])) best lba (Some r) h (omega (arith, h.count)) (won ∙ new)
      (λ k other. other_lba rs r k (of_other lba k r.lba is other))

-- Of some records more those that count.

pub counted_yes : (p : Record → Bool) (rs more : List Record) (k : ℕ) (d : Record) → k < length more → p (get_or more k d) ≡ true
    → filter p (rs ++ take (k + 1) more) ≡ filter p (rs ++ take k more) ++ get_or more k d ∷ []
counted_yes p rs more k d inside passes =
    let r : Record = get_or more k d in
    ap (λ xs. filter p (rs ++ xs)) (take_one more k d inside) ∙ ap (filter p) (sym (append_assoc rs (take k more) (r ∷ [])))
    ∙ filter_one p (rs ++ take k more) r ∙ ap (λ b. filter p (rs ++ take k more) ++ cond b (r ∷ []) []) passes

pub counted_no : (p : Record → Bool) (rs more : List Record) (k : ℕ) (d : Record) → k < length more → p (get_or more k d) ≡ false
    → filter p (rs ++ take (k + 1) more) ≡ filter p (rs ++ take k more)
counted_no p rs more k d inside fails =
    let r : Record = get_or more k d in
    ap (λ xs. filter p (rs ++ xs)) (take_one more k d inside) ∙ ap (filter p) (sym (append_assoc rs (take k more) (r ∷ [])))
    ∙ filter_one p (rs ++ take k more) r ∙ ap (λ b. filter p (rs ++ take k more) ++ cond b (r ∷ []) []) fails ∙ append-nil (filter p (rs ++ take k more))

-- Of the records of some lines more.
pub lines_more : (i : Image) (n : ℕ) → flat_map (line_records i) (range_with_len 0 (n + 1)) ≡ flat_map (line_records i) (range_with_len 0 n) ++ line_records i n
lines_more i n = ap (flat_map (line_records i)) (range_from_0 n) ∙ more (range_with_len 0 n) n where
  more : (xs : List ℕ) (x : ℕ) → flat_map (line_records i) (xs ++ x ∷ []) ≡ flat_map (line_records i) xs ++ line_records i x
  more [] x = append-nil (line_records i x)
  more (y ∷ xs) x = ap (λ rs. line_records i y ++ rs) (more xs x)
      ∙ sym (append_assoc (line_records i y) (flat_map (line_records i) xs) (line_records i x))

pub lines_moved : (j i : Image) (m n : ℕ) (more : List Record) → j ≡ i → m ≡ n → more ≡ line_records j m
    → flat_map (line_records i) (range_with_len 0 n) ++ more ≡ flat_map (line_records i) (range_with_len 0 (n + 1))
lines_moved j i m n more image number is =
    ap (λ rs. flat_map (line_records i) (range_with_len 0 n) ++ rs) (is ∙ ap (λ k. line_records k m) image ∙ ap (line_records i) number) ∙ sym (lines_more i n)

-- the records that count, where the head and the end are known
pub all_counted : (i : Image) (h : StartRecord) (last n : ℕ) → Some h ≡ head i → last ≡ end i → n ≡ i.shape.chunks
    → filter (counts h last) (flat_map (line_records i) (range_with_len 0 n)) ≡ counted i
all_counted i h last n is end-is all =
    ap (λ m. filter (counts h last) (flat_map (line_records i) (range_with_len 0 m))) all
    ∙ ap (λ p. filter (counts h p) (records i)) (end-is ∙ ap (end_after (records i)) (sym is))
    ∙ ap (counted_after (records i)) is

-- without a head no sector has one
pub no_wins : (i : Image) → None ≡ head i → [] ≡ wins_of i
no_wins i none =
    sym (ap (λ rs. filter_map (λ lba. win_by lba (winner rs lba)) (range_with_len 0 i.shape.capacity)) (ap (counted_after (records i)) (sym none))
    ∙ filter_map_none (λ lba. win_by lba (winner [] lba)) (range_with_len 0 i.shape.capacity) (λ lba. refl))

abbrev place : ℕ → ℕ → ℕ → ℕ → Winner
place lba position line at = record { lba = lba; position = position; line = line; at = at }

-- where a record stands
pub place_of : (lba position line at : ℕ) (r : Record) → position ≡ r.position → line ≡ r.line → at ≡ r.at
    → Some (place lba position line at) ≡ win_by lba (Some r)
place_of lba position line at r p l a = cc
