-- Lemmas on the words of Contents.
use Rattle.std.proofs.Common.{Bool, Option, Some, ap, arith, cond, false, length, refl, suc, sym, true, ℕ, ◌+◌, ◌-◌, ◌<◌, ◌∙◌, ◌≡◌, ◌≤◌, ◌≢◌, ◌++◌, ◌∷◌, append-nil, List, [], None}
use Rattle.std.proofs.lemmas.Bool.{eq-eqb, ne_eqb}
use Rattle.std.proofs.lemmas.List.FromFn.{length-map-range_with_len}
use Rattle.pblk_model.specs.Contents.{contents, is_of, least_missing, sector_of, newer, newest, winner, later_start, head_to}
use Rattle.pblk_model.specs.Image.{Image}
use Rattle.std.proofs.lemmas.List.Elements.{filter-append}
use Rattle.std.proofs.lemmas.Grind.{fold-append}
use Rattle.pblk_model.specs.Records.{Record}
use Rattle.std.specs.List.{filter, cons_option, fold, range_with_len, filter_map}
use Rattle.std.specs.Option.{option_map_or}
use Rattle.pblk_model.specs.StartRecord.{StartRecord, start_of}
use Rattle.pblk_model.proofs.Maps.{made_last}

pub contents_count : (i : Image) → length (contents i) ≡ i.shape.capacity
contents_count i = length-map-range_with_len (sector_of i) 0 i.shape.capacity

pub missing_stops : (borne : ℕ → Bool) (n i p total : ℕ) → i < n → borne p ≡ false → least_missing borne (n - i) p ≡ total → p ≡ total
unfolding least_missing
missing_stops borne n i p total lt free so_far =
    let k : n - i ≡ suc (n - (i + 1)) = omega arith in
    sym (ap (λ m. least_missing borne m p) k ∙ ap (λ b. cond b (least_missing borne (n - (i + 1)) (p + 1)) p) free) ∙ so_far

pub missing_goes_on : (borne : ℕ → Bool) (n i p total : ℕ) → i < n → borne p ≡ true → least_missing borne (n - i) p ≡ total
    → least_missing borne (n - (i + 1)) (p + 1) ≡ total
unfolding least_missing
missing_goes_on borne n i p total lt taken so_far =
    let k : n - i ≡ suc (n - (i + 1)) = omega arith in
    sym (ap (λ m. least_missing borne m p) k ∙ ap (λ b. cond b (least_missing borne (n - (i + 1)) (p + 1)) p) taken) ∙ so_far

pub missing_is : (borne : ℕ → Bool) (n i p total : ℕ) → n ≤ i → least_missing borne (n - i) p ≡ total → p ≡ total
unfolding least_missing
missing_is borne n i p total le so_far = let k : n - i ≡ 0 = omega arith in sym (ap (λ m. least_missing borne m p) k) ∙ so_far

pub of_same : (lba : ℕ) (o : Option ℕ) → o ≡ Some lba → is_of lba o ≡ true
of_same lba o e = ap (is_of lba) e ∙ eq-eqb lba lba refl

-- one record more
pub filter_one : (p : Record → Bool) (rs : List Record) (r : Record) → filter p (rs ++ r ∷ []) ≡ filter p rs ++ cond (p r) (r ∷ []) []
filter_one p rs r = filter-append p rs (r ∷ [])

newest_one : (rs : List Record) (b : Bool) (r : Record) → newest (rs ++ cond b (r ∷ []) []) ≡ cond b (newer (newest rs) r) (newest rs)
newest_one rs true r = fold-append newer None rs (r ∷ [])
newest_one rs false r = fold-append newer None rs []

pub winner_more : (rs : List Record) (r : Record) (lba : ℕ) → winner (rs ++ r ∷ []) lba ≡ cond (is_of lba r.lba) (newer (winner rs lba) r) (winner rs lba)
winner_more rs r lba = ap newest (filter_one (λ r. is_of lba r.lba) rs r) ∙ newest_one (filter (λ r. is_of lba r.lba) rs) (is_of lba r.lba) r

-- another sector isn't the record's
pub of_other : (lba j : ℕ) (o : Option ℕ) → o ≡ Some lba → j ≢ lba → is_of j o ≡ false
of_other lba j o e other = ap (is_of j) e ∙ ne_eqb lba j (λ x. other (sym x))

-- the latest of some starts, and of one more
pub fold_option : (rs : List StartRecord) (o : Option StartRecord)
    → fold later_start None (rs ++ cons_option o []) ≡ option_map_or (later_start (fold later_start None rs)) o (fold later_start None rs)
fold_option rs None = ap (fold later_start None) (append-nil rs)
fold_option rs (Some r) = fold-append later_start None rs (r ∷ [])

pub head_one : (i : Image) (n : ℕ) → head_to i (n + 1) ≡ option_map_or (later_start (head_to i n)) (start_of i n) (head_to i n)
unfolding head_to
head_one i n = ap (fold later_start None) (made_last (start_of i) n) ∙ fold_option (filter_map (start_of i) (range_with_len 0 n)) (start_of i n)
