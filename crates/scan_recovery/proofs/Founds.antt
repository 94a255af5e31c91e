-- What a survey of all lines comes to, in the model's terms.
use Rattle.std.proofs.Common.{◌≡◌, ℕ, ◌+◌, ◌<◌, ◌==◌, ◌&&◌, ◌||◌, nat_le, max, Bool, true, false, cond, not, List, [], ◌∷◌, ◌++◌, length, map, get_or, Option, Some, None, refl, sym, ap, ◌∙◌, arith, append-nil, zero-add}
use Rattle.std.specs.List.{cons_option, filter, filter_map, fold, range_with_len}
use Rattle.std.specs.Option.{is_some, option_map}
use Rattle.std.proofs.Math.Path.{fun_ext}
use Rattle.std.proofs.lemmas.List.{length-map}
use Rattle.std.proofs.lemmas.List.Elements.{filter-append}
use Rattle.std.proofs.lemmas.Option.{same_Some, slice_get-get_or}
use Rattle.pblk_model.specs.declared.found.Winner.{Winner}
use Rattle.pblk_model.specs.Image.{Image}
use Rattle.pblk_model.specs.StartRecord.{StartRecord, start_of}
use Rattle.pblk_model.specs.Records.{Record}
use Rattle.pblk_model.specs.Contents.{is_borne, least_missing, end_after, is_newer, newer, newest, is_of, winner}
use Rattle.pblk_laws.proofs.FilledLists.{range_split}
use Rattle.pblk_world.specs.Lines.{are_empty, is_stray}
use Rattle.world_laws.specs.Finding.{top_of, winner_with}
use Rattle.scan_recovery.specs.declared.survey.SeenLine.{SeenLine}
use Rattle.scan_recovery.specs.declared.trace.Trace.{Trace}
use Rattle.scan_recovery.specs.Survey.{seen_line}
use Rattle.scan_recovery.specs.Traces.{bare, without_sector}
use Rattle.scan_recovery.proofs.Tallies.{row_there}
use Rattle.pblk_model.proofs.StartRecordLemmas.{some_seq}
use Rattle.pblk_model.specs.Tables.{IsTable}
use Rattle.pblk_model.proofs.Maps.{made_last}

abbrev pub thin : List Record → List Record
thin rs = map without_sector rs

-- Sectors change nothing of what counts.

borne_thin : (rs : List Record) (h : StartRecord) (p : ℕ) → is_borne (thin rs) h p ≡ is_borne rs h p
borne_thin [] h p = refl
borne_thin (r ∷ rs) h p = ap (λ b. (nat_le h.first_seq r.seq && (r.position == p)) || b) (borne_thin rs h p)

pub end_thin : (rs : List Record) (o : Option StartRecord) → end_after (thin rs) o ≡ end_after rs o
end_thin rs None = refl
end_thin rs (Some h) = ap (λ f. least_missing f (length (thin rs)) h.front) (fun_ext (λ p. borne_thin rs h p))
    ∙ ap (λ n. least_missing (is_borne rs h) n h.front) (length-map rs without_sector)

pub filter_thin : (p : Record → Bool) (rs : List Record) → ((r : Record) → p (without_sector r) ≡ p r) → filter p (thin rs) ≡ thin (filter p rs)
filter_thin p [] same = refl
filter_thin p (r ∷ rs) same = ap (λ b. cond b (without_sector r ∷ filter p (thin rs)) (filter p (thin rs))) (same r)
    ∙ ap (λ xs. cond (p r) (without_sector r ∷ xs) xs) (filter_thin p rs same) ∙ by (p r) where
      by : (b : Bool) → cond b (without_sector r ∷ thin (filter p rs)) (thin (filter p rs)) ≡ thin (cond b (r ∷ filter p rs) (filter p rs))
      by true = refl
      by false = refl

newer_thin : (o : Option Record) (r : Record) → newer (option_map without_sector o) (without_sector r) ≡ option_map without_sector (newer o r)
newer_thin None r = refl
newer_thin (Some best) r = by (is_newer best r) where
  by : (b : Bool) → cond b (Some (without_sector r)) (Some (without_sector best)) ≡ option_map without_sector (cond b (Some r) (Some best))
  by true = refl
  by false = refl

fold_thin : (o : Option Record) (rs : List Record) → fold newer (option_map without_sector o) (thin rs) ≡ option_map without_sector (fold newer o rs)
fold_thin o [] = refl
fold_thin o (r ∷ rs) = ap (λ x. fold newer x (thin rs)) (newer_thin o r) ∙ fold_thin (newer o r) rs

pub winner_thin : (rs : List Record) (lba : ℕ) → winner (thin rs) lba ≡ option_map without_sector (winner rs lba)
winner_thin rs lba = ap newest (filter_thin (λ r. is_of lba r.lba) rs (λ r. refl)) ∙ fold_thin None (filter (λ r. is_of lba r.lba) rs)

tops_thin : (top : ℕ) (rs : List Record) → fold (λ top r. max top (r.position + 1)) top (thin rs) ≡ fold (λ top r. max top (r.position + 1)) top rs
tops_thin top [] = refl
tops_thin top (r ∷ rs) = tops_thin (max top (r.position + 1)) rs

pub top_thin : (rs : List Record) (line : ℕ) → top_of (thin rs) line ≡ top_of rs line
top_thin rs line = ap (fold (λ top r. max top (r.position + 1)) 0) (filter_thin (λ r. r.line == line) rs (λ r. refl))
    ∙ tops_thin 0 (filter (λ r. r.line == line) rs)

-- Loops.

pub filter_range_one : (p : ℕ → Bool) (n : ℕ) → filter p (range_with_len 0 (n + 1)) ≡ filter p (range_with_len 0 n) ++ cond (p n) (n ∷ []) []
filter_range_one p n = ap (filter p) (range_split 0 n 1) ∙ filter-append p (range_with_len 0 n) ((0 + n) ∷ [])
    ∙ ap (λ k. filter p (range_with_len 0 n) ++ cond (p k) (k ∷ []) []) (zero-add n)

pub won : (f : ℕ → Option Record) (best : List (Option Trace)) (k : ℕ) (d : Option Trace) (t : Trace) (front now : List Winner)
    → IsTable (length best) f (map (option_map bare) best) → k < length best → get_or best k d ≡ Some t
    → now ≡ front ++ winner_with k (bare t) ∷ [] → front ≡ filter_map (λ lba. option_map (winner_with lba) (f lba)) (range_with_len 0 k)
    → now ≡ filter_map (λ lba. option_map (winner_with lba) (f lba)) (range_with_len 0 (k + 1))
won f best k d t front now table inside is now-is front-is =
    let here : f k ≡ Some (bare t) = sym (row_there (length best) f (option_map bare) best k d table inside) ∙ ap (option_map bare) is in
    now-is ∙ ap (λ ws. ws ++ winner_with k (bare t) ∷ []) front-is
    ∙ sym (made_last (λ lba. option_map (winner_with lba) (f lba)) k
    ∙ ap (λ o. filter_map (λ lba. option_map (winner_with lba) (f lba)) (range_with_len 0 k) ++ cons_option (option_map (winner_with k) o) []) here)

pub unwon : (f : ℕ → Option Record) (best : List (Option Trace)) (k : ℕ) (d : Option Trace) (front : List Winner)
    → IsTable (length best) f (map (option_map bare) best) → k < length best → get_or best k d ≡ None
    → front ≡ filter_map (λ lba. option_map (winner_with lba) (f lba)) (range_with_len 0 k)
    → front ≡ filter_map (λ lba. option_map (winner_with lba) (f lba)) (range_with_len 0 (k + 1))
unwon f best k d front table inside is front-is =
    let here : f k ≡ None = sym (row_there (length best) f (option_map bare) best k d table inside) ∙ ap (option_map bare) is in
    front-is ∙ sym (made_last (λ lba. option_map (winner_with lba) (f lba)) k
    ∙ ap (λ o. filter_map (λ lba. option_map (winner_with lba) (f lba)) (range_with_len 0 k) ++ cons_option (option_map (winner_with k) o) []) here
    ∙ append-nil (filter_map (λ lba. option_map (winner_with lba) (f lba)) (range_with_len 0 k)))

pub there : {X : Type 0} (n : ℕ) (f : ℕ → X) (xs : List X) (k : ℕ) (d : X) → IsTable n f xs → k < length xs → get_or xs k d ≡ f k
there n f xs k d h inside = same_Some (get_or xs k d) (f k) (sym (slice_get-get_or xs k d inside) ∙ h.each k (omega (arith, h.count)))

stray_is : (i : Image) (k : ℕ) (x : SeenLine) (b : Bool) → x ≡ seen_line i k → (not (is_some x.seq) && x.used) ≡ b → is_stray i k ≡ b
unfolding seen_line
stray_is i k x b is h =
    sym (sym h ∙ ap (λ (y : SeenLine). not (is_some y.seq) && y.used) is ∙ ap (λ c. not c && not (are_empty i k)) (some_seq (start_of i k)))

pub stray_more : (i : Image) (lines : List SeenLine) (k : ℕ) (d : SeenLine) (front now : List ℕ) → IsTable (length lines) (seen_line i) lines → k < length lines
    → (not (is_some (get_or lines k d).seq) && (get_or lines k d).used) ≡ true
    → now ≡ front ++ k ∷ [] → front ≡ filter (is_stray i) (range_with_len 0 k) → now ≡ filter (is_stray i) (range_with_len 0 (k + 1))
stray_more i lines k d front now table inside is now-is front-is =
    let here = stray_is i k (get_or lines k d) true (there (length lines) (seen_line i) lines k d table inside) is in
    now-is ∙ ap (λ xs. xs ++ k ∷ []) front-is
    ∙ sym (filter_range_one (is_stray i) k ∙ ap (λ b. filter (is_stray i) (range_with_len 0 k) ++ cond b (k ∷ []) []) here)

pub stray_none : (i : Image) (lines : List SeenLine) (k : ℕ) (d : SeenLine) (front : List ℕ) → IsTable (length lines) (seen_line i) lines → k < length lines
    → (not (is_some (get_or lines k d).seq) && (get_or lines k d).used) ≡ false
    → front ≡ filter (is_stray i) (range_with_len 0 k) → front ≡ filter (is_stray i) (range_with_len 0 (k + 1))
stray_none i lines k d front table inside is front-is =
    let here = stray_is i k (get_or lines k d) false (there (length lines) (seen_line i) lines k d table inside) is in
    front-is ∙ sym (filter_range_one (is_stray i) k ∙ ap (λ b. filter (is_stray i) (range_with_len 0 k) ++ cond b (k ∷ []) []) here
    ∙ append-nil (filter (is_stray i) (range_with_len 0 k)))
