-- Which records count, and the tables of what they come to.
use Rattle.std.proofs.Common.{◌≡◌, ◌≢◌, ℕ, ◌+◌, ◌-◌, ◌^◌, ◌<◌, ◌≤◌, zero, suc, max, min, inl, inr, Bool, true, false, cond, ◌&&◌, ◌||◌, ◌==◌, nat_le, nat_lt, List, [], ◌∷◌, ◌++◌, length, map, take, get_or, replicate, append-nil, Option, Some, None, refl, sym, ap, ◌∙◌, subst, arith, length-append}
use Rattle.std.specs.List.{AllByRecursion, slice_get, slice_set, list_any, filter, find, fold}
use Rattle.std.specs.Option.{is_some, option_map}
use Rattle.std.proofs.lemmas.List.{length-map, map-set}
use Rattle.std.proofs.lemmas.Grind.{fold-append}
use Rattle.std.proofs.lemmas.Option.{same_Some, slice_get-map, slice_get-get_or}
use Rattle.std.proofs.lemmas.Bool.{leb-true, ltb-true, eq-eqb, ne_eqb, cases_eq}
use Rattle.pblk_model.specs.declared.shape.Shape.{Shape}
use Rattle.pblk_model.specs.StartRecord.{Row, StartRecord, rows_fit}
use Rattle.pblk_model.specs.Records.{Record}
use Rattle.pblk_model.specs.Contents.{newer, is_of, winner}
use Rattle.world_laws.specs.Finding.{top_of}
use Rattle.scan_recovery.specs.declared.trace.Trace.{Trace}
use Rattle.scan_recovery.specs.declared.counting.Tally.{Tally}
use Rattle.scan_recovery.specs.Tally.{IsTally, named_count}
use Rattle.scan_recovery.specs.Traces.{bare, bares, is_below_row}
use Rattle.scan_recovery.proofs.Tables.{table_new, map_take_one}
use Rattle.pblk_model.proofs.Parts.{all_get}
use Rattle.pblk_model.proofs.ContentsLemmas.{of_same, filter_one, winner_more, of_other}
use Rattle.pblk_model.specs.Tables.{IsTable}
use Rattle.pblk_model.proofs.TableLemmas.{table_set, table_same}

and_left : (a b : Bool) → a && b ≡ true → a ≡ true
and_left true b h = refl
and_left false b h = absurd cc

pub and_right : (a b : Bool) → a && b ≡ true → b ≡ true
and_right true b h = h
and_right false b h = absurd cc

-- The rows of a head.

abbrev bounds : Record → Row → Bool
bounds x row = (row.line == x.line) && (row.seq == x.seq) && nat_lt x.position row.bound

bounds_none : (x : Record) (row : Row) → row.line ≢ x.line → bounds x row ≡ false
bounds_none x row other = ap (λ b. b && (row.seq == x.seq) && nat_lt x.position row.bound) (ne_eqb row.line x.line other)

pub record RowFacts (s : Shape) (r : StartRecord) (least : ℕ) (row : Row) (rows : List Row) : Type 0 where
  pub low : least ≤ row.line
  pub old : row.seq < r.first_seq
  pub rest : rows_fit s r (row.line + 1) rows ≡ true

pub row_facts : (s : Shape) (r : StartRecord) (least : ℕ) (row : Row) (rows : List Row) → rows_fit s r least (row ∷ rows) ≡ true → RowFacts s r least row rows
row_facts s r least row rows h =
    let a = and_left _ (rows_fit s r (row.line + 1) rows) h in
    let b = and_left _ _ a in
    let c = and_left _ _ b in
    let d = and_left _ _ c in
    let e = and_left _ _ d in
    let f : nat_le least row.line ≡ true = and_left _ _ e in
    let older : nat_lt row.seq r.first_seq ≡ true = and_right _ _ b in
    record { low = leb-true least row.line f; old = ltb-true row.seq r.first_seq older; rest = and_right _ (rows_fit s r (row.line + 1) rows) h }

none_match : (s : Shape) (r : StartRecord) (least : ℕ) (rows : List Row) (x : Record) → rows_fit s r least rows ≡ true → x.line < least
    → list_any (bounds x) rows ≡ false
none_match s r least [] x h below = refl
none_match s r least (row ∷ rows) x h below =
    let f = row_facts s r least row rows h in
    let low = f.low in
    ap (λ b. b || list_any (bounds x) rows) (bounds_none x row (λ e. omega arith)) ∙ none_match s r (row.line + 1) rows x f.rest (omega arith)

or_none : (a b : Bool) → b ≡ false → a || b ≡ a
or_none true b h = refl
or_none false b h = h

pub any_is_row : (s : Shape) (r : StartRecord) (least : ℕ) (rows : List Row) (x : Record) → rows_fit s r least rows ≡ true
    → list_any (bounds x) rows ≡ is_below_row (find (λ row. row.line == x.line) rows) x
any_is_row s r least [] x h = refl
any_is_row s r least (row ∷ rows) x h =
    let f = row_facts s r least row rows h in
    elim (cases_eq row.line x.line) [
      | inl same ↦
          let hit : row.line == x.line ≡ true = eq-eqb row.line x.line same in
          let rest : list_any (bounds x) rows ≡ false = none_match s r (row.line + 1) rows x f.rest (omega arith) in
          or_none (bounds x row) (list_any (bounds x) rows) rest
          ∙ ap (λ b. b && (row.seq == x.seq) && nat_lt x.position row.bound) hit
          ∙ sym (ap (λ b. is_below_row (cond b (Some row) (find (λ row. row.line == x.line) rows)) x) hit)
      | inr other ↦
          let miss : row.line == x.line ≡ false = ne_eqb row.line x.line other in
          ap (λ b. b || list_any (bounds x) rows) (bounds_none x row other) ∙ any_is_row s r (row.line + 1) rows x f.rest
          ∙ sym (ap (λ b. is_below_row (cond b (Some row) (find (λ row. row.line == x.line) rows)) x) miss)
    ]

-- One record more.

pub filter_by : (p : Record → Bool) (rs : List Record) (r : Record) (b : Bool) → p r ≡ b → filter p (rs ++ r ∷ []) ≡ filter p rs ++ cond b (r ∷ []) []
filter_by p rs r b is = filter_one p rs r ∙ ap (λ x. filter p rs ++ cond x (r ∷ []) []) is

abbrev higher : ℕ → Record → ℕ
higher top r = max top (r.position + 1)

top_one : (rs : List Record) (b : Bool) (r : Record) → fold higher 0 (rs ++ cond b (r ∷ []) []) ≡ cond b (higher (fold higher 0 rs) r) (fold higher 0 rs)
top_one rs true r = fold-append higher 0 rs (r ∷ [])
top_one rs false r = fold-append higher 0 rs []

pub top_more : (rs : List Record) (r : Record) (line : ℕ)
    → top_of (rs ++ r ∷ []) line ≡ cond (r.line == line) (max (top_of rs line) (r.position + 1)) (top_of rs line)
top_more rs r line = ap (fold higher 0) (filter_one (λ r. r.line == line) rs r) ∙ top_one (filter (λ r. r.line == line) rs) (r.line == line) r

pub tops_noted : (lines : ℕ) (rs : List Record) (tops : List ℕ) (r : Record) (top : ℕ) → IsTable lines (top_of rs) tops → r.line < length tops
    → top ≡ max (get_or tops r.line 0) (r.position + 1)
    → IsTable lines (top_of (rs ++ r ∷ [])) (slice_set tops r.line top)
tops_noted lines rs tops r top h inside top-is =
    let within : r.line < lines = omega (arith, h.count) in
    let old : get_or tops r.line 0 ≡ top_of rs r.line =
    same_Some (get_or tops r.line 0) (top_of rs r.line) (sym (slice_get-get_or tops r.line 0 inside) ∙ h.each r.line within) in
    table_set lines (top_of rs) (top_of (rs ++ r ∷ [])) tops r.line top h within
    (top_more rs r r.line ∙ ap (λ b. cond b (max (top_of rs r.line) (r.position + 1)) (top_of rs r.line)) (eq-eqb r.line r.line refl)
    ∙ ap (λ n. max n (r.position + 1)) (sym old) ∙ sym top-is)
    (λ j other. top_more rs r j ∙ ap (λ b. cond b (max (top_of rs j) (r.position + 1)) (top_of rs j)) (ne_eqb r.line j (λ e. other (sym e))))

abbrev seen : List (Option Trace) → List (Option Record)
seen ws = map (option_map bare) ws

other_winner : (rs : List Record) (r : Record) (j lba : ℕ) → r.lba ≡ Some lba → j ≢ lba → winner (rs ++ r ∷ []) j ≡ winner rs j
other_winner rs r j lba e other = winner_more rs r j ∙ ap (λ b. cond b (newer (winner rs j) r) (winner rs j)) (of_other lba j r.lba e other)

pub winners_noted : (sectors : ℕ) (rs : List Record) (ws : List (Option Trace)) (t best : Trace) (was : Option Trace) (lba : ℕ)
    → IsTable sectors (winner rs) (seen ws) → lba < length ws → t.lba ≡ Some lba
    → slice_get ws lba ≡ Some was → Some (bare best) ≡ newer (option_map bare was) (bare t)
    → IsTable sectors (winner (rs ++ bare t ∷ [])) (seen (slice_set ws lba (Some best)))
winners_noted sectors rs ws t best was lba h inside lba-is there best-is =
    let within : lba < sectors = omega (arith, h.count, length-map ws (option_map bare)) in
    let old : option_map bare was ≡ winner rs lba =
    same_Some (option_map bare was) (winner rs lba)
    (sym (slice_get-map (option_map bare) ws lba ∙ ap (option_map (option_map bare)) there) ∙ h.each lba within) in
    rw (map-set (option_map bare) ws lba (Some best))
    (table_set sectors (winner rs) (winner (rs ++ bare t ∷ [])) (seen ws) lba (Some (bare best)) h within
    (winner_more rs (bare t) lba ∙ ap (λ b. cond b (newer (winner rs lba) (bare t)) (winner rs lba)) (of_same lba t.lba lba-is)
    ∙ ap (λ o. newer o (bare t)) (sym old) ∙ sym best-is)
    (λ j other. other_winner rs (bare t) j lba lba-is other))

pub winners_past : (sectors : ℕ) (rs : List Record) (ws : List (Option Trace)) (t : Trace) (lba : ℕ) → IsTable sectors (winner rs) (seen ws) → length ws ≤ lba
    → t.lba ≡ Some lba → IsTable sectors (winner (rs ++ bare t ∷ [])) (seen ws)
winners_past sectors rs ws t lba h past lba-is =
    table_same sectors (winner rs) (winner (rs ++ bare t ∷ [])) (seen ws) h
    (λ j below. other_winner rs (bare t) j lba lba-is (λ e. omega (arith, h.count, length-map ws (option_map bare))))

pub winners_void : (sectors : ℕ) (rs : List Record) (ws : List (Option Trace)) (t : Trace) → IsTable sectors (winner rs) (seen ws) → t.lba ≡ None
    → IsTable sectors (winner (rs ++ bare t ∷ [])) (seen ws)
winners_void sectors rs ws t h void =
    table_same sectors (winner rs) (winner (rs ++ bare t ∷ [])) (seen ws) h
    (λ j below. winner_more rs (bare t) j ∙ ap (λ o. cond (is_of j o) (newer (winner rs j) (bare t)) (winner rs j)) void)

-- How many have a sector, one more.

named_one : (rs : List Record) (r : Record) (b : Bool) → is_some r.lba ≡ b → named_count (rs ++ r ∷ []) ≡ named_count rs + cond b 1 0
named_one rs r b is =
    ap length (filter_by (λ r. is_some r.lba) rs r b is) ∙ length-append (filter (λ r. is_some r.lba) rs) (cond b (r ∷ []) [])
    ∙ ap (λ n. named_count rs + n) (by b) where
      by : (b : Bool) → length (cond b (r ∷ []) []) ≡ cond b 1 0
      by true = refl
      by false = refl

pub named_more : (rs : List Record) (r : Record) (lba n m : ℕ) → r.lba ≡ Some lba → n ≡ min (named_count rs) (2 ^ 64 - 1) → m ≡ min (n + 1) (2 ^ 64 - 1)
    → m ≡ min (named_count (rs ++ r ∷ [])) (2 ^ 64 - 1)
named_more rs r lba n m is n-is m-is = let one = named_one rs r true (ap is_some is) in omega (arith, one, n-is, m-is)

pub named_void : (rs : List Record) (r : Record) (n : ℕ) → r.lba ≡ None → n ≡ min (named_count rs) (2 ^ 64 - 1)
    → n ≡ min (named_count (rs ++ r ∷ [])) (2 ^ 64 - 1)
named_void rs r n is n-is = let one = named_one rs r false (ap is_some is) in omega (arith, one, n-is)

-- The records that count, one more.

pub counted_yes : (p : Record → Bool) (ts : List Trace) (k : ℕ) (d : Trace) → k < length ts → p (bare (get_or ts k d)) ≡ true
    → filter p (bares (take (k + 1) ts)) ≡ filter p (bares (take k ts)) ++ bare (get_or ts k d) ∷ []
counted_yes p ts k d inside is = ap (filter p) (map_take_one bare ts k d inside) ∙ filter_by p (bares (take k ts)) (bare (get_or ts k d)) true is

pub counted_no : (p : Record → Bool) (ts : List Trace) (k : ℕ) (d : Trace) → k < length ts → p (bare (get_or ts k d)) ≡ false
    → filter p (bares (take (k + 1) ts)) ≡ filter p (bares (take k ts))
counted_no p ts k d inside is = ap (filter p) (map_take_one bare ts k d inside) ∙ filter_by p (bares (take k ts)) (bare (get_or ts k d)) false is
    ∙ append-nil (filter p (bares (take k ts)))

pub row_there : {X Y : Type 0} (n : ℕ) (f : ℕ → Y) (g : X → Y) (xs : List X) (k : ℕ) (d : X) → IsTable n f (map g xs) → k < length xs → g (get_or xs k d) ≡ f k
row_there n f g xs k d h inside =
    same_Some (g (get_or xs k d)) (f k)
    (sym (slice_get-map g xs k ∙ ap (option_map g) (slice_get-get_or xs k d inside)) ∙ h.each k (omega (arith, h.count, length-map xs g)))

line_there : (n : ℕ) (ts : List Trace) (k : ℕ) (d : Trace) → AllByRecursion (λ t. t.line < n) ts → k < length ts → (get_or ts k d).line < n
line_there n ts k d h inside = all_get (λ (t : Trace). t.line < n) ts k (get_or ts k d) h (slice_get-get_or ts k d inside)

pub line_below : (n m : ℕ) (ts : List Trace) (k : ℕ) (d : Trace) → AllByRecursion (λ t. t.line < m) ts → k < length ts → n ≡ m → (get_or ts k d).line < n
line_below n m ts k d h inside same = subst (λ l. (get_or ts k d).line < l) (sym same) (line_there m ts k d h inside)

pub no_winners : (sectors : ℕ) → IsTable sectors (winner []) (seen (replicate sectors None))
no_winners sectors = rw (map_replicate sectors) (table_new sectors (winner []) None (λ k below. refl)) where
  map_replicate : (n : ℕ) → seen (replicate n None) ≡ replicate n None
  map_replicate zero = refl
  map_replicate (suc n) = ap (λ os. None ∷ os) (map_replicate n)

pub no_tops : (lines : ℕ) → IsTable lines (top_of []) (replicate lines 0)
no_tops lines = table_new lines (top_of []) 0 (λ k below. refl)

pub tally_none : (sectors lines : ℕ) (t : Tally) → t.winners.items ≡ replicate sectors None → t.tops.items ≡ replicate lines 0 → t.named ≡ 0
    → IsTally sectors lines [] t
tally_none sectors lines t winners tops named = record {
  named = named;
  winners = subst (λ ws. IsTable sectors (winner []) (seen ws)) (sym winners) (no_winners sectors);
  tops = subst (λ ts. IsTable lines (top_of []) ts) (sym tops) (no_tops lines);
}
