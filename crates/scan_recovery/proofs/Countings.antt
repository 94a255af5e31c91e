-- The records that count are those that were noted, in another order, and come to the same.
use Rattle.std.proofs.Common.{◌≡◌, ℕ, ◌+◌, ◌≤◌, ◌==◌, ◌&&◌, ◌||◌, ◌⊎◌, suc, max, not, nat_le, nat_lt, inl, inr, Bool, true, false, cond, List, [], ◌∷◌, ◌++◌, length, Option, Some, None, refl, sym, ap, ◌∙◌, subst, arith, length-append}
use Rattle.std.specs.List.{Contains, filter, find, fold}
use Rattle.std.specs.Option.{is_some, option_map, IfSome}
use Rattle.std.proofs.lemmas.Bool.{cases_lt, le-leb, lt-leb, lt-ltb, ltb-true, ne_eqb}
use Rattle.std.proofs.lemmas.List.{map-append}
use Rattle.std.proofs.lemmas.List.Elements.{filter-append}
use Rattle.pblk_model.specs.declared.shape.Shape.{Shape}
use Rattle.pblk_model.specs.Image.{Image, IsFit}
use Rattle.pblk_model.specs.Accepted.{IsAccepted}
use Rattle.pblk_model.specs.StartRecord.{Row, StartRecord, rows_fit, start_fits}
use Rattle.pblk_model.specs.Records.{Record, records}
use Rattle.pblk_model.specs.Contents.{counted, counted_after, counts, end, end_after, head, winner}
use Rattle.pblk_model.proofs.Lists.{contains_cases, contains_first, contains_more, contains_none}
use Rattle.pblk_laws.proofs.Winners.{no_winner, no_winner_no_record, winner_is_only, winner_is_winner}
use Rattle.pblk_meta.specs.declared.start_record.StartRecord.{StartRecord as Start}
use Rattle.pblk_meta.specs.Records.{start_numbers}
use Rattle.world_laws.specs.Finding.{top_of}
use Rattle.world_laws.proofs.FoundCounts.{records_few, front_low}
use Rattle.scan_recovery.specs.declared.counting.Counted.{Counted}
use Rattle.scan_recovery.specs.declared.mount.Mount.{Mount}
use Rattle.scan_recovery.specs.Counted.{IsCounted, IsCountedOf, is_below, noted}
use Rattle.scan_recovery.specs.Held.{thin_winner}
use Rattle.scan_recovery.specs.Mounts.{IsMountOf, is_late, is_settled}
use Rattle.scan_recovery.specs.Tally.{HasStartFits, IsTally, named_count}
use Rattle.scan_recovery.specs.Traces.{head_row, is_below_row, without_sector}
use Rattle.scan_recovery.proofs.Founds.{end_thin, filter_thin, thin, top_thin, winner_thin}
use Rattle.scan_recovery.proofs.LateEnds.{end_late, few_late}
use Rattle.scan_recovery.proofs.Tallies.{and_right, any_is_row, row_facts}
use Rattle.pblk_model.proofs.Maps.{filtered_into, filtered_from}
use Rattle.pblk_model.proofs.TableLemmas.{table_same}

-- ---- Which of them count.

-- no row of a head is for a line of its mount
no_row : (s : Shape) (h : StartRecord) (least : ℕ) (rows : List Row) (r : Record) → rows_fit s h least rows ≡ true → h.first_seq ≤ r.seq
    → is_below_row (find (λ row. row.line == r.line) rows) r ≡ false
no_row s h least [] r fits young = refl
no_row s h least (row ∷ rows) r fits young =
    let f = row_facts s h least row rows fits in
    let old = f.old in
    by (row.line == r.line) (ap (λ b. b && nat_lt r.position row.bound) (ne_eqb row.seq r.seq (λ e. omega arith)))
    (no_row s h (row.line + 1) rows r f.rest young)
  where
    by : (b : Bool) → (row.seq == r.seq) && nat_lt r.position row.bound ≡ false → is_below_row (find (λ row. row.line == r.line) rows) r ≡ false
        → is_below_row (cond b (Some row) (find (λ row. row.line == r.line) rows)) r ≡ false
    by true here rest = here
    by false here rest = rest

-- of these three each is what the first two say
abbrev IsEither : Bool → Bool → Bool → Type 0
IsEither p q c = (c ≡ p || q) × (p && q ≡ false)

older : (x y z b : Bool) → IsEither (cond false y b) ((false && not y) && z) ((false && x) || b)
older x y z true = (refl, refl)
older x y z false = (refl, refl)

younger : (x y b : Bool) → b ≡ false → (y ≡ true → x ≡ true) → IsEither (cond true y b) ((true && not y) && x) ((true && x) || b)
younger true true b none up = (refl, refl)
younger true false b none up = (refl, refl)
younger false true b none up = absurd (let e = up refl in cc)
younger false false b none up = (none, refl)

split_counts : (s : Shape) (line g : ℕ) (h : StartRecord) (end : ℕ) (r : Record) → start_fits s line g h ≡ true → h.front ≤ end
    → IsEither (is_settled (Some h) r) (is_late (Some h) r && is_below end r) (counts h end r)
split_counts s line g h end r fits low =
    let rows : rows_fit s h 0 h.rows ≡ true = and_right _ (rows_fit s h 0 h.rows) fits in
    let row : Bool = is_below_row (find (λ row. row.line == r.line) h.rows) r in
    let any = any_is_row s h 0 h.rows r rows in
    elim (cases_lt r.seq h.first_seq) [
      | inl less ↦
          subst (λ b. IsEither (cond (nat_le h.first_seq r.seq) (nat_lt r.position h.front) row)
          ((nat_le h.first_seq r.seq && not (nat_lt r.position h.front)) && nat_lt r.position end) ((nat_le h.first_seq r.seq && nat_lt r.position end) || b))
          (sym any)
          (subst (λ a. IsEither (cond a (nat_lt r.position h.front) row) ((a && not (nat_lt r.position h.front)) && nat_lt r.position end)
          ((a && nat_lt r.position end) || row)) (sym (lt-leb h.first_seq r.seq less))
          (older (nat_lt r.position end) (nat_lt r.position h.front) (nat_lt r.position end) row))
      | inr most ↦
          subst (λ b. IsEither (cond (nat_le h.first_seq r.seq) (nat_lt r.position h.front) row)
          ((nat_le h.first_seq r.seq && not (nat_lt r.position h.front)) && nat_lt r.position end) ((nat_le h.first_seq r.seq && nat_lt r.position end) || b))
          (sym any)
          (subst (λ a. IsEither (cond a (nat_lt r.position h.front) row) ((a && not (nat_lt r.position h.front)) && nat_lt r.position end)
          ((a && nat_lt r.position end) || row)) (sym (le-leb h.first_seq r.seq most))
          (younger (nat_lt r.position end) (nat_lt r.position h.front) row (no_row s h 0 h.rows r rows most)
          (λ e. (let below = ltb-true r.position h.front e in lt-ltb r.position end (omega arith)))))
    ]

-- ---- Lists that are split.

in_front : {X : Type 0} (xs ys : List X) (x : X) → Contains xs x → Contains (xs ++ ys) x
in_front [] ys x there = absurd (contains_none x there)
in_front (y ∷ xs) ys x there = elim (contains_cases y x xs there) [
  | inl same ↦ subst (Contains (y ∷ (xs ++ ys))) same (contains_first y (xs ++ ys))
  | inr later ↦ contains_more y x (xs ++ ys) (in_front xs ys x later)
]

in_back : {X : Type 0} (xs ys : List X) (x : X) → Contains ys x → Contains (xs ++ ys) x
in_back [] ys x there = there
in_back (y ∷ xs) ys x there = contains_more y x (xs ++ ys) (in_back xs ys x there)

of_both : {X : Type 0} (xs ys : List X) (x : X) → Contains (xs ++ ys) x → Contains xs x ⊎ Contains ys x
of_both [] ys x there = inr there
of_both (y ∷ xs) ys x there = elim (contains_cases y x (xs ++ ys) there) [
  | inl same ↦ inl (subst (Contains (y ∷ xs)) same (contains_first y xs))
  | inr later ↦ elim (of_both xs ys x later) [ inl front ↦ inl (contains_more y x xs front) | inr back ↦ inr back ]
]

filter_twice : {X : Type 0} (p q : X → Bool) (xs : List X) → filter q (filter p xs) ≡ filter (λ x. p x && q x) xs
filter_twice p q [] = refl
filter_twice p q (x ∷ xs) = by (p x) ∙ ap (λ ys. cond (p x && q x) (x ∷ ys) ys) (filter_twice p q xs) where
  by : (b : Bool) → filter q (cond b (x ∷ filter p xs) (filter p xs)) ≡ cond (b && q x) (x ∷ filter q (filter p xs)) (filter q (filter p xs))
  by true = refl
  by false = refl

module _ (p q c : Record → Bool) (each : (r : Record) → IsEither (p r) (q r) (c r)) where
  or_true : (a b : Bool) → a || b ≡ true → (a ≡ true) ⊎ (b ≡ true)
  or_true true b h = inl refl
  or_true false b h = inr h

  or_first : (a b : Bool) → a ≡ true → a || b ≡ true
  or_first true b h = refl
  or_first false b h = absurd cc

  or_second : (a b : Bool) → b ≡ true → a || b ≡ true
  or_second true b h = refl
  or_second false b h = h

  to_all : (rs : List Record) (r : Record) → Contains (filter p rs ++ filter q rs) r → Contains (filter c rs) r
  to_all rs r there = elim (of_both (filter p rs) (filter q rs) r there) [
    | inl front ↦ let f = filtered_from p rs r front in filtered_into c rs r f.0 ((each r).0 ∙ or_first (p r) (q r) f.1)
    | inr back ↦ let f = filtered_from q rs r back in filtered_into c rs r f.0 ((each r).0 ∙ or_second (p r) (q r) f.1)
  ]

  to_either : (rs : List Record) (r : Record) → Contains (filter c rs) r → Contains (filter p rs ++ filter q rs) r
  to_either rs r there =
      let f = filtered_from c rs r there in
      elim (or_true (p r) (q r) (sym (each r).0 ∙ f.1)) [
        | inl a ↦ in_front (filter p rs) (filter q rs) r (filtered_into p rs r f.0 a)
        | inr b ↦ in_back (filter p rs) (filter q rs) r (filtered_into q rs r f.0 b)
      ]

  -- how many of a kind there are
  size_one : (f d : Record → Bool) (r : Record) (rs : List Record)
      → length (filter f (filter d (r ∷ rs))) ≡ cond (d r && f r) 1 0 + length (filter f (filter d rs))
  size_one f d r rs = by (d r) where
    kept : (b : Bool) → length (cond b (r ∷ filter f (filter d rs)) (filter f (filter d rs))) ≡ cond b 1 0 + length (filter f (filter d rs))
    kept true = omega arith
    kept false = omega arith

    by : (b : Bool) → length (filter f (cond b (r ∷ filter d rs) (filter d rs))) ≡ cond (b && f r) 1 0 + length (filter f (filter d rs))
    by true = kept (f r)
    by false = omega arith

  ones : (a b e x : Bool) → IsEither a b e → cond (a && x) 1 0 + cond (b && x) 1 0 ≡ cond (e && x) 1 0
  ones true true e x h = absurd (let no = h.1 in cc)
  ones true false e x h = rw h.0 (by x) where
    by : (x : Bool) → cond x 1 0 + 0 ≡ cond x 1 0
    by true = omega arith
    by false = omega arith
  ones false true e x h = rw h.0 (by x) where
    by : (x : Bool) → 0 + cond x 1 0 ≡ cond x 1 0
    by true = omega arith
    by false = omega arith
  ones false false e x h = rw h.0 (omega arith)

  sizes : (f : Record → Bool) (rs : List Record) → length (filter f (filter p rs)) + length (filter f (filter q rs)) ≡ length (filter f (filter c rs))
  sizes f [] = omega arith
  sizes f (r ∷ rs) = omega (arith, size_one f p r rs, size_one f q r rs, size_one f c r rs, ones (p r) (q r) (c r) (f r) (each r), sizes f rs)

  pub size_both : (f : Record → Bool) (rs : List Record) → length (filter f (filter p rs ++ filter q rs)) ≡ length (filter f (filter c rs))
  size_both f rs = ap length (filter-append f (filter p rs) (filter q rs)) ∙ length-append (filter f (filter p rs)) (filter f (filter q rs)) ∙ sizes f rs

  -- the greatest of a kind
  abbrev higher : ℕ → Record → ℕ
  higher top r = max top (r.position + 1)

  high : List Record → ℕ
  high rs = fold higher 0 rs

  high_from : (top : ℕ) (rs : List Record) → fold higher top rs ≡ max top (high rs)
  unfolding high
  high_from top [] = omega arith
  high_from top (r ∷ rs) = omega (arith, high_from (max top (r.position + 1)) rs, high_from (max 0 (r.position + 1)) rs)

  high_one : (f d : Record → Bool) (r : Record) (rs : List Record)
      → high (filter f (filter d (r ∷ rs))) ≡ max (cond (d r && f r) (r.position + 1) 0) (high (filter f (filter d rs)))
  unfolding high
  high_one f d r rs = by (d r) where
    kept : (b : Bool) → fold higher 0 (cond b (r ∷ filter f (filter d rs)) (filter f (filter d rs)))
        ≡ max (cond b (r.position + 1) 0) (high (filter f (filter d rs)))
    kept true = omega (arith, high_from (max 0 (r.position + 1)) (filter f (filter d rs)))
    kept false = omega arith

    by : (b : Bool) → fold higher 0 (filter f (cond b (r ∷ filter d rs) (filter d rs)))
        ≡ max (cond (b && f r) (r.position + 1) 0) (high (filter f (filter d rs)))
    by true = kept (f r)
    by false = omega arith

  highs_at : (a b e x : Bool) (n : ℕ) → IsEither a b e → max (cond (a && x) n 0) (cond (b && x) n 0) ≡ cond (e && x) n 0
  highs_at true true e x n h = absurd (let no = h.1 in cc)
  highs_at true false e x n h = rw h.0 (by x) where
    by : (x : Bool) → max (cond x n 0) 0 ≡ cond x n 0
    by true = omega arith
    by false = omega arith
  highs_at false true e x n h = rw h.0 (by x) where
    by : (x : Bool) → max 0 (cond x n 0) ≡ cond x n 0
    by true = omega arith
    by false = omega arith
  highs_at false false e x n h = rw h.0 (omega arith)

  highs : (f : Record → Bool) (rs : List Record) → max (high (filter f (filter p rs))) (high (filter f (filter q rs))) ≡ high (filter f (filter c rs))
  unfolding high
  highs f [] = omega arith
  highs f (r ∷ rs) = omega (
    arith,
    high_one f p r rs,
    high_one f q r rs,
    high_one f c r rs,
    highs_at (p r) (q r) (c r) (f r) (r.position + 1) (each r),
    highs f rs,
  )

  high_both : (xs ys : List Record) → high (xs ++ ys) ≡ max (high xs) (high ys)
  unfolding high
  high_both [] ys = omega arith
  high_both (r ∷ xs) ys = omega (arith, high_from (max 0 (r.position + 1)) (xs ++ ys), high_from (max 0 (r.position + 1)) xs, high_both xs ys)

  pub top_both : (line : ℕ) (rs : List Record) → top_of (filter p rs ++ filter q rs) line ≡ top_of (filter c rs) line
  unfolding high
  top_both line rs =
      ap high (filter-append (λ r. r.line == line) (filter p rs) (filter q rs))
      ∙ high_both (filter (λ r. r.line == line) (filter p rs)) (filter (λ r. r.line == line) (filter q rs)) ∙ highs (λ r. r.line == line) rs

-- ---- Of an image.

winner_same : (i : Image) (rs : List Record) (lba : ℕ) → ((r : Record) → Contains rs r → Contains (counted i) r)
    → ((r : Record) → Contains (counted i) r → Contains rs r) → winner rs lba ≡ winner (counted i) lba
winner_same i rs lba to from = by (winner (counted i) lba) refl where
  by : (o : Option Record) → winner (counted i) lba ≡ o → winner rs lba ≡ o
  by None e = (no_winner rs lba).1 (λ r there. no_winner_no_record (counted i) lba r e (to r there))
  by (Some r) e =
      let w = winner_is_winner i lba r e in
      winner_is_only rs lba r (record { there = from r w.there; of_it = w.of_it; newest = λ other inside same. w.newest other (to other inside) same })

-- what was noted comes to what counts
record SameCounts (i : Image) (rs : List Record) : Type 0 where
  winners : (lba : ℕ) → winner rs lba ≡ winner (counted i) lba
  tops : (line : ℕ) → top_of rs line ≡ top_of (counted i) line
  named : named_count rs ≡ named_count (counted i)

none_of : (rs : List Record) → filter (λ r. false) rs ≡ []
none_of [] = refl
none_of (r ∷ rs) = none_of rs

same_counts : (i : Image) (o : Option Start) → option_map start_numbers o ≡ head i → IfSome o HasStartFits
    → SameCounts i (noted (head i) (end i) (records i))
same_counts i None is fits =
    let empty : noted None (end i) (records i) ≡ [] =
    ap (λ xs. xs ++ filter (is_below (end i)) xs) (none_of (records i)) in
    let none : counted i ≡ [] = ap (counted_after (records i)) (sym is) in
    let both : noted (head i) (end i) (records i) ≡ counted i = ap (λ h. noted h (end i) (records i)) (sym is) ∙ empty ∙ sym none in
    record {
      winners = λ lba. ap (λ xs. winner xs lba) both;
      tops = λ line. ap (λ xs. top_of xs line) both;
      named = ap named_count both;
    }
same_counts i (Some start) is fits =
    let h : StartRecord = start_numbers start in
    let some : head i ≡ Some h = sym is in
    let rs : List Record = records i in
    let p : Record → Bool = is_settled (Some h) in
    let q : Record → Bool = λ r. is_late (Some h) r && is_below (end i) r in
    let c : Record → Bool = counts h (end i) in
    let each : (r : Record) → IsEither (p r) (q r) (c r) =
    λ r. split_counts fits.shape fits.line fits.width h (end i) r fits.fits (front_low i h some) in
    let all : counted i ≡ filter c rs =
    ap (counted_after rs) some ∙ ap (λ e. filter (counts h e) rs) (sym (ap (end_after rs) some)) in
    let parts : noted (head i) (end i) rs ≡ filter p rs ++ filter q rs =
    ap (λ o. noted o (end i) rs) some ∙ ap (λ xs. filter p rs ++ xs) (filter_twice (is_late (Some h)) (is_below (end i)) rs) in
    let sets : SameCounts i (filter p rs ++ filter q rs) = record {
      winners = λ lba. winner_same i (filter p rs ++ filter q rs) lba
          (λ r there. subst (λ xs. Contains xs r) (sym all) (to_all p q c each rs r there))
          (λ r there. to_either p q c each rs r (subst (λ xs. Contains xs r) all there));
      tops = λ line. top_both p q c each line rs ∙ ap (λ xs. top_of xs line) (sym all);
      named = size_both p q c each (λ r. is_some r.lba) rs ∙ ap named_count (sym all);
    } in
    subst (SameCounts i) (sym parts) sets

below_thin : (o : Option Row) (r : Record) → is_below_row o (without_sector r) ≡ is_below_row o r
below_thin None r = refl
below_thin (Some row) r = refl

settled_thin : (o : Option StartRecord) (r : Record) → is_settled o (without_sector r) ≡ is_settled o r
settled_thin None r = refl
settled_thin (Some h) r = ap (cond (nat_le h.first_seq r.seq) (nat_lt r.position h.front)) (below_thin (head_row (Some h) r.line) r)

late_thin : (o : Option StartRecord) (r : Record) → is_late o (without_sector r) ≡ is_late o r
late_thin None r = refl
late_thin (Some h) r = refl

noted_thin : (o : Option StartRecord) (end : ℕ) (rs : List Record) → noted o end (thin rs) ≡ thin (noted o end rs)
noted_thin o end rs =
    ap (λ xs. xs ++ filter (is_below end) (filter (is_late o) (thin rs))) (filter_thin (is_settled o) rs (settled_thin o))
    ∙ ap (λ xs. thin (filter (is_settled o) rs) ++ filter (is_below end) xs) (filter_thin (is_late o) rs (late_thin o))
    ∙ ap (λ xs. thin (filter (is_settled o) rs) ++ xs) (filter_thin (is_below end) (filter (is_late o) rs) (λ r. refl))
    ∙ sym (map-append without_sector (filter (is_settled o) rs) (filter (is_below end) (filter (is_late o) rs)))

size_thin : (rs : List Record) → named_count (thin rs) ≡ named_count rs
size_thin [] = refl
size_thin (r ∷ rs) = by (is_some r.lba) (size_thin rs) where
  by : (b : Bool) → named_count (thin rs) ≡ named_count rs
      → length (cond b (without_sector r ∷ filter (λ r. is_some r.lba) (thin rs)) (filter (λ r. is_some r.lba) (thin rs)))
      ≡ length (cond b (r ∷ filter (λ r. is_some r.lba) rs) (filter (λ r. is_some r.lba) rs))
  by true rest = ap suc rest
  by false rest = rest

counted_few : (i : Image) (o : Option StartRecord) → named_count (counted_after (records i) o) ≤ length (records i)
counted_few i None = omega arith
counted_few i (Some h) =
    let a = few_late (counts h (end_after (records i) (Some h))) (records i) in
    let b = few_late (λ r. is_some r.lba) (filter (counts h (end_after (records i) (Some h))) (records i)) in
    omega arith

pub all_counted : (i : Image) (m : Mount) (c : Counted) → IsAccepted i.shape → IsFit i → IsMountOf i m
    → IsCountedOf i.shape.capacity i.shape.chunks (head i) (thin (records i)) c → IsCounted i c
all_counted i m c accepted fit mount of =
    let rs : List Record = records i in
    let end-is : c.end ≡ end i =
    of.end ∙ end_late (thin rs) (head i) ∙ end_thin rs (head i) in
    let same = same_counts i m.head mount.head_is mount.mount.fits in
    let n : List Record = noted (head i) (end i) rs in
    let thins : noted (head i) c.end (thin rs) ≡ thin n = ap (λ e. noted (head i) e (thin rs)) end-is ∙ noted_thin (head i) (end i) rs in
    let tally = subst (λ xs. IsTally i.shape.capacity i.shape.chunks xs c.tally) thins of.tally in
    let count : named_count (thin n) ≡ named_count (counted i) = size_thin n ∙ same.named in
    let few = records_few i accepted fit in
    let fewer : named_count (counted i) ≤ length rs = counted_few i (head i) in
    record {
      end = end-is;
      winners = table_same i.shape.capacity (winner (thin n)) (thin_winner i) _ tally.winners
          (λ lba below. sym (winner_thin n lba ∙ ap (option_map without_sector) (same.winners lba)));
      tops = table_same i.shape.chunks (top_of (thin n)) (top_of (counted i)) _ tally.tops (λ line below. sym (top_thin n line ∙ same.tops line));
      named = omega (arith, tally.named, count, few, fewer);
    }
