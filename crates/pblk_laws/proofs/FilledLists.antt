-- Lists over ranges of numbers, and the newest of records whose positions rise.
use Rattle.std.proofs.Common.{◌≡◌, ℕ, ◌+◌, ◌<◌, ◌≤◌, ◌==◌, ◌&&◌, ◌||◌, zero, suc, Bool, true, cond, eqb, leb, ltb, Option, Some, None, List, [], ◌∷◌, ◌++◌, length, get_or, set, refl, sym, ap, ◌∙◌, subst, arith, add-zero, inl, inr}
use Rattle.std.specs.List.{slice_get, cons_option, filter, filter_map, flat_map, fold, list_any, range_with_len}
use Rattle.std.specs.Option.{option_map_or}
use Rattle.std.proofs.lemmas.List.{append-nil, length-set, get_or-set_same, get_or-set_other}
use Rattle.std.proofs.lemmas.Bool.{cases_eq, lt-ltb, le-leb, eq-eqb, ne_eqb, and_from, or_left, or_right}
use Rattle.pblk_model.specs.History.{SectorWrite, after_write, after}
use Rattle.pblk_model.specs.StartRecord.{StartRecord}
use Rattle.pblk_model.specs.Records.{Record}
use Rattle.pblk_model.specs.Contents.{is_borne, least_missing, counts, is_newer, newer, newest, is_of}

pub range_split : (a m n : ℕ) → range_with_len a (m + n) ≡ range_with_len a m ++ range_with_len (a + m) n
range_split a zero n = ap (range_with_len a) (omega arith) ∙ ap (λ x. range_with_len x n) (sym (add-zero a))
range_split a (suc m) n =
    let rest : range_with_len (a + 1) (m + n) ≡ range_with_len (a + 1) m ++ range_with_len (a + suc m) n = range_split (a + 1) m n
    ∙ ap (λ x. range_with_len (a + 1) m ++ range_with_len x n) (omega arith) in
    let more : suc m + n ≡ suc (m + n) = omega arith in
    ap (range_with_len a) more ∙ ap (λ xs. a ∷ xs) rest

pub filter_map_range_none : {Y : Type 0} (f : ℕ → Option Y) (a n : ℕ) → ((k : ℕ) → a ≤ k → k < a + n → f k ≡ None) → filter_map f (range_with_len a n) ≡ []
filter_map_range_none f a zero h = refl
filter_map_range_none f a (suc n) h = ap (λ o. cons_option o (filter_map f (range_with_len (a + 1) n))) (h a (omega arith) (omega arith))
    ∙ filter_map_range_none f (a + 1) n (λ k low high. h k (omega arith) (omega arith))

pub flat_map_range_nil : {Y : Type 0} (f : ℕ → List Y) (a n : ℕ) → ((k : ℕ) → a ≤ k → k < a + n → f k ≡ []) → flat_map f (range_with_len a n) ≡ []
flat_map_range_nil f a zero h = refl
flat_map_range_nil f a (suc n) h = ap (λ ys. ys ++ flat_map f (range_with_len (a + 1) n)) (h a (omega arith) (omega arith))
    ∙ flat_map_range_nil f (a + 1) n (λ k low high. h k (omega arith) (omega arith))

-- where all but the first give nothing
pub filter_map_first : {Y : Type 0} (f : ℕ → Option Y) (n : ℕ) (y : Y) → 0 < n → f 0 ≡ Some y → ((k : ℕ) → 0 < k → k < n → f k ≡ None)
    → filter_map f (range_with_len 0 n) ≡ y ∷ []
filter_map_first f zero y some here none = absurd (omega arith)
filter_map_first f (suc n) y some here none = ap (λ o. cons_option o (filter_map f (range_with_len 1 n))) here
    ∙ ap (λ ys. y ∷ ys) (filter_map_range_none f 1 n (λ k low high. none k (omega arith) (omega arith)))

pub flat_map_first : {Y : Type 0} (f : ℕ → List Y) (n : ℕ) → 0 < n → ((k : ℕ) → 0 < k → k < n → f k ≡ []) → flat_map f (range_with_len 0 n) ≡ f 0
flat_map_first f zero some none = absurd (omega arith)
flat_map_first f (suc n) some none = ap (λ ys. f 0 ++ ys) (flat_map_range_nil f 1 n (λ k low high. none k (omega arith) (omega arith))) ∙ append-nil (f 0)

-- The records of a line 0 with this sequence number whose data begins at an address: from the
-- position k on.

abbrev pub record_of : ℕ → ℕ → ℕ → SectorWrite → Record
record_of seq first k w = record { line = 0; seq = seq; at = first + k; position = k; lba = Some w.lba; sector = w.sector }

abbrev pub records_of : ℕ → ℕ → ℕ → List SectorWrite → List Record
records_of seq first k [] = []
records_of seq first k (w ∷ ws) = record_of seq first k w ∷ records_of seq first (k + 1) ws

pub records_length : (seq first k : ℕ) (ws : List SectorWrite) → length (records_of seq first k ws) ≡ length ws
records_length seq first k [] = refl
records_length seq first k (w ∷ ws) = ap suc (records_length seq first (k + 1) ws)

pub records_by_place : (f : ℕ → Option Record) (seq first k : ℕ) (ws : List SectorWrite)
    → ((j : ℕ) (w : SectorWrite) → slice_get ws j ≡ Some w → f (first + (k + j)) ≡ Some (record_of seq first (k + j) w))
    → filter_map f (range_with_len (first + k) (length ws)) ≡ records_of seq first k ws
records_by_place f seq first k [] h = refl
records_by_place f seq first k (w ∷ ws) h =
    let here : f (first + k) ≡ Some (record_of seq first k w) = subst (λ x. f (first + x) ≡ Some (record_of seq first x w)) (add-zero k) (h 0 w refl) in
    let rest : filter_map f (range_with_len (first + (k + 1)) (length ws)) ≡ records_of seq first (k + 1) ws =
    records_by_place f seq first (k + 1) ws
    (λ j v e. let same : k + suc j ≡ k + 1 + j = omega arith in subst (λ x. f (first + x) ≡ Some (record_of seq first x v)) same (h (suc j) v e)) in
    let shifted : range_with_len (first + k + 1) (length ws) ≡ range_with_len (first + (k + 1)) (length ws) =
    ap (λ x. range_with_len x (length ws)) (omega arith) in
    ap (λ o. cons_option o (filter_map f (range_with_len (first + k + 1) (length ws)))) here
    ∙ ap (λ rs. record_of seq first k w ∷ rs) (ap (filter_map f) shifted ∙ rest)

pub missing_after : (borne : ℕ → Bool) (n p : ℕ) → ((q : ℕ) → p ≤ q → q < p + n → borne q ≡ true) → least_missing borne n p ≡ p + n
unfolding least_missing
missing_after borne zero p h = sym (add-zero p)
missing_after borne (suc n) p h =
    let more : least_missing borne n (p + 1) ≡ p + suc n = missing_after borne n (p + 1) (λ q low high. h q (omega arith) (omega arith)) ∙ omega arith in
    ap (λ b. cond b (least_missing borne n (p + 1)) p) (h p (omega arith) (omega arith)) ∙ more

pub each_borne : (h : StartRecord) (seq first k q : ℕ) (ws : List SectorWrite) → h.first_seq ≤ seq → k ≤ q → q < k + length ws
    → is_borne (records_of seq first k ws) h q ≡ true
each_borne h seq first k q [] mount low high = absurd (omega arith)
each_borne h seq first k q (w ∷ ws) mount low high =
    elim (cases_eq k q) [
      | inl e ↦ or_left (leb h.first_seq seq && eqb k q) (is_borne (records_of seq first (k + 1) ws) h q)
          (and_from (leb h.first_seq seq) (eqb k q) (le-leb h.first_seq seq mount) (eq-eqb k q e))
      | inr ne ↦ or_right (leb h.first_seq seq && eqb k q) (is_borne (records_of seq first (k + 1) ws) h q)
          (each_borne h seq first (k + 1) q ws mount (omega arith) (omega arith))
    ]

pub each_counts : (h : StartRecord) (seq first k p : ℕ) (ws : List SectorWrite) → h.first_seq ≤ seq → k + length ws ≤ p
    → filter (counts h p) (records_of seq first k ws) ≡ records_of seq first k ws
each_counts h seq first k p [] mount room = refl
each_counts h seq first k p (w ∷ ws) mount room =
    let here : counts h p (record_of seq first k w) ≡ true =
    or_left (leb h.first_seq seq && ltb k p) (list_any (λ row. (row.line == 0) && (row.seq == seq) && ltb k row.bound) h.rows)
    (and_from (leb h.first_seq seq) (ltb k p) (le-leb h.first_seq seq mount) (lt-ltb k p (omega arith))) in
    ap (λ b. cond b (record_of seq first k w ∷ filter (counts h p) (records_of seq first (k + 1) ws)) (filter (counts h p) (records_of seq first (k + 1) ws)))
    here
    ∙ ap (λ rs. record_of seq first k w ∷ rs) (each_counts h seq first (k + 1) p ws mount (omega arith))

-- The newest record of a sector is its last write.

pub sector_or : List ℕ → Option Record → List ℕ
sector_or z o = option_map_or (λ r. r.sector) o z

-- what was there before is of a lesser position
IsBefore : ℕ → Option Record → Type 0
IsBefore k None = Unit {0}
IsBefore k (Some r) = r.position < k

before_more : (k : ℕ) (o : Option Record) → IsBefore k o → IsBefore (k + 1) o
unfolding IsBefore
before_more k None h = tt
before_more k (Some r) h = omega arith

newer_is : (k : ℕ) (o : Option Record) (r : Record) → IsBefore k o → r.position ≡ k → newer o r ≡ Some r
unfolding IsBefore
newer_is k None r h e = refl
newer_is k (Some best) r h e =
    let later : is_newer best r ≡ true =
    or_left (ltb best.position r.position)
    ((best.position == r.position) && (ltb best.seq r.seq || ((best.seq == r.seq) && (ltb best.at r.at || ((best.at == r.at) && ltb r.line best.line)))))
    (lt-ltb best.position r.position (omega arith)) in
    ap (λ b. cond b (Some r) (Some best)) later

last_write : (seq first lba : ℕ) (z d : List ℕ) (k : ℕ) (ws : List SectorWrite) (best : Option Record) (sectors : List (List ℕ)) → IsBefore k best
    → lba < length sectors
    → sector_or z best ≡ get_or sectors lba d
    → sector_or z (fold newer best (filter (λ r. is_of lba r.lba) (records_of seq first k ws))) ≡ get_or (after sectors ws) lba d
unfolding IsBefore sector_or
last_write seq first lba z d k [] best sectors before inside same = same
last_write seq first lba z d k (w ∷ ws) best sectors before inside same =
    let mine = record_of seq first k w in
    let rest = filter (λ (r : Record). is_of lba r.lba) (records_of seq first (k + 1) ws) in
    let long : lba < length (set sectors w.lba w.sector) = omega (arith, length-set sectors w.lba w.sector) in
    elim (cases_eq w.lba lba) [
      | inl e ↦
          let placed : w.sector ≡ get_or (set sectors w.lba w.sector) lba d =
          sym (ap (λ x. get_or (set sectors x w.sector) lba d) e ∙ get_or-set_same sectors lba w.sector d inside) in
          let taken : newer best mine ≡ Some mine = newer_is k best mine before refl in
          ap (λ b. sector_or z (fold newer best (cond b (mine ∷ rest) rest))) (eq-eqb w.lba lba e)
          ∙ ap (λ o. sector_or z (fold newer o rest)) taken
          ∙ last_write seq first lba z d (k + 1) ws (Some mine) (set sectors w.lba w.sector) (omega arith) long placed
      | inr ne ↦
          let kept : get_or (set sectors w.lba w.sector) lba d ≡ get_or sectors lba d = get_or-set_other sectors w.lba lba w.sector d (λ e. ne (sym e)) in
          ap (λ b. sector_or z (fold newer best (cond b (mine ∷ rest) rest))) (ne_eqb w.lba lba ne)
          ∙ last_write seq first lba z d (k + 1) ws best (set sectors w.lba w.sector) (before_more k best before) long (same ∙ sym kept)
    ]

pub winner_is_last : (seq first lba : ℕ) (z d : List ℕ) (ws : List SectorWrite) (sectors : List (List ℕ)) → lba < length sectors → get_or sectors lba d ≡ z
    → option_map_or (λ (r : Record). r.sector) (newest (filter (λ r. is_of lba r.lba) (records_of seq first 0 ws))) z ≡ get_or (after sectors ws) lba d
unfolding IsBefore sector_or
winner_is_last seq first lba z d ws sectors inside same = last_write seq first lba z d 0 ws None sectors tt inside (sym same)

pub after_length : (sectors : List (List ℕ)) (ws : List SectorWrite) → length (after sectors ws) ≡ length sectors
after_length sectors [] = refl
after_length sectors (w ∷ ws) = after_length (after_write sectors w) ws ∙ length-set sectors w.lba w.sector
