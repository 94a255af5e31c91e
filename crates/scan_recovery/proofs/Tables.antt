-- Tables, and the positions that records bear.
use Rattle.std.proofs.Common.{◌≡◌, ◌≢◌, ℕ, ◌+◌, ◌-◌, ◌<◌, ◌≤◌, zero, suc, Bool, true, false, ◌&&◌, ◌||◌, ◌==◌, nat_le, List, [], ◌∷◌, ◌++◌, length, take, drop, get_or, slice_index_or, replicate, map, append-nil, add-zero, Some, refl, sym, ap, ◌∙◌, arith}
use Rattle.std.specs.List.{slice_get, slice_set, range_with_len}
use Rattle.std.proofs.lemmas.List.Folds.{list_any-append}
use Rattle.std.proofs.lemmas.Option.{same_Some, slice_get-get_or}
use Rattle.std.proofs.lemmas.Bool.{le-leb, lt-leb, eq-eqb, ne_eqb}
use Rattle.pblk_model.specs.StartRecord.{StartRecord}
use Rattle.pblk_model.specs.Records.{Record}
use Rattle.pblk_model.specs.Contents.{is_borne}
use Rattle.scan_recovery.specs.Traces.{borne_at}
use Rattle.pblk_model.proofs.Lists.{length_replicate}
use Rattle.pblk_model.proofs.Maps.{map_last}
use Rattle.pblk_model.proofs.Parts.{drop_past, take_all}
use Rattle.pblk_model.proofs.Tests.{and_false}
use Rattle.pblk_model.specs.Tables.{IsTable}
use Rattle.pblk_model.proofs.TableLemmas.{table_set, table_same, get_table, take_one}

get_replicate : {X : Type 0} (n : ℕ) (x : X) (k : ℕ) → k < n → slice_get (replicate n x) k ≡ Some x
get_replicate zero x k h = absurd (omega arith)
get_replicate (suc n) x zero h = refl
get_replicate (suc n) x (suc k) h = get_replicate n x k (omega arith)

pub table_new : {X : Type 0} (n : ℕ) (f : ℕ → X) (x : X) → ((k : ℕ) → k < n → f k ≡ x) → IsTable n f (replicate n x)
table_new n f x h = record { count = length_replicate n x; each = λ k below. get_replicate n x k below ∙ ap Some (sym (h k below)) }

-- Positions that are borne.

abbrev bears_at : StartRecord → ℕ → Record → Bool
bears_at h p r = nat_le h.first_seq r.seq && (r.position == p)

or_false : (b : Bool) → b || false ≡ b
or_false true = refl
or_false false = refl

borne_more : (rs : List Record) (r : Record) (h : StartRecord) (p : ℕ) → is_borne (rs ++ r ∷ []) h p ≡ is_borne rs h p || (bears_at h p r || false)
borne_more rs r h p = list_any-append (bears_at h p) rs (r ∷ [])

or_true : (a : Bool) → a || true ≡ true
or_true true = refl
or_true false = refl

pub now_borne : (rs : List Record) (r : Record) (h : StartRecord) (k : ℕ) → h.first_seq ≤ r.seq → r.position ≡ h.front + k → borne_at (rs ++ r ∷ []) h k ≡ true
now_borne rs r h k mount at =
    borne_more rs r h (h.front + k) ∙ ap (λ b. is_borne rs h (h.front + k) || ((b && (r.position == h.front + k)) || false)) (le-leb h.first_seq r.seq mount)
    ∙ ap (λ b. is_borne rs h (h.front + k) || (b || false)) (eq-eqb r.position (h.front + k) at) ∙ or_true (is_borne rs h (h.front + k))

unborne : (rs : List Record) (b : Bool) (x : Bool) → b ≡ false → x || (b || false) ≡ x
unborne rs true x e = absurd cc
unborne rs false x e = or_false x

pub still_borne_other : (rs : List Record) (r : Record) (h : StartRecord) (k : ℕ) → r.position ≢ h.front + k → borne_at (rs ++ r ∷ []) h k ≡ borne_at rs h k
still_borne_other rs r h k other = borne_more rs r h (h.front + k)
    ∙ unborne rs (bears_at h (h.front + k) r) (is_borne rs h (h.front + k))
    (and_false (nat_le h.first_seq r.seq) (r.position == h.front + k) (ne_eqb r.position (h.front + k) other))

first_false : (a b : Bool) → a ≡ false → a && b ≡ false
first_false true b e = absurd cc
first_false false b e = refl

pub still_borne_older : (rs : List Record) (r : Record) (h : StartRecord) (k : ℕ) → r.seq < h.first_seq → borne_at (rs ++ r ∷ []) h k ≡ borne_at rs h k
still_borne_older rs r h k older = borne_more rs r h (h.front + k)
    ∙ unborne rs (bears_at h (h.front + k) r) (is_borne rs h (h.front + k))
    (first_false (nat_le h.first_seq r.seq) (r.position == h.front + k) (lt-leb h.first_seq r.seq older))

-- The record is noted in the table.
pub note_set : (n : ℕ) (rs : List Record) (r : Record) (h : StartRecord) (xs : List Bool) → IsTable n (borne_at rs h) xs → h.first_seq ≤ r.seq
    → h.front ≤ r.position → r.position - h.front < length xs
    → IsTable n (borne_at (rs ++ r ∷ []) h) (slice_set xs (r.position - h.front) true)
note_set n rs r h xs table mount above inside =
    table_set n (borne_at rs h) (borne_at (rs ++ r ∷ []) h) xs (r.position - h.front) true table (omega (arith, table.count))
    (now_borne rs r h (r.position - h.front) mount (omega arith))
    (λ j other. still_borne_other rs r h j (λ e. other (omega arith)))

pub note_past : (n : ℕ) (rs : List Record) (r : Record) (h : StartRecord) (xs : List Bool) → IsTable n (borne_at rs h) xs → h.front ≤ r.position
    → length xs ≤ r.position - h.front
    → IsTable n (borne_at (rs ++ r ∷ []) h) xs
note_past n rs r h xs table above past =
    table_same n (borne_at rs h) (borne_at (rs ++ r ∷ []) h) xs table (λ j below. still_borne_other rs r h j (λ e. omega (arith, table.count)))

pub note_older : (n : ℕ) (rs : List Record) (r : Record) (h : StartRecord) (xs : List Bool) → IsTable n (borne_at rs h) xs → r.seq < h.first_seq
    → IsTable n (borne_at (rs ++ r ∷ []) h) xs
note_older n rs r h xs table older = table_same n (borne_at rs h) (borne_at (rs ++ r ∷ []) h) xs table (λ j below. still_borne_older rs r h j older)

pub note_below : (n : ℕ) (rs : List Record) (r : Record) (h : StartRecord) (xs : List Bool) → IsTable n (borne_at rs h) xs → r.position < h.front
    → IsTable n (borne_at (rs ++ r ∷ []) h) xs
note_below n rs r h xs table below =
    table_same n (borne_at rs h) (borne_at (rs ++ r ∷ []) h) xs table (λ j inside. still_borne_other rs r h j (λ e. omega arith))

-- The first that is missing.

-- What a flag says, and what a vector holds whose slice was written.

pub flag_at : (n : ℕ) (f : ℕ → Bool) (xs : List Bool) (k : ℕ) (b : Bool) → IsTable n f xs → k < length xs → slice_index_or xs k false ≡ b → f k ≡ b
flag_at n f xs k b h inside is = get_table n f xs k b h (slice_get-get_or xs k false inside ∙ ap Some is)

pub vec_written : {X : Type 0} (len : ℕ) (xs items : List X) → length xs ≡ len → length items ≡ len → take len (xs ++ drop (length xs) items) ≡ xs
vec_written len xs items a b = ap (λ ys. take len (xs ++ ys)) (drop_past items (length xs) (omega arith)) ∙ ap (take len) (append-nil xs)
    ∙ take_all xs len (omega arith)

pub map_take_one : {X Y : Type 0} (f : X → Y) (xs : List X) (k : ℕ) (d : X) → k < length xs
    → map f (take (k + 1) xs) ≡ map f (take k xs) ++ f (get_or xs k d) ∷ []
map_take_one f xs k d h = ap (map f) (take_one xs k d h) ∙ map_last f (take k xs) (get_or xs k d)

-- a table as a list
pub table_list : {X : Type 0} (n : ℕ) (f : ℕ → X) (xs : List X) → IsTable n f xs → xs ≡ map f (range_with_len 0 n)
table_list n f xs h = from 0 n xs f h.count (λ k below. (let place : k ≡ 0 + k = omega arith in h.each k below ∙ ap (λ j. Some (f j)) place)) where
  from : {X : Type 0} (a n : ℕ) (xs : List X) (f : ℕ → X) → length xs ≡ n → ((k : ℕ) → k < n → slice_get xs k ≡ Some (f (a + k)))
      → xs ≡ map f (range_with_len a n)
  from a zero [] f count each = refl
  from a zero (x ∷ xs) f count each = absurd (omega arith)
  from a (suc n) [] f count each = absurd (omega arith)
  from a (suc n) (x ∷ xs) f count each =
      let first : x ≡ f a = same_Some x (f a) (each 0 (omega arith) ∙ ap (λ k. Some (f k)) (add-zero a)) in
      ap (λ y. y ∷ xs) first ∙ ap (λ ys. f a ∷ ys)
      (from (a + 1) n xs f (omega arith)
      (λ k below. (let place : a + suc k ≡ a + 1 + k = omega arith in each (suc k) (omega arith) ∙ ap (λ j. Some (f j)) place)))

-- what stands at an index, whatever the default
pub get_default : {X : Type 0} (xs : List X) (k : ℕ) (d e : X) → k < length xs → get_or xs k d ≡ get_or xs k e
get_default [] k d e h = absurd (omega arith)
get_default (x ∷ xs) zero d e h = refl
get_default (x ∷ xs) (suc k) d e h = get_default xs k d e (omega arith)
