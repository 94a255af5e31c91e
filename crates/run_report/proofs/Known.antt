-- The lines of a port's own writes, and what a port knows.
use Rattle.std.proofs.Common.{ℕ, zero, suc, ◌+◌, ◌≤◌, ◌≡◌, List, [], ◌∷◌, ◌++◌, map, length, replicate, take, Some, slice_get, sym, refl, ap, ap₂, subst, ◌∙◌, arith}
use Rattle.std.specs.List.{flat_map, range_with_len, zip}
use Rattle.std.proofs.lemmas.Bool.{le-ltb}
use Rattle.std.proofs.lemmas.List.{length-map, map-append, take-append-le}
use Rattle.std.proofs.lemmas.Option.{none-some, same_Some}
use Rattle.pblk_model.specs.declared.script.Command.{Command}
use Rattle.pblk_model.specs.declared.script.Command.TheVariants.{Write, Read, Flush, Post, Await}
use Rattle.pblk_model.specs.History.{SectorWrite, users, tag_sector}
use Rattle.pblk_model.specs.Text.{HistoryLine, Outcome}
use Rattle.pblk_model.specs.Transcript.{sector_writes}
use Rattle.block_port.specs.Own as own
use Rattle.block_port.specs.Own.{PlacedSector, OwnWrite, placed_from}
use Rattle.block_port.specs.Port.{ModelPort, Learns, Rise, positions}
use Rattle.run_threads.specs.declared.records.Answer.{Answer}
use Rattle.run_threads.specs.declared.records.Answer.TheVariants.{Placed, Words, Synced, Done, Range, Refused}
use Rattle.run_threads.specs.Run.{Runs, Says, own_in}
use Rattle.run_report.specs.Report.{outcome_of}
use Rattle.run_report.specs.declared.rows.Row.{Row}
use Rattle.run_report.specs.Rows.{lines_of, positions_of, thread_rows}
use Rattle.run_report.proofs.Steps.{seen_at, users-append}
use Rattle.run_threads.proofs.RunLemmas.{run_learns}

-- A port learns by each command.

pub as_many : (told : List ℕ → ℕ) (cs : List Command) (rows : List Answer) (old new : ModelPort) → Runs told old cs rows new → length rows ≡ length cs
as_many told [] [] old new h = refl
as_many told [] (a ∷ rows) old new h = absurd h
as_many told (c ∷ cs) [] old new h = absurd h
as_many told (c ∷ cs) (a ∷ rows) old new h = ap suc (as_many told cs rows h.0 new h.2)

-- The lines of its own writes are those of the rows.

positions-placed_from : (position lba count : ℕ) (sector : List ℕ)
    → positions (placed_from position lba (replicate count sector)) ≡ range_with_len position count
positions-placed_from position lba zero sector = refl
positions-placed_from position lba (suc count) sector = ap (λ ps. position ∷ ps) (positions-placed_from (position + 1) (lba + 1) count sector)

writes-placed_from : (size position thread lba count tag : ℕ) → map (λ x. x.write) (placed_from position lba (replicate count (tag_sector size tag)))
    ≡ sector_writes size (map (λ at. record { thread = thread; lba = at; tag = tag }) (range_with_len lba count))
writes-placed_from size position thread lba zero tag = refl
writes-placed_from size position thread lba (suc count) tag =
    ap (λ ws. record { lba = lba; sector = tag_sector size tag } ∷ ws) (writes-placed_from size (position + 1) thread (lba + 1) count tag)

-- a write's lines, by the position at which it begins
abbrev pub keyed : OwnWrite → ℕ × List PlacedSector
keyed w = (w.place.first, own.lines_of w)

-- those of a row, of sectors of this size
abbrev pub placed_lines : ℕ → Row → List PlacedSector
placed_lines size row = placed_from row.first row.lba (replicate row.count (tag_sector size row.tag))

abbrev pub keyed_row : ℕ → Row → ℕ × List PlacedSector
keyed_row size row = (row.first, placed_lines size row)

pub own_keyed : (size thread : ℕ) (cs : List Command) (rows : List Answer)
    → map keyed (own_in size cs rows) ≡ map (keyed_row size) (thread_rows thread cs rows)
own_keyed size thread [] rows = refl
own_keyed size thread (c ∷ cs) [] = refl
own_keyed size thread (Write lba count tag ∷ cs) (Placed place ∷ rows) =
    ap (λ xs. (place.first, placed_from place.first lba (replicate count (tag_sector size tag))) ∷ xs) (own_keyed size thread cs rows)
own_keyed size thread (Write lba count tag ∷ cs) (Words front words ∷ rows) = own_keyed size thread cs rows
own_keyed size thread (Write lba count tag ∷ cs) (Synced front ∷ rows) = own_keyed size thread cs rows
own_keyed size thread (Write lba count tag ∷ cs) (Done ∷ rows) = own_keyed size thread cs rows
own_keyed size thread (Write lba count tag ∷ cs) (Range ∷ rows) = own_keyed size thread cs rows
own_keyed size thread (Write lba count tag ∷ cs) (Refused trouble ∷ rows) = own_keyed size thread cs rows
own_keyed size thread (Read lba count ∷ cs) (a ∷ rows) = own_keyed size thread cs rows
own_keyed size thread (Flush ∷ cs) (a ∷ rows) = own_keyed size thread cs rows
own_keyed size thread (Post name ∷ cs) (a ∷ rows) = own_keyed size thread cs rows
own_keyed size thread (Await name ∷ cs) (a ∷ rows) = own_keyed size thread cs rows

pub rows_positions : (size : ℕ) (rows : List Row) → positions (flat_map (placed_lines size) rows) ≡ flat_map positions_of rows
rows_positions size [] = refl
rows_positions size (row ∷ rows) = map-append (λ (x : PlacedSector). x.position) (placed_lines size row) (flat_map (placed_lines size) rows)
    ∙ ap₂ (λ (ps qs : List ℕ). ps ++ qs) (positions-placed_from row.first row.lba row.count (tag_sector size row.tag)) (rows_positions size rows)

pub rows_writes : (size : ℕ) (rows : List Row) → map (λ x. x.write) (flat_map (placed_lines size) rows) ≡ sector_writes size (flat_map lines_of rows)
rows_writes size [] = refl
rows_writes size (row ∷ rows) = map-append (λ (x : PlacedSector). x.write) (placed_lines size row) (flat_map (placed_lines size) rows)
    ∙ ap₂ (λ (xs ys : List SectorWrite). xs ++ ys) (writes-placed_from size row.first row.thread row.lba row.count row.tag) (rows_writes size rows)
    ∙ sym (map-append (λ (line : HistoryLine). record { lba = line.lba; sector = tag_sector size line.tag }) (lines_of row) (flat_map lines_of rows))

-- What is known below a position that was taken stays.

pub none_below : (from to p : ℕ) (xs : List PlacedSector) → Rise from to xs → p ≤ from → users (positions xs) p ≡ 0
none_below from to p [] h low = refl
none_below from to p (x ∷ xs) h low = rw (le-ltb x.position p (omega (arith, h.0, low))) (none_below (x.position + 1) to p xs h.1 (omega (arith, h.0, low)))

pub users_stay : (old new : ModelPort) → Learns old new → (p : ℕ) → p ≤ old.taken → users (positions old.known) p ≡ users (positions new.known) p
users_stay old new h p low =
    let all = map-append (λ (x : PlacedSector). x.position) old.known h.more in
    let both = users-append (positions old.known) (positions h.more) p in
    let none = none_below old.taken new.taken p h.more h.rise low in
    rw (h.known, all) (omega (arith, both, none))

pub writes_stay : (old new : ModelPort) → Learns old new → (k : ℕ) → k ≤ length old.known
    → take k (map (λ x. x.write) old.known) ≡ take k (map (λ x. x.write) new.known)
writes_stay old new h k few =
    let all = map-append (λ (x : PlacedSector). x.write) old.known h.more in
    let long = length-map old.known (λ (x : PlacedSector). x.write) in
    rw (h.known, all) (sym (take-append-le k (map (λ (x : PlacedSector). x.write) old.known) (map (λ (x : PlacedSector). x.write) h.more)
    (omega (arith, few, long))))

-- A command in its place.

pub record IsAt (told : List ℕ → ℕ) (start : List (List ℕ)) (before after : ℕ) (new : ModelPort) (x : Command × Outcome) : Type 0 where
  pub answer : Answer
  pub outcome : x.1 ≡ outcome_of answer
  pub earlier : ModelPort
  pub later : ModelPort
  pub says : Says told earlier x.0 answer later
  pub learns : Learns later new
  pub start_is : later.start ≡ start
  pub heard : earlier.seen ≡ before
  pub now : later.seen ≡ after

pub is_at : (told : List ℕ → ℕ) (cs : List Command) (rows : List Answer) (old new : ModelPort) (h : Runs told old cs rows new) (n : ℕ) (x : Command × Outcome)
    → slice_get (zip cs (map outcome_of rows)) n ≡ Some x
    → IsAt told old.start (seen_at told cs rows old new h n) (seen_at told cs rows old new h (suc n)) new x
is_at told [] rows old new h n x e = absurd (none-some x e)
is_at told (c ∷ cs) [] old new h n x e = absurd (none-some x e)
is_at told (c ∷ cs) (a ∷ rows) old new h zero x e =
    subst (λ (y : Command × Outcome). IsAt told old.start old.seen h.0.seen new y) (same_Some (c, outcome_of a) x e)
    (record {
      answer = a;
      outcome = refl;
      earlier = old;
      later = h.0;
      says = h.1.says;
      learns = run_learns told cs rows h.0 new h.2;
      start_is = h.1.target.start;
      heard = refl;
      now = refl;
    })
is_at told (c ∷ cs) (a ∷ rows) old new h (suc n) x e =
    let there = is_at told cs rows h.0 new h.2 n x e in
    record {
      answer = there.answer;
      outcome = there.outcome;
      earlier = there.earlier;
      later = there.later;
      says = there.says;
      learns = there.learns;
      start_is = there.start_is ∙ h.1.target.start;
      heard = there.heard;
      now = there.now;
    }

-- what a post told was seen then
post_told : (told : List ℕ → ℕ) (old : ModelPort) (a : Answer) (name : List ℕ) (mid : ModelPort) → Says told old (Post name) a mid → told name ≡ old.seen
post_told told old Done name mid h = h.0
post_told told old a name mid h = absurd h

pub posted : (told : List ℕ → ℕ) (cs : List Command) (rows : List Answer) (old new : ModelPort) (h : Runs told old cs rows new) (d : ℕ) (name : List ℕ)
    → slice_get cs d ≡ Some (Post name) → told name ≡ seen_at told cs rows old new h d
posted told [] rows old new h d name e = absurd (none-some (Post name) e)
posted told (c ∷ cs) [] old new h d name e = absurd h
posted told (c ∷ cs) (a ∷ rows) old new h zero name e =
    post_told told old a name h.0 (subst (λ (y : Command). Says told old y a h.0) (same_Some c (Post name) e) h.1.says)
posted told (c ∷ cs) (a ∷ rows) old new h (suc d) name e = posted told cs rows h.0 new h.2 d name e
