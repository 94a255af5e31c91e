-- A run whose text has no `e` line and no `worn` line: its status, its close, and what it writes.
use Rattle.std.proofs.Common.{◌≡◌, ℕ, ◌+◌, ◌≤◌, ◌==◌, ◌||◌, zero, suc, cond, Bool, true, false, Some, None, Option, List, [], ◌∷◌, ◌++◌, length, map, take, refl, subst, ap, ap₂, ◌∙◌, arith}
use Rattle.std.specs.Prelude.{slice_get, ⊤}
use Rattle.std.specs.List.{AllByRecursion, cons_option, filter, filter_map, flat_map, list_any, range_with_len, zip}
use Rattle.std.specs.Option.{unwrap_or}
use Rattle.std.proofs.Math.Seq.{take-length}
use Rattle.std.proofs.lemmas.List.{map-append}
use Rattle.block_port.specs.declared.rows.WornAnswer.{WornAnswer}
use Rattle.pblk_model.specs.declared.script.Command.{Command}
use Rattle.pblk_model.specs.declared.script.Command.TheVariants as script
use Rattle.pblk_model.specs.History.{after, SectorWrite, tag_sector}
use Rattle.pblk_model.specs.Script.{CommandFits, ScriptFits}
use Rattle.pblk_model.specs.Text.{Closed, ClosedByDrive, ClosedWorn, Closing, Drive, Flushed, HistoryLine, Outcome, Silent, Transcript, Words, Worn}
use Rattle.pblk_model.specs.Transcript.{Allowed, answered, closing_event, events, IsRun, Moment, opening_event, outcome_event, placed_write, PlacedWrite, Ran, rows_of, sector_writes}
use Rattle.pblk_cli.specs.Complete.{AreApart, command_writes, script_writes}
use Rattle.pblk_cli.specs.Status.{closed_worn, is_worn, names_any, status_of_run}
use Rattle.pblk_cli.specs.Worn.{asked_by, closing_worn, thread_worns, threads_worns, worn_of, worns_of, written_of}
use Rattle.pblk_model.proofs.Lists.{all_append}
use Rattle.pblk_model.proofs.Parts.{all_at, all_by_get}
use Rattle.pblk_cli.proofs.ApartThreads.{in_thread_order, placed_sectors}

-- ---- lists

-- nothing is joined of parts but nothing
parts_none : {X : Type 0} (xs ys : List X) → xs ++ ys ≡ [] → (xs ≡ []) × (ys ≡ [])
parts_none [] ys e = (refl, e)
parts_none (x ∷ xs) ys e = absurd cc

-- ---- the lines of the outcomes

-- the outcome's line is no `e` line and no `worn` line
abbrev IsCalm : Outcome → Type 0
IsCalm o = (outcome_event o ≡ []) × (is_worn o ≡ false)

not_worn : (written count : ℕ) (o : Outcome) → worn_of written count o ≡ [] → is_worn o ≡ false
not_worn written count Silent e = refl
not_worn written count (Words front words) e = refl
not_worn written count (Flushed front) e = refl
not_worn written count (Drive unit event) e = refl
not_worn written count (Worn wanted have) e = absurd cc

thread_calm : (written : ℕ) (cs : List Command) (os : List Outcome) → thread_worns written cs os ≡ [] → flat_map outcome_event os ≡ []
    → AllByRecursion IsCalm os
thread_calm written cs [] e f = tt
thread_calm written [] (o ∷ os) e f =
    let first = parts_none (worn_of written 0 o) (thread_worns written [] os) e in
    let events = parts_none (outcome_event o) (flat_map outcome_event os) f in
    ((events.0, not_worn written 0 o first.0), thread_calm written [] os first.1 events.1)
thread_calm written (c ∷ cs) (o ∷ os) e f =
    let first = parts_none (worn_of written (asked_by c) o) (thread_worns (written + written_of c o) cs os) e in
    let events = parts_none (outcome_event o) (flat_map outcome_event os) f in
    ((events.0, not_worn written (asked_by c) o first.0), thread_calm (written + written_of c o) cs os first.1 events.1)

threads_calm : (css : List (List Command)) (oss : List (List Outcome)) → threads_worns css oss ≡ [] → flat_map (flat_map outcome_event) oss ≡ []
    → AllByRecursion (AllByRecursion IsCalm) oss
threads_calm css [] e f = tt
threads_calm [] (os ∷ oss) e f =
    let first = parts_none (thread_worns 0 [] os) (threads_worns [] oss) e in
    let events = parts_none (flat_map outcome_event os) (flat_map (flat_map outcome_event) oss) f in
    (thread_calm 0 [] os first.0 events.0, threads_calm [] oss first.1 events.1)
threads_calm (cs ∷ css) (os ∷ oss) e f =
    let first = parts_none (thread_worns 0 cs os) (threads_worns css oss) e in
    let events = parts_none (flat_map outcome_event os) (flat_map (flat_map outcome_event) oss) f in
    (thread_calm 0 cs os first.0 events.0, threads_calm css oss first.1 events.1)

none_worn : (os : List Outcome) → AllByRecursion IsCalm os → list_any is_worn os ≡ false
none_worn [] all = refl
none_worn (o ∷ os) all = ap₂ (λ a b. a || b) all.0.1 (none_worn os all.1)

none_worn_in : (oss : List (List Outcome)) → AllByRecursion (AllByRecursion IsCalm) oss → list_any (list_any is_worn) oss ≡ false
none_worn_in [] all = refl
none_worn_in (os ∷ oss) all = ap₂ (λ a b. a || b) (none_worn os all.0) (none_worn_in oss all.1)

closing_is : (written : ℕ) (c : Closing) → closing_worn written c ≡ [] → closing_event c ≡ [] → c ≡ Closed
closing_is written Closed e f = refl
closing_is written (ClosedByDrive unit event) e f = absurd cc
closing_is written (ClosedWorn wanted have) e f = absurd cc

opening_is : (o : Option (ℕ × ℕ)) → opening_event o ≡ [] → o ≡ None
opening_is None e = refl
opening_is (Some event) e = absurd cc

module _ (t : Transcript) (named : events t ≡ []) where
  rest : (opening_event t.opening ++ flat_map (flat_map outcome_event) t.outcomes ≡ []) × (closing_event t.closing ≡ [])
  rest = parts_none (opening_event t.opening ++ flat_map (flat_map outcome_event) t.outcomes) (closing_event t.closing) named

  first : (opening_event t.opening ≡ []) × (flat_map (flat_map outcome_event) t.outcomes ≡ [])
  first = parts_none (opening_event t.opening) (flat_map (flat_map outcome_event) t.outcomes) rest.0

  pub opened : t.opening ≡ None
  opened = opening_is t.opening first.0

  pub no_closing_event : closing_event t.closing ≡ []
  no_closing_event = rest.1

module _ (commands : List (List Command)) (t : Transcript) (named : events t ≡ []) (refused : worns_of commands t ≡ []) where
  worns : (threads_worns commands t.outcomes ≡ []) × (closing_worn (length t.history) t.closing ≡ [])
  worns = parts_none (threads_worns commands t.outcomes) (closing_worn (length t.history) t.closing) refused

  calm : AllByRecursion (AllByRecursion IsCalm) t.outcomes
  calm = threads_calm commands t.outcomes worns.0 (first t named).1

  pub closed : t.closing ≡ Closed
  closed = closing_is (length t.history) t.closing worns.1 (no_closing_event t named)

  pub status_zero : status_of_run t ≡ 0
  status_zero = ap₂ (λ a b. cond a 5 (cond b 6 0)) (ap names_any named)
      (ap₂ (λ a b. a || b) (none_worn_in t.outcomes calm) (ap closed_worn closed))

-- ---- a status of 0

or_false : (a b : Bool) → a || b ≡ false → (a ≡ false) × (b ≡ false)
or_false true b e = absurd (cc e)
or_false false b e = (refl, e)

line_unworn : (written count : ℕ) (o : Outcome) → is_worn o ≡ false → worn_of written count o ≡ []
line_unworn written count Silent e = refl
line_unworn written count (Words front words) e = refl
line_unworn written count (Flushed front) e = refl
line_unworn written count (Drive unit event) e = refl
line_unworn written count (Worn wanted have) e = absurd (cc e)

thread_unworn : (written : ℕ) (cs : List Command) (os : List Outcome) → list_any is_worn os ≡ false → thread_worns written cs os ≡ []
thread_unworn written cs [] e = refl
thread_unworn written [] (o ∷ os) e =
    let parts = or_false (is_worn o) (list_any is_worn os) e in
    ap₂ (λ xs ys. xs ++ ys) (line_unworn written 0 o parts.0) (thread_unworn written [] os parts.1)
thread_unworn written (c ∷ cs) (o ∷ os) e =
    let parts = or_false (is_worn o) (list_any is_worn os) e in
    ap₂ (λ xs ys. xs ++ ys) (line_unworn written (asked_by c) o parts.0) (thread_unworn (written + written_of c o) cs os parts.1)

threads_unworn : (css : List (List Command)) (oss : List (List Outcome)) → list_any (list_any is_worn) oss ≡ false → threads_worns css oss ≡ []
threads_unworn css [] e = refl
threads_unworn [] (os ∷ oss) e =
    let parts = or_false (list_any is_worn os) (list_any (list_any is_worn) oss) e in
    ap₂ (λ xs ys. xs ++ ys) (thread_unworn 0 [] os parts.0) (threads_unworn [] oss parts.1)
threads_unworn (cs ∷ css) (os ∷ oss) e =
    let parts = or_false (list_any is_worn os) (list_any (list_any is_worn) oss) e in
    ap₂ (λ xs ys. xs ++ ys) (thread_unworn 0 cs os parts.0) (threads_unworn css oss parts.1)

closing_unworn : (written : ℕ) (c : Closing) → closed_worn c ≡ false → closing_worn written c ≡ []
closing_unworn written Closed e = refl
closing_unworn written (ClosedByDrive unit event) e = refl
closing_unworn written (ClosedWorn wanted have) e = absurd (cc e)

abbrev status_by : Bool → Bool → ℕ
status_by named worn = cond named 5 (cond worn 6 0)

by_status : (names : List (ℕ × ℕ)) (worn : Bool) → status_by (names_any names) worn ≡ 0 → (names ≡ []) × (worn ≡ false)
by_status [] true e = absurd (omega (arith, e))
by_status [] false e = (refl, refl)
by_status (name ∷ names) worn e = absurd (omega (arith, e))

-- With status 0 no line is an `e` line or a `worn` line.
pub none_at_zero : (commands : List (List Command)) (t : Transcript) → status_of_run t ≡ 0 → (events t ≡ []) × (worns_of commands t ≡ [])
none_at_zero commands t done =
    let of = by_status (events t) (list_any (list_any is_worn) t.outcomes || closed_worn t.closing) done in
    let parts = or_false (list_any (list_any is_worn) t.outcomes) (closed_worn t.closing) of.1 in
    (of.0, ap₂ (λ xs ys. xs ++ ys) (threads_unworn commands t.outcomes parts.0) (closing_unworn (length t.history) t.closing parts.1))

-- ---- what is written

-- a write was placed
abbrev IsPlacedWrite : Command × Outcome → Type 0
IsPlacedWrite (script.Write lba count tag, o) = o ≡ Silent
IsPlacedWrite (script.Read lba count, o) = ⊤
IsPlacedWrite (script.Flush, o) = ⊤
IsPlacedWrite (script.Post name, o) = ⊤
IsPlacedWrite (script.Await name, o) = ⊤

one_placed : (m : Moment) (c : Command) (o : Outcome) → Allowed m c o → IsCalm o → IsPlacedWrite (c, o)
one_placed m (script.Write lba count tag) Silent ok calm = refl
one_placed m (script.Write lba count tag) (Words front words) ok calm = absurd ok
one_placed m (script.Write lba count tag) (Flushed front) ok calm = absurd ok
one_placed m (script.Write lba count tag) (Drive unit event) ok calm = absurd cc
one_placed m (script.Write lba count tag) (Worn wanted have) ok calm = absurd cc
one_placed m (script.Read lba count) o ok calm = tt
one_placed m script.Flush o ok calm = tt
one_placed m (script.Post name) o ok calm = tt
one_placed m (script.Await name) o ok calm = tt

abbrev sector_of : ℕ → HistoryLine → SectorWrite
sector_of size row = record { lba = row.lba; sector = tag_sector size row.tag }

rows_writes : (size : ℕ) (w : PlacedWrite)
    → map (sector_of size) (rows_of w) ≡ map (λ at. record { lba = at; sector = tag_sector size w.tag }) (range_with_len w.lba w.count)
rows_writes size w = go (range_with_len w.lba w.count)
  where
    go : (xs : List ℕ) → map (sector_of size) (map (λ lba. record { thread = w.thread; lba = lba; tag = w.tag }) xs)
        ≡ map (λ at. record { lba = at; sector = tag_sector size w.tag }) xs
    go [] = refl
    go (x ∷ xs) = ap (λ ys. record { lba = x; sector = tag_sector size w.tag } ∷ ys) (go xs)

-- the history, write by write
history_writes : (size : ℕ) (order : List PlacedWrite) → sector_writes size (flat_map rows_of order) ≡ flat_map (placed_sectors size) order
history_writes size [] = refl
history_writes size (w ∷ order) =
    map-append (sector_of size) (rows_of w) (flat_map rows_of order) ∙ ap₂ (λ xs ys. xs ++ ys) (rows_writes size w) (history_writes size order)

-- the writes of a thread, all of which were placed
thread_writes : (size thread : ℕ) (cs : List Command) (os : List Outcome) → length os ≡ length cs → AllByRecursion IsPlacedWrite (zip cs os)
    → flat_map (placed_sectors size) (filter_map (placed_write thread) (zip cs os)) ≡ flat_map (command_writes size) cs
thread_writes size thread [] os e all = refl
thread_writes size thread (c ∷ cs) [] e all = absurd (omega arith)
thread_writes size thread (script.Write lba count tag ∷ cs) (o ∷ os) e all =
    ap (λ x. flat_map (placed_sectors size) (cons_option (placed_write thread (script.Write lba count tag, x)) (filter_map (placed_write thread) (zip cs os))))
    all.0
    ∙ ap (λ ws. command_writes size (script.Write lba count tag) ++ ws) (thread_writes size thread cs os (omega arith) all.1)
thread_writes size thread (script.Read lba count ∷ cs) (o ∷ os) e all = thread_writes size thread cs os (omega arith) all.1
thread_writes size thread (script.Flush ∷ cs) (o ∷ os) e all = thread_writes size thread cs os (omega arith) all.1
thread_writes size thread (script.Post name ∷ cs) (o ∷ os) e all = thread_writes size thread cs os (omega arith) all.1
thread_writes size thread (script.Await name ∷ cs) (o ∷ os) e all = thread_writes size thread cs os (omega arith) all.1

-- each command with what became of it
rows_calm : (cs : List Command) (os : List Outcome) → AllByRecursion IsCalm os → AllByRecursion (λ x. IsCalm x.1) (zip cs os)
rows_calm [] os all = tt
rows_calm (c ∷ cs) [] all = tt
rows_calm (c ∷ cs) (o ∷ os) all = (all.0, rows_calm cs os all.1)

-- ---- the threads of a run

-- a thread has as many outcomes as commands
same_lengths : (oss : List (List Outcome)) (css : List (List Command)) → map length oss ≡ map length css → (i : ℕ)
    → length (unwrap_or (slice_get oss i) []) ≡ length (unwrap_or (slice_get css i) [])
same_lengths [] [] same i = refl
same_lengths [] (cs ∷ css) same i = absurd cc
same_lengths (os ∷ oss) [] same i = absurd cc
same_lengths (os ∷ oss) (cs ∷ css) same zero = let e : length os ≡ length cs = cc in e
same_lengths (os ∷ oss) (cs ∷ css) same (suc i) = same_lengths oss css (let rest : map length oss ≡ map length css = cc in rest) i

calm_at : (oss : List (List Outcome)) → AllByRecursion (AllByRecursion IsCalm) oss → (i : ℕ) → AllByRecursion IsCalm (unwrap_or (slice_get oss i) [])
calm_at [] all i = tt
calm_at (os ∷ oss) all zero = all.0
calm_at (os ∷ oss) all (suc i) = calm_at oss all.1 i

-- What a run leaves whose threads write no sector in common.
pub contents_of : (size : ℕ) (script : List (List Command)) (before left : List (List ℕ)) (t : Transcript) → AreApart script
    → IsRun size script before t left → events t ≡ [] → worns_of script t ≡ [] → left ≡ after before (script_writes size script)
contents_of size script before left t apart run named refused =
    run.kept
    ∙ ap (λ n. after before (sector_writes size (take n t.history))) (run.closed (closed script t named refused))
    ∙ ap (λ rows. after before (sector_writes size rows)) (take-length t.history ∙ run.told.history)
    ∙ ap (after before) (history_writes size run.told.order)
    ∙ in_thread_order size script t.outcomes run.told.order before apart run.told.each written
  where
    lengths : map length t.outcomes ≡ map length script
    lengths = subst (Ran script t) (opened t named) run.told.ran

    written : (i : ℕ) → flat_map (placed_sectors size) (filter (λ w. w.thread == i) run.told.order)
        ≡ flat_map (command_writes size) (unwrap_or (slice_get script i) [])
    written i =
        ap (flat_map (placed_sectors size)) (run.told.each i)
        ∙ thread_writes size i (unwrap_or (slice_get script i) []) (unwrap_or (slice_get t.outcomes i) []) (same_lengths t.outcomes script lengths i) placed
      where
        placed : AllByRecursion IsPlacedWrite (zip (unwrap_or (slice_get script i) []) (unwrap_or (slice_get t.outcomes i) []))
        placed = all_by_get IsPlacedWrite (answered script t i) (λ k x at.
            one_placed (record { size = size; sectors = before; script = script; transcript = t; seen = run.told.seen; thread = i; command = k }) x.0 x.1
            (run.told.allowed i k x at)
            (all_at (λ (y : Command × Outcome). IsCalm y.1) (answered script t i) k x at
            (rows_calm (unwrap_or (slice_get script i) []) (unwrap_or (slice_get t.outcomes i) []) (calm_at t.outcomes (calm script t named refused) i))))

-- ---- how many sectors a refused write was of

abbrev IsFew : WornAnswer → Type 0
IsFew a = a.count ≤ 16

worn_few : (written count : ℕ) (o : Outcome) → count ≤ 16 → AllByRecursion IsFew (worn_of written count o)
worn_few written count Silent few = tt
worn_few written count (Words front words) few = tt
worn_few written count (Flushed front) few = tt
worn_few written count (Drive unit event) few = tt
worn_few written count (Worn wanted have) few = (few, tt)

asked_few : (capacity : ℕ) (c : Command) → CommandFits capacity c → asked_by c ≤ 16
asked_few capacity (script.Write lba count tag) fits = fits.0.few
asked_few capacity (script.Read lba count) fits = omega arith
asked_few capacity script.Flush fits = omega arith
asked_few capacity (script.Post name) fits = omega arith
asked_few capacity (script.Await name) fits = omega arith

thread_few : (capacity written : ℕ) (cs : List Command) (os : List Outcome) → AllByRecursion (CommandFits capacity) cs
    → AllByRecursion IsFew (thread_worns written cs os)
thread_few capacity written cs [] fits = tt
thread_few capacity written [] (o ∷ os) fits =
    all_append IsFew (worn_of written 0 o) (thread_worns written [] os) (worn_few written 0 o (omega arith)) (thread_few capacity written [] os tt)
thread_few capacity written (c ∷ cs) (o ∷ os) fits =
    all_append IsFew (worn_of written (asked_by c) o) (thread_worns (written + written_of c o) cs os)
    (worn_few written (asked_by c) o (asked_few capacity c fits.0)) (thread_few capacity (written + written_of c o) cs os fits.1)

threads_few : (capacity : ℕ) (css : List (List Command)) (oss : List (List Outcome)) → AllByRecursion (AllByRecursion (CommandFits capacity)) css
    → AllByRecursion IsFew (threads_worns css oss)
threads_few capacity css [] fits = tt
threads_few capacity [] (os ∷ oss) fits =
    all_append IsFew (thread_worns 0 [] os) (threads_worns [] oss) (thread_few capacity 0 [] os tt) (threads_few capacity [] oss tt)
threads_few capacity (cs ∷ css) (os ∷ oss) fits =
    all_append IsFew (thread_worns 0 cs os) (threads_worns css oss) (thread_few capacity 0 cs os fits.0) (threads_few capacity css oss fits.1)

closing_few : (written : ℕ) (c : Closing) → AllByRecursion IsFew (closing_worn written c)
closing_few written Closed = tt
closing_few written (ClosedByDrive unit event) = tt
closing_few written (ClosedWorn wanted have) = (omega arith, tt)

pub worns_few : (capacity : ℕ) (script : List (List Command)) (t : Transcript) → ScriptFits capacity script
    → AllByRecursion (λ (a : WornAnswer). a.count ≤ 16) (worns_of script t)
worns_few capacity script t fits =
    all_append IsFew (threads_worns script t.outcomes) (closing_worn (length t.history) t.closing) (threads_few capacity script t.outcomes fits.each)
    (closing_few (length t.history) t.closing)
