-- Threads that write no sector in common: what they leave is what their writes leave, thread after thread.
use Rattle.std.proofs.Common.{◌≡◌, ◌≢◌, ◌⊎◌, inl, inr, ℕ, zero, suc, ◌+◌, ◌<◌, ◌≤◌, ◌==◌, Bool, true, false, cond, Some, None, Option, List, [], ◌∷◌, ◌++◌, length, map, slice_get, slice_set, refl, sym, ap, ap₂, ◌∙◌, arith, append-nil, le_refl}
use Rattle.std.specs.List.{AllByRecursion, filter, filter_map, flat_map, range_with_len, zip}
use Rattle.std.specs.Option.{option_and_then, unwrap_or}
use Rattle.std.proofs.lemmas.Bool.{cases_lt, eqb-true}
use Rattle.std.proofs.lemmas.Option.{none-some, same_Some}
use Rattle.pblk_laws.proofs.FilledLists.{after_length}
use Rattle.pblk_model.specs.declared.script.Command.{Command}
use Rattle.pblk_model.specs.declared.script.Command.TheVariants as script
use Rattle.pblk_model.specs.History.{SectorWrite, after, after_write, tag_sector}
use Rattle.pblk_model.specs.Script.{command_at}
use Rattle.pblk_model.specs.Text.{Drive, Flushed, Outcome, Silent, Words, Worn}
use Rattle.pblk_model.specs.Transcript.{PlacedWrite, placed_write}
use Rattle.pblk_model.proofs.Lists.{IsAmong}
use Rattle.pblk_model.proofs.Maps.{filter_both, in_filter}
use Rattle.pblk_model.proofs.Parts.{all_by_get, all_get, get_past, get_set_other, get_set_same, same_lists}
use Rattle.pblk_model.proofs.Tests.{same_number}
use Rattle.pblk_cli.specs.Complete.{AreApart, command_writes}

-- ---- the contents are by the writes to each sector

abbrev pub writes_on : ℕ → List SectorWrite → List SectorWrite
writes_on lba ws = filter (λ w. w.lba == lba) ws

-- a sector that is set in two lists of one length is the same there
set_agrees : (xs ys : List (List ℕ)) (k : ℕ) (s : List ℕ) → length xs ≡ length ys → slice_get (slice_set xs k s) k ≡ slice_get (slice_set ys k s) k
set_agrees xs ys k s same = by (cases_lt k (length xs))
  where
    by : (k < length xs) ⊎ (length xs ≤ k) → slice_get (slice_set xs k s) k ≡ slice_get (slice_set ys k s) k
    by (inl low) = get_set_same xs k s low ∙ sym (get_set_same ys k s (omega (arith, same)))
    by (inr high) =
        let one : length (slice_set xs k s) ≡ length xs = after_length xs (record { lba = k; sector = s } ∷ []) in
        let two : length (slice_set ys k s) ≡ length ys = after_length ys (record { lba = k; sector = s } ∷ []) in
        get_past (slice_set xs k s) k (omega (arith, one)) ∙ sym (get_past (slice_set ys k s) k (omega (arith, two, same)))

-- what a sector holds is by the writes to it alone
on_sector : (lba : ℕ) (ws : List SectorWrite) (xs ys : List (List ℕ)) → length xs ≡ length ys → slice_get xs lba ≡ slice_get ys lba
    → slice_get (after xs ws) lba ≡ slice_get (after ys (writes_on lba ws)) lba
on_sector lba [] xs ys same is = is
on_sector lba (w ∷ ws) xs ys same is = go (on_sector lba ws) (w.lba == lba) refl
  where
    long : (zs : List (List ℕ)) → length (after_write zs w) ≡ length zs
    long zs = after_length zs (w ∷ [])

    not_both : true ≡ false → ⊥
    not_both e = absurd cc

    go : ((us vs : List (List ℕ)) → length us ≡ length vs → slice_get us lba ≡ slice_get vs lba
        → slice_get (after us ws) lba ≡ slice_get (after vs (writes_on lba ws)) lba) → (b : Bool) → (w.lba == lba) ≡ b
        → slice_get (after (after_write xs w) ws) lba ≡ slice_get (after ys (cond b (w ∷ writes_on lba ws) (writes_on lba ws))) lba
    go rest true hit =
        let here : w.lba ≡ lba = eqb-true w.lba lba hit in
        rest (after_write xs w) (after_write ys w) (long xs ∙ same ∙ sym (long ys))
        (ap (slice_get (after_write xs w)) (sym here) ∙ set_agrees xs ys w.lba w.sector same ∙ ap (slice_get (after_write ys w)) here)
    go rest false miss =
        rest (after_write xs w) ys (long xs ∙ same)
        (get_set_other xs w.lba lba w.sector (λ e. not_both (sym (same_number w.lba) ∙ ap (λ n. w.lba == n) (sym e) ∙ miss)) ∙ is)

-- Writes that are the same on each sector leave the same.
pub same_contents : (sectors : List (List ℕ)) (ws vs : List SectorWrite) → ((lba : ℕ) → writes_on lba ws ≡ writes_on lba vs)
    → after sectors ws ≡ after sectors vs
same_contents sectors ws vs same =
    same_lists (after sectors ws) (after sectors vs)
    (λ lba. on_sector lba ws sectors sectors refl refl ∙ ap (λ (us : List SectorWrite). slice_get (after sectors us) lba) (same lba)
    ∙ sym (on_sector lba vs sectors sectors refl refl))

-- ---- one placed write

abbrev pub placed_sectors : ℕ → PlacedWrite → List SectorWrite
placed_sectors size w = map (λ at. record { lba = at; sector = tag_sector size w.tag }) (range_with_len w.lba w.count)

-- it leaves a sector alone
abbrev Misses : ℕ → PlacedWrite → Type 0
Misses lba w = (lba < w.lba) ⊎ (w.lba + w.count ≤ lba)

abbrev Covers : ℕ → PlacedWrite → Type 0
Covers lba w = (w.lba ≤ lba) × (lba < w.lba + w.count)

covers_or : (lba : ℕ) (w : PlacedWrite) → Covers lba w ⊎ Misses lba w
covers_or lba w = by (cases_lt lba w.lba) (cases_lt lba (w.lba + w.count))
  where
    by : (lba < w.lba) ⊎ (w.lba ≤ lba) → (lba < w.lba + w.count) ⊎ (w.lba + w.count ≤ lba) → Covers lba w ⊎ Misses lba w
    by (inl before) at = inr (inl before)
    by (inr from) (inl within) = inl (from, within)
    by (inr from) (inr past) = inr (inr past)

missed_range : (size tag lba from count : ℕ) → (lba < from) ⊎ (from + count ≤ lba)
    → writes_on lba (map (λ at. record { lba = at; sector = tag_sector size tag }) (range_with_len from count)) ≡ []
missed_range size tag lba from zero miss = refl
missed_range size tag lba from (suc count) miss =
    ap (λ b. cond b (record { lba = from; sector = tag_sector size tag } ∷ rest) rest) (other (from == lba) refl)
    ∙ missed_range size tag lba (from + 1) count (later miss)
  where
    rest : List SectorWrite
    rest = writes_on lba (map (λ at. record { lba = at; sector = tag_sector size tag }) (range_with_len (from + 1) count))

    apart : (lba < from) ⊎ (from + suc count ≤ lba) → from ≡ lba → ⊥
    apart (inl before) e = absurd (omega (arith, e))
    apart (inr past) e = absurd (omega (arith, e))

    other : (b : Bool) → (from == lba) ≡ b → (from == lba) ≡ false
    other true hit = absurd (apart miss (eqb-true from lba hit))
    other false not = not

    later : (lba < from) ⊎ (from + suc count ≤ lba) → (lba < from + 1) ⊎ (from + 1 + count ≤ lba)
    later (inl before) = inl (omega arith)
    later (inr past) = inr (omega arith)

missed : (size lba : ℕ) (w : PlacedWrite) → Misses lba w → writes_on lba (placed_sectors size w) ≡ []
missed size lba w miss = missed_range size w.tag lba w.lba w.count miss

-- ---- placed writes in some order

on_both : (lba : ℕ) (ws vs : List SectorWrite) → writes_on lba (ws ++ vs) ≡ writes_on lba ws ++ writes_on lba vs
on_both lba ws vs = filter_both (λ w. w.lba == lba) ws vs

all_missed : (size lba : ℕ) (order : List PlacedWrite) → AllByRecursion (Misses lba) order → writes_on lba (flat_map (placed_sectors size) order) ≡ []
all_missed size lba [] miss = refl
all_missed size lba (w ∷ order) miss =
    on_both lba (placed_sectors size w) (flat_map (placed_sectors size) order)
    ∙ ap₂ (λ xs ys. xs ++ ys) (missed size lba w miss.0) (all_missed size lba order miss.1)

-- where the others leave the sector alone, a thread's own writes are all that matter
abbrev OnlyOf : ℕ → ℕ → PlacedWrite → Type 0
OnlyOf lba thread w = (w.thread ≡ thread) ⊎ Misses lba w

only_thread : (size lba thread : ℕ) (order : List PlacedWrite) → AllByRecursion (OnlyOf lba thread) order
    → writes_on lba (flat_map (placed_sectors size) order) ≡ writes_on lba (flat_map (placed_sectors size) (filter (λ w. w.thread == thread) order))
only_thread size lba thread [] only = refl
only_thread size lba thread (w ∷ order) only = go (only_thread size lba thread order only.1) (w.thread == thread) refl only.0
  where
    own : List PlacedWrite
    own = filter (λ w. w.thread == thread) order

    behind : (os : List PlacedWrite)
        → writes_on lba (placed_sectors size w ++ flat_map (placed_sectors size) os)
        ≡ writes_on lba (placed_sectors size w) ++ writes_on lba (flat_map (placed_sectors size) os)
    behind os = on_both lba (placed_sectors size w) (flat_map (placed_sectors size) os)

    not_both : true ≡ false → ⊥
    not_both e = absurd cc

    go : writes_on lba (flat_map (placed_sectors size) order) ≡ writes_on lba (flat_map (placed_sectors size) own)
        → (b : Bool) → (w.thread == thread) ≡ b → OnlyOf lba thread w
        → writes_on lba (placed_sectors size w ++ flat_map (placed_sectors size) order)
        ≡ writes_on lba (flat_map (placed_sectors size) (cond b (w ∷ own) own))
    go rest true is at = behind order ∙ ap (λ ws. writes_on lba (placed_sectors size w) ++ ws) rest ∙ sym (behind own)
    go rest false not (inl its) = absurd (not_both (sym (same_number w.thread) ∙ ap (λ n. w.thread == n) its ∙ not))
    go rest false not (inr miss) = behind order ∙ ap (λ ws. ws ++ writes_on lba (flat_map (placed_sectors size) order)) (missed size lba w miss) ∙ rest

-- a write of these that covers the sector, or none does
some_covers : (lba : ℕ) (order : List PlacedWrite) → ((w : PlacedWrite) × IsAmong order w × Covers lba w) ⊎ AllByRecursion (Misses lba) order
some_covers lba [] = inr tt
some_covers lba (w ∷ order) = by (covers_or lba w) (some_covers lba order)
  where
    by : Covers lba w ⊎ Misses lba w → ((x : PlacedWrite) × IsAmong order x × Covers lba x) ⊎ AllByRecursion (Misses lba) order
        → ((x : PlacedWrite) × IsAmong (w ∷ order) x × Covers lba x) ⊎ AllByRecursion (Misses lba) (w ∷ order)
    by (inl covers) rest = inl (w, (0, refl), covers)
    by (inr miss) (inl found) = inl (found.0, (suc found.1.0, found.1.1), found.2)
    by (inr miss) (inr none) = inr (miss, none)

-- where a sector is written by one thread alone, another thread's writes miss it
others_of : (lba thread j : ℕ) → j ≢ thread → (os : List PlacedWrite) → ((v : PlacedWrite) → IsAmong os v → OnlyOf lba thread v)
    → AllByRecursion (Misses lba) (filter (λ w. w.thread == j) os)
others_of lba thread j ne [] only = tt
others_of lba thread j ne (o ∷ os) only = go (others_of lba thread j ne os (λ v at. only v (suc at.0, at.1))) (o.thread == j) refl
  where
    missing : o.thread ≡ j → OnlyOf lba thread o → Misses lba o
    missing is (inl own) = absurd (ne (sym is ∙ own))
    missing is (inr miss) = miss

    go : AllByRecursion (Misses lba) (filter (λ w. w.thread == j) os) → (b : Bool) → (o.thread == j) ≡ b
        → AllByRecursion (Misses lba) (cond b (o ∷ filter (λ w. w.thread == j) os) (filter (λ w. w.thread == j) os))
    go rest true hit = (missing (eqb-true o.thread j hit) (only o (0, refl)), rest)
    go rest false not = rest

-- ---- a placed write is a command of its thread

command_of : (thread : ℕ) (cs : List Command) (os : List Outcome) (k : ℕ) (w : PlacedWrite)
    → slice_get (filter_map (placed_write thread) (zip cs os)) k ≡ Some w
    → (c : ℕ) × (slice_get cs c ≡ Some (script.Write w.lba w.count w.tag))
command_of thread [] os k w there = absurd (none-some w there)
command_of thread (c ∷ cs) [] k w there = absurd (none-some w there)
command_of thread (script.Write lba count tag ∷ cs) (Silent ∷ os) zero w there = (
  0,
  ap (λ (x : PlacedWrite). Some (script.Write x.lba x.count x.tag)) (same_Some (record {
    thread = thread;
    lba = lba;
    count = count;
    tag = tag;
  }) w there),
)
command_of thread (script.Write lba count tag ∷ cs) (Silent ∷ os) (suc k) w there = let at = command_of thread cs os k w there in (suc at.0, at.1)
command_of thread (script.Write lba count tag ∷ cs) (Words front words ∷ os) k w there = let at = command_of thread cs os k w there in (suc at.0, at.1)
command_of thread (script.Write lba count tag ∷ cs) (Flushed front ∷ os) k w there = let at = command_of thread cs os k w there in (suc at.0, at.1)
command_of thread (script.Write lba count tag ∷ cs) (Drive unit event ∷ os) k w there = let at = command_of thread cs os k w there in (suc at.0, at.1)
command_of thread (script.Write lba count tag ∷ cs) (Worn wanted have ∷ os) k w there = let at = command_of thread cs os k w there in (suc at.0, at.1)
command_of thread (script.Read lba count ∷ cs) (o ∷ os) k w there = let at = command_of thread cs os k w there in (suc at.0, at.1)
command_of thread (script.Flush ∷ cs) (o ∷ os) k w there = let at = command_of thread cs os k w there in (suc at.0, at.1)
command_of thread (script.Post name ∷ cs) (o ∷ os) k w there = let at = command_of thread cs os k w there in (suc at.0, at.1)
command_of thread (script.Await name ∷ cs) (o ∷ os) k w there = let at = command_of thread cs os k w there in (suc at.0, at.1)

-- ---- scripts

abbrev thread_of : List (List Command) → ℕ → List Command
thread_of commands k = unwrap_or (slice_get commands k) []

at_thread : (commands : List (List Command)) (k c : ℕ) (x : Command) → slice_get (thread_of commands k) c ≡ Some x → command_at commands k c ≡ Some x
at_thread commands k c x there = by (slice_get commands k) there
  where
    by : (o : Option (List Command)) → slice_get (unwrap_or o []) c ≡ Some x → option_and_then (λ thread. slice_get thread c) o ≡ Some x
    by (Some cs) is = is
    by None is = absurd (none-some x is)

-- the writes of one thread are all to a sector, where the others have none
one_thread : (size lba k : ℕ) (commands : List (List Command))
    → ((j : ℕ) → j ≢ k → writes_on lba (flat_map (command_writes size) (thread_of commands j)) ≡ [])
    → writes_on lba (flat_map (flat_map (command_writes size)) commands) ≡ writes_on lba (flat_map (command_writes size) (thread_of commands k))
one_thread size lba k [] others = refl
one_thread size lba zero (cs ∷ commands) others =
    on_both lba (flat_map (command_writes size) cs) (flat_map (flat_map (command_writes size)) commands)
    ∙ ap (λ ws. writes_on lba (flat_map (command_writes size) cs) ++ ws)
    (no_thread size lba commands (λ j. others (suc j) (λ same. absurd (omega (arith, same)))))
    ∙ append-nil (writes_on lba (flat_map (command_writes size) cs))
  where
    no_thread : (size lba : ℕ) (commands : List (List Command)) → ((j : ℕ) → writes_on lba (flat_map (command_writes size) (thread_of commands j)) ≡ [])
        → writes_on lba (flat_map (flat_map (command_writes size)) commands) ≡ []
    no_thread size lba [] none = refl
    no_thread size lba (cs ∷ commands) none =
        on_both lba (flat_map (command_writes size) cs) (flat_map (flat_map (command_writes size)) commands)
        ∙ ap₂ (λ xs ys. xs ++ ys) (none 0) (no_thread size lba commands (λ j. none (suc j)))
one_thread size lba (suc k) (cs ∷ commands) others =
    on_both lba (flat_map (command_writes size) cs) (flat_map (flat_map (command_writes size)) commands)
    ∙ ap₂ (λ xs ys. xs ++ ys) (others 0 (λ same. absurd (omega (arith, same))))
    (one_thread size lba k commands (λ j ne. others (suc j) (λ same. ne (let e : j ≡ k = omega (arith, same) in e))))

-- The placed writes of threads that write no sector in common, in whatever order, leave what the threads' writes leave, one
-- thread after another.
pub in_thread_order : (size : ℕ) (commands : List (List Command)) (outcomes : List (List Outcome)) (order : List PlacedWrite) (sectors : List (List ℕ))
    → AreApart commands
    → ((i : ℕ) → filter (λ w. w.thread == i) order
    ≡ filter_map (placed_write i) (zip (unwrap_or (slice_get commands i) []) (unwrap_or (slice_get outcomes i) [])))
    → ((i : ℕ) → flat_map (placed_sectors size) (filter (λ w. w.thread == i) order) ≡ flat_map (command_writes size) (unwrap_or (slice_get commands i) []))
    → after sectors (flat_map (placed_sectors size) order) ≡ after sectors (flat_map (flat_map (command_writes size)) commands)
in_thread_order size commands outcomes order sectors apart each written =
    same_contents sectors (flat_map (placed_sectors size) order) (flat_map (flat_map (command_writes size)) commands) (λ lba. by lba (some_covers lba order))
  where
    -- a placed write is a command of its thread
    its_command : (w : PlacedWrite) → IsAmong order w → (c : ℕ) × (command_at commands w.thread c ≡ Some (script.Write w.lba w.count w.tag))
    its_command w at =
        let among = in_filter (λ (x : PlacedWrite). x.thread == w.thread) order w at (same_number w.thread) in
        let of = command_of w.thread (thread_of commands w.thread) (unwrap_or (slice_get outcomes w.thread) []) among.0 w
        (ap (λ (xs : List PlacedWrite). slice_get xs among.0) (sym (each w.thread)) ∙ among.1) in
        (of.0, at_thread commands w.thread of.0 (script.Write w.lba w.count w.tag) of.1)

    -- those of other threads than one that covers a sector miss it
    others_miss : (lba : ℕ) (w : PlacedWrite) → IsAmong order w → Covers lba w → (v : PlacedWrite) → IsAmong order v → OnlyOf lba w.thread v
    others_miss lba w at covers v there = decide (v.thread == w.thread) refl
      where
        miss : (w.lba + w.count ≤ v.lba) ⊎ (v.lba + v.count ≤ w.lba) → Misses lba v
        miss (inl behind) = inl (omega arith)
        miss (inr before) = inr (omega arith)

        decide : (b : Bool) → (v.thread == w.thread) ≡ b → OnlyOf lba w.thread v
        decide true same = inl (eqb-true v.thread w.thread same)
        decide false not =
            let mine = its_command w at in
            let its = its_command v there in
            inr (miss (apart w.thread mine.0 v.thread its.0 w.lba w.count w.tag v.lba v.count v.tag
            (λ e. not_both (sym (same_number v.thread) ∙ ap (λ n. v.thread == n) (sym e) ∙ not)) mine.1 its.1))
          where
            not_both : true ≡ false → ⊥
            not_both e = absurd cc

    -- and so do a whole thread's
    thread_misses : (lba thread j : ℕ) → ((v : PlacedWrite) → IsAmong order v → OnlyOf lba thread v) → j ≢ thread
        → writes_on lba (flat_map (command_writes size) (thread_of commands j)) ≡ []
    thread_misses lba thread j only ne =
        ap (writes_on lba) (sym (written j)) ∙ all_missed size lba (filter (λ w. w.thread == j) order) (others_of lba thread j ne order only)

    by : (lba : ℕ) → ((w : PlacedWrite) × IsAmong order w × Covers lba w) ⊎ AllByRecursion (Misses lba) order
        → writes_on lba (flat_map (placed_sectors size) order) ≡ writes_on lba (flat_map (flat_map (command_writes size)) commands)
    by lba (inl found) =
        let only = others_miss lba found.0 found.1 found.2 in
        only_thread size lba found.0.thread order (all_by_get (OnlyOf lba found.0.thread) order (λ k v at. only v (k, at)))
        ∙ ap (writes_on lba) (written found.0.thread)
        ∙ sym (one_thread size lba found.0.thread commands (λ j ne. thread_misses lba found.0.thread j only ne))
    by lba (inr none) =
        let only : (v : PlacedWrite) → IsAmong order v → OnlyOf lba (length commands) v = (λ v at. inr (all_get (Misses lba) order at.0 v none at.1)) in
        all_missed size lba order none
        ∙ sym (one_thread size lba (length commands) commands (λ j ne. thread_misses lba (length commands) j only ne)
        ∙ ap (λ (o : Option (List Command)). writes_on lba (flat_map (command_writes size) (unwrap_or o [])))
        (get_past commands (length commands) (le_refl (length commands))))
