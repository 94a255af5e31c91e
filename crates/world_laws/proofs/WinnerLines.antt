-- Where no entry of a sector was taken below the front synced, the line of its winner in the image
-- that was found is as it was found.
use Rattle.std.proofs.Common.{◌≡◌, ◌≢◌, ◌⊎◌, inl, inr, ℕ, ◌*◌, ◌<◌, ◌≤◌, ◌&&◌, not, nat_lt, zero, suc, Bool, true, false, Some, None, Option, List, [], ◌∷◌, ◌++◌, length, take, refl, sym, subst, ap, ◌∙◌, arith}
use Rattle.std.specs.Prelude.{slice_get, ⊤}
use Rattle.std.specs.List.{AllByRecursion, Contains, range_with_len}
use Rattle.std.specs.Option.{IfSome, is_some, option_and_then, option_map}
use Rattle.std.proofs.lemmas.List.{take-append-le}
use Rattle.std.proofs.lemmas.Option.{slice_get_within}
use Rattle.pblk_model.specs.Accepted.{IsAccepted}
use Rattle.pblk_model.specs.Contents.{IsNewer, IsWinner, head, counts, end_after, counted, counted_after, winner}
use Rattle.pblk_model.specs.EndRecord.{end_of}
use Rattle.pblk_model.specs.Image.{Image, width, block_at}
use Rattle.pblk_model.specs.Records.{Record, named, mark_at, record_at, records_after, line_records, records}
use Rattle.pblk_model.specs.StartRecord.{StartRecord, start_of}
use Rattle.pblk_world.specs.Events.{Beginning, Begin, Open, Free, Decides, Logged}
use Rattle.pblk_world.specs.World.{World, Logs, log_of}
use Rattle.pblk_world.specs.EngineLog.{LineLife, AsFound, Opened, Freed, life_of, Taken, takes}
use Rattle.pblk_world.specs.Fronts.{synced}
use Rattle.pblk_world.specs.Freeing.{HasLandedIn, IsReplaced}
use Rattle.pblk_world.specs.Legal.{IsLegal}
use Rattle.pblk_world.specs.Lines.{found_image, known_image, are_empty, line_data, has_number}
use Rattle.pblk_world.specs.Victims.{engine_prefix}
use Rattle.pblk_laws.proofs.Winners.{winner_is_winner}
use Rattle.pblk_model.proofs.Lists.{IsAmong, all_contains, all_everywhere}
use Rattle.pblk_model.proofs.Maps.{all_filter, all_filter_map, all_flat_map}
use Rattle.pblk_model.proofs.Parts.{get_last, get_more, take_front}
use Rattle.pblk_model.proofs.Tests.{first_of, not_both, not_true}
use Rattle.world_laws.proofs.Freeing.{IsFreeable, freed_at}
use Rattle.world_laws.proofs.Beginnings.{first_begins}
use Rattle.world_laws.proofs.Latest.{HasEntry, landed_entry}
use Rattle.world_laws.proofs.Lives.{Turns, IsOpen, IsFree, IsNeither, turns, by_last, life_stays}
use Rattle.world_laws.proofs.Openings.{opened_at}
use Rattle.world_laws.proofs.StartRecords.{synced_by_now}
use Rattle.world_laws.proofs.ToldImages.{found_then}

-- ---- a line with a record that counts has a start record

pub if_then : {X Y : Type 0} (P : Y → Type 0) (f : X → Option Y) (o : Option X) → ((x : X) → IfSome (f x) P) → IfSome (option_and_then f o) P
if_then P f None h = tt
if_then P f (Some x) h = h x

pub if_map : {X Y : Type 0} (P : Y → Type 0) (f : X → Y) (o : Option X) → ((x : X) → P (f x)) → IfSome (option_map f o) P
if_map P f None h = tt
if_map P f (Some x) h = h x

abbrev pub HasStart : Image → Record → Type 0
HasStart j r = is_some (start_of j r.line) ≡ true

start_of_record : (j : Image) (line : ℕ) (o : Option StartRecord) → start_of j line ≡ o → AllByRecursion (HasStart j) (records_after j line o)
start_of_record j line None e = tt
start_of_record j line (Some start) e =
    all_filter_map (HasStart j) (λ (a : ℕ). ⊤) (record_at j line start) (range_with_len 0 (width j line * j.shape.clba))
    (λ a any. if_then (HasStart j) _ (block_at j line a) (λ block. if_then (HasStart j) _ (mark_at j.shape (end_of j line start) a block)
    (λ m. if_map (HasStart j) _ (named j.shape m) (λ lba. ap is_some e))))
    (all_everywhere (λ (a : ℕ). ⊤) (range_with_len 0 (width j line * j.shape.clba)) (λ a. tt))

records_have_start : (j : Image) → AllByRecursion (HasStart j) (records j)
records_have_start j = all_flat_map (HasStart j) (line_records j) (range_with_len 0 j.shape.chunks) (λ line. start_of_record j line (start_of j line) refl)

pub counted_have_start : (j : Image) → AllByRecursion (HasStart j) (counted j)
counted_have_start j = go (head j)
  where
    go : (o : Option StartRecord) → AllByRecursion (HasStart j) (counted_after (records j) o)
    go None = tt
    go (Some h) = all_filter (HasStart j) (counts h (end_after (records j) (Some h))) (records j) (records_have_start j)

pub counted_has_start : (j : Image) (r : Record) → Contains (counted j) r → is_some (start_of j r.line) ≡ true
counted_has_start j r there = all_contains (HasStart j) (counted j) r (counted_have_start j) there

-- ---- the first event that turns a line

pub data FirstTurn (log : List Logged) (line : ℕ) : Type 0 where
  NoTurn : life_of log line ≡ AsFound → FirstTurn log line
  TurnAt : (k : ℕ) (l : Logged) → slice_get log k ≡ Some l → life_of (take k log) line ≡ AsFound
      → ((start : StartRecord) × (l.event ≡ Decides (Open line start))) ⊎ (l.event ≡ Decides (Free line)) → FirstTurn log line

turn_later : (log : List Logged) (l : Logged) (line k : ℕ) (m : Logged) → slice_get log k ≡ Some m → life_of (take k log) line ≡ AsFound
    → ((start : StartRecord) × (m.event ≡ Decides (Open line start))) ⊎ (m.event ≡ Decides (Free line)) → FirstTurn (log ++ l ∷ []) line
turn_later log l line k m there was is =
    let within : k < length log = slice_get_within log k m there in
    TurnAt k m (get_more log (l ∷ []) k m there) (ap (λ (xs : List Logged). life_of xs line) (take-append-le k log (l ∷ []) (omega arith)) ∙ was) is

turn_now : (log : List Logged) (l : Logged) (line : ℕ) → life_of log line ≡ AsFound
    → ((start : StartRecord) × (l.event ≡ Decides (Open line start))) ⊎ (l.event ≡ Decides (Free line)) → FirstTurn (log ++ l ∷ []) line
turn_now log l line was is =
    TurnAt (length log) l (get_last log l) (ap (λ (xs : List Logged). life_of xs line) (take_front log (l ∷ []) (length log) refl) ∙ was) is

one_turn : (line : ℕ) (log : List Logged) (l : Logged) → FirstTurn log line → FirstTurn (log ++ l ∷ []) line
one_turn line log l (TurnAt k m there was is) = turn_later log l line k m there was is
one_turn line log l (NoTurn was) = go (turns line (length log) l.knows l.event)
  where
    go : Turns line (length log) l.knows l.event → FirstTurn (log ++ l ∷ []) line
    go (IsOpen start is) = turn_now log l line was (inl (start, is))
    go (IsFree is) = turn_now log l line was (inr is)
    go (IsNeither none) = NoTurn (life_stays log l line none ∙ was)

pub first_turn : (line : ℕ) (log : List Logged) → FirstTurn log line
first_turn line log = by_last (λ log. FirstTurn log line) (NoTurn refl) (one_turn line) log

-- ---- no two records are newer than each other

pub never_both : (a b : Record) → IsNewer a b → IsNewer b a → ⊥
never_both a b (inl x) (inl y) = omega arith
never_both a b (inl x) (inr y) = let e : b.position ≡ a.position = y.0 in omega arith
never_both a b (inr x) (inl y) = let e : a.position ≡ b.position = x.0 in omega arith
never_both a b (inr (p, inl x)) (inr (q, inl y)) = omega arith
never_both a b (inr (p, inl x)) (inr (q, inr y)) = let e : b.seq ≡ a.seq = y.0 in omega arith
never_both a b (inr (p, inr x)) (inr (q, inl y)) = let e : a.seq ≡ b.seq = x.0 in omega arith
never_both a b (inr (p, inr (s, inl x))) (inr (q, inr (t, inl y))) = omega arith
never_both a b (inr (p, inr (s, inl x))) (inr (q, inr (t, inr y))) = let e : b.at ≡ a.at = y.0 in omega arith
never_both a b (inr (p, inr (s, inr x))) (inr (q, inr (t, inl y))) = let e : a.at ≡ b.at = x.0 in omega arith
never_both a b (inr (p, inr (s, inr x))) (inr (q, inr (t, inr y))) = let first : b.line < a.line = x.1 in let second : a.line < b.line = y.1 in omega arith

-- ---- the winner's line

begin_open : (b : Beginning) (line : ℕ) (start : StartRecord) → Decides (Begin b) ≡ Decides (Open line start) → ⊥
begin_open b line start e = cc

begin_free : (b : Beginning) (line : ℕ) → Decides (Begin b) ≡ Decides (Free line) → ⊥
begin_free b line e = cc

-- no line turns by the first event
pub none_turns_first : (i : Image) (w : World) (line : ℕ) (l : Logged) → IsLegal i w → slice_get (log_of w 0) 0 ≡ Some l
    → ((start : StartRecord) × (l.event ≡ Decides (Open line start))) ⊎ (l.event ≡ Decides (Free line)) → ⊥
none_turns_first i w line l legal at is = let first = first_begins i w l legal at in elim is [
  | inl opens ↦ begin_open first.0 line opens.0 (sym first.1 ∙ opens.1)
  | inr frees ↦ begin_free first.0 line (sym first.1 ∙ frees)
]

-- a line that was found with a start record isn't opened before it is freed
pub not_opened : (i : Image) (w : World) (k line : ℕ) (l : Logged) (start : StartRecord) → IsLegal i w
    → is_some (start_of (found_image i (log_of w)) line) ≡ true → slice_get (log_of w 0) (suc k) ≡ Some l
    → l.event ≡ Decides (Open line start) → life_of (take (suc k) (log_of w 0)) line ≡ AsFound → ⊥
not_opened i w k line l start legal numbered at is was =
    let may = opened_at i w (suc k) line start l legal at is in
    let known : Image = known_image i (engine_prefix (suc k) (log_of w)) in
    let number : Bool = has_number i (engine_prefix (suc k) (log_of w)) (life_of (take (suc k) (log_of w 0)) line) line in
    let free : not number ≡ true =
    first_of (not number) (are_empty known line) (first_of (not number && are_empty known line) (nat_lt 0 (line_data known line)) may.2.is_free) in
    let none : is_some (start_of (found_image i (log_of w)) line) ≡ false =
    ap (λ (j : Image). is_some (start_of j line)) (sym (found_then i (log_of w) k))
    ∙ ap (λ life. has_number i (engine_prefix (suc k) (log_of w)) life line) (sym was) ∙ not_true number free in
    not_both (is_some (start_of (found_image i (log_of w)) line)) numbered none

not_freed : (i : Image) (w : World) (lba k : ℕ) (r : Record) (l : Logged) → IsAccepted i.shape → IsLegal i w
    → IsWinner (counted (found_image i (log_of w))) lba r
    → ((u : Taken) → IsAmong (takes (log_of w 0)) u → u.mark.lba ≡ lba → synced i.shape (log_of w 0) ≤ u.entry.position)
    → slice_get (log_of w 0) (suc k) ≡ Some l → l.event ≡ Decides (Free r.line) → life_of (take (suc k) (log_of w 0)) r.line ≡ AsFound → ⊥
not_freed i w lba k r l accepted legal won none at is was =
    let logs : Logs = engine_prefix (suc k) (log_of w) in
    let free : IsFreeable i logs r.line = freed_at i w (suc k) r.line l legal at is in
    let found : HasLandedIn i logs AsFound r.line r = record {
      counts = subst (λ (j : Image). Contains (counted j) r) (sym (found_then i (log_of w) k)) won.there;
      in_line = refl;
    } in
    let rep : IsReplaced i logs r.line lba r =
    free.replaced r lba (subst (λ life. HasLandedIn i logs life r.line r) (sym was) found) won.of_it in
    go rep.by rep.other rep.is_other rep.sector rep.newer rep.below_synced (life_of (take (suc k) (log_of w 0)) rep.other) refl rep.landed
  where
    go : (by : Record) (other : ℕ) → other ≢ r.line → by.lba ≡ Some lba → IsNewer r by → by.position < synced i.shape (take (suc k) (log_of w 0))
        → (life : LineLife) → life_of (take (suc k) (log_of w 0)) other ≡ life → HasLandedIn i (engine_prefix (suc k) (log_of w)) life other by → ⊥
    go by other apart sector newer below AsFound life landed =
        elim (won.newest by (subst (λ (j : Image). Contains (counted j) by) (found_then i (log_of w) k) landed.counts) sector) [
          | inl same ↦ apart (sym landed.in_line ∙ ap (λ (x : Record). x.line) same)
          | inr older ↦ never_both r by newer older
        ]
    go by other apart sector newer below (Opened o) life landed =
        let entry : HasEntry (log_of w 0) lba by.position = landed_entry i w (suc k) other lba o by accepted legal life sector landed in
        let late : synced i.shape (log_of w 0) ≤ entry.t.entry.position = none entry.t entry.there entry.of_it in
        let level : entry.t.entry.position ≡ by.position = entry.position in
        let grown : synced i.shape (take (suc k) (log_of w 0)) ≤ synced i.shape (log_of w 0) = synced_by_now i.shape (suc k) (log_of w 0) in
        omega arith
    go by other apart sector newer below (Freed was_so knows) life landed = landed

pub winner_stands : (i : Image) (w : World) (lba : ℕ) (r : Record) → IsAccepted i.shape → IsLegal i w
    → winner (counted (found_image i (log_of w))) lba ≡ Some r
    → ((u : Taken) → IsAmong (takes (log_of w 0)) u → u.mark.lba ≡ lba → synced i.shape (log_of w 0) ≤ u.entry.position)
    → life_of (log_of w 0) r.line ≡ AsFound
winner_stands i w lba r accepted legal wins none = go (first_turn r.line (log_of w 0))
  where
    go : FirstTurn (log_of w 0) r.line → life_of (log_of w 0) r.line ≡ AsFound
    go (NoTurn stands) = stands
    go (TurnAt zero l at was is) = absurd (none_turns_first i w r.line l legal at is)
    go (TurnAt (suc k) l at was (inl opens)) =
        let there = (winner_is_winner (found_image i (log_of w)) lba r wins).there in
        absurd (not_opened i w k r.line l opens.0 legal (counted_has_start (found_image i (log_of w)) r there) at opens.1 was)
    go (TurnAt (suc k) l at was (inr frees)) =
        absurd (not_freed i w lba k r l accepted legal (winner_is_winner (found_image i (log_of w)) lba r wins) none at frees was)
