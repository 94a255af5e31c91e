-- What a sector holds after the history, and how long that is.
use Rattle.std.proofs.Common.{◌≡◌, ◌≢◌, ℕ, ◌<◌, ◌==◌, zero, suc, nat_eq, nat_lt, Bool, true, false, cond, Some, None, Option, List, [], ◌∷◌, length, refl, sym, subst, ap, ◌∙◌, arith}
use Rattle.std.specs.Prelude.{map, slice_get, slice_set}
use Rattle.std.specs.List.{AllByRecursion, filter, fold, last_or}
use Rattle.std.proofs.lemmas.Bool.{eqb-true, eqb-false}
use Rattle.pblk_model.specs.declared.shape.Shape.{Shape}
use Rattle.pblk_model.specs.History.{SectorWrite, after_write, users}
use Rattle.pblk_model.specs.History as histories
use Rattle.pblk_model.specs.Contents.{contents}
use Rattle.pblk_model.specs.Image.{Image}
use Rattle.pblk_world.specs.Events.{Logged}
use Rattle.pblk_world.specs.World.{World, log_of}
use Rattle.pblk_world.specs.EngineLog.{begun, Taken, takes}
use Rattle.pblk_world.specs.Fronts.{first_position, taken, is_users, user_takes, history, user_positions, last_take}
use Rattle.pblk_world.specs.Lines.{found_image}
use Rattle.pblk_world.specs.LegalMounts.{IsLegalMount, NoneCopied}
use Rattle.world_laws.proofs.Copies.{entries_follow}
use Rattle.world_laws.proofs.HeldSectors.{fold_holds, held_by}
use Rattle.world_laws.proofs.SectorValues.{found_capacity}
use Rattle.core_laws.proofs.PlacedPositions.{numbered_below}
use Rattle.core_laws.proofs.UsersEntries.{AreInOrder, IsUsers, in_order, users_entries}
use Rattle.pblk_model.proofs.Lists.{all_imply}
use Rattle.pblk_model.proofs.Parts.{get_set_same, got_else}
use Rattle.pblk_model.proofs.Tests.{lt_true}
use Rattle.pblk_model.proofs.Maps.{all_filter, filter_all}
use Rattle.pblk_model.proofs.ContentsLemmas.{contents_count}
use Rattle.pblk_model.proofs.MarksLemmas.{accepted_small}

pub set_length : {X : Type 0} (xs : List X) (k : ℕ) (x : X) → length (slice_set xs k x) ≡ length xs
set_length [] k x = refl
set_length (y ∷ ys) zero x = refl
set_length (y ∷ ys) (suc k) x = ap suc (set_length ys k x)

abbrev write_of : Taken → SectorWrite
write_of t = record { lba = t.entry.lba; sector = t.entry.sector }

-- ---- what a sector holds

in_found : (i : Image) (w : World) (lba : ℕ) → lba < i.shape.capacity → lba < length (contents (found_image i (log_of w)))
in_found i w lba inside =
    let count : length (contents (found_image i (log_of w))) ≡ (found_image i (log_of w)).shape.capacity = contents_count (found_image i (log_of w)) in
    let same : (found_image i (log_of w)).shape.capacity ≡ i.shape.capacity = found_capacity i (log_of w) (begun (log_of w 0)) in
    omega arith

history_holds : (i : Image) (w : World) (lba : ℕ) → IsLegalMount i w → lba < i.shape.capacity
    → slice_get (histories.after (contents (found_image i (log_of w))) (history (log_of w 0))) lba
    ≡ held_by (slice_get (contents (found_image i (log_of w))) lba) (last_take (log_of w 0) lba)
history_holds i w lba mount inside =
    fold_holds (contents (found_image i (log_of w))) (takes (log_of w 0)) lba (in_found i w lba inside) (entries_follow i w mount)

pub latest_sector : (i : Image) (w : World) (lba : ℕ) (t : Taken) → IsLegalMount i w → lba < i.shape.capacity → last_take (log_of w 0) lba ≡ Some t
    → slice_get (histories.after (contents (found_image i (log_of w))) (history (log_of w 0))) lba ≡ Some t.entry.sector
latest_sector i w lba t mount inside last =
    history_holds i w lba mount inside ∙ ap (held_by (slice_get (contents (found_image i (log_of w))) lba)) last

pub first_sector : (i : Image) (w : World) (lba : ℕ) → IsLegalMount i w → lba < i.shape.capacity → last_take (log_of w 0) lba ≡ None
    → slice_get (histories.after (contents (found_image i (log_of w))) (history (log_of w 0))) lba
    ≡ slice_get (contents (found_image i (log_of w))) lba
first_sector i w lba mount inside last =
    history_holds i w lba mount inside ∙ ap (held_by (slice_get (contents (found_image i (log_of w))) lba)) last

-- ---- what it holds over any contents, where all entries are users'

-- the sector holds that of the entry, or what it held at first
abbrev Holds : Option (List ℕ) → List (List ℕ) → ℕ → Option Taken → Type 0
Holds first sectors lba None = slice_get sectors lba ≡ first
Holds first sectors lba (Some t) = slice_get sectors lba ≡ Some t.entry.sector

still_holds : (first : Option (List ℕ)) (sectors : List (List ℕ)) (lba : ℕ) (o : Option Taken) (w : SectorWrite) → lba ≢ w.lba → Holds first sectors lba o
    → Holds first (after_write sectors w) lba o
still_holds first sectors lba None w apart was = got_else sectors w.lba lba w.sector apart ∙ was
still_holds first sectors lba (Some t) w apart was = got_else sectors w.lba lba w.sector apart ∙ was

latest_holds : (s : Shape) (first : Option (List ℕ)) (ts : List Taken) (sectors : List (List ℕ)) (lba : ℕ) (o : Option Taken) → AllByRecursion (IsUsers s) ts
    → lba < length sectors → Holds first sectors lba o
    → Holds first (fold after_write sectors (map write_of ts)) lba (last_or o (filter (λ (t : Taken). t.mark.lba == lba) ts))
latest_holds s first [] sectors lba o all inside was = was
latest_holds s first (t ∷ ts) sectors lba o all inside was = go (nat_eq t.mark.lba lba) refl
    (λ p holds. latest_holds s first ts (slice_set sectors t.entry.lba t.entry.sector) lba p all.1
    (subst (λ n. lba < n) (sym (set_length sectors t.entry.lba t.entry.sector)) inside) holds)
  where
    next : List (List ℕ)
    next = slice_set sectors t.entry.lba t.entry.sector

    go : (b : Bool) → nat_eq t.mark.lba lba ≡ b
        → ((p : Option Taken) → Holds first next lba p
        → Holds first (fold after_write next (map write_of ts)) lba (last_or p (filter (λ (t : Taken). t.mark.lba == lba) ts)))
        → Holds first (fold after_write next (map write_of ts)) lba
        (last_or o (cond b (t ∷ filter (λ (t : Taken). t.mark.lba == lba) ts) (filter (λ (t : Taken). t.mark.lba == lba) ts)))
    go true e rest =
        let same : t.entry.lba ≡ lba = sym all.0.sector ∙ eqb-true t.mark.lba lba e in
        rest (Some t) (ap (slice_get next) (sym same) ∙ get_set_same sectors t.entry.lba t.entry.sector (subst (λ n. n < length sectors) (sym same) inside))
    go false e rest = rest o (still_holds first sectors lba o (write_of t) (λ same. eqb-false t.mark.lba lba e (all.0.sector ∙ sym same)) was)

all_users : (s : Shape) (log : List Logged) → AllByRecursion (IsUsers s) (takes log) → user_takes log ≡ takes log
all_users s log all = filter_all (λ (t : Taken). is_users t.entry.source) (takes log)
    (all_imply (IsUsers s) (λ (t : Taken). is_users t.entry.source ≡ true) (λ t is. is.users) (takes log) all)

users_hold : (i : Image) (w : World) (before : List (List ℕ)) (lba : ℕ) → IsLegalMount i w → NoneCopied (log_of w 0) → lba < length before
    → Holds (slice_get before lba) (histories.after before (history (log_of w 0))) lba (last_take (log_of w 0) lba)
users_hold i w before lba mount none inside =
    let log : List Logged = log_of w 0 in
    let all : AllByRecursion (IsUsers i.shape) (takes log) = users_entries i w mount.legal none in
    subst (λ (ts : List Taken). Holds (slice_get before lba) (fold after_write before (map write_of ts)) lba (last_take (log_of w 0) lba))
    (sym (all_users i.shape log all))
    (latest_holds i.shape (slice_get before lba) (takes log) before lba None all inside refl)

pub written_sector : (i : Image) (w : World) (before : List (List ℕ)) (lba : ℕ) (t : Taken) → IsLegalMount i w → NoneCopied (log_of w 0) → lba < length before
    → last_take (log_of w 0) lba ≡ Some t
    → slice_get (histories.after before (history (log_of w 0))) lba ≡ Some t.entry.sector
written_sector i w before lba t mount none inside last =
    subst (Holds (slice_get before lba) (histories.after before (history (log_of w 0))) lba) last (users_hold i w before lba mount none inside)

pub unwritten_sector : (i : Image) (w : World) (before : List (List ℕ)) (lba : ℕ) → IsLegalMount i w → NoneCopied (log_of w 0) → lba < length before
    → last_take (log_of w 0) lba ≡ None
    → slice_get (histories.after before (history (log_of w 0))) lba ≡ slice_get before lba
unwritten_sector i w before lba mount none inside last =
    subst (Holds (slice_get before lba) (histories.after before (history (log_of w 0))) lba) last (users_hold i w before lba mount none inside)

-- ---- how many there are

count_all : (n : ℕ) (ts : List Taken) → AllByRecursion (λ (t : Taken). t.entry.position < n) ts
    → users (map (λ (t : Taken). t.entry.position) ts) n ≡ length (map write_of ts)
count_all n [] all = refl
count_all n (t ∷ ts) all =
    ap (λ b. length (cond b (t.entry.position ∷ filter (λ q. nat_lt q n) (map (λ (t : Taken). t.entry.position) ts))
    (filter (λ q. nat_lt q n) (map (λ (t : Taken). t.entry.position) ts)))) (lt_true t.entry.position n all.0)
    ∙ ap suc (count_all n ts all.1)

pub history_count : (i : Image) (w : World) → IsLegalMount i w → users (user_positions (log_of w 0)) (taken (log_of w 0)) ≡ length (history (log_of w 0))
history_count i w mount =
    let log : List Logged = log_of w 0 in
    let order : AreInOrder i.shape log = in_order i w (accepted_small i.shape mount.accepted) mount.legal in
    count_all (taken log) (user_takes log)
    (all_filter (λ (t : Taken). t.entry.position < taken log) (λ (t : Taken). is_users t.entry.source) (takes log)
    (numbered_below (first_position log) (length (takes log)) (takes log) order.numbered))
