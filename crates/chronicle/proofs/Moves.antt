-- Each step keeps the rule of a chronicle.
use Rattle.std.proofs.Common.{◌≡◌, ◌≢◌, ⊎_elim, None, Some, ℕ, zero, suc, ◌+◌, ◌-◌, ◌%◌, ◌^◌, ◌==◌, ◌<◌, ◌≤◌, false, true, Bool, if◌then◌else◌, List, [], ◌∷◌, ◌++◌, length, replicate, set, drop, take, refl, sym, ap, ◌∙◌, subst, arith, length-set, length-append, get_or-set_same, get_or-set_other}
use Rattle.std.specs.Prelude.{slice_index}
use Rattle.std.specs.List.{Contains, range_with_len}
use Rattle.std.specs.Option.{option_map}
use Rattle.std.proofs.lemmas.Option.{none-some, same_Some}
use Rattle.std.proofs.lemmas.Bool.{cases_eq}
use Rattle.std.proofs.lemmas.List.{set-get_or}
use Rattle.std.proofs.lemmas.List.FromFn.{get_or-range_with_len, length-range_with_len}
use mathlib.Core.Option.{Option, some}
use mathlib.Core.List.{IsPrefix}
use lib.ListN.{get_elem?}
use Rattle.atomic_table.specs.Table.{State, Allows, Splits, Joins, keeps, opening}
use Rattle.atomic_table.proofs.Lists.{at_set}
use Rattle.pblk_model.proofs.Lists.{replicated}
use Rattle.pblk_model.proofs.Parts.{only_one}
use Rattle.pblk_model.proofs.Tests.{same_number, other_number}
use Rattle.pblk_world.specs.Events.{Maker, Event, Logged}
use Rattle.pblk_world.specs.Makers.{HasMakers, commands_of}
use Rattle.pblk_world.specs.World.{World, Logs, log_of}
use Rattle.pblk_world.specs.Legal.{IsAllowed, IsLegal}
use Rattle.pblk_world.proofs.WorldLemmas.{log_here, log_elsewhere}
use Rattle.chronicle.specs.Views.{Part, Past, View}
use Rattle.chronicle.specs.Prefixes.{logs_of, longer_of, AreOpeningLogs, IsNext, naming}
use Rattle.chronicle.specs.Rule.{HasRights, IsPart, IsView, IsKept, IsHeard, IsWhole, Owners}
use Rattle.chronicle.specs.Steps.{no_past, starting, spent, began, appended, but_first, first_of, lent, makers_from, named, naming_next, noted, with_heard, without_makers, joined, merged}
use Rattle.chronicle.proofs.PrefixLemmas.{nothing_begins, begins_longer, longer_at, longer_some}
use Rattle.chronicle.proofs.Parts.{next_step, nothing_part, later_part, moved_part, appended_part, own_begins, heard_own_begins, joined_part}
use Rattle.chronicle.proofs.Rights.{moved_rights, next_is_named, next_is_own, next_numbered, no_rights}
use Rattle.chronicle.proofs.Worlds.{whole_part, all_open, known_legal, known_whole, none_opened, opening_legal, step_legal}
use Rattle.chronicle.proofs.Views.{each_changed, each_more, IsStale, stale, stale_changed}

-- ---- where the world stays

-- the rule for other seats over the same world
module _ (s : State (Unit {0}) View) (h : IsKept s) (owner : Owners) (few : owner.named ≤ 2 ^ 64) (views : List View)
    (each : (seat : ℕ) (u : View) → get_elem? views seat ≡ some u → IsView h.past h.world owner seat u)
    (old : (seat : ℕ) (u : View) → get_elem? views seat ≡ some u → IsStale seat u) where
  same_world : IsKept (record { words = s.words; homes = s.homes; views = views })
  same_world = record {
    past = h.past;
    world = h.world;
    owner = owner;
    legal = h.legal;
    numbered = h.numbered;
    few = few;
    opened = h.opened;
    counts = h.counts;
    views = each;
    alone = λ seat u there fresh. absurd (old seat u there fresh);
  }

  -- the same where a word was loaded
  after_load : (homes : List (Option (Unit {0}))) (word : ℕ)
      → IsKept (record { words = set s.words word (slice_index s.words word); homes = homes; views = views })
  after_load homes word = record {
    past = h.past;
    world = h.world;
    owner = owner;
    legal = h.legal;
    numbered = h.numbered;
    few = few;
    opened = h.opened;
    counts = subst (λ (words : List ℕ). (author : ℕ) → author < length words
        → slice_index words author ≡ (length (log_of h.world author) - length (logs_of h.past.logs author)) % 2 ^ 64)
        (sym (set-get_or s.words word 0)) h.counts;
    views = each;
    alone = λ seat u there fresh. absurd (old seat u there fresh);
  }

-- what it knows alone
bystander : (start : Past) (w : World) (owner : Owners) (seat seat' : ℕ) (p : Part) → IsPart start w owner seat p
    → IsPart start w owner seat' (record p { owned = []; makers = []; spare = None })
bystander start w owner seat seat' p h = moved_part start w owner seat owner seat' p [] [] None (λ author has. absurd (let none = has.1 in omega arith))
    (no_rights w owner seat') h

-- a seat that knows as much is split off
pub notes : (by : ℕ) (v : View) → v.fresh ≡ false → Splits IsKept by v v (noted v)
notes by v is s h here =
    let P = IsView h.past h.world h.owner in
    let mine = h.views by v here in
    let views = set s.views by v in
    same_world s h h.owner h.few (views ++ noted v ∷ [])
    (each_more P views (noted v) (each_changed P s.views by v (λ seat u _ there. h.views seat u there) mine)
    (record { mine = bystander h.past h.world h.owner by (length views) v.mine mine.mine; heard = nothing_part h.past h.world h.owner (length views) }))
    (each_more IsStale views (noted v) (stale_changed s h by v v here is) (stale (length views) (noted v) refl))

-- ---- owners

-- of one log the owner is another now
abbrev moved_to : (ℕ → ℕ) → ℕ → ℕ → ℕ → ℕ
moved_to owner log seat author = if author == log then seat else owner author

moved : (owner : ℕ → ℕ) (log seat : ℕ) → moved_to owner log seat log ≡ seat
moved owner log seat = ap (λ (b : Bool). if b then seat else owner log) (same_number log)

unmoved : (owner : ℕ → ℕ) (log seat author : ℕ) → author ≢ log → moved_to owner log seat author ≡ owner author
unmoved owner log seat author apart = ap (λ (b : Bool). if b then seat else owner author) (other_number author log apart)

-- the one seat now owns what the other owned
abbrev handed_to : (ℕ → ℕ) → ℕ → ℕ → ℕ → ℕ
handed_to owner other by author = if owner author == other then by else owner author

handed : (owner : ℕ → ℕ) (other by author : ℕ) → owner author ≡ other → handed_to owner other by author ≡ by
handed owner other by author is = ap (λ (b : Bool). if b then by else owner author) (ap (λ n. n == other) is ∙ same_number other)

unhanded : (owner : ℕ → ℕ) (other by author seat : ℕ) → seat ≢ other → owner author ≡ seat → handed_to owner other by author ≡ seat
unhanded owner other by author seat apart is =
    ap (λ (b : Bool). if b then by else owner author) (other_number (owner author) other (λ e. apart (sym is ∙ e))) ∙ is

-- a seat for the author of the first log that the seat owns
parts_first : (by : ℕ) (v : View) (log : ℕ) (rest : List ℕ) → v.mine.owned ≡ log ∷ rest → ((author : ℕ) → Contains rest author → author ≢ log)
    → Splits IsKept by v (but_first v) (first_of v)
parts_first by v log rest owned apart s h here =
    let mine = h.views by v here in
    let views = set s.views by (but_first v) in
    let owner : Owners = record h.owner { log = moved_to h.owner.log log (length views) } in
    let P = IsView h.past h.world owner in
    let was : Contains v.mine.owned log = subst (λ xs. Contains xs log) (sym owned) (0, omega arith, refl) in
    let own : h.owner.log log ≡ by = (mine.mine.owns log was).0 in
    let other : (seat : ℕ) (p : Part) → seat ≢ by → IsPart h.past h.world h.owner seat p → IsPart h.past h.world owner seat p =
    λ seat p not_by part. moved_part h.past h.world h.owner seat owner seat p p.owned p.makers p.spare
    (λ author has. (has, λ is. unmoved h.owner.log log (length views) author (λ e. not_by (sym is ∙ ap h.owner.log e ∙ own)) ∙ is))
    (moved_rights h.world h.owner seat owner seat p.makers p.spare refl (λ worker is. is) part.rights) part in
    let left : IsView h.past h.world owner by (but_first v) = record {
      mine = moved_part h.past h.world h.owner by owner by v.mine (drop 1 v.mine.owned) v.mine.makers v.mine.spare
          (λ author has.
          let among : Contains rest author = subst (λ xs. Contains (drop 1 xs) author) owned has in (
            subst (λ xs. Contains xs author) (sym owned) (suc among.0, omega (arith, among.1), among.2),
            λ is. unmoved h.owner.log log (length views) author (apart author among) ∙ is,
          ))
          (moved_rights h.world h.owner by owner by v.mine.makers v.mine.spare refl (λ worker is. is) mine.mine.rights) mine.mine;
      heard = nothing_part h.past h.world owner by;
    } in
    let right : IsView h.past h.world owner (length views) (first_of v) = record {
      mine = moved_part h.past h.world h.owner by owner (length views) v.mine (take 1 v.mine.owned) [] None
          (λ author has.
          let among : Contains (log ∷ []) author = subst (λ xs. Contains (take 1 xs) author) owned has in
          let is : author ≡ log = only log author among in
          (subst (Contains v.mine.owned) (sym is) was, λ _. ap owner.log is ∙ moved h.owner.log log (length views)))
          (no_rights h.world owner (length views)) mine.mine;
      heard = nothing_part h.past h.world owner (length views);
    } in
    same_world s h owner h.few (views ++ first_of v ∷ [])
    (each_more P views (first_of v)
    (each_changed P s.views by (but_first v)
    (λ seat u not_by there.
    let each = h.views seat u there in
    record { mine = other seat u.mine not_by each.mine; heard = other seat u.heard not_by each.heard })
    left) right)
    (each_more IsStale views (first_of v) (stale_changed s h by v (but_first v) here refl) (stale (length views) (first_of v) refl))
  where
    only : (log author : ℕ) → Contains (log ∷ []) author → author ≡ log
    only log author (zero, _, is) = sym is
    only log author (suc k, within, _) = absurd (omega arith)

far : (from count author : ℕ) → Contains (range_with_len from count) author → from ≤ author
far from count author has =
    let within : has.0 < count = omega (arith, has.1, length-range_with_len from count) in
    let at : from + has.0 ≡ author = sym (get_or-range_with_len from count has.0 author within) ∙ has.2 in
    omega arith

pub parts : (by : ℕ) (v : View) (log count : ℕ) → v.mine.owned ≡ range_with_len log (count + 1) → Splits IsKept by v (but_first v) (first_of v)
parts by v log count owned = parts_first by v log (range_with_len (log + 1) count) (owned ∙ first log count)
    (λ author has is. let le = far (log + 1) count author has in absurd (omega arith))
  where
    first : (log count : ℕ) → range_with_len log (count + 1) ≡ log ∷ range_with_len (log + 1) count
    first log count = ap (range_with_len log) (let more : count + 1 ≡ suc count = omega arith in more)

-- another seat is taken in
pub meets : (by : ℕ) (v : View) (other : ℕ) (w : View) → Joins IsKept by v other w (with_heard v w) spent
meets by v other w s h here apart there =
    let mine = h.views by v here in
    let its : IsView h.past h.world h.owner other w =
    ⊎_elim (λ (t : (other ≡ by) × (with_heard v w ≡ w)). absurd (apart t.0))
    (λ (t : (other ≢ by) × (get_elem? s.views other ≡ some w)). h.views other w t.1) (at_set s.views by other (with_heard v w) w there) in
    let owner : Owners = record { log = handed_to h.owner.log other by; worker = handed_to h.owner.worker other by; named = h.owner.named } in
    let P = IsView h.past h.world owner in
    let stays : (seat : ℕ) (p : Part) → seat ≢ other → IsPart h.past h.world h.owner seat p → IsPart h.past h.world owner seat p =
    λ seat p not_other part. moved_part h.past h.world h.owner seat owner seat p p.owned p.makers p.spare
    (λ author has. (has, unhanded h.owner.log other by author seat not_other))
    (moved_rights h.world h.owner seat owner seat p.makers p.spare refl (λ worker. unhanded h.owner.worker other by worker seat not_other) part.rights)
    part in
    let both : IsView h.past h.world owner by (with_heard v w) = record {
      mine = stays by v.mine (λ e. apart (sym e)) mine.mine;
      heard = moved_part h.past h.world h.owner other owner by w.mine w.mine.owned w.mine.makers w.mine.spare
          (λ author has. (has, handed h.owner.log other by author))
          (moved_rights h.world h.owner other owner by w.mine.makers w.mine.spare refl (λ worker. handed h.owner.worker other by worker) its.mine.rights)
          its.mine;
    } in
    let none = nothing_part h.past h.world owner other in
    let views = set s.views by (with_heard v w) in
    let each : (seat : ℕ) (u : View) → seat ≢ other → get_elem? views seat ≡ some u → IsView h.past h.world owner seat u =
    λ seat u not_other at. each_changed (λ seat u. seat ≢ other → IsView h.past h.world owner seat u) s.views by (with_heard v w)
    (λ seat u _ at not_other.
    let one = h.views seat u at in
    record { mine = stays seat u.mine not_other one.mine; heard = stays seat u.heard not_other one.heard })
    (λ _. both) seat u at not_other in
    same_world s h owner h.few (set views other spent)
    (each_changed P views other spent each (record { mine = none; heard = none }))
    (each_changed IsStale views other spent (λ seat u _ at. stale_changed s h by v (with_heard v w) here refl seat u at) (stale other spent refl))

-- what was taken in becomes what is known
pub hears : (by : ℕ) (v : View) (c : List (ℕ × Unit {0})) (slots word : ℕ) → 0 < length v.mine.known → 0 < length v.heard.known
    → Allows IsKept slots by (v, c) word (λ n. n) (λ n m. (m ≡ (merged v, c)) × IsHeard v.mine v.heard)
hears by v c slots word some_mine some_heard s h long here small =
    let u = h.views by v here in
    let P = IsView h.past h.world h.owner in
    let part = joined_part h.past h.world h.owner by v.mine v.heard u.mine u.heard some_mine some_heard in
    let begins : (author : ℕ) → IsPrefix (logs_of v.mine.known author) (logs_of (longer_of v.mine.known v.heard.known) author)
    × IsPrefix (logs_of v.heard.known author) (logs_of (longer_of v.mine.known v.heard.known) author) =
    λ author. subst (λ xs. IsPrefix (logs_of v.mine.known author) xs × IsPrefix (logs_of v.heard.known author) xs)
    (sym (longer_at v.mine.known v.heard.known author))
    (begins_longer (logs_of v.mine.known author) (logs_of v.heard.known author) (log_of h.world author) (u.mine.begins author) (u.heard.begins author)) in (
      merged v,
      keeps,
      tt,
      after_load s h h.owner h.few (set s.views by (merged v))
          (each_changed P s.views by (merged v) (λ seat u _ there. h.views seat u there)
          (record { mine = part; heard = nothing_part h.past h.world h.owner by }))
          (stale_changed s h by v (merged v) here refl) s.homes word,
      (
        refl,
        record {
          past = u.heard.past some_heard ∙ sym (u.mine.past some_mine);
          own = own_begins h.past h.world h.owner by v.mine v.heard u.mine u.heard some_mine some_heard;
          heard_own = heard_own_begins h.past h.world h.owner by v.mine v.heard u.mine u.heard some_mine some_heard;
          keeps = record { each = λ author. (begins author).0 };
          learns = record { each = λ author. (begins author).1 };
          legal = known_legal h.past h.world h.owner by (joined v.mine v.heard) part (longer_some v.mine.known v.heard.known some_mine) h.legal;
        },
      ),
    )

-- ---- who numbers commands

-- a new seat numbers the commands of this seat's workers
pub lends : (by : ℕ) (v : View) → Splits IsKept by v (without_makers v) (lent v)
lends by v s h here =
    let mine = h.views by v here in
    let views = set s.views by (without_makers v) in
    let owner : Owners = record h.owner { worker = handed_to h.owner.worker by (length views) } in
    let P = IsView h.past h.world owner in
    let stays : (seat : ℕ) (p : Part) → seat ≢ by → IsPart h.past h.world h.owner seat p → IsPart h.past h.world owner seat p =
    λ seat p not_by part. moved_part h.past h.world h.owner seat owner seat p p.owned p.makers p.spare (λ author has. (has, λ is. is))
    (moved_rights h.world h.owner seat owner seat p.makers p.spare refl (λ worker. unhanded h.owner.worker by (length views) worker seat not_by) part.rights)
    part in
    let left : IsView h.past h.world owner by (without_makers v) = record {
      mine = moved_part h.past h.world h.owner by owner by v.mine v.mine.owned [] None (λ author has. (has, λ is. is)) (no_rights h.world owner by)
          mine.mine;
      heard = nothing_part h.past h.world owner by;
    } in
    let right : IsView h.past h.world owner (length views) (lent v) = record {
      mine = moved_part h.past h.world h.owner by owner (length views) v.mine [] v.mine.makers v.mine.spare
          (λ author has. absurd (let none = has.1 in omega arith))
          (moved_rights h.world h.owner by owner (length views) v.mine.makers v.mine.spare refl
          (λ worker. handed h.owner.worker by (length views) worker) mine.mine.rights) mine.mine;
      heard = nothing_part h.past h.world owner (length views);
    } in
    same_world s h owner h.few (views ++ lent v ∷ [])
    (each_more P views (lent v)
    (each_changed P s.views by (without_makers v)
    (λ seat u not_by there.
    let each = h.views seat u there in
    record { mine = stays seat u.mine not_by each.mine; heard = stays seat u.heard not_by each.heard })
    left) right)
    (each_more IsStale views (lent v) (stale_changed s h by v (without_makers v) here refl) (stale (length views) (lent v) refl))

-- a new seat numbers the commands of the next new worker
pub names : (by : ℕ) (v : View) (n : ℕ) → v.mine.spare ≡ Some n → n < 2 ^ 64 → Splits IsKept by v (naming_next v) (named v)
names by v n spare small s h here =
    let mine = h.views by v here in
    let views = set s.views by (naming_next v) in
    let rights = mine.mine.rights in
    let next : n ≡ h.owner.named = rights.next n spare in
    let own : h.owner.worker n ≡ by = (rights.unnamed n n spare (omega arith) small).0 in
    let none : commands_of n h.world ≡ 0 = (rights.unnamed n n spare (omega arith) small).1 in
    let owner : Owners = record { log = h.owner.log; worker = moved_to h.owner.worker n (length views); named = h.owner.named + 1 } in
    let P = IsView h.past h.world owner in
    let stays : (seat : ℕ) (p : Part) → seat ≢ by → IsPart h.past h.world h.owner seat p → IsPart h.past h.world owner seat p =
    λ seat p not_by part. moved_part h.past h.world h.owner seat owner seat p p.owned p.makers p.spare (λ author has. (has, λ is. is))
    (record {
      each = λ m has. let e = part.rights.each m has in (
        unmoved h.owner.worker n (length views) m.worker (λ same. absurd (let low = e.1 in omega arith)) ∙ e.0,
        (let low = e.1 in omega arith),
        e.2,
      );
      next = λ k is. absurd (not_by (sym (part.rights.unnamed k n is (let at = part.rights.next k is in omega arith) small).0 ∙ own));
      unnamed = λ k worker is low few. absurd (not_by (sym (part.rights.unnamed k n is (let at = part.rights.next k is in omega arith) small).0 ∙ own));
    }) part in
    let left : IsView h.past h.world owner by (naming_next v) = record {
      mine = moved_part h.past h.world h.owner by owner by v.mine v.mine.owned v.mine.makers (option_map (λ n. n + 1) v.mine.spare)
          (λ author has. (has, λ is. is))
          (subst (HasRights h.world owner by v.mine.makers) (ap (option_map (λ n. n + 1)) (sym spare)) (record {
            each = λ m has. let e = rights.each m has in (
              unmoved h.owner.worker n (length views) m.worker (λ same. absurd (let low = e.1 in omega arith)) ∙ e.0,
              (let low = e.1 in omega arith),
              e.2,
            );
            next = λ k is. let same : n + 1 ≡ k = same_Some (n + 1) k is in omega arith;
            unnamed = λ k worker is low few.
                let same : n + 1 ≡ k = same_Some (n + 1) k is in
                let u = rights.unnamed n worker spare (omega arith) few in
                (unmoved h.owner.worker n (length views) worker (λ e. absurd (omega arith)) ∙ u.0, u.1);
          })) mine.mine;
      heard = nothing_part h.past h.world owner by;
    } in
    let right : IsView h.past h.world owner (length views) (named v) = record {
      mine = moved_part h.past h.world h.owner by owner (length views) v.mine [] (makers_from v.mine.spare) None
          (λ author has. absurd (let empty = has.1 in omega arith))
          (subst (λ o. HasRights h.world owner (length views) (makers_from o) None) (sym spare) (record {
            each = λ m has.
                let is : m ≡ record { worker = n; made = 0 } = sym (one (record { worker = n; made = 0 }) m has) in
                subst (λ (m : Maker). (owner.worker m.worker ≡ length views) × (m.worker < owner.named) × (m.made ≡ commands_of m.worker h.world)) (sym is)
                (moved h.owner.worker n (length views), (omega arith), sym none);
            next = λ k is. absurd (none-some k is);
            unnamed = λ k worker is. absurd (none-some k is);
          })) mine.mine;
      heard = nothing_part h.past h.world owner (length views);
    } in
    same_world s h owner (omega arith) (views ++ named v ∷ [])
    (each_more P views (named v)
    (each_changed P s.views by (naming_next v)
    (λ seat u not_by there.
    let each = h.views seat u there in
    record { mine = stays seat u.mine not_by each.mine; heard = stays seat u.heard not_by each.heard })
    left) right)
    (each_more IsStale views (named v) (stale_changed s h by v (naming_next v) here refl) (stale (length views) (named v) refl))
  where
    one : (m k : Maker) → Contains (m ∷ []) k → m ≡ k
    one m k (zero, _, is) = is
    one m k (suc i, within, _) = absurd (omega arith)

-- a seat that owns all logs is told that it knows them whole
pub looks : (by : ℕ) (v : View) (c : List (ℕ × Unit {0})) (slots word : ℕ) → v.fresh ≡ false → 0 < length v.mine.known
    → Allows IsKept slots by (v, c) word (λ n. n) (λ n m. (m ≡ (v, c)) × IsWhole v.mine)
looks by v c slots word begun any s h long here small =
    let u = h.views by v here in
    let P = IsView h.past h.world h.owner in (
      v,
      keeps,
      tt,
      after_load s h h.owner h.few (set s.views by v) (each_changed P s.views by v (λ seat u _ there. h.views seat u there) u)
          (stale_changed s h by v v here begun) s.homes word,
      (refl, known_whole h.past h.world h.owner by v.mine u.mine any h.legal h.numbered h.opened),
    )

-- ---- an author appends

-- the word counts one more
counts_more : (words : List ℕ) (past : Past) (w : World) (author : ℕ) (l : Logged) (n : ℕ)
    → n ≡ (length (log_of w author) + 1 - length (logs_of past.logs author)) % 2 ^ 64
    → ((other : ℕ) → other < length words → slice_index words other ≡ (length (log_of w other) - length (logs_of past.logs other)) % 2 ^ 64)
    → (other : ℕ) → other < length (set words author n)
    → slice_index (set words author n) other ≡ (length (log_of (record { author = author; logged = l } ∷ w) other) - length (logs_of past.logs other)) % 2 ^ 64
counts_more words past w author l n is counts other within = ⊎_elim
    (λ (same : other ≡ author). subst
    (λ a. slice_index (set words author n) a ≡ (length (log_of (record { author = author; logged = l } ∷ w) a) - length (logs_of past.logs a)) % 2 ^ 64)
    (sym same)
    (get_or-set_same words author n 0 (omega (arith, length-set words author n)) ∙ is
    ∙ ap (λ k. (k - length (logs_of past.logs author)) % 2 ^ 64)
    (sym (ap length (log_here (record { author = author; logged = l }) w author refl) ∙ length-append (log_of w author) (l ∷ [])))))
    (λ (apart : other ≢ author).
    get_or-set_other words author other n 0 apart ∙ counts other (omega (arith, length-set words author n))
    ∙ ap (λ xs. (length xs - length (logs_of past.logs other)) % 2 ^ 64)
    (sym (log_elsewhere (record { author = author; logged = l }) w other (λ e. apart (sym e)))))
    (cases_eq other author)

pub appends : (by : ℕ) (v : View) (c : List (ℕ × Unit {0})) (slots author n : ℕ) (e : Event) → Contains v.mine.owned author → author < length v.mine.known
    → IsAllowed v.mine.past.image author e (logs_of v.mine.known)
    → IsNext e v.mine.makers
    → n ≡ (length (logs_of v.mine.known author) + 1 - length (logs_of v.mine.past.logs author)) % 2 ^ 64
    → Allows IsKept slots by (v, c) author (λ _. n) (λ _ m. m ≡ (appended v author e, c))
unfolding IsLegal HasMakers
appends by v c slots author n e has within allowed next count s h long here small =
    let u = h.views by v here in
    let own = u.mine.owns author has in
    let some : 0 < length v.mine.known = omega arith in
    let past : v.mine.past ≡ h.past = u.mine.past some in
    let step = next_step v.mine.known author e in
    let w = step ∷ h.world in
    let P = IsView h.past w h.owner in
    let later : (seat : ℕ) (p : Part) → seat ≢ by → IsPart h.past h.world h.owner seat p → IsPart h.past w h.owner seat p =
    λ seat p apart part. later_part h.past h.world h.owner seat step p (λ e. apart (sym e ∙ own.0))
    (λ worker is. next_is_own h.world h.owner by step v.mine.makers v.mine.spare u.mine.rights e worker next (λ its. apart (sym is ∙ its))) part in (
      appended v author e,
      keeps,
      tt,
      record {
        past = h.past;
        world = w;
        owner = h.owner;
        legal = (
          step_legal h.past h.world h.owner by v.mine u.mine some author e has within
              (subst (λ (p : Past). IsAllowed p.image author e (logs_of v.mine.known)) past allowed),
          h.legal,
        );
        numbered = (next_numbered h.world h.owner by step v.mine.makers v.mine.spare u.mine.rights e next, h.numbered);
        few = h.few;
        opened = none_opened h.past.logs h.world step
            (λ does m is.
            let low = next_is_named h.world h.owner by step v.mine.makers v.mine.spare u.mine.rights e does m next is in
            omega (arith, h.few)) h.opened;
        counts = counts_more s.words h.past h.world author (naming v.mine.known e) n
            (count ∙ ap (λ (x : List Logged × Past). (length x.0 + 1 - length (logs_of x.1.logs author)) % 2 ^ 64) (λ i. (own.1 i, past i))) h.counts;
        views = each_changed P s.views by (appended v author e)
            (λ seat u apart there.
            let each = h.views seat u there in
            record { mine = later seat u.mine apart each.mine; heard = later seat u.heard apart each.heard })
            (record { mine = appended_part h.past h.world h.owner by v.mine author e has within u.mine next; heard = nothing_part h.past w h.owner by });
        alone = λ seat u there fresh. absurd (stale_changed s h by v (appended v author e) here refl seat u there fresh);
      },
      refl,
    )

-- ---- a chronicle begins

abbrev first_owners : Owners
first_owners = record { log = λ _. 0; worker = λ _. 0; named = 0 }

pub opens : (count : ℕ) → IsKept (opening (replicate count 0) [] (starting count))
unfolding IsLegal HasMakers
opens count = record {
  past = no_past;
  world = [];
  owner = first_owners;
  legal = tt;
  numbered = tt;
  few = omega arith;
  opened = record { each = λ unit number l e m there. absurd (none-some l there) };
  counts = λ author within. replicated count author 0;
  views = λ seat u there. let one = only_one (starting count) seat u there in
      subst (λ (x : ℕ × View). IsView no_past [] first_owners x.0 x.1) (λ i. (sym one.0 i, one.1 i)) first;
  alone = λ seat u there fresh. (ap (λ (v : View). v ∷ []) (only_one (starting count) seat u there).1, refl);
}
  where
    first : IsView no_past [] first_owners 0 (starting count)
    first = record {
      mine = record {
        begins = λ author. nothing_begins [];
        closed = λ author other number l below there. absurd (omega arith);
        owns = λ author has. (refl, refl);
        past = λ some. absurd (omega arith);
        authors = λ some. absurd (omega arith);
        rights = no_rights [] first_owners 0;
      };
      heard = nothing_part no_past [] first_owners 0;
    }

-- no word counts anything yet
counts_none : (words : List ℕ) (past before : Past) (w world : World) → log_of w ≡ logs_of past.logs → world ≡ []
    → ((author : ℕ) → author < length words → slice_index words author ≡ (length (log_of world author) - length (logs_of before.logs author)) % 2 ^ 64)
    → (author : ℕ) → author < length (set words 0 0)
    → slice_index (set words 0 0) author ≡ (length (log_of w author) - length (logs_of past.logs author)) % 2 ^ 64
counts_none words past before w world logs none counts author within =
    let was : slice_index words author ≡ 0 =
    counts author (omega (arith, length-set words 0 0)) ∙ ap (λ (v : World). (length (log_of v author) - length (logs_of before.logs author)) % 2 ^ 64) none
    ∙ ap (λ k. k % 2 ^ 64) (let z : 0 - length (logs_of before.logs author) ≡ 0 = omega arith in z) in
    let now : slice_index (set words 0 0) author ≡ 0 = ⊎_elim
    (λ (same : author ≡ 0). subst (λ a. slice_index (set words 0 0) a ≡ 0) (sym same) (get_or-set_same words 0 0 0 (omega (arith, length-set words 0 0))))
    (λ (apart : author ≢ 0). get_or-set_other words 0 author 0 0 apart ∙ was)
    (cases_eq author 0) in
    now ∙ sym (ap (λ (l : Logs). (length (l author) - length (logs_of past.logs author)) % 2 ^ 64) logs
    ∙ ap (λ k. k % 2 ^ 64) (let z : length (logs_of past.logs author) - length (logs_of past.logs author) ≡ 0 = omega arith in z))

pub begins : (by : ℕ) (v : View) (c : List (ℕ × Unit {0})) (slots : ℕ) (past : Past) → v.fresh ≡ true → AreOpeningLogs past.image past.logs
    → Allows IsKept slots by (v, c) 0 (λ _. 0) (λ _ m. m ≡ (began v past, c))
unfolding opening_legal
begins by v c slots past fresh k s h long here small =
    let only = h.alone by v here fresh in
    let u = h.views by v here in
    let owner : Owners = record { log = h.owner.log; worker = λ _. by; named = 0 } in
    let P = IsView past k.world owner in (
      began v past,
      keeps,
      tt,
      record {
        past = past;
        world = k.world;
        owner = owner;
        legal = k.legal;
        numbered = k.makers;
        few = omega arith;
        opened = all_open past.logs k.world k.logs;
        counts = counts_none s.words past h.past k.world h.world k.logs only.1 h.counts;
        views = each_changed P s.views by (began v past)
            (λ seat u apart there. absurd (apart ((only_one v seat u (subst (λ l. get_elem? l seat ≡ some u) only.0 there)).0
            ∙ sym (only_one v by v (subst (λ l. get_elem? l by ≡ some v) only.0 here)).0)))
            (record {
              mine = whole_part past past.logs (opening_legal past.image past.logs k) owner by v.mine.owned [] (Some 0)
                  (λ author has. (u.mine.owns author has).0)
                  (record {
                    each = λ m has. absurd (let none = has.1 in omega arith);
                    next = λ n is. sym (same_Some 0 n is);
                    unnamed = λ n worker is low few. (refl, k.none worker few);
                  });
              heard = nothing_part past k.world owner by;
            });
        alone = λ seat u there fresh. absurd (stale_changed s h by v (began v past) here refl seat u there fresh);
      },
      refl,
    )
