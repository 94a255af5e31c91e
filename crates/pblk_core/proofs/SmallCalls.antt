-- Calls of a core that change no table but the window: what it answers by the logs, and its window
-- as it gives an entry back.
use Rattle.std.proofs.Common.{◌≡◌, ℕ, ◌+◌, ◌-◌, ◌<◌, ◌≤◌, zero, suc, Bool, true, false, cond, nat_lt, Some, None, Option, List, [], ◌∷◌, length, take, drop, refl, sym, subst, ap, ap₂, ◌∙◌, arith, add-zero}
use Rattle.std.specs.Prelude.{map, slice_get, ◌↔◌, IsSome, IfNone, OnSome}
use Rattle.std.specs.List.{filter, range_with_len}
use Rattle.std.specs.Option.{option_map_or}
use Rattle.std.proofs.lemmas.Option.{none-some}
use Rattle.pblk_model.specs.declared.shape.Shape.{Shape}
use Rattle.pblk_model.specs.Image.{Image}
use Rattle.pblk_world.specs.Events.{Source, Logged}
use Rattle.pblk_world.specs.World.{World, Logs, log_of}
use Rattle.pblk_world.specs.EngineLog.{Taken, takes}
use Rattle.pblk_world.specs.Fronts.{first_position, is_users}
use Rattle.pblk_world.specs.Space.{freed}
use Rattle.write_window.specs.declared.held.Held.{Held}
use Rattle.write_window.specs.Entries.{is_readable, user_count, users_in}
use Rattle.write_window.specs.Window.{WindowView}
use Rattle.write_window.specs.Window as view
use Rattle.stripe_placer.specs.Placing.{Placing, padded_to}
use Rattle.pblk_world.specs.LegalMounts.{IsLegalMount}
use Rattle.core_laws.specs.PlacerOf.{positions_of, placing_of}
use Rattle.core_laws.specs.Positions.{AreNumbered}
use Rattle.core_laws.specs.WindowOf.{HeldSector, HeldSectors, without_frame, sectors_in, class_of, progress_by, is_given_back, held_of, users_below, window_from}
use Rattle.core_laws.proofs.Placing.{not_below}
use Rattle.core_laws.proofs.PoppedWindow.{window_popped}
use Rattle.core_laws.proofs.UsersEntries.{in_order}
use Rattle.core_laws.proofs.CachedEntries.{numbered_at}
use Rattle.core_laws.proofs.FreedFront.{freed_past}
use Rattle.core_laws.proofs.SyncedWindow.{numbered_above}
use Rattle.pblk_core.specs.declared.collecting.Collection.{Collection}
use Rattle.pblk_core.specs.declared.target_core.Core.{Core}
use Rattle.pblk_core.specs.Stands.{Stands}
use Rattle.pblk_model.proofs.Lists.{all_imply}
use Rattle.pblk_model.proofs.Maps.{all_filter, filter_none}
use Rattle.pblk_model.proofs.Parts.{get_below}
use Rattle.pblk_model.proofs.Tests.{lt_true}
use Rattle.pblk_model.proofs.MarksLemmas.{accepted_small}

pub numbered_in : (i : Image) (w : World) → IsLegalMount i w → AreNumbered (log_of w 0)
numbered_in i w mount = (in_order i w (accepted_small i.shape mount.accepted) mount.legal).numbered

-- ---- users' writes below one more position

below_of : ℕ → List Taken → ℕ
below_of bound ts = length (filter (λ (t : Taken). nat_lt t.entry.position bound) (filter (λ (t : Taken). is_users t.entry.source) ts))

count_class : (source : Option Source) → cond (is_users source) 1 0 ≡ user_count (class_of source)
count_class None = refl
count_class (Some source) = refl

head_counted : (bound : ℕ) (u : Taken) (us : List Taken) → nat_lt u.entry.position bound ≡ true
    → below_of bound (u ∷ us) ≡ user_count (class_of u.entry.source) + below_of bound us
unfolding below_of
head_counted bound u us e = go (is_users u.entry.source) ∙ ap (λ n. n + below_of bound us) (count_class u.entry.source)
  where
    go : (b : Bool) → length (filter (λ (t : Taken). nat_lt t.entry.position bound)
        (cond b (u ∷ filter (λ (t : Taken). is_users t.entry.source) us) (filter (λ (t : Taken). is_users t.entry.source) us))) ≡ cond b 1 0 + below_of bound us
    go true =
        ap (λ b. length (cond b (u ∷ filter (λ (t : Taken). nat_lt t.entry.position bound) (filter (λ (t : Taken). is_users t.entry.source) us))
        (filter (λ (t : Taken). nat_lt t.entry.position bound) (filter (λ (t : Taken). is_users t.entry.source) us)))) e
        ∙ (omega arith)
    go false = omega arith

none_counted : (a bound : ℕ) (ts : List Taken) → bound ≤ a → positions_of ts ≡ range_with_len a (length ts) → below_of bound ts ≡ 0
unfolding below_of
none_counted a bound ts within is =
    ap length (filter_none (λ (t : Taken). nat_lt t.entry.position bound) (filter (λ (t : Taken). is_users t.entry.source) ts)
    (all_filter (λ (t : Taken). nat_lt t.entry.position bound ≡ false) (λ (t : Taken). is_users t.entry.source) ts
    (all_imply (λ (t : Taken). a ≤ t.entry.position) (λ (t : Taken). nat_lt t.entry.position bound ≡ false)
    (λ t h. not_below bound t.entry.position (omega arith)) ts (numbered_above a ts is))))

one_more : (a k : ℕ) (ts : List Taken) (t : Taken) → positions_of ts ≡ range_with_len a (length ts) → slice_get ts k ≡ Some t
    → below_of (a + k + 1) ts ≡ below_of (a + k) ts + user_count (class_of t.entry.source)
one_more a k [] t is at = absurd (none-some t at)
one_more a zero (u ∷ us) t is at =
    let first : u.entry.position ≡ a = cc in
    let rest : positions_of us ≡ range_with_len (a + 1) (length us) = cc in
    let same : user_count (class_of u.entry.source) ≡ user_count (class_of t.entry.source) = cc in
    let new : below_of (a + 0 + 1) (u ∷ us) ≡ user_count (class_of u.entry.source) + below_of (a + 0 + 1) us =
    head_counted (a + 0 + 1) u us (lt_true u.entry.position (a + 0 + 1) (omega arith)) in
    let behind : below_of (a + 0 + 1) us ≡ 0 = none_counted (a + 1) (a + 0 + 1) us (omega arith) rest in
    let old : below_of (a + 0) (u ∷ us) ≡ 0 = none_counted a (a + 0) (u ∷ us) (omega arith) is in
    omega arith
one_more a (suc k) (u ∷ us) t is at =
    let first : u.entry.position ≡ a = cc in
    let rest : positions_of us ≡ range_with_len (a + 1) (length us) = cc in
    let next : a + 1 + k ≡ a + suc k = omega arith in
    let more : below_of (a + suc k + 1) us ≡ below_of (a + suc k) us + user_count (class_of t.entry.source) =
    subst (λ n. below_of (n + 1) us ≡ below_of n us + user_count (class_of t.entry.source)) next (one_more (a + 1) k us t rest at) in
    let new : below_of (a + suc k + 1) (u ∷ us) ≡ user_count (class_of u.entry.source) + below_of (a + suc k + 1) us =
    head_counted (a + suc k + 1) u us (lt_true u.entry.position (a + suc k + 1) (omega arith)) in
    let old : below_of (a + suc k) (u ∷ us) ≡ user_count (class_of u.entry.source) + below_of (a + suc k) us =
    head_counted (a + suc k) u us (lt_true u.entry.position (a + suc k) (omega arith)) in
    omega arith

pub users_next : (log : List Logged) (from : ℕ) (t : Taken) → AreNumbered log → first_position log ≤ from
    → slice_get (takes log) (from - first_position log) ≡ Some t
    → users_below log (from + 1) ≡ users_below log from + user_count (class_of t.entry.source)
unfolding below_of
users_next log from t numbered above at =
    let same : first_position log + (from - first_position log) ≡ from = omega arith in
    subst (λ n. users_below log (n + 1) ≡ users_below log n + user_count (class_of t.entry.source)) same
    (one_more (first_position log) (from - first_position log) (takes log) t numbered at)

-- ---- the first entry of a window, where a block of it can be read

readable_by : (landed given : Bool) → is_readable (progress_by landed given) ≡ true → given ≡ true
readable_by false given e = absurd cc
readable_by true false e = absurd cc
readable_by true true e = refl

-- it is the entry of the log, whose position is given back
pub record IsFirstOf (s : Shape) (log : List Logged) (held : List Held) (k : ℕ) (t : Taken) : Type 0 where
  pub there : slice_get (takes log) k ≡ Some t
  pub given : is_given_back s log t.entry.position ≡ true
  pub users : users_in (take 1 held) ≡ user_count (class_of t.entry.source)

pub drop_first : (k : ℕ) (ts us : List Taken) (t : Taken) → drop k ts ≡ t ∷ us → slice_get ts k ≡ Some t
drop_first zero ts us t e = ap (λ xs. slice_get xs 0) e
drop_first (suc k) [] us t e = absurd cc
drop_first (suc k) (u ∷ ts) us t e = drop_first k ts us t e

pub first_of_log : (s : Shape) (log : List Logged) (held : List Held) (k : ℕ) → map without_frame held ≡ map (held_of s log) (drop k (takes log))
    → option_map_or (λ (h : Held). is_readable h.progress) (slice_get held 0) false ≡ true → (t : Taken) × IsFirstOf s log held k t
first_of_log s log held k same readable = go held (drop k (takes log)) refl same readable
  where
    go : (held : List Held) (ts : List Taken) → drop k (takes log) ≡ ts → map without_frame held ≡ map (held_of s log) ts
        → option_map_or (λ (h : Held). is_readable h.progress) (slice_get held 0) false ≡ true → (t : Taken) × IsFirstOf s log held k t
    go [] ts from same readable = absurd cc
    go (h ∷ hs) [] from same readable = absurd cc
    go (h ∷ hs) (t ∷ ts) from same readable =
        let here : without_frame h ≡ held_of s log t = cc in (
          t,
          record {
            there = drop_first k (takes log) ts t from;
            given = readable_by _ (is_given_back s log t.entry.position) (sym (ap (λ (x : HeldSector). is_readable x.progress) here) ∙ readable);
            users = add-zero (user_count h.entry.class) ∙ ap (λ (x : HeldSector). user_count x.class) here;
          },
        )

first_held : (w : WindowView) → view.is_readable_at w w.freed ≡ true → option_map_or (λ (h : Held). is_readable h.progress) (slice_get w.entries 0) false ≡ true
first_held w e =
    let here : nat_lt w.freed w.freed ≡ false = not_below w.freed w.freed (omega arith) in
    let none : w.freed - w.freed ≡ 0 = omega arith in
    sym (ap₂ (λ b n. option_map_or (λ (h : Held). is_readable h.progress) (cond b None (slice_get w.entries n)) false) here none) ∙ e

-- what a core's window is once it gave its first entry back
pub record IsPopped (old new : WindowView) : Type 0 where
  pub readable : view.is_readable_at old old.freed ≡ true
  pub size : new.size ≡ old.size
  pub freed : new.freed ≡ old.freed + 1
  pub users : new.users ≡ old.users + users_in (take 1 old.entries)
  pub entries : new.entries ≡ drop 1 old.entries

map_drop : (held : List Held) → map without_frame (drop 1 held) ≡ drop 1 (map without_frame held)
map_drop [] = refl
map_drop (h ∷ held) = refl

same_window : (a b : HeldSectors) → a.freed ≡ b.freed → a.users ≡ b.users → a.entries ≡ b.entries → a ≡ b
same_window a b e f g = λ k. record { freed = e k; users = f k; entries = g k }

by_first : (i : Image) (w : World) (c : Core) (new : WindowView) (t : Taken) → IsLegalMount i w → Stands i (log_of w) c → IsPopped c.window new
    → IsFirstOf i.shape (log_of w 0) c.window.entries (c.window.freed - first_position (log_of w 0)) t
    → (sectors_in new ≡ window_from i.shape (log_of w 0) new.freed) × (new.freed ≤ freed i.shape (log_of w 0))
by_first i w c new t mount st is first =
    let numbered : AreNumbered (log_of w 0) = numbered_in i w mount in
    let low : first_position (log_of w 0) ≤ c.window.freed = st.from_first in
    let at : t.entry.position ≡ first_position (log_of w 0) + (c.window.freed - first_position (log_of w 0)) =
    numbered_at (first_position (log_of w 0)) (length (takes (log_of w 0))) (takes (log_of w 0))
    (c.window.freed - first_position (log_of w 0)) t numbered first.there in
    let here : t.entry.position ≡ c.window.freed = omega arith in
    let given : is_given_back i.shape (log_of w 0) c.window.freed ≡ true = ap (is_given_back i.shape (log_of w 0)) (sym here) ∙ first.given in
    let inside : c.window.freed - first_position (log_of w 0) < length (takes (log_of w 0)) =
    get_below (takes (log_of w 0)) (c.window.freed - first_position (log_of w 0)) t first.there in
    let past : c.window.freed + 1 ≤ freed i.shape (log_of w 0) = freed_past i.shape (log_of w 0) c.window.freed st.to_freed (omega arith) given in
    let users : new.users ≡ users_below (log_of w 0) (c.window.freed + 1) =
    is.users ∙ ap₂ (λ a b. a + b) (ap (λ (x : HeldSectors). x.users) st.window) first.users
    ∙ sym (users_next (log_of w 0) c.window.freed t numbered low first.there) in
    let entries : map without_frame new.entries ≡ (window_from i.shape (log_of w 0) (c.window.freed + 1)).entries =
    ap (map without_frame) is.entries ∙ map_drop c.window.entries ∙ ap (λ (x : HeldSectors). drop 1 x.entries) st.window
    ∙ sym (window_popped i.shape (log_of w 0) c.window.freed low) in (
      same_window (sectors_in new) (window_from i.shape (log_of w 0) (c.window.freed + 1)) is.freed users entries
          ∙ ap (window_from i.shape (log_of w 0)) (sym is.freed),
      subst (λ n. n ≤ freed i.shape (log_of w 0)) (sym is.freed) past,
    )

pub popped_window : (i : Image) (w : World) (c : Core) (new : WindowView) → IsLegalMount i w → Stands i (log_of w) c → IsPopped c.window new
    → (sectors_in new ≡ window_from i.shape (log_of w 0) new.freed) × (new.freed ≤ freed i.shape (log_of w 0))
popped_window i w c new mount st is =
    let first : (t : Taken) × IsFirstOf i.shape (log_of w 0) c.window.entries (c.window.freed - first_position (log_of w 0)) t =
    first_of_log i.shape (log_of w 0) c.window.entries (c.window.freed - first_position (log_of w 0)) (ap (λ (x : HeldSectors). x.entries) st.window)
    (first_held c.window is.readable) in
    by_first i w c new first.0 mount st is first.1

-- the core with another window stands as it did
pub popped_stands : (i : Image) (w : World) (c : Core) (new : WindowView) → IsLegalMount i w → Stands i (log_of w) c → IsPopped c.window new
    → Stands i (log_of w) (record c { window = new })
popped_stands i w c new mount st is =
    let has = popped_window i w c new mount st is in
    record {
      layout = st.layout;
      beginning = st.beginning;
      has_begun = st.has_begun;
      capacity = st.capacity;
      slots = st.slots;
      table = st.table;
      units = st.units;
      resets = st.resets;
      used_lines = st.used_lines;
      used = st.used;
      notes = st.notes;
      size = is.size ∙ st.size;
      window = has.0;
      from_first = let low : first_position (log_of w 0) ≤ c.window.freed = st.from_first in let more : new.freed ≡ c.window.freed + 1 =
          is.freed in omega arith;
      to_freed = has.1;
      holds = st.holds;
      again = st.again;
      placing = st.placing;
      open_lines = st.open_lines;
      full = st.full;
      next_seq = st.next_seq;
      first_seq = st.first_seq;
      own_capacity = st.own_capacity;
      older = st.older;
      fits = record { first = st.fits.first; rows = st.fits.rows };
      first = st.first;
      placed = st.placed;
      left = st.left;
      in_flight = st.in_flight;
      answers = st.answers;
      users = st.users;
    }

-- by what the window's call says of its result
pub popped_else : {F : Type 0} (i : Image) (w : World) (c : Core) (new : WindowView) (o : Option F) → IsLegalMount i w → Stands i (log_of w) c
    → (IsSome o ↔ (view.is_readable_at c.window c.window.freed ≡ true)) → IfNone o (new ≡ c.window) → OnSome o (new.freed ≡ c.window.freed + 1)
    → OnSome o (new.entries ≡ drop 1 c.window.entries) → OnSome o (new.users ≡ c.window.users + users_in (take 1 c.window.entries)) → new.size ≡ c.window.size
    → Stands i (log_of w) (record c { window = new })
popped_else i w c new None mount st some same passed entries users size =
    subst (λ (v : WindowView). Stands i (log_of w) (record c { window = v })) (sym same) st
popped_else i w c new (Some f) mount st some same passed entries users size =
    popped_stands i w c new mount st (record { readable = some.0 refl; size = size; freed = passed; users = users; entries = entries })

-- ---- the pad target

pub padded_stands : (i : Image) (logs : Logs) (c : Core) (new : Placing) (to : ℕ) → Stands i logs c → new ≡ padded_to c.placer to
    → Stands i logs (record c { placer = new })
padded_stands i logs c new to st is = record {
  layout = st.layout;
  beginning = st.beginning;
  has_begun = st.has_begun;
  capacity = st.capacity;
  slots = st.slots;
  table = st.table;
  units = st.units;
  resets = st.resets;
  used_lines = st.used_lines;
  used = st.used;
  notes = st.notes;
  size = st.size;
  window = st.window;
  from_first = st.from_first;
  to_freed = st.to_freed;
  holds = st.holds;
  again = st.again;
  placing = is ∙ ap (λ (p : Placing). padded_to p to) st.placing ∙ ap (λ n. placing_of i logs n st.again) (sym (ap (λ (p : Placing). p.entries.pad) is));
  open_lines = st.open_lines;
  full = st.full;
  next_seq = st.next_seq;
  first_seq = st.first_seq;
  own_capacity = st.own_capacity;
  older = st.older;
  fits = record { first = st.fits.first; rows = st.fits.rows };
  first = st.first;
  placed = st.placed;
  left = st.left;
  in_flight = st.in_flight;
  answers = st.answers;
  users = st.users;
}

-- ---- the victim

-- what is collected is no part of the tables
pub collecting_stands : (i : Image) (logs : Logs) (c : Core) (new : Collection) → Stands i logs c → Stands i logs (record c { collection = new })
collecting_stands i logs c new st = record {
  layout = st.layout;
  beginning = st.beginning;
  has_begun = st.has_begun;
  capacity = st.capacity;
  slots = st.slots;
  table = st.table;
  units = st.units;
  resets = st.resets;
  used_lines = st.used_lines;
  used = st.used;
  notes = st.notes;
  size = st.size;
  window = st.window;
  from_first = st.from_first;
  to_freed = st.to_freed;
  holds = st.holds;
  again = st.again;
  placing = st.placing;
  open_lines = st.open_lines;
  full = st.full;
  next_seq = st.next_seq;
  first_seq = st.first_seq;
  own_capacity = st.own_capacity;
  older = st.older;
  fits = record { first = st.fits.first; rows = st.fits.rows };
  first = st.first;
  placed = st.placed;
  left = st.left;
  in_flight = st.in_flight;
  answers = st.answers;
  users = st.users;
}
