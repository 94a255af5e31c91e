-- What a taken entry changes of the window.
use Rattle.std.proofs.Common.{◌≡◌, ℕ, ◌-◌, ◌≤◌, ◌&&◌, ◌||◌, zero, suc, nat_lt, Bool, true, false, cond, Option, List, [], ◌∷◌, ◌++◌, length, drop, refl, ap, ap₂, ◌∙◌, arith, append-nil}
use Rattle.std.specs.Prelude.{map}
use Rattle.std.specs.List.{AllByRecursion, filter, list_any}
use Rattle.std.specs.Option.{option_map_or}
use Rattle.pblk_model.specs.declared.shape.Shape.{Shape}
use Rattle.pblk_model.specs.declared.chunk.Mark.{Mark}
use Rattle.pblk_world.specs.Events.{Entry, Take, Decides, Logged}
use Rattle.pblk_world.specs.EngineLog.{Begun, Taken, takes, Placed, placements, has_landed, holds_position}
use Rattle.pblk_world.specs.Fronts.{first_position, taken, has_landed_at, is_users, user_takes}
use Rattle.pblk_world.specs.Space.{gives_back}
use Rattle.core_laws.specs.WindowOf.{HeldSector, class_of, source_of, is_given_back, progress_by, held_of, waiting_sector, users_below, window_from}
use Rattle.core_laws.proofs.Steady.{AreAlike}
use Rattle.core_laws.proofs.Placing.{not_below}
use Rattle.core_laws.proofs.Taking.{with_take, alike, filter_last}
use Rattle.core_laws.proofs.TakenSlots.{any_same, landed_same, gives_back_same, begun_same}
use Rattle.core_laws.proofs.WindowOfLemmas.{same_window}
use Rattle.pblk_model.proofs.Maps.{map_last, map_same}
use Rattle.pblk_model.proofs.Tests.{and_false}
use Rattle.pblk_world.proofs.EngineLogLemmas.{takes_more}

-- ---- how far an entry has come

landed_at_same : (s : Shape) (old new : List Logged) → AreAlike old new → (position : ℕ) → has_landed_at s new position ≡ has_landed_at s old position
landed_at_same s old new same position =
    any_same (λ p. has_landed new p && holds_position s position p) (λ p. has_landed old p && holds_position s position p)
    (λ p. ap (λ b. b && holds_position s position p) (landed_same old new same p)) (placements new)
    ∙ ap (list_any (λ p. has_landed old p && holds_position s position p)) same.placements

pub given_same : (s : Shape) (old new : List Logged) → AreAlike old new → (position : ℕ) → is_given_back s new position ≡ is_given_back s old position
given_same s old new same position =
    any_same (gives_back s new position) (gives_back s old position) (gives_back_same s old new same position) (placements new)
    ∙ ap (list_any (gives_back s old position)) same.placements

held_same : (s : Shape) (old new : List Logged) → AreAlike old new → (t : Taken) → held_of s new t ≡ held_of s old t
held_same s old new same t = ap₂ (λ a b. record {
  position = t.entry.position;
  class = class_of t.entry.source;
  lba = t.entry.lba;
  source = source_of t.entry.source;
  sector = t.entry.sector;
  progress = progress_by a b;
}) (landed_at_same s old new same t.entry.position) (given_same s old new same t.entry.position)

pub not_landed : (s : Shape) (log : List Logged) (position : ℕ) (ps : List Placed) → AllByRecursion (λ p. holds_position s position p ≡ false) ps
    → list_any (λ p. has_landed log p && holds_position s position p) ps ≡ false
not_landed s log position [] all = refl
not_landed s log position (p ∷ ps) all =
    ap (λ b. b || list_any (λ p. has_landed log p && holds_position s position p) ps) (and_false (has_landed log p) (holds_position s position p) all.0)
    ∙ not_landed s log position ps all.1

held_new : (s : Shape) (log : List Logged) (entry : Entry) (mark : Mark) → AllByRecursion (λ p. holds_position s entry.position p ≡ false) (placements log)
    → held_of s log (record { entry = entry; mark = mark }) ≡ waiting_sector entry
held_new s log entry mark none = ap (λ a. record {
  position = entry.position;
  class = class_of entry.source;
  lba = entry.lba;
  source = source_of entry.source;
  sector = entry.sector;
  progress = progress_by a (is_given_back s log entry.position);
}) (not_landed s log entry.position (placements log) none)

-- ---- the window

drop_last : {X : Type 0} (k : ℕ) (xs : List X) (x : X) → k ≤ length xs → drop k (xs ++ x ∷ []) ≡ drop k xs ++ x ∷ []
drop_last zero xs x within = refl
drop_last (suc k) [] x within = absurd (omega arith)
drop_last (suc k) (y ∷ xs) x within = drop_last k xs x (omega arith)

users_same : (log : List Logged) (entry : Entry) (mark : Mark) (knows : List ℕ) (from : ℕ) → from ≤ entry.position
    → users_below (with_take log entry mark knows) from ≡ users_below log from
users_same log entry mark knows from below =
    let t : Taken = record { entry = entry; mark = mark } in
    ap (λ ts. length (filter (λ (t : Taken). nat_lt t.entry.position from) (filter (λ (t : Taken). is_users t.entry.source) ts)))
    (takes_more log (record { event = Decides (Take entry mark); knows = knows }))
    ∙ ap length (ap (filter (λ (t : Taken). nat_lt t.entry.position from))
    (filter_last (λ (t : Taken). is_users t.entry.source) (takes log) t (is_users entry.source) refl) ∙ go (is_users entry.source))
  where
    go : (b : Bool) → filter (λ (t : Taken). nat_lt t.entry.position from) (user_takes log ++ cond b (record { entry = entry; mark = mark } ∷ []) []) ≡ filter
        (λ (t : Taken). nat_lt t.entry.position from) (user_takes log)
    go true = filter_last (λ (t : Taken). nat_lt t.entry.position from) (user_takes log) (record { entry = entry; mark = mark }) false
        (not_below from entry.position below)
        ∙ append-nil (filter (λ (t : Taken). nat_lt t.entry.position from) (user_takes log))
    go false = ap (filter (λ (t : Taken). nat_lt t.entry.position from)) (append-nil (user_takes log))

pub window_taken : (s : Shape) (log : List Logged) (entry : Entry) (mark : Mark) (knows : List ℕ) (from : ℕ)
    → AllByRecursion (λ p. holds_position s entry.position p ≡ false) (placements log)
    → entry.position ≡ taken log → from ≤ taken log
    → window_from s (with_take log entry mark knows) from ≡ record
    (window_from s log from) { entries = (window_from s log from).entries ++ waiting_sector entry ∷ [] }
window_taken s log entry mark knows from none position within =
    let t : Taken = record { entry = entry; mark = mark } in
    let new : List Logged = with_take log entry mark knows in
    let first : first_position new ≡ first_position log =
    ap (λ (b : Option Begun). option_map_or (λ (b : Begun). b.beginning.first) b 0) (begun_same log entry mark knows) in
    let inside : from - first_position log ≤ length (takes log) = omega arith in
    same_window from (users_below new from) (users_below log from)
    (map (held_of s new) (drop (from - first_position new) (takes new)))
    (map (held_of s log) (drop (from - first_position log) (takes log)) ++ waiting_sector entry ∷ [])
    (users_same log entry mark knows from (omega arith))
    (map_same (held_of s new) (held_of s log) (held_same s log new (alike log entry mark knows)) (drop (from - first_position new) (takes new))
    ∙ ap₂ (λ n ts. map (held_of s log) (drop (from - n) ts)) first (takes_more log (record { event = Decides (Take entry mark); knows = knows }))
    ∙ ap (map (held_of s log)) (drop_last (from - first_position log) (takes log) t inside)
    ∙ map_last (held_of s log) (drop (from - first_position log) (takes log)) t
    ∙ ap (λ (h : HeldSector). map (held_of s log) (drop (from - first_position log) (takes log)) ++ h ∷ []) (held_new s log entry mark none))
