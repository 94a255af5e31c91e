-- An event that answers no stripe and takes no entry leaves the window and the map as they were.
use Rattle.std.proofs.Common.{◌≡◌, ℕ, ◌+◌, ◌*◌, ◌-◌, ◌==◌, ◌&&◌, ◌||◌, nat_lt, Bool, false, cond, Some, None, List, [], ◌∷◌, ◌++◌, length, drop, refl, ap, ap₂, ◌∙◌, append-nil}
use Rattle.std.specs.Prelude.{map}
use Rattle.std.specs.List.{AllByRecursion, filter, find, list_any, enumerate_from}
use Rattle.std.proofs.lemmas.List.Elements.{filter-append}
use Rattle.pblk_model.specs.declared.shape.Shape.{Shape}
use Rattle.pblk_model.specs.Chunk.{Block}
use Rattle.pblk_world.specs.Events.{Logged}
use Rattle.pblk_world.specs.EngineLog.{LineLife, AsFound, Opened, Freed, is_life, Opening, Taken, takes, Placed, placements, stripes_on, answer_of, is_land, is_loss, has_landed, was_lost, bears_position, holds_position}
use Rattle.pblk_world.specs.Fronts.{first_position, has_landed_at, is_users}
use Rattle.pblk_world.specs.Space.{landed_blocks, is_readable_in, gives_back}
use Rattle.core_laws.specs.WindowOf.{class_of, source_of, is_given_back, progress_by, held_of, users_below, window_from}
use Rattle.core_laws.proofs.TakenSlots.{any_same}
use Rattle.core_laws.proofs.WindowOfLemmas.{same_window}
use Rattle.pblk_model.proofs.Lists.{all_imply}
use Rattle.pblk_model.proofs.Maps.{all_filter, any_fail, filter_agree, filter_none, find_none, map_same}

-- ---- lists with more elements that fail

pub any_kept : {X : Type 0} (f g : X → Bool) (xs more : List X) → AllByRecursion (λ x. f x ≡ g x) xs → AllByRecursion (λ x. f x ≡ false) more
    → list_any f (xs ++ more) ≡ list_any g xs
any_kept f g [] more all none = any_fail f more none
any_kept f g (x ∷ xs) more all none = ap₂ (λ a b. a || b) all.0 (any_kept f g xs more all.1 none)

pub find_kept : {X : Type 0} (f g : X → Bool) (xs more : List X) → AllByRecursion (λ x. f x ≡ g x) xs → AllByRecursion (λ x. f x ≡ false) more
    → find f (xs ++ more) ≡ find g xs
find_kept f g [] more all none = find_none f more none
find_kept f g (x ∷ xs) more all none = ap₂ (λ b o. cond b (Some x) o) all.0 (find_kept f g xs more all.1 none)

filter_kept : {X : Type 0} (f g : X → Bool) (xs more : List X) → AllByRecursion (λ x. f x ≡ g x) xs → AllByRecursion (λ x. f x ≡ false) more
    → filter f (xs ++ more) ≡ filter g xs
filter_kept f g xs more all none =
    filter-append f xs more ∙ ap₂ (λ a b. a ++ b) (filter_agree (λ x. f x ≡ g x) f g (λ x e. e) xs all) (filter_none f more none) ∙ append-nil (filter g xs)

-- ---- the stripes

-- the stripes are answered as before, and there may be more of them, unanswered
pub record AreKept (log new : List Logged) : Type 0 where
  pub more : List Placed
  pub stripes : placements new ≡ placements log ++ more
  pub answered : AllByRecursion (λ r. answer_of new r ≡ answer_of log r) (placements log)
  pub none : AllByRecursion (λ r. answer_of new r ≡ None) more

of_opening : Opening → ℕ → List Placed → List Placed
of_opening o unit ps = filter (λ (p : Placed). p.stripe.unit == unit) (filter (λ (p : Placed). is_life o.number p.life) ps)

split_more : (o : Opening) (unit : ℕ) (xs ys : List Placed) → of_opening o unit (xs ++ ys) ≡ of_opening o unit xs ++ of_opening o unit ys
unfolding of_opening
split_more o unit xs ys =
    ap (filter (λ (p : Placed). p.stripe.unit == unit)) (filter-append (λ (p : Placed). is_life o.number p.life) xs ys)
    ∙ filter-append (λ (p : Placed). p.stripe.unit == unit) (filter (λ (p : Placed). is_life o.number p.life) xs)
    (filter (λ (p : Placed). is_life o.number p.life) ys)

stays_all : (P : Placed → Type 0) (o : Opening) (unit : ℕ) (ps : List Placed) → AllByRecursion P ps → AllByRecursion P (of_opening o unit ps)
unfolding of_opening
stays_all P o unit ps all = all_filter P (λ (p : Placed). p.stripe.unit == unit) (filter (λ (p : Placed). is_life o.number p.life) ps)
    (all_filter P (λ (p : Placed). is_life o.number p.life) ps all)

on_kept : (log new : List Logged) → (kept : AreKept log new) → (o : Opening) (unit : ℕ)
    → stripes_on new o unit ≡ stripes_on log o unit ++ of_opening o unit kept.more
unfolding of_opening
on_kept log new kept o unit = ap (of_opening o unit) kept.stripes ∙ split_more o unit (placements log) kept.more

pub blocks_kept : (s : Shape) (log new : List Logged) → AreKept log new → (o : Opening) (unit : ℕ) → landed_blocks s new o unit ≡ landed_blocks s log o unit
unfolding of_opening
blocks_kept s log new kept o unit =
    ap (λ (ps : List Placed). length (filter (has_landed new) ps) * s.ws_opt) (on_kept log new kept o unit)
    ∙ ap (λ (ps : List Placed). length ps * s.ws_opt) (filter_kept (has_landed new) (has_landed log) (stripes_on log o unit) (of_opening o unit kept.more)
    (stays_all (λ r. has_landed new r ≡ has_landed log r) o unit (placements log)
    (all_imply (λ (r : Placed). answer_of new r ≡ answer_of log r) (λ (r : Placed). has_landed new r ≡ has_landed log r) (λ r e. ap is_land e)
    (placements log) kept.answered))
    (stays_all (λ r. has_landed new r ≡ false) o unit kept.more
    (all_imply (λ (r : Placed). answer_of new r ≡ None) (λ (r : Placed). has_landed new r ≡ false) (λ r e. ap is_land e) kept.more kept.none)))

lost_kept : (log new : List Logged) → AreKept log new → (o : Opening) (unit : ℕ)
    → list_any (was_lost new) (stripes_on new o unit) ≡ list_any (was_lost log) (stripes_on log o unit)
unfolding of_opening
lost_kept log new kept o unit =
    ap (list_any (was_lost new)) (on_kept log new kept o unit)
    ∙ any_kept (was_lost new) (was_lost log) (stripes_on log o unit) (of_opening o unit kept.more)
    (stays_all (λ r. was_lost new r ≡ was_lost log r) o unit (placements log)
    (all_imply (λ (r : Placed). answer_of new r ≡ answer_of log r) (λ (r : Placed). was_lost new r ≡ was_lost log r) (λ r e. ap is_loss e)
    (placements log) kept.answered))
    (stays_all (λ r. was_lost new r ≡ false) o unit kept.more
    (all_imply (λ (r : Placed). answer_of new r ≡ None) (λ (r : Placed). was_lost new r ≡ false) (λ r e. ap is_loss e) kept.more kept.none))

pub readable_kept : (s : Shape) (log new : List Logged) → AreKept log new → (unit block : ℕ) (life : LineLife)
    → is_readable_in s new unit block life ≡ is_readable_in s log unit block life
readable_kept s log new kept unit block AsFound = refl
readable_kept s log new kept unit block (Opened o) =
    ap₂ (λ a n. (a || (n == s.clba)) || nat_lt (block + s.mw_cunits) n) (lost_kept log new kept o unit) (blocks_kept s log new kept o unit)
readable_kept s log new kept unit block (Freed past k) = refl

-- ---- positions

landed_at_kept : (s : Shape) (log new : List Logged) → AreKept log new → (position : ℕ) → has_landed_at s new position ≡ has_landed_at s log position
landed_at_kept s log new kept position =
    ap (λ ps. list_any (λ r. has_landed new r && holds_position s position r) ps) kept.stripes
    ∙ any_kept (λ r. has_landed new r && holds_position s position r) (λ r. has_landed log r && holds_position s position r) (placements log) kept.more
    (all_imply (λ (r : Placed). answer_of new r ≡ answer_of log r)
    (λ (r : Placed). (has_landed new r && holds_position s position r) ≡ (has_landed log r && holds_position s position r))
    (λ r e. ap (λ a. is_land a && holds_position s position r) e) (placements log) kept.answered)
    (all_imply (λ (r : Placed). answer_of new r ≡ None) (λ (r : Placed). (has_landed new r && holds_position s position r) ≡ false)
    (λ r e. ap (λ a. is_land a && holds_position s position r) e) kept.more kept.none)

gives_kept : (s : Shape) (log new : List Logged) → AreKept log new → (position : ℕ) (r : Placed) → answer_of new r ≡ answer_of log r
    → gives_back s new position r ≡ gives_back s log position r
gives_kept s log new kept position r e = ap₂ (λ a b. is_land a && b) e
    (any_same (λ (b : ℕ × Block). bears_position s position b.1 && is_readable_in s new r.stripe.unit b.0 r.life)
    (λ (b : ℕ × Block). bears_position s position b.1 && is_readable_in s log r.stripe.unit b.0 r.life)
    (λ b. ap (λ c. bears_position s position b.1 && c) (readable_kept s log new kept r.stripe.unit b.0 r.life)) (enumerate_from r.stripe.at r.stripe.blocks))

pub all_give_kept : (s : Shape) (log new : List Logged) → AreKept log new → (position : ℕ)
    → AllByRecursion (λ r. gives_back s new position r ≡ gives_back s log position r) (placements log)
all_give_kept s log new kept position =
    all_imply (λ (r : Placed). answer_of new r ≡ answer_of log r) (λ (r : Placed). gives_back s new position r ≡ gives_back s log position r)
    (gives_kept s log new kept position) (placements log) kept.answered

pub none_gives : (s : Shape) (log new : List Logged) → (kept : AreKept log new) → (position : ℕ)
    → AllByRecursion (λ r. gives_back s new position r ≡ false) kept.more
none_gives s log new kept position = all_imply (λ (r : Placed). answer_of new r ≡ None) (λ (r : Placed). gives_back s new position r ≡ false)
    (λ r e. ap (λ a. is_land a && list_any (λ (b : ℕ × Block). bears_position s position b.1 && is_readable_in s new r.stripe.unit b.0 r.life)
    (enumerate_from r.stripe.at r.stripe.blocks)) e) kept.more kept.none

pub given_kept : (s : Shape) (log new : List Logged) → AreKept log new → (position : ℕ) → is_given_back s new position ≡ is_given_back s log position
given_kept s log new kept position =
    ap (list_any (gives_back s new position)) kept.stripes
    ∙ any_kept (gives_back s new position) (gives_back s log position) (placements log) kept.more (all_give_kept s log new kept position)
    (none_gives s log new kept position)

-- ---- the window

-- by what it reads of an entry's progress
pub held_by : (s : Shape) (log new : List Logged) (t : Taken) → has_landed_at s new t.entry.position ≡ has_landed_at s log t.entry.position
    → is_given_back s new t.entry.position ≡ is_given_back s log t.entry.position
    → held_of s new t ≡ held_of s log t
held_by s log new t landed given = ap₂ (λ a b. record {
  position = t.entry.position;
  class = class_of t.entry.source;
  lba = t.entry.lba;
  source = source_of t.entry.source;
  sector = t.entry.sector;
  progress = progress_by a b;
}) landed given

pub window_kept : (s : Shape) (log new : List Logged) (from : ℕ) → AreKept log new → takes new ≡ takes log → first_position new ≡ first_position log
    → window_from s new from ≡ window_from s log from
window_kept s log new from kept same first = same_window from (users_below new from) (users_below log from)
    (map (held_of s new) (drop (from - first_position new) (takes new))) (map (held_of s log) (drop (from - first_position log) (takes log)))
    (ap (λ (ts : List Taken). length (filter (λ (t : Taken). nat_lt t.entry.position from) (filter (λ (t : Taken). is_users t.entry.source) ts))) same)
    (map_same (held_of s new) (held_of s log)
    (λ t. held_by s log new t (landed_at_kept s log new kept t.entry.position) (given_kept s log new kept t.entry.position))
    (drop (from - first_position new) (takes new))
    ∙ ap₂ (λ n (ts : List Taken). map (held_of s log) (drop (from - n) ts)) first same)
