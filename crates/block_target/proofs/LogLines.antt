-- The users' entries of an engine's log as lines of the history, and the fronts there.
use Rattle.std.proofs.Common.{◌≡◌, ℕ, ◌+◌, ◌<◌, ◌≤◌, nat_lt, suc, Some, Bool, true, false, cond, List, [], ◌∷◌, ◌++◌, length, refl, sym, ap, subst, ◌∙◌, arith, length-append}
use Rattle.std.specs.Prelude.{map, slice_get}
use Rattle.std.specs.List.{filter}
use Rattle.std.proofs.lemmas.List.{map-append}
use Rattle.std.proofs.lemmas.Option.{slice_get_within}
use mathlib.Core.List.{IsPrefix}
use Rattle.pblk_model.specs.declared.shape.Shape.{Shape}
use Rattle.pblk_model.specs.History.{users}
use Rattle.pblk_model.proofs.Maps.{filter_both}
use Rattle.pblk_model.proofs.Parts.{get_first}
use Rattle.pblk_model.proofs.Tests.{lt_true}
use Rattle.pblk_world.specs.EngineLog.{Begun, Taken, begun, takes}
use Rattle.pblk_world.specs.Events.{Logged}
use Rattle.pblk_world.specs.Fronts.{first_position, is_users, synced, taken, user_takes}
use Rattle.core_laws.specs.Positions.{AreNumbered}
use Rattle.core_laws.specs.WindowOf.{users_below}
use Rattle.pblk_core.proofs.WaitingEntries.{numbered_at}
use Rattle.block_port.specs.Own.{PlacedSector}
use Rattle.block_port.specs.Port.{Rise, positions}
use Rattle.block_port.proofs.PlacedLines.{rise_from}
use Rattle.world_laws.proofs.Later.{takes_joined}
use Rattle.world_laws.proofs.Fronts.{synced_later}
use Rattle.world_laws.proofs.Positions.{first_same}
use Rattle.block_target.specs.Sessions.{history_lines, line_of}

-- ---- a longer log

-- with one entry more before them
rise_one : (t : Taken) (ts : List Taken) (from to : ℕ) → t.entry.position ≡ from → Rise (from + 1) to (map line_of (filter (λ t. is_users t.entry.source) ts))
    → Rise from to (map line_of (filter (λ t. is_users t.entry.source) (t ∷ ts)))
rise_one t ts from to here rest = go (is_users t.entry.source)
  where
    go : (b : Bool) → Rise from to (map line_of (cond b (t ∷ filter (λ t. is_users t.entry.source) ts) (filter (λ t. is_users t.entry.source) ts)))
    go true = (
      omega (arith, here),
      subst (λ n. Rise (n + 1) to (map line_of (filter (λ t. is_users t.entry.source) ts))) (sym here) rest,
    )
    go false = rise_from from (from + 1) to (map line_of (filter (λ t. is_users t.entry.source) ts)) (omega arith) rest

rise_lines : (ts : List Taken) (from : ℕ) → ((k : ℕ) (t : Taken) → slice_get ts k ≡ Some t → t.entry.position ≡ from + k)
    → Rise from (from + length ts) (map line_of (filter (λ t. is_users t.entry.source) ts))
rise_lines [] from at = omega arith
rise_lines (t ∷ ts) from at =
    let to : from + 1 + length ts ≡ from + length (t ∷ ts) = omega arith in
    let none : from + 0 ≡ from = omega arith in
    rise_one t ts from (from + length (t ∷ ts)) (at 0 t refl ∙ none)
    (subst (λ n. Rise (from + 1) n (map line_of (filter (λ t. is_users t.entry.source) ts))) to
    (rise_lines ts (from + 1) (λ k u there. at (suc k) u there ∙ (let e : from + suc k ≡ from + 1 + k = omega arith in e))))

lines_both : (a b : List Logged) → history_lines (a ++ b) ≡ history_lines a ++ history_lines b
lines_both a b =
    ap (λ (ts : List Taken). map line_of (filter (λ t. is_users t.entry.source) ts)) (takes_joined a b)
    ∙ ap (map line_of) (filter_both (λ (t : Taken). is_users t.entry.source) (takes a) (takes b))
    ∙ map-append line_of (user_takes a) (user_takes b)

get_behind : {X : Type 0} (xs ys : List X) (k : ℕ) (x : X) → slice_get ys k ≡ Some x → slice_get (xs ++ ys) (length xs + k) ≡ Some x
get_behind [] ys k x there = let e : 0 + k ≡ k = omega arith in ap (slice_get ys) e ∙ there
get_behind (y ∷ xs) ys k x there =
    let e : length (y ∷ xs) + k ≡ suc (length xs + k) = omega arith in
    ap (slice_get (y ∷ xs ++ ys)) e ∙ get_behind xs ys k x there

-- the lines that come behind, and those before
pub record IsMore (early late : List Logged) : Type 0 where
  pub before : Rise (first_position early) (taken early) (history_lines early)
  pub more : List PlacedSector
  pub lines : history_lines late ≡ history_lines early ++ more
  pub rise : Rise (taken early) (taken late) more

pub more_lines : (early late : List Logged) (first : Begun) → IsPrefix early late → begun early ≡ Some first → AreNumbered late → IsMore early late
more_lines early late first is begins numbered = record {
  before = rise_lines (takes early) (first_position early) at_first;
  more = history_lines is.0;
  lines = ap history_lines (sym is.1) ∙ lines_both early is.0;
  rise = subst (λ n. Rise (taken early) n (history_lines is.0)) to (rise_lines (takes is.0) (taken early) at);
}
  where
    start : first_position late ≡ first_position early
    start = ap first_position (sym is.1) ∙ first_same early is.0 first begins

    both : takes late ≡ takes early ++ takes is.0
    both = ap takes (sym is.1) ∙ takes_joined early is.0

    long : length (takes late) ≡ length (takes early) + length (takes is.0)
    long = ap length both ∙ length-append (takes early) (takes is.0)

    to : taken early + length (takes is.0) ≡ taken late
    to = omega (arith, start, long)

    at_first : (k : ℕ) (t : Taken) → slice_get (takes early) k ≡ Some t → t.entry.position ≡ first_position early + k
    at_first k t there =
        let within : k < length (takes early) = slice_get_within (takes early) k t there in
        let is_at : t.entry.position ≡ first_position late + k =
        numbered_at late k t numbered
        (ap (λ (ts : List Taken). slice_get ts k) both ∙ get_first (takes early) (takes is.0) k within ∙ there) in
        omega (arith, start, is_at)

    at : (k : ℕ) (t : Taken) → slice_get (takes is.0) k ≡ Some t → t.entry.position ≡ taken early + k
    at k t there =
        let is_at : t.entry.position ≡ first_position late + (length (takes early) + k) =
        numbered_at late (length (takes early) + k) t numbered
        (ap (λ (ts : List Taken). slice_get ts (length (takes early) + k)) both ∙ get_behind (takes early) (takes is.0) k t there) in
        omega (arith, start, is_at)

pub synced_prefix : (s : Shape) (early late : List Logged) → IsPrefix early late → synced s early ≤ synced s late
synced_prefix s early late is = subst (λ (log : List Logged). synced s early ≤ synced s log) is.1 (synced_later s early is.0)

-- ---- the fronts

pub positions_placed : (ts : List Taken) → positions (map line_of ts) ≡ map (λ t. t.entry.position) ts
positions_placed [] = refl
positions_placed (t ∷ ts) = ap (λ ps. t.entry.position ∷ ps) (positions_placed ts)

below_same : (n : ℕ) (ts : List Taken) → users (map (λ t. t.entry.position) ts) n ≡ length (filter (λ t. nat_lt t.entry.position n) ts)
below_same n [] = refl
below_same n (t ∷ ts) = go (below_same n ts) (nat_lt t.entry.position n)
  where
    go : users (map (λ t. t.entry.position) ts) n ≡ length (filter (λ t. nat_lt t.entry.position n) ts) → (b : Bool)
        → length (cond b (t.entry.position ∷ filter (λ q. nat_lt q n) (map (λ t. t.entry.position) ts))
        (filter (λ q. nat_lt q n) (map (λ t. t.entry.position) ts)))
        ≡ length (cond b (t ∷ filter (λ t. nat_lt t.entry.position n) ts) (filter (λ t. nat_lt t.entry.position n) ts))
    go rest true = ap (λ k. suc k) rest
    go rest false = rest

-- so many lines stand below a position
pub users_counted : (log : List Logged) (n : ℕ) → users (positions (history_lines log)) n ≡ users_below log n
users_counted log n = ap (λ ps. users ps n) (positions_placed (user_takes log)) ∙ below_same n (user_takes log)

-- users' entries that are all below a position
all_pass : (n : ℕ) (ts : List Taken) → ((k : ℕ) (t : Taken) → slice_get ts k ≡ Some t → t.entry.position < n)
    → length (filter (λ t. nat_lt t.entry.position n) (filter (λ t. is_users t.entry.source) ts)) ≡ length (filter (λ t. is_users t.entry.source) ts)
all_pass n [] low = refl
all_pass n (t ∷ ts) low = go (is_users t.entry.source) (all_pass n ts (λ k u there. low (suc k) u there))
  where
    here : nat_lt t.entry.position n ≡ true
    here = lt_true t.entry.position n (low 0 t refl)

    go : (b : Bool) → length (filter (λ t. nat_lt t.entry.position n) (filter (λ t. is_users t.entry.source) ts)) ≡ length
        (filter (λ t. is_users t.entry.source) ts)
        → length (filter (λ t. nat_lt t.entry.position n) (cond b (t ∷ filter (λ t. is_users t.entry.source) ts) (filter (λ t. is_users t.entry.source) ts))) ≡
        length (cond b (t ∷ filter (λ t. is_users t.entry.source) ts) (filter (λ t. is_users t.entry.source) ts))
    go true rest = ap (λ c. length
        (cond c (t ∷ filter (λ t. nat_lt t.entry.position n) (filter (λ t. is_users t.entry.source) ts))
        (filter (λ t. nat_lt t.entry.position n) (filter (λ t. is_users t.entry.source) ts)))) here ∙ ap (λ k. suc k) rest
    go false rest = rest

-- all lines are below the front taken
pub users_taken : (log : List Logged) → AreNumbered log → users (positions (history_lines log)) (taken log) ≡ length (user_takes log)
users_taken log numbered = users_counted log (taken log) ∙ all_pass (taken log) (takes log) within
  where
    within : (k : ℕ) (t : Taken) → slice_get (takes log) k ≡ Some t → t.entry.position < taken log
    within k t there =
        let at : t.entry.position ≡ first_position log + k = numbered_at log k t numbered there in
        let low : k < length (takes log) = slice_get_within (takes log) k t there in
        omega arith
