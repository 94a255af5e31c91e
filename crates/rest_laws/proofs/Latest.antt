-- A sector's latest entry, or its winner, where it was at an earlier length of the engine's log: an
-- entry of the sector from there on is below the front synced, where its line was freed since or
-- may be freed now.
use Rattle.std.proofs.Common.{◌≡◌, ◌⊎◌, inl, inr, ℕ, ◌+◌, ◌-◌, ◌<◌, ◌≤◌, ◌==◌, zero, suc, true, Some, None, Option, List, ◌++◌, length, take, drop, refl, sym, subst, ap, ◌∙◌, arith}
use Rattle.std.specs.Prelude.{slice_get}
use Rattle.std.specs.List.{Contains}
use Rattle.std.specs.Option.{is_some, option_map_or}
use Rattle.std.proofs.lemmas.Bool.{cases_lt}
use Rattle.std.proofs.lemmas.List.{take-take}
use Rattle.std.proofs.Math.Seq.{take-length}
use Rattle.pblk_model.specs.Contents.{counted, winner}
use Rattle.pblk_model.specs.Image.{Image}
use Rattle.pblk_model.specs.Records.{named}
use Rattle.pblk_model.specs.StartRecord.{start_of}
use Rattle.pblk_laws.proofs.MarkNames.{sector_exactly}
use Rattle.pblk_laws.proofs.Winners.{winner_is_winner}
use Rattle.pblk_world.specs.AtRest.{logs_at}
use Rattle.pblk_world.specs.EngineLog.{AsFound, Begun, bears_position, block_of_taken, has_landed, life_of, Opened, Opening, Placed, placements, Taken, takes}
use Rattle.pblk_world.specs.Events.{Decides, Free, Logged, Source}
use Rattle.pblk_world.specs.Fronts.{first_position, last_take, taken}
use Rattle.pblk_world.specs.Lines.{found_image}
use Rattle.pblk_world.specs.Taking.{IsPlaceOf, IsPlaceOfLatest, IsPlaceOfWinner}
use Rattle.pblk_world.specs.World.{World, log_of}
use Rattle.pblk_world.proofs.EngineLogLemmas.{begun_taken}
use Rattle.pblk_model.proofs.Lists.{IsAmong, among_more}
use Rattle.pblk_model.proofs.Maps.{any_member}
use Rattle.pblk_model.proofs.Parts.{all_at, get_first, take_and_drop}
use Rattle.pblk_model.proofs.Tests.{and_both, same_number}
use Rattle.pblk_world.specs.LegalMounts.{IsLegalMount}
use Rattle.world_laws.proofs.Entries.{marks_bear}
use Rattle.world_laws.proofs.Later.{landed_later, placed_later, placed_within, takes_joined}
use Rattle.world_laws.proofs.Made.{IsMade, log_then, made, own_then}
use Rattle.world_laws.proofs.NextLives.{IsFreedAt, open_or_freed}
use Rattle.world_laws.proofs.Positions.{position_of}
use Rattle.world_laws.proofs.Stripes.{life_of_stripe}
use Rattle.world_laws.proofs.ToldImages.{found_at}
use Rattle.world_laws.proofs.ToldSince.{told_up_to}
use Rattle.world_laws.proofs.WinnerLines.{FirstTurn, NoTurn, TurnAt, counted_has_start, first_turn, none_turns_first, not_opened}
use Rattle.core_laws.proofs.LastTakes.{last_is, last_none}
use Rattle.core_laws.proofs.PlacedAnew.{landed_not_lost}
use Rattle.rest_laws.proofs.LengthLogs.{IsWorldAt, found_then_at, world_at}
use Rattle.rest_laws.proofs.Overtaken.{IsOutlived, IsOvertaken, mount_then, outlived_then, overtaken_later}

-- ---- an entry at its place, in a log that has grown since

at_place : (i : Image) (u : World) (mount : IsLegalMount i u) (xs more : List Logged) → log_of u 0 ≡ xs ++ more → (t : Taken) (p : Placed) (block lba line : ℕ)
    → Contains (placements xs) p → has_landed xs p ≡ true → line ≡ p.stripe.line → life_of (log_of u 0) line ≡ p.life
    → slice_get p.stripe.blocks block ≡ Some (block_of_taken t) → IsAmong (takes (log_of u 0)) t → t.mark.lba ≡ lba → lba < i.shape.capacity
    → IsOutlived i u mount line → IsOvertaken i u lba (suc t.entry.position)
at_place i u mount xs more whole t p block lba line there landed in_line life is_block taken its small out =
    out.entry t p lba (record {
      there = now;
      holds = any_member (bears_position i.shape t.entry.position) p.stripe.blocks block (block_of_taken t) is_block
          (and_both (is_some (named i.shape t.mark)) (t.mark.position == t.entry.position)
          (ap is_some ((sector_exactly i.shape t.mark lba).1 (its, small)))
          (ap (λ n. n == t.entry.position) own ∙ same_number t.entry.position));
      kept = landed_not_lost (log_of u 0) p landed_now;
      stands = ap (life_of (log_of u 0)) (sym in_line) ∙ life;
    }) landed_now (sym in_line) taken its small
  where
    now : Contains (placements (log_of u 0)) p
    now = subst (λ (ys : List Logged). Contains (placements ys) p) (sym whole) (placed_later xs more p there)

    landed_now : has_landed (log_of u 0) p ≡ true
    landed_now = ap (λ (ys : List Logged). has_landed ys p) whole ∙ landed_later xs more p (placed_within xs p there) landed

    own : t.mark.position ≡ t.entry.position
    own = all_at (λ (x : Taken). x.mark.position ≡ x.entry.position) (takes (log_of u 0)) taken.0 t taken.1 (marks_bear i u mount.legal)

-- an entry of a log, of its first events or after them
pub entry_after : (i : Image) (w : World) (a : ℕ) (t : Taken) → IsLegalMount i w → 0 < a → IsAmong (takes (log_of w 0)) t
    → IsAmong (takes (take a (log_of w 0))) t ⊎ (taken (take a (log_of w 0)) ≤ t.entry.position)
entry_after i w a t mount some at = go (cases_lt at.0 (length (takes (take a log))))
  where
    log : List Logged
    log = log_of w 0

    both : takes (take a (log_of w 0)) ++ takes (drop a (log_of w 0)) ≡ takes (log_of w 0)
    both = sym (takes_joined (take a log) (drop a log)) ∙ ap takes (take_and_drop a log)

    go : (at.0 < length (takes (take a (log_of w 0)))) ⊎ (length (takes (take a (log_of w 0))) ≤ at.0)
        → IsAmong (takes (take a (log_of w 0))) t ⊎ (taken (take a (log_of w 0)) ≤ t.entry.position)
    go (inl before) = inl (
      at.0,
      sym (get_first (takes (take a log)) (takes (drop a log)) at.0 before) ∙ ap (λ (ts : List Taken). slice_get ts at.0) both ∙ at.1,
    )
    go (inr after) =
        let position : t.entry.position ≡ first_position log + at.0 = position_of i w at.0 t mount.legal at.1 in
        let first : first_position (take a log) ≡ first_position log =
        ap (λ o. option_map_or (λ (b : Begun). b.beginning.first) o 0) (begun_taken a log some) in
        inr (omega arith)

module _ (i : Image) (w : World) (mount : IsLegalMount i w) (a lba : ℕ) (source : Source) (some : 0 < a) (within : a ≤ length (log_of w 0))
    (small : lba < i.shape.capacity)
    (dead : life_of (log_of w 0) source.line ≡ life_of (take a (log_of w 0)) source.line → IsOutlived i w mount source.line) where
  abbrev log : List Logged
  log = log_of w 0

  abbrev then_ : List Logged
  then_ = take a (log_of w 0)

  v : IsWorldAt i w a
  v = world_at i w a mount.legal within

  rest : take a (log_of w 0) ++ drop a (log_of w 0) ≡ log_of w 0
  rest = take_and_drop a log

  in_all : (t : Taken) → IsAmong (takes (take a (log_of w 0))) t → IsAmong (takes (log_of w 0)) t
  in_all t at = subst (λ (ts : List Taken). IsAmong ts t) (sym (takes_joined then_ (drop a log)) ∙ ap takes rest)
      (among_more (takes then_) (takes (drop a log)) t at)

  -- no entry of the sector is in those first events from a position on
  from_then : (from : ℕ) → ((u : Taken) → IsAmong (takes (take a (log_of w 0))) u → u.mark.lba ≡ lba → u.entry.position < from)
      → IsOvertaken i w lba from → IsOvertaken i w lba (taken (take a (log_of w 0)))
  from_then from none h = go (entry_after i w a h.t mount some h.there)
    where
      go : IsAmong (takes (take a (log_of w 0))) h.t ⊎ (taken (take a (log_of w 0)) ≤ h.t.entry.position)
          → IsOvertaken i w lba (taken (take a (log_of w 0)))
      go (inl before) =
          let low : h.t.entry.position < from = none h.t before h.of_it in
          let high : from ≤ h.t.entry.position = h.least in
          absurd (omega arith)
      go (inr after) = record { t = h.t; there = h.there; of_it = h.of_it; least = after; below = h.below }

  -- ---- an entry

  module _ (t : Taken) (its : IsPlaceOf i (logs_at a (log_of w)) t source) (last : last_take (take a (log_of w 0)) lba ≡ Some t) where
    t_is : IsAmong (takes (log_of v.world 0)) t × (t.mark.lba ≡ lba)
        × ((u : Taken) → IsAmong (takes (log_of v.world 0)) u → u.mark.lba ≡ lba → u.entry.position ≤ t.entry.position)
    t_is = last_is i v.world v.legal lba t (ap (λ (xs : List Logged). last_take xs lba) v.own ∙ last)

    taken_then : IsAmong (takes (take a (log_of w 0))) t
    taken_then = subst (λ (xs : List Logged). IsAmong (takes xs) t) v.own t_is.0

    greatest : (u : Taken) → IsAmong (takes (take a (log_of w 0))) u → u.mark.lba ≡ lba → u.entry.position < suc t.entry.position
    greatest u at of_it =
        let most : u.entry.position ≤ t.entry.position =
        t_is.2 u (subst (λ (xs : List Logged). IsAmong (takes xs) u) (sym v.own) at) of_it in
        omega arith

    there_now : Contains (placements (log_of w 0)) its.placed
    there_now = subst (λ (ys : List Logged). Contains (placements ys) its.placed) rest (placed_later then_ (drop a log) its.placed its.is_placed)

    life : (o : Opening) × (its.placed.life ≡ Opened o) × (life_of (take its.placed.number (log_of w 0)) its.placed.stripe.line ≡ Opened o)
    life = life_of_stripe i w its.placed mount.legal there_now

    was_open : life_of (take a (log_of w 0)) source.line ≡ Opened life.0
    was_open = its.not_freed ∙ life.1

    -- the line was freed at a later length
    freed_since : IsFreedAt i w mount.legal source.line life.0 a (a + (length (log_of w 0) - a)) → IsOvertaken i w lba (suc t.entry.position)
    freed_since f =
        let h : IsMade i w 0 f.number f.logged = made i w 0 f.number f.logged mount.legal f.decided.there in
        let own : log_of h.before 0 ≡ take f.number log = own_then i w 0 f.number f.logged h in
        let first : a ≤ f.number = f.first in
        let parts : log_of h.before 0 ≡ take a log ++ drop a (take f.number log) =
        own ∙ sym (take_and_drop a (take f.number log)) ∙ ap (λ (xs : List Logged). xs ++ drop a (take f.number log)) (take-take a f.number log first) in
        let more = log_then i w 0 f.number f.logged h 0 in
        overtaken_later i h.before w more.0 lba (suc t.entry.position) more.1
        (at_place i h.before (mount_then i w f.number f.logged mount h) then_ (drop a (take f.number log)) parts
        t its.placed its.block lba source.line its.is_placed its.landed its.line
        (ap (λ (xs : List Logged). life_of xs source.line) own ∙ f.was ∙ sym life.1) its.entry
        (subst (λ (ts : List Taken). IsAmong ts t) (sym (takes_joined then_ (drop a (take f.number log))) ∙ ap takes (sym parts))
        (among_more (takes then_) (takes (drop a (take f.number log))) t taken_then))
        t_is.1 small (outlived_then i w f.number source.line f.logged mount h f.decided.event))

    stands : life_of (take (a + (length (log_of w 0) - a)) (log_of w 0)) source.line ≡ Opened life.0 → IsOvertaken i w lba (suc t.entry.position)
    stands is =
        let far : a + (length log - a) ≡ length log = omega arith in
        let now : life_of log source.line ≡ Opened life.0 =
        ap (λ (xs : List Logged). life_of xs source.line) (sym (take-length log) ∙ ap (λ n. take n log) (sym far)) ∙ is in
        at_place i w mount then_ (drop a log) (sym rest) t its.placed its.block lba source.line its.is_placed its.landed its.line
        (now ∙ sym life.1) its.entry (in_all t taken_then) t_is.1 small (dead (now ∙ sym was_open))

    entry_after_all : IsOvertaken i w lba (taken (take a (log_of w 0)))
    entry_after_all = from_then (suc t.entry.position) greatest
        (go (open_or_freed i w mount.legal source.line a (length log - a) life.0 (omega arith) was_open))
      where
        go : (life_of (take (a + (length (log_of w 0) - a)) (log_of w 0)) source.line ≡ Opened life.0)
            ⊎ IsFreedAt i w mount.legal source.line life.0 a (a + (length (log_of w 0) - a)) → IsOvertaken i w lba (suc t.entry.position)
        go (inl is) = stands is
        go (inr f) = freed_since f

  -- ---- a winner

  module _ (its : IsPlaceOfWinner i (logs_at a (log_of w)) lba source) (last : last_take (take a (log_of w 0)) lba ≡ None) where
    wins : winner (counted (found_image i (log_of w))) lba ≡ Some its.winning
    wins = ap (λ (j : Image). winner (counted j) lba) (sym (found_then_at i w a mount.legal some within)) ∙ its.is_winner

    none : (u : Taken) → IsAmong (takes (take a (log_of w 0))) u → u.mark.lba ≡ lba → u.entry.position < 0
    none u at of_it = absurd (last_none i v.world v.legal lba (ap (λ (xs : List Logged). last_take xs lba) v.own ∙ last) u
        (subst (λ (xs : List Logged). IsAmong (takes xs) u) (sym v.own) at) of_it)

    winner_now : life_of (log_of w 0) source.line ≡ AsFound → IsOvertaken i w lba 0
    winner_now found = (dead (found ∙ sym its.not_freed)).winner lba its.winning wins (sym its.line) found small

    winner_freed : (k : ℕ) (l : Logged) → slice_get (log_of w 0) (suc k) ≡ Some l → life_of (take (suc k) (log_of w 0)) source.line ≡ AsFound
        → l.event ≡ Decides (Free source.line) → IsOvertaken i w lba 0
    winner_freed k l at was frees =
        let h : IsMade i w 0 (suc k) l = made i w 0 (suc k) l mount.legal at in
        let own : log_of h.before 0 ≡ take (suc k) log = own_then i w 0 (suc k) l h in
        let found : found_image i (log_of w) ≡ found_image i (log_of h.before) =
        sym (found_at i (log_of w) (suc k) (omega arith)) ∙ (told_up_to i w (suc k) l h).found in
        let more = log_then i w 0 (suc k) l h 0 in
        overtaken_later i h.before w more.0 lba 0 more.1
        ((outlived_then i w (suc k) source.line l mount h frees).winner lba its.winning (ap (λ (j : Image). winner (counted j) lba) (sym found) ∙ wins)
        (sym its.line) (ap (λ (xs : List Logged). life_of xs source.line) own ∙ was) small)

    winner_after_all : IsOvertaken i w lba (taken (take a (log_of w 0)))
    winner_after_all = from_then 0 none (go (first_turn source.line log))
      where
        go : FirstTurn (log_of w 0) source.line → IsOvertaken i w lba 0
        go (NoTurn found) = winner_now found
        go (TurnAt zero l at was is) = absurd (none_turns_first i w source.line l mount.legal at is)
        go (TurnAt (suc k) l at was (inl opens)) =
            let there = (winner_is_winner (found_image i (log_of w)) lba its.winning wins).there in
            absurd (not_opened i w k source.line l opens.0 mount.legal
            (subst (λ n. is_some (start_of (found_image i (log_of w)) n) ≡ true) (sym its.line)
            (counted_has_start (found_image i (log_of w)) its.winning there)) at opens.1 was)
        go (TurnAt (suc k) l at was (inr frees)) = winner_freed k l at was frees

  -- what was the latest there has been overtaken since
  pub overtaken_since : IsPlaceOfLatest i (logs_at a (log_of w)) lba source (last_take (take a (log_of w 0)) lba)
      → IsOvertaken i w lba (taken (take a (log_of w 0)))
  overtaken_since place = go (last_take then_ lba) refl place
    where
      go : (o : Option Taken) → last_take (take a (log_of w 0)) lba ≡ o → IsPlaceOfLatest i (logs_at a (log_of w)) lba source o
          → IsOvertaken i w lba (taken (take a (log_of w 0)))
      go None last its = winner_after_all its last
      go (Some t) last its = entry_after_all t its last
