-- Where the victim at work is freed, once no user's entry is taken any more: each copy that was
-- begun since then is placed.
use Rattle.std.proofs.Common.{◌≡◌, ◌⊎◌, inl, inr, ℕ, ◌+◌, ◌<◌, ◌≤◌, Some, List, length, take, sym, subst, ap, ◌∙◌, arith}
use Rattle.std.specs.Prelude.{slice_get}
use Rattle.std.specs.List.{Contains}
use Rattle.std.proofs.lemmas.Bool.{cases_lt}
use Rattle.std.proofs.lemmas.List.{take-take}
use Rattle.pblk_model.specs.declared.chunk.Mark.{Mark}
use Rattle.pblk_model.specs.Image.{Image}
use Rattle.pblk_world.specs.EngineLog.{Taken, takes}
use Rattle.pblk_world.specs.Events.{Decides, Entry, Free, Logged}
use Rattle.pblk_world.specs.Fronts.{last_take, synced, taken}
use Rattle.pblk_world.specs.AtRest.{IsCopyDue, logs_at}
use Rattle.pblk_world.specs.Taking.{IsPlaceOfLatest}
use Rattle.pblk_world.specs.Reasons.{WasBegun, WasRoom}
use Rattle.pblk_world.specs.Space.{placed_front, room}
use Rattle.pblk_world.specs.Victims.{victim}
use Rattle.pblk_world.specs.World.{World, Logs, log_of}
use Rattle.pblk_model.proofs.Parts.{get_taken}
use Rattle.pblk_world.specs.LegalMounts.{IsLegalMount, NoStripeLost}
use Rattle.rest_laws.specs.Copies.{TookCopy}
use Rattle.rest_laws.specs.RoomRuns.{AreBegunAt}
use Rattle.rest_laws.proofs.BegunInTurn.{alone, at_is, may, position_is, some, turn, within}
use Rattle.rest_laws.proofs.FreedVictims.{emptied_then, long, low}
use Rattle.rest_laws.proofs.LengthLogs.{IsWorldAt, logs_same, taken_rises, world_at}
use Rattle.rest_laws.proofs.OneCopy.{overtaken_exists, synced_within_placed}
use Rattle.rest_laws.proofs.VictimStripes.{mount_at}
use Rattle.settle_laws.specs.Quiet.{IsQuietFrom}
use Rattle.settle_laws.proofs.Takes.{IsTakenWhen, begun_since, copied, position, taken_when}

module _ (i : Image) (w : World) (mount : IsLegalMount i w) (none_lost : NoStripeLost (log_of w 0)) (n : ℕ) (l : Logged)
    (there : slice_get (log_of w 0) n ≡ Some l) (line : ℕ) (here : victim i (log_of w) n ≡ Some line) (frees : l.event ≡ Decides (Free line)) where
  abbrev log : List Logged
  log = log_of w 0

  abbrev below : n ≤ length (log_of w 0)
  below = low i w mount none_lost n l there line here frees

  -- the world at that length, in which the victim is emptied
  abbrev v : IsWorldAt i w n
  v = world_at i w n mount.legal (low i w mount none_lost n l there line here frees)

  -- ---- a copy that was begun by then

  module _ (from : ℕ) (first : 0 < from) (quiet : IsQuietFrom (log_of w) from) (at : ℕ → ℕ) (turns : AreBegunAt i (log_of w) at)
      (m : ℕ) (entry : Entry) (mark : Mark) (took : TookCopy (log_of w 0) m entry mark) (past : taken (take from (log_of w 0)) < entry.position)
      (begun : at m ≤ n) where
    since : (from ≤ at m) × (from ≤ m)
    since = begun_since i w mount from quiet at turns m entry mark took first past

    abbrev b : WasBegun i (log_of w) m entry.lba took.source
    b = (turn i w mount at turns m entry mark took).begun

    b_at : (turn i w mount at turns m entry mark took).begun.at ≡ at m
    b_at = at_is i w mount at turns m entry mark took

    -- it was begun in the world at that length
    due_there : (d : IsCopyDue i (logs_at b.at (log_of (world_at i w n mount.legal below).world))) × (took.source.line ≡ d.line)
        × IsPlaceOfLatest i (logs_at b.at (log_of (world_at i w n mount.legal below).world)) entry.lba took.source
        (last_take (take b.at (log_of (world_at i w n mount.legal below).world 0)) entry.lba)
    due_there = subst (λ (logs : Logs). (d : IsCopyDue i logs) × (took.source.line ≡ d.line)
        × IsPlaceOfLatest i logs entry.lba took.source (last_take (logs 0) entry.lba))
        (sym (logs_same i w n b.at mount.legal below b.has_begun (omega (arith, b_at, begun)))) (b.due, b.line, b.latest)

    module _ (k : ℕ) (upto : k ≤ m) (within : k ≤ n) (late : at m ≤ k) where
      abbrev begun_there : WasBegun i (log_of (world_at i w n mount.legal below).world) k entry.lba took.source
      begun_there = record {
        at = b.at;
        has_begun = b.has_begun;
        within = omega (arith, b_at, late);
        due = due_there.0;
        line = due_there.1;
        latest = due_there.2;
        alone = λ j x low high at_j takes.
            let same : slice_get (log_of v.world 0) j ≡ slice_get (log_of w 0) j =
            ap (λ (xs : List Logged). slice_get xs j) v.own ∙ get_taken n (log_of w 0) j (omega (arith, high, within)) in
            b.alone j x low (omega (arith, high, upto)) (sym same ∙ at_j) takes;
        granted = λ j knows other other_mark low high at_j users.
            let same : slice_get (log_of v.world 0) j ≡ slice_get (log_of w 0) j =
            ap (λ (xs : List Logged). slice_get xs j) v.own ∙ get_taken n (log_of w 0) j (omega (arith, high, within)) in
            let r : WasRoom i (log_of w) b.at (other.position + 1) =
            b.granted j knows other other_mark low (omega (arith, high, upto)) (sym same ∙ at_j) users in
            record {
              at = r.at;
              has_begun = r.has_begun;
              within = r.within;
              room = subst (λ (logs : Logs). other.position + 1 ≤ room i logs)
                  (sym (logs_same i w n r.at mount.legal below r.has_begun (omega (arith, r.within, b_at, begun)))) r.room;
            };
      }

      -- of its sector an entry was taken since, and is placed
      overtaken : (t : Taken) × Contains (takes (take n (log_of w 0))) t × (taken (take (at m) (log_of w 0)) ≤ t.entry.position)
          × (t.entry.position < placed_front i.shape (take n (log_of w 0)))
      overtaken =
          let found = overtaken_exists i v.world line k entry.lba took.source (mount_at i w mount n below)
          (emptied_then i w mount none_lost n l there line here frees) (omega (arith, long i w mount none_lost n l there line here frees, within))
          (may i w mount at turns m entry mark took).lba begun_there in
          let part : take b.at (log_of v.world 0) ≡ take (at m) log =
          ap (take b.at) v.own ∙ take-take b.at n log (omega (arith, b_at, begun)) ∙ ap (λ j. take j log) b_at in
          let least : taken (take b.at (log_of v.world 0)) ≤ found.0.entry.position = found.3 in
          let same : taken (take b.at (log_of v.world 0)) ≡ taken (take (at m) log) = ap taken part in
          let front : synced i.shape (log_of v.world 0) ≤ placed_front i.shape (log_of v.world 0) =
          synced_within_placed i v.world (mount_at i w mount n below) in
          let placed : placed_front i.shape (log_of v.world 0) ≡ placed_front i.shape (take n log) = ap (placed_front i.shape) v.own in
          let low : found.0.entry.position < synced i.shape (log_of v.world 0) = found.4 in (
            found.0,
            subst (λ (xs : List Logged). Contains (takes xs) found.0) v.own found.1,
            omega (arith, least, same),
            omega (arith, low, front, placed),
          )

    -- it was taken by then, and is placed
    pub freed_placed : (m < n) × (entry.position < placed_front i.shape (take n (log_of w 0)))
    freed_placed = go (cases_lt m n)
      where
        own_position : entry.position ≡ taken (take m (log_of w 0))
        own_position = position_is i w mount at turns m entry mark took

        go : (m < n) ⊎ (n ≤ m) → (m < n) × (entry.position < placed_front i.shape (take n (log_of w 0)))
        go (inl less) = (less, by (cases_lt its.number m))
          where
            found : (t : Taken) × Contains (takes (take n (log_of w 0))) t × (taken (take (at m) (log_of w 0)) ≤ t.entry.position)
                × (t.entry.position < placed_front i.shape (take n (log_of w 0)))
            found = overtaken m (omega arith) (omega arith) (within i w mount at turns m entry mark took)

            its : IsTakenWhen i w mount (at m) n found.0
            its = taken_when i w mount (at m) n found.0 (some i w mount at turns m entry mark took) found.1 found.2

            by : (its.number < m) ⊎ (m ≤ its.number) → entry.position < placed_front i.shape (take n (log_of w 0))
            by (inl early) =
                absurd (alone i w mount at turns m entry mark took its.number found.0.entry found.0.mark
                (copied i w mount from quiet its.number its.logged its.there found.0 its.event (omega (arith, its.late, since.0))) its.late early)
            by (inr late) =
                let rise : taken (take m log) ≤ taken (take its.number log) = taken_rises log m its.number (omega (arith, since.1, first)) late in
                let other : found.0.entry.position ≡ taken (take its.number log) = position i w mount its.number its.logged its.there found.0 its.event in
                omega (arith, own_position, rise, other, found.3)
        go (inr more) =
            absurd (alone i w mount at turns m entry mark took its.number found.0.entry found.0.mark
            (copied i w mount from quiet its.number its.logged its.there found.0 its.event (omega (arith, its.late, since.0))) its.late
            (omega (arith, its.early, more)))
          where
            found : (t : Taken) × Contains (takes (take n (log_of w 0))) t × (taken (take (at m) (log_of w 0)) ≤ t.entry.position)
                × (t.entry.position < placed_front i.shape (take n (log_of w 0)))
            found = overtaken n more (omega arith) begun

            its : IsTakenWhen i w mount (at m) n found.0
            its = taken_when i w mount (at m) n found.0 (some i w mount at turns m entry mark took) found.1 found.2
