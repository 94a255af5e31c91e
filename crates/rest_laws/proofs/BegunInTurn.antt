-- Copies by the lengths at which they were begun: one is under way at a time, and its sector was
-- live then in the line that was at work as the victim.
use Rattle.std.proofs.Common.{◌≡◌, ℕ, ◌+◌, ◌<◌, ◌≤◌, true, Some, List, length, take, refl, sym, subst, ap, ◌∙◌, arith, length-take}
use Rattle.std.specs.Prelude.{slice_get}
use Rattle.std.proofs.lemmas.Option.{slice_get_within}
use Rattle.pblk_model.specs.declared.chunk.Mark.{Mark}
use Rattle.pblk_model.specs.Image.{Image}
use Rattle.pblk_world.specs.AtRest.{IsCopyDue, logs_at}
use Rattle.pblk_world.specs.Events.{Decides, Entry, Logged, Source, Take}
use Rattle.pblk_world.specs.Fronts.{last_take, taken}
use Rattle.pblk_world.specs.Space.{room}
use Rattle.pblk_world.specs.Taking.{IsPlaceOfLatest, MayTake}
use Rattle.pblk_world.specs.Victims.{engine_prefix, is_live_in, victim}
use Rattle.pblk_world.specs.World.{World, Logs, log_of, prefixes}
use Rattle.pblk_model.proofs.Parts.{get_taken, get_whole_within}
use Rattle.pblk_world.specs.LegalMounts.{IsLegalMount}
use Rattle.pblk_world.specs.Reasons.{AreBegun, WasBegun, WasRoom}
use Rattle.world_laws.proofs.NextLives.{IsDecided, decided}
use Rattle.world_laws.proofs.ToldImages.{told_then}
use Rattle.world_laws.proofs.ToldTables.{live_in_told}
use Rattle.rest_laws.specs.AtWork.{IsAtWorkFrom}
use Rattle.rest_laws.specs.Copies.{TookCopy}
use Rattle.rest_laws.specs.RoomRuns.{AreBegunAt, WasBegunInTurn}
use Rattle.rest_laws.proofs.FewerLive.{live_by_place}
use Rattle.rest_laws.proofs.LengthLogs.{IsWorldAt, logs_same, victim_at, world_at}
use Rattle.rest_laws.proofs.OneCopy.{takes_copy}
use Rattle.rest_laws.proofs.VictimStripes.{mount_at, prefix_of, victim_there}

module _ (i : Image) (w : World) (mount : IsLegalMount i w) where
  -- ---- where one was begun

  module _ (number lba : ℕ) (source : Source) (small : lba < i.shape.capacity) (inside : number ≤ length (log_of w 0))
      (b : WasBegun i (log_of w) number lba source) where
    low : b.at ≤ length (log_of w 0)
    low = let within : b.at ≤ number = b.within in omega (arith, inside)

    -- its line was the victim at work
    pub line_at_work : victim i (log_of w) b.at ≡ Some source.line
    line_at_work =
        let whole : length (take b.at (log_of w 0)) ≡ b.at = omega (arith, length-take b.at (log_of w 0), low) in
        sym (victim_at i w b.at mount.legal low) ∙ ap (victim i (logs_at b.at (log_of w))) (sym whole) ∙ b.due.at_work
        ∙ ap (λ n. Some n) (sym b.line)

    abbrev u : IsWorldAt i w b.at
    u = world_at i w b.at mount.legal low

    abbrev mount_u : IsLegalMount i (world_at i w b.at mount.legal low).world
    mount_u = mount_at i w mount b.at low

    long : length (log_of (world_at i w b.at mount.legal low).world 0) ≡ b.at
    long = let count : length (log_of u.world 0) ≡ length (take b.at (log_of w 0)) = ap length u.own in omega (arith, low, length-take b.at (log_of w 0))

    work_u : IsAtWorkFrom i (log_of (world_at i w b.at mount.legal low).world) b.at source.line
    work_u = record {
      each = λ n from upto.
          let below : n ≤ b.at = omega (arith, long, upto) in
          let same : b.at ≡ n = omega arith in
          victim_there i w mount b.at low n below ∙ ap (victim i (log_of w)) (sym same) ∙ line_at_work;
    }

    within_u : b.at ≤ length (log_of (world_at i w b.at mount.legal low).world 0)
    within_u = omega (arith, long)

    abbrev v : IsWorldAt i (world_at i w b.at mount.legal low).world b.at
    v = world_at i u.world b.at mount_u.legal within_u

    -- and its sector was live there
    pub live_when_begun : is_live_in i (engine_prefix b.at (log_of w)) source.line lba ≡ true
    live_when_begun =
        ap (λ (logs : Logs). is_live_in i logs source.line lba) (sym (prefix_of i w mount b.at low b.at (omega arith)))
        ∙ live_in_told i (engine_prefix b.at (log_of u.world)) (engine_prefix b.at (engine_prefix b.at (log_of w)))
        (told_then i (log_of u.world) (engine_prefix b.at (log_of w)) b.at u.told) source.line lba
        ∙ live_in_told i (log_of v.world) (engine_prefix b.at (log_of u.world)) v.told source.line lba
        ∙ live_by_place i u.world mount_u source.line b.at b.has_begun within_u work_u lba source small refl
        (subst (λ (logs : Logs). IsPlaceOfLatest i logs lba source (last_take (logs 0) lba))
        (sym (logs_same i w b.at b.at mount.legal low b.has_begun (omega arith))) b.latest)

  -- ---- in the world at a length

  module _ (n : ℕ) (within : n ≤ length (log_of w 0)) where
    abbrev x : IsWorldAt i w n
    x = world_at i w n mount.legal within

    -- what was begun there was begun in it
    pub begun_then : (number m lba : ℕ) (source : Source) (b : WasBegun i (log_of w) number lba source) → m ≤ number → m ≤ n → b.at ≤ m
        → WasBegun i (log_of (world_at i w n mount.legal within).world) m lba source
    begun_then number m lba source b below low from = record {
      at = b.at;
      has_begun = b.has_begun;
      within = from;
      due = its.0;
      line = its.1;
      latest = its.2;
      alone = λ k l late early there takes.
          let same : slice_get (log_of x.world 0) k ≡ slice_get (log_of w 0) k =
          ap (λ (xs : List Logged). slice_get xs k) x.own ∙ get_taken n (log_of w 0) k (omega arith) in
          b.alone k l late (omega arith) (sym same ∙ there) takes;
      granted = λ k knows entry mark late early there users.
          let same : slice_get (log_of x.world 0) k ≡ slice_get (log_of w 0) k =
          ap (λ (xs : List Logged). slice_get xs k) x.own ∙ get_taken n (log_of w 0) k (omega arith) in
          let r : WasRoom i (log_of w) b.at (entry.position + 1) = b.granted k knows entry mark late (omega arith) (sym same ∙ there) users in
          record {
            at = r.at;
            has_begun = r.has_begun;
            within = r.within;
            room = subst (λ (logs : Logs). entry.position + 1 ≤ room i logs)
                (sym (logs_same i w n r.at mount.legal within r.has_begun (omega (arith, r.within)))) r.room;
          };
    }
      where
        its : (d : IsCopyDue i (logs_at b.at (log_of (world_at i w n mount.legal within).world))) × (source.line ≡ d.line)
            × IsPlaceOfLatest i (logs_at b.at (log_of (world_at i w n mount.legal within).world)) lba source
            (last_take (take b.at (log_of (world_at i w n mount.legal within).world 0)) lba)
        its = subst (λ (logs : Logs). (d : IsCopyDue i logs) × (source.line ≡ d.line) × IsPlaceOfLatest i logs lba source (last_take (logs 0) lba))
            (sym (logs_same i w n b.at mount.legal within b.has_begun (omega arith))) (b.due, b.line, b.latest)

    pub all_begun_then : ((number : ℕ) (entry : Entry) (mark : Mark) (took : TookCopy (log_of w 0) number entry mark)
        → WasBegun i (log_of w) number entry.lba took.source) → AreBegun i (log_of (world_at i w n mount.legal within).world)
    all_begun_then all = record {
      each = λ k knows entry mark source there copy.
          let at = get_whole_within n (log_of w 0) k (record { event = Decides (Take entry mark); knows = knows })
          (ap (λ (xs : List Logged). slice_get xs k) (sym x.own) ∙ there) in
          let b : WasBegun i (log_of w) k entry.lba source = all k entry mark (record { knows = knows; there = at.0; source = source; is_copy = copy }) in
          let low : k < n = at.1 in
          begun_then k k entry.lba source b (omega arith) (omega arith) b.within;
    }

  -- ---- by its number

  module _ (at : ℕ → ℕ) (turns : AreBegunAt i (log_of w) at) (number : ℕ) (entry : Entry) (mark : Mark) (took : TookCopy (log_of w 0) number entry mark) where
    abbrev pub l : Logged
    l = record { event = Decides (Take entry mark); knows = took.knows }

    pub inside : number < length (log_of w 0)
    inside = slice_get_within (log_of w 0) number l took.there

    d : IsDecided i w mount.legal number (Take entry mark) (record { event = Decides (Take entry mark); knows = took.knows })
    d = decided i w mount.legal number (Take entry mark) l took.there refl

    pub may : MayTake i (prefixes (record { event = Decides (Take entry mark); knows = took.knows }) (log_of w)) entry mark
    may = d.allowed.2

    pub position_is : entry.position ≡ taken (take number (log_of w 0))
    position_is = may.position ∙ ap taken d.own

    pub turn : WasBegunInTurn i (log_of w) number entry took.source
    turn = (turns.each number entry mark took).0

    pub at_is : turn.begun.at ≡ at number
    unfolding turn
    at_is = (turns.each number entry mark took).1

    pub some : 0 < at number
    some = let first : 0 < turn.begun.at = turn.begun.has_begun in omega (arith, at_is)

    pub within : at number ≤ number
    within = let upto : turn.begun.at ≤ number = turn.begun.within in omega (arith, at_is)

    pub of_victim : victim i (log_of w) (at number) ≡ Some took.source.line
    of_victim = subst (λ n. victim i (log_of w) n ≡ Some took.source.line) at_is
        (line_at_work number entry.lba took.source may.lba (omega (arith, inside)) turn.begun)

    pub was_live : is_live_in i (engine_prefix (at number) (log_of w)) took.source.line entry.lba ≡ true
    was_live = subst (λ n. is_live_in i (engine_prefix n (log_of w)) took.source.line entry.lba ≡ true) at_is
        (live_when_begun number entry.lba took.source may.lba (omega (arith, inside)) turn.begun)

    -- no other copy was taken since
    pub alone : (k : ℕ) (other : Entry) (other_mark : Mark) → TookCopy (log_of w 0) k other other_mark → at number ≤ k → k < number → ⊥
    alone k other other_mark its late early =
        turn.begun.alone k (record { event = Decides (Take other other_mark); knows = its.knows }) (omega (arith, at_is)) early its.there
        (takes_copy other other_mark its.knows its.source its.is_copy)
