-- With which mark a copy is taken: with its sector's while that is live in the victim at work, and
-- as Void once an entry of the sector was taken since the copy was begun.
use Rattle.std.proofs.Common.{◌≡◌, ◌⊎◌, inl, inr, ℕ, ◌<◌, ◌≤◌, true, false, List, length, take, drop, sym, subst, ap, ◌∙◌, arith, length-take}
use Rattle.std.proofs.lemmas.List.{take-take}
use Rattle.pblk_model.specs.declared.chunk.Mark.{Mark}
use Rattle.pblk_model.specs.Image.{Image}
use Rattle.pblk_model.specs.Marks.{sector_mark, void_mark}
use Rattle.pblk_world.specs.EngineLog.{life_of, Taken, takes}
use Rattle.pblk_world.specs.Events.{Decides, Entry, Logged, Take}
use Rattle.pblk_world.specs.Fronts.{taken}
use Rattle.pblk_world.specs.Taking.{Copies, CopiesStale, IsMarked}
use Rattle.pblk_world.specs.Victims.{engine_prefix, is_live_in}
use Rattle.pblk_world.specs.World.{World, log_of, prefixes}
use Rattle.pblk_model.proofs.Lists.{IsAmong, among_contained, among_more}
use Rattle.pblk_model.proofs.Parts.{take_and_drop}
use Rattle.pblk_model.proofs.Tests.{not_both}
use Rattle.pblk_world.specs.LegalMounts.{IsLegalMount}
use Rattle.world_laws.proofs.Later.{takes_joined}
use Rattle.world_laws.proofs.Positions.{position_below}
use Rattle.world_laws.proofs.ToldTables.{live_in_told}
use Rattle.rest_laws.specs.AtWork.{IsAtWorkFrom, WasTakenSince}
use Rattle.rest_laws.specs.Copies.{TookCopy}
use Rattle.rest_laws.specs.RoomRuns.{AreBegunAt, IsOfVictim, WasOvertaken}
use Rattle.rest_laws.proofs.BegunCopies.{none_between}
use Rattle.rest_laws.proofs.BegunInTurn.{at_is, inside, may, position_is, some, turn, within}
use Rattle.rest_laws.proofs.KnownViews.{taken_before}
use Rattle.rest_laws.proofs.LengthLogs.{IsWorldAt, world_at}
use Rattle.rest_laws.proofs.LivesAtWork.{life_at_work}
use Rattle.rest_laws.proofs.StillLive.{stale_is_not_live}
use Rattle.rest_laws.proofs.VictimStripes.{mount_at, victim_there}

module _ (i : Image) (w : World) (mount : IsLegalMount i w) (at : ℕ → ℕ) (turns : AreBegunAt i (log_of w) at)
    (n : ℕ) (entry : Entry) (mark : Mark) (took : TookCopy (log_of w 0) n entry mark) where
  abbrev log : List Logged
  log = log_of w 0

  abbrev l : Logged
  l = record { event = Decides (Take entry mark); knows = took.knows }

  low : n ≤ length (log_of w 0)
  low = omega (arith, inside i w mount at turns n entry mark took)

  abbrev v : IsWorldAt i w n
  v = world_at i w n mount.legal low

  marked : Copies i (prefixes (record { event = Decides (Take entry mark); knows = took.knows }) (log_of w)) entry mark took.source
      ⊎ CopiesStale i (prefixes (record { event = Decides (Take entry mark); knows = took.knows }) (log_of w)) entry mark took.source
  marked = subst (IsMarked i (prefixes l (log_of w)) entry mark) took.is_copy (may i w mount at turns n entry mark took).marked

  -- ---- overtaken

  pub void_where_overtaken : WasOvertaken (log_of w) at n n entry.lba → mark ≡ void_mark entry.position
  void_where_overtaken h = go marked
    where
      here : IsAmong (takes (take n (log_of w 0))) h.t
      here = among_contained (takes (take n log)) h.t h.there

      now : IsAmong (takes (log_of w 0)) h.t
      now = subst (λ (ts : List Taken). IsAmong ts h.t) (sym (takes_joined (take n log) (drop n log)) ∙ ap takes (take_and_drop n log))
          (among_more (takes (take n log)) (takes (drop n log)) h.t here)

      before : h.t.entry.position < taken (take n (log_of w 0))
      before =
          let there = subst (λ (xs : List Logged). IsAmong (takes xs) h.t) (sym v.own) here in
          subst (λ (xs : List Logged). h.t.entry.position < taken xs) v.own (position_below i v.world there.0 h.t v.legal there.1)

      since : taken (take (turn i w mount at turns n entry mark took).begun.at (log_of w 0)) ≤ h.t.entry.position
      since =
          let front : take (at n) (take n log) ≡ take (at n) log = take-take (at n) n log (within i w mount at turns n entry mark took) in
          let same : taken (take (at n) (take n log)) ≡ taken (take (turn i w mount at turns n entry mark took).begun.at log) =
          ap taken (front ∙ ap (λ k. take k log) (sym (at_is i w mount at turns n entry mark took))) in
          let least : taken (take (at n) (take n log)) ≤ h.t.entry.position = h.since in
          omega arith

      go : Copies i (prefixes (record { event = Decides (Take entry mark); knows = took.knows }) (log_of w)) entry mark took.source
          ⊎ CopiesStale i (prefixes (record { event = Decides (Take entry mark); knows = took.knows }) (log_of w)) entry mark took.source
          → mark ≡ void_mark entry.position
      go (inr stale) = stale.names_none
      go (inl c) =
          let least : entry.position ≤ h.t.entry.position = none_between i w mount n took.knows entry mark took.source took.there
          (turn i w mount at turns n entry mark took).begun h.t now h.of_it since c in
          absurd (omega (arith, position_is i w mount at turns n entry mark took, before))

  -- ---- live

  module _ (of : IsOfVictim i (log_of w) at n n took.source.line) where
    long : length (log_of (world_at i w n mount.legal low).world 0) ≡ n
    long = let count : length (log_of v.world 0) ≡ length (take n log) = ap length v.own in omega (arith, low, length-take n log)

    at_work : IsAtWorkFrom i (log_of (world_at i w n mount.legal low).world) (at n) took.source.line
    at_work = record {
      each = λ m from upto.
          let below : m ≤ n = omega (arith, long, upto) in
          victim_there i w mount n low m below ∙ of m from below;
    }

    upto : at n ≤ length (log_of (world_at i w n mount.legal low).world 0)
    upto = omega (arith, long, within i w mount at turns n entry mark took)

    front : take (at n) (log_of (world_at i w n mount.legal low).world 0) ≡ take (at n) (log_of w 0)
    front = ap (take (at n)) v.own ∙ take-take (at n) n log (within i w mount at turns n entry mark took)

    lives : life_of (take n (log_of w 0)) took.source.line ≡ life_of (take (at n) (log_of w 0)) took.source.line
    lives =
        ap (λ (xs : List Logged). life_of xs took.source.line) (sym v.own)
        ∙ life_at_work i v.world (mount_at i w mount n low) took.source.line (at n) at_work upto
        ∙ ap (λ (xs : List Logged). life_of xs took.source.line) front

    pub named_where_live : is_live_in i (engine_prefix n (log_of w)) took.source.line entry.lba ≡ true → mark ≡ sector_mark entry.lba entry.position
    named_where_live live = go marked
      where
        begun_at : (turn i w mount at turns n entry mark took).begun.at ≡ at n
        begun_at = at_is i w mount at turns n entry mark took

        go : Copies i (prefixes (record { event = Decides (Take entry mark); knows = took.knows }) (log_of w)) entry mark took.source
            ⊎ CopiesStale i (prefixes (record { event = Decides (Take entry mark); knows = took.knows }) (log_of w)) entry mark took.source
            → mark ≡ sector_mark entry.lba entry.position
        go (inl c) = c.names_sector
        go (inr stale) =
            let b = (turn i w mount at turns n entry mark took).begun in
            let since : WasTakenSince (take n log) entry.lba b.at = taken_before i w n l mount took.there b.at b.has_begun b.within entry.lba took.source
            (lives ∙ ap (λ k. life_of (take k log) took.source.line) (sym begun_at)) b.latest stale.stale in
            let gone : is_live_in i (log_of v.world) took.source.line entry.lba ≡ false =
            stale_is_not_live i v.world took.source.line (at n) entry.lba (mount_at i w mount n low) (some i w mount at turns n entry mark took) upto at_work
            (subst (λ (xs : List Logged). WasTakenSince xs entry.lba (at n)) (sym v.own)
            (subst (λ k. WasTakenSince (take n log) entry.lba k) begun_at since)) in
            absurd (not_both (is_live_in i (engine_prefix n (log_of w)) took.source.line entry.lba) live
            (live_in_told i (log_of v.world) (engine_prefix n (log_of w)) v.told took.source.line entry.lba ∙ gone))
