-- How the data addresses of the Free lines change with each step of a legal mount.
use Rattle.std.proofs.Common.{◌≡◌, ℕ, ◌+◌, suc, true, Some, List, ◌∷◌, refl, sym, subst, ap, ◌∙◌}
use Rattle.std.specs.Option.{option_and_then}
use Rattle.std.proofs.lemmas.Option.{same_Some}
use Rattle.pblk_model.specs.Image.{Image}
use Rattle.pblk_model.specs.LineOrder.{data_len}
use Rattle.pblk_model.specs.StartRecord.{StartRecord}
use Rattle.pblk_model.specs.UnitLog.{UnitEvent}
use Rattle.pblk_world.specs.Answering.{MayNoteReset}
use Rattle.pblk_world.specs.EngineLog.{Begun, begun}
use Rattle.pblk_world.specs.Events.{Again, Begin, Decides, EngineEvent, Free, Landed, Logged, Lost, Open, Place, ResetDone, Step, Take}
use Rattle.pblk_world.specs.Opening.{MayOpen}
use Rattle.pblk_world.specs.Space.{free_addresses}
use Rattle.pblk_world.specs.World.{World, Logs, log_of, prefixes, unit_event_at, unit_event_of}
use Rattle.pblk_world.proofs.Appending.{life_more}
use Rattle.pblk_world.specs.LegalMounts.{IsLegalMount}
use Rattle.world_laws.proofs.ToldDecisions.{opening_told}
use Rattle.world_laws.proofs.ToldImages.{told_back}
use Rattle.world_laws.proofs.ToldTables.{free_addresses_told}
use Rattle.core_laws.specs.Stepping.{after}
use Rattle.core_laws.proofs.FreedLines.{free_freed}
use Rattle.rest_laws.specs.RoomSteps.{free_data, keeps_free}
use Rattle.rest_laws.proofs.FreeSteps.{free_kept, free_landed, free_opened, free_reset}
use Rattle.rest_laws.proofs.RoomChanges.{before, by_logs, land_whole, line_freed, may, note_whole, told, unit_tells_none, whole}

module _ (i : Image) (s : Step) (w : World) (mount : IsLegalMount i (s ∷ w)) where
  pub unit_keeps : (unit : ℕ) → s.author ≡ suc unit → free_addresses i (log_of (s ∷ w)) ≡ free_addresses i (log_of w)
  unit_keeps unit own = free_addresses_told i (log_of w) (log_of (s ∷ w)) (unit_tells_none i s w mount unit own)

  module _ (own : s.author ≡ 0) (b : Begun) (begins : begun (log_of w 0) ≡ Some b) where
    abbrev knows : List ℕ
    knows = s.logged.knows

    was : IsLegalMount i w
    was = before i s w mount

    stays : (e : EngineEvent) → s.logged.event ≡ Decides e → free_addresses i (after (log_of w) e s.logged.knows) ≡ free_addresses i (log_of w)
        → free_addresses i (log_of (s ∷ w)) ≡ free_addresses i (log_of w)
    stays e is = by_logs i s w mount e own is b begins (λ ls. free_addresses i ls ≡ free_addresses i (log_of w))

    pub engine_keeps : (e : EngineEvent) → s.logged.event ≡ Decides e → keeps_free e ≡ true
        → free_addresses i (log_of (s ∷ w)) ≡ free_addresses i (log_of w)
    engine_keeps (Begin x) is keeps = absurd cc
    engine_keeps (Open line start) is keeps = absurd cc
    engine_keeps (Lost unit number) is keeps = absurd cc
    engine_keeps (ResetDone unit number) is keeps = absurd cc
    engine_keeps (Take entry mark) is keeps =
        stays (Take entry mark) is (free_kept i (log_of w) (Take entry mark) knows refl (λ unit. refl)
        (life_more (log_of w 0) (record { event = Decides (Take entry mark); knows = knows })))
    engine_keeps (Place stripe) is keeps =
        stays (Place stripe) is (free_kept i (log_of w) (Place stripe) knows refl (λ unit. refl)
        (life_more (log_of w 0) (record { event = Decides (Place stripe); knows = knows })))
    engine_keeps (Again unit number) is keeps =
        stays (Again unit number) is (free_kept i (log_of w) (Again unit number) knows refl (λ u. refl)
        (life_more (log_of w 0) (record { event = Decides (Again unit number); knows = knows })))
    engine_keeps (Landed unit number) is keeps =
        stays (Landed unit number) is (free_landed i w was unit number knows (land_whole (log_of w) s.logged unit number
        (whole i s w mount (Landed unit number) own is b begins) (may i s w mount (Landed unit number) own is b begins).2))
    engine_keeps (Free line) is keeps =
        let it = line_freed i s w mount own b begins line is in
        stays (Free line) is (free_freed i w was line knows it.2 b begins it.0 it.3)

    pub open_takes : (line : ℕ) (start : StartRecord) → s.logged.event ≡ Decides (Open line start)
        → free_addresses i (log_of w) ≡ free_addresses i (log_of (s ∷ w)) + data_len i.shape start.width
    open_takes line start is =
        let named_may = may i s w mount (Open line start) own is b begins in
        let now : MayOpen i (log_of w) named_may.0 line start =
        opening_told i (prefixes s.logged (log_of w)) (log_of w)
        (told_back i (log_of w) (prefixes s.logged (log_of w)) (told i s w mount (Open line start) own is b begins)) named_may.0 line start named_may.2 in
        by_logs i s w mount (Open line start) own is b begins (λ ls. free_addresses i (log_of w) ≡ free_addresses i ls + data_len i.shape start.width)
        (free_opened i (log_of w) named_may.0 line start knows now)

    pub reset_gives : (unit number : ℕ) (u : UnitEvent) → s.logged.event ≡ Decides (ResetDone unit number)
        → unit_event_at (log_of w) unit number ≡ Some u
        → free_addresses i (log_of (s ∷ w)) ≡ free_addresses i (log_of w) + free_data i (log_of (s ∷ w)) u.chunk
    reset_gives unit number u is at =
        by_logs i s w mount (ResetDone unit number) own is b begins (λ ls. free_addresses i ls ≡ free_addresses i (log_of w) + free_data i ls u.chunk)
        (subst (λ m. free_addresses i new ≡ free_addresses i (log_of w) + free_data i new m) same (free_reset i w was b begins unit number knows now))
      where
        new : Logs
        new = after (log_of w) (ResetDone unit number) s.logged.knows

        now : MayNoteReset (log_of w) unit number
        now = note_whole (log_of w) s.logged unit number (whole i s w mount (ResetDone unit number) own is b begins)
            (may i s w mount (ResetDone unit number) own is b begins).2

        same : now.reset.chunk ≡ u.chunk
        same = ap (λ (x : UnitEvent). x.chunk) (same_Some now.reset u
            (sym (ap (option_and_then (λ (l : Logged). unit_event_of l.event)) now.new.is_known ∙ now.new.event) ∙ at))
