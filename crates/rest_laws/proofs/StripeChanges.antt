-- How the number of stripes that are left to the opened lines changes with each step.
use Rattle.std.proofs.Common.{◌≡◌, ℕ, ◌+◌, ◌*◌, ◌/◌, ◌≤◌, suc, true, Some, List, ◌∷◌, ap}
use Rattle.std.specs.Prelude.{sum_by}
use Rattle.std.specs.List.{range_with_len}
use Rattle.pblk_model.specs.Image.{Image}
use Rattle.pblk_model.specs.StartRecord.{StartRecord}
use Rattle.pblk_world.specs.EngineLog.{Begun, begun, life_of}
use Rattle.pblk_world.specs.Events.{Decides, EngineEvent, Free, Logged, Open, Place, Step, Stripe}
use Rattle.pblk_world.specs.Opening.{MayOpen}
use Rattle.pblk_world.specs.Placing.{MayPlace}
use Rattle.pblk_world.specs.World.{World, log_of, prefixes}
use Rattle.pblk_world.proofs.LinesLemmas.{free_unopened}
use Rattle.pblk_world.specs.LegalMounts.{IsLegalMount, NoStripeLost}
use Rattle.core_laws.specs.OpenAddresses.{keeps_addresses}
use Rattle.world_laws.proofs.ToldDecisions.{opening_told, placing_told}
use Rattle.world_laws.proofs.ToldImages.{told_back}
use Rattle.rest_laws.specs.RoomSteps.{stripes_left, stripes_left_in}
use Rattle.rest_laws.proofs.RoomChanges.{before, by_logs, line_freed, may, told, unit_tells_none}
use Rattle.rest_laws.proofs.StripesLeft.{before_end, stripes_freed, stripes_opened, stripes_placed, stripes_stay}

module _ (i : Image) (s : Step) (w : World) (mount : IsLegalMount i (s ∷ w)) where
  pub unit_keeps_stripes : (unit : ℕ) → s.author ≡ suc unit → stripes_left i (log_of (s ∷ w)) ≡ stripes_left i (log_of w)
  unit_keeps_stripes unit own =
      ap (λ (log : List Logged). sum_by (λ line. stripes_left_in i.shape log (life_of log line)) (range_with_len 0 i.shape.chunks))
      (unit_tells_none i s w mount unit own).own

  module _ (own : s.author ≡ 0) (b : Begun) (begins : begun (log_of w 0) ≡ Some b) where
    was : IsLegalMount i w
    was = before i s w mount

    pub engine_keeps_stripes : (e : EngineEvent) → s.logged.event ≡ Decides e → keeps_addresses e ≡ true
        → stripes_left i (log_of (s ∷ w)) ≡ stripes_left i (log_of w)
    engine_keeps_stripes e is keeps =
        by_logs i s w mount e own is b begins (λ ls. stripes_left i ls ≡ stripes_left i (log_of w)) (stripes_stay i (log_of w) e s.logged.knows keeps)

    pub opening_adds : (line : ℕ) (start : StartRecord) → s.logged.event ≡ Decides (Open line start)
        → stripes_left i (log_of (s ∷ w)) ≡ stripes_left i (log_of w) + start.width * i.shape.clba / i.shape.ws_opt
    opening_adds line start is =
        let named_may = may i s w mount (Open line start) own is b begins in
        let now : MayOpen i (log_of w) named_may.0 line start =
        opening_told i (prefixes s.logged (log_of w)) (log_of w)
        (told_back i (log_of w) (prefixes s.logged (log_of w)) (told i s w mount (Open line start) own is b begins)) named_may.0 line start named_may.2 in
        by_logs i s w mount (Open line start) own is b begins
        (λ ls. stripes_left i ls ≡ stripes_left i (log_of w) + start.width * i.shape.clba / i.shape.ws_opt)
        (stripes_opened i (log_of w) line start s.logged.knows now.in_range (free_unopened i (log_of w) line now.is_free))

    pub freeing_takes : (line : ℕ) → s.logged.event ≡ Decides (Free line) → stripes_left i (log_of (s ∷ w)) ≤ stripes_left i (log_of w)
    freeing_takes line is =
        let it = line_freed i s w mount own b begins line is in
        by_logs i s w mount (Free line) own is b begins (λ ls. stripes_left i ls ≤ stripes_left i (log_of w))
        (stripes_freed i (log_of w) line s.logged.knows it.1)

    pub stripe_leaves : NoStripeLost (log_of w 0) → (stripe : Stripe) → s.logged.event ≡ Decides (Place stripe)
        → stripes_left i (log_of w) ≡ stripes_left i (log_of (s ∷ w)) + 1
    stripe_leaves none stripe is =
        let now : MayPlace i (log_of w) stripe =
        placing_told i (prefixes s.logged (log_of w)) (log_of w)
        (told_back i (log_of w) (prefixes s.logged (log_of w)) (told i s w mount (Place stripe) own is b begins)) stripe
        (may i s w mount (Place stripe) own is b begins).2 in
        by_logs i s w mount (Place stripe) own is b begins (λ ls. stripes_left i (log_of w) ≡ stripes_left i ls + 1)
        (stripes_placed i (log_of w) stripe s.logged.knows now.opening was.accepted.drive now.is_open now.in_range (before_end i w stripe was none now))
