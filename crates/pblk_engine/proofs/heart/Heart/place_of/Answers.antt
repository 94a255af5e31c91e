use Rattle.std.proofs.Common.{◌≡◌, ℕ, sym, subst, ap}
use Rattle.pblk_world.specs.World.{Logs, log_of}
use Rattle.core_laws.specs.OpenedLines.{online_now}
use Rattle.step_laws.specs.SlotBlocks.{IsBlockOfSlot}
use Rattle.chronicle.specs.Prefixes.{logs_of}
use Rattle.pblk_engine.specs.Hearts.{HeartView, parts}
use Rattle.pblk_engine.proofs.Held.{held_heart, held_mount}
use Rattle.pblk_engine.proofs.SlotPlaces.{at_inside, here, its_place, line_inside, line_live}
use Rattle.pblk_engine.proofs.heart.Heart.place_of.Goals as goal

pub address-requires : goal.address-requires
address-requires g c =
    let k = c.self.invariant.0 in
    let i = g.M.Mount.past.image in
    let w = k.legal.world in
    let h = parts c.self.inside.core c.self.inside.author c.self.inside.intake.seat.me.0 in
    let mount = held_mount g.M.Mount.chronicle g.M.Mount.ring g.M.Mount.past g.M.Mount.key c.self.inside.intake.seat.table_id h k in
    let heart = held_heart g.M.Mount.chronicle g.M.Mount.ring g.M.Mount.past g.M.Mount.key c.self.inside.intake.seat.table_id h k in
    let there : (lba : ℕ) × (position : ℕ) × IsBlockOfSlot i (log_of w) lba c.args.line c.args.at position =
    subst (λ (logs : Logs). (lba : ℕ) × (position : ℕ) × IsBlockOfSlot i logs lba c.args.line c.args.at position) (sym k.legal.logs)
    (subst (λ (v : HeartView). (lba : ℕ) × (position : ℕ) × IsBlockOfSlot i (logs_of v.author.known) lba c.args.line c.args.at position)
    (sym c.self.view_is) c.requires.there) in
    record {
      line = line_inside i w c.self.inside.core there.0 c.args.line c.args.at there.1 mount heart.stands there.2;
      online = line_live i w c.self.inside.core there.0 c.args.line c.args.at there.1 mount heart.stands there.2;
      inside = at_inside i w c.self.inside.core there.0 c.args.line c.args.at there.1 mount heart.stands there.2;
    }

pub returns : goal.returns
returns g c = record { place = place }
  where
    place : (lba position : ℕ) → (is : IsBlockOfSlot g.M.Mount.past.image (logs_of c.args.self.now.author.known) lba c.args.line c.args.at position)
        → (is.unit ≡ c.address.result.0) × (is.number ≡ c.address.result.1)
    place lba position =
        let k = c.self.invariant.0 in
        let i = g.M.Mount.past.image in
        let w = k.legal.world in
        let h = parts c.self.inside.core c.self.inside.author c.self.inside.intake.seat.me.0 in
        let mount = held_mount g.M.Mount.chronicle g.M.Mount.ring g.M.Mount.past g.M.Mount.key c.self.inside.intake.seat.table_id h k in
        let heart = held_heart g.M.Mount.chronicle g.M.Mount.ring g.M.Mount.past g.M.Mount.key c.self.inside.intake.seat.table_id h k in
        subst (λ (v : HeartView). (x : IsBlockOfSlot i (logs_of v.author.known) lba c.args.line c.args.at position)
        → (x.unit ≡ c.address.result.0) × (x.number ≡ c.address.result.1)) c.self.view_is
        (subst (λ (logs : Logs). (x : IsBlockOfSlot i logs lba c.args.line c.args.at position)
        → (x.unit ≡ c.address.result.0) × (x.number ≡ c.address.result.1)) k.legal.logs
        (λ x.
        let at_line = here i w c.self.inside.core lba c.args.line c.args.at position mount heart.stands x in
        let same = its_place i w c.self.inside.core lba c.args.line c.args.at position mount heart.stands x c.address.result
        (c.address.ensures (online_now i (log_of w) c.args.line) at_line) in
        (ap (λ (p : ℕ × ℕ). p.0) same, ap (λ (p : ℕ × ℕ). p.1) same)))
