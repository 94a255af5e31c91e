use Rattle.std.proofs.Common.{◌≡◌, ◌<◌, Some, sym, subst, ◌∙◌}
use Rattle.std.specs.Prelude.{slice_get}
use Rattle.pblk_model.specs.Bytes.{zeros}
use Rattle.pblk_world.specs.World.{Logs}
use Rattle.core_laws.specs.SlotOf.{slot_of}
use Rattle.step_laws.specs.SlotBlocks.{IsBlockOfSlot}
use Rattle.step_laws.proofs.LatestSectors.{unwritten_zeros}
use Rattle.chronicle.specs.Prefixes.{logs_of}
use Rattle.pblk_engine.specs.Hearts.{HeartView, parts}
use Rattle.pblk_engine.specs.Looks.{latest_by}
use Rattle.pblk_engine.proofs.Held.{held_heart, held_mount}
use Rattle.pblk_engine.proofs.Looks.{media_block}
use Rattle.pblk_engine.proofs.heart.Heart.look.Goals as goal

pub look-requires : goal.look-requires
look-requires g c =
    let k = c.self.invariant.0 in
    let i = g.M.Mount.past.image in
    let w = k.legal.world in
    let h = parts c.self.inside.core c.self.inside.author c.self.inside.intake.seat.me.0 in
    let mount = held_mount g.M.Mount.chronicle g.M.Mount.ring g.M.Mount.past g.M.Mount.key c.self.inside.intake.seat.table_id h k in
    let heart = held_heart g.M.Mount.chronicle g.M.Mount.ring g.M.Mount.past g.M.Mount.key c.self.inside.intake.seat.table_id h k in
    subst (λ n. c.args.lba < n) (sym heart.stands.capacity) c.requires.lba

pub returns-clause-slot : goal.returns-clause-slot
returns-clause-slot g c =
    let k = c.self.invariant.0 in
    let i = g.M.Mount.past.image in
    let w = k.legal.world in
    let h = parts c.self.inside.core c.self.inside.author c.self.inside.intake.seat.me.0 in
    let mount = held_mount g.M.Mount.chronicle g.M.Mount.ring g.M.Mount.past g.M.Mount.key c.self.inside.intake.seat.table_id h k in
    let heart = held_heart g.M.Mount.chronicle g.M.Mount.ring g.M.Mount.past g.M.Mount.key c.self.inside.intake.seat.table_id h k in
    subst (λ (v : HeartView). c.look.result ≡ slot_of i (logs_of v.author.known) c.args.lba) c.self.view_is
    (subst (λ (logs : Logs). c.look.result ≡ slot_of i logs c.args.lba) k.legal.logs (c.look.ensures i w mount heart.stands))

pub returns-clause-unwritten : goal.returns-clause-unwritten
returns-clause-unwritten g c = λ is.
    let k = c.self.invariant.0 in
    let i = g.M.Mount.past.image in
    let w = k.legal.world in
    let h = parts c.self.inside.core c.self.inside.author c.self.inside.intake.seat.me.0 in
    let mount = held_mount g.M.Mount.chronicle g.M.Mount.ring g.M.Mount.past g.M.Mount.key c.self.inside.intake.seat.table_id h k in
    let heart = held_heart g.M.Mount.chronicle g.M.Mount.ring g.M.Mount.past g.M.Mount.key c.self.inside.intake.seat.table_id h k in
    subst (λ (v : HeartView). slice_get (latest_by i (logs_of v.author.known)) c.args.lba ≡ Some (zeros i.shape.sector)) c.self.view_is
    (subst (λ (logs : Logs). slice_get (latest_by i logs) c.args.lba ≡ Some (zeros i.shape.sector)) k.legal.logs
    (unwritten_zeros i w c.args.lba mount c.requires.lba (sym (c.look.ensures i w mount heart.stands) ∙ is)))

pub returns-clause-on_drive : goal.returns-clause-on_drive
returns-clause-on_drive g c = λ line at position is.
    let k = c.self.invariant.0 in
    let i = g.M.Mount.past.image in
    let w = k.legal.world in
    let h = parts c.self.inside.core c.self.inside.author c.self.inside.intake.seat.me.0 in
    let mount = held_mount g.M.Mount.chronicle g.M.Mount.ring g.M.Mount.past g.M.Mount.key c.self.inside.intake.seat.table_id h k in
    let heart = held_heart g.M.Mount.chronicle g.M.Mount.ring g.M.Mount.past g.M.Mount.key c.self.inside.intake.seat.table_id h k in
    subst (λ (v : HeartView). (x : IsBlockOfSlot i (logs_of v.author.known) c.args.lba line at position)
    × (slice_get (latest_by i (logs_of v.author.known)) c.args.lba ≡ Some x.block.sector)) c.self.view_is
    (subst (λ (logs : Logs). (x : IsBlockOfSlot i logs c.args.lba line at position) × (slice_get (latest_by i logs) c.args.lba ≡ Some x.block.sector))
    k.legal.logs (media_block i w c.self.inside.core c.args.lba mount heart.stands c.requires.lba line at position
    (sym (c.look.ensures i w mount heart.stands) ∙ is)))
