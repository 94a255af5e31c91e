use Rattle.std.proofs.Common.{◌≡◌, ◌<◌, ℕ, Some, sym, subst, ◌∙◌}
use Rattle.std.specs.Prelude.{slice_get}
use Rattle.pblk_world.specs.AtRest.{AreResetsNoted}
use Rattle.pblk_world.specs.World.{Logs}
use Rattle.l2p_map.specs.declared.slot.Slot.TheVariants as slots
use Rattle.core_laws.specs.SlotOf.{slot_of}
use Rattle.step_laws.specs.SlotBlocks.{IsBlockOfSlot}
use Rattle.chronicle.specs.Prefixes.{AreLegalLogs, ArePrefixes, Prefixes, logs_of}
use Rattle.pblk_engine.specs.Hearts.{parts}
use Rattle.pblk_engine.specs.Looks.{latest_by}
use Rattle.pblk_engine.proofs.Held.{held_heart, held_mount}
use Rattle.pblk_engine.proofs.Looks.{media_block}
use Rattle.pblk_engine.proofs.heart.Heart.note_readable.Goals as goal

pub returns-clause-note : goal.returns-clause-note
returns-clause-note g c =
    let k = c.self.invariant.0 in
    let known = c.note.ensures.note_known in
    record {
      of = c.note.ensures.note_of ∙ k.of;
      over = c.note.ensures.note_past ∙ k.since;
      legal = subst (λ (p : Prefixes). AreLegalLogs g.M.Mount.past.image p) (sym known) k.legal;
      begun = subst (λ (p : Prefixes). ArePrefixes g.M.Mount.past.logs p) (sym known) k.begun;
      noted = subst (λ (p : Prefixes). AreResetsNoted (logs_of p)) (sym known) k.settled.heart.noted;
    }

pub returns-clause-on_drive : goal.returns-clause-on_drive
returns-clause-on_drive g c =
    let k = c.self.invariant.0 in
    let i = g.M.Mount.past.image in
    let w = k.legal.world in
    let h = parts c.self.inside.core c.self.inside.author c.self.inside.intake.seat.me.0 in
    let mount = held_mount g.M.Mount.chronicle g.M.Mount.ring g.M.Mount.past g.M.Mount.key c.self.inside.intake.seat.table_id h k in
    let heart = held_heart g.M.Mount.chronicle g.M.Mount.ring g.M.Mount.past g.M.Mount.key c.self.inside.intake.seat.table_id h k in
    subst (λ (p : Prefixes). (lba line at position : ℕ) → lba < i.shape.capacity → slot_of i (logs_of p) lba ≡ slots.Media line at position
    → (is : IsBlockOfSlot i (logs_of p) lba line at position) × (slice_get (latest_by i (logs_of p)) lba ≡ Some is.block.sector))
    (sym c.note.ensures.note_known)
    (subst (λ (l : Logs). (lba line at position : ℕ) → lba < i.shape.capacity → slot_of i l lba ≡ slots.Media line at position
    → (is : IsBlockOfSlot i l lba line at position) × (slice_get (latest_by i l) lba ≡ Some is.block.sector)) k.legal.logs
    (λ lba line at position inside slot. media_block i w c.self.inside.core lba mount heart.stands inside line at position slot))
