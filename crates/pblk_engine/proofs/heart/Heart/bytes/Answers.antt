use Rattle.std.proofs.Common.{◌≡◌, None, Option, Some, refl, sym, subst, ◌∙◌}
use Rattle.std.specs.Prelude.{IfSome, IsNone, IsSome, slice_get}
use Rattle.pblk_world.specs.World.{Logs, log_of}
use Rattle.l2p_map.specs.declared.slot.Slot.TheVariants as slots
use Rattle.pblk_core.proofs.WaitingEntries.{sectors_sized}
use Rattle.core_laws.specs.SlotOf.{slot_of}
use Rattle.chronicle.specs.Prefixes.{logs_of}
use Rattle.pblk_engine.specs.Hearts.{HeartView, parts}
use Rattle.pblk_engine.specs.Looks.{latest_by}
use Rattle.pblk_engine.proofs.Held.{held_heart, held_mount}
use Rattle.pblk_engine.proofs.Looks.{cached_is_held, cached_sector}
use Rattle.pblk_engine.proofs.heart.Heart.bytes.Goals as goal

some_of : {X : Type 0} (o : Option X) → (IsNone o → ⊥) → IsSome o
some_of None not_none = absurd (not_none refl)
some_of (Some x) not_none = refl

if_some : {X : Type 0} (P Q : X → Type 0) (o : Option X) → IfSome o P → ((x : X) → P x → Q x) → IfSome o Q
if_some P Q None is step = tt
if_some P Q (Some x) is step = step x is

pub returns-clause-there : goal.returns-clause-there
returns-clause-there g c = λ lba inside slot.
    let k = c.self.invariant.0 in
    let i = g.M.Mount.past.image in
    let w = k.legal.world in
    let h = parts c.self.inside.core c.self.inside.author c.self.inside.intake.seat.me.0 in
    let mount = held_mount g.M.Mount.chronicle g.M.Mount.ring g.M.Mount.past g.M.Mount.key c.self.inside.intake.seat.table_id h k in
    let heart = held_heart g.M.Mount.chronicle g.M.Mount.ring g.M.Mount.past g.M.Mount.key c.self.inside.intake.seat.table_id h k in
    let by_world : slot_of i (log_of w) lba ≡ slots.Cached c.args.position =
    subst (λ (logs : Logs). slot_of i logs lba ≡ slots.Cached c.args.position) (sym k.legal.logs)
    (subst (λ (v : HeartView). slot_of i (logs_of v.author.known) lba ≡ slots.Cached c.args.position) (sym c.self.view_is) slot) in
    some_of c.bytes.result
    (λ none. c.bytes.ensures.none.0 none (cached_is_held i w c.self.inside.core lba mount heart.stands inside c.args.position by_world))

pub returns-clause-latest : goal.returns-clause-latest
returns-clause-latest g c = λ lba inside slot.
    let k = c.self.invariant.0 in
    let i = g.M.Mount.past.image in
    let w = k.legal.world in
    let h = parts c.self.inside.core c.self.inside.author c.self.inside.intake.seat.me.0 in
    let mount = held_mount g.M.Mount.chronicle g.M.Mount.ring g.M.Mount.past g.M.Mount.key c.self.inside.intake.seat.table_id h k in
    let heart = held_heart g.M.Mount.chronicle g.M.Mount.ring g.M.Mount.past g.M.Mount.key c.self.inside.intake.seat.table_id h k in
    let by_world : slot_of i (log_of w) lba ≡ slots.Cached c.args.position =
    subst (λ (logs : Logs). slot_of i logs lba ≡ slots.Cached c.args.position) (sym k.legal.logs)
    (subst (λ (v : HeartView). slot_of i (logs_of v.author.known) lba ≡ slots.Cached c.args.position) (sym c.self.view_is) slot) in
    if_some _ _ c.bytes.result c.bytes.ensures.sector (λ s is.
    subst (λ (v : HeartView). slice_get (latest_by i (logs_of v.author.known)) lba ≡ Some s.now) c.self.view_is
    (subst (λ (logs : Logs). slice_get (latest_by i logs) lba ≡ Some s.now) k.legal.logs
    (sym (cached_sector i w c.self.inside.core lba mount heart.stands inside c.args.position by_world) ∙ is)))

pub returns-clause-size : goal.returns-clause-size
returns-clause-size g c =
    let k = c.self.invariant.0 in
    let i = g.M.Mount.past.image in
    let w = k.legal.world in
    let h = parts c.self.inside.core c.self.inside.author c.self.inside.intake.seat.me.0 in
    let mount = held_mount g.M.Mount.chronicle g.M.Mount.ring g.M.Mount.past g.M.Mount.key c.self.inside.intake.seat.table_id h k in
    let heart = held_heart g.M.Mount.chronicle g.M.Mount.ring g.M.Mount.past g.M.Mount.key c.self.inside.intake.seat.table_id h k in
    if_some _ _ c.bytes.result c.bytes.ensures.sector (λ s is. sectors_sized i w c.self.inside.core c.args.position s.now mount heart.stands is)
