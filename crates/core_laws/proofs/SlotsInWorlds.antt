-- The map once a stripe has landed, and where the blocks of a chunk stand.
use Rattle.std.proofs.Common.{◌≡◌, ℕ, ◌+◌, ◌*◌, ◌/◌, ◌%◌, ◌<◌, ◌&&◌, Bool, true, Some, Option, List, length, refl, sym, subst, ap, ◌∙◌, arith, append-nil}
use Rattle.std.specs.Prelude.{is_some}
use Rattle.std.specs.List.{find, enumerate_from}
use Rattle.std.specs.Option.{unwrap_or}
use Rattle.pblk_model.specs.declared.shape.Shape.{Shape}
use Rattle.pblk_model.specs.Chunk.{Block}
use Rattle.pblk_model.specs.Image.{Image}
use Rattle.pblk_world.specs.Events.{Landed, Decides, Logged}
use Rattle.pblk_world.specs.World.{World, Logs, log_of}
use Rattle.pblk_world.specs.EngineLog.{Opened, Opening, takes, Placed, bears_position}
use Rattle.pblk_world.specs.Space.{is_readable_in}
use Rattle.stripe_placer.specs.OpenLines.{width}
use Rattle.core_laws.specs.Stepping.{after}
use Rattle.core_laws.specs.OpenedLines.{as_opened, is_stripe_at}
use Rattle.core_laws.specs.PlacerOf.{unanswered_on}
use Rattle.pblk_world.specs.LegalMounts.{IsLegalMount}
use Rattle.core_laws.specs.SlotOf.{slot_of}
use Rattle.core_laws.proofs.StripesByPlace.{find_only, not_at}
use Rattle.core_laws.proofs.Answered.{first_unanswered}
use Rattle.core_laws.specs.ChunkBlocks.{chunk_blocks, can_be_read, AreInRows}
use Rattle.core_laws.specs.ReadSlots.{block_read, address_of_block, read_slot}
use Rattle.core_laws.proofs.HeldOnce.{held_once}
use Rattle.core_laws.proofs.LandedWindow.{landed_now}
use Rattle.core_laws.proofs.LandedSlots.{slot_now}
use Rattle.pblk_model.proofs.Maps.{any_found}
use Rattle.pblk_model.proofs.Options.{some_mapped}
use Rattle.pblk_world.proofs.EngineLogLemmas.{takes_more}

pub slot_landed : (i : Image) (w : World) (unit event : ℕ) (knows : List ℕ) (p : Placed) (o : Opening) (lba : ℕ) → IsLegalMount i w
    → unanswered_on (log_of w 0) unit ≡ Some p → p.life ≡ Opened o → AreInRows i.shape (log_of w 0) o unit
    → slot_of i (after (log_of w) (Landed unit event) knows) lba
    ≡ read_slot i (log_of w) o unit (block_read i.shape (after (log_of w) (Landed unit event) knows 0) o unit) (slot_of i (log_of w) lba)
slot_landed i w unit event knows p o lba mount waits life rows =
    let l : Logged = record { event = Decides (Landed unit event); knows = knows } in
    subst (λ u. slot_of i (after (log_of w) (Landed unit event) knows) lba ≡ read_slot i (log_of w) o u
    (block_read i.shape (after (log_of w) (Landed unit event) knows 0) o u) (slot_of i (log_of w) lba))
    (first_unanswered (log_of w 0) unit p waits).of_unit
    (slot_now i (log_of w) (Landed unit event) knows p o lba (record {
      now = landed_now i w unit event knows p o mount waits life rows;
      once = held_once i w mount;
      takes = takes_more (log_of w 0) l ∙ append-nil (takes (log_of w 0));
      begins = refl;
    }))

-- the address by the stripe's number in its line
pub address_at : (i : Image) (logs : Logs) (o : Opening) (unit block j : ℕ) → 0 < i.shape.ws_opt → 0 < width (as_opened i logs o)
    → j < length (as_opened i logs o).stripes
    → is_stripe_at i.shape (as_opened i logs o) unit (block / i.shape.ws_opt * i.shape.ws_opt) j ≡ true
    → address_of_block i logs o unit block ≡ j * i.shape.ws_opt + block % i.shape.ws_opt
address_at i logs o unit block j some wide inside there =
    let from : 0 + j ≡ j = omega arith in
    ap (λ (x : Option ℕ). unwrap_or x 0 * i.shape.ws_opt + block % i.shape.ws_opt)
    (find_only (is_stripe_at i.shape (as_opened i logs o) unit (block / i.shape.ws_opt * i.shape.ws_opt)) (length (as_opened i logs o).stripes) 0 j inside
    (ap (is_stripe_at i.shape (as_opened i logs o) unit (block / i.shape.ws_opt * i.shape.ws_opt)) from ∙ there)
    (λ m other. not_at i.shape (as_opened i logs o) unit (block / i.shape.ws_opt * i.shape.ws_opt) m j some wide there (λ e. other (e ∙ sym from)))
    ∙ ap (λ m. Some m) from)

pub read_is_some : (s : Shape) (log : List Logged) (o : Opening) (unit position : ℕ)
    → can_be_read s log o unit position ≡ is_some (block_read s log o unit position)
read_is_some s log o unit position =
    let test : ℕ × Block → Bool = λ b. bears_position s position b.1 && is_readable_in s log unit b.0 (Opened o) in
    any_found test (enumerate_from 0 (chunk_blocks log o unit))
    ∙ sym (some_mapped (λ (b : ℕ × Block). b.0) (find test (enumerate_from 0 (chunk_blocks log o unit))))
