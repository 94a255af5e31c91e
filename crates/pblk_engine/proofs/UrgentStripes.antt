-- A stripe that is due, and has an entry, is placed where it is urgent: stripes of records and of
-- pads have none.
use Rattle.std.proofs.Common.{◌≡◌, ◌⊎◌, inl, inr, ℕ, ◌-◌, ◌<◌, ◌≤◌, ◌+◌, false, ◌||◌, List, [], ◌∷◌, length, drop, replicate, slice_range, refl, sym, subst, ap, ap₂, ◌∙◌}
use Rattle.std.specs.List.{AllByRecursion, list_any}
use Rattle.std.proofs.Math.Seq.{take-length}
use Rattle.pblk_model.specs.declared.shape.Shape.{Shape}
use Rattle.pblk_model.specs.Chunk.{Block}
use Rattle.pblk_model.specs.Image.{Image}
use Rattle.pblk_model.specs.EndRecord.{end_bytes}
use Rattle.pblk_model.specs.LineOrder.{end_len, start_len}
use Rattle.pblk_model.specs.Marks.{meta_lba, pad_block}
use Rattle.pblk_model.specs.StartRecord.{start_bytes}
use Rattle.pblk_world.specs.AtRest.{IsDue, IsUrgent}
use Rattle.pblk_world.specs.EngineLog.{Opening, bears_position}
use Rattle.pblk_world.specs.Events.{Logged, Stripe}
use Rattle.pblk_world.specs.Placing.{IsData, IsEnd, IsPad, IsStart, end_address, end_blocks, end_record, next_address, record_blocks, start_blocks, stripe_at}
use Rattle.pblk_world.specs.World.{Logs}
use Rattle.core_laws.proofs.BorneOnce.{BearsNone, pads_none, records_none}
use Rattle.pblk_world.specs.Reasons.{WasAsked, WasUrgent}
use Rattle.pblk_engine.proofs.Reasoned.{PlacesFor}
use Rattle.pblk_model.proofs.Lists.{all_replicated}
use Rattle.pblk_model.proofs.Parts.{all_dropped, all_taken}
use Rattle.pblk_model.proofs.Tests.{no_both}

none_borne : (s : Shape) (position : ℕ) (bs : List Block) → AllByRecursion (BearsNone s) bs → list_any (bears_position s position) bs ≡ false
none_borne s position [] all = refl
none_borne s position (b ∷ bs) all = ap₂ (λ x y. x || y) (all.0 position) (none_borne s position bs all.1)

of_record : (s : Shape) (seq count from to : ℕ) (bytes : List ℕ) → s.capacity ≤ meta_lba
    → AllByRecursion (BearsNone s) (slice_range (record_blocks s seq count bytes) from to)
of_record s seq count from to bytes small =
    all_taken (BearsNone s) (to - from) (drop from (record_blocks s seq count bytes))
    (all_dropped (BearsNone s) from (record_blocks s seq count bytes) (records_none s s.sector seq count bytes small))

pub placed_for : (i : Image) (logs : Logs) (pad : ℕ) (stripe : Stripe) → i.shape.capacity ≤ meta_lba → IsDue i logs pad stripe
    → (0 < pad → WasAsked i logs (length (logs 0)) pad) → PlacesFor i logs stripe
placed_for i logs pad stripe small due asked position bears = go due.kind
  where
    none : (bs : List Block) → stripe.blocks ≡ bs → AllByRecursion (BearsNone i.shape) bs → WasUrgent i logs (length (logs 0))
    none bs is all = no_both (list_any (bears_position i.shape position) stripe.blocks) bears
        (ap (list_any (bears_position i.shape position)) is ∙ none_borne i.shape position bs all)

    go : IsStart i logs due.opening stripe
        ⊎ (IsEnd i logs due.opening stripe ⊎ (IsPad i logs due.opening stripe ⊎ (IsData i logs due.opening stripe × IsUrgent i.shape (logs 0) pad)))
        → WasUrgent i logs (length (logs 0))
    go (inl start) =
        let o : Opening = due.opening in
        let a : ℕ = next_address i.shape (logs 0) o in
        none (stripe_at i.shape (start_blocks i.shape o) 0 a) start.blocks
        (of_record i.shape o.start.seq (start_len i.shape) (a - 0) (a - 0 + i.shape.ws_opt) (start_bytes i.shape o.start) small)
    go (inr (inl ends)) =
        let o : Opening = due.opening in
        let a : ℕ = next_address i.shape (logs 0) o in
        none (stripe_at i.shape (end_blocks i.shape (logs 0) o) (end_address i.shape o) a) ends.blocks
        (of_record i.shape o.start.seq (end_len i.shape o.start.width) (a - end_address i.shape o) (a - end_address i.shape o + i.shape.ws_opt)
        (end_bytes i.shape (end_record i.shape (logs 0) o)) small)
    go (inr (inr (inl pads))) = none (replicate i.shape.ws_opt (pad_block i.shape)) pads.blocks
        (all_replicated (BearsNone i.shape) i.shape.ws_opt (pad_block i.shape) (pads_none i.shape small))
    go (inr (inr (inr its))) = record {
      upto = pad;
      urgent = subst (λ (log : List Logged). IsUrgent i.shape log pad) (sym (take-length (logs 0))) its.1;
      asked = asked;
    }
