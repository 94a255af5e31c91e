-- A block that a stripe writes is that of an entry that was taken, where it bears a position.
use Rattle.std.proofs.Common.{◌≡◌, ◌⊎◌, inl, inr, ℕ, ◌+◌, ◌-◌, ◌≤◌, true, false, List, [], ◌∷◌, ◌++◌, length, take, drop, replicate, refl, sym, subst, ◌∙◌, append-nil}
use Rattle.std.specs.Prelude.{map, slice_range}
use Rattle.std.specs.List.{AllByRecursion}
use Rattle.std.specs.Option.{option_to_list}
use Rattle.pblk_model.specs.declared.shape.Shape.{Shape}
use Rattle.pblk_model.specs.Chunk.{Block}
use Rattle.pblk_model.specs.Image.{Image}
use Rattle.pblk_model.specs.Marks.{meta_lba, pad_block}
use Rattle.pblk_model.specs.LineOrder.{start_len, end_len}
use Rattle.pblk_model.specs.StartRecord.{start_bytes}
use Rattle.pblk_model.specs.EndRecord.{end_bytes}
use Rattle.pblk_world.specs.Events.{EngineEvent, Place, Decides, Stripe, Logged}
use Rattle.pblk_world.specs.World.{World, Logs, log_of}
use Rattle.pblk_world.specs.EngineLog.{Begun, Taken, taken_by, takes, Opening, Placed, placements, block_of_taken, bears_position}
use Rattle.pblk_world.specs.Fronts.{waiting}
use Rattle.pblk_world.specs.Placing.{next_address, end_address, end_record, IsStart, IsData, IsEnd, IsPad, data_blocks, record_blocks}
use Rattle.pblk_world.specs.Legal.{IsLegal, IsDecision}
use Rattle.pblk_world.proofs.Appending.{placements_more}
use Rattle.core_laws.proofs.KeptByEvents.{IsKept, kept}
use Rattle.core_laws.proofs.BorneOnce.{BearsNone, records_none, pads_none}
use Rattle.core_laws.proofs.PlacedInOrder.{waiting_among}
use Rattle.pblk_model.proofs.Lists.{IsAmong, all_append, all_imply, all_replicated, all_true, among_more}
use Rattle.pblk_model.proofs.Parts.{all_dropped, all_taken}
use Rattle.pblk_world.proofs.EngineLogLemmas.{takes_more}

-- it is that of one of these entries
pub record IsOfOne (ts : List Taken) (b : Block) : Type 0 where
  pub entry : Taken
  pub among : IsAmong ts entry
  pub its : b ≡ block_of_taken entry

abbrev pub IsEntrys : Shape → List Taken → Block → Type 0
IsEntrys s ts b = (q : ℕ) → bears_position s q b ≡ true → IsOfOne ts b

abbrev pub AreEntries : Shape → List Logged → Type 0
AreEntries s log = AllByRecursion (λ p. AllByRecursion (IsEntrys s (takes log)) p.stripe.blocks) (placements log)

no_entrys : (s : Shape) (ts : List Taken) (b : Block) → BearsNone s b → IsEntrys s ts b
no_entrys s ts b none q e = go (bears_position s q b) (none q) e
  where
    go : (c : _) → c ≡ false → c ≡ true → IsOfOne ts b
    go true f g = absurd (cc)
    go false f g = absurd (cc)

-- ---- entries that wait

all_mapped : (s : Shape) (all ts : List Taken) → AllByRecursion (IsAmong all) ts → AllByRecursion (IsEntrys s all) (map block_of_taken ts)
all_mapped s all [] each = tt
all_mapped s all (t ∷ ts) each = (λ q e. record { entry = t; among = each.0; its = refl }, all_mapped s all ts each.1)

-- ---- a stripe

part_entrys : (s : Shape) (ts : List Taken) (seq count : ℕ) (bytes : List ℕ) (from to : ℕ) → s.capacity ≤ meta_lba
    → AllByRecursion (IsEntrys s ts) (slice_range (record_blocks s seq count bytes) from to)
part_entrys s ts seq count bytes from to small =
    all_imply (BearsNone s) (IsEntrys s ts) (no_entrys s ts) (slice_range (record_blocks s seq count bytes) from to)
    (all_taken (BearsNone s) (to - from) (drop from (record_blocks s seq count bytes))
    (all_dropped (BearsNone s) from (record_blocks s seq count bytes) (records_none s s.sector seq count bytes small)))

data_entrys : (s : Shape) (log : List Logged) → s.capacity ≤ meta_lba → AllByRecursion (IsEntrys s (takes log)) (data_blocks s log)
data_entrys s log small =
    let bs : List Block = map block_of_taken (take s.ws_opt (waiting s log)) in
    all_append (IsEntrys s (takes log)) bs (replicate (s.ws_opt - length bs) (pad_block s))
    (all_mapped s (takes log) (take s.ws_opt (waiting s log)) (all_taken (IsAmong (takes log)) s.ws_opt (waiting s log) (waiting_among s log)))
    (all_replicated (IsEntrys s (takes log)) (s.ws_opt - length bs) (pad_block s) (no_entrys s (takes log) (pad_block s) (pads_none s small)))

by_kind : (i : Image) (logs : Logs) (stripe : Stripe) (o : Opening) → i.shape.capacity ≤ meta_lba
    → IsStart i logs o stripe ⊎ (IsData i logs o stripe ⊎ (IsEnd i logs o stripe ⊎ IsPad i logs o stripe))
    → AllByRecursion (IsEntrys i.shape (takes (logs 0))) stripe.blocks
by_kind i logs stripe o small (inl is) = subst (AllByRecursion (IsEntrys i.shape (takes (logs 0)))) (sym is.blocks)
    (part_entrys i.shape (takes (logs 0)) o.start.seq (start_len i.shape) (start_bytes i.shape o.start) (next_address i.shape (logs 0) o - 0)
    (next_address i.shape (logs 0) o - 0 + i.shape.ws_opt) small)
by_kind i logs stripe o small (inr (inl is)) = subst (AllByRecursion (IsEntrys i.shape (takes (logs 0)))) (sym is.blocks) (data_entrys i.shape (logs 0) small)
by_kind i logs stripe o small (inr (inr (inl is))) = subst (AllByRecursion (IsEntrys i.shape (takes (logs 0)))) (sym is.blocks)
    (part_entrys i.shape (takes (logs 0)) o.start.seq (end_len i.shape o.start.width) (end_bytes i.shape (end_record i.shape (logs 0) o))
    (next_address i.shape (logs 0) o - end_address i.shape o) (next_address i.shape (logs 0) o - end_address i.shape o + i.shape.ws_opt) small)
by_kind i logs stripe o small (inr (inr (inr is))) = subst (AllByRecursion (IsEntrys i.shape (takes (logs 0)))) (sym is.blocks)
    (all_replicated (IsEntrys i.shape (takes (logs 0))) i.shape.ws_opt (pad_block i.shape)
    (no_entrys i.shape (takes (logs 0)) (pad_block i.shape) (pads_none i.shape small)))

-- ---- more entries

one_more : (s : Shape) (ts more : List Taken) (b : Block) → IsEntrys s ts b → IsEntrys s (ts ++ more) b
one_more s ts more b is q e = let one : IsOfOne ts b = is q e in record { entry = one.entry; among = among_more ts more one.entry one.among; its = one.its }

all_more : (s : Shape) (ts more : List Taken) (ps : List Placed) → AllByRecursion (λ p. AllByRecursion (IsEntrys s ts) p.stripe.blocks) ps
    → AllByRecursion (λ p. AllByRecursion (IsEntrys s (ts ++ more)) p.stripe.blocks) ps
all_more s ts more ps all = all_imply (λ p. AllByRecursion (IsEntrys s ts) p.stripe.blocks) (λ p. AllByRecursion (IsEntrys s (ts ++ more)) p.stripe.blocks)
    (λ p each. all_imply (IsEntrys s ts) (IsEntrys s (ts ++ more)) (one_more s ts more) p.stripe.blocks each) ps all

-- ---- in a world

entries_next : (i : Image) (known : Logs) (log : List Logged) (beginning : Begun) (e : EngineEvent) (knows : List ℕ) → i.shape.capacity ≤ meta_lba
    → known 0 ≡ log → IsDecision i known beginning e → AreEntries i.shape log
    → AreEntries i.shape (log ++ record { event = Decides e; knows = knows } ∷ [])
entries_next i known log beginning (Place stripe) knows small own may was =
    let l : Logged = record { event = Decides (Place stripe); knows = knows } in
    let same : takes (log ++ l ∷ []) ≡ takes log = takes_more log l ∙ append-nil (takes log) in
    let new : AllByRecursion (IsEntrys i.shape (takes log)) stripe.blocks =
    subst (λ (xs : List Logged). AllByRecursion (IsEntrys i.shape (takes xs)) stripe.blocks) own (by_kind i known stripe may.opening small may.kind) in
    subst (λ (ts : List Taken). AllByRecursion (λ (p : Placed). AllByRecursion (IsEntrys i.shape ts) p.stripe.blocks) (placements (log ++ l ∷ []))) (sym same)
    (subst (AllByRecursion (λ (p : Placed). AllByRecursion (IsEntrys i.shape (takes log)) p.stripe.blocks)) (sym (placements_more log l))
    (all_append (λ (p : Placed). AllByRecursion (IsEntrys i.shape (takes log)) p.stripe.blocks) (placements log) (_ ∷ []) was (new, tt)))
entries_next i known log beginning e knows small own may was =
    let l : Logged = record { event = Decides e; knows = knows } in
    subst (AllByRecursion (λ (p : Placed). AllByRecursion (IsEntrys i.shape (takes (log ++ l ∷ []))) p.stripe.blocks))
    (sym (placements_more log l ∙ append-nil (placements log)))
    (subst (λ (ts : List Taken). AllByRecursion (λ (p : Placed). AllByRecursion (IsEntrys i.shape ts) p.stripe.blocks) (placements log))
    (sym (takes_more log l))
    (all_more i.shape (takes log) (option_to_list (taken_by l.event)) (placements log) was))

entries_kept : (i : Image) → i.shape.capacity ≤ meta_lba → IsKept i (λ e. true) (AreEntries i.shape)
entries_kept i small = record {
  empty = tt;
  first = λ known b knows may. tt;
  next = λ known log beginning e knows begins own passes may was. entries_next i known log beginning e knows small own may was;
}

pub placed_entries : (i : Image) (w : World) → i.shape.capacity ≤ meta_lba → IsLegal i w → AreEntries i.shape (log_of w 0)
placed_entries i w small legal = kept i (λ e. true) (AreEntries i.shape) (entries_kept i small) w legal (all_true (log_of w 0))
