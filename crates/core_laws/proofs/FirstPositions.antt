-- No stripe holds a position before the mount's first.
use Rattle.std.proofs.Common.{◌≡◌, ◌⊎◌, inl, inr, ℕ, ◌+◌, ◌-◌, ◌≤◌, ◌==◌, ◌&&◌, ◌||◌, not, Bool, true, false, Some, List, [], ◌∷◌, ◌++◌, length, take, drop, replicate, refl, sym, subst, ap, ◌∙◌, arith, append-nil}
use Rattle.std.specs.Prelude.{map, slice_range, is_some}
use Rattle.std.specs.List.{AllByRecursion, filter, list_any}
use Rattle.std.proofs.lemmas.Bool.{eqb-true}
use Rattle.pblk_model.specs.declared.shape.Shape.{Shape}
use Rattle.pblk_model.specs.Chunk.{Block}
use Rattle.pblk_model.specs.Image.{Image}
use Rattle.pblk_model.specs.Marks.{meta_lba, pad_block}
use Rattle.pblk_model.specs.LineOrder.{start_len, end_len}
use Rattle.pblk_model.specs.StartRecord.{start_bytes}
use Rattle.pblk_model.specs.EndRecord.{end_bytes}
use Rattle.pblk_model.specs.Records.{named}
use Rattle.pblk_world.specs.Events.{EngineEvent, Place, Decides, Stripe, Logged}
use Rattle.pblk_world.specs.World.{World, Logs, log_of}
use Rattle.pblk_world.specs.EngineLog.{Begun, begun, Taken, takes, Opening, Placed, placements, block_of_taken, bears_position, holds_position}
use Rattle.pblk_world.specs.Fronts.{first_position, waits, was_placed, waiting}
use Rattle.pblk_world.specs.Placing.{next_address, end_address, end_record, IsStart, IsData, IsEnd, IsPad, data_blocks, record_blocks}
use Rattle.pblk_world.specs.Legal.{IsLegal, IsDecision}
use Rattle.pblk_world.proofs.Appending.{placements_more}
use Rattle.core_laws.specs.Positions.{AreNumbered, AreMarked}
use Rattle.core_laws.proofs.TakenNumbers.{numbered_after, first_stays}
use Rattle.core_laws.proofs.KeptPositions.{marked_after}
use Rattle.core_laws.proofs.KeptByEvents.{IsKept, kept}
use Rattle.core_laws.proofs.BorneOnce.{BearsNone, records_none, pads_none}
use Rattle.core_laws.proofs.SyncedWindow.{numbered_above}
use Rattle.pblk_model.proofs.Lists.{all_append, all_imply, all_replicated, all_true, zipped}
use Rattle.pblk_model.proofs.Maps.{all_filter}
use Rattle.pblk_model.proofs.Parts.{all_dropped, all_taken}
use Rattle.pblk_model.proofs.Tests.{no_both, second_of}

abbrev BearsFrom : Shape → ℕ → Block → Type 0
BearsFrom s n b = (q : ℕ) → bears_position s q b ≡ true → n ≤ q

holds_from : (s : Shape) (n : ℕ) (bs : List Block) → AllByRecursion (BearsFrom s n) bs → (q : ℕ) → list_any (bears_position s q) bs ≡ true → n ≤ q
holds_from s n [] all q e = absurd cc
holds_from s n (b ∷ bs) all q e = go (bears_position s q b) refl e (λ f. holds_from s n bs all.1 q f)
  where
    go : (c : Bool) → bears_position s q b ≡ c → (c || list_any (bears_position s q) bs) ≡ true → (list_any (bears_position s q) bs ≡ true → n ≤ q) → n ≤ q
    go true f g rest = all.0 q f
    go false f g rest = rest g

from_none : (s : Shape) (n : ℕ) (b : Block) → BearsNone s b → BearsFrom s n b
from_none s n b none = λ q e. no_both (bears_position s q b) e (none q)

part_from : (s : Shape) (n seq count : ℕ) (bytes : List ℕ) (from to : ℕ) → s.capacity ≤ meta_lba
    → AllByRecursion (BearsFrom s n) (slice_range (record_blocks s seq count bytes) from to)
part_from s n seq count bytes from to small = all_imply (BearsNone s) (BearsFrom s n) (from_none s n) (slice_range (record_blocks s seq count bytes) from to)
    (all_taken (BearsNone s) (to - from) (drop from (record_blocks s seq count bytes))
    (all_dropped (BearsNone s) from (record_blocks s seq count bytes) (records_none s s.sector seq count bytes small)))

-- an entry's mark is from the first position on
abbrev IsFrom : ℕ → Taken → Type 0
IsFrom n t = n ≤ t.mark.position

entry_from : (s : Shape) (n : ℕ) (t : Taken) → IsFrom n t → BearsFrom s n (block_of_taken t)
entry_from s n t above = λ q e. let same : t.mark.position ≡ q =
    eqb-true t.mark.position q (second_of (is_some (named s t.mark)) (t.mark.position == q) e) in omega arith

all_mapped : (s : Shape) (n : ℕ) (ts : List Taken) → AllByRecursion (IsFrom n) ts → AllByRecursion (BearsFrom s n) (map block_of_taken ts)
all_mapped s n [] all = tt
all_mapped s n (t ∷ ts) all = (entry_from s n t all.0, all_mapped s n ts all.1)

takes_from : (log : List Logged) → AreNumbered log → AreMarked log → AllByRecursion (IsFrom (first_position log)) (takes log)
takes_from log numbered marked =
    zipped (λ (t : Taken). first_position log ≤ t.entry.position) (λ (t : Taken). t.mark.position ≡ t.entry.position) (IsFrom (first_position log))
    (λ t a b. omega arith) (takes log) (numbered_above (first_position log) (takes log) numbered) marked

data_from : (s : Shape) (log : List Logged) → s.capacity ≤ meta_lba → AreNumbered log → AreMarked log
    → AllByRecursion (BearsFrom s (first_position log)) (data_blocks s log)
data_from s log small numbered marked =
    let n : ℕ = first_position log in
    let all : AllByRecursion (IsFrom (first_position log)) (waiting s log) =
    all_append (IsFrom (first_position log)) (filter (λ t. waits s log t && was_placed s log t) (takes log))
    (filter (λ t. not (was_placed s log t)) (takes log))
    (all_filter (IsFrom (first_position log)) (λ t. waits s log t && was_placed s log t) (takes log) (takes_from log numbered marked))
    (all_filter (IsFrom (first_position log)) (λ t. not (was_placed s log t)) (takes log) (takes_from log numbered marked)) in
    let bs : List Block = map block_of_taken (take s.ws_opt (waiting s log)) in
    all_append (BearsFrom s n) bs (replicate (s.ws_opt - length bs) (pad_block s))
    (all_mapped s n (take s.ws_opt (waiting s log)) (all_taken (IsFrom (first_position log)) s.ws_opt (waiting s log) all))
    (all_replicated (BearsFrom s n) (s.ws_opt - length bs) (pad_block s) (from_none s n (pad_block s) (pads_none s small)))

by_kind : (i : Image) (logs : Logs) (stripe : Stripe) (o : Opening) → i.shape.capacity ≤ meta_lba → AreNumbered (logs 0) → AreMarked (logs 0)
    → IsStart i logs o stripe ⊎ (IsData i logs o stripe ⊎ (IsEnd i logs o stripe ⊎ IsPad i logs o stripe))
    → AllByRecursion (BearsFrom i.shape (first_position (logs 0))) stripe.blocks
by_kind i logs stripe o small numbered marked (inl is) =
    subst (AllByRecursion (BearsFrom i.shape (first_position (logs 0)))) (sym is.blocks)
    (part_from i.shape (first_position (logs 0)) o.start.seq (start_len i.shape) (start_bytes i.shape o.start) (next_address i.shape (logs 0) o - 0)
    (next_address i.shape (logs 0) o - 0 + i.shape.ws_opt) small)
by_kind i logs stripe o small numbered marked (inr (inl is)) =
    subst (AllByRecursion (BearsFrom i.shape (first_position (logs 0)))) (sym is.blocks) (data_from i.shape (logs 0) small numbered marked)
by_kind i logs stripe o small numbered marked (inr (inr (inl is))) =
    subst (AllByRecursion (BearsFrom i.shape (first_position (logs 0)))) (sym is.blocks)
    (part_from i.shape (first_position (logs 0)) o.start.seq (end_len i.shape o.start.width) (end_bytes i.shape (end_record i.shape (logs 0) o))
    (next_address i.shape (logs 0) o - end_address i.shape o) (next_address i.shape (logs 0) o - end_address i.shape o + i.shape.ws_opt) small)
by_kind i logs stripe o small numbered marked (inr (inr (inr is))) =
    subst (AllByRecursion (BearsFrom i.shape (first_position (logs 0)))) (sym is.blocks)
    (all_replicated (BearsFrom i.shape (first_position (logs 0))) i.shape.ws_opt (pad_block i.shape)
    (from_none i.shape (first_position (logs 0)) (pad_block i.shape) (pads_none i.shape small)))

-- ---- in a world

abbrev pub AreFrom : Shape → List Logged → Type 0
AreFrom s log = AllByRecursion (λ (p : Placed). (q : ℕ) → holds_position s q p ≡ true → first_position log ≤ q) (placements log)

pub record IsFromFirst (s : Shape) (log : List Logged) : Type 0 where
  pub numbered : AreNumbered log
  pub marked : AreMarked log
  pub from : AreFrom s log

from_next : (i : Image) (known : Logs) (log : List Logged) (beginning : Begun) (e : EngineEvent) (knows : List ℕ) → i.shape.capacity ≤ meta_lba
    → begun log ≡ Some beginning → known 0 ≡ log → IsDecision i known beginning e → IsFromFirst i.shape log
    → AreFrom i.shape (log ++ record { event = Decides e; knows = knows } ∷ [])
from_next i known log beginning (Place stripe) knows small begins own may was =
    let l : Logged = record { event = Decides (Place stripe); knows = knows } in
    let new : (q : ℕ) → list_any (bears_position i.shape q) stripe.blocks ≡ true → first_position (log ++ l ∷ []) ≤ q = λ q e.
    let same : first_position (log ++ l ∷ []) ≡ first_position log = first_stays log l beginning begins in
    let known_ : first_position (known 0) ≡ first_position log = ap first_position own in
    let above : first_position (known 0) ≤ q = holds_from i.shape (first_position (known 0)) stripe.blocks
    (by_kind i known stripe may.opening small (subst AreNumbered (sym own) was.numbered) (subst AreMarked (sym own) was.marked) may.kind) q e in
    omega arith in
    subst (AllByRecursion (λ (p : Placed). (q : ℕ) → holds_position i.shape q p ≡ true → first_position (log ++ l ∷ []) ≤ q)) (sym (placements_more log l))
    (all_append (λ (p : Placed). (q : ℕ) → holds_position i.shape q p ≡ true → first_position (log ++ l ∷ []) ≤ q) (placements log) (_ ∷ [])
    (subst (λ n. AllByRecursion (λ (p : Placed). (q : ℕ) → holds_position i.shape q p ≡ true → n ≤ q) (placements log))
    (sym (first_stays log l beginning begins)) was.from) (new, tt))
from_next i known log beginning e knows small begins own may was =
    let l : Logged = record { event = Decides e; knows = knows } in
    subst (AllByRecursion (λ (p : Placed). (q : ℕ) → holds_position i.shape q p ≡ true → first_position (log ++ l ∷ []) ≤ q))
    (sym (placements_more log l ∙ append-nil (placements log)))
    (subst (λ n. AllByRecursion (λ (p : Placed). (q : ℕ) → holds_position i.shape q p ≡ true → n ≤ q) (placements log))
    (sym (first_stays log l beginning begins)) was.from)

from_kept : (i : Image) → i.shape.capacity ≤ meta_lba → IsKept i (λ e. true) (IsFromFirst i.shape)
from_kept i small = record {
  empty = record { numbered = refl; marked = tt; from = tt };
  first = λ known b knows may. record { numbered = refl; marked = tt; from = tt };
  next = λ known log beginning e knows begins own passes may was. record {
    numbered = numbered_after i known log beginning e knows begins own may was.numbered;
    marked = marked_after i known log beginning e knows may was.marked;
    from = from_next i known log beginning e knows small begins own may was;
  };
}

pub placed_from : (i : Image) (w : World) → i.shape.capacity ≤ meta_lba → IsLegal i w → AreFrom i.shape (log_of w 0)
placed_from i w small legal = (kept i (λ e. true) (IsFromFirst i.shape) (from_kept i small) w legal (all_true (log_of w 0))).from
