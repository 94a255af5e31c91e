-- No stripe bears a position twice.
use Rattle.std.proofs.Common.{◌≡◌, inl, inr, ℕ, ◌+◌, ◌-◌, ◌≤◌, ◌==◌, ◌&&◌, zero, suc, not, nat_eq, Bool, true, false, cond, List, [], ◌∷◌, ◌++◌, length, take, drop, replicate, refl, sym, subst, ap, ◌∙◌, arith, length-append}
use Rattle.std.specs.Prelude.{map, slice_range, is_some}
use Rattle.std.specs.List.{AllByRecursion, filter, range_with_len}
use Rattle.std.proofs.lemmas.Bool.{eqb-true}
use Rattle.std.proofs.lemmas.List.Elements.{filter-append}
use Rattle.pblk_model.specs.declared.shape.Shape.{Shape}
use Rattle.pblk_model.specs.Chunk.{Block}
use Rattle.pblk_model.specs.Blocks.{blocks_of}
use Rattle.pblk_model.specs.Image.{Image}
use Rattle.pblk_model.specs.Marks.{meta_lba, meta_mark, pad_block}
use Rattle.pblk_model.specs.LineOrder.{start_len, end_len}
use Rattle.pblk_model.specs.StartRecord.{start_bytes}
use Rattle.pblk_model.specs.EndRecord.{end_bytes}
use Rattle.pblk_model.specs.Records.{named}
use Rattle.pblk_world.specs.Events.{Stripe, Logged}
use Rattle.pblk_world.specs.World.{World, Logs, log_of}
use Rattle.pblk_world.specs.EngineLog.{Taken, takes, Opening, Placed, placements, block_of_taken, bears_position}
use Rattle.pblk_world.specs.Fronts.{first_position, waits, was_placed, waiting}
use Rattle.pblk_world.specs.Placing.{next_address, end_address, end_record, MayPlace, data_blocks, record_blocks}
use Rattle.pblk_world.specs.Victims.{engine_prefix}
use Rattle.pblk_world.specs.LegalMounts.{IsLegalMount}
use Rattle.world_laws.proofs.LineStripes.{IsKind}
use Rattle.world_laws.proofs.Made.{IsMade, made, own_then}
use Rattle.world_laws.proofs.Openings.{placed_at}
use Rattle.world_laws.proofs.Stripes.{IsPlaced, placed_is}
use Rattle.core_laws.specs.PlacerOf.{positions_of}
use Rattle.core_laws.specs.Positions.{AreNumbered, AreMarked}
use Rattle.core_laws.proofs.PlacedPositions.{unnamed}
use Rattle.core_laws.proofs.SyncedWindow.{numbered_above}
use Rattle.core_laws.proofs.UsersEntries.{AreInOrder, in_order}
use Rattle.pblk_model.proofs.Lists.{IsAmong, all_imply, all_replicated, among_all}
use Rattle.pblk_model.proofs.Maps.{fewer_taken, filter_none}
use Rattle.pblk_model.proofs.Parts.{all_dropped, all_taken, contained_among}
use Rattle.pblk_model.proofs.Tests.{other_number}
use Rattle.pblk_model.proofs.MarksLemmas.{accepted_small}

unfoldable pub times : Shape → ℕ → List Block → ℕ
times s q bs = length (filter (bears_position s q) bs)

abbrev pub BearsOnce : Shape → List Block → Type 0
BearsOnce s bs = (q : ℕ) → times s q bs ≤ 1

-- ---- blocks that bear nothing

abbrev pub BearsNone : Shape → Block → Type 0
BearsNone s b = (q : ℕ) → bears_position s q b ≡ false

none_by : (s : Shape) (b : Block) → is_some (named s b.mark) ≡ false → BearsNone s b
none_by s b none = λ q. ap (λ c. c && (b.mark.position == q)) none

no_times : (s : Shape) (q : ℕ) (bs : List Block) → AllByRecursion (BearsNone s) bs → times s q bs ≡ 0
unfolding times
no_times s q bs all = ap length
    (filter_none (bears_position s q) bs (all_imply (BearsNone s) (λ (b : Block). bears_position s q b ≡ false) (λ b none. none q) bs all))

pub pads_none : (s : Shape) → s.capacity ≤ meta_lba → BearsNone s (pad_block s)
pads_none s small = none_by s (pad_block s) (unnamed s (pad_block s).mark small (omega arith) (λ e. absurd (omega (arith, e))))

pub records_none : (s : Shape) (size seq count : ℕ) (bytes : List ℕ) → s.capacity ≤ meta_lba
    → AllByRecursion (BearsNone s) (blocks_of size bytes (replicate count (meta_mark seq)))
records_none s size seq zero bytes small = tt
records_none s size seq (suc count) bytes small = (
  none_by s (record { sector = take size bytes; mark = meta_mark seq }) (unnamed s (meta_mark seq) small (omega arith) (λ e. absurd (omega (arith, e)))),
  records_none s size seq count (drop size bytes) small,
)

part_once : (s : Shape) (seq count : ℕ) (bytes : List ℕ) (from to : ℕ) → s.capacity ≤ meta_lba
    → BearsOnce s (slice_range (record_blocks s seq count bytes) from to)
part_once s seq count bytes from to small = λ q.
    let none : times s q (slice_range (record_blocks s seq count bytes) from to) ≡ 0 = no_times s q (slice_range (record_blocks s seq count bytes) from to)
    (all_taken (BearsNone s) (to - from) (drop from (record_blocks s seq count bytes))
    (all_dropped (BearsNone s) from (record_blocks s seq count bytes) (records_none s s.sector seq count bytes small))) in
    omega arith

-- ---- entries

at_position : ℕ → Taken → Bool
at_position q t = t.mark.position == q

-- of those with positions in order at most one has it
one_numbered : (q a : ℕ) (ts : List Taken) → positions_of ts ≡ range_with_len a (length ts)
    → AllByRecursion (λ (t : Taken). t.mark.position ≡ t.entry.position) ts → length (filter (at_position q) ts) ≤ 1
unfolding at_position
one_numbered q a [] is marked = omega arith
one_numbered q a (t ∷ ts) is marked = go (nat_eq t.mark.position q) refl (one_numbered q (a + 1) ts rest marked.1)
  where
    rest : positions_of ts ≡ range_with_len (a + 1) (length ts)
    rest = cc

    first : t.entry.position ≡ a
    first = cc

    go : (b : Bool) → nat_eq t.mark.position q ≡ b → length (filter (at_position q) ts) ≤ 1
        → length (cond b (t ∷ filter (at_position q) ts) (filter (at_position q) ts)) ≤ 1
    go false e few = few
    go true e few =
        let same : t.mark.position ≡ q = eqb-true t.mark.position q e in
        let own : t.mark.position ≡ t.entry.position = marked.0 in
        let none : length (filter (at_position q) ts) ≡ 0 =
        ap length (filter_none (at_position q) ts
        (later ts (numbered_above (a + 1) ts rest) marked.1 (let at : t.entry.position ≡ a = first in omega arith))) in
        omega arith
      where
        later : (us : List Taken) → AllByRecursion (λ (u : Taken). a + 1 ≤ u.entry.position) us
            → AllByRecursion (λ (u : Taken). u.mark.position ≡ u.entry.position) us → q ≡ a → AllByRecursion (λ (u : Taken). at_position q u ≡ false) us
        later [] above marks is = tt
        later (u ∷ us) above marks is =
            let high : a + 1 ≤ u.entry.position = above.0 in
            let own : u.mark.position ≡ u.entry.position = marks.0 in
            (other_number u.mark.position q (λ e. absurd (omega arith)), later us above.1 marks.1 is)

-- what passes either of two tests that no element passes both of, one after another
either_or : {X : Type 0} (f g h : X → Bool) (xs : List X)
    → length (filter f (filter (λ x. g x && h x) xs)) + length (filter f (filter (λ x. not (h x)) xs)) ≤ length (filter f xs)
either_or f g h [] = omega arith
either_or {X} f g h (x ∷ xs) = go (filter (λ y. g y && h y) xs) (filter (λ y. not (h y)) xs) (f x) (g x) (h x) refl (either_or f g h xs)
  where
    first : (bs cs ks : List X) (a : Bool) → length bs + length cs ≤ length ks → length (cond a (x ∷ bs) bs) + length cs ≤ length (cond a (x ∷ ks) ks)
    first bs cs ks true rest = omega arith
    first bs cs ks false rest = rest

    second : (bs cs ks : List X) (a : Bool) → length bs + length cs ≤ length ks → length bs + length (cond a (x ∷ cs) cs) ≤ length (cond a (x ∷ ks) ks)
    second bs cs ks true rest = omega arith
    second bs cs ks false rest = rest

    none : (bs cs ks : List X) (a : Bool) → length bs + length cs ≤ length ks → length bs + length cs ≤ length (cond a (x ∷ ks) ks)
    none bs cs ks true rest = omega arith
    none bs cs ks false rest = rest

    go : (bs cs : List X) (a b c : Bool) → f x ≡ a → length (filter f bs) + length (filter f cs) ≤ length (filter f xs)
        → length (filter f (cond (b && c) (x ∷ bs) bs)) + length (filter f (cond (not c) (x ∷ cs) cs)) ≤ length (cond a (x ∷ filter f xs) (filter f xs))
    go bs cs a true true e rest =
        subst (λ t. length (cond t (x ∷ filter f bs) (filter f bs)) + length (filter f cs) ≤ length (cond a (x ∷ filter f xs) (filter f xs))) (sym e)
        (first (filter f bs) (filter f cs) (filter f xs) a rest)
    go bs cs a false true e rest = none (filter f bs) (filter f cs) (filter f xs) a rest
    go bs cs a true false e rest =
        subst (λ t. length (filter f bs) + length (cond t (x ∷ filter f cs) (filter f cs)) ≤ length (cond a (x ∷ filter f xs) (filter f xs))) (sym e)
        (second (filter f bs) (filter f cs) (filter f xs) a rest)
    go bs cs a false false e rest =
        subst (λ t. length (filter f bs) + length (cond t (x ∷ filter f cs) (filter f cs)) ≤ length (cond a (x ∷ filter f xs) (filter f xs))) (sym e)
        (second (filter f bs) (filter f cs) (filter f xs) a rest)

-- an entry waits once, placed before or not
one_waits : (s : Shape) (log : List Logged) (q : ℕ) → AreNumbered log → AreMarked log → length (filter (at_position q) (waiting s log)) ≤ 1
one_waits s log q numbered marked =
    let again : List Taken = filter (λ t. waits s log t && was_placed s log t) (takes log) in
    let new : List Taken = filter (λ t. not (was_placed s log t)) (takes log) in
    let sum : length (filter (at_position q) (waiting s log)) ≡ length (filter (at_position q) again) + length (filter (at_position q) new) =
    ap length (filter-append (at_position q) again new) ∙ length-append (filter (at_position q) again) (filter (at_position q) new) in
    let few : length (filter (at_position q) again) + length (filter (at_position q) new) ≤ length (filter (at_position q) (takes log)) =
    either_or (at_position q) (waits s log) (was_placed s log) (takes log) in
    let one : length (filter (at_position q) (takes log)) ≤ 1 = one_numbered q (first_position log) (takes log) numbered marked in
    omega arith

-- a block bears no position but its mark's
fewer_bear : (s : Shape) (q : ℕ) (ts : List Taken) → times s q (map block_of_taken ts) ≤ length (filter (at_position q) ts)
unfolding times at_position
fewer_bear s q [] = omega arith
fewer_bear s q (t ∷ ts) = go (is_some (named s t.mark)) (nat_eq t.mark.position q) (fewer_bear s q ts)
  where
    go : (a b : Bool) → times s q (map block_of_taken ts) ≤ length (filter (at_position q) ts)
        → length (cond (a && b) (block_of_taken t ∷ filter (bears_position s q) (map block_of_taken ts)) (filter (bears_position s q) (map block_of_taken ts)))
        ≤ length (cond b (t ∷ filter (at_position q) ts) (filter (at_position q) ts))
    go true true rest = omega arith
    go true false rest = rest
    go false true rest = omega arith
    go false false rest = rest

pub times_append : (s : Shape) (q : ℕ) (a b : List Block) → times s q (a ++ b) ≡ times s q a + times s q b
unfolding times
times_append s q a b = ap length (filter-append (bears_position s q) a b) ∙ length-append (filter (bears_position s q) a) (filter (bears_position s q) b)

data_once : (s : Shape) (log : List Logged) → s.capacity ≤ meta_lba → AreNumbered log → AreMarked log → BearsOnce s (data_blocks s log)
data_once s log small numbered marked = λ q.
    let bs : List Block = map block_of_taken (take s.ws_opt (waiting s log)) in
    let pads : List Block = replicate (s.ws_opt - length bs) (pad_block s) in
    let sum : times s q (bs ++ pads) ≡ times s q bs + times s q pads = times_append s q bs pads in
    let none : times s q pads ≡ 0 = no_times s q pads (all_replicated (BearsNone s) (s.ws_opt - length bs) (pad_block s) (pads_none s small)) in
    let some : times s q bs ≤ length (filter (at_position q) (take s.ws_opt (waiting s log))) = fewer_bear s q (take s.ws_opt (waiting s log)) in
    let less : length (filter (at_position q) (take s.ws_opt (waiting s log))) ≤ length (filter (at_position q) (waiting s log)) =
    fewer_taken (at_position q) s.ws_opt (waiting s log) in
    let one : length (filter (at_position q) (waiting s log)) ≤ 1 = one_waits s log q numbered marked in
    omega arith

by_kind : (i : Image) (logs : Logs) (stripe : Stripe) (o : Opening) → i.shape.capacity ≤ meta_lba → AreNumbered (logs 0) → AreMarked (logs 0)
    → IsKind i logs o stripe → BearsOnce i.shape stripe.blocks
by_kind i logs stripe o small numbered marked (inl is) =
    subst (BearsOnce i.shape) (sym is.blocks)
    (part_once i.shape o.start.seq (start_len i.shape) (start_bytes i.shape o.start) (next_address i.shape (logs 0) o - 0)
    (next_address i.shape (logs 0) o - 0 + i.shape.ws_opt) small)
by_kind i logs stripe o small numbered marked (inr (inl is)) =
    subst (BearsOnce i.shape) (sym is.blocks) (data_once i.shape (logs 0) small numbered marked)
by_kind i logs stripe o small numbered marked (inr (inr (inl is))) =
    subst (BearsOnce i.shape) (sym is.blocks)
    (part_once i.shape o.start.seq (end_len i.shape o.start.width) (end_bytes i.shape (end_record i.shape (logs 0) o))
    (next_address i.shape (logs 0) o - end_address i.shape o) (next_address i.shape (logs 0) o - end_address i.shape o + i.shape.ws_opt) small)
by_kind i logs stripe o small numbered marked (inr (inr (inr is))) = subst (BearsOnce i.shape) (sym is.blocks) (λ q.
    let none : times i.shape q (replicate i.shape.ws_opt (pad_block i.shape)) ≡ 0 =
    no_times i.shape q (replicate i.shape.ws_opt (pad_block i.shape))
    (all_replicated (BearsNone i.shape) i.shape.ws_opt (pad_block i.shape) (pads_none i.shape small)) in
    omega arith)

-- ---- in a world

pub borne_once : (i : Image) (w : World) → IsLegalMount i w → AllByRecursion (λ (p : Placed). BearsOnce i.shape p.stripe.blocks) (placements (log_of w 0))
borne_once i w mount = all_imply (IsAmong (placements (log_of w 0))) (λ (p : Placed). BearsOnce i.shape p.stripe.blocks) (λ p at. one p at)
    (placements (log_of w 0)) (among_all (placements (log_of w 0)))
  where
    one : (p : Placed) → IsAmong (placements (log_of w 0)) p → BearsOnce i.shape p.stripe.blocks
    one p at =
        let small : i.shape.capacity ≤ meta_lba = accepted_small i.shape mount.accepted in
        let is : IsPlaced (log_of w 0) p = placed_is (log_of w 0) p (contained_among (placements (log_of w 0)) p at) in
        let may : MayPlace i (engine_prefix p.number (log_of w)) p.stripe = placed_at i w p.number p.stripe is.logged mount.legal is.there is.event in
        let h : IsMade i w 0 p.number is.logged = made i w 0 p.number is.logged mount.legal is.there in
        let own : log_of h.before 0 ≡ take p.number (log_of w 0) = own_then i w 0 p.number is.logged h in
        let then_ : AreInOrder i.shape (log_of h.before 0) = in_order i h.before small h.legal in
        by_kind i (engine_prefix p.number (log_of w)) p.stripe may.opening small (subst AreNumbered own then_.numbered) (subst AreMarked own then_.marked)
        may.kind
