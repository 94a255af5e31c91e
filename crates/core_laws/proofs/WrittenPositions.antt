-- In a stripe the blocks that bear positions come first: the first blocks of it bear the first
-- positions.
use Rattle.std.proofs.Common.{◌≡◌, inl, inr, ℕ, ◌+◌, ◌-◌, ◌≤◌, ◌&&◌, not, zero, suc, Some, None, Option, List, [], ◌∷◌, ◌++◌, map, length, take, drop, replicate, refl, sym, subst, ap, ◌∙◌}
use Rattle.std.specs.List.{AllByRecursion, Contains, cons_option, filter, filter_map}
use Rattle.pblk_model.specs.declared.shape.Shape.{Shape}
use Rattle.pblk_model.specs.Chunk.{Block}
use Rattle.pblk_model.specs.EndRecord.{end_bytes}
use Rattle.pblk_model.specs.Image.{Image}
use Rattle.pblk_model.specs.LineOrder.{start_len, end_len}
use Rattle.pblk_model.specs.Marks.{meta_lba, pad_block}
use Rattle.pblk_model.specs.StartRecord.{start_bytes}
use Rattle.pblk_world.specs.EngineLog.{Opening, Placed, Taken, block_of_taken, placements, takes}
use Rattle.pblk_world.specs.Events.{Logged, Stripe}
use Rattle.pblk_world.specs.Fronts.{waiting, waits, was_placed}
use Rattle.pblk_world.specs.Placing.{MayPlace, data_blocks, end_address, end_record, next_address}
use Rattle.pblk_world.specs.Victims.{engine_prefix, position_in}
use Rattle.pblk_world.specs.World.{World, Logs, log_of}
use Rattle.pblk_model.proofs.MarksLemmas.{accepted_small}
use Rattle.pblk_model.proofs.Lists.{all_append, all_front}
use Rattle.pblk_model.proofs.Maps.{all_filter}
use Rattle.pblk_model.proofs.Parts.{all_taken, take_and_drop, take_nothing}
use Rattle.pblk_world.specs.LegalMounts.{IsLegalMount}
use Rattle.world_laws.proofs.Later.{takes_joined}
use Rattle.world_laws.proofs.LineStripes.{IsKind}
use Rattle.world_laws.proofs.Openings.{placed_at}
use Rattle.world_laws.proofs.Stripes.{IsPlaced, placed_is}
use Rattle.core_laws.specs.PlacerOf.{positions_in_stripe}
use Rattle.core_laws.proofs.BlockPositions.{Bears, all_bear, no_pad_positions, record_positions}

-- ---- lists

-- of a list that gives none, no part gives any
none_of_part : {X Y : Type 0} (give : X → Option Y) (n : ℕ) (xs : List X) → filter_map give xs ≡ [] → filter_map give (take n xs) ≡ []
none_of_part give zero xs none = refl
none_of_part give (suc n) [] none = refl
none_of_part {X} {Y} give (suc n) (x ∷ xs) none = go (give x) none (none_of_part give n xs)
  where
    go : (o : Option Y) → cons_option o (filter_map give xs) ≡ [] → (filter_map give xs ≡ [] → filter_map give (take n xs) ≡ [])
        → cons_option o (filter_map give (take n xs)) ≡ []
    go None e rest = rest e
    go (Some y) e rest = absurd cc

-- entries, and behind them what bears none
entries_first : (s : Shape) (n : ℕ) (ts : List Taken) (bs : List Block) → AllByRecursion (Bears s) ts → filter_map (position_in s) bs ≡ []
    → filter_map (position_in s) (take n (map block_of_taken ts ++ bs)) ≡ take n (filter_map (position_in s) (map block_of_taken ts ++ bs))
entries_first s n [] bs all none =
    none_of_part (position_in s) n bs none ∙ sym (take_nothing n) ∙ ap (take n) (sym none)
entries_first s zero (t ∷ ts) bs all none = refl
entries_first s (suc n) (t ∷ ts) bs all none =
    let rest : List Block = map block_of_taken ts ++ bs in
    ap (λ o. cons_option o (filter_map (position_in s) (take n rest))) all.0
    ∙ ap (λ qs. t.entry.position ∷ qs) (entries_first s n ts bs all.1 none)
    ∙ ap (λ o. take (suc n) (cons_option o (filter_map (position_in s) rest))) (sym all.0)

-- ---- stripes

none_first : (s : Shape) (n : ℕ) (bs : List Block) → filter_map (position_in s) bs ≡ []
    → filter_map (position_in s) (take n bs) ≡ take n (filter_map (position_in s) bs)
none_first s n bs none = none_of_part (position_in s) n bs none ∙ sym (take_nothing n) ∙ ap (take n) (sym none)

data_first : (s : Shape) (log : List Logged) (n : ℕ) → AllByRecursion (Bears s) (takes log) → s.capacity ≤ meta_lba
    → filter_map (position_in s) (take n (data_blocks s log)) ≡ take n (filter_map (position_in s) (data_blocks s log))
data_first s log n all small =
    let ts : List Taken = take s.ws_opt (waiting s log) in
    entries_first s n ts (replicate (s.ws_opt - length (map block_of_taken ts)) (pad_block s))
    (all_taken (Bears s) s.ws_opt (waiting s log)
    (all_append (Bears s) (filter (λ t. waits s log t && was_placed s log t) (takes log)) (filter (λ t. not (was_placed s log t)) (takes log))
    (all_filter (Bears s) (λ t. waits s log t && was_placed s log t) (takes log) all)
    (all_filter (Bears s) (λ t. not (was_placed s log t)) (takes log) all)))
    (no_pad_positions s (s.ws_opt - length (map block_of_taken ts)) small)

of_kind : (i : Image) (logs : Logs) (o : Opening) (stripe : Stripe) (n : ℕ) → AllByRecursion (Bears i.shape) (takes (logs 0)) → i.shape.capacity ≤ meta_lba
    → IsKind i logs o stripe
    → filter_map (position_in i.shape) (take n stripe.blocks) ≡ take n (filter_map (position_in i.shape) stripe.blocks)
of_kind i logs o stripe n all small (inl is) =
    none_first i.shape n stripe.blocks (ap (filter_map (position_in i.shape)) is.blocks
    ∙ record_positions i.shape o.start.seq (start_len i.shape) (start_bytes i.shape o.start) (next_address i.shape (logs 0) o - 0)
    (next_address i.shape (logs 0) o - 0 + i.shape.ws_opt) small)
of_kind i logs o stripe n all small (inr (inl is)) =
    ap (λ bs. filter_map (position_in i.shape) (take n bs)) is.blocks ∙ data_first i.shape (logs 0) n all small
    ∙ ap (λ bs. take n (filter_map (position_in i.shape) bs)) (sym is.blocks)
of_kind i logs o stripe n all small (inr (inr (inl is))) =
    none_first i.shape n stripe.blocks (ap (filter_map (position_in i.shape)) is.blocks
    ∙ record_positions i.shape o.start.seq (end_len i.shape o.start.width) (end_bytes i.shape (end_record i.shape (logs 0) o))
    (next_address i.shape (logs 0) o - end_address i.shape o) (next_address i.shape (logs 0) o - end_address i.shape o + i.shape.ws_opt) small)
of_kind i logs o stripe n all small (inr (inr (inr is))) =
    none_first i.shape n stripe.blocks (ap (filter_map (position_in i.shape)) is.blocks ∙ no_pad_positions i.shape i.shape.ws_opt small)

pub first_positions : (i : Image) (w : World) (p : Placed) (n : ℕ) → IsLegalMount i w → Contains (placements (log_of w 0)) p
    → filter_map (position_in i.shape) (take n p.stripe.blocks) ≡ take n (positions_in_stripe i.shape p.stripe)
first_positions i w p n mount there =
    let placed : IsPlaced (log_of w 0) p = placed_is (log_of w 0) p there in
    let may : MayPlace i (engine_prefix p.number (log_of w)) p.stripe =
    placed_at i w p.number p.stripe placed.logged mount.legal placed.there placed.event in
    of_kind i (engine_prefix p.number (log_of w)) may.opening p.stripe n bear_then small may.kind
  where
    small : i.shape.capacity ≤ meta_lba
    small = accepted_small i.shape mount.accepted

    parts : takes (log_of w 0) ≡ takes (take p.number (log_of w 0)) ++ takes (drop p.number (log_of w 0))
    parts = ap takes (sym (take_and_drop p.number (log_of w 0))) ∙ takes_joined (take p.number (log_of w 0)) (drop p.number (log_of w 0))

    bear_then : AllByRecursion (Bears i.shape) (takes (take p.number (log_of w 0)))
    bear_then =
        (all_front (Bears i.shape) (takes (take p.number (log_of w 0))) (takes (drop p.number (log_of w 0)))
        (subst (AllByRecursion (Bears i.shape)) parts (all_bear i w small mount.legal))).0
