-- Where the entries of sectors are once a stripe is placed.
use Rattle.std.proofs.Common.{◌≡◌, ◌⊎◌, inl, inr, ℕ, ◌+◌, ◌-◌, ◌<◌, ◌≤◌, ◌==◌, ◌&&◌, ◌||◌, zero, suc, not, nat_eq, Bool, true, false, cond, Some, None, Option, List, [], ◌∷◌, length, take, drop, refl, sym, ap, ap₂, ◌∙◌, arith, le_of_lt, if◌then◌else◌}
use Rattle.std.specs.Prelude.{map, replicate, slice_range}
use Rattle.std.specs.List.{AllByRecursion, find, list_any}
use Rattle.std.specs.Option.{option_map, option_or, is_some}
use Rattle.std.proofs.lemmas.Bool.{eqb-true, eqb-false}
use Rattle.std.proofs.lemmas.List.Folds.{find-append, list_any-append}
use Rattle.pblk_model.specs.declared.shape.Shape.{Shape}
use Rattle.pblk_model.specs.Chunk.{Block}
use Rattle.pblk_model.specs.Blocks.{blocks_of}
use Rattle.pblk_model.specs.LineOrder.{start_len, end_len}
use Rattle.pblk_model.specs.Marks.{meta_lba, pad_mark, meta_mark, pad_block}
use Rattle.pblk_model.specs.Image.{Image}
use Rattle.pblk_model.specs.Records.{named}
use Rattle.pblk_model.specs.StartRecord.{start_bytes}
use Rattle.pblk_model.specs.EndRecord.{end_bytes}
use Rattle.pblk_world.specs.Events.{Stripe, Place, Decides, Logged}
use Rattle.pblk_world.specs.World.{Logs}
use Rattle.pblk_world.specs.EngineLog.{LineLife, AsFound, Opened, Freed, is_life, life_of, Opening, Placed, placements, was_lost, is_loss, has_landed, is_land, bears_position, holds_position, Taken, block_of_taken}
use Rattle.pblk_world.specs.Placing.{next_address, end_address, record_blocks, end_record, IsStart, IsData, IsEnd, IsPad}
use Rattle.pblk_world.specs.Fronts.{waiting}
use Rattle.pblk_world.specs.Victims.{is_in_force, line_of_position, line_of, landed_line, landed_line_of}
use Rattle.pblk_world.proofs.Appending.{life_more}
use Rattle.core_laws.specs.Stepping.{after}
use Rattle.core_laws.proofs.Engine.{placements_before}
use Rattle.core_laws.proofs.Placing.{with_place, new_placed, IsPlacing, placements_now, answer_now, new_unanswered}
use Rattle.core_laws.proofs.PlacedPositions.{unnamed as unnamed_mark}
use Rattle.core_laws.proofs.StripesByPlace.{find_fails_last}
use Rattle.core_laws.proofs.LandedRows.{winner_kept}
use Rattle.core_laws.proofs.NextTakes.{is_at}
use Rattle.core_laws.proofs.PlacedEntryRows.{with_entries, entries_are}
use Rattle.core_laws.proofs.SteppingLemmas.{found_kept}
use Rattle.pblk_model.proofs.Lists.{all_replicated}
use Rattle.pblk_model.proofs.Maps.{find_agree}
use Rattle.pblk_model.proofs.Options.{none_of_map}
use Rattle.pblk_model.proofs.Parts.{all_dropped, all_taken}
use Rattle.pblk_model.proofs.Tests.{and_false, not_first, or_no, other_number, same_number}

-- ---- which positions the blocks of a stripe bear

IsUnnamed : Shape → Block → Type 0
IsUnnamed s b = is_some (named s b.mark) ≡ false

none_borne : (s : Shape) (q : ℕ) (bs : List Block) → AllByRecursion (IsUnnamed s) bs → list_any (bears_position s q) bs ≡ false
unfolding IsUnnamed
none_borne s q [] all = refl
none_borne s q (b ∷ bs) all = ap₂ (λ c d. (c && (b.mark.position == q)) || d) all.0 (none_borne s q bs all.1)

pads_unnamed : (s : Shape) (n : ℕ) → s.capacity ≤ meta_lba → AllByRecursion (IsUnnamed s) (replicate n (pad_block s))
unfolding IsUnnamed
pads_unnamed s n small = all_replicated (λ (b : Block). is_some (named s b.mark) ≡ false) n (pad_block s)
    (unnamed_mark s pad_mark small (omega arith) (λ e. absurd (omega (arith, e))))

records_unnamed : (s : Shape) (size seq count : ℕ) (bytes : List ℕ) → s.capacity ≤ meta_lba
    → AllByRecursion (IsUnnamed s) (blocks_of size bytes (replicate count (meta_mark seq)))
unfolding IsUnnamed
records_unnamed s size seq zero bytes small = tt
records_unnamed s size seq (suc count) bytes small =
    (unnamed_mark s (meta_mark seq) small (omega arith) (λ e. absurd (omega (arith, e))), records_unnamed s size seq count (drop size bytes) small)

part_unnamed : (s : Shape) (seq count : ℕ) (bytes : List ℕ) (from to : ℕ) → s.capacity ≤ meta_lba
    → AllByRecursion (IsUnnamed s) (slice_range (record_blocks s seq count bytes) from to)
part_unnamed s seq count bytes from to small =
    all_taken (IsUnnamed s) (to - from) (drop from (record_blocks s seq count bytes))
    (all_dropped (IsUnnamed s) from (record_blocks s seq count bytes) (records_unnamed s s.sector seq count bytes small))

-- a stripe bears just the positions of these entries
unfoldable pub BearsThese : Shape → Stripe → List Taken → Type 0
BearsThese s stripe ts = (q : ℕ) → list_any (bears_position s q) stripe.blocks ≡ list_any (λ t. q == t.entry.position) ts

pub turned_round : (m n : ℕ) → (m == n) ≡ (n == m)
turned_round m n = go (nat_eq m n) refl
  where
    go : (b : Bool) → nat_eq m n ≡ b → (m == n) ≡ (n == m)
    go true e = ap (λ k. k == n) (eqb-true m n e) ∙ ap (λ k. n == k) (sym (eqb-true m n e))
    go false e = e ∙ sym (other_number n m (λ f. eqb-false m n e (sym f)))

entry_bears : (s : Shape) (q : ℕ) (t : Taken) → is_some (named s t.mark) ≡ true → t.mark.position ≡ t.entry.position
    → bears_position s q (block_of_taken t) ≡ (q == t.entry.position)
entry_bears s q t names marked = ap₂ (λ a n. a && (n == q)) names marked ∙ turned_round t.entry.position q

-- what is known of each of the entries
pub record IsNamed (s : Shape) (t : Taken) : Type 0 where
  pub names : is_some (named s t.mark) ≡ true
  pub marked : t.mark.position ≡ t.entry.position

entries_bear : (s : Shape) (q : ℕ) (ts : List Taken) → AllByRecursion (IsNamed s) ts
    → list_any (bears_position s q) (map block_of_taken ts) ≡ list_any (λ t. q == t.entry.position) ts
entries_bear s q [] all = refl
entries_bear s q (t ∷ ts) all = ap₂ (λ a b. a || b) (entry_bears s q t all.0.names all.0.marked) (entries_bear s q ts all.1)

pub data_bears : (i : Image) (logs : Logs) (o : Opening) (stripe : Stripe) → i.shape.capacity ≤ meta_lba → IsData i logs o stripe
    → AllByRecursion (IsNamed i.shape) (take i.shape.ws_opt (waiting i.shape (logs 0)))
    → BearsThese i.shape stripe (take i.shape.ws_opt (waiting i.shape (logs 0)))
unfolding BearsThese
data_bears i logs o stripe small its all = λ q.
    let s : Shape = i.shape in
    let ts : List Taken = take i.shape.ws_opt (waiting i.shape (logs 0)) in
    ap (list_any (bears_position i.shape q)) its.blocks
    ∙ list_any-append (bears_position i.shape q) (map block_of_taken ts) (replicate (s.ws_opt - length (map block_of_taken ts)) (pad_block s))
    ∙ ap₂ (λ a b. a || b) (entries_bear i.shape q ts all)
    (none_borne i.shape q (replicate (s.ws_opt - length (map block_of_taken ts)) (pad_block s))
    (pads_unnamed i.shape (s.ws_opt - length (map block_of_taken ts)) small))
    ∙ or_no (list_any (λ (t : Taken). q == t.entry.position) ts)

pub others_bear : (i : Image) (logs : Logs) (o : Opening) (stripe : Stripe) → i.shape.capacity ≤ meta_lba
    → IsStart i logs o stripe ⊎ (IsEnd i logs o stripe ⊎ IsPad i logs o stripe) → BearsThese i.shape stripe []
unfolding BearsThese
others_bear i logs o stripe small (inl its) = λ q. ap (list_any (bears_position i.shape q)) its.blocks
    ∙ none_borne i.shape q (slice_range (record_blocks i.shape o.start.seq (start_len i.shape) (start_bytes i.shape o.start))
    (next_address i.shape (logs 0) o - 0) (next_address i.shape (logs 0) o - 0 + i.shape.ws_opt))
    (part_unnamed i.shape o.start.seq (start_len i.shape) (start_bytes i.shape o.start) (next_address i.shape (logs 0) o - 0)
    (next_address i.shape (logs 0) o - 0 + i.shape.ws_opt) small)
others_bear i logs o stripe small (inr (inl its)) = λ q. ap (list_any (bears_position i.shape q)) its.blocks
    ∙ none_borne i.shape q (slice_range (record_blocks i.shape o.start.seq (end_len i.shape o.start.width) (end_bytes i.shape (end_record i.shape (logs 0) o)))
    (next_address i.shape (logs 0) o - end_address i.shape o) (next_address i.shape (logs 0) o - end_address i.shape o + i.shape.ws_opt))
    (part_unnamed i.shape o.start.seq (end_len i.shape o.start.width) (end_bytes i.shape (end_record i.shape (logs 0) o))
    (next_address i.shape (logs 0) o - end_address i.shape o) (next_address i.shape (logs 0) o - end_address i.shape o + i.shape.ws_opt) small)
others_bear i logs o stripe small (inr (inr its)) = λ q. ap (list_any (bears_position i.shape q)) its.blocks
    ∙ none_borne i.shape q (replicate i.shape.ws_opt (pad_block i.shape)) (pads_unnamed i.shape i.shape.ws_opt small)

-- ---- where entries are

force_now : (log : List Logged) (stripe : Stripe) (knows : List ℕ) (life : LineLife) (line : ℕ)
    → is_in_force (with_place log stripe knows) life line ≡ is_in_force log life line
force_now log stripe knows AsFound line = refl
force_now log stripe knows (Opened o) line = ap (is_life o.number) (life_more log (record { event = Decides (Place stripe); knows = knows }) line)
force_now log stripe knows (Freed past k) line = refl

-- the position's line: the stripe's for one that it bears, which no stripe held before
either_line : (old : Option Placed) (p : Placed) (b : Bool) → (b ≡ true → option_map (λ (q : Placed). q.stripe.line) old ≡ None)
    → option_map (λ (q : Placed). q.stripe.line) (option_or old (cond b (Some p) None)) ≡
    (if b then Some p.stripe.line else option_map (λ (q : Placed). q.stripe.line) old)
either_line old p true nowhere =
    ap (λ o. option_map (λ (q : Placed). q.stripe.line) (option_or o (Some p))) (none_of_map (λ (q : Placed). q.stripe.line) old (nowhere refl))
either_line None p false nowhere = refl
either_line (Some x) p false nowhere = refl

position_now : (s : Shape) (log : List Logged) (stripe : Stripe) (knows : List ℕ) (o : Opening) (q : ℕ) → IsPlacing log stripe o
    → (list_any (bears_position s q) stripe.blocks ≡ true → line_of_position s log q ≡ None)
    → line_of_position s (with_place log stripe knows) q ≡ (if list_any (bears_position s q) stripe.blocks then Some stripe.line else line_of_position s log q)
position_now s log stripe knows o q is nowhere =
    let new : List Logged = with_place log stripe knows in
    let p : Placed = new_placed log stripe o in
    let life : life_of new stripe.line ≡ Opened o = life_more log (record { event = Decides (Place stripe); knows = knows }) stripe.line ∙ is.opened in
    ap (λ ps. option_map (λ (r : Placed). r.stripe.line)
    (find (λ (r : Placed). holds_position s q r && not (was_lost new r) && is_in_force new r.life r.stripe.line) ps))
    (placements_now log stripe knows o is.opened)
    ∙ ap (option_map (λ (r : Placed). r.stripe.line))
    (find-append (λ (r : Placed). holds_position s q r && not (was_lost new r) && is_in_force new r.life r.stripe.line) (placements log) (p ∷ [])
    ∙ ap₂ (λ a b. option_or a (cond b (Some p) None))
    (find_agree (λ (r : Placed). r.number < length log) (λ (r : Placed). holds_position s q r && not (was_lost new r) && is_in_force new r.life r.stripe.line)
    (λ (r : Placed). holds_position s q r && not (was_lost log r) && is_in_force log r.life r.stripe.line)
    (λ r before. ap₂ (λ a b. holds_position s q r && not (is_loss a) && b) (answer_now log stripe knows o r is.opened (le_of_lt before))
    (force_now log stripe knows r.life r.stripe.line))
    (placements log) (placements_before log))
    (ap₂ (λ a l. holds_position s q p && not (is_loss a) && is_life o.number l) (new_unanswered log stripe knows o is) life
    ∙ ap (λ b. holds_position s q p && true && b) (same_number o.number) ∙ and_true (holds_position s q p && true) ∙ and_true (holds_position s q p)))
    ∙ either_line (find (λ (r : Placed). holds_position s q r && not (was_lost log r) && is_in_force log r.life r.stripe.line) (placements log)) p
    (list_any (bears_position s q) stripe.blocks) nowhere
  where
    and_true : (b : Bool) → (b && true) ≡ b
    and_true true = refl
    and_true false = refl

pub any_nowhere : (place : ℕ → Option ℕ) (q : ℕ) (ts : List Taken) → AllByRecursion (λ t. place t.entry.position ≡ None) ts
    → list_any (λ t. q == t.entry.position) ts ≡ true → place q ≡ None
any_nowhere place q [] all e = absurd cc
any_nowhere place q (t ∷ ts) all e = go (nat_eq q t.entry.position) refl e (λ f. any_nowhere place q ts all.1 f)
  where
    go : (b : Bool) → nat_eq q t.entry.position ≡ b → (b || list_any (λ u. q == u.entry.position) ts) ≡ true
        → (list_any (λ u. q == u.entry.position) ts ≡ true → place q ≡ None) → place q ≡ None
    go true f h rest = ap place (eqb-true q t.entry.position f) ∙ all.0
    go false f h rest = rest h

pub none_at : (ts : List Taken) → list_any (λ t. is_at t.entry.position None) ts ≡ false
none_at [] = refl
none_at (t ∷ ts) = none_at ts

pub places_now : (i : Image) (logs : Logs) (stripe : Stripe) (knows : List ℕ) (o : Opening) (ts : List Taken) → IsPlacing (logs 0) stripe o
    → BearsThese i.shape stripe ts
    → AllByRecursion (λ t. line_of_position i.shape (logs 0) t.entry.position ≡ None) ts
    → (lba : ℕ) (t : Option Taken) → line_of i (after logs (Place stripe) knows) lba t ≡ with_entries stripe.line ts (line_of i logs) lba t
unfolding BearsThese
places_now i logs stripe knows o ts is bears nowhere lba None =
    winner_kept i logs (after logs (Place stripe) knows) (found_kept i logs (Place stripe) knows refl)
    (λ line. life_more (logs 0) (record { event = Decides (Place stripe); knows = knows }) line) lba
    ∙ sym (entries_are stripe.line ts (line_of i logs) lba None ∙ ap (λ b. if b then Some stripe.line else line_of i logs lba None) (none_at ts))
places_now i logs stripe knows o ts is bears nowhere lba (Some u) =
    position_now i.shape (logs 0) stripe knows o u.entry.position is
    (λ e. any_nowhere (line_of_position i.shape (logs 0)) u.entry.position ts nowhere (sym (bears u.entry.position) ∙ e))
    ∙ ap (λ b. if b then Some stripe.line else line_of_position i.shape (logs 0) u.entry.position) (bears u.entry.position)
    ∙ sym (entries_are stripe.line ts (line_of i logs) lba (Some u))

-- what has landed is where it was

landed_same_line : (s : Shape) (log : List Logged) (stripe : Stripe) (knows : List ℕ) (o : Opening) (q : ℕ) → IsPlacing log stripe o
    → landed_line s (with_place log stripe knows) q ≡ landed_line s log q
landed_same_line s log stripe knows o q is =
    let new : List Logged = with_place log stripe knows in
    let p : Placed = new_placed log stripe o in
    ap (λ ps. option_map (λ (r : Placed). r.stripe.line)
    (find (λ (r : Placed). holds_position s q r && has_landed new r && is_in_force new r.life r.stripe.line) ps))
    (placements_now log stripe knows o is.opened)
    ∙ ap (option_map (λ (r : Placed). r.stripe.line))
    (find_fails_last (λ (r : Placed). holds_position s q r && has_landed new r && is_in_force new r.life r.stripe.line) (placements log) p
    (not_first (holds_position s q p && has_landed new p) (is_in_force new p.life p.stripe.line)
    (and_false (holds_position s q p) (has_landed new p) (ap is_land (new_unanswered log stripe knows o is))))
    ∙ find_agree (λ (r : Placed). r.number < length log) (λ (r : Placed). holds_position s q r && has_landed new r && is_in_force new r.life r.stripe.line)
    (λ (r : Placed). holds_position s q r && has_landed log r && is_in_force log r.life r.stripe.line)
    (λ r before. ap₂ (λ a b. holds_position s q r && is_land a && b) (answer_now log stripe knows o r is.opened (le_of_lt before))
    (force_now log stripe knows r.life r.stripe.line))
    (placements log) (placements_before log))

pub landed_placed : (i : Image) (logs : Logs) (stripe : Stripe) (knows : List ℕ) (o : Opening) → IsPlacing (logs 0) stripe o → (lba : ℕ) (t : Option Taken)
    → landed_line_of i (after logs (Place stripe) knows) lba t ≡ landed_line_of i logs lba t
landed_placed i logs stripe knows o is lba None =
    winner_kept i logs (after logs (Place stripe) knows) (found_kept i logs (Place stripe) knows refl)
    (λ line. life_more (logs 0) (record { event = Decides (Place stripe); knows = knows }) line) lba
landed_placed i logs stripe knows o is lba (Some u) = landed_same_line i.shape (logs 0) stripe knows o u.entry.position is
