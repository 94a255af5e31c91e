-- Each stripe has as many blocks as a program writes, and a line has marks for its data.
use Rattle.std.proofs.Common.{◌≡◌, ◌⊎◌, inl, inr, ℕ, ◌+◌, ◌-◌, ◌*◌, ◌/◌, ◌%◌, ◌<◌, ◌≤◌, ◌&&◌, not, nat_lt, nat_eq, min, Bool, true, false, List, [], ◌∷◌, ◌++◌, length, take, drop, replicate, refl, sym, subst, ap, ap₂, ◌∙◌, arith, length-append, length-take, length-drop, div-add-mod'}
use Rattle.std.specs.Prelude.{slice_range, map, if◌then◌else◌}
use Rattle.std.specs.List.{AllByRecursion, flat_map}
use Rattle.std.specs.Option.{option_to_list}
use Rattle.std.specs.Int.{div_ceil}
use Rattle.std.proofs.Math.Nat.{lt_of_mul-lt-mul_right, mul_comm, mul_assoc, suc-mul, zero-mul}
use Rattle.std.proofs.lemmas.Nat.{mul-add-lt}
use Rattle.pblk_model.specs.declared.shape.Shape.{Shape}
use Rattle.pblk_model.specs.Accepted.{IsAccepted}
use Rattle.pblk_model.specs.Chunk.{Block}
use Rattle.pblk_model.specs.Image.{Image}
use Rattle.pblk_model.specs.Marks.{pad_block}
use Rattle.pblk_model.specs.LineOrder.{start_len, end_len, data_len}
use Rattle.pblk_model.specs.StartRecord.{StartRecord, start_bytes}
use Rattle.pblk_model.specs.EndRecord.{end_bytes}
use Rattle.pblk_world.specs.Events.{EngineEvent, Stripe, Open, Place, Free, Decides, Logged}
use Rattle.pblk_world.specs.World.{World, Logs, log_of}
use Rattle.pblk_world.specs.EngineLog.{Opened, Freed, life_of, last_opening, is_life, Opening, Taken, Placed, placed_by, placements, stripes_of, block_of_taken}
use Rattle.pblk_world.specs.Fronts.{waiting}
use Rattle.pblk_world.specs.Lines.{known_image, has_number, are_empty, line_data, is_free_line}
use Rattle.pblk_world.specs.Placing.{next_address, end_address, end_record, data_marks, IsStart, IsData, IsEnd, IsPad, record_blocks}
use Rattle.pblk_world.specs.Legal.{MayDecide, IsLegal}
use Rattle.pblk_world.proofs.Appending.{life_more, placements_more}
use Rattle.stripe_placer.proofs.Rows.{length_map as length_mapped}
use Rattle.core_laws.proofs.EventByEvent.{of_legal_log}
use Rattle.pblk_model.proofs.Lists.{all_append, length_replicate}
use Rattle.pblk_model.proofs.Maps.{all_filter}
use Rattle.pblk_model.proofs.Parts.{part_is_whole}
use Rattle.pblk_model.proofs.LineOrderLemmas.{whole_line}
use Rattle.pblk_world.proofs.EngineLogLemmas.{opened_same}
use Rattle.pblk_world.proofs.PlacingLemmas.{length_record}

-- ---- numbers

pub whole_step : (n w k : ℕ) → 0 < w → n * w < w * k → n * w + w ≤ w * k
whole_step n w k some below =
    let less : n < k = lt_of_mul-lt-mul_right w (subst (λ m. n * w < m) (mul_comm w k) below) in
    let room : n * w + (w - 1) < w * k = mul-add-lt n w (w - 1) k less (omega arith) in
    omega arith

pub whole_chunks : (c w g : ℕ) → c % w ≡ 0 → g * c ≡ w * (g * (c / w))
whole_chunks c w g even =
    let whole : c / w * w + c % w ≡ c = div-add-mod' c w in
    let is : c ≡ c / w * w = omega arith in
    ap (λ n. g * n) is ∙ sym (mul_assoc g (c / w) w) ∙ mul_comm (g * (c / w)) w

-- ---- lengths

length_part : {X : Type 0} (xs : List X) (a b : ℕ) → length (slice_range xs a b) ≡ min (b - a) (length xs - a)
length_part xs a b = length-take (b - a) (drop a xs) ∙ ap (min (b - a)) (length-drop a xs)

pads_fill : (s : Shape) (ts : List Taken)
    → length (map block_of_taken (take s.ws_opt ts) ++ replicate (s.ws_opt - length (map block_of_taken (take s.ws_opt ts))) (pad_block s)) ≡ s.ws_opt
pads_fill s ts =
    let few : length (map block_of_taken (take s.ws_opt ts)) ≡ min s.ws_opt (length ts) = length_mapped block_of_taken (take s.ws_opt ts)
    ∙ length-take s.ws_opt ts in
    let sum : length (map block_of_taken (take s.ws_opt ts) ++ replicate (s.ws_opt - length (map block_of_taken (take s.ws_opt ts))) (pad_block s)) ≡ length
    (map block_of_taken (take s.ws_opt ts)) + length (replicate (s.ws_opt - length (map block_of_taken (take s.ws_opt ts))) (pad_block s)) =
    length-append (map block_of_taken (take s.ws_opt ts)) (replicate (s.ws_opt - length (map block_of_taken (take s.ws_opt ts))) (pad_block s)) in
    let rest : length (replicate (s.ws_opt - length (map block_of_taken (take s.ws_opt ts))) (pad_block s)) ≡ s.ws_opt - length
    (map block_of_taken (take s.ws_opt ts)) = length_replicate (s.ws_opt - length (map block_of_taken (take s.ws_opt ts))) (pad_block s) in
    omega arith

-- ---- a stripe that may be placed

start_whole : (i : Image) (logs : Logs) (o : Opening) (stripe : Stripe) → 0 < i.shape.ws_opt → IsStart i logs o stripe → length stripe.blocks ≡ i.shape.ws_opt
start_whole i logs o stripe some is =
    let s : Shape = i.shape in
    let all : length (record_blocks i.shape o.start.seq (start_len i.shape) (start_bytes i.shape o.start)) ≡ start_len i.shape =
    length_record i.shape o.start.seq (start_len i.shape) (start_bytes i.shape o.start) in
    let room : next_address i.shape (logs 0) o + i.shape.ws_opt ≤ start_len i.shape =
    whole_step (length (stripes_of (logs 0) o)) i.shape.ws_opt
    (div_ceil (64 + 24 * (i.shape.chunks - 1)) (i.shape.ws_opt * i.shape.sector)) some is.within in
    let first : next_address i.shape (logs 0) o - 0 ≡ next_address i.shape (logs 0) o = by_zero (next_address i.shape (logs 0) o) in
    ap (λ (bs : List Block). length bs) is.blocks
    ∙ part_is_whole (record_blocks i.shape o.start.seq (start_len i.shape) (start_bytes i.shape o.start)) (next_address i.shape (logs 0) o - 0) i.shape.ws_opt
    (subst (λ n. n + i.shape.ws_opt ≤ length (record_blocks i.shape o.start.seq (start_len i.shape) (start_bytes i.shape o.start))) (sym first)
    (subst (λ n. next_address i.shape (logs 0) o + i.shape.ws_opt ≤ n) (sym all) room))
  where
    by_zero : (n : ℕ) → n - 0 ≡ n
    by_zero n = omega arith

end_whole : (i : Image) (logs : Logs) (o : Opening) (stripe : Stripe) → 0 < i.shape.ws_opt → i.shape.clba % i.shape.ws_opt ≡ 0
    → 0 < data_len i.shape o.start.width → IsEnd i logs o stripe → length stripe.blocks ≡ i.shape.ws_opt
end_whole i logs o stripe some even wide is =
    let all : length (record_blocks i.shape o.start.seq (end_len i.shape o.start.width) (end_bytes i.shape (end_record i.shape (logs 0) o))) ≡ end_len i.shape
    o.start.width = length_record i.shape o.start.seq (end_len i.shape o.start.width) (end_bytes i.shape (end_record i.shape (logs 0) o)) in
    let chunks : o.start.width * i.shape.clba ≡ i.shape.ws_opt * (o.start.width * (i.shape.clba / i.shape.ws_opt)) =
    whole_chunks i.shape.clba i.shape.ws_opt o.start.width even in
    let room : next_address i.shape (logs 0) o + i.shape.ws_opt ≤ i.shape.ws_opt * (o.start.width * (i.shape.clba / i.shape.ws_opt)) =
    whole_step (length (stripes_of (logs 0) o)) i.shape.ws_opt (o.start.width * (i.shape.clba / i.shape.ws_opt)) some
    (subst (λ n. next_address i.shape (logs 0) o < n) chunks is.within) in
    let ends : start_len i.shape + data_len i.shape o.start.width + end_len i.shape o.start.width ≡ o.start.width * i.shape.clba =
    whole_line i.shape o.start.width wide in
    let within : next_address i.shape (logs 0) o + i.shape.ws_opt ≤ end_address i.shape o + end_len i.shape o.start.width =
    subst (λ n. next_address i.shape (logs 0) o + i.shape.ws_opt ≤ n) (sym chunks ∙ sym ends) room in
    ap (λ (bs : List Block). length bs) is.blocks
    ∙ part_is_whole (record_blocks i.shape o.start.seq (end_len i.shape o.start.width) (end_bytes i.shape (end_record i.shape (logs 0) o)))
    (next_address i.shape (logs 0) o - end_address i.shape o) i.shape.ws_opt
    (subst (λ n. next_address i.shape (logs 0) o - end_address i.shape o + i.shape.ws_opt ≤ n) (sym all)
    (by_rest (next_address i.shape (logs 0) o) (end_address i.shape o) i.shape.ws_opt (end_len i.shape o.start.width) is.from within))
  where
    by_rest : (n e w r : ℕ) → e ≤ n → n + w ≤ e + r → n - e + w ≤ r
    by_rest n e w r a b = omega arith

by_kind : (i : Image) (logs : Logs) (o : Opening) (stripe : Stripe) → 0 < i.shape.ws_opt → i.shape.clba % i.shape.ws_opt ≡ 0
    → 0 < data_len i.shape o.start.width
    → IsStart i logs o stripe ⊎ (IsData i logs o stripe ⊎ (IsEnd i logs o stripe ⊎ IsPad i logs o stripe)) → length stripe.blocks ≡ i.shape.ws_opt
by_kind i logs o stripe some even wide (inl is) = start_whole i logs o stripe some is
by_kind i logs o stripe some even wide (inr (inl is)) = ap (λ (bs : List Block). length bs) is.blocks ∙ pads_fill i.shape (waiting i.shape (logs 0))
by_kind i logs o stripe some even wide (inr (inr (inl is))) = end_whole i logs o stripe some even wide is
by_kind i logs o stripe some even wide (inr (inr (inr is))) = ap (λ (bs : List Block). length bs) is.blocks
    ∙ length_replicate i.shape.ws_opt (pad_block i.shape)

-- ---- each stripe of a legal world

pub record HaveBlocks (s : Shape) (log : List Logged) : Type 0 where
  -- an opened line has data
  pub wide : (line : ℕ) (o : Opening) → life_of log line ≡ Opened o → 0 < data_len s o.start.width
  pub blocks : AllByRecursion (λ (p : Placed). length p.stripe.blocks ≡ s.ws_opt) (placements log)

free_is_wide : (i : Image) (known : Logs) (line : ℕ) → is_free_line i known line ≡ true → 0 < line_data (known_image i known) line
free_is_wide i known line is =
    go (not (has_number i known (life_of (known 0) line) line)) (are_empty (known_image i known) line) (nat_lt 0 (line_data (known_image i known) line)) refl is
  where
    go : (a b c : Bool) → nat_lt 0 (line_data (known_image i known) line) ≡ c → (a && b && c) ≡ true → 0 < line_data (known_image i known) line
    go true true true e f = by_test (line_data (known_image i known) line) e
      where
        by_test : (n : ℕ) → nat_lt 0 n ≡ true → 0 < n
        by_test n e = grind arith
    go true true false e f = absurd cc
    go true false c e f = absurd cc
    go false b c e f = absurd cc

pub wide_after : (i : Image) (known : Logs) (log : List Logged) (e : EngineEvent) (knows : List ℕ) → MayDecide i known e
    → ((line : ℕ) (o : Opening) → life_of log line ≡ Opened o → 0 < data_len i.shape o.start.width)
    → (line : ℕ) (o : Opening) → life_of (log ++ record { event = Decides e; knows = knows } ∷ []) line ≡ Opened o → 0 < data_len i.shape o.start.width
wide_after i known log (Open other start) knows may before line o is =
    go (nat_eq other line) (sym (life_more log (record { event = Decides (Open other start); knows = knows }) line) ∙ is)
  where
    go : (b : Bool) → (if b then Opened (record { number = length log; line = line; start = start; knows = knows }) else life_of log line) ≡ Opened o
        → 0 < data_len i.shape o.start.width
    go true e =
        let same : start ≡ o.start = ap (λ (x : Opening). x.start)
        (opened_same (record { number = length log; line = line; start = start; knows = knows }) o e) in
        subst (λ (x : StartRecord). 0 < data_len i.shape x.width) same
        (subst (λ n. 0 < data_len i.shape n) (sym may.2.own_width) (free_is_wide i known other may.2.is_free))
    go false e = before line o e
wide_after i known log (Free other) knows may before line o is =
    go (nat_eq other line) (sym (life_more log (record { event = Decides (Free other); knows = knows }) line) ∙ is)
  where
    go : (b : Bool) → (if b then Freed (last_opening (life_of log line)) knows else life_of log line) ≡ Opened o → 0 < data_len i.shape o.start.width
    go true e = absurd cc
    go false e = before line o e
wide_after i known log e knows may before line o is = before line o (sym (life_more log (record { event = Decides e; knows = knows }) line) ∙ is)

blocks_after : (i : Image) (known : Logs) (log : List Logged) (e : EngineEvent) (knows : List ℕ) → IsAccepted i.shape → known 0 ≡ log → MayDecide i known e
    → HaveBlocks i.shape log
    → AllByRecursion (λ (p : Placed). length p.stripe.blocks ≡ i.shape.ws_opt) (option_to_list (placed_by log (length log) (Decides e)))
blocks_after i known log (Place stripe) knows accepted own may is =
    let wide : 0 < data_len i.shape may.2.opening.start.width =
    is.wide stripe.line may.2.opening (ap (λ (x : List Logged). life_of x stripe.line) (sym own) ∙ may.2.is_open) in
    (by_kind i known may.2.opening stripe accepted.drive.ws_opt accepted.drive.whole_stripes wide may.2.kind, tt)
blocks_after i known log e knows accepted own may is = tt

blocks_kept : (i : Image) → IsAccepted i.shape → (log : List Logged) (known : Logs) (e : EngineEvent) (knows : List ℕ) → known 0 ≡ log → MayDecide i known e
    → HaveBlocks i.shape log → HaveBlocks i.shape (log ++ record { event = Decides e; knows = knows } ∷ [])
blocks_kept i accepted log known e knows own may is = record {
  wide = wide_after i known log e knows may is.wide;
  blocks = subst (AllByRecursion (λ (p : Placed). length p.stripe.blocks ≡ i.shape.ws_opt))
      (sym (placements_more log (record { event = Decides e; knows = knows })))
      (all_append (λ (p : Placed). length p.stripe.blocks ≡ i.shape.ws_opt) (placements log) (option_to_list (placed_by log (length log) (Decides e))) is.blocks
      (blocks_after i known log e knows accepted own may is));
}

pub have_blocks : (i : Image) (w : World) → IsAccepted i.shape → IsLegal i w → HaveBlocks i.shape (log_of w 0)
have_blocks i w accepted legal = of_legal_log i (HaveBlocks i.shape) (record { wide = λ line o e. absurd cc; blocks = tt }) (blocks_kept i accepted) w legal

-- ---- the marks of a line's data

pub length_joined : (n : ℕ) (ps : List Placed) → AllByRecursion (λ (p : Placed). length p.stripe.blocks ≡ n) ps
    → length (flat_map (λ (p : Placed). p.stripe.blocks) ps) ≡ length ps * n
length_joined n [] all = sym (zero-mul n)
length_joined n (p ∷ ps) all =
    length-append p.stripe.blocks (flat_map (λ (p : Placed). p.stripe.blocks) ps) ∙ ap₂ (λ a b. a + b) all.0 (length_joined n ps all.1)
    ∙ swapped n (length ps * n) ∙ sym (suc-mul (length ps) n)
  where
    swapped : (a b : ℕ) → a + b ≡ b + a
    swapped a b = omega arith

pub marks_counted : (s : Shape) (log : List Logged) (o : Opening) → HaveBlocks s log
    → length (data_marks s log o) ≡ min (data_len s o.start.width) (next_address s log o - start_len s)
marks_counted s log o is =
    let all : length (flat_map (λ (p : Placed). p.stripe.blocks) (stripes_of log o)) ≡ next_address s log o =
    length_joined s.ws_opt (stripes_of log o)
    (all_filter (λ (p : Placed). length p.stripe.blocks ≡ s.ws_opt) (λ (p : Placed). is_life o.number p.life) (placements log) is.blocks) in
    length_mapped (λ (b : Block). b.mark) (slice_range (flat_map (λ (p : Placed). p.stripe.blocks) (stripes_of log o)) (start_len s) (end_address s o))
    ∙ length_part (flat_map (λ (p : Placed). p.stripe.blocks) (stripes_of log o)) (start_len s) (end_address s o)
    ∙ ap₂ min (less (start_len s) (data_len s o.start.width)) (ap (λ n. n - start_len s) all)
  where
    less : (a b : ℕ) → a + b - a ≡ b
    less a b = omega arith

pub marks_whole : (s : Shape) (log : List Logged) (o : Opening) → HaveBlocks s log → end_address s o ≤ next_address s log o
    → length (data_marks s log o) ≡ data_len s o.start.width
marks_whole s log o is within = marks_counted s log o is ∙ by_min (start_len s) (data_len s o.start.width) (next_address s log o) within
  where
    by_min : (a b n : ℕ) → a + b ≤ n → min b (n - a) ≡ b
    by_min a b n within = omega arith

-- ---- by stripes
