-- The stripes of an opening in their order: what each is, how many came before it, and how many
-- blocks it has.
use Rattle.std.proofs.Common.{◌≡◌, ℕ, ◌+◌, ◌-◌, ◌*◌, ◌/◌, ◌%◌, ◌<◌, ◌≤◌, ◌⊎◌, inl, inr, ◌==◌, nat_le, nat_lt, Bool, true, false, Some, List, [], ◌∷◌, ◌++◌, cond, length, take, drop, replicate, refl, sym, subst, ap, ◌∙◌, arith, length-append, length-take}
use Rattle.std.specs.Prelude.{map, slice_get}
use Rattle.std.specs.List.{AllByRecursion, Contains, filter, find, list_all}
use Rattle.std.specs.Int.{div_ceil}
use Rattle.std.proofs.lemmas.List.{length-map}
use Rattle.std.proofs.lemmas.List.Elements.{filter-append}
use Rattle.std.proofs.Math.Nat.{div-add-mod, lt_of_mul-lt-mul_right, mul-div_cancel_left, mul-le-mul_right}
use Rattle.pblk_model.specs.declared.shape.Shape.{Shape}
use Rattle.pblk_model.specs.Accepted.{IsAccepted}
use Rattle.pblk_model.specs.Chunk.{Block}
use Rattle.pblk_model.specs.LineOrder.{data_len, end_len, start_len}
use Rattle.pblk_model.specs.Marks.{pad_block}
use Rattle.pblk_model.specs.Image.{Image}
use Rattle.pblk_model.proofs.LineOrderLemmas.{whole_line}
use Rattle.pblk_world.specs.Events.{Stripe, Logged}
use Rattle.pblk_world.specs.World.{World, Logs, log_of}
use Rattle.pblk_world.specs.EngineLog.{Opening, is_life, openings, Placed, placements, stripes_of, stripes_on, has_failed, has_landed, was_lost, block_of_taken}
use Rattle.pblk_world.specs.Fronts.{waiting}
use Rattle.pblk_world.specs.Legal.{IsLegal}
use Rattle.pblk_world.specs.Lines.{known_image, line_data}
use Rattle.pblk_world.specs.Placing.{IsData, IsEnd, IsPad, IsStart, MayPlace, data_blocks, end_address, end_blocks, line_end, next_address, start_blocks}
use Rattle.pblk_world.specs.Starts.{have_landed, start_stripes}
use Rattle.pblk_world.specs.Victims.{engine_prefix}
use Rattle.pblk_world.proofs.EngineLogLemmas.{opened_same}
use Rattle.pblk_world.proofs.PlacingLemmas.{length_record}
use Rattle.pblk_model.proofs.Lists.{IsAmong, all_imply, among_all, among_contained, length_replicate}
use Rattle.pblk_model.proofs.Maps.{all_filter, any_found, any_member, filter_none, found_passes, from_filter}
use Rattle.pblk_model.proofs.Options.{some_value}
use Rattle.pblk_model.proofs.Parts.{all_at, contained_among, get_below, get_more, part_is_whole, take_and_drop}
use Rattle.pblk_model.proofs.Tests.{first_of, lt_true, not_before, positive, second_of, within_is}
use Rattle.world_laws.proofs.Later.{lost_later, placed_within, placements_joined}
use Rattle.world_laws.proofs.Openings.{opened_at, placed_at}
use Rattle.world_laws.proofs.Stripes.{IsOpening, IsPlaced, opening_is, placed_is, stripe_is}
use Rattle.world_laws.proofs.UnitTurns.{Rises, lesser, rise_all, some_rise}

-- ---- the stripes of an opening, and those before one of them

-- how many stripes of the opening were placed before the event of this number
abbrev pub before : List Logged → Opening → ℕ → ℕ
before log o number = length (stripes_of (take number log) o)

pub record IsSplit (log : List Logged) (o : Opening) (n : ℕ) : Type 0 where
  pub more : List Placed
  pub parts : stripes_of log o ≡ stripes_of (take n log) o ++ more
  pub later : AllByRecursion (λ (p : Placed). length (take n log) ≤ p.number) more

pub stripes_split : (log : List Logged) (o : Opening) (n : ℕ) → IsSplit log o n
stripes_split log o n =
    let test : Placed → Bool = λ p. is_life o.number p.life in
    let joined = placements_joined (take n log) (drop n log) in record {
      more = filter test joined.0;
      parts = ap (λ (xs : List Logged). stripes_of xs o) (sym (take_and_drop n log)) ∙ ap (filter test) joined.1
          ∙ filter-append test (placements (take n log)) joined.0;
      later = all_filter (λ (p : Placed). length (take n log) ≤ p.number) test joined.0 joined.2;
    }

pub stripes_before : (log : List Logged) (o : Opening) → AllByRecursion (λ (p : Placed). p.number < length log) (stripes_of log o)
stripes_before log o = all_filter (λ (p : Placed). p.number < length log) (λ p. is_life o.number p.life) (placements log)
    (all_imply (IsAmong (placements log)) (λ (p : Placed). p.number < length log) (λ p at. placed_within log p (contained_among (placements log) p at))
    (placements log) (among_all (placements log)))

-- how many come before one whose number is above theirs, and not above that of any later one
turn_in : (first more : List Placed) (k : ℕ) (p : Placed) → Rises (first ++ more) → AllByRecursion (λ (q : Placed). q.number < p.number) first
    → AllByRecursion (λ (q : Placed). p.number ≤ q.number) more → slice_get (first ++ more) k ≡ Some p → length first ≡ k
turn_in first more k p rise low high there =
    let earlier : Placed → Bool = λ q. nat_lt q.number p.number in
    let front : filter earlier first ≡ first =
    all_kept earlier first (all_imply (λ (q : Placed). q.number < p.number) (λ q. earlier q ≡ true) (λ q below. lt_true q.number p.number below) first low) in
    let rest : filter earlier more ≡ [] =
    filter_none earlier more (all_imply (λ (q : Placed). p.number ≤ q.number) (λ q. earlier q ≡ false)
    (λ q above. not_before q.number p.number above) more high) in
    sym (ap length (filter-append earlier first more) ∙ length-append (filter earlier first) (filter earlier more)
    ∙ (let none : length (filter earlier more) ≡ 0 = ap length rest in
    let all : length (filter earlier first) ≡ length first = ap length front in omega arith))
    ∙ lesser (first ++ more) k p rise there
  where
    all_kept : {X : Type 0} (f : X → Bool) (xs : List X) → AllByRecursion (λ x. f x ≡ true) xs → filter f xs ≡ xs
    all_kept f [] all = refl
    all_kept {X} f (x ∷ xs) all = ap (λ b. cond b (x ∷ filter f xs) (filter f xs)) all.0 ∙ ap (λ ys. x ∷ ys) (all_kept f xs all.1)

-- those of the opening that pass a test
module _ (log : List Logged) (o : Opening) (test : Placed → Bool) (k : ℕ) (p : Placed) (there : slice_get (filter test (stripes_of log o)) k ≡ Some p) where
  turn_passing : length (filter test (stripes_of (take p.number log) o)) ≡ k
  turn_passing =
      let n : ℕ = p.number in
      let split : IsSplit log o n = stripes_split log o n in
      let at : IsAmong (stripes_of log o) p = from_filter test (stripes_of log o) p (k, there) in
      let inside : p.number < length log = all_at (λ (q : Placed). q.number < length log) (stripes_of log o) at.0 p at.1 (stripes_before log o) in
      let long : length (take n log) ≡ n = omega (arith, length-take n log) in
      let parts : filter test (stripes_of log o) ≡ filter test (stripes_of (take n log) o) ++ filter test split.more =
      ap (filter test) split.parts ∙ filter-append test (stripes_of (take n log) o) split.more in
      turn_in (filter test (stripes_of (take n log) o)) (filter test split.more) k p
      (subst Rises parts (some_rise test (stripes_of log o) (some_rise (λ q. is_life o.number q.life) (placements log) (rise_all log))))
      (all_filter (λ (q : Placed). q.number < p.number) test (stripes_of (take n log) o)
      (all_imply (λ (q : Placed). q.number < length (take n log)) (λ (q : Placed). q.number < p.number) (λ q below. omega arith) (stripes_of (take n log) o)
      (stripes_before (take n log) o)))
      (all_filter (λ (q : Placed). p.number ≤ q.number) test split.more
      (all_imply (λ (q : Placed). length (take n log) ≤ q.number) (λ (q : Placed). p.number ≤ q.number) (λ q above. omega arith) split.more split.later))
      (ap (λ ps. slice_get ps k) (sym parts) ∙ there)

-- a stripe's place among those of its opening, or among those on its unit, is how many of them came
-- before it
pub turn_on_unit : (log : List Logged) (o : Opening) (unit k : ℕ) (p : Placed) → slice_get (stripes_on log o unit) k ≡ Some p
    → length (stripes_on (take p.number log) o unit) ≡ k
turn_on_unit log o unit k p there = turn_passing log o (λ q. q.stripe.unit == unit) k p there

pub turn_of_stripe : (log : List Logged) (o : Opening) (k : ℕ) (p : Placed) → slice_get (stripes_of log o) k ≡ Some p → before log o p.number ≡ k
turn_of_stripe log o k p there = ap length (sym (whole (stripes_of (take p.number log) o)))
    ∙ turn_passing log o (λ q. true) k p (ap (λ ps. slice_get ps k) (whole (stripes_of log o)) ∙ there)
  where
    whole : (ps : List Placed) → filter (λ q. true) ps ≡ ps
    whole [] = refl
    whole (q ∷ ps) = ap (λ qs. q ∷ qs) (whole ps)

-- a stripe of the opening that was placed before another stands in front of it
pub stripe_then : (log : List Logged) (o : Opening) (n k : ℕ) (p : Placed) → slice_get (stripes_of (take n log) o) k ≡ Some p
    → slice_get (stripes_of log o) k ≡ Some p
stripe_then log o n k p there =
    let split : IsSplit log o n = stripes_split log o n in
    ap (λ ps. slice_get ps k) split.parts ∙ get_more (stripes_of (take n log) o) split.more k p there

-- ---- a line that is Failed

-- a stripe of it was lost
pub record IsLostBefore (log : List Logged) (o : Opening) (n : ℕ) : Type 0 where
  pub turn : ℕ
  pub placed : Placed
  pub early : turn < before log o n
  pub there : slice_get (stripes_of log o) turn ≡ Some placed
  pub lost : was_lost log placed ≡ true

pub lost_before : (log : List Logged) (o : Opening) (n : ℕ) → has_failed (take n log) o ≡ true → IsLostBefore log o n
lost_before log o n failed =
    let then_ : List Placed = stripes_of (take n log) o in
    let found = some_value (find (was_lost (take n log)) then_) (sym (any_found (was_lost (take n log)) then_) ∙ failed) in
    let passes = found_passes (was_lost (take n log)) then_ found.0 found.1 in
    let inside : found.0.number < length (take n log) =
    all_at (λ (q : Placed). q.number < length (take n log)) then_ passes.1.0 found.0 passes.1.1 (stripes_before (take n log) o) in
    record {
      turn = passes.1.0;
      placed = found.0;
      early = get_below then_ passes.1.0 found.0 passes.1.1;
      there = stripe_then log o n passes.1.0 found.0 passes.1.1;
      lost = subst (λ (xs : List Logged). was_lost xs found.0 ≡ true) (take_and_drop n log)
          (lost_later (take n log) (drop n log) found.0 inside passes.0);
    }

-- and it stays so
pub failed_later : (log : List Logged) (o : Opening) (n : ℕ) → has_failed (take n log) o ≡ true → has_failed log o ≡ true
failed_later log o n failed =
    let h : IsLostBefore log o n = lost_before log o n failed in any_member (was_lost log) (stripes_of log o) h.turn h.placed h.there h.lost

-- ---- what a stripe is

abbrev pub IsKind : Image → Logs → Opening → Stripe → Type 0
IsKind i logs o stripe = IsStart i logs o stripe ⊎ (IsData i logs o stripe ⊎ (IsEnd i logs o stripe ⊎ IsPad i logs o stripe))

pub stripe_kind : (i : Image) (w : World) (o : Opening) (p : Placed) → IsLegal i w → Contains (openings (log_of w 0)) o → Contains (stripes_of (log_of w 0) o) p
    → IsKind i (engine_prefix p.number (log_of w)) o p.stripe
stripe_kind i w o p legal opened there =
    let is = stripe_is i w o p legal opened there in
    let placed : IsPlaced (log_of w 0) p = placed_is (log_of w 0) p is.0 in
    let may : MayPlace i (engine_prefix p.number (log_of w)) p.stripe = placed_at i w p.number p.stripe placed.logged legal placed.there placed.event in
    let same : may.opening ≡ o = opened_same may.opening o (sym may.is_open ∙ is.2) in
    subst (λ x. IsKind i (engine_prefix p.number (log_of w)) x p.stripe) same may.kind

-- ---- the three parts of a line

-- an opened line has data addresses
pub some_data : (i : Image) (w : World) (o : Opening) → IsLegal i w → Contains (openings (log_of w 0)) o → 0 < data_len i.shape o.start.width
some_data i w o legal opened =
    let at = among_contained (openings (log_of w 0)) o opened in
    let is : IsOpening (log_of w 0) at.0 o = opening_is (log_of w 0) at.0 o at.1 in
    let may = opened_at i w o.number o.line o.start is.logged legal is.there is.event in
    let known : Image = known_image i (engine_prefix o.number (log_of w)) in
    subst (λ n. 0 < data_len i.shape n) (sym may.2.own_width) (positive (line_data known o.line) (second_of _ _ may.2.is_free))

pub start_whole : (s : Shape) → 0 < s.ws_opt → start_len s ≡ start_stripes s * s.ws_opt
start_whole s some =
    let k : ℕ = div_ceil (64 + 24 * (s.chunks - 1)) (s.ws_opt * s.sector) in
    let is : start_stripes s ≡ k = mul-div_cancel_left k some in
    let commuted : s.ws_opt * k ≡ k * s.ws_opt = omega arith in
    commuted ∙ ap (λ n. n * s.ws_opt) (sym is)

-- a whole number of stripes below another begins a stripe below it
pub next_fits : (n j k : ℕ) → j * n < k * n → j * n + n ≤ k * n
next_fits n j k h =
    let below : j < k = lt_of_mul-lt-mul_right n h in
    let more : (j + 1) * n ≤ k * n = mul-le-mul_right n (omega arith) in
    omega arith

-- ---- how many blocks a stripe has

start_count : (i : Image) (logs : Logs) (o : Opening) (stripe : Stripe) → IsStart i logs o stripe → length stripe.blocks ≡ i.shape.ws_opt
start_count i logs o stripe h =
    let s : Shape = i.shape in
    let a : ℕ = next_address s (logs 0) o in
    let k : ℕ = div_ceil (64 + 24 * (s.chunks - 1)) (s.ws_opt * s.sector) in
    let long : length (start_blocks s o) ≡ start_len s = length_record s o.start.seq (start_len s) _ in
    let within : a < start_len s = h.within in
    let commuted : start_len s ≡ k * s.ws_opt = omega arith in
    let fits : a + s.ws_opt ≤ k * s.ws_opt = next_fits s.ws_opt (length (stripes_of (logs 0) o)) k (omega arith) in
    ap length h.blocks ∙ part_is_whole (start_blocks s o) (a - 0) s.ws_opt (omega arith)

end_count : (i : Image) (logs : Logs) (o : Opening) (stripe : Stripe) → IsAccepted i.shape → 0 < data_len i.shape o.start.width → IsEnd i logs o stripe
    → length stripe.blocks ≡ i.shape.ws_opt
end_count i logs o stripe accepted some h =
    let s : Shape = i.shape in
    let a : ℕ = next_address s (logs 0) o in
    let long : length (end_blocks s (logs 0) o) ≡ end_len s o.start.width = length_record s o.start.seq (end_len s o.start.width) _ in
    let parts : s.ws_opt * (s.clba / s.ws_opt) + s.clba % s.ws_opt ≡ s.clba = div-add-mod s.clba s.ws_opt in
    let none : s.clba % s.ws_opt ≡ 0 = accepted.drive.whole_stripes in
    let chunk : s.clba ≡ s.clba / s.ws_opt * s.ws_opt = omega arith in
    let line : line_end s o ≡ o.start.width * (s.clba / s.ws_opt) * s.ws_opt =
    ap (λ n. o.start.width * n) chunk
    ∙ (let same : o.start.width * (s.clba / s.ws_opt * s.ws_opt) ≡ o.start.width * (s.clba / s.ws_opt) * s.ws_opt = omega arith in same) in
    let within : a < line_end s o = h.within in
    let fits : a + s.ws_opt ≤ o.start.width * (s.clba / s.ws_opt) * s.ws_opt =
    next_fits s.ws_opt (length (stripes_of (logs 0) o)) (o.start.width * (s.clba / s.ws_opt)) (omega arith) in
    let from : end_address s o ≤ a = h.from in
    let all : end_address s o + end_len s o.start.width ≡ line_end s o = whole_line s o.start.width some in
    let room : a - end_address s o + s.ws_opt ≤ length (end_blocks s (logs 0) o) = omega arith in
    ap length h.blocks ∙ part_is_whole (end_blocks s (logs 0) o) (a - end_address s o) s.ws_opt room

data_count : (s : Shape) (log : List Logged) → length (data_blocks s log) ≡ s.ws_opt
data_count s log =
    let blocks : List Block = map block_of_taken (take s.ws_opt (waiting s log)) in
    let few : length blocks ≤ s.ws_opt = omega (arith, length-map (take s.ws_opt (waiting s log)) block_of_taken, length-take s.ws_opt (waiting s log)) in
    let more : length (replicate (s.ws_opt - length blocks) (pad_block s)) ≡ s.ws_opt - length blocks =
    length_replicate (s.ws_opt - length blocks) (pad_block s) in
    let all : length (data_blocks s log) ≡ length blocks + length (replicate (s.ws_opt - length blocks) (pad_block s)) =
    length-append blocks (replicate (s.ws_opt - length blocks) (pad_block s)) in
    omega arith

pub stripe_count : (i : Image) (w : World) (o : Opening) (p : Placed) → IsAccepted i.shape → IsLegal i w → Contains (openings (log_of w 0)) o
    → Contains (stripes_of (log_of w 0) o) p → length p.stripe.blocks ≡ i.shape.ws_opt
stripe_count i w o p accepted legal opened there = go (stripe_kind i w o p legal opened there)
  where
    go : IsKind i (engine_prefix p.number (log_of w)) o p.stripe → length p.stripe.blocks ≡ i.shape.ws_opt
    go (inl h) = start_count i (engine_prefix p.number (log_of w)) o p.stripe h
    go (inr (inl h)) = ap length h.blocks ∙ data_count i.shape (take p.number (log_of w 0))
    go (inr (inr (inl h))) = end_count i (engine_prefix p.number (log_of w)) o p.stripe accepted (some_data i w o legal opened) h
    go (inr (inr (inr h))) = ap length h.blocks ∙ length_replicate i.shape.ws_opt (pad_block i.shape)

-- ---- what has landed before a stripe

pub enough_placed : (log : List Logged) (o : Opening) (n : ℕ) → have_landed log o n ≡ true → n ≤ length (stripes_of log o)
enough_placed log o n h =
    within_is n (length (stripes_of log o)) (first_of (nat_le n (length (stripes_of log o))) (list_all (has_landed log) (take n (stripes_of log o))) h)

-- data come behind the start record
pub data_behind_start : (i : Image) (logs : Logs) (o : Opening) (stripe : Stripe) → 0 < i.shape.ws_opt → IsData i logs o stripe
    → start_len i.shape ≤ next_address i.shape (logs 0) o
data_behind_start i logs o stripe some h =
    let few : start_stripes i.shape ≤ length (stripes_of (logs 0) o) = enough_placed (logs 0) o (start_stripes i.shape) h.start_landed in
    let more : start_stripes i.shape * i.shape.ws_opt ≤ length (stripes_of (logs 0) o) * i.shape.ws_opt = mul-le-mul_right i.shape.ws_opt few in
    let whole : start_len i.shape ≡ start_stripes i.shape * i.shape.ws_opt = start_whole i.shape some in
    omega arith
