-- The stripes of an opening that were placed before one of them was lost, and the marks of their
-- data.
use Rattle.std.proofs.Common.{◌≡◌, ℕ, ◌-◌, ◌*◌, ◌<◌, ◌≤◌, not, Bool, true, false, List, [], ◌∷◌, ◌++◌, length, take, take_all, drop, cond, append-nil, le_refl, refl, sym, subst, ap, ◌∙◌, arith, if◌then◌else◌, le_of_lt, length-take, length-drop}
use Rattle.std.specs.Prelude.{map, slice_range}
use Rattle.std.specs.List.{AllByRecursion, filter, flat_map}
use Rattle.std.proofs.lemmas.List.{length-map, take-append-le, take-take}
use Rattle.std.proofs.lemmas.List.Elements.{filter-append}
use Rattle.std.proofs.lemmas.Grind.{flat_map-append}
use Rattle.pblk_model.specs.declared.shape.Shape.{Shape}
use Rattle.pblk_model.specs.LineOrder.{data_len, start_len}
use Rattle.pblk_model.specs.declared.chunk.Mark.{Mark}
use Rattle.pblk_model.specs.Chunk.{Block}
use Rattle.pblk_model.specs.Image.{Image}
use Rattle.pblk_world.specs.Events.{Decides, Logged, Place, Stripe}
use Rattle.pblk_world.specs.EngineLog.{Opened, Opening, is_life, life_of, Placed, placements, stripes_of, has_failed}
use Rattle.pblk_world.specs.Placing.{data_marks, end_address}
use Rattle.pblk_world.specs.World.{World, log_of}
use Rattle.pblk_world.specs.LegalMounts.{IsLegalMount}
use Rattle.world_laws.proofs.EndRecords.{part_of_front}
use Rattle.world_laws.proofs.LineStripes.{IsSplit, stripes_before, stripes_split}
use Rattle.core_laws.proofs.Placing.{new_placed, stripes_now, with_place}
use Rattle.core_laws.proofs.StripeBlocks.{have_blocks, length_joined}
use Rattle.core_laws.proofs.StripesInOrder.{whole_then}
use Rattle.pblk_model.proofs.Lists.{all_front, all_imply}
use Rattle.pblk_model.proofs.Maps.{all_filter, filter_agree, filter_all}
use Rattle.pblk_model.proofs.Tests.{same_number}
use Rattle.pblk_core.specs.LineRecords.{AreRecordsOf, AreOf, RecordsView, placed_whole, whole_marks}

-- those of a longer log that were placed before
pub whole_first : (log : List Logged) (l : Logged) (o : Opening)
    → filter (λ (p : Placed). not (has_failed (take p.number (log ++ l ∷ [])) o)) (stripes_of log o) ≡ placed_whole log o
whole_first log l o =
    filter_agree (λ (p : Placed). p.number < length log) (λ (p : Placed). not (has_failed (take p.number (log ++ l ∷ [])) o))
    (λ (p : Placed). not (has_failed (take p.number log) o))
    (λ p before. ap (λ (xs : List Logged). not (has_failed xs o)) (take-append-le p.number log (l ∷ []) (le_of_lt before))) (stripes_of log o)
    (stripes_before log o)

-- an event that places none leaves them
pub whole_same : (log : List Logged) (l : Logged) (o : Opening) → stripes_of (log ++ l ∷ []) o ≡ stripes_of log o
    → placed_whole (log ++ l ∷ []) o ≡ placed_whole log o
whole_same log l o same = ap (filter (λ (p : Placed). not (has_failed (take p.number (log ++ l ∷ [])) o))) same ∙ whole_first log l o

pub marks_kept : (s : Shape) (log : List Logged) (l : Logged) (o : Opening) → stripes_of (log ++ l ∷ []) o ≡ stripes_of log o
    → whole_marks s (log ++ l ∷ []) o ≡ whole_marks s log o
marks_kept s log l o same =
    ap (λ ps. map (λ b. b.mark) (slice_range (flat_map (λ (p : Placed). p.stripe.blocks) ps) (start_len s) (end_address s o))) (whole_same log l o same)

pub records_kept : (s : Shape) (log : List Logged) (l : Logged) (o : Opening) (r : RecordsView) → stripes_of (log ++ l ∷ []) o ≡ stripes_of log o
    → AreRecordsOf s log o r → AreRecordsOf s (log ++ l ∷ []) o r
records_kept s log l o r same of = record {
  shape = of.shape;
  line = of.line;
  width = of.width;
  seq = of.seq;
  start = of.start;
  marks = of.marks ∙ sym (marks_kept s log l o same);
}

-- where none was lost they are all
pub all_whole : (log : List Logged) (o : Opening) → has_failed log o ≡ false → placed_whole log o ≡ stripes_of log o
all_whole log o sound = go (stripes_of log o)
  where
    go : (ps : List Placed) → filter (λ (p : Placed). not (has_failed (take p.number log) o)) ps ≡ ps
    go [] = refl
    go (p ∷ ps) = ap (λ b. if b then p ∷ filter (λ (q : Placed). not (has_failed (take q.number log) o)) ps
        else filter (λ (q : Placed). not (has_failed (take q.number log) o)) ps) (ap not (whole_then log o p.number sound))
        ∙ ap (λ qs. p ∷ qs) (go ps)

pub records_of : (s : Shape) (log : List Logged) (o : Opening) (r : RecordsView) → has_failed log o ≡ false → AreRecordsOf s log o r → AreOf s log o r
records_of s log o r sound is = record {
  shape = is.shape;
  line = is.line;
  width = is.width;
  seq = is.seq;
  start = is.start;
  marks = is.marks
      ∙ ap (λ ps. map (λ b. b.mark) (slice_range (flat_map (λ (p : Placed). p.stripe.blocks) ps) (start_len s) (end_address s o))) (all_whole log o sound);
}

pub marks_all : (s : Shape) (log : List Logged) (o : Opening) → has_failed log o ≡ false → whole_marks s log o ≡ data_marks s log o
marks_all s log o sound =
    ap (λ ps. map (λ b. b.mark) (slice_range (flat_map (λ (p : Placed). p.stripe.blocks) ps) (start_len s) (end_address s o))) (all_whole log o sound)

-- ---- once a stripe is placed

abbrev is_whole : List Logged → Opening → Placed → Bool
is_whole log o p = not (has_failed (take p.number log) o)

placed_first : (log : List Logged) (stripe : Stripe) (knows : List ℕ) (o other : Opening) → life_of log stripe.line ≡ Opened o
    → placed_whole (with_place log stripe knows) other ≡ placed_whole log other
    ++ filter (is_whole (with_place log stripe knows) other) (cond (is_life other.number (Opened o)) (new_placed log stripe o ∷ []) [])
placed_first log stripe knows o other opened =
    let l : Logged = record { event = Decides (Place stripe); knows = knows } in
    ap (filter (is_whole (with_place log stripe knows) other)) (stripes_now log stripe knows o other (is_life other.number (Opened o)) opened refl)
    ∙ filter-append (is_whole (with_place log stripe knows) other) (stripes_of log other)
    (cond (is_life other.number (Opened o)) (new_placed log stripe o ∷ []) [])
    ∙ ap (λ ps. ps ++ filter (is_whole (with_place log stripe knows) other) (cond (is_life other.number (Opened o)) (new_placed log stripe o ∷ []) []))
    (whole_first log l other)

-- a stripe of another line
pub whole_elsewhere : (log : List Logged) (stripe : Stripe) (knows : List ℕ) (o other : Opening) → life_of log stripe.line ≡ Opened o
    → is_life other.number (Opened o) ≡ false → placed_whole (with_place log stripe knows) other ≡ placed_whole log other
whole_elsewhere log stripe knows o other opened apart =
    placed_first log stripe knows o other opened
    ∙ ap (λ b. placed_whole log other ++ filter (is_whole (with_place log stripe knows) other) (cond b (new_placed log stripe o ∷ []) [])) apart
    ∙ append-nil (placed_whole log other)

-- a pad of a line of which one was lost
pub whole_pad : (log : List Logged) (stripe : Stripe) (knows : List ℕ) (o : Opening) → life_of log stripe.line ≡ Opened o → has_failed log o ≡ true
    → placed_whole (with_place log stripe knows) o ≡ placed_whole log o
whole_pad log stripe knows o opened failed =
    placed_first log stripe knows o o opened
    ∙ ap (λ b. placed_whole log o ++ filter (is_whole (with_place log stripe knows) o) (cond b (new_placed log stripe o ∷ []) [])) (same_number o.number)
    ∙ ap (λ b. placed_whole log o ++ cond (not b) (new_placed log stripe o ∷ []) [])
    (ap (λ (xs : List Logged). has_failed xs o) (take-append-seam log (record { event = Decides (Place stripe); knows = knows } ∷ [])) ∙ failed)
    ∙ append-nil (placed_whole log o)
  where
    take-append-seam : (xs ys : List Logged) → take (length xs) (xs ++ ys) ≡ xs
    take-append-seam xs ys = take-append-le (length xs) xs ys (le_refl (length xs)) ∙ take_all (length xs) xs (le_refl (length xs))

pub marks_then : (s : Shape) (log : List Logged) (stripe : Stripe) (knows : List ℕ) (o : Opening)
    → placed_whole (with_place log stripe knows) o ≡ placed_whole log o → whole_marks s (with_place log stripe knows) o ≡ whole_marks s log o
marks_then s log stripe knows o same =
    ap (λ ps. map (λ b. b.mark) (slice_range (flat_map (λ (p : Placed). p.stripe.blocks) ps) (start_len s) (end_address s o))) same

-- ---- by the log as it was when none was lost yet

slice_length : {X : Type 0} (xs : List X) (a b : ℕ) → b ≤ length xs → length (slice_range xs a b) ≡ b - a
slice_length xs a b inside =
    omega (arith, length-take (b - a) (drop a xs), length-drop a xs)

module _ (i : Image) (w : World) (mount : IsLegalMount i w) (o : Opening) (n : ℕ) (sound : has_failed (take n (log_of w 0)) o ≡ false)
    (enough : end_address i.shape o ≤ length (stripes_of (take n (log_of w 0)) o) * i.shape.ws_opt) where
  abbrev log : List Logged
  log = log_of w 0

  abbrev blocks : Placed → List Block
  blocks = λ p. p.stripe.blocks

  first : List Placed
  first = stripes_of (take n (log_of w 0)) o

  split : IsSplit (log_of w 0) o n
  split = stripes_split log o n

  long : length (flat_map (λ (p : Placed). p.stripe.blocks) (stripes_of (take n (log_of w 0)) o)) ≡ length (stripes_of (take n (log_of w 0)) o) * i.shape.ws_opt
  long = length_joined i.shape.ws_opt (stripes_of (take n log) o)
      (all_front (λ (p : Placed). length p.stripe.blocks ≡ i.shape.ws_opt) (stripes_of (take n log) o) split.more
      (subst (AllByRecursion (λ (p : Placed). length p.stripe.blocks ≡ i.shape.ws_opt)) split.parts
      (all_filter (λ (p : Placed). length p.stripe.blocks ≡ i.shape.ws_opt) (λ (p : Placed). is_life o.number p.life) (placements log)
      (have_blocks i w mount.accepted mount.legal).blocks))).0

  -- those of that log are all of them
  were_whole : filter (λ (p : Placed). not (has_failed (take p.number (log_of w 0)) o)) (stripes_of (take n (log_of w 0)) o)
      ≡ stripes_of (take n (log_of w 0)) o
  were_whole = filter_all (λ (p : Placed). not (has_failed (take p.number log) o)) (stripes_of (take n log) o)
      (all_imply (λ (p : Placed). p.number < length (take n log)) (λ (p : Placed). not (has_failed (take p.number log) o) ≡ true)
      (λ p before. ap not (ap (λ (xs : List Logged). has_failed xs o) (sym (take-take p.number n log (omega (arith, before, length-take n log))))
      ∙ whole_then (take n log) o p.number sound)) (stripes_of (take n log) o) (stripes_before (take n log) o))

  parts : placed_whole (log_of w 0) o ≡ stripes_of (take n (log_of w 0)) o
      ++ filter (λ (p : Placed). not (has_failed (take p.number (log_of w 0)) o)) split.more
  parts = ap (filter (λ (p : Placed). not (has_failed (take p.number log) o))) split.parts
      ∙ filter-append (λ (p : Placed). not (has_failed (take p.number log) o)) (stripes_of (take n log) o) split.more
      ∙ ap (λ ps. ps ++ filter (λ (p : Placed). not (has_failed (take p.number log) o)) split.more) were_whole

  pub marks_were : whole_marks i.shape (log_of w 0) o ≡ data_marks i.shape (take n (log_of w 0)) o
  marks_were =
      ap (λ ps. map (λ (b : Block). b.mark) (slice_range (flat_map blocks ps) (start_len i.shape) (end_address i.shape o))) parts
      ∙ ap (λ bs. map (λ (b : Block). b.mark) (slice_range bs (start_len i.shape) (end_address i.shape o)))
      (flat_map-append blocks (stripes_of (take n log) o) (filter (λ (p : Placed). not (has_failed (take p.number log) o)) split.more))
      ∙ ap (map (λ (b : Block). b.mark)) (part_of_front (flat_map blocks (stripes_of (take n log) o))
      (flat_map blocks (filter (λ (p : Placed). not (has_failed (take p.number log) o)) split.more)) (start_len i.shape) (end_address i.shape o) (omega arith)
      (let l = long in omega arith))

  pub marks_counted : length (whole_marks i.shape (log_of w 0) o) ≡ data_len i.shape o.start.width
  marks_counted =
      ap (λ (ms : List Mark). length ms) marks_were
      ∙ length-map (slice_range (flat_map blocks (stripes_of (take n log) o)) (start_len i.shape) (end_address i.shape o)) (λ (b : Block). b.mark)
      ∙ slice_length (flat_map blocks (stripes_of (take n log) o)) (start_len i.shape) (end_address i.shape o) (let l = long in omega arith)
      ∙ omega arith
