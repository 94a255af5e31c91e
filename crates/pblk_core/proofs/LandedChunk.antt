-- What an open line's records keep of the blocks of a chunk of it.
use Rattle.std.proofs.Common.{◌≡◌, ◌≢◌, ◌⊎◌, ℕ, ◌+◌, ◌-◌, ◌*◌, ◌/◌, ◌%◌, ◌<◌, ◌≤◌, ◌==◌, zero, suc, nat_lt, nat_le, if◌then◌else◌, Bool, true, false, Some, None, Option, List, [], ◌∷◌, length, take, drop, refl, sym, subst, ap, ap₂, ◌∙◌, arith, inl, inr, mul-div_cancel, div-add-mod', length-drop, length-take}
use Rattle.std.specs.Prelude.{slice_get, slice_range, is_some}
use Rattle.std.specs.List.{AllByRecursion, flat_map}
use Rattle.std.specs.Option.{option_and_then, option_map}
use Rattle.std.proofs.lemmas.Bool.{cases_order, eqb-true}
use Rattle.std.proofs.lemmas.Option.{none-some, slice_get-map, slice_get_past, slice_get_within}
use Rattle.std.specs.List.Sorted.{IsStrictlyIncreasing}
use Rattle.std.proofs.Math.Nat.{div-add-mod, mod-lt, mul-le-mul_right, mul_comm}
use Rattle.pblk_model.specs.declared.shape.Shape.{Shape}
use Rattle.pblk_model.specs.declared.chunk.Mark.{Mark}
use Rattle.pblk_model.specs.Chunk.{Block}
use Rattle.pblk_model.specs.Marks.{pad_lba}
use Rattle.pblk_model.specs.Image.{Image}
use Rattle.pblk_model.specs.LineOrder.{line_order, address_of, column_of, data_len, start_len}
use Rattle.pblk_model.specs.Records.{named}
use Rattle.pblk_model.proofs.LineOrder.{address_below, chunk_back, block_back, chunk_below, block_below, address_back}
use Rattle.pblk_model.proofs.OrderedBlocks.{order_exactly, order_length}
use Rattle.pblk_layout.specs.Online.{units_in}
use Rattle.pblk_layout.proofs.Orders as orders
use Rattle.pblk_world.specs.World.{World, log_of}
use Rattle.pblk_world.specs.EngineLog.{Opening, Taken, takes, Placed, is_life, placements, stripes_of, stripes_on}
use Rattle.pblk_world.specs.Placing.{end_address}
use Rattle.stripe_placer.specs.OpenLines.{width}
use Rattle.core_laws.specs.OpenedLines.{as_opened, is_stripe_at}
use Rattle.core_laws.proofs.UnitTurns.{filtered_is}
use Rattle.world_laws.proofs.NumberedLists.{joined_at}
use Rattle.core_laws.specs.ChunkBlocks.{chunk_blocks}
use Rattle.core_laws.specs.ReadSlots.{address_of_block}
use Rattle.core_laws.proofs.SlotsInWorlds.{address_at}
use Rattle.pblk_world.specs.Lines.{known_image}
use Rattle.core_laws.proofs.StripeBlocks.{have_blocks, length_joined}
use Rattle.pblk_core.proofs.LandedEntries.{read_of}
use Rattle.core_laws.proofs.PartLengths.{is_before, ends_before}
use Rattle.core_laws.proofs.ChunksInRows.{rows_of_chunks}
use Rattle.stripe_placer.specs.Placing.{Program}
use Rattle.stripe_placer.proofs.Chunks.{lt_of as lt_yes}
use Rattle.pblk_laws.proofs.LineUnits.{line_units_rise}
use Rattle.core_laws.proofs.LineNumbers.{IsNumbered, numbered}
use Rattle.core_laws.proofs.StripesInOrder.{stripe_count}
use Rattle.core_laws.proofs.WholePlaces.{was_whole, whole_at, pad_behind}
use Rattle.pblk_world.specs.LegalMounts.{IsLegalMount}
use Rattle.pblk_core.specs.LineRecords.{placed_whole, whole_marks}
use Rattle.pblk_core.specs.Stands.{IsOpenLine}
use Rattle.pblk_core.specs.Readable.{ReadBlock, block_reads, data_mark, position_of}
use Rattle.pblk_core.specs.declared.open_lines.OpenLine.{OpenLine}
use Rattle.pblk_core.proofs.LandedReads.{IsChunkRead}
use Rattle.pblk_core.proofs.LandedWay.{IsOnWay}
use Rattle.pblk_core.proofs.ReadBlocks.{place_is, none_told, pads_there, reads_there}
use Rattle.pblk_core.proofs.LineUnits.{now_units}
use Rattle.pblk_model.proofs.Lists.{IsAmong}
use Rattle.pblk_model.proofs.Maps.{all_filter, from_filter}
use Rattle.pblk_model.proofs.Parts.{get_past, got_within, one_column}
use Rattle.pblk_model.proofs.Tests.{le_of_lt_false, within_is}

-- ---- where a block stands in the order of its line

pub place_found : (s : Shape) (us : List ℕ) (unit c b : ℕ) → IsStrictlyIncreasing us → 0 < s.ws_opt → s.clba % s.ws_opt ≡ 0 → slice_get us c ≡ Some unit
    → b < s.clba → position_of (unit, b) (line_order s us) ≡ Some (address_of s (length us) c b)
place_found s us unit c b rise ws whole there below =
    place_is (line_order s us) (unit, b) (Some (address_of s (length us) c b))
    (orders.found s us (length us) c unit b order_exactly
    (λ s g k b ws whole c h. (address_below s.ws_opt g s.clba k b ws whole c h, chunk_back s.ws_opt g k b ws c, block_back s.ws_opt g k b ws c)) ws whole
    refl there below).1
    (λ a h.
    let is = orders.at s us a unit b order_exactly order_length
    (λ s g a ws whole some h. (chunk_below s.ws_opt g s.clba a some, block_below s.ws_opt g s.clba a ws whole some h, address_back s.ws_opt g a ws)) ws
    whole h in
    let same : c ≡ column_of s (length us) a = one_column us c (column_of s (length us) a) unit rise there is.unit_is in
    ap Some (ap (λ k. address_of s (length us) k b) same ∙ is.address))

-- ---- a block of the chunk in its line

-- The stripe that has it has a number in its line, in line order. Before a stripe of the line was
-- lost that is its place among those that were placed then; the pads that came later are behind
-- these.
pub record IsInLine (i : Image) (w : World) (unit : ℕ) (o : Opening) (slot : OpenLine) (n : ℕ) (b : Block) : Type 0 where
  pub number : ℕ
  pub stripe : Placed
  pub among : IsAmong (stripes_of (log_of w 0) o) stripe
  pub whole : was_whole (log_of w 0) o stripe ≡ true → slice_get (placed_whole (log_of w 0) o) number ≡ Some stripe
  pub later : was_whole (log_of w 0) o stripe ≡ false → length (placed_whole (log_of w 0) o) ≤ number
  pub block : slice_get stripe.stripe.blocks (n % i.shape.ws_opt) ≡ Some b
  pub address : address_of_block i (log_of w) o unit n ≡ number * i.shape.ws_opt + n % i.shape.ws_opt
  pub place : position_of (unit, n) (line_order slot.records.shape (units_in slot.online)) ≡ Some (number * i.shape.ws_opt + n % i.shape.ws_opt)

-- a number in its row
row_below : (w n m : ℕ) → n < m * w → n / w < m
row_below w n m below = go (cases_order (n / w) m)
  where
    parts : w * (n / w) + n % w ≡ n
    parts = div-add-mod n w

    go : (n / w ≡ m) ⊎ ((n / w < m) ⊎ (m < n / w)) → n / w < m
    go (inl same) = let p : m * w ≡ w * (n / w) = ap (λ k. k * w) (sym same) ∙ mul_comm (n / w) w in absurd (omega arith)
    go (inr (inl less)) = less
    go (inr (inr more)) = let p : m * w ≤ (n / w) * w = mul-le-mul_right w (omega arith) in let q : (n / w) * w ≡ w * (n / w) =
        mul_comm (n / w) w in absurd (omega arith)

long_all : (n : ℕ) (ps : List Placed) → ((k : ℕ) (r : Placed) → slice_get ps k ≡ Some r → length r.stripe.blocks ≡ n)
    → AllByRecursion (λ (r : Placed). length r.stripe.blocks ≡ n) ps
long_all n [] each = tt
long_all n (r ∷ ps) each = (each 0 r refl, long_all n ps (λ k x e. each (suc k) x e))

pub in_line : (i : Image) (w : World) (unit : ℕ) (of : Program) (slot : OpenLine) (n : ℕ) (b : Block) → IsLegalMount i w → (is : IsOnWay i w unit of)
    → IsOpenLine i (log_of w) is.row.opening slot
    → slice_get (chunk_blocks (log_of w 0) is.row.opening unit) n ≡ Some b → IsInLine i w unit is.row.opening slot n b
in_line i w unit of slot n b mount is kept there =
    let ws : 0 < i.shape.ws_opt = is.line_is.striped.some in
    let rows = rows_of_chunks i w is.row.opening unit mount in
    let long = long_all i.shape.ws_opt (stripes_on (log_of w 0) is.row.opening unit) (λ k r at. (rows k r at).blocks) in
    let count : length (chunk_blocks (log_of w 0) is.row.opening unit) ≡ length (stripes_on (log_of w 0) is.row.opening unit) * i.shape.ws_opt =
    length_joined i.shape.ws_opt (stripes_on (log_of w 0) is.row.opening unit) long in
    let within : n < length (chunk_blocks (log_of w 0) is.row.opening unit) = slice_get_within (chunk_blocks (log_of w 0) is.row.opening unit) n b there in
    let row : n / i.shape.ws_opt < length (stripes_on (log_of w 0) is.row.opening unit) =
    row_below i.shape.ws_opt n (length (stripes_on (log_of w 0) is.row.opening unit)) (omega arith) in
    let p = got_within (stripes_on (log_of w 0) is.row.opening unit) (n / i.shape.ws_opt) row in
    let rest : n % i.shape.ws_opt < i.shape.ws_opt = mod-lt n ws in
    let parts : n / i.shape.ws_opt * i.shape.ws_opt + n % i.shape.ws_opt ≡ n = ap (λ m. m + n % i.shape.ws_opt) (mul_comm (n / i.shape.ws_opt) i.shape.ws_opt)
    ∙ div-add-mod n i.shape.ws_opt in
    let its = rows (n / i.shape.ws_opt) p.0 p.1 in
    let own : p.0.stripe.unit ≡ unit =
    eqb-true p.0.stripe.unit unit (filtered_is (λ (x : Placed). x.stripe.unit == unit) (stripes_of (log_of w 0) is.row.opening)
    (n / i.shape.ws_opt) p.0 p.1) in
    let among : IsAmong (stripes_of (log_of w 0) is.row.opening) p.0 =
    from_filter (λ (x : Placed). x.stripe.unit == unit) (stripes_of (log_of w 0) is.row.opening) p.0 (n / i.shape.ws_opt, p.1) in
    let place : IsNumbered i w mount is.row.opening is.is_open p.0 = numbered i w mount is.row.opening is.is_open p.0 among in
    let column : slice_get (now_units i w is.row.opening.line) (place.number % length (now_units i w is.row.opening.line)) ≡ Some unit = place.unit
    ∙ ap (λ u. Some u) own in
    let same_row : place.number / length (now_units i w is.row.opening.line) ≡ n / i.shape.ws_opt =
    sym (mul-div_cancel (place.number / length (now_units i w is.row.opening.line)) {n = i.shape.ws_opt} ws)
    ∙ ap (λ m. m / i.shape.ws_opt) (sym place.row ∙ its.at) ∙ mul-div_cancel (n / i.shape.ws_opt) {n = i.shape.ws_opt} ws in
    let number : n / i.shape.ws_opt * length (now_units i w is.row.opening.line) + place.number % length (now_units i w is.row.opening.line) ≡ place.number =
    ap (λ m. m * length (now_units i w is.row.opening.line) + place.number % length (now_units i w is.row.opening.line)) (sym same_row)
    ∙ div-add-mod' place.number (length (now_units i w is.row.opening.line)) in
    let total : length (as_opened i (log_of w) is.row.opening).stripes ≡ stripe_count i (now_units i w) is.row.opening.line = is.line_is.count in
    let inside : place.number < stripe_count i (now_units i w) is.row.opening.line = place.inside in
    let wide : 0 < width (as_opened i (log_of w) is.row.opening) = (let g = is.line_is.wide_is in let h = is.line_is.striped.wide in omega arith) in
    let below : n < i.shape.clba = (let a : p.0.stripe.at ≡ n / i.shape.ws_opt * i.shape.ws_opt = its.at in let c = its.within in omega arith) in
    record {
      number = place.number;
      stripe = p.0;
      among = among;
      whole = whole_at i w mount is.row.opening is.is_open p.0 among;
      later = pad_behind i w mount is.row.opening is.is_open p.0 among;
      block = sym (joined_at (λ (q : Placed). q.stripe.blocks) i.shape.ws_opt (stripes_on (log_of w 0) is.row.opening unit) (n / i.shape.ws_opt)
          (n % i.shape.ws_opt) long rest
          ∙ ap (option_and_then (λ (q : Placed). slice_get q.stripe.blocks (n % i.shape.ws_opt))) p.1)
          ∙ ap (slice_get (chunk_blocks (log_of w 0) is.row.opening unit)) parts ∙ there;
      address = address_at i (log_of w) is.row.opening unit n place.number ws wide (omega arith)
          (ap₂ (λ u m. is_stripe_at i.shape (as_opened i (log_of w) is.row.opening) u m place.number) (sym own) (sym its.at) ∙ place.at);
      place = ap₂ (λ s us. position_of (unit, n) (line_order s us)) kept.records.shape (ap units_in kept.online ∙ is.line_is.units)
          ∙ place_found i.shape (now_units i w is.row.opening.line) unit (place.number % length (now_units i w is.row.opening.line)) n
          (line_units_rise (known_image i (log_of w)) is.row.opening.line) ws mount.accepted.drive.whole_stripes column below
          ∙ ap (λ m. Some (m * i.shape.ws_opt + n % i.shape.ws_opt)) number;
    }

-- ---- its mark

-- what the blocks of a stripe of a line that isn't Failed are: entries or pads at the data
-- addresses, and elsewhere neither
pub record HasKind (s : Shape) (ts : List Taken) (o : Opening) (j : ℕ) (blocks : List Block) : Type 0 where
  pub outside : (b : Block) → IsAmong blocks b → (j * s.ws_opt < start_len s) ⊎ (end_address s o ≤ j * s.ws_opt) → is_some (named s b.mark) ≡ false
  pub data_of : (b : Block) → IsAmong blocks b → start_len s ≤ j * s.ws_opt → j * s.ws_opt < end_address s o
      → ((b.mark.lba ≡ pad_lba) × (is_some (named s b.mark) ≡ false))
      ⊎ ((b.mark.lba ≢ pad_lba) × (is_some (named s b.mark) ≡ true) × ((t : Taken) × IsAmong ts t × (b.mark ≡ t.mark)))

-- those that were placed before a stripe of the line was lost, and the pads that were placed later
pub record AreKinds (i : Image) (w : World) (o : Opening) : Type 0 where
  pub whole : (j : ℕ) (p : Placed) → slice_get (placed_whole (log_of w 0) o) j ≡ Some p → HasKind i.shape (takes (log_of w 0)) o j p.stripe.blocks
  pub pads : (p : Placed) → IsAmong (stripes_of (log_of w 0) o) p → was_whole (log_of w 0) o p ≡ false
      → (b : Block) → IsAmong p.stripe.blocks b → is_some (named i.shape b.mark) ≡ false

part_in : {X : Type 0} (xs : List X) (a n k : ℕ) (x : X) → slice_get xs (a + k) ≡ Some x → k < n → slice_get (take n (drop a xs)) k ≡ Some x
part_in xs zero zero k x at h = absurd (omega arith)
part_in [] zero (suc n) k x at h = absurd (none-some x at)
part_in (y ∷ xs) zero (suc n) zero x at h = let same : 0 + 0 ≡ 0 = refl in at
part_in (y ∷ xs) zero (suc n) (suc k) x at h = let same : 0 + suc k ≡ suc (0 + k) =
    omega arith in part_in xs zero n k x (ap (slice_get (y ∷ xs)) (sym same) ∙ at) (omega arith)
part_in [] (suc a) n k x at h = absurd (none-some x at)
part_in (y ∷ xs) (suc a) n k x at h = let same : suc a + k ≡ suc (a + k) = omega arith in part_in xs a n k x (ap (slice_get (y ∷ xs)) (sym same) ∙ at) h

part_short : {X : Type 0} (xs : List X) (a n k : ℕ) → n ≤ k → slice_get (take n (drop a xs)) k ≡ None
part_short xs a n k h = slice_get_past (take n (drop a xs)) k (let few : length (take n (drop a xs)) ≤ n = length-take-at-most n (drop a xs) in omega arith)
  where
    length-take-at-most : {X : Type 0} (n : ℕ) (ys : List X) → length (take n ys) ≤ n
    length-take-at-most zero ys = omega arith
    length-take-at-most (suc n) [] = omega arith
    length-take-at-most (suc n) (y ∷ ys) = let h : length (take n ys) ≤ n = length-take-at-most n ys in omega arith

part_past : {X : Type 0} (xs : List X) (a n k : ℕ) → length xs ≤ a + k → slice_get (take n (drop a xs)) k ≡ None
part_past xs a n k past = get_past (take n (drop a xs)) k (omega (arith, length-take n (drop a xs), length-drop a xs, past))

multiple_le : (w j r m n : ℕ) → 0 < w → m * w ≡ n → r < w → n ≤ j * w + r → n ≤ j * w
multiple_le w j r m n some is below h = go (cases_order n (j * w))
  where
    go : (n ≡ j * w) ⊎ ((n < j * w) ⊎ (j * w < n)) → n ≤ j * w
    go (inl e) = omega arith
    go (inr (inl less)) = omega arith
    go (inr (inr more)) =
        let before : j < m = is_before w j m n some is more in
        let ends : j * w + w ≤ n = ends_before w j m n is before in
        absurd (omega arith)

le_no : (m n : ℕ) → nat_le m n ≡ false → n < m
le_no m n e = grind arith

abbrev read_here : ℕ → Mark → Bool → Option ReadBlock
read_here at m c = if c then Some (record { at = at; mark = m }) else None

pub record IsTold (i : Image) (w : World) (unit : ℕ) (o : Opening) (slot : OpenLine) (n : ℕ) (b : Block) : Type 0 where
  pub reads : block_reads slot unit n ≡ read_of i.shape (address_of_block i (log_of w) o unit) (n, b)
  pub marks : is_some (named i.shape b.mark) ≡ true → (t : Taken) × IsAmong (takes (log_of w 0)) t × (b.mark ≡ t.mark)

told_none : (i : Image) (w : World) (unit : ℕ) (o : Opening) (slot : OpenLine) (n : ℕ) (b : Block) → block_reads slot unit n ≡ None
    → is_some (named i.shape b.mark) ≡ false → IsTold i w unit o slot n b
told_none i w unit o slot n b none unnamed = record {
  reads = none ∙ sym (ap (read_here (address_of_block i (log_of w) o unit n) b.mark) unnamed);
  marks = λ e. absurd (both e unnamed);
}
  where
    both : {c : Bool} → c ≡ true → c ≡ false → ⊥
    both p q = cc

told_block : (i : Image) (w : World) (unit : ℕ) (of : Program) (slot : OpenLine) (n : ℕ) (b : Block) → IsLegalMount i w → (is : IsOnWay i w unit of)
    → IsOpenLine i (log_of w) is.row.opening slot → IsInLine i w unit is.row.opening slot n b → AreKinds i w is.row.opening
    → IsTold i w unit is.row.opening slot n b
told_block i w unit of slot n b mount is kept l kinds = by_stripe (was_whole (log_of w 0) is.row.opening l.stripe) refl
  where
    at : ℕ
    at = l.number * i.shape.ws_opt + n % i.shape.ws_opt

    some : 0 < i.shape.ws_opt
    some = is.line_is.striped.some

    rest : n % i.shape.ws_opt < i.shape.ws_opt
    rest = mod-lt n is.line_is.striped.some

    flat : List Block
    flat = flat_map (λ (p : Placed). p.stripe.blocks) (placed_whole (log_of w 0) is.row.opening)

    long : AllByRecursion (λ (p : Placed). length p.stripe.blocks ≡ i.shape.ws_opt) (placed_whole (log_of w 0) is.row.opening)
    long = all_filter (λ (p : Placed). length p.stripe.blocks ≡ i.shape.ws_opt) (was_whole (log_of w 0) is.row.opening)
        (stripes_of (log_of w 0) is.row.opening)
        (all_filter (λ (p : Placed). length p.stripe.blocks ≡ i.shape.ws_opt) (λ (p : Placed). is_life is.row.opening.number p.life)
        (placements (log_of w 0)) (have_blocks i w mount.accepted mount.legal).blocks)

    among : IsAmong l.stripe.stripe.blocks b
    among = (n % i.shape.ws_opt, l.block)

    end_is : (start_len i.shape / i.shape.ws_opt + data_len i.shape is.row.opening.start.width / i.shape.ws_opt) * i.shape.ws_opt ≡ end_address i.shape
        is.row.opening
    end_is =
        let a : start_len i.shape / i.shape.ws_opt * i.shape.ws_opt ≡ start_len i.shape = is.line_is.striped.start_is in
        let d : data_len i.shape is.row.opening.start.width / i.shape.ws_opt * i.shape.ws_opt ≡ data_len i.shape is.row.opening.start.width =
        subst (λ g. data_len i.shape g / i.shape.ws_opt * i.shape.ws_opt ≡ data_len i.shape g) (sym is.line_is.well.width) is.line_is.striped.data_is in
        let sum : (start_len i.shape / i.shape.ws_opt + data_len i.shape is.row.opening.start.width / i.shape.ws_opt) * i.shape.ws_opt
        ≡ start_len i.shape / i.shape.ws_opt * i.shape.ws_opt + data_len i.shape is.row.opening.start.width / i.shape.ws_opt * i.shape.ws_opt = grind arith in
        sum ∙ ap₂ (λ x y. x + y) a d

    mark_is : data_mark slot.records (l.number * i.shape.ws_opt + n % i.shape.ws_opt)
        ≡ (if nat_le (start_len i.shape) (l.number * i.shape.ws_opt + n % i.shape.ws_opt) then slice_get (whole_marks i.shape (log_of w 0) is.row.opening)
        (l.number * i.shape.ws_opt + n % i.shape.ws_opt - start_len i.shape) else None)
    mark_is = ap₂ (λ (s : Shape) (ms : List Mark). if nat_le (start_len s) (l.number * i.shape.ws_opt + n % i.shape.ws_opt) then slice_get ms
        (l.number * i.shape.ws_opt + n % i.shape.ws_opt - start_len s) else None) kept.records.shape kept.records.marks

    -- of a pad no mark is kept
    of_pad : was_whole (log_of w 0) is.row.opening l.stripe ≡ false → IsTold i w unit is.row.opening slot n b
    of_pad pad =
        let behind : length (placed_whole (log_of w 0) is.row.opening) ≤ l.number = l.later pad in
        let all : length flat ≡ length (placed_whole (log_of w 0) is.row.opening) * i.shape.ws_opt =
        length_joined i.shape.ws_opt (placed_whole (log_of w 0) is.row.opening) long in
        let more : length (placed_whole (log_of w 0) is.row.opening) * i.shape.ws_opt ≤ l.number * i.shape.ws_opt = mul-le-mul_right i.shape.ws_opt behind in
        told_none i w unit is.row.opening slot n b
        (none_told slot unit n (l.number * i.shape.ws_opt + n % i.shape.ws_opt) l.place
        (mark_is ∙ none_marked (nat_le (start_len i.shape) (l.number * i.shape.ws_opt + n % i.shape.ws_opt)) refl (omega arith)))
        (kinds.pads l.stripe l.among pad b among)
      where
        none_marked : (c : Bool) → nat_le (start_len i.shape) (l.number * i.shape.ws_opt + n % i.shape.ws_opt) ≡ c
            → length flat ≤ l.number * i.shape.ws_opt + n % i.shape.ws_opt
            → (if c then slice_get (whole_marks i.shape (log_of w 0) is.row.opening)
            (l.number * i.shape.ws_opt + n % i.shape.ws_opt - start_len i.shape) else None) ≡ None
        none_marked false e past = refl
        none_marked true e past =
            let low : start_len i.shape ≤ l.number * i.shape.ws_opt + n % i.shape.ws_opt =
            within_is (start_len i.shape) (l.number * i.shape.ws_opt + n % i.shape.ws_opt) e in
            slice_get-map (λ (x : Block). x.mark) (slice_range flat (start_len i.shape) (end_address i.shape is.row.opening))
            (l.number * i.shape.ws_opt + n % i.shape.ws_opt - start_len i.shape)
            ∙ ap (option_map (λ (x : Block). x.mark))
            (part_past flat (start_len i.shape) (end_address i.shape is.row.opening - start_len i.shape)
            (l.number * i.shape.ws_opt + n % i.shape.ws_opt - start_len i.shape) (omega arith))

    -- where the line wasn't Failed yet
    of_whole : was_whole (log_of w 0) is.row.opening l.stripe ≡ true → IsTold i w unit is.row.opening slot n b
    of_whole whole = by (nat_le (start_len i.shape) at) refl
      where
        line_get : slice_get flat (l.number * i.shape.ws_opt + n % i.shape.ws_opt) ≡ Some b
        line_get = joined_at (λ (p : Placed). p.stripe.blocks) i.shape.ws_opt (placed_whole (log_of w 0) is.row.opening) l.number (n % i.shape.ws_opt)
            long (mod-lt n is.line_is.striped.some)
            ∙ ap (option_and_then (λ (p : Placed). slice_get p.stripe.blocks (n % i.shape.ws_opt))) (l.whole whole) ∙ l.block

        kind : HasKind i.shape (takes (log_of w 0)) is.row.opening l.number l.stripe.stripe.blocks
        kind = kinds.whole l.number l.stripe (l.whole whole)

        after_start : nat_le (start_len i.shape) (l.number * i.shape.ws_opt + n % i.shape.ws_opt) ≡ true → (d : Bool)
            → nat_lt (l.number * i.shape.ws_opt + n % i.shape.ws_opt) (end_address i.shape is.row.opening) ≡ d → IsTold i w unit is.row.opening slot n b
        after_start e false f =
            let beyond : end_address i.shape is.row.opening ≤ l.number * i.shape.ws_opt + n % i.shape.ws_opt =
            le_of_lt_false (l.number * i.shape.ws_opt + n % i.shape.ws_opt) (end_address i.shape is.row.opening) f in
            let past : end_address i.shape is.row.opening ≤ l.number * i.shape.ws_opt =
            multiple_le i.shape.ws_opt l.number (n % i.shape.ws_opt) _ (end_address i.shape is.row.opening) some end_is rest beyond in
            let none : slice_get (whole_marks i.shape (log_of w 0) is.row.opening) (l.number * i.shape.ws_opt + n % i.shape.ws_opt - start_len i.shape) ≡ None =
            slice_get-map (λ (x : Block). x.mark) (slice_range flat (start_len i.shape) (end_address i.shape is.row.opening))
            (l.number * i.shape.ws_opt + n % i.shape.ws_opt - start_len i.shape)
            ∙ ap (option_map (λ (x : Block). x.mark))
            (part_short flat (start_len i.shape) (end_address i.shape is.row.opening - start_len i.shape)
            (l.number * i.shape.ws_opt + n % i.shape.ws_opt - start_len i.shape) (omega arith)) in
            told_none i w unit is.row.opening slot n b
            (none_told slot unit n (l.number * i.shape.ws_opt + n % i.shape.ws_opt) l.place
            (mark_is ∙ ap (λ c. if c then slice_get (whole_marks i.shape (log_of w 0) is.row.opening)
            (l.number * i.shape.ws_opt + n % i.shape.ws_opt - start_len i.shape) else None) e ∙ none))
            (kind.outside b among (inr past))
        after_start e true f =
            let low : start_len i.shape ≤ l.number * i.shape.ws_opt + n % i.shape.ws_opt =
            within_is (start_len i.shape) (l.number * i.shape.ws_opt + n % i.shape.ws_opt) e in
            let high : l.number * i.shape.ws_opt + n % i.shape.ws_opt < end_address i.shape is.row.opening =
            lt_yes (l.number * i.shape.ws_opt + n % i.shape.ws_opt) (end_address i.shape is.row.opening) f in
            let begins : start_len i.shape ≤ l.number * i.shape.ws_opt =
            multiple_le i.shape.ws_opt l.number (n % i.shape.ws_opt) _ (start_len i.shape) some is.line_is.striped.start_is rest low in
            let back : start_len i.shape + (l.number * i.shape.ws_opt + n % i.shape.ws_opt - start_len i.shape)
            ≡ l.number * i.shape.ws_opt + n % i.shape.ws_opt =
            omega arith in
            let told : slice_get (whole_marks i.shape (log_of w 0) is.row.opening)
            (l.number * i.shape.ws_opt + n % i.shape.ws_opt - start_len i.shape) ≡ Some b.mark =
            slice_get-map (λ (x : Block). x.mark) (slice_range flat (start_len i.shape) (end_address i.shape is.row.opening))
            (l.number * i.shape.ws_opt + n % i.shape.ws_opt - start_len i.shape)
            ∙ ap (option_map (λ (x : Block). x.mark))
            (part_in flat (start_len i.shape) (end_address i.shape is.row.opening - start_len i.shape)
            (l.number * i.shape.ws_opt + n % i.shape.ws_opt - start_len i.shape) b (ap (slice_get flat) back ∙ line_get) (omega arith)) in
            by_kind (mark_is ∙ ap (λ c. if c then slice_get (whole_marks i.shape (log_of w 0) is.row.opening)
            (l.number * i.shape.ws_opt + n % i.shape.ws_opt - start_len i.shape) else None) e ∙ told)
            (kind.data_of b among begins (omega arith))
          where
            by_kind : data_mark slot.records (l.number * i.shape.ws_opt + n % i.shape.ws_opt) ≡ Some b.mark
                → ((b.mark.lba ≡ pad_lba) × (is_some (named i.shape b.mark) ≡ false))
                ⊎ ((b.mark.lba ≢ pad_lba) × (is_some (named i.shape b.mark) ≡ true) × ((t : Taken) × IsAmong (takes (log_of w 0)) t × (b.mark ≡ t.mark)))
                → IsTold i w unit is.row.opening slot n b
            by_kind told (inl pad) = told_none i w unit is.row.opening slot n b
                (pads_there slot unit n (l.number * i.shape.ws_opt + n % i.shape.ws_opt) b.mark l.place told pad.0) pad.1
            by_kind told (inr data_is) = record {
              reads = reads_there slot unit n (l.number * i.shape.ws_opt + n % i.shape.ws_opt) b.mark l.place told data_is.0
                  ∙ ap (λ a. read_here a b.mark true) (sym l.address)
                  ∙ sym (ap (read_here (address_of_block i (log_of w) is.row.opening unit n) b.mark) data_is.1);
              marks = λ e. data_is.2;
            }

        by : (c : Bool) → nat_le (start_len i.shape) (l.number * i.shape.ws_opt + n % i.shape.ws_opt) ≡ c → IsTold i w unit is.row.opening slot n b
        by false e =
            let before : l.number * i.shape.ws_opt + n % i.shape.ws_opt < start_len i.shape =
            le_no (start_len i.shape) (l.number * i.shape.ws_opt + n % i.shape.ws_opt) e in
            told_none i w unit is.row.opening slot n b
            (none_told slot unit n (l.number * i.shape.ws_opt + n % i.shape.ws_opt) l.place
            (mark_is ∙ ap (λ c. if c then slice_get (whole_marks i.shape (log_of w 0) is.row.opening)
            (l.number * i.shape.ws_opt + n % i.shape.ws_opt - start_len i.shape) else None) e))
            (kind.outside b among (inl (omega arith)))
        by true e = after_start e (nat_lt (l.number * i.shape.ws_opt + n % i.shape.ws_opt) (end_address i.shape is.row.opening)) refl

    by_stripe : (c : Bool) → was_whole (log_of w 0) is.row.opening l.stripe ≡ c → IsTold i w unit is.row.opening slot n b
    by_stripe true e = of_whole e
    by_stripe false e = of_pad e

pub chunk_read : (i : Image) (w : World) (unit : ℕ) (of : Program) (slot : OpenLine) → IsLegalMount i w → (is : IsOnWay i w unit of)
    → IsOpenLine i (log_of w) is.row.opening slot → AreKinds i w is.row.opening → IsChunkRead i w unit is.row.opening slot
chunk_read i w unit of slot mount is kept kinds = record {
  reads = λ n b there. (told_block i w unit of slot n b mount is kept (in_line i w unit of slot n b mount is kept there) kinds).reads;
  marks = λ n b there. (told_block i w unit of slot n b mount is kept (in_line i w unit of slot n b mount is kept there) kinds).marks;
}
