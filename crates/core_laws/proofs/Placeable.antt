-- The stripe for a program that the placer of a plain world offers may be placed.
use Rattle.std.proofs.Common.{◌≡◌, ◌≢◌, ◌⊎◌, inl, inr, ℕ, ◌+◌, ◌-◌, ◌*◌, ◌/◌, ◌%◌, ◌<◌, ◌≤◌, ◌==◌, ◌&&◌, ◌||◌, zero, suc, nat_lt, Bool, true, false, Some, None, Option, List, [], ◌∷◌, length, take, drop, refl, sym, subst, ap, ap₂, ◌∙◌, arith, if◌then◌else◌, mul-div_cancel}
use Rattle.std.specs.Prelude.{slice_get, nat_le}
use Rattle.std.specs.List.{filter_map, list_all, list_any}
use Rattle.std.specs.Option.{option_map}
use Rattle.std.proofs.lemmas.Bool.{eqb-true}
use Rattle.std.proofs.lemmas.Bool.Decides.{nat_tests}
use Rattle.std.proofs.Math.Nat.{mul-mod_left}
use Rattle.pblk_model.specs.declared.shape.Shape.{Shape}
use Rattle.pblk_model.specs.Shape.{units}
use Rattle.pblk_model.specs.LineOrder.{start_len, end_len, data_len, column_of, block_of}
use Rattle.pblk_model.specs.Image.{line_units, Image, width}
use Rattle.pblk_model.specs.Marks.{meta_lba}
use Rattle.pblk_model.specs.StartRecord.{start_bytes}
use Rattle.pblk_model.specs.EndRecord.{end_bytes}
use Rattle.pblk_world.specs.Events.{Stripe, Logged}
use Rattle.pblk_world.specs.World.{World, Logs, log_of}
use Rattle.pblk_world.specs.EngineLog.{is_opened, Opening, Opened, life_of, Placed, placements, placed_on, answers, stripes_of, has_landed, has_failed}
use Rattle.pblk_world.specs.Fronts as fronts
use Rattle.pblk_world.specs.Lines.{known_image, place_of}
use Rattle.pblk_world.specs.Placing.{end_address, line_end, end_record, IsNext, IsStart, IsData, IsEnd, IsPad, MayPlace}
use Rattle.pblk_world.specs.Victims.{position_in}
use Rattle.stripe_placer.specs.declared.placement.StripeKind.{StripeKind}
use Rattle.stripe_placer.specs.declared.placement.StripeKind.TheVariants as kinds
use Rattle.stripe_placer.specs.Entries.{waiting, has_stripe}
use Rattle.stripe_placer.specs.OpenLines as line
use Rattle.stripe_placer.specs.OpenLines.{OpenLine, kind_of, start_has_landed}
use Rattle.stripe_placer.specs.Placing.{Program, allows, next_positions, next_stripe, stopped_in}
use Rattle.stripe_placer.proofs.Chunks.{lt_of as is_below}
use Rattle.stripe_placer.proofs.Named.{its_program}
use Rattle.core_laws.specs.OpenedLines.{as_opened, open_line}
use Rattle.core_laws.specs.PlacerOf.{entries_of, placing_of, IsStripeOf, unit_row_in}
use Rattle.core_laws.proofs.UnitTurns.{filtered_is}
use Rattle.core_laws.proofs.WaitingEntries.{waiting_alike}
use Rattle.core_laws.proofs.StillWaiting.{length_positions as positions_length}
use Rattle.core_laws.proofs.Followed.{IsFollowed, units_width}
use Rattle.core_laws.specs.StripeFor.{blocks_for, IsStripeFor, positions_for, IsProgramFor}
use Rattle.core_laws.proofs.PartLengths.{IsStriped, begins_before, ends_before, begins_after}
use Rattle.core_laws.proofs.PlainOpenings.{IsOpenedLine}
use Rattle.core_laws.proofs.StripesInOrder.{wide, stripe_count, IsAtPlace}
use Rattle.core_laws.proofs.LineForms.{IsLineOf, formed}
use Rattle.core_laws.proofs.NextStripes.{unfailed, start_landed, data_landed, all_parts}
use Rattle.core_laws.proofs.BlockPositions.{record_positions, data_positions, no_pad_positions}
use Rattle.core_laws.proofs.IdleRows.{all_answered}
use Rattle.core_laws.proofs.OfferedStripes.{IsOffered, IsOfferedBy, offered, offered_line}
use Rattle.pblk_model.proofs.Lists.{IsAmong, among_contained}
use Rattle.pblk_model.proofs.Tests.{and_both, both, le_of_lt_false, le_true}
use Rattle.pblk_world.proofs.EngineLogLemmas.{opened_same}

-- ---- the place of a stripe

pub place_at : (i : Image) (us : ℕ → List ℕ) (ls : Logs) (line k unit at : ℕ) → line_units (known_image i ls) line ≡ us line → 0 < i.shape.ws_opt
    → IsAtPlace i us line k unit at → place_of (known_image i ls) line (k * i.shape.ws_opt) ≡ Some (unit, at)
place_at i us ls line k unit at same some is =
    let w : ℕ = i.shape.ws_opt in
    let row : k * w / w ≡ k = mul-div_cancel k {n = w} some in
    let g : width (known_image i ls) line ≡ wide us line = units_width i us ls line same in
    let rest : k * w % w ≡ 0 = mul-mod_left k w in
    let column : column_of i.shape (width (known_image i ls) line) (k * w) ≡ k % wide us line = ap₂ (λ a b. a % b) row g in
    let block : block_of i.shape (width (known_image i ls) line) (k * w) ≡ at =
    ap₂ (λ a b. a / b * w + k * w % w) row g ∙ ap (λ r. k / wide us line * w + r) rest ∙ omega (arith, is.its_block) in
    ap₂ (λ (o : Option ℕ) b. option_map {U = ℕ × ℕ} (λ unit. (unit, b)) o)
    (ap₂ (λ (us : List ℕ) j. slice_get us j) (same) column ∙ is.its_unit) block

-- ---- kinds

-- the kind by the stripe's number alone
unfoldable pub kind_in : ℕ → ℕ → ℕ → StripeKind
kind_in k c d = if nat_lt k c then kinds.Start else if nat_lt k (c + d) then kinds.Data else kinds.End

pub kind_by : (l : OpenLine) (k : ℕ) → line.has_failed l ≡ false → kind_of l k ≡ kind_in k l.start_count l.data_count
unfolding kind_in
kind_by l k none = ap (λ b. if b then kinds.Pad else if nat_lt k l.start_count then kinds.Start else if nat_lt k
    (l.start_count + l.data_count) then kinds.Data else kinds.End) none

-- a stripe's place among the parts of its line
unfoldable pub IsPart : ℕ → ℕ → ℕ → StripeKind → Type 0
IsPart k c d kinds.Start = k < c
IsPart k c d kinds.Data = (c ≤ k) × (k < c + d)
IsPart k c d kinds.Pad = ⊥
IsPart k c d kinds.End = c + d ≤ k

pub part_of : (k c d : ℕ) → IsPart k c d (kind_in k c d)
unfolding kind_in IsPart
part_of k c d = go (nat_lt k c) (nat_lt k (c + d)) refl refl
  where
    go : (a b : Bool) → nat_lt k c ≡ a → nat_lt k (c + d) ≡ b → IsPart k c d (if a then kinds.Start else if b then kinds.Data else kinds.End)
    go true b e f = is_below k c e
    go false true e f = (le_of_lt_false k c e, is_below k (c + d) f)
    go false false e f = le_of_lt_false k (c + d) f

-- ---- entries

or_some : (w : ℕ) (qs : List ℕ) (test : ℕ → Bool) → 0 < w → (nat_le w (length qs) || list_any test qs) ≡ true → 0 < length qs
or_some w [] test some e =
    let no_ : nat_le w 0 ≡ false = none_within w some in
    absurd cc
  where
    none_within : (w : ℕ) → 0 < w → nat_le w 0 ≡ false
    none_within w h = grind (arith, nat_tests)
or_some w (q ∷ qs) test some e = omega arith

has_some : (s : Shape) (log : List Logged) (pad : ℕ) → 0 < s.ws_opt → has_stripe s.ws_opt (entries_of s log pad) ≡ true → 0 < length (fronts.waiting s log)
has_some s log pad some e =
    let here : 0 < length (waiting (entries_of s log pad)) = or_some s.ws_opt (waiting (entries_of s log pad)) (λ q. nat_lt q pad) some e in
    let count : length (waiting (entries_of s log pad)) ≡ length (fronts.waiting s log) = ap (λ (qs : List ℕ). length qs) (waiting_alike s log pad)
    ∙ positions_length (fronts.waiting s log) in
    omega arith

-- ---- the stripe may be placed

pub next_in_line : (i : Image) (us : ℕ → List ℕ) (w : World) (pad : ℕ) (of : Program) (o : Opening) (stripe : Stripe) → IsFollowed i us w
    → has_failed (log_of w 0) o ≡ false → IsOffered i us w pad of o → stripe.line ≡ of.line → stripe.unit ≡ of.unit → stripe.at ≡ of.block
    → IsNext i (log_of w) o stripe
next_in_line i us w pad of o stripe is whole off line unit at = record {
  not_failed = whole;
  in_order = ap (λ n. place_of (known_image i (log_of w)) n (length (stripes_of (log_of w 0) o) * i.shape.ws_opt)) (line ∙ off.its_line)
      ∙ place_at i us (log_of w) o.line (length (stripes_of (log_of w 0) o)) of.unit of.block
      (is.keeps o.line (ap is_opened off.life)) is.mount.accepted.drive.ws_opt off.place
      ∙ ap₂ (λ u b. Some (u, b)) (sym unit) (sym at);
}

abbrev Kinds : Image → Logs → Opening → Stripe → Type 0
Kinds i logs o stripe = IsStart i logs o stripe ⊎ (IsData i logs o stripe ⊎ (IsEnd i logs o stripe ⊎ IsPad i logs o stripe))

-- the numbers of an opened line's parts
pub record HasParts (i : Image) (us : ℕ → List ℕ) (w : World) (o : Opening) : Type 0 where
  pub start_is : start_len i.shape / i.shape.ws_opt * i.shape.ws_opt ≡ start_len i.shape
  pub ends_is : (start_len i.shape / i.shape.ws_opt + (open_line i (log_of w) o).data_count) * i.shape.ws_opt ≡ end_address i.shape o
  pub line_is : stripe_count i us o.line * i.shape.ws_opt ≡ line_end i.shape o
  pub count_is : end_address i.shape o / i.shape.ws_opt ≡ start_len i.shape / i.shape.ws_opt + (open_line i (log_of w) o).data_count
  pub has_data : 0 < (open_line i (log_of w) o).data_count
  pub fits : start_len i.shape / i.shape.ws_opt + (open_line i (log_of w) o).data_count ≤ stripe_count i us o.line

pub parts_by : (i : Image) (us : ℕ → List ℕ) (w : World) (o : Opening) → line.width (as_opened i (log_of w) o) ≡ wide us o.line → IsOpenedLine i us o.line o
    → IsStriped i.shape (wide us o.line) → HasParts i us w o
parts_by i us w o wide_is well striped =
    let s : Shape = i.shape in
    let ws : ℕ = s.ws_opt in
    let g : ℕ = wide us o.line in
    let d : ℕ = (open_line i (log_of w) o).data_count in
    let count : d ≡ data_len s g / ws = ap (λ n. data_len s n / ws) wide_is in
    let data_is : d * ws ≡ data_len s g = ap (λ n. n * ws) count ∙ striped.data_is in
    let address : end_address s o ≡ start_len s + data_len s g = ap (λ n. start_len s + data_len s n) well.width in
    let sum : (start_len s / ws + d) * ws ≡ start_len s / ws * ws + d * ws = omega arith in
    record {
      start_is = striped.start_is;
      ends_is = omega (arith, sum, data_is, address, striped.start_is);
      line_is = striped.line_is ∙ ap (λ n. n * s.clba) (sym well.width);
      count_is = ap (λ n. n / ws) address ∙ striped.end_is ∙ ap (λ n. start_len s / ws + n) (sym count);
      has_data = some_product d ws (data_len s g) data_is well.has_data;
      fits = subst (λ n. start_len s / ws + n ≤ stripe_count i us o.line) (sym count) striped.fits;
    }
  where
    some_product : (d ws n : ℕ) → d * ws ≡ n → 0 < n → 0 < d
    some_product zero ws n e h = absurd (omega arith)
    some_product (suc d) ws n e h = omega arith

pub parts_of : (i : Image) (us : ℕ → List ℕ) (w : World) (o : Opening) → IsLineOf i us w o → HasParts i us w o
parts_of i us w o is = parts_by i us w o is.wide_is is.well is.striped

may_by_kind : (i : Image) (us : ℕ → List ℕ) (w : World) (pad : ℕ) (of : Program) (o : Opening) (stripe : Stripe) (kind : StripeKind) → IsFollowed i us w
    → IsOffered i us w pad of o → HasParts i us w o → IsNext i (log_of w) o stripe
    → IsPart (length (stripes_of (log_of w 0) o)) (start_len i.shape / i.shape.ws_opt) (open_line i (log_of w) o).data_count kind
    → allows i.shape (entries_of i.shape (log_of w 0) pad) (open_line i (log_of w) o) kind ≡ true
    → stripe.blocks ≡ blocks_for i.shape (log_of w 0) o (length (stripes_of (log_of w 0) o) * i.shape.ws_opt) kind → Kinds i (log_of w) o stripe
unfolding IsPart
may_by_kind i us w pad of o stripe kinds.Start is off parts next part allowed blocks =
    inl (record {
      next = next;
      within = begins_before i.shape.ws_opt (length (stripes_of (log_of w 0) o)) (start_len i.shape / i.shape.ws_opt)
          (start_len i.shape) is.mount.accepted.drive.ws_opt parts.start_is part;
      blocks = blocks;
    })
may_by_kind i us w pad of o stripe kinds.Data is off parts next part allowed blocks =
    let s : Shape = i.shape in
    let log : List Logged = log_of w 0 in
    let l : OpenLine = open_line i (log_of w) o in
    let k : ℕ = length (stripes_of log o) in
    let c : ℕ = start_len s / s.ws_opt in
    let some : 0 < s.ws_opt = is.mount.accepted.drive.ws_opt in
    let two = both (start_has_landed l) (has_stripe s.ws_opt (entries_of s log pad)) allowed in
    inr (inl (record {
      next = next;
      within = begins_before s.ws_opt k (c + l.data_count) (end_address s o) some parts.ends_is part.1;
      start_landed = and_both (nat_le c k) (list_all (has_landed log) (take c (stripes_of log o))) (le_true c k part.0)
          (sym (start_landed l log (stripes_of log o) (stripe_count i us o.line - k) (formed i us w o off.line_is) part.0) ∙ two.0);
      has_entry = has_some s log pad some two.1;
      blocks = blocks;
    }))
may_by_kind i us w pad of o stripe kinds.Pad is off parts next part allowed blocks = absurd part
may_by_kind i us w pad of o stripe kinds.End is off parts next part allowed blocks =
    let s : Shape = i.shape in
    let log : List Logged = log_of w 0 in
    let l : OpenLine = open_line i (log_of w) o in
    let ps : List Placed = stripes_of log o in
    let k : ℕ = length ps in
    let c : ℕ = start_len s / s.ws_opt in
    let d : ℕ = l.data_count in
    let n : ℕ = end_address s o / s.ws_opt in
    let some : 0 < s.ws_opt = is.mount.accepted.drive.ws_opt in
    let beyond : c + d ≤ k = part in
    let has : 0 < d = parts.has_data in
    let first : list_all (has_landed log) (take c ps) ≡ true = off.line_is.order.started (omega arith) in
    let rest : list_all (has_landed log) (take d (drop c ps)) ≡ true =
    sym (data_landed l log ps (stripe_count i us o.line - k) (formed i us w o off.line_is) beyond) ∙ allowed in
    inr (inr (inl (record {
      next = next;
      from = begins_after s.ws_opt k (c + d) (end_address s o) parts.ends_is beyond;
      within = begins_before s.ws_opt k (stripe_count i us o.line) (line_end s o) some parts.line_is off.inside;
      data_landed = ap (λ m. nat_le m k && list_all (has_landed log) (take m ps)) parts.count_is
          ∙ and_both (nat_le (c + d) k) (list_all (has_landed log) (take (c + d) ps)) (le_true (c + d) k beyond)
          (all_parts (has_landed log) c d ps ∙ and_both (list_all (has_landed log) (take c ps)) (list_all (has_landed log) (take d (drop c ps))) first rest);
      blocks = blocks;
    })))

placeable : (i : Image) (us : ℕ → List ℕ) (w : World) (pad : ℕ) (of : Program) (o : Opening) (stripe : Stripe) → IsFollowed i us w
    → has_failed (log_of w 0) o ≡ false → IsOffered i us w pad of o → IsStripeFor i (log_of w) o of stripe → MayPlace i (log_of w) stripe
placeable i us w pad of o stripe is whole off for =
    let log : List Logged = log_of w 0 in
    let l : OpenLine = open_line i (log_of w) o in
    let k : ℕ = length (stripes_of log o) in
    let c : ℕ = start_len i.shape / i.shape.ws_opt in
    let parts : HasParts i us w o = parts_of i us w o off.line_is in
    let kind : kind_in k c l.data_count ≡ of.kind =
    sym (kind_by l k (unfailed l log (stripes_of log o) (stripe_count i us o.line - k) whole (formed i us w o off.line_is))) ∙ off.kind in
    let line : stripe.line ≡ o.line = for.line ∙ off.its_line in
    record {
      in_range = subst (λ n. n < i.shape.chunks) (sym line) off.line_is.well.in_range;
      chunk = for.chunk ∙ sym for.line;
      opening = o;
      is_open = ap (life_of log) line ∙ off.life;
      idle = λ p there. all_answered log stripe.unit p (subst (λ u. length (answers log u) ≡ length (placed_on log u)) (sym for.unit) off.idle)
          (among_contained (placed_on log stripe.unit) p there)
          (eqb-true p.stripe.unit stripe.unit
          (let at : IsAmong (placed_on log stripe.unit) p =
          among_contained (placed_on log stripe.unit) p there in filtered_is (λ (q : Placed). q.stripe.unit == stripe.unit) (placements log) at.0 p at.1));
      kind = may_by_kind i us w pad of o stripe of.kind is off parts (next_in_line i us w pad of o stripe is whole off for.line for.unit for.at)
          (subst (IsPart k c l.data_count) kind (part_of k c l.data_count)) off.allowed (for.blocks ∙ ap (λ a. blocks_for i.shape log o a of.kind) off.at);
    }

-- ---- and it is the program's

pub kind_positions : (i : Image) (us : ℕ → List ℕ) (w : World) (pad : ℕ) (o : Opening) (at : ℕ) (kind : StripeKind) → IsFollowed i us w
    → filter_map (position_in i.shape) (blocks_for i.shape (log_of w 0) o at kind) ≡ next_positions i.shape (entries_of i.shape (log_of w 0) pad) kind
kind_positions i us w pad o at kind is = go kind
  where
    small : i.shape.capacity ≤ meta_lba
    small = let low = is.mount.accepted.target.capacity_number in omega arith

    go : (kind : StripeKind) → filter_map (position_in i.shape) (blocks_for i.shape (log_of w 0) o at kind) ≡ next_positions i.shape
        (entries_of i.shape (log_of w 0) pad) kind
    go kinds.Start = record_positions i.shape o.start.seq (start_len i.shape) (start_bytes i.shape o.start) (at - 0) (at - 0 + i.shape.ws_opt) small
    go kinds.Data = data_positions i w small is.mount.legal ∙ ap (take i.shape.ws_opt) (sym (waiting_alike i.shape (log_of w 0) pad))
    go kinds.Pad = no_pad_positions i.shape i.shape.ws_opt small
    go kinds.End = record_positions i.shape o.start.seq (end_len i.shape o.start.width) (end_bytes i.shape (end_record i.shape (log_of w 0) o))
        (at - end_address i.shape o) (at - end_address i.shape o + i.shape.ws_opt) small

is_its : (i : Image) (us : ℕ → List ℕ) (w : World) (pad : ℕ) (of : Program) (o : Opening) (stripe : Stripe) → IsFollowed i us w → IsOffered i us w pad of o
    → IsStripeFor i (log_of w) o of stripe → IsStripeOf i (log_of w) pad o stripe of
is_its i us w pad of o stripe is off for = record {
  opened = ap (life_of (log_of w 0)) (for.line ∙ off.its_line) ∙ off.life;
  next = off.next;
  unit = for.unit;
  block = for.at;
  positions = ap (filter_map (position_in i.shape)) for.blocks ∙ kind_positions i us w pad o of.at of.kind is ∙ off.positions;
  in_range = subst (λ u. u < units i.shape) (sym for.unit) off.unit;
  idle = subst (λ u. length (answers (log_of w 0) u) ≡ length (placed_on (log_of w 0) u)) (sym for.unit) off.idle;
}

-- ---- the laws

offered_here : (i : Image) (us : ℕ → List ℕ) (w : World) (pad : ℕ) (again : List ℕ) (busy : ℕ) (of : Program) (o : Opening) → IsFollowed i us w
    → has_failed (log_of w 0) o ≡ false → next_stripe (placing_of i (log_of w) pad again) busy ≡ Some of
    → stopped_in (unit_row_in i (log_of w) again of.unit) ≡ None → life_of (log_of w 0) of.line ≡ Opened o → IsOffered i us w pad of o
offered_here i us w pad again busy of o is whole next none opened =
    let by = offered_line i us w pad again busy of is next none in
    let its = its_program i.shape (entries_of i.shape (log_of w 0) pad) (open_line i (log_of w) by.0) of by.1.next in
    let line : by.0.line ≡ of.line = ap (λ (x : Program). x.line) its.1.is in
    let same : by.0 ≡ o = opened_same by.0 o (sym by.1.life ∙ ap (life_of (log_of w 0)) line ∙ opened) in
    offered i us w pad again busy of o is whole (subst (IsOfferedBy i us w pad of) same by.1) by.2 none

-- of a line that hasn't failed
pub whole_may_be_placed : (i : Image) (us : ℕ → List ℕ) (w : World) (pad : ℕ) (again : List ℕ) (busy : ℕ) (of : Program) (o : Opening) (stripe : Stripe)
    → IsFollowed i us w → has_failed (log_of w 0) o ≡ false → next_stripe (placing_of i (log_of w) pad again) busy ≡ Some of
    → stopped_in (unit_row_in i (log_of w) again of.unit) ≡ None → IsStripeFor i (log_of w) o of stripe → MayPlace i (log_of w) stripe
whole_may_be_placed i us w pad again busy of o stripe is whole next none for =
    placeable i us w pad of o stripe is whole (offered_here i us w pad again busy of o is whole next none for.opened) for

pub whole_is_its : (i : Image) (us : ℕ → List ℕ) (w : World) (pad : ℕ) (again : List ℕ) (busy : ℕ) (of : Program) (o : Opening) (stripe : Stripe)
    → IsFollowed i us w → has_failed (log_of w 0) o ≡ false → next_stripe (placing_of i (log_of w) pad again) busy ≡ Some of
    → stopped_in (unit_row_in i (log_of w) again of.unit) ≡ None → IsStripeFor i (log_of w) o of stripe → IsStripeOf i (log_of w) pad o stripe of
whole_is_its i us w pad again busy of o stripe is whole next none for =
    is_its i us w pad of o stripe is (offered_here i us w pad again busy of o is whole next none for.opened) for

not_pad : (k c d : ℕ) (kind : StripeKind) → kind_in k c d ≡ kind → kind ≢ kinds.Pad
unfolding IsPart
not_pad k c d kind e f = subst (IsPart k c d) (e ∙ f) (part_of k c d)

its_positions : (s : Shape) (log : List Logged) (pad : ℕ) (kind : StripeKind) → next_positions s (entries_of s log pad) kind ≡ positions_for s log kind
its_positions s log pad kinds.Start = refl
its_positions s log pad kinds.Data = ap (take s.ws_opt) (waiting_alike s log pad)
its_positions s log pad kinds.Pad = refl
its_positions s log pad kinds.End = refl

-- a program of a line that hasn't failed is that of a stripe in it
pub offered_for : (i : Image) (us : ℕ → List ℕ) (w : World) (pad : ℕ) (of : Program) (o : Opening) → has_failed (log_of w 0) o ≡ false
    → IsOffered i us w pad of o → IsProgramFor i (log_of w) o of
offered_for i us w pad of o whole off =
    let log : List Logged = log_of w 0 in
    let l : OpenLine = open_line i (log_of w) o in
    let k : ℕ = length (stripes_of log o) in
    let parts : HasParts i us w o = parts_of i us w o off.line_is in
    let kind : kind_in k (start_len i.shape / i.shape.ws_opt) l.data_count ≡ of.kind =
    sym (kind_by l k (unfailed l log (stripes_of log o) (stripe_count i us o.line - k) whole (formed i us w o off.line_is))) ∙ off.kind in
    record {
      opened = ap (life_of log) off.its_line ∙ off.life;
      kind = not_pad k (start_len i.shape / i.shape.ws_opt) l.data_count of.kind kind;
      positions = sym off.positions ∙ its_positions i.shape log pad of.kind;
      line = subst (λ n. n < i.shape.chunks) (sym off.its_line) off.line_is.well.in_range;
      unit = off.unit;
      at = subst (λ a. a + i.shape.ws_opt ≤ line_end i.shape o) (sym off.at)
          (ends_before i.shape.ws_opt k (stripe_count i us o.line) (line_end i.shape o) parts.line_is off.inside);
    }
