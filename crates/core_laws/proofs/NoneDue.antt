-- Where the placer offers nothing and each placed stripe is answered, no stripe is to be placed.
use Rattle.std.proofs.Common.{◌≡◌, ◌⊎◌, inl, inr, ℕ, ◌+◌, ◌-◌, ◌/◌, ◌%◌, ◌<◌, ◌≤◌, ◌==◌, ◌&&◌, zero, suc, not, nat_lt, Bool, true, false, cond, Some, None, Option, List, [], ◌∷◌, ◌++◌, map, length, take, drop, refl, sym, subst, ap, ap₂, ◌∙◌, arith, if◌then◌else◌, mod-lt}
use Rattle.std.specs.Prelude.{slice_get, nat_le, nat_eq}
use Rattle.std.specs.List.{Contains, filter_map, find, list_all, list_any, range_with_len, slice_index_or}
use Rattle.std.specs.Option.{option_map_or}
use Rattle.std.proofs.lemmas.Nat.Bits.{bit_at-zero}
use Rattle.std.proofs.lemmas.Option.{same_Some, none-some, slice_get-get_or}
use Rattle.pblk_model.specs.declared.shape.Shape.{Shape}
use Rattle.pblk_model.specs.Shape.{units}
use Rattle.pblk_model.specs.LineOrder.{start_len}
use Rattle.pblk_model.specs.Image.{Image}
use Rattle.pblk_world.specs.Events.{Stripe, Logged}
use Rattle.pblk_world.specs.World.{World, Logs, log_of}
use Rattle.pblk_world.specs.EngineLog.{is_life, is_opened, Taken, Opening, Opened, life_of, Placed, placements, placed_on, answers, is_answered, turn, stripes_of, has_landed, has_failed}
use Rattle.pblk_world.specs.Fronts as fronts
use Rattle.pblk_world.specs.Placing.{end_address, line_end, IsStart, IsData, IsEnd, IsPad}
use Rattle.pblk_world.specs.AtRest.{IsUrgent, IsDue}
use Rattle.stripe_placer.specs.declared.placement.StripeKind.{StripeKind}
use Rattle.stripe_placer.specs.declared.placement.StripeKind.TheVariants as kinds
use Rattle.stripe_placer.specs.Entries.{Entries, waiting, has_stripe}
use Rattle.stripe_placer.specs.OpenLines.{OpenLine, unit_of, numbers, is_to_place, has_left, next_of, kind_of, is_unanswered, start_has_landed}
use Rattle.stripe_placer.specs.Placing.{Program, UnitRow, stopped_in, is_under_way, is_ready, allows, next_positions, program_of, allowed_at, next_in, next_stripe}
use Rattle.stripe_placer.specs.Placing.UnitRow.{Idle}
use Rattle.core_laws.specs.OpenedLines.{open_line, standing, open_lines}
use Rattle.core_laws.specs.PlacerOf.{positions_of, entries_of, unit_row_in, placing_of}
use Rattle.core_laws.proofs.Placing.{not_below}
use Rattle.world_laws.proofs.UnitTurns.{unit_is as unit_at, turn_is as turn_at}
use Rattle.core_laws.proofs.WaitingEntries.{waiting_alike}
use Rattle.core_laws.proofs.StillWaiting.{length_positions as positions_length}
use Rattle.core_laws.proofs.PlacedLines.{found_any, row_before}
use Rattle.pblk_world.proofs.Answered.{answers_fit}
use Rattle.core_laws.proofs.DuePads.{offered_pad}
use Rattle.core_laws.proofs.Followed.{IsFollowed}
use Rattle.core_laws.proofs.PartLengths.{is_before, is_after}
use Rattle.core_laws.proofs.PlainOpenings.{opened_lines, IsOpenedLine, life_stands}
use Rattle.core_laws.proofs.StripesInOrder.{stripe_count, wide}
use Rattle.core_laws.proofs.LineForms.{IsLineOf, line_of, formed}
use Rattle.core_laws.proofs.NextStripes.{next_is, unfailed, start_landed, data_landed, all_parts}
use Rattle.core_laws.proofs.IdleRows.{all_answered, is_idle, row_there}
use Rattle.stripe_placer.proofs.Rows.{find_first, find_second}
use Rattle.core_laws.proofs.KeptLines.{on_drive}
use Rattle.core_laws.proofs.OfferedStripes.{unit_within}
use Rattle.core_laws.proofs.Placeable.{kind_in, kind_by, IsPart, HasParts, parts_of}
use Rattle.pblk_model.proofs.Lists.{IsAmong, among_contained}
use Rattle.pblk_model.proofs.Maps.{from_filter, given_at, in_filter, in_map}
use Rattle.pblk_model.proofs.Parts.{contained_among, none_past, some_within}
use Rattle.pblk_model.proofs.Tests.{and_both, both, le_true, lt_true, not_both, or_left, or_right, same_number, within_is as is_within}

-- ---- units of which each stripe is answered

pub AreAnswered : List Logged → Type 0
AreAnswered log = (p : Placed) → Contains (placements log) p → is_answered log p ≡ true

-- a stripe of a unit that is answered
its_turn : (log : List Logged) (unit : ℕ) (p : Placed) (m : ℕ) → slice_get (placed_on log unit) m ≡ Some p → is_answered log p ≡ true
    → (turn log p ≡ m) × (turn log p < length (answers log unit))
its_turn log unit p m e answered =
    let its : p.stripe.unit ≡ unit = unit_at log unit m p e in
    let below : turn log p < length (answers log p.stripe.unit) = some_within (answers log p.stripe.unit) (turn log p) answered in
    let same_count : length (answers log p.stripe.unit) ≡ length (answers log unit) = ap (λ u. length (answers log u)) its in
    (turn_at log unit m p e, omega arith)

pub idle_unit : (i : Image) (us : ℕ → List ℕ) (w : World) (unit : ℕ) → IsFollowed i us w → AreAnswered (log_of w 0)
    → length (answers (log_of w 0) unit) ≡ length (placed_on (log_of w 0) unit)
unfolding AreAnswered
idle_unit i us w unit is all = go (slice_get (placed_on (log_of w 0) unit) (length (answers (log_of w 0) unit))) refl
  where
    go : (o : Option Placed) → slice_get (placed_on (log_of w 0) unit) (length (answers (log_of w 0) unit)) ≡ o
        → length (answers (log_of w 0) unit) ≡ length (placed_on (log_of w 0) unit)
    go None e =
        let most : length (answers (log_of w 0) unit) ≤ length (placed_on (log_of w 0) unit) = answers_fit i w unit is.mount.legal in
        let least : length (placed_on (log_of w 0) unit) ≤ length (answers (log_of w 0) unit) =
        none_past (placed_on (log_of w 0) unit) (length (answers (log_of w 0) unit)) e in
        omega arith
    go (Some p) e =
        let log : List Logged = log_of w 0 in
        let m : ℕ = length (answers log unit) in
        let among : IsAmong (placements log) p = from_filter (λ (q : Placed). q.stripe.unit == unit) (placements log) p (m, e) in
        let turns : (turn log p ≡ m) × (turn log p < m) = its_turn log unit p m e (all p (contained_among (placements log) p among)) in
        let same : turn log p ≡ m = turns.0 in
        let below : turn log p < m = turns.1 in
        absurd (omega arith)

-- ---- what a stripe that is due comes to

part_is : (k c d : ℕ) (kind : StripeKind) → IsPart k c d kind → kind_in k c d ≡ kind
unfolding IsPart kind_in
part_is k c d kinds.Start part = ap (λ b. if b then kinds.Start else if nat_lt k (c + d) then kinds.Data else kinds.End) (lt_true k c part)
part_is k c d kinds.Data part = ap₂ (λ a b. if a then kinds.Start else if b then kinds.Data else kinds.End) (not_below c k part.0) (lt_true k (c + d) part.1)
part_is k c d kinds.Pad part = absurd part
part_is k c d kinds.End part =
    ap₂ (λ a b. if a then kinds.Start else if b then kinds.Data else kinds.End) (not_below c k (omega arith)) (not_below (c + d) k part)

-- the next stripe of the line, of this kind, is allowed
record IsAllowedNext (i : Image) (us : ℕ → List ℕ) (w : World) (pad : ℕ) (o : Opening) (kind : StripeKind) : Type 0 where
  inside : length (stripes_of (log_of w 0) o) < stripe_count i us o.line
  part : IsPart (length (stripes_of (log_of w 0) o)) (start_len i.shape / i.shape.ws_opt) (open_line i (log_of w) o).data_count kind
  allowed : allows i.shape (entries_of i.shape (log_of w 0) pad) (open_line i (log_of w) o) kind ≡ true

any_at : (ts : List Taken) (k : ℕ) (t : Taken) (pad : ℕ) → slice_get ts k ≡ Some t → t.entry.position < pad
    → list_any (λ q. nat_lt q pad) (positions_of ts) ≡ true
any_at [] k t pad e h = absurd (none-some t e)
any_at (u ∷ us) zero t pad e h =
    or_left (nat_lt u.entry.position pad) (list_any (λ q. nat_lt q pad) (positions_of us))
    (ap (λ (v : Taken). nat_lt v.entry.position pad) (same_Some u t e) ∙ lt_true t.entry.position pad h)
any_at (u ∷ us) (suc k) t pad e h = or_right (nat_lt u.entry.position pad) (list_any (λ q. nat_lt q pad) (positions_of us)) (any_at us k t pad e h)

urgent : (s : Shape) (log : List Logged) (target pad : ℕ) → target ≤ pad → IsUrgent s log target → has_stripe s.ws_opt (entries_of s log pad) ≡ true
urgent s log target pad within (inl fills) =
    let count : length (waiting (entries_of s log pad)) ≡ length (fronts.waiting s log) = ap (λ (qs : List ℕ). length qs) (waiting_alike s log pad)
    ∙ positions_length (fronts.waiting s log) in
    or_left (nat_le s.ws_opt (length (waiting (entries_of s log pad)))) (list_any (λ q. nat_lt q pad) (waiting (entries_of s log pad)))
    (le_true s.ws_opt (length (waiting (entries_of s log pad))) (omega arith))
urgent s log target pad within (inr below) =
    let t : Taken = below.0 in
    let at : IsAmong (fronts.waiting s log) t = (below.1.0, slice_get-get_or (fronts.waiting s log) below.1.0 t below.1.1 ∙ ap (λ y. Some y) below.1.2) in
    let under : t.entry.position < target = below.2 in
    or_right (nat_le s.ws_opt (length (waiting (entries_of s log pad)))) (list_any (λ q. nat_lt q pad) (waiting (entries_of s log pad)))
    (ap (list_any (λ q. nat_lt q pad)) (waiting_alike s log pad) ∙ any_at (fronts.waiting s log) at.0 t pad at.1 (omega arith))

abbrev Kinds : Image → Logs → Opening → Stripe → ℕ → Type 0
Kinds i logs o stripe target = IsStart i logs o stripe
    ⊎ (IsEnd i logs o stripe ⊎ (IsPad i logs o stripe ⊎ (IsData i logs o stripe × IsUrgent i.shape (logs 0) target)))

due_next : (i : Image) (us : ℕ → List ℕ) (w : World) (pad target : ℕ) (o : Opening) (stripe : Stripe) → IsFollowed i us w
    → has_failed (log_of w 0) o ≡ false → IsLineOf i us w o → HasParts i us w o → target ≤ pad
    → Kinds i (log_of w) o stripe target → (kind : StripeKind) × IsAllowedNext i us w pad o kind
unfolding IsPart
due_next i us w pad target o stripe is whole line parts within (inl start) =
    let k : ℕ = length (stripes_of (log_of w 0) o) in
    let before : k < start_len i.shape / i.shape.ws_opt =
    is_before i.shape.ws_opt k (start_len i.shape / i.shape.ws_opt) (start_len i.shape) is.mount.accepted.drive.ws_opt parts.start_is start.within in
    let fits = parts.fits in
    (kinds.Start, record { inside = omega arith; part = before; allowed = refl })
due_next i us w pad target o stripe is whole line parts within (inr (inl ends)) =
    let s : Shape = i.shape in
    let log : List Logged = log_of w 0 in
    let l : OpenLine = open_line i (log_of w) o in
    let ps : List Placed = stripes_of log o in
    let k : ℕ = length ps in
    let c : ℕ = start_len s / s.ws_opt in
    let d : ℕ = l.data_count in
    let some : 0 < s.ws_opt = is.mount.accepted.drive.ws_opt in
    let beyond : c + d ≤ k = is_after s.ws_opt k (c + d) (end_address s o) some parts.ends_is ends.from in
    let landed : list_all (has_landed log) (take (c + d) ps) ≡ true =
    (both (nat_le (c + d) k) (list_all (has_landed log) (take (c + d) ps))
    (ap (λ m. nat_le m k && list_all (has_landed log) (take m ps)) (sym parts.count_is) ∙ ends.data_landed)).1 in
    let rest : list_all (has_landed log) (take d (drop c ps)) ≡ true =
    (both (list_all (has_landed log) (take c ps)) (list_all (has_landed log) (take d (drop c ps))) (sym (all_parts (has_landed log) c d ps) ∙ landed)).1 in (
      kinds.End,
      record {
        inside = is_before s.ws_opt k (stripe_count i us o.line) (line_end s o) some parts.line_is ends.within;
        part = beyond;
        allowed = data_landed l log ps (stripe_count i us o.line - k) (formed i us w o line) beyond ∙ rest;
      },
    )
due_next i us w pad target o stripe is whole line parts within (inr (inr (inl pads))) =
    let fails : has_failed (log_of w 0) o ≡ true = pads.failed in
    absurd (cc (sym fails ∙ whole))
due_next i us w pad target o stripe is whole line parts within (inr (inr (inr its))) =
    let s : Shape = i.shape in
    let log : List Logged = log_of w 0 in
    let l : OpenLine = open_line i (log_of w) o in
    let ps : List Placed = stripes_of log o in
    let k : ℕ = length ps in
    let c : ℕ = start_len s / s.ws_opt in
    let d : ℕ = l.data_count in
    let some : 0 < s.ws_opt = is.mount.accepted.drive.ws_opt in
    let before : k < c + d = is_before s.ws_opt k (c + d) (end_address s o) some parts.ends_is its.0.within in
    let started = both (nat_le c k) (list_all (has_landed log) (take c ps)) its.0.start_landed in
    let above : c ≤ k = is_within c k started.0 in
    let fits = parts.fits in (
      kinds.Data,
      record {
        inside = omega arith;
        part = (above, before);
        allowed = and_both (start_has_landed l) (has_stripe s.ws_opt (entries_of s log pad))
            (start_landed l log ps (stripe_count i us o.line - k) (formed i us w o line) above ∙ started.1) (urgent s log target pad within its.1);
      },
    )

-- ---- it would be offered

pub none_at : {X : Type 0} (test : X → Bool) (xs : List X) (k : ℕ) (x : X) → find test xs ≡ None → slice_get xs k ≡ Some x → test x ≡ false
none_at test [] k x e at = absurd (none-some x at)
none_at {X} test (y ∷ ys) k x e at = go (test y) refl e k at (λ f m b. none_at test ys m x f b)
  where
    go : (b : Bool) → test y ≡ b → cond b (Some y) (find test ys) ≡ None → (k : ℕ) → slice_get (y ∷ ys) k ≡ Some x
        → (find test ys ≡ None → (m : ℕ) → slice_get ys m ≡ Some x → test x ≡ false) → test x ≡ false
    go true is f k at rest = absurd cc
    go false is f zero at rest = ap test (sym (same_Some y x at)) ∙ is
    go false is f (suc k) at rest = rest f k at

offered_next : (i : Image) (us : ℕ → List ℕ) (w : World) (pad : ℕ) (o : Opening) (kind : StripeKind) → IsFollowed i us w
    → has_failed (log_of w 0) o ≡ false → life_of (log_of w 0) o.line ≡ Opened o → IsLineOf i us w o → IsAllowedNext i us w pad o kind
    → IsAmong (filter_map (next_in i.shape (entries_of i.shape (log_of w 0) pad)) (open_lines i (log_of w)))
    (program_of i.shape (open_line i (log_of w) o) (length (stripes_of (log_of w 0) o)) kind
    (next_positions i.shape (entries_of i.shape (log_of w 0) pad) kind))
offered_next i us w pad o kind is whole life line next =
    let s : Shape = i.shape in
    let log : List Logged = log_of w 0 in
    let e : Entries = entries_of s log pad in
    let l : OpenLine = open_line i (log_of w) o in
    let k : ℕ = length (stripes_of log o) in
    let inside : k < stripe_count i us o.line = next.inside in
    let number : next_of l ≡ Some k =
    next_is l log (stripes_of log o) (stripe_count i us o.line - k) whole (formed i us w o line) (omega arith) in
    let kind_is : kind_of l k ≡ kind =
    kind_by l k (unfailed l log (stripes_of log o) (stripe_count i us o.line - k) whole (formed i us w o line))
    ∙ part_is k (start_len s / s.ws_opt) l.data_count kind next.part in
    let given : next_in s e l ≡ Some (program_of s l k kind (next_positions s e kind)) =
    ap (allowed_at s e l) number
    ∙ ap (λ (t : StripeKind). if allows s e l t then Some (program_of s l k t (next_positions s e t)) else None) kind_is
    ∙ ap (λ b. if b then Some (program_of s l k kind (next_positions s e kind)) else None) next.allowed in
    let left : has_left l ≡ true =
    or_left (list_any (is_to_place l) (numbers l)) (list_any is_unanswered l.stripes) (found_any (is_to_place l) (numbers l) k number) in
    let at : IsAmong (open_lines i (log_of w)) l =
    in_filter has_left (map (open_line i (log_of w)) (standing log)) l
    (in_map (open_line i (log_of w)) (standing log) o (life_stands i us w is o.line o life)) left in
    given_at (next_in s e) (open_lines i (log_of w)) l (program_of s l k kind (next_positions s e kind)) at.0 at.1 given

ready_unit : (i : Image) (us : ℕ → List ℕ) (w : World) (again : List ℕ) (unit : ℕ) → IsFollowed i us w → AreAnswered (log_of w 0) → unit < units i.shape
    → is_ready (map (unit_row_in i (log_of w) again) (range_with_len 0 (units i.shape))) 0 unit ≡ true
ready_unit i us w again unit is all inside =
    let idle : slice_get (map (unit_row_in i (log_of w) again) (range_with_len 0 (units i.shape))) unit ≡ Some Idle =
    row_there i (log_of w) again unit inside ∙ ap (λ (r : UnitRow). Some r) (row_before i (log_of w) again unit (idle_unit i us w unit is all)) in
    ap₂ (λ b (r : Option UnitRow). not (nat_eq b 1) && not (option_map_or is_under_way r false)) (bit_at-zero unit) idle

its_unit : (i : Image) (us : ℕ → List ℕ) (w : World) (o : Opening) → IsFollowed i us w → life_of (log_of w 0) o.line ≡ Opened o → IsLineOf i us w o
    → unit_of (open_line i (log_of w) o) (length (stripes_of (log_of w 0) o)) < units i.shape
its_unit i us w o is life line =
    let l : OpenLine = open_line i (log_of w) o in
    let k : ℕ = length (stripes_of (log_of w 0) o) in
    let inside : k % wide us o.line < wide us o.line = mod-lt k {m = wide us o.line} line.striped.wide in
    let same : unit_of l k ≡ slice_index_or (us o.line) (k % wide us o.line) 0 = ap₂ (λ (us : List ℕ) g. slice_index_or us (k % g) 0) line.units line.wide_is in
    subst (λ u. u < units i.shape) (sym same)
    (unit_within i us w o.line (k % wide us o.line) (slice_index_or (us o.line) (k % wide us o.line) 0) is (ap is_opened life)
    (slice_get-get_or (us o.line) (k % wide us o.line) 0 inside))

-- what is found nowhere isn't found behind the first
none_behind : (test : Program → Bool) (stopped given : List Program) → find test (stopped ++ given) ≡ None → find test given ≡ None
none_behind test stopped given none = go (find test stopped) refl
  where
    go : (o : Option Program) → find test stopped ≡ o → find test given ≡ None
    go None e = sym (find_second test stopped given e) ∙ none
    go (Some x) e = absurd (none-some x (sym none ∙ find_first test stopped given x e))

module _ (i : Image) (us : ℕ → List ℕ) (w : World) (pad : ℕ) (again : List ℕ) (target : ℕ) (stripe : Stripe) (is : IsFollowed i us w)
    (none : next_stripe (placing_of i (log_of w) pad again) 0 ≡ None)
    (all : (p : Placed) → Contains (placements (log_of w 0)) p → is_answered (log_of w 0) p ≡ true) (within : target ≤ pad)
    (due : IsDue i (log_of w) target stripe) where
  abbrev log : List Logged
  log = log_of w 0

  abbrev o : Opening
  o = due.opening

  abbrev rows : List UnitRow
  rows = map (unit_row_in i (log_of w) again) (range_with_len 0 (units i.shape))

  abbrev given : List Program
  given = filter_map (next_in i.shape (entries_of i.shape (log_of w 0) pad)) (open_lines i (log_of w))

  well : IsOpenedLine i us stripe.line due.opening
  well = opened_lines i us w is stripe.line o due.is_open

  life : life_of (log_of w 0) due.opening.line ≡ Opened due.opening
  life = ap (life_of log) well.its_line ∙ due.is_open

  -- nothing is offered, for each unit is ready
  none_offered : (of : Program) → IsAmong (filter_map (next_in i.shape (entries_of i.shape (log_of w 0) pad)) (open_lines i (log_of w))) of
      → of.unit < units i.shape → ⊥
  unfolding AreAnswered
  none_offered of among unit =
      let nothing : find (λ (x : Program). is_ready rows 0 x.unit) given ≡ None =
      none_behind (λ (x : Program). is_ready rows 0 x.unit) (filter_map stopped_in rows) given none in
      let no_ : is_ready rows 0 of.unit ≡ false = none_at (λ (x : Program). is_ready rows 0 x.unit) given among.0 of nothing among.1 in
      let yes_ : is_ready rows 0 of.unit ≡ true = ready_unit i us w again of.unit is all unit in
      absurd cc

  of_whole : has_failed (log_of w 0) due.opening ≡ false → ⊥
  of_whole whole =
      let line : IsLineOf i us w o = line_of i us w o is life whole in
      let next = due_next i us w pad target o stripe is whole line (parts_of i us w o line) within due.kind in
      let of : Program = program_of i.shape (open_line i (log_of w) o) (length (stripes_of log o)) next.0
      (next_positions i.shape (entries_of i.shape log pad) next.0) in
      none_offered of (offered_next i us w pad o next.0 is whole life line next.1) (its_unit i us w o is life line)

  -- in a Failed line it is a pad
  of_failed : has_failed (log_of w 0) due.opening ≡ true → Kinds i (log_of w) due.opening stripe target → ⊥
  of_failed fails (inl start) = not_both (has_failed log o) fails start.next.not_failed
  of_failed fails (inr (inl ends)) = not_both (has_failed log o) fails ends.next.not_failed
  of_failed fails (inr (inr (inr its))) = not_both (has_failed log o) fails its.0.next.not_failed
  of_failed fails (inr (inr (inl pads))) =
      let pad_now = offered_pad i w is.mount o life stripe (sym well.its_line) pads
      (λ p there. all p (contained_among (placements log) p (from_filter (λ (q : Placed). is_life o.number q.life) (placements log) p
      (among_contained (stripes_of log o) p there))))
      (entries_of i.shape log pad) in
      none_offered pad_now.0 pad_now.1 pad_now.2

  pub none_due : ⊥
  none_due = go (has_failed log o) refl
    where
      go : (b : Bool) → has_failed (log_of w 0) due.opening ≡ b → ⊥
      go true e = of_failed e due.kind
      go false e = of_whole e

-- ---- where each unit is idle

pub idle_answered : (i : Image) (us : ℕ → List ℕ) (w : World) (pad : ℕ) (again : List ℕ) (p : Placed) → IsFollowed i us w
    → ((unit : ℕ) → unit < units i.shape → slice_get (placing_of i (log_of w) pad again).units unit ≡ Some Idle)
    → Contains (placements (log_of w 0)) p → is_answered (log_of w 0) p ≡ true
idle_answered i us w pad again p is idle there =
    let log : List Logged = log_of w 0 in
    let among : IsAmong (placements log) p = (there.0, slice_get-get_or (placements log) there.0 p there.1 ∙ ap (λ (q : Placed). Some q) there.2) in
    let inside : p.stripe.unit < units i.shape = on_drive i w p is.mount there in
    let row : unit_row_in i (log_of w) again p.stripe.unit ≡ Idle =
    same_Some (unit_row_in i (log_of w) again p.stripe.unit) Idle (sym (row_there i (log_of w) again p.stripe.unit inside) ∙ idle p.stripe.unit inside) in
    all_answered log p.stripe.unit p (is_idle i us w again p.stripe.unit is (ap is_under_way row) (ap stopped_in row))
    (in_filter (λ (q : Placed). q.stripe.unit == p.stripe.unit) (placements log) p among (same_number p.stripe.unit)) refl
