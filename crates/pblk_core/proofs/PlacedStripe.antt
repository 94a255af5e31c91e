-- The program that the placer of a standing core offers, and the stripe for it.
use Rattle.std.proofs.Common.{◌≡◌, ◌⊎◌, inl, inr, ℕ, ◌+◌, ◌-◌, ◌*◌, ◌/◌, ◌<◌, ◌≤◌, ◌&&◌, nat_lt, zero, suc, Bool, true, false, Some, None, List, [], ◌∷◌, ◌||◌, length, take, refl, sym, subst, ap, ◌∙◌, arith, ◌≢◌, ◌%◌, if◌then◌else◌}
use Rattle.std.specs.Prelude.{⊤, map, nat_le, slice_get}
use Rattle.std.specs.List.{list_all, list_any, range_with_len}
use Rattle.std.proofs.Math.Nat.{mul-le-mul_right}
use Rattle.std.proofs.lemmas.Option.{slice_get_within}
use Rattle.pblk_model.specs.declared.shape.Shape.{Shape}
use Rattle.pblk_model.specs.Shape.{units}
use Rattle.pblk_model.specs.LineOrder.{start_len}
use Rattle.pblk_model.specs.Image.{Image, line_units}
use Rattle.pblk_world.specs.Lines.{known_image}
use Rattle.pblk_world.specs.Events.{Stripe, Logged}
use Rattle.pblk_world.specs.World.{World, Logs, log_of}
use Rattle.pblk_world.specs.AtRest.{IsDue, IsUrgent}
use Rattle.pblk_world.specs.EngineLog.{Opening, Opened, Taken, is_opened, life_of, stripes_of, has_failed, has_landed}
use Rattle.pblk_world.specs.Fronts as fronts
use Rattle.pblk_world.specs.Placing.{next_address, end_address, line_end, IsStart, IsData, IsEnd, IsPad, MayPlace}
use Rattle.stripe_placer.specs.declared.placement.StripeKind.{StripeKind}
use Rattle.stripe_placer.specs.declared.placement.StripeKind.TheVariants as kinds
use Rattle.pblk_world.specs.Starts.{has_landed_start}
use Rattle.stripe_placer.specs.Entries.{Entries, has_stripe, waiting}
use Rattle.stripe_placer.specs.OpenLines.{OpenLine, kind_of, numbers, is_to_place, is_unanswered, has_left, start_has_landed}
use Rattle.stripe_placer.proofs.Named.{IsProgramIn, its_program}
use Rattle.core_laws.proofs.PaddedLines.{fails_with, low, unit, unit_is}
use Rattle.core_laws.proofs.LeftLines.{left_apart}
use Rattle.stripe_placer.specs.Placing.{Program, allows, is_ready, next_in, next_positions, next_stripe, stopped_in}
use Rattle.core_laws.specs.OpenedLines.{open_line, standing}
use Rattle.core_laws.specs.PlacerOf.{entries_of, placing_of, positions_of, unit_row_in, IsStripeOf}
use Rattle.pblk_world.specs.LegalMounts.{IsLegalMount}
use Rattle.core_laws.specs.StripeFor.{IsStripeFor, IsProgramFor, positions_for}
use Rattle.core_laws.proofs.PlainOpenings.{life_stands}
use Rattle.core_laws.proofs.Followed.{IsFollowed, follow}
use Rattle.core_laws.proofs.PartLengths.{ends_before, begins_after}
use Rattle.core_laws.proofs.StripesInOrder.{stripe_count}
use Rattle.core_laws.proofs.LineForms.{formed}
use Rattle.core_laws.proofs.NextStripes.{unfailed}
use Rattle.core_laws.proofs.OfferedStripes.{IsOffered, IsOfferedBy, offered, offered_line, unit_within}
use Rattle.core_laws.proofs.Placeable.{HasParts, parts_by, parts_of, kind_in, kind_by, IsPart, part_of, offered_for}
use Rattle.core_laws.proofs.PadsPlaced.{next_may_be_placed, next_is_its}
use Rattle.core_laws.proofs.PlacedLines.{found_any as found_some}
use Rattle.pblk_core.specs.Stands.{Stands, left_openings, IsOpenLine}
use Rattle.pblk_core.specs.Slots.{IsSlot}
use Rattle.pblk_core.specs.declared.target_core.Core.{Core}
use Rattle.pblk_core.specs.declared.open_lines.OpenLine.{OpenLine as KeptLine}
use Rattle.pblk_core.specs.declared.open_lines.OpenLines.{OpenLines}
use Rattle.core_laws.proofs.StillWaiting.{length_positions}
use Rattle.core_laws.proofs.WaitingEntries.{waiting_alike}
use Rattle.pblk_model.proofs.Lists.{IsAmong}
use Rattle.pblk_model.proofs.Maps.{in_filter}
use Rattle.pblk_model.proofs.Parts.{contained_among, got_within}
use Rattle.pblk_model.proofs.Tests.{below_of, both, either, not_both, within_is}
use Rattle.pblk_core.proofs.LandedWay.{IsLineKept, line_kept}
use Rattle.pblk_world.proofs.EngineLogLemmas.{opened_same}

-- where a stripe of a kind begins in its line
abbrev pub IsInPart : Shape → Opening → ℕ → StripeKind → Type 0
IsInPart s o at kinds.Start = at + s.ws_opt ≤ start_len s
IsInPart s o at kinds.Data = (start_len s ≤ at) × (at + s.ws_opt ≤ end_address s o)
IsInPart s o at kinds.Pad = ⊤
IsInPart s o at kinds.End = end_address s o ≤ at

-- a program that is offered, of the line of an opening
pub record IsOfferedNow (i : Image) (w : World) (pad : ℕ) (o : Opening) (of : Program) : Type 0 where
  pub opened : life_of (log_of w 0) of.line ≡ Opened o
  pub own : of.line ≡ o.line
  pub next : next_in i.shape (entries_of i.shape (log_of w 0) pad) (open_line i (log_of w) o) ≡ Some of
  pub line : of.line < i.shape.chunks
  pub unit : of.unit < units i.shape
  -- a pad is offered where a stripe of the line was lost, and no other
  pub sound : of.kind ≢ kinds.Pad → has_failed (log_of w 0) o ≡ false
  pub unpadded : has_failed (log_of w 0) o ≡ false → of.kind ≢ kinds.Pad
  pub at : of.kind ≢ kinds.Pad → of.at ≡ next_address i.shape (log_of w 0) o
  pub whole : of.at + i.shape.ws_opt ≤ line_end i.shape o
  pub part : IsInPart i.shape o of.at of.kind
  pub positions : of.positions ≡ positions_for i.shape (log_of w 0) of.kind
  pub count : of.count ≡ length of.positions
  pub start_is : start_len i.shape / i.shape.ws_opt * i.shape.ws_opt ≡ start_len i.shape
  pub stands : IsAmong (standing (log_of w 0)) o
  pub has : has_left (open_line i (log_of w) o) ≡ true
  pub may : (stripe : Stripe) → IsStripeFor i (log_of w) o of stripe → MayPlace i (log_of w) stripe
  pub its : (stripe : Stripe) → IsStripeFor i (log_of w) o of stripe → IsStripeOf i (log_of w) pad o stripe of
  -- entries are placed where that is urgent
  pub urgent : of.kind ≡ kinds.Data → IsUrgent i.shape (log_of w 0) pad

-- an entry below the pad target
below_target : (ts : List Taken) (pad : ℕ) → list_any (λ q. nat_lt q pad) (positions_of ts) ≡ true
    → (t : Taken) × IsAmong ts t × (t.entry.position < pad)
below_target [] pad e = absurd cc
below_target (t ∷ ts) pad e = go (either (nat_lt t.entry.position pad) (list_any (λ q. nat_lt q pad) (positions_of ts)) e) (λ f. below_target ts pad f)
  where
    go : (nat_lt t.entry.position pad ≡ true) ⊎ (list_any (λ q. nat_lt q pad) (positions_of ts) ≡ true)
        → (list_any (λ q. nat_lt q pad) (positions_of ts) ≡ true → (u : Taken) × IsAmong ts u × (u.entry.position < pad))
        → (u : Taken) × IsAmong (t ∷ ts) u × (u.entry.position < pad)
    go (inl here) rest = (t, (0, refl), below_of t.entry.position pad here)
    go (inr there) rest = let its = rest there in (its.0, (suc its.1.0, its.1.1), its.2)

-- where there are entries for a stripe it is urgent
urgent_by : (s : Shape) (log : List Logged) (pad : ℕ) → has_stripe s.ws_opt (entries_of s log pad) ≡ true → IsUrgent s log pad
urgent_by s log pad e = go (either (nat_le s.ws_opt (length (waiting (entries_of s log pad))))
    (list_any (λ q. nat_lt q pad) (waiting (entries_of s log pad))) e)
  where
    go : (nat_le s.ws_opt (length (waiting (entries_of s log pad))) ≡ true) ⊎ (list_any (λ q. nat_lt q pad) (waiting (entries_of s log pad)) ≡ true)
        → IsUrgent s log pad
    go (inl full) =
        let count : length (waiting (entries_of s log pad)) ≡ length (fronts.waiting s log) = ap (λ (qs : List ℕ). length qs) (waiting_alike s log pad)
        ∙ length_positions (fronts.waiting s log) in
        let enough : s.ws_opt ≤ length (waiting (entries_of s log pad)) = within_is s.ws_opt (length (waiting (entries_of s log pad))) full in
        inl (omega arith)
    go (inr asked) =
        let it : (t : Taken) × IsAmong (fronts.waiting s log) t × (t.entry.position < pad) =
        below_target (fronts.waiting s log) pad (sym (ap (list_any (λ q. nat_lt q pad)) (waiting_alike s log pad)) ∙ asked) in
        inr (it.0, contained_among (fronts.waiting s log) it.0 it.1, it.2)

allowed_urgent : (s : Shape) (log : List Logged) (pad : ℕ) (l : OpenLine) (kind : StripeKind) → allows s (entries_of s log pad) l kind ≡ true
    → kind ≡ kinds.Data → IsUrgent s log pad
allowed_urgent s log pad l kind allowed data_ =
    urgent_by s log pad (both (start_has_landed l) (has_stripe s.ws_opt (entries_of s log pad))
    (ap (allows s (entries_of s log pad) l) (sym data_) ∙ allowed)).1

pub in_part : (s : Shape) (o : Opening) (k c d : ℕ) (kind : StripeKind) → c * s.ws_opt ≡ start_len s → (c + d) * s.ws_opt ≡ end_address s o → IsPart k c d kind
    → IsInPart s o (k * s.ws_opt) kind
unfolding IsPart
in_part s o k c d kinds.Start a b part = ends_before s.ws_opt k c (start_len s) a part
in_part s o k c d kinds.Data a b part = (begins_after s.ws_opt k c (start_len s) a part.0, ends_before s.ws_opt k (c + d) (end_address s o) b part.1)
in_part s o k c d kinds.Pad a b part = tt
in_part s o k c d kinds.End a b part = begins_after s.ws_opt k (c + d) (end_address s o) b part

-- a line with a next stripe has one left
has_one : {s : Shape} {e : Entries} {of : Program} (l : OpenLine) → (j : ℕ) × IsProgramIn s e l of j → has_left l ≡ true
has_one l its = ap (λ b. b || list_any is_unanswered l.stripes) (found_some (is_to_place l) (numbers l) its.0 its.1.next)

module _ (i : Image) (w : World) (pad : ℕ) (again : List ℕ) (busy : ℕ) (of : Program) (mount : IsLegalMount i w)
    (next : next_stripe (placing_of i (log_of w) pad again) busy ≡ Some of) (none : stopped_in (unit_row_in i (log_of w) again of.unit) ≡ None) where
  us : ℕ → List ℕ
  us = line_units (known_image i (log_of w))

  is : IsFollowed i (line_units (known_image i (log_of w))) w
  is = follow i w mount

  module _ (o : Opening) (by : IsOfferedBy i (line_units (known_image i (log_of w))) w pad of o)
      (ready : is_ready (map (unit_row_in i (log_of w) again) (range_with_len 0 (units i.shape))) busy of.unit ≡ true) where
    abbrev l : OpenLine
    l = open_line i (log_of w) o

    its : (j : ℕ) × IsProgramIn i.shape (entries_of i.shape (log_of w 0) pad) (open_line i (log_of w) o) of j
    its = its_program i.shape (entries_of i.shape (log_of w 0) pad) l of by.next

    own_line : of.line ≡ o.line
    own_line = sym (ap (λ (x : Program). x.line) its.1.is)

    own_life : life_of (log_of w 0) of.line ≡ Opened o
    own_life = ap (life_of (log_of w 0)) own_line ∙ by.life

    -- where no stripe of the line was lost
    sound_now : has_failed (log_of w 0) o ≡ false → IsOfferedNow i w pad o of
    unfolding us
    sound_now sound =
        let log : List Logged = log_of w 0 in
        let off : IsOffered i us w pad of o = offered i us w pad again busy of o is sound by ready none in
        let k : ℕ = length (stripes_of log o) in
        let c : ℕ = start_len i.shape / i.shape.ws_opt in
        let parts : HasParts i us w o = parts_of i us w o off.line_is in
        let kind : kind_in k c l.data_count ≡ of.kind =
        sym (kind_by l k (unfailed l log (stripes_of log o) (stripe_count i us o.line - k) sound (formed i us w o off.line_is))) ∙ off.kind in
        let program : IsProgramFor i (log_of w) o of = offered_for i us w pad of o sound off in
        record {
          opened = own_life;
          own = off.its_line;
          next = off.next;
          line = program.line;
          unit = program.unit;
          sound = λ other. sound;
          unpadded = λ e. program.kind;
          at = λ other. off.at;
          whole = program.at;
          part = subst (λ a. IsInPart i.shape o a of.kind) (sym off.at)
              (in_part i.shape o k c l.data_count of.kind parts.start_is parts.ends_is (subst (IsPart k c l.data_count) kind (part_of k c l.data_count)));
          positions = program.positions;
          may = λ stripe for. next_may_be_placed i w pad again busy of o stripe mount next none for;
          its = λ stripe for. next_is_its i w pad again busy of o stripe mount next none for;
          urgent = allowed_urgent i.shape log pad l of.kind off.allowed;
          count = sym (ap (λ (x : Program). x.count) its.1.is) ∙ ap (λ (x : Program). length x.positions) its.1.is;
          start_is = parts.start_is;
          stands = life_stands i us w is o.line o off.life;
          has = has_one l its;
        }

    -- and where one was
    failed_now : has_failed (log_of w 0) o ≡ true → IsOfferedNow i w pad o of
    unfolding us
    failed_now failed =
        let line_is : IsLineKept i w o = line_kept i w o mount by.life in
        let parts : HasParts i us w o = parts_by i us w o line_is.wide_is line_is.well line_is.striped in
        let kind : kind_of l its.0 ≡ kinds.Pad = ap (λ b. if b then kinds.Pad else if nat_lt its.0 l.start_count then kinds.Start
        else if nat_lt its.0 (l.start_count + l.data_count) then kinds.Data else kinds.End) (fails_with i w mount o by.life failed) in
        let its_kind : of.kind ≡ kinds.Pad = sym (ap (λ (x : Program). x.kind) its.1.is) ∙ kind in
        let u = unit i w mount o by.life its.0 its.1.next in
        let its_unit : of.unit ≡ u.0 = sym (ap (λ (x : Program). x.unit) its.1.is) ∙ unit_is i w mount o by.life its.0 its.1.next in
        let at : of.at ≡ its.0 * i.shape.ws_opt = sym (ap (λ (x : Program). x.at) its.1.is) in
        record {
          opened = own_life;
          own = own_line;
          next = by.next;
          line = subst (λ n. n < i.shape.chunks) (sym own_line) line_is.well.in_range;
          unit = subst (λ v. v < units i.shape) (sym its_unit)
              (unit_within i us w o.line (its.0 % length (us o.line)) u.0 is (ap is_opened by.life) u.1);
          sound = λ other. absurd (other its_kind);
          unpadded = λ e. absurd (not_both (has_failed (log_of w 0) o) failed e);
          at = λ other. absurd (other its_kind);
          whole = subst (λ a. a + i.shape.ws_opt ≤ line_end i.shape o) (sym at)
              (ends_before i.shape.ws_opt its.0 (stripe_count i us o.line) (line_end i.shape o) parts.line_is (low i w mount o by.life its.0 its.1.next));
          part = subst (IsInPart i.shape o of.at) (sym its_kind) tt;
          positions = sym (ap (λ (x : Program). x.positions) its.1.is)
              ∙ ap (next_positions i.shape (entries_of i.shape (log_of w 0) pad)) kind ∙ ap (positions_for i.shape (log_of w 0)) (sym its_kind);
          may = λ stripe for. next_may_be_placed i w pad again busy of o stripe mount next none for;
          its = λ stripe for. next_is_its i w pad again busy of o stripe mount next none for;
          urgent = λ data_. absurd (unlike (sym its_kind ∙ data_));
          count = sym (ap (λ (x : Program). x.count) its.1.is) ∙ ap (λ (x : Program). length x.positions) its.1.is;
          start_is = parts.start_is;
          stands = life_stands i us w is o.line o by.life;
          has = has_one l its;
        }
      where
        unlike : kinds.Pad ≡ kinds.Data → ⊥
        unlike e = cc

  pub offered_now : (o : Opening) × IsOfferedNow i w pad o of
  offered_now =
      let by = offered_line i (line_units (known_image i (log_of w))) w pad again busy of is next none in
      (by.0, go by.0 by.1 by.2 (has_failed (log_of w 0) by.0) refl)
    where
      go : (o : Opening) → IsOfferedBy i (line_units (known_image i (log_of w))) w pad of o
          → is_ready (map (unit_row_in i (log_of w) again) (range_with_len 0 (units i.shape))) busy of.unit ≡ true → (b : Bool) → has_failed (log_of w 0) o ≡ b
          → IsOfferedNow i w pad o of
      go o by ready true e = failed_now o by ready e
      go o by ready false e = sound_now o by ready e

-- ---- the stripe is of its kind

abbrev pub IsOfKind : Image → Logs → Opening → Stripe → StripeKind → Type 0
IsOfKind i logs o stripe kinds.Start = IsStart i logs o stripe
IsOfKind i logs o stripe kinds.Data = IsData i logs o stripe
IsOfKind i logs o stripe kinds.Pad = IsPad i logs o stripe
IsOfKind i logs o stripe kinds.End = IsEnd i logs o stripe

started : (k c : ℕ) (b : Bool) → (nat_le c k && b) ≡ true → c ≤ k
started k c b e = go (nat_le c k) refl e
  where
    go : (a : Bool) → nat_le c k ≡ a → (a && b) ≡ true → c ≤ k
    go true f g = grind arith
    go false f g = absurd cc

-- a stripe of data stands behind the start record
data_after : (s : Shape) (log : List Logged) (o : Opening) → start_len s / s.ws_opt * s.ws_opt ≡ start_len s → has_landed_start s log o ≡ true
    → start_len s ≤ next_address s log o
data_after s log o whole landed =
    let within : start_len s / s.ws_opt ≤ length (stripes_of log o) =
    started (length (stripes_of log o)) (start_len s / s.ws_opt) (list_all (has_landed log) (take (start_len s / s.ws_opt) (stripes_of log o))) landed in
    let product : start_len s / s.ws_opt * s.ws_opt ≤ length (stripes_of log o) * s.ws_opt = mul-le-mul_right s.ws_opt within in
    omega arith

abbrev Kinds : Image → Logs → Opening → Stripe → Type 0
Kinds i logs o stripe = IsStart i logs o stripe ⊎ (IsData i logs o stripe ⊎ (IsEnd i logs o stripe ⊎ IsPad i logs o stripe))

one_kind : (i : Image) (logs : Logs) (o : Opening) (stripe : Stripe) (kind : StripeKind) → 0 < i.shape.ws_opt
    → start_len i.shape / i.shape.ws_opt * i.shape.ws_opt ≡ start_len i.shape → has_failed (logs 0) o ≡ false → kind ≢ kinds.Pad
    → IsInPart i.shape o (next_address i.shape (logs 0) o) kind → Kinds i logs o stripe → IsOfKind i logs o stripe kind
one_kind i logs o stripe kinds.Start some whole fine other part (inl is) = is
one_kind i logs o stripe kinds.Start some whole fine other part (inr (inl is)) = let after =
    data_after i.shape (logs 0) o whole is.start_landed in absurd (omega arith)
one_kind i logs o stripe kinds.Start some whole fine other part (inr (inr (inl is))) = let from = is.from in absurd (omega arith)
one_kind i logs o stripe kinds.Start some whole fine other part (inr (inr (inr is))) = let failed : has_failed (logs 0) o ≡ true = is.failed in absurd cc
one_kind i logs o stripe kinds.Data some whole fine other part (inl is) = let a = part.0 in let b = is.within in absurd (omega arith)
one_kind i logs o stripe kinds.Data some whole fine other part (inr (inl is)) = is
one_kind i logs o stripe kinds.Data some whole fine other part (inr (inr (inl is))) = let a = part.1 in let b = is.from in absurd (omega arith)
one_kind i logs o stripe kinds.Data some whole fine other part (inr (inr (inr is))) = let failed : has_failed (logs 0) o ≡ true = is.failed in absurd cc
one_kind i logs o stripe kinds.Pad some whole fine other part is = absurd (other refl)
one_kind i logs o stripe kinds.End some whole fine other part (inl is) = let a : next_address i.shape (logs 0) o < start_len i.shape =
    is.within in absurd (omega arith)
one_kind i logs o stripe kinds.End some whole fine other part (inr (inl is)) = let b : next_address i.shape (logs 0) o < end_address i.shape o =
    is.within in absurd (omega arith)
one_kind i logs o stripe kinds.End some whole fine other part (inr (inr (inl is))) = is
one_kind i logs o stripe kinds.End some whole fine other part (inr (inr (inr is))) = let failed : has_failed (logs 0) o ≡ true = is.failed in absurd cc

-- in a line of which a stripe was lost it is a pad
pad_kind : (i : Image) (logs : Logs) (o : Opening) (stripe : Stripe) → has_failed (logs 0) o ≡ true → Kinds i logs o stripe → IsPad i logs o stripe
pad_kind i logs o stripe failed (inl is) = absurd (not_both _ failed is.next.not_failed)
pad_kind i logs o stripe failed (inr (inl is)) = absurd (not_both _ failed is.next.not_failed)
pad_kind i logs o stripe failed (inr (inr (inl is))) = absurd (not_both _ failed is.next.not_failed)
pad_kind i logs o stripe failed (inr (inr (inr is))) = is

pub of_kind : (i : Image) (w : World) (pad : ℕ) (o : Opening) (of : Program) (stripe : Stripe) → IsLegalMount i w → IsOfferedNow i w pad o of
    → IsStripeFor i (log_of w) o of stripe → IsOfKind i (log_of w) o stripe of.kind
of_kind i w pad o of stripe mount now for = go (has_failed (log_of w 0) o) refl (subst (λ p. Kinds i (log_of w) p stripe) same may.kind)
  where
    may : MayPlace i (log_of w) stripe
    may = now.may stripe for

    same : may.opening ≡ o
    same = opened_same may.opening o (sym may.is_open ∙ ap (life_of (log_of w 0)) for.line ∙ now.opened)

    by_kind : (kind : StripeKind) → of.kind ≡ kind → has_failed (log_of w 0) o ≡ true → Kinds i (log_of w) o stripe → IsOfKind i (log_of w) o stripe kind
    by_kind kinds.Pad e failed is = pad_kind i (log_of w) o stripe failed is
    by_kind kinds.Start e failed is = absurd (not_both _ failed (now.sound (λ f. unlike (sym e ∙ f))))
      where
        unlike : kinds.Start ≡ kinds.Pad → ⊥
        unlike h = cc
    by_kind kinds.Data e failed is = absurd (not_both _ failed (now.sound (λ f. unlike (sym e ∙ f))))
      where
        unlike : kinds.Data ≡ kinds.Pad → ⊥
        unlike h = cc
    by_kind kinds.End e failed is = absurd (not_both _ failed (now.sound (λ f. unlike (sym e ∙ f))))
      where
        unlike : kinds.End ≡ kinds.Pad → ⊥
        unlike h = cc

    go : (b : Bool) → has_failed (log_of w 0) o ≡ b → Kinds i (log_of w) o stripe → IsOfKind i (log_of w) o stripe of.kind
    go true e is = by_kind of.kind refl e is
    go false e is = one_kind i (log_of w) o stripe of.kind mount.accepted.drive.ws_opt now.start_is e (now.unpadded e)
        (subst (λ a. IsInPart i.shape o a of.kind) (now.at (now.unpadded e)) now.part) is

-- so it is due
pub due_now : (i : Image) (w : World) (pad : ℕ) (o : Opening) (of : Program) (stripe : Stripe) → IsLegalMount i w → IsOfferedNow i w pad o of
    → IsStripeFor i (log_of w) o of stripe → IsDue i (log_of w) pad stripe
due_now i w pad o of stripe mount now for = record {
  opening = o;
  is_open = ap (life_of (log_of w 0)) for.line ∙ now.opened;
  kind = go of.kind refl (of_kind i w pad o of stripe mount now for);
}
  where
    go : (kind : StripeKind) → of.kind ≡ kind → IsOfKind i (log_of w) o stripe kind
        → IsStart i (log_of w) o stripe
        ⊎ (IsEnd i (log_of w) o stripe ⊎ (IsPad i (log_of w) o stripe ⊎ (IsData i (log_of w) o stripe × IsUrgent i.shape (log_of w 0) pad)))
    go kinds.Start e is = inl is
    go kinds.Data e is = inr (inr (inr (is, now.urgent e)))
    go kinds.Pad e is = inr (inr (inl is))
    go kinds.End e is = inr (inl is)

-- ---- the open line

pub record HasSlot (i : Image) (logs : Logs) (kept : OpenLines) (o : Opening) : Type 0 where
  pub k : ℕ
  pub slot : KeptLine
  pub inside : k < 2
  pub there : IsSlot kept k slot
  pub opening : slice_get (left_openings i logs) k ≡ Some o
  pub is : IsOpenLine i logs o slot

pub has_slot : (i : Image) (w : World) (c : Core) (pad : ℕ) (o : Opening) (of : Program) → IsOfferedNow i w pad o of → Stands i (log_of w) c
    → HasSlot i (log_of w) c.open o
has_slot i w c pad o of now st =
    let among : IsAmong (left_openings i (log_of w)) o =
    in_filter (λ (p : Opening). has_left (open_line i (log_of w) p)) (standing (log_of w 0)) o now.stands now.has in
    let within : among.0 < length (left_openings i (log_of w)) = slice_get_within (left_openings i (log_of w)) among.0 o among.1 in
    let count : c.open.count ≡ length (left_openings i (log_of w)) = st.open_lines.count in
    let few : c.open.count ≤ 2 = st.open_lines.few in
    let two : length c.open.slots.items ≡ 2 = st.open_lines.two in
    let slot = got_within c.open.slots.items among.0 (omega arith) in
    record {
      k = among.0;
      slot = slot.0;
      inside = omega arith;
      there = slot.1;
      opening = among.1;
      is = st.open_lines.each among.0 o slot.0 among.1 slot.1;
    }

-- the place that is found is that of the line
pub found_slot : (i : Image) (w : World) (c : Core) (pad : ℕ) (o : Opening) (of : Program) (result : ℕ) → IsOfferedNow i w pad o of → Stands i (log_of w) c
    → (has : HasSlot i (log_of w) c.open o)
    → result < 2 → ((slot : KeptLine) → IsSlot c.open result slot → slot.records.line ≡ of.line)
    → ((slot : KeptLine) → IsSlot c.open 0 slot → slot.records.line ≡ of.line → result ≡ 0) → result ≡ has.k
found_slot i w c pad o of result now st has inside line first = go has.k refl
  where
    two : length c.open.slots.items ≡ 2
    two = st.open_lines.two

    go : (k : ℕ) → has.k ≡ k → result ≡ k
    go zero e = first has.slot (ap (λ n. slice_get c.open.slots.items n) (sym e) ∙ has.there) (has.is.records.line ∙ sym now.own)
    go (suc k) e = by result refl
      where
        by : (r : ℕ) → result ≡ r → r ≡ suc k
        by zero f =
            let within : has.k < length (left_openings i (log_of w)) = slice_get_within (left_openings i (log_of w)) has.k o has.opening in
            let other = got_within (left_openings i (log_of w)) 0 (omega arith) in
            let slot = got_within c.open.slots.items 0 (omega arith) in
            let is : IsOpenLine i (log_of w) other.0 slot.0 = st.open_lines.each 0 other.0 slot.0 other.1 slot.1 in
            let same : other.0.line ≡ o.line = sym is.records.line ∙ line slot.0 (ap (λ n. slice_get c.open.slots.items n) f ∙ slot.1) ∙ now.own in
            let at : 0 ≡ has.k = left_apart i (log_of w) 0 has.k other.0 o other.1 has.opening same in
            absurd (omega arith)
        by (suc r) f = let kept = has.inside in omega arith
