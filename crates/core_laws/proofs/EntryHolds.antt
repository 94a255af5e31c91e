-- What an event changes of the later entry of a sector, and of the line of an entry's stripe.
use Rattle.std.proofs.Common.{◌≡◌, ℕ, ◌+◌, ◌<◌, ◌≤◌, ◌==◌, ◌&&◌, ◌||◌, nat_lt, Bool, true, false, cond, Some, None, Option, List, [], ◌∷◌, ◌++◌, length, refl, sym, ap, ap₂, ◌∙◌, arith, append-nil, le_of_lt}
use Rattle.std.specs.Prelude.{is_some, not}
use Rattle.std.specs.List.{find, list_any}
use Rattle.std.specs.Option.{option_map, option_to_list}
use Rattle.pblk_model.specs.declared.shape.Shape.{Shape}
use Rattle.pblk_model.specs.declared.chunk.Mark.{Mark}
use Rattle.pblk_world.specs.Events.{Entry, Stripe, Take, Decides, Logged}
use Rattle.pblk_world.specs.EngineLog.{Taken, taken_by, takes, Opening, Placed, placements, was_lost, is_loss, holds_position, bears_position}
use Rattle.pblk_world.specs.Fronts.{first_position, taken, waits}
use Rattle.core_laws.specs.Positions.{AreNumbered}
use Rattle.core_laws.proofs.Engine.{placements_before}
use Rattle.core_laws.proofs.Placing.{not_below, with_place, new_placed, IsPlacing, placements_now, answer_now, new_unanswered}
use Rattle.core_laws.proofs.TakenSlots.{find_same}
use Rattle.core_laws.proofs.StripesByPlace.{find_last, find_fails_last}
use Rattle.core_laws.proofs.PlacedPositions.{numbered_below}
use Rattle.stripe_placer.proofs.Rows.{find_first as found_stays}
use Rattle.core_laws.specs.EntryHolds.{later_take, placed_line}
use Rattle.core_laws.proofs.HeldOnce.{HeldOnce}
use Rattle.core_laws.proofs.PlacedAnew.{holders_lost}
use Rattle.pblk_model.proofs.Lists.{IsAmong, all_imply}
use Rattle.pblk_model.proofs.Maps.{any_member, find_agree, find_none, found_passes}
use Rattle.pblk_model.proofs.Options.{none_of_map}
use Rattle.pblk_model.proofs.Tests.{and_false, first_of, lt_true, not_both, not_first, not_true, same_number, second_of}
use Rattle.pblk_world.proofs.EngineLogLemmas.{takes_more}

-- ---- the later entry of a sector

pub later_stays : (log : List Logged) (l : Logged) (t u : Taken) → later_take log t ≡ Some u → later_take (log ++ l ∷ []) t ≡ Some u
later_stays log l t u e =
    ap (find (λ (u : Taken). nat_lt t.entry.position u.entry.position && (u.mark.lba == t.mark.lba))) (takes_more log l)
    ∙ found_stays (λ (u : Taken). nat_lt t.entry.position u.entry.position && (u.mark.lba == t.mark.lba)) (takes log) (option_to_list (taken_by l.event)) u e

pub later_same : (log : List Logged) (l : Logged) (t : Taken) → taken_by l.event ≡ None → later_take (log ++ l ∷ []) t ≡ later_take log t
later_same log l t none =
    ap (find (λ (u : Taken). nat_lt t.entry.position u.entry.position && (u.mark.lba == t.mark.lba)))
    (takes_more log l ∙ ap (λ o. takes log ++ option_to_list o) none ∙ append-nil (takes log))

pub later_of_others : (log : List Logged) (entry : Entry) (mark : Mark) (knows : List ℕ) (t : Taken) → (mark.lba == t.mark.lba) ≡ false
    → later_take (log ++ record { event = Decides (Take entry mark); knows = knows } ∷ []) t ≡ later_take log t
later_of_others log entry mark knows t other =
    ap (find (λ (u : Taken). nat_lt t.entry.position u.entry.position && (u.mark.lba == t.mark.lba)))
    (takes_more log (record { event = Decides (Take entry mark); knows = knows }))
    ∙ find_fails_last (λ (u : Taken). nat_lt t.entry.position u.entry.position && (u.mark.lba == t.mark.lba)) (takes log)
    (record { entry = entry; mark = mark })
    (and_false (nat_lt t.entry.position entry.position) (mark.lba == t.mark.lba) other)

pub later_of_sector : (log : List Logged) (entry : Entry) (mark : Mark) (knows : List ℕ) (t : Taken) → later_take log t ≡ None → mark.lba ≡ t.mark.lba
    → t.entry.position < entry.position
    → later_take (log ++ record { event = Decides (Take entry mark); knows = knows } ∷ []) t ≡ Some (record { entry = entry; mark = mark })
later_of_sector log entry mark knows t none same after =
    ap (find (λ (u : Taken). nat_lt t.entry.position u.entry.position && (u.mark.lba == t.mark.lba)))
    (takes_more log (record { event = Decides (Take entry mark); knows = knows }))
    ∙ find_last (λ (u : Taken). nat_lt t.entry.position u.entry.position && (u.mark.lba == t.mark.lba)) (takes log) (record { entry = entry; mark = mark }) true
    (ap₂ (λ a b. a && b) (lt_true t.entry.position entry.position after) (ap (λ n. n == t.mark.lba) same ∙ same_number t.mark.lba)) none

-- none is later than the last that was taken

pub none_is_later : (log : List Logged) (t : Taken) → AreNumbered log → taken log ≤ t.entry.position + 1 → later_take log t ≡ None
none_is_later log t numbered last =
    find_none (λ (u : Taken). nat_lt t.entry.position u.entry.position && (u.mark.lba == t.mark.lba)) (takes log)
    (all_imply (λ (u : Taken). u.entry.position < taken log) (λ (u : Taken). (nat_lt t.entry.position u.entry.position && (u.mark.lba == t.mark.lba)) ≡ false)
    (λ u below. ap (λ b. b && (u.mark.lba == t.mark.lba)) (not_below u.entry.position t.entry.position (omega arith))) (takes log)
    (numbered_below (first_position log) (length (takes log)) (takes log) numbered))

-- ---- the line of the stripe

-- the same stripes are placed, and the same ones are lost
pub line_same : (s : Shape) (log new : List Logged) → placements new ≡ placements log → ((p : Placed) → was_lost new p ≡ was_lost log p) → (q : ℕ)
    → placed_line s new q ≡ placed_line s log q
line_same s log new placed losses q =
    ap (λ ps. option_map (λ (p : Placed). p.stripe.line) (find (λ (p : Placed). holds_position s q p && not (was_lost new p)) ps)) placed
    ∙ ap (option_map (λ (p : Placed). p.stripe.line))
    (find_same (λ (p : Placed). holds_position s q p && not (was_lost new p)) (λ (p : Placed). holds_position s q p && not (was_lost log p))
    (λ p. ap (λ b. holds_position s q p && not b) (losses p)) (placements log))

abbrev IsFor : Shape → List Logged → ℕ → Placed → Bool
IsFor s log q p = holds_position s q p && not (was_lost log p)

-- a stripe is placed: the others are lost or not as they were
others_now : (s : Shape) (log : List Logged) (stripe : Stripe) (knows : List ℕ) (o : Opening) (q : ℕ) → IsPlacing log stripe o
    → find (IsFor s (with_place log stripe knows) q) (placements log) ≡ find (IsFor s log q) (placements log)
others_now s log stripe knows o q is =
    find_agree (λ (p : Placed). p.number < length log) (IsFor s (with_place log stripe knows) q) (IsFor s log q)
    (λ p before. ap (λ a. holds_position s q p && not (is_loss a)) (answer_now log stripe knows o p is.opened (le_of_lt before))) (placements log)
    (placements_before log)

pub line_of_others : (s : Shape) (log : List Logged) (stripe : Stripe) (knows : List ℕ) (o : Opening) (q : ℕ) → IsPlacing log stripe o
    → list_any (bears_position s q) stripe.blocks ≡ false
    → placed_line s (with_place log stripe knows) q ≡ placed_line s log q
line_of_others s log stripe knows o q is not_held =
    let new : List Logged = with_place log stripe knows in
    ap (λ ps. option_map (λ (p : Placed). p.stripe.line) (find (IsFor s new q) ps)) (placements_now log stripe knows o is.opened)
    ∙ ap (option_map (λ (p : Placed). p.stripe.line))
    (find_fails_last (IsFor s new q) (placements log) (new_placed log stripe o)
    (not_first (holds_position s q (new_placed log stripe o)) (not (was_lost new (new_placed log stripe o))) not_held)
    ∙ others_now s log stripe knows o q is)

pub line_of_stripe : (s : Shape) (log : List Logged) (stripe : Stripe) (knows : List ℕ) (o : Opening) (q : ℕ) → IsPlacing log stripe o
    → placed_line s log q ≡ None → list_any (bears_position s q) stripe.blocks ≡ true
    → placed_line s (with_place log stripe knows) q ≡ Some stripe.line
line_of_stripe s log stripe knows o q is none held =
    let new : List Logged = with_place log stripe knows in
    ap (λ ps. option_map (λ (p : Placed). p.stripe.line) (find (IsFor s new q) ps)) (placements_now log stripe knows o is.opened)
    ∙ ap (option_map (λ (p : Placed). p.stripe.line))
    (find_last (IsFor s new q) (placements log) (new_placed log stripe o) true
    (ap₂ (λ a b. a && not b) held (ap is_loss (new_unanswered log stripe knows o is)))
    (others_now s log stripe knows o q is ∙ none_of_map (λ (p : Placed). p.stripe.line) (find (IsFor s log q) (placements log)) none))

-- ---- the stripe that wasn't lost

pub found_any : {X : Type 0} (test : X → Bool) (xs : List X) → is_some (find test xs) ≡ list_any test xs
found_any test [] = refl
found_any {X} test (x ∷ xs) = go (test x) (found_any test xs)
  where
    go : (b : Bool) → is_some (find test xs) ≡ list_any test xs → is_some (cond b (Some x) (find test xs)) ≡ (b || list_any test xs)
    go true rest = refl
    go false rest = rest

-- an entry that waits is in no line
pub line_of_waiting : (s : Shape) (log : List Logged) (t : Taken) → waits s log t ≡ true → placed_line s log t.entry.position ≡ None
line_of_waiting s log t wait = ap (option_map (λ (p : Placed). p.stripe.line))
    (find_none (IsFor s log t.entry.position) (placements log)
    (all_imply (λ (p : Placed). holds_position s t.entry.position p ≡ true → was_lost log p ≡ true)
    (λ (p : Placed). IsFor s log t.entry.position p ≡ false) (λ p lost. by (holds_position s t.entry.position p) (was_lost log p) lost) (placements log)
    (holders_lost s log t wait)))
  where
    by : (a b : Bool) → (a ≡ true → b ≡ true) → (a && not b) ≡ false
    by true b lost = ap not (lost refl)
    by false b lost = refl

-- one that a stripe holds which wasn't lost is in its line
pub line_of_holder : (s : Shape) (log : List Logged) (q : ℕ) (p : Placed) → HeldOnce s log → IsAmong (placements log) p → holds_position s q p ≡ true
    → was_lost log p ≡ false → placed_line s log q ≡ Some p.stripe.line
line_of_holder s log q p once among holds kept = go (find (IsFor s log q) (placements log)) refl
  where
    passes : IsFor s log q p ≡ true
    passes = ap₂ (λ a b. a && not b) holds kept

    go : (o : Option Placed) → find (IsFor s log q) (placements log) ≡ o → option_map (λ (r : Placed). r.stripe.line) o ≡ Some p.stripe.line
    go None e = absurd (not_both (list_any (IsFor s log q) (placements log)) (any_member (IsFor s log q) (placements log) among.0 p among.1 passes)
        (sym (found_any (IsFor s log q) (placements log)) ∙ ap is_some e))
    go (Some r) e =
        let found = found_passes (IsFor s log q) (placements log) r e in
        let same : r ≡ p = once q r p found.1 among (first_of (holds_position s q r) (not (was_lost log r)) found.0) holds
        (not_true (was_lost log r) (second_of (holds_position s q r) (not (was_lost log r)) found.0)) kept in
        ap (λ (x : Placed). Some x.stripe.line) same

-- ---- where nothing was lost
