-- What the laws of this crate are proved by.
use Rattle.std.specs.Prelude.{◌↔◌, is_some, slice_get}
use Rattle.std.proofs.lemmas.Option.{same_Some, slice_get_past, slice_get_within}
use Rattle.std.proofs.Common.{◌≡◌, ◌≢◌, ℕ, ◌+◌, ◌-◌, ◌^◌, ◌<◌, ◌≤◌, zero, suc, min, length, if◌then◌else◌, true, false, Some, List, [], ◌∷◌, ◌++◌, sym, ap, ◌∙◌, arith, append-nil, append_assoc}
use Rattle.std.specs.Option.{option_to_list}
use Rattle.pblk_model.specs.Accepted.{IsAccepted}
use Rattle.pblk_model.specs.Image.{Image, IsFit}
use Rattle.pblk_world.specs.EngineLog.{Placed, answers, is_answered, placed_by, placed_on, placements, turn}
use Rattle.pblk_world.specs.Events.{Logged}
use Rattle.pblk_world.proofs.Appending.{placements_more}
use Rattle.pblk_world.specs.World.{World, log_of}
use Rattle.pblk_world.specs.Legal.{IsLegal}
use Rattle.pblk_world.specs.Lines.{known_image, are_empty, is_given_up}
use Rattle.core_laws.specs.PlacerOf.{positions_in_stripe, unanswered_on}
use Rattle.core_laws.proofs.Answered.{first_unanswered}
use Rattle.core_laws.proofs.Engine.{placements_before}
use Rattle.core_laws.proofs.Growing.{turn_grown}
use Rattle.core_laws.proofs.OneStripe.{one_stripe}
use Rattle.core_laws.proofs.UnitTurns.{stands_at_turn}
use Rattle.pblk_model.proofs.Lists.{IsAmong}
use Rattle.pblk_model.proofs.Parts.{all_at, get_more}
use Rattle.line_table.proofs.Places.{eqb-same}
use Rattle.pblk_world.specs.LegalMounts.{IsLegalMount}
use Rattle.pblk_core.specs.Losing.{HasItsEntries}
use Rattle.pblk_core.specs.Stands.{Stands, answer_count, turn_told}
use Rattle.pblk_core.specs.declared.target_core.Core.{Core}
use Rattle.pblk_core.specs.Resets.{used_units, units_to_reset, resets_of}
use Rattle.pblk_core.proofs.FirstReset.{none_of_any}
use Rattle.pblk_core.proofs.LandedCore.{of_core, positions_are}
use Rattle.pblk_core.proofs.LineBits.{known_count}
use Rattle.pblk_core.proofs.ResetUnits.{unused_empty}

not_empty : {X : Type 0} (xs : List X) (x : X) → xs ++ x ∷ [] ≢ []
not_empty [] x e = absurd cc
not_empty (y ∷ xs) x e = absurd cc

pub no_events : (i : Image) (w : World) → IsAccepted i.shape → IsFit i → ((author : ℕ) → log_of w author ≡ []) → IsLegalMount i w
unfolding IsLegal
no_events i [] accepted fit none = record { accepted = accepted; fit = fit; legal = tt }
no_events i (s ∷ w) accepted fit none =
    absurd (not_empty (log_of w s.author) s.logged
    (sym (ap (λ b. if b then log_of w s.author ++ s.logged ∷ [] else log_of w s.author) (eqb-same s.author)) ∙ none s.author))

pub reset_empty : (i : Image) (w : World) (line : ℕ) → IsLegalMount i w → resets_of i (log_of w) ≡ [] → line < i.shape.chunks
    → is_given_up (log_of w 0) line ≡ true → are_empty (known_image i (log_of w)) line ≡ true
reset_empty i w line mount none inside given =
    unused_empty (known_image i (log_of w)) line (known_count i w (log_of w) mount)
    (ap (λ b. if b then used_units (known_image i (log_of w)) line else []) (sym given)
    ∙ none_of_any (units_to_reset i (log_of w)) 0 i.shape.chunks line none (omega arith) (omega arith))

past_none : {X : Type 0} (xs : List X) (k : ℕ) → is_some (slice_get xs k) ≡ false → length xs ≤ k
past_none [] k none = omega arith
past_none (x ∷ xs) zero none = absurd cc
past_none (x ∷ xs) (suc k) none = let less : length xs ≤ k = past_none xs k none in omega arith

-- the stripe's place among its unit's is its turn, and at most one of these is beyond the answers
pub waits_by_turn : (i : Image) (w : World) (p : Placed) → IsLegalMount i w → IsAmong (placements (log_of w 0)) p
    → (is_answered (log_of w 0) p ≡ false) ↔ (turn (log_of w 0) p ≡ length (answers (log_of w 0) p.stripe.unit))
waits_by_turn i w p mount among = (last, waits)
  where
    last : is_answered (log_of w 0) p ≡ false → turn (log_of w 0) p ≡ length (answers (log_of w 0) p.stripe.unit)
    last none =
        let within : turn (log_of w 0) p < length (placed_on (log_of w 0) p.stripe.unit) =
        slice_get_within (placed_on (log_of w 0) p.stripe.unit) (turn (log_of w 0) p) p (stands_at_turn (log_of w 0) p among) in
        let few : length (placed_on (log_of w 0) p.stripe.unit) ≤ length (answers (log_of w 0) p.stripe.unit) + 1 =
        one_stripe i w p.stripe.unit mount.legal in
        let beyond : length (answers (log_of w 0) p.stripe.unit) ≤ turn (log_of w 0) p =
        past_none (answers (log_of w 0) p.stripe.unit) (turn (log_of w 0) p) none in
        omega arith

    waits : turn (log_of w 0) p ≡ length (answers (log_of w 0) p.stripe.unit) → is_answered (log_of w 0) p ≡ false
    waits same = ap is_some (slice_get_past (answers (log_of w 0) p.stripe.unit) (turn (log_of w 0) p) (omega arith))

-- ---- turns

-- it stands at its turn among the stripes of its unit
pub waits_at_turn : (i : Image) (w : World) (k : ℕ) (p : Placed) → IsLegalMount i w → slice_get (placements (log_of w 0)) k ≡ Some p
    → turn_told (log_of w 0) p ≡ answer_count (log_of w 0) p.stripe.unit → turn_told (log_of w 0) p < 2 ^ 64 - 1
    → unanswered_on (log_of w 0) p.stripe.unit ≡ Some p
waits_at_turn i w k p mount there same below =
    let turns : turn (log_of w 0) p ≡ length (answers (log_of w 0) p.stripe.unit) = omega (arith, same, below) in
    ap (slice_get (placed_on (log_of w 0) p.stripe.unit)) (sym turns) ∙ stands_at_turn (log_of w 0) p (k, there)

pub turn_is_next : (log : List Logged) (unit : ℕ) (p : Placed) → unanswered_on log unit ≡ Some p → turn_told log p ≡ answer_count log unit
turn_is_next log unit p waits = ap (λ n. min n (2 ^ 64 - 1)) (first_unanswered log unit p waits).turn_is

-- one event more, and then any number of them
stays_once : (log : List Logged) (l : Logged) (k : ℕ) (p : Placed) → slice_get (placements log) k ≡ Some p
    → (slice_get (placements (log ++ l ∷ [])) k ≡ Some p) × (turn_told (log ++ l ∷ []) p ≡ turn_told log p)
stays_once log l k p there = (
  ap (λ (ps : List Placed). slice_get ps k) (placements_more log l)
      ∙ get_more (placements log) (option_to_list (placed_by log (length log) l.event)) k p there,
  ap (λ n. min n (2 ^ 64 - 1)) (turn_grown log l p (all_at (λ (q : Placed). q.number < length log) (placements log) k p there (placements_before log))),
)

pub turn_stays : (log more : List Logged) (k : ℕ) (p : Placed) → slice_get (placements log) k ≡ Some p
    → (slice_get (placements (log ++ more)) k ≡ Some p) × (turn_told (log ++ more) p ≡ turn_told log p)
turn_stays log [] k p there = (
  ap (λ (xs : List Logged). slice_get (placements xs) k) (append-nil log) ∙ there,
  ap (λ (xs : List Logged). turn_told xs p) (append-nil log),
)
turn_stays log (l ∷ more) k p there =
    let once = stays_once log l k p there in
    let later = turn_stays (log ++ l ∷ []) more k p once.0 in
    let same : (log ++ l ∷ []) ++ more ≡ log ++ l ∷ more = append_assoc log (l ∷ []) more in (
      ap (λ (xs : List Logged). slice_get (placements xs) k) (sym same) ∙ later.0,
      ap (λ (xs : List Logged). turn_told xs p) (sym same) ∙ later.1 ∙ once.1,
    )

pub its_entries : (i : Image) (w : World) (c : Core) (p : Placed) → IsLegalMount i w → Stands i (log_of w) c
    → unanswered_on (log_of w 0) p.stripe.unit ≡ Some p → HasItsEntries c p.stripe
its_entries i w c p mount st waits of there =
    let its = of_core i w c p.stripe.unit of mount st there in
    let same : its.is.row.stripe ≡ p = same_Some its.is.row.stripe p (sym its.is.row.waits ∙ waits) in
    ap (λ s. positions_in_stripe s p.stripe) st.layout
    ∙ ap (λ (q : Placed). positions_in_stripe i.shape q.stripe) (sym same)
    ∙ sym (positions_are i w p.stripe.unit of its.is)
