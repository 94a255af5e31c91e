-- The front freed.
use Rattle.std.proofs.Common.{◌≡◌, ◌⊎◌, inl, inr, ℕ, ◌+◌, ◌<◌, ◌≤◌, ◌==◌, true, false, Some, None, List, [], ◌∷◌, ◌++◌, length, refl, sym, subst, ap, ◌∙◌, arith, append-nil}
use Rattle.std.specs.List.{AllByRecursion}
use Rattle.std.proofs.lemmas.Bool.{cases_order}
use Rattle.pblk_model.specs.declared.shape.Shape.{Shape}
use Rattle.pblk_model.specs.Contents.{least_missing}
use Rattle.pblk_model.specs.Image.{Image}
use Rattle.pblk_world.specs.Events.{EngineEvent, Begin, Take, Open, Place, Landed, Lost, Again, ResetDone, Free, Decides, Logged}
use Rattle.pblk_world.specs.World.{World, Logs, log_of}
use Rattle.pblk_world.specs.EngineLog.{Begun, begun_by, Opened, life_of, Opening, takes, Placed, placements, placed_on, answers}
use Rattle.pblk_world.specs.Fronts.{first_position, taken}
use Rattle.pblk_world.specs.Space.{freed}
use Rattle.pblk_world.specs.Legal.{IsLegal, IsDecision}
use Rattle.pblk_world.proofs.Appending.{placements_more}
use Rattle.pblk_world.proofs.Answered.{answers_fit}
use Rattle.core_laws.specs.PlacerOf.{unanswered_on}
use Rattle.pblk_world.specs.LegalMounts.{IsLegalMount}
use Rattle.core_laws.specs.Stepping.{after}
use Rattle.core_laws.specs.WindowOf.{is_given_back}
use Rattle.core_laws.proofs.Placing.{new_placed, placements_now}
use Rattle.core_laws.proofs.Taking.{alike}
use Rattle.core_laws.specs.ChunkBlocks.{can_be_read, has_landed_in, AreInRows}
use Rattle.core_laws.proofs.KeptByEvents.{IsKept, kept}
use Rattle.core_laws.proofs.GivenLost.{given_lost}
use Rattle.core_laws.proofs.LostStripe.{one_lost}
use Rattle.core_laws.proofs.LeastPositions.{least_rises, least_below}
use Rattle.core_laws.proofs.LandedWindow.{given_back_landed}
use Rattle.core_laws.proofs.QuietEvents.{alike_kept, quiet_alike, open_is_quiet, reset_is_quiet, stop_is_quiet, place_kept}
use Rattle.core_laws.proofs.FreedLives.{free_is_quiet}
use Rattle.core_laws.proofs.KeptSlots.{first_kept}
use Rattle.core_laws.proofs.Untouched.{AreKept, given_kept}
use Rattle.pblk_model.proofs.Lists.{IsAmong, all_append, all_true}
use Rattle.pblk_model.proofs.Maps.{from_filter}
use Rattle.pblk_model.proofs.Parts.{all_at, got_within}
use Rattle.pblk_model.proofs.Tests.{no_both, or_left}
use Rattle.pblk_world.proofs.EngineLogLemmas.{takes_grow}
use Rattle.pblk_world.proofs.SyncedFront.{IsLeast, least}

-- ---- each stripe was placed in an opened line

abbrev IsOfOpening : Placed → Type 0
IsOfOpening p = (o : Opening) × (p.life ≡ Opened o)

opening_next : (i : Image) (known : Logs) (log : List Logged) (beginning : Begun) (e : EngineEvent) (knows : List ℕ) → known 0 ≡ log
    → IsDecision i known beginning e → AllByRecursion IsOfOpening (placements log)
    → AllByRecursion IsOfOpening (placements (log ++ record { event = Decides e; knows = knows } ∷ []))
opening_next i known log beginning (Place stripe) knows own may was =
    let opened : life_of log stripe.line ≡ Opened may.opening = ap (λ (xs : List Logged). life_of xs stripe.line) (sym own) ∙ may.is_open in
    subst (AllByRecursion IsOfOpening) (sym (placements_now log stripe knows may.opening opened))
    (all_append IsOfOpening (placements log) (new_placed log stripe may.opening ∷ []) was ((may.opening, refl), tt))
opening_next i known log beginning e knows own may was =
    let l : Logged = record { event = Decides e; knows = knows } in
    subst (AllByRecursion IsOfOpening) (sym (placements_more log l ∙ append-nil (placements log))) was

opening_kept : (i : Image) → IsKept i (λ e. true) (λ log. AllByRecursion IsOfOpening (placements log))
opening_kept i = record {
  empty = tt;
  first = λ known b knows may. tt;
  next = λ known log beginning e knows begins own passes may was. opening_next i known log beginning e knows own may was;
}

pub its_opening : (i : Image) (w : World) (unit : ℕ) (p : Placed) → IsLegal i w → unanswered_on (log_of w 0) unit ≡ Some p → (o : Opening) × (p.life ≡ Opened o)
its_opening i w unit p legal waits =
    let among : IsAmong (placements (log_of w 0)) p =
    from_filter (λ (r : Placed). r.stripe.unit == unit) (placements (log_of w 0)) p (length (answers (log_of w 0) unit), waits) in
    all_at IsOfOpening (placements (log_of w 0)) among.0 p among.1
    (kept i (λ e. true) (λ log. AllByRecursion IsOfOpening (placements log)) (opening_kept i) w legal (all_true (log_of w 0)))

-- ---- the front

-- where what is given back stays so, the front doesn't fall
freed_by : (s : Shape) (log new : List Logged) → first_position new ≡ first_position log → length (takes log) ≤ length (takes new)
    → ((q : ℕ) → is_given_back s log q ≡ true → is_given_back s new q ≡ true) → freed s log ≤ freed s new
freed_by s log new first more keeps =
    subst (λ n. freed s log ≤ least_missing (is_given_back s new) (length (takes new)) n) (sym first)
    (least_rises (is_given_back s log) (is_given_back s new) (length (takes log)) (length (takes new)) (first_position log) keeps more)

by_kept : (s : Shape) (log : List Logged) (e : EngineEvent) (knows : List ℕ) → begun_by knows (Decides e) ≡ None
    → AreKept log (log ++ record { event = Decides e; knows = knows } ∷ []) → freed s log ≤ freed s (log ++ record { event = Decides e; knows = knows } ∷ [])
by_kept s log e knows none kept =
    let l : Logged = record { event = Decides e; knows = knows } in
    freed_by s log (log ++ l ∷ []) (first_kept log e knows none) (takes_grow log l) (λ q f. given_kept s log (log ++ l ∷ []) kept q ∙ f)

pub freed_rises : (i : Image) (known : Logs) (w : World) (beginning : Begun) (e : EngineEvent) (knows : List ℕ) → IsLegalMount i w
    → ((o : Opening) (unit : ℕ) → AreInRows i.shape (log_of w 0) o unit)
    → known 0 ≡ log_of w 0 → IsDecision i known beginning e
    → freed i.shape (log_of w 0) ≤ freed i.shape (after (log_of w) e knows 0)
freed_rises i known w beginning (Begin b) knows mount rows own may = absurd may
freed_rises i known w beginning (Take entry mark) knows mount rows own may =
    by_kept i.shape (log_of w 0) (Take entry mark) knows refl
    (alike_kept (log_of w 0) (after (log_of w) (Take entry mark) knows 0) (alike (log_of w 0) entry mark knows))
freed_rises i known w beginning (Open line start) knows mount rows own may =
    by_kept i.shape (log_of w 0) (Open line start) knows refl
    (alike_kept (log_of w 0) (after (log_of w) (Open line start) knows 0)
    (quiet_alike (log_of w 0) (Open line start) knows (open_is_quiet (log_of w 0) line start knows)))
freed_rises i known w beginning (Place stripe) knows mount rows own may = by_kept i.shape (log_of w 0) (Place stripe) knows refl
    (place_kept (log_of w 0) stripe knows may.opening (ap (λ log. life_of log stripe.line) (sym own) ∙ may.is_open)
    (answers_fit i w stripe.unit mount.legal))
freed_rises i known w beginning (Landed unit event) knows mount rows own may =
    let inside : length (answers (log_of w 0) unit) < length (placed_on (log_of w 0) unit) =
    subst (λ (xs : List Logged). length (answers xs unit) < length (placed_on xs unit)) own may.stripe.placed in
    let waits : (p : Placed) × (unanswered_on (log_of w 0) unit ≡ Some p) =
    got_within (placed_on (log_of w 0) unit) (length (answers (log_of w 0) unit)) inside in
    let its : (o : Opening) × (waits.0.life ≡ Opened o) = its_opening i w unit waits.0 mount.legal waits.1 in
    let l : Logged = record { event = Decides (Landed unit event); knows = knows } in
    freed_by i.shape (log_of w 0) (after (log_of w) (Landed unit event) knows 0) (first_kept (log_of w 0) (Landed unit event) knows refl)
    (takes_grow (log_of w 0) l)
    (λ q f. given_back_landed i w unit event knows waits.0 its.0 q mount waits.1 its.1 (rows its.0 unit)
    ∙ or_left (is_given_back i.shape (log_of w 0) q) (can_be_read i.shape (after (log_of w) (Landed unit event) knows 0) its.0 unit q) f)
freed_rises i known w beginning (Lost unit event) knows mount rows own may =
    let inside : length (answers (log_of w 0) unit) < length (placed_on (log_of w 0) unit) =
    subst (λ (xs : List Logged). length (answers xs unit) < length (placed_on xs unit)) own may.stripe.placed in
    let waits : (p : Placed) × (unanswered_on (log_of w 0) unit ≡ Some p) =
    got_within (placed_on (log_of w 0) unit) (length (answers (log_of w 0) unit)) inside in
    let its : (o : Opening) × (waits.0.life ≡ Opened o) = its_opening i w unit waits.0 mount.legal waits.1 in
    let l : Logged = record { event = Decides (Lost unit event); knows = knows } in
    freed_by i.shape (log_of w 0) (after (log_of w) (Lost unit event) knows 0) (first_kept (log_of w 0) (Lost unit event) knows refl)
    (takes_grow (log_of w 0) l)
    (λ q f. given_lost i.shape (log_of w 0) (after (log_of w) (Lost unit event) knows 0) waits.0 its.0 q
    (one_lost (log_of w 0) unit event knows waits.0 waits.1) its.1
    ∙ or_left (is_given_back i.shape (log_of w 0) q) (has_landed_in i.shape (log_of w 0) its.0 waits.0.stripe.unit q) f)
freed_rises i known w beginning (Again unit event) knows mount rows own may =
    by_kept i.shape (log_of w 0) (Again unit event) knows refl
    (alike_kept (log_of w 0) (after (log_of w) (Again unit event) knows 0)
    (quiet_alike (log_of w 0) (Again unit event) knows (stop_is_quiet (log_of w 0) unit event knows)))
freed_rises i known w beginning (ResetDone unit event) knows mount rows own may =
    by_kept i.shape (log_of w 0) (ResetDone unit event) knows refl
    (alike_kept (log_of w 0) (after (log_of w) (ResetDone unit event) knows 0)
    (quiet_alike (log_of w 0) (ResetDone unit event) knows (reset_is_quiet (log_of w 0) unit event knows)))
freed_rises i known w beginning (Free line) knows mount rows own may = by_kept i.shape (log_of w 0) (Free line) knows refl
    (alike_kept (log_of w 0) (after (log_of w) (Free line) knows 0) (quiet_alike (log_of w 0) (Free line) knows (free_is_quiet (log_of w 0) line knows)))

-- an entry at a front that is given back may leave the window
pub freed_past : (s : Shape) (log : List Logged) (from : ℕ) → from ≤ freed s log → from < taken log → is_given_back s log from ≡ true → from + 1 ≤ freed s log
freed_past s log from below inside given = go (cases_order from (freed s log)) (least (is_given_back s log) (length (takes log)) (first_position log))
  where
    go : (from ≡ freed s log) ⊎ ((from < freed s log) ⊎ (freed s log < from))
        → IsLeast (is_given_back s log) (length (takes log)) (first_position log) (freed s log) → from + 1 ≤ freed s log
    go (inl same) is = no_both (is_given_back s log from) given
        (ap (is_given_back s log) same ∙ is.missing (let here : from < first_position log + length (takes log) = inside in omega arith))
    go (inr (inl less)) is = omega arith
    go (inr (inr more)) is = absurd (omega arith)

-- and where it isn't, or none is left, the front is there
pub freed_here : (s : Shape) (log : List Logged) (from : ℕ) → first_position log ≤ from → from ≤ freed s log → is_given_back s log from ≡ false
    → freed s log ≡ from
freed_here s log from above below kept =
    let most : freed s log ≤ from = least_below (is_given_back s log) (length (takes log)) (first_position log) from above kept in
    omega arith

pub freed_taken : (s : Shape) (log : List Logged) → freed s log ≤ taken log
freed_taken s log = (least (is_given_back s log) (length (takes log)) (first_position log)).within
