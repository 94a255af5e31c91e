-- Which events leave the window and the map as they were.
use Rattle.std.proofs.Common.{◌≡◌, ℕ, ◌<◌, ◌≤◌, true, Some, None, Option, List, [], ◌∷◌, ◌++◌, length, refl, sym, ap, ap₂, ◌∙◌, arith, append-nil}
use Rattle.std.specs.Prelude.{slice_get}
use Rattle.std.specs.Option.{option_to_list}
use Rattle.std.proofs.lemmas.Option.{slice_get_past}
use Rattle.pblk_model.specs.declared.shape.Shape.{Shape}
use Rattle.pblk_model.specs.Image.{Image}
use Rattle.pblk_model.specs.StartRecord.{StartRecord}
use Rattle.pblk_model.specs.Contents.{least_missing}
use Rattle.pblk_world.specs.Events.{EngineEvent, Stripe, Open, Place, Again, ResetDone, Decides, Logged}
use Rattle.pblk_world.specs.World.{World, Logs, log_of}
use Rattle.pblk_world.specs.EngineLog.{begun_by, Opened, life_of, Opening, takes, taken_by, Placed, placed_by, placements, placed_on, answers, answer_by, answer_of}
use Rattle.pblk_world.specs.Fronts.{first_position}
use Rattle.pblk_world.specs.Legal.{IsLegal}
use Rattle.pblk_world.specs.Placing.{MayPlace}
use Rattle.pblk_world.specs.Space.{freed}
use Rattle.pblk_world.proofs.Appending.{placements_more}
use Rattle.pblk_world.proofs.Answered.{answers_fit}
use Rattle.core_laws.specs.Stepping.{after}
use Rattle.core_laws.specs.SlotOf.{slot_of}
use Rattle.core_laws.specs.WindowOf.{is_given_back, window_from}
use Rattle.core_laws.proofs.Engine.{placements_before}
use Rattle.core_laws.proofs.Steady.{AreAlike, answer_same}
use Rattle.core_laws.proofs.Placing.{with_place, new_placed, placements_now, placed_on_now, answers_now, answer_now}
use Rattle.core_laws.proofs.UnitTurns.{turn_at}
use Rattle.core_laws.proofs.Untouched.{AreKept, given_kept, window_kept}
use Rattle.core_laws.proofs.KeptSlots.{first_kept, slot_kept}
use Rattle.pblk_model.proofs.Lists.{all_imply, all_of}
use Rattle.pblk_model.proofs.Numbers.{fun_same}
use Rattle.pblk_model.proofs.Parts.{get_last}
use Rattle.pblk_model.proofs.Tests.{same_number}
use Rattle.pblk_world.proofs.EngineLogLemmas.{answers_more, takes_more}

-- the event neither begins, takes, places nor answers
pub record IsQuiet (log : List Logged) (e : EngineEvent) (knows : List ℕ) : Type 0 where
  pub begins : begun_by knows (Decides e) ≡ None
  pub takes : taken_by (Decides e) ≡ None
  pub places : placed_by log (length log) (Decides e) ≡ None
  pub answers : (unit : ℕ) → answer_by unit (Decides e) ≡ None

no_more : {X : Type 0} (xs : List X) (o : Option X) → o ≡ None → xs ++ option_to_list o ≡ xs
no_more xs o none = ap (λ o. xs ++ option_to_list o) none ∙ append-nil xs

pub quiet_alike : (log : List Logged) (e : EngineEvent) (knows : List ℕ) → IsQuiet log e knows
    → AreAlike log (log ++ record { event = Decides e; knows = knows } ∷ [])
quiet_alike log e knows quiet =
    let l : Logged = record { event = Decides e; knows = knows } in
    record {
      placements = placements_more log l ∙ no_more (placements log) (placed_by log (length log) (Decides e)) quiet.places;
      answers = fun_same (answers (log ++ l ∷ [])) (answers log)
          (λ unit. answers_more log l unit ∙ no_more (answers log unit) (answer_by unit (Decides e)) (quiet.answers unit));
    }

pub alike_kept : (log new : List Logged) → AreAlike log new → AreKept log new
alike_kept log new same = record {
  more = [];
  stripes = same.placements ∙ sym (append-nil (placements log));
  answered = all_of (λ (r : Placed). answer_of new r ≡ answer_of log r) (answer_same log new same) (placements log);
  none = tt;
}

pub quiet_window : (s : Shape) (logs : Logs) (e : EngineEvent) (knows : List ℕ) (from : ℕ) → IsQuiet (logs 0) e knows
    → window_from s (after logs e knows 0) from ≡ window_from s (logs 0) from
quiet_window s logs e knows from quiet =
    let l : Logged = record { event = Decides e; knows = knows } in
    window_kept s (logs 0) (after logs e knows 0) from (alike_kept (logs 0) (after logs e knows 0) (quiet_alike (logs 0) e knows quiet))
    (takes_more (logs 0) l ∙ no_more (takes (logs 0)) (taken_by (Decides e)) quiet.takes) (first_kept (logs 0) e knows quiet.begins)

pub quiet_slot : (i : Image) (logs : Logs) (e : EngineEvent) (knows : List ℕ) (lba : ℕ) → IsQuiet (logs 0) e knows
    → slot_of i (after logs e knows) lba ≡ slot_of i logs lba
quiet_slot i logs e knows lba quiet =
    let l : Logged = record { event = Decides e; knows = knows } in
    slot_kept i logs e knows lba (alike_kept (logs 0) (after logs e knows 0) (quiet_alike (logs 0) e knows quiet))
    (takes_more (logs 0) l ∙ no_more (takes (logs 0)) (taken_by (Decides e)) quiet.takes) quiet.begins

pub quiet_takes : (log : List Logged) (e : EngineEvent) (knows : List ℕ) → IsQuiet log e knows
    → takes (log ++ record { event = Decides e; knows = knows } ∷ []) ≡ takes log
quiet_takes log e knows quiet =
    takes_more log (record { event = Decides e; knows = knows }) ∙ no_more (takes log) (taken_by (Decides e)) quiet.takes

-- the fronts freed and synced stay
pub quiet_freed : (s : Shape) (log : List Logged) (e : EngineEvent) (knows : List ℕ) → IsQuiet log e knows
    → freed s (log ++ record { event = Decides e; knows = knows } ∷ []) ≡ freed s log
quiet_freed s log e knows quiet =
    let new : List Logged = log ++ record { event = Decides e; knows = knows } ∷ [] in
    let given : is_given_back s new ≡ is_given_back s log = fun_same (is_given_back s new) (is_given_back s log)
    (given_kept s log new (alike_kept log new (quiet_alike log e knows quiet))) in
    let same : takes new ≡ takes log = quiet_takes log e knows quiet in
    let first : first_position new ≡ first_position log = first_kept log e knows quiet.begins in
    λ k. least_missing (given k) (length (same k)) (first k)

pub open_is_quiet : (log : List Logged) (line : ℕ) (start : StartRecord) (knows : List ℕ) → IsQuiet log (Open line start) knows
open_is_quiet log line start knows = record { begins = refl; takes = refl; places = refl; answers = λ unit. refl }

pub reset_is_quiet : (log : List Logged) (unit event : ℕ) (knows : List ℕ) → IsQuiet log (ResetDone unit event) knows
reset_is_quiet log unit event knows = record { begins = refl; takes = refl; places = refl; answers = λ unit. refl }

pub stop_is_quiet : (log : List Logged) (unit event : ℕ) (knows : List ℕ) → IsQuiet log (Again unit event) knows
stop_is_quiet log unit event knows = record { begins = refl; takes = refl; places = refl; answers = λ unit. refl }

-- ---- a stripe is placed

new_none : (log : List Logged) (stripe : Stripe) (knows : List ℕ) (o : Opening) → life_of log stripe.line ≡ Opened o
    → length (answers log stripe.unit) ≤ length (placed_on log stripe.unit)
    → answer_of (with_place log stripe knows) (new_placed log stripe o) ≡ None
new_none log stripe knows o opened fit =
    let there : slice_get (placed_on (with_place log stripe knows) stripe.unit) (length (placed_on log stripe.unit)) ≡ Some (new_placed log stripe o) =
    ap (λ (ps : List Placed). slice_get ps (length (placed_on log stripe.unit)))
    (placed_on_now log stripe knows o stripe.unit true opened (same_number stripe.unit))
    ∙ get_last (placed_on log stripe.unit) (new_placed log stripe o) in
    let at = turn_at (with_place log stripe knows) stripe.unit (length (placed_on log stripe.unit)) (new_placed log stripe o) there in
    ap₂ (λ xs n. slice_get xs n) (answers_now log stripe knows stripe.unit) at.1
    ∙ slice_get_past (answers log stripe.unit) (length (placed_on log stripe.unit)) fit

pub place_kept : (log : List Logged) (stripe : Stripe) (knows : List ℕ) (o : Opening) → life_of log stripe.line ≡ Opened o
    → length (answers log stripe.unit) ≤ length (placed_on log stripe.unit)
    → AreKept log (with_place log stripe knows)
place_kept log stripe knows o opened fit = record {
  more = new_placed log stripe o ∷ [];
  stripes = placements_now log stripe knows o opened;
  answered = all_imply (λ (r : Placed). r.number < length log) (λ (r : Placed). answer_of (with_place log stripe knows) r ≡ answer_of log r)
      (λ r before. answer_now log stripe knows o r opened (omega arith)) (placements log) (placements_before log);
  none = (new_none log stripe knows o opened fit, tt);
}

pub place_window : (i : Image) (known : Logs) (w : World) (stripe : Stripe) (knows : List ℕ) (from : ℕ) → IsLegal i w → known 0 ≡ log_of w 0
    → MayPlace i known stripe
    → window_from i.shape (after (log_of w) (Place stripe) knows 0) from ≡ window_from i.shape (log_of w 0) from
place_window i known w stripe knows from legal own may =
    let l : Logged = record { event = Decides (Place stripe); knows = knows } in
    window_kept i.shape (log_of w 0) (after (log_of w) (Place stripe) knows 0) from
    (place_kept (log_of w 0) stripe knows may.opening (ap (λ log. life_of log stripe.line) (sym own) ∙ may.is_open) (answers_fit i w stripe.unit legal))
    (takes_more (log_of w 0) l ∙ append-nil (takes (log_of w 0))) (first_kept (log_of w 0) (Place stripe) knows refl)

pub place_slot : (i : Image) (known : Logs) (w : World) (stripe : Stripe) (knows : List ℕ) (lba : ℕ) → IsLegal i w → known 0 ≡ log_of w 0
    → MayPlace i known stripe
    → slot_of i (after (log_of w) (Place stripe) knows) lba ≡ slot_of i (log_of w) lba
place_slot i known w stripe knows lba legal own may =
    let l : Logged = record { event = Decides (Place stripe); knows = knows } in
    slot_kept i (log_of w) (Place stripe) knows lba
    (place_kept (log_of w 0) stripe knows may.opening (ap (λ log. life_of log stripe.line) (sym own) ∙ may.is_open) (answers_fit i w stripe.unit legal))
    (takes_more (log_of w 0) l ∙ append-nil (takes (log_of w 0))) refl
