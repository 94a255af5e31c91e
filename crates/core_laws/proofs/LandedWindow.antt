-- A stripe has landed: what the window holds.
use Rattle.std.proofs.Common.{◌≡◌, ℕ, ◌+◌, ◌-◌, ◌≤◌, ◌==◌, ◌||◌, nat_lt, Bool, true, false, Some, List, [], ◌∷◌, length, drop, refl, sym, subst, ap, ap₂, ◌∙◌, arith, append-nil, length-append}
use Rattle.std.specs.Prelude.{map}
use Rattle.std.specs.List.{filter}
use Rattle.pblk_model.specs.declared.shape.Shape.{Shape}
use Rattle.pblk_model.specs.Image.{Image}
use Rattle.pblk_world.specs.Events.{Landed, Decides, Logged}
use Rattle.pblk_world.specs.World.{World, log_of}
use Rattle.pblk_world.specs.EngineLog.{Opened, Opening, Taken, takes, Placed, placed_on, answers, DidLand, holds_position}
use Rattle.pblk_world.specs.Fronts.{first_position, has_landed_at, is_users}
use Rattle.write_window.specs.declared.held.Progress.{Progress}
use Rattle.core_laws.specs.PlacerOf.{unanswered_on}
use Rattle.pblk_world.specs.LegalMounts.{IsLegalMount}
use Rattle.core_laws.specs.WindowOf.{HeldSector, class_of, source_of, is_given_back, progress_by, held_of, users_below, window_from}
use Rattle.core_laws.proofs.Answered.{first_unanswered}
use Rattle.core_laws.specs.ChunkBlocks.{NoneLostIn, can_be_read, AreInRows}
use Rattle.core_laws.proofs.OverAnswered.{none_lost_there}
use Rattle.core_laws.specs.AdvancedEntries.{advanced, advanced_sector, advanced_window}
use Rattle.core_laws.proofs.LandedStripe.{with_landing, is_answer, one_more, landed_at_by}
use Rattle.core_laws.proofs.PlainStripes.{one_unanswered}
use Rattle.core_laws.proofs.GivenBack.{IsLandedNow}
use Rattle.core_laws.proofs.GivenNow.{given_now}
use Rattle.core_laws.proofs.Growing.{given_landed}
use Rattle.core_laws.proofs.KeptSlots.{first_kept}
use Rattle.core_laws.proofs.WindowOfLemmas.{same_window}
use Rattle.pblk_world.proofs.EngineLogLemmas.{takes_more}

-- the stripe that lands next on a unit
pub landed_now : (i : Image) (w : World) (unit event : ℕ) (knows : List ℕ) (p : Placed) (o : Opening) → IsLegalMount i w
    → unanswered_on (log_of w 0) unit ≡ Some p → p.life ≡ Opened o → AreInRows i.shape (log_of w 0) o unit
    → IsLandedNow i.shape (log_of w 0) (with_landing (log_of w 0) unit event knows) p o
landed_now i w unit event knows p o mount waits life rows =
    let log : List Logged = log_of w 0 in
    let new : List Logged = with_landing (log_of w 0) unit event knows in
    let its : p.stripe.unit ≡ unit = (first_unanswered (log_of w 0) unit p waits).of_unit in
    let more : length (answers new unit) ≡ length (answers log unit) + 1 = ap length (is_answer log unit event knows).here
    ∙ length-append (answers log unit) (DidLand event ∷ []) in
    let same : length (placed_on new unit) ≡ length (placed_on log unit) =
    ap (λ (ps : List Placed). length (filter (λ (r : Placed). r.stripe.unit == unit) ps)) (is_answer log unit event knows).placements in
    let one : length (placed_on log unit) ≤ length (answers log unit) + 1 = one_unanswered i w mount.legal unit in
    record {
      one_more = one_more log unit event knows p waits;
      life = life;
      unlost = subst (λ u. NoneLostIn (log_of w 0) o u) (sym its) (none_lost_there i w unit p o mount waits life);
      all_answered = subst (λ u. length (placed_on new u) ≤ length (answers new u)) (sym its) (omega arith);
      rows = subst (λ u. AreInRows i.shape (log_of w 0) o u) (sym its) rows;
      some = mount.accepted.drive.ws_opt;
    }

-- ---- the window

pub progress_now : (x y a b : Bool) → (y ≡ true → x ≡ true) → progress_by (x || a) (y || b) ≡ advanced a b (progress_by x y)
progress_now false false a b fits = refl
progress_now false true a b fits = let bad : false ≡ true = fits refl in absurd cc
progress_now true false a b fits = refl
progress_now true true a b fits = refl

held_now : (s : Shape) (log new : List Logged) (p : Placed) (o : Opening) (t : Taken) → IsLandedNow s log new p o
    → held_of s new t ≡ advanced_sector (λ q. holds_position s q p) (can_be_read s new o p.stripe.unit) (held_of s log t)
held_now s log new p o t is = ap (λ (progress : Progress). record {
  position = t.entry.position;
  class = class_of t.entry.source;
  lba = t.entry.lba;
  source = source_of t.entry.source;
  sector = t.entry.sector;
  progress = progress;
}) (ap₂ progress_by (landed_at_by s log new p t.entry.position is.one_more) (given_now s log new p o t.entry.position is)
    ∙ progress_now (has_landed_at s log t.entry.position) (is_given_back s log t.entry.position) (holds_position s t.entry.position p)
    (can_be_read s new o p.stripe.unit t.entry.position) (given_landed s log t.entry.position))

each_now : (s : Shape) (log new : List Logged) (p : Placed) (o : Opening) (ts : List Taken) → IsLandedNow s log new p o
    → map (held_of s new) ts ≡ map (advanced_sector (λ q. holds_position s q p) (can_be_read s new o p.stripe.unit)) (map (held_of s log) ts)
each_now s log new p o [] is = refl
each_now s log new p o (t ∷ ts) is = ap₂ (λ (h : HeldSector) hs. h ∷ hs) (held_now s log new p o t is) (each_now s log new p o ts is)

pub window_now : (s : Shape) (log new : List Logged) (p : Placed) (o : Opening) (from : ℕ) → IsLandedNow s log new p o → takes new ≡ takes log
    → first_position new ≡ first_position log
    → window_from s new from ≡ advanced_window (λ q. holds_position s q p) (can_be_read s new o p.stripe.unit) (window_from s log from)
window_now s log new p o from is same first = same_window from (users_below new from) (users_below log from)
    (map (held_of s new) (drop (from - first_position new) (takes new)))
    (map (advanced_sector (λ q. holds_position s q p) (can_be_read s new o p.stripe.unit)) (map (held_of s log) (drop (from - first_position log) (takes log))))
    (ap (λ (ts : List Taken). length (filter (λ (t : Taken). nat_lt t.entry.position from) (filter (λ (t : Taken). is_users t.entry.source) ts))) same)
    (ap₂ (λ n (ts : List Taken). map (held_of s new) (drop (from - n) ts)) first same
    ∙ each_now s log new p o (drop (from - first_position log) (takes log)) is)

-- ---- in a legal mount

pub window_landed : (i : Image) (w : World) (unit event : ℕ) (knows : List ℕ) (p : Placed) (o : Opening) (from : ℕ) → IsLegalMount i w
    → unanswered_on (log_of w 0) unit ≡ Some p → p.life ≡ Opened o → AreInRows i.shape (log_of w 0) o unit
    → window_from i.shape (with_landing (log_of w 0) unit event knows) from
    ≡ advanced_window (λ q. holds_position i.shape q p) (can_be_read i.shape (with_landing (log_of w 0) unit event knows) o unit)
    (window_from i.shape (log_of w 0) from)
window_landed i w unit event knows p o from mount waits life rows =
    let log : List Logged = log_of w 0 in
    let new : List Logged = with_landing (log_of w 0) unit event knows in
    let l : Logged = record { event = Decides (Landed unit event); knows = knows } in
    let its : p.stripe.unit ≡ unit = (first_unanswered (log_of w 0) unit p waits).of_unit in
    subst (λ u. window_from i.shape (with_landing (log_of w 0) unit event knows) from ≡ advanced_window (λ q. holds_position i.shape q p)
    (can_be_read i.shape (with_landing (log_of w 0) unit event knows) o u) (window_from i.shape (log_of w 0) from)) its
    (window_now i.shape log new p o from (landed_now i w unit event knows p o mount waits life rows) (takes_more log l ∙ append-nil (takes log))
    (first_kept log (Landed unit event) knows refl))

pub given_back_landed : (i : Image) (w : World) (unit event : ℕ) (knows : List ℕ) (p : Placed) (o : Opening) (q : ℕ) → IsLegalMount i w
    → unanswered_on (log_of w 0) unit ≡ Some p → p.life ≡ Opened o → AreInRows i.shape (log_of w 0) o unit
    → is_given_back i.shape (with_landing (log_of w 0) unit event knows) q ≡
    (is_given_back i.shape (log_of w 0) q || can_be_read i.shape (with_landing (log_of w 0) unit event knows) o unit q)
given_back_landed i w unit event knows p o q mount waits life rows =
    let log : List Logged = log_of w 0 in
    let new : List Logged = with_landing (log_of w 0) unit event knows in
    let its : p.stripe.unit ≡ unit = (first_unanswered (log_of w 0) unit p waits).of_unit in
    subst (λ u. is_given_back i.shape (with_landing (log_of w 0) unit event knows) q ≡
    (is_given_back i.shape (log_of w 0) q || can_be_read i.shape (with_landing (log_of w 0) unit event knows) o u q)) its
    (given_now i.shape log new p o q (landed_now i w unit event knows p o mount waits life rows))
