-- The stripes of an opened line are no more than the line has. The line of one that isn't answered
-- is Open, or Failed.
use Rattle.std.proofs.Common.{◌≡◌, ℕ, ◌+◌, ◌*◌, ◌/◌, ◌<◌, ◌≤◌, ◌&&◌, zero, suc, nat_le, Bool, true, false, Some, List, [], ◌∷◌, length, refl, sym, subst, ap, ap₂, ◌∙◌, arith, take_all, if◌then◌else◌, None, Option}
use Rattle.std.specs.Prelude.{slice_get}
use Rattle.std.specs.List.{list_all, find}
use Rattle.std.proofs.Math.Nat.{mul-le-mul_right, lt-div-mul-add}
use Rattle.std.proofs.lemmas.Option.{same_Some, none-some}
use Rattle.pblk_model.specs.LineOrder.{data_len}
use Rattle.pblk_model.specs.Image.{Image, line_units}
use Rattle.pblk_world.specs.World.{World, Logs, log_of}
use Rattle.pblk_world.specs.EngineLog.{Opened, is_life, life_of, Opening, Placed, placements, stripes_of, has_failed, has_landed, is_land, Answer, DidLand, WasLost, answer_of, is_loss, was_lost}
use Rattle.pblk_world.specs.Lines.{known_image}
use Rattle.pblk_world.specs.Starts.{have_landed}
use Rattle.pblk_world.specs.Placing.{line_end}
use Rattle.line_table.specs.declared.row.LineState.TheVariants as states
use Rattle.core_laws.specs.PlacerOf.{unanswered_on}
use Rattle.core_laws.specs.RowsOf.{state_in, row_of_line}
use Rattle.pblk_world.specs.LegalMounts.{IsLegalMount}
use Rattle.core_laws.specs.InOrder.{FitsItsLine}
use Rattle.pblk_model.specs.declared.shape.Shape.{Shape}
use Rattle.pblk_world.specs.Events.{Logged}
use Rattle.pblk_model.proofs.Options.{some_value}
use Rattle.pblk_model.proofs.Maps.{any_found, found_passes, in_filter}
use Rattle.pblk_model.proofs.Tests.{and_false, same_number}
use Rattle.core_laws.proofs.Answered.{IsFirst, first_unanswered}
use Rattle.core_laws.proofs.AnsweredUnits.{first_answer}
use Rattle.core_laws.proofs.Followed.{IsFollowed, follow}
use Rattle.core_laws.proofs.PartLengths.{IsStriped}
use Rattle.core_laws.proofs.PlainOpenings.{IsOpenedLine, opened_lines}
use Rattle.core_laws.proofs.StripesInOrder.{its_stripes}
use Rattle.core_laws.proofs.LineNumbers as numbers
use Rattle.pblk_model.proofs.Lists.{IsAmong}

pub has_room : (i : Image) (w : World) (line : ℕ) (o : Opening) → IsLegalMount i w → life_of (log_of w 0) line ≡ Opened o → FitsItsLine i.shape (log_of w 0) o
has_room i w line o mount opened =
    let us : ℕ → List ℕ = line_units (known_image i (log_of w)) in
    let is : IsFollowed i us w = follow i w mount in
    let well : IsOpenedLine i us line o = opened_lines i us w is line o opened in
    let striped : IsStriped i.shape (length (us line)) =
    its_stripes i us line o mount.accepted.drive.ws_opt mount.accepted.drive.whole_stripes well in
    let few : length (stripes_of (log_of w 0) o) ≤ length (us o.line) * (i.shape.clba / i.shape.ws_opt) =
    numbers.few_stripes i w mount o (ap (life_of (log_of w 0)) well.its_line ∙ opened) in
    let inside : length (stripes_of (log_of w 0) o) ≤ length (us line) * (i.shape.clba / i.shape.ws_opt) =
    subst (λ n. length (stripes_of (log_of w 0) o) ≤ length (us n) * (i.shape.clba / i.shape.ws_opt)) well.its_line few in
    let rows : length (stripes_of (log_of w 0) o) * i.shape.ws_opt ≤ length (us line) * (i.shape.clba / i.shape.ws_opt) * i.shape.ws_opt =
    mul-le-mul_right i.shape.ws_opt inside in
    let all : length (us line) * (i.shape.clba / i.shape.ws_opt) * i.shape.ws_opt ≡ length (us line) * i.shape.clba = striped.line_is in
    record {
      some = subst (λ g. 0 < data_len i.shape g) (sym well.width) well.has_data;
      within = subst (λ g. length (stripes_of (log_of w 0) o) * i.shape.ws_opt ≤ g * i.shape.clba) (sym well.width) (omega arith);
    }

-- ---- the state of the line of a stripe that isn't answered

all_fails : {X : Type 0} (f : X → Bool) (xs : List X) (k : ℕ) (x : X) → slice_get xs k ≡ Some x → f x ≡ false → list_all f xs ≡ false
all_fails f [] k x e fails = absurd (none-some x e)
all_fails f (y ∷ xs) zero x e fails = ap (λ b. b && list_all f xs) (ap f (same_Some y x e) ∙ fails)
all_fails f (y ∷ xs) (suc k) x e fails = go (f y) (all_fails f xs k x e fails)
  where
    go : (b : Bool) → list_all f xs ≡ false → (b && list_all f xs) ≡ false
    go true rest = rest
    go false rest = refl

pub few_stripes : (n m w : ℕ) → 0 < w → n * w ≤ m → n ≤ m / w
few_stripes n m w some within = go (nat_le n (m / w)) refl
  where
    go : (b : Bool) → nat_le n (m / w) ≡ b → n ≤ m / w
    go true e = grind arith
    go false e =
        let above : m / w < n = grind arith in
        let more : (m / w + 1) * w ≤ n * w = mul-le-mul_right w (omega arith) in
        let parts : (m / w + 1) * w ≡ m / w * w + w = omega arith in
        let rest : m < m / w * w + w = lt-div-mul-add some in
        absurd (omega arith)

not_landed : (i : Image) (logs : Logs) (unit : ℕ) (p : Placed) (o : Opening) → 0 < i.shape.ws_opt → unanswered_on (logs 0) unit ≡ Some p → p.life ≡ Opened o
    → FitsItsLine i.shape (logs 0) o
    → have_landed (logs 0) o (line_end i.shape o / i.shape.ws_opt) ≡ false
not_landed i logs unit p o some first life room =
    let few : length (stripes_of (logs 0) o) ≤ line_end i.shape o / i.shape.ws_opt =
    few_stripes (length (stripes_of (logs 0) o)) (line_end i.shape o) i.shape.ws_opt some room.within in
    let is_first : IsFirst (logs 0) unit p = first_unanswered (logs 0) unit p first in
    let among : IsAmong (stripes_of (logs 0) o) p =
    in_filter (λ (q : Placed). is_life o.number q.life) (placements (logs 0)) p is_first.among (ap (is_life o.number) life ∙ same_number o.number) in
    ap (λ ps. nat_le (line_end i.shape o / i.shape.ws_opt) (length (stripes_of (logs 0) o)) && list_all (has_landed (logs 0)) ps)
    (take_all (line_end i.shape o / i.shape.ws_opt) (stripes_of (logs 0) o) few)
    ∙ not_second (nat_le (line_end i.shape o / i.shape.ws_opt) (length (stripes_of (logs 0) o))) (list_all (has_landed (logs 0)) (stripes_of (logs 0) o))
    (all_fails (has_landed (logs 0)) (stripes_of (logs 0) o) among.0 p among.1 (ap is_land (first_answer (logs 0) unit p first)))
  where
    not_second : (a b : Bool) → b ≡ false → (a && b) ≡ false
    not_second true b e = e
    not_second false b e = refl

-- a line of which a stripe was lost never lands whole
pub failed_not_landed : (s : Shape) (log : List Logged) (o : Opening) → 0 < s.ws_opt → FitsItsLine s log o → has_failed log o ≡ true
    → have_landed log o (line_end s o / s.ws_opt) ≡ false
failed_not_landed s log o some room failed =
    let few : length (stripes_of log o) ≤ line_end s o / s.ws_opt = few_stripes (length (stripes_of log o)) (line_end s o) s.ws_opt some room.within in
    let found = some_value (find (was_lost log) (stripes_of log o)) (sym (any_found (was_lost log) (stripes_of log o)) ∙ failed) in
    let passes = found_passes (was_lost log) (stripes_of log o) found.0 found.1 in
    ap (λ ps. nat_le (line_end s o / s.ws_opt) (length (stripes_of log o)) && list_all (has_landed log) ps)
    (take_all (line_end s o / s.ws_opt) (stripes_of log o) few)
    ∙ and_false (nat_le (line_end s o / s.ws_opt) (length (stripes_of log o))) (list_all (has_landed log) (stripes_of log o))
    (all_fails (has_landed log) (stripes_of log o) passes.1.0 found.0 passes.1.1 (lost_not_landed (answer_of log found.0) passes.0))
  where
    lost_not_landed : (a : Option Answer) → is_loss a ≡ true → is_land a ≡ false
    lost_not_landed None e = absurd cc
    lost_not_landed (Some (DidLand n)) e = absurd cc
    lost_not_landed (Some (WasLost n)) e = refl

pub state_open : (i : Image) (logs : Logs) (unit : ℕ) (p : Placed) (o : Opening) → 0 < i.shape.ws_opt
    → has_failed (logs 0) o ≡ false → unanswered_on (logs 0) unit ≡ Some p → p.life ≡ Opened o
    → life_of (logs 0) p.stripe.line ≡ Opened o → FitsItsLine i.shape (logs 0) o → (row_of_line i logs p.stripe.line).state ≡ states.Open
state_open i logs unit p o some whole first life opened room =
    ap (state_in i logs p.stripe.line) opened
    ∙ ap₂ (λ a b. if a then states.Failed else if b then states.Full else states.Open) whole (not_landed i logs unit p o some first life room)

pub state_failed : (i : Image) (logs : Logs) (line : ℕ) (o : Opening) → life_of (logs 0) line ≡ Opened o → has_failed (logs 0) o ≡ true
    → (row_of_line i logs line).state ≡ states.Failed
state_failed i logs line o opened failed =
    ap (state_in i logs line) opened
    ∙ ap (λ a. if a then states.Failed else if have_landed (logs 0) o (line_end i.shape o / i.shape.ws_opt) then states.Full else states.Open) failed
