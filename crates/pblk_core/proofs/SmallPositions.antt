-- How large the numbers of a mount are: its positions, and the addresses that are left.
use Rattle.std.proofs.Common.{◌≡◌, ℕ, ◌+◌, ◌-◌, ◌*◌, ◌^◌, ◌<◌, ◌≤◌, max, zero, suc, Bool, true, false, nat_lt, Some, List, [], ◌∷◌, ◌++◌, length, refl, ap, ◌∙◌, arith, if◌then◌else◌, append-nil, length-append}
use Rattle.std.specs.List.{range_with_len, sum_by}
use Rattle.std.proofs.lemmas.List.Sums.{sum_by-cons}
use Rattle.pblk_model.specs.declared.shape.Shape.{Shape}
use Rattle.pblk_model.specs.Accepted.{IsAccepted}
use Rattle.pblk_model.specs.Shape.{units}
use Rattle.pblk_model.specs.LineOrder.{start_len, end_len, data_len}
use Rattle.pblk_model.specs.Image.{Image, line_units, width}
use Rattle.pblk_world.specs.Events.{EngineEvent, Take, Decides, Logged}
use Rattle.pblk_world.specs.World.{World, Logs, log_of}
use Rattle.pblk_world.specs.EngineLog.{Begun, begun, takes, LineLife, AsFound, Opened, Freed, life_of, has_failed}
use Rattle.pblk_world.specs.Fronts.{first_position, taken}
use Rattle.pblk_world.specs.Lines.{known_image, line_data, is_free_line}
use Rattle.pblk_world.specs.Space.{unplaced_in, open_addresses}
use Rattle.pblk_world.specs.Space as space
use Rattle.pblk_world.specs.Placing.{next_address}
use Rattle.pblk_world.specs.Legal.{IsDecision}
use Rattle.pblk_world.specs.LegalMounts.{IsLegalMount}
use Rattle.core_laws.proofs.TakenNumbers.{first_stays}
use Rattle.core_laws.proofs.KeptByEvents.{IsKept, kept}
use Rattle.core_laws.proofs.Followed.{follow}
use Rattle.core_laws.proofs.PlainOpenings.{opened_lines}
use Rattle.pblk_core.proofs.LineBits.{known_units, known_width}
use Rattle.pblk_model.proofs.Lists.{all_true}
use Rattle.pblk_model.proofs.AcceptedLemmas.{line_is_short}
use Rattle.pblk_world.proofs.EngineLogLemmas.{takes_more}

-- ---- the positions that were taken

-- no further than all positions go, where the mount didn't begin beyond
AreBounded : List Logged → Type 0
AreBounded log = first_position log ≤ 2 ^ 62 → taken log ≤ 2 ^ 62

taken_next : (i : Image) (known : Logs) (log : List Logged) (b : Begun) (e : EngineEvent) (knows : List ℕ) → begun log ≡ Some b → known 0 ≡ log
    → IsDecision i known b e
    → AreBounded log → AreBounded (log ++ record { event = Decides e; knows = knows } ∷ [])
unfolding AreBounded
taken_next i known log b (Take entry mark) knows begins own may was low =
    let l : Logged = record { event = Decides (Take entry mark); knows = knows } in
    let first : first_position (log ++ l ∷ []) ≡ first_position log = first_stays log l b begins in
    let count : length (takes (log ++ l ∷ [])) ≡ length (takes log) + 1 = ap length (takes_more log l)
    ∙ length-append (takes log) (record { entry = entry; mark = mark } ∷ []) in
    let at : entry.position ≡ taken log = may.position ∙ ap taken own in
    let number : entry.position < 2 ^ 62 = may.position_number in
    omega arith
taken_next i known log b e knows begins own may was low =
    let l : Logged = record { event = Decides e; knows = knows } in
    let first : first_position (log ++ l ∷ []) ≡ first_position log = first_stays log l b begins in
    let count : length (takes (log ++ l ∷ [])) ≡ length (takes log) = ap length (takes_more log l ∙ append-nil (takes log)) in
    let before : taken log ≤ 2 ^ 62 = was (omega arith) in
    omega arith

taken_kept : (i : Image) → IsKept i (λ e. true) AreBounded
unfolding AreBounded
taken_kept i = record {
  empty = λ low. omega arith;
  first = λ known b knows may low. (let start : b.first ≤ 2 ^ 62 = low in omega arith);
  next = λ known log b e knows begins own passes may was. taken_next i known log b e knows begins own may was;
}

pub taken_bounded : (i : Image) (w : World) → IsLegalMount i w → first_position (log_of w 0) ≤ 2 ^ 62 → taken (log_of w 0) ≤ 2 ^ 62
unfolding AreBounded
taken_bounded i w mount low = kept i (λ e. true) AreBounded (taken_kept i) w mount.legal (all_true (log_of w 0)) low

-- ---- addresses

data_short : (s : Shape) (g : ℕ) → IsAccepted s → g ≤ units s → data_len s g ≤ 65536
data_short s g accepted few =
    let short : g * s.clba ≤ 65536 = line_is_short s g accepted few in
    go (nat_lt (g * s.clba - start_len s - end_len s g) s.ws_opt) (omega arith)
  where
    go : (b : Bool) → g * s.clba - start_len s - end_len s g ≤ 65536 → (if b then 0 else g * s.clba - start_len s - end_len s g) ≤ 65536
    go true h = omega arith
    go false h = h

-- a sum over so many lines
sum_few : (f : ℕ → ℕ) (n a : ℕ) → ((k : ℕ) → a ≤ k → k < a + n → f k ≤ 65536) → sum_by f (range_with_len a n) ≤ n * 65536
sum_few f zero a each = omega arith
sum_few f (suc n) a each =
    let here : f a ≤ 65536 = each a (omega arith) (omega arith) in
    let rest : sum_by f (range_with_len (a + 1) n) ≤ n * 65536 = sum_few f n (a + 1) (λ k low high. each k (omega arith) (omega arith)) in
    let all : sum_by f (range_with_len a (suc n)) ≡ f a + sum_by f (range_with_len (a + 1) n) = sum_by-cons f a (range_with_len (a + 1) n) in
    omega arith

unplaced_short : (i : Image) (w : World) (line : ℕ) (life : LineLife) → IsLegalMount i w → life_of (log_of w 0) line ≡ life
    → unplaced_in i.shape (log_of w 0) life ≤ 65536
unplaced_short i w line AsFound mount is = omega arith
unplaced_short i w line (Freed was knows) mount is = omega arith
unplaced_short i w line (Opened o) mount is =
    let wide : o.start.width ≡ length (line_units (known_image i (log_of w)) line) =
    (opened_lines i (line_units (known_image i (log_of w))) w (follow i w mount) line o is).width in
    let few : length (line_units (known_image i (log_of w)) line) ≤ units i.shape = known_units i w (log_of w) line mount in
    let short : data_len i.shape o.start.width ≤ 65536 = data_short i.shape o.start.width mount.accepted (omega arith) in
    go (has_failed (log_of w 0) o) (max (start_len i.shape) (next_address i.shape (log_of w 0) o)) (omega arith) short
  where
    go : (b : Bool) (m : ℕ) → start_len i.shape ≤ m → data_len i.shape o.start.width ≤ 65536
        → (if b then 0 else start_len i.shape + data_len i.shape o.start.width - m) ≤ 65536
    go true m from short = omega arith
    go false m from short = omega arith

pub open_few : (i : Image) (w : World) → IsLegalMount i w → open_addresses i (log_of w) ≤ i.shape.chunks * 65536
open_few i w mount = sum_few (λ line. unplaced_in i.shape (log_of w 0) (life_of (log_of w 0) line)) i.shape.chunks 0
    (λ k low high. unplaced_short i w k (life_of (log_of w 0) k) mount refl)

pub free_few : (i : Image) (w : World) → IsLegalMount i w → space.free_addresses i (log_of w) ≤ i.shape.chunks * 65536
free_few i w mount = sum_few (λ line. if is_free_line i (log_of w) line then line_data (known_image i (log_of w)) line else 0) i.shape.chunks 0
    (λ k low high. each k (omega arith) (is_free_line i (log_of w) k))
  where
    each : (k : ℕ) → k < i.shape.chunks → (b : Bool) → (if b then line_data (known_image i (log_of w)) k else 0) ≤ 65536
    each k high false = omega arith
    each k high true =
        data_short i.shape (width (known_image i (log_of w)) k) mount.accepted (known_width i w (log_of w) k mount)
