-- The tickets that an opening hands out: how many they are, and their numbers.
use Rattle.std.proofs.Common.{◌≡◌, ◌+◌, ℕ, List, length, slice_get, sym, ap, ◌∙◌, arith}
use Rattle.std.specs.List.{range_with_len}
use Rattle.std.proofs.lemmas.List.{length-map}
use Rattle.std.proofs.lemmas.List.FromFn.{length-range_with_len}
use Rattle.pblk_model.proofs.Maps.{row_at}
use Rattle.write_ring.specs.declared.view.Key.{Key}
use Rattle.chronicle.specs.Views.{Past}
use Rattle.block_target.specs.Sessions.{SessionView}
use Rattle.block_target.specs.Targets.{first_session, first_sessions}
use Rattle.target_crew.specs.Numbers.{AreNumbered}

-- each has the number of its place
pub first_numbered : (past : Past) (key : Key) (count : ℕ) (tickets : List SessionView) → tickets ≡ first_sessions past key count → AreNumbered tickets
first_numbered past key count tickets are k t there =
    let at = row_at (first_session past key) count 0 k t (ap (λ (ts : List SessionView). slice_get ts k) (sym are) ∙ there) in
    ap (λ (s : SessionView). s.worker.number) (sym at.1) ∙ (let first : 0 + k ≡ k = omega arith in first)

-- they are as many as were asked for
pub first_count : (past : Past) (key : Key) (count : ℕ) (tickets : List SessionView) → tickets ≡ first_sessions past key count → length tickets ≡ count
first_count past key count tickets are =
    ap (λ (ts : List SessionView). length ts) are ∙ length-map (range_with_len 0 count) (first_session past key)
    ∙ length-range_with_len 0 count
