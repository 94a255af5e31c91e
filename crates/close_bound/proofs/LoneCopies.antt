-- While a worker goes on alone no user's entry is taken, and copies are begun where no reset is left
-- to be made.
use Rattle.std.proofs.Common.{◌≡◌, ℕ, ◌<◌, ◌≤◌, nat_lt, if◌then◌else◌, Bool, true, false, Some, List, length, refl, sym, subst, ◌∙◌, arith, le_refl}
use Rattle.std.specs.Prelude.{slice_get}
use Rattle.std.proofs.lemmas.Option.{none-some, same_Some}
use mathlib.Core.List.{IsPrefix}
use Rattle.pblk_model.specs.declared.chunk.Mark.{Mark}
use Rattle.pblk_model.specs.Image.{Image}
use Rattle.pblk_model.proofs.Tests.{below_of, le_of_lt_false}
use Rattle.pblk_world.specs.AtRest.{logs_at}
use Rattle.pblk_world.specs.Events.{Decides, Entry, Source, Take}
use Rattle.pblk_world.specs.LegalMounts.{IsLegalMount}
use Rattle.pblk_world.specs.Orders.{AreReset}
use Rattle.pblk_world.specs.Reasons.{AreBegun, WasBegun}
use Rattle.pblk_world.specs.World.{World, log_of}
use Rattle.rest_laws.specs.Copies.{TookCopy}
use Rattle.rest_laws.specs.RoomRuns.{AreBegunAt}
use Rattle.rest_laws.proofs.ClaimedCopies.{begun_in_turn}
use Rattle.rest_laws.proofs.NeverStuck.{begun_at}
use Rattle.settle_laws.specs.Quiet.{AreBegunReset, IsQuietFrom}
use Rattle.unit_port.specs.Unit.{ModelUnit}
use Rattle.chronicle.specs.Prefixes.{logs_of}
use Rattle.pblk_engine.specs.Alone.{AreLonePumps}
use Rattle.close_bound.proofs.LoneTakes.{IsTakenAlone, look_of, taken_alone}
use Rattle.pblk_engine.specs.Ticks.{Pump}
use Rattle.pblk_engine.specs.Workers.{WorkerView}

module _ (i : Image) (handed : List ModelUnit) (w : World) (old new : WorkerView) (pumps : List Pump) (made : AreLonePumps i handed old pumps new)
    (known : (author : ℕ) → IsPrefix (logs_of new.known author) (log_of w author)) (all : logs_of new.known 0 ≡ log_of w 0)
    (first : 0 < length (logs_of old.known 0)) where
  abbrev from : ℕ
  from = length (logs_of old.known 0)

  alone : (number : ℕ) (knows : List ℕ) (entry : Entry) (mark : Mark) → length (logs_of old.known 0) ≤ number
      → slice_get (log_of w 0) number ≡ Some (record { event = Decides (Take entry mark); knows = knows })
      → IsTakenAlone i (log_of w) number (look_of pumps number) entry
  alone number knows entry mark since there =
      taken_alone i handed w new known all old pumps from number knows entry mark first (le_refl from) made since there

  pub quiet_since : IsQuietFrom (log_of w) (length (logs_of old.known 0))
  quiet_since = record {
    each = λ number knows entry mark since there none.
        let its = alone number knows entry mark since there in absurd (none-some its.source (sym none ∙ its.is_copy));
  }

  -- ---- at which length each copy was begun

  module _ (mount : IsLegalMount i w) (begun : AreBegun i (log_of w)) where
    were : (at : ℕ → ℕ) × AreBegunAt i (log_of w) at
    were = begun_at i (log_of w) (begun_in_turn i w mount begun)

    abbrev at_by : Bool → ℕ → ℕ
    at_by b number = if b then were.0 number else look_of pumps number

    begun_by : (number : ℕ) (entry : Entry) (mark : Mark) (took : TookCopy (log_of w 0) number entry mark) (b : Bool)
        → nat_lt number (length (logs_of old.known 0)) ≡ b
        → (x : WasBegun i (log_of w) number entry.lba took.source) × (x.at ≡ at_by b number)
    begun_by number entry mark took true e =
        let turn = were.1.each number entry mark took in (turn.0.begun, turn.1)
    begun_by number entry mark took false e =
        let its = alone number took.knows entry mark (le_of_lt_false number from e) took.there in
        let same : its.source ≡ took.source = same_Some its.source took.source (sym its.is_copy ∙ took.is_copy) in
        subst (λ (s : Source). (x : WasBegun i (log_of w) number entry.lba s) × (x.at ≡ look_of pumps number)) same (its.begun, its.begun_at)

    reset_by : (number : ℕ) (entry : Entry) (mark : Mark) → TookCopy (log_of w 0) number entry mark → (b : Bool)
        → nat_lt number (length (logs_of old.known 0)) ≡ b → length (logs_of old.known 0) ≤ at_by b number
        → AreReset i (logs_at (at_by b number) (log_of w))
    reset_by number entry mark took true e late =
        let turn = were.1.each number entry mark took in
        let within : turn.0.begun.at ≤ number = turn.0.begun.within in
        let at : turn.0.begun.at ≡ were.0 number = turn.1 in
        let low : number < length (logs_of old.known 0) = below_of number from e in
        absurd (omega (arith, within, at, low, late))
    reset_by number entry mark took false e late = (alone number took.knows entry mark (le_of_lt_false number from e) took.there).reset

    pub begun_reset : AreBegunReset i (log_of w) (length (logs_of old.known 0))
    begun_reset = record {
      at = λ number. at_by (nat_lt number from) number;
      begun = λ number entry mark took. begun_by number entry mark took (nat_lt number from) refl;
      reset = λ number entry mark took late. reset_by number entry mark took (nat_lt number from) refl late;
    }
