-- The stripes of an opened line are at their turns on its units, and it has chunks left while it
-- has a stripe left.
use Rattle.pblk_model.proofs.Lists.{IsAmong}
use Rattle.std.proofs.Common.{◌≡◌, ℕ, ◌*◌, ◌/◌, ◌≤◌, ◌&&◌, zero, suc, not, Bool, true, false, List, length, refl, subst, ap₂, ◌∙◌, arith, ◌<◌, ap}
use Rattle.std.proofs.lemmas.List.{take-take as cut_cut}
use Rattle.pblk_model.specs.Image.{Image, line_units}
use Rattle.pblk_layout.specs.Online.{units_in}
use Rattle.pblk_world.specs.World.{World, Logs, log_of}
use Rattle.pblk_world.specs.EngineLog.{LineLife, Opened, is_opened, life_of, Opening, Placed, stripes_of}
use Rattle.pblk_world.specs.Lines.{are_over, has_stripe_left, known_image}
use Rattle.pblk_world.specs.Victims.{engine_prefix}
use Rattle.stripe_placer.specs.OpenLines.{has_left}
use Rattle.pblk_world.specs.LegalMounts.{IsLegalMount}
use Rattle.world_laws.proofs.Stripes.{stripe_is}
use Rattle.core_laws.specs.OpenedLines.{bits_of, opened_units, open_line}
use Rattle.core_laws.specs.StripeTurns.{IsAtTurn}
use Rattle.core_laws.proofs.DoneLines.{none_left}
use Rattle.core_laws.proofs.KeptLines.{few_units, keeps_units}
use Rattle.core_laws.proofs.LandedNow.{opened_now}
use Rattle.core_laws.proofs.LineNumbers as numbers
use Rattle.core_laws.proofs.UnitBits.{bits_back}
use Rattle.pblk_model.proofs.Numbers.{fun_same}
use Rattle.pblk_model.proofs.Parts.{contained_among}
use Rattle.pblk_model.proofs.Tests.{not_both}

-- ---- prefixes

pub prefix_prefix : (logs : Logs) (n k : ℕ) → n ≤ k → engine_prefix n (engine_prefix k logs) ≡ engine_prefix n logs
prefix_prefix logs n k h = fun_same (engine_prefix n (engine_prefix k logs)) (engine_prefix n logs) each
  where
    each : (author : ℕ) → engine_prefix n (engine_prefix k logs) author ≡ engine_prefix n logs author
    each zero = cut_cut n k (logs 0) h
    each (suc unit) = refl

-- ---- its units

pub bits_are_units : (i : Image) (w : World) (o : Opening) → IsLegalMount i w → units_in (bits_of (opened_units i (log_of w) o)) ≡ opened_units i (log_of w) o
bits_are_units i w o mount =
    bits_back (known_image i (engine_prefix o.number (log_of w))) o.line (few_units i w (engine_prefix o.number (log_of w)) mount)

-- ---- its stripes

module _ (i : Image) (w : World) (line : ℕ) (o : Opening) (mount : IsLegalMount i w) (is_open : life_of (log_of w 0) line ≡ Opened o) where
  units : line_units (known_image i (log_of w)) line ≡ opened_units i (log_of w) o
  units = keeps_units i w line o mount is_open

  -- each has its turn, also in a line that is Failed, where pads are placed past a chunk that is
  -- closed
  pub turn_of : (p : Placed) → IsAmong (stripes_of (log_of w 0) o) p
      → (n : ℕ) × IsAtTurn i.shape (opened_units i (log_of w) o) line n p × (n < i.shape.clba / i.shape.ws_opt * length (opened_units i (log_of w) o))
  turn_of p among =
      let opened = opened_now i w mount line o is_open in
      let life : life_of (log_of w 0) o.line ≡ Opened o = ap (life_of (log_of w 0)) opened.1 ∙ is_open in
      let its : numbers.IsNumbered i w mount o life p = numbers.numbered i w mount o life p among in
      let same : line_units (known_image i (log_of w)) o.line ≡ opened_units i (log_of w) o =
      ap (line_units (known_image i (log_of w))) opened.1 ∙ units in
      let is = stripe_is i w o p mount.legal opened.0 (contained_among (stripes_of (log_of w 0) o) p among) in
      let low : its.number < length (opened_units i (log_of w) o) * (i.shape.clba / i.shape.ws_opt) =
      subst (λ (us : List ℕ). its.number < length us * (i.shape.clba / i.shape.ws_opt)) same its.inside in (
        its.number,
        subst (λ (us : List ℕ). IsAtTurn i.shape us line its.number p) same
            (record { unit = its.unit; at = its.row; line_is = is.3 ∙ opened.1 }),
        omega arith,
      )

-- ---- its chunks

pub chunks_left : (i : Image) (w : World) (o : Opening) → IsLegalMount i w → life_of (log_of w 0) o.line ≡ Opened o
    → has_left (open_line i (log_of w) o) ≡ true → has_stripe_left i (log_of w) o.line ≡ true
chunks_left i w o mount is_open left = ap₂ (λ (life : LineLife) b. is_opened life && not b) is_open (go (are_over i (log_of w) o.line) refl)
  where
    go : (b : Bool) → are_over i (log_of w) o.line ≡ b → are_over i (log_of w) o.line ≡ false
    go false e = e
    go true e = absurd (not_both (has_left (open_line i (log_of w) o)) left (none_left i w mount o is_open e))
