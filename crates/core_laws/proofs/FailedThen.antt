-- An opened line as it was after some first events of the engine: it has failed, by what became of
-- its stripes then, exactly where one of them was lost by then.
use Rattle.std.proofs.Common.{◌≡◌, ℕ, ◌+◌, ◌*◌, ◌/◌, ◌≤◌, ◌||◌, Bool, true, false, Some, None, Option, List, [], ◌∷◌, length, take, refl, sym, ap, ap₂, ◌∙◌, arith}
use Rattle.std.specs.Prelude.{map, slice_get}
use Rattle.std.specs.List.{find, list_any}
use Rattle.pblk_model.specs.declared.shape.Shape.{Shape}
use Rattle.pblk_model.specs.Image.{Image, line_units}
use Rattle.pblk_world.specs.EngineLog.{answer_of, has_failed, life_of, Opened, Opening, Placed, stripes_of, was_lost}
use Rattle.pblk_world.specs.Events.{Logged}
use Rattle.pblk_world.specs.Lines.{known_image}
use Rattle.pblk_world.specs.Victims.{engine_prefix}
use Rattle.pblk_world.specs.World.{World, Logs, log_of}
use Rattle.pblk_model.proofs.Lists.{IsAmong}
use Rattle.pblk_model.proofs.Maps.{any_found, any_member, found_passes, map_at, range_get}
use Rattle.pblk_model.proofs.Options.{some_value}
use Rattle.stripe_placer.specs.OpenLines as lines
use Rattle.stripe_placer.specs.OpenLines.{OpenLine, is_lost, numbers}
use Rattle.pblk_world.specs.LegalMounts.{IsLegalMount}
use Rattle.core_laws.specs.OpenedLines.{as_opened, bits_of, became, is_stripe_at, open_line, outcome, placed_as}
use Rattle.core_laws.proofs.DoneLines.{count}
use Rattle.core_laws.proofs.GivenBack.{none_at}
use Rattle.core_laws.proofs.LineNumbers.{IsNumbered, numbered, one_numbered}
use Rattle.core_laws.proofs.NextStripes.{lost_is}
use Rattle.core_laws.proofs.OpenedTurns.{prefix_prefix}
use Rattle.core_laws.proofs.StripesAfter.{stripe_stays}

-- none of its stripes was lost
sound : (s : Shape) (log : List Logged) (o : Opening) (l : OpenLine) (js : List ℕ) → has_failed log o ≡ false
    → list_any is_lost (map (outcome s log o l) js) ≡ false
sound s log o l [] whole = refl
sound s log o l (j ∷ js) whole = ap₂ (λ a b. a || b) (go (placed_as s log o l j) refl) (sound s log o l js whole)
  where
    go : (q : Option Placed) → placed_as s log o l j ≡ q → is_lost (became log (placed_as s log o l j)) ≡ false
    go None e = ap (λ q. is_lost (became log q)) e
    go (Some q) e =
        let passes = found_passes (λ (r : Placed). is_stripe_at s l r.stripe.unit r.stripe.at j) (stripes_of log o) q e in
        ap (λ r. is_lost (became log r)) e ∙ lost_is (answer_of log q) ∙ none_at (was_lost log) (stripes_of log o) q whole passes.1

module _ (i : Image) (w : World) (mount : IsLegalMount i w) (o : Opening) (is_open : life_of (log_of w 0) o.line ≡ Opened o) (n : ℕ)
    (later : o.number ≤ n) where
  abbrev log : List Logged
  log = log_of w 0

  abbrev bare : OpenLine
  bare = as_opened i (log_of w) o

  same_line : as_opened i (engine_prefix n (log_of w)) o ≡ as_opened i (log_of w) o
  same_line = ap (λ (ls : Logs). lines.opened i.shape o.line (bits_of (line_units (known_image i ls) o.line))) (prefix_prefix (log_of w) o.number n later)

  -- one of them was
  lost_then : (q : Placed) → IsAmong (stripes_of (take n (log_of w 0)) o) q → was_lost (take n (log_of w 0)) q ≡ true
      → list_any is_lost (map (outcome i.shape (take n (log_of w 0)) o (as_opened i (log_of w) o)) (numbers (as_opened i (log_of w) o))) ≡ true
  lost_then q among lost =
      let now : IsAmong (stripes_of log o) q = (among.0, stripe_stays log n o among.0 q among.1) in
      let its : IsNumbered i w mount o is_open q = numbered i w mount o is_open q now in
      let all : length bare.stripes ≡ length (line_units (known_image i (log_of w)) o.line) * (i.shape.clba / i.shape.ws_opt) = count i w mount o is_open in
      let low = its.inside in
      let first : 0 + its.number ≡ its.number = omega arith in
      let there : slice_get (numbers bare) its.number ≡ Some its.number =
      range_get 0 (length bare.stripes) its.number (omega arith) ∙ ap (λ x. Some x) first in
      let test : Placed → Bool = λ r. is_stripe_at i.shape bare r.stripe.unit r.stripe.at its.number in
      let found = some_value (find test (stripes_of (take n log) o))
      (sym (any_found test (stripes_of (take n log) o)) ∙ any_member test (stripes_of (take n log) o) among.0 q among.1 its.at) in
      let passes = found_passes test (stripes_of (take n log) o) found.0 found.1 in
      let same : found.0 ≡ q =
      one_numbered i w mount o is_open found.0 q its.number (passes.1.0, stripe_stays log n o passes.1.0 found.0 passes.1.1) now passes.0 its.at in
      any_member is_lost (map (outcome i.shape (take n log) o bare) (numbers bare)) its.number (outcome i.shape (take n log) o bare its.number)
      (map_at (outcome i.shape (take n log) o bare) (numbers bare) its.number its.number there)
      (ap (λ r. is_lost (became (take n log) r)) (found.1 ∙ ap (λ r. Some r) same) ∙ lost_is (answer_of (take n log) q) ∙ lost)

  pub failed_then : lines.has_failed (open_line i (engine_prefix n (log_of w)) o) ≡ has_failed (take n (log_of w 0)) o
  failed_then =
      ap (λ l. list_any is_lost (map (outcome i.shape (take n log) o l) (numbers l))) same_line
      ∙ go (has_failed (take n log) o) refl
    where
      go : (b : Bool) → has_failed (take n (log_of w 0)) o ≡ b
          → list_any is_lost (map (outcome i.shape (take n (log_of w 0)) o (as_opened i (log_of w) o)) (numbers (as_opened i (log_of w) o))) ≡ has_failed
          (take n (log_of w 0)) o
      go false whole = sound i.shape (take n log) o bare (numbers bare) whole ∙ sym whole
      go true failed =
          let test : Placed → Bool = was_lost (take n log) in
          let found = some_value (find test (stripes_of (take n log) o)) (sym (any_found test (stripes_of (take n log) o)) ∙ failed) in
          let passes = found_passes test (stripes_of (take n log) o) found.0 found.1 in
          lost_then found.0 passes.1 passes.0 ∙ sym failed
