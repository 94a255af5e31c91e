-- A stripe under way is a part of its line's start record exactly where it is one of the line's
-- first stripes.
use Rattle.std.proofs.Common.{◌≡◌, ℕ, ◌+◌, ◌/◌, ◌&&◌, not, nat_lt, Bool, true, false, refl, sym, ap, ◌∙◌, if◌then◌else◌}
use Rattle.std.specs.Prelude.{◌↔◌, IsTrue, take}
use Rattle.pblk_model.specs.Image.{Image}
use Rattle.pblk_model.specs.LineOrder.{start_len}
use Rattle.pblk_world.specs.EngineLog.{has_failed}
use Rattle.pblk_world.specs.Starts.{start_stripes}
use Rattle.pblk_world.specs.Victims.{engine_prefix}
use Rattle.pblk_world.specs.World.{World, log_of}
use Rattle.stripe_placer.specs.declared.placement.StripeKind.{StripeKind}
use Rattle.stripe_placer.specs.declared.placement.StripeKind.TheVariants as kinds
use Rattle.stripe_placer.specs.OpenLines.{OpenLine}
use Rattle.stripe_placer.specs.Placing.{Program}
use Rattle.core_laws.specs.OpenedLines.{open_line}
use Rattle.pblk_world.specs.LegalMounts.{IsLegalMount}
use Rattle.core_laws.proofs.Placeable.{kind_in}
use Rattle.pblk_core.proofs.LandedWay.{IsOnWay}
use Rattle.pblk_core.proofs.StoppedStripe.{kind_in_line, number_is_place, pad_then}
use Rattle.pblk_model.proofs.Tests.{and_refused, and_true}

first_kind : (k c d : ℕ) (kind : StripeKind) (start : Bool) → kind_in k c d ≡ kind → IsTrue start ↔ (kind ≡ kinds.Start) → start ≡ nat_lt k c
unfolding kind_in
first_kind k c d kind start is tells = go (nat_lt k c) (nat_lt k (c + d)) start is tells
  where
    go : (a b start : Bool) → (if a then kinds.Start else if b then kinds.Data else kinds.End) ≡ kind → IsTrue start ↔ (kind ≡ kinds.Start) → start ≡ a
    go true b start is tells = tells.1 (sym is)
    go false b false is tells = refl
    go false true true is tells = let its : kinds.Data ≡ kinds.Start = is ∙ tells.0 refl in absurd cc
    go false false true is tells = let its : kinds.End ≡ kinds.Start = is ∙ tells.0 refl in absurd cc

-- it stands so among the stripes of its line, and none of these was lost before
pub is_start : (i : Image) (w : World) (unit : ℕ) (of : Program) → IsLegalMount i w → (is : IsOnWay i w unit of) → (start : Bool)
    → IsTrue start ↔ (of.kind ≡ kinds.Start)
    → start ≡ (nat_lt is.among.0 (start_stripes i.shape) && not (has_failed (take is.row.stripe.number (log_of w 0)) is.row.opening))
is_start i w unit of mount is start tells = go (has_failed (take is.row.stripe.number (log_of w 0)) is.row.opening) refl
  where
    line_then : OpenLine
    line_then = open_line i (engine_prefix is.row.stripe.number (log_of w)) is.row.opening

    never : (start : Bool) → IsTrue start ↔ (of.kind ≡ kinds.Start) → of.kind ≡ kinds.Pad → start ≡ false
    never false tells pad = refl
    never true tells pad = let its : kinds.Pad ≡ kinds.Start = sym pad ∙ tells.0 refl in absurd cc

    go : (b : Bool) → has_failed (take is.row.stripe.number (log_of w 0)) is.row.opening ≡ b → start ≡ (nat_lt is.among.0 (start_stripes i.shape) && not b)
    go true e = never start tells (pad_then i w unit of mount is e) ∙ sym (and_refused (nat_lt is.among.0 (start_stripes i.shape)))
    go false e =
        first_kind is.number (start_len i.shape / i.shape.ws_opt) line_then.data_count of.kind start (kind_in_line i w unit of mount is e) tells
        ∙ ap (λ n. nat_lt n (start_stripes i.shape)) (number_is_place i w unit of mount is e)
        ∙ sym (and_true (nat_lt is.among.0 (start_stripes i.shape)) true refl)
