-- A stripe has an entry exactly where it is one of data.
use Rattle.std.proofs.Common.{◌≡◌, ◌⊎◌, ℕ, ◌<◌, ◌≤◌, ◌==◌, zero, suc, Bool, true, false, Some, is_some, List, [], ◌∷◌, length, take, drop, refl, sym, subst, ap, ◌∙◌, arith}
use Rattle.std.specs.Prelude.{slice_get}
use Rattle.std.specs.List.{AllByRecursion, list_any}
use Rattle.pblk_model.specs.declared.shape.Shape.{Shape}
use Rattle.pblk_model.specs.Chunk.{Block}
use Rattle.pblk_model.specs.Image.{Image}
use Rattle.pblk_model.specs.Marks.{meta_lba}
use Rattle.pblk_model.specs.Records.{named}
use Rattle.pblk_world.specs.EngineLog.{Opening, Taken, bears_position, takes}
use Rattle.pblk_world.specs.Events.{Stripe}
use Rattle.pblk_world.specs.Fronts.{waiting}
use Rattle.pblk_world.specs.Placing.{IsData, IsEnd, IsPad, IsStart}
use Rattle.pblk_world.specs.World.{World, Logs, log_of}
use Rattle.pblk_model.proofs.Lists.{zipped}
use Rattle.pblk_model.proofs.Maps.{any_member}
use Rattle.pblk_model.proofs.Parts.{all_dropped, all_taken}
use Rattle.pblk_model.proofs.Tests.{and_both, both, not_both, same_number}
use Rattle.core_laws.proofs.LosslessMounts.{IsLosslessMount}
use Rattle.core_laws.proofs.Distinct.{passing}
use Rattle.core_laws.proofs.LogOrders.{small_capacity}
use Rattle.core_laws.proofs.PlainLogs.{never_lost}
use Rattle.core_laws.proofs.PlacedInOrder.{IsOrdered, ordered, waiting_are_last}
use Rattle.core_laws.proofs.PlacedPlaces.{BearsThese, IsNamed, data_bears, others_bear}
use Rattle.rest_laws.specs.RoomSteps.{has_entry}

-- a block that bears an entry bears it at a position
pub some_position : (s : Shape) (stripe : Stripe) → has_entry s stripe ≡ true → (q : ℕ) × (list_any (bears_position s q) stripe.blocks ≡ true)
some_position s stripe has =
    let at = passing (λ (b : Block). is_some (named s b.mark)) stripe.blocks has in (
      at.0.mark.position,
      any_member (bears_position s at.0.mark.position) stripe.blocks at.1.0 at.0 at.1.1
          (and_both (is_some (named s at.0.mark)) (at.0.mark.position == at.0.mark.position) at.2 (same_number at.0.mark.position)),
    )

pub others_have_none : (i : Image) (logs : Logs) (o : Opening) (stripe : Stripe) → i.shape.capacity ≤ meta_lba
    → IsStart i logs o stripe ⊎ (IsEnd i logs o stripe ⊎ IsPad i logs o stripe) → has_entry i.shape stripe ≡ false
unfolding BearsThese
others_have_none i logs o stripe small kind = go (has_entry i.shape stripe) refl
  where
    go : (t : Bool) → has_entry i.shape stripe ≡ t → has_entry i.shape stripe ≡ false
    go false e = e
    go true e =
        let at = some_position i.shape stripe e in
        absurd (not_both (list_any (bears_position i.shape at.0) stripe.blocks) at.1 (others_bear i logs o stripe small kind at.0))

pub data_have_one : (i : Image) (w : World) (o : Opening) (stripe : Stripe) → IsLosslessMount i w → IsData i (log_of w) o stripe
    → has_entry i.shape stripe ≡ true
unfolding BearsThese
data_have_one i w o stripe lossless is = go (waiting i.shape (log_of w 0)) refl is.has_entry
  where
    order : IsOrdered i.shape (log_of w 0)
    order = ordered i w lossless.mount

    all_named : AllByRecursion (IsNamed i.shape) (take i.shape.ws_opt (waiting i.shape (log_of w 0)))
    all_named =
        subst (λ (ts : List Taken). AllByRecursion (IsNamed i.shape) (take i.shape.ws_opt ts))
        (sym (waiting_are_last i.shape (log_of w 0) (never_lost (log_of w 0) lossless.none_lost) order))
        (all_taken (IsNamed i.shape) i.shape.ws_opt (drop order.order.count (takes (log_of w 0)))
        (all_dropped (IsNamed i.shape) order.order.count (takes (log_of w 0))
        (zipped (λ (t : Taken). is_some (named i.shape t.mark) ≡ true) (λ (t : Taken). t.mark.position ≡ t.entry.position) (IsNamed i.shape)
        (λ t names marked. record { names = names; marked = marked }) (takes (log_of w 0)) order.named order.marked)))

    bears : (q : ℕ) → list_any (bears_position i.shape q) stripe.blocks
        ≡ list_any (λ (t : Taken). q == t.entry.position) (take i.shape.ws_opt (waiting i.shape (log_of w 0)))
    bears = data_bears i (log_of w) o stripe (small_capacity i lossless.mount.accepted) is all_named

    some : 0 < i.shape.ws_opt
    some = lossless.mount.accepted.drive.ws_opt

    go : (ts : List Taken) → waiting i.shape (log_of w 0) ≡ ts → 0 < length ts → has_entry i.shape stripe ≡ true
    go [] e more = absurd (omega arith)
    go (t ∷ ts) e more =
        let held : list_any (λ (u : Taken). t.entry.position == u.entry.position) (take i.shape.ws_opt (waiting i.shape (log_of w 0))) ≡ true =
        any_member (λ (u : Taken). t.entry.position == u.entry.position) (take i.shape.ws_opt (waiting i.shape (log_of w 0))) 0 t
        (ap (λ (us : List Taken). slice_get (take i.shape.ws_opt us) 0) e ∙ first i.shape.ws_opt some) (same_number t.entry.position) in
        let at = passing (bears_position i.shape t.entry.position) stripe.blocks (bears t.entry.position ∙ held) in
        any_member (λ (b : Block). is_some (named i.shape b.mark)) stripe.blocks at.1.0 at.0 at.1.1
        (both (is_some (named i.shape at.0.mark)) (at.0.mark.position == t.entry.position) at.2).0
      where
        first : (n : ℕ) → 0 < n → slice_get (take n (t ∷ ts)) 0 ≡ Some t
        first zero n = absurd (omega arith)
        first (suc m) n = refl
