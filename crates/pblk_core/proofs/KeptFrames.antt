-- A window keeps its frames as entries land and become readable.
use Rattle.std.proofs.Common.{◌≡◌, ℕ, Bool, true, false, List, [], ◌∷◌, refl, sym, subst, ◌∙◌}
use Rattle.std.specs.Prelude.{if◌then◌else◌, slice_get}
use Rattle.std.specs.Option.{option_map_or}
use Rattle.stripe_placer.specs.Placing.{Placing, Program, placed, placed_again, placed_first, is_stopped}
use Rattle.write_window.specs.Window.{WindowView, has_landed_at, turned}
use Rattle.write_window.specs.declared.held.Progress.TheVariants as progress
use Rattle.write_window.proofs.Owners.{own_with}
pub use Rattle.pblk_core.specs.Keeping.{KeepsFrames}
use Rattle.pblk_core.specs.Landing.{all_landed, one_landed}
use Rattle.pblk_core.specs.Readable.{ReadBlock, all_readable}
use Rattle.write_window.proofs.EntriesLemmas.{turned_length}

and_then : {a b c : WindowView} → KeepsFrames a b → KeepsFrames b c → KeepsFrames a c
and_then x y = record { own = λ r o. y.own r (x.own r o); count = y.count ∙ x.count }

none : (w : WindowView) → KeepsFrames w w
none w = record { own = λ r o. o; count = refl }

one_turned : (w : WindowView) (q : ℕ) (to : _) → KeepsFrames w (turned w q to)
one_turned w q to = record { own = λ r o. own_with r w.entries _ to o; count = turned_length w.entries _ to }

one : (w : WindowView) (q : ℕ) → KeepsFrames w (one_landed w q)
one w q = go (has_landed_at w q)
  where
    go : (b : Bool) → KeepsFrames w (if b then w else turned w q progress.Landed)
    go true = none w
    go false = one_turned w q progress.Landed

pub landed_frames : (w : WindowView) (qs : List ℕ) → KeepsFrames w (all_landed w qs)
landed_frames w [] = none w
landed_frames w (q ∷ qs) = and_then (one w q) (landed_frames (one_landed w q) qs)

pub readable_frames : (w : WindowView) (bs : List ReadBlock) → KeepsFrames w (all_readable w bs)
readable_frames w [] = none w
readable_frames w (b ∷ bs) = and_then (one_turned w b.mark.position progress.Readable) (readable_frames (turned w b.mark.position progress.Readable) bs)

pub read_frames : (w x : WindowView) (bs : List ReadBlock) → x ≡ all_readable w bs → KeepsFrames w x
read_frames w x bs is = subst (KeepsFrames w) (sym is) (readable_frames w bs)

pub both_frames : (w v x : WindowView) (qs : List ℕ) (bs : List ReadBlock) → v ≡ all_landed w qs → x ≡ all_readable v bs → KeepsFrames w x
both_frames w v x qs bs is then_is = and_then (subst (KeepsFrames w) (sym is) (landed_frames w qs)) (subst (KeepsFrames v) (sym then_is) (readable_frames v bs))

-- a stripe that is placed keeps the pad target
pub placed_pad : (p : Placing) (of : Program) → (placed p of).entries.pad ≡ p.entries.pad
placed_pad p of = go (option_map_or is_stopped (slice_get p.units of.unit) false)
  where
    go : (b : Bool) → (if b then placed_again p of else placed_first p of).entries.pad ≡ p.entries.pad
    go true = refl
    go false = refl
