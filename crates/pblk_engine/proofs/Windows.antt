-- Frames that a window gives back.
use Rattle.std.proofs.Common.{◌≡◌, ◌+◌, ◌-◌, false, cond, nat_lt, Some, None, List, [], ◌∷◌, length, drop, sym, ap, ap₂, ◌∙◌, arith}
use Rattle.std.specs.Prelude.{slice_get}
use Rattle.std.specs.Option.{option_map}
use Rattle.std.proofs.lemmas.Option.{none-some, same_Some}
use Rattle.pblk_model.specs.Frames.{Region, FrameView}
use Rattle.core_laws.proofs.Placing.{not_below}
use Rattle.write_window.specs.declared.held.Held.{Held}
use Rattle.write_window.specs.Window.{WindowView}
use Rattle.write_window.specs.Window as view

-- ---- the first entry

frame_there : (w : WindowView) → view.frame_at w w.freed ≡ option_map (λ (h : Held). h.entry.frame) (slice_get w.entries 0)
frame_there w =
    let here : nat_lt w.freed w.freed ≡ false = not_below w.freed w.freed (omega arith) in
    let none : w.freed - w.freed ≡ 0 = omega arith in
    ap₂ (λ b n. option_map (λ (h : Held). h.entry.frame) (cond b None (slice_get w.entries n))) here none

-- what leaves the window, and what is left
pub record IsFirstFrame (r : Region) (held : List Held) (f : FrameView) : Type 0 where
  pub region : f.region ≡ r
  pub one_less : length (drop 1 held) + 1 ≡ length held
  pub rest : view.AreOf r (drop 1 held)

pub first_frame : (w : WindowView) (f : FrameView) (r : Region) → view.AreOf r w.entries → view.frame_at w w.freed ≡ Some f → IsFirstFrame r w.entries f
first_frame w f r own is = go w.entries own (sym (frame_there w) ∙ is)
  where
    go : (held : List Held) → view.AreOf r held → option_map (λ (h : Held). h.entry.frame) (slice_get held 0) ≡ Some f → IsFirstFrame r held f
    go [] own is = absurd (none-some f is)
    go (h ∷ held) own is = record {
      region = ap (λ (x : FrameView). x.region) (sym (same_Some h.entry.frame f is)) ∙ own.0;
      one_less = omega arith;
      rest = own.1;
    }
