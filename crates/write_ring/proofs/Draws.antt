-- Frames are drawn from a pool, and go back the last first.
use Rattle.std.proofs.Common.{◌≡◌, Bool, true, false, List, [], ◌∷◌, ◌++◌, length, reverse, set, refl, sym, ap, ◌∙◌, subst, arith, Some}
use Rattle.std.specs.List.{slice_get}
use Rattle.std.proofs.lemmas.List.{reverse-append, set-set}
use Rattle.pblk_model.proofs.Parts.{set_same}
use Rattle.pblk_model.specs.Frames.{Region, FrameView}
use Rattle.write_ring.specs.declared.cell.Cell.{Cell}
use Rattle.write_ring.specs.declared.cell.Cell.TheVariants as cell
use Rattle.write_ring.specs.Openings.{IsDrawn}

turned : (old new : List Cell) (x : Cell) → new ≡ old ++ x ∷ [] → reverse new ≡ x ∷ reverse old
turned old new x last = ap reverse last ∙ reverse-append old (x ∷ [])

pub drawn_more : (region : Region) (before now : List Bool) (old new : List Cell) (f : FrameView) → new ≡ old ++ cell.Free f ∷ [] → f.region ≡ region
    → slice_get now f.number ≡ Some true → IsDrawn region before now (reverse old) → IsDrawn region before (set now f.number false) (reverse new)
drawn_more region before now old new f last own was h =
    subst (λ l. IsDrawn region before (set now f.number false) l) (sym (turned old new (cell.Free f) last))
    (f, refl, own, subst (λ l. IsDrawn region before l (reverse old)) (sym (set-set now f.number false true ∙ set_same now f.number true was)) h)

pub drawn_less : (region : Region) (before now : List Bool) (old new : List Cell) (x : Cell) → new ≡ old ++ x ∷ [] → IsDrawn region before now (reverse new)
    → (f : FrameView) × (x ≡ cell.Free f) × (f.region ≡ region) × IsDrawn region before (set now f.number true) (reverse old)
drawn_less region before now old new x last h = subst (λ l. IsDrawn region before now l) (turned old new x last) h

abbrev frame_in : Cell → FrameView
frame_in (cell.Free f) = f
frame_in (cell.Filled e) = e.frame
frame_in cell.Empty = record { region = record { block = 0; start = 0; stride = 0; size = 0; count = 0 }; number = 0; bytes = [] }

pub same_frame : (x : Cell) (f g : FrameView) → x ≡ cell.Free f → x ≡ cell.Free g → f ≡ g
same_frame x f g one two = ap frame_in (sym one ∙ two)

-- with none left, the pool is as it was
pub drawn_none : (region : Region) (before now : List Bool) (xs : List Cell) → length xs ≡ 0 → IsDrawn region before now (reverse xs) → now ≡ before
drawn_none region before now [] none h = h
drawn_none region before now (x ∷ xs) none h = absurd (omega (arith, none))
