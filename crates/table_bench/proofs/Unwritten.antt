-- The findings on a drive whose chunks are all Free fit it.
use Rattle.std.proofs.Common.{◌≡◌, ℕ, ◌+◌, ◌*◌, zero, suc, false, Some, None, List, [], replicate, refl, sym, subst, ap, ◌∙◌, arith}
use Rattle.std.proofs.lemmas.List.{length-replicate}
use Rattle.std.proofs.lemmas.Option.{same_Some}
use Rattle.std.specs.List.{slice_get}
use Rattle.pblk_model.specs.declared.shape.Shape.{Shape}
use Rattle.pblk_model.specs.declared.chunk.ChunkState.{ChunkState}
use Rattle.pblk_model.specs.declared.chunk.ChunkState.TheVariants.{Free, Open}
use Rattle.pblk_model.specs.declared.found.Found.{Found}
use Rattle.pblk_model.specs.declared.found.LineRow.{LineRow}
use Rattle.pblk_model.specs.declared.found.Winner.{Winner}
use Rattle.pblk_model.specs.Shape.{units}
use Rattle.pblk_model.specs.Found.{IsFitFound, RowFits, HasUsed, IsUsed}

abbrev pub unused : LineRow
unused = record { seq = None; bound = 0; top = 0; full = false; young = false }

abbrev pub found : List Winner → List ℕ → List ChunkState → List LineRow → Found
found winners strays chunks lines = record { winners = winners; head = None; front = 0; end = 0; strays = strays; chunks = chunks; lines = lines }

abbrev blank : Shape → Found
blank s = found [] [] (replicate (units s * s.chunks) Free) (replicate s.chunks unused)

-- each of the copies of a value is that value
one_of : {X : Type 0} (n k : ℕ) (x y : X) → slice_get (replicate n x) k ≡ Some y → y ≡ x
one_of zero k x y is = absurd cc
one_of (suc n) zero x y is = sym (same_Some x y is)
one_of (suc n) (suc k) x y is = one_of n k x y is

none_used : (s : Shape) (line : ℕ) → HasUsed s (blank s) line → ⊥
none_used s line has = subst IsUsed (one_of (units s * s.chunks) (has.0 * s.chunks + line) Free has.1 has.3) has.4

blank_fits : (s : Shape) → IsFitFound s (blank s)
blank_fits s = record {
  lines = length-replicate s.chunks unused;
  chunks = length-replicate (units s * s.chunks) Free;
  no_open = λ n is. absurd (cc (one_of (units s * s.chunks) n Free Open is));
  end = omega arith;
  front = omega arith;
  rows = λ line row is. subst (λ (r : LineRow). RowFits s (blank s) line r r.seq) (sym (one_of s.chunks line unused row is)) (refl, refl);
  head = λ line row is. ap (λ (r : LineRow). r.seq) (one_of s.chunks line unused row is);
  strays_rise = tt;
  strays = λ line has. absurd (omega (arith, has.1));
  all_strays = λ line row is none has. absurd (none_used s line has);
  winners_rise = λ j k v w below v-is w-is. absurd cc;
  winners = λ k w is. absurd cc;
  apart = λ j k v w v-is w-is. absurd cc;
}

-- whatever lists are equal to these
pub fits_as : (s : Shape) (winners : List Winner) (strays : List ℕ) (chunks : List ChunkState) (lines : List LineRow) → winners ≡ [] → strays ≡ []
    → chunks ≡ replicate (units s * s.chunks) Free → lines ≡ replicate s.chunks unused → IsFitFound s (found winners strays chunks lines)
fits_as s winners strays chunks lines p q r t =
    subst (λ ws. IsFitFound s (found ws strays chunks lines)) (sym p)
    (subst (λ ss. IsFitFound s (found [] ss chunks lines)) (sym q)
    (subst (λ cs. IsFitFound s (found [] [] cs lines)) (sym r)
    (subst (λ ls. IsFitFound s (found [] [] (replicate (units s * s.chunks) Free) ls)) (sym t) (blank_fits s))))

pub chunk_count : (s t : Shape) (n : ℕ) → t ≡ s → n ≡ units t → n * t.chunks ≡ units s * s.chunks
chunk_count s t n same is = ap (λ m. m * t.chunks) is ∙ ap (λ (r : Shape). units r * r.chunks) same
