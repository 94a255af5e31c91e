-- What fits a shape.
use Rattle.std.proofs.Common.{◌≡◌, ◌≢◌, ℕ, ◌+◌, ◌*◌, ◌^◌, ◌<◌, true, Some, None, Option, [], length, refl, sym, subst, ap, ◌∙◌, arith}
use Rattle.std.specs.Prelude.{slice_get}
use Rattle.std.specs.List.{Contains}
use Rattle.std.proofs.lemmas.Option.{same_Some, none-some, slice_get_within}
use Rattle.pblk_model.specs.declared.shape.Shape.{Shape}
use Rattle.pblk_model.specs.declared.found.Found.{Found}
use Rattle.pblk_model.specs.declared.found.LineRow.{LineRow}
use Rattle.pblk_model.specs.declared.chunk.ChunkState.{ChunkState}
use Rattle.pblk_model.specs.declared.chunk.ChunkState.TheVariants as states
use Rattle.pblk_model.specs.Found.{HasUsed, IsFitFound, IsUsed, RowFits, HeadFits}
use Rattle.pblk_model.specs.Shape.{units}
use Rattle.line_table.specs.Rows.{Table}
use Rattle.core_laws.specs.OpeningTables.{IsOpeningTable}
use Rattle.pblk_model.proofs.Lists.{contains_none}
use Rattle.pblk_model.proofs.Parts.{is_in}
use Rattle.pblk_core.specs.Resets.{is_used_at, is_used_state, used_below}
use Rattle.world_laws.proofs.NumberedLists.{passes}

pub stray_inside : (s : Shape) (f : Found) (k line : ℕ) → IsFitFound s f → slice_get f.strays k ≡ Some line → line < s.chunks
stray_inside s f k line fit there =
    let row = fit.strays line (is_in f.strays k line there) in
    subst (λ n. line < n) fit.lines (slice_get_within f.lines line row.0 row.1)

-- it has a used chunk
used_state : (state : ChunkState) → IsUsed state → is_used_state state ≡ true
used_state states.Free is = absurd is
used_state states.Open is = refl
used_state states.Closed is = refl
used_state states.Offline is = absurd is

pub stray_used : (s : Shape) (f : Found) (k line : ℕ) → IsFitFound s f → slice_get f.strays k ≡ Some line → used_below s f.chunks line (units s) ≢ []
stray_used s f k line fit there none =
    let row = fit.strays line (is_in f.strays k line there) in
    let used : HasUsed s f line = row.3 in
    contains_none used.0 (subst (λ us. Contains us used.0) none
    (passes (λ unit. is_used_at (slice_get f.chunks (unit * s.chunks + line))) 0 (units s) used.0 (omega arith) (let inside = used.2 in omega arith)
    (ap is_used_at used.3 ∙ used_state used.1 used.4)))

pub head_inside : (s : Shape) (f : Found) (line : ℕ) → IsFitFound s f → f.head ≡ Some line → line < length f.lines
head_inside s f line fit is = go f.head is fit.head
  where
    go : (o : Option ℕ) → o ≡ Some line → HeadFits f o → line < length f.lines
    go None e fits = absurd (none-some line e)
    go (Some head) e fits = slice_get_within f.lines line fits.0 (ap (slice_get f.lines) (sym (same_Some head line e)) ∙ fits.2)

pub small_seq : (s : Shape) (f : Found) (line seq : ℕ) (row : LineRow) → IsFitFound s f → slice_get f.lines line ≡ Some row → row.seq ≡ Some seq → seq < 2 ^ 61
small_seq s f line seq row fit there is = go row.seq is (fit.rows line row there)
  where
    go : (o : Option ℕ) → o ≡ Some seq → RowFits s f line row o → seq < 2 ^ 61
    go None e fits = absurd (none-some seq e)
    go (Some n) e fits = subst (λ m. m < 2 ^ 61) (same_Some n seq e) fits.1

-- a table of lines of the shape that the layout has
pub opening_table : (s t : Shape) (f : Found) (table : Table) → s ≡ t → IsOpeningTable s f table → IsOpeningTable t f table
opening_table s t f table same is = subst (λ (x : Shape). IsOpeningTable x f table) same is
