-- The tables of a core that was made of what recovery found have a row of each line.
use Rattle.std.proofs.Common.{◌≡◌, ◌⊎◌, inl, inr, ℕ, ◌+◌, ◌^◌, ◌<◌, Some, None, Option, List, [], ◌∷◌, cond, length, refl, sym, subst, ap, ◌∙◌, is_some}
use Rattle.std.specs.Prelude.{slice_get}
use Rattle.std.specs.List.{cons_option, filter, filter_map, range_with_len}
use Rattle.std.proofs.lemmas.Option.{none-some}
use Rattle.std.proofs.lemmas.List.{length-map}
use Rattle.pblk_model.specs.declared.chunk.ChunkState.{ChunkState}
use Rattle.pblk_model.specs.declared.chunk.ChunkState.TheVariants as states
use Rattle.pblk_model.specs.declared.found.Found.{Found}
use Rattle.pblk_model.specs.declared.shape.Shape.{Shape}
use Rattle.pblk_model.specs.Found.{IsFitFound, online_unit, state_at}
use Rattle.pblk_model.specs.Shape.{units}
use Rattle.core_laws.specs.OnlineUnits.{online_bits}
use Rattle.core_laws.specs.OpenedLines.{bits_of}
use Rattle.core_laws.proofs.UnitBits.{kept_below}
use Rattle.pblk_model.proofs.Maps.{length_mapped, row_at}
use Rattle.pblk_core.specs.declared.target_core.Core.{Core}
use Rattle.pblk_core.specs.Collecting.{IsTabled}
use Rattle.pblk_core.specs.LineNotes.{note_found}
use Rattle.pblk_core.specs.Made.{IsMadeOn}

-- ---- the bits of the online units of a line

-- what is made of a number is that number, or nothing
made_kept : (give : ℕ → Option ℕ) → ((u : ℕ) → (give u ≡ None) ⊎ (give u ≡ Some u)) → (xs : List ℕ)
    → filter_map give xs ≡ filter (λ u. is_some (give u)) xs
made_kept give own [] = refl
made_kept give own (x ∷ xs) = go (own x) (made_kept give own xs)
  where
    go : (give x ≡ None) ⊎ (give x ≡ Some x) → filter_map give xs ≡ filter (λ u. is_some (give u)) xs
        → cons_option (give x) (filter_map give xs) ≡ cond (is_some (give x)) (x ∷ filter (λ u. is_some (give u)) xs) (filter (λ u. is_some (give u)) xs)
    go (inl none) rest =
        ap (λ o. cons_option o (filter_map give xs)) none ∙ rest
        ∙ sym (ap (λ o. cond (is_some o) (x ∷ filter (λ u. is_some (give u)) xs) (filter (λ u. is_some (give u)) xs)) none)
    go (inr some) rest =
        ap (λ o. cons_option o (filter_map give xs)) some ∙ ap (λ ys. x ∷ ys) rest
        ∙ sym (ap (λ o. cond (is_some o) (x ∷ filter (λ u. is_some (give u)) xs) (filter (λ u. is_some (give u)) xs)) some)

own_unit : (o : Option ChunkState) (unit : ℕ) → (online_unit o unit ≡ None) ⊎ (online_unit o unit ≡ Some unit)
own_unit None unit = inl refl
own_unit (Some states.Free) unit = inr refl
own_unit (Some states.Open) unit = inr refl
own_unit (Some states.Closed) unit = inr refl
own_unit (Some states.Offline) unit = inl refl

online_below : (s : Shape) (f : Found) (line : ℕ) → online_bits s f line < 2 ^ units s
online_below s f line = subst (λ us. bits_of us < 2 ^ units s)
    (sym (made_kept (λ unit. online_unit (state_at s f line unit) unit) (λ unit. own_unit (state_at s f line unit) unit) (range_with_len 0 (units s))))
    (kept_below (λ unit. is_some (online_unit (state_at s f line unit) unit)) (units s))

-- ---- the tables

pub made_tabled : (s : Shape) (f : Found) (c : Core) → IsFitFound s f → IsMadeOn s f c → IsTabled c
made_tabled s f c fit is =
    let chunks = ap (λ (x : Shape). x.chunks) (sym is.layout) in
    record {
      each = record {
        rows = is.lines.lines ∙ chunks;
        noted = ap length is.notes ∙ length-map f.lines note_found ∙ fit.lines ∙ chunks;
        online = ap length is.online ∙ length_mapped (online_bits s f) 0 s.chunks ∙ chunks;
        few = λ line live there.
            let row = row_at (online_bits s f) s.chunks 0 line live (ap (λ us. slice_get us line) (sym is.online) ∙ there) in
            subst (λ (x : Shape). live < 2 ^ units x) (sym is.layout) (subst (λ n. n < 2 ^ units s) row.1 (online_below s f (0 + line)));
      };
      count = is.lines_held ∙ chunks;
      in_range = λ line at_work. absurd (none-some line (sym is.none_at_work ∙ at_work));
    }
