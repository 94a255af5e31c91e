-- A unit's chunk as it is kept.
use Rattle.std.proofs.Common.{◌≡◌, ℕ, zero, suc, Some, List, [], ◌∷◌, slice_get, ap, ◌∙◌}
use Rattle.std.specs.List.{zip}
use Rattle.std.specs.Option.{option_map}
use Rattle.std.proofs.lemmas.Option.{none-some, same_Some, slice_get-map}
use Rattle.pblk_model.specs.Chunk.{Chunk}
use Rattle.pblk_model.specs.ImageFile.{StoredChunk}
use Rattle.ocssd_drive.specs.Units.{WornUnit, stored_chunks}

zip_get : {X Y : Type 0} (xs : List X) (ys : List Y) (i : ℕ) (x : X) (y : Y) → slice_get xs i ≡ Some x → slice_get ys i ≡ Some y
    → slice_get (zip xs ys) i ≡ Some (x, y)
zip_get [] ys i x y is other = absurd (none-some x is)
zip_get (a ∷ xs) [] i x y is other = absurd (none-some y other)
zip_get (a ∷ xs) (b ∷ ys) zero x y is other = ap (λ z. Some (z, b)) (same_Some a x is) ∙ ap (λ z. Some (x, z)) (same_Some b y other)
zip_get (a ∷ xs) (b ∷ ys) (suc i) x y is other = zip_get xs ys i x y is other

pub kept_get : (u : WornUnit) (i : ℕ) (c : Chunk) (w : ℕ) → slice_get u.unit.media i ≡ Some c → slice_get u.wear i ≡ Some w
    → slice_get (stored_chunks u) i ≡ Some (record { chunk = c; wear = w })
kept_get u i c w is worn =
    let f : Chunk × ℕ → StoredChunk = λ p. record { chunk = p.0; wear = p.1 } in
    slice_get-map f (zip u.unit.media u.wear) i ∙ ap (option_map f) (zip_get u.unit.media u.wear i c w is worn)
