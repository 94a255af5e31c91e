-- How wide a line is.
use Rattle.std.proofs.Common.{◌≡◌, ℕ, ◌+◌, ◌≤◌, Bool, true, false, cond, Option, Some, None, List, [], ◌∷◌, length, arith}
use Rattle.std.specs.List.{slice_get, filter_map, cons_option}
use Rattle.pblk_model.specs.Shape.{units}
use Rattle.pblk_model.specs.Chunk.{Chunk}
use Rattle.pblk_model.specs.Image.{Image, IsFit, is_online_in, width}
use Rattle.pblk_model.proofs.Maps.{filter_short}

cond_length : {X : Type 0} (b : Bool) (x : X) (xs : List X) (n : ℕ) → length xs ≤ n → length (cond b (x ∷ xs) xs) ≤ n + 1
cond_length true x xs n h = omega arith
cond_length false x xs n h = omega arith

option_length : {X : Type 0} (o : Option X) (xs : List X) (n : ℕ) → length xs ≤ n → length (cons_option o xs) ≤ n + 1
option_length None xs n h = omega arith
option_length (Some x) xs n h = omega arith

pub filter_map_length : {X Y : Type 0} (f : X → Option Y) (xs : List X) → length (filter_map f xs) ≤ length xs
filter_map_length f [] = omega arith
filter_map_length f (x ∷ xs) =
    let kept : length (filter_map f (x ∷ xs)) ≤ length xs + 1 = option_length (f x) (filter_map f xs) (length xs) (filter_map_length f xs) in
    omega arith

pub width_within : (i : Image) (line : ℕ) → IsFit i → width i line ≤ units i.shape
width_within i line fit =
    let online : width i line ≤ length (filter_map (λ (unit : List Chunk). slice_get unit line) i.units) =
    filter_short (λ (c : Chunk). is_online_in c.state) _ in
    let there : length (filter_map (λ (unit : List Chunk). slice_get unit line) i.units) ≤ length i.units =
    filter_map_length (λ (unit : List Chunk). slice_get unit line) i.units in
    let counted : length i.units ≡ units i.shape = fit.units in
    omega arith
