-- The states of chunks, and how many records there are.
use Rattle.std.proofs.Common.{◌≡◌, ℕ, ◌+◌, ◌<◌, ◌≤◌, List, [], ◌∷◌, ◌++◌, length, map, take, get_or, Option, Some, sym, ap, ◌∙◌, arith, append_assoc, append-nil}
use Rattle.std.specs.List.{AllByRecursion, filter_map, flat_map, slice_get}
use Rattle.std.specs.Option.{option_and_then, IfSome}
use Rattle.std.proofs.lemmas.Option.{slice_get_within, get_or_from_slice_get}
use Rattle.pblk_model.specs.declared.chunk.ChunkState.{ChunkState}
use Rattle.pblk_model.specs.Chunk.{Chunk}
use Rattle.pblk_model.specs.Image.{Image, IsFit}
use Rattle.world_laws.specs.Finding.{taken_state}
use Rattle.scan_recovery.specs.Units.{IsStateOf}
use Rattle.scan_recovery.proofs.Tables.{map_take_one}
use Rattle.pblk_model.proofs.Maps.{all_cons_option}
use Rattle.pblk_model.proofs.Parts.{all_get, take_all}
use Rattle.pblk_model.proofs.TableLemmas.{take_one}

-- States.

abbrev pub states_of : List Chunk → List ChunkState
states_of media = map (λ c. taken_state c.state) media

pub states_more : (i : Image) (line unit : ℕ) (media : List Chunk) (state : ChunkState) (old front now : List ChunkState) → slice_get i.units unit ≡ Some media
    → IsStateOf i line unit state → now ≡ front ++ taken_state state ∷ []
    → front ≡ old ++ states_of (take line media) → now ≡ old ++ states_of (take (line + 1) media)
states_more i line unit media state old front now there (c, chunk, is) now-is front-is =
    let here : slice_get media line ≡ Some c = sym (ap (option_and_then (λ chunks. slice_get chunks line)) there) ∙ chunk in
    let inside : line < length media = slice_get_within media line c here in
    let last : get_or media line c ≡ c = get_or_from_slice_get media line c c here in
    now-is ∙ ap (λ xs. xs ++ taken_state state ∷ []) front-is ∙ append_assoc old (states_of (take line media)) (taken_state state ∷ [])
    ∙ ap (λ xs. old ++ xs) (ap (λ st. states_of (take line media) ++ taken_state st ∷ []) is
    ∙ sym (map_take_one (λ (c : Chunk). taken_state c.state) media line c inside ∙ ap (λ x. states_of (take line media) ++ taken_state x.state ∷ []) last))

pub states_done : (i : Image) (line unit : ℕ) (media : List Chunk) (old now : List ChunkState) → IsFit i → slice_get i.units unit ≡ Some media
    → i.shape.chunks ≤ line → now ≡ old ++ states_of (take line media) → now ≡ old ++ states_of media
states_done i line unit media old now fit there past now-is =
    let count : length media ≡ i.shape.chunks = all_get (λ unit. length unit ≡ i.shape.chunks) i.units unit media fit.chunks there in
    now-is ∙ ap (λ xs. old ++ states_of xs) (take_all media line (omega arith))

flat_last : {X Y : Type 0} (f : X → List Y) (xs : List X) (x : X) → flat_map f (xs ++ x ∷ []) ≡ flat_map f xs ++ f x
flat_last f [] x = append-nil (f x)
flat_last f (y ∷ xs) x = ap (λ zs. f y ++ zs) (flat_last f xs x) ∙ sym (append_assoc (f y) (flat_map f xs) (f x))

pub units_more : (us : List (List Chunk)) (unit : ℕ) (front now : List ChunkState) → unit < length us → now ≡ front ++ states_of (get_or us unit [])
    → front ≡ flat_map states_of (take unit us) → now ≡ flat_map states_of (take (unit + 1) us)
units_more us unit front now inside now-is front-is =
    now-is ∙ ap (λ xs. xs ++ states_of (get_or us unit [])) front-is
    ∙ sym (ap (flat_map states_of) (take_one us unit [] inside) ∙ flat_last states_of (take unit us) (get_or us unit []))

pub units_done : (us : List (List Chunk)) (unit : ℕ) (now : List ChunkState) → length us ≤ unit → now ≡ flat_map states_of (take unit us)
    → now ≡ flat_map states_of us
units_done us unit now past now-is = now-is ∙ ap (flat_map states_of) (take_all us unit past)

-- Records.

pub kept_all : {X Y : Type 0} (P : Y → Type 0) (f : X → Option Y) (xs : List X) → ((x : X) → IfSome (f x) P) → AllByRecursion P (filter_map f xs)
kept_all P f [] h = tt
kept_all P f (x ∷ xs) h = all_cons_option P (f x) (filter_map f xs) (h x) (kept_all P f xs h)
