-- States and write pointers, one more each time.
use Rattle.std.proofs.Common.{◌≡◌, ℕ, ◌+◌, ◌<◌, List, [], ◌∷◌, ◌++◌, length, map, max, take, drop, get_or, Some, slice_get, sym, ap, ◌∙◌, add-one}
use Rattle.std.specs.List.{fold}
use Rattle.std.specs.Option.{option_map_or}
use Rattle.std.proofs.lemmas.List.{map-append}
use Rattle.pblk_model.proofs.Parts.{next_item, take_next}
use Rattle.pblk_model.specs.Chunk.{Chunk}
use Rattle.stripe_parity.specs.declared.kept.KeptChunk.{KeptChunk}
use Rattle.stripe_parity.specs.ParityFile.{kept_of, pointer_in}

pub one_kept : (media : List Chunk) (n : ℕ) (old new : List KeptChunk) (c : Chunk) (k : KeptChunk) → old ≡ map kept_of (take n media)
    → slice_get media n ≡ Some c → k ≡ kept_of c
    → new ≡ old ++ k ∷ [] → new ≡ map kept_of (take (n + 1) media)
one_kept media n old new c k are there is added =
    added ∙ ap (λ ks. ks ++ k ∷ []) are ∙ ap (λ x. map kept_of (take n media) ++ x ∷ []) is
    ∙ sym (map-append kept_of (take n media) (c ∷ []))
    ∙ ap (map kept_of) (sym (take_next media n c there) ∙ ap (λ m. take m media) (sym (add-one n)))

-- the greatest, with one unit more
pub most_next : {V : Type 0} (items : V → List KeptChunk) (kept : List V) (chunk i most next : ℕ) (v : V) (k : KeptChunk) → i < length kept
    → v ≡ get_or kept i v
    → slice_get (items v) chunk ≡ Some k → next ≡ max most k.pointer
    → fold max next (map (pointer_in chunk) (map items (drop (i + 1) kept))) ≡ fold max most (map (pointer_in chunk) (map items (drop i kept)))
most_next items kept chunk i most next v k inside at there is =
    let rest = map (pointer_in chunk) (map items (drop (i + 1) kept)) in
    ap (λ n. fold max n rest) (is ∙ ap (λ o. max most (option_map_or (λ (x : KeptChunk). x.pointer) o 0)) (sym there))
    ∙ ap (λ vs. fold max most (map (pointer_in chunk) (map items vs))) (sym (next_item kept i v inside at))
