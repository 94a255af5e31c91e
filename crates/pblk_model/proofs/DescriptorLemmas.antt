-- Lemmas on the words of Descriptor.
use Rattle.std.proofs.Common.{Err, List, Ok, Some, ap, eqb, length, ltb, not, refl, true, ℕ, ◌∙◌, ◌≡◌}
use Rattle.std.proofs.lemmas.Bool.{and_parts, cond-true, eq-eqb, eqb-true, leb-true}
use Rattle.std.specs.Int.{w64}
use Rattle.std.specs.List.{slice_index}
use Rattle.pblk_model.proofs.Tests.{below_of, some_of}
use Rattle.pblk_model.specs.Bytes.{number_at, zeros}
use Rattle.pblk_model.specs.Chunk.{PointerFits}
use Rattle.pblk_model.specs.Descriptor.{Descriptor, descriptor_in, of_state, pointer_holds, read_descriptor, spelled, state_code, state_in, unless_astray}
use Rattle.pblk_model.specs.declared.chunk.ChunkState.{ChunkState}
use Rattle.pblk_model.specs.declared.chunk.ChunkState.TheVariants.{Closed, Free, Offline, Open}
use Rattle.pblk_model.specs.declared.chunk.DescriptorErr.TheVariants as errors

pub reads : (d : List ℕ) (state : ChunkState) (clba : ℕ) → length d ≡ 32 → state_in (slice_index d 0) ≡ Some state → slice_index d 1 ≡ 1
    → number_at w64 16 d ≡ clba
    → pointer_holds state clba (number_at w64 24 d) ≡ true → read_descriptor d ≡ Ok (descriptor_in state d)
reads d state clba size is kind blocks holds =
    cond-true (eqb (length d) 32) (of_state d (state_in (slice_index d 0))) (Err errors.Length) (eq-eqb (length d) 32 size)
    ∙ (ap (of_state d) is
    ∙ (cond-true (eqb (slice_index d 1) 1) (unless_astray (descriptor_in state d)) (Err errors.Kind) (eq-eqb (slice_index d 1) 1 kind)
    ∙ cond-true (pointer_holds state (number_at w64 16 d) (number_at w64 24 d)) (Ok (descriptor_in state d)) (Err errors.Pointer)
    (ap (λ n. pointer_holds state n (number_at w64 24 d)) blocks ∙ holds)))

pub descriptor_length : (d : Descriptor) → length (spelled d) ≡ 32
unfolding zeros
descriptor_length d = refl

pub state_back : (s : ChunkState) → state_in (state_code s) ≡ Some s
state_back Free = refl
state_back Closed = refl
state_back Open = refl
state_back Offline = refl

pub pointer_fits : (s : ChunkState) (clba wp : ℕ) → pointer_holds s clba wp ≡ true → PointerFits s clba wp
pointer_fits Free clba wp h = eqb-true wp 0 h
pointer_fits Open clba wp h =
    let both = and_parts (not (eqb wp 0)) (ltb wp clba) h in
    (some_of wp both.0, below_of wp clba both.1)
pointer_fits Closed clba wp h = leb-true wp clba h
pointer_fits Offline clba wp h = eqb-true wp 0 h
