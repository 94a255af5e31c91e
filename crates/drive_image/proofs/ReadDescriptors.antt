-- A descriptor whose state and kind are known is read where its write pointer has a place.
use Rattle.std.proofs.Common.{◌≡◌, ℕ, Bool, true, false, cond, eqb, Option, Some, None, Result, Ok, Err, List, length, refl, ap, ◌∙◌}
use Rattle.std.specs.Int.{w64}
use Rattle.std.specs.List.{slice_index}
use Rattle.std.specs.Option.{is_some, option_map_or}
use Rattle.std.specs.Result.{is_ok, result_map_both}
use Rattle.std.proofs.lemmas.Bool.{cond-true, eq-eqb}
use Rattle.pblk_model.specs.declared.chunk.ChunkState.{ChunkState}
use Rattle.pblk_model.specs.declared.chunk.DescriptorErr.TheVariants as errors
use Rattle.pblk_model.specs.Bytes.{number_at}
use Rattle.pblk_model.specs.Descriptor.{Descriptor, descriptor_in, of_state, pointer_holds, read_descriptor, state_in, unless_astray}

ok_chosen : (b : Bool) (d : Descriptor) → is_ok (cond b (Ok d) (Err errors.Pointer)) ≡ b
ok_chosen true d = refl
ok_chosen false d = refl

ok_of_state : (bytes : List ℕ) (clba : ℕ) (state : Option ChunkState) → is_some state ≡ true → slice_index bytes 1 ≡ 1 → number_at w64 16 bytes ≡ clba
    → is_ok (of_state bytes state) ≡ option_map_or (λ state. pointer_holds state clba (number_at w64 24 bytes)) state true
ok_of_state bytes clba None some kind blocks = absurd cc
ok_of_state bytes clba (Some state) some kind blocks =
    ap is_ok (cond-true (eqb (slice_index bytes 1) 1) (unless_astray (descriptor_in state bytes)) (Err errors.Kind) (eq-eqb (slice_index bytes 1) 1 kind))
    ∙ (ok_chosen (pointer_holds state (number_at w64 16 bytes) (number_at w64 24 bytes)) (descriptor_in state bytes)
    ∙ ap (λ n. pointer_holds state n (number_at w64 24 bytes)) blocks)

pub read_at_place : (bytes : List ℕ) (clba : ℕ) → length bytes ≡ 32 → is_some (state_in (slice_index bytes 0)) ≡ true → slice_index bytes 1 ≡ 1
    → number_at w64 16 bytes ≡ clba
    → is_ok (read_descriptor bytes) ≡ option_map_or (λ state. pointer_holds state clba (number_at w64 24 bytes)) (state_in (slice_index bytes 0)) true
read_at_place bytes clba size state kind blocks =
    ap is_ok (cond-true (eqb (length bytes) 32) (of_state bytes (state_in (slice_index bytes 0))) (Err errors.Length) (eq-eqb (length bytes) 32 size))
    ∙ ok_of_state bytes clba (state_in (slice_index bytes 0)) state kind blocks

pub ok_of_both : {T U E : Type 0} (f : T → U) (r : Result T E) → is_ok (result_map_both f (λ e. e) r) ≡ is_ok r
ok_of_both f (Ok x) = refl
ok_of_both f (Err e) = refl
