-- One address more is reset.
use Rattle.std.proofs.Common.{ℕ, ◌+◌, ◌<◌, ◌≡◌, Bool, false, List, [], ◌∷◌, ◌++◌, length, slice_index_or, refl, subst}
use Rattle.pblk_model.specs.declared.shape.Address.{Address}
use Rattle.pblk_model.specs.ChunkStep.{Reset}
use Rattle.pblk_model.specs.Geometry.{Geometry}
use Rattle.unit_port.specs.Unit.{ModelUnit}
use Rattle.vector_io.specs.Addresses.{IsVector}
use Rattle.unit_port.specs.Commands.{EventAt, AreKept}
use Rattle.unit_port.specs.Did.{Did, failed_or_stopped, is_empty}
use Rattle.vector_io.specs.Plans.{unit_of, reset_of, resets, AreFirstBlocks}
use Rattle.vector_io.specs.Status.{HasBits}
use Rattle.vector_io.proofs.Chunks.{map_there, resets_spare}
use Rattle.vector_io.proofs.UnderWay.{IsUnderWay, one_done, one_bit_more, no_bit_more}

more : (g : Geometry) (xs : List Address) (old ms new : List ModelUnit) (n failed failed' : ℕ) (d : Address) (lost : Bool) (e : EventAt) → IsVector g xs
    → AreFirstBlocks xs → n < length xs
    → IsUnderWay old (resets g xs) n n failed 0 ms → Did ms (reset_of g (slice_index_or xs n d)) e new → lost ≡ failed_or_stopped e.event.outcome
    → is_empty e.event.outcome ≡ false → AreKept ms new
    → ((flags : List Bool) → length flags ≡ n → HasBits failed flags → HasBits failed' (flags ++ lost ∷ []))
    → IsUnderWay old (resets g xs) (n + 1) (n + 1) failed' 0 new
more g xs old ms new n failed failed' d lost e v firsts within h did is unset kept bits =
    one_done old (resets g xs) n n failed 0 ms (reset_of g (slice_index_or xs n d)) e new failed' 0 1 h (map_there (reset_of g) xs n d within) did kept
    (resets_spare g xs n d e v firsts within did.command) refl (one_bit_more n failed failed' lost (failed_or_stopped e.event.outcome) bits is)
    (no_bit_more n 0 (is_empty e.event.outcome) unset)

pub reset_more : (g : Geometry) (xs : List Address) (old ms new : List ModelUnit) (n failed failed' unit : ℕ) (d : Address) (lost : Bool) → IsVector g xs
    → AreFirstBlocks xs → n < length xs
    → IsUnderWay old (resets g xs) n n failed 0 ms → unit ≡ unit_of g (slice_index_or xs n d)
    → (e : EventAt) × Did ms (record { unit = unit; chunk = (slice_index_or xs n d).chunk; command = Reset }) e new × (lost ≡ failed_or_stopped e.event.outcome)
    × (is_empty e.event.outcome ≡ false) → AreKept ms new
    → ((flags : List Bool) → length flags ≡ n → HasBits failed flags → HasBits failed' (flags ++ lost ∷ []))
    → IsUnderWay old (resets g xs) (n + 1) (n + 1) failed' 0 new
reset_more g xs old ms new n failed failed' unit d lost v firsts within h is did kept bits =
    more g xs old ms new n failed failed' d lost did.0 v firsts within h
    (subst (λ u. Did ms (record { unit = u; chunk = (slice_index_or xs n d).chunk; command = Reset }) did.0 new) is did.1) did.2 did.3 kept bits
