-- What a program lands that meets a fault.
use Rattle.std.proofs.Common.{◌≡◌, ℕ, zero, suc, ◌*◌, ◌/◌, ◌-◌, ◌<◌, ◌≤◌, min, List, length, take, refl, ap, arith, None}
use Rattle.std.proofs.lemmas.Bool.Decides.{nat_tests}
use Rattle.std.proofs.Math.Nat.{mul-le-mul_right, mul-lt-mul_of_pos_right}
use Rattle.ocssd_chunks.specs.DriveChunk.{DriveChunk}
use Rattle.pblk_model.specs.declared.shape.Shape.{Shape}
use Rattle.pblk_model.specs.declared.chunk.Mark.{Mark}
use Rattle.pblk_model.specs.Blocks.{blocks_of}
use Rattle.pblk_model.specs.Chunk.{Chunk, Block, pointer}
use Rattle.pblk_model.specs.declared.chunk.ChunkState.{ChunkState}
use Rattle.pblk_model.specs.declared.chunk.ChunkState.TheVariants as states
use Rattle.pblk_model.specs.ChunkStep.{Write, refusal, place_refusal, write_refusal_in, appended, closed_after}
use Rattle.pblk_model.specs.UnitLog.{Failed, Stopped, IsOutcome, after_outcome}
use Rattle.ocssd_drive.specs.declared.fault.Fault.TheVariants as faults
use Rattle.ocssd_drive.specs.Units.{IsChunkIn, IsWrite, MeetsFault}
use Rattle.pblk_model.proofs.BlocksLemmas.{length-blocks_of}

place_of : (s : Shape) (wp at n : ℕ) → place_refusal s wp at n ≡ None → IsWrite s n
place_of s wp at n e = record { some = grind (arith, nat_tests); multiple = grind (arith, nat_tests); within = grind (arith, nat_tests) }

write_in : (s : Shape) (state : ChunkState) (wp at n : ℕ) → write_refusal_in s state wp at n ≡ None → IsWrite s n
write_in s states.Free wp at n e = place_of s wp at n e
write_in s states.Open wp at n e = place_of s wp at n e
write_in s states.Closed wp at n e = cc
write_in s states.Offline wp at n e = cc

-- a write that isn't refused
pub write_of : (s : Shape) (c : Chunk) (at : ℕ) (bytes : List ℕ) (marks : List Mark) → refusal s c (Write at (blocks_of s.sector bytes marks)) ≡ None → IsWrite s (length marks)
write_of s c at bytes marks r = rw (← length-blocks_of s.sector bytes marks) (write_in s c.state (pointer c) at (length (blocks_of s.sector bytes marks)) r)

-- n multiples of m blocks each; fewer multiples are fewer blocks
fewer : (n m k count : ℕ) → n * m ≡ count → 0 < count → 0 < n → k ≤ n - 1 → k * m < count
fewer n zero k count whole some positive few = absurd (omega arith)
fewer n (suc m) k count whole some positive few =
    let below : k < n = omega arith in
    rw (← whole) (mul-lt-mul_of_pos_right below (omega arith))

no_more : (n m k count : ℕ) → n * m ≡ count → k ≤ n → k * m ≤ count
no_more n m k count whole few = omega (arith, mul-le-mul_right m few)

-- so many multiples land of a program that fails, and of one within which the drive stops
pub fewer_land : (n m cut k count : ℕ) → n * m ≡ count → 0 < count → 0 < n → k ≡ min cut (n - 1) → k * m < count
fewer_land n m cut k count whole some positive least = fewer n m k count whole some positive (omega arith)

pub most_land : (n m cut k count : ℕ) → n * m ≡ count → k ≡ min cut n → k * m ≤ count
most_land n m cut k count whole least = no_more n m k count whole (omega arith)

-- the multiples of a program that fails, and of one within which the drive stops
pub fails : (s : Shape) (found left : DriveChunk) (at cut n k : ℕ) (blocks : List Block) → refusal s found.chunk (Write at blocks) ≡ None → n ≡ length blocks / s.ws_min → k ≡ min cut (n - 1) → k * s.ws_min < length blocks → left.chunk ≡ closed_after s found.chunk blocks k → IsChunkIn s left
    → MeetsFault s found (Write at blocks) (faults.Fails cut) (Failed k) left
fails s found left at cut n k blocks taken quotient least part after chunk = record {
  by = ap Failed (cc);
  told = (taken, part);
  after = after;
  fits = chunk;
}

told_stop : (s : Shape) (c : Chunk) (at k : ℕ) (blocks : List Block) → refusal s c (Write at blocks) ≡ None → k * s.ws_min ≤ length blocks → IsOutcome s c (Write at blocks) (Stopped k)
told_stop s c at zero blocks taken part = tt
told_stop s c at (suc k) blocks taken part = (taken, part)

left_stop : (s : Shape) (c new : Chunk) (at k : ℕ) (blocks : List Block) → (k ≡ 0 → new ≡ c) → (0 < k → new ≡ appended s c (take (k * s.ws_min) blocks)) → new ≡ after_outcome s c (Write at blocks) (Stopped k)
left_stop s c new at zero blocks none some = none refl
left_stop s c new at (suc k) blocks none some = some (omega arith)

pub stops : (s : Shape) (found left : DriveChunk) (at cut n k : ℕ) (blocks : List Block) → refusal s found.chunk (Write at blocks) ≡ None → n ≡ length blocks / s.ws_min → k ≡ min cut n → k * s.ws_min ≤ length blocks → (k ≡ 0 → left ≡ found) → (0 < k → left.chunk ≡ appended s found.chunk (take (k * s.ws_min) blocks)) → IsChunkIn s left
    → MeetsFault s found (Write at blocks) (faults.Stops cut) (Stopped k) left
stops s found left at cut n k blocks taken quotient least part none some chunk = record {
  by = ap Stopped (cc);
  told = told_stop s found.chunk at k blocks taken part;
  after = left_stop s found.chunk left.chunk at k blocks (λ h. ap (λ (c : DriveChunk). c.chunk) (none h)) some;
  fits = chunk;
}
