-- The units of a line are those whose chunks of it aren't Offline. What a program leaves is Offline
-- only where it was before.
use Rattle.std.proofs.Common.{◌≡◌, ℕ, ◌+◌, ◌<◌, zero, suc, nat_lt, Bool, true, false, cond, Some, None, Option, List, [], ◌∷◌, length, refl, sym, ap₂, ◌∙◌, arith, if◌then◌else◌}
use Rattle.std.specs.Prelude.{slice_get, map}
use Rattle.std.specs.List.{filter, enumerate_from}
use Rattle.std.specs.Option.{option_and_then, option_map_or}
use Rattle.pblk_model.specs.declared.shape.Shape.{Shape}
use Rattle.pblk_model.specs.declared.chunk.ChunkState.{ChunkState}
use Rattle.pblk_model.specs.declared.chunk.ChunkState.TheVariants as states
use Rattle.pblk_model.specs.Chunk.{Chunk, Block, pointer}
use Rattle.pblk_model.specs.ChunkStep.{Write, Done, Gave, Empty, Refused, write_refusal_in}
use Rattle.pblk_model.specs.UnitLog.{UnitOutcome, Answered, Failed, Stopped, IsOutcome, after_outcome}
use Rattle.pblk_model.specs.Image.{Image, is_online_in, line_units}
use Rattle.pblk_laws.specs.LineBlocks.{chunk_in}
use Rattle.pblk_laws.proofs.LineUnits.{units_of}

-- whether a chunk is there that isn't Offline
abbrev pub is_on : Option Chunk → Bool
is_on o = option_map_or (λ (c : Chunk). is_online_in c.state) o false

-- ---- a program

written_online : (s : Shape) (state : ChunkState) (wp at n : ℕ) → write_refusal_in s state wp at n ≡ None → is_online_in state ≡ true
written_online s states.Free wp at n e = refl
written_online s states.Open wp at n e = refl
written_online s states.Closed wp at n e = refl
written_online s states.Offline wp at n e = absurd cc

appended_online : (below : Bool) → is_online_in (if below then states.Open else states.Closed) ≡ true
appended_online true = refl
appended_online false = refl

pub online_after_write : (s : Shape) (c : Chunk) (at : ℕ) (blocks : List Block) (o : UnitOutcome) → IsOutcome s c (Write at blocks) o
    → is_online_in (after_outcome s c (Write at blocks) o).state ≡ is_online_in c.state
online_after_write s c at blocks (Answered Done) h =
    appended_online (nat_lt (pointer c + length blocks) s.clba) ∙ sym (written_online s c.state (pointer c) at (length blocks) h.1.0)
online_after_write s c at blocks (Answered (Gave b)) h = absurd h.1
online_after_write s c at blocks (Answered Empty) h = absurd h.1
online_after_write s c at blocks (Answered (Refused e)) h = absurd h.0
online_after_write s c at blocks (Failed k) h = sym (written_online s c.state (pointer c) at (length blocks) h.0)
online_after_write s c at blocks (Stopped zero) h = refl
online_after_write s c at blocks (Stopped (suc k)) h =
    appended_online (nat_lt _ s.clba) ∙ sym (written_online s c.state (pointer c) at (length blocks) h.0)

-- ---- the units of a line in two images

has_on : ℕ → List Chunk → Bool
has_on line cs = is_on (slice_get cs line)

numbers_of : (b : Bool) (n : ℕ) (cs : List Chunk) (rest : List (ℕ × List Chunk))
    → map (λ (u : ℕ × List Chunk). u.0) (cond b ((n, cs) ∷ rest) rest)
    ≡ cond b (n ∷ map (λ (u : ℕ × List Chunk). u.0) rest) (map (λ (u : ℕ × List Chunk). u.0) rest)
numbers_of true n cs rest = refl
numbers_of false n cs rest = refl

same_from : (line n : ℕ) (us vs : List (List Chunk)) → length us ≡ length vs
    → ((k : ℕ) → k < length us → option_map_or (has_on line) (slice_get us k) false ≡ option_map_or (has_on line) (slice_get vs k) false)
    → units_of line n us ≡ units_of line n vs
unfolding units_of has_on
same_from line n [] [] count same = refl
same_from line n [] (v ∷ vs) count same = absurd (omega arith)
same_from line n (u ∷ us) [] count same = absurd (omega arith)
same_from line n (u ∷ us) (v ∷ vs) count same =
    numbers_of (is_on (slice_get u line)) n u (filter (λ (x : ℕ × List Chunk). is_on (slice_get x.1 line)) (enumerate_from (n + 1) us))
    ∙ ap₂ (λ b xs. cond b (n ∷ xs) xs) (same 0 (omega arith)) (same_from line (n + 1) us vs (omega arith) (λ k below. same (suc k) (omega arith)))
    ∙ sym (numbers_of (is_on (slice_get v line)) n v (filter (λ (x : ℕ × List Chunk). is_on (slice_get x.1 line)) (enumerate_from (n + 1) vs)))

on_by : (line : ℕ) (o : Option (List Chunk)) → option_map_or (has_on line) o false ≡ is_on (option_and_then (λ (chunks : List Chunk). slice_get chunks line) o)
unfolding has_on
on_by line None = refl
on_by line (Some cs) = refl

pub same_units : (a b : Image) (line : ℕ) → length a.units ≡ length b.units
    → ((unit : ℕ) → unit < length a.units → is_on (chunk_in a line unit) ≡ is_on (chunk_in b line unit)) → line_units a line ≡ line_units b line
unfolding units_of
same_units a b line count same = same_from line 0 a.units b.units count
    (λ k below. on_by line (slice_get a.units k) ∙ same k below ∙ sym (on_by line (slice_get b.units k)))
