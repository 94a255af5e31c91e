-- Lemmas on the words of StartRecord.
use Rattle.std.proofs.Common.{List, None, Option, Some, ap, drop, length, refl, suc, zero, ℕ, ◌<◌, ◌^◌, ◌≡◌}
use Rattle.std.proofs.lemmas.Nat.{from_le_bytes-to_le_bytes_4}
use Rattle.std.specs.Int.{w32}
use Rattle.std.specs.Option.{is_some, option_map}
use Rattle.pblk_model.specs.Bytes.{number_at, zeros}
use Rattle.pblk_model.specs.StartRecord.{StartRecord, rows_in, start_bytes}
use Rattle.pblk_model.specs.declared.shape.Shape.{Shape}

pub some_seq : (o : Option StartRecord) → is_some (option_map (λ r. r.seq) o) ≡ is_some o
some_seq None = refl
some_seq (Some r) = refl

pub width_there : (s : Shape) (r : StartRecord) → r.width < 2 ^ 32 → number_at w32 12 (start_bytes s r) ≡ r.width
unfolding zeros
width_there s r low = from_le_bytes-to_le_bytes_4 r.width low

pub length-rows_in : (n : ℕ) (bytes : List ℕ) → length (rows_in n bytes) ≡ n
unfolding rows_in
length-rows_in zero bytes = refl
length-rows_in (suc n) bytes = ap suc (length-rows_in n (drop 24 bytes))
