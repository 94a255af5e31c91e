use Rattle.std.proofs.Common.{◌≡◌, ◌≤◌, ◌-◌, ◌*◌, ◌++◌, length, map}
use Rattle.std.specs.Vec.{vec_len, vec_capacity}
use Rattle.block_port.specs.Own.{sectors_of}
use Rattle.pblk_model.specs.Text.{word_of}
use Rattle.run_threads.specs.Words.{text_word}
use Rattle.run_threads.proofs.sectors.put_words.Given as goal

-- the words so far and those of what is left are all
abbrev pub invariant-loop : goal.invariant-loop
invariant-loop l = (length l.rest ≡ (l.count - l.counter) * l.size)
    × (vec_len l.words ≡ l.counter)
    × (l.count ≤ vec_capacity l.words)
    × (map text_word l.words.items ++ map word_of (sectors_of l.size (l.count - l.counter) l.rest) ≡ map word_of (sectors_of l.size l.count l.bytes))
