-- What a line says, as the reader of lines keeps it.
use Rattle.std.specs.Prelude.{ℕ, ◌≤◌, ◌&&◌, nat_le, ⊤, Bool, List, length}
use Rattle.std.specs.List.{list_all}
use Rattle.pblk_model.specs.declared.script.Command.TheVariants as commands
use Rattle.pblk_model.specs.ScriptText as text
use Rattle.pblk_model.specs.ScriptText.{is_name_byte}
use Rattle.run_script.specs.declared.said.Said.{Said}
use Rattle.run_script.specs.declared.said.Said.TheVariants.{Thread, Write, Read, Flush, Post, Await}

-- in the model's words
abbrev pub said_of : Said → text.Said
said_of Thread = text.Thread
said_of (Write lba count tag) = text.Commands (commands.Write lba count tag)
said_of (Read lba count) = text.Commands (commands.Read lba count)
said_of Flush = text.Commands commands.Flush
said_of (Post name) = text.Commands (commands.Post name.now)
said_of (Await name) = text.Commands (commands.Await name.now)

-- a count that a command can have
abbrev pub HasCount : Said → Type 0
HasCount Thread = ⊤
HasCount (Write lba count tag) = count ≤ 16
HasCount (Read lba count) = count ≤ 16
HasCount Flush = ⊤
HasCount (Post name) = ⊤
HasCount (Await name) = ⊤

-- 1 to 16 lower-case letters or digits
abbrev pub is_name : List ℕ → Bool
is_name word = nat_le 1 (length word) && nat_le (length word) 16 && list_all is_name_byte word
