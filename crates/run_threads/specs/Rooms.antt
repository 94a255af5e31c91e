-- Room for the words of a thread's reads.
use Rattle.std.specs.Prelude.{◌≤◌, ◌≡◌, ⊤, List, [], ◌∷◌, Vec}
use Rattle.std.specs.Global.{Global}
use Rattle.std.specs.Vec.{vec_capacity}
use Rattle.pblk_model.specs.declared.script.Command.{Command}
use Rattle.pblk_model.specs.declared.script.Command.TheVariants.{Write, Read, Flush, Post, Await}
use Rattle.run_threads.specs.declared.records.Word.{Word}

-- an empty list that has room for the words of a command
abbrev pub HasWordRoom : Command → Vec Word Global → Type 0
HasWordRoom (Write lba count tag) words = ⊤
HasWordRoom (Read lba count) words = (words.items ≡ []) × (count ≤ vec_capacity words)
HasWordRoom Flush words = ⊤
HasWordRoom (Post name) words = ⊤
HasWordRoom (Await name) words = ⊤

-- one for each command
abbrev pub HaveWordRoom : List Command → List (Vec Word Global) → Type 0
HaveWordRoom [] [] = ⊤
HaveWordRoom (c ∷ cs) (words ∷ rooms) = HasWordRoom c words × HaveWordRoom cs rooms
HaveWordRoom cs rooms = ⊥
