-- Which calls may answer Worn, and where: at a length of the engine's log at which the target is at
-- rest.
use Rattle.std.specs.Prelude.{ℕ, zero, suc, ◌+◌, ◌≤◌, ◌≡◌, ⊤, List, [], ◌∷◌, take, length}
use Rattle.pblk_model.specs.Image.{Image}
use Rattle.pblk_world.specs.World.{Logs}
use Rattle.pblk_world.specs.Fronts.{taken, user_takes}
use Rattle.pblk_world.specs.AtRest.{IsWornFlush, IsWornWrite}
use Rattle.block_port.specs.declared.rows.WornAnswer.{WornAnswer}
use Rattle.pblk_world.specs.Reasons.{WasRoom}

-- A refusal of a write of so many sectors there: there is no room for them. What there is was
-- granted, so it is no more than the room was once. What is wanted is room for the sectors behind
-- all that was taken, and no less.
pub record IsWriteRefusal (i : Image) (logs : Logs) (n count wanted have : ℕ) : Type 0 where
  pub worn : IsWornWrite i logs n count wanted have
  pub granted : WasRoom i logs n have
  pub own_count : wanted ≡ taken (take n (logs 0)) + count

-- by the count of sectors, which is 0 for a flush
abbrev pub IsRefusal : Image → Logs → ℕ → ℕ → ℕ → ℕ → Type 0
IsRefusal i logs n zero wanted have = IsWornFlush i logs n wanted have
IsRefusal i logs n (suc others) wanted have = IsWriteRefusal i logs n (suc others) wanted have

-- An answer is one there, and its port's sectors are all that users' writes took by then.
pub record IsRefusedAt (i : Image) (logs : Logs) (n : ℕ) (a : WornAnswer) : Type 0 where
  pub written : length (user_takes (take n (logs 0))) ≡ a.written
  pub cause : IsRefusal i logs n a.count a.wanted a.have

-- Each of these answers is one, in their order: each at a length that isn't below the one before
-- it, nor below the one given.
abbrev pub AreRefusals : Image → Logs → ℕ → List WornAnswer → Type 0
AreRefusals i logs from [] = ⊤
AreRefusals i logs from (a ∷ worns) =
    (n : ℕ) × (from ≤ n) × IsRefusedAt i logs n a × AreRefusals i logs n worns
