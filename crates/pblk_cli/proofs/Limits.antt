-- What the words say is within its limits.
use Rattle.std.proofs.Common.{ℕ, ◌≤◌, List, [], ◌∷◌, arith}
use Rattle.command_words.specs.Grammar.{CommandLine, Create, Geometry, Show, Report, Parity, Rebuild, Run, Soak, IsCommandLine, IsLanes, Certify, Check}
use Rattle.pblk_cli.specs.Commands.{IsWithinLimits}

few_said : (n : ℕ) (words : List (List ℕ)) → IsLanes n words → n ≤ 8
few_said n [] none = omega (arith, none)
few_said n (word ∷ []) is = is.1
few_said n (word ∷ (other ∷ words)) is = absurd is

pub within_limits : (words : List (List ℕ)) (c : CommandLine) → IsCommandLine words c → IsWithinLimits c
within_limits words (Create image numbers) is = tt
within_limits words (Geometry image) is = tt
within_limits words (Show image) is = tt
within_limits words (Report image) is = tt
within_limits words (Parity image parity) is = tt
within_limits words (Rebuild image parity unit) is = tt
within_limits words (Certify image name) is = tt
within_limits words (Check image name) is = tt
within_limits words (Run image script options) is = few_said options.lanes _ is.of.5
within_limits words (Soak image number rounds) is = is.of.3
