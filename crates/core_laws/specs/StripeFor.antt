-- The stripe that is placed for a program that the placer offers, and what such a program is.
use Rattle.std.specs.Prelude.{ℕ, ◌+◌, ◌<◌, ◌≤◌, ◌≡◌, ◌≢◌, List, [], take, replicate}
use Rattle.pblk_model.specs.declared.shape.Shape.{Shape}
use Rattle.pblk_model.specs.Chunk.{Block}
use Rattle.pblk_model.specs.Image.{Image}
use Rattle.pblk_model.specs.Marks.{pad_block}
use Rattle.pblk_model.specs.Shape.{units}
use Rattle.pblk_world.specs.Events.{Stripe, Logged}
use Rattle.pblk_world.specs.World.{Logs}
use Rattle.pblk_world.specs.EngineLog.{Opening, Opened, life_of}
use Rattle.pblk_world.specs.Fronts.{waiting}
use Rattle.pblk_world.specs.Placing.{stripe_at, start_blocks, data_blocks, end_blocks, end_address, line_end}
use Rattle.stripe_placer.specs.declared.placement.StripeKind.{StripeKind}
use Rattle.stripe_placer.specs.declared.placement.StripeKind.TheVariants as kinds
use Rattle.stripe_placer.specs.Placing.{Program}
use Rattle.core_laws.specs.PlacerOf.{positions_of}

-- what stands in the blocks of a stripe of a kind that begins at a line address
abbrev pub blocks_for : Shape → List Logged → Opening → ℕ → StripeKind → List Block
blocks_for s log o at kinds.Start = stripe_at s (start_blocks s o) 0 at
blocks_for s log o at kinds.Data = data_blocks s log
blocks_for s log o at kinds.Pad = replicate s.ws_opt (pad_block s)
blocks_for s log o at kinds.End = stripe_at s (end_blocks s log o) (end_address s o) at

-- the program's place in its opened line, with the blocks of its kind
pub record IsStripeFor (i : Image) (logs : Logs) (o : Opening) (of : Program) (stripe : Stripe) : Type 0 where
  pub opened : life_of (logs 0) of.line ≡ Opened o
  pub line : stripe.line ≡ of.line
  pub chunk : stripe.chunk ≡ of.line
  pub unit : stripe.unit ≡ of.unit
  pub at : stripe.at ≡ of.block
  pub blocks : stripe.blocks ≡ blocks_for i.shape (logs 0) o of.at of.kind

-- the positions of the entries in a stripe of a kind: those of the first entries that wait
abbrev pub positions_for : Shape → List Logged → StripeKind → List ℕ
positions_for s log kinds.Start = []
positions_for s log kinds.Data = take s.ws_opt (positions_of (waiting s log))
positions_for s log kinds.Pad = []
positions_for s log kinds.End = []

-- a program is that of a stripe in the line of this opening
pub record IsProgramFor (i : Image) (logs : Logs) (o : Opening) (of : Program) : Type 0 where
  pub opened : life_of (logs 0) of.line ≡ Opened o
  pub kind : of.kind ≢ kinds.Pad
  pub positions : of.positions ≡ positions_for i.shape (logs 0) of.kind
  pub line : of.line < i.shape.chunks
  pub unit : of.unit < units i.shape
  pub at : of.at + i.shape.ws_opt ≤ line_end i.shape o
