-- An opened line is as a sealed image has it.
use Rattle.std.proofs.Common.{◌≡◌, ℕ, ◌≤◌, Some, None, Option, sym, subst, ap, ◌∙◌, arith}
use Rattle.std.specs.Prelude.{slice_get}
use Rattle.std.specs.Option.{option_and_then}
use Rattle.std.proofs.lemmas.Option.{none-some}
use Rattle.pblk_model.specs.Chunk.{Block, Chunk}
use Rattle.pblk_model.specs.Image.{Image, line_chunks, line_units, width}
use Rattle.pblk_model.specs.Sealed.{BeginsNarrower}
use Rattle.pblk_laws.specs.LineBlocks.{chunk_in}
use Rattle.pblk_laws.proofs.LineUnits.{line_units_chunks}
use Rattle.pblk_world.specs.World.{World, log_of, media}
use Rattle.pblk_world.specs.EngineLog.{Opened, Opening, last_opening, life_of}
use Rattle.pblk_model.proofs.Parts.{is_in}
use Rattle.world_laws.specs.SealedLines.{IsSealedLine}
use Rattle.pblk_world.specs.LegalMounts.{IsLegalMount}
use Rattle.world_laws.proofs.Lives.{life_is_known}
use Rattle.world_laws.proofs.StripeBlocks.{placed_begins_none}
use Rattle.world_laws.proofs.Stripes.{stripe_is}
use Rattle.world_laws.proofs.EndRecords.{agrees}
use Rattle.world_laws.proofs.LineBlocks.{IsLineOf, IsStripeBlock, opened_line}

module _ (i : Image) (w : World) (mount : IsLegalMount i w) (o : Opening) (is_open : life_of (log_of w 0) o.line ≡ Opened o) where
  abbrev now : Image
  now = media i (log_of w)

  -- no chunk of it begins a start record of a lesser width
  begins_none : (k : ℕ) (c : Chunk) (b : Block) → slice_get (line_chunks now o.line) k ≡ Some c → slice_get c.blocks 0 ≡ Some b
      → BeginsNarrower (width now o.line) b → ⊥
  begins_none k c b there first = by (slice_get (line_units now o.line) k) (sym (line_units_chunks now o.line k) ∙ there)
    where
      line : IsLineOf i w o
      line = opened_line i w mount o is_open

      by : (u : Option ℕ) → option_and_then (chunk_in now o.line) u ≡ Some c → BeginsNarrower (width now o.line) b → ⊥
      by None is = absurd (none-some c is)
      by (Some unit) is =
          let its : IsStripeBlock (log_of w 0) o unit 0 b = line.blocks unit 0 b (ap (option_and_then (λ (x : Chunk). slice_get x.blocks 0)) is ∙ first) in
          let stripe = stripe_is i w o its.placed mount.legal line.opened its.there in
          let within : width now o.line ≤ o.start.width = let same : o.start.width ≡ width now o.line = line.width_is in omega arith in
          placed_begins_none i w its.placed o (width now o.line) b mount stripe.0 stripe.1 within (is_in its.placed.stripe.blocks its.index b its.is_block)

  own_sealed : IsSealedLine now o.line
  own_sealed = record { ends = λ start e started ended. agrees i w mount o is_open start e ended; begins = begins_none }

pub opened_sealed : (i : Image) (w : World) (line : ℕ) (o : Opening) → IsLegalMount i w → life_of (log_of w 0) line ≡ Opened o
    → IsSealedLine (media i (log_of w)) line
opened_sealed i w line o mount is_open =
    let same : o.line ≡ line = (life_is_known (log_of w 0) line o (ap last_opening is_open)).1 in
    subst (IsSealedLine (media i (log_of w))) same (own_sealed i w mount o (ap (life_of (log_of w 0)) same ∙ is_open))
