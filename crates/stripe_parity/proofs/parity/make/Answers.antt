use Rattle.std.proofs.Common.{List, map, sym, ap₂, subst}
use Rattle.pblk_model.specs.declared.shape.Shape.{Shape}
use Rattle.pblk_model.specs.Chunk.{Block}
use Rattle.stripe_parity.specs.declared.kept.KeptChunk.{KeptChunk}
use Rattle.stripe_parity.specs.ParityFile.{IsParity, ParityFile}
use Rattle.stripe_parity.proofs.ParityIs.{parity_is}
use Rattle.stripe_parity.proofs.parity.make.Goals as goal

-- a parity of these parts
abbrev of : Shape → List (List KeptChunk) → List (List Block) → ParityFile
of s ks rs = record { shape = s; chunks = ks; rows = rs }

pub invariant_of-result : goal.invariant_of-result
invariant_of-result g c =
    let s = c.args.shape.now in
    let us = map g.U.Unit.model c.args.units.now in
    record {
      parity = subst IsParity
          (ap₂ (λ (ks : List (List KeptChunk)) (rs : List (List Block)). of s ks rs) (sym c.in_ok-kept.ensures) (sym c.in_ok-rows.ensures.rows))
          (parity_is s us c.in_ok-rows.rows.items c.requires.accepted c.requires.fit c.requires.closed c.in_ok-rows.ensures.rows c.in_ok-rows.ensures.fits);
      rows = c.in_ok-rows.ensures.fits;
    }
