use Rattle.std.proofs.Common.{◌≡◌, ℕ, List, length, replicate, Some, refl, sym, ap, ◌∙◌}
use Rattle.pblk_engine.proofs.SectorPlaces.{place_is, zeros_are}
use Rattle.pblk_engine.proofs.heart.Heart.look_sector.Goals as goal

pub returns-in-Media-clause-looked : goal.returns-in-Media-clause-looked
returns-in-Media-clause-looked g c =
    let is = c.in-Media.ensures.on_drive c.in-Media.line c.in-Media.at c.in-Media.position refl in
    place_is g.M.Mount.past.image _ c.args.lba c.in-Media.line c.in-Media.at c.in-Media.position c.place_of-unit.result.0 c.place_of-unit.result.1
    c.requires.lba (sym c.look.ensures.slot ∙ c.in-Media.is) is.0 (c.place_of-unit.ensures.place c.args.lba c.in-Media.position is.0)

pub returns-in-Unwritten-clause-looked : goal.returns-in-Unwritten-clause-looked
returns-in-Unwritten-clause-looked g c =
    let filled : c.fill.new.self ≡ replicate (length c.args.out.now) 0 = c.fill.ensures.after (λ y e. e) in
    c.look.ensures.unwritten c.in-Unwritten.is
    ∙ ap (λ (b : List ℕ). Some b) (zeros_are g.M.Mount.past.image.shape.sector ∙ ap (λ n. replicate n 0) (sym c.requires.size) ∙ sym filled)
