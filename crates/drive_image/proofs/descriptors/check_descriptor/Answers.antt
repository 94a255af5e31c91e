use Rattle.std.proofs.Common.{◌+◌, ◌*◌, ◌/◌, ◌%◌, ◌≤◌, ℕ, refl, sym, subst}
use Rattle.std.specs.List.{slice_range}
use Rattle.pblk_laws.proofs.ImageBytesHeld.{descriptor_is, state_of}
use Rattle.ocssd_geometry.specs.Numbers.{numbers_of}
use Rattle.drive_image.proofs.Ends.{unit_below, refused_by}
use Rattle.drive_image.proofs.descriptors.check_descriptor.Goals as goal
use Rattle.pblk_model.proofs.Parts.{slice_length}
use Rattle.pblk_model.proofs.ChunkLemmas.{pointer_within}

pub broken_rule-requires-clause-unit : goal.broken_rule-requires-clause-unit
broken_rule-requires-clause-unit c = unit_below c.args.bytes.now (numbers_of c.args.geometry.now) c.args.n c.requires.numbers c.requires.shape c.requires.index

pub returns-in-Some-clause-refused : goal.returns-in-Some-clause-refused
returns-in-Some-clause-refused c = refused_by c.args.bytes.now (numbers_of c.args.geometry.now) c.args.n _ c.requires.numbers c.in-Some.ensures.first

pub returns-in-None-clause-refused : goal.returns-in-None-clause-refused
returns-in-None-clause-refused c = refused_by c.args.bytes.now (numbers_of c.args.geometry.now) c.args.n _ c.requires.numbers c.in-None.ensures.first

pub returns-in-None-clause-within : goal.returns-in-None-clause-within
returns-in-None-clause-within c =
    let g = numbers_of c.args.geometry.now in
    let n = c.args.n in
    let at : ℕ = 4128 + 32 * n in
    let d = slice_range c.args.bytes.now at (at + 32) in
    let is = descriptor_is g (n / g.chunks) (n % g.chunks) d (slice_length c.args.bytes.now at (at + 32) 32 refl c.requires.reaches)
    (sym c.in-None.ensures.first) in
    subst (λ wp. wp ≤ g.clba) (sym c.u64_at.ensures) (pointer_within (state_of d) g.clba _ is.place)
