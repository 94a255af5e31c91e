use Rattle.std.proofs.Common.{◌≡◌, ◌*◌, ℕ, List, length, sym, subst, ap, ◌∙◌}
use Rattle.pblk_model.specs.declared.chunk.Mark.{Mark}
use Rattle.pblk_model.specs.declared.shape.Shape.{Shape}
use Rattle.pblk_model.specs.Blocks.{blocks_of}
use Rattle.pblk_model.specs.Chunk.{Block}
use Rattle.pblk_model.specs.ChunkStep.{ChunkCommand, Write}
use Rattle.pblk_model.specs.UnitLog.{UnitOutcome}
use Rattle.unit_port.specs.Unit.{ModelUnit, Steps, Takes}
use Rattle.unit_port.proofs.Units.{told_quiet}
use Rattle.pblk_engine.proofs.commands.write.Goals as goal

-- what is written there are these blocks
its_write : (size of : Shape) (bytes : List ℕ) (marks : List Mark) (at to : ℕ) (blocks : List Block) → size ≡ of → at ≡ to
    → blocks_of size.sector bytes marks ≡ blocks → Write at (blocks_of of.sector bytes marks) ≡ Write to blocks
its_write size of bytes marks at to blocks shapes place is =
    ap (λ n. Write n (blocks_of of.sector bytes marks)) place
    ∙ ap (Write to) (ap (λ (s : Shape). blocks_of s.sector bytes marks) (sym shapes) ∙ is)

-- what was told of a command is told of the same one
same_steps : (old new : ModelUnit) (a b : ℕ) (command other : ChunkCommand) (outcome : UnitOutcome) → a ≡ b → command ≡ other
    → Steps old a command outcome new → Steps old b other outcome new
same_steps old new a b command other outcome chunks commands steps =
    subst (λ n. Steps old n other outcome new) chunks (subst (λ (x : ChunkCommand). Steps old a x outcome new) commands steps)

same_takes : (u : ModelUnit) (a b : ℕ) (command other : ChunkCommand) → a ≡ b → command ≡ other → Takes u b other → Takes u a command
same_takes u a b command other chunks commands takes =
    subst (λ n. Takes u n command) (sym chunks) (subst (λ (x : ChunkCommand). Takes u b x) (sym commands) takes)

pub program-requires-clause-whole : goal.program-requires-clause-whole
program-requires-clause-whole g c =
    c.parts.ensures.whole ∙ ap (λ (s : Shape). length c.parts.result.1.now * s.sector) c.requires.shape

pub program-requires-clause-taken : goal.program-requires-clause-taken
program-requires-clause-taken g c =
    let stripe = c.args.stripe.now.stripe in
    let old = g.U.Unit.model c.args.unit.now in
    let command = its_write c.args.stripe.now.shape old.shape c.parts.result.0.now c.parts.result.1.now c.at.result stripe.at stripe.blocks
    c.requires.shape c.at.ensures c.parts.ensures.blocks in
    same_takes old c.chunk.result stripe.chunk (Write c.at.result (blocks_of old.shape.sector c.parts.result.0.now c.parts.result.1.now))
    (Write stripe.at stripe.blocks) c.chunk.ensures.chunk command c.requires.taken

pub returns-clause-given : goal.returns-clause-given
returns-clause-given g c =
    let stripe = c.args.stripe.now.stripe in
    let old = g.U.Unit.model c.args.unit.now in
    let command = its_write c.args.stripe.now.shape old.shape c.parts.result.0.now c.parts.result.1.now c.at.result stripe.at stripe.blocks
    c.requires.shape c.at.ensures c.parts.ensures.blocks in
    let event = c.program.ensures.event in
    record {
      outcome = event.0;
      told = event.1;
      steps = same_steps old (g.U.Unit.model c.program.new.self) c.chunk.result stripe.chunk
          (Write c.at.result (blocks_of old.shape.sector c.parts.result.0.now c.parts.result.1.now)) (Write stripe.at stripe.blocks) event.0
          c.chunk.ensures.chunk command event.2;
      fits = c.program.ensures.fits;
      quiet = λ unarmed. (told_quiet c.program.result event.0 event.1 (c.program.ensures.quiet unarmed)).1;
    }
