use Rattle.std.proofs.Common.{◌≡◌, ℕ, suc, ◌-◌, ◌^◌, ◌<◌, length, refl, sym, subst, ap, ◌∙◌}
use Rattle.pblk_model.specs.ChunkStep.{Write}
use Rattle.pblk_world.specs.Commanding.{ended_stripes}
use Rattle.pblk_core.specs.Filling.{Filling}
use Rattle.chronicle.specs.Handles.{AuthorView}
use Rattle.chronicle.specs.Prefixes.{logs_of, ArePrefixes}
use Rattle.pblk_engine.specs.Arms.{ArmView, arm_view, number_told}
use Rattle.pblk_engine.specs.Placements.{IsPlacedAs}
use Rattle.pblk_engine.specs.Deeds.{HasProgrammed}
use Rattle.pblk_engine.proofs.ArmNext as next
use Rattle.pblk_engine.proofs.EventNumbers.{last_told}
use Rattle.pblk_engine.proofs.ArmPrograms as programs
use Rattle.pblk_engine.proofs.arm.Arm.program_now.Given.{Over}
use Rattle.pblk_engine.proofs.arm.Arm.program_now.Goals.{After-stripe}
use Rattle.pblk_engine.proofs.arm.Arm.program_now.Goals as goal

module _ (g : Over) (c : After-stripe g) where
  abbrev f : Filling
  f = c.stripe.result.now

  abbrev number : ℕ
  number = c.self.inside.number

  abbrev a : AuthorView
  a = c.self.inside.author

  on : f.stripe.unit ≡ number
  on = ap (λ (x : Filling). x.stripe.unit) c.stripe.ensures.stripe ∙ c.requires.unit ∙ sym (ap (λ (x : ArmView). x.number) c.self.view_is)

  placed : IsPlacedAs (logs_of a.known 0) f
  placed = subst (IsPlacedAs (logs_of a.known 0)) (sym c.stripe.ensures.stripe)
      (subst (λ (x : ArmView). IsPlacedAs (logs_of x.known 0) c.args.worker.now.stripe) (sym c.self.view_is) c.requires.placed)

  turn : ended_stripes (logs_of a.known (suc number)) ≡ f.turn
  turn = ap (λ (x : ArmView). ended_stripes (logs_of x.known (suc x.number))) c.self.view_is ∙ c.requires.turn
      ∙ sym (ap (λ (x : Filling). x.turn) c.stripe.ensures.stripe)

  below : f.turn < 2 ^ 64 - 1
  below = subst (λ (x : Filling). x.turn < 2 ^ 64 - 1) (sym c.stripe.ensures.stripe) c.requires.below

pub program-how-requires-clause-taken : goal.program-how-requires-clause-taken
program-how-requires-clause-taken g c =
    let d = (goal.at.program-how-requires-clause-taken g c).After-stripe in
    let s = c.self.inside in
    programs.taken g.M.Mount.chronicle g.M.Mount.past g.M.Mount.key g.M.Mount.handed g.M.Mount.wear c.self.invariant.0 s.author s.number (g.U.Unit.model s.unit)
    (g.U.Unit.wear s.unit) s.ended c.self.invariant.1 (f g d) (on g d) (placed g d) (turn g d) (below g d)

pub note_command-requires-clause-allowed : goal.note_command-requires-clause-allowed
note_command-requires-clause-allowed g c =
    let d = (goal.at.note_command-requires-clause-allowed g c).After-stripe in
    let s = c.self.inside in
    programs.allowed g.M.Mount.chronicle g.M.Mount.past g.M.Mount.key g.M.Mount.handed g.M.Mount.wear c.self.invariant.0 s.author s.number
    (g.U.Unit.model s.unit) (g.U.Unit.wear s.unit) s.ended c.self.invariant.1 (f g d) (on g d) (placed g d) (turn g d) (below g d)
    (g.U.Unit.model c.program-how.new.unit) c.program-how.result c.args.worker.now.number (length c.args.worker.now.made) c.program-how.ensures.given

pub note_command-requires-clause-no_reset : goal.note_command-requires-clause-no_reset
note_command-requires-clause-no_reset g c =
    let d = (goal.at.note_command-requires-clause-no_reset g c).After-stripe in
    let s = c.self.inside in
    programs.resets_none g.M.Mount.chronicle g.M.Mount.past g.M.Mount.key g.M.Mount.handed g.M.Mount.wear c.self.invariant.0 s.author s.number
    (g.U.Unit.model s.unit) (g.U.Unit.wear s.unit) s.ended c.self.invariant.1 (f g d) (on g d) (placed g d) (turn g d) (below g d)
    (g.U.Unit.model c.program-how.new.unit) c.program-how.result c.args.worker.now.number (length c.args.worker.now.made) c.program-how.ensures.given

pub invariant_of-self : goal.invariant_of-self
invariant_of-self g c =
    let d = (goal.at.invariant_of-self g c).After-stripe in
    let s = c.self.inside in
    let e = c.note_command.ensures in (
      c.self.invariant.0,
      programs.programmed g.M.Mount.chronicle g.M.Mount.past g.M.Mount.key g.M.Mount.handed g.M.Mount.wear c.self.invariant.0 s.author s.number
          (g.U.Unit.model s.unit) (g.U.Unit.wear s.unit) s.ended c.self.invariant.1 (f g d) (on g d) (placed g d) (turn g d) (below g d)
          (g.U.Unit.model c.program-how.new.unit) c.program-how.result c.args.worker.now.number (length c.args.worker.now.made) c.program-how.ensures.given
          c.note_command.new.author e.appended (g.U.Unit.wear c.program-how.new.unit) c.program-how.ensures.wear e.author_legal e.author_begun e.author_noted
          c.count_of-self-inside.result c.count_of-self-inside.ensures,
    )

pub returns-clause-programmed : goal.returns-clause-programmed
returns-clause-programmed g c =
    let d = (goal.at.returns-clause-programmed g c).After-stripe in
    let s = c.self.inside in
    let e = c.note_command.ensures in
    subst (λ (x : ArmView). HasProgrammed x (arm_view s.number c.note_command.new.author.known (g.U.Unit.model c.program-how.new.unit)) c.args.worker.now
    c.note_command.new.worker x.known c.program-how.result) c.self.view_is
    (programs.has_programmed g.M.Mount.chronicle g.M.Mount.past g.M.Mount.key g.M.Mount.handed g.M.Mount.wear c.self.invariant.0 s.author s.number
    (g.U.Unit.model s.unit) (g.U.Unit.wear s.unit) s.ended c.self.invariant.1 (f g d) (on g d) (placed g d) (turn g d) (below g d)
    (g.U.Unit.model c.program-how.new.unit) c.program-how.result c.args.worker.now.number (length c.args.worker.now.made) c.program-how.ensures.given
    c.note_command.new.author e.appended s.author.known c.args.worker.now c.note_command.new.worker c.stripe.ensures.stripe refl refl e.worker e.keeps e.learns)

pub returns-clause-told : goal.returns-clause-told
returns-clause-told g c =
    let d = (goal.at.returns-clause-told g c).After-stripe in
    let s = c.self.inside in
    let e = c.note_command.ensures in
    let stripe = (f g d).stripe in
    let next_arm = programs.programmed g.M.Mount.chronicle g.M.Mount.past g.M.Mount.key g.M.Mount.handed g.M.Mount.wear c.self.invariant.0 s.author s.number
    (g.U.Unit.model s.unit) (g.U.Unit.wear s.unit) s.ended c.self.invariant.1 (f g d) (on g d) (placed g d) (turn g d) (below g d)
    (g.U.Unit.model c.program-how.new.unit) c.program-how.result c.args.worker.now.number (length c.args.worker.now.made) c.program-how.ensures.given
    c.note_command.new.author e.appended (g.U.Unit.wear c.program-how.new.unit) c.program-how.ensures.wear e.author_legal e.author_begun e.author_noted
    c.count_of-self-inside.result c.count_of-self-inside.ensures in
    subst (λ (x : ArmView). c.events.result ≡ number_told g.M.Mount.handed x.number (length (logs_of x.known (suc x.number)))) c.self.view_is
    (last_told g.M.Mount.chronicle g.M.Mount.past g.M.Mount.handed g.M.Mount.wear c.note_command.new.author s.number (g.U.Unit.model c.program-how.new.unit)
    (g.U.Unit.wear c.program-how.new.unit) next_arm.unit c.events.result (length (logs_of s.author.known (suc s.number))) c.events.ensures.count
    (next.own_longer g.M.Mount.chronicle g.M.Mount.past g.M.Mount.handed g.M.Mount.wear s.author s.number (g.U.Unit.model s.unit)
    (g.U.Unit.model c.program-how.new.unit) (g.U.Unit.wear s.unit) c.self.invariant.1.unit stripe.chunk (Write stripe.at stripe.blocks) _
    c.program-how.ensures.given c.args.worker.now.number (length c.args.worker.now.made) c.note_command.new.author e.appended))

pub returns-clause-keeps : goal.returns-clause-keeps
returns-clause-keeps g c =
    let d = (goal.at.returns-clause-keeps g c).After-stripe in
    let s = c.self.inside in
    let stripe = (f g d).stripe in
    subst (λ (x : ArmView). ArePrefixes x.known c.note_command.new.author.known) c.self.view_is
    (next.keeps g.M.Mount.chronicle g.M.Mount.past g.M.Mount.handed g.M.Mount.wear s.author s.number (g.U.Unit.model s.unit)
    (g.U.Unit.model c.program-how.new.unit) (g.U.Unit.wear s.unit) c.self.invariant.1.unit stripe.chunk (Write stripe.at stripe.blocks) _
    c.program-how.ensures.given c.args.worker.now.number (length c.args.worker.now.made) c.note_command.new.author c.note_command.ensures.appended)
