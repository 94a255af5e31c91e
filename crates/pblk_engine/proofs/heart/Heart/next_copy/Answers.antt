use Rattle.std.proofs.Common.{◌≡◌, ◌⊎◌, inl, inr, ℕ, ◌+◌, ◌-◌, ◌^◌, ◌<◌, ◌≤◌, min, Bool, true, false, Some, sym, subst, ap, ◌∙◌, arith}
use Rattle.std.proofs.lemmas.Bool.{cases_lt}
use Rattle.pblk_model.specs.Image.{Image}
use Rattle.pblk_model.specs.Shape.{units}
use Rattle.pblk_world.specs.AtRest.{IsCopyDue}
use Rattle.pblk_world.specs.LegalMounts.{IsLegalMount}
use Rattle.pblk_world.specs.World.{World, Logs, log_of}
use Rattle.core_laws.specs.OpenedLines.{online_now}
use Rattle.step_laws.specs.SlotBlocks.{IsBlockOfSlot}
use Rattle.write_window.specs.Window.{IsHeld, WindowView}
use Rattle.write_ring.specs.declared.view.View.{View}
use Rattle.chronicle.specs.Prefixes.{logs_of}
use Rattle.pblk_core.specs.Named.{pad_of}
use Rattle.pblk_core.specs.declared.collecting.CopyJob.{CopyJob}
use Rattle.pblk_core.specs.declared.target_core.Core.{Core}
use Rattle.pblk_engine.specs.Asks.{IsRaisedByVictims}
use Rattle.pblk_engine.specs.Hearts.{HeartView, IsHeart, IsHeartOf, parts}
use Rattle.pblk_engine.specs.Copying.{IsBegunNow}
use Rattle.pblk_engine.specs.declared.copying.CopyPlace.{CopyPlace}
use Rattle.pblk_engine.specs.declared.copying.NextCopy.{NextCopy}
use Rattle.pblk_engine.specs.declared.copying.NextCopy.TheVariants as answer
use Rattle.pblk_engine.proofs.Copies.{begun_now, block, has_position, has_room, none_claimed, low_of}
use Rattle.pblk_engine.proofs.CopyPlaces.{of_ready, place_by}
use Rattle.pblk_engine.proofs.CopySearch.{copy_named, found_only, held_searched}
use Rattle.pblk_engine.proofs.Knowledge.{mount_of}
use Rattle.pblk_engine.proofs.SlotPlaces.{at_inside, here, its_place, line_inside, line_live}
use Rattle.pblk_engine.proofs.heart.Heart.next_copy.Given.{Over}
use Rattle.pblk_engine.proofs.heart.Heart.next_copy.Goals.{After-self, After-reached-claimed}
use Rattle.pblk_engine.proofs.heart.Heart.next_copy.Goals as goal

-- ---- before the call

module _ (g : Over) (c : After-self g) where
  abbrev image : Image
  image = g.M.Mount.past.image

  abbrev world : World
  world = c.self.invariant.0.legal.world

  mount : IsLegalMount image world
  mount = mount_of image c.self.inside.author.known c.self.invariant.0.legal c.self.invariant.0.fits.accepted c.self.invariant.0.fits.fit

  was : IsHeart image (log_of world) c.self.inside.core c.self.inside.intake.seat.me.0
  was = subst (λ (l : Logs). IsHeart image l c.self.inside.core c.self.inside.intake.seat.me.0) (sym c.self.invariant.0.legal.logs)
      c.self.invariant.0.settled.heart

  by_world : IsCopyDue image (log_of world) → IsCopyDue image (logs_of c.self.inside.author.known)
  by_world = subst (IsCopyDue image) c.self.invariant.0.legal.logs

  of_logs : IsCopyDue image (logs_of c.self.inside.author.known) → IsCopyDue image (log_of world)
  of_logs = subst (IsCopyDue image) (sym c.self.invariant.0.legal.logs)

-- ---- no copy may be begun

pub returns-in_default-clause-nothing : goal.returns-in_default-clause-nothing
returns-in_default-clause-nothing g c = λ same.
    let d = (goal.at.returns-in_default-clause-nothing g c).After-self in
    subst (λ (v : HeartView). (v.copying ≡ true) ⊎ (¬ IsCopyDue (image g d) (logs_of v.author.known))) c.self.view_is
    (go d (c.in_default.ensures.none (image g d) (world g d) (mount g d) (was g d).stands (was g d).collects))
  where
    go : (d : After-self g) → (c.self.inside.core.collection.under_way ≡ true) ⊎ (¬ IsCopyDue (image g d) (log_of (world g d)))
        → (c.self.inside.core.collection.under_way ≡ true) ⊎ (¬ IsCopyDue (image g d) (logs_of d.self.inside.author.known))
    go d (inl is) = inl is
    go d (inr none) = inr (λ due. none (of_logs g d due))

not_both : {X : Type 0} (b : Bool) → b ≡ false → X → (b ≡ true) ⊎ (¬ X) → ⊥
not_both b idle due (inl is) = let both : true ≡ false = sym is ∙ idle in absurd cc
not_both b idle due (inr none) = none due

pub returns-in_default-clause-work : goal.returns-in_default-clause-work
returns-in_default-clause-work g c = λ named same.
    let d = (goal.at.returns-in_default-clause-work g c).After-self in
    let is = copy_named (image g d) (world g d) c.self.inside.core (mount g d) (was g d).stands (was g d).collects
    (ap (λ (v : HeartView). v.work) c.self.view_is ∙ named) in
    not_both c.self.inside.core.collection.under_way is.0 is.1
    (c.in_default.ensures.none (image g d) (world g d) (mount g d) (was g d).stands (was g d).collects)

-- ---- where a sector is named

module _ (g : Over) (c : After-reached-claimed g) where
  abbrev core : Core
  core = c.copy_found.new.self

  abbrev view : View
  view = c.reached-claimed.new.intake.seat.me.0

  abbrev job : CopyJob
  job = c.in-Some.job

  held : IsHeartOf g.M.Mount.chronicle g.M.Mount.ring g.M.Mount.past g.M.Mount.key c.reached-claimed.new.intake.seat.table_id
      (parts c.copy_found.new.self c.self.inside.author c.reached-claimed.new.intake.seat.me.0)
  held = held_searched g.M.Mount.chronicle g.M.Mount.ring g.M.Mount.past g.M.Mount.key c.self.inside.intake.seat.table_id
      c.reached-claimed.new.intake.seat.table_id c.self.inside.core core c.self.inside.author c.self.inside.intake.seat.me.0 view c.self.invariant.0
      c.copy_found.ensures.stands c.copy_found.ensures.collects c.copy_found.ensures.rest c.copy_found.ensures.copying
      (found_only c.self.inside.intake.seat.me.0 view _ c.reached-claimed.ensures.found)
      (c.reached-claimed.ensures.ring.0 ∙ c.requires.ring.0)

  raised : IsRaisedByVictims g.M.Mount.past.image (logs_of c.self.inside.author.known) c.self.inside.asked (pad_of c.copy_found.new.self)
  raised = subst (IsRaisedByVictims g.M.Mount.past.image (logs_of c.self.inside.author.known) c.self.inside.asked)
      (sym (ap pad_of c.copy_found.ensures.rest)) c.self.invariant.2

  -- the same world, and the heart then
  abbrev i : Image
  i = g.M.Mount.past.image

  abbrev w : World
  w = c.self.invariant.0.legal.world

  legal : IsLegalMount i w
  legal = mount_of i c.self.inside.author.known c.self.invariant.0.legal c.self.invariant.0.fits.accepted c.self.invariant.0.fits.fit

  before : IsHeart i (log_of w) c.self.inside.core c.self.inside.intake.seat.me.0
  before = subst (λ (l : Logs). IsHeart i l c.self.inside.core c.self.inside.intake.seat.me.0) (sym c.self.invariant.0.legal.logs)
      c.self.invariant.0.settled.heart

  now : IsHeart i (log_of w) core view
  now = subst (λ (l : Logs). IsHeart i l core view) (sym c.self.invariant.0.legal.logs) held.settled.heart

  its_block : IsBlockOfSlot i (log_of w) job.lba job.line job.at job.position
  its_block = block i w core view legal now job c.copy_found.ensures.ready

  -- the ring has room for it, unless the window holds the entry whose slot is next
  free : ((c.self.inside.slots ≤ c.reached-claimed.result) × IsHeld c.copy_found.new.self.window (c.reached-claimed.result - c.self.inside.slots) → ⊥)
      → c.reached-claimed.result < c.self.inside.intake.seat.me.0.intake.freed + g.M.Mount.key.size
  free none = subst (λ n. c.reached-claimed.result < c.self.inside.intake.seat.me.0.intake.freed + n) (sym c.self.invariant.0.fits.size)
      (has_room i w c.self.inside.core c.self.inside.intake.seat.me.0 c.self.invariant.0.fits.accepted before
      (low_of c.self.inside.intake)
      (none_claimed i (log_of w) c.self.inside.core.collection.under_way c.self.inside.intake.seat.me.0.pass c.self.inside.intake.seat.me.0.intake.taken
      c.in-Some.ensures.ready.idle before.copies) c.reached-claimed.result c.reached-claimed.ensures.taken c.reached-claimed.ensures.reached lets)
    where
      slots : c.self.inside.slots ≡ i.shape.ring
      slots = c.self.invariant.1.slots ∙ c.self.invariant.0.fits.size

      windows : c.copy_found.new.self.window ≡ c.self.inside.core.window
      windows = ap (λ (x : Core). x.window) c.copy_found.ensures.rest

      lets : c.self.inside.intake.seat.me.0.intake.freed ≤ c.reached-claimed.result - i.shape.ring
          → c.reached-claimed.result - i.shape.ring < c.self.inside.intake.seat.me.0.intake.taken → c.reached-claimed.result < i.shape.ring
      lets freed taken = go (cases_lt c.reached-claimed.result i.shape.ring)
        where
          go : (c.reached-claimed.result < i.shape.ring) ⊎ (i.shape.ring ≤ c.reached-claimed.result) → c.reached-claimed.result < i.shape.ring
          go (inl less) = less
          go (inr full) = absurd (none (subst (λ n. (n ≤ c.reached-claimed.result)
              × IsHeld c.copy_found.new.self.window (c.reached-claimed.result - n)) (sym slots) (
                full,
                subst (λ (x : WindowView). IsHeld x (c.reached-claimed.result - i.shape.ring)) (sym windows) (
                  subst (λ n. n ≤ c.reached-claimed.result - i.shape.ring) before.freed freed,
                  subst (λ n. c.reached-claimed.result - i.shape.ring < n) before.taken taken,
                ),
              )))

  small : c.reached-claimed.result < 2 ^ 62
  small = has_position i w c.self.inside.core c.self.inside.intake.seat.me.0 c.self.invariant.0.fits.accepted before
      (low_of c.self.inside.intake)
      (none_claimed i (log_of w) c.self.inside.core.collection.under_way c.self.inside.intake.seat.me.0.pass c.self.inside.intake.seat.me.0.intake.taken
      c.in-Some.ensures.ready.idle before.copies) c.reached-claimed.result c.reached-claimed.ensures.taken c.reached-claimed.ensures.reached
      (c.in-Some.ensures.due i w legal before.stands before.collects)

pub invariant_of-self : goal.invariant_of-self
invariant_of-self g c =
    let d = (goal.at.invariant_of-self g c).After-reached-claimed in (held g d, c.self.invariant.1, raised g d)

pub invariant_of-self-2 : goal.invariant_of-self-2
invariant_of-self-2 g c =
    let d = (goal.at.invariant_of-self-2 g c).After-reached-claimed in (held g d, c.self.invariant.1, raised g d)

pub returns-then-is_slot_held-clause-due : goal.returns-then-is_slot_held-clause-due
returns-then-is_slot_held-clause-due g c = λ apart.
    let d = (goal.at.returns-then-is_slot_held-clause-due g c).After-self in
    subst (λ (v : HeartView). (v.copying ≡ false) × IsCopyDue (image g d) (logs_of v.author.known)) c.self.view_is (
      c.in-Some.ensures.ready.idle,
      by_world g d (c.in-Some.ensures.due (image g d) (world g d) (mount g d) (was g d).stands (was g d).collects),
    )

pub returns-clause-due : goal.returns-clause-due
returns-clause-due g c = λ apart.
    let d = (goal.at.returns-clause-due g c).After-self in
    subst (λ (v : HeartView). (v.copying ≡ false) × IsCopyDue (image g d) (logs_of v.author.known)) c.self.view_is (
      c.in-Some.ensures.ready.idle,
      by_world g d (c.in-Some.ensures.due (image g d) (world g d) (mount g d) (was g d).stands (was g d).collects),
    )

pub address-unit-requires-clause-line : goal.address-unit-requires-clause-line
address-unit-requires-clause-line g c =
    let d = (goal.at.address-unit-requires-clause-line g c).After-reached-claimed in
    line_inside (i g d) (w g d) (core g d) (job g d).lba (job g d).line (job g d).at (job g d).position (legal g d) (now g d).stands (its_block g d)

pub address-unit-requires-clause-online : goal.address-unit-requires-clause-online
address-unit-requires-clause-online g c =
    let d = (goal.at.address-unit-requires-clause-online g c).After-reached-claimed in
    line_live (i g d) (w g d) (core g d) (job g d).lba (job g d).line (job g d).at (job g d).position (legal g d) (now g d).stands (its_block g d)

pub address-unit-requires-clause-inside : goal.address-unit-requires-clause-inside
address-unit-requires-clause-inside g c =
    let d = (goal.at.address-unit-requires-clause-inside g c).After-reached-claimed in
    at_inside (i g d) (w g d) (core g d) (job g d).lba (job g d).line (job g d).at (job g d).position (legal g d) (now g d).stands (its_block g d)

-- ---- once its place is known

abbrev place_in : NextCopy → CopyPlace → CopyPlace
place_in (answer.At of) other = of
place_in answer.Full other = other
place_in answer.Nothing other = other

pub returns-clause-named : goal.returns-clause-named
returns-clause-named g c = λ of same.
    let d = (goal.at.returns-clause-named g c).After-reached-claimed in
    let online = here (i g d) (w g d) (core g d) (job g d).lba (job g d).line (job g d).at (job g d).position (legal g d) (now g d).stands (its_block g d) in
    of_ready (core g d) (job g d) c.address-unit.result c.copy_found.ensures.ready c.copy_found.ensures.searched
    (place_by (core g d) (job g d).line (job g d).at (online_now (i g d) (log_of (w g d)) (job g d).line) c.address-unit.result online
    (c.address-unit.ensures (online_now (i g d) (log_of (w g d)) (job g d).line) online))
    ∙ ap (λ (x : NextCopy). Some (place_in x of)) same

pub returns-clause-unit : goal.returns-clause-unit
returns-clause-unit g c = λ of same.
    let d = (goal.at.returns-clause-unit g c).After-reached-claimed in
    let online = here (i g d) (w g d) (core g d) (job g d).lba (job g d).line (job g d).at (job g d).position (legal g d) (now g d).stands (its_block g d) in
    let place : ((its_block g d).unit, (its_block g d).number) ≡ c.address-unit.result =
    its_place (i g d) (w g d) (core g d) (job g d).lba (job g d).line (job g d).at (job g d).position (legal g d) (now g d).stands (its_block g d)
    c.address-unit.result (c.address-unit.ensures (online_now (i g d) (log_of (w g d)) (job g d).line) online) in
    subst (λ n. n < units (i g d).shape) (ap (λ (p : ℕ × ℕ). p.0) place ∙ ap (λ (x : NextCopy). (place_in x of).unit) same) (its_block g d).of_drive

pub returns-clause-begun : goal.returns-clause-begun
returns-clause-begun g c = λ of same.
    let d = (goal.at.returns-clause-begun g c).After-reached-claimed in
    subst (λ (v : HeartView). IsBegunNow (i g d) (logs_of v.author.known) of.job) c.self.view_is
    (subst (λ (l : Logs). IsBegunNow (i g d) l of.job) c.self.invariant.0.legal.logs
    (subst (IsBegunNow (i g d) (log_of (w g d))) (ap (λ (x : NextCopy). (place_in x of).job) same)
    (begun_now (i g d) (w g d) (core g d) (view g d) (legal g d) (now g d) (job g d) c.copy_found.ensures.ready)))

pub returns-clause-room : goal.returns-clause-room
returns-clause-room g c = λ of same.
    let d = (goal.at.returns-clause-room g c).After-reached-claimed in
    let less : c.reached-claimed.result < c.self.inside.intake.seat.me.0.intake.freed + g.M.Mount.key.size =
    free g d (λ held. let both : true ≡ false = sym (c.is_slot_held.ensures.1 held) ∙ c.if-is_slot_held.false in absurd cc) in
    let claimed : c.reached-claimed.new.intake.seat.me.0.found.claimed ≡ c.reached-claimed.result =
    ap (λ (v : View). v.found.claimed) c.reached-claimed.ensures.found in
    let low : c.reached-claimed.result < 2 ^ 62 = small g d in
    subst (λ (v : HeartView). c.reached-claimed.new.intake.seat.me.0.found.claimed < min (v.intake.intake.freed + g.M.Mount.key.size) (2 ^ 62))
    c.self.view_is (omega (arith, less, claimed, low))
