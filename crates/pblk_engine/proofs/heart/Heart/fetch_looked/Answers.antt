use Rattle.std.proofs.Common.{◌≡◌, ℕ, Some, List, sym, subst, ap, ◌∙◌}
use Rattle.std.specs.Prelude.{slice_get}
use Rattle.pblk_world.specs.World.{Logs}
use Rattle.step_laws.specs.SlotBlocks.{IsBlockOfSlot}
use Rattle.chronicle.specs.Prefixes.{AreLegalLogs, ArePrefixes, Prefixes, logs_of, longer_of}
use Rattle.chronicle.proofs.Rests.{still_begun}
use Rattle.pblk_engine.specs.Arms.{ArmView}
use Rattle.pblk_engine.specs.Fetches.{IsReadableAt}
use Rattle.pblk_engine.specs.Hearts.{HeartView}
use Rattle.pblk_engine.specs.Looks.{latest_by}
use Rattle.pblk_engine.specs.Reads.{IsPlaceOf}
use Rattle.pblk_engine.proofs.HeldFetches.{place_later, readable_place, same_latest}
use Rattle.pblk_engine.proofs.Resets.{same_logs}
use Rattle.pblk_engine.proofs.heart.Heart.fetch_looked.Given.{Over}
use Rattle.pblk_engine.proofs.heart.Heart.fetch_looked.Goals.{After-note_readable-note}
use Rattle.pblk_engine.proofs.heart.Heart.fetch_looked.Goals as goal

module _ (g : Over) (c : After-note_readable-note g) where
  -- what the heart knew, and what the note says
  abbrev before : Prefixes
  before = c.args.self.now.author.known

  abbrev met : Prefixes
  met = c.meet-2.new.self.author.known

  abbrev note : Prefixes
  note = c.note_readable-note.result.known

  met_is : note ≡ met
  met_is = c.note_readable-note.ensures.known

  keeps_all : ArePrefixes before met
  keeps_all = still_begun before c.meet.new.self.author.known met c.meet.ensures.keeps c.meet-2.ensures.keeps

  keeps_note : ArePrefixes before note
  keeps_note = subst (ArePrefixes before) (sym met_is) keeps_all

  own_note : logs_of note 0 ≡ logs_of before 0
  own_note = ap (λ (k : Prefixes). logs_of k 0) met_is ∙ c.meet-2.ensures.own ∙ c.meet.ensures.own

  -- the block of the slot, by the note
  place : IsPlaceOf g.M.Mount.past.image (logs_of note) c.args.place.sought.lba c.args.place
  place = place_later g.M.Mount.past.image before note c.requires.legal keeps_note own_note c.args.place.sought.lba c.args.place c.requires.place

  drive : (is : IsBlockOfSlot g.M.Mount.past.image (logs_of note) c.args.place.sought.lba c.args.place.sought.line place.at c.args.place.sought.position)
      × (slice_get (latest_by g.M.Mount.past.image (logs_of note)) c.args.place.sought.lba ≡ Some is.block.sector)
  drive = c.note_readable-note.ensures.on_drive c.args.place.sought.lba c.args.place.sought.line place.at c.args.place.sought.position
      c.requires.place.inside place.look.slot

  arm_known : ArePrefixes c.note-told-2.new.self.known note
  arm_known = subst (λ (k : Prefixes). ArePrefixes k note) (c.note-told-2.ensures.known ∙ ap (λ (a : ArmView). a.known) (sym c.note-told-2.ensures.same))
      (subst (ArePrefixes c.note-told-2.result.known) (sym met_is) c.meet-2.ensures.learns)

  both : ◌≡◌ {A = Logs × ℕ} (logs_of note, c.args.place.unit)
      (logs_of (longer_of c.note-told-2.new.self.known note), c.note-told-2.new.self.number)
  both = λ j. (
    sym (same_logs c.note-told-2.new.self.known note arm_known) j,
    (sym c.requires.unit ∙ ap (λ (a : ArmView). a.number) (sym c.note-told-2.ensures.same)) j,
  )

pub fetch_readable-requires-clause-told : goal.fetch_readable-requires-clause-told
fetch_readable-requires-clause-told g c =
    let d = (goal.at.fetch_readable-requires-clause-told g c).After-note_readable-note in
    subst (ArePrefixes c.note-told.new.self.known) (sym (met_is g d))
    (still_begun c.note-told.new.self.known c.meet.new.self.author.known (met g d)
    (subst (λ (k : Prefixes). ArePrefixes k c.meet.new.self.author.known) (c.note-told.ensures.known ∙ ap (λ (w : _). w.known) (sym c.note-told.ensures.same))
    c.meet.ensures.learns) c.meet-2.ensures.keeps)

pub fetch_readable-requires-clause-readable : goal.fetch_readable-requires-clause-readable
fetch_readable-requires-clause-readable g c =
    let d = (goal.at.fetch_readable-requires-clause-readable g c).After-note_readable-note in
    subst (λ (p : Logs × ℕ). IsReadableAt g.M.Mount.past.image p.0 p.1 c.args.place.sought.line c.args.place.sought.block) (both g d)
    (readable_place g.M.Mount.past.image (logs_of (note g d)) c.args.place.sought.lba c.args.place (place g d) (drive g d).0).0

pub returns-clause-keeps : goal.returns-clause-keeps
returns-clause-keeps g c =
    let d = (goal.at.returns-clause-keeps g c).After-note_readable-note in
    subst (λ (h : HeartView). ArePrefixes c.args.self.now.author.known h.author.known) (sym c.note_readable-note.ensures.same) (keeps_all g d)

pub returns-clause-legal : goal.returns-clause-legal
returns-clause-legal g c =
    subst (λ (h : HeartView). AreLegalLogs g.M.Mount.past.image h.author.known) (sym c.note_readable-note.ensures.same) c.meet-2.ensures.legal

pub returns-clause-latest : goal.returns-clause-latest
returns-clause-latest g c = λ ok.
    let d = (goal.at.returns-clause-latest g c).After-note_readable-note in
    let i = g.M.Mount.past.image in
    let lba = c.args.place.sought.lba in
    let there = readable_place i (logs_of (note g d)) lba c.args.place (place g d) (drive g d).0 in
    let out : c.fetch_readable.new.out ≡ there.0.block.sector =
    subst (λ (p : Logs × ℕ). (r : IsReadableAt i p.0 p.1 c.args.place.sought.line c.args.place.sought.block) → c.fetch_readable.new.out ≡ r.block.sector)
    (sym (both g d)) (c.fetch_readable.ensures.sector ok) there.0 in
    ap (λ (xs : List (List ℕ)). slice_get xs lba) (sym (same_latest i (before g d) (note g d) c.requires.legal (keeps_note g d) (own_note g d)))
    ∙ (drive g d).1 ∙ ap (λ (b : _). Some b.sector) (sym there.1) ∙ ap (λ (b : List ℕ). Some b) (sym out)
