use Rattle.std.proofs.Common.{◌≡◌, ◌+◌, ◌<◌, if◌then◌else◌, false, None, Some, Option, refl, sym, subst, ap, ◌∙◌, arith}
use Rattle.std.specs.FinMap as fin
use Rattle.std.proofs.lemmas.Option.{none-some}
use Rattle.pblk_model.specs.declared.chunk.Mark.{Mark}
use Rattle.pblk_model.specs.Chunk.{IsBlock}
use Rattle.pblk_model.specs.Marks.{sector_mark, void_mark}
use Rattle.pblk_world.specs.Events.{Take}
use Rattle.pblk_world.specs.Taking.{MayTake}
use Rattle.pblk_world.specs.World.{log_of}
use Rattle.sector_pool.specs.declared.entry.Class.{Class}
use Rattle.sector_pool.specs.declared.entry.Class.TheVariants.{User, Copy}
use Rattle.sector_pool.specs.declared.entry.Source.{Source as EntrySource}
use Rattle.core_laws.specs.Stepping.{after}
use Rattle.pblk_core.specs.declared.target_core.Core.{Core}
use Rattle.pblk_core.specs.Collecting.{weighed}
use Rattle.pblk_core.specs.Stands.{Stands}
use Rattle.pblk_core.specs.Taken.{IsClassed, entry_of, is_latest_from, mark_of, users_in}
use Rattle.pblk_core.proofs.HeldPositions.{held_room, held_another, held_rises}
use Rattle.pblk_core.proofs.StandsFacts.{ring_some}
use Rattle.pblk_core.proofs.StandsStale.{stale_stands, may_take_stale}
use Rattle.pblk_core.proofs.target_core.Core.take_stale.Goals as goal

pub returns : goal.returns
returns c = record {
  stands = λ i w knows mount st. subst (λ (m : Mark). Stands i (after (log_of w) (Take (entry_of c.args.entry) m) knows) c.keep.new.self) (sym mark)
      (stale_stands i w knows c.args.self.now c.keep.new.self c.args.entry mount st
      c.requires.can (record {
        kept = record {
          layout = ap (λ s. s.layout) c.keep.ensures.unchanged;
          capacity = ap (λ s. fin.len s.map) c.keep.ensures.unchanged;
          window = c.keep.ensures.window;
          placer = c.keep.ensures.placer;
          open_lines = ap (λ s. s.open) c.keep.ensures.unchanged;
          online = ap (λ s. s.online) c.keep.ensures.unchanged;
          resets = ap (λ s. s.resets) c.keep.ensures.unchanged;
          notes = ap (λ s. s.notes) c.keep.ensures.unchanged;
          start = ap (λ s. s.start) c.keep.ensures.unchanged;
          first = ap (λ s. s.first) c.keep.ensures.unchanged;
          placed = ap (λ s. s.placed) c.keep.ensures.unchanged;
          left = ap (λ s. s.left) c.keep.ensures.unchanged;
          under_way = ap (λ s. s.under_way) c.keep.ensures.unchanged;
          answers = ap (λ s. s.answers.items) c.keep.ensures.unchanged;
          users = ap (λ s. s.users) c.keep.ensures.unchanged ∙ same_users;
        };
        map = ap (λ s. s.map) c.keep.ensures.unchanged;
        lines = ap (λ s. s.lines) c.keep.ensures.unchanged;
        holds = c.keep.ensures.holds;
      }));
  pushed = c.keep.ensures.window;
  rows = ap (λ p. p.units) c.keep.ensures.placer;
  collecting = record {
    collection = ap (λ s. s.collection) c.keep.ensures.unchanged;
    map = ap (λ s. s.map) c.keep.ensures.unchanged;
    pad = ap (λ p. p.entries.pad) c.keep.ensures.placer;
    brings = λ line none. ap (λ (x : Core). weighed x line) c.keep.ensures.unchanged ∙ none;
  };
  legal = λ i w mount st block sector. subst (λ (m : Mark). MayTake i (log_of w) (entry_of c.args.entry) m) (sym mark)
      (may_take_stale i w c.args.self.now c.args.entry mount st
      c.requires.can c.requires.can.position
      (subst (λ s. c.args.entry.lba < s.capacity) st.layout c.requires.can.lba) c.requires.stale
      (subst (λ (m : Mark). IsBlock i.shape (record { sector = c.args.entry.frame.bytes; mark = m })) mark block));
}
  where
    mark : mark_of c.args.self.now.map c.args.entry ≡ void_mark c.args.entry.position
    mark = ap (λ b. if b then sector_mark c.args.entry.lba c.args.entry.position else void_mark c.args.entry.position) c.requires.stale

    -- it is a copy
    no_user : users_in c.args.entry.class ≡ 0
    no_user = go c.args.entry.class c.args.entry.source c.requires.can.class c.requires.stale
      where
        go : (class : Class) (source : Option EntrySource) → IsClassed c.args.self.now.map c.args.entry class source
            → is_latest_from (fin.get c.args.self.now.map c.args.entry.lba) source ≡ false → users_in class ≡ 0
        go Copy source classed stale = refl
        go User None classed stale = absurd cc
        go User (Some source) classed stale = absurd (none-some source (sym classed))

    same_users : c.args.self.now.users ≡ c.args.self.now.users + users_in c.args.entry.class
    same_users = let none : users_in c.args.entry.class ≡ 0 = no_user in omega arith

pub keep-requires-clause-holds : goal.keep-requires-clause-holds
keep-requires-clause-holds c =
    let st = c.requires.standing in
    subst (λ n. 0 < n) (sym st.stands.holds.room) (ring_some st.image.shape st.legal.accepted)

pub keep-requires-clause-waits_room : goal.keep-requires-clause-waits_room
keep-requires-clause-waits_room c =
    let st = c.requires.standing in
    held_room st.image st.world c.args.self.now st.legal st.stands c.requires.can.room

pub keep-requires-clause-another : goal.keep-requires-clause-another
keep-requires-clause-another c =
    let st = c.requires.standing in
    held_another st.image st.world c.args.self.now c.args.entry.position st.legal st.stands c.requires.can.next

pub keep-requires-clause-rises : goal.keep-requires-clause-rises
keep-requires-clause-rises c =
    let st = c.requires.standing in
    held_rises st.image st.world c.args.self.now c.args.entry.position st.legal st.stands c.requires.can.next
