use Rattle.std.proofs.Common.{◌≡◌, ℕ, Option, Some, ◌+◌, ◌%◌, ◌<◌, ◌≤◌, ◌^◌, if◌then◌else◌, None, length, refl, sym, subst, ap, ◌∙◌, arith}
use Rattle.std.specs.Prelude.{slice_get, slice_set}
use Rattle.std.specs.Option.{IfSome}
use Rattle.std.specs.FinMap as fin
use Rattle.pblk_model.specs.declared.chunk.Mark.{Mark}
use Rattle.pblk_model.specs.declared.shape.Shape.{Shape}
use Rattle.pblk_model.specs.Chunk.{IsBlock}
use Rattle.pblk_model.specs.Marks.{sector_mark, void_mark}
use Rattle.pblk_world.specs.Events.{Take}
use Rattle.pblk_world.specs.Fronts.{taken}
use Rattle.pblk_world.specs.Taking.{MayTake}
use Rattle.pblk_world.specs.World.{log_of}
use Rattle.sector_pool.specs.declared.entry.Class.{Class}
use Rattle.sector_pool.specs.declared.entry.Class.TheVariants.{User, Copy}
use Rattle.line_table.specs.Rows.{Table}
use Rattle.core_laws.specs.Stepping.{after}
use Rattle.pblk_core.specs.declared.target_core.Core.{Core}
use Rattle.pblk_core.specs.Holds.{line_of_slot}
use Rattle.pblk_core.specs.Stands.{Stands}
use Rattle.pblk_core.specs.Taken.{entry_of, mark_of, users_in}
use Rattle.pblk_core.proofs.BarrenLines.{brings_but, lost_elsewhere}
use Rattle.pblk_core.proofs.HeldPositions.{held_room, held_another, held_rises}
use Rattle.pblk_core.proofs.StandsFacts.{users_few, window_taken_is}
use Rattle.pblk_core.proofs.StandsTaken.{taken_stands, live_inside, live_there, may_take}
use Rattle.pblk_core.proofs.TabledLines.{each_line}
use Rattle.pblk_core.proofs.target_core.Core.take_latest.Goals as goal

pub returns : goal.returns
returns c = record {
  stands = λ i w knows mount st. subst (λ (m : Mark). Stands i (after (log_of w) (Take (entry_of c.args.entry) m) knows) c.keep.new.self) (sym mark)
      (taken_stands i w knows c.args.self.now c.keep.new.self c.args.entry (sector_mark c.args.entry.lba c.args.entry.position) mount st
      c.requires.can (record {
        kept = record {
          layout = ap (λ s. s.layout) c.keep.ensures.unchanged;
          capacity = ap (λ s. fin.len s.map) c.keep.ensures.unchanged ∙ c.set.ensures.capacity;
          window = c.keep.ensures.window;
          placer = c.keep.ensures.placer;
          open_lines = ap (λ s. s.open) c.keep.ensures.unchanged;
          online = ap (λ s. s.online) c.keep.ensures.unchanged;
          resets = ap (λ s. s.resets) c.keep.ensures.unchanged;
          notes = ap (λ s. s.notes) c.keep.ensures.unchanged;
          start = ap (λ s. s.start) c.keep.ensures.unchanged;
          first = ap (λ s. s.first) c.keep.ensures.unchanged;
          placed = ap (λ s. s.placed) c.keep.ensures.unchanged;
          left = ap (λ s. s.left) c.keep.ensures.unchanged;
          under_way = ap (λ s. s.under_way) c.keep.ensures.unchanged;
          answers = ap (λ s. s.answers.items) c.keep.ensures.unchanged;
          users = ap (λ s. s.users) c.keep.ensures.unchanged ∙ ap (λ n. c.args.self.now.users + n) c.users_in.ensures;
        };
        slot = c.get.result;
        found = c.get.ensures;
        map = ap (λ s. s.map) c.keep.ensures.unchanged ∙ c.set.ensures.set;
        lines = ap (λ s. s.lines) c.keep.ensures.unchanged ∙ c.supersede-loser.ensures.lines;
        holds = c.keep.ensures.holds ∙ ap (λ rows. slice_set rows (c.args.entry.position % length rows)
            (record { mark = sector_mark c.args.entry.lba c.args.entry.position; line = None; taker = None })) c.supersede-loser.ensures.holds;
      }) refl (subst (λ s. c.args.entry.lba < s.capacity) st.layout c.requires.can.lba));
  pushed = c.keep.ensures.window;
  pad = ap (λ p. p.entries.pad) c.keep.ensures.placer;
  rows = ap (λ p. p.units) c.keep.ensures.placer;
  map = ap (λ s. s.map) c.keep.ensures.unchanged ∙ c.set.ensures.set;
  collection = ap (λ s. s.collection) c.keep.ensures.unchanged;
  inside = subst (λ o. IfSome o (λ line. line < c.keep.new.self.layout.chunks)) (sym c.supersede-loser.ensures.line) loser_inside;
  brings = brings_but c.supersede-loser.result c.args.self.now c.keep.new.self (record {
    layout = ap (λ s. s.layout) c.keep.ensures.unchanged;
    newest = ap (λ s. s.notes.newest) c.keep.ensures.unchanged;
    others = λ other apart. record {
      notes = ap (λ s. slice_get s.notes.rows.items other) c.keep.ensures.unchanged;
      rows = ap (λ s. slice_get s.lines.rows other) c.keep.ensures.unchanged ∙ ap (λ (t : Table). slice_get t.rows other) c.supersede-loser.ensures.lines
          ∙ lost_elsewhere _ _ c.args.entry.position other c.args.self.now.lines (λ e. apart (c.supersede-loser.ensures.line ∙ e));
      online = ap (λ s. slice_get s.online.items other) c.keep.ensures.unchanged;
    };
  });
  legal = λ i w mount st block sector. subst (λ (m : Mark). MayTake i (log_of w) (entry_of c.args.entry) m) (sym mark)
      (may_take i w c.args.self.now c.args.entry mount st c.requires.can.next c.requires.can.position
      (subst (λ s. c.args.entry.lba < s.capacity) st.layout c.requires.can.lba) c.requires.latest
      (subst (λ (m : Mark). IsBlock i.shape (record { sector = c.args.entry.frame.bytes; mark = m })) mark block) sector);
}
  where
    loser_inside : IfSome (line_of_slot c.args.self.now.holds.rows.items c.get.result) (λ line. line < c.keep.new.self.layout.chunks)
    loser_inside = if_inside (line_of_slot c.args.self.now.holds.rows.items c.get.result) (λ line is.
        let st = c.requires.standing in
        let each = each_line st.image st.world (log_of st.world) st.legal st.stands in
        subst (λ (s : Shape). line < s.chunks) (sym (ap (λ (x : Core). x.layout) c.keep.ensures.unchanged))
        (subst (λ n. line < n) each.rows (live_inside st.image st.world c.args.self.now c.args.entry.lba c.get.result line st.legal st.stands c.get.ensures
        (subst (λ s. c.args.entry.lba < s.capacity) st.stands.layout c.requires.can.lba) is)))
      where
        if_inside : (o : Option ℕ) → ((line : ℕ) → o ≡ Some line → line < c.keep.new.self.layout.chunks)
            → IfSome o (λ line. line < c.keep.new.self.layout.chunks)
        if_inside None inside = tt
        if_inside (Some line) inside = inside line refl

    mark : mark_of c.args.self.now.map c.args.entry ≡ sector_mark c.args.entry.lba c.args.entry.position
    mark = ap (λ b. if b then sector_mark c.args.entry.lba c.args.entry.position else void_mark c.args.entry.position) c.requires.latest

pub get-requires : goal.get-requires
get-requires c =
    let st = c.requires.standing in
    subst (λ n. c.args.entry.lba < n) (sym st.stands.capacity) (subst (λ s. c.args.entry.lba < s.capacity) st.stands.layout c.requires.can.lba)

pub supersede-loser-requires-clause-inside : goal.supersede-loser-requires-clause-inside
supersede-loser-requires-clause-inside c = λ line is.
    let st = c.requires.standing in
    live_inside st.image st.world c.args.self.now c.args.entry.lba c.get.result line st.legal st.stands c.get.ensures
    (subst (λ s. c.args.entry.lba < s.capacity) st.stands.layout c.requires.can.lba) is

pub supersede-loser-requires-clause-live : goal.supersede-loser-requires-clause-live
supersede-loser-requires-clause-live c = λ line row is there.
    let st = c.requires.standing in
    live_there st.image st.world c.args.self.now c.args.entry.lba c.get.result line row st.legal st.stands c.get.ensures
    (subst (λ s. c.args.entry.lba < s.capacity) st.stands.layout c.requires.can.lba) is there

pub keep-requires-clause-waits_room : goal.keep-requires-clause-waits_room
keep-requires-clause-waits_room c =
    let st = c.requires.standing in
    held_room st.image st.world c.args.self.now st.legal st.stands c.requires.can.room

pub keep-requires-clause-another : goal.keep-requires-clause-another
keep-requires-clause-another c =
    let st = c.requires.standing in
    held_another st.image st.world c.args.self.now c.args.entry.position st.legal st.stands c.requires.can.next

pub keep-requires-clause-rises : goal.keep-requires-clause-rises
keep-requires-clause-rises c =
    let st = c.requires.standing in
    held_rises st.image st.world c.args.self.now c.args.entry.position st.legal st.stands c.requires.can.next

pub overflow_add-self : goal.overflow_add-self
overflow_add-self c =
    let st = c.requires.standing in
    let few : c.args.self.now.users ≤ taken (log_of st.world 0) = users_few st.image st.world c.args.self.now st.stands in
    let next : c.args.entry.position ≡ taken (log_of st.world 0) = c.requires.can.next ∙ window_taken_is st.image st.world c.args.self.now st.stands in
    let low : c.args.entry.position < 2 ^ 62 = c.requires.can.position in
    let more : users_in c.args.entry.class ≤ 1 = at_most_one c.args.entry.class in
    let its : c.users_in.result ≡ users_in c.args.entry.class = c.users_in.ensures in
    omega arith
  where
    at_most_one : (class : Class) → users_in class ≤ 1
    at_most_one User = omega arith
    at_most_one Copy = omega arith
