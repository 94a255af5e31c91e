use Rattle.std.proofs.Common.{◌<◌, ◌≢◌, Some, None, [], length, refl, sym, subst, ap, ap₂, ◌∙◌}
use Rattle.std.specs.Prelude.{map, replicate, slice_get}
use Rattle.std.specs.FinMap as fin
use Rattle.pblk_model.specs.declared.shape.Shape.{Shape}
use Rattle.pblk_model.specs.Found.{Rise}
use Rattle.pblk_model.specs.Shape.{units}
use Rattle.stripe_placer.specs.Placing.{nothing_placed}
use Rattle.world_laws.specs.MountBeginnings.{seq_after}
use Rattle.core_laws.specs.OnlineUnits.{all_online}
use Rattle.core_laws.specs.OpeningTables.{IsOpeningTable, slot_found}
use Rattle.pblk_model.proofs.Lists.{length_replicate}
use Rattle.pblk_core.specs.OlderLines.{older_found}
use Rattle.pblk_core.specs.LineNotes.{head_start, note_found}
use Rattle.pblk_core.specs.Resets.{resets_found, used_below}
use Rattle.pblk_model.proofs.Lists.{length_replicate}
use Rattle.pblk_core.proofs.FitFindings.{stray_inside, stray_used, head_inside, small_seq, opening_table}
use Rattle.pblk_core.proofs.target_core.Core.made.Goals as goal

pub found_map-requires-clause-inside : goal.found_map-requires-clause-inside
found_map-requires-clause-inside c = λ k w there. (c.requires.fit.winners k w (ap (λ ws. slice_get ws k) (sym c.as_slice.ensures) ∙ there)).sector

pub new-requires-5-clause-lines : goal.new-requires-5-clause-lines
new-requires-5-clause-lines c =
    λ k line there. stray_inside c.args.shape.now c.args.found.now k line c.requires.fit (ap (λ xs. slice_get xs k) (sym c.as_slice-2.ensures) ∙ there)

pub new-requires-5-clause-rise : goal.new-requires-5-clause-rise
new-requires-5-clause-rise c = subst Rise (sym c.as_slice-2.ensures) c.requires.fit.strays_rise

pub new-requires-5-clause-some : goal.new-requires-5-clause-some
new-requires-5-clause-some c =
    λ k line there. subst (λ chunks. used_below c.args.shape.now chunks line (units c.args.shape.now) ≢ []) (sym c.as_slice-states.ensures)
    (stray_used c.args.shape.now c.args.found.now k line c.requires.fit (ap (λ xs. slice_get xs k) (sym c.as_slice-2.ensures) ∙ there))

pub next_seq-seq-requires-clause-inside : goal.next_seq-seq-requires-clause-inside
next_seq-seq-requires-clause-inside c =
    λ line is. subst (λ xs. line < length xs) (sym c.as_slice-4.ensures) (head_inside c.args.shape.now c.args.found.now line c.requires.fit is)

pub next_seq-seq-requires-clause-small : goal.next_seq-seq-requires-clause-small
next_seq-seq-requires-clause-small c =
    λ line seq row there is. small_seq c.args.shape.now c.args.found.now line seq row c.requires.fit
    (ap (λ xs. slice_get xs line) (sym c.as_slice-4.ensures) ∙ there) is

pub returns : goal.returns
returns c = record {
  layout = c.new-layout.ensures;
  capacity = ap fin.len c.map.view_is ∙ c.in_ok-map.ensures.capacity;
  slots = λ lba inside. ap (λ m. fin.get m lba) c.map.view_is ∙ c.in_ok-map.ensures.slots lba inside ∙ ap (λ ws. Some (slot_found ws lba)) c.as_slice.ensures;
  lines = subst (IsOpeningTable c.args.shape.now c.args.found.now) (sym c.lines.view_is)
      (opening_table c.new-layout.result c.args.shape.now c.args.found.now c.in_ok-lines.lines c.new-layout.ensures (record {
        shape = c.in_ok-lines.ensures.shape;
        lines = c.in_ok-lines.ensures.lines;
        state = c.in_ok-lines.ensures.state;
        width = c.in_ok-lines.ensures.width;
        live = c.in_ok-lines.ensures.live;
        taker = c.in_ok-lines.ensures.taker;
      }));
  online = c.in_ok-online.ensures ∙ ap (λ (s : Shape). all_online s c.args.found.now s.chunks) c.new-layout.ensures;
  resets = c.in_ok-resets.ensures.left ∙ ap₂ (λ chunks strays. resets_found c.args.shape.now chunks strays) c.as_slice-states.ensures c.as_slice-2.ensures;
  used = λ line inside. c.in_ok-resets.ensures.used line inside
      ∙ ap (λ chunks. used_below c.args.shape.now chunks line (units c.args.shape.now)) c.as_slice-states.ensures;
  used_lines = c.in_ok-resets.ensures.lines;
  notes = c.in_ok-notes.ensures.rows ∙ ap (map note_found) c.as_slice-3.ensures;
  newest = c.in_ok-notes.ensures.newest ∙ ap (λ lines. head_start lines c.args.found.now.head c.args.found.now.front) c.as_slice-3.ensures;
  size = c.in_ok-new.ensures.size;
  freed = c.in_ok-new.ensures.first;
  entries = c.in_ok-new.ensures.empty;
  no_users = c.in_ok-new.ensures.no_users;
  holds = c.in_ok-holds.ensures;
  first = refl;
  placed = refl;
  users = refl;
  placer = c.in_ok-placer.ensures ∙ ap nothing_placed c.new-layout.ensures;
  two = c.in_ok-open.ensures.two;
  shapes = λ k line there. c.in_ok-open.ensures.shapes k line there ∙ c.new-layout.ensures;
  none_open = c.in_ok-open.ensures.none;
  left = refl;
  in_flight = refl;
  none_answered = c.in_ok-answers.ensures ∙ ap (λ n. replicate n 0) c.units.ensures;
  lines_held = ap length c.in_ok-collection.ensures.lines ∙ length_replicate c.args.shape.now.chunks None;
  none_weighed = c.in_ok-collection.ensures.fresh;
  none_at_work = c.in_ok-collection.ensures.victim;
  from_start = c.in_ok-collection.ensures.cursor;
  none_copied = c.in_ok-collection.ensures.idle;
  seq = c.next_seq-seq.ensures ∙ ap (λ lines. seq_after lines c.args.found.now.head) c.as_slice-4.ensures;
  first_seq = c.next_seq-seq.ensures ∙ ap (λ lines. seq_after lines c.args.found.now.head) c.as_slice-4.ensures;
  own_capacity = refl;
  rows = c.in_ok-older_rows.ensures ∙ ap (older_found c.args.found.now.end) c.as_slice-5.ensures;
}
