-- A mount begins with what is found.
use Rattle.std.proofs.Common.{◌≡◌, ◌≢◌, ◌+◌, Option, Some, None, [], refl, ap, ◌∙◌}
use Rattle.std.specs.List.{AllByRecursion, slice_get}
use Rattle.std.specs.Option.{option_and_then, option_map, option_map_or}
use Rattle.pblk_model.specs.declared.chunk.ChunkState.TheVariants as states
use Rattle.pblk_model.specs.declared.found.Found.{Found}
use Rattle.pblk_model.specs.declared.found.LineRow.{LineRow}
use Rattle.pblk_model.specs.Chunk.{Chunk}
use Rattle.pblk_model.specs.Image.{Image}
use Rattle.pblk_model.specs.StartRecord.{StartRecord}
use Rattle.pblk_model.specs.Contents.{head}
use Rattle.pblk_world.specs.World.{Logs, media}
use Rattle.pblk_world.specs.Lines.{next_seq}
use Rattle.pblk_world.specs.Opening.{MayBegin}
use Rattle.world_laws.specs.Finding.{IsFoundOf, NoneOpen}
use Rattle.world_laws.specs.MountBeginnings.{seq_after, beginning_of}
use Rattle.world_laws.proofs.FoundCounts.{IsHeadAt, head_at}
use Rattle.world_laws.proofs.FoundRows.{row_at}
use Rattle.pblk_model.proofs.Parts.{all_by_get}

none_open : (i : Image) → NoneOpen i → AllByRecursion (AllByRecursion (λ c. c.state ≢ states.Open)) i.units
none_open i none = all_by_get (AllByRecursion (λ (c : Chunk). c.state ≢ states.Open)) i.units (λ unit u there.
    all_by_get (λ (c : Chunk). c.state ≢ states.Open) u (λ line c has. none line unit c (ap (option_and_then (λ chunks. slice_get chunks line)) there ∙ has)))

seq_by : (i : Image) (f : Found) (o : Option StartRecord) → IsFoundOf i f → head i ≡ o → seq_after f.lines (option_map (λ h. h.line) o) ≡ next_seq o
seq_by i f None is e = refl
seq_by i f (Some h) is e =
    let at : IsHeadAt i h = head_at i h e in
    ap (λ (o : Option LineRow). option_map_or (λ seq. seq + 1) (option_and_then (λ (row : LineRow). row.seq) o) 1) (row_at i f h.line is at.is_head.here)
    ∙ ap (λ (o : Option StartRecord). option_map_or (λ seq. seq + 1) (option_map (λ (r : StartRecord). r.seq) o) 1) at.is_head.whole

pub seq_follows : (i : Image) (f : Found) → IsFoundOf i f → (beginning_of f).seq ≡ next_seq (head i)
seq_follows i f is = ap (seq_after f.lines) is.head_is ∙ seq_by i f (head i) is refl

pub may_begin : (i : Image) (logs : Logs) (f : Found) → logs 0 ≡ [] → NoneOpen (media i logs) → IsFoundOf (media i logs) f → MayBegin i logs (beginning_of f)
may_begin i logs f first none is = record {
  is_first = first;
  no_open_chunk = none_open (media i logs) none;
  first = is.end_is;
  seq = seq_follows (media i logs) f is;
  strays = is.strays_are;
}
