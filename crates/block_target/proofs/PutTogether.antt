-- A target that is put together of the parts of a mount that has just begun.
use Rattle.std.proofs.Common.{◌≡◌, ℕ, ◌+◌, ◌*◌, ◌-◌, ◌≤◌, List, [], length, sym, subst, ap, ◌∙◌, arith}
use Rattle.std.specs.List.{AllByRecursion}
use Rattle.std.proofs.lemmas.Option.{same_Some}
use Rattle.atomic_table.specs.Seated.{TableId}
use Rattle.pblk_model.specs.Frames.{Region, count_out}
use Rattle.pblk_model.specs.Shape.{units}
use Rattle.unit_port.specs.Unit.{ModelUnit}
use Rattle.write_ring.specs.Batches.{BatchView}
use Rattle.write_ring.specs.Handles.{intake_view, pass_view}
use Rattle.write_ring.specs.declared.seats.Pass.{Pass}
use Rattle.write_ring.specs.declared.view.Key.{Key}
use Rattle.write_ring.specs.declared.view.View.{View}
use Rattle.pblk_core.specs.declared.target_core.Core.{Core}
use Rattle.chronicle.specs.Handles.{TokenView, first_author, note_of}
use Rattle.chronicle.specs.Views.{Past}
use Rattle.pblk_engine.specs.Beginnings.{AreFirstParts, IsFirstCore}
use Rattle.pblk_engine.specs.Endings.{IsPassIn}
use Rattle.pblk_engine.specs.Notes.{IsNoteOf}
use Rattle.pblk_engine.specs.declared.beginning.HeartParts.{HeartParts}
use Rattle.pblk_engine.proofs.EarlyArms.{first_note}
use Rattle.pblk_engine.specs.Workers.{WorkerView}
use Rattle.block_target.specs.MountFrames.{IsFreeIn, first_intake, first_pass}
use Rattle.block_target.specs.Supplies.{IsBeginning, IsSupplied}
use Rattle.block_target.specs.Targets.{IsTarget, naming}
use Rattle.block_target.specs.declared.target.Beginning.{Beginning}

module _ (chronicle : TableId) (past : Past) (ring : TableId) (key : Key) (handed : List ModelUnit) (wear : List (List ℕ)) (b : Beginning)
    (is : IsBeginning chronicle past ring key handed wear b) where
  -- the frames are of the ring's region
  its_region : b.works.pool.region ≡ key.origin.region
  its_region = sym is.works.frames.key.own ∙ ap (λ (k : Key). k.origin.region) is.its_ring.1

  -- nothing has gone out yet
  pub supplied : IsSupplied chronicle past ring key 0 (record {
    token = b.token;
    pass = b.works.frames.pass;
    workers = b.rooms.workers;
    lists = b.rooms.lists;
    batches = b.works.frames.sessions;
  })
  supplied = record {
    token = is.token;
    pass_of = (is.works.frames.pass_of.0 ∙ is.its_ring.0, is.works.frames.pass_of.1 ∙ is.its_ring.1);
    pass = is.works.frames.pass ∙ ap (first_pass 127) is.its_ring.1;
    workers = is.rooms.workers;
    lists = is.rooms.lists;
    batches = subst (λ (r : Region). AllByRecursion (IsFreeIn r 16) b.works.frames.sessions.items) its_region is.works.frames.batches;
    first = is.low;
  }

  -- the parts of the heart
  pub heart_parts : (h : HeartParts) → h.core ≡ b.works.core → h.author ≡ first_author chronicle past 0 → h.stops ≡ b.rooms.stops
      → h.intake ≡ b.works.frames.intake → h.batch ≡ b.works.frames.copies → h.sector ≡ b.rooms.sector → h.slots ≡ b.shape.ring
      → AreFirstParts chronicle ring past key is.found h
  heart_parts h core author stops intake batch sector slots = record {
    begun = is.begun;
    core = subst (λ (x : Core). IsFirstCore past.image.shape is.found x) (sym core) is.works.core;
    author = author;
    intake_ring = ap (λ (x : _). x.seat.table_id) intake ∙ is.works.frames.intake_of.0 ∙ is.its_ring.0;
    intake = ap intake_view intake ∙ is.works.frames.intake ∙ ap (λ (k : Key). first_intake k) is.its_ring.1;
    stops = ap (λ (x : _). x.items) stops ∙ is.rooms.stops;
    batch = record {
      region = ap (λ (x : BatchView). x.region) batch ∙ is.works.frames.copies.region_is ∙ its_region;
      free = ap (λ (x : BatchView). x.free) batch ∙ is.works.frames.copies.free;
      empty = ap (λ (x : BatchView). x.drafts) batch ∙ is.works.frames.copies.empty;
      sector = ap (λ (x : _). length x.items) sector ∙ is.rooms.sector ∙ sym is.works.frames.key.sector ∙ ap (λ (r : Region). r.size) its_region;
      slots = slots ∙ ap (λ s. s.ring) is.shape ∙ sym is.works.frames.key.size ∙ ap (λ (k : Key). k.size) is.its_ring.1;
    };
  }

  -- and the target
  pub target_stands : {X : Type 0} (pass : Pass) (token : TokenView) (none : List X) (room : ℕ)
      (idle : List WorkerView) (seats named : ℕ) → IsPassIn ring key pass
      → pass_view pass ≡ first_pass (127 - b.sessions) key → token ≡ naming chronicle past named → none ≡ [] → units past.image.shape ≤ room → idle ≡ []
      → named ≤ seats
      → IsTarget chronicle past ring key handed wear pass token b.works.pool none room idle seats
  target_stands pass token none room idle seats named of at names empty there no_workers enough = record {
    mounted = is.mounted;
    pass_of = of;
    names = subst (λ (t : TokenView). IsNoteOf chronicle past (note_of t)) (sym names) (first_note chronicle past key handed wear is.mounted is.early);
    region = its_region;
    out =
        let shares = ap (λ (v : View). v.pass.shares) at in
        let size : key.size ≡ past.image.shape.ring = sym (ap (λ (k : Key). k.size) is.its_ring.1) ∙ is.works.frames.key.size in
        let out : count_out b.works.pool.left ≡ past.image.shape.ring + 1 + 16 * b.sessions = is.works.out in
        let few = is.few in
        omega arith;
    empty = empty;
    room_is = there;
    no_workers = no_workers;
    seats_are = λ n is. let same : named ≡ n = same_Some named n (sym (ap (λ (t : TokenView). t.spare) names) ∙ is) in subst (λ (m : ℕ). m ≤ seats) same enough;
  }
