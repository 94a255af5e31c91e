-- A place that a look gave, by logs that grew by what units did.
use Rattle.std.proofs.Common.{◌≡◌, ℕ, refl, sym, subst, ap, ap₂, ◌∙◌}
use Rattle.std.specs.Prelude.{slice_get}
use Rattle.std.proofs.lemmas.Option.{same_Some}
use Rattle.pblk_model.specs.Contents.{contents}
use Rattle.pblk_model.specs.History as histories
use Rattle.pblk_model.specs.Image.{Image}
use Rattle.pblk_model.specs.LineOrder.{line_order}
use Rattle.pblk_layout.specs.Online.{units_in}
use Rattle.pblk_world.specs.Fronts.{history}
use Rattle.pblk_world.specs.World.{Logs}
use Rattle.world_laws.specs.SameTold.{AreSameTold}
use Rattle.core_laws.proofs.ToldTables.{online_told, slot_told}
use Rattle.step_laws.specs.SlotBlocks.{IsBlockOfSlot}
use Rattle.chronicle.specs.Prefixes.{Prefixes, AreLegalLogs, ArePrefixes, logs_of}
use Rattle.pblk_engine.specs.Fetches.{IsReadableAt}
use Rattle.pblk_engine.specs.Looks.{latest_by}
use Rattle.pblk_engine.specs.Reads.{IsPlaceOf}
use Rattle.pblk_engine.specs.declared.sector_looks.SectorPlace.{SectorPlace}
use Rattle.pblk_engine.proofs.Knowledge.{grown_told}

module _ (i : Image) (a b : Prefixes) (legal : AreLegalLogs i a) (keeps : ArePrefixes a b) (own : logs_of b 0 ≡ logs_of a 0) where
  told : AreSameTold i (logs_of a) (logs_of b)
  told = grown_told i a b legal keeps own

  -- all sectors hold what they held
  pub same_latest : latest_by i (logs_of b) ≡ latest_by i (logs_of a)
  same_latest = ap₂ (λ j log. histories.after (contents j) (history log)) told.found told.own

  -- and are where they were
  pub place_later : (lba : ℕ) (p : SectorPlace) → IsPlaceOf i (logs_of a) lba p → IsPlaceOf i (logs_of b) lba p
  place_later lba p is = record {
    of = is.of;
    at = is.at;
    look = record {
      slot = slot_told i (logs_of a) (logs_of b) told lba ∙ is.look.slot;
      place = ap (λ live. slice_get (line_order i.shape (units_in live)) is.at) (online_told i (logs_of a) (logs_of b) told p.sought.line) ∙ is.look.place;
    };
    inside = is.inside;
    unit = is.unit;
    line = is.line;
  }

-- the block of its slot can be read there
pub readable_place : (i : Image) (logs : Logs) (lba : ℕ) (p : SectorPlace) (is : IsPlaceOf i logs lba p)
    → (slot : IsBlockOfSlot i logs lba p.sought.line is.at p.sought.position)
    → (r : IsReadableAt i logs p.unit p.sought.line p.sought.block) × (r.block ≡ slot.block)
readable_place i logs lba p is slot = go p.unit p.sought.block (same_Some (slot.unit, slot.number) (p.unit, p.sought.block) (sym slot.place ∙ is.look.place))
  where
    go : (unit block : ℕ) → ◌≡◌ {A = ℕ × ℕ} (slot.unit, slot.number) (unit, block) → (r : IsReadableAt i logs unit p.sought.line block) × (r.block ≡ slot.block)
    go unit block same =
        subst (λ (q : ℕ × ℕ). (r : IsReadableAt i logs q.0 p.sought.line q.1) × (r.block ≡ slot.block)) same (
          record { chunk = slot.chunk; there = slot.there; readable = slot.readable; block = slot.block; written = slot.written },
          refl,
        )
