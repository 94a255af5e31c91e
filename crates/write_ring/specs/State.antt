-- The state of a ring, as its words and seats tell it.
use Rattle.std.specs.Prelude.{◌≡◌, ℕ, ◌+◌, ◌*◌, map, slice_index, IsTrue}
use Rattle.atomic_table.specs.Table.{State}
use Rattle.pblk_model.specs.RingState.{PassView, RingView, IsRingState}
use Rattle.write_ring.specs.declared.view.Key.{Key}
use Rattle.write_ring.specs.declared.view.Row.{Row}
use Rattle.write_ring.specs.declared.view.View.{View}
use Rattle.write_ring.specs.Rule.{AllViews, claimed_at, freed_at, granted_at}

-- the positions of what a pass put are those that it filled
abbrev pub pass_of : View → PassView
pass_of v = record { shares = v.pass.shares; claims = v.pass.claims; filled = map (λ (r : Row). r.position) v.pass.puts }

module _ {S : Type 0} (key : Key) (s : State S View) where
  -- the ring, where its intake has taken all positions below this one
  abbrev pub ring_of : ℕ → RingView
  ring_of taken = record {
    first = key.first;
    size = key.size;
    reserve = key.reserve;
    claimed = slice_index s.words claimed_at;
    taken = taken;
    freed = slice_index s.words freed_at;
    granted = slice_index s.words granted_at;
    turn = λ k. slice_index s.words (48 + 16 * k);
    passes = map pass_of s.views;
  }

  -- the words and the seats are in a ring state, and the intake has taken all positions below one
  abbrev pub IsInRingState : Type 0
  IsInRingState = (taken : ℕ) × IsRingState (ring_of taken) × AllViews (λ u. IsTrue u.intake.on → u.intake.taken ≡ taken) s.views
