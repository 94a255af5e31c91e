use Rattle.write_ring.specs.Frames.{Carries, Fits, IsBlank, IsFree}
use Rattle.write_ring.proofs.RingStates.{in_ring_state}
use Rattle.write_ring.proofs.laws.a_ring_is_in_a_ring_state.Goals as goal

pub returns : goal.returns
returns c key s h = in_ring_state key (IsFree key) IsBlank (Carries key) (Fits key) s h
