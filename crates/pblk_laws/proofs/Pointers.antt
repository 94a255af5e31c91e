-- The two ways in which the place of a write pointer is said.
use Rattle.std.proofs.Common.{ℕ, ◌==◌, not, ltb, arith}
use Rattle.std.specs.Prelude.{◌↔◌, IsTrue}
use Rattle.std.proofs.lemmas.Bool.{eqb-true, eqb-false, eq-eqb, ne_eqb, ltb-true, lt-ltb, leb-true, le-leb, and_parts, and_from, not-true, not_from_false}
use Rattle.pblk_model.specs.declared.chunk.ChunkState.{ChunkState}
use Rattle.pblk_model.specs.declared.chunk.ChunkState.TheVariants.{Free, Open, Closed, Offline}
use Rattle.pblk_model.specs.Chunk.{PointerFits}
use Rattle.pblk_model.specs.Descriptor.{pointer_holds}

pub pointer_rule : (state : ChunkState) (n wp : ℕ) → IsTrue (pointer_holds state n wp) ↔ PointerFits state n wp
pointer_rule Free n wp = (eqb-true wp 0, eq-eqb wp 0)
pointer_rule Open n wp = (
  λ h. let parts = and_parts (not (wp == 0)) (ltb wp n) h in (omega (arith, eqb-false wp 0 (not-true (wp == 0) parts.0)), ltb-true wp n parts.1),
  λ h. and_from (not (wp == 0)) (ltb wp n) (not_from_false (wp == 0) (ne_eqb wp 0 (λ e. let some = h.0 in omega arith))) (lt-ltb wp n h.1),
)
pointer_rule Closed n wp = (leb-true wp n, le-leb wp n)
pointer_rule Offline n wp = (eqb-true wp 0, eq-eqb wp 0)
