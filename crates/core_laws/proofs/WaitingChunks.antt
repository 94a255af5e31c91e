-- Of the chunk of a stripe that waits for its answer all stripes before it have landed, and it is
-- the last one.
use Rattle.std.proofs.Common.{◌≡◌, ◌⊎◌, ℕ, ◌+◌, ◌*◌, ◌<◌, ◌≤◌, true, Some, List, [], length, take, refl, sym, ap, ◌∙◌, arith}
use Rattle.std.specs.Prelude.{slice_get}
use Rattle.std.specs.List.{AllByRecursion, list_any}
use Rattle.std.proofs.lemmas.Option.{slice_get_within}
use Rattle.pblk_model.specs.declared.shape.Shape.{Shape}
use Rattle.pblk_model.specs.Image.{Image}
use Rattle.pblk_world.specs.Events.{Logged}
use Rattle.pblk_world.specs.World.{World, log_of}
use Rattle.pblk_world.specs.EngineLog.{Opened, Opening, Placed, placements, stripes_on, answer_of, is_land, has_landed, bears_position}
use Rattle.pblk_world.specs.Space.{landed_blocks}
use Rattle.pblk_world.specs.LegalMounts.{IsLegalMount}
use Rattle.world_laws.proofs.UnitTurns.{rise_between}
use Rattle.core_laws.specs.PlacerOf.{unanswered_on}
use Rattle.core_laws.specs.ChunkBlocks.{chunk_blocks, first_bearing, has_landed_in}
use Rattle.core_laws.proofs.Answered.{first_unanswered}
use Rattle.core_laws.proofs.ChunksInRows.{rows_of_chunks}
use Rattle.core_laws.proofs.FirstLanded.{AreFirst, all_but_last, first_count, first_hold, first_found, block_of_first}
use Rattle.core_laws.proofs.GivenBack.{IsLandedNow, of_unit_landed}
use Rattle.core_laws.proofs.GivenNow.{chunk_life, chunk_unit, IsOfChunk, chunk_members}
use Rattle.core_laws.proofs.LandedBlocks.{on_its, on_rises}
use Rattle.core_laws.proofs.LandedStripe.{with_landing}
use Rattle.core_laws.proofs.LandedWindow.{landed_now}
use Rattle.core_laws.proofs.NewBlocks.{IsNewest, before_lands, last_in_chunk}
use Rattle.core_laws.proofs.NewWindow.{newest_in}
use Rattle.core_laws.proofs.StripeBlocks.{length_joined}
use Rattle.pblk_model.proofs.Lists.{IsAmong}
use Rattle.pblk_model.proofs.Parts.{all_at, all_by_get}

-- how many stripes came before it
record IsFirstPart (s : Shape) (log : List Logged) (p : Placed) (o : Opening) : Type 0 where
  count : ℕ
  first : AreFirst (has_landed log) count (stripes_on log o p.stripe.unit)
  at : p.stripe.at ≡ count * s.ws_opt
  whole : length (stripes_on log o p.stripe.unit) ≡ count + 1

first_part : (s : Shape) (log new : List Logged) (p : Placed) (o : Opening) → IsLandedNow s log new p o → IsNewest log p → IsFirstPart s log p o
first_part s log new p o is newest = record {
  count = here.0;
  first = all_but_last (has_landed log) (stripes_on log o p.stripe.unit) here.0 p here.1 (last_in_chunk log p o here.0 newest here.1)
      (ap is_land is.one_more.before) earlier;
  at = (is.rows here.0 p here.1).at;
  whole =
      let few : length (stripes_on log o p.stripe.unit) ≤ here.0 + 1 = last_in_chunk log p o here.0 newest here.1 in
      let some : here.0 < length (stripes_on log o p.stripe.unit) = slice_get_within (stripes_on log o p.stripe.unit) here.0 p here.1 in
      omega arith;
}
  where
    here : IsAmong (stripes_on log o p.stripe.unit) p
    here = on_its log o p.stripe.unit p is.one_more.among is.life refl

    earlier : (j : ℕ) (r : Placed) → j < here.0 → slice_get (stripes_on log o p.stripe.unit) j ≡ Some r → has_landed log r ≡ true
    earlier j r below at =
        let of : IsOfChunk log p o r = all_at (IsOfChunk log p o) (stripes_on log o p.stripe.unit) j r at (chunk_members log p o) in
        let older : r.number < p.number = rise_between (stripes_on log o p.stripe.unit) j here.0 r p (on_rises log o p.stripe.unit) below at here.1 in
        before_lands log new p r
        (all_at (λ (r : Placed). (r ≡ p) ⊎ (answer_of new r ≡ answer_of log r)) (placements log) of.among.0 r of.among.1 is.one_more.others)
        (λ same. apart (ap (λ (x : Placed). x.number) same) older)
        (of_unit_landed s log new p o is r of.among (chunk_unit p o r of.of) (chunk_life p o r of.of))
      where
        apart : {m n : ℕ} → m ≡ n → m < n → ⊥
        apart e h = absurd (omega (arith, e, h))

part_blocks : (s : Shape) (log : List Logged) (p : Placed) (o : Opening) → (part : IsFirstPart s log p o)
    → landed_blocks s log o p.stripe.unit ≡ part.count * s.ws_opt
part_blocks s log p o part = ap (λ n. n * s.ws_opt) (first_count (has_landed log) part.count (stripes_on log o p.stripe.unit) part.first)

-- ---- their blocks

long_blocks : (s : Shape) (log new : List Logged) (p : Placed) (o : Opening) → IsLandedNow s log new p o
    → AllByRecursion (λ (r : Placed). length r.stripe.blocks ≡ s.ws_opt) (stripes_on log o p.stripe.unit)
long_blocks s log new p o is =
    all_by_get (λ (r : Placed). length r.stripe.blocks ≡ s.ws_opt) (stripes_on log o p.stripe.unit) (λ k r e. (is.rows k r e).blocks)

pub landed_bears : (s : Shape) (log new : List Logged) (p : Placed) (o : Opening) (q : ℕ) → IsLandedNow s log new p o → IsNewest log p
    → has_landed_in s log o p.stripe.unit q
    ≡ list_any (bears_position s q) (take (landed_blocks s log o p.stripe.unit) (chunk_blocks log o p.stripe.unit))
landed_bears s log new p o q is newest =
    let part : IsFirstPart s log p o = first_part s log new p o is newest in
    first_hold s q (has_landed log) s.ws_opt part.count (stripes_on log o p.stripe.unit) part.first
    (long_blocks s log new p o is)
    ∙ ap (λ n. list_any (bears_position s q) (take n (chunk_blocks log o p.stripe.unit))) (sym (part_blocks s log p o part))

pub landed_block : (s : Shape) (log new : List Logged) (p : Placed) (o : Opening) (q : ℕ) → IsLandedNow s log new p o → IsNewest log p
    → block_of_first s (has_landed log) (stripes_on log o p.stripe.unit) q
    ≡ first_bearing s 0 (take (landed_blocks s log o p.stripe.unit) (chunk_blocks log o p.stripe.unit)) q
landed_block s log new p o q is newest =
    let part : IsFirstPart s log p o = first_part s log new p o is newest in
    first_found s q (has_landed log) s.ws_opt 0 part.count (stripes_on log o p.stripe.unit) part.first
    (λ k r e. let row = is.rows k r e in ((let at : r.stripe.at ≡ k * s.ws_opt = row.at in omega arith), row.blocks))
    ∙ ap (λ n. first_bearing s 0 (take n (chunk_blocks log o p.stripe.unit)) q) (sym (part_blocks s log p o part))

-- ---- how many, in a legal mount

module _ (i : Image) (w : World) (unit : ℕ) (p : Placed) (o : Opening) (mount : IsLegalMount i w)
    (waits : unanswered_on (log_of w 0) unit ≡ Some p) (life : p.life ≡ Opened o) where
  its : p.stripe.unit ≡ unit
  its = (first_unanswered (log_of w 0) unit p waits).of_unit

  -- what holds of the log is told by a landing that might be next
  pub would_land : IsLandedNow i.shape (log_of w 0) (with_landing (log_of w 0) unit 0 []) p o
  would_land = landed_now i w unit 0 [] p o mount waits life (rows_of_chunks i w o unit mount)

  part : IsFirstPart i.shape (log_of w 0) p o
  part = first_part i.shape (log_of w 0) (with_landing (log_of w 0) unit 0 []) p o would_land (newest_in i w unit p mount.legal waits)

  pub landed_before_it : landed_blocks i.shape (log_of w 0) o unit ≡ p.stripe.at
  landed_before_it = ap (landed_blocks i.shape (log_of w 0) o) (sym its) ∙ part_blocks i.shape (log_of w 0) p o part ∙ sym part.at

  pub blocks_with_it : length (chunk_blocks (log_of w 0) o unit) ≡ p.stripe.at + i.shape.ws_opt
  blocks_with_it =
      ap (λ u. length (chunk_blocks (log_of w 0) o u)) (sym its)
      ∙ length_joined i.shape.ws_opt (stripes_on (log_of w 0) o p.stripe.unit)
      (long_blocks i.shape (log_of w 0) (with_landing (log_of w 0) unit 0 []) p o would_land)
      ∙ ap (λ n. n * i.shape.ws_opt) part.whole
      ∙ (let at : p.stripe.at ≡ part.count * i.shape.ws_opt = part.at in
      let next : (part.count + 1) * i.shape.ws_opt ≡ part.count * i.shape.ws_opt + i.shape.ws_opt = grind arith in omega arith)
