-- The stripes of each chunk of an opening stand in it one after another, also in a line that is
-- Failed.
use Rattle.std.proofs.Common.{◌≡◌, ◌⊎◌, inl, inr, ℕ, ◌+◌, ◌*◌, ◌/◌, ◌<◌, ◌≤◌, ◌==◌, suc, List, length, take, sym, subst, ap, ◌∙◌, arith}
use Rattle.std.specs.Prelude.{slice_get}
use Rattle.std.specs.List.{Contains, filter}
use Rattle.std.proofs.lemmas.Bool.{eqb-true}
use Rattle.std.proofs.Math.Nat.{mul-le-mul_right}
use Rattle.pblk_model.specs.Image.{Image}
use Rattle.pblk_world.specs.Events.{Logged}
use Rattle.pblk_world.specs.World.{World, log_of}
use Rattle.pblk_world.specs.EngineLog.{Opened, Opening, openings, Placed, placements, stripes_of, stripes_on, life_of, is_life}
use Rattle.pblk_world.specs.LegalMounts.{IsLegalMount}
use Rattle.world_laws.proofs.Lives.{IsFreedLife, standing_or_freed}
use Rattle.world_laws.proofs.Made.{IsMade, made, own_then}
use Rattle.world_laws.proofs.StripePlaces.{kth_place}
use Rattle.world_laws.proofs.Stripes.{life_of_stripe, opening_then, placed_before_freed, stripe_of_prefix}
use Rattle.core_laws.specs.ChunkBlocks.{AreInRows}
use Rattle.core_laws.proofs.DoneLines.{on_its_unit, whole_rows}
use Rattle.core_laws.proofs.LandedNow.{opened_now}
use Rattle.core_laws.proofs.LineNumbers.{row_within}
use Rattle.core_laws.proofs.StripeBlocks.{have_blocks}
use Rattle.core_laws.proofs.UnitTurns.{filtered_is}
use Rattle.pblk_model.proofs.Lists.{IsAmong, among_contained}
use Rattle.pblk_model.proofs.Maps.{from_filter}
use Rattle.pblk_model.proofs.Parts.{all_at, contained_among}

-- a stripe of a line that is opened so ends within its chunk
ends_within : (i : Image) (w : World) (o : Opening) (p : Placed) → IsLegalMount i w → life_of (log_of w 0) o.line ≡ Opened o
    → IsAmong (stripes_of (log_of w 0) o) p → p.stripe.at + i.shape.ws_opt ≤ i.shape.clba
ends_within i w o p mount is_open among =
    let on : IsAmong (stripes_on (log_of w 0) o p.stripe.unit) p = on_its_unit i w mount o is_open p among in
    let row : on.0 < i.shape.clba / i.shape.ws_opt = row_within i w mount o is_open p.stripe.unit on.0 p on.1 in
    let at : p.stripe.at ≡ on.0 * i.shape.ws_opt = kth_place i w o p.stripe.unit on.0 p mount (opened_now i w mount o.line o is_open).0 on.1 in
    let fits : suc on.0 * i.shape.ws_opt ≤ i.shape.clba / i.shape.ws_opt * i.shape.ws_opt = mul-le-mul_right i.shape.ws_opt (omega arith) in
    let next : suc on.0 * i.shape.ws_opt ≡ on.0 * i.shape.ws_opt + i.shape.ws_opt = omega arith in
    let whole : i.shape.clba ≡ i.shape.clba / i.shape.ws_opt * i.shape.ws_opt = whole_rows i w mount o is_open in
    omega arith

-- by the world as it is now, or as it was when the line was freed
ends_in_chunk : (i : Image) (w : World) (o : Opening) (p : Placed) → IsLegalMount i w → Contains (openings (log_of w 0)) o
    → Contains (stripes_of (log_of w 0) o) p → p.stripe.at + i.shape.ws_opt ≤ i.shape.clba
ends_in_chunk i w o p mount opened there = go (standing_or_freed i w o mount.legal opened)
  where
    go : (life_of (log_of w 0) o.line ≡ Opened o) ⊎ IsFreedLife (log_of w 0) o → p.stripe.at + i.shape.ws_opt ≤ i.shape.clba
    go (inl stands) = ends_within i w o p mount stands (among_contained (stripes_of (log_of w 0) o) p there)
    go (inr f) =
        let h : IsMade i w 0 f.number f.logged = made i w 0 f.number f.logged mount.legal f.there in
        let own : take f.number (log_of w 0) ≡ log_of h.before 0 = sym (own_then i w 0 f.number f.logged h) in
        let then_ : IsLegalMount i h.before = record { accepted = mount.accepted; fit = mount.fit; legal = h.legal } in
        ends_within i h.before o p then_ (ap (λ (xs : List Logged). life_of xs o.line) (sym own) ∙ f.was)
        (subst (λ (xs : List Logged). IsAmong (stripes_of xs o) p) own
        (among_contained (stripes_of (take f.number (log_of w 0)) o) p
        (stripe_of_prefix (log_of w 0) f.number o p there (placed_before_freed i w o p f mount.legal there))))

pub rows_of_chunks : (i : Image) (w : World) (o : Opening) (unit : ℕ) → IsLegalMount i w → AreInRows i.shape (log_of w 0) o unit
rows_of_chunks i w o unit mount = λ k p e.
    let log : List Logged = log_of w 0 in
    let among : IsAmong (stripes_of log o) p = from_filter (λ (r : Placed). r.stripe.unit == unit) (stripes_of log o) p (k, e) in
    let placed : IsAmong (placements log) p = from_filter (λ (q : Placed). is_life o.number q.life) (placements log) p among in
    let life = life_of_stripe i w p mount.legal (contained_among (placements log) p placed) in
    let opened : Contains (openings log) life.0 = (opening_then log p.number p.stripe.line life.0 life.2).0 in
    let number : life.0.number ≡ o.number = eqb-true life.0.number o.number
    (ap (is_life o.number) (sym life.1) ∙ filtered_is (λ (q : Placed). is_life o.number q.life) (placements log) among.0 p among.1) in
    let same : stripes_of log life.0 ≡ stripes_of log o = ap (λ n. filter (λ (q : Placed). is_life n q.life) (placements log)) number in
    record {
      at = kth_place i w life.0 unit k p mount opened (ap (λ ps. slice_get (filter (λ (r : Placed). r.stripe.unit == unit) ps) k) same ∙ e);
      blocks = all_at (λ (q : Placed). length q.stripe.blocks ≡ i.shape.ws_opt) (placements log) placed.0 p placed.1
          (have_blocks i w mount.accepted mount.legal).blocks;
      within = ends_in_chunk i w life.0 p mount opened
          (subst (λ (ps : List Placed). Contains ps p) (sym same) (contained_among (stripes_of log o) p among));
    }
