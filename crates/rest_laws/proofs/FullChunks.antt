-- Where an opened line is over, its chunks are full; and those of a line that was freed were.
use Rattle.std.proofs.Common.{◌≡◌, ◌⊎◌, inl, inr, ◌+◌, ◌*◌, ◌/◌, ◌<◌, ◌≤◌, ◌==◌, true, List, [], ◌∷◌, ◌++◌, length, take, drop, refl, sym, subst, ap, ap₂, ◌∙◌, arith, append-nil, length-take}
use Rattle.std.specs.Prelude.{slice_get}
use Rattle.std.specs.List.{AllByRecursion, Contains, filter, list_all}
use Rattle.pblk_model.specs.Chunk.{Chunk}
use Rattle.pblk_model.specs.Image.{Image}
use Rattle.pblk_world.specs.EngineLog.{Opened, Opening, has_landed, is_as_found, life_of, LineLife, openings, Placed, stripes_of}
use Rattle.pblk_world.specs.Events.{Decides, Free, Logged}
use Rattle.pblk_world.specs.Freeing.{MayFree}
use Rattle.pblk_world.specs.Lines.{are_over, chunks_of, is_over_state}
use Rattle.pblk_world.specs.Placing.{line_end}
use Rattle.pblk_world.specs.Space.{is_closed_in}
use Rattle.pblk_world.specs.Starts.{have_landed}
use Rattle.pblk_world.specs.World.{World, log_of, prefixes}
use Rattle.pblk_world.proofs.LegalLemmas.{whole_own}
use Rattle.pblk_model.proofs.Parts.{contained_among, get_below, get_right, take_and_drop}
use Rattle.pblk_world.specs.LegalMounts.{IsLegalMount}
use Rattle.world_laws.specs.SameTold.{AreSameTold}
use Rattle.world_laws.proofs.Later.{landed_later}
use Rattle.world_laws.proofs.LineStripes.{IsSplit, stripes_split}
use Rattle.world_laws.proofs.Lives.{IsFreedLife, standing_or_freed}
use Rattle.world_laws.proofs.Made.{IsMade, made, own_then, step_by}
use Rattle.world_laws.proofs.Openings.{allowed_by}
use Rattle.world_laws.proofs.Stripes.{placed_before_freed}
use Rattle.world_laws.proofs.ToldImages.{image_same}
use Rattle.world_laws.proofs.ToldSince.{told_when_made}
use Rattle.core_laws.proofs.LosslessMounts.{IsLosslessMount}
use Rattle.core_laws.proofs.LandedOver.{over_is}
use Rattle.core_laws.proofs.LosslessMounts.{lossless_made}
use Rattle.core_laws.proofs.PlainLogs.{none_failed}
use Rattle.rest_laws.proofs.ChunkRows.{all_landed, closed_when, count_full}

module _ (i : Image) (w : World) (lossless : IsLosslessMount i w) (o : Opening) (opened : Contains (openings (log_of w 0)) o) where
  abbrev log : List Logged
  log = log_of w 0

  mount : IsLegalMount i w
  mount = lossless.mount

  module _ (f : IsFreedLife (log_of w 0) o) where
    h : IsMade i w 0 f.number f.logged
    h = made i w 0 f.number f.logged mount.legal f.there

    own : log_of h.before 0 ≡ take f.number (log_of w 0)
    own = own_then i w 0 f.number f.logged h

    earlier : IsLosslessMount i h.before
    earlier = lossless_made i w f.number f.logged lossless h

    was_open : life_of (log_of h.before 0) o.line ≡ Opened o
    was_open = ap (λ (xs : List Logged). life_of xs o.line) own ∙ f.was

    was_over : are_over i (log_of h.before) o.line ≡ true
    was_over =
        let may : MayFree i (prefixes f.logged (log_of h.before)) o.line = (allowed_by i w f.number f.logged (Decides (Free o.line)) h f.frees).2 in
        let same : AreSameTold i (log_of h.before) (prefixes f.logged (log_of h.before)) = told_when_made i w f.number f.logged h in
        sym (ap₂ (λ (j : Image) (l : LineLife). list_all (λ (c : Chunk). is_over_state (is_as_found l) c.state) (chunks_of j o.line))
        (image_same i (log_of h.before) (prefixes f.logged (log_of h.before)) same)
        (ap (λ (xs : List Logged). life_of xs o.line) (whole_own i (step_by 0 f.logged) h.before h.step))) ∙ may.over

    was_landed : have_landed (log_of h.before 0) o (line_end i.shape o / i.shape.ws_opt) ≡ true
    was_landed = sym (over_is i h.before earlier.mount o was_open (none_failed (log_of h.before 0) earlier.none_lost o)) ∙ was_over

    all_before : length (take f.number (log_of w 0)) ≡ f.number
    all_before = let far : f.number < length log = get_below log f.number f.logged f.there in omega (arith, length-take f.number log)

    -- nothing was placed in it since
    same_stripes : stripes_of (log_of w 0) o ≡ stripes_of (log_of h.before 0) o
    same_stripes =
        let split : IsSplit log o f.number = stripes_split log o f.number in
        split.parts ∙ ap (λ (xs : List Placed). stripes_of (take f.number log) o ++ xs) (none split.more split.later split.parts)
        ∙ append-nil (stripes_of (take f.number log) o) ∙ ap (λ (xs : List Logged). stripes_of xs o) (sym own)
      where
        none : (more : List Placed) → AllByRecursion (λ (p : Placed). length (take f.number (log_of w 0)) ≤ p.number) more
            → stripes_of (log_of w 0) o ≡ stripes_of (take f.number (log_of w 0)) o ++ more → more ≡ []
        none [] later parts = refl
        none (p ∷ ps) later parts =
            let mine : Contains (stripes_of log o) p = contained_among (stripes_of log o) p (
              length (stripes_of (take f.number log) o) + 0,
              ap (λ (xs : List Placed). slice_get xs (length (stripes_of (take f.number log) o) + 0)) parts
                  ∙ get_right (stripes_of (take f.number log) o) (p ∷ ps) 0,
            ) in
            let low : p.number < f.number = placed_before_freed i w o p f mount.legal mine in
            let long : length (take f.number log) ≡ f.number = all_before in
            let high : length (take f.number log) ≤ p.number = later.0 in
            absurd (omega arith)

    freed_full : (p : Placed) → Contains (stripes_of (log_of w 0) o) p → is_closed_in i.shape (log_of w 0) o p.stripe.unit ≡ true
    freed_full p its =
        closed_when i.shape log o
        (λ q there.
        let then_ : Contains (stripes_of (log_of h.before 0) o) q = subst (λ (ps : List Placed). Contains ps q) same_stripes there in
        let was : has_landed (log_of h.before 0) q ≡ true = all_landed i h.before earlier o was_open was_landed q then_ in
        let first : has_landed (take f.number log) q ≡ true = subst (λ (xs : List Logged). has_landed xs q ≡ true) own was in
        let early : q.number < f.number = placed_before_freed i w o q f mount.legal there in
        let long : length (take f.number log) ≡ f.number = all_before in
        subst (λ (xs : List Logged). has_landed xs q ≡ true) (take_and_drop f.number log)
        (landed_later (take f.number log) (drop f.number log) q (omega arith) first)) p.stripe.unit
        (ap (λ (ps : List Placed). length (filter (λ (q : Placed). q.stripe.unit == p.stripe.unit) ps) * i.shape.ws_opt) same_stripes
        ∙ count_full i h.before earlier o was_open was_landed p (subst (λ (ps : List Placed). Contains ps p) same_stripes its))

  -- the chunks of its stripes are closed
  pub closed_chunk : (life_of (log_of w 0) o.line ≡ Opened o → are_over i (log_of w) o.line ≡ true) → (p : Placed)
      → Contains (stripes_of (log_of w 0) o) p → is_closed_in i.shape (log_of w 0) o p.stripe.unit ≡ true
  closed_chunk over p its = go (standing_or_freed i w o mount.legal opened)
    where
      go : (life_of (log_of w 0) o.line ≡ Opened o) ⊎ IsFreedLife (log_of w 0) o → is_closed_in i.shape (log_of w 0) o p.stripe.unit ≡ true
      go (inr f) = freed_full f p its
      go (inl stands) =
          let landed : have_landed log o (line_end i.shape o / i.shape.ws_opt) ≡ true =
          sym (over_is i w mount o stands (none_failed (log_of w 0) lossless.none_lost o)) ∙ over stands in
          closed_when i.shape log o (all_landed i w lossless o stands landed) p.stripe.unit (count_full i w lossless o stands landed p its)
