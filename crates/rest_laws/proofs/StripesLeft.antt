-- How the number of stripes that the opened lines have still to get changes with each event.
use Rattle.std.proofs.Common.{◌≡◌, ◌≢◌, ◌⊎◌, inl, inr, ℕ, ◌+◌, ◌-◌, ◌*◌, ◌/◌, ◌<◌, ◌≤◌, nat_eq, true, false, List, [], ◌∷◌, length, length-append, append-nil, refl, sym, subst, ap, ◌∙◌, arith, le_refl, if◌then◌else◌}
use Rattle.std.specs.List.{Contains, filter, range_with_len}
use Rattle.std.proofs.lemmas.Option.{same_Some}
use Rattle.std.proofs.Math.Nat.{le-div_iff_mul-le}
use Rattle.pblk_model.specs.declared.shape.Shape.{Shape}
use Rattle.pblk_model.specs.Accepted.{IsDriveShape}
use Rattle.pblk_model.specs.Image.{Image}
use Rattle.pblk_model.specs.LineOrder.{end_len}
use Rattle.pblk_model.specs.StartRecord.{StartRecord}
use Rattle.pblk_world.specs.EngineLog.{AsFound, Freed, LineLife, Opened, Opening, Placed, has_failed, is_life, is_opened, life_of, openings, placements, stripes_of, was_lost}
use Rattle.pblk_world.specs.Events.{Decides, EngineEvent, Free, Logged, Open, Place, Stripe}
use Rattle.pblk_world.specs.LegalMounts.{IsLegalMount, NoStripeLost}
use Rattle.pblk_world.specs.Placing.{IsData, IsEnd, IsPad, IsStart, MayPlace, end_address, line_end, next_address}
use Rattle.pblk_world.specs.World.{World, Logs, log_of}
use Rattle.pblk_world.proofs.Appending.{life_more}
use Rattle.pblk_model.proofs.Lists.{all_everywhere}
use Rattle.pblk_model.proofs.Maps.{any_fail, filter_none}
use Rattle.pblk_model.proofs.Tests.{not_both, other_number, same_number}
use Rattle.pblk_model.proofs.LineOrderLemmas.{whole_line as line_parts}
use Rattle.world_laws.proofs.LineStripes.{some_data}
use Rattle.core_laws.specs.OpenAddresses.{keeps_addresses}
use Rattle.core_laws.specs.Stepping.{after}
use Rattle.core_laws.proofs.FreedLives.{life_beside, life_freed}
use Rattle.core_laws.proofs.KeptStripes.{KeepsStripes, also_stripes, lives_kept, stripes_kept}
use Rattle.core_laws.proofs.LandedNow.{opened_now}
use Rattle.core_laws.proofs.Opening.{placed_before}
use Rattle.core_laws.proofs.OpeningNumbers.{life_at, opens_at}
use Rattle.core_laws.proofs.PlacedAddresses.{stripe_within, whole_line}
use Rattle.core_laws.proofs.PlainLogs.{never_lost}
use Rattle.core_laws.proofs.Placing.{new_placed, stripes_now, with_place}
use Rattle.core_laws.proofs.RangeSums.{sum_more, sum_same}
use Rattle.rest_laws.specs.RoomSteps.{stripes_left, stripes_left_in}

-- ---- events that place nothing

left_kept : (s : Shape) (log new : List Logged) → KeepsStripes log new → (life : LineLife) → stripes_left_in s new life ≡ stripes_left_in s log life
left_kept s log new kept AsFound = refl
left_kept s log new kept (Opened o) =
    ap (λ (ps : List Placed). line_end s o / s.ws_opt - length (filter (λ (p : Placed). is_life o.number p.life) ps)) kept.placements
left_kept s log new kept (Freed was knows) = refl

pub stripes_stay : (i : Image) (logs : Logs) (e : EngineEvent) (knows : List ℕ) → keeps_addresses e ≡ true
    → stripes_left i (after logs e knows) ≡ stripes_left i logs
stripes_stay i logs e knows keeps =
    sum_same (λ line. stripes_left_in i.shape (after logs e knows 0) (life_of (after logs e knows 0) line))
    (λ line. stripes_left_in i.shape (logs 0) (life_of (logs 0) line))
    (λ line. ap (stripes_left_in i.shape (after logs e knows 0)) (lives_kept (logs 0) e knows line keeps)
    ∙ left_kept i.shape (logs 0) (after logs e knows 0) (stripes_kept (logs 0) e knows (also_stripes e keeps)) (life_of (logs 0) line))
    (range_with_len 0 i.shape.chunks)

-- ---- a line is opened

none_in : (s : Shape) (log : List Logged) (life : LineLife) → is_opened life ≡ false → stripes_left_in s log life ≡ 0
none_in s log AsFound e = refl
none_in s log (Opened o) e = absurd cc
none_in s log (Freed past knows) e = refl

pub stripes_opened : (i : Image) (logs : Logs) (line : ℕ) (start : StartRecord) (knows : List ℕ) → line < i.shape.chunks
    → is_opened (life_of (logs 0) line) ≡ false
    → stripes_left i (after logs (Open line start) knows) ≡ stripes_left i logs + start.width * i.shape.clba / i.shape.ws_opt
stripes_opened i logs line start knows inside closed =
    let first : line ≡ 0 + line = omega arith in
    let was : stripes_left_in i.shape (logs 0) (life_of (logs 0) line) ≡ 0 = none_in i.shape (logs 0) (life_of (logs 0) line) closed in
    let grows : stripes_left_in i.shape new (life_of new line)
    ≡ stripes_left_in i.shape (logs 0) (life_of (logs 0) line) + start.width * i.shape.clba / i.shape.ws_opt = omega (arith, was, now) in
    sum_more (λ m. stripes_left_in i.shape (logs 0) (life_of (logs 0) m)) (λ m. stripes_left_in i.shape new (life_of new m)) i.shape.chunks 0 line
    (start.width * i.shape.clba / i.shape.ws_opt) inside
    (subst (λ m. stripes_left_in i.shape new (life_of new m)
    ≡ stripes_left_in i.shape (logs 0) (life_of (logs 0) m) + start.width * i.shape.clba / i.shape.ws_opt) first grows)
    (λ m other. beside m (λ e. other (e ∙ first)))
  where
    new : List Logged
    new = after logs (Open line start) knows 0

    kept : KeepsStripes (logs 0) (after logs (Open line start) knows 0)
    kept = stripes_kept (logs 0) (Open line start) knows refl

    o : Opening
    o = record { number = length (logs 0); line = line; start = start; knows = knows }

    life : (m : ℕ) → life_of (after logs (Open line start) knows 0) m
        ≡ (if nat_eq line m then Opened (record { number = length (logs 0); line = m; start = start; knows = knows }) else life_of (logs 0) m)
    life m = life_more (logs 0) (record { event = Decides (Open line start); knows = knows }) m

    none : stripes_of (after logs (Open line start) knows 0) (record { number = length (logs 0); line = line; start = start; knows = knows }) ≡ []
    none = ap (filter (λ (p : Placed). is_life (length (logs 0)) p.life)) (stripes_kept (logs 0) (Open line start) knows refl).placements
        ∙ filter_none (λ (p : Placed). is_life (length (logs 0)) p.life) (placements (logs 0))
        (placed_before (logs 0) (length (logs 0)) (le_refl (length (logs 0))))

    now : stripes_left_in i.shape (after logs (Open line start) knows 0) (life_of (after logs (Open line start) knows 0) line)
        ≡ start.width * i.shape.clba / i.shape.ws_opt
    now = ap (stripes_left_in i.shape (after logs (Open line start) knows 0)) (life line
        ∙ ap (λ b. if b then Opened (record { number = length (logs 0); line = line; start = start; knows = knows }) else life_of (logs 0) line)
        (same_number line))
        ∙ ap (λ (ps : List Placed). start.width * i.shape.clba / i.shape.ws_opt - length ps) none
        ∙ omega arith

    beside : (m : ℕ) → m ≢ line → stripes_left_in i.shape new (life_of new m) ≡ stripes_left_in i.shape (logs 0) (life_of (logs 0) m)
    beside m apart = ap (stripes_left_in i.shape new) (life m
        ∙ ap (λ b. if b then Opened (record { number = length (logs 0); line = m; start = start; knows = knows }) else life_of (logs 0) m)
        (other_number line m (λ e. apart (sym e))))
        ∙ left_kept i.shape (logs 0) new kept (life_of (logs 0) m)

-- ---- a line is freed

pub stripes_freed : (i : Image) (logs : Logs) (line : ℕ) (knows : List ℕ) → line < i.shape.chunks
    → stripes_left i (after logs (Free line) knows) ≤ stripes_left i logs
stripes_freed i logs line knows inside =
    let first : line ≡ 0 + line = omega arith in
    let here : stripes_left_in i.shape (logs 0) (life_of (logs 0) line)
    ≡ stripes_left_in i.shape new (life_of new line) + stripes_left_in i.shape (logs 0) (life_of (logs 0) line) = omega (arith, now) in
    let sum : stripes_left i logs ≡ stripes_left i (after logs (Free line) knows) + stripes_left_in i.shape (logs 0) (life_of (logs 0) line) =
    sum_more (λ m. stripes_left_in i.shape new (life_of new m)) (λ m. stripes_left_in i.shape (logs 0) (life_of (logs 0) m)) i.shape.chunks 0 line
    (stripes_left_in i.shape (logs 0) (life_of (logs 0) line)) inside
    (subst (λ m. stripes_left_in i.shape (logs 0) (life_of (logs 0) m)
    ≡ stripes_left_in i.shape new (life_of new m) + stripes_left_in i.shape (logs 0) (life_of (logs 0) line)) first here)
    (λ m other. sym (beside m (λ e. other (e ∙ first)))) in
    omega (arith, sum)
  where
    new : List Logged
    new = after logs (Free line) knows 0

    now : stripes_left_in i.shape (after logs (Free line) knows 0) (life_of (after logs (Free line) knows 0) line) ≡ 0
    now = ap (stripes_left_in i.shape (after logs (Free line) knows 0)) (life_freed (logs 0) line knows)

    beside : (m : ℕ) → m ≢ line → stripes_left_in i.shape new (life_of new m) ≡ stripes_left_in i.shape (logs 0) (life_of (logs 0) m)
    beside m apart = ap (stripes_left_in i.shape new) (life_beside (logs 0) line knows m apart)
        ∙ left_kept i.shape (logs 0) new (stripes_kept (logs 0) (Free line) knows refl) (life_of (logs 0) m)

-- ---- a stripe is placed

-- before the end of its line
pub stripes_placed : (i : Image) (logs : Logs) (stripe : Stripe) (knows : List ℕ) (o : Opening) → IsDriveShape i.shape
    → life_of (logs 0) stripe.line ≡ Opened o → stripe.line < i.shape.chunks → next_address i.shape (logs 0) o < line_end i.shape o
    → stripes_left i logs ≡ stripes_left i (after logs (Place stripe) knows) + 1
stripes_placed i logs stripe knows o drive opened inside within =
    let first : stripe.line ≡ 0 + stripe.line = omega arith in
    sum_more (λ m. stripes_left_in i.shape new (life_of new m)) (λ m. stripes_left_in i.shape (logs 0) (life_of (logs 0) m)) i.shape.chunks 0 stripe.line 1
    inside
    (subst (λ m. stripes_left_in i.shape (logs 0) (life_of (logs 0) m) ≡ stripes_left_in i.shape new (life_of new m) + 1) first here)
    (λ m other. sym (beside m (λ e. other (e ∙ first))))
  where
    new : List Logged
    new = with_place (logs 0) stripe knows

    life : (m : ℕ) → life_of (with_place (logs 0) stripe knows) m ≡ life_of (logs 0) m
    life m = life_more (logs 0) (record { event = Decides (Place stripe); knows = knows }) m

    fits : length (stripes_of (logs 0) o) + 1 ≤ line_end i.shape o / i.shape.ws_opt
    fits =
        let whole : length (stripes_of (logs 0) o) * i.shape.ws_opt + i.shape.ws_opt ≤ line_end i.shape o =
        stripe_within (length (stripes_of (logs 0) o)) i.shape.ws_opt (line_end i.shape o) (whole_line i.shape o.start.width drive) within in
        (le-div_iff_mul-le drive.ws_opt).1 (omega (arith, whole))

    more : length (stripes_of (with_place (logs 0) stripe knows) o) ≡ length (stripes_of (logs 0) o) + 1
    more = ap (λ (ps : List Placed). length ps) (stripes_now (logs 0) stripe knows o o true opened (same_number o.number))
        ∙ length-append (stripes_of (logs 0) o) (new_placed (logs 0) stripe o ∷ [])

    here : stripes_left_in i.shape (logs 0) (life_of (logs 0) stripe.line)
        ≡ stripes_left_in i.shape (with_place (logs 0) stripe knows) (life_of (with_place (logs 0) stripe knows) stripe.line) + 1
    here =
        let now : stripes_left_in i.shape new (life_of new stripe.line) ≡ line_end i.shape o / i.shape.ws_opt - (length (stripes_of (logs 0) o) + 1) =
        ap (stripes_left_in i.shape new) (life stripe.line ∙ opened) ∙ ap (λ n. line_end i.shape o / i.shape.ws_opt - n) more in
        let was : stripes_left_in i.shape (logs 0) (life_of (logs 0) stripe.line) ≡ line_end i.shape o / i.shape.ws_opt - length (stripes_of (logs 0) o) =
        ap (stripes_left_in i.shape (logs 0)) opened in
        omega (arith, now, was, fits)

    beside : (m : ℕ) → m ≢ stripe.line → stripes_left_in i.shape new (life_of new m) ≡ stripes_left_in i.shape (logs 0) (life_of (logs 0) m)
    beside m apart = ap (stripes_left_in i.shape new) (life m) ∙ go (life_of (logs 0) m) refl
      where
        go : (l : LineLife) → life_of (logs 0) m ≡ l → stripes_left_in i.shape (with_place (logs 0) stripe knows) l ≡ stripes_left_in i.shape (logs 0) l
        go AsFound e = refl
        go (Freed past k) e = refl
        go (Opened other) e =
            ap (λ (ps : List Placed). line_end i.shape other / i.shape.ws_opt - length ps)
            (stripes_now (logs 0) stripe knows o other false opened (other_number o.number other.number (λ same.
            apart (same_Some m stripe.line
            (sym (life_at (logs 0) m other e).0 ∙ ap (opens_at (logs 0)) (sym same) ∙ (life_at (logs 0) stripe.line o opened).0))))
            ∙ append-nil (stripes_of (logs 0) other))

-- ---- where the stripe is placed

-- where nothing is lost, before the end of its line
pub before_end : (i : Image) (w : World) (stripe : Stripe) → IsLegalMount i w → NoStripeLost (log_of w 0) → (may : MayPlace i (log_of w) stripe)
    → next_address i.shape (log_of w 0) may.opening < line_end i.shape may.opening
before_end i w stripe mount none may = go may.kind
  where
    o : Opening
    o = may.opening

    there : Contains (openings (log_of w 0)) may.opening
    there = (opened_now i w mount stripe.line may.opening may.is_open).0

    all : end_address i.shape may.opening + end_len i.shape may.opening.start.width ≡ line_end i.shape may.opening
    all = line_parts i.shape may.opening.start.width (some_data i w may.opening mount.legal (opened_now i w mount stripe.line may.opening may.is_open).0)

    go : IsStart i (log_of w) may.opening stripe ⊎ (IsData i (log_of w) may.opening stripe
        ⊎ (IsEnd i (log_of w) may.opening stripe ⊎ IsPad i (log_of w) may.opening stripe))
        → next_address i.shape (log_of w 0) may.opening < line_end i.shape may.opening
    go (inl start) = omega (arith, start.within, all)
    go (inr (inl entries)) = omega (arith, entries.within, all)
    go (inr (inr (inl end))) = end.within
    go (inr (inr (inr pad))) = absurd (not_both (has_failed (log_of w 0) may.opening) pad.failed
        (any_fail (was_lost (log_of w 0)) (stripes_of (log_of w 0) may.opening)
        (all_everywhere (λ (p : Placed). was_lost (log_of w 0) p ≡ false) (stripes_of (log_of w 0) may.opening) (λ p. never_lost (log_of w 0) none p))))
