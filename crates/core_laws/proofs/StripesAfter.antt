-- The stripes of an opening after an event of the engine, and which of them have landed.
use Rattle.std.proofs.Common.{◌≡◌, ◌⊎◌, inl, inr, ℕ, ◌+◌, ◌<◌, ◌≤◌, ◌&&◌, not, Bool, true, false, cond, Some, None, List, [], ◌∷◌, ◌++◌, length, take, drop, refl, sym, subst, ap, ap₂, ◌∙◌, append-nil, le_refl, le_of_lt, take_all}
use Rattle.std.specs.Prelude.{slice_get}
use Rattle.std.specs.List.{AllByRecursion, filter}
use Rattle.std.specs.Option.{option_to_list}
use Rattle.std.proofs.lemmas.List.{append_cancel_left, take-append-le}
use Rattle.pblk_model.specs.StartRecord.{StartRecord}
use Rattle.pblk_world.specs.Events.{Decides, EngineEvent, Landed, Logged, Lost, Open, Place, Stripe}
use Rattle.pblk_world.specs.EngineLog.{Answer, AsFound, Freed, LineLife, Opened, Opening, Placed, answer_of, has_failed, has_landed, is_land, is_life, life_of, placed_by, placed_on, answers, placements, stripes_of}
use Rattle.pblk_world.proofs.Appending.{placements_more}
use Rattle.pblk_world.proofs.EngineLogLemmas.{opened_same}
use Rattle.world_laws.proofs.Later.{placements_joined}
use Rattle.world_laws.proofs.UnitTurns.{Rises, rise_all, some_rise}
use Rattle.core_laws.specs.ClosedLines.{is_landed_whole}
use Rattle.core_laws.specs.LandedStripes.{keeps_landed, places}
use Rattle.core_laws.specs.PlacerOf.{unanswered_on}
use Rattle.core_laws.proofs.FirstPassing.{first_more, first_same}
use Rattle.core_laws.proofs.Growing.{turn_grown}
use Rattle.core_laws.proofs.KeptStripes.{alike_kept, with_event}
use Rattle.core_laws.proofs.LandedStripe.{IsOneMore, one_more}
use Rattle.core_laws.proofs.OpenedRows.{life_now, new_opening}
use Rattle.core_laws.proofs.Opening.{placed_before}
use Rattle.world_laws.proofs.LineStripes.{stripes_before}
use Rattle.core_laws.proofs.Placing.{answers_now, placements_now, with_place}
use Rattle.core_laws.proofs.QuietEvents.{place_kept}
use Rattle.core_laws.proofs.Steady.{AreAlike}
use Rattle.core_laws.proofs.Taking.{filter_last}
use Rattle.core_laws.proofs.Untouched.{AreKept}
use Rattle.pblk_model.proofs.Lists.{all_imply, zipped}
use Rattle.pblk_model.proofs.Maps.{all_filter, all_passed, filter_both, filter_none}
use Rattle.pblk_model.proofs.Parts.{all_at, get_more, take_and_drop}
use Rattle.pblk_model.proofs.Tests.{and_refused, not_both}

-- ---- an event that neither places nor answers a stripe

pub alike_still : (log : List Logged) (e : EngineEvent) (knows : List ℕ) → keeps_landed e ≡ true → AreAlike log (with_event log e knows)
alike_still log (Place stripe) knows keeps = absurd cc
alike_still log (Landed unit event) knows keeps = absurd cc
alike_still log (Lost unit event) knows keeps = absurd cc
alike_still log e knows keeps = alike_kept log e knows refl (λ unit. refl)

-- ---- an event that places none

unplaced : (log : List Logged) (e : EngineEvent) → places e ≡ false → placed_by log (length log) (Decides e) ≡ None
unplaced log (Place stripe) none = absurd cc
unplaced log e none = refl

placements_still : (log : List Logged) (e : EngineEvent) (knows : List ℕ) → places e ≡ false → placements (with_event log e knows) ≡ placements log
placements_still log e knows none =
    placements_more log (record { event = Decides e; knows = knows })
    ∙ ap (λ o. placements log ++ option_to_list o) (unplaced log e none) ∙ append-nil (placements log)

pub stripes_still : (log : List Logged) (e : EngineEvent) (knows : List ℕ) (o : Opening) → places e ≡ false
    → stripes_of (with_event log e knows) o ≡ stripes_of log o
stripes_still log e knows o none = ap (filter (λ (p : Placed). is_life o.number p.life)) (placements_still log e knows none)

-- an opening that the event makes has none
pub none_yet : (log : List Logged) (e : EngineEvent) (knows : List ℕ) (o : Opening) → places e ≡ false → length log ≤ o.number
    → stripes_of (with_event log e knows) o ≡ []
none_yet log e knows o none new =
    stripes_still log e knows o none
    ∙ filter_none (λ (p : Placed). is_life o.number p.life) (placements log) (placed_before log o.number new)

pub new_number : (log : List Logged) (line : ℕ) (start : StartRecord) (knows : List ℕ) (o : Opening)
    → life_of (with_event log (Open line start) knows) line ≡ Opened o → o.number ≡ length log
new_number log line start knows o is =
    ap (λ (x : Opening). x.number) (opened_same o (new_opening log line start knows) (sym is ∙ life_now log line start knows))

-- ---- whether any of a line was lost when a stripe of it was placed

whole_still : (log : List Logged) (e : EngineEvent) (knows : List ℕ) (o : Opening)
    → AllByRecursion (λ (p : Placed). has_failed (take p.number (with_event log e knows)) o ≡ has_failed (take p.number log) o) (stripes_of log o)
whole_still log e knows o =
    all_imply (λ (p : Placed). p.number < length log)
    (λ (p : Placed). has_failed (take p.number (with_event log e knows)) o ≡ has_failed (take p.number log) o)
    (λ p before. ap (λ (xs : List Logged). has_failed xs o)
    (take-append-le p.number log (record { event = Decides e; knows = knows } ∷ []) (le_of_lt before)))
    (stripes_of log o) (stripes_before log o)

pub landed_still : (log : List Logged) (e : EngineEvent) (knows : List ℕ) (o : Opening)
    → AllByRecursion (λ (p : Placed). has_landed (with_event log e knows) p ≡ has_landed log p) (stripes_of log o)
    → AllByRecursion (λ (p : Placed). is_landed_whole (with_event log e knows) o p ≡ is_landed_whole log o p) (stripes_of log o)
landed_still log e knows o landed = zipped (λ (p : Placed). has_landed (with_event log e knows) p ≡ has_landed log p)
    (λ (p : Placed). has_failed (take p.number (with_event log e knows)) o ≡ has_failed (take p.number log) o)
    (λ (p : Placed). is_landed_whole (with_event log e knows) o p ≡ is_landed_whole log o p)
    (λ p a b. ap₂ (λ x y. x && not y) a b) (stripes_of log o) landed (whole_still log e knows o)

-- a stripe of an earlier log is the one of its number still
pub stripe_stays : (log : List Logged) (n : ℕ) (o : Opening) (k : ℕ) (p : Placed) → slice_get (stripes_of (take n log) o) k ≡ Some p
    → slice_get (stripes_of log o) k ≡ Some p
stripe_stays log n o k p at =
    let mine : Placed → Bool = λ q. is_life o.number q.life in
    let joined = placements_joined (take n log) (drop n log) in
    ap (λ (xs : List Logged). slice_get (stripes_of xs o) k) (sym (take_and_drop n log))
    ∙ ap (λ ps. slice_get ps k) (ap (filter mine) joined.1 ∙ filter_both mine (placements (take n log)) joined.0)
    ∙ get_more (stripes_of (take n log) o) (filter mine joined.0) k p at

-- ---- a stripe is placed

abbrev pub placed_in : List Logged → Stripe → LineLife → Placed
placed_in log stripe life = record { number = length log; stripe = stripe; life = life }

pub stripes_placed : (log : List Logged) (stripe : Stripe) (knows : List ℕ) (o : Opening) (b : Bool) → is_life o.number (life_of log stripe.line) ≡ b
    → stripes_of (with_place log stripe knows) o ≡ stripes_of log o ++ cond b (placed_in log stripe (life_of log stripe.line) ∷ []) []
stripes_placed log stripe knows o b is =
    ap (filter (λ (p : Placed). is_life o.number p.life)) (placements_more log (record { event = Decides (Place stripe); knows = knows })
    ∙ ap (λ (xs : List Logged). placements log ++ placed_in log stripe (life_of xs stripe.line) ∷ []) (take_all (length log) log (le_refl (length log))))
    ∙ filter_last (λ (p : Placed). is_life o.number p.life) (placements log) (placed_in log stripe (life_of log stripe.line)) b is

-- it hasn't landed, and the others have if they had
pub landed_placed : (log : List Logged) (stripe : Stripe) (knows : List ℕ) (o : Opening)
    → AllByRecursion (λ (p : Placed). has_landed (with_place log stripe knows) p ≡ has_landed log p) (stripes_of log o)
landed_placed log stripe knows o =
    all_imply (λ (p : Placed). p.number < length log) (λ (p : Placed). has_landed (with_place log stripe knows) p ≡ has_landed log p)
    (λ p before. ap₂ (λ (xs : List Answer) n. is_land (slice_get xs n)) (answers_now log stripe knows p.stripe.unit)
    (turn_grown log (record { event = Decides (Place stripe); knows = knows }) p before))
    (stripes_of log o) (stripes_before log o)

pub placed_waits : (log : List Logged) (stripe : Stripe) (knows : List ℕ) (o : Opening) (b : Bool) → is_life o.number (life_of log stripe.line) ≡ b
    → length (answers log stripe.unit) ≤ length (placed_on log stripe.unit)
    → AllByRecursion (λ (p : Placed). has_landed (with_place log stripe knows) p ≡ false) (cond b (placed_in log stripe (life_of log stripe.line) ∷ []) [])
placed_waits log stripe knows o false is fit = tt
placed_waits log stripe knows o true is fit = go (life_of log stripe.line) refl is
  where
    go : (life : LineLife) → life_of log stripe.line ≡ life → is_life o.number life ≡ true
        → AllByRecursion (λ (p : Placed). has_landed (with_place log stripe knows) p ≡ false) (placed_in log stripe (life_of log stripe.line) ∷ [])
    go AsFound e its = absurd cc
    go (Freed was k) e its = absurd cc
    go (Opened q) e its =
        let it : Placed = placed_in log stripe (Opened q) in
        let kept : AreKept log (with_place log stripe knows) = place_kept log stripe knows q e fit in
        let more : kept.more ≡ it ∷ [] =
        append_cancel_left (placements log) kept.more (it ∷ []) (sym kept.stripes ∙ placements_now log stripe knows q e) in
        let none : AllByRecursion (λ (p : Placed). answer_of (with_place log stripe knows) p ≡ None) (it ∷ []) =
        subst (AllByRecursion (λ (p : Placed). answer_of (with_place log stripe knows) p ≡ None)) more kept.none in
        (ap (λ life. has_landed (with_place log stripe knows) (placed_in log stripe life)) e ∙ ap is_land none.0, tt)

-- ---- a stripe has landed

-- what became of the others is as it was
others_same : (log : List Logged) (unit event : ℕ) (knows : List ℕ) (p : Placed) (o : Opening) → unanswered_on log unit ≡ Some p
    → AllByRecursion (λ (q : Placed). (q ≡ p) ⊎ (has_landed (with_event log (Landed unit event) knows) q ≡ has_landed log q)) (stripes_of log o)
others_same log unit event knows p o waits =
    let new : List Logged = with_event log (Landed unit event) knows in
    let is : IsOneMore log (with_event log (Landed unit event) knows) p = one_more log unit event knows p waits in
    all_filter (λ (q : Placed). (q ≡ p) ⊎ (has_landed new q ≡ has_landed log q)) (λ (q : Placed). is_life o.number q.life) (placements log)
    (all_imply (λ (q : Placed). (q ≡ p) ⊎ (answer_of new q ≡ answer_of log q)) (λ (q : Placed). (q ≡ p) ⊎ (has_landed new q ≡ has_landed log q))
    (λ q h. elim h as (λ _. (q ≡ p) ⊎ (has_landed new q ≡ has_landed log q)) [ inl e ↦ inl e | inr e ↦ inr (ap is_land e) ]) (placements log) is.others)

abbrev some_rises : (log : List Logged) (o : Opening) → Rises (stripes_of log o)
some_rises log o = some_rise (λ (q : Placed). is_life o.number q.life) (placements log) (rise_all log)

-- of an opening's first stripes one more has landed, where it is among them, and none of its line
-- was lost when it was placed
module _ (log : List Logged) (unit event : ℕ) (knows : List ℕ) (p : Placed) (o : Opening) (k n : ℕ) (waits : unanswered_on log unit ≡ Some p)
    (at : slice_get (stripes_of log o) k ≡ Some p) where
  abbrev landed : List Logged
  landed = with_event log (Landed unit event) knows

  is : IsOneMore log (with_event log (Landed unit event) knows) p
  is = one_more log unit event knows p waits

  before : is_landed_whole log o p ≡ false
  before = ap (λ b. b && not (has_failed (take p.number log) o)) (ap is_land is.before)

  others : AllByRecursion (λ (q : Placed). (q ≡ p) ⊎ (is_landed_whole (with_event log (Landed unit event) knows) o q ≡ is_landed_whole log o q))
      (stripes_of log o)
  others = zipped (λ (q : Placed). (q ≡ p) ⊎ (has_landed landed q ≡ has_landed log q))
      (λ (q : Placed). has_failed (take q.number landed) o ≡ has_failed (take q.number log) o)
      (λ (q : Placed). (q ≡ p) ⊎ (is_landed_whole landed o q ≡ is_landed_whole log o q))
      (λ q h same. elim h as (λ _. (q ≡ p) ⊎ (is_landed_whole landed o q ≡ is_landed_whole log o q)) [
        | inl e ↦ inl e
        | inr e ↦ inr (ap₂ (λ a b. a && not b) e same)
      ])
      (stripes_of log o) (others_same log unit event knows p o waits) (whole_still log (Landed unit event) knows o)

  module _ (whole : has_failed (take p.number log) o ≡ false) where
    now : is_landed_whole (with_event log (Landed unit event) knows) o p ≡ true
    now = ap₂ (λ a b. a && not b) is.now
        (all_at (λ (q : Placed). has_failed (take q.number landed) o ≡ has_failed (take q.number log) o) (stripes_of log o) k p at
        (whole_still log (Landed unit event) knows o) ∙ whole)

    pub one_of_first : k < n → length (filter (is_landed_whole (with_event log (Landed unit event) knows) o) (take n (stripes_of log o)))
        ≡ length (filter (is_landed_whole log o) (take n (stripes_of log o))) + 1
    one_of_first within =
        first_more (is_landed_whole log o) (is_landed_whole landed o) p before now n k (stripes_of log o) within (some_rises log o) at others

    pub none_of_first : n ≤ k → length (filter (is_landed_whole (with_event log (Landed unit event) knows) o) (take n (stripes_of log o)))
        ≡ length (filter (is_landed_whole log o) (take n (stripes_of log o)))
    none_of_first past =
        first_same (is_landed_whole log o) (is_landed_whole landed o) p before now n k (stripes_of log o) past (some_rises log o) at others

  -- a pad is none of them
  pub none_of_pad : has_failed (take p.number log) o ≡ true
      → AllByRecursion (λ (q : Placed). is_landed_whole (with_event log (Landed unit event) knows) o q ≡ is_landed_whole log o q) (stripes_of log o)
  none_of_pad failed = zipped (λ (q : Placed). (q ≡ p) ⊎ (is_landed_whole landed o q ≡ is_landed_whole log o q))
      (λ (q : Placed). has_failed (take q.number landed) o ≡ has_failed (take q.number log) o)
      (λ (q : Placed). is_landed_whole landed o q ≡ is_landed_whole log o q)
      (λ q h same. elim h as (λ _. is_landed_whole landed o q ≡ is_landed_whole log o q) [
        | inl e ↦
            let is_pad : has_failed (take q.number log) o ≡ true = ap (λ (r : Placed). has_failed (take r.number log) o) e ∙ failed in
            ap (λ b. has_landed landed q && not b) (same ∙ is_pad) ∙ and_refused (has_landed landed q) ∙ sym (and_refused (has_landed log q))
            ∙ ap (λ b. has_landed log q && not b) (sym is_pad)
        | inr e ↦ e
      ])
      (stripes_of log o) others (whole_still log (Landed unit event) knows o)

-- those of another opening are as they were
pub landed_beside : (log : List Logged) (unit event : ℕ) (knows : List ℕ) (p : Placed) (o : Opening) → unanswered_on log unit ≡ Some p
    → is_life o.number p.life ≡ false
    → AllByRecursion (λ (q : Placed). has_landed (with_event log (Landed unit event) knows) q ≡ has_landed log q) (stripes_of log o)
landed_beside log unit event knows p o waits apart =
    let new : List Logged = with_event log (Landed unit event) knows in
    zipped (λ (q : Placed). (q ≡ p) ⊎ (has_landed new q ≡ has_landed log q)) (λ (q : Placed). is_life o.number q.life ≡ true)
    (λ (q : Placed). has_landed new q ≡ has_landed log q)
    (λ q h its. elim h as (λ _. has_landed new q ≡ has_landed log q) [
      | inl e ↦ absurd (not_both (is_life o.number q.life) its (ap (λ (r : Placed). is_life o.number r.life) e ∙ apart))
      | inr e ↦ e
    ])
    (stripes_of log o) (others_same log unit event knows p o waits) (all_passed (λ (q : Placed). is_life o.number q.life) (placements log))
