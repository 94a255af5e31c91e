-- A line has landed whole where as many of its stripes have as it has.
use Rattle.std.proofs.Common.{◌≡◌, ◌≢◌, ◌⊎◌, inl, inr, ℕ, ◌+◌, ◌/◌, ◌<◌, ◌≤◌, ◌==◌, ◌&&◌, zero, suc, nat_le, Bool, true, false, cond, Some, List, [], ◌∷◌, ◌++◌, length, take, refl, sym, subst, ap, ap₂, ◌∙◌, arith, take_all, length-append}
use Rattle.std.specs.Prelude.{slice_get}
use Rattle.std.specs.List.{AllByRecursion, filter, list_all}
use Rattle.std.proofs.lemmas.List.Elements.{filter-append}
use Rattle.std.proofs.lemmas.Option.{same_Some, none-some}
use Rattle.pblk_model.specs.declared.shape.Shape.{Shape}
use Rattle.pblk_world.specs.Events.{EngineEvent, Place, Landed, Lost, Logged}
use Rattle.pblk_world.specs.EngineLog.{is_life, Opening, Placed, placements, stripes_of, DidLand, answer_of, is_land, has_landed}
use Rattle.pblk_world.specs.Starts.{have_landed}
use Rattle.pblk_world.specs.Placing.{line_end}
use Rattle.core_laws.specs.PlacerOf.{unanswered_on}
use Rattle.core_laws.specs.Stepping.{after}
use Rattle.core_laws.proofs.Answered.{IsAnswer, IsFirst, its_answer, others_answer, first_unanswered}
use Rattle.world_laws.proofs.UnitTurns.{Rises, rise_all, some_rise}
use Rattle.core_laws.proofs.Removing.{all_first as all_left, all_second as all_right}
use Rattle.core_laws.specs.InOrder.{FitsItsLine}
use Rattle.core_laws.specs.LandedStripes.{landed_count, keeps_landed}
use Rattle.core_laws.specs.OpenAddresses.{keeps_stripes}
use Rattle.core_laws.proofs.FirstAnswers.{its_landing}
use Rattle.core_laws.proofs.AnsweredUnits.{first_answer}
use Rattle.core_laws.proofs.KeptStripes.{with_event}
use Rattle.core_laws.proofs.LineRoom.{few_stripes}
use Rattle.pblk_model.proofs.Lists.{IsAmong, among_all, zipped}
use Rattle.pblk_model.proofs.Maps.{all_filter, filter_agree, filter_short, in_filter}
use Rattle.pblk_model.proofs.Tests.{other_number, same_number}

-- ---- lists all of which pass

pub all_count : {X : Type 0} (f : X → Bool) (xs : List X) → list_all f xs ≡ true → length (filter f xs) ≡ length xs
all_count f [] e = refl
all_count {X} f (x ∷ xs) e = go (f x) e (λ h. all_count f xs h)
  where
    go : (b : Bool) → (b && list_all f xs) ≡ true → (list_all f xs ≡ true → length (filter f xs) ≡ length xs)
        → length (cond b (x ∷ filter f xs) (filter f xs)) ≡ suc (length xs)
    go true h rest = ap suc (rest h)
    go false h rest = absurd cc

pub count_all : {X : Type 0} (f : X → Bool) (xs : List X) → length (filter f xs) ≡ length xs → list_all f xs ≡ true
count_all f [] e = refl
count_all {X} f (x ∷ xs) e = go (f x) e (λ h. count_all f xs h)
  where
    go : (b : Bool) → length (cond b (x ∷ filter f xs) (filter f xs)) ≡ suc (length xs) → (length (filter f xs) ≡ length xs → list_all f xs ≡ true)
        → (b && list_all f xs) ≡ true
    go true h rest = rest (omega arith)
    go false h rest = let few : length (filter f xs) ≤ length xs = filter_short f xs in absurd (omega arith)

whole_by : {X : Type 0} (f : X → Bool) (xs : List X) (n : ℕ) → length xs ≤ n → (nat_le n (length xs) && list_all f (take n xs)) ≡ (length (filter f xs) == n)
whole_by {X} f xs n within =
    ap (λ ys. nat_le n (length xs) && list_all f ys) (take_all n xs within) ∙ go (nat_le n (length xs)) (list_all f xs) refl refl
  where
    few : length (filter f xs) ≤ length xs
    few = filter_short f xs

    go : (a b : Bool) → nat_le n (length xs) ≡ a → list_all f xs ≡ b → (a && b) ≡ (length (filter f xs) == n)
    go true true d e =
        let above : n ≤ length xs = grind arith in
        let all : length (filter f xs) ≡ length xs = all_count f xs e in
        let same : length (filter f xs) ≡ n = omega arith in
        sym (ap (λ m. m == n) same ∙ same_number n)
    go true false d e = sym (other_number (length (filter f xs)) n (λ h.
        let above : n ≤ length xs = grind arith in
        let all : length (filter f xs) ≡ length xs = omega (arith, few) in
        absurd (no_both (list_all f xs) (count_all f xs all) e)))
      where
        no_both : (c : Bool) → c ≡ true → c ≡ false → ⊥
        no_both true p q = cc
        no_both false p q = cc
    go false b d e = sym (other_number (length (filter f xs)) n (λ h.
        let below : length xs < n = grind arith in
        absurd (omega (arith, few))))

pub landed_whole : (s : Shape) (log : List Logged) (o : Opening) → 0 < s.ws_opt → FitsItsLine s log o
    → have_landed log o (line_end s o / s.ws_opt) ≡ (landed_count log o == line_end s o / s.ws_opt)
landed_whole s log o some room =
    whole_by (has_landed log) (stripes_of log o) (line_end s o / s.ws_opt) (few_stripes (length (stripes_of log o)) (line_end s o) s.ws_opt some room.within)

-- ---- one more has landed

record IsSplit (ps : List Placed) (p : Placed) : Type 0 where
  before : List Placed
  after : List Placed
  is : ps ≡ before ++ p ∷ after

split_at : (ps : List Placed) (k : ℕ) (p : Placed) → slice_get ps k ≡ Some p → IsSplit ps p
split_at [] k p e = absurd (none-some p e)
split_at (q ∷ ps) zero p e = record { before = []; after = ps; is = ap (λ r. r ∷ ps) (same_Some q p e) }
split_at (q ∷ ps) (suc k) p e =
    let r : IsSplit ps p = split_at ps k p e in
    record { before = q ∷ r.before; after = r.after; is = ap (λ rs. q ∷ rs) r.is }

IsOther : Placed → Placed → Type 0
IsOther p q = q.number ≢ p.number

others_before : (before : List Placed) (p : Placed) (after : List Placed) → Rises (before ++ p ∷ after) → AllByRecursion (IsOther p) before
unfolding IsOther
others_before [] p after rise = tt
others_before (q ∷ before) p after rise =
    let below : q.number < p.number = (all_right (λ (r : Placed). q.number < r.number) before (p ∷ after) rise.0).0 in
    ((λ e. absurd (omega arith)), others_before before p after rise.1)

others_after : (before : List Placed) (p : Placed) (after : List Placed) → Rises (before ++ p ∷ after) → AllByRecursion (IsOther p) after
unfolding IsOther
others_after [] p after rise = above p after rise.0
  where
    above : (p : Placed) (qs : List Placed) → AllByRecursion (λ (q : Placed). p.number < q.number) qs → AllByRecursion (λ (q : Placed). q.number ≢ p.number) qs
    above p [] all = tt
    above p (q ∷ qs) all = let more : p.number < q.number = all.0 in ((λ e. absurd (omega arith)), above p qs all.1)
others_after (q ∷ before) p after rise = others_after before p after rise.1

one_more : (f g : Placed → Bool) (before : List Placed) (p : Placed) (after : List Placed) → f p ≡ false → g p ≡ true
    → filter g before ≡ filter f before → filter g after ≡ filter f after
    → length (filter g (before ++ p ∷ after)) ≡ length (filter f (before ++ p ∷ after)) + 1
one_more f g before p after no_more now first rest =
    let new : length (filter g (before ++ p ∷ after)) ≡ length (filter f before) + suc (length (filter f after)) =
    ap length (filter-append g before (p ∷ after) ∙ ap₂ (λ (xs : List Placed) b. xs ++ cond b (p ∷ filter g after) (filter g after)) first now
    ∙ ap (λ (ys : List Placed). filter f before ++ p ∷ ys) rest)
    ∙ length-append (filter f before) (p ∷ filter f after) in
    let old : length (filter f (before ++ p ∷ after)) ≡ length (filter f before) + length (filter f after) =
    ap length (filter-append f before (p ∷ after) ∙ ap (λ b. filter f before ++ cond b (p ∷ filter f after) (filter f after)) no_more)
    ∙ length-append (filter f before) (filter f after) in
    omega arith

pub one_landed : (log : List Logged) (unit event : ℕ) (knows : List ℕ) (p : Placed) (o : Opening) → unanswered_on log unit ≡ Some p
    → is_life o.number p.life ≡ true
    → landed_count (with_event log (Landed unit event) knows) o ≡ landed_count log o + 1
unfolding IsOther
one_landed log unit event knows p o first its =
    let is : IsAnswer log (with_event log (Landed unit event) knows) unit (DidLand event) = its_landing log unit event knows in
    let is_first : IsFirst log unit p = first_unanswered log unit p first in
    let among : IsAmong (stripes_of log o) p = in_filter (λ (q : Placed). is_life o.number q.life) (placements log) p is_first.among its in
    let split : IsSplit (stripes_of log o) p = split_at (stripes_of log o) among.0 p among.1 in
    let rise : Rises (split.before ++ p ∷ split.after) =
    subst Rises split.is (some_rise (λ (q : Placed). is_life o.number q.life) (placements log) (rise_all log)) in
    let all : AllByRecursion (IsAmong (placements log)) (split.before ++ p ∷ split.after) =
    subst (AllByRecursion (IsAmong (placements log))) split.is
    (all_filter (IsAmong (placements log)) (λ (q : Placed). is_life o.number q.life) (placements log) (among_all (placements log))) in
    let same : (qs : List Placed) → AllByRecursion (IsAmong (placements log)) qs → AllByRecursion (λ (q : Placed). q.number ≢ p.number) qs
    → filter (has_landed (with_event log (Landed unit event) knows)) qs ≡ filter (has_landed log) qs = λ qs there others.
    filter_agree (λ (q : Placed). IsAmong (placements log) q × (q.number ≢ p.number)) (has_landed (with_event log (Landed unit event) knows)) (has_landed log)
    (λ q h. beside q (others_answer log (with_event log (Landed unit event) knows) unit (DidLand event) p q is is_first h.0) h.1) qs
    (zipped (IsAmong (placements log)) (λ (q : Placed). q.number ≢ p.number) (λ (q : Placed). IsAmong (placements log) q × (q.number ≢ p.number))
    (λ q a b. (a, b)) qs there others) in
    ap (λ ps. length (filter (has_landed (with_event log (Landed unit event) knows)) (filter (λ (q : Placed). is_life o.number q.life) ps))) is.placements
    ∙ subst (λ ps. length (filter (has_landed (with_event log (Landed unit event) knows)) ps) ≡ length (filter (has_landed log) ps) + 1) (sym split.is)
    (one_more (has_landed log) (has_landed (with_event log (Landed unit event) knows)) split.before p split.after
    (ap is_land (first_answer log unit p first))
    (ap is_land (its_answer log (with_event log (Landed unit event) knows) unit (DidLand event) p is is_first))
    (same split.before (all_left (IsAmong (placements log)) split.before (p ∷ split.after) all) (others_before split.before p split.after rise))
    (same split.after (all_right (IsAmong (placements log)) split.before (p ∷ split.after) all).1 (others_after split.before p split.after rise)))
  where
    beside : (q : Placed) → (q ≡ p) ⊎ (answer_of (with_event log (Landed unit event) knows) q ≡ answer_of log q) → q.number ≢ p.number
        → has_landed (with_event log (Landed unit event) knows) q ≡ has_landed log q
    beside q (inl e) apart = absurd (apart (ap (λ (r : Placed). r.number) e))
    beside q (inr e) apart = ap is_land e

-- ---- the other events

also_stripes : (e : EngineEvent) → keeps_landed e ≡ true → keeps_stripes e ≡ true
also_stripes (Place stripe) keeps = absurd cc
also_stripes (Landed other event) keeps = refl
also_stripes (Lost other event) keeps = absurd cc
also_stripes e keeps = refl
