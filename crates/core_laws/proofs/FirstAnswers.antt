-- The first stripe of a unit that isn't answered, and which stripes its answer tells of.
use Rattle.std.proofs.Common.{◌≡◌, ◌⊎◌, inl, inr, ℕ, ◌==◌, ◌&&◌, nat_lt, nat_le, Bool, true, false, cond, Some, None, List, [], ◌∷◌, ◌++◌, length, take, refl, sym, ap, ap₂, ◌∙◌, append-nil}
use Rattle.std.specs.Prelude.{if◌then◌else◌, slice_get}
use Rattle.std.specs.List.{AllByRecursion, filter, list_all}
use Rattle.std.specs.Option.{option_to_list}
use Rattle.pblk_world.specs.Events.{Landed, Decides, Logged}
use Rattle.pblk_world.specs.EngineLog.{is_life, Opening, Placed, placements, stripes_of, Answer, DidLand, answers, answer_of, turn, is_land, has_landed}
use Rattle.pblk_world.specs.Starts.{have_landed}
use Rattle.core_laws.proofs.Answered.{IsAnswer, IsFirst, others_answer}
use Rattle.core_laws.proofs.KeptStripes.{with_event, placements_kept}
use Rattle.pblk_model.proofs.Lists.{IsAmong, among_all}
use Rattle.pblk_model.proofs.Maps.{all_agree}
use Rattle.pblk_model.proofs.Parts.{all_taken}
use Rattle.pblk_model.proofs.Tests.{other_number, same_number}
use Rattle.pblk_world.proofs.EngineLogLemmas.{answers_more, land_more}

-- ---- the first one

pub its_landing : (log : List Logged) (unit event : ℕ) (knows : List ℕ) → IsAnswer log (with_event log (Landed unit event) knows) unit (DidLand event)
its_landing log unit event knows = record {
  placements = placements_kept log (Landed unit event) knows refl;
  here = answers_more log (record { event = Decides (Landed unit event); knows = knows }) unit
      ∙ ap (λ b. answers log unit ++ option_to_list (if b then Some (DidLand event) else None)) (same_number unit);
  elsewhere = λ v other. answers_more log (record { event = Decides (Landed unit event); knows = knows }) v
      ∙ ap (λ b. answers log v ++ option_to_list (if b then Some (DidLand event) else None)) (other_number unit v (λ e. other (sym e)))
      ∙ append-nil (answers log v);
}

-- ---- the stripes of other openings

-- what passes, among all
abbrev pub IsPassed : {X : Type 0} → (X → Bool) → List X → X → Type 0
IsPassed f xs x = IsAmong xs x × (f x ≡ true)

pub passed : {X : Type 0} (f : X → Bool) (all xs : List X) → AllByRecursion (IsAmong all) xs → AllByRecursion (IsPassed f all) (filter f xs)
passed f all [] there = tt
passed {X} f all (x ∷ xs) there = go (f x) refl (passed f all xs there.1)
  where
    go : (b : Bool) → f x ≡ b → AllByRecursion (λ y. IsAmong all y × (f y ≡ true)) (filter f xs)
        → AllByRecursion (λ y. IsAmong all y × (f y ≡ true)) (cond b (x ∷ filter f xs) (filter f xs))
    go true e rest = ((there.0, e), rest)
    go false e rest = rest

have_by : (log new : List Logged) (o : Opening) (n : ℕ) → placements new ≡ placements log
    → have_landed new o n ≡ (nat_le n (length (stripes_of log o)) && list_all (has_landed new) (take n (stripes_of log o)))
have_by log new o n same =
    ap (λ ps. nat_le n (length (filter (λ (p : Placed). is_life o.number p.life) ps)) && list_all (has_landed new)
    (take n (filter (λ (p : Placed). is_life o.number p.life) ps))) same

-- an opening to which the answered stripe doesn't belong
pub have_landed_beside : (log new : List Logged) (unit : ℕ) (a : Answer) (p : Placed) (o : Opening) (n : ℕ) → IsAnswer log new unit a → IsFirst log unit p
    → is_life o.number p.life ≡ false
    → have_landed new o n ≡ have_landed log o n
have_landed_beside log new unit a p o n is first apart =
    have_by log new o n is.placements
    ∙ ap (λ b. nat_le n (length (stripes_of log o)) && b)
    (all_agree (λ (q : Placed). IsAmong (placements log) q × (is_life o.number q.life ≡ true)) (has_landed new) (has_landed log)
    (λ q its. same q (others_answer log new unit a p q is first its.0) its.1) (take n (stripes_of log o))
    (all_taken (λ (q : Placed). IsAmong (placements log) q × (is_life o.number q.life ≡ true)) n (stripes_of log o)
    (passed (λ (q : Placed). is_life o.number q.life) (placements log) (placements log) (among_all (placements log)))))
  where
    same : (q : Placed) → (q ≡ p) ⊎ (answer_of new q ≡ answer_of log q) → is_life o.number q.life ≡ true → has_landed new q ≡ has_landed log q
    same q (inl e) its =
        let not_its : is_life o.number q.life ≡ false = ap (λ (r : Placed). is_life o.number r.life) e ∙ apart in
        absurd (cc (sym its ∙ not_its))
    same q (inr e) its = ap is_land e

-- ---- what has landed stays so

landed_stays : (log : List Logged) (unit event : ℕ) (knows : List ℕ) (p : Placed) → has_landed log p ≡ true
    → has_landed (with_event log (Landed unit event) knows) p ≡ true
landed_stays log unit event knows p e =
    let l : Logged = record { event = Decides (Landed unit event); knows = knows } in
    ap₂ (λ (xs : List Answer) k. is_land (slice_get xs k)) (answers_more log l p.stripe.unit)
    (ap (λ ps. length (filter (λ (q : Placed). nat_lt q.number p.number) (filter (λ (q : Placed). q.stripe.unit == p.stripe.unit) ps)))
    (placements_kept log (Landed unit event) knows refl))
    ∙ land_more (answers log p.stripe.unit) (option_to_list _) (turn log p) e

both_stay : (a b c : Bool) → (b ≡ true → c ≡ true) → (a && b) ≡ true → (a && c) ≡ true
both_stay true b c stays e = stays e
both_stay false b c stays e = e

all_stay : {X : Type 0} (f g : X → Bool) → ((x : X) → f x ≡ true → g x ≡ true) → (xs : List X) → list_all f xs ≡ true → list_all g xs ≡ true
all_stay f g stays [] e = refl
all_stay {X} f g stays (x ∷ xs) e = go (f x) (g x) (stays x) (λ r. all_stay f g stays xs r) e
  where
    go : (a b : Bool) → (a ≡ true → b ≡ true) → (list_all f xs ≡ true → list_all g xs ≡ true) → (a && list_all f xs) ≡ true → (b && list_all g xs) ≡ true
    go true true h rest e = rest e
    go true false h rest e = absurd (cc (h refl))
    go false b h rest e = absurd cc

pub have_landed_stays : (log : List Logged) (unit event : ℕ) (knows : List ℕ) (o : Opening) (n : ℕ) → have_landed log o n ≡ true
    → have_landed (with_event log (Landed unit event) knows) o n ≡ true
have_landed_stays log unit event knows o n e =
    have_by log (with_event log (Landed unit event) knows) o n (placements_kept log (Landed unit event) knows refl)
    ∙ both_stay (nat_le n (length (stripes_of log o))) (list_all (has_landed log) (take n (stripes_of log o)))
    (list_all (has_landed (with_event log (Landed unit event) knows)) (take n (stripes_of log o)))
    (all_stay (has_landed log) (has_landed (with_event log (Landed unit event) knows)) (landed_stays log unit event knows) (take n (stripes_of log o))) e
