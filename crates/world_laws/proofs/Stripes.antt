-- Stripes by their events: when each was placed, and the life of its line then.
use Rattle.std.proofs.Common.{◌≡◌, ◌⊎◌, inl, inr, ℕ, ◌+◌, ◌<◌, ◌≤◌, zero, suc, Bool, true, Some, List, [], ◌∷◌, ◌++◌, length, take, drop, refl, sym, subst, ap, ◌∙◌, arith, length-take}
use Rattle.std.specs.Prelude.{slice_get}
use Rattle.std.specs.List.{Contains, filter}
use Rattle.std.proofs.lemmas.Bool.{cases_order}
use Rattle.std.proofs.lemmas.Option.{none-some, same_Some, slice_get_within}
use Rattle.pblk_model.specs.Image.{Image}
use Rattle.pblk_world.specs.Events.{Open, Place, Free, Stripe, Event, Decides, Logged}
use Rattle.pblk_world.specs.World.{World, log_of}
use Rattle.pblk_world.specs.EngineLog.{Opening, opened_by, openings, Opened, last_opening, life_of, is_life, Placed, placed_by, placements, stripes_of}
use Rattle.pblk_world.specs.Legal.{IsLegal}
use Rattle.pblk_world.specs.Placing.{MayPlace}
use Rattle.pblk_world.specs.Victims.{engine_prefix}
use Rattle.pblk_model.proofs.Lists.{IsAmong, all_contains, among_contained, later}
use Rattle.pblk_model.proofs.Maps.{all_passed, from_filter, in_filter}
use Rattle.pblk_model.proofs.Parts.{all_at, contained_among, get_more, get_taken, take_and_drop}
use Rattle.pblk_model.proofs.Tests.{same}
use Rattle.world_laws.proofs.Later.{placed_within, placements_joined}
use Rattle.world_laws.proofs.Lives.{IsFreedLife, freed_before_opened, life_is_known, openings_joined}
use Rattle.world_laws.proofs.Openings.{nth_made, placed_at}

-- ---- a stripe by its event

pub record IsPlaced (log : List Logged) (p : Placed) : Type 0 where
  pub logged : Logged
  pub there : slice_get log p.number ≡ Some logged
  pub event : logged.event ≡ Decides (Place p.stripe)
  pub life : p.life ≡ life_of (take p.number log) p.stripe.line

placed_says : (log : List Logged) (n : ℕ) (e : Event) (p : Placed) → placed_by log n e ≡ Some p
    → (p.number ≡ n) × (e ≡ Decides (Place p.stripe)) × (p.life ≡ life_of (take p.number log) p.stripe.line)
placed_says log n (Decides (Place stripe)) p h =
    let it : record { number = n; stripe = stripe; life = life_of (take n log) stripe.line } ≡ p = same_Some _ p h in (
      ap (λ (x : Placed). x.number) (sym it),
      ap (λ (x : Placed). Decides (Place x.stripe)) it,
      subst (λ (x : Placed). x.life ≡ life_of (take x.number log) x.stripe.line) it refl,
    )
placed_says log n e p h = absurd (none-some p h)

pub placed_is : (log : List Logged) (p : Placed) → Contains (placements log) p → IsPlaced log p
placed_is log p there =
    let at = among_contained (placements log) p there in
    let from = nth_made (λ (e : ℕ × Logged). placed_by log e.0 e.1.event) 0 log at.0 p at.1 in
    let says = placed_says log (0 + from.0) from.1.event p from.3 in
    let number : from.0 ≡ p.number = let is : p.number ≡ 0 + from.0 = says.0 in omega arith in record {
      logged = from.1;
      there = subst (λ n. slice_get log n ≡ Some from.1) number from.2;
      event = says.1;
      life = says.2;
    }

-- ---- an opening by its event

opened_says : (n : ℕ) (knows : List ℕ) (e : Event) (o : Opening) → opened_by n knows e ≡ Some o
    → (o.number ≡ n) × (e ≡ Decides (Open o.line o.start)) × (o.knows ≡ knows)
opened_says n knows (Decides (Open line start)) o h =
    let it : record { number = n; line = line; start = start; knows = knows } ≡ o = same_Some _ o h in (
      ap (λ (x : Opening). x.number) (sym it),
      ap (λ (x : Opening). Decides (Open x.line x.start)) it,
      ap (λ (x : Opening). x.knows) (sym it),
    )
opened_says n knows e o h = absurd (none-some o h)

pub record IsOpening (log : List Logged) (n : ℕ) (o : Opening) : Type 0 where
  pub logged : Logged
  pub there : slice_get log o.number ≡ Some logged
  pub event : logged.event ≡ Decides (Open o.line o.start)
  pub made : opened_by o.number logged.knows logged.event ≡ Some o
  -- so many openings came before
  pub before : length (openings (take o.number log)) ≡ n

pub opening_is : (log : List Logged) (n : ℕ) (o : Opening) → slice_get (openings log) n ≡ Some o → IsOpening log n o
opening_is log n o at =
    let from = nth_made (λ (e : ℕ × Logged). opened_by e.0 e.1.knows e.1.event) 0 log n o at in
    let says = opened_says (0 + from.0) from.1.knows from.1.event o from.3 in
    let number : from.0 ≡ o.number = let is : o.number ≡ 0 + from.0 = says.0 in omega arith in record {
      logged = from.1;
      there = subst (λ k. slice_get log k ≡ Some from.1) number from.2;
      event = says.1;
      made = subst (λ k. opened_by k from.1.knows from.1.event ≡ Some o) (sym says.0) from.3;
      before = subst (λ k. length (openings (take k log)) ≡ n) number from.4;
    }

-- an opening is that of its number
pub one_opening : (log : List Logged) (o p : Opening) → Contains (openings log) o → Contains (openings log) p → o.number ≡ p.number → o ≡ p
one_opening log o p a b numbers =
    let x = among_contained (openings log) o a in
    let y = among_contained (openings log) p b in
    let first : IsOpening log x.0 o = opening_is log x.0 o x.1 in
    let second : IsOpening log y.0 p = opening_is log y.0 p y.1 in
    let events : first.logged ≡ second.logged = same_Some _ _ (sym first.there ∙ ap (slice_get log) numbers ∙ second.there) in
    same_Some o p (sym first.made ∙ ap (λ (l : Logged). opened_by o.number l.knows l.event) events
    ∙ ap (λ n. opened_by n second.logged.knows second.logged.event) numbers ∙ second.made)

-- ---- the life of a stripe's line

-- in a legal world a stripe's line was opened then
pub life_of_stripe : (i : Image) (w : World) (p : Placed) → IsLegal i w → Contains (placements (log_of w 0)) p
    → (o : Opening) × (p.life ≡ Opened o) × (life_of (take p.number (log_of w 0)) p.stripe.line ≡ Opened o)
life_of_stripe i w p legal there =
    let is : IsPlaced (log_of w 0) p = placed_is (log_of w 0) p there in
    let may : MayPlace i (engine_prefix p.number (log_of w)) p.stripe = placed_at i w p.number p.stripe is.logged legal is.there is.event in
    (may.opening, is.life ∙ may.is_open, may.is_open)

pub opening_of_prefix : (log : List Logged) (n : ℕ) (o : Opening) → Contains (openings (take n log)) o → Contains (openings log) o
opening_of_prefix log n o there =
    let joined = openings_joined (take n log) (drop n log) in
    let at = among_contained (openings (take n log)) o there in
    contained_among (openings log) o (
      at.0,
      ap (λ (xs : List Logged). slice_get (openings xs) at.0) (sym (take_and_drop n log)) ∙ ap (λ (os : List Opening). slice_get os at.0) joined.1
          ∙ get_more (openings (take n log)) joined.0 at.0 o at.1,
    )

-- the opening of a life is one of the whole log, at a number below the length at which the line had
-- that life
pub opening_then : (log : List Logged) (n line : ℕ) (o : Opening) → life_of (take n log) line ≡ Opened o
    → Contains (openings log) o × (o.line ≡ line) × (o.number < n)
opening_then log n line o is =
    let known = life_is_known (take n log) line o (ap last_opening is) in
    let at = among_contained (openings (take n log)) o known.0 in
    let its : IsOpening (take n log) at.0 o = opening_is (take n log) at.0 o at.1 in
    let within : o.number < length (take n log) = slice_get_within (take n log) o.number its.logged its.there in
    (opening_of_prefix log n o known.0, known.1, omega (arith, length-take n log))

-- the stripes of an opening were placed while its line had that life
pub stripe_is : (i : Image) (w : World) (o : Opening) (p : Placed) → IsLegal i w → Contains (openings (log_of w 0)) o → Contains (stripes_of (log_of w 0) o) p
    → Contains (placements (log_of w 0)) p × (p.life ≡ Opened o) × (life_of (take p.number (log_of w 0)) p.stripe.line ≡ Opened o) × (p.stripe.line ≡ o.line)
stripe_is i w o p legal opened there =
    let log : List Logged = log_of w 0 in
    let test : Placed → Bool = λ q. is_life o.number q.life in
    let placed : Contains (placements log) p = contained_among (placements log) p
    (from_filter test (placements log) p (among_contained (filter test (placements log)) p there)) in
    let passes : is_life o.number p.life ≡ true =
    all_contains (λ q. test q ≡ true) (filter test (placements log)) p (all_passed test (placements log)) there in
    let life = life_of_stripe i w p legal placed in
    let then_ = opening_then log p.number p.stripe.line life.0 life.2 in
    let numbers : life.0.number ≡ o.number = same life.0.number o.number (sym (ap (is_life o.number) life.1) ∙ passes) in
    let it : life.0 ≡ o = one_opening log life.0 o then_.0 opened numbers in
    (placed, life.1 ∙ ap (λ x. Opened x) it, life.2 ∙ ap (λ x. Opened x) it, sym then_.1 ∙ ap (λ (x : Opening). x.line) it)

-- ---- stripes of a life that was freed

among_joined : {X : Type 0} (xs ys : List X) (x : X) (k : ℕ) → slice_get (xs ++ ys) k ≡ Some x → IsAmong xs x ⊎ IsAmong ys x
among_joined [] ys x k e = inr (k, e)
among_joined (y ∷ xs) ys x zero e = inl (0, e)
among_joined (y ∷ xs) ys x (suc k) e = elim (among_joined xs ys x k e) as (λ _. IsAmong (y ∷ xs) x ⊎ IsAmong ys x) [
  | inl first ↦ inl (later y xs x first)
  | inr rest ↦ inr rest
]

-- a stripe of the log is one of the prefix that has its event
earlier_stripe : (log : List Logged) (n : ℕ) (p : Placed) → Contains (placements log) p → p.number < n → IsAmong (placements (take n log)) p
earlier_stripe log n p there below =
    let at = among_contained (placements log) p there in
    let joined = placements_joined (take n log) (drop n log) in
    let within : p.number < length log = placed_within log p there in
    let split = among_joined (placements (take n log)) joined.0 p at.0
    (ap (λ (ps : List Placed). slice_get ps at.0) (sym joined.1 ∙ ap placements (take_and_drop n log)) ∙ at.1) in
    elim split as (λ _. IsAmong (placements (take n log)) p) [
      | inl first ↦ first
      | inr rest ↦
          let past : length (take n log) ≤ p.number = all_at (λ (q : Placed). length (take n log) ≤ q.number) joined.0 rest.0 p rest.1 joined.2 in
          absurd (omega (arith, length-take n log))
    ]

pub stripe_of_prefix : (log : List Logged) (n : ℕ) (o : Opening) (p : Placed) → Contains (stripes_of log o) p → p.number < n
    → Contains (stripes_of (take n log) o) p
stripe_of_prefix log n o p there below =
    let test : Placed → Bool = λ q. is_life o.number q.life in
    let at = from_filter test (placements log) p (among_contained (filter test (placements log)) p there) in
    let passes : is_life o.number p.life ≡ true =
    all_contains (λ q. test q ≡ true) (filter test (placements log)) p (all_passed test (placements log)) there in
    contained_among (stripes_of (take n log) o) p
    (in_filter test (placements (take n log)) p (earlier_stripe log n p (contained_among (placements log) p at) below) passes)

apart : (line : ℕ) (stripe : Stripe) → Decides (Free line) ≡ Decides (Place stripe) → ⊥
apart line stripe e = cc

free_or_place : (log : List Logged) (n line : ℕ) (stripe : Stripe) (l m : Logged) → slice_get log n ≡ Some l → slice_get log n ≡ Some m
    → l.event ≡ Decides (Free line) → m.event ≡ Decides (Place stripe) → ⊥
free_or_place log n line stripe l m a b free place = apart line stripe (sym free ∙ ap (λ (x : Logged). x.event) (same_Some l m (sym a ∙ b)) ∙ place)

-- the stripes of a life that was freed were placed before
pub placed_before_freed : (i : Image) (w : World) (o : Opening) (p : Placed) (f : IsFreedLife (log_of w 0) o) → IsLegal i w
    → Contains (stripes_of (log_of w 0) o) p → p.number < f.number
placed_before_freed i w o p f legal there =
    let log : List Logged = log_of w 0 in
    let opened = opening_then log f.number o.line o f.was in
    let is = stripe_is i w o p legal opened.0 there in
    let placed : IsPlaced log p = placed_is log p is.0 in
    go log opened.2 is.2 is.3 placed f.there f.frees (cases_order f.number p.number)
  where
    go : (log : List Logged) → o.number < f.number → life_of (take p.number log) p.stripe.line ≡ Opened o → p.stripe.line ≡ o.line → IsPlaced log p
        → slice_get log f.number ≡ Some f.logged → f.logged.event ≡ Decides (Free o.line)
        → (f.number ≡ p.number) ⊎ ((f.number < p.number) ⊎ (p.number < f.number))
        → p.number < f.number
    go log later_on life line placed at frees (inl both) =
        absurd (free_or_place log p.number o.line p.stripe f.logged placed.logged
        (subst (λ n. slice_get log n ≡ Some f.logged) both at) placed.there frees placed.event)
    go log later_on life line placed at frees (inr (inl before)) =
        let free : f.number < o.number = freed_before_opened (take p.number log) p.stripe.line o f.number f.logged life
        (get_taken p.number log f.number before ∙ at) (frees ∙ ap (λ n. Decides (Free n)) (sym line)) in
        absurd (omega arith)
    go log later_on life line placed at frees (inr (inr after)) = after
