-- Each opening and each stripe of a legal world was allowed by what the engine had been told when
-- it made them.
use Rattle.std.proofs.Common.{◌≡◌, ℕ, ◌+◌, zero, suc, Some, None, Option, List, [], ◌∷◌, length, take, refl, sym, subst, ap, ◌∙◌, arith}
use Rattle.std.specs.Prelude.{slice_get}
use Rattle.std.specs.List.{filter_map, cons_option, enumerate_from}
use Rattle.std.proofs.lemmas.Option.{none-some}
use Rattle.pblk_model.specs.Image.{Image}
use Rattle.pblk_model.specs.StartRecord.{StartRecord}
use Rattle.pblk_world.specs.Events.{Open, Place, Stripe, Event, Decides, Logged}
use Rattle.pblk_world.specs.World.{World, log_of, prefixes}
use Rattle.pblk_world.specs.EngineLog.{Begun, begun}
use Rattle.pblk_world.specs.Legal.{IsLegal, IsAllowed}
use Rattle.pblk_world.specs.Opening.{MayOpen}
use Rattle.pblk_world.specs.Placing.{MayPlace}
use Rattle.pblk_world.specs.Victims.{engine_prefix}
use Rattle.pblk_world.proofs.EngineLogLemmas.{begun_of_first}
use Rattle.pblk_world.proofs.LegalLemmas.{whole_own}
use Rattle.world_laws.proofs.Made.{IsMade, step_by, made, own_then}
use Rattle.world_laws.proofs.ToldDecisions.{opening_told, placing_told}
use Rattle.world_laws.proofs.ToldImages.{told_back}
use Rattle.world_laws.proofs.ToldSince.{told_when_made, told_up_to}

-- where the n-th of what is made of numbered elements comes from
pub nth_made : {X Y : Type 0} (h : ℕ × X → Option Y) (m : ℕ) (xs : List X) (n : ℕ) (y : Y) → slice_get (filter_map h (enumerate_from m xs)) n ≡ Some y
    → (k : ℕ) × (x : X) × (slice_get xs k ≡ Some x) × (h (m + k, x) ≡ Some y) × (length (filter_map h (enumerate_from m (take k xs))) ≡ n)
nth_made h m [] n y e = absurd (none-some y e)
nth_made {X} {Y} h m (x ∷ xs) n y e = go (h (m, x)) refl n e (λ n e. nth_made h (m + 1) xs n y e)
  where
    here : h (m, x) ≡ h (m + 0, x)
    here = let same : m ≡ m + 0 = omega arith in ap (λ k. h (k, x)) same

    next : (k : ℕ) (z : X) → h (m + 1 + k, z) ≡ h (m + suc k, z)
    next k z = let same : m + 1 + k ≡ m + suc k = omega arith in ap (λ j. h (j, z)) same

    go : (o : Option Y) → h (m, x) ≡ o → (n : ℕ) → slice_get (cons_option o (filter_map h (enumerate_from (m + 1) xs))) n ≡ Some y
        → ((n : ℕ) → slice_get (filter_map h (enumerate_from (m + 1) xs)) n ≡ Some y
        → (k : ℕ) × (z : X) × (slice_get xs k ≡ Some z) × (h (m + 1 + k, z) ≡ Some y) × (length (filter_map h (enumerate_from (m + 1) (take k xs))) ≡ n))
        → (k : ℕ) × (z : X) × (slice_get (x ∷ xs) k ≡ Some z) × (h (m + k, z) ≡ Some y) × (length (filter_map h (enumerate_from m (take k (x ∷ xs)))) ≡ n)
    go None f n e rest =
        let r = rest n e in
        (suc r.0, r.1, r.2, sym (next r.0 r.1) ∙ r.3, ap (λ o. length (cons_option o (filter_map h (enumerate_from (m + 1) (take r.0 xs))))) f ∙ r.4)
    go (Some z) f zero e rest = (0, x, refl, sym here ∙ f ∙ e, refl)
    go (Some z) f (suc n) e rest =
        let r = rest n e in
        (suc r.0, r.1, r.2, sym (next r.0 r.1) ∙ r.3, ap (λ o. length (cons_option o (filter_map h (enumerate_from (m + 1) (take r.0 xs))))) f ∙ ap suc r.4)

-- ---- by the number of the event

pub allowed_by : (i : Image) (w : World) (number : ℕ) (l : Logged) (e : Event) (h : IsMade i w 0 number l) → l.event ≡ e
    → IsAllowed i 0 e (prefixes l (log_of h.before))
allowed_by i w number l e h is = subst (λ (f : Event). IsAllowed i 0 f (prefixes l (log_of h.before))) is h.step.allowed

-- what had begun then has begun
begun_now : (i : Image) (w : World) (number : ℕ) (l : Logged) (h : IsMade i w 0 number l) (g : Begun) → begun (prefixes l (log_of h.before) 0) ≡ Some g
    → begun (log_of w 0) ≡ Some g
begun_now i w number l h g e = begun_of_first number (log_of w 0) g
    (ap begun (sym (whole_own i (step_by 0 l) h.before h.step ∙ own_then i w 0 number l h)) ∙ e)

-- an opening was allowed by what the engine had been told
pub opened_at : (i : Image) (w : World) (number line : ℕ) (start : StartRecord) (l : Logged) → IsLegal i w → slice_get (log_of w 0) number ≡ Some l
    → l.event ≡ Decides (Open line start) → (g : Begun) × (begun (log_of w 0) ≡ Some g) × MayOpen i (engine_prefix number (log_of w)) g line start
opened_at i w number line start l legal there is =
    let h : IsMade i w 0 number l = made i w 0 number l legal there in
    let may = allowed_by i w number l (Decides (Open line start)) h is in (
      may.0,
      begun_now i w number l h may.0 may.1,
      opening_told i (log_of h.before) (engine_prefix number (log_of w)) (told_up_to i w number l h) may.0 line start
          (opening_told i (prefixes l (log_of h.before)) (log_of h.before)
          (told_back i (log_of h.before) (prefixes l (log_of h.before)) (told_when_made i w number l h))
          may.0 line start may.2),
    )

pub placed_at : (i : Image) (w : World) (number : ℕ) (stripe : Stripe) (l : Logged) → IsLegal i w → slice_get (log_of w 0) number ≡ Some l
    → l.event ≡ Decides (Place stripe) → MayPlace i (engine_prefix number (log_of w)) stripe
placed_at i w number stripe l legal there is =
    let h : IsMade i w 0 number l = made i w 0 number l legal there in
    let may = allowed_by i w number l (Decides (Place stripe)) h is in
    placing_told i (log_of h.before) (engine_prefix number (log_of w)) (told_up_to i w number l h) stripe
    (placing_told i (prefixes l (log_of h.before)) (log_of h.before)
    (told_back i (log_of h.before) (prefixes l (log_of h.before)) (told_when_made i w number l h))
    stripe may.2)
