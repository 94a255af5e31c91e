-- The start records of a mount: sequence numbers from the mount's first on, and fronts that rise up
-- to the front synced.
use Rattle.std.proofs.Common.{◌≡◌, ◌⊎◌, inl, inr, ℕ, ◌+◌, ◌<◌, ◌≤◌, Some, List, ◌++◌, length, take, drop, sym, subst, ap, ◌∙◌, arith, length-append}
use Rattle.std.specs.Prelude.{slice_get}
use Rattle.std.specs.Option.{option_map_or}
use Rattle.std.proofs.lemmas.Bool.{cases_order}
use Rattle.std.proofs.lemmas.List.{take-take}
use Rattle.std.proofs.lemmas.Option.{same_Some}
use Rattle.pblk_model.specs.declared.shape.Shape.{Shape}
use Rattle.pblk_model.specs.Image.{Image}
use Rattle.pblk_world.specs.Events.{Event, Logged}
use Rattle.pblk_world.specs.World.{World, log_of}
use Rattle.pblk_world.specs.EngineLog.{Begun, begun, Opening, openings}
use Rattle.pblk_world.specs.Fronts.{first_position, synced}
use Rattle.pblk_world.specs.Legal.{IsLegal}
use Rattle.pblk_world.specs.Opening.{MayOpen}
use Rattle.pblk_world.specs.Victims.{engine_prefix}
use Rattle.pblk_world.proofs.EngineLogLemmas.{begun_knows, begun_taken}
use Rattle.pblk_model.proofs.Parts.{take_and_drop}
use Rattle.world_laws.proofs.Beginnings.{IsInTurn, turn_of}
use Rattle.world_laws.proofs.Fronts.{synced_from, synced_later}
use Rattle.world_laws.proofs.Lives.{openings_joined}
use Rattle.world_laws.proofs.Openings.{opened_at}
use Rattle.world_laws.proofs.Stripes.{IsOpening, opening_is}

-- the n-th opening of a mount
pub record IsNthOpening (i : Image) (w : World) (n : ℕ) (o : Opening) : Type 0 where
  pub g : Begun
  pub is_begun : begun (log_of w 0) ≡ Some g
  pub may : MayOpen i (engine_prefix o.number (log_of w)) g o.line o.start
  pub before : length (openings (take o.number (log_of w 0))) ≡ n

pub nth_opening : (i : Image) (w : World) (n : ℕ) (o : Opening) → IsLegal i w → slice_get (openings (log_of w 0)) n ≡ Some o → IsNthOpening i w n o
nth_opening i w n o legal at =
    let is : IsOpening (log_of w 0) n o = opening_is (log_of w 0) n o at in
    let may = opened_at i w o.number o.line o.start is.logged legal is.there is.event in
    record { g = may.0; is_begun = may.1; may = may.2; before = is.before }

pub seq_of_nth : (i : Image) (w : World) (n : ℕ) (o : Opening) (g : Begun) → IsLegal i w → begun (log_of w 0) ≡ Some g
    → slice_get (openings (log_of w 0)) n ≡ Some o → o.start.seq ≡ g.beginning.seq + n
seq_of_nth i w n o g legal begins at =
    let is : IsNthOpening i w n o = nth_opening i w n o legal at in
    is.may.seq ∙ ap (λ m. is.g.beginning.seq + m) is.before
    ∙ ap (λ (b : Begun). b.beginning.seq + n) (same_Some is.g g (sym is.is_begun ∙ begins))

-- ---- lengths of the log

part_of_part : (a b : ℕ) (log : List Logged) → a ≤ b → take b log ≡ take a log ++ drop a (take b log)
part_of_part a b log h = sym (take_and_drop a (take b log)) ∙ ap (λ xs. xs ++ drop a (take b log)) (take-take a b log h)

pub synced_by_length : (s : Shape) (a b : ℕ) (log : List Logged) → a ≤ b → synced s (take a log) ≤ synced s (take b log)
synced_by_length s a b log h =
    subst (λ (xs : List Logged). synced s (take a log) ≤ synced s xs) (sym (part_of_part a b log h)) (synced_later s (take a log) (drop a (take b log)))

pub synced_by_now : (s : Shape) (a : ℕ) (log : List Logged) → synced s (take a log) ≤ synced s log
synced_by_now s a log =
    subst (λ (xs : List Logged). synced s (take a log) ≤ synced s xs) (take_and_drop a log) (synced_later s (take a log) (drop a log))

fewer_openings : (a b : ℕ) (log : List Logged) → a ≤ b → length (openings (take a log)) ≤ length (openings (take b log))
fewer_openings a b log h =
    let joined = openings_joined (take a log) (drop a (take b log)) in
    let counted : length (openings (take b log)) ≡ length (openings (take a log)) + length joined.0 =
    ap (λ (xs : List Logged). length (openings xs)) (part_of_part a b log h) ∙ ap length joined.1 ∙ length-append (openings (take a log)) joined.0 in
    omega arith

-- ---- fronts

pub numbers_rise : (log : List Logged) (m n : ℕ) (o p : Opening) → slice_get (openings log) m ≡ Some o → slice_get (openings log) n ≡ Some p → m < n
    → o.number < p.number
numbers_rise log m n o p a b below = go (cases_order o.number p.number)
  where
    go : (o.number ≡ p.number) ⊎ ((o.number < p.number) ⊎ (p.number < o.number)) → o.number < p.number
    go (inl both) =
        let first : length (openings (take o.number log)) ≡ m = (opening_is log m o a).before in
        let second : length (openings (take p.number log)) ≡ n = (opening_is log n p b).before in
        let few : length (openings (take p.number log)) ≤ length (openings (take o.number log)) = fewer_openings p.number o.number log (omega arith) in
        absurd (omega arith)
    go (inr (inl before)) = before
    go (inr (inr after)) =
        let first : length (openings (take o.number log)) ≡ m = (opening_is log m o a).before in
        let second : length (openings (take p.number log)) ≡ n = (opening_is log n p b).before in
        let few : length (openings (take p.number log)) ≤ length (openings (take o.number log)) = fewer_openings p.number o.number log (omega arith) in
        absurd (omega arith)

-- of two openings the later one's front is at least the earlier one's
pub fronts_rise : (i : Image) (w : World) (m n : ℕ) (o p : Opening) → IsLegal i w → slice_get (openings (log_of w 0)) m ≡ Some o
    → slice_get (openings (log_of w 0)) n ≡ Some p → m ≤ n → o.start.front ≤ p.start.front
fronts_rise i w m n o p legal a b within = go (cases_order m n)
  where
    go : (m ≡ n) ⊎ ((m < n) ⊎ (n < m)) → o.start.front ≤ p.start.front
    go (inl both) =
        let same : o.start.front ≡ p.start.front =
        ap (λ (x : Opening). x.start.front) (same_Some o p (sym a ∙ ap (slice_get (openings (log_of w 0))) both ∙ b)) in
        omega arith
    go (inr (inl before)) =
        let first : o.start.front ≡ synced i.shape (take o.number (log_of w 0)) = (nth_opening i w m o legal a).may.front in
        let second : p.start.front ≡ synced i.shape (take p.number (log_of w 0)) = (nth_opening i w n p legal b).may.front in
        let order : o.number < p.number = numbers_rise (log_of w 0) m n o p a b before in
        let grown : synced i.shape (take o.number (log_of w 0)) ≤ synced i.shape (take p.number (log_of w 0)) =
        synced_by_length i.shape o.number p.number (log_of w 0) (omega arith) in
        omega arith
    go (inr (inr after)) = absurd (omega arith)

-- a front is at most the front synced
pub front_synced : (i : Image) (w : World) (n : ℕ) (o : Opening) → IsLegal i w → slice_get (openings (log_of w 0)) n ≡ Some o
    → o.start.front ≤ synced i.shape (log_of w 0)
front_synced i w n o legal at =
    let front : o.start.front ≡ synced i.shape (take o.number (log_of w 0)) = (nth_opening i w n o legal at).may.front in
    let grown : synced i.shape (take o.number (log_of w 0)) ≤ synced i.shape (log_of w 0) = synced_by_now i.shape o.number (log_of w 0) in
    omega arith

-- an opening isn't the first event
pub opened_later : (i : Image) (w : World) (n : ℕ) (o : Opening) → IsLegal i w → slice_get (openings (log_of w 0)) n ≡ Some o → 0 < o.number
opened_later i w n o legal at =
    let is : IsOpening (log_of w 0) n o = opening_is (log_of w 0) n o at in
    let turn : (g : Begun) × (begun (take o.number (log_of w 0)) ≡ Some g) =
    subst (λ (e : Event). IsInTurn (take o.number (log_of w 0)) e) is.event (turn_of i w o.number is.logged legal is.there) in
    begun_knows o.number (log_of w 0) turn.0 turn.1

-- and at least the mount's first position
pub front_from_first : (i : Image) (w : World) (n : ℕ) (o : Opening) → IsLegal i w → slice_get (openings (log_of w 0)) n ≡ Some o
    → first_position (log_of w 0) ≤ o.start.front
front_from_first i w n o legal at =
    let later : 0 < o.number = opened_later i w n o legal at in
    let front : o.start.front ≡ synced i.shape (take o.number (log_of w 0)) = (nth_opening i w n o legal at).may.front in
    let from : first_position (take o.number (log_of w 0)) ≤ synced i.shape (take o.number (log_of w 0)) = synced_from i.shape (take o.number (log_of w 0)) in
    let first : first_position (take o.number (log_of w 0)) ≡ first_position (log_of w 0) =
    ap (λ e. option_map_or (λ (b : Begun). b.beginning.first) e 0) (begun_taken o.number (log_of w 0) later) in
    omega arith
