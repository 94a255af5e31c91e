-- The n-th entry taken has the n-th position from the first on.
use Rattle.std.proofs.Common.{◌≡◌, ◌⊎◌, inl, inr, ℕ, ◌+◌, ◌<◌, Some, None, List, [], ◌∷◌, ◌++◌, length, refl, sym, ap, ◌∙◌, arith, append-nil}
use Rattle.std.specs.Prelude.{slice_get}
use Rattle.std.specs.Option.{option_map_or, option_to_list}
use Rattle.std.proofs.lemmas.Option.{none-some, slice_get_within}
use Rattle.pblk_model.specs.Image.{Image}
use Rattle.pblk_world.specs.Events.{Take, Event, Decides, Logged}
use Rattle.pblk_world.specs.World.{World, Logs, log_of}
use Rattle.pblk_world.specs.EngineLog.{Begun, begun, Taken, takes, taken_by}
use Rattle.pblk_world.specs.Fronts.{first_position, taken}
use Rattle.pblk_world.specs.Legal.{IsLegal, IsAllowed}
use Rattle.pblk_world.proofs.EngineLogLemmas.{takes_more}
use Rattle.pblk_world.proofs.Growing.{at_end}
use Rattle.world_laws.proofs.Beginnings.{begun_by_then}
use Rattle.world_laws.proofs.Engine.{Keeps, logged_as, of_engine}
use Rattle.world_laws.proofs.Fronts.{begun_later}

AreInOrder : List Logged → Type 0
AreInOrder log = (n : ℕ) (t : Taken) → slice_get (takes log) n ≡ Some t → t.entry.position ≡ first_position log + n

-- a log that has begun has its first position for good
pub first_same : (log more : List Logged) (g : Begun) → begun log ≡ Some g → first_position (log ++ more) ≡ first_position log
first_same log more g e =
    ap (λ o. option_map_or (λ (b : Begun). b.beginning.first) o 0) (begun_later log more g e ∙ sym e)

none_taken : (log : List Logged) (l : Logged) (g : Begun) → begun log ≡ Some g → taken_by l.event ≡ None → AreInOrder log → AreInOrder (log ++ l ∷ [])
unfolding AreInOrder
none_taken log l g begins none h n t there =
    let same : takes (log ++ l ∷ []) ≡ takes log = takes_more log l ∙ ap (λ o. takes log ++ option_to_list o) none ∙ append-nil (takes log) in
    h n t (ap (λ ts. slice_get ts n) (sym same) ∙ there) ∙ ap (λ p. p + n) (sym (first_same log (l ∷ []) g begins))

one_taken : (log : List Logged) (l : Logged) (g : Begun) (u : Taken) → begun log ≡ Some g → taken_by l.event ≡ Some u → u.entry.position ≡ taken log
    → AreInOrder log → AreInOrder (log ++ l ∷ [])
unfolding AreInOrder
one_taken log l g u begins one at h n t there =
    go (at_end (takes log) u t n (ap (λ ts. slice_get ts n) (sym (takes_more log l ∙ ap (λ o. takes log ++ option_to_list o) one)) ∙ there))
    ∙ ap (λ p. p + n) (sym (first_same log (l ∷ []) g begins))
  where
    go : (slice_get (takes log) n ≡ Some t) ⊎ ((n ≡ length (takes log)) × (u ≡ t)) → t.entry.position ≡ first_position log + n
    go (inl old) = h n t old
    go (inr new) = ap (λ (x : Taken). x.entry.position) (sym new.1) ∙ at ∙ ap (λ m. first_position log + m) (sym new.0)

begins_empty : (log : List Logged) (l : Logged) → log ≡ [] → taken_by l.event ≡ None → AreInOrder (log ++ l ∷ [])
unfolding AreInOrder
begins_empty log l empty none n t there =
    absurd (none-some t (sym (ap (λ ts. slice_get ts n) (takes_more log l ∙ ap (λ o. takes log ++ option_to_list o) none
    ∙ append-nil (takes log) ∙ ap takes empty)) ∙ there))

not_taking : (i : Image) (logs : Logs) (e : Event) (knows : List ℕ) → IsAllowed i 0 e logs → taken_by e ≡ None → AreInOrder (logs 0)
    → AreInOrder (logs 0 ++ logged_as e knows ∷ [])
not_taking i logs e knows may none h = go (begun_by_then i logs e may)
  where
    go : (logs 0 ≡ []) ⊎ ((g : Begun) × (begun (logs 0) ≡ Some g)) → AreInOrder (logs 0 ++ logged_as e knows ∷ [])
    go (inl empty) = begins_empty (logs 0) (logged_as e knows) empty none
    go (inr begins) = none_taken (logs 0) (logged_as e knows) begins.0 begins.1 none h

keeps_order : (i : Image) → Keeps i AreInOrder
keeps_order i logs (Decides (Take entry mark)) knows may h =
    one_taken (logs 0) (logged_as (Decides (Take entry mark)) knows) may.0 (record { entry = entry; mark = mark }) may.1 refl may.2.position h
keeps_order i logs e knows may h = not_taking i logs e knows may refl h

pub position_of : (i : Image) (w : World) (n : ℕ) (t : Taken) → IsLegal i w → slice_get (takes (log_of w 0)) n ≡ Some t
    → t.entry.position ≡ first_position (log_of w 0) + n
unfolding AreInOrder
position_of i w n t legal there = of_engine i AreInOrder (λ n t there. absurd (none-some t there)) (keeps_order i) w legal n t there

pub position_below : (i : Image) (w : World) (n : ℕ) (t : Taken) → IsLegal i w → slice_get (takes (log_of w 0)) n ≡ Some t
    → t.entry.position < taken (log_of w 0)
position_below i w n t legal there =
    let at : t.entry.position ≡ first_position (log_of w 0) + n = position_of i w n t legal there in
    let within : n < length (takes (log_of w 0)) = slice_get_within (takes (log_of w 0)) n t there in
    omega arith
