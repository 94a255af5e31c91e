-- Numbers of events of a kind in a log, and how those that are told by the logs alone change by an
-- event.
use Rattle.std.proofs.Common.{◌≡◌, ℕ, ◌+◌, ◌<◌, ◌≤◌, suc, Bool, true, false, Some, List, [], ◌∷◌, ◌++◌, length, length-append, take, drop, refl, sym, ap, ap₂, ◌∙◌, arith, if◌then◌else◌}
use Rattle.std.specs.Prelude.{slice_get, sum_by}
use Rattle.std.specs.List.{filter, range_with_len}
use Rattle.std.proofs.lemmas.List.{take-take}
use Rattle.pblk_model.specs.Image.{Image}
use Rattle.pblk_model.specs.Shape.{units}
use Rattle.pblk_model.proofs.Maps.{filter_both}
use Rattle.pblk_model.proofs.Parts.{take_and_drop, take_next}
use Rattle.pblk_world.specs.EngineLog.{life_of}
use Rattle.pblk_world.specs.Events.{Decides, Free, Logged}
use Rattle.pblk_world.specs.LegalMounts.{decides, is_freeing}
use Rattle.pblk_world.specs.Lines.{is_given_up}
use Rattle.pblk_world.specs.World.{Logs}
use Rattle.world_laws.specs.SameTold.{AreSameTold}
use Rattle.world_laws.proofs.ToldImages.{image_same}
use Rattle.rest_laws.specs.RoomSteps.{is_used_at, stripes_left, stripes_left_in, unreset_chunks}

-- ---- events of a kind

abbrev pub one_if : Bool → ℕ
one_if b = if b then 1 else 0

-- an event more
pub count_next : (test : Logged → Bool) (log : List Logged) (n : ℕ) (l : Logged) → slice_get log n ≡ Some l
    → length (filter test (take (suc n) log)) ≡ length (filter test (take n log)) + one_if (test l)
count_next test log n l there =
    ap (λ (xs : List Logged). length (filter test xs)) (take_next log n l there)
    ∙ ap (λ (xs : List Logged). length xs) (filter_both test (take n log) (l ∷ []))
    ∙ length-append (filter test (take n log)) (filter test (l ∷ []))
    ∙ ap (λ k. length (filter test (take n log)) + k) (last (test l) refl)
  where
    last : (b : Bool) → test l ≡ b → length (filter test (l ∷ [])) ≡ one_if b
    last true e = ap (λ b. length (if b then l ∷ [] else [])) e
    last false e = ap (λ b. length (if b then l ∷ [] else [])) e

-- how many lines were freed
abbrev pub frees : List Logged → ℕ
frees log = length (filter (λ l. decides is_freeing l.event) log)

frees_rise : (log : List Logged) (a b : ℕ) → a ≤ b → frees (take a log) ≤ frees (take b log)
frees_rise log a b below =
    let parts : take a log ++ rest ≡ take b log =
    ap (λ (xs : List Logged). xs ++ rest) (sym (take-take a b log below)) ∙ take_and_drop a (take b log) in
    let count : frees (take b log) ≡ frees (take a log) + frees rest =
    ap (λ (xs : List Logged). frees xs) (sym parts) ∙ ap (λ (xs : List Logged). length xs) (filter_both (λ l. decides is_freeing l.event) (take a log) rest)
    ∙ length-append (filter (λ (l : Logged). decides is_freeing l.event) (take a log)) (filter (λ (l : Logged). decides is_freeing l.event) rest) in
    omega arith
  where
    rest : List Logged
    rest = drop a (take b log)

-- where none was freed since, no event frees one
pub none_freed : (log : List Logged) (a k b : ℕ) (l : Logged) (line : ℕ) → frees (take a log) ≡ frees (take b log) → a ≤ k → k < b
    → slice_get log k ≡ Some l → l.event ≡ Decides (Free line) → ⊥
none_freed log a k b l line same low high there its =
    let one : frees (take (suc k) log) ≡ frees (take k log) + 1 =
    count_next (λ m. decides is_freeing m.event) log k l there ∙ ap (λ e. frees (take k log) + one_if (decides is_freeing e)) its in
    let before : frees (take a log) ≤ frees (take k log) = frees_rise log a k low in
    let after : frees (take (suc k) log) ≤ frees (take b log) = frees_rise log (suc k) b (omega arith) in
    omega arith

-- ---- by the logs alone

pub stripes_told : (i : Image) (a b : Logs) → AreSameTold i a b → stripes_left i b ≡ stripes_left i a
stripes_told i a b h =
    ap (λ (log : List Logged). sum_by (λ line. stripes_left_in i.shape log (life_of log line)) (range_with_len 0 i.shape.chunks)) h.own

pub chunks_told : (i : Image) (a b : Logs) → AreSameTold i a b → unreset_chunks i b ≡ unreset_chunks i a
chunks_told i a b h =
    ap₂ (λ (log : List Logged) (j : Image). sum_by (λ line. if is_given_up log line
    then length (filter (is_used_at j line) (range_with_len 0 (units i.shape))) else 0) (range_with_len 0 i.shape.chunks))
    h.own (image_same i a b h)
