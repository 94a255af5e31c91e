-- How many stripes of each unit were answered, as the log goes on.
use Rattle.std.proofs.Common.{◌≡◌, ℕ, ◌+◌, ◌-◌, ◌^◌, ◌<◌, ◌++◌, zero, suc, Some, List, [], ◌∷◌, length, sym, ap, ◌∙◌, arith, length-append}
use Rattle.std.specs.Prelude.{map, min, replicate, slice_get, slice_index_or, slice_set}
use Rattle.std.specs.List.{range_with_len}
use Rattle.pblk_model.specs.declared.shape.Shape.{Shape}
use Rattle.pblk_model.specs.Shape.{units}
use Rattle.pblk_world.specs.EngineLog.{Answer, answers}
use Rattle.pblk_world.specs.Events.{Logged, Stripe}
use Rattle.pblk_model.specs.Image.{Image}
use Rattle.pblk_world.specs.World.{Logs}
use Rattle.core_laws.specs.Stepping.{after}
use Rattle.core_laws.proofs.Answered.{IsAnswer}
use Rattle.core_laws.proofs.NotedAnswers.{answer_is, noting}
use Rattle.core_laws.proofs.Placing.{with_place, answers_now}
use Rattle.core_laws.proofs.Steady.{AreAlike}
use Rattle.pblk_core.specs.Stands.{Stands, answer_count, answer_counts}
use Rattle.pblk_core.specs.declared.target_core.Core.{Core}
use Rattle.std.proofs.lemmas.Option.{none-some, same_Some}
use Rattle.core_laws.proofs.PlacedLines.{get_row}
use Rattle.pblk_model.proofs.Maps.{length_mapped, map_constant, map_same, rows_set}

-- by the answers of a log
abbrev counted : (ℕ → List Answer) → Shape → List ℕ
counted told s = map (λ unit. min (length (told unit)) (2 ^ 64 - 1)) (range_with_len 0 (units s))

pub counts_same : (s : Shape) (old new : List Logged) → AreAlike old new → answer_counts s old ≡ answer_counts s new
counts_same s old new alike = ap (λ told. counted told s) (sym alike.answers)

pub counts_placed : (s : Shape) (log : List Logged) (stripe : Stripe) (knows : List ℕ)
    → answer_counts s log ≡ answer_counts s (with_place log stripe knows)
counts_placed s log stripe knows = map_same (answer_count log) (answer_count (with_place log stripe knows))
    (λ unit. ap (λ (told : List Answer). min (length told) (2 ^ 64 - 1)) (sym (answers_now log stripe knows unit))) (range_with_len 0 (units s))

pub count_at : (s : Shape) (log : List Logged) (unit : ℕ) → unit < units s → slice_get (answer_counts s log) unit ≡ Some (answer_count log unit)
count_at s log unit inside =
    let from : 0 + unit ≡ unit = omega arith in
    get_row (answer_count log) (units s) 0 unit inside ∙ ap (λ n. Some (answer_count log n)) from

one_more : (told : List Answer) (a : Answer) → min (length (told ++ a ∷ [])) (2 ^ 64 - 1) ≡ min (min (length told) (2 ^ 64 - 1) + 1) (2 ^ 64 - 1)
one_more told a = ap (λ n. min n (2 ^ 64 - 1)) (length-append told (a ∷ [])) ∙ at_most (length told)
  where
    at_most : (n : ℕ) → min (n + 1) (2 ^ 64 - 1) ≡ min (min n (2 ^ 64 - 1) + 1) (2 ^ 64 - 1)
    at_most n = omega arith

-- a stripe of a unit was answered
counts_answered : (s : Shape) (log new : List Logged) (unit : ℕ) (a : Answer) → unit < units s → IsAnswer log new unit a
    → slice_set (answer_counts s log) unit (min (answer_count log unit + 1) (2 ^ 64 - 1)) ≡ answer_counts s new
counts_answered s log new unit a inside is =
    let from : 0 + unit ≡ unit = omega arith in
    sym (rows_set (answer_count log) (answer_count new) (units s) 0 unit (min (answer_count log unit + 1) (2 ^ 64 - 1)) inside
    (ap (answer_count new) from ∙ ap (λ (told : List Answer). min (length told) (2 ^ 64 - 1)) is.here ∙ one_more (answers log unit) a)
    (λ other apart. ap (λ (told : List Answer). min (length told) (2 ^ 64 - 1)) (is.elsewhere other (λ e. apart (e ∙ sym from)))))

pub counts_noted : (s : Shape) (logs : Logs) (unit : ℕ) (a : Answer) (knows : List ℕ) → unit < units s
    → slice_set (answer_counts s (logs 0)) unit (min (answer_count (logs 0) unit + 1) (2 ^ 64 - 1))
    ≡ answer_counts s (after logs (noting unit a) knows 0)
counts_noted s logs unit a knows inside =
    counts_answered s (logs 0) (after logs (noting unit a) knows 0) unit a inside (answer_is (logs 0) unit knows a)

pub counts_none : (s : Shape) (log : List Logged) → ((unit : ℕ) → answers log unit ≡ []) → answer_counts s log ≡ replicate (units s) 0
counts_none s log none = map_constant (answer_count log) 0 0 (units s)
    (λ unit. ap (λ (told : List Answer). min (length told) (2 ^ 64 - 1)) (none unit))

-- what a core says of a unit
pub counts_length : (i : Image) (logs : Logs) (c : Core) → Stands i logs c → length c.answers.items ≡ units i.shape
counts_length i logs c st = ap (λ (ns : List ℕ). length ns) st.answers ∙ length_mapped (answer_count (logs 0)) 0 (units i.shape)

read_count : (ns : List ℕ) (k n m : ℕ) → slice_get ns k ≡ Some m → n ≡ slice_index_or ns k n → n ≡ m
read_count [] k n m there is = absurd (none-some m there)
read_count (x ∷ ns) zero n m there is = is ∙ same_Some x m there
read_count (x ∷ ns) (suc k) n m there is = read_count ns k n m there is

pub count_told : (i : Image) (logs : Logs) (c : Core) (unit n : ℕ) → Stands i logs c → unit < units i.shape
    → n ≡ slice_index_or c.answers.items unit n → n ≡ answer_count (logs 0) unit
count_told i logs c unit n st inside is = read_count c.answers.items unit n (answer_count (logs 0) unit)
    (ap (λ (ns : List ℕ). slice_get ns unit) st.answers ∙ count_at i.shape (logs 0) unit inside) is
