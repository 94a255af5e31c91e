-- The units of the lines that a mount opened, as they are known: those of each opened line stay as
-- they were when it was opened.
use Rattle.std.proofs.Common.{◌≡◌, ℕ, ◌<◌, ◌≤◌, Some, List, length, length-take, take, sym, ap, ◌∙◌, arith}
use Rattle.std.specs.Prelude.{slice_get}
use Rattle.std.specs.List.{AllByRecursion, enumerate_from}
use Rattle.std.proofs.lemmas.Option.{same_Some, none-some}
use Rattle.pblk_model.specs.Image.{Image, line_units}
use Rattle.pblk_world.specs.Events.{Event, Decides, Place, Logged}
use Rattle.pblk_world.specs.World.{World, Logs, log_of}
use Rattle.pblk_world.specs.EngineLog.{Opening, Opened, life_of, Placed, placed_by, placements}
use Rattle.pblk_world.specs.Victims.{engine_prefix}
use Rattle.pblk_world.specs.Lines.{known_image}
use Rattle.core_laws.specs.OpenedLines.{as_opened, bits_of}
use Rattle.core_laws.proofs.Opening.{all_made}
use Rattle.core_laws.proofs.PlacedLines.{life_is_before as opened_before}
use Rattle.core_laws.proofs.OpenedTurns.{prefix_prefix as prefix_twice}
use Rattle.pblk_model.proofs.Parts.{all_at}

-- the units of each line, as they are known
abbrev pub now_units : Image → World → ℕ → List ℕ
now_units i w = line_units (known_image i (log_of w))

-- ---- a stripe is placed behind the opening of its line

then_by : (log : List Logged) (number : ℕ) (e : Event) (p : Placed) → placed_by log number e ≡ Some p → p.life ≡ life_of (take p.number log) p.stripe.line
then_by log number (Decides (Place stripe)) p h =
    let q : Placed = record { number = number; stripe = stripe; life = life_of (take number log) stripe.line } in
    let same : q ≡ p = same_Some q p h in
    ap (λ (x : Placed). x.life) (sym same) ∙ ap (λ (x : Placed). life_of (take x.number log) x.stripe.line) same
then_by log number e p h = absurd (none-some p h)

placed_then : (log : List Logged) → AllByRecursion (λ (p : Placed). p.life ≡ life_of (take p.number log) p.stripe.line) (placements log)
placed_then log = all_made (λ (e : ℕ × Logged). placed_by log e.0 e.1.event) (λ (p : Placed). p.life ≡ life_of (take p.number log) p.stripe.line)
    (λ e p h. then_by log e.0 e.1.event p h) (enumerate_from 0 log)

pub opened_earlier : (log : List Logged) (k : ℕ) (p : Placed) (o : Opening) → slice_get (placements log) k ≡ Some p → p.life ≡ Opened o → o.number ≤ p.number
opened_earlier log k p o there life =
    let then_ : p.life ≡ life_of (take p.number log) p.stripe.line =
    all_at (λ (q : Placed). q.life ≡ life_of (take q.number log) q.stripe.line) (placements log) k p there (placed_then log) in
    let before : o.number < length (take p.number log) = opened_before (take p.number log) p.stripe.line o (sym then_ ∙ life) in
    let short : length (take p.number log) ≤ p.number = omega (arith, length-take p.number log) in
    omega arith

-- ---- the line as it was opened, by a later prefix

pub same_live : (i : Image) (logs : Logs) (o : Opening) (n : ℕ) → o.number ≤ n → (as_opened i (engine_prefix n logs) o).online ≡ (as_opened i logs o).online
same_live i logs o n within = ap (λ (ls : Logs). bits_of (line_units (known_image i ls) o.line)) (prefix_twice logs o.number n within)
