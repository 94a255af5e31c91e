-- The lines that have a stripe left, by their openings.
use Rattle.std.proofs.Common.{◌≡◌, ℕ, ◌/◌, ◌<◌, nat_eq, Bool, true, false, cond, Some, Option, List, [], ◌∷◌, ◌++◌, length, refl, sym, subst, ap, ap₂, ◌∙◌}
use Rattle.std.specs.Prelude.{slice_get, map, if◌then◌else◌}
use Rattle.std.specs.List.{AllByRecursion, filter, filter_map, cons_option}
use Rattle.std.proofs.lemmas.Bool.{eqb-true}
use Rattle.std.proofs.lemmas.List.Elements.{filter_map-append}
use Rattle.std.proofs.lemmas.Option.{same_Some}
use Rattle.pblk_model.specs.Image.{Image}
use Rattle.pblk_model.specs.StartRecord.{StartRecord}
use Rattle.pblk_world.specs.Events.{Stripe, Open, Place, Landed, Lost, Decides, Logged}
use Rattle.pblk_world.specs.World.{Logs}
use Rattle.pblk_world.specs.EngineLog.{Opened, is_opened, life_of, Opening}
use Rattle.pblk_world.proofs.Appending.{life_more}
use Rattle.stripe_placer.specs.OpenLines as outcomes
use Rattle.stripe_placer.proofs.Agreeing.{in_line_keeps}
use Rattle.stripe_placer.specs.OpenLines.{OpenLine, opened, has_left, in_line}
use Rattle.stripe_placer.specs.OpenLines.Stripe.{Unanswered, Landed as HasLanded, Lost as WasIt}
use Rattle.stripe_placer.specs.Placing.{Program, Placing}
use Rattle.core_laws.specs.Stepping.{after}
use Rattle.core_laws.specs.OpenedLines.{open_line, standing, open_lines, online_now}
use Rattle.core_laws.specs.PlacerOf.{IsStripeOf, IsAwaited}
use Rattle.core_laws.proofs.Steady.{standing_before}
use Rattle.core_laws.proofs.Placing.{IsPlacing}
use Rattle.core_laws.proofs.PlacedLines.{IsPlacedAt, placed_at, lines_placed}
use Rattle.core_laws.proofs.Opening.{placing_opened}
use Rattle.core_laws.proofs.Landing.{placing_landed, placing_lost}
use Rattle.core_laws.specs.LeftOpenings.{left_openings, opened_as}
use Rattle.core_laws.proofs.StandingOpenings.{standing_opened, standing_rise, rise_filtered, one_place}
use Rattle.pblk_model.proofs.Lists.{all_imply}
use Rattle.pblk_model.proofs.Maps.{all_filter, all_mapped}
use Rattle.pblk_model.proofs.Parts.{all_at}
use Rattle.pblk_model.proofs.Tests.{same_number}

filter_mapped : {X Y : Type 0} (f : Y → Bool) (g : X → Y) (xs : List X) → filter f (map g xs) ≡ map g (filter (λ x. f (g x)) xs)
filter_mapped f g [] = refl
filter_mapped {X} {Y} f g (x ∷ xs) = go (f (g x)) (filter_mapped f g xs)
  where
    go : (b : Bool) → filter f (map g xs) ≡ map g (filter (λ x. f (g x)) xs)
        → cond b (g x ∷ filter f (map g xs)) (filter f (map g xs)) ≡ map g (cond b (x ∷ filter (λ x. f (g x)) xs) (filter (λ x. f (g x)) xs))
    go true rest = ap (λ ys. g x ∷ ys) rest
    go false rest = rest

pub lines_of_left : (i : Image) (logs : Logs) → open_lines i logs ≡ map (open_line i logs) (left_openings i logs)
lines_of_left i logs = filter_mapped has_left (open_line i logs) (standing (logs 0))

pub left_opened : (i : Image) (logs : Logs) → AllByRecursion (λ (o : Opening). life_of (logs 0) o.line ≡ Opened o) (left_openings i logs)
left_opened i logs = all_filter (λ (o : Opening). life_of (logs 0) o.line ≡ Opened o) (λ o. has_left (open_line i logs o)) (standing (logs 0))
    (standing_opened (logs 0))

pub left_apart : (i : Image) (logs : Logs) (j k : ℕ) (a b : Opening) → slice_get (left_openings i logs) j ≡ Some a → slice_get (left_openings i logs) k ≡ Some b
    → a.line ≡ b.line → j ≡ k
left_apart i logs j k a b e f same =
    let one : life_of (logs 0) a.line ≡ Opened a =
    all_at (λ (o : Opening). life_of (logs 0) o.line ≡ Opened o) (left_openings i logs) j a e (left_opened i logs) in
    let two : life_of (logs 0) b.line ≡ Opened b =
    all_at (λ (o : Opening). life_of (logs 0) o.line ≡ Opened o) (left_openings i logs) k b f (left_opened i logs) in
    let is : opened_as (Opened a) ≡ opened_as (Opened b) = ap opened_as (sym one ∙ ap (life_of (logs 0)) same ∙ two) in
    one_place (left_openings i logs) j k a b (rise_filtered (λ o. has_left (open_line i logs o)) (standing (logs 0)) (standing_rise (logs 0))) e f
    (ap (λ (x : Opening). x.number) (same_Some a b is))

pub left_before : (i : Image) (logs : Logs) (k : ℕ) (o : Opening) → slice_get (left_openings i logs) k ≡ Some o → o.number < length (logs 0)
left_before i logs k o e = all_at (λ (x : Opening). x.number < length (logs 0)) (left_openings i logs) k o e
    (all_filter (λ (x : Opening). x.number < length (logs 0)) (λ x. has_left (open_line i logs x)) (standing (logs 0)) (standing_before (logs 0)))

-- ---- the openings by the lines

back : {X Y : Type 0} (g : X → Y) (h : Y → Option X) (xs : List X) → AllByRecursion (λ x. h (g x) ≡ Some x) xs → filter_map h (map g xs) ≡ xs
back g h [] all = refl
back g h (x ∷ xs) all = ap₂ (λ o ys. cons_option o ys) all.0 (back g h xs all.1)

left_by_lines : (i : Image) (logs : Logs) → filter_map (λ (l : OpenLine). opened_as (life_of (logs 0) l.line)) (open_lines i logs) ≡ left_openings i logs
left_by_lines i logs =
    ap (filter_map (λ (l : OpenLine). opened_as (life_of (logs 0) l.line))) (lines_of_left i logs)
    ∙ back (open_line i logs) (λ (l : OpenLine). opened_as (life_of (logs 0) l.line)) (left_openings i logs)
    (all_imply (λ (o : Opening). life_of (logs 0) o.line ≡ Opened o) (λ (o : Opening). opened_as (life_of (logs 0) (open_line i logs o).line) ≡ Some o)
    (λ o is. ap opened_as is) (left_openings i logs) (left_opened i logs))

-- where the lines' numbers and lives stay, so do the openings
made_same : (log new : List Logged) (ls : List OpenLine) → ((line : ℕ) → life_of new line ≡ life_of log line)
    → filter_map (λ (l : OpenLine). opened_as (life_of new l.line)) ls ≡ filter_map (λ (l : OpenLine). opened_as (life_of log l.line)) ls
made_same log new [] same = refl
made_same log new (l ∷ ls) same = ap₂ (λ o ys. cons_option o ys) (ap opened_as (same l.line)) (made_same log new ls same)

made_in_line : (log : List Logged) (line j : ℕ) (to : outcomes.Stripe) (ls : List OpenLine)
    → filter_map (λ (l : OpenLine). opened_as (life_of log l.line)) (map (in_line line j to) ls) ≡ filter_map
    (λ (l : OpenLine). opened_as (life_of log l.line)) ls
made_in_line log line j to [] = refl
made_in_line log line j to (l ∷ ls) =
    ap₂ (λ o ys. cons_option o ys) (ap (λ n. opened_as (life_of log n)) (in_line_keeps l line j to).0) (made_in_line log line j to ls)

left_same : (i : Image) (logs new : Logs) → ((line : ℕ) → life_of (new 0) line ≡ life_of (logs 0) line) → open_lines i new ≡ open_lines i logs
    → left_openings i new ≡ left_openings i logs
left_same i logs new life same =
    sym (left_by_lines i new) ∙ made_same (logs 0) (new 0) (open_lines i new) life
    ∙ ap (filter_map (λ (l : OpenLine). opened_as (life_of (logs 0) l.line))) same ∙ left_by_lines i logs

pub left_placed : (i : Image) (logs : Logs) (knows : List ℕ) (pad : ℕ) (o : Opening) (stripe : Stripe) (of : Program) → 0 < i.shape.ws_opt
    → IsStripeOf i logs pad o stripe of
    → left_openings i (after logs (Place stripe) knows) ≡ left_openings i logs
left_placed i logs knows pad o stripe of some is =
    let at : (j : ℕ) × IsPlacedAt i logs o stripe of j = placed_at i logs pad o stripe of some is in
    let placing : IsPlacing (logs 0) stripe o = record { opened = is.opened; idle = is.idle } in
    let new : Logs = after logs (Place stripe) knows in
    let l : Logged = record { event = Decides (Place stripe); knows = knows } in
    sym (left_by_lines i new) ∙ made_same (logs 0) (new 0) (open_lines i new) (λ line. life_more (logs 0) l line)
    ∙ ap (filter_map (λ (l : OpenLine). opened_as (life_of (logs 0) l.line))) (lines_placed i logs knows o stripe of at.0 some placing at.1)
    ∙ made_in_line (logs 0) of.line (of.at / i.shape.ws_opt) Unanswered (open_lines i logs)
    ∙ left_by_lines i logs

-- ---- a line that is opened

life_elsewhere : (log : List Logged) (line : ℕ) (start : StartRecord) (knows : List ℕ) (other : ℕ) → is_opened (life_of log line) ≡ false
    → is_opened (life_of log other) ≡ true
    → life_of (log ++ record { event = Decides (Open line start); knows = knows } ∷ []) other ≡ life_of log other
life_elsewhere log line start knows other closed there = life_more log (record { event = Decides (Open line start); knows = knows }) other
    ∙ go (nat_eq line other) refl
  where
    go : (b : Bool) → nat_eq line other ≡ b
        → (if b then Opened (record { number = length log; line = other; start = start; knows = knows }) else life_of log other) ≡ life_of log other
    go true e = let same : is_opened (life_of log line) ≡ is_opened (life_of log other) =
        ap (λ n. is_opened (life_of log n)) (eqb-true line other e) in absurd cc
    go false e = refl

made_agree : (log new : List Logged) (ls : List OpenLine) → AllByRecursion (λ (l : OpenLine). life_of new l.line ≡ life_of log l.line) ls
    → filter_map (λ (l : OpenLine). opened_as (life_of new l.line)) ls ≡ filter_map (λ (l : OpenLine). opened_as (life_of log l.line)) ls
made_agree log new [] same = refl
made_agree log new (l ∷ ls) same = ap₂ (λ o ys. cons_option o ys) (ap opened_as same.0) (made_agree log new ls same.1)

pub left_more : (i : Image) (logs : Logs) (line : ℕ) (start : StartRecord) (knows : List ℕ) → is_opened (life_of (logs 0) line) ≡ false
    → 0 < length (opened i.shape line (online_now i logs line)).stripes
    → left_openings i (after logs (Open line start) knows) ≡ left_openings i logs
    ++ record { number = length (logs 0); line = line; start = start; knows = knows } ∷ []
left_more i logs line start knows closed some =
    let new : Logs = after logs (Open line start) knows in
    let l : Logged = record { event = Decides (Open line start); knows = knows } in
    let o : Opening = record { number = length (logs 0); line = line; start = start; knows = knows } in
    let now : life_of (new 0) line ≡ Opened o = life_more (logs 0) l line ∙ ap (λ b. if b then Opened o else life_of (logs 0) line) (same_number line) in
    let lives : AllByRecursion (λ (l : OpenLine). life_of (new 0) l.line ≡ life_of (logs 0) l.line) (open_lines i logs) =
    subst (AllByRecursion (λ (l : OpenLine). life_of (new 0) l.line ≡ life_of (logs 0) l.line)) (sym (lines_of_left i logs))
    (all_mapped (λ (l : OpenLine). life_of (new 0) l.line ≡ life_of (logs 0) l.line) (open_line i logs) (left_openings i logs)
    (all_imply (λ (o : Opening). life_of (logs 0) o.line ≡ Opened o)
    (λ (o : Opening). life_of (new 0) (open_line i logs o).line ≡ life_of (logs 0) (open_line i logs o).line)
    (λ other is. life_elsewhere (logs 0) line start knows other.line closed (ap is_opened is)) (left_openings i logs) (left_opened i logs))) in
    sym (left_by_lines i new)
    ∙ ap (filter_map (λ (l : OpenLine). opened_as (life_of (new 0) l.line)))
    (ap (λ (p : Placing). p.lines) (placing_opened i logs line start knows 0 [] closed some))
    ∙ filter_map-append (λ (l : OpenLine). opened_as (life_of (new 0) l.line)) (open_lines i logs) (opened i.shape line (online_now i logs line) ∷ [])
    ∙ ap₂ (λ (xs ys : List Opening). xs ++ ys) (made_agree (logs 0) (new 0) (open_lines i logs) lives ∙ left_by_lines i logs)
    (ap (λ life. cons_option (opened_as life) []) now)

-- ---- a stripe that has landed

made_filtered : (log : List Logged) (i : Image) (logs : Logs) (g : OpenLine → OpenLine) (os : List Opening) → ((l : OpenLine) → (g l).line ≡ l.line)
    → AllByRecursion (λ (o : Opening). life_of log o.line ≡ Opened o) os
    → filter_map (λ (l : OpenLine). opened_as (life_of log l.line)) (filter has_left (map g (map (open_line i logs) os))) ≡ filter
    (λ o. has_left (g (open_line i logs o))) os
made_filtered log i logs g [] keeps all = refl
made_filtered log i logs g (o ∷ os) keeps all = go (has_left (g (open_line i logs o))) (made_filtered log i logs g os keeps all.1)
  where
    go : (b : Bool) → filter_map (λ (l : OpenLine). opened_as (life_of log l.line)) (filter has_left (map g (map (open_line i logs) os))) ≡ filter
        (λ o. has_left (g (open_line i logs o))) os
        → filter_map (λ (l : OpenLine). opened_as (life_of log l.line))
        (cond b (g (open_line i logs o) ∷ filter has_left (map g (map (open_line i logs) os))) (filter has_left (map g (map (open_line i logs) os)))) ≡ cond b
        (o ∷ filter (λ o. has_left (g (open_line i logs o))) os) (filter (λ o. has_left (g (open_line i logs o))) os)
    go true rest = ap₂ (λ x ys. cons_option x ys) (ap (λ n. opened_as (life_of log n)) (keeps (open_line i logs o)) ∙ ap opened_as all.0) rest
    go false rest = rest

pub left_landed : (i : Image) (logs : Logs) (event : ℕ) (knows : List ℕ) (pad : ℕ) (again : List ℕ) (of : Program) → 0 < i.shape.ws_opt
    → IsAwaited i logs pad again of
    → left_openings i (after logs (Landed of.unit event) knows) ≡ filter
    (λ o. has_left (in_line of.line (of.at / i.shape.ws_opt) HasLanded (open_line i logs o))) (left_openings i logs)
left_landed i logs event knows pad again of some is =
    let new : Logs = after logs (Landed of.unit event) knows in
    let l : Logged = record { event = Decides (Landed of.unit event); knows = knows } in
    sym (left_by_lines i new) ∙ made_same (logs 0) (new 0) (open_lines i new) (λ line. life_more (logs 0) l line)
    ∙ ap (filter_map (λ (l : OpenLine). opened_as (life_of (logs 0) l.line)))
    (ap (λ (p : Placing). p.lines) (placing_landed i logs event knows pad again of some is)
    ∙ ap (λ ls. filter has_left (map (in_line of.line (of.at / i.shape.ws_opt) HasLanded) ls)) (lines_of_left i logs))
    ∙ made_filtered (logs 0) i logs (in_line of.line (of.at / i.shape.ws_opt) HasLanded) (left_openings i logs)
    (λ l. (in_line_keeps l of.line (of.at / i.shape.ws_opt) HasLanded).0) (left_opened i logs)

-- and where it was lost
pub left_lost : (i : Image) (logs : Logs) (event : ℕ) (knows : List ℕ) (pad : ℕ) (again : List ℕ) (of : Program) → 0 < i.shape.ws_opt
    → IsAwaited i logs pad again of
    → left_openings i (after logs (Lost of.unit event) knows) ≡ filter
    (λ o. has_left (in_line of.line (of.at / i.shape.ws_opt) WasIt (open_line i logs o))) (left_openings i logs)
left_lost i logs event knows pad again of some is =
    let new : Logs = after logs (Lost of.unit event) knows in
    let l : Logged = record { event = Decides (Lost of.unit event); knows = knows } in
    sym (left_by_lines i new) ∙ made_same (logs 0) (new 0) (open_lines i new) (λ line. life_more (logs 0) l line)
    ∙ ap (filter_map (λ (l : OpenLine). opened_as (life_of (logs 0) l.line)))
    (ap (λ (p : Placing). p.lines) (placing_lost i logs event knows pad again of some is)
    ∙ ap (λ ls. filter has_left (map (in_line of.line (of.at / i.shape.ws_opt) WasIt) ls)) (lines_of_left i logs))
    ∙ made_filtered (logs 0) i logs (in_line of.line (of.at / i.shape.ws_opt) WasIt) (left_openings i logs)
    (λ l. (in_line_keeps l of.line (of.at / i.shape.ws_opt) WasIt).0) (left_opened i logs)
