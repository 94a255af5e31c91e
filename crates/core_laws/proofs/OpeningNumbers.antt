-- Each opening and each life has the number of an event that opened its line.
use Rattle.std.proofs.Common.{◌≡◌, ◌≢◌, ℕ, ◌+◌, ◌==◌, nat_eq, Bool, true, false, Some, None, Option, List, [], ◌∷◌, ◌++◌, length, refl, sym, subst, ap, ap₂, ◌∙◌, arith, append_assoc, length-append}
use Rattle.std.specs.Prelude.{slice_get, if◌then◌else◌}
use Rattle.std.specs.List.{AllByRecursion, filter_map, cons_option, fold, enumerate_from}
use Rattle.std.specs.Option.{option_and_then}
use Rattle.std.proofs.lemmas.Bool.{eqb-true}
use Rattle.std.proofs.lemmas.Option.{same_Some, none-some}
use Rattle.pblk_world.specs.Events.{Open, Free, Event, Decides, Logged}
use Rattle.pblk_world.specs.EngineLog.{LineLife, AsFound, Opened, Freed, is_life, life_of, turned, turned_by, last_opening, Opening, opened_by, openings}
use Rattle.core_laws.specs.OpenedLines.{standing}
use Rattle.pblk_model.proofs.Maps.{all_filter}

-- the line that an event opens
abbrev pub opens : Event → Option ℕ
opens (Decides (Open line start)) = Some line
opens e = None

abbrev pub opens_at : List Logged → ℕ → Option ℕ
opens_at log n = option_and_then (λ (l : Logged). opens l.event) (slice_get log n)

pub get_middle : {X : Type 0} (xs : List X) (y : X) (ys : List X) → slice_get (xs ++ y ∷ ys) (length xs) ≡ Some y
get_middle [] y ys = refl
get_middle (x ∷ xs) y ys = get_middle xs y ys

-- what is made of numbered elements, by where they stand
pub made_at : {X Y : Type 0} (h : ℕ × X → Option Y) (P : Y → Type 0) (before xs all : List X) (n : ℕ) → n ≡ length before → all ≡ before ++ xs
    → ((e : ℕ × X) (y : Y) → slice_get all e.0 ≡ Some e.1 → h e ≡ Some y → P y) → AllByRecursion P (filter_map h (enumerate_from n xs))
made_at h P before [] all n count is says = tt
made_at {X} {Y} h P before (x ∷ xs) all n count is says = go (h (n, x)) refl
    (made_at h P (before ++ x ∷ []) xs all (n + 1) (omega (arith, count, length-append before (x ∷ []))) (is ∙ sym (append_assoc before (x ∷ []) xs)) says)
  where
    here : slice_get all n ≡ Some x
    here = ap₂ (λ (ys : List X) k. slice_get ys k) is count ∙ get_middle before x xs

    go : (o : Option Y) → h (n, x) ≡ o → AllByRecursion P (filter_map h (enumerate_from (n + 1) xs))
        → AllByRecursion P (cons_option o (filter_map h (enumerate_from (n + 1) xs)))
    go None e rest = rest
    go (Some y) e rest = (says (n, x) y here e, rest)

opened_line : (log : List Logged) (number : ℕ) (knows : List ℕ) (e : Event) (o : Opening) → opens_at log number ≡ opens e → opened_by number knows e ≡ Some o
    → opens_at log o.number ≡ Some o.line
opened_line log number knows (Decides (Open line start)) o there h =
    subst (λ (x : Opening). opens_at log x.number ≡ Some x.line) (same_Some (record { number = number; line = line; start = start; knows = knows }) o h) there
opened_line log number knows e o there h = absurd (none-some o h)

pub openings_at : (log : List Logged) → AllByRecursion (λ o. opens_at log o.number ≡ Some o.line) (openings log)
openings_at log = made_at (λ (e : ℕ × Logged). opened_by e.0 e.1.knows e.1.event) (λ (o : Opening). opens_at log o.number ≡ Some o.line) [] log log 0 refl refl
    (λ e o there h. opened_line log e.0 e.1.knows e.1.event o (ap (λ (l : Option Logged). option_and_then (λ (l : Logged). opens l.event) l) there) h)

-- a life by an opening is of an event that opened the line
abbrev IsOpenedAt : List Logged → ℕ → LineLife → Type 0
IsOpenedAt log line AsFound = Unit {0}
IsOpenedAt log line (Opened o) = (opens_at log o.number ≡ Some line) × (o.line ≡ line)
IsOpenedAt log line (Freed past knows) = Unit {0}

turned_at : (log : List Logged) (line k : ℕ) (life : LineLife) (knows : List ℕ) (e : Event) → opens_at log k ≡ opens e → IsOpenedAt log line life
    → IsOpenedAt log line (turned_by line life k knows e)
turned_at log line k life knows (Decides (Open other start)) there is = go (nat_eq other line) refl
  where
    go : (b : Bool) → nat_eq other line ≡ b
        → IsOpenedAt log line (if b then Opened (record { number = k; line = line; start = start; knows = knows }) else life)
    go true e = (there ∙ ap (λ n. Some n) (eqb-true other line e), refl)
    go false e = is
turned_at log line k life knows (Decides (Free other)) there is =
    elim (nat_eq other line) as (λ b. IsOpenedAt log line (if b then Freed (last_opening life) knows else life)) [
      | true ↦ tt
      | false ↦ is
    ]
turned_at log line k life knows e there is = is

lives_at : (all before log : List Logged) (line n : ℕ) (life : LineLife) → n ≡ length before → all ≡ before ++ log → IsOpenedAt all line life
    → IsOpenedAt all line (fold (turned line) life (enumerate_from n log))
lives_at all before [] line n life count is opened = opened
lives_at all before (l ∷ log) line n life count is opened =
    let here : slice_get all n ≡ Some l = ap₂ (λ (ys : List Logged) k. slice_get ys k) is count ∙ get_middle before l log in
    lives_at all (before ++ l ∷ []) log line (n + 1) (turned_by line life n l.knows l.event) (omega (arith, count, length-append before (l ∷ [])))
    (is ∙ sym (append_assoc before (l ∷ []) log))
    (turned_at all line n life l.knows l.event (ap (λ (x : Option Logged). option_and_then (λ (l : Logged). opens l.event) x) here) opened)

pub life_at : (log : List Logged) (line : ℕ) (o : Opening) → life_of log line ≡ Opened o → (opens_at log o.number ≡ Some line) × (o.line ≡ line)
life_at log line o e = subst (IsOpenedAt log line) e (lives_at log [] log line 0 AsFound refl refl tt)

pub standing_at : (log : List Logged) → AllByRecursion (λ o. opens_at log o.number ≡ Some o.line) (standing log)
standing_at log = all_filter (λ (o : Opening). opens_at log o.number ≡ Some o.line) (λ o. is_life o.number (life_of log o.line)) (openings log)
    (openings_at log)

-- an opening has the number of a line's life exactly where it is of that line
pub of_its_line : (log : List Logged) (line : ℕ) (o other : Opening) → life_of log line ≡ Opened o → opens_at log other.number ≡ Some other.line
    → other.line ≢ line → (o.number == other.number) ≡ false
of_its_line log line o other life there apart = go (nat_eq o.number other.number) refl
  where
    go : (b : Bool) → nat_eq o.number other.number ≡ b → b ≡ false
    go true e =
        let same : o.number ≡ other.number = eqb-true o.number other.number e in
        absurd (apart (same_Some other.line line (sym there ∙ ap (opens_at log) (sym same) ∙ (life_at log line o life).0)))
    go false e = refl
