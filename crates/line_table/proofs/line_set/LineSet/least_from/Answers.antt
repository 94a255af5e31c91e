use Rattle.std.proofs.Common.{◌≡◌, ℕ, ◌+◌, ◌*◌, ◌/◌, ◌%◌, ◌<◌, ◌≤◌, false, Some, None, Option, refl, sym, ap, ◌∙◌, arith}
use Rattle.std.specs.List.{slice_index_or}
use Rattle.std.specs.Option.{IfSome, IfNone}
use Rattle.line_table.specs.LineSets.{has}
use Rattle.line_table.proofs.Sets.{between, has_past, least_from_is_set, none_from, none_in_rest, within_word}
use Rattle.line_table.proofs.line_set.LineSet.least_from.Goals as goal
use Rattle.line_table.proofs.line_set.LineSet.least_from.Goals.{then-first-lt16+else-word-ne0, else-first-lt16}

pub returns-then-word-ne0-clause-inside : goal.returns-then-word-ne0-clause-inside
returns-then-word-ne0-clause-inside c =
    let inside = within_word (slice_index_or c.self.inside.words (c.args.from / 64) 0) (c.args.from % 64) (omega arith)
    (omega (arith, c.if-word-ne0.true)) (omega arith) in
    omega (arith, inside, c.if-first-lt16.true)

pub returns-then-word-ne0-clause-found : goal.returns-then-word-ne0-clause-found
returns-then-word-ne0-clause-found c =
    rw (← c.self.view_is)
    (least_from_is_set c.self.inside.words c.args.from (slice_index_or c.self.inside.words (c.args.from / 64) 0) _ refl (omega arith)
    (omega (arith, c.if-word-ne0.true)) (omega arith) refl)

pub returns-then-word-ne0-clause-least : goal.returns-then-word-ne0-clause-least
returns-then-word-ne0-clause-least c = λ m past below.
    ap (λ words. has words m) (sym c.self.view_is)
    ∙ between c.self.inside.words c.args.from (slice_index_or c.self.inside.words (c.args.from / 64) 0) _ m refl (omega arith)
    (omega (arith, c.if-word-ne0.true)) (omega arith) refl past below

-- no line of the first word is in the set, from the one asked on
none_here : (c : goal.After-least_in_words) → (n : ℕ) → c.args.from ≤ n → n / 64 ≡ c.args.from / 64 → has c.self.inside.words n ≡ false
none_here c n past index = elim c.if-first-lt16.branch [
  | then-first-lt16+else-word-ne0 w ↦
      none_from c.self.inside.words c.args.from (slice_index_or c.self.inside.words (c.args.from / 64) 0) n refl w.if-word-ne0.false past index
  | else-first-lt16 w ↦ has_past c.self.inside.words n (omega (arith, w.if-first-lt16.false))
]

none_past : (c : goal.After-least_in_words) → (m : ℕ) → ((c.args.from / 64 + 1) * 64 ≤ m → has c.args.self.now m ≡ false) → c.args.from ≤ m
    → has c.args.self.now m ≡ false
none_past c m later past =
    ap (λ words. has words m) (sym c.self.view_is)
    ∙ none_in_rest c.self.inside.words c.args.from m (none_here c) (λ beyond. ap (λ words. has words m) c.self.view_is ∙ later beyond) past

pub returns-clause-least : goal.returns-clause-least
returns-clause-least c = go c.least_in_words.result c.least_in_words.ensures.least
  where
    go : (r : Option ℕ) → IfSome r (λ n. (m : ℕ) → (c.args.from / 64 + 1) * 64 ≤ m → m < n → has c.args.self.now m ≡ false)
        → IfSome r (λ n. (m : ℕ) → c.args.from ≤ m → m < n → has c.args.self.now m ≡ false)
    go None later = tt
    go (Some n) later = λ m past below. none_past c m (λ beyond. later m beyond below) past

pub returns-clause-none : goal.returns-clause-none
returns-clause-none c = go c.least_in_words.result c.least_in_words.ensures.none
  where
    go : (r : Option ℕ) → IfNone r ((m : ℕ) → (c.args.from / 64 + 1) * 64 ≤ m → has c.args.self.now m ≡ false)
        → IfNone r ((m : ℕ) → c.args.from ≤ m → has c.args.self.now m ≡ false)
    go None later = λ m past. none_past c m (later m) past
    go (Some n) later = tt
