-- What is kept from event to event: a sum of what is left to be done, which is worth the pieces of
-- work that are still to come.
use Rattle.std.proofs.Common.{ℕ, ◌+◌, ◌-◌, ◌*◌, ◌<◌, ◌≤◌, ◌≡◌, max, ap, ◌∙◌}

-- How many addresses a data stripe has, how many data addresses a line has, how many stripes a line
-- has with its records, on how many units it lies, and what all addresses of lines are at most,
-- with those of one line more.
pub record Drive : Type 0 where
  pub stripe : ℕ
  pub line : ℕ
  pub stripes : ℕ
  pub units : ℕ
  pub most : ℕ

-- what a line that is freed is worth, and what an address that is missing is
abbrev pub freed : Drive → ℕ
freed z = z.stripes + 1 + z.units

abbrev pub missed : Drive → ℕ
missed z = z.line + freed z

-- what a padded stripe is worth
abbrev pub pad : Drive → ℕ
pad z = missed z * (z.stripe - 1)

pub record IsDrive (z : Drive) : Type 0 where
  pub some : 1 ≤ z.stripe
  pub long : 2 * z.stripe ≤ z.line

-- The numbers at a length of the log: the pieces of work so far, the stripes that opened lines have
-- still to get, the chunks that are to be reset, the data addresses that are left in open lines,
-- the Free lines, those to be reset, the fronts placed and taken, whether a victim is at work, and
-- its live sectors.
pub record Numbers : Type 0 where
  pub done : ℕ
  pub stripes : ℕ
  pub chunks : ℕ
  pub left : ℕ
  pub free : ℕ
  pub resetting : ℕ
  pub placed : ℕ
  pub taken : ℕ
  pub working : ℕ
  pub live : ℕ

-- How often a stripe may be padded still: with entries that were taken early, below a position, for
-- the victim at work, and with copies that wait or are under way while another line was freed.
pub record Credits : Type 0 where
  pub early : ℕ
  pub victim : ℕ
  pub waiting : ℕ
  pub coming : ℕ

abbrev pub all : Credits → ℕ
all c = c.early + c.victim + c.waiting + c.coming

-- The fronts placed and taken: whether an entry is still to be taken early, and how often a stripe
-- may be padded with such entries.
pub record AreFronts (old placed taken first early : ℕ) : Type 0 where
  pub order : placed ≤ taken
  pub from : old ≤ taken + 1
  pub firsts : taken < old → 1 ≤ first
  pub two_early : placed + 1 < old → 2 ≤ early
  pub one_early : placed < old → 1 ≤ early

-- The victim at work, if there is one: whether a stripe may be padded for it, while a sector of it
-- is live or an entry waits that wasn't taken early.
pub record IsWorking (old placed taken working live credit : ℕ) : Type 0 where
  pub one : working ≤ 1
  pub none : working ≡ 0 → live ≡ 0
  pub padded : 1 ≤ working → 1 ≤ live + (taken - max placed old) → 1 ≤ credit

pub record Kept (z : Drive) (old total : ℕ) (c : Credits) (n : Numbers) : Type 0 where
  -- how many addresses are missing, and whether an early entry is still to be taken
  pub missing : ℕ
  pub first : ℕ
  pub fronts : AreFronts old n.placed n.taken first c.early
  pub victim : IsWorking old n.placed n.taken n.working n.live c.victim
  pub within : n.left + z.line * (n.free + n.resetting) + z.line ≤ z.most
  pub covers : z.most + (n.taken - n.placed) + n.live ≤ n.left + z.line * (n.free + n.resetting + n.working) + missing
  pub sum : n.done + n.stripes + (z.stripes + 1) * (n.free + n.resetting) + n.chunks + freed z * n.working + n.live
      + pad z * all c + missed z * missing + (missed z + 1) * first ≤ total

-- the same numbers
pub alike : (a b : Numbers) → a.done ≡ b.done → a.stripes ≡ b.stripes → a.chunks ≡ b.chunks → a.left ≡ b.left → a.free ≡ b.free
    → a.resetting ≡ b.resetting → a.placed ≡ b.placed → a.taken ≡ b.taken → a.working ≡ b.working → a.live ≡ b.live → a ≡ b
alike a b done stripes chunks left free resetting placed taken working live =
    ap (λ x. record a { done = x }) done
    ∙ ap (λ x. record a { done = b.done; stripes = x }) stripes
    ∙ ap (λ x. record a { done = b.done; stripes = b.stripes; chunks = x }) chunks
    ∙ ap (λ x. record a { done = b.done; stripes = b.stripes; chunks = b.chunks; left = x }) left
    ∙ ap (λ x. record b { free = x; resetting = a.resetting; placed = a.placed; taken = a.taken; working = a.working; live = a.live }) free
    ∙ ap (λ x. record b { resetting = x; placed = a.placed; taken = a.taken; working = a.working; live = a.live }) resetting
    ∙ ap (λ x. record b { placed = x; taken = a.taken; working = a.working; live = a.live }) placed
    ∙ ap (λ x. record b { taken = x; working = a.working; live = a.live }) taken
    ∙ ap (λ x. record b { working = x; live = a.live }) working
    ∙ ap (λ x. record b { live = x }) live
