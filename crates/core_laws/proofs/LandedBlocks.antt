-- A stripe has landed: how many blocks of each chunk have, and which can be read.
use Rattle.std.proofs.Common.{◌≡◌, ◌≢◌, ◌⊎◌, inl, inr, ℕ, ◌+◌, ◌*◌, ◌<◌, ◌==◌, ◌||◌, zero, suc, nat_lt, Bool, true, false, cond, Some, List, [], ◌∷◌, length, refl, sym, subst, ap, ap₂, ◌∙◌, arith}
use Rattle.std.specs.Prelude.{slice_get}
use Rattle.std.specs.List.{AllByRecursion, filter, list_any}
use Rattle.pblk_model.specs.declared.shape.Shape.{Shape}
use Rattle.pblk_world.specs.Events.{Logged}
use Rattle.pblk_world.specs.EngineLog.{LineLife, AsFound, Opened, Freed, is_life, Opening, Placed, placements, stripes_of, stripes_on, answer_of, is_land, is_loss, has_landed, was_lost}
use Rattle.pblk_world.specs.Space.{landed_blocks, is_readable_in}
use Rattle.world_laws.proofs.UnitTurns.{Rises, rise_all, some_rise}
use Rattle.core_laws.proofs.LandedStripe.{IsOneMore}
use Rattle.pblk_model.proofs.Lists.{IsAmong, all_imply, zipped}
use Rattle.pblk_model.proofs.Maps.{all_filter, all_passed, any_agree, filter_agree, in_filter}
use Rattle.pblk_model.proofs.Parts.{all_at}
use Rattle.pblk_model.proofs.Tests.{no_both, other_number, same_number}

-- ---- a list in which one more element passes

-- the one that passes now is told by its number
OneMore : (Placed → Bool) → (Placed → Bool) → Placed → List Placed → Type 0
OneMore f g p xs = AllByRecursion (λ r. (r ≡ p) ⊎ (f r ≡ g r)) xs

later_same : (f g : Placed → Bool) (p r : Placed) → (r ≡ p) ⊎ (f r ≡ g r) → p.number < r.number → f r ≡ g r
later_same f g p r (inl same) above = let number : r.number ≡ p.number = ap (λ (x : Placed). x.number) same in absurd (omega arith)
later_same f g p r (inr kept) above = kept

before_same : (f g : Placed → Bool) (p r : Placed) → (r ≡ p) ⊎ (f r ≡ g r) → r.number < p.number → f r ≡ g r
before_same f g p r (inl same) below = let number : r.number ≡ p.number = ap (λ (x : Placed). x.number) same in absurd (omega arith)
before_same f g p r (inr kept) below = kept

passes_here : (f g : Placed → Bool) (p r : Placed) (xs : List Placed) → r ≡ p → f p ≡ true → g p ≡ false → filter f xs ≡ filter g xs
    → length (cond (f r) (r ∷ filter f xs) (filter f xs)) ≡ length (cond (g r) (r ∷ filter g xs) (filter g xs)) + 1
passes_here f g p r xs same passes fails rest =
    let a : f r ≡ true = ap f same ∙ passes in
    let b : g r ≡ false = ap g same ∙ fails in
    ap (λ c. length (cond c (r ∷ filter f xs) (filter f xs))) a
    ∙ ap (λ (ys : List Placed). suc (length ys)) rest
    ∙ omega arith
    ∙ ap (λ c. length (cond c (r ∷ filter g xs) (filter g xs)) + 1) (sym b)

passes_later : (r : Placed) (xs ys : List Placed) (a b : Bool) → a ≡ b → length xs ≡ length ys + 1
    → length (cond a (r ∷ xs) xs) ≡ length (cond b (r ∷ ys) ys) + 1
passes_later r xs ys true b same count = ap suc count ∙ omega arith ∙ ap (λ c. length (cond c (r ∷ ys) ys) + 1) same
passes_later r xs ys false b same count = count ∙ ap (λ c. length (cond c (r ∷ ys) ys) + 1) same

count_more : (f g : Placed → Bool) (p : Placed) (xs : List Placed) (k : ℕ) → Rises xs → slice_get xs k ≡ Some p → f p ≡ true → g p ≡ false → OneMore f g p xs
    → length (filter f xs) ≡ length (filter g xs) + 1
unfolding OneMore
count_more f g p [] k rise at passes fails all = absurd cc
count_more f g p (r ∷ xs) zero rise at passes fails all =
    let same : r ≡ p = cc in
    passes_here f g p r xs same passes fails
    (filter_agree (λ (x : Placed). f x ≡ g x) f g (λ x e. e) xs
    (zipped (λ (x : Placed). r.number < x.number) (λ (x : Placed). (x ≡ p) ⊎ (f x ≡ g x)) (λ (x : Placed). f x ≡ g x)
    (λ x above either. later_same f g p x either (subst (λ (y : Placed). y.number < x.number) same above)) xs rise.0 all.1))
count_more f g p (r ∷ xs) (suc k) rise at passes fails all =
    passes_later r (filter f xs) (filter g xs) (f r) (g r)
    (before_same f g p r all.0 (all_at (λ (x : Placed). r.number < x.number) xs k p at rise.0))
    (count_more f g p xs k rise.1 at passes fails all.1)

-- ---- landed blocks

landed_either : (log new : List Logged) (p r : Placed) → (r ≡ p) ⊎ (answer_of new r ≡ answer_of log r) → (r ≡ p) ⊎ (has_landed new r ≡ has_landed log r)
landed_either log new p r (inl same) = inl same
landed_either log new p r (inr kept) = inr (ap is_land kept)

pub on_all : (P : Placed → Type 0) (log : List Logged) (o : Opening) (unit : ℕ) → AllByRecursion P (placements log) → AllByRecursion P (stripes_on log o unit)
on_all P log o unit all = all_filter P (λ (p : Placed). p.stripe.unit == unit) (stripes_of log o)
    (all_filter P (λ (p : Placed). is_life o.number p.life) (placements log) all)

pub on_rises : (log : List Logged) (o : Opening) (unit : ℕ) → Rises (stripes_on log o unit)
on_rises log o unit = some_rise (λ (p : Placed). p.stripe.unit == unit) (stripes_of log o)
    (some_rise (λ (p : Placed). is_life o.number p.life) (placements log) (rise_all log))

pub its_opening : (o : Opening) (life : LineLife) → life ≡ Opened o → is_life o.number life ≡ true
its_opening o life e = ap (is_life o.number) e ∙ same_number o.number

pub on_its : (log : List Logged) (o : Opening) (unit : ℕ) (p : Placed) → IsAmong (placements log) p → p.life ≡ Opened o → p.stripe.unit ≡ unit
    → IsAmong (stripes_on log o unit) p
on_its log o unit p among life its = in_filter (λ (r : Placed). r.stripe.unit == unit) (stripes_of log o) p
    (in_filter (λ (r : Placed). is_life o.number r.life) (placements log) p among (its_opening o p.life life)) (ap (λ u. u == unit) its ∙ same_number unit)

pub on_new : (log new : List Logged) (p : Placed) → IsOneMore log new p → (o : Opening) (unit : ℕ) → stripes_on new o unit ≡ stripes_on log o unit
on_new log new p is o unit = ap (λ ps. filter (λ (r : Placed). r.stripe.unit == unit) (filter (λ (r : Placed). is_life o.number r.life) ps)) is.stripes

pub blocks_more : (s : Shape) (log new : List Logged) (p : Placed) (o : Opening) → IsOneMore log new p → p.life ≡ Opened o
    → landed_blocks s new o p.stripe.unit ≡ landed_blocks s log o p.stripe.unit + s.ws_opt
unfolding OneMore
blocks_more s log new p o is life =
    let unit : ℕ = p.stripe.unit in
    let at : IsAmong (stripes_on log o p.stripe.unit) p = on_its log o p.stripe.unit p is.among life refl in
    let n : ℕ = length (filter (has_landed log) (stripes_on log o p.stripe.unit)) in
    let more : length (filter (has_landed new) (stripes_on log o p.stripe.unit)) ≡ n + 1 =
    count_more (has_landed new) (has_landed log) p (stripes_on log o p.stripe.unit) at.0 (on_rises log o p.stripe.unit) at.1 is.now (ap is_land is.before)
    (on_all (λ (r : Placed). (r ≡ p) ⊎ (has_landed new r ≡ has_landed log r)) log o p.stripe.unit
    (all_imply (λ (r : Placed). (r ≡ p) ⊎ (answer_of new r ≡ answer_of log r)) (λ (r : Placed). (r ≡ p) ⊎ (has_landed new r ≡ has_landed log r))
    (landed_either log new p) (placements log) is.others)) in
    ap (λ (ps : List Placed). length (filter (has_landed new) ps) * s.ws_opt) (on_new log new p is o p.stripe.unit)
    ∙ ap (λ k. k * s.ws_opt) more ∙ grind arith

-- another unit or opening has none of its
landed_elsewhere : (log new : List Logged) (p r : Placed) → (r ≡ p) ⊎ (answer_of new r ≡ answer_of log r) → (r ≡ p → ⊥) → has_landed new r ≡ has_landed log r
landed_elsewhere log new p r (inl same) apart = absurd (apart same)
landed_elsewhere log new p r (inr kept) apart = ap is_land kept

pub blocks_elsewhere : (s : Shape) (log new : List Logged) (p : Placed) (other : Opening) (unit : ℕ) → IsOneMore log new p
    → AllByRecursion (λ r. r ≡ p → ⊥) (stripes_on log other unit) → landed_blocks s new other unit ≡ landed_blocks s log other unit
blocks_elsewhere s log new p other unit is apart =
    ap (λ (ps : List Placed). length (filter (has_landed new) ps) * s.ws_opt) (on_new log new p is other unit)
    ∙ ap (λ (ps : List Placed). length ps * s.ws_opt)
    (filter_agree (λ (r : Placed). has_landed new r ≡ has_landed log r) (has_landed new) (has_landed log) (λ r e. e) (stripes_on log other unit)
    (zipped (λ (r : Placed). (r ≡ p) ⊎ (answer_of new r ≡ answer_of log r)) (λ (r : Placed). r ≡ p → ⊥) (λ (r : Placed). has_landed new r ≡ has_landed log r)
    (landed_elsewhere log new p) (stripes_on log other unit)
    (on_all (λ (r : Placed). (r ≡ p) ⊎ (answer_of new r ≡ answer_of log r)) log other unit is.others) apart))

-- nothing more is lost
pub lost_by : (log new : List Logged) (p r : Placed) → IsOneMore log new p → (r ≡ p) ⊎ (answer_of new r ≡ answer_of log r) → was_lost new r ≡ was_lost log r
lost_by log new p r is (inl same) = ap (was_lost new) same ∙ is.not_lost ∙ sym (ap is_loss is.before) ∙ ap (was_lost log) (sym same)
lost_by log new p r is (inr kept) = ap is_loss kept

pub lost_same : (log new : List Logged) (p : Placed) (other : Opening) (unit : ℕ) → IsOneMore log new p
    → list_any (was_lost new) (stripes_on new other unit) ≡ list_any (was_lost log) (stripes_on log other unit)
lost_same log new p other unit is =
    ap (list_any (was_lost new)) (on_new log new p is other unit)
    ∙ any_agree (was_lost new) (was_lost log) (stripes_on log other unit)
    (on_all (λ (r : Placed). was_lost new r ≡ was_lost log r) log other unit
    (all_imply (λ (r : Placed). (r ≡ p) ⊎ (answer_of new r ≡ answer_of log r)) (λ (r : Placed). was_lost new r ≡ was_lost log r)
    (λ r either. lost_by log new p r is either) (placements log) is.others))

readable_by : (s : Shape) (log new : List Logged) (p : Placed) (other : Opening) (unit block : ℕ) → IsOneMore log new p
    → landed_blocks s new other unit ≡ landed_blocks s log other unit
    → is_readable_in s new unit block (Opened other) ≡ is_readable_in s log unit block (Opened other)
readable_by s log new p other unit block is same = ap₂ (λ a n. (a || (n == s.clba)) || nat_lt (block + s.mw_cunits) n) (lost_same log new p other unit is) same

pub apart_unit : (log : List Logged) (p : Placed) (other : Opening) (unit : ℕ) → unit ≢ p.stripe.unit
    → AllByRecursion (λ r. r ≡ p → ⊥) (stripes_on log other unit)
apart_unit log p other unit apart = all_imply (λ (r : Placed). (r.stripe.unit == unit) ≡ true) (λ (r : Placed). r ≡ p → ⊥)
    (λ r e same. no_both (r.stripe.unit == unit) e (other_number r.stripe.unit unit (λ f. apart (sym f ∙ ap (λ (x : Placed). x.stripe.unit) same))))
    (stripes_on log other unit) (all_passed (λ (r : Placed). r.stripe.unit == unit) (stripes_of log other))

pub apart_opening : (log : List Logged) (p : Placed) (o other : Opening) (unit : ℕ) → p.life ≡ Opened o → other.number ≢ o.number
    → AllByRecursion (λ r. r ≡ p → ⊥) (stripes_on log other unit)
apart_opening log p o other unit life apart = all_imply (λ (r : Placed). is_life other.number r.life ≡ true) (λ (r : Placed). r ≡ p → ⊥)
    (λ r e same. no_both (is_life other.number r.life) e
    (ap (λ (x : Placed). is_life other.number x.life) same ∙ ap (is_life other.number) life ∙ other_number o.number other.number (λ f. apart (sym f))))
    (stripes_on log other unit) (all_filter (λ (r : Placed). is_life other.number r.life ≡ true) (λ (r : Placed). r.stripe.unit == unit) (stripes_of log other)
    (all_passed (λ (r : Placed). is_life other.number r.life) (placements log)))

pub readable_unit : (s : Shape) (log new : List Logged) (p : Placed) (unit block : ℕ) (life : LineLife) → IsOneMore log new p → unit ≢ p.stripe.unit
    → is_readable_in s new unit block life ≡ is_readable_in s log unit block life
readable_unit s log new p unit block AsFound is apart = refl
readable_unit s log new p unit block (Opened other) is apart =
    readable_by s log new p other unit block is (blocks_elsewhere s log new p other unit is (apart_unit log p other unit apart))
readable_unit s log new p unit block (Freed past k) is apart = refl

pub readable_opening : (s : Shape) (log new : List Logged) (p : Placed) (o other : Opening) (unit block : ℕ) → IsOneMore log new p → p.life ≡ Opened o
    → other.number ≢ o.number
    → is_readable_in s new unit block (Opened other) ≡ is_readable_in s log unit block (Opened other)
readable_opening s log new p o other unit block is life apart =
    readable_by s log new p other unit block is (blocks_elsewhere s log new p other unit is (apart_opening log p o other unit life apart))
