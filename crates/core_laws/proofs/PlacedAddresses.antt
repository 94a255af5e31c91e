-- How the data addresses of the opened lines change with a stripe that is placed.
use Rattle.std.proofs.Common.{◌≡◌, ◌≢◌, ℕ, ◌+◌, ◌-◌, ◌*◌, ◌/◌, ◌%◌, ◌<◌, ◌≤◌, ◌||◌, nat_lt, nat_le, max, Bool, true, false, List, [], ◌∷◌, ◌++◌, length, take, refl, sym, subst, ap, ap₂, ◌∙◌, arith, append-nil, length-append, div-add-mod', le_of_lt, add-zero, inl, inr, ◌⊎◌}
use Rattle.std.specs.Prelude.{if◌then◌else◌}
use Rattle.std.specs.List.{AllByRecursion, list_any, list_all}
use Rattle.std.specs.Int.{div_ceil}
use Rattle.std.proofs.Math.Nat.{mul-le-mul_right, mul-sub, mul-add, mul_comm, mul_left_comm, mul-div_cancel_left}
use Rattle.std.proofs.lemmas.List.Folds.{list_any-append}
use Rattle.std.proofs.lemmas.Option.{same_Some}
use Rattle.pblk_model.specs.declared.shape.Shape.{Shape}
use Rattle.pblk_model.specs.Accepted.{IsDriveShape}
use Rattle.pblk_model.specs.LineOrder.{start_len, end_len, data_len}
use Rattle.pblk_model.specs.Image.{Image}
use Rattle.pblk_world.specs.Events.{Place, Stripe, Decides, Logged}
use Rattle.pblk_world.specs.World.{Logs}
use Rattle.pblk_world.specs.EngineLog.{LineLife, AsFound, Opened, Freed, is_life, life_of, Opening, Placed, stripes_of, was_lost, is_loss, has_failed, has_landed}
use Rattle.pblk_world.specs.Starts.{start_stripes, has_landed_start}
use Rattle.pblk_world.specs.Placing.{next_address, end_address, IsStart, IsData, IsEnd, IsPad}
use Rattle.pblk_world.specs.Space.{unplaced_in, open_addresses}
use Rattle.pblk_world.proofs.Appending.{life_more}
use Rattle.world_laws.proofs.LineStripes.{stripes_before}
use Rattle.core_laws.specs.Stepping.{after}
use Rattle.core_laws.proofs.OpeningNumbers.{opens_at, life_at}
use Rattle.core_laws.proofs.Placing.{with_place, new_placed, IsPlacing, answer_now, new_unanswered, stripes_now}
use Rattle.core_laws.proofs.RangeSums.{sum_more}
use Rattle.pblk_model.proofs.Tests.{both, or_no, other_number, same_number}

-- ---- multiples of a stripe

multiple_next : (n k w : ℕ) → n * w < w * k → n * w + w ≤ w * k
multiple_next n k w below = go (nat_lt n k) refl
  where
    go : (b : Bool) → nat_lt n k ≡ b → n * w + w ≤ w * k
    go true e =
        let less : n < k = grind arith in
        let more : (n + 1) * w ≤ k * w = mul-le-mul_right w (omega arith) in
        let turned : k * w ≡ w * k = mul_comm k w in
        let one : (n + 1) * w ≡ n * w + w = omega arith in
        omega arith
    go false e =
        let more : k ≤ n = grind arith in
        let whole : k * w ≤ n * w = mul-le-mul_right w more in
        let turned : k * w ≡ w * k = mul_comm k w in
        absurd (omega arith)

-- whole stripes
abbrev pub IsWhole : ℕ → ℕ → Type 0
IsWhole w n = (k : ℕ) × (n ≡ w * k)

whole_less : (w m n : ℕ) → IsWhole w m → IsWhole w n → IsWhole w (m - n)
whole_less w m n (k, a) (j, b) = (k - j, ap₂ (λ x y. x - y) a b ∙ sym (mul-sub w k j))

whole_sum : (w m n : ℕ) → IsWhole w m → IsWhole w n → IsWhole w (m + n)
whole_sum w m n (k, a) (j, b) = (k + j, ap₂ (λ x y. x + y) a b ∙ sym (mul-add w k j))

pub whole_start : (s : Shape) → IsWhole s.ws_opt (start_len s)
whole_start s = (div_ceil (64 + 24 * (s.chunks - 1)) (s.ws_opt * s.sector), refl)

whole_end_record : (s : Shape) (g : ℕ) → IsWhole s.ws_opt (end_len s g)
whole_end_record s g = (div_ceil (32 + 16 * (g * s.clba - start_len s)) (s.ws_opt * (s.sector + 16)), refl)

pub whole_line : (s : Shape) (g : ℕ) → IsDriveShape s → IsWhole s.ws_opt (g * s.clba)
whole_line s g drive =
    let parts : s.clba / s.ws_opt * s.ws_opt + s.clba % s.ws_opt ≡ s.clba = div-add-mod' s.clba s.ws_opt in
    let none : s.clba % s.ws_opt ≡ 0 = drive.whole_stripes in
    let chunk : s.clba ≡ s.clba / s.ws_opt * s.ws_opt = omega arith in
    (g * (s.clba / s.ws_opt), ap (λ n. g * n) (chunk ∙ mul_comm (s.clba / s.ws_opt) s.ws_opt) ∙ mul_left_comm g s.ws_opt (s.clba / s.ws_opt))

whole_if : (w n : ℕ) (b : Bool) → IsWhole w n → IsWhole w (if b then 0 else n)
whole_if w n true is = (0, omega arith)
whole_if w n false is = is

whole_data : (s : Shape) (g : ℕ) → IsDriveShape s → IsWhole s.ws_opt (data_len s g)
whole_data s g drive =
    let between : IsWhole s.ws_opt (g * s.clba - start_len s - end_len s g) =
    whole_less s.ws_opt (g * s.clba - start_len s) (end_len s g) (whole_less s.ws_opt (g * s.clba) (start_len s) (whole_line s g drive) (whole_start s))
    (whole_end_record s g) in
    whole_if s.ws_opt (g * s.clba - start_len s - end_len s g) (nat_lt (g * s.clba - start_len s - end_len s g) s.ws_opt) between

-- a stripe that begins before whole stripes end ends before it
pub stripe_within : (n w e : ℕ) → IsWhole w e → n * w < e → n * w + w ≤ e
stripe_within n w e (k, is) below =
    let inside : n * w < w * k = omega (arith, is) in
    let ends : n * w + w ≤ w * k = multiple_next n k w inside in
    omega (arith, is)

-- ---- the stripes and losses of each opening

any_agree : {X : Type 0} (P : X → Type 0) (f g : X → Bool) → ((x : X) → P x → f x ≡ g x) → (xs : List X) → AllByRecursion P xs → list_any f xs ≡ list_any g xs
any_agree P f g same [] all = refl
any_agree P f g same (x ∷ xs) all = ap₂ (λ a b. a || b) (same x all.0) (any_agree P f g same xs all.1)

pub losses_now : (log : List Logged) (stripe : Stripe) (knows : List ℕ) (o other : Opening) → life_of log stripe.line ≡ Opened o
    → list_any (was_lost (with_place log stripe knows)) (stripes_of log other) ≡ has_failed log other
losses_now log stripe knows o other opened =
    any_agree (λ (p : Placed). p.number < length log) (was_lost (with_place log stripe knows)) (was_lost log)
    (λ p before. ap is_loss (answer_now log stripe knows o p opened (le_of_lt before))) (stripes_of log other)
    (stripes_before log other)

-- in another opening nothing changes
elsewhere : (s : Shape) (log : List Logged) (stripe : Stripe) (knows : List ℕ) (o other : Opening) → life_of log stripe.line ≡ Opened o
    → is_life other.number (Opened o) ≡ false
    → unplaced_in s (with_place log stripe knows) (Opened other) ≡ unplaced_in s log (Opened other)
elsewhere s log stripe knows o other opened apart =
    let same : stripes_of (with_place log stripe knows) other ≡ stripes_of log other = stripes_now log stripe knows o other false opened apart
    ∙ append-nil (stripes_of log other) in
    ap (λ (ps : List Placed). if list_any (was_lost (with_place log stripe knows)) ps then 0 else end_address s other - max (start_len s)
    (length ps * s.ws_opt)) same
    ∙ ap (λ b. if b then 0 else end_address s other - max (start_len s) (length (stripes_of log other) * s.ws_opt)) (losses_now log stripe knows o other opened)

-- in its opening there is one stripe more
here : (s : Shape) (log : List Logged) (stripe : Stripe) (knows : List ℕ) (o : Opening) → IsPlacing log stripe o
    → unplaced_in s (with_place log stripe knows) (Opened o) ≡
    (if has_failed log o then 0 else end_address s o - max (start_len s) ((length (stripes_of log o) + 1) * s.ws_opt))
here s log stripe knows o is =
    let new : List Logged = with_place log stripe knows in
    let more : stripes_of new o ≡ stripes_of log o ++ new_placed log stripe o ∷ [] = stripes_now log stripe knows o o true is.opened (same_number o.number) in
    ap₂ (λ b n. if b then 0 else end_address s o - max (start_len s) (n * s.ws_opt))
    (ap (list_any (was_lost new)) more ∙ list_any-append (was_lost new) (stripes_of log o) (new_placed log stripe o ∷ [])
    ∙ ap₂ (λ a b. a || (b || false)) (losses_now log stripe knows o o is.opened) (ap is_loss (new_unanswered log stripe knows o is)) ∙ or_no (has_failed log o))
    (ap (λ (ps : List Placed). length ps) more ∙ length-append (stripes_of log o) (new_placed log stripe o ∷ []))

-- ---- all lines together

other_life : (s : Shape) (log : List Logged) (stripe : Stripe) (knows : List ℕ) (o : Opening) (line : ℕ) → life_of log stripe.line ≡ Opened o
    → line ≢ stripe.line
    → unplaced_in s (with_place log stripe knows) (life_of (with_place log stripe knows) line) ≡ unplaced_in s log (life_of log line)
other_life s log stripe knows o line opened apart =
    ap (unplaced_in s (with_place log stripe knows)) (life_more log (record { event = Decides (Place stripe); knows = knows }) line)
    ∙ go (life_of log line) refl
  where
    go : (life : LineLife) → life_of log line ≡ life → unplaced_in s (with_place log stripe knows) life ≡ unplaced_in s log life
    go AsFound e = refl
    go (Opened other) e = elsewhere s log stripe knows o other opened (other_number o.number other.number (λ same.
        apart (same_Some line stripe.line (sym (life_at log line other e).0 ∙ ap (opens_at log) (sym same) ∙ (life_at log stripe.line o opened).0))))
    go (Freed past k) e = refl

its_life : (s : Shape) (log : List Logged) (stripe : Stripe) (knows : List ℕ) (o : Opening) → life_of log stripe.line ≡ Opened o
    → unplaced_in s (with_place log stripe knows) (life_of (with_place log stripe knows) stripe.line) ≡ unplaced_in s (with_place log stripe knows) (Opened o)
its_life s log stripe knows o opened =
    ap (unplaced_in s (with_place log stripe knows)) (life_more log (record { event = Decides (Place stripe); knows = knows }) stripe.line ∙ opened)

-- by how many addresses the line has fewer
placed_by : (i : Image) (logs : Logs) (stripe : Stripe) (knows : List ℕ) (o : Opening) (x : ℕ) → IsPlacing (logs 0) stripe o → stripe.line < i.shape.chunks
    → unplaced_in i.shape (logs 0) (Opened o) ≡ unplaced_in i.shape (with_place (logs 0) stripe knows) (Opened o) + x
    → open_addresses i logs ≡ open_addresses i (after logs (Place stripe) knows) + x
placed_by i logs stripe knows o x is inside fewer =
    let log : List Logged = logs 0 in
    let new : List Logged = with_place (logs 0) stripe knows in
    let first : stripe.line ≡ 0 + stripe.line = omega arith in
    let now : unplaced_in i.shape log (life_of log stripe.line) ≡ unplaced_in i.shape new (life_of new stripe.line) + x =
    ap (unplaced_in i.shape log) is.opened ∙ fewer ∙ ap (λ n. n + x) (sym (its_life i.shape log stripe knows o is.opened)) in
    sum_more (λ m. unplaced_in i.shape new (life_of new m)) (λ m. unplaced_in i.shape log (life_of log m)) i.shape.chunks 0 stripe.line x inside
    (subst (λ m. unplaced_in i.shape log (life_of log m) ≡ unplaced_in i.shape new (life_of new m) + x) first now)
    (λ m other. sym (other_life i.shape log stripe knows o m is.opened (λ e. other (e ∙ first))))

-- ---- by the kind of the stripe

left_less : (s : Shape) (log : List Logged) (o : Opening) → has_failed log o ≡ false → start_len s ≤ next_address s log o
    → next_address s log o + s.ws_opt ≤ end_address s o
    → unplaced_in s log (Opened o) ≡
    (if has_failed log o then 0 else end_address s o - max (start_len s) ((length (stripes_of log o) + 1) * s.ws_opt)) + s.ws_opt
left_less s log o none from within =
    let E : ℕ = end_address s o in
    let next : (length (stripes_of log o) + 1) * s.ws_opt ≡ next_address s log o + s.ws_opt = omega arith in
    let sums : E - max (start_len s) (next_address s log o) ≡ (E - max (start_len s) (next_address s log o + s.ws_opt)) + s.ws_opt = omega arith in
    ap (λ b. if b then 0 else E - max (start_len s) (next_address s log o)) none
    ∙ sums
    ∙ ap₂ (λ b n. (if b then 0 else E - max (start_len s) n) + s.ws_opt) (sym none) (sym next)

-- a start record that has landed whole is behind the next address
past_start : (s : Shape) (log : List Logged) (o : Opening) → 0 < s.ws_opt → has_landed_start s log o ≡ true → start_len s ≤ next_address s log o
unfolding whole_start
past_start s log o some landed =
    let count : nat_le (start_stripes s) (length (stripes_of log o)) ≡ true =
    (both (nat_le (start_stripes s) (length (stripes_of log o))) (list_all (has_landed log) (take (start_stripes s) (stripes_of log o))) landed).0 in
    let few : start_stripes s ≤ length (stripes_of log o) = grind arith in
    let d : ℕ = (whole_start s).0 in
    let is : start_stripes s ≡ d = mul-div_cancel_left d some in
    let more : d * s.ws_opt ≤ length (stripes_of log o) * s.ws_opt = mul-le-mul_right s.ws_opt (omega arith) in
    let turned : d * s.ws_opt ≡ start_len s = mul_comm d s.ws_opt in
    omega arith

pub whole_to_end : (s : Shape) (o : Opening) → IsDriveShape s → IsWhole s.ws_opt (end_address s o)
whole_to_end s o drive = whole_sum s.ws_opt (start_len s) (data_len s o.start.width) (whole_start s) (whole_data s o.start.width drive)

-- a stripe of data takes the line's next data addresses
pub data_addresses : (i : Image) (logs : Logs) (stripe : Stripe) (knows : List ℕ) (o : Opening) → IsDriveShape i.shape → IsPlacing (logs 0) stripe o
    → stripe.line < i.shape.chunks
    → IsData i logs o stripe → open_addresses i logs ≡ open_addresses i (after logs (Place stripe) knows) + i.shape.ws_opt
data_addresses i logs stripe knows o drive is inside its =
    placed_by i logs stripe knows o i.shape.ws_opt is inside
    (left_less i.shape (logs 0) o its.next.not_failed (past_start i.shape (logs 0) o drive.ws_opt its.start_landed)
    (stripe_within (length (stripes_of (logs 0) o)) i.shape.ws_opt (end_address i.shape o) (whole_to_end i.shape o drive) its.within)
    ∙ ap (λ n. n + i.shape.ws_opt) (sym (here i.shape (logs 0) stripe knows o is)))

left_same : (s : Shape) (log : List Logged) (o : Opening)
    → (next_address s log o + s.ws_opt ≤ start_len s) ⊎ ((end_address s o ≤ next_address s log o) ⊎ (has_failed log o ≡ true))
    → unplaced_in s log (Opened o) ≡ (if has_failed log o then 0 else end_address s o - max (start_len s) ((length (stripes_of log o) + 1) * s.ws_opt)) + 0
left_same s log o (inl before) =
    let next : (length (stripes_of log o) + 1) * s.ws_opt ≡ next_address s log o + s.ws_opt = omega arith in
    let E : ℕ = end_address s o in
    let sums : E - max (start_len s) (next_address s log o) ≡ E - max (start_len s) (next_address s log o + s.ws_opt) = omega arith in
    ap (λ n. if has_failed log o then 0 else n) (sums ∙ ap (λ n. E - max (start_len s) n) (sym next)) ∙ sym (add-zero _)
left_same s log o (inr (inl past)) =
    let next : (length (stripes_of log o) + 1) * s.ws_opt ≡ next_address s log o + s.ws_opt = omega arith in
    let E : ℕ = end_address s o in
    let sums : E - max (start_len s) (next_address s log o) ≡ E - max (start_len s) (next_address s log o + s.ws_opt) = omega arith in
    ap (λ n. if has_failed log o then 0 else n) (sums ∙ ap (λ n. E - max (start_len s) n) (sym next)) ∙ sym (add-zero _)
left_same s log o (inr (inr failed)) =
    ap (λ b. if b then 0 else end_address s o - max (start_len s) (next_address s log o)) failed
    ∙ ap (λ b. (if b then 0 else end_address s o - max (start_len s) ((length (stripes_of log o) + 1) * s.ws_opt)) + 0) (sym failed)

-- another stripe takes none
pub other_addresses : (i : Image) (logs : Logs) (stripe : Stripe) (knows : List ℕ) (o : Opening) → IsDriveShape i.shape → IsPlacing (logs 0) stripe o
    → stripe.line < i.shape.chunks
    → IsStart i logs o stripe ⊎ (IsEnd i logs o stripe ⊎ IsPad i logs o stripe) → open_addresses i (after logs (Place stripe) knows) ≡ open_addresses i logs
other_addresses i logs stripe knows o drive is inside its =
    let same : open_addresses i logs ≡ open_addresses i (after logs (Place stripe) knows) + 0 =
    placed_by i logs stripe knows o 0 is inside
    (left_same i.shape (logs 0) o (where_to its) ∙ ap (λ n. n + 0) (sym (here i.shape (logs 0) stripe knows o is))) in
    omega arith
  where
    where_to : IsStart i logs o stripe ⊎ (IsEnd i logs o stripe ⊎ IsPad i logs o stripe)
        → (next_address i.shape (logs 0) o + i.shape.ws_opt ≤ start_len i.shape)
        ⊎ ((end_address i.shape o ≤ next_address i.shape (logs 0) o) ⊎ (has_failed (logs 0) o ≡ true))
    where_to (inl start) = inl (stripe_within (length (stripes_of (logs 0) o)) i.shape.ws_opt (start_len i.shape) (whole_start i.shape) start.within)
    where_to (inr (inl end)) = inr (inl end.from)
    where_to (inr (inr pad)) = inr (inr pad.failed)
