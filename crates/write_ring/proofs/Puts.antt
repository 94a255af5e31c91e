-- A batch goes into the ring draft by draft.
use Rattle.std.proofs.Common.{◌≡◌, ℕ, suc, ◌+◌, ◌-◌, ◌%◌, ◌^◌, ◌<◌, ◌≤◌, List, [], ◌∷◌, length, refl, sym, ap, ◌∙◌, subst, arith, append_assoc}
use Rattle.std.proofs.lemmas.List.{append-nil}
use Rattle.std.specs.List.{AllByRecursion}
use Rattle.atomic_table.specs.Table.{Me, rest}
use Rattle.pblk_model.specs.Frames.{FrameView}
use Rattle.sector_pool.specs.declared.entry.Class.{Class}
use Rattle.sector_pool.specs.declared.entry.Class.TheVariants as class
use Rattle.write_ring.specs.declared.cell.Cell.{Cell}
use Rattle.write_ring.specs.declared.cell.Cell.TheVariants as cell
use Rattle.write_ring.specs.declared.draft.Draft.{Draft}
use Rattle.write_ring.specs.declared.view.Key.{Key}
use Rattle.write_ring.specs.declared.view.View.{View}
use Rattle.write_ring.specs.Batches.{BatchView, CanPut, IsDraft, put_all, row_at, rows_from}
use Rattle.write_ring.specs.Cells.{slots_with}
use Rattle.write_ring.specs.Frames.{Fits, IsFree, is_copy}
use Rattle.write_ring.specs.Handles.{puts_rows, saw_limit}
use Rattle.write_ring.specs.Steps.{add_claim, claimed_to, met_claimed, put_next, with_pass}
use Rattle.write_ring.specs.Tells.{HasSlots}

-- what is left to put, and what the seat knows: to put the rest is to put all
pub record Putting (c : Class) (key : Key) (v : View) (first : ℕ) (before : BatchView) (me : Me Cell View) (at : ℕ) (b : BatchView) : Type 0 where
  pub key_is : me.0.key ≡ key
  pub sharing : 0 < me.0.pass.shares
  pub next : at ≡ me.0.pass.next
  pub until : me.0.pass.until ≡ at + length b.drafts
  pub high : key.first ≤ at
  pub small : at + length b.drafts ≤ 2 ^ 62
  pub slots : HasSlots IsFree key key.size at (length b.drafts) me.1
  pub copies : is_copy c ≡ me.0.pass.copy
  pub fits : AllByRecursion (CanPut c key) b.drafts
  pub own : b.region ≡ key.origin.region
  pub region : b.region ≡ before.region
  pub count : b.count ≡ before.count
  pub free : b.free + length b.drafts ≡ before.free + length before.drafts
  pub put : put_all c me.0 at b.drafts ≡ put_all c v first before.drafts

-- the first of the slots has a free frame, and the others are the slots of the positions behind
pub front_free : (key : Key) (size at n : ℕ) (held : List (ℕ × Cell)) → HasSlots IsFree key size at (suc n) held
    → (f : FrameView) × (held ≡ (at % size, cell.Free f) ∷ rest held) × (f.region ≡ key.origin.region)
front_free key size at n held ([], many, free, is) = absurd (omega (arith, many))
front_free key size at n held (x ∷ xs, many, free, is) = (
  free.0.0,
  is ∙ ap (λ (y : Cell). (at % size, y) ∷ slots_with size (suc at) xs) free.0.1 ∙ ap (λ l. (at % size, cell.Free free.0.0) ∷ l) (sym (ap rest is)),
  free.0.2,
)

pub slots_behind : (key : Key) (size at n : ℕ) (held : List (ℕ × Cell)) → HasSlots IsFree key size at (suc n) held
    → HasSlots IsFree key size (at + 1) n (rest held)
slots_behind key size at n held ([], many, free, is) = absurd (omega (arith, many))
slots_behind key size at n held (x ∷ xs, many, free, is) =
    let next : suc at ≡ at + 1 = omega arith in
    (xs, omega (arith, many), free.1, ap rest is ∙ ap (λ k. slots_with size k xs) next)

pub no_slots : (key : Key) (size at : ℕ) (held : List (ℕ × Cell)) → HasSlots IsFree key size at 0 held → held ≡ []
no_slots key size at held ([], many, free, is) = is
no_slots key size at held (x ∷ xs, many, free, is) = absurd (omega (arith, many))

module _ (c : Class) (key : Key) (v : View) (first : ℕ) (before : BatchView) (me : Me Cell View) (at : ℕ) (b : BatchView) (d : Draft) (ds : List Draft)
    (h : Putting c key v first before me at b) (is : b.drafts ≡ d ∷ ds) where
  one_more : length b.drafts ≡ suc (length ds)
  one_more = ap length is

  pub now_free : (f : FrameView) × (me.1 ≡ (at % key.size, cell.Free f) ∷ rest me.1) × (f.region ≡ key.origin.region)
  now_free = front_free key key.size at (length ds) me.1 (subst (λ n. HasSlots IsFree key key.size at n me.1) one_more h.slots)

  pub now_fits : IsDraft b.region d → Fits key (row_at c at d)
  now_fits own =
      let all = subst (λ l. AllByRecursion (CanPut c key) l) is h.fits in
      (all.0.0, all.0.1, own.1 ∙ ap (λ r. r.size) h.own)

  pub now_open : at < me.0.pass.until
  now_open = let more = one_more in omega (arith, h.until, more)

  pub now_small : at + 1 ≤ 2 ^ 62
  now_small = let more = one_more in omega (arith, h.small, more)

  pub putting_next : (me' : Me Cell View) (b' : BatchView) → me' ≡ (put_next me.0 (row_at c at d), rest me.1) → b'.drafts ≡ ds → b'.free ≡ b.free + 1
      → b'.region ≡ b.region → b'.count ≡ b.count → Putting c key v first before me' (at + 1) b'
  putting_next me' b' me_is drafts_is free_is region_is count_is =
      let more = one_more in
      let many : length b'.drafts ≡ length ds = ap length drafts_is in
      let part = ap (λ (m : Me Cell View). m.0.pass) me_is in
      record {
        key_is = ap (λ (m : Me Cell View). m.0.key) me_is ∙ h.key_is;
        sharing = subst (λ k. 0 < k) (sym (ap (λ p. p.shares) part)) h.sharing;
        next = ap (λ k. k + 1) h.next ∙ sym (ap (λ p. p.next) part);
        until = ap (λ p. p.until) part ∙ omega (arith, h.until, more, many);
        high = omega (arith, h.high);
        small = omega (arith, h.small, more, many);
        slots = subst (λ n. HasSlots IsFree key key.size (at + 1) n me'.1) (sym many)
            (subst (λ l. HasSlots IsFree key key.size (at + 1) (length ds) l) (sym (ap (λ (m : Me Cell View). m.1) me_is))
            (slots_behind key key.size at (length ds) me.1 (subst (λ n. HasSlots IsFree key key.size at n me.1) more h.slots)));
        copies = h.copies ∙ sym (ap (λ p. p.copy) part);
        fits = subst (λ l. AllByRecursion (CanPut c key) l) (sym drafts_is) (subst (λ l. AllByRecursion (CanPut c key) l) is h.fits).1;
        own = region_is ∙ h.own;
        region = region_is ∙ h.region;
        count = count_is ∙ h.count;
        free = omega (arith, h.free, free_is, more, many);
        put = ap (λ (u : View). put_all c u (at + 1) b'.drafts) (ap (λ (m : Me Cell View). m.0) me_is)
            ∙ ap (put_all c (put_next me.0 (row_at c at d)) (at + 1)) drafts_is ∙ sym (ap (put_all c me.0 at) is) ∙ h.put;
      }

-- once all drafts are put, nothing is open
pub put_rows : (c : Class) (v : View) (at : ℕ) (ds : List Draft) → v.pass.until ≡ v.pass.next + length ds
    → put_all c v at ds ≡ with_pass v (puts_rows v.pass (rows_from c at ds))
put_rows c v at [] all =
    let p = v.pass in
    let none : p.next ≡ p.until = omega (arith, all) in
    ap (λ k. with_pass v (record p { next = k })) none
    ∙ ap (λ l. with_pass v (record p { puts = l; next = p.until })) (sym (append-nil p.puts))
put_rows c v at (d ∷ ds) all =
    let p = v.pass in
    put_rows c (put_next v (row_at c at d)) (at + 1) ds (omega (arith, all))
    ∙ ap (λ l. with_pass v (record p { puts = l; next = p.until })) (append_assoc p.puts (row_at c at d ∷ []) (rows_from c (at + 1) ds))

-- What the pass that claimed the place knows, once it has put all drafts there.
pub placed : (c : Class) (v w : View) (old new : ℕ) (ds : List Draft) (me : Me Cell View) → w ≡ claimed_to v old new (is_copy c) → new ≡ old + length ds
    → me ≡ (with_pass w (puts_rows w.pass (rows_from c old ds)), [])
    → me.0 ≡ with_pass (met_claimed v old) (puts_rows (add_claim v.pass (record { first = old; count = length ds; copy = is_copy c })) (rows_from c old ds))
placed c v w old new ds me claimed ends put =
    let count : new - old ≡ length ds = omega (arith, ends) in
    let b = is_copy c in
    let same = claimed ∙ ap (λ k. with_pass (met_claimed v old) (add_claim v.pass (record { first = old; count = k; copy = b }))) count in
    ap (λ (m : Me Cell View). m.0) put ∙ ap (λ (u : View). with_pass u (puts_rows u.pass (rows_from c old ds))) same

pub limit_pass : (c : Class) (u w : View) → (saw_limit c u w).pass ≡ u.pass
limit_pass class.User u w = refl
limit_pass class.Copy u w = refl

pub limit_steps : (c : Class) (u w : View) → (saw_limit c u w).found.steps ≡ u.found.steps + 1
limit_steps class.User u w = refl
limit_steps class.Copy u w = refl
