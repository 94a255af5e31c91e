-- How the locks begin and end.
use Rattle.std.proofs.Common.{◌≡◌, ℕ, zero, suc, ◌+◌, ◌*◌, ◌<◌, ◌≤◌, Bool, false, List, [], ◌∷◌, length, map, set, refl, sym, ap, ◌∙◌, subst, inl, inr, ⊎_elim, arith, IsTrue, get_or-set_same, get_or-set_other, length-set, length-append, get_or, ◌++◌}
use Rattle.std.proofs.lemmas.List.{length-replicate, get_or-replicate}
use Rattle.std.proofs.lemmas.Option.{slice_get_within, get_or_from_slice_get, slice_get_read}
use Rattle.std.proofs.Math.ListN.{get_or-append}
use Rattle.std.proofs.Math.Seq.{get_or-append_seam}
use Rattle.std.specs.Prelude.{slice_index, slice_index_or, replicate, Option, Some, None}
use mathlib.Core.Option.{some, some-injective, some-ne-none}
use mathlib.Core.Logic.{dite}
use native.Mathlib.Decide.{ℕ_discrete}
use lib.ListN.{get_elem?}
use Rattle.atomic_table.specs.Table.{Final, opening}
use Rattle.atomic_table.proofs.Lists.{at_index, at_map}
use Rattle.numbered_locks.specs.declared.view.View.{View}
use Rattle.numbered_locks.specs.Steps.{filling, word_at}
use Rattle.numbered_locks.specs.Handles.{AreKept}
use Rattle.numbered_locks.specs.Kept.{IsFree, IsHeld, IsLeft, Kept}

word_of : (ws : List ℕ) (i n : ℕ) → get_elem? ws i ≡ some n → slice_index ws i ≡ n
word_of [] i n there = absurd (some-ne-none n (sym there))
word_of (w ∷ ws) zero n there = some-injective w n there
word_of (w ∷ ws) (suc i) n there = word_of ws i n there

length_some : {A : Type 0} (xs : List A) → length (map (λ x. some x) xs) ≡ length xs
length_some [] = refl
length_some (x ∷ xs) = ap suc (length_some xs)

one_view : (v : View) (j : ℕ) (u : View) → get_elem? (v ∷ []) j ≡ some u → (j ≡ 0) × (v ≡ u)
one_view v zero u there = (refl, some-injective v u there)
one_view v (suc j) u there = absurd (some-ne-none u (sym there))

module _ {T : Type 0} (fits : ℕ → T → Type 0) (size : ℕ) where
  -- the locks at the start: the first seat has all slots, and nothing lies in them
  pub opens : (ws : List ℕ) → ws ≡ replicate (16 * size) 1 → Kept fits size (opening ws (replicate size None) (filling size))
  opens ws is = record {
    words = ap length is ∙ length-replicate (16 * size) 1;
    slots = length_some (replicate size None) ∙ length-replicate size None;
    each = λ i low. inr (record {
      word = λ zero. (let one = ap (λ l. slice_index l (word_at i)) is ∙ get_or-replicate (16 * size) (word_at i) 1 0 (omega arith) in omega arith);
      holder = 0;
      holds = (filling size, refl, inl low);
      alone = λ j h. (one_view (filling size) j h.0 h.1).0;
    });
    blank = λ j i v there low.
        let below : i < size = subst (λ u. i < u.below) (sym (one_view (filling size) j v there).1) low in
        at_map some (replicate size None) i None
        (at_index (replicate size None) i None (omega (arith, length-replicate {A = Option T} size None))
        (sym (get_or-replicate {A = Option T} size i None None below)));
  }

  -- what is left at the end
  pub ends : (ws : List ℕ) (xs : List (Option T)) → Final (Kept fits size) ws xs → IsLeft fits size ws xs
  ends ws xs f i low free =
      let s = f.0 in
      ⊎_elim
      (λ (is : IsFree fits s i). (is.value.0, f.4 i (Some is.value.0) is.value.1, is.value.2))
      (λ (is : IsHeld fits s i). absurd (is.word (ap (λ w. slice_index w (word_at i)) f.2 ∙ word_of ws (word_at i) 0 free)))
      (f.1.each i low)

-- all slots below one were taken out, and the others weren't
pub record Emptied (slots at : ℕ) (flags : List Bool) : Type 0 where
  pub long : length flags ≡ slots
  pub gone : (k : ℕ) → k < at → slice_index_or flags k false ≡ false
  pub full : (k : ℕ) → at ≤ k → k < slots → IsTrue (slice_index_or flags k false)

pub emptied_next : (slots at : ℕ) (flags new : List Bool) → Emptied slots at flags → at < slots → new ≡ set flags at false → Emptied slots (at + 1) new
emptied_next slots at flags new h low is = record {
  long = ap length is ∙ length-set flags at false ∙ h.long;
  gone = λ k before.
      ap (λ l. slice_index_or l k false) is ∙ dite (ℕ_discrete k at)
      (λ same. ap (λ k. slice_index_or (set flags at false) k false) same ∙ get_or-set_same flags at false false (omega (arith, h.long)))
      (λ differ. get_or-set_other flags at k false false differ ∙ h.gone k (omega arith));
  full = λ k after below.
      subst IsTrue (sym (ap (λ l. slice_index_or l k false) is ∙ get_or-set_other flags at k false false (λ same. omega arith))) (h.full k (omega arith) below);
}

module _ {T : Type 0} (fits : ℕ → T → Type 0) (size : ℕ) where
  pub left_still : (ws vs : List ℕ) (xs ys : List (Option T)) → vs ≡ ws → ys ≡ xs → IsLeft fits size ws xs → IsLeft fits size vs ys
  left_still ws vs xs ys words slots = subst (λ (l : List ℕ × List (Option T)). IsLeft fits size l.0 l.1) (λ i. (sym words i, sym slots i))

-- one more value, for the next place
kept_more : {V : Type 0} (keep : ℕ → V → Type 0) (xs : List V) (x : V) → AreKept keep xs → keep (length xs) x → AreKept keep (xs ++ x ∷ [])
kept_more keep xs x kept last place y there =
    let low = slice_get_within (xs ++ x ∷ []) place y there in
    let read = get_or_from_slice_get (xs ++ x ∷ []) place y y there in
    dite (ℕ_discrete place (length xs))
    (λ same.
    let is : x ≡ y = sym (get_or-append_seam xs x [] y) ∙ sym (ap (λ p. get_or (xs ++ x ∷ []) p y) same) ∙ read in
    subst (λ p. keep p y) (sym same) (subst (keep (length xs)) is last))
    (λ differ.
    let before : place < length xs = omega (arith, length-append xs (x ∷ [])) in
    kept place y (slice_get_read xs (length xs) place y refl before (sym (sym (get_or-append xs (x ∷ []) y place before) ∙ read))))

pub kept_next : {V : Type 0} (keep : ℕ → V → Type 0) (xs ys : List V) (x : V) (place : ℕ) → ys ≡ xs ++ x ∷ [] → AreKept keep xs → place ≡ length xs
    → keep place x → AreKept keep ys
kept_next keep xs ys x place is kept last fits = subst (AreKept keep) (sym is) (kept_more keep xs x kept (subst (λ p. keep p x) last fits))
