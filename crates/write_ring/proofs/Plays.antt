-- What each step on slots may do, at the numbers that the code has.
use Rattle.std.proofs.Common.{◌≡◌, ℕ, ◌+◌, ◌-◌, ◌*◌, ◌%◌, ◌^◌, ◌<◌, ◌≤◌, eqb, List, [], ◌∷◌, true, false, IsTrue, None, Some, refl, sym, ap, ◌∙◌, subst, arith}
use Rattle.std.proofs.Math.Nat.{mod-lt}
use prog.Atomic.{either}
use Rattle.atomic_table.specs.Table.{State, Me, Allows, rest}
use Rattle.sector_pool.specs.declared.entry.Entry.{Entry}
use Rattle.write_ring.specs.declared.cell.Cell.{Cell}
use Rattle.write_ring.specs.declared.cell.Cell.TheVariants as cell
use Rattle.write_ring.specs.declared.view.Key.{Key}
use Rattle.write_ring.specs.declared.view.View.{View}
use Rattle.write_ring.specs.Frames.{IsFree, IsBlank, Carries, Fits, entry_row, front_row, is_copy}
use Rattle.write_ring.specs.Rule.{claimed_at, freed_at}
use Rattle.write_ring.specs.Cells.{slot}
use Rattle.write_ring.specs.Steps.{Claims, put_next, gave_back, took_free, freed_next}
use Rattle.write_ring.specs.Tells.{Gains, Finds}
use Rattle.write_ring.proofs.Moves.{Rule}
use Rattle.write_ring.proofs.SlotMoves.{claims_user, claims_copy, fills, finds}
use Rattle.write_ring.proofs.DeskMoves.{gives_back, takes_free, frees}

-- a step tells less
allows_less : {S : Type 0} (holds : State S View → Type 0) (slots by : ℕ) (me : Me S View) (i : ℕ) (f : ℕ → ℕ) (then later : ℕ → Me S View → Type 0)
    → Allows holds slots by me i f then → ((n : ℕ) (m : Me S View) → then n m → later n m) → Allows holds slots by me i f later
allows_less holds slots by me i f then later may less s h long there small =
    let was = may s h long there small in
    (was.0, was.1, was.2, was.3, less _ _ was.4)

-- a slot's turn word is one of the words
pub turn_inside : (at size words : ℕ) → 0 < size → words ≡ 48 + 16 * size → 48 + 16 * (at % size) < words
turn_inside at size words some long = let low = mod-lt at some in omega (arith, low, long)

-- the slots that a seat holds, with what follows the first
pub in_front : {S : Type 0} (l : List (ℕ × S)) (k : ℕ) (x : S) → l ≡ (k, x) ∷ [] → l ≡ (k, x) ∷ rest l
in_front l k x is = is ∙ ap (λ xs. (k, x) ∷ xs) (sym (ap rest is))

module _ (key : Key) where
  abbrev Kept : State Cell View → Type 0
  Kept = Rule key IsFree IsBlank Carries Fits

  abbrev Claiming : Me Cell View → ℕ → ℕ → ℕ → ℕ → (ℕ → Me Cell View → Type 0) → Type 0
  Claiming me slots by old new then = Allows Kept slots by me claimed_at (λ n. either (eqb n old) new n) then

  pub claims_user_at : (by : ℕ) (me : Me Cell View) (slots old new : ℕ) → slots ≡ key.size → me.1 ≡ [] → 0 < me.0.pass.shares
      → me.0.pass.next ≡ me.0.pass.until → me.0.found.claimed ≡ old → old < new → new ≤ 2 ^ 62 → new ≤ me.0.found.granted
      → Allows Kept slots by me claimed_at (λ n. either (eqb n old) new n) (λ n m. Claims false me.0 old new n m.0 × Gains IsFree me.0 slots old new n m.1)
  claims_user_at by me slots old new all_slots at_rest sharing none_open saw rises most limit =
      subst (λ (l : List (ℕ × Cell)). Claiming (me.0, l) slots by old new (λ n m. Claims false me.0 old new n m.0 × Gains IsFree me.0 slots old new n m.1))
      (sym at_rest) (claims_user key IsFree IsBlank Carries Fits by me.0 slots old new all_slots sharing none_open saw rises most limit)

  pub claims_copy_at : (by : ℕ) (me : Me Cell View) (slots old new : ℕ) → slots ≡ key.size → me.1 ≡ [] → 0 < me.0.pass.shares
      → me.0.pass.next ≡ me.0.pass.until → me.0.found.claimed ≡ old → old < new → new ≤ 2 ^ 62 → new ≤ me.0.found.freed + key.size → IsTrue me.0.pass.copier
      → Allows Kept slots by me claimed_at (λ n. either (eqb n old) new n) (λ n m. Claims true me.0 old new n m.0 × Gains IsFree me.0 slots old new n m.1)
  claims_copy_at by me slots old new all_slots at_rest sharing none_open saw rises most limit copies =
      subst (λ (l : List (ℕ × Cell)). Claiming (me.0, l) slots by old new (λ n m. Claims true me.0 old new n m.0 × Gains IsFree me.0 slots old new n m.1))
      (sym at_rest) (claims_copy key IsFree IsBlank Carries Fits by me.0 slots old new all_slots sharing none_open saw rises most limit copies)

  abbrev Filling : ℕ → ℕ → View → List (ℕ × Cell) → ℕ → ℕ → ℕ → Type 0
  Filling slots by v l at size first = Allows Kept slots by (v, l) (48 + 16 * (at % size)) (λ _. at - first + 1) (λ _ m. m ≡ (put_next v (front_row l), rest l))

  pub fills_at : (by : ℕ) (me : Me Cell View) (v : View) (e : Entry) (held : List (ℕ × Cell)) (slots at size first : ℕ) → slots ≡ key.size → key.size ≡ size
      → key.first ≡ first → me ≡ (v, (at % size, cell.Filled e) ∷ held) → at ≡ v.pass.next → 0 < v.pass.shares → at < v.pass.until
      → e.position ≡ at → is_copy e.class ≡ v.pass.copy → Fits v.key (entry_row e) → e.frame.region ≡ v.key.origin.region
      → Allows Kept slots by me (48 + 16 * (at % size)) (λ _. at - first + 1) (λ _ m. m ≡ (put_next me.0 (front_row me.1), rest me.1))
  fills_at by me v e held slots at size first all_slots is_size is_first is is_at sharing some_open position class fit own =
      let next = v.pass.next in
      let one : Filling slots by v ((next % key.size, cell.Filled e) ∷ held) next key.size key.first =
      fills key IsFree IsBlank Carries Fits by v (cell.Filled e) (entry_row e) held slots all_slots sharing (subst (λ k. k < v.pass.until) is_at some_open)
      (e, refl, refl, own) (position ∙ is_at) class fit in
      let two : Filling slots by v ((at % key.size, cell.Filled e) ∷ held) at key.size key.first =
      subst (λ k. Filling slots by v ((k % key.size, cell.Filled e) ∷ held) k key.size key.first) (sym is_at) one in
      let three : Filling slots by v ((at % size, cell.Filled e) ∷ held) at size key.first =
      subst (λ k. Filling slots by v ((at % k, cell.Filled e) ∷ held) at k key.first) is_size two in
      let four : Filling slots by v ((at % size, cell.Filled e) ∷ held) at size first =
      subst (λ k. Filling slots by v ((at % size, cell.Filled e) ∷ held) at size k) is_first three in
      subst (λ (m : Me Cell View). Filling slots by m.0 m.1 at size first) (sym is) four

  abbrev Loading : ℕ → ℕ → View → List (ℕ × Cell) → ℕ → ℕ → (ℕ → Me Cell View → Type 0) → Type 0
  Loading slots by v l at size then = Allows Kept slots by (v, l) (48 + 16 * (at % size)) (λ n. n) then

  pub finds_at : (by : ℕ) (me : Me Cell View) (slots at size : ℕ) → slots ≡ key.size → key.size ≡ size → 0 < size → at ≡ me.0.intake.taken
      → me.1 ≡ [] → IsTrue me.0.intake.on → me.0.intake.away ≡ None
      → Allows Kept slots by me (48 + 16 * (at % size)) (λ n. n) (Finds Carries Fits me.0 slots)
  finds_at by me slots at size all_slots is_size large is_at at_rest is_on home =
      let v = me.0 in
      let one : Loading slots by v [] v.intake.taken key.size (Finds Carries Fits v slots) =
      finds key IsFree IsBlank Carries Fits by v slots all_slots (subst (λ k. 0 < k) (sym is_size) large) is_on home in
      let two : Loading slots by v [] at key.size (Finds Carries Fits v slots) =
      subst (λ k. Loading slots by v [] k key.size (Finds Carries Fits v slots)) (sym is_at) one in
      let three : Loading slots by v [] at size (Finds Carries Fits v slots) =
      subst (λ k. Loading slots by v [] at k (Finds Carries Fits v slots)) is_size two in
      subst (λ l. Loading slots by v l at size (Finds Carries Fits v slots)) (sym at_rest) three

  pub gives_back_at : (by : ℕ) (me : Me Cell View) (v : View) (held : List (ℕ × Cell)) (slots at size : ℕ) → slots ≡ key.size → key.size ≡ size → 0 < size
      → me ≡ (v, (at % size, cell.Empty) ∷ held) → IsTrue v.intake.on → v.intake.away ≡ Some at
      → Allows Kept slots by me (48 + 16 * (at % size)) (λ n. n) (λ n m. m ≡ (gave_back me.0 n, rest me.1))
  gives_back_at by me v held slots at size all_slots is_size large is is_on out =
      let one : Loading slots by v ((at % key.size, cell.Empty) ∷ held) at key.size (λ n m. m ≡ (gave_back v n, held)) =
      gives_back key IsFree IsBlank Carries Fits by v at cell.Empty held slots all_slots (subst (λ k. 0 < k) (sym is_size) large) is_on out refl in
      let two : Loading slots by v ((at % size, cell.Empty) ∷ held) at size (λ n m. m ≡ (gave_back v n, held)) =
      subst (λ k. Loading slots by v ((at % k, cell.Empty) ∷ held) at k (λ n m. m ≡ (gave_back v n, held))) is_size one in
      subst (λ (me : Me Cell View). Loading slots by me.0 me.1 at size (λ n m. m ≡ (gave_back me.0 n, rest me.1))) (sym is) two

  pub takes_empty_at : (by : ℕ) (me : Me Cell View) (slots at size : ℕ) → slots ≡ key.size → key.size ≡ size → at ≡ me.0.intake.freed
      → me.1 ≡ [] → IsTrue me.0.intake.on → me.0.intake.away ≡ None → me.0.intake.freed < me.0.intake.taken
      → Allows Kept slots by me (48 + 16 * (at % size)) (λ n. n) (λ n m. m ≡ (took_free me.0 n, (slot slots me.0.intake.freed, cell.Empty) ∷ []))
  takes_empty_at by me slots at size all_slots is_size is_at at_rest is_on home some_taken =
      let v = me.0 in
      let Told = λ (n : ℕ) (m : Me Cell View). m ≡ (took_free v n, (slot slots v.intake.freed, cell.Empty) ∷ []) in
      let one : Loading slots by v [] v.intake.freed key.size Told =
      allows_less Kept slots by (v, []) (48 + 16 * (v.intake.freed % key.size)) (λ n. n)
      (λ n m. (c : Cell) × IsBlank c × (m ≡ (took_free v n, (slot slots v.intake.freed, c) ∷ []))) Told
      (takes_free key IsFree IsBlank Carries Fits by v slots all_slots is_on home some_taken)
      (λ n m was. was.2 ∙ ap (λ x. (took_free v n, (slot slots v.intake.freed, x) ∷ [])) was.1) in
      let two : Loading slots by v [] at key.size Told = subst (λ k. Loading slots by v [] k key.size Told) (sym is_at) one in
      let three : Loading slots by v [] at size Told = subst (λ k. Loading slots by v [] at k Told) is_size two in
      subst (λ l. Loading slots by v l at size Told) (sym at_rest) three

  pub frees_at : (by : ℕ) (me : Me Cell View) (v : View) (x : Cell) (held : List (ℕ × Cell)) (slots at size : ℕ) → slots ≡ key.size → key.size ≡ size → 0 < size
      → me ≡ (v, (at % size, x) ∷ held) → at ≡ v.intake.freed → IsTrue v.intake.on → v.intake.away ≡ Some v.intake.freed → IsFree v.key x
      → Allows Kept slots by me freed_at (λ _. at + 1) (λ _ m. m ≡ (freed_next me.0, rest me.1))
  frees_at by me v x held slots at size all_slots is_size large is is_at is_on out free =
      let one : Allows Kept slots by (v, (v.intake.freed % key.size, x) ∷ held) freed_at (λ _. v.intake.freed + 1) (λ _ m. m ≡ (freed_next v, held)) =
      frees key IsFree IsBlank Carries Fits by v x held slots all_slots (subst (λ k. 0 < k) (sym is_size) large) is_on out free in
      let two : Allows Kept slots by (v, (at % key.size, x) ∷ held) freed_at (λ _. at + 1) (λ _ m. m ≡ (freed_next v, held)) =
      subst (λ k. Allows Kept slots by (v, (k % key.size, x) ∷ held) freed_at (λ _. k + 1) (λ _ m. m ≡ (freed_next v, held))) (sym is_at) one in
      let three : Allows Kept slots by (v, (at % size, x) ∷ held) freed_at (λ _. at + 1) (λ _ m. m ≡ (freed_next v, held)) =
      subst (λ k. Allows Kept slots by (v, (at % k, x) ∷ held) freed_at (λ _. at + 1) (λ _ m. m ≡ (freed_next v, held))) is_size two in
      subst (λ (me : Me Cell View). Allows Kept slots by me freed_at (λ _. at + 1) (λ _ m. m ≡ (freed_next me.0, rest me.1))) (sym is) three
