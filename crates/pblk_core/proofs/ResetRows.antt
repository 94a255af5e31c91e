-- What a reset that is noted changes in the table of lines.
use Rattle.std.proofs.Common.{◌≡◌, ◌≢◌, ◌⊎◌, inl, inr, ℕ, ◌/◌, ◌==◌, nat_eq, if◌then◌else◌, Bool, true, false, Some, None, Option, List, [], ◌∷◌, refl, sym, subst, ap, ap₂, ◌∙◌}
use Rattle.std.specs.Prelude.{⊤}
use Rattle.std.specs.List.{list_any}
use Rattle.std.proofs.lemmas.Bool.{eqb-true, eqb-false}
use Rattle.pblk_model.specs.declared.chunk.ChunkState.{ChunkState}
use Rattle.pblk_model.specs.StartRecord.{start_of}
use Rattle.pblk_model.specs.LineOrder.{data_len}
use Rattle.pblk_model.specs.Image.{Image, width}
use Rattle.pblk_world.specs.Events.{ResetDone}
use Rattle.pblk_world.specs.World.{World, Logs, log_of}
use Rattle.pblk_world.specs.EngineLog.{Begun, begun, LineLife, AsFound, Opened, Freed, Opening, life_of}
use Rattle.pblk_world.specs.Lines.{found_image, known_image, are_empty, line_data, strays_of}
use Rattle.pblk_world.specs.Placing.{line_end}
use Rattle.pblk_world.specs.Victims.{live}
use Rattle.line_table.specs.declared.row.LineState.TheVariants as states
use Rattle.line_table.specs.Rows.{kept, turned}
use Rattle.pblk_world.specs.LegalMounts.{IsLegalMount}
use Rattle.core_laws.specs.RowsOf.{logs_then, state_in, state_found, width_in, taker_in, row_of_line, rows_of}
use Rattle.core_laws.specs.Stepping.{after}
use Rattle.core_laws.specs.ChangedTables.{with_row}
use Rattle.core_laws.proofs.KeptStripes.{KeepsStripes, stripes_kept, alike_kept, have_landed_alike, lives_kept}
use Rattle.core_laws.proofs.KeptRows.{KeepsLines, KeepsThen, live_kept, taker_kept, taker_same, same_row, row_kept, then_kept}
use Rattle.core_laws.proofs.LandedRows.{keeps_chunks, lines_kept}
use Rattle.core_laws.proofs.OpenAddresses.{failed_kept}
use Rattle.core_laws.proofs.FreedMoments.{freed_before}
use Rattle.core_laws.proofs.ChangedTables.{row_changes_any, rows_stay}
use Rattle.pblk_core.specs.Resets.{used_units, emptied}
use Rattle.pblk_core.proofs.LineBits.{known_count}
use Rattle.pblk_core.proofs.NamedReset.{IsNamedReset, given_by, stray_unstarted}
use Rattle.pblk_core.proofs.ResetChunks.{IsNoted}
use Rattle.pblk_core.proofs.ResetUnits.{line_left, unused_empty, used_not_empty}
use Rattle.core_laws.proofs.SteppingLemmas.{found_kept}

-- ---- another line

pub row_else : (i : Image) (w : World) (unit event line : ℕ) (knows : List ℕ) (state : ChunkState) → IsLegalMount i w
    → IsNoted i (log_of w) unit event line knows state → (m : ℕ) → m ≢ line
    → row_of_line i (after (log_of w) (ResetDone unit event) knows) m ≡ row_of_line i (log_of w) m
row_else i w unit event line knows state mount is m other =
    let new : Logs = after (log_of w) (ResetDone unit event) knows in
    let kept : KeepsStripes (log_of w 0) (new 0) = stripes_kept (log_of w 0) (ResetDone unit event) knows refl in
    row_kept i (log_of w) new m (lives_kept (log_of w 0) (ResetDone unit event) knows m refl)
    (then_kept i (log_of w) (ResetDone unit event) knows m (freed_before i w mount.legal))
    (keeps_chunks i (log_of w) (ResetDone unit event) knows m refl (λ u x told e. other (e ∙ is.told u x told)))
    (lines_kept i (log_of w) (ResetDone unit event) knows refl refl refl (λ unit. refl))
    (λ o e. ap₂ (λ a b. if a then states.Failed else if b then states.Full else states.Open) (failed_kept (log_of w 0) (new 0) kept o)
    (have_landed_alike (log_of w 0) (new 0) (alike_kept (log_of w 0) (ResetDone unit event) knows refl (λ unit. refl)) o (line_end i.shape o / i.shape.ws_opt)))

-- ---- the line

-- nothing is needed of a line of this life: it was found without a start record, or it was freed
abbrev IsNeedless : Image → Logs → ℕ → LineLife → Type 0
IsNeedless i logs line AsFound = start_of (found_image i logs) line ≡ None
IsNeedless i logs line (Opened o) = ⊥
IsNeedless i logs line (Freed past ks) = ⊤

needless : (i : Image) (w : World) (line unit : ℕ) (b : Begun) → IsLegalMount i w → begun (log_of w 0) ≡ Some b → IsNamedReset i (log_of w) line unit
    → IsNeedless i (log_of w) line (life_of (log_of w 0) line)
needless i w line unit b mount begins named = go (given_by (log_of w 0) line named.given_up)
  where
    go : ((life_of (log_of w 0) line ≡ AsFound) × (list_any (λ stray. stray == line) (strays_of (log_of w 0)) ≡ true))
        ⊎ ((past : Option Opening) × (knows : List ℕ) × (life_of (log_of w 0) line ≡ Freed past knows))
        → IsNeedless i (log_of w) line (life_of (log_of w 0) line)
    go (inl (is, stray)) = subst (IsNeedless i (log_of w) line) (sym is) (stray_unstarted i w line b mount begins named.in_range stray)
    go (inr (past, ks, is)) = subst (IsNeedless i (log_of w) line) (sym is) tt

still_needless : (i : Image) (logs new : Logs) (line : ℕ) (life : LineLife) → found_image i new ≡ found_image i logs → IsNeedless i logs line life
    → IsNeedless i new line life
still_needless i logs new line AsFound same is = ap (λ (j : Image). start_of j line) same ∙ is
still_needless i logs new line (Opened o) same is = is
still_needless i logs new line (Freed past ks) same is = tt

state_by : (i : Image) (logs : Logs) (line : ℕ) (life : LineLife) (b : Bool) → IsNeedless i logs line life → are_empty (known_image i logs) line ≡ b
    → state_in i logs line life ≡ (if b then emptied i.shape (width (known_image i logs) line) else states.Freed)
state_by i logs line life b is empty =
    go life is ∙ ap (λ c. if c then (if line_data (known_image i logs) line == 0 then states.Dead else states.Free) else states.Freed) empty
  where
    go : (life : LineLife) → IsNeedless i logs line life → state_in i logs line life
        ≡ (if are_empty (known_image i logs) line then (if line_data (known_image i logs) line == 0 then states.Dead else states.Free) else states.Freed)
    go AsFound is = ap (state_found i logs line) is
    go (Opened o) is = absurd is
    go (Freed past ks) is = refl

-- its width, while a used chunk is left and once none is
width_left : (i : Image) (logs new : Logs) (line : ℕ) (life : LineLife) → IsNeedless i logs line life → found_image i new ≡ found_image i logs
    → KeepsThen i logs new line life → are_empty (known_image i logs) line ≡ false → are_empty (known_image i new) line ≡ false
    → width_in i new line life ≡ width_in i logs line life
width_left i logs new line AsFound is found then_ was now =
    ap (λ b. if b then width (known_image i new) line else width (found_image i new) line) now ∙ ap (λ (j : Image). width j line) found
    ∙ sym (ap (λ b. if b then width (known_image i logs) line else width (found_image i logs) line) was)
width_left i logs new line (Opened o) is found then_ was now = absurd is
width_left i logs new line (Freed past ks) is found then_ was now =
    ap (λ b. if b then width (known_image i new) line else width (known_image i (logs_then ks new)) line) now ∙ then_.0
    ∙ sym (ap (λ b. if b then width (known_image i logs) line else width (known_image i (logs_then ks logs)) line) was)

width_now : (i : Image) (logs : Logs) (line : ℕ) (life : LineLife) → IsNeedless i logs line life → are_empty (known_image i logs) line ≡ true
    → width_in i logs line life ≡ width (known_image i logs) line
width_now i logs line AsFound is now = ap (λ b. if b then width (known_image i logs) line else width (found_image i logs) line) now
width_now i logs line (Opened o) is now = absurd is
width_now i logs line (Freed past ks) is now = ap (λ b. if b then width (known_image i logs) line else width (known_image i (logs_then ks logs)) line) now

empty_before : (i : Image) (logs : Logs) (line unit : ℕ) (named : IsNamedReset i logs line unit)
    → used_units (known_image i logs) line ≡ unit ∷ named.first.units → are_empty (known_image i logs) line ≡ false
empty_before i logs line unit named is = used_not_empty (known_image i logs) line unit named.first.units is

pub used_before : (i : Image) (logs : Logs) (line unit : ℕ) (named : IsNamedReset i logs line unit)
    → used_units (known_image i logs) line ≡ unit ∷ named.first.units
used_before i logs line unit named = ap (λ b. if b then used_units (known_image i logs) line else []) (sym named.given_up) ∙ named.first.is

-- a used chunk of it is left
pub row_freed : (i : Image) (w : World) (unit event line : ℕ) (knows : List ℕ) (state : ChunkState) (b : Begun) (u : ℕ) (us : List ℕ) → IsLegalMount i w
    → begun (log_of w 0) ≡ Some b → (named : IsNamedReset i (log_of w) line unit)
    → IsNoted i (log_of w) unit event line knows state → named.first.units ≡ u ∷ us
    → row_of_line i (after (log_of w) (ResetDone unit event) knows) line ≡ row_of_line i (log_of w) line
row_freed i w unit event line knows state b u us mount begins named is more =
    let logs : Logs = log_of w in
    let new : Logs = after (log_of w) (ResetDone unit event) knows in
    let now_life : LineLife = life_of (log_of w 0) line in
    let life : life_of (new 0) line ≡ now_life = lives_kept (log_of w 0) (ResetDone unit event) knows line refl in
    let found : found_image i new ≡ found_image i logs = found_kept i logs (ResetDone unit event) knows refl in
    let unneeded : IsNeedless i logs line now_life = needless i w line unit b mount begins named in
    let then_ = then_kept i logs (ResetDone unit event) knows line (freed_before i w mount.legal) in
    let was : are_empty (known_image i logs) line ≡ false = empty_before i logs line unit named (used_before i logs line unit named) in
    let now : are_empty (known_image i new) line ≡ false =
    used_not_empty (known_image i new) line u us (line_left i logs unit event line knows state named is ∙ more) in
    let lines : KeepsLines i logs new = lines_kept i logs (ResetDone unit event) knows refl refl refl (λ unit. refl) in
    same_row (state_in i new line (life_of (new 0) line)) (state_in i logs line now_life) (width_in i new line (life_of (new 0) line))
    (width_in i logs line now_life)
    (live i new line) (live i logs line) (taker_in i new line (life_of (new 0) line)) (taker_in i logs line now_life)
    (ap (state_in i new line) life ∙ state_by i new line now_life false (still_needless i logs new line now_life found unneeded) now
    ∙ sym (state_by i logs line now_life false unneeded was))
    (ap (width_in i new line) life ∙ width_left i logs new line now_life unneeded found then_ was now)
    (live_kept i logs new line lines)
    (ap (taker_in i new line) life ∙ taker_same i logs new line now_life then_ (taker_kept i logs new line lines))

kept_taker : (n wide : ℕ) (t : Option ℕ) → kept (if n == 0 then states.Dead else states.Free) t ≡ t
kept_taker n wide t = go (n == 0)
  where
    go : (b : Bool) → kept (if b then states.Dead else states.Free) t ≡ t
    go true = refl
    go false = refl

-- none is left
pub row_emptied : (i : Image) (w : World) (unit event line : ℕ) (knows : List ℕ) (state : ChunkState) (b : Begun) → IsLegalMount i w
    → begun (log_of w 0) ≡ Some b → (named : IsNamedReset i (log_of w) line unit)
    → IsNoted i (log_of w) unit event line knows state → named.first.units ≡ []
    → row_of_line i (after (log_of w) (ResetDone unit event) knows) line
    ≡ turned (emptied i.shape (width (known_image i (after (log_of w) (ResetDone unit event) knows)) line))
    (width (known_image i (after (log_of w) (ResetDone unit event) knows)) line) (row_of_line i (log_of w) line)
row_emptied i w unit event line knows state b mount begins named is none =
    let logs : Logs = log_of w in
    let new : Logs = after (log_of w) (ResetDone unit event) knows in
    let wide : ℕ = width (known_image i new) line in
    let now_life : LineLife = life_of (log_of w 0) line in
    let life : life_of (new 0) line ≡ now_life = lives_kept (log_of w 0) (ResetDone unit event) knows line refl in
    let found : found_image i new ≡ found_image i logs = found_kept i logs (ResetDone unit event) knows refl in
    let unneeded : IsNeedless i new line now_life = still_needless i logs new line now_life found (needless i w line unit b mount begins named) in
    let then_ = then_kept i logs (ResetDone unit event) knows line (freed_before i w mount.legal) in
    let now : are_empty (known_image i new) line ≡ true =
    unused_empty (known_image i new) line (known_count i w new mount) (line_left i logs unit event line knows state named is ∙ none) in
    let lines : KeepsLines i logs new = lines_kept i logs (ResetDone unit event) knows refl refl refl (λ unit. refl) in
    same_row (state_in i new line (life_of (new 0) line)) (emptied i.shape wide) (width_in i new line (life_of (new 0) line)) wide
    (live i new line) (live i logs line) (taker_in i new line (life_of (new 0) line))
    (kept (emptied i.shape wide) (taker_in i logs line now_life))
    (ap (state_in i new line) life ∙ state_by i new line now_life true unneeded now)
    (ap (width_in i new line) life ∙ width_now i new line now_life unneeded now)
    (live_kept i logs new line lines)
    (ap (taker_in i new line) life ∙ taker_same i logs new line now_life then_ (taker_kept i logs new line lines)
    ∙ sym (kept_taker (data_len i.shape wide) wide (taker_in i logs line now_life)))

-- the row that it has before
pub state_before : (i : Image) (w : World) (line unit : ℕ) (b : Begun) → IsLegalMount i w → begun (log_of w 0) ≡ Some b → IsNamedReset i (log_of w) line unit
    → (row_of_line i (log_of w) line).state ≡ states.Freed
state_before i w line unit b mount begins named =
    state_by i (log_of w) line (life_of (log_of w 0) line) false (needless i w line unit b mount begins named)
    (empty_before i (log_of w) line unit named (used_before i (log_of w) line unit named))

-- ---- the table

pub table_stays : (i : Image) (w : World) (unit event line : ℕ) (knows : List ℕ) (state : ChunkState) (b : Begun) (u : ℕ) (us : List ℕ) → IsLegalMount i w
    → begun (log_of w 0) ≡ Some b → (named : IsNamedReset i (log_of w) line unit)
    → IsNoted i (log_of w) unit event line knows state → named.first.units ≡ u ∷ us
    → rows_of i (after (log_of w) (ResetDone unit event) knows) ≡ rows_of i (log_of w)
table_stays i w unit event line knows state b u us mount begins named is more =
    rows_stay i (log_of w) (after (log_of w) (ResetDone unit event) knows) (λ m. go m (nat_eq m line) refl)
  where
    go : (m : ℕ) (c : Bool) → nat_eq m line ≡ c → row_of_line i (after (log_of w) (ResetDone unit event) knows) m ≡ row_of_line i (log_of w) m
    go m true e =
        let same : m ≡ line = eqb-true m line e in
        ap (row_of_line i (after (log_of w) (ResetDone unit event) knows)) same ∙ row_freed i w unit event line knows state b u us mount begins named is more
        ∙ ap (row_of_line i (log_of w)) (sym same)
    go m false e = row_else i w unit event line knows state mount is m (eqb-false m line e)

pub table_turns : (i : Image) (w : World) (unit event line : ℕ) (knows : List ℕ) (state : ChunkState) (b : Begun) → IsLegalMount i w
    → begun (log_of w 0) ≡ Some b → (named : IsNamedReset i (log_of w) line unit)
    → IsNoted i (log_of w) unit event line knows state → named.first.units ≡ []
    → rows_of i (after (log_of w) (ResetDone unit event) knows)
    ≡ with_row line (turned (emptied i.shape (width (known_image i (after (log_of w) (ResetDone unit event) knows)) line))
    (width (known_image i (after (log_of w) (ResetDone unit event) knows)) line)) (rows_of i (log_of w))
table_turns i w unit event line knows state b mount begins named is none =
    row_changes_any i (log_of w) (after (log_of w) (ResetDone unit event) knows) line
    (turned (emptied i.shape (width (known_image i (after (log_of w) (ResetDone unit event) knows)) line))
    (width (known_image i (after (log_of w) (ResetDone unit event) knows)) line))
    (row_emptied i w unit event line knows state b mount begins named is none) (row_else i w unit event line knows state mount is)
