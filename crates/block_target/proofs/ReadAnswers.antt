-- What a session's read answers.
use Rattle.std.proofs.Common.{◌≡◌, ℕ, ◌+◌, ◌-◌, ◌*◌, ◌<◌, ◌≤◌, ◌^◌, zero, suc, nat_lt, Bool, true, false, cond, Some, List, [], ◌∷◌, ◌++◌, length, take, drop, slice_range, refl, sym, ap, ap₂, subst, ◌∙◌, arith, le_trans, length-append}
use Rattle.std.specs.Prelude.{map, slice_get}
use Rattle.std.specs.List.{filter}
use Rattle.std.proofs.Math.Nat.{mul-le-mul_right}
use Rattle.std.proofs.Math.Seq.{take-append_seam}
use Rattle.std.proofs.lemmas.List.{length-map, map-append}
use Rattle.std.proofs.lemmas.Option.{none-some, same_Some}
use Rattle.pblk_model.specs.declared.run.Front.{Front}
use Rattle.pblk_model.specs.Contents.{contents}
use Rattle.pblk_model.specs.History.{SectorWrite, after as after_history, users}
use Rattle.pblk_model.specs.Image.{Image}
use Rattle.pblk_model.proofs.Maps.{filter_both}
use Rattle.pblk_model.proofs.Numbers.{next_at}
use Rattle.pblk_model.proofs.Parts.{get_dropped}
use Rattle.pblk_model.proofs.Tests.{below_of}
use Rattle.pblk_world.specs.EngineLog.{Taken, begun}
use Rattle.pblk_world.specs.Events.{Logged}
use Rattle.pblk_world.specs.Fronts.{history, taken, user_takes}
use Rattle.pblk_world.specs.Lines.{found_image}
use Rattle.pblk_world.specs.World.{Logs, World, log_of}
use Rattle.world_laws.specs.EarlyLogs as early
use Rattle.world_laws.proofs.EarlierLogs.{begun_now, found_same, is_earlier}
use Rattle.unit_port.specs.Unit.{ModelUnit}
use Rattle.write_ring.specs.declared.view.Key.{Key}
use Rattle.chronicle.specs.Prefixes.{AreLegalLogs, ArePrefixes, Prefixes, logs_of}
use Rattle.chronicle.specs.Views.{Past}
use Rattle.pblk_engine.specs.Looks.{front_taken, latest_by}
use Rattle.pblk_engine.specs.Mounts.{IsMounted}
use Rattle.pblk_engine.specs.Reads.{HasReadAt, part_at}
use Rattle.pblk_engine.proofs.Accepted.{begun_known, prefixes_of}
use Rattle.pblk_engine.proofs.Settlings.{taken_prefix}
use Rattle.block_port.specs.Own.{PlacedSector, sectors_of}
use Rattle.block_port.specs.Port.{IsFront, IsSeen, Rise, contents_after, positions, sectors_at}
use Rattle.block_port.proofs.OwnLemmas.{cut_none}
use Rattle.block_target.specs.Sessions.{SessionView, device, history_lines, line_of}
use Rattle.block_target.proofs.Fills.{sectors_next}
use Rattle.block_target.proofs.LogLines.{IsMore, more_lines, users_taken}
use Rattle.block_target.proofs.SessionSteps.{numbered, taken_small}

-- ---- the lines below a front that was taken

no_users : (n to : ℕ) (xs : List PlacedSector) → Rise n to xs → users (positions xs) n ≡ 0
no_users n to [] rise = refl
no_users n to (x ∷ xs) rise =
    let rest : users (positions xs) n ≡ 0 = no_users n to xs (lower (x.position + 1) (let at : n ≤ x.position = rise.0 in omega arith) xs rise.1) in
    go rest (nat_lt x.position n) refl
  where
    lower : (b : ℕ) → n ≤ b → (ys : List PlacedSector) → Rise b to ys → Rise n to ys
    lower b le [] is = le_trans le is
    lower b le (y ∷ ys) is = (le_trans le is.0, is.1)

    go : users (positions xs) n ≡ 0 → (b : Bool) → nat_lt x.position n ≡ b
        → length (cond b (x.position ∷ filter (λ q. nat_lt q n) (positions xs)) (filter (λ q. nat_lt q n) (positions xs))) ≡ 0
    go rest true is = absurd (let low : x.position < n = below_of x.position n is in let at : n ≤ x.position = rise.0 in omega arith)
    go rest false is = rest

users_both : (n : ℕ) (ps qs : List ℕ) → users (ps ++ qs) n ≡ users ps n + users qs n
users_both n ps qs =
    ap length (filter_both (λ q. nat_lt q n) ps qs) ∙ length-append (filter (λ q. nat_lt q n) ps) (filter (λ q. nat_lt q n) qs)

-- ---- runs of sectors

range_none : {X : Type 0} (xs : List X) (at : ℕ) → slice_range xs at (at + 0) ≡ []
range_none xs at = let e : at + 0 - at ≡ 0 = omega arith in ap (λ n. take n (drop at xs)) e

take_next : {X : Type 0} (n : ℕ) (xs : List X) (x : X) → slice_get xs n ≡ Some x → take (n + 1) xs ≡ take n xs ++ x ∷ []
take_next zero [] x there = absurd (none-some x there)
take_next zero (y ∷ xs) x there = ap (λ z. z ∷ []) (same_Some y x there)
take_next (suc n) [] x there = absurd (none-some x there)
take_next (suc n) (y ∷ xs) x there = let e : suc n + 1 ≡ suc (n + 1) = omega arith in ap (λ k. take k (y ∷ xs)) e ∙ ap (λ zs. y ∷ zs) (take_next n xs x there)

range_next : {X : Type 0} (xs : List X) (at n : ℕ) (x : X) → slice_get xs (at + n) ≡ Some x
    → slice_range xs at (at + (n + 1)) ≡ slice_range xs at (at + n) ++ x ∷ []
range_next xs at n x there =
    let long : at + (n + 1) - at ≡ n + 1 = omega arith in
    let short : at + n - at ≡ n = omega arith in
    ap (λ k. take k (drop at xs)) long ∙ take_next n (drop at xs) x (get_dropped at xs n ∙ there) ∙ ap (λ k. take k (drop at xs) ++ x ∷ []) (sym short)

-- sectors that are those of a list from a place on
run_of : (size lba : ℕ) (all : List (List ℕ)) (out : List ℕ) (n count : ℕ) → 0 < size → length out ≡ count * size → n ≤ count
    → ((k : ℕ) → k * size < length out → slice_get all (lba + k) ≡ Some (part_at size k out))
    → sectors_of size n out ≡ slice_range all lba (lba + n)
run_of size lba all out zero count some whole le each = cut_none size out ∙ sym (range_none all lba)
run_of size lba all out (suc n) count some whole le each =
    let one : suc n ≡ n + 1 = omega arith in
    let e : (n + 1) * size ≡ n * size + size = next_at n size in
    let most : (n + 1) * size ≤ count * size = mul-le-mul_right size (let h : n + 1 ≤ count = omega arith in h) in
    let inside : n * size + size ≤ length out = omega (arith, e, most, whole) in
    subst (λ m. sectors_of size m out ≡ slice_range all lba (lba + m)) (sym one)
    (sectors_next size n out inside
    ∙ ap (λ (ss : List (List ℕ)). ss ++ part_at size n out ∷ [])
    (run_of size lba all out n count some whole (omega arith) each)
    ∙ sym (range_next all lba n (part_at size n out) (each n (omega arith))))

module _ (past : Past) (key : Key) (handed : List ModelUnit) (wear : List (List ℕ)) (m : IsMounted past key handed wear) where
  found_stays : (known : Prefixes) → AreLegalLogs past.image known → ArePrefixes past.logs known
      → found_image past.image (logs_of known) ≡ found_image past.image (logs_of past.logs)
  found_stays known legal since =
      let v : World = m.legal.world in
      let w : World = legal.world in
      let prefix : early.ArePrefixes w (log_of v) = prefixes_of past.logs known v w m.legal.logs legal.logs since in
      let begins : begun (log_of v 0) ≡ Some m.beginning = ap (λ (l : Logs). begun (l 0)) m.legal.logs ∙ m.has_begun in
      ap (found_image past.image) (sym legal.logs)
      ∙ found_same past.image w m.beginning v (is_earlier past.image v w m.beginning m.legal.legal prefix begins)
      (begun_now past.image v w m.beginning prefix begins)
      ∙ ap (found_image past.image) m.legal.logs

  -- the lines that a look didn't know
  unseen : (looked known : Prefixes) → AreLegalLogs past.image known → ArePrefixes past.logs looked → ArePrefixes looked known
      → IsMore (logs_of looked 0) (logs_of known 0)
  unseen looked known legal since keeps =
      more_lines (logs_of looked 0) (logs_of known 0) m.beginning (keeps.each 0) (begun_known past key handed wear looked m since)
      (numbered past key handed wear m known legal)

  pub read_seen : (old new : SessionView) (lba : ℕ) (out : List ℕ) (front : Front) → AreLegalLogs past.image new.worker.known
      → HasReadAt past old.worker.known new.worker.known old.seen lba out front → new.seen ≡ front.position
      → IsSeen front (device past handed wear old) (device past handed wear new)
  read_seen old new lba out front legal is seen =
      record { is = subst (IsFront (device past handed wear new)) (sym is.front_then) here; holds = is.seen_then; seen = seen }
    where
      log : List Logged
      log = logs_of is.looked 0

      more : IsMore log (logs_of new.worker.known 0)
      more = unseen is.looked new.worker.known legal is.look.begun is.look.within

      here : IsFront (device past handed wear new) (front_taken log)
      here = record {
        known = taken_prefix log (logs_of new.worker.known 0) (is.look.within.each 0);
        users = sym (ap (λ (ls : List PlacedSector). users (positions ls) (taken log)) more.lines
            ∙ ap (λ ps. users ps (taken log)) (map-append (λ (l : PlacedSector). l.position) (history_lines log) more.more)
            ∙ users_both (taken log) (positions (history_lines log)) (positions more.more)
            ∙ ap₂ (λ a b. a + b) (users_taken log (numbered past key handed wear m is.looked is.look.legal))
            (no_users (taken log) (taken (logs_of new.worker.known 0)) more.more more.rise)
            ∙ (let e : length (user_takes log) + 0 ≡ length (user_takes log) = omega arith in e));
      }

  pub read_small : (old : Prefixes) (new : Prefixes) (seen lba : ℕ) (out : List ℕ) (front : Front) → HasReadAt past old new seen lba out front
      → key.first ≤ 2 ^ 62 → front.position < 2 ^ 63
  read_small old new seen lba out front is low =
      let at : front.position ≡ taken (logs_of is.looked 0) = ap (λ (f : Front). f.position) is.front_then in
      let small : taken (logs_of is.looked 0) ≤ 2 ^ 62 = taken_small past key handed wear m is.looked is.look.legal is.look.begun low in
      omega arith

  pub read_words : (old new : SessionView) (lba count : ℕ) (out : List ℕ) (front : Front) → AreLegalLogs past.image new.worker.known
      → HasReadAt past old.worker.known new.worker.known old.seen lba out front → 0 < past.image.shape.sector
      → length out ≡ count * past.image.shape.sector
      → sectors_of past.image.shape.sector count out ≡ sectors_at (device past handed wear new) front lba count
  read_words old new lba count out front legal is some whole =
      run_of past.image.shape.sector lba (latest_by past.image (logs_of is.looked)) out count count some whole (omega arith) is.each
      ∙ ap (λ (all : List (List ℕ)). slice_range all lba (lba + count)) (sym held)
    where
      log : List Logged
      log = logs_of is.looked 0

      more : IsMore log (logs_of new.worker.known 0)
      more = unseen is.looked new.worker.known legal is.look.begun is.look.within

      count_is : front.users ≡ length (map (λ (l : PlacedSector). l.write) (history_lines log))
      count_is = ap (λ (f : Front). f.users) is.front_then ∙ sym (length-map (user_takes log) line_of)
          ∙ sym (length-map (history_lines log) (λ (l : PlacedSector). l.write))

      written : (ts : List Taken) → map (λ (l : PlacedSector). l.write) (map line_of ts)
          ≡ map (λ (t : Taken). record { lba = t.entry.lba; sector = t.entry.sector }) ts
      written [] = refl
      written (t ∷ ts) = ap (λ (xs : List SectorWrite). record { lba = t.entry.lba; sector = t.entry.sector } ∷ xs) (written ts)

      lines : take front.users (map (λ (l : PlacedSector). l.write) (history_lines (logs_of new.worker.known 0))) ≡ history log
      lines =
          ap₂ (λ n (ls : List PlacedSector). take n (map (λ (l : PlacedSector). l.write) ls)) count_is more.lines
          ∙ ap (take (length (map (λ (l : PlacedSector). l.write) (history_lines log))))
          (map-append (λ (l : PlacedSector). l.write) (history_lines log) more.more)
          ∙ take-append_seam (map (λ (l : PlacedSector). l.write) (history_lines log)) (map (λ (l : PlacedSector). l.write) more.more)
          ∙ written (user_takes log)

      held : contents_after (device past handed wear new) front.users ≡ latest_by past.image (logs_of is.looked)
      held = ap₂ (λ (i : Image) (ws : List SectorWrite). after_history (contents i) ws) (sym (found_stays is.looked is.look.legal is.look.begun)) lines
