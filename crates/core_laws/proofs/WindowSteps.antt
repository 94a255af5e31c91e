-- The steps of a window by which entries land and become readable.
use Rattle.std.proofs.Common.{◌≡◌, ◌≢◌, ℕ, ◌+◌, ◌-◌, ◌<◌, ◌≤◌, ◌==◌, ◌||◌, zero, suc, nat_eq, Bool, true, false, Some, None, Option, List, [], ◌∷◌, refl, sym, ap, ap₂, ◌∙◌, arith}
use Rattle.std.specs.Prelude.{map, slice_get, if◌then◌else◌}
use Rattle.std.specs.Option.{option_map_or}
use Rattle.std.proofs.lemmas.Bool.{eqb-true}
use Rattle.write_window.specs.declared.held.Progress.{Progress}
use Rattle.write_window.specs.declared.held.Progress.TheVariants.{Waiting, Landed, Readable}
use Rattle.write_window.specs.declared.held.Held.{Held}
use Rattle.write_window.specs.Entries.{has_landed, AreFrom, with_progress}
use Rattle.write_window.specs.Window.{WindowView, has_landed_at, turned}
use Rattle.core_laws.specs.WindowOf.{HeldSector, HeldSectors, without_frame, sectors_in}
use Rattle.core_laws.proofs.Placing.{not_below}
use Rattle.core_laws.specs.AdvancedEntries.{advanced, advanced_sector, advanced_window}
use Rattle.pblk_model.proofs.Tests.{other_number, same_number}

-- ---- one entry

-- the entries from a position on, where the one at an index is another
turned_entries : (lands reads : ℕ → Bool) (to : Progress) (held : List Held) (first index : ℕ) → AreFrom first held
    → ((h : Held) → slice_get held index ≡ Some h → to ≡ advanced (lands (first + index)) (reads (first + index)) h.progress)
    → ((q : ℕ) → q ≢ first + index → (lands q ≡ false) × (reads q ≡ false))
    → map without_frame (with_progress held index to) ≡ map (advanced_sector lands reads) (map without_frame held)
turned_entries lands reads to [] first index from here other = refl
turned_entries lands reads to (h ∷ held) first index from here other =
    go index here other (λ k a b. turned_entries lands reads to held (first + 1) k from.1 a b)
  where
    stay : (p : Progress) → advanced false false p ≡ p
    stay Waiting = refl
    stay Landed = refl
    stay Readable = refl

    kept : (h : Held) → (lands h.entry.position ≡ false) × (reads h.entry.position ≡ false) → without_frame h ≡ advanced_sector lands reads (without_frame h)
    kept h none = ap (λ (p : Progress). record (without_frame h) { progress = p })
        (sym (stay h.progress) ∙ ap₂ (λ a b. advanced a b h.progress) (sym none.0) (sym none.1))

    all_kept : (rest : List Held) (n m : ℕ) → AreFrom n rest → m < n → ((q : ℕ) → q ≢ m → (lands q ≡ false) × (reads q ≡ false))
        → map without_frame rest ≡ map (advanced_sector lands reads) (map without_frame rest)
    all_kept [] n m from below none = refl
    all_kept (g ∷ rest) n m from below none =
        ap₂ (λ (x : HeldSector) xs. x ∷ xs) (kept g (none g.entry.position (λ e. absurd (let at : g.entry.position ≡ n = from.0 in omega arith))))
        (all_kept rest (n + 1) m from.1 (omega arith) none)

    go : (index : ℕ) → ((g : Held) → slice_get (h ∷ held) index ≡ Some g → to ≡ advanced (lands (first + index)) (reads (first + index)) g.progress)
        → ((q : ℕ) → q ≢ first + index → (lands q ≡ false) × (reads q ≡ false))
        → ((k : ℕ) → ((g : Held) → slice_get held k ≡ Some g → to ≡ advanced (lands (first + 1 + k)) (reads (first + 1 + k)) g.progress)
        → ((q : ℕ) → q ≢ first + 1 + k → (lands q ≡ false) × (reads q ≡ false))
        → map without_frame (with_progress held k to) ≡ map (advanced_sector lands reads) (map without_frame held))
        → map without_frame (with_progress (h ∷ held) index to) ≡ map (advanced_sector lands reads) (map without_frame (h ∷ held))
    go zero here other rest =
        let at : first + 0 ≡ h.entry.position = (let own : h.entry.position ≡ first = from.0 in omega arith) in
        ap₂ (λ (x : HeldSector) xs. x ∷ xs)
        (ap (λ (p : Progress). record (without_frame h) { progress = p }) (here h refl ∙ ap (λ q. advanced (lands q) (reads q) h.progress) at))
        (all_kept held (first + 1) (first + 0) from.1 (omega arith) other)
    go (suc k) here other rest =
        let next : first + suc k ≡ first + 1 + k = omega arith in
        ap₂ (λ (x : HeldSector) xs. x ∷ xs)
        (kept h (other h.entry.position (λ e. absurd (let own : h.entry.position ≡ first = from.0 in omega arith))))
        (rest k (λ g e. here g e ∙ ap (λ q. advanced (lands q) (reads q) g.progress) next) (λ q apart. other q (λ e. apart (e ∙ next))))

-- ---- the two calls

held_here : (w : WindowView) (q : ℕ) (b : Bool) → w.freed ≤ q → has_landed_at w q ≡ b → (h : Held) → slice_get w.entries (q - w.freed) ≡ Some h
    → has_landed h.progress ≡ b
held_here w q b within e h at =
    sym (ap (λ (o : Option Held). option_map_or (λ (h : Held). has_landed h.progress) o false)
    (ap (λ c. if c then None else slice_get w.entries (q - w.freed)) (not_below w.freed q within) ∙ at)) ∙ e

lands_it : (p : Progress) → has_landed p ≡ false → Landed ≡ advanced true false p
lands_it Waiting e = refl
lands_it Landed e = absurd cc
lands_it Readable e = absurd cc

lands_again : (p : Progress) → has_landed p ≡ true → p ≡ advanced true false p
lands_again Waiting e = absurd cc
lands_again Landed e = refl
lands_again Readable e = refl

reads_it : (p : Progress) → has_landed p ≡ true → Readable ≡ advanced false true p
reads_it Waiting e = absurd cc
reads_it Landed e = refl
reads_it Readable e = refl

by_turn : (w : WindowView) (q : ℕ) (lands reads : ℕ → Bool) (to : Progress) → AreFrom w.freed w.entries → w.freed ≤ q
    → ((h : Held) → slice_get w.entries (q - w.freed) ≡ Some h → to ≡ advanced (lands q) (reads q) h.progress)
    → ((x : ℕ) → x ≢ q → (lands x ≡ false) × (reads x ≡ false))
    → sectors_in (turned w q to) ≡ advanced_window lands reads (sectors_in w)
by_turn w q lands reads to from within here other =
    let at : w.freed + (q - w.freed) ≡ q = omega arith in
    ap (λ hs. record (sectors_in w) { entries = hs })
    (turned_entries lands reads to w.entries w.freed (q - w.freed) from
    (λ h e. here h e ∙ ap (λ x. advanced (lands x) (reads x) h.progress) (sym at)) (λ x apart. other x (λ e. apart (e ∙ sym at))))

pub step_landed : (w : WindowView) (q : ℕ) → AreFrom w.freed w.entries → w.freed ≤ q → has_landed_at w q ≡ false
    → sectors_in (turned w q Landed) ≡ advanced_window (λ x. x == q) (λ x. false) (sectors_in w)
step_landed w q from within e = by_turn w q (λ x. x == q) (λ x. false) Landed from within
    (λ h at. lands_it h.progress (held_here w q false within e h at) ∙ ap (λ b. advanced b false h.progress) (sym (same_number q)))
    (λ x apart. (other_number x q apart, refl))

pub step_readable : (w : WindowView) (q : ℕ) → AreFrom w.freed w.entries → w.freed ≤ q → has_landed_at w q ≡ true
    → sectors_in (turned w q Readable) ≡ advanced_window (λ x. false) (λ x. x == q) (sectors_in w)
step_readable w q from within e = by_turn w q (λ x. false) (λ x. x == q) Readable from within
    (λ h at. reads_it h.progress (held_here w q true within e h at) ∙ ap (λ b. advanced false b h.progress) (sym (same_number q)))
    (λ x apart. (refl, other_number x q apart))

-- an entry that had landed stays
again_entries : (q : ℕ) (held : List Held) (first : ℕ) → AreFrom first held
    → ((k : ℕ) (h : Held) → first + k ≡ q → slice_get held k ≡ Some h → has_landed h.progress ≡ true)
    → map without_frame held ≡ map (advanced_sector (λ x. x == q) (λ x. false)) (map without_frame held)
again_entries q [] first from all = refl
again_entries q (h ∷ held) first from all =
    ap₂ (λ (x : HeldSector) xs. x ∷ xs) (ap (λ (p : Progress). record (without_frame h) { progress = p }) (go (nat_eq h.entry.position q) refl))
    (again_entries q held (first + 1) from.1 (λ k g e at. all (suc k) g (let next : first + suc k ≡ first + 1 + k = omega arith in next ∙ e) at))
  where
    stay : (p : Progress) → advanced false false p ≡ p
    stay Waiting = refl
    stay Landed = refl
    stay Readable = refl

    go : (b : Bool) → nat_eq h.entry.position q ≡ b → h.progress ≡ advanced (h.entry.position == q) false h.progress
    go true e =
        let at : first + 0 ≡ q = (let own : h.entry.position ≡ first = from.0 in let same : h.entry.position ≡ q =
        eqb-true h.entry.position q e in omega arith) in
        lands_again h.progress (all 0 h at refl) ∙ ap (λ b. advanced b false h.progress) (sym e)
    go false e = sym (stay h.progress) ∙ ap (λ b. advanced b false h.progress) (sym e)

pub step_again : (w : WindowView) (q : ℕ) → AreFrom w.freed w.entries → has_landed_at w q ≡ true
    → sectors_in w ≡ advanced_window (λ x. x == q) (λ x. false) (sectors_in w)
step_again w q from e = ap (λ hs. record (sectors_in w) { entries = hs })
    (again_entries q w.entries w.freed from
    (λ k h at there. held_here w q true (omega arith) e h (let index : q - w.freed ≡ k = omega arith in ap (slice_get w.entries) index ∙ there)))

-- ---- steps one after another

each_sector : (f g : HeldSector → HeldSector) → ((h : HeldSector) → f h ≡ g h) → (hs : List HeldSector) → map f hs ≡ map g hs
each_sector f g same [] = refl
each_sector f g same (h ∷ hs) = ap₂ (λ (x : HeldSector) xs. x ∷ xs) (same h) (each_sector f g same hs)

twice : (f g : HeldSector → HeldSector) (hs : List HeldSector) → map f (map g hs) ≡ map (λ h. f (g h)) hs
twice f g [] = refl
twice f g (h ∷ hs) = ap (λ xs. f (g h) ∷ xs) (twice f g hs)

more_lands : (a b : Bool) (p : Progress) → advanced b false (advanced a false p) ≡ advanced (a || b) false p
more_lands true b Waiting = refl
more_lands false b Waiting = refl
more_lands a b Landed = refl
more_lands a b Readable = refl

more_reads : (l a b : Bool) (p : Progress) → advanced false b (advanced l a p) ≡ advanced l (a || b) p
more_reads true true b Waiting = refl
more_reads true false b Waiting = refl
more_reads false a b Waiting = refl
more_reads l true b Landed = refl
more_reads l false b Landed = refl
more_reads l a b Readable = refl

nothing_more : (p : Progress) → advanced false false p ≡ p
nothing_more Waiting = refl
nothing_more Landed = refl
nothing_more Readable = refl

pub lands_more : (lands also : ℕ → Bool) (w : HeldSectors)
    → advanced_window also (λ q. false) (advanced_window lands (λ q. false) w) ≡ advanced_window (λ q. lands q || also q) (λ q. false) w
lands_more lands also w = ap (λ hs. record w { entries = hs })
    (twice (advanced_sector also (λ q. false)) (advanced_sector lands (λ q. false)) w.entries
    ∙ each_sector (λ h. advanced_sector also (λ q. false) (advanced_sector lands (λ q. false) h)) (advanced_sector (λ q. lands q || also q) (λ q. false))
    (λ h. ap (λ (p : Progress). record h { progress = p }) (more_lands (lands h.position) (also h.position) h.progress)) w.entries)

pub reads_more : (lands reads also : ℕ → Bool) (w : HeldSectors)
    → advanced_window (λ q. false) also (advanced_window lands reads w) ≡ advanced_window lands (λ q. reads q || also q) w
reads_more lands reads also w = ap (λ hs. record w { entries = hs })
    (twice (advanced_sector (λ q. false) also) (advanced_sector lands reads) w.entries
    ∙ each_sector (λ h. advanced_sector (λ q. false) also (advanced_sector lands reads h)) (advanced_sector lands (λ q. reads q || also q))
    (λ h. ap (λ (p : Progress). record h { progress = p }) (more_reads (lands h.position) (reads h.position) (also h.position) h.progress)) w.entries)

pub no_more : (w : HeldSectors) → advanced_window (λ q. false) (λ q. false) w ≡ w
no_more w = ap (λ hs. record w { entries = hs }) (all w.entries)
  where
    all : (hs : List HeldSector) → map (advanced_sector (λ q. false) (λ q. false)) hs ≡ hs
    all [] = refl
    all (h ∷ hs) = ap₂ (λ (x : HeldSector) xs. x ∷ xs) (ap (λ (p : Progress). record h { progress = p }) (nothing_more h.progress)) (all hs)
