-- What a note brings: an arm that met it is an arm, and a worker a worker.
use Rattle.std.proofs.Common.{◌≡◌, ℕ, suc, ◌+◌, ◌-◌, ◌^◌, List, [], ◌∷◌, ◌++◌, length, length-append, min, slice_get, None, Some, refl, sym, subst, ap, ◌∙◌}
use Rattle.std.specs.List.{Contains}
use Rattle.atomic_table.specs.Seated.{TableId}
use Rattle.pblk_core.specs.Filling.{Filling}
use Rattle.pblk_world.specs.AtRest.{AreResetsNoted}
use Rattle.pblk_world.specs.Commanding.{ended_stripes}
use Rattle.pblk_world.specs.Events.{Logged}
use Rattle.unit_port.specs.Unit.{ModelUnit}
use Rattle.pblk_model.proofs.Parts.{is_in}
use Rattle.chronicle.specs.Views.{Past}
use Rattle.chronicle.specs.Handles.{AuthorView, NoteView, TokenView, note_of}
use Rattle.chronicle.specs.Prefixes.{Prefixes, logs_of, longer_of, ArePrefixes, AreLegalLogs}
use Rattle.write_ring.specs.declared.view.Key.{Key}
use Rattle.pblk_engine.specs.Arms.{IsArmOf, IsUnitOf, arm_view}
use Rattle.pblk_engine.specs.ArmViews.{IsArmOfMount}
use Rattle.pblk_engine.specs.Mounts.{IsMounted}
use Rattle.pblk_engine.specs.Notes.{IsNoteOf}
use Rattle.pblk_engine.specs.Workers.{Made, IsWorkerOf, WasMade}
use Rattle.pblk_engine.proofs.ArmLogs.{arm_stays}
use Rattle.pblk_engine.proofs.Noted.{noted_together}
use Rattle.pblk_engine.proofs.NotedCommands.{all_made, still_made}

-- ---- what is known of a known world

same_known : {a b : Prefixes} → a ≡ b → AreResetsNoted (logs_of b) → AreResetsNoted (logs_of a)
same_known same noted = subst (λ k. AreResetsNoted (logs_of k)) (sym same) noted

pub noted_met : (a b c : Prefixes) → c ≡ longer_of a b → ArePrefixes a c → ArePrefixes b c → AreResetsNoted (logs_of a) → AreResetsNoted (logs_of b)
    → AreResetsNoted (logs_of c)
noted_met a b c is keeps learns of_a of_b =
    same_known is (noted_together a b (subst (ArePrefixes a) is keeps) (subst (ArePrefixes b) is learns) of_a of_b)

pub same_legal : (past other : Past) (known : Prefixes) → other ≡ past → AreLegalLogs other.image known → AreLegalLogs past.image known
same_legal past other known same legal = subst (λ (p : Past). AreLegalLogs p.image known) same legal

pub same_begun : (past other : Past) (known : Prefixes) → other ≡ past → ArePrefixes other.logs known → ArePrefixes past.logs known
same_begun past other known same begun = subst (λ (p : Past). ArePrefixes p.logs known) same begun

module _ (chronicle : TableId) (past : Past) where
  -- ---- a worker

  pub worker_note : (token : TokenView) (number : ℕ) (stripe : Filling) (made : List Made) → IsWorkerOf chronicle past token number stripe made
      → IsNoteOf chronicle past (note_of token)
  worker_note token number stripe made is =
      record { of = is.of; over = is.over; legal = is.legal; begun = is.begun; noted = is.noted }

  -- whose token learned more, and made these commands
  worker_then : (token new : TokenView) (note : Prefixes) (number : ℕ) (stripe : Filling) (made now : List Made)
      → IsWorkerOf chronicle past token number stripe made → AreResetsNoted (logs_of note)
      → new ≡ record token { known = longer_of token.known note; makers = new.makers; spare = new.spare } → ArePrefixes token.known new.known
      → ArePrefixes note new.known → AreLegalLogs new.past.image new.known → ArePrefixes new.past.logs new.known
      → new.makers ≡ record { worker = number; made = length now } ∷ [] → new.spare ≡ None
      → ((k : ℕ) (m : Made) → slice_get now k ≡ Some m → WasMade (logs_of new.known) number k m)
      → IsWorkerOf chronicle past new number stripe now
  worker_then token new note number stripe made now is noted met keeps learns legal begun makers spare each =
      let over : new.past ≡ past = ap (λ (t : TokenView). t.past) met ∙ is.over in
      record {
        of = ap (λ (t : TokenView). t.chronicle) met ∙ is.of;
        over = over;
        legal = same_legal past new.past new.known over legal;
        begun = same_begun past new.past new.known over begun;
        noted = noted_met token.known note new.known (ap (λ (t : TokenView). t.known) met) keeps learns is.noted noted;
        makers = makers;
        spare = spare;
        shape = is.shape;
        each = each;
      }

  pub worker_met : (token new : TokenView) (note : Prefixes) (number : ℕ) (stripe : Filling) (made : List Made)
      → IsWorkerOf chronicle past token number stripe made → AreResetsNoted (logs_of note)
      → new ≡ record token { known = longer_of token.known note } → ArePrefixes token.known new.known
      → ArePrefixes note new.known → AreLegalLogs new.past.image new.known → ArePrefixes new.past.logs new.known
      → IsWorkerOf chronicle past new number stripe made
  worker_met token new note number stripe made is noted met keeps learns legal begun =
      worker_then token new note number stripe made made is noted
      (met ∙ ap (λ (t : TokenView). record token { known = longer_of token.known note; makers = t.makers; spare = t.spare }) (sym met)) keeps learns legal begun
      (ap (λ (t : TokenView). t.makers) met ∙ is.makers) (ap (λ (t : TokenView). t.spare) met ∙ is.spare)
      (λ k m there. still_made token.known new.known number k m keeps (is.each k m there))

  -- with one command more, which the note knows
  pub worker_done : (token new : TokenView) (note : Prefixes) (number : ℕ) (stripe : Filling) (made : List Made)
      → IsWorkerOf chronicle past token number stripe made → AreResetsNoted (logs_of note)
      → new ≡ record token { known = longer_of token.known note; makers = record { worker = number; made = length made + 1 } ∷ []; spare = None }
      → ArePrefixes token.known new.known
      → ArePrefixes note new.known → AreLegalLogs new.past.image new.known → ArePrefixes new.past.logs new.known
      → (m : Made) → WasMade (logs_of note) number (length made) m → (now : List Made) → now ≡ made ++ m ∷ []
      → IsWorkerOf chronicle past new number stripe now
  worker_done token new note number stripe made is noted met keeps learns legal begun m was now now_is =
      let long : length made + 1 ≡ length now = sym (ap (λ (xs : List Made). length xs) now_is ∙ length-append made (m ∷ [])) in
      worker_then token new note number stripe made now is noted
      (met ∙ ap (λ (t : TokenView). record token { known = longer_of token.known note; makers = t.makers; spare = t.spare }) (sym met)) keeps learns legal begun
      (ap (λ (t : TokenView). t.makers) met ∙ ap (λ n. record { worker = number; made = n } ∷ []) long) (ap (λ (t : TokenView). t.spare) met)
      (subst (λ (xs : List Made). (k : ℕ) (x : Made) → slice_get xs k ≡ Some x → WasMade (logs_of new.known) number k x) (sym now_is)
      (all_made token.known note new.known number made m keeps learns is.each was))

  -- ---- an arm

  module _ (handed : List ModelUnit) (wear : List (List ℕ)) (number : ℕ) (u : ModelUnit) (worn : List ℕ) where
    -- it knows more of others' logs
    pub unit_met : (a new : AuthorView) → IsUnitOf chronicle past handed wear a number u worn → new ≡ record a { known = new.known }
        → logs_of new.known (suc number) ≡ logs_of a.known (suc number) → AreLegalLogs new.past.image new.known → ArePrefixes new.past.logs new.known
        → IsUnitOf chronicle past handed wear new number u worn
    unit_met a new is met own legal begun =
        let over : new.past ≡ past = ap (λ (x : AuthorView). x.past) met ∙ is.over in
        record {
          of = ap (λ (x : AuthorView). x.chronicle) met ∙ is.of;
          over = over;
          numbered = ap (λ (x : AuthorView). x.number) met ∙ is.numbered;
          owned = ap (λ (x : AuthorView). x.owned) met ∙ is.owned;
          legal = same_legal past new.past new.known over legal;
          begun = same_begun past new.past new.known over begun;
          in_range = is.in_range;
          before = is.before;
          there = is.there;
          arm = arm_stays past.image (logs_of a.known) (logs_of new.known) number is.before u own is.arm;
          has_wear = is.has_wear;
        }

    pub arm_met : (a new : AuthorView) (note : Prefixes) (ended : ℕ) → IsArmOf chronicle past handed wear a number u worn ended
        → AreResetsNoted (logs_of note) → new ≡ record a { known = longer_of a.known note }
        → ((author : ℕ) → Contains a.owned author → logs_of new.known author ≡ logs_of a.known author)
        → ArePrefixes a.known new.known → ArePrefixes note new.known → AreLegalLogs new.past.image new.known → ArePrefixes new.past.logs new.known
        → IsArmOf chronicle past handed wear new number u worn ended
    arm_met a new note ended is noted met owns keeps learns legal begun =
        let known : new.known ≡ longer_of a.known note = ap (λ (x : AuthorView). x.known) met in
        let own : logs_of new.known (suc number) ≡ logs_of a.known (suc number) =
        owns (suc number) (subst (λ xs. Contains xs (suc number)) (sym is.unit.owned) (is_in (suc number ∷ []) 0 (suc number) refl)) in
        record {
          unit = unit_met a new is.unit (met ∙ ap (λ k. record a { known = k }) (sym known)) own legal begun;
          noted = noted_met a.known note new.known known keeps learns is.noted noted;
          makers = ap (λ (x : AuthorView). x.makers) met ∙ is.makers;
          spare = ap (λ (x : AuthorView). x.spare) met ∙ is.spare;
          counted = is.counted ∙ ap (λ (xs : List Logged). min (ended_stripes xs) (2 ^ 64 - 1)) (sym own);
        }

    -- a note of all that its author knows
    pub unit_note : (a : AuthorView) (note : NoteView) → IsUnitOf chronicle past handed wear a number u worn → AreResetsNoted (logs_of a.known)
        → note.chronicle ≡ a.chronicle → note.past ≡ a.past → note.known ≡ a.known → IsNoteOf chronicle past note
    unit_note a note is noted of over known = record {
      of = of ∙ is.of;
      over = over ∙ is.over;
      legal = subst (λ k. AreLegalLogs past.image k) (sym known) is.legal;
      begun = subst (λ k. ArePrefixes past.logs k) (sym known) is.begun;
      noted = same_known known noted;
    }

    -- it numbers other commands, or none
    pub unit_numbers : (a new : AuthorView) → IsUnitOf chronicle past handed wear a number u worn
        → new ≡ record a { makers = new.makers; spare = new.spare } → IsUnitOf chronicle past handed wear new number u worn
    unit_numbers a new is same = subst (λ (x : AuthorView). IsUnitOf chronicle past handed wear x number u worn) (sym same) (record {
      of = is.of;
      over = is.over;
      numbered = is.numbered;
      owned = is.owned;
      legal = is.legal;
      begun = is.begun;
      in_range = is.in_range;
      before = is.before;
      there = is.there;
      arm = is.arm;
      has_wear = is.has_wear;
    })

-- ---- what contracts see of an arm

pub arm_of_mount : (chronicle : TableId) (past : Past) (key : Key) (handed : List ModelUnit) (wear : List (List ℕ)) → IsMounted past key handed wear
    → (a : AuthorView) (number : ℕ) (u : ModelUnit) (worn : List ℕ) → IsUnitOf chronicle past handed wear a number u worn
    → IsArmOfMount past key handed wear (arm_view number a.known u)
arm_of_mount chronicle past key handed wear mounted a number u worn is = record {
  mounted = mounted;
  legal = is.legal;
  begun = is.begun;
  in_range = is.in_range;
  before = is.before;
  there = is.there;
  arm = is.arm;
}
