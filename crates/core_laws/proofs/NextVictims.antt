-- The victim at work after one more event of the engine, and by what the engine knows of the logs.
use Rattle.std.proofs.Common.{◌≡◌, ℕ, ◌≤◌, zero, suc, false, None, List, [], ◌∷◌, length, refl, sym, ap, ap₂, ◌∙◌, arith, le_refl, length-append}
use Rattle.std.specs.Prelude.{map}
use Rattle.std.specs.List.{filter, fold, last_or, range_with_len}
use Rattle.std.specs.Option.{is_none, option_map, option_map_or}
use Rattle.pblk_model.specs.Contents.{head}
use Rattle.pblk_model.specs.EndRecord.{end_of}
use Rattle.pblk_model.specs.Image.{Image}
use Rattle.pblk_model.specs.StartRecord.{start_of}
use Rattle.pblk_world.specs.EngineLog.{AsFound, Freed, LineLife, life_of, Opened, Opening, has_failed, openings}
use Rattle.pblk_world.specs.Events.{EngineEvent, Decides, Logged}
use Rattle.pblk_world.specs.Lines.{chunks_of, found_image, known_image, line_data}
use Rattle.pblk_world.specs.Starts.{has_landed_start, newest_start}
use Rattle.pblk_world.specs.Victims.{Candidate, better, candidate, engine_prefix, is_failed, is_failed_in, next_victim, stays_at_work, victim}
use Rattle.pblk_world.specs.World.{Logs}
use Rattle.core_laws.specs.CandidateLines.{candidate_by}
use Rattle.core_laws.specs.ClosedLines.{closed_line}
use Rattle.core_laws.specs.KnownLogs.{AreKnown}
use Rattle.core_laws.specs.Stepping.{after}
use Rattle.core_laws.proofs.CandidateLines.{candidate_is}
use Rattle.core_laws.proofs.ClosedKept.{closed_same}
use Rattle.core_laws.proofs.Engine.{prefix_same, whole_at}
use Rattle.core_laws.proofs.KeptRows.{live_kept}
use Rattle.core_laws.proofs.KnownLines.{lines_known}
use Rattle.core_laws.proofs.LatestStarts.{numbers_of}
use Rattle.pblk_model.proofs.Maps.{made_same}
use Rattle.pblk_model.proofs.Numbers.{fun_same}

-- ---- one more event

-- it changes nothing of the victims before it
pub victim_before : (i : Image) (logs : Logs) (e : EngineEvent) (knows : List ℕ) (n : ℕ) → n ≤ length (logs 0)
    → victim i (after logs e knows) n ≡ victim i logs n
unfolding victim
victim_before i logs e knows zero within = refl
victim_before i logs e knows (suc n) within =
    ap₂ (stays_at_work i) (prefix_same logs e knows (suc n) within) (victim_before i logs e knows n (omega arith))

pub victim_next : (i : Image) (logs : Logs) (e : EngineEvent) (knows : List ℕ)
    → victim i (after logs e knows) (length (after logs e knows 0)) ≡ stays_at_work i (after logs e knows) (victim i logs (length (logs 0)))
unfolding victim
victim_next i logs e knows =
    let new : Logs = after logs e knows in
    let longer : length (new 0) ≡ suc (length (logs 0)) =
    length-append (logs 0) (record { event = Decides e; knows = knows } ∷ []) ∙ omega arith in
    let whole : engine_prefix (suc (length (logs 0))) new ≡ new =
    ap (λ n. engine_prefix n new) (sym longer) ∙ fun_same (engine_prefix (length (new 0)) new) new (whole_at new) in
    ap (victim i new) longer ∙ ap₂ (stays_at_work i) whole (victim_before i logs e knows (length (logs 0)) (le_refl (length (logs 0))))

-- ---- by what the engine knows

module _ (i : Image) (logs more : Logs) (is : AreKnown i logs more) where
  -- what reads the engine's log and the two images alone
  by_three : {X : Type 0} (f : List Logged → Image → Image → X)
      → f (more 0) (found_image i more) (known_image i more) ≡ f (logs 0) (found_image i logs) (known_image i logs)
  by_three f = λ k. f (is.own k) (is.found k) (is.image k)

  failed_known : (life : LineLife) (line : ℕ) → is_failed_in i more life line ≡ is_failed_in i logs life line
  failed_known AsFound line = ap (λ (f : Image). option_map_or (λ start. is_none (end_of f line start)) (start_of f line) false) is.found
  failed_known (Opened o) line = ap (λ (log : List Logged). has_failed log o) is.own
  failed_known (Freed was knows) line = refl

  pub closed_known : (line : ℕ) → closed_line i more line ≡ closed_line i logs line
  closed_known line = closed_same i more logs line (ap (λ (log : List Logged). life_of log line) is.own) is.found
      (ap (λ (j : Image). chunks_of j line) is.image)

  pub newest_known : newest_start i more ≡ newest_start i logs
  newest_known = by_three (λ log found known. last_or (head found) (map (λ (o : Opening). o.start) (filter (has_landed_start i.shape log) (openings log))))

  pub is_failed_known : (line : ℕ) → is_failed i more line ≡ is_failed i logs line
  is_failed_known line = ap (λ (log : List Logged). is_failed_in i more (life_of log line) line) is.own ∙ failed_known (life_of (logs 0) line) line

  pub candidate_known : (line : ℕ) → candidate i more line ≡ candidate i logs line
  candidate_known line =
      candidate_is i more line
      ∙ (λ k. candidate_by (closed_known line k) (option_map numbers_of (newest_known k)) (is_failed_known line k)
      (live_kept i logs more line (lines_known i logs more is) k) i.shape.ws_opt (line_data (is.image k) line) line)
      ∙ sym (candidate_is i logs line)

  pub next_known : next_victim i more ≡ next_victim i logs
  next_known = ap (λ cs. option_map (λ (c : Candidate). c.line) (fold better None cs))
      (made_same (candidate i more) (candidate i logs) candidate_known (range_with_len 0 i.shape.chunks))
