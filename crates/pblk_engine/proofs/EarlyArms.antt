-- An arm as the mount begins: no unit knows of the beginning, so nothing was reset, and no stripe
-- has ended.
use Rattle.std.proofs.Common.{◌≡◌, ℕ, suc, ◌-◌, ◌^◌, ◌<◌, ◌&&◌, true, false, cond, nat_lt, Some, None, List, [], ◌∷◌, length, min, take, refl, sym, subst, ap, ◌∙◌}
use Rattle.std.specs.List.{AllByRecursion, filter}
use Rattle.std.specs.Option.{option_map_or}
use Rattle.std.specs.Prelude.{slice_get}
use Rattle.std.proofs.lemmas.Option.{same_Some}
use Rattle.atomic_table.specs.Seated.{TableId}
use Rattle.pblk_model.specs.Chunk.{Chunk}
use Rattle.pblk_model.specs.ChunkStep.{ChunkCommand, Read, Reset, Write}
use Rattle.pblk_model.specs.Image.{Image}
use Rattle.pblk_model.specs.Shape.{units}
use Rattle.pblk_model.specs.UnitLog.{UnitEvent}
use Rattle.pblk_model.proofs.Options.{split_then}
use Rattle.pblk_model.proofs.Parts.{all_get}
use Rattle.pblk_world.specs.AtRest.{AreResetsNoted}
use Rattle.pblk_world.specs.Commanding.{IsCommand, ended_stripes, ends_program, ends_stripe, is_reset}
use Rattle.pblk_world.specs.EngineLog.{begun}
use Rattle.pblk_world.specs.Events.{Logged}
use Rattle.pblk_world.specs.Legal.{IsLegal}
use Rattle.pblk_world.specs.World.{World, Logs, knows_engine, log_of, prefixes, unit_event_of}
use Rattle.unit_port.specs.Unit.{ModelUnit}
use Rattle.world_laws.specs.EarlyLogs.{AreEarly}
use Rattle.world_laws.proofs.Deeds.{IsDeed, deed}
use Rattle.chronicle.specs.Handles.{AuthorView, first_author, first_token, note_of}
use Rattle.chronicle.specs.Views.{Past}
use Rattle.chronicle.specs.Prefixes.{logs_of, ArePrefixes}
use Rattle.write_ring.specs.declared.view.Key.{Key}
use base.Growing.{prefix_refl}
use Rattle.pblk_engine.specs.Arms.{IsArm, IsArmOf}
use Rattle.pblk_engine.specs.Mounts.{IsMounted}
use Rattle.pblk_engine.specs.Notes.{IsNoteOf}

-- ---- no stripe has ended

ends_late : (l : Logged) → knows_engine l ≡ 0 → ends_stripe l ≡ false
ends_late l early = ap (λ n. nat_lt 0 n && option_map_or ends_program (unit_event_of l.event) false) early

pub none_ended : (log : List Logged) → AllByRecursion (λ l. knows_engine l ≡ 0) log → ended_stripes log ≡ 0
none_ended [] early = refl
none_ended (l ∷ log) early =
    ap (λ b. length (cond b (l ∷ filter ends_stripe log) (filter ends_stripe log))) (ends_late l early.0) ∙ none_ended log early.1

-- ---- nothing was reset

no_reset : (i : Image) (logs : Logs) (unit : ℕ) (c : Chunk) (chunk : ℕ) (command : ChunkCommand) → IsCommand i logs unit c chunk command None
    → is_reset command ≡ true → ⊥
no_reset i logs unit c chunk (Write at blocks) may reset = cc
no_reset i logs unit c chunk (Read b) may reset = cc
no_reset i logs unit c chunk Reset may reset = may

pub early_noted : (i : Image) (w : World) → IsLegal i w → AreEarly (log_of w) → AreResetsNoted (log_of w)
early_noted i w legal early unit number is =
    let at = split_then (λ (l : Logged). unit_event_of l.event) (slice_get (log_of w (suc unit)) number) is.event is.is_known in
    let d : IsDeed i w unit number at.0 = deed i w unit number at.0 legal at.1 in
    let same : d.event ≡ is.event = same_Some d.event is.event (sym d.is_event ∙ at.2) in
    let knew : knows_engine at.0 ≡ 0 = all_get (λ l. knows_engine l ≡ 0) (log_of w (suc unit)) number at.0 (early unit) at.1 in
    no_reset i (prefixes at.0 (log_of w)) unit d.found d.event.chunk d.event.command
    (subst (λ n. IsCommand i (prefixes at.0 (log_of w)) unit d.found d.event.chunk d.event.command (begun (take n (log_of w 0)))) knew d.command)
    (ap (λ (e : UnitEvent). is_reset e.command) same ∙ is.reset)

module _ (chronicle : TableId) (past : Past) (key : Key) (handed : List ModelUnit) (wear : List (List ℕ)) (mounted : IsMounted past key handed wear)
    (early : AreEarly (logs_of past.logs)) where
  pub past_noted : AreResetsNoted (logs_of past.logs)
  past_noted = subst AreResetsNoted mounted.legal.logs
      (early_noted past.image mounted.legal.world mounted.legal.legal (subst AreEarly (sym mounted.legal.logs) early))

  past_begun : ArePrefixes past.logs past.logs
  past_begun = record { each = λ author. prefix_refl (logs_of past.logs author) }

  -- what the chronicle's first token knows is a note's
  pub first_note : IsNoteOf chronicle past (note_of (first_token chronicle past))
  first_note = record { of = refl; over = refl; legal = mounted.legal; begun = past_begun; noted = past_noted }

  -- the arm
  pub first_arm : (a : AuthorView) (number : ℕ) (u : ModelUnit) (worn : List ℕ) → a ≡ first_author chronicle past (suc number)
      → number < units past.image.shape → (before : ModelUnit) → slice_get handed number ≡ Some before
      → IsArm past.image (logs_of past.logs) number before u → slice_get wear number ≡ Some worn
      → IsArmOf chronicle past handed wear a number u worn 0
  first_arm a number u worn fresh within before there arm has_wear =
      subst (λ (x : AuthorView). IsArmOf chronicle past handed wear x number u worn 0) (sym fresh) (record {
        unit = record {
          of = refl;
          over = refl;
          numbered = refl;
          owned = refl;
          legal = mounted.legal;
          begun = past_begun;
          in_range = within;
          before = before;
          there = there;
          arm = arm;
          has_wear = has_wear;
        };
        noted = past_noted;
        makers = refl;
        spare = refl;
        counted = ap (λ n. min n (2 ^ 64 - 1)) (sym (none_ended (logs_of past.logs (suc number)) (early number)));
      })
