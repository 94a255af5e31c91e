-- The chunk that a core names to be reset.
use Rattle.std.proofs.Common.{◌≡◌, ◌⊎◌, inl, inr, ℕ, ◌<◌, if◌then◌else◌, Bool, true, false, Some, None, Option, List, [], ◌∷◌, refl, sym, ap, ◌∙◌, arith, ◌+◌, ◌==◌}
use Rattle.std.specs.Prelude.{slice_get}
use Rattle.std.specs.List.{filter, list_any, range_with_len}
use Rattle.std.specs.Option.{is_some, option_map_or}
use Rattle.std.proofs.lemmas.Option.{none-some}
use Rattle.pblk_model.specs.declared.shape.Shape.{Shape}
use Rattle.pblk_model.specs.Chunk.{Chunk}
use Rattle.pblk_model.specs.Shape.{units}
use Rattle.pblk_model.specs.StartRecord.{start_of}
use Rattle.pblk_model.specs.Image.{Image}
use Rattle.pblk_laws.specs.LineBlocks.{chunk_in}
use Rattle.pblk_world.specs.Events.{Logged}
use Rattle.pblk_world.specs.World.{World, Logs, log_of}
use Rattle.pblk_world.specs.EngineLog.{Begun, begun, LineLife, AsFound, Opened, Freed, Opening, life_of}
use Rattle.pblk_world.specs.Lines.{found_by, found_image, known_image, is_stray, stray_lines, is_given_up_by, strays_of, is_given_up}
use Rattle.pblk_world.specs.LegalMounts.{IsLegalMount}
use Rattle.world_laws.proofs.FoundImages.{found_strays}
use Rattle.core_laws.proofs.MadeLists.{any_passed}
use Rattle.stripe_placer.specs.Placing.{next_stripe}
use Rattle.pblk_model.proofs.Options.{none_there}
use Rattle.pblk_model.proofs.Tests.{not_true}
use Rattle.pblk_core.specs.Named.{reset_or, choice, asks_line, has_free, may_open, may_copy, is_busy, named}
use Rattle.pblk_core.specs.Resets.{is_used_state, is_used_in, used_units, units_to_reset, resets_of, resets_left, IsToReset}
use Rattle.pblk_core.specs.declared.resets.LineChunk.{LineChunk}
use Rattle.pblk_core.specs.declared.target_core.Core.{Core}
use Rattle.pblk_core.specs.declared.work.Work.{Work}
use Rattle.pblk_core.specs.declared.work.Work.TheVariants.{Reset}
use Rattle.pblk_core.proofs.FirstReset.{chunk_of, IsFirstOf, first_is, IsFirstPassed, first_passed}
use Rattle.pblk_model.proofs.Tests.{first_of}

-- ---- the core's work

abbrev reset_line : Work → ℕ
reset_line (Reset line unit) = line
reset_line other = 0

abbrev reset_unit : Work → ℕ
reset_unit (Reset line unit) = unit
reset_unit other = 0

abbrev is_reset : Work → Bool
is_reset (Reset line unit) = true
is_reset other = false

never_reset : (a b c d e f : Bool) → is_reset (choice a b c d e f) ≡ false
never_reset true b c d e f = refl
never_reset false true true true e f = refl
never_reset false true true false true f = refl
never_reset false true true false false f = refl
never_reset false true false d true f = refl
never_reset false true false d false f = refl
never_reset false false c d true f = refl
never_reset false false c d false f = refl

same_chunk : (r : LineChunk) (line unit : ℕ) → r.line ≡ line → r.unit ≡ unit → r ≡ chunk_of line unit
same_chunk r line unit a b = λ k. chunk_of (a k) (b k)

pub first_named : (o : Option LineChunk) (a b c d e f : Bool) (line unit : ℕ) → reset_or o (choice a b c d e f) ≡ Reset line unit
    → o ≡ Some (chunk_of line unit)
first_named None a b c d e f line unit is = let its : is_reset (choice a b c d e f) ≡ true = ap is_reset is in
    let none : is_reset (choice a b c d e f) ≡ false = never_reset a b c d e f in absurd cc
first_named (Some r) a b c d e f line unit is = ap Some (same_chunk r line unit (ap reset_line is) (ap reset_unit is))

pub named_first : (c : Core) (line unit : ℕ) → named c ≡ Reset line unit → slice_get (resets_left c.resets) 0 ≡ Some (chunk_of line unit)
named_first c line unit is = first_named (slice_get (resets_left c.resets) 0) (is_some (next_stripe c.placer 0)) (asks_line c) (has_free c) (may_open c)
    (may_copy c) (is_busy c) line unit is

-- ---- by the logs

pub record IsNamedReset (i : Image) (logs : Logs) (line unit : ℕ) : Type 0 where
  pub in_range : line < i.shape.chunks
  pub unit_in_range : unit < units i.shape
  pub given_up : is_given_up (logs 0) line ≡ true
  pub first : IsFirstOf (units_to_reset i logs) 0 i.shape.chunks (chunk_of line unit)
  pub passed : IsFirstPassed (is_used_in (known_image i logs) line) 0 (units i.shape) unit first.units
  pub chunk : Chunk
  pub is_chunk : chunk_in (known_image i logs) line unit ≡ Some chunk
  pub used : is_used_state chunk.state ≡ true

used_chunk : (o : Option Chunk) → option_map_or (λ (c : Chunk). is_used_state c.state) o false ≡ true
    → (c : Chunk) × (o ≡ Some c) × (is_used_state c.state ≡ true)
used_chunk None e = absurd cc
used_chunk (Some c) e = (c, refl, e)

pub reset_named : (i : Image) (logs : Logs) (line unit : ℕ) → slice_get (resets_of i logs) 0 ≡ Some (chunk_of line unit) → IsNamedReset i logs line unit
reset_named i logs line unit e = go (is_given_up (logs 0) line) refl first.is
  where
    first : IsFirstOf (units_to_reset i logs) 0 i.shape.chunks (chunk_of line unit)
    first = first_is (units_to_reset i logs) 0 i.shape.chunks (chunk_of line unit) e

    with_units : is_given_up (logs 0) line ≡ true → used_units (known_image i logs) line ≡ unit ∷ first.units → IsNamedReset i logs line unit
    with_units given is =
        let passed : IsFirstPassed (is_used_in (known_image i logs) line) 0 (units i.shape) unit first.units =
        first_passed (is_used_in (known_image i logs) line) 0 (units i.shape) unit first.units is in
        let inside : unit < 0 + units i.shape = passed.inside in
        let line_inside : line < 0 + i.shape.chunks = first.inside in
        let used = used_chunk (chunk_in (known_image i logs) line unit) passed.passes in
        record {
          in_range = omega arith;
          unit_in_range = omega arith;
          given_up = given;
          first = first;
          passed = passed;
          chunk = used.0;
          is_chunk = used.1;
          used = used.2;
        }

    go : (b : Bool) → is_given_up (logs 0) line ≡ b → (if b then used_units (known_image i logs) line else []) ≡ unit ∷ first.units
        → IsNamedReset i logs line unit
    go true given is = with_units given is
    go false given is = absurd (none-some unit (ap (λ xs. slice_get xs 0) is))

pub to_reset : (i : Image) (logs : Logs) (line unit : ℕ) → IsNamedReset i logs line unit → IsToReset i logs line unit
to_reset i logs line unit is = record {
  in_range = is.in_range;
  unit_in_range = is.unit_in_range;
  given_up = is.given_up;
  chunk = is.chunk;
  is_chunk = is.is_chunk;
  used = is.used;
}

-- ---- a line that was given up is a stray of the beginning, or was freed

pub given_by : (log : List Logged) (line : ℕ) → is_given_up log line ≡ true
    → ((life_of log line ≡ AsFound) × (list_any (λ stray. stray == line) (strays_of log) ≡ true))
    ⊎ ((past : Option Opening) × (knows : List ℕ) × (life_of log line ≡ Freed past knows))
given_by log line given = go (life_of log line) refl given
  where
    go : (life : LineLife) → life_of log line ≡ life → is_given_up_by (strays_of log) line life ≡ true
        → ((life_of log line ≡ AsFound) × (list_any (λ stray. stray == line) (strays_of log) ≡ true))
        ⊎ ((past : Option Opening) × (knows : List ℕ) × (life_of log line ≡ Freed past knows))
    go AsFound is e = inl (is, e)
    go (Opened o) is e = absurd cc
    go (Freed was knows) is e = inr (was, knows, is)

-- a stray had no start record
pub stray_unstarted : (i : Image) (w : World) (line : ℕ) (b : Begun) → IsLegalMount i w → begun (log_of w 0) ≡ Some b → line < i.shape.chunks
    → list_any (λ stray. stray == line) (strays_of (log_of w 0)) ≡ true → start_of (found_image i (log_of w)) line ≡ None
stray_unstarted i w line b mount begins inside among =
    let strays : strays_of (log_of w 0) ≡ stray_lines (found_image i (log_of w)) =
    ap (λ (o : Option Begun). option_map_or (λ (x : Begun). x.beginning.strays) o []) begins ∙ found_strays i w b mount.legal begins in
    let shape : (found_image i (log_of w)).shape ≡ i.shape = found_shape i (log_of w) in
    let stray : is_stray (found_image i (log_of w)) line ≡ true =
    sym (any_passed (is_stray (found_image i (log_of w))) 0 i.shape.chunks line (omega arith) (omega arith))
    ∙ ap (λ (s : Shape). list_any (λ stray. stray == line) (filter (is_stray (found_image i (log_of w))) (range_with_len 0 s.chunks))) (sym shape)
    ∙ sym (ap (list_any (λ stray. stray == line)) strays) ∙ among in
    none_there (start_of (found_image i (log_of w)) line) (not_true (is_some (start_of (found_image i (log_of w)) line)) (first_of _ _ stray))
  where
    found_shape : (j : Image) (ls : Logs) → (found_image j ls).shape ≡ j.shape
    found_shape j ls = go (begun (ls 0))
      where
        go : (o : Option Begun) → (found_by j ls o).shape ≡ j.shape
        go None = refl
        go (Some x) = refl
