-- Lemmas on the words of Geometry.
use Rattle.std.proofs.Common.{None, Option, Some, eqb, leb, ltb, refl, true, ℕ, ◌%◌, ◌*◌, ◌^◌, ◌≡◌, ◌≤◌}
use Rattle.std.proofs.lemmas.Bool.{and_parts, eqb-true, leb-true}
use Rattle.pblk_model.proofs.Tests.{below_of, some_of}
use Rattle.pblk_model.proofs.ChecksLemmas.{none_fails}
use Rattle.pblk_model.specs.Accepted.{IsDriveShape}
use Rattle.pblk_model.specs.Checks.{first_failing}
use Rattle.pblk_model.specs.Geometry.{Geometry, field_checks, geometry_refusal, length_holds, profile_checks, profile_refusal, refusal_from, shape_with}

pub none_profile : (rule : Option ℕ) → profile_refusal rule ≡ None → rule ≡ None
none_profile None e = refl
none_profile (Some rule) e = absurd cc

pub none_refused : (field rule : Option ℕ) → refusal_from field rule ≡ None → (field ≡ None) × (rule ≡ None)
none_refused None rule e = (refl, none_profile rule e)
none_refused (Some offset) rule e = absurd cc

pub drive_shape_is : (g : Geometry) (sector capacity ring : ℕ) → geometry_refusal g ≡ None → IsDriveShape (shape_with g sector capacity ring)
drive_shape_is g sector capacity ring e =
    let parts = none_refused (first_failing (field_checks g)) (first_failing (profile_checks g)) e in
    let fields = (none_fails (field_checks g) parts.0).1.1.1.1.1 in
    let rules = none_fails (profile_checks g) parts.1 in
    let lines = and_parts (leb 8 g.chunks) (leb g.chunks 1024) rules.1.0 in
    let stripes = and_parts (eqb (g.ws_opt % g.ws_min) 0) (leb g.ws_opt 64) rules.1.1.0 in
    let cache = and_parts (eqb (g.mw_cunits % g.ws_opt) 0) (ltb g.mw_cunits g.clba) rules.1.1.1.1.0 in
    record {
      groups = some_of g.groups fields.0;
      pus = some_of g.pus fields.1.0;
      clba = some_of g.clba fields.1.1.1.0;
      ws_min = some_of g.ws_min fields.1.1.1.1.0;
      ws_opt = some_of g.ws_opt fields.1.1.1.1.1.0;
      few_units = leb-true (g.groups * g.pus) 64 rules.0;
      lines_low = leb-true 8 g.chunks lines.0;
      lines_high = leb-true g.chunks 1024 lines.1;
      whole_writes = eqb-true (g.ws_opt % g.ws_min) 0 stripes.0;
      short_stripes = leb-true g.ws_opt 64 stripes.1;
      whole_stripes = eqb-true (g.clba % g.ws_opt) 0 rules.1.1.1.0;
      whole_cache = eqb-true (g.mw_cunits % g.ws_opt) 0 cache.0;
      short_cache = below_of g.mw_cunits g.clba cache.1;
    }

pub holds : (bits count : ℕ) → length_holds bits count ≡ true → count ≤ 2 ^ bits
holds bits count h = leb-true count (2 ^ bits) (and_parts (leb bits 32) (leb count (2 ^ bits)) h).1
