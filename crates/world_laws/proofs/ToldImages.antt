-- The image that the engine knows, by what it was told.
use Rattle.std.proofs.Common.{◌≡◌, ℕ, ◌<◌, zero, suc, Option, List, [], ◌∷◌, take, refl, sym, subst, ap, ap₂, ◌∙◌, arith}
use Rattle.std.specs.Prelude.{map}
use Rattle.std.specs.List.{Contains, filter_map, cons_option, enumerate_from}
use Rattle.pblk_model.specs.Chunk.{Chunk}
use Rattle.pblk_model.specs.UnitLog.{after_log}
use Rattle.pblk_model.specs.Image.{Image}
use Rattle.pblk_world.specs.Events.{Logged}
use Rattle.pblk_world.specs.World.{Logs}
use Rattle.pblk_world.specs.Lines.{found_by, found_image, told_by, told_events, known_image}
use Rattle.pblk_world.specs.Victims.{engine_prefix}
use Rattle.pblk_world.proofs.EngineLogLemmas.{begun_taken}
use Rattle.pblk_model.proofs.Lists.{among_contained, contains_first, contains_more}
use Rattle.pblk_model.proofs.Maps.{map_same}
use Rattle.pblk_model.proofs.Parts.{get_whole, is_in}
use Rattle.world_laws.specs.SameTold.{AreSameTold}

made_of : {X Y : Type 0} (f g : X → Option Y) (xs : List X) → ((x : X) → Contains xs x → f x ≡ g x) → filter_map f xs ≡ filter_map g xs
made_of f g [] agree = refl
made_of f g (x ∷ xs) agree = ap₂ (λ o ys. cons_option o ys) (agree x (contains_first x xs)) (made_of f g xs (λ y there. agree y (contains_more x y xs there)))

pub told_same : (i : Image) (a b : Logs) (unit : ℕ) → AreSameTold i a b → told_events b unit ≡ told_events a unit
told_same i a b unit h =
    ap (filter_map (λ (l : Logged). told_by b unit l.event)) h.own
    ∙ made_of (λ (l : Logged). told_by b unit l.event) (λ (l : Logged). told_by a unit l.event) (a 0) (λ l there. h.told unit l there)

pub image_same : (i : Image) (a b : Logs) → AreSameTold i a b → known_image i b ≡ known_image i a
image_same i a b h = ap (λ us. record { shape = i.shape; units = us }) units
  where
    units : (known_image i b).units ≡ (known_image i a).units
    units =
        ap (λ (j : Image). map (λ (unit : ℕ × List Chunk). after_log i.shape unit.1 (told_events b unit.0)) (enumerate_from 0 j.units)) h.found
        ∙ map_same (λ (unit : ℕ × List Chunk). after_log i.shape unit.1 (told_events b unit.0))
        (λ (unit : ℕ × List Chunk). after_log i.shape unit.1 (told_events a unit.0))
        (λ unit. ap (after_log i.shape unit.1) (told_same i a b unit.0 h)) (enumerate_from 0 (found_image i a).units)

-- what reads the three alone
pub by_three : {X : Type 0} (i : Image) (a b : Logs) (f : List Logged → Image → Image → X) → AreSameTold i a b
    → f (b 0) (found_image i b) (known_image i b) ≡ f (a 0) (found_image i a) (known_image i a)
by_three i a b f h =
    ap (λ log. f log (found_image i b) (known_image i b)) h.own ∙ ap₂ (f (a 0)) h.found (image_same i a b h)

pub told_back : (i : Image) (a b : Logs) → AreSameTold i a b → AreSameTold i b a
told_back i a b h = record {
  own = sym h.own;
  found = sym h.found;
  told = λ unit l there. sym (h.told unit l (subst (λ (log : List Logged). Contains log l) h.own there));
}

-- ---- at earlier lengths of the engine's log

pub found_then : (i : Image) (logs : Logs) (n : ℕ) → found_image i (engine_prefix (suc n) logs) ≡ found_image i logs
found_then i logs n = ap (λ o. found_by i logs o) (begun_taken (suc n) (logs 0) (omega arith))

pub found_at : (i : Image) (logs : Logs) (n : ℕ) → 0 < n → found_image i (engine_prefix n logs) ≡ found_image i logs
found_at i logs zero some = absurd (omega arith)
found_at i logs (suc n) some = found_then i logs n

taken_there : (n : ℕ) (log : List Logged) (l : Logged) → Contains (take n log) l → Contains log l
taken_there n log l there = let at = among_contained (take n log) l there in is_in log at.0 l (get_whole n log at.0 l at.1)

pub told_then : (i : Image) (a b : Logs) (n : ℕ) → AreSameTold i a b → AreSameTold i (engine_prefix n a) (engine_prefix n b)
told_then i a b n h = record {
  own = ap (take n) h.own;
  found = found n;
  told = λ unit l there. h.told unit l (taken_there n (a 0) l there);
}
  where
    found : (n : ℕ) → found_image i (engine_prefix n b) ≡ found_image i (engine_prefix n a)
    found zero = refl
    found (suc n) = found_then i b n ∙ h.found ∙ sym (found_then i a n)
