-- The known chunks of a line, event by event.
use Rattle.std.proofs.Common.{◌≡◌, ◌≢◌, ℕ, ◌+◌, zero, suc, Bool, false, Some, None, Option, List, [], ◌∷◌, ◌++◌, take, refl, sym, ap, ap₂, ◌∙◌, arith}
use Rattle.std.specs.Prelude.{slice_get, slice_set, map}
use Rattle.std.specs.List.{filter_map, cons_option, enumerate_from}
use Rattle.std.specs.Option.{option_and_then, option_map, option_map_or, option_to_list}
use Rattle.std.proofs.lemmas.List.Elements.{filter_map-append}
use Rattle.std.proofs.lemmas.List.Sums.{fold-append}
use Rattle.pblk_model.specs.declared.shape.Shape.{Shape}
use Rattle.pblk_model.specs.Chunk.{Chunk}
use Rattle.pblk_model.specs.UnitLog.{UnitEvent, after_outcome, after_event, after_log}
use Rattle.pblk_model.specs.Image.{Image, is_online_in}
use Rattle.pblk_layout.specs.Online.{is_online}
use Rattle.pblk_world.specs.Events.{Landed, Lost, ResetDone, Event, Decides, Logged}
use Rattle.pblk_world.specs.World.{Logs}
use Rattle.pblk_world.specs.EngineLog.{Begun, begun}
use Rattle.pblk_world.specs.Lines.{found_by, found_image, told_by, told_events, known_image}
use Rattle.pblk_world.specs.Victims.{engine_prefix}
use Rattle.core_laws.proofs.TakenNumbers.{begun_stays}
use Rattle.pblk_model.proofs.Parts.{got_here, take_next}
use Rattle.pblk_model.proofs.UnitLogLemmas.{event_beside}

-- ---- the units of an image

get_numbered : {X Y : Type 0} (f : ℕ → X → Y) (n : ℕ) (xs : List X) (u : ℕ)
    → slice_get (map (λ (e : ℕ × X). f e.0 e.1) (enumerate_from n xs)) u ≡ option_map (f (n + u)) (slice_get xs u)
get_numbered f n [] u = refl
get_numbered f n (x ∷ xs) zero = let same : n ≡ n + 0 = omega arith in ap (λ m. Some (f m x)) same
get_numbered f n (x ∷ xs) (suc u) = let same : n + 1 + u ≡ n + suc u = omega arith in get_numbered f (n + 1) xs u
    ∙ ap (λ m. option_map (f m) (slice_get xs u)) same

pub known_get : (i : Image) (logs : Logs) (u : ℕ)
    → slice_get (known_image i logs).units u ≡ option_map (λ (cs : List Chunk). after_log i.shape cs (told_events logs u))
    (slice_get (found_image i logs).units u)
known_get i logs u =
    let same : 0 + u ≡ u = omega arith in
    get_numbered (λ v (cs : List Chunk). after_log i.shape cs (told_events logs v)) 0 (found_image i logs).units u
    ∙ ap (λ v. option_map (λ (cs : List Chunk). after_log i.shape cs (told_events logs v)) (slice_get (found_image i logs).units u)) same

-- ---- one more event

found_next : (i : Image) (logs : Logs) (k : ℕ) (l : Logged) (b : Begun) → slice_get (logs 0) k ≡ Some l → begun (take k (logs 0)) ≡ Some b
    → found_image i (engine_prefix (suc k) logs) ≡ found_image i (engine_prefix k logs)
found_next i logs k l b there begins =
    by_begun (begun (take (suc k) (logs 0))) (ap (λ (xs : List Logged). begun xs) (take_next (logs 0) k l there) ∙ begun_stays (take k (logs 0)) l b begins)
  where
    of_some : (c : Begun) → found_by i (engine_prefix (suc k) logs) (Some c) ≡ found_by i (engine_prefix k logs) (Some c)
    of_some c = refl

    by_begun : (o : Option Begun) → o ≡ begun (take k (logs 0))
        → found_by i (engine_prefix (suc k) logs) o ≡ found_by i (engine_prefix k logs) (begun (take k (logs 0)))
    by_begun o e = ap (found_by i (engine_prefix (suc k) logs)) (e ∙ begins) ∙ of_some b ∙ ap (found_by i (engine_prefix k logs)) (sym begins)

pub told_units : (logs : Logs) (k unit : ℕ) (e : Event) → told_by (engine_prefix k logs) unit e ≡ told_by logs unit e
told_units logs k unit (Decides (Landed other n)) = refl
told_units logs k unit (Decides (Lost other n)) = refl
told_units logs k unit (Decides (ResetDone other n)) = refl
told_units logs k unit e = refl

told_next : (logs : Logs) (k u : ℕ) (l : Logged) → slice_get (logs 0) k ≡ Some l
    → told_events (engine_prefix (suc k) logs) u ≡ told_events (engine_prefix k logs) u ++ option_to_list (told_by (engine_prefix (suc k) logs) u l.event)
told_next logs k u l there =
    ap (filter_map (λ (m : Logged). told_by (engine_prefix (suc k) logs) u m.event)) (take_next (logs 0) k l there)
    ∙ filter_map-append (λ (m : Logged). told_by (engine_prefix (suc k) logs) u m.event) (take k (logs 0)) (l ∷ [])
    ∙ ap₂ (λ (xs ys : List UnitEvent). xs ++ ys) (alike (take k (logs 0))) (one_more (told_by (engine_prefix (suc k) logs) u l.event))
  where
    one_more : (o : Option UnitEvent) → cons_option o [] ≡ option_to_list o
    one_more None = refl
    one_more (Some e) = refl

    alike : (ms : List Logged) → filter_map (λ (m : Logged). told_by (engine_prefix (suc k) logs) u m.event) ms ≡ filter_map
        (λ (m : Logged). told_by (engine_prefix k logs) u m.event) ms
    alike [] = refl
    alike (m ∷ ms) = ap₂ (λ o xs. cons_option o xs) (told_units logs (suc k) u m.event ∙ sym (told_units logs k u m.event)) (alike ms)

mapped_twice : {X : Type 0} (f g h : X → X) → ((x : X) → h x ≡ g (f x)) → (o : Option X) → option_map h o ≡ option_map g (option_map f o)
mapped_twice f g h same None = refl
mapped_twice f g h same (Some x) = ap (λ y. Some y) (same x)

-- the chunks of a unit after one more event of the engine
pub known_next : (i : Image) (logs : Logs) (k u : ℕ) (l : Logged) (b : Begun) → slice_get (logs 0) k ≡ Some l → begun (take k (logs 0)) ≡ Some b
    → slice_get (known_image i (engine_prefix (suc k) logs)).units u
    ≡ option_map (λ (cs : List Chunk). after_log i.shape cs (option_to_list (told_by (engine_prefix (suc k) logs) u l.event)))
    (slice_get (known_image i (engine_prefix k logs)).units u)
known_next i logs k u l b there begins =
    known_get i (engine_prefix (suc k) logs) u
    ∙ ap (λ (f : Image). option_map (λ (cs : List Chunk). after_log i.shape cs (told_events (engine_prefix (suc k) logs) u)) (slice_get f.units u))
    (found_next i logs k l b there begins)
    ∙ mapped_twice (λ (cs : List Chunk). after_log i.shape cs (told_events (engine_prefix k logs) u))
    (λ (cs : List Chunk). after_log i.shape cs (option_to_list (told_by (engine_prefix (suc k) logs) u l.event)))
    (λ (cs : List Chunk). after_log i.shape cs (told_events (engine_prefix (suc k) logs) u))
    (λ cs. ap (after_log i.shape cs) (told_next logs k u l there)
    ∙ fold-append (after_event i.shape) cs (told_events (engine_prefix k logs) u) (option_to_list (told_by (engine_prefix (suc k) logs) u l.event)))
    (slice_get (found_image i (engine_prefix k logs)).units u)
    ∙ ap (option_map (λ (cs : List Chunk). after_log i.shape cs (option_to_list (told_by (engine_prefix (suc k) logs) u l.event))))
    (sym (known_get i (engine_prefix k logs) u))

-- the chunk of a line in a unit
abbrev pub chunk_in : Image → ℕ → ℕ → Option Chunk
chunk_in i u line = option_and_then (λ (cs : List Chunk). slice_get cs line) (slice_get i.units u)

abbrev pub is_on : Option Chunk → Bool
is_on o = option_map_or (λ (c : Chunk). is_online_in c.state) o false

pub live_chunk : (i : Image) (line u : ℕ) → is_online i line u ≡ is_on (chunk_in i u line)
live_chunk i line u = go (slice_get i.units u)
  where
    go : (o : Option (List Chunk))
        → option_map_or (λ (cs : List Chunk). is_on (slice_get cs line)) o false ≡ is_on (option_and_then (λ (cs : List Chunk). slice_get cs line) o)
    go None = refl
    go (Some cs) = refl

-- an event that the unit wasn't told of leaves its chunks
pub chunk_untold : (i : Image) (logs : Logs) (k u line : ℕ) (l : Logged) (b : Begun) → slice_get (logs 0) k ≡ Some l → begun (take k (logs 0)) ≡ Some b
    → told_by (engine_prefix (suc k) logs) u l.event ≡ None
    → chunk_in (known_image i (engine_prefix (suc k) logs)) u line ≡ chunk_in (known_image i (engine_prefix k logs)) u line
chunk_untold i logs k u line l b there begins none =
    ap (option_and_then (λ (cs : List Chunk). slice_get cs line))
    (known_next i logs k u l b there begins
    ∙ ap (λ o. option_map (λ (cs : List Chunk). after_log i.shape cs (option_to_list o)) (slice_get (known_image i (engine_prefix k logs)).units u)) none
    ∙ same (slice_get (known_image i (engine_prefix k logs)).units u))
  where
    same : (o : Option (List Chunk)) → option_map (λ (cs : List Chunk). cs) o ≡ o
    same None = refl
    same (Some cs) = refl

pub after_chunk : (s : Shape) (cs : List Chunk) (e : UnitEvent) (line : ℕ) → e.chunk ≡ line
    → slice_get (after_event s cs e) line ≡ option_map (λ (c : Chunk). after_outcome s c e.command e.outcome) (slice_get cs line)
after_chunk s cs e line same = go (slice_get cs e.chunk) refl
  where
    go : (o : Option Chunk) → slice_get cs e.chunk ≡ o
        → slice_get (option_map_or (λ (c : Chunk). slice_set cs e.chunk (after_outcome s c e.command e.outcome)) o cs) line ≡ option_map
        (λ (c : Chunk). after_outcome s c e.command e.outcome) (slice_get cs line)
    go None f = ap (slice_get cs) (sym same) ∙ f ∙ ap (option_map (λ (c : Chunk). after_outcome s c e.command e.outcome)) (sym f ∙ ap (slice_get cs) same)
    go (Some c) f =
        ap (slice_get (slice_set cs e.chunk (after_outcome s c e.command e.outcome))) (sym same)
        ∙ got_here cs e.chunk c (after_outcome s c e.command e.outcome) f
        ∙ ap (option_map (λ (c : Chunk). after_outcome s c e.command e.outcome)) (sym f ∙ ap (slice_get cs) same)

chunk_by : (i : Image) (logs : Logs) (k u line : ℕ) (l : Logged) (b : Begun) (e : UnitEvent) → slice_get (logs 0) k ≡ Some l → begun (take k (logs 0)) ≡ Some b
    → told_by (engine_prefix (suc k) logs) u l.event ≡ Some e
    → chunk_in (known_image i (engine_prefix (suc k) logs)) u line ≡ option_and_then (λ (cs : List Chunk). slice_get (after_event i.shape cs e) line)
    (slice_get (known_image i (engine_prefix k logs)).units u)
chunk_by i logs k u line l b e there begins told =
    ap (option_and_then (λ (cs : List Chunk). slice_get cs line))
    (known_next i logs k u l b there begins
    ∙ ap (λ o. option_map (λ (cs : List Chunk). after_log i.shape cs (option_to_list o)) (slice_get (known_image i (engine_prefix k logs)).units u)) told)
    ∙ moved (slice_get (known_image i (engine_prefix k logs)).units u)
  where
    moved : (o : Option (List Chunk))
        → option_and_then (λ (cs : List Chunk). slice_get cs line) (option_map (λ (cs : List Chunk). after_event i.shape cs e) o) ≡ option_and_then
        (λ (cs : List Chunk). slice_get (after_event i.shape cs e) line) o
    moved None = refl
    moved (Some cs) = refl

pub chunk_told : (i : Image) (logs : Logs) (k u line : ℕ) (l : Logged) (b : Begun) (e : UnitEvent) → slice_get (logs 0) k ≡ Some l
    → begun (take k (logs 0)) ≡ Some b
    → told_by (engine_prefix (suc k) logs) u l.event ≡ Some e → e.chunk ≡ line
    → chunk_in (known_image i (engine_prefix (suc k) logs)) u line ≡ option_map (λ (c : Chunk). after_outcome i.shape c e.command e.outcome)
    (chunk_in (known_image i (engine_prefix k logs)) u line)
chunk_told i logs k u line l b e there begins told same = chunk_by i logs k u line l b e there begins told
    ∙ go (slice_get (known_image i (engine_prefix k logs)).units u)
  where
    go : (o : Option (List Chunk))
        → option_and_then (λ (cs : List Chunk). slice_get (after_event i.shape cs e) line) o ≡ option_map
        (λ (c : Chunk). after_outcome i.shape c e.command e.outcome) (option_and_then (λ (cs : List Chunk). slice_get cs line) o)
    go None = refl
    go (Some cs) = after_chunk i.shape cs e line same

pub chunk_beside : (i : Image) (logs : Logs) (k u line : ℕ) (l : Logged) (b : Begun) (e : UnitEvent) → slice_get (logs 0) k ≡ Some l
    → begun (take k (logs 0)) ≡ Some b
    → told_by (engine_prefix (suc k) logs) u l.event ≡ Some e → e.chunk ≢ line
    → chunk_in (known_image i (engine_prefix (suc k) logs)) u line ≡ chunk_in (known_image i (engine_prefix k logs)) u line
chunk_beside i logs k u line l b e there begins told other = chunk_by i logs k u line l b e there begins told
    ∙ go (slice_get (known_image i (engine_prefix k logs)).units u)
  where
    go : (o : Option (List Chunk))
        → option_and_then (λ (cs : List Chunk). slice_get (after_event i.shape cs e) line) o ≡ option_and_then (λ (cs : List Chunk). slice_get cs line) o
    go None = refl
    go (Some cs) = event_beside i.shape cs e line other
