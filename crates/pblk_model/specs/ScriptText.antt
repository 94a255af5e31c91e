-- Which bytes are a script, which one, and why others are refused: the first line that is refused decides, then
-- the least line that awaits what nobody posts, then the least line at which a thread is stuck.
use Rattle.std.specs.Prelude.{ℕ, zero, suc, ◌+◌, ◌-◌, ◌*◌, ◌^◌, ◌≡◌, ◌==◌, ◌&&◌, ◌||◌, not, min, if◌then◌else◌, nat_lt, nat_le, Bool, true, false, List, [], ◌∷◌, ◌++◌, map, length, Option, Some, None, Result, Ok, Err, codes}
use Rattle.std.specs.List.{filter, fold, list_all, list_any, slice_split, sum_by}
use Rattle.std.specs.Option.{option_and_then, option_map, option_map_or}
use Rattle.std.specs.Str.{bytes_eq}
use Rattle.std.specs.Fmt.{decimal}
use Rattle.pblk_model.specs.declared.script.Command.{Command}
use Rattle.pblk_model.specs.declared.script.Command.TheVariants.{Write, Read, Flush, Post, Await}
use Rattle.pblk_model.specs.declared.script.ScriptErr.{ScriptErr}
use Rattle.pblk_model.specs.declared.script.ScriptErr.TheVariants as errors
use Rattle.pblk_model.specs.Checks.{first_refusal, unless}
use Rattle.pblk_model.specs.Script.{command_line, thread_line}

-- Lines.

-- a line: its number, from 1, the offset of its first byte, and its bytes
pub record Line : Type 0 where
  pub number : ℕ
  pub offset : ℕ
  pub bytes : List ℕ

abbrev pub lines_from : ℕ → ℕ → List (List ℕ) → List Line
lines_from number offset [] = []
lines_from number offset (bytes ∷ rest) = record { number = number; offset = offset; bytes = bytes } ∷ lines_from (number + 1) (offset + length bytes + 1) rest

-- Empty lines and those that begin with `#` are skipped.
abbrev pub is_skipped : List ℕ → Bool
is_skipped [] = true
is_skipped (byte ∷ bytes) = byte == 35

-- the lines that aren't skipped; each but the last is ended by a newline
abbrev pub spoken : List ℕ → List Line
spoken bytes = filter (λ line. not (is_skipped line.bytes)) (lines_from 1 0 (slice_split (λ byte. byte == 10) bytes))

-- What a line says.

pub data Said : Type 0 where
  Thread : Said
  Commands : Command → Said

abbrev pub said_line : Said → List ℕ
said_line Thread = thread_line
said_line (Commands c) = command_line c

-- the number that these bytes would be, read as digits
abbrev pub digits_value : List ℕ → ℕ
digits_value word = fold (λ n digit. 10 * n + (digit - 48)) 0 word

-- the number that a word spells, below 2 to the 64
abbrev pub number_of : List ℕ → Option ℕ
number_of word = let n = digits_value word in if bytes_eq word (decimal n) && nat_lt n (2 ^ 64) then Some n else None

abbrev pub is_name_byte : ℕ → Bool
is_name_byte b = (nat_le 48 b && nat_le b 57) || (nat_le 97 b && nat_le b 122)

abbrev pub name_of : List ℕ → Option (List ℕ)
name_of word = if nat_le 1 (length word) && nat_le (length word) 16 && list_all is_name_byte word then Some word else None

-- by the words of a line, its first word first
abbrev pub said_by : List (List ℕ) → Option Said
said_by (w ∷ []) = if bytes_eq w thread_line then Some Thread else (if bytes_eq w (codes "f") then Some (Commands Flush) else None)
said_by (w ∷ a ∷ []) = if bytes_eq w (codes "post") then option_map (λ name. Commands (Post name)) (name_of a)
    else (if bytes_eq w (codes "await") then option_map (λ name. Commands (Await name)) (name_of a) else None)
said_by (w ∷ a ∷ b ∷ []) = if bytes_eq w (codes "r")
    then option_and_then (λ lba. option_map (λ count. Commands (Read lba count)) (number_of b)) (number_of a) else None
said_by (w ∷ a ∷ b ∷ c ∷ []) = if bytes_eq w (codes "w")
    then option_and_then (λ lba. option_and_then (λ count. option_map (λ tag. Commands (Write lba count tag)) (number_of c)) (number_of b))
    (number_of a) else None
said_by words = None

-- what bytes say, if they are a line of a script
abbrev pub said_in : List ℕ → Option Said
said_in bytes = said_by (slice_split (λ byte. byte == 32) bytes)

-- Where a line may stand, by what the lines before it say.

abbrev pub threads_in : List Said → ℕ
threads_in [] = 0
threads_in (Thread ∷ before) = threads_in before + 1
threads_in (Commands c ∷ before) = threads_in before

abbrev pub commands_in : List Said → ℕ
commands_in [] = 0
commands_in (Thread ∷ before) = commands_in before
commands_in (Commands c ∷ before) = commands_in before + 1

abbrev pub posts : List ℕ → Said → Bool
posts name (Commands (Post other)) = bytes_eq other name
posts name said = false

-- a command stands in a thread, and no name is posted a second time
abbrev pub form_holds : List Said → Said → Bool
form_holds before Thread = true
form_holds before (Commands (Post name)) = not (threads_in before == 0) && not (list_any (posts name) before)
form_holds before (Commands c) = not (threads_in before == 0)

-- the sectors of a command
abbrev pub count_of : Command → Option ℕ
count_of (Write lba count tag) = Some count
count_of (Read lba count) = Some count
count_of c = None

abbrev pub count_holds : Option ℕ → Bool
count_holds None = true
count_holds (Some count) = nat_le 1 count && nat_le count 16

-- 16 threads, 200,000 commands, 1 to 16 sectors a command
abbrev pub limit_holds : List Said → Said → Bool
limit_holds before Thread = nat_lt (threads_in before) 16
limit_holds before (Commands c) = nat_lt (commands_in before) 200000 && count_holds (count_of c)

-- the sectors of a command are those of a target of this capacity
abbrev pub range_holds : ℕ → Said → Bool
range_holds capacity (Commands (Write lba count tag)) = nat_le (lba + count) capacity
range_holds capacity (Commands (Read lba count)) = nat_le (lba + count) capacity
range_holds capacity said = true

-- the number of a line in a refusal: it has 32 bits, and stands still at their end
abbrev pub line_number : ℕ → ℕ
line_number n = min n (2 ^ 32 - 1)

-- What is heard of a script: what its lines say, each with its number in a refusal.
abbrev pub Heard : Type 0
Heard = List (ℕ × Said)

abbrev pub saids : Heard → List Said
saids heard = map (λ x. x.1) heard

-- what a line says after those before it, or why it is refused
abbrev pub placed : ℕ → List Said → Line → Option Said → Result (ℕ × Said) ScriptErr
placed capacity before line None = Err (errors.Form (line_number line.number))
placed capacity before line (Some said) = let n = line_number line.number in option_map_or Err (first_refusal
    (unless (form_holds before said) (errors.Form n)
    ∷ unless (nat_lt line.offset 4194304 && limit_holds before said) (errors.Limit n)
    ∷ unless (range_holds capacity said) (errors.Range n)
    ∷ [])) (Ok (n, said))

abbrev pub then_heard : {A B : Type 0} → Result A ScriptErr → (A → Result B ScriptErr) → Result B ScriptErr
then_heard (Ok x) f = f x
then_heard (Err e) f = Err e

-- what lines say after those before them, up to the first line that is refused
unfoldable pub heard_after : ℕ → Heard → List Line → Result Heard ScriptErr
heard_after capacity before [] = Ok before
heard_after capacity before (line ∷ lines) = then_heard (placed capacity (saids before) line (said_in line.bytes))
    (λ x. heard_after capacity (before ++ x ∷ []) lines)

-- the least line that awaits a name that nobody posts
abbrev pub awaits_unposted : List Said → Said → Bool
awaits_unposted all (Commands (Await name)) = not (list_any (posts name) all)
awaits_unposted all said = false

unfoldable pub unposted : List Said → Heard → Option ℕ
unposted all [] = None
unposted all (x ∷ heard) = if awaits_unposted all x.1 then Some x.0 else unposted all heard

-- The threads: commands, each with the number of its line.
abbrev pub Numbered : Type 0
Numbered = List (ℕ × Command)

-- the commands up to the next thread
unfoldable pub leading : Heard → Numbered
leading [] = []
leading ((n, Thread) ∷ heard) = []
leading ((n, Commands c) ∷ heard) = (n, c) ∷ leading heard

unfoldable pub threads_of : Heard → List Numbered
threads_of [] = []
threads_of ((n, Thread) ∷ heard) = leading heard ∷ threads_of heard
threads_of ((n, Commands c) ∷ heard) = threads_of heard

abbrev pub script_of : Heard → List (List Command)
script_of heard = map (map (λ x. x.1)) (threads_of heard)

-- A thread is run on, where these names are posted, until it comes to an await of another.
unfoldable pub run_on : List (List ℕ) → Numbered → List (List ℕ) × Numbered
run_on posted [] = (posted, [])
run_on posted ((n, Post name) ∷ commands) = run_on (name ∷ posted) commands
run_on posted ((n, Await name) ∷ commands) = if list_any (bytes_eq name) posted then run_on posted commands else (posted, (n, Await name) ∷ commands)
run_on posted ((n, c) ∷ commands) = run_on posted commands

-- each thread once, in their order
unfoldable pub turn : List (List ℕ) → List Numbered → List (List ℕ) × List Numbered
turn posted [] = (posted, [])
turn posted (thread ∷ threads) = let r = run_on posted thread in let more = turn r.0 threads in (more.0, r.1 ∷ more.1)

unfoldable pub turns : ℕ → List (List ℕ) → List Numbered → List Numbered
turns zero posted threads = threads
turns (suc n) posted threads = let r = turn posted threads in turns n r.0 r.1

-- the least line at which a thread stands
unfoldable pub least_standing : List Numbered → Option ℕ
least_standing [] = None
least_standing ([] ∷ threads) = least_standing threads
least_standing ((x ∷ commands) ∷ threads) = Some (option_map_or (min x.0) (least_standing threads) x.0)

-- The least line at which a thread is stuck, if one is: the threads are run on again and again until nothing
-- moves. Each turn but the last moves a thread past a command, so as many turns as there are commands are
-- enough.
abbrev pub stuck_at : List Numbered → Option ℕ
stuck_at threads = least_standing (turns (sum_by length threads) [] threads)

-- why threads are refused that are well formed, line by line
abbrev pub posts_refusal : Heard → Option ScriptErr
posts_refusal heard = first_refusal (option_map errors.NeverPosted (unposted (saids heard) heard)
    ∷ option_map errors.Stuck (stuck_at (threads_of heard))
    ∷ [])

-- which script bytes are on a target of this capacity, or why they are none
abbrev pub read_script : ℕ → List ℕ → Result (List (List Command)) ScriptErr
read_script capacity bytes = then_heard (heard_after capacity [] (spoken bytes))
    (λ heard. option_map_or Err (posts_refusal heard) (Ok (script_of heard)))

-- the bytes are this script
abbrev pub IsScript : ℕ → List ℕ → List (List Command) → Type 0
IsScript capacity bytes script = read_script capacity bytes ≡ Ok script
