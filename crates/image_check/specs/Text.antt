-- The text of a certificate.
use Rattle.std.specs.Prelude.{ℕ, ◌+◌, ◌-◌, ◌^◌, ◌<◌, ◌≡◌, ◌≢◌, ⊤, nat_lt, min, if◌then◌else◌, Bool, true, false, List, [], ◌∷◌, ◌++◌, map, length, Option, Some, None, codes}
use Rattle.std.specs.List.{AllByRecursion, filter_map, flat_map, last_or}
use Rattle.pblk_model.specs.Text.{newline, spaced}
use Rattle.pblk_model.specs.declared.found.Winner.{Winner}
use Rattle.image_check.specs.declared.certificate.Bearer.{Bearer}
use Rattle.image_check.specs.declared.certificate.Certificate.{Certificate}
use Rattle.image_check.specs.declared.certificate.LineEntry.{LineEntry}
use Rattle.image_check.specs.declared.certificate.LiveCount.{LiveCount}
use Rattle.image_check.specs.declared.read.CertErr.{CertErr}
use Rattle.image_check.specs.declared.read.CertErr.TheVariants as errors
use Rattle.image_check.specs.declared.said.Said.{Said}
use Rattle.image_check.specs.declared.said.Said.TheVariants.{Head, End, Line, Bear, Win, Live}

-- what the lines of a certificate say, in their order
abbrev pub saids_of : Certificate → List Said
saids_of c = Head c.head ∷ (End c.end ∷ (map Line c.lines ++ (map Bear c.bears ++ (map Win c.wins ++ map Live c.lives))))

abbrev pub bit : Bool → ℕ
bit b = if b then 1 else 0

-- a line without its newline
abbrev pub said_line : Said → List ℕ
said_line (Head None) = codes "head none"
said_line (Head (Some line)) = codes "head" ++ spaced (line ∷ [])
said_line (End p) = codes "end" ++ spaced (p ∷ [])
said_line (Line e) = codes "line" ++ spaced (e.line ∷ e.seq ∷ bit e.full ∷ [])
said_line (Bear b) = codes "bear" ++ spaced (b.position ∷ b.line ∷ b.at ∷ [])
said_line (Win w) = codes "win" ++ spaced (w.lba ∷ w.position ∷ w.line ∷ w.at ∷ [])
said_line (Live l) = codes "live" ++ spaced (l.line ∷ l.count ∷ [])

-- lines, each ended by a newline
abbrev pub spelled : List Said → List ℕ
spelled saids = flat_map (λ s. said_line s ++ newline) saids

abbrev pub text_of : Certificate → List ℕ
text_of c = spelled (saids_of c)

-- a line and an address have 32 bits, and other numbers 64
abbrev pub FitsSaid : Said → Type 0
FitsSaid (Head None) = Unit {0}
FitsSaid (Head (Some line)) = line < 2 ^ 32
FitsSaid (End p) = p < 2 ^ 64
FitsSaid (Line e) = (e.line < 2 ^ 32) × (e.seq < 2 ^ 64)
FitsSaid (Bear b) = (b.position < 2 ^ 64) × (b.line < 2 ^ 32) × (b.at < 2 ^ 32)
FitsSaid (Win w) = (w.lba < 2 ^ 64) × (w.position < 2 ^ 64) × (w.line < 2 ^ 32) × (w.at < 2 ^ 32)
FitsSaid (Live l) = (l.line < 2 ^ 32) × (l.count < 2 ^ 64)

abbrev pub Fits : Certificate → Type 0
Fits c = AllByRecursion FitsSaid (saids_of c)

-- Whether a line may stand behind this one, or first: the kinds stand in their order, and within a kind the first
-- numbers rise.
abbrev pub follows : Option Said → Said → Bool
follows None (Head h) = true
follows None s = false
follows (Some (Head h)) (End p) = true
follows (Some (Head h)) s = false
follows (Some last) (Head h) = false
follows (Some last) (End p) = false
follows (Some (End p)) s = true
follows (Some (Line a)) (Line b) = nat_lt a.line b.line
follows (Some (Line a)) s = true
follows (Some (Bear a)) (Line b) = false
follows (Some (Bear a)) (Bear b) = nat_lt a.position b.position
follows (Some (Bear a)) s = true
follows (Some (Win a)) (Win b) = nat_lt a.lba b.lba
follows (Some (Win a)) (Live b) = true
follows (Some (Win a)) s = false
follows (Some (Live a)) (Live b) = nat_lt a.line b.line
follows (Some (Live a)) s = false

-- each line may stand where it does
abbrev pub IsChain : Option Said → List Said → Type 0
IsChain last [] = Unit {0}
IsChain last (s ∷ saids) = (follows last s ≡ true) × IsChain (Some s) saids

-- whether a text may end behind this line
abbrev pub may_stop : Option Said → Bool
may_stop None = false
may_stop (Some (Head h)) = false
may_stop (Some s) = true

-- The bytes are no certificate from line n on, counted from 1, at most 2 ^ 32 - 1: those before it are lines as a
-- certificate has them, and what is left begins with no line that may stand there; or nothing is left, and one of the
-- first two lines is missing.
pub record IsFirstWrong (bytes : List ℕ) (n : ℕ) : Type 0 where
  pub front : List Said
  pub rest : List ℕ
  pub parts : bytes ≡ spelled front ++ rest
  pub chain : IsChain None front
  pub fit : AllByRecursion FitsSaid front
  pub number : n ≡ min (length front + 1) (2 ^ 32 - 1)
  pub wrong : (s : Said) (more : List ℕ) → FitsSaid s → follows (last_or None front) s ≡ true → rest ≢ said_line s ++ newline ++ more
  pub missing : rest ≡ [] → may_stop (last_or None front) ≡ false

-- What a line says, against the bytes that it is: none where no line of a certificate is so spelled.
abbrev pub Says : List ℕ → Option Said → Type 0
Says bytes None = (s : Said) → FitsSaid s → bytes ≢ said_line s
Says bytes (Some s) = (bytes ≡ said_line s) × FitsSaid s

-- numbers behind a space each, so many
abbrev pub AreNumbers : ℕ → List ℕ → Option (List ℕ) → Type 0
AreNumbers count text None = (ns : List ℕ) → length ns ≡ count → AllByRecursion (λ n. n < 2 ^ 64) ns → 32 ∷ text ≢ spaced ns
AreNumbers count text (Some ns) = (32 ∷ text ≡ spaced ns) × AllByRecursion (λ n. n < 2 ^ 64) ns × (length ns ≡ count)

-- the text has no such byte
abbrev pub Lacks : ℕ → List ℕ → Type 0
Lacks byte bytes = AllByRecursion (λ b. b ≢ byte) bytes

-- What lines say of each kind.

abbrev pub line_said : Said → Option LineEntry
line_said (Line e) = Some e
line_said s = None

abbrev pub bear_said : Said → Option Bearer
bear_said (Bear b) = Some b
bear_said s = None

abbrev pub win_said : Said → Option Winner
win_said (Win w) = Some w
win_said s = None

abbrev pub live_said : Said → Option LiveCount
live_said (Live l) = Some l
live_said s = None

abbrev pub head_said : List Said → Option ℕ
head_said [] = None
head_said (Head h ∷ saids) = h
head_said (s ∷ saids) = None

abbrev pub end_said : List Said → ℕ
end_said [] = 0
end_said (s ∷ []) = 0
end_said (s ∷ (End p ∷ saids)) = p
end_said (s ∷ (t ∷ saids)) = 0

-- the certificate with what a line says
abbrev pub with_said : Said → Certificate → Certificate
with_said (Head h) c = record { head = h; end = c.end; lines = c.lines; bears = c.bears; wins = c.wins; lives = c.lives }
with_said (End p) c = record { head = c.head; end = p; lines = c.lines; bears = c.bears; wins = c.wins; lives = c.lives }
with_said (Line e) c = record { head = c.head; end = c.end; lines = c.lines ++ e ∷ []; bears = c.bears; wins = c.wins; lives = c.lives }
with_said (Bear b) c = record { head = c.head; end = c.end; lines = c.lines; bears = c.bears ++ b ∷ []; wins = c.wins; lives = c.lives }
with_said (Win w) c = record { head = c.head; end = c.end; lines = c.lines; bears = c.bears; wins = c.wins ++ w ∷ []; lives = c.lives }
with_said (Live l) c = record { head = c.head; end = c.end; lines = c.lines; bears = c.bears; wins = c.wins; lives = c.lives ++ l ∷ [] }

-- a certificate as far as these lines say it, and the last of them
pub record HasRead (c : Certificate) (last : Option Said) (saids : List Said) : Type 0 where
  pub last_is : last ≡ last_or None saids
  pub chain : IsChain None saids
  pub fit : AllByRecursion FitsSaid saids
  pub head : c.head ≡ head_said saids
  pub end : c.end ≡ end_said saids
  pub lines : c.lines ≡ filter_map line_said saids
  pub bears : c.bears ≡ filter_map bear_said saids
  pub wins : c.wins ≡ filter_map win_said saids
  pub lives : c.lives ≡ filter_map live_said saids

-- Why bytes are refused: from that line on they are no certificate, or there was no memory.
abbrev pub RefusesText : List ℕ → CertErr → Type 0
RefusesText bytes (errors.Form n) = IsFirstWrong bytes n
RefusesText bytes errors.Memory = ⊤
