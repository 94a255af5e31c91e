-- Commands whose words are names alone.
use Rattle.std.proofs.Common.{String, Global, suc, string_bytes, ◌≡◌, ℕ, ◌^◌, ◌<◌, ◌≤◌, List, [], ◌∷◌, length, get_or, map, codes, refl, sym, ap, ◌∙◌, subst, arith}
use Rattle.std.specs.Fmt.{decimal}
use Rattle.std.specs.List.{AllByRecursion}
use Rattle.std.specs.Str.Parse.{AllDigits}
use Rattle.std.proofs.lemmas.Fmt.{decimal_nonempty, digits_decimal}
use Rattle.std.proofs.lemmas.Str.Parse.{digit_from_value}
use Rattle.pblk_model.specs.CommandText as text
use Rattle.command_words.specs.Grammar as model
use Rattle.command_words.specs.Grammar.{Name, IsPlainWord, IsCommandLine, first_word}
use Rattle.command_words.specs.Words.{AreSoakWords, AreTwoNames, AreWordsOf, IsOneName}
use Rattle.command_words.proofs.Items.{plain_items}
use Rattle.pblk_model.proofs.NumberLemmas.{digits}

one_name : (words : List (List ℕ)) (image : List ℕ) (items : List model.Item) → model.AreItems items words → model.names_in items ≡ image ∷ []
    → model.options_in items ≡ [] → model.flags_in items ≡ [] → IsOneName words image
one_name words image items spelled names options flags =
    let plain = plain_items items words spelled options flags in
    let are : words ≡ image ∷ [] = plain.0 ∙ names in
    (are, (subst (λ ws. AllByRecursion IsPlainWord ws) are plain.1).0)

pub name_of_geometry : (words : List (List ℕ)) (image : List ℕ) → AreWordsOf words (model.Geometry image) → IsOneName words image
name_of_geometry words image h = one_name words image h.items h.spelled h.of.0 h.of.1 h.of.2

pub name_of_show : (words : List (List ℕ)) (image : List ℕ) → AreWordsOf words (model.Show image) → IsOneName words image
name_of_show words image h = one_name words image h.items h.spelled h.of.0 h.of.1 h.of.2

pub name_of_report : (words : List (List ℕ)) (image : List ℕ) → AreWordsOf words (model.Report image) → IsOneName words image
name_of_report words image h = one_name words image h.items h.spelled h.of.0 h.of.1 h.of.2

pub words_of_geometry : (words : List (List ℕ)) (image : List ℕ) → IsOneName words image → AreWordsOf words (model.Geometry image)
words_of_geometry words image (e, plain) = record { items = Name image ∷ []; spelled = ([], plain, e, refl); of = (refl, refl, refl) }

pub words_of_show : (words : List (List ℕ)) (image : List ℕ) → IsOneName words image → AreWordsOf words (model.Show image)
words_of_show words image (e, plain) = record { items = Name image ∷ []; spelled = ([], plain, e, refl); of = (refl, refl, refl) }

pub words_of_report : (words : List (List ℕ)) (image : List ℕ) → IsOneName words image → AreWordsOf words (model.Report image)
words_of_report words image (e, plain) = record { items = Name image ∷ []; spelled = ([], plain, e, refl); of = (refl, refl, refl) }

two_names : (words : List (List ℕ)) (one two : List ℕ) (items : List model.Item) → model.AreItems items words → model.names_in items ≡ one ∷ two ∷ []
    → model.options_in items ≡ [] → model.flags_in items ≡ [] → AreTwoNames words one two
two_names words one two items spelled names options flags =
    let plain = plain_items items words spelled options flags in
    let are : words ≡ one ∷ two ∷ [] = plain.0 ∙ names in
    let each = subst (λ ws. AllByRecursion IsPlainWord ws) are plain.1 in
    record { words_are = are; plain_first = each.0; plain_second = each.1.0 }

pub names_of_parity : (words : List (List ℕ)) (image parity : List ℕ) → AreWordsOf words (model.Parity image parity) → AreTwoNames words image parity
names_of_parity words image parity h = two_names words image parity h.items h.spelled h.of.0 h.of.1 h.of.2

pub names_of_certify : (words : List (List ℕ)) (image name : List ℕ) → AreWordsOf words (model.Certify image name) → AreTwoNames words image name
names_of_certify words image name h = two_names words image name h.items h.spelled h.of.0 h.of.1 h.of.2

pub names_of_check : (words : List (List ℕ)) (image name : List ℕ) → AreWordsOf words (model.Check image name) → AreTwoNames words image name
names_of_check words image name h = two_names words image name h.items h.spelled h.of.0 h.of.1 h.of.2

two_spelled : (words : List (List ℕ)) (one two : List ℕ) → AreTwoNames words one two → model.AreItems (Name one ∷ Name two ∷ []) words
two_spelled words one two h = (two ∷ [], h.plain_first, h.words_are, ([], h.plain_second, refl, refl))

pub words_of_parity : (words : List (List ℕ)) (image parity : List ℕ) → AreTwoNames words image parity → AreWordsOf words (model.Parity image parity)
words_of_parity words image parity h =
    record { items = Name image ∷ Name parity ∷ []; spelled = two_spelled words image parity h; of = (refl, refl, refl) }

pub words_of_certify : (words : List (List ℕ)) (image name : List ℕ) → AreTwoNames words image name → AreWordsOf words (model.Certify image name)
words_of_certify words image name h = record { items = Name image ∷ Name name ∷ []; spelled = two_spelled words image name h; of = (refl, refl, refl) }

pub words_of_check : (words : List (List ℕ)) (image name : List ℕ) → AreTwoNames words image name → AreWordsOf words (model.Check image name)
words_of_check words image name h = record { items = Name image ∷ Name name ∷ []; spelled = two_spelled words image name h; of = (refl, refl, refl) }

pub soak_of : (words : List (List ℕ)) (image : List ℕ) (number rounds : ℕ) → AreWordsOf words (model.Soak image number rounds)
    → AreSoakWords words image number rounds
soak_of words image number rounds h =
    let plain = plain_items h.items words h.spelled h.of.1 h.of.2 in
    let are : words ≡ image ∷ decimal number ∷ decimal rounds ∷ [] = plain.0 ∙ h.of.0 in
    record { words_are = are; plain = (subst (λ ws. AllByRecursion IsPlainWord ws) are plain.1).0; load = h.of.3 }

pub digits_plain : (n : ℕ) → n < 2 ^ 64 → IsPlainWord (decimal n)
digits_plain n small = by (decimal n) (digits_decimal digits n small) (decimal_nonempty n small)
  where
    by : (bytes : List ℕ) → AllDigits 10 bytes → 0 < length bytes → IsPlainWord bytes
    by [] d some = absurd (omega (arith, some))
    by (x ∷ bytes) d some = λ dash. let r = digit_from_value x d.0 in omega (arith, r, dash)

pub words_of_soak : (words : List (List ℕ)) (image : List ℕ) (number rounds : ℕ) → AreSoakWords words image number rounds
    → AreWordsOf words (model.Soak image number rounds)
words_of_soak words image number rounds h = record {
  items = Name image ∷ Name (decimal number) ∷ Name (decimal rounds) ∷ [];
  spelled = (
    decimal number ∷ decimal rounds ∷ [],
    h.plain,
    h.words_are,
    (
      decimal rounds ∷ [],
      digits_plain number h.load.number_below,
      refl,
      ([], digits_plain rounds (omega (arith, h.load.few)), refl, refl),
    ),
  );
  of = (refl, refl, refl, h.load);
}

pub three_words : (words : List (String Global)) (w v u : String Global) (one two three : List ℕ) → 3 ≤ length words → length words < 4
    → w ≡ get_or words 0 w → v ≡ get_or words 1 v → u ≡ get_or words 2 u → one ≡ string_bytes w → two ≡ string_bytes v → three ≡ string_bytes u
    → map string_bytes words ≡ one ∷ two ∷ three ∷ []
three_words [] w v u one two three low high a b c d e f = absurd (omega (arith, low))
three_words (x ∷ []) w v u one two three low high a b c d e f = absurd (omega (arith, low))
three_words (x ∷ (y ∷ [])) w v u one two three low high a b c d e f = absurd (omega (arith, low))
three_words (x ∷ (y ∷ (z ∷ []))) w v u one two three low high a b c d e f = cc
three_words (x ∷ (y ∷ (z ∷ (more ∷ words)))) w v u one two three low high a b c d e f = absurd (omega (arith, high))

pub one_word : (words : List (String Global)) (w : String Global) (word : List ℕ) → 1 ≤ length words → length words < 2 → w ≡ get_or words 0 w
    → word ≡ string_bytes w → map string_bytes words ≡ word ∷ []
one_word [] w word low high is e = absurd (omega (arith, low))
one_word (x ∷ []) w word low high is e = cc
one_word (x ∷ (y ∷ words)) w word low high is e = absurd (omega (arith, high))

pub count_of_words : (words : List (String Global)) (ws : List (List ℕ)) → map string_bytes words ≡ ws → length words ≡ length ws
count_of_words [] ws e = ap length e
count_of_words (w ∷ words) [] e = absurd (cc e)
count_of_words (w ∷ words) (x ∷ ws) e =
    let same : map string_bytes words ≡ ws = cc e in
    ap suc (count_of_words words ws same)

-- The words of a command line.

-- its first word, and the others
pub words_of : (words rest : List (List ℕ)) (first : List ℕ) (c : model.CommandLine) → words ≡ first ∷ rest → IsCommandLine words c → (first ≡ first_word c)
    × AreWordsOf rest c
words_of words rest first c e h =
    let joined : first ∷ rest ≡ first_word c ∷ h.rest = sym e ∙ h.words_are in
    let same : h.rest ≡ rest = sym (cc joined) in
    (cc joined, record { items = h.items; spelled = subst (λ ws. model.AreItems h.items ws) same h.spelled; of = h.of })

pub command_of : (words rest : List (List ℕ)) (c : model.CommandLine) → words ≡ first_word c ∷ rest → AreWordsOf rest c → IsCommandLine words c
command_of words rest c e h = record { items = h.items; rest = rest; words_are = e; spelled = h.spelled; of = h.of }

-- A command is known by its first word.

abbrev first_byte : List ℕ → ℕ
first_byte [] = 0
first_byte (byte ∷ bytes) = byte

-- two words of one length
not_both : (first : List ℕ) → first ≡ codes "create" → first ≡ codes "report" → ⊥
not_both first a b = let same : 99 ≡ 114 = ap first_byte (sym a ∙ b) in omega (arith, same)

create_or_parity : (first : List ℕ) → first ≡ codes "create" → first ≡ codes "parity" → ⊥
create_or_parity first a b = let same : 99 ≡ 112 = ap first_byte (sym a ∙ b) in omega (arith, same)

parity_or_report : (first : List ℕ) → first ≡ codes "parity" → first ≡ codes "report" → ⊥
parity_or_report first a b = let same : 112 ≡ 114 = ap first_byte (sym a ∙ b) in omega (arith, same)

abbrev second_byte : List ℕ → ℕ
second_byte [] = 0
second_byte (byte ∷ bytes) = first_byte bytes

show_or_soak : (first : List ℕ) → first ≡ codes "show" → first ≡ codes "soak" → ⊥
show_or_soak first a b = let same : 104 ≡ 111 = ap second_byte (sym a ∙ b) in omega (arith, same)

certify_or_rebuild : (first : List ℕ) → first ≡ codes "certify" → first ≡ codes "rebuild" → ⊥
certify_or_rebuild first a b = let same : 99 ≡ 114 = ap first_byte (sym a ∙ b) in omega (arith, same)

pub as_create : (words rest : List (List ℕ)) (first : List ℕ) (P : model.CommandLine → Type 0) → words ≡ first ∷ rest → first ≡ codes "create"
    → ((image : List ℕ) (numbers : text.CreateNumbers) → AreWordsOf rest (model.Create image numbers) → P (model.Create image numbers))
    → (c : model.CommandLine) → IsCommandLine words c → P c
as_create words rest first P e is k (model.Create image numbers) h = k image numbers (words_of words rest first _ e h).1
as_create words rest first P e is k (model.Geometry image) h = absurd (cc (is, (words_of words rest first _ e h).0))
as_create words rest first P e is k (model.Show image) h = absurd (cc (is, (words_of words rest first _ e h).0))
as_create words rest first P e is k (model.Report image) h = absurd (not_both first is (words_of words rest first _ e h).0)
as_create words rest first P e is k (model.Parity image parity) h = absurd (create_or_parity first is (words_of words rest first _ e h).0)
as_create words rest first P e is k (model.Rebuild image parity unit) h = absurd (cc (is, (words_of words rest first _ e h).0))
as_create words rest first P e is k (model.Run image script options) h = absurd (cc (is, (words_of words rest first _ e h).0))
as_create words rest first P e is k (model.Soak image number rounds) h = absurd (cc (is, (words_of words rest first _ e h).0))
as_create words rest first P e is k (model.Certify image certificate) h = absurd (cc (is, (words_of words rest first _ e h).0))
as_create words rest first P e is k (model.Check image certificate) h = absurd (cc (is, (words_of words rest first _ e h).0))

pub as_geometry : (words rest : List (List ℕ)) (first : List ℕ) (P : model.CommandLine → Type 0) → words ≡ first ∷ rest → first ≡ codes "geometry"
    → ((image : List ℕ) → AreWordsOf rest (model.Geometry image) → P (model.Geometry image)) → (c : model.CommandLine) → IsCommandLine words c → P c
as_geometry words rest first P e is k (model.Create image numbers) h = absurd (cc (is, (words_of words rest first _ e h).0))
as_geometry words rest first P e is k (model.Geometry image) h = k image (words_of words rest first _ e h).1
as_geometry words rest first P e is k (model.Show image) h = absurd (cc (is, (words_of words rest first _ e h).0))
as_geometry words rest first P e is k (model.Report image) h = absurd (cc (is, (words_of words rest first _ e h).0))
as_geometry words rest first P e is k (model.Parity image parity) h = absurd (cc (is, (words_of words rest first _ e h).0))
as_geometry words rest first P e is k (model.Rebuild image parity unit) h = absurd (cc (is, (words_of words rest first _ e h).0))
as_geometry words rest first P e is k (model.Run image script options) h = absurd (cc (is, (words_of words rest first _ e h).0))
as_geometry words rest first P e is k (model.Soak image number rounds) h = absurd (cc (is, (words_of words rest first _ e h).0))
as_geometry words rest first P e is k (model.Certify image certificate) h = absurd (cc (is, (words_of words rest first _ e h).0))
as_geometry words rest first P e is k (model.Check image certificate) h = absurd (cc (is, (words_of words rest first _ e h).0))

pub as_show : (words rest : List (List ℕ)) (first : List ℕ) (P : model.CommandLine → Type 0) → words ≡ first ∷ rest → first ≡ codes "show"
    → ((image : List ℕ) → AreWordsOf rest (model.Show image) → P (model.Show image)) → (c : model.CommandLine) → IsCommandLine words c → P c
as_show words rest first P e is k (model.Create image numbers) h = absurd (cc (is, (words_of words rest first _ e h).0))
as_show words rest first P e is k (model.Geometry image) h = absurd (cc (is, (words_of words rest first _ e h).0))
as_show words rest first P e is k (model.Show image) h = k image (words_of words rest first _ e h).1
as_show words rest first P e is k (model.Report image) h = absurd (cc (is, (words_of words rest first _ e h).0))
as_show words rest first P e is k (model.Parity image parity) h = absurd (cc (is, (words_of words rest first _ e h).0))
as_show words rest first P e is k (model.Rebuild image parity unit) h = absurd (cc (is, (words_of words rest first _ e h).0))
as_show words rest first P e is k (model.Run image script options) h = absurd (cc (is, (words_of words rest first _ e h).0))
as_show words rest first P e is k (model.Soak image number rounds) h = absurd (show_or_soak first is (words_of words rest first _ e h).0)
as_show words rest first P e is k (model.Certify image certificate) h = absurd (cc (is, (words_of words rest first _ e h).0))
as_show words rest first P e is k (model.Check image certificate) h = absurd (cc (is, (words_of words rest first _ e h).0))

pub as_report : (words rest : List (List ℕ)) (first : List ℕ) (P : model.CommandLine → Type 0) → words ≡ first ∷ rest → first ≡ codes "report"
    → ((image : List ℕ) → AreWordsOf rest (model.Report image) → P (model.Report image)) → (c : model.CommandLine) → IsCommandLine words c → P c
as_report words rest first P e is k (model.Create image numbers) h = absurd (not_both first (words_of words rest first _ e h).0 is)
as_report words rest first P e is k (model.Geometry image) h = absurd (cc (is, (words_of words rest first _ e h).0))
as_report words rest first P e is k (model.Show image) h = absurd (cc (is, (words_of words rest first _ e h).0))
as_report words rest first P e is k (model.Report image) h = k image (words_of words rest first _ e h).1
as_report words rest first P e is k (model.Parity image parity) h = absurd (parity_or_report first (words_of words rest first _ e h).0 is)
as_report words rest first P e is k (model.Rebuild image parity unit) h = absurd (cc (is, (words_of words rest first _ e h).0))
as_report words rest first P e is k (model.Run image script options) h = absurd (cc (is, (words_of words rest first _ e h).0))
as_report words rest first P e is k (model.Soak image number rounds) h = absurd (cc (is, (words_of words rest first _ e h).0))
as_report words rest first P e is k (model.Certify image certificate) h = absurd (cc (is, (words_of words rest first _ e h).0))
as_report words rest first P e is k (model.Check image certificate) h = absurd (cc (is, (words_of words rest first _ e h).0))

pub as_run : (words rest : List (List ℕ)) (first : List ℕ) (P : model.CommandLine → Type 0) → words ≡ first ∷ rest → first ≡ codes "run"
    → ((image script : List ℕ) (options : model.RunOptions) → AreWordsOf rest (model.Run image script options) → P (model.Run image script options))
    → (c : model.CommandLine) → IsCommandLine words c → P c
as_run words rest first P e is k (model.Create image numbers) h = absurd (cc (is, (words_of words rest first _ e h).0))
as_run words rest first P e is k (model.Geometry image) h = absurd (cc (is, (words_of words rest first _ e h).0))
as_run words rest first P e is k (model.Show image) h = absurd (cc (is, (words_of words rest first _ e h).0))
as_run words rest first P e is k (model.Report image) h = absurd (cc (is, (words_of words rest first _ e h).0))
as_run words rest first P e is k (model.Parity image parity) h = absurd (cc (is, (words_of words rest first _ e h).0))
as_run words rest first P e is k (model.Rebuild image parity unit) h = absurd (cc (is, (words_of words rest first _ e h).0))
as_run words rest first P e is k (model.Run image script options) h = k image script options (words_of words rest first _ e h).1
as_run words rest first P e is k (model.Soak image number rounds) h = absurd (cc (is, (words_of words rest first _ e h).0))
as_run words rest first P e is k (model.Certify image certificate) h = absurd (cc (is, (words_of words rest first _ e h).0))
as_run words rest first P e is k (model.Check image certificate) h = absurd (cc (is, (words_of words rest first _ e h).0))

pub as_parity : (words rest : List (List ℕ)) (first : List ℕ) (P : model.CommandLine → Type 0) → words ≡ first ∷ rest → first ≡ codes "parity"
    → ((image parity : List ℕ) → AreWordsOf rest (model.Parity image parity) → P (model.Parity image parity)) → (c : model.CommandLine) → IsCommandLine words c
    → P c
as_parity words rest first P e is k (model.Create image numbers) h = absurd (create_or_parity first (words_of words rest first _ e h).0 is)
as_parity words rest first P e is k (model.Geometry image) h = absurd (cc (is, (words_of words rest first _ e h).0))
as_parity words rest first P e is k (model.Show image) h = absurd (cc (is, (words_of words rest first _ e h).0))
as_parity words rest first P e is k (model.Report image) h = absurd (parity_or_report first is (words_of words rest first _ e h).0)
as_parity words rest first P e is k (model.Parity image parity) h = k image parity (words_of words rest first _ e h).1
as_parity words rest first P e is k (model.Rebuild image parity unit) h = absurd (cc (is, (words_of words rest first _ e h).0))
as_parity words rest first P e is k (model.Run image script options) h = absurd (cc (is, (words_of words rest first _ e h).0))
as_parity words rest first P e is k (model.Soak image number rounds) h = absurd (cc (is, (words_of words rest first _ e h).0))
as_parity words rest first P e is k (model.Certify image certificate) h = absurd (cc (is, (words_of words rest first _ e h).0))
as_parity words rest first P e is k (model.Check image certificate) h = absurd (cc (is, (words_of words rest first _ e h).0))

pub as_rebuild : (words rest : List (List ℕ)) (first : List ℕ) (P : model.CommandLine → Type 0) → words ≡ first ∷ rest → first ≡ codes "rebuild"
    → ((image parity : List ℕ) (unit : ℕ) → AreWordsOf rest (model.Rebuild image parity unit) → P (model.Rebuild image parity unit))
    → (c : model.CommandLine) → IsCommandLine words c → P c
as_rebuild words rest first P e is k (model.Create image numbers) h = absurd (cc (is, (words_of words rest first _ e h).0))
as_rebuild words rest first P e is k (model.Geometry image) h = absurd (cc (is, (words_of words rest first _ e h).0))
as_rebuild words rest first P e is k (model.Show image) h = absurd (cc (is, (words_of words rest first _ e h).0))
as_rebuild words rest first P e is k (model.Report image) h = absurd (cc (is, (words_of words rest first _ e h).0))
as_rebuild words rest first P e is k (model.Parity image parity) h = absurd (cc (is, (words_of words rest first _ e h).0))
as_rebuild words rest first P e is k (model.Rebuild image parity unit) h = k image parity unit (words_of words rest first _ e h).1
as_rebuild words rest first P e is k (model.Run image script options) h = absurd (cc (is, (words_of words rest first _ e h).0))
as_rebuild words rest first P e is k (model.Soak image number rounds) h = absurd (cc (is, (words_of words rest first _ e h).0))
as_rebuild words rest first P e is k (model.Certify image certificate) h = absurd (certify_or_rebuild first (words_of words rest first _ e h).0 is)
as_rebuild words rest first P e is k (model.Check image certificate) h = absurd (cc (is, (words_of words rest first _ e h).0))

pub as_soak : (words rest : List (List ℕ)) (first : List ℕ) (P : model.CommandLine → Type 0) → words ≡ first ∷ rest → first ≡ codes "soak"
    → ((image : List ℕ) (number rounds : ℕ) → AreWordsOf rest (model.Soak image number rounds) → P (model.Soak image number rounds))
    → (c : model.CommandLine) → IsCommandLine words c → P c
as_soak words rest first P e is k (model.Create image numbers) h = absurd (cc (is, (words_of words rest first _ e h).0))
as_soak words rest first P e is k (model.Geometry image) h = absurd (cc (is, (words_of words rest first _ e h).0))
as_soak words rest first P e is k (model.Show image) h = absurd (show_or_soak first (words_of words rest first _ e h).0 is)
as_soak words rest first P e is k (model.Report image) h = absurd (cc (is, (words_of words rest first _ e h).0))
as_soak words rest first P e is k (model.Parity image parity) h = absurd (cc (is, (words_of words rest first _ e h).0))
as_soak words rest first P e is k (model.Rebuild image parity unit) h = absurd (cc (is, (words_of words rest first _ e h).0))
as_soak words rest first P e is k (model.Run image script options) h = absurd (cc (is, (words_of words rest first _ e h).0))
as_soak words rest first P e is k (model.Soak image number rounds) h = k image number rounds (words_of words rest first _ e h).1
as_soak words rest first P e is k (model.Certify image certificate) h = absurd (cc (is, (words_of words rest first _ e h).0))
as_soak words rest first P e is k (model.Check image certificate) h = absurd (cc (is, (words_of words rest first _ e h).0))

pub as_certify : (words rest : List (List ℕ)) (first : List ℕ) (P : model.CommandLine → Type 0) → words ≡ first ∷ rest → first ≡ codes "certify"
    → ((image certificate : List ℕ) → AreWordsOf rest (model.Certify image certificate) → P (model.Certify image certificate))
    → (c : model.CommandLine) → IsCommandLine words c → P c
as_certify words rest first P e is k (model.Create image numbers) h = absurd (cc (is, (words_of words rest first _ e h).0))
as_certify words rest first P e is k (model.Geometry image) h = absurd (cc (is, (words_of words rest first _ e h).0))
as_certify words rest first P e is k (model.Show image) h = absurd (cc (is, (words_of words rest first _ e h).0))
as_certify words rest first P e is k (model.Report image) h = absurd (cc (is, (words_of words rest first _ e h).0))
as_certify words rest first P e is k (model.Certify image certificate) h = k image certificate (words_of words rest first _ e h).1
as_certify words rest first P e is k (model.Check image certificate) h = absurd (cc (is, (words_of words rest first _ e h).0))
as_certify words rest first P e is k (model.Run image script options) h = absurd (cc (is, (words_of words rest first _ e h).0))
as_certify words rest first P e is k (model.Soak image number rounds) h = absurd (cc (is, (words_of words rest first _ e h).0))
as_certify words rest first P e is k (model.Parity image parity) h = absurd (cc (is, (words_of words rest first _ e h).0))
as_certify words rest first P e is k (model.Rebuild image parity unit) h = absurd (certify_or_rebuild first is (words_of words rest first _ e h).0)

pub as_check : (words rest : List (List ℕ)) (first : List ℕ) (P : model.CommandLine → Type 0) → words ≡ first ∷ rest → first ≡ codes "check"
    → ((image certificate : List ℕ) → AreWordsOf rest (model.Check image certificate) → P (model.Check image certificate))
    → (c : model.CommandLine) → IsCommandLine words c → P c
as_check words rest first P e is k (model.Create image numbers) h = absurd (cc (is, (words_of words rest first _ e h).0))
as_check words rest first P e is k (model.Geometry image) h = absurd (cc (is, (words_of words rest first _ e h).0))
as_check words rest first P e is k (model.Show image) h = absurd (cc (is, (words_of words rest first _ e h).0))
as_check words rest first P e is k (model.Report image) h = absurd (cc (is, (words_of words rest first _ e h).0))
as_check words rest first P e is k (model.Certify image certificate) h = absurd (cc (is, (words_of words rest first _ e h).0))
as_check words rest first P e is k (model.Check image certificate) h = k image certificate (words_of words rest first _ e h).1
as_check words rest first P e is k (model.Run image script options) h = absurd (cc (is, (words_of words rest first _ e h).0))
as_check words rest first P e is k (model.Soak image number rounds) h = absurd (cc (is, (words_of words rest first _ e h).0))
as_check words rest first P e is k (model.Parity image parity) h = absurd (cc (is, (words_of words rest first _ e h).0))
as_check words rest first P e is k (model.Rebuild image parity unit) h = absurd (cc (is, (words_of words rest first _ e h).0))
