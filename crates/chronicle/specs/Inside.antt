-- What authors, notes and tokens keep.
use Rattle.std.specs.Prelude.{◌≡◌, ℕ, ◌+◌, ◌-◌, ◌%◌, ◌^◌, ◌≤◌, [], length, None}
use Rattle.std.specs.List.{Contains}
use Rattle.atomic_table.specs.Seated.{TableId}
use Rattle.pblk_model.specs.Shape.{units}
use Rattle.chronicle.specs.declared.authors.Author.TheInside as author
use Rattle.chronicle.specs.declared.tokens.Note.TheInside as note
use Rattle.chronicle.specs.declared.tokens.Lent.TheInside as lent
use Rattle.chronicle.specs.declared.tokens.Token.TheInside as token
use Rattle.chronicle.specs.Views.{Part, View}
use Rattle.chronicle.specs.Prefixes.{logs_of, ArePrefixes, AreLegalLogs}
use Rattle.chronicle.specs.Handles.{AuthorView, NoteView, TokenView}
use Rattle.chronicle.specs.Steps.{seated}

-- What is known is a legal world, which begins with what the chronicle began with.
pub record IsKnown (p : Part) : Type 0 where
  pub legal : AreLegalLogs p.past.image p.known
  pub begun : ArePrefixes p.past.logs p.known

-- a seat between two calls, whose table has a word for each log
pub record IsAtRest (table : TableId) (v : View) : Type 0 where
  pub seated : v ≡ seated v.mine
  pub words : table.words ≡ units v.mine.past.image.shape + 1
  pub known : IsKnown v.mine

abbrev pub author_view : author.Inside → AuthorView
author_view a = record {
  chronicle = a.seat.table_id;
  number = a.number;
  owned = a.seat.me.0.mine.owned;
  past = a.seat.me.0.mine.past;
  known = a.seat.me.0.mine.known;
  makers = a.seat.me.0.mine.makers;
  spare = a.seat.me.0.mine.spare;
}

abbrev pub token_of : TableId → View → TokenView
token_of table v = record { chronicle = table; past = v.mine.past; known = v.mine.known; makers = v.mine.makers; spare = v.mine.spare }

abbrev pub note_view : note.Inside → NoteView
note_view n = record { chronicle = n.seat.table_id; past = n.seat.me.0.mine.past; known = n.seat.me.0.mine.known }

abbrev pub lent_view : lent.Inside → TokenView
lent_view l = token_of l.seat.table_id l.seat.me.0

abbrev pub token_view : token.Inside → TokenView
token_view t = token_of t.seat.table_id t.seat.me.0

-- an author owns the log that it appends to, and counts what it appended, modulo 2^64
pub record IsWriter (table : TableId) (v : View) (number appended : ℕ) : Type 0 where
  pub rests : IsAtRest table v
  pub owns : Contains v.mine.owned number
  pub within : number ≤ units v.mine.past.image.shape
  pub counted : appended ≡ (length (logs_of v.mine.known number) - length (logs_of v.mine.past.logs number)) % 2 ^ 64

pub record IsAuthor (a : author.Inside) : Type 0 where
  pub empty : a.seat.me.1 ≡ []
  pub writer : IsWriter a.seat.table_id a.seat.me.0 a.number a.appended

-- a note or a token owns no log
pub record IsBystander (table : TableId) (v : View) : Type 0 where
  pub rests : IsAtRest table v
  pub owns_none : v.mine.owned ≡ []

-- nor does a note number commands
pub record IsNote (n : note.Inside) : Type 0 where
  pub empty : n.seat.me.1 ≡ []
  pub bystander : IsBystander n.seat.table_id n.seat.me.0
  pub makes_none : n.seat.me.0.mine.makers ≡ []
  pub names_none : n.seat.me.0.mine.spare ≡ None

pub record IsLent (l : lent.Inside) : Type 0 where
  pub empty : l.seat.me.1 ≡ []
  pub bystander : IsBystander l.seat.table_id l.seat.me.0

pub record IsToken (t : token.Inside) : Type 0 where
  pub empty : t.seat.me.1 ≡ []
  pub bystander : IsBystander t.seat.table_id t.seat.me.0
