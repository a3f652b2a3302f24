-- What a row of symbols begins, by its first ones.
use Rattle.salt_ast.specs.declared.lines.Act.{Act}
use Rattle.salt_ast.specs.declared.lines.Act.TheVariants as act
use Rattle.salt_parse.specs.declared.error.ParseErr.{ParseErr}
use Rattle.salt_parse.specs.declared.error.ParseErr.TheVariants.{Syntax}
use Rattle.salt_script.specs.declared.form.ActForm.{ActForm}
use Rattle.salt_script.specs.declared.form.ActForm.TheVariants as act_form_is
use Rattle.salt_script.specs.declared.form.Form.{Form}
use Rattle.salt_script.specs.declared.form.Form.TheVariants as form_is
use Rattle.salt_script.specs.declared.pairs.Armed.{Armed}
use Rattle.salt_script.specs.declared.pairs.Armed.TheVariants as armed
use Rattle.salt_ast.specs.Symbols.{Symbols, int, key, name, sign, symbols_in}
use Rattle.salt_ast.specs.declared.keyword.Keyword.{Keyword}
use Rattle.salt_ast.specs.declared.keyword.Keyword.TheVariants as word
use Rattle.salt_ast.specs.declared.sign.Sign.TheVariants as mark
use Rattle.std.specs.Prelude.{Err, List, Ok, Result, [], codes, if◌then◌else◌, ℕ, ◌∷◌}
use Rattle.std.specs.Str.{bytes_eq}

-- a line: by the keyword or the name, or a session's act
pub data LineStart : Type 0 where
  a_table : LineStart
  a_program : LineStart
  an_act : (session : ℕ) → Symbols → LineStart
  a_turn : (boot seq : ℕ) → LineStart
  all_turns : LineStart
  showing_locks : LineStart
  showing_bases : LineStart
  pairs : Armed → Symbols → LineStart
  no_line : LineStart

abbrev pub go_begins : Symbols → LineStart
go_begins (int boot ∷ sign mark.Dot ∷ int seq ∷ []) = a_turn boot seq
go_begins (key word.All ∷ []) = all_turns
go_begins _ = no_line

abbrev pub show_begins : Symbols → LineStart
show_begins (key word.Locks ∷ []) = showing_locks
show_begins (key word.Bases ∷ []) = showing_bases
show_begins _ = no_line

abbrev pub word_begins : Keyword → Symbols → LineStart
word_begins word.Create ts = a_table
word_begins word.Program ts = a_program
word_begins word.Go ts = go_begins ts
word_begins word.Show ts = show_begins ts
word_begins word.Crash ts = pairs armed.Stops ts
word_begins _ ts = no_line

-- `net` is a name, of tables too
abbrev pub name_begins : List ℕ → Symbols → LineStart
name_begins n ts = if bytes_eq n (codes "net") then pairs armed.Twists ts else no_line

abbrev pub line_begins : Symbols → LineStart
line_begins (key k ∷ ts) = word_begins k ts
line_begins (name n ∷ ts) = name_begins n ts
line_begins (sign mark.At ∷ int session ∷ ts) = an_act session ts
line_begins _ = no_line

-- what the program's form stands for
abbrev pub begun_by : Form → LineStart
begun_by form_is.Table = a_table
begun_by form_is.Program = a_program
begun_by (form_is.Session session ts) = an_act session (symbols_in ts.now)
begun_by (form_is.Go base) = a_turn base.boot base.seq
begun_by form_is.GoAll = all_turns
begun_by form_is.ShowLocks = showing_locks
begun_by form_is.ShowBases = showing_bases
begun_by (form_is.Crash ts) = pairs armed.Stops (symbols_in ts.now)
begun_by (form_is.Net ts) = pairs armed.Twists (symbols_in ts.now)
begun_by form_is.Other = no_line

-- an act: a word alone, a call, or else a statement
pub data ActBegins : Type 0 where
  a_word : Act → Symbols → ActBegins
  a_call : Symbols → ActBegins
  a_statement : ActBegins

abbrev pub act_word_begins : Keyword → Symbols → ActBegins
act_word_begins word.Begin ts = a_word act.Begin ts
act_word_begins word.Commit ts = a_word act.Commit ts
act_word_begins word.Rollback ts = a_word act.Rollback ts
act_word_begins word.Step ts = a_word act.Step ts
act_word_begins word.Call ts = a_call ts
act_word_begins _ ts = a_statement

abbrev pub act_begins : Symbols → ActBegins
act_begins (key k ∷ ts) = act_word_begins k ts
act_begins _ = a_statement

abbrev pub act_begun_by : ActForm → ActBegins
act_begun_by (act_form_is.Begin ts) = a_word act.Begin (symbols_in ts.now)
act_begun_by (act_form_is.Commit ts) = a_word act.Commit (symbols_in ts.now)
act_begun_by (act_form_is.Rollback ts) = a_word act.Rollback (symbols_in ts.now)
act_begun_by (act_form_is.Step ts) = a_word act.Step (symbols_in ts.now)
act_begun_by (act_form_is.Call ts) = a_call (symbols_in ts.now)
act_begun_by act_form_is.Statement = a_statement

-- an act, where nothing stands behind it
abbrev pub alone : Act → Symbols → Result Act ParseErr
alone a [] = Ok a
alone a (t ∷ ts) = Err Syntax
