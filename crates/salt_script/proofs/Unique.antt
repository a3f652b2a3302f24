-- One row spells one line at most.
use Rattle.std.proofs.Common.{List, Option, Some, ap, refl, sym, ℕ, ◌∙◌, ◌≡◌}
use Rattle.salt_ast.specs.Lines as form
use Rattle.salt_ast.specs.Programs.{is_program}
use Rattle.salt_ast.specs.Statements as statement_form
use Rattle.salt_ast.specs.Tables.{is_table}
use Rattle.salt_ast.specs.declared.lines.Act.{Act}
use Rattle.salt_ast.specs.declared.lines.Act.TheVariants as act
use Rattle.salt_ast.specs.declared.lines.Line.{Line}
use Rattle.salt_ast.specs.declared.lines.Line.TheVariants as line
use Rattle.salt_ast.specs.declared.programs.ProgramDef.{ProgramDef}
use Rattle.salt_ast.specs.declared.trees.Statement.{Statement}
use Rattle.salt_ast.specs.declared.trees.TableDef.{TableDef}
use Rattle.salt_parse.proofs.Whole.{row_program, row_statement, row_table}
use Rattle.salt_parse.specs.Settling.{DeepProgram, DeepStatement, DeepTable}
use Rattle.salt_script.proofs.Calls.{call_complete}
use Rattle.salt_script.proofs.Lines.{pairs_complete}
use Rattle.salt_script.specs.Forms.{ActBegins, LineStart, a_call, a_program, a_statement, a_table, a_turn, a_word, act_begins, all_turns, an_act, line_begins}
use Rattle.salt_script.specs.Forms.{no_line, pairs as begins_pairs, showing_bases, showing_locks}
use Rattle.salt_script.specs.Literals.{pairs_at}
use Rattle.salt_script.specs.Spelled.{DeepAct, DeepLine, call_at, line_arming as armed_line}
use Rattle.salt_ast.specs.Symbols.{Symbols}
use Rattle.salt_values.specs.declared.value.Value.{Value}

some_is : {A : Type 0} (x y : A) → ◌≡◌ {A = Option A} (Some x) (Some y) → x ≡ y
some_is x y h = cc h

-- what is spelled, by what the row begins

abbrev IsActOf : Symbols → ActBegins → Act → Type 0
IsActOf ts (a_word a rest) x = x ≡ a
IsActOf ts (a_call rest) x = (c : List ℕ × List Value) × (x ≡ act.Call c.0 c.1) × (call_at rest ≡ Some c)
IsActOf ts a_statement x = (st : Statement) × (x ≡ act.Do st) × DeepStatement ts st

act_of : (ts : Symbols) (x : Act) → DeepAct ts x → IsActOf ts (act_begins ts) x
act_of _ _ form.begins = refl
act_of _ _ form.commits = refl
act_of _ _ form.rolls_back = refl
act_of _ _ form.steps = refl
act_of _ _ (form.calls {p = p} {ts = us} {vs = vs} d) = ((p, vs), refl, call_complete p us vs d)
act_of _ _ (form.does {st = st} (statement_form.is_insert l)) = (st, refl, statement_form.is_insert l)
act_of _ _ (form.does {st = st} (statement_form.is_select w s)) = (st, refl, statement_form.is_select w s)
act_of _ _ (form.does {st = st} (statement_form.is_select_into e)) = (st, refl, statement_form.is_select_into e)
act_of _ _ (form.does {st = st} (statement_form.is_update l s)) = (st, refl, statement_form.is_update l s)
act_of _ _ (form.does {st = st} (statement_form.is_delete s)) = (st, refl, statement_form.is_delete s)
act_of _ _ (form.does {st = st} (statement_form.is_ensure e)) = (st, refl, statement_form.is_ensure e)

one_act_of : (ts : Symbols) (b : ActBegins) (x y : Act) → IsActOf ts b x → IsActOf ts b y → x ≡ y
one_act_of ts (a_word a rest) x y d e = d ∙ sym e
one_act_of ts (a_call rest) x y d e =
    let same : d.0 ≡ e.0 = some_is d.0 e.0 (sym d.2 ∙ e.2) in
    d.1 ∙ ap (λ (c : List ℕ × List Value). act.Call c.0 c.1) same ∙ sym e.1
one_act_of ts a_statement x y d e = d.1 ∙ ap act.Do (row_statement ts d.0 e.0 d.2 e.2) ∙ sym e.1

row_act : (ts : Symbols) (x y : Act) → DeepAct ts x → DeepAct ts y → x ≡ y
row_act ts x y d e = one_act_of ts (act_begins ts) x y (act_of ts x d) (act_of ts y e)

abbrev IsLineOf : Symbols → LineStart → Line → Type 0
IsLineOf ts a_table x = (d : TableDef) × (x ≡ line.Table d) × DeepTable ts d
IsLineOf ts a_program x = (p : ProgramDef) × (x ≡ line.Program p) × DeepProgram ts p
IsLineOf ts (an_act s us) x = (a : Act) × (x ≡ line.Session s a) × DeepAct us a
IsLineOf ts (a_turn boot seq) x = x ≡ line.Go (record { boot = boot; seq = seq })
IsLineOf ts all_turns x = x ≡ line.GoAll
IsLineOf ts showing_locks x = x ≡ line.ShowLocks
IsLineOf ts showing_bases x = x ≡ line.ShowBases
IsLineOf ts (begins_pairs armed us) x = (xs : List (ℕ × ℕ)) × (x ≡ armed_line armed xs) × (pairs_at us ≡ Some xs)
IsLineOf ts no_line x = ⊥

line_of : (ts : Symbols) (x : Line) → DeepLine ts x → IsLineOf ts (line_begins ts) x
line_of _ _ (form.of_table {d = d} (is_table f fs es)) = (d, refl, is_table f fs es)
line_of _ _ (form.of_program {p = p} (is_program a v b)) = (p, refl, is_program a v b)
line_of _ _ (form.of_session {a = a} d) = (a, refl, d)
line_of _ _ form.of_go = refl
line_of _ _ form.of_go_all = refl
line_of _ _ form.of_show_locks = refl
line_of _ _ form.of_show_bases = refl
line_of _ _ (form.of_crash {stops = xs} d) = (xs, refl, pairs_complete d)
line_of _ _ (form.of_net {pairs = xs} d) = (xs, refl, pairs_complete d)

one_line_of : (ts : Symbols) (b : LineStart) (x y : Line) → IsLineOf ts b x → IsLineOf ts b y → x ≡ y
one_line_of ts a_table x y d e = d.1 ∙ ap line.Table (row_table ts d.0 e.0 d.2 e.2) ∙ sym e.1
one_line_of ts a_program x y d e = d.1 ∙ ap line.Program (row_program ts d.0 e.0 d.2 e.2) ∙ sym e.1
one_line_of ts (an_act s us) x y d e = d.1 ∙ ap (line.Session s) (row_act us d.0 e.0 d.2 e.2) ∙ sym e.1
one_line_of ts (a_turn boot seq) x y d e = d ∙ sym e
one_line_of ts all_turns x y d e = d ∙ sym e
one_line_of ts showing_locks x y d e = d ∙ sym e
one_line_of ts showing_bases x y d e = d ∙ sym e
one_line_of ts (begins_pairs armed us) x y d e = d.1 ∙ ap (armed_line armed) (some_is d.0 e.0 (sym d.2 ∙ e.2)) ∙ sym e.1
one_line_of ts no_line x y d e = absurd d

pub row_line : (ts : Symbols) (x y : Line) → DeepLine ts x → DeepLine ts y → x ≡ y
row_line ts x y d e = one_line_of ts (line_begins ts) x y (line_of ts x d) (line_of ts y e)
