-- Lines: the answer for a row is that of what the row begins.
use Rattle.std.proofs.Common.{Bool, List, None, Option, Some, [], ap, arith, codes, length, refl, subst, sym, ℕ, ◌∙◌, ◌∷◌, ◌≡◌}
use Rattle.std.proofs.lemmas.Bool.Decides.{nat_tests}
use Rattle.std.proofs.lemmas.Slice.Eq.{bytes_eq-Decides}
use Rattle.std.specs.Option.{option_or}
use Rattle.salt_model.specs.Words.{is_empty}
use Rattle.salt_ast.specs.declared.lexeme.Lexeme.{Lexeme}
use Rattle.std.specs.Prelude.{Err, Ok, Result, false, if◌then◌else◌, option_map, true, ◌==◌}
use Rattle.std.specs.Str.{bytes_eq}
use Rattle.salt_ast.specs.Limits.{height_passed, table_limit}
use Rattle.salt_ast.specs.Lines as form
use Rattle.salt_ast.specs.Lines.{IsAct, IsLine, IsStop}
use Rattle.salt_ast.specs.ProgramLimits.{act_exprs, act_passed, line_limit, number_passed, outside, program_limit}
use Rattle.salt_ast.specs.Programs.{Several, and_more, is_program, last_one}
use Rattle.salt_ast.specs.Spelling.{Passes, by_parentheses, by_tree}
use Rattle.salt_ast.specs.Tables.{is_table}
use Rattle.salt_ast.specs.declared.limit.LimitName.{LimitName}
use Rattle.salt_ast.specs.declared.limit.LimitName.TheVariants as limit
use Rattle.salt_ast.specs.declared.lines.Act.{Act}
use Rattle.salt_ast.specs.declared.lines.Line.{Line}
use Rattle.salt_ast.specs.declared.lines.Line.TheVariants as line
use Rattle.salt_ast.specs.declared.programs.ProgramDef.{ProgramDef}
use Rattle.salt_ast.specs.declared.trees.Expr.{Expr}
use Rattle.salt_ast.specs.declared.trees.TableDef.{TableDef}
use Rattle.salt_parse.specs.Settling.{DeepProgram, DeepTable, Settles, ShallowProgram, ShallowTable}
use Rattle.salt_parse.specs.declared.error.ParseErr.{ParseErr}
use Rattle.salt_parse.specs.declared.error.ParseErr.TheVariants.{Limit, Memory, Syntax}
use Rattle.salt_parse.proofs.Whole.{statement_deepens}
use Rattle.salt_script.proofs.Acts.{IsSettled}
use Rattle.salt_script.specs.Answers.{GivesOrLimit}
use Rattle.salt_script.specs.Forms.{LineStart, a_program, a_table, a_turn, all_turns, an_act, go_begins, line_begins, name_begins, no_line, show_begins}
use Rattle.salt_script.specs.Forms.{pairs as begins_pairs, showing_bases, showing_locks}
use Rattle.salt_script.specs.Literals.{pairs_at, pairs_passed}
use Rattle.salt_script.specs.Spelled.{DeepAct, DeepLine, ShallowAct, ShallowLine, act_limit, line_arming}
use Rattle.salt_script.specs.declared.pairs.Armed.{Armed}
use Rattle.salt_script.specs.declared.pairs.Armed.TheVariants.{Stops, Twists}
use Rattle.salt_values.specs.declared.limits.TheConstants.{SESSION_MOST}
use Rattle.salt_ast.specs.Symbols.{Symbol, Symbols, int, key, name, sign, symbols_in}
use Rattle.salt_ast.specs.declared.keyword.Keyword.TheVariants as word
use Rattle.salt_ast.specs.declared.sign.Sign.TheVariants as mark

abbrev pub IsLineSettled : Symbols → Result Line ParseErr → Type 0
IsLineSettled ts r = Settles line_limit ShallowLine DeepLine ts r

or_none : (o : Option LimitName) → option_or o None ≡ o
or_none None = refl
or_none (Some l) = refl

-- ---- tables and programs

abbrev pub table_line : Result TableDef ParseErr → Result Line ParseErr
table_line (Ok d) = Ok (line.Table d)
table_line (Err e) = Err e

table_of : {ts : Symbols} {d : TableDef} → ShallowLine ts (line.Table d) → ShallowTable ts d
table_of (form.of_table d) = d

table_passes : (ts : Symbols) (d : TableDef) (l : LimitName) → Passes (table_limit d) (ShallowTable ts d) l →
    Passes (line_limit (line.Table d)) (ShallowLine ts (line.Table d)) l
unfolding table_limit line_limit
table_passes ts d l (by_tree e) = by_tree e
table_passes ts d _ (by_parentheses e n) = by_parentheses e (λ s. n (table_of s))

no_table : (ts : Symbols) → line_begins ts ≡ a_table → ((d : TableDef) → DeepTable ts d → ⊥) → (x : Line) → DeepLine ts x → ⊥
no_table ts e h _ (form.of_table {d = d} t) = h d t
no_table _ e h _ (form.of_program (is_program a v b)) = absurd cc
no_table _ e h _ (form.of_session a) = absurd cc
no_table _ e h _ form.of_go = absurd cc
no_table _ e h _ form.of_go_all = absurd cc
no_table _ e h _ form.of_show_locks = absurd cc
no_table _ e h _ form.of_show_bases = absurd cc
no_table _ e h _ (form.of_crash s) = absurd cc
no_table _ e h _ (form.of_net s) = absurd cc

pub table_settles : (ts : Symbols) (r : Result TableDef ParseErr) → line_begins ts ≡ a_table → Settles table_limit ShallowTable DeepTable ts r →
    IsLineSettled ts (table_line r)
unfolding table_limit line_limit
table_settles ts (Ok d) e h = (form.of_table h.0, h.1)
table_settles ts (Err Memory) e h = tt
table_settles ts (Err Syntax) e h = no_table ts e h
table_settles ts (Err (Limit l)) e h = (line.Table h.0, form.of_table h.1, table_passes ts h.0 l h.2)

abbrev pub program_line : Result ProgramDef ParseErr → Result Line ParseErr
program_line (Ok p) = Ok (line.Program p)
program_line (Err e) = Err e

program_of : {ts : Symbols} {p : ProgramDef} → ShallowLine ts (line.Program p) → ShallowProgram ts p
program_of (form.of_program p) = p

program_passes : (ts : Symbols) (p : ProgramDef) (l : LimitName) → Passes (program_limit p) (ShallowProgram ts p) l →
    Passes (line_limit (line.Program p)) (ShallowLine ts (line.Program p)) l
unfolding program_limit line_limit
program_passes ts p l (by_tree e) = by_tree e
program_passes ts p _ (by_parentheses e n) = by_parentheses e (λ s. n (program_of s))

no_program : (ts : Symbols) → line_begins ts ≡ a_program → ((p : ProgramDef) → DeepProgram ts p → ⊥) → (x : Line) → DeepLine ts x → ⊥
no_program _ e h _ (form.of_table (is_table f fs es)) = absurd cc
no_program ts e h _ (form.of_program {p = p} d) = h p d
no_program _ e h _ (form.of_session a) = absurd cc
no_program _ e h _ form.of_go = absurd cc
no_program _ e h _ form.of_go_all = absurd cc
no_program _ e h _ form.of_show_locks = absurd cc
no_program _ e h _ form.of_show_bases = absurd cc
no_program _ e h _ (form.of_crash s) = absurd cc
no_program _ e h _ (form.of_net s) = absurd cc

pub program_settles : (ts : Symbols) (r : Result ProgramDef ParseErr) → line_begins ts ≡ a_program →
    Settles program_limit ShallowProgram DeepProgram ts r → IsLineSettled ts (program_line r)
unfolding program_limit line_limit
program_settles ts (Ok p) e h = (form.of_program h.0, h.1)
program_settles ts (Err Memory) e h = tt
program_settles ts (Err Syntax) e h = no_program ts e h
program_settles ts (Err (Limit l)) e h = (line.Program h.0, form.of_program h.1, program_passes ts h.0 l h.2)

-- ---- what the rows are that begin so

-- what the line of pairs begins with
abbrev arming : Armed → Symbol
arming Stops = key word.Crash
arming Twists = name (codes "net")

data BegunAs : Symbols → LineStart → Type 0 where
  as_table : {us : Symbols} → BegunAs (key word.Create ∷ us) a_table
  as_program : {us : Symbols} → BegunAs (key word.Program ∷ us) a_program
  as_act : {s : ℕ} {us : Symbols} → BegunAs (sign mark.At ∷ int s ∷ us) (an_act s us)
  as_turn : {boot seq : ℕ} → BegunAs (key word.Go ∷ int boot ∷ sign mark.Dot ∷ int seq ∷ []) (a_turn boot seq)
  as_all : BegunAs (key word.Go ∷ key word.All ∷ []) all_turns
  as_locks : BegunAs (key word.Show ∷ key word.Locks ∷ []) showing_locks
  as_bases : BegunAs (key word.Show ∷ key word.Bases ∷ []) showing_bases
  as_pairs : {armed : Armed} {us : Symbols} → BegunAs (arming armed ∷ us) (begins_pairs armed us)
  as_none : {us : Symbols} → BegunAs us no_line

go_view : (us : Symbols) → BegunAs (key word.Go ∷ us) (go_begins us)
go_view (int boot ∷ sign mark.Dot ∷ int seq ∷ []) = as_turn
go_view (key word.All ∷ []) = as_all
go_view _ = as_none

show_view : (us : Symbols) → BegunAs (key word.Show ∷ us) (show_begins us)
show_view (key word.Locks ∷ []) = as_locks
show_view (key word.Bases ∷ []) = as_bases
show_view _ = as_none

name_view : (n : List ℕ) (us : Symbols) → BegunAs (name n ∷ us) (name_begins n us)
name_view n us = by (bytes_eq n (codes "net")) (bytes_eq-Decides n (codes "net")).0
  where
    by : (t : Bool) → (t ≡ true → n ≡ codes "net") → BegunAs (name n ∷ us) (if t then begins_pairs Twists us else no_line)
    by true h = subst (λ (m : List ℕ). BegunAs (name m ∷ us) (begins_pairs Twists us)) (sym (h refl)) (as_pairs {armed = Twists})
    by false h = as_none

view : (ts : Symbols) → BegunAs ts (line_begins ts)
view (key word.Create ∷ us) = as_table
view (key word.Program ∷ us) = as_program
view (key word.Go ∷ us) = go_view us
view (key word.Show ∷ us) = show_view us
view (key word.Crash ∷ us) = as_pairs {armed = Stops}
view (name n ∷ us) = name_view n us
view (sign mark.At ∷ int s ∷ us) = as_act
view _ = as_none

begun : (ts : Symbols) (b : LineStart) → line_begins ts ≡ b → BegunAs ts b
begun ts b e = subst (BegunAs ts) e (view ts)

-- ---- what neither stands before other tokens nor holds expressions

pub all_settles : (ts : Symbols) → line_begins ts ≡ all_turns → IsLineSettled ts (Ok line.GoAll)
unfolding line_limit
all_settles ts e = go (begun ts all_turns e)
  where
    go : {us : Symbols} → BegunAs us all_turns → IsLineSettled us (Ok line.GoAll)
    go as_all = (form.of_go_all, refl)

pub locks_settle : (ts : Symbols) → line_begins ts ≡ showing_locks → IsLineSettled ts (Ok line.ShowLocks)
unfolding line_limit
locks_settle ts e = go (begun ts showing_locks e)
  where
    go : {us : Symbols} → BegunAs us showing_locks → IsLineSettled us (Ok line.ShowLocks)
    go as_locks = (form.of_show_locks, refl)

pub bases_settle : (ts : Symbols) → line_begins ts ≡ showing_bases → IsLineSettled ts (Ok line.ShowBases)
unfolding line_limit
bases_settle ts e = go (begun ts showing_bases e)
  where
    go : {us : Symbols} → BegunAs us showing_bases → IsLineSettled us (Ok line.ShowBases)
    go as_bases = (form.of_show_bases, refl)

pub none_settles : (ts : Symbols) → line_begins ts ≡ no_line → IsLineSettled ts (Err Syntax)
none_settles ts e = go ts e
  where
    go : (us : Symbols) → line_begins us ≡ no_line → (x : Line) → DeepLine us x → ⊥
    go _ h _ (form.of_table (is_table f fs es)) = absurd cc
    go _ h _ (form.of_program (is_program a v b)) = absurd cc
    go _ h _ (form.of_session a) = absurd cc
    go _ h _ form.of_go = absurd cc
    go _ h _ form.of_go_all = absurd cc
    go _ h _ form.of_show_locks = absurd cc
    go _ h _ form.of_show_bases = absurd cc
    go _ h _ (form.of_crash s) = absurd cc
    go _ h _ (form.of_net s) = absurd cc

-- ---- one turn

abbrev pub turn_limit : (boot seq : ℕ) → Option LimitName
turn_limit boot seq = option_or (number_passed boot) (number_passed seq)

at_turn : (ts : Symbols) (boot seq : ℕ) → line_begins ts ≡ a_turn boot seq → ts ≡ key word.Go ∷ int boot ∷ sign mark.Dot ∷ int seq ∷ []
at_turn ts boot seq e = go (begun ts (a_turn boot seq) e)
  where
    go : {us : Symbols} {b s : ℕ} → BegunAs us (a_turn b s) → us ≡ key word.Go ∷ int b ∷ sign mark.Dot ∷ int s ∷ []
    go as_turn = refl

pub turn_within : (ts : Symbols) (boot seq : ℕ) → line_begins ts ≡ a_turn boot seq → turn_limit boot seq ≡ None →
    IsLineSettled ts (Ok (line.Go (record { boot = boot; seq = seq })))
unfolding line_limit
turn_within ts boot seq e h = (
  subst (λ (x : Symbols). ShallowLine x (line.Go (record { boot = boot; seq = seq }))) (sym (at_turn ts boot seq e)) form.of_go,
  or_none (turn_limit boot seq) ∙ h,
)

pub turn_passes : (ts : Symbols) (boot seq : ℕ) (l : LimitName) → line_begins ts ≡ a_turn boot seq → turn_limit boot seq ≡ Some l →
    IsLineSettled ts (Err (Limit l))
unfolding line_limit
turn_passes ts boot seq l e h = (
  line.Go (record { boot = boot; seq = seq }),
  subst (λ (x : Symbols). DeepLine x (line.Go (record { boot = boot; seq = seq }))) (sym (at_turn ts boot seq e)) form.of_go,
  by_tree (or_none (turn_limit boot seq) ∙ h),
)

-- ---- a session's act

abbrev pub session_passed : ℕ → Option LimitName
session_passed s = outside 1 SESSION_MOST limit.Session s

at_session : (ts us : Symbols) (s : ℕ) → line_begins ts ≡ an_act s us → ts ≡ sign mark.At ∷ int s ∷ us
at_session ts us s e = go (begun ts (an_act s us) e)
  where
    go : {vs ws : Symbols} {n : ℕ} → BegunAs vs (an_act n ws) → vs ≡ sign mark.At ∷ int n ∷ ws
    go as_act = refl

-- a line of the act
of_act : {I D : Symbols → Expr → Type 0} (ts us : Symbols) (s : ℕ) (a : Act) → line_begins ts ≡ an_act s us → IsAct I D us a →
    IsLine I D ts (line.Session s a)
of_act {I} {D} ts us s a e g = subst (λ (x : Symbols). IsLine I D x (line.Session s a)) (sym (at_session ts us s e)) (form.of_session g)

act_of : {I D : Symbols → Expr → Type 0} (ts us : Symbols) (s : ℕ) (a : Act) → line_begins ts ≡ an_act s us → IsLine I D ts (line.Session s a) → IsAct I D us a
act_of {I} {D} ts us s a e g = go ts e g
  where
    go : (vs : Symbols) → line_begins vs ≡ an_act s us → IsLine I D vs (line.Session s a) → IsAct I D us a
    go _ h (form.of_session {ts = ws} k) = let same : ws ≡ us = cc h in subst (λ (x : Symbols). IsAct I D x a) same k

act_deepens : (us : Symbols) (a : Act) → ShallowAct us a → DeepAct us a
act_deepens _ _ form.begins = form.begins
act_deepens _ _ form.commits = form.commits
act_deepens _ _ form.rolls_back = form.rolls_back
act_deepens _ _ form.steps = form.steps
act_deepens _ _ (form.calls d) = form.calls d
act_deepens us _ (form.does {st = st} d) = form.does (statement_deepens us st d)

no_session : (ts us : Symbols) (s : ℕ) → line_begins ts ≡ an_act s us → ((a : Act) → DeepAct us a → ⊥) → (x : Line) → DeepLine ts x → ⊥
no_session _ us s e h _ (form.of_table (is_table f fs es)) = absurd cc
no_session _ us s e h _ (form.of_program (is_program a v b)) = absurd cc
no_session _ us s e h _ (form.of_session {ts = ws} {a = a} g) = let same : ws ≡ us = cc e in h a (subst (λ (x : Symbols). DeepAct x a) same g)
no_session _ us s e h _ form.of_go = absurd cc
no_session _ us s e h _ form.of_go_all = absurd cc
no_session _ us s e h _ form.of_show_locks = absurd cc
no_session _ us s e h _ form.of_show_bases = absurd cc
no_session _ us s e h _ (form.of_crash d) = absurd cc
no_session _ us s e h _ (form.of_net d) = absurd cc

pub session_within : (ts us : Symbols) (s : ℕ) (a : Act) → line_begins ts ≡ an_act s us → session_passed s ≡ None → IsSettled us (Ok a) →
    IsLineSettled ts (Ok (line.Session s a))
unfolding line_limit
session_within ts us s a e w h =
    (of_act ts us s a e h.0, ap (λ (o : Option LimitName). option_or (option_or o (act_passed a)) (height_passed (act_exprs a))) w ∙ h.1)

session_first : (s : ℕ) (a : Act) (l : LimitName) → session_passed s ≡ Some l → line_limit (line.Session s a) ≡ Some l
unfolding line_limit
session_first s a l w = ap (λ (o : Option LimitName). option_or (option_or o (act_passed a)) (height_passed (act_exprs a))) w

pub session_passes : (ts us : Symbols) (s : ℕ) (a : Act) (l : LimitName) → line_begins ts ≡ an_act s us → session_passed s ≡ Some l →
    IsSettled us (Ok a) → IsLineSettled ts (Err (Limit l))
session_passes ts us s a l e w h = (line.Session s a, of_act ts us s a e (act_deepens us a h.0), by_tree (session_first s a l w))

pub session_comes_first : (ts us : Symbols) (s : ℕ) (k l : LimitName) → line_begins ts ≡ an_act s us → session_passed s ≡ Some l →
    IsSettled us (Err (Limit k)) → IsLineSettled ts (Err (Limit l))
session_comes_first ts us s k l e w h = (line.Session s h.0, of_act ts us s h.0 e h.1, by_tree (session_first s h.0 l w))

act_passes : (ts us : Symbols) (s : ℕ) (a : Act) (l : LimitName) → line_begins ts ≡ an_act s us → session_passed s ≡ None →
    Passes (act_limit a) (ShallowAct us a) l → Passes (line_limit (line.Session s a)) (ShallowLine ts (line.Session s a)) l
unfolding line_limit
act_passes ts us s a l e w (by_tree h) =
    by_tree (ap (λ (o : Option LimitName). option_or (option_or o (act_passed a)) (height_passed (act_exprs a))) w ∙ h)
act_passes ts us s a _ e w (by_parentheses h n) =
    by_parentheses (ap (λ (o : Option LimitName). option_or (option_or o (act_passed a)) (height_passed (act_exprs a))) w ∙ h)
    (λ g. n (act_of ts us s a e g))

pub session_fails : (ts us : Symbols) (s : ℕ) (r : ParseErr) → line_begins ts ≡ an_act s us → session_passed s ≡ None → IsSettled us (Err r) →
    IsLineSettled ts (Err r)
session_fails ts us s Memory e w h = tt
session_fails ts us s Syntax e w h = no_session ts us s e h
session_fails ts us s (Limit l) e w h = (line.Session s h.0, of_act ts us s h.0 e h.1, act_passes ts us s h.0 l e w h.2)

-- what is no limit of the act is told whatever the session's number is
pub session_is_no_line : (ts us : Symbols) (s : ℕ) → line_begins ts ≡ an_act s us → IsSettled us (Err Syntax) → IsLineSettled ts (Err Syntax)
session_is_no_line ts us s e h = no_session ts us s e h

-- ---- pairs

pub pairs_complete : {ts : Symbols} {xs : List (ℕ × ℕ)} → Several IsStop ts xs → pairs_at ts ≡ Some xs
unfolding pairs_at
pairs_complete (last_one form.is_stop) = refl
pairs_complete (and_more (form.is_stop {n = n} {pick = m}) d) = ap (option_map (λ zs. (n, m) ∷ zs)) (pairs_complete d)

-- one pair, and those that may stand behind it
one_pair : (n m : ℕ) (us : Symbols) (xs ys : List (ℕ × ℕ)) → pairs_at us ≡ Some ys → (n, m) ∷ ys ≡ xs →
    ((v : Symbol) (vs : Symbols) → us ≡ v ∷ vs → Several IsStop us ys) → Several IsStop (int n ∷ int m ∷ us) xs
unfolding pairs_at
one_pair n m [] xs ys h same more =
    let none : [] ≡ ys = cc h in
    subst (Several IsStop (int n ∷ int m ∷ [])) (ap (λ (zs : List (ℕ × ℕ)). (n, m) ∷ zs) none ∙ same) (last_one form.is_stop)
one_pair n m (v ∷ vs) xs ys h same more = subst (Several IsStop (int n ∷ int m ∷ v ∷ vs)) same (and_more form.is_stop (more v vs refl))

some_pairs : (o : Option (List (ℕ × ℕ))) (n m : ℕ) (xs : List (ℕ × ℕ)) → option_map (λ zs. (n, m) ∷ zs) o ≡ Some xs →
    (ys : List (ℕ × ℕ)) × (o ≡ Some ys) × ((n, m) ∷ ys ≡ xs)
some_pairs None n m xs h = absurd cc
some_pairs (Some ys) n m xs h = (ys, refl, cc h)

pairs_sound : (t : Symbol) (ts : Symbols) (xs : List (ℕ × ℕ)) → pairs_at (t ∷ ts) ≡ Some xs → Several IsStop (t ∷ ts) xs
unfolding pairs_at
pairs_sound (int n) (int m ∷ []) xs h =
    let r = some_pairs (pairs_at []) n m xs h in
    one_pair n m [] xs r.0 r.1 r.2 (λ v vs e. absurd cc)
pairs_sound (int n) (int m ∷ v ∷ vs) xs h =
    let r = some_pairs (pairs_at (v ∷ vs)) n m xs h in
    one_pair n m (v ∷ vs) xs r.0 r.1 r.2 (λ w ws e. pairs_sound v vs r.0 r.1)
pairs_sound _ _ xs h = absurd cc

at_pairs : (ts us : Symbols) (armed : Armed) → line_begins ts ≡ begins_pairs armed us → ts ≡ arming armed ∷ us
at_pairs ts us armed e = go (begun ts (begins_pairs armed us) e)
  where
    go : {vs ws : Symbols} {a : Armed} → BegunAs vs (begins_pairs a ws) → vs ≡ arming a ∷ ws
    go as_pairs = refl

no_pairs : (ts us : Symbols) (armed : Armed) → line_begins ts ≡ begins_pairs armed us → ((xs : List (ℕ × ℕ)) → Several IsStop us xs → ⊥) →
    (x : Line) → DeepLine ts x → ⊥
no_pairs _ us armed e h _ (form.of_table (is_table f fs es)) = absurd cc
no_pairs _ us armed e h _ (form.of_program (is_program a v b)) = absurd cc
no_pairs _ us armed e h _ (form.of_session a) = absurd cc
no_pairs _ us armed e h _ form.of_go = absurd cc
no_pairs _ us armed e h _ form.of_go_all = absurd cc
no_pairs _ us armed e h _ form.of_show_locks = absurd cc
no_pairs _ us armed e h _ form.of_show_bases = absurd cc
no_pairs _ us armed e h _ (form.of_crash {ts = ws} {stops = xs} d) =
    let same : ws ≡ us = cc e in h xs (subst (λ (z : Symbols). Several IsStop z xs) same d)
no_pairs _ us armed e h _ (form.of_net {ts = ws} {pairs = xs} d) =
    let same : ws ≡ us = cc e in h xs (subst (λ (z : Symbols). Several IsStop z xs) same d)

abbrev pub pairs_line : Armed → Result (Result (List (ℕ × ℕ)) LimitName) ParseErr → Result Line ParseErr
pairs_line armed (Ok (Ok xs)) = Ok (line_arming armed xs)
pairs_line armed (Ok (Err l)) = Err (Limit l)
pairs_line armed (Err e) = Err e

of_pairs : {I D : Symbols → Expr → Type 0} (ts us : Symbols) (armed : Armed) (xs : List (ℕ × ℕ)) → line_begins ts ≡ begins_pairs armed us →
    Several IsStop us xs → IsLine I D ts (line_arming armed xs)
of_pairs {I} {D} ts us armed xs e d = subst (λ (z : Symbols). IsLine I D z (line_arming armed xs)) (sym (at_pairs ts us armed e)) (spelled armed)
  where
    spelled : (a : Armed) → IsLine I D (arming a ∷ us) (line_arming a xs)
    spelled Stops = form.of_crash d
    spelled Twists = form.of_net d

pairs_limit : (armed : Armed) (xs : List (ℕ × ℕ)) → line_limit (line_arming armed xs) ≡ pairs_passed armed xs
unfolding line_limit
pairs_limit Stops xs = or_none (pairs_passed Stops xs)
pairs_limit Twists xs = or_none (pairs_passed Twists xs)

pairs_settle_at : (ts : Symbols) (u : Symbol) (us : Symbols) (armed : Armed) (r : Result (Result (List (ℕ × ℕ)) LimitName) ParseErr) →
    line_begins ts ≡ begins_pairs armed (u ∷ us) → GivesOrLimit (pairs_passed armed) r (pairs_at (u ∷ us)) → IsLineSettled ts (pairs_line armed r)
pairs_settle_at ts u us armed (Ok (Ok xs)) e h = (of_pairs ts (u ∷ us) armed xs e (pairs_sound u us xs h.0), pairs_limit armed xs ∙ h.1)
pairs_settle_at ts u us armed (Ok (Err l)) e h =
    (line_arming armed h.0, of_pairs ts (u ∷ us) armed h.0 e (pairs_sound u us h.0 h.1), by_tree (pairs_limit armed h.0 ∙ h.2))
pairs_settle_at ts u us armed (Err Memory) e h = tt
pairs_settle_at ts u us armed (Err Syntax) e h =
    no_pairs ts (u ∷ us) armed e (λ xs d. (let both : Some xs ≡ None = sym (pairs_complete d) ∙ h in absurd cc))
pairs_settle_at ts u us armed (Err (Limit l)) e h = absurd h

pub no_pair_settles : (ts : Symbols) (armed : Armed) → line_begins ts ≡ begins_pairs armed [] → IsLineSettled ts (Err Syntax)
no_pair_settles ts armed e = no_pairs ts [] armed e none
  where
    none : (xs : List (ℕ × ℕ)) → Several IsStop [] xs → ⊥
    none xs d = go [] xs d refl
      where
        go : (us : Symbols) (ys : List (ℕ × ℕ)) → Several IsStop us ys → us ≡ [] → ⊥
        go _ _ (last_one form.is_stop) h = absurd cc
        go _ _ (and_more form.is_stop d) h = absurd cc

pub pairs_settle : (ts us : Symbols) (armed : Armed) (r : Result (Result (List (ℕ × ℕ)) LimitName) ParseErr) →
    line_begins ts ≡ begins_pairs armed us → is_empty us ≡ false → GivesOrLimit (pairs_passed armed) r (pairs_at us) → IsLineSettled ts (pairs_line armed r)
pairs_settle ts [] armed r e some h = absurd cc
pairs_settle ts (u ∷ us) armed r e some h = pairs_settle_at ts u us armed r e h

-- tokens and their symbols are as many
pub none_left : (tokens : List Lexeme) → (length tokens == 0) ≡ true → symbols_in tokens ≡ []
none_left [] h = refl
none_left (t ∷ ts) h = absurd (grind (arith, nat_tests))

pub some_left : (tokens : List Lexeme) → (length tokens == 0) ≡ false → is_empty (symbols_in tokens) ≡ false
some_left [] h = absurd cc
some_left (t ∷ ts) h = refl
