-- What a session is to do: the answer for a row is that of what the row begins.
use Rattle.std.proofs.Common.{List, None, Option, Some, [], ap, refl, subst, sym, ℕ, ◌++◌, ◌∙◌, ◌∷◌, ◌≡◌}
use Rattle.std.specs.Option.{option_or}
use Rattle.std.specs.Prelude.{Bool, Err, Ok, Result, false, option_map, true}
use Rattle.salt_ast.specs.Limits.{statement_limit}
use Rattle.salt_ast.specs.Lines as form
use Rattle.salt_ast.specs.Lines.{IsAct}
use Rattle.salt_ast.specs.Spelling.{Passes, by_parentheses, by_tree}
use Rattle.salt_ast.specs.Statements as statement_form
use Rattle.salt_ast.specs.Statements.{IsStatement}
use Rattle.salt_ast.specs.declared.limit.LimitName.{LimitName}
use Rattle.salt_ast.specs.declared.lines.Act.{Act}
use Rattle.salt_ast.specs.declared.lines.Act.TheVariants as act
use Rattle.salt_ast.specs.declared.trees.Expr.{Expr}
use Rattle.salt_ast.specs.declared.trees.Statement.{Statement}
use Rattle.salt_parse.specs.Settling.{DeepStatement, Settles, ShallowStatement}
use Rattle.salt_parse.specs.declared.error.ParseErr.{ParseErr}
use Rattle.salt_parse.specs.declared.error.ParseErr.TheVariants.{Limit, Memory, Syntax}
use Rattle.salt_script.proofs.Calls.{args_complete, args_sound}
use Rattle.salt_script.specs.Answers.{GivesOrLimit}
use Rattle.salt_script.specs.Forms.{a_call, a_statement, a_word, act_begins, alone}
use Rattle.salt_script.specs.Literals.{args_at}
use Rattle.salt_script.specs.Spelled.{DeepAct, ShallowAct, act_limit, call_at, call_passed}
use Rattle.salt_ast.specs.Symbols.{Symbols, key, name, sign}
use Rattle.salt_ast.specs.declared.keyword.Keyword.TheVariants as word
use Rattle.salt_ast.specs.declared.sign.Sign.TheVariants as mark
use Rattle.salt_values.specs.declared.value.Value.{Value}

or_none : (o : Option LimitName) → option_or o None ≡ o
or_none None = refl
or_none (Some l) = refl

-- a statement's first word
abbrev begins_statement : Symbols → Bool
begins_statement (key word.Insert ∷ ts) = true
begins_statement (key word.Select ∷ ts) = true
begins_statement (key word.Update ∷ ts) = true
begins_statement (key word.Delete ∷ ts) = true
begins_statement (key word.Ensure ∷ ts) = true
begins_statement _ = false

first_word : {I D : Symbols → Expr → Type 0} {ts : Symbols} {st : Statement} → IsStatement I D ts st → begins_statement ts ≡ true
first_word (statement_form.is_insert l) = refl
first_word (statement_form.is_select w s) = refl
first_word (statement_form.is_select_into d) = refl
first_word (statement_form.is_update l s) = refl
first_word (statement_form.is_delete s) = refl
first_word (statement_form.is_ensure d) = refl

abbrev pub IsSettled : Symbols → Result Act ParseErr → Type 0
IsSettled ts r = Settles act_limit ShallowAct DeepAct ts r

-- ---- a word alone

begin_settles : (us : Symbols) → IsSettled (key word.Begin ∷ us) (alone act.Begin us)
begin_settles [] = (form.begins, refl)
begin_settles (t ∷ us) = none
  where
    none : (x : Act) → DeepAct (key word.Begin ∷ t ∷ us) x → ⊥
    none _ (form.does d) = let h = first_word d in cc

commit_settles : (us : Symbols) → IsSettled (key word.Commit ∷ us) (alone act.Commit us)
commit_settles [] = (form.commits, refl)
commit_settles (t ∷ us) = none
  where
    none : (x : Act) → DeepAct (key word.Commit ∷ t ∷ us) x → ⊥
    none _ (form.does d) = let h = first_word d in cc

rollback_settles : (us : Symbols) → IsSettled (key word.Rollback ∷ us) (alone act.Rollback us)
rollback_settles [] = (form.rolls_back, refl)
rollback_settles (t ∷ us) = none
  where
    none : (x : Act) → DeepAct (key word.Rollback ∷ t ∷ us) x → ⊥
    none _ (form.does d) = let h = first_word d in cc

step_settles : (us : Symbols) → IsSettled (key word.Step ∷ us) (alone act.Step us)
step_settles [] = (form.steps, refl)
step_settles (t ∷ us) = none
  where
    none : (x : Act) → DeepAct (key word.Step ∷ t ∷ us) x → ⊥
    none _ (form.does d) = let h = first_word d in cc

pub word_settles : (ts rest : Symbols) (a : Act) → a_word a rest ≡ act_begins ts → IsSettled ts (alone a rest)
word_settles (key word.Begin ∷ us) rest a h = go (cc h) (begin_settles us)
  where
    go : ◌≡◌ {A = Act × Symbols} (a, rest) (act.Begin, us) → IsSettled (key word.Begin ∷ us) (alone act.Begin us) → IsSettled (key word.Begin ∷ us) (alone a rest)
    go e s = subst (λ (x : Act × Symbols). IsSettled (key word.Begin ∷ us) (alone x.0 x.1)) (sym e) s
word_settles (key word.Commit ∷ us) rest a h = go (cc h) (commit_settles us)
  where
    go : ◌≡◌ {A = Act × Symbols} (a, rest) (act.Commit, us) → IsSettled (key word.Commit ∷ us) (alone act.Commit us) → IsSettled (key word.Commit ∷ us) (alone a rest)
    go e s = subst (λ (x : Act × Symbols). IsSettled (key word.Commit ∷ us) (alone x.0 x.1)) (sym e) s
word_settles (key word.Rollback ∷ us) rest a h = go (cc h) (rollback_settles us)
  where
    go : ◌≡◌ {A = Act × Symbols} (a, rest) (act.Rollback, us) → IsSettled (key word.Rollback ∷ us) (alone act.Rollback us) →
        IsSettled (key word.Rollback ∷ us) (alone a rest)
    go e s = subst (λ (x : Act × Symbols). IsSettled (key word.Rollback ∷ us) (alone x.0 x.1)) (sym e) s
word_settles (key word.Step ∷ us) rest a h = go (cc h) (step_settles us)
  where
    go : ◌≡◌ {A = Act × Symbols} (a, rest) (act.Step, us) → IsSettled (key word.Step ∷ us) (alone act.Step us) → IsSettled (key word.Step ∷ us) (alone a rest)
    go e s = subst (λ (x : Act × Symbols). IsSettled (key word.Step ∷ us) (alone x.0 x.1)) (sym e) s
word_settles _ rest a h = absurd cc

-- ---- a call

abbrev pub call_act : Result (Result (List ℕ × List Value) LimitName) ParseErr → Result Act ParseErr
call_act (Ok (Ok c)) = Ok (act.Call c.0 c.1)
call_act (Ok (Err l)) = Err (Limit l)
call_act (Err e) = Err e

call_sound : {I D : Symbols → Expr → Type 0} (ts : Symbols) (c : List ℕ × List Value) → call_at ts ≡ Some c →
    IsAct I D (key word.Call ∷ ts) (act.Call c.0 c.1)
call_sound {I} {D} (name p ∷ sign mark.Open ∷ us) c h = go (args_at us) refl h
  where
    go : (o : Option (List Value)) → args_at us ≡ o → option_map (λ vs. (p, vs)) o ≡ Some c →
        IsAct I D (key word.Call ∷ name p ∷ sign mark.Open ∷ us) (act.Call c.0 c.1)
    go None e k = absurd cc
    go (Some vs) e k =
        let r = args_sound us vs e in
        let same : ◌≡◌ {A = List ℕ × List Value} (p, vs) c = cc k in
        subst (λ (x : List ℕ × List Value). IsAct I D (key word.Call ∷ name p ∷ sign mark.Open ∷ us) (act.Call x.0 x.1)) same
        (subst (λ (x : Symbols). IsAct I D (key word.Call ∷ name p ∷ sign mark.Open ∷ x) (act.Call p vs)) (sym r.1) (form.calls r.2))
call_sound _ c h = absurd cc

call_none : (ts : Symbols) → call_at ts ≡ None → (x : Act) → DeepAct (key word.Call ∷ ts) x → ⊥
call_none _ h _ (form.calls {p = p} {ts = us} {vs = vs} d) =
    let found : option_map (λ ws. (p, ws)) (args_at (us ++ sign mark.Close ∷ [])) ≡ Some (p, vs) = ap (option_map (λ ws. (p, ws))) (args_complete d) in
    let both : ◌≡◌ {A = Option (List ℕ × List Value)} (Some (p, vs)) None = sym found ∙ h in
    absurd cc
call_none ts h _ (form.does d) = let first = first_word d in cc

abbrev IsCallSettled : Symbols → Result (Result (List ℕ × List Value) LimitName) ParseErr → Type 0
IsCallSettled ts r = GivesOrLimit call_passed r (call_at ts) → IsSettled (key word.Call ∷ ts) (call_act r)

call_behind : (ts : Symbols) (r : Result (Result (List ℕ × List Value) LimitName) ParseErr) → IsCallSettled ts r
call_behind ts (Ok (Ok c)) h = (call_sound ts c h.0, or_none (call_passed c) ∙ h.1)
call_behind ts (Ok (Err l)) h = (act.Call h.0.0 h.0.1, call_sound ts h.0 h.1, by_tree (or_none (call_passed h.0) ∙ h.2))
call_behind ts (Err Memory) h = tt
call_behind ts (Err Syntax) h = call_none ts h
call_behind ts (Err (Limit l)) h = absurd h

pub call_settles : (ts rest : Symbols) → act_begins ts ≡ a_call rest → (r : Result (Result (List ℕ × List Value) LimitName) ParseErr) →
    GivesOrLimit call_passed r (call_at rest) → IsSettled ts (call_act r)
call_settles (key word.Call ∷ us) rest e r h = call_behind us r (subst (λ (x : Symbols). GivesOrLimit call_passed r (call_at x)) (sym (cc e)) h)
call_settles _ rest e r h = absurd cc

-- ---- a statement

abbrev pub statement_act : Result Statement ParseErr → Result Act ParseErr
statement_act (Ok st) = Ok (act.Do st)
statement_act (Err e) = Err e

undone : {I D : Symbols → Expr → Type 0} {ts : Symbols} {st : Statement} → IsAct I D ts (act.Do st) → IsStatement I D ts st
undone (form.does d) = d

passes_on : (ts : Symbols) (st : Statement) (l : LimitName) → Passes (statement_limit st) (ShallowStatement ts st) l →
    Passes (act_limit (act.Do st)) (ShallowAct ts (act.Do st)) l
unfolding statement_limit
passes_on ts st l (by_tree e) = by_tree e
passes_on ts st _ (by_parentheses e n) = by_parentheses e (λ s. n (undone s))

no_act : (ts : Symbols) → act_begins ts ≡ a_statement → ((st : Statement) → DeepStatement ts st → ⊥) → (x : Act) → DeepAct ts x → ⊥
no_act _ e h _ form.begins = absurd cc
no_act _ e h _ form.commits = absurd cc
no_act _ e h _ form.rolls_back = absurd cc
no_act _ e h _ form.steps = absurd cc
no_act _ e h _ (form.calls d) = absurd cc
no_act ts e h _ (form.does {st = st} d) = h st d

pub statement_settles : (ts : Symbols) (r : Result Statement ParseErr) → act_begins ts ≡ a_statement →
    Settles statement_limit ShallowStatement DeepStatement ts r → IsSettled ts (statement_act r)
unfolding statement_limit
statement_settles ts (Ok st) e h = (form.does h.0, h.1)
statement_settles ts (Err Memory) e h = tt
statement_settles ts (Err Syntax) e h = no_act ts e h
statement_settles ts (Err (Limit l)) e h = (act.Do h.0, form.does h.1, passes_on ts h.0 l h.2)
