-- What the laws tell of expressions, of variables as they are held, and of texts.
use Rattle.salt_ast.specs.Judgement.{Kind, expr_kind, may_be_null, takes}
use Rattle.salt_ast.specs.Lines.{IsLine, of_crash, of_go, of_go_all, of_net, of_program, of_session, of_show_bases, of_show_locks, of_table}
use Rattle.salt_ast.specs.Tables.{IsField, IsTable, int_field, is_table, text_field}
use Rattle.salt_ast.specs.Grammar.{Spells}
use Rattle.salt_ast.specs.declared.lines.Line.{Line}
use Rattle.salt_ast.specs.declared.trees.Expr.{Expr}
use Rattle.salt_ast.specs.declared.trees.Field.{Field}
use Rattle.salt_ast.specs.declared.trees.TableDef.{TableDef}
use Rattle.salt_stands.specs.Fitting.{are_of_columns, is_of_column}
use Rattle.law_story.proofs.Every as each
use Rattle.salt_model.specs.Eval.{eval, named_values, value_of}
use Rattle.salt_model.specs.Lines.{AskInOrder, Asks, has_other_byte, is_idle, is_line, is_long, is_no_line, passes}
use Rattle.salt_model.specs.Trace.{Asked, Tree}
use Rattle.salt_model.specs.Words.{Every}
use Rattle.salt_model.specs.declared.events.Cause.{Cause}
use Rattle.salt_model.specs.declared.vars.Binding.{Binding}
use Rattle.salt_ast.specs.Symbols.{Symbols}
use Rattle.law_types.proofs.Values.{expression-given, taken}
use Rattle.law_types.specs.Played.{HasKey}
use Rattle.law_types.specs.Typed.{AreVariables, has_key, is_datum_of}
use Rattle.salt_values.specs.declared.value.Value.{Value}
use Rattle.std.proofs.Common.{subst, sym}
use Rattle.std.specs.Prelude.{Err, IfOk, List, Ok, Result, Some, not, refl, true, ◌≡◌, [], ℕ, ◌∷◌}

told : {A : Type 0} (P : A → Type 0) (r : Result A Cause) → each.IfOk P r → IfOk r P
told P (Err c) h = h
told P (Ok d) h = h

module _ (columns variables : List Field) (row : List Value) (vars : List Binding) (cells : are_of_columns columns row ≡ true) (held : AreVariables variables vars) where
  pub kind-told : (e : Expr) (k : Kind) → expr_kind columns variables e ≡ Some k →
      IfOk (eval (record { columns = named_values columns row; vars = vars }) e) (λ d. is_datum_of (may_be_null columns e) k d ≡ true)
  kind-told e k h =
      subst (λ (bs : List Binding). IfOk (eval (record { columns = named_values columns row; vars = bs }) e) (λ d. is_datum_of (may_be_null columns e) k d ≡ true)) (sym held.named)
      (told (λ d. is_datum_of (may_be_null columns e) k d ≡ true) (eval (record { columns = named_values columns row; vars = named_values variables held.values }) e)
      (expression-given columns row variables held.values cells held.typed e k h))

  pub column-told : (f : Field) (e : Expr) → takes columns variables f e ≡ true →
      IfOk (value_of (record { columns = named_values columns row; vars = vars }) e) (λ v. is_of_column f v ≡ true)
  column-told f e h =
      subst (λ (bs : List Binding). IfOk (value_of (record { columns = named_values columns row; vars = bs }) e) (λ v. is_of_column f v ≡ true)) (sym held.named)
      (told (λ v. is_of_column f v ≡ true) (value_of (record { columns = named_values columns row; vars = named_values variables held.values }) e)
      (taken columns row variables held.values cells held.typed f e h))

field-key : (ts : Symbols) (f : Field) → IsField ts f → not f.nullable ≡ true
field-key _ _ int_field = refl
field-key _ _ text_field = refl

pub table-key : (Inner : Spells) (ts : Symbols) (d : TableDef) → IsTable Inner ts d → has_key d.columns ≡ true
table-key Inner _ _ (is_table f fs es) = field-key _ _ f

-- LINES

line-key : (Inner Deeper : Spells) (ts : Symbols) (l : Line) → IsLine Inner Deeper ts l → HasKey (Tree l)
line-key Inner Deeper _ _ (of_table t) = table-key Deeper _ _ t
line-key Inner Deeper _ _ (of_program p) = tt
line-key Inner Deeper _ _ (of_session a) = tt
line-key Inner Deeper _ _ of_go = tt
line-key Inner Deeper _ _ of_go_all = tt
line-key Inner Deeper _ _ of_show_locks = tt
line-key Inner Deeper _ _ of_show_bases = tt
line-key Inner Deeper _ _ (of_crash s) = tt
line-key Inner Deeper _ _ (of_net s) = tt

asked-key : (text : List ℕ) (asked : Asked) → Asks text asked → HasKey asked
asked-key text _ (is_long h) = tt
asked-key text _ (is_idle h g) = tt
asked-key text _ (has_other_byte h g b) = tt
asked-key text _ (is_no_line r n) = tt
asked-key text _ (passes r s l) = tt
asked-key text _ (is_line r within) = line-key _ _ _ _ within.parentheses.spelled

pub asked-keys : (texts : List (List ℕ)) (lines : List Asked) → AskInOrder texts lines → Every HasKey lines
asked-keys [] [] h = tt
asked-keys (text ∷ texts) (line ∷ lines) h = (asked-key text line h.0, asked-keys texts lines h.1)
asked-keys [] (line ∷ lines) h = absurd h
asked-keys (text ∷ texts) [] h = absurd h
