-- A statement attempted is the statement done, or its cause.
use Rattle.salt_ast.specs.declared.trees.Statement.TheVariants.{Delete, Ensure, Insert, Select, SelectInto, Update}
use Rattle.salt_ast.specs.declared.trees.Statement.{Statement}
use Rattle.salt_ast.specs.declared.trees.TableDef.{TableDef}
use Rattle.salt_eval.proofs.Tabled.{named-known, named-unknown}
use Rattle.salt_eval.specs.Effects.{IsEffect, attempted, effect_at, effect_of, table_effect}
use Rattle.salt_model.specs.Eval.{holds}
use Rattle.salt_model.specs.Reaches.{no_row, reach, reach_in, table_for, table_from, table_in}
use Rattle.salt_model.specs.Statements.{Done, answering, do_at, do_in, done, outcome_of}
use Rattle.salt_model.specs.Tables.{Tables, rows_in}
use Rattle.salt_model.specs.Words.{and_then}
use Rattle.salt_model.specs.declared.events.Answer.TheVariants as answer
use Rattle.salt_model.specs.declared.events.Answer.{Answer}
use Rattle.salt_model.specs.declared.events.Cause.TheVariants as cause
use Rattle.salt_model.specs.declared.events.Cause.{Cause}
use Rattle.salt_model.specs.declared.vars.Binding.{Binding}
use Rattle.salt_schema.specs.Schemas.{table_number}
use Rattle.salt_values.specs.declared.change.Change.{Change}
use Rattle.std.proofs.Common.{ap, subst, ◌∙◌}
use Rattle.std.specs.Prelude.{Bool, Err, List, None, Ok, Option, Result, Some, [], cond, false, option_and_then, refl, slice_get, true, ℕ, ◌≡◌}

-- what is told of a statement by what was attempted
abbrev pub Told : Result (Answer × List Change) Cause → Done → Type 0
Told (Ok effect) d = IsEffect effect d
Told (Err c) d = IsEffect (answer.Failed c, []) d

module _ (vars : List Binding) (es : Tables) where
  told-done : (r : Result Done Cause) → Told (effect_of r) (done vars r)
  told-done (Ok d) = record { answer = refl; changes = refl }
  told-done (Err c) = record { answer = refl; changes = refl }

  abbrev Goes : Statement → Option (ℕ × TableDef) → Type 0
  Goes st d = Told (effect_at vars st d es) (do_at vars st d (rows_in (option_and_then (λ (d : ℕ × TableDef). reach_in d.0 vars st) d) es))

  told-ensured : (r : Result Bool Cause) → Told (and_then r (λ b. cond b (Ok (answer.Held, [])) (Err cause.Ensure))) (done vars (and_then r (λ b. cond b (Ok (answering vars answer.Held)) (Err cause.Ensure))))
  told-ensured (Ok true) = record { answer = refl; changes = refl }
  told-ensured (Ok false) = record { answer = refl; changes = refl }
  told-ensured (Err c) = record { answer = refl; changes = refl }

  told : (st : Statement) (d : Option (ℕ × TableDef)) → Goes st d
  told (Ensure e) d = told-ensured (holds (no_row vars) e)
  told (Insert n v) None = record { answer = refl; changes = refl }
  told (Insert n v) (Some d) = told-done (do_in d.0 d.1 vars (Insert n v) (rows_in (reach_in d.0 vars (Insert n v)) es))
  told (Select w n s) None = record { answer = refl; changes = refl }
  told (Select w n s) (Some d) = told-done (do_in d.0 d.1 vars (Select w n s) (rows_in (reach_in d.0 vars (Select w n s)) es))
  told (SelectInto c v n k) None = record { answer = refl; changes = refl }
  told (SelectInto c v n k) (Some d) = told-done (do_in d.0 d.1 vars (SelectInto c v n k) (rows_in (reach_in d.0 vars (SelectInto c v n k)) es))
  told (Update n s w) None = record { answer = refl; changes = refl }
  told (Update n s w) (Some d) = told-done (do_in d.0 d.1 vars (Update n s w) (rows_in (reach_in d.0 vars (Update n s w)) es))
  told (Delete n s) None = record { answer = refl; changes = refl }
  told (Delete n s) (Some d) = told-done (do_in d.0 d.1 vars (Delete n s) (rows_in (reach_in d.0 vars (Delete n s)) es))

  pub outcome-told : (schema : List TableDef) (st : Statement) (r : Result (Answer × List Change) Cause) → attempted schema vars st es ≡ r → Told r (outcome_of schema es vars st)
  unfolding outcome_of reach
  outcome-told schema st r is = subst (λ x. Told x (do_at vars st (table_for schema st) (rows_in (option_and_then (λ (d : ℕ × TableDef). reach_in d.0 vars st) (table_for schema st)) es))) is (told st (table_for schema st))

  at-none : (st : Statement) (name : List ℕ) → table_in st ≡ Some name → effect_at vars st None es ≡ Err cause.Missing
  at-none (Ensure e) name h = absurd cc
  at-none (Insert n v) name h = refl
  at-none (Select w n s) name h = refl
  at-none (SelectInto c v n k) name h = refl
  at-none (Update n s w) name h = refl
  at-none (Delete n s) name h = refl

  at-some : (st : Statement) (name : List ℕ) → table_in st ≡ Some name → (d : ℕ × TableDef) → effect_at vars st (Some d) es ≡ table_effect d.0 d.1 vars st es
  at-some (Ensure e) name h d = absurd cc
  at-some (Insert n v) name h d = refl
  at-some (Select w n s) name h d = refl
  at-some (SelectInto c v n k) name h d = refl
  at-some (Update n s w) name h d = refl
  at-some (Delete n s) name h d = refl

  module _ (schema : List TableDef) (st : Statement) (name : List ℕ) (names : table_in st ≡ Some name) where
    at-table : (o : Option (ℕ × TableDef)) → table_from 0 name schema ≡ o → attempted schema vars st es ≡ effect_at vars st o es
    at-table o is = ap (λ n. effect_at vars st (option_and_then (λ name. table_from 0 name schema) n) es) names ∙ ap (λ x. effect_at vars st x es) is

    pub attempted-unknown : table_number schema name ≡ None → attempted schema vars st es ≡ Err cause.Missing
    attempted-unknown none = at-table None (named-unknown name schema none) ∙ at-none st name names

    pub attempted-known : (t : ℕ) (def : TableDef) → table_number schema name ≡ Some t → slice_get schema t ≡ Some def → attempted schema vars st es ≡ table_effect t def vars st es
    attempted-known t def number at = at-table (Some (t, def)) (named-known name schema t def number at) ∙ at-some st name names (t, def)
