-- The table that a statement names, by its number.
use Rattle.salt_ast.specs.declared.trees.Statement.{Statement}
use Rattle.salt_ast.specs.declared.trees.TableDef.{TableDef}
use Rattle.salt_model.specs.Reaches.{reach, reach_in, table_from, table_in}
use Rattle.salt_model.specs.declared.vars.Binding.{Binding}
use Rattle.salt_schema.specs.Definitions.{is_named}
use Rattle.salt_schema.specs.Schemas.{table_number}
use Rattle.salt_ast.specs.TokenSpelling.{same_bytes}
use Rattle.std.proofs.Common.{ap, arith, sym, ◌∙◌}
use Rattle.std.specs.List.{position_from}
use Rattle.std.specs.Prelude.{Bool, List, None, Option, Some, [], cond, false, option_and_then, option_map, refl, slice_get, suc, true, ℕ, ◌+◌, ◌∷◌, ◌≡◌, ◌-◌}

numbered : (n : ℕ) (name : List ℕ) (schema : List TableDef) → option_map (λ (d : ℕ × TableDef). d.0) (table_from n name schema) ≡ position_from (is_named (λ (d : TableDef). d.name) name) n schema
numbered n name [] = refl
numbered n name (d ∷ ds) = by (same_bytes name d.name) (numbered (n + 1) name ds)
  where
    by : (b : Bool) → option_map (λ (d : ℕ × TableDef). d.0) (table_from (n + 1) name ds) ≡ position_from (is_named (λ (d : TableDef). d.name) name) (n + 1) ds
        → option_map (λ (d : ℕ × TableDef). d.0) (cond b (Some (n, d)) (table_from (n + 1) name ds)) ≡ cond b (Some n) (position_from (is_named (λ (d : TableDef). d.name) name) (n + 1) ds)
    by true more = refl
    by false more = more

-- the table found from a number on stands at its distance from there
data_at : (n : ℕ) (name : List ℕ) (schema : List TableDef) (t : ℕ) (def : TableDef) → table_from n name schema ≡ Some (t, def) → (k : ℕ) × (t ≡ n + k) × (slice_get schema k ≡ Some def)
data_at n name [] t def h = absurd cc
data_at n name (d ∷ ds) t def h = by (same_bytes name d.name) (data_at (n + 1) name ds t def) h
  where
    by : (b : Bool) → (table_from (n + 1) name ds ≡ Some (t, def) → (k : ℕ) × (t ≡ n + 1 + k) × (slice_get ds k ≡ Some def)) → cond b (Some (n, d)) (table_from (n + 1) name ds) ≡ Some (t, def) → (k : ℕ) × (t ≡ n + k) × (slice_get (d ∷ ds) k ≡ Some def)
    by true more h =
        let pair : ◌≡◌ {A = ℕ × TableDef} (n, d) (t, def) = some-same (n, d) (t, def) h in
        let first : n ≡ t = ap (λ (x : ℕ × TableDef). x.0) pair in
        (0, omega arith, ap (λ (x : ℕ × TableDef). Some x.1) pair)
      where
        some-same : (x y : ℕ × TableDef) → Some x ≡ Some y → x ≡ y
        some-same x y h = cc
    by false more h =
        let m = more h in
        let at : t ≡ n + 1 + m.0 = m.1 in
        (suc m.0, omega arith, m.2)

pub number-named : (name : List ℕ) (schema : List TableDef) → option_map (λ (d : ℕ × TableDef). d.0) (table_from 0 name schema) ≡ table_number schema name
number-named name schema = numbered 0 name schema

pub named-unknown : (name : List ℕ) (schema : List TableDef) → table_number schema name ≡ None → table_from 0 name schema ≡ None
named-unknown name schema h = by (table_from 0 name schema) (number-named name schema ∙ h)
  where
    by : (o : Option (ℕ × TableDef)) → option_map (λ (d : ℕ × TableDef). d.0) o ≡ None → o ≡ None
    by None h = refl
    by (Some d) h = absurd cc

pub named-known : (name : List ℕ) (schema : List TableDef) (t : ℕ) (def : TableDef) → table_number schema name ≡ Some t → slice_get schema t ≡ Some def → table_from 0 name schema ≡ Some (t, def)
named-known name schema t def number at = by (table_from 0 name schema) refl (number-named name schema ∙ number)
  where
    by : (o : Option (ℕ × TableDef)) → table_from 0 name schema ≡ o → option_map (λ (d : ℕ × TableDef). d.0) o ≡ Some t → o ≡ Some (t, def)
    by None is h = absurd cc
    by (Some d) is h =
        let first : d.0 ≡ t = cc in
        let found = data_at 0 name schema d.0 d.1 is in
        let k : found.0 ≡ t = let e : d.0 ≡ 0 + found.0 = found.1 in omega arith in
        let got : Some d.1 ≡ Some def = sym found.2 ∙ ap (slice_get schema) k ∙ at in
        let second : d.1 ≡ def = cc in
        λ i. Some (first i, second i)

pub number-found : (name : List ℕ) (schema : List TableDef) (t : ℕ) → table_number schema name ≡ Some t → slice_get schema t ≡ None → ⊥
number-found name schema t number none = by (table_from 0 name schema) refl (number-named name schema ∙ number)
  where
    by : (o : Option (ℕ × TableDef)) → table_from 0 name schema ≡ o → option_map (λ (d : ℕ × TableDef). d.0) o ≡ Some t → ⊥
    by None is h = cc
    by (Some d) is h =
        let first : d.0 ≡ t = cc in
        let found = data_at 0 name schema d.0 d.1 is in
        let k : found.0 ≡ t = let e : d.0 ≡ 0 + found.0 = found.1 in omega arith in
        let got : Some d.1 ≡ None = sym found.2 ∙ ap (slice_get schema) k ∙ none in
        cc

module _ (schema : List TableDef) (vars : List Binding) (st : Statement) where
  pub reach-none : table_in st ≡ None → None ≡ reach schema vars st
  unfolding reach
  reach-none h = sym (ap (λ o. option_and_then (λ (d : ℕ × TableDef). reach_in d.0 vars st) (option_and_then (λ name. table_from 0 name schema) o)) h)

  pub reach-unknown : (name : List ℕ) → table_in st ≡ Some name → table_number schema name ≡ None → None ≡ reach schema vars st
  unfolding reach
  reach-unknown name h none = sym (ap (λ o. option_and_then (λ (d : ℕ × TableDef). reach_in d.0 vars st) (option_and_then (λ name. table_from 0 name schema) o)) h ∙ ap (option_and_then (λ (d : ℕ × TableDef). reach_in d.0 vars st)) (named-unknown name schema none))

  pub reach-known : (name : List ℕ) (t : ℕ) → table_in st ≡ Some name → table_number schema name ≡ Some t → reach_in t vars st ≡ reach schema vars st
  unfolding reach
  reach-known name t h number = sym (ap (λ o. option_and_then (λ (d : ℕ × TableDef). reach_in d.0 vars st) (option_and_then (λ name. table_from 0 name schema) o)) h ∙ by (table_from 0 name schema) (number-named name schema ∙ number))
    where
      by : (o : Option (ℕ × TableDef)) → option_map (λ (d : ℕ × TableDef). d.0) o ≡ Some t → option_and_then (λ (d : ℕ × TableDef). reach_in d.0 vars st) o ≡ reach_in t vars st
      by None h = absurd cc
      by (Some d) h = let same : d.0 ≡ t = cc in ap (λ n. reach_in n vars st) same
