-- What fits under definitions fits under these and one more.
use Rattle.salt_ast.specs.ProgramJudgement.{program_named}
use Rattle.salt_ast.specs.declared.programs.ProgramDef.{ProgramDef}
use Rattle.salt_ast.specs.declared.trees.TableDef.{TableDef}
use Rattle.salt_stands.specs.Fitting.{definitions_reading, is_cont_of, is_key_of, is_row_of, programs_defined, tables_defined}
use Rattle.salt_model.specs.Kept.{Definition, program_of_definition, table_of_definition}
use Rattle.salt_stands.specs.Pieces.{StaysFitting}
use Rattle.salt_ast.specs.TokenSpelling.{same_bytes}
use Rattle.salt_values.specs.declared.cont.Cont.{Cont}
use Rattle.salt_values.specs.declared.value.Value.{Value}
use Rattle.std.proofs.Common.{Bool, List, None, Option, Some, [], ap, arith, false, length, length-append, refl, suc, true, zero, ℕ, ◌++◌, ◌≡◌, ◌∙◌, ◌∷◌}
use Rattle.std.specs.List.{cons_option, filter_map}
use Rattle.std.specs.Prelude.{cond, slice_get}

filter_map-append : {A B : Type 0} (f : A → Option B) (xs ys : List A) → filter_map f (xs ++ ys) ≡ filter_map f xs ++ filter_map f ys
filter_map-append f [] ys = refl
filter_map-append {A} {B} f (x ∷ xs) ys = ap (cons_option (f x)) (filter_map-append f xs ys) ∙ front (f x)
  where
    front : (o : Option B) → cons_option o (filter_map f xs ++ filter_map f ys) ≡ cons_option o (filter_map f xs) ++ filter_map f ys
    front None = refl
    front (Some y) = refl

-- what stands at a place stands there with more behind
at_place-append : {A : Type 0} (xs ys : List A) (n : ℕ) (x : A) → slice_get xs n ≡ Some x → slice_get (xs ++ ys) n ≡ Some x
at_place-append [] ys n x e = absurd cc
at_place-append (y ∷ xs) ys zero x e = e
at_place-append (y ∷ xs) ys (suc n) x e = at_place-append xs ys n x e

named-append : (ps qs : List ProgramDef) (name : List ℕ) (p : ProgramDef) → program_named ps name ≡ Some p → program_named (ps ++ qs) name ≡ Some p
named-append [] qs name p e = absurd cc
named-append (q ∷ ps) qs name p e = by (same_bytes name q.name) (named-append ps qs name p) e
  where
    by : (b : Bool) → (program_named ps name ≡ Some p → program_named (ps ++ qs) name ≡ Some p) → cond b (Some q) (program_named ps name) ≡ Some p → cond b (Some q) (program_named (ps ++ qs) name) ≡ Some p
    by true ih h = h
    by false ih h = ih h

module _ (read : List ℕ → Option Definition) (ds : List Definition) (d : Definition) where
  tables_more : tables_defined (ds ++ d ∷ []) ≡ tables_defined ds ++ tables_defined (d ∷ [])
  tables_more = filter_map-append table_of_definition ds (d ∷ [])

  programs_more : programs_defined (ds ++ d ∷ []) ≡ programs_defined ds ++ programs_defined (d ∷ [])
  programs_more = filter_map-append program_of_definition ds (d ∷ [])

  table_stays : (n : ℕ) (t : TableDef) → slice_get (tables_defined ds) n ≡ Some t → slice_get (tables_defined (ds ++ d ∷ [])) n ≡ Some t
  table_stays n t e = ap (λ ts. slice_get ts n) tables_more ∙ at_place-append (tables_defined ds) (tables_defined (d ∷ [])) n t e

  program_stays : (name : List ℕ) (p : ProgramDef) → program_named (programs_defined ds) name ≡ Some p → program_named (programs_defined (ds ++ d ∷ [])) name ≡ Some p
  program_stays name p e = ap (λ ps. program_named ps name) programs_more ∙ named-append (programs_defined ds) (programs_defined (d ∷ [])) name p e

  row_fits : (n : ℕ) (row : List Value) (o : Option TableDef) → slice_get (tables_defined ds) n ≡ o → is_row_of o row ≡ true → is_row_of (slice_get (tables_defined (ds ++ d ∷ [])) n) row ≡ true
  row_fits n row None is e = absurd cc
  row_fits n row (Some t) is e = ap (λ o. is_row_of o row) (table_stays n t is) ∙ e

  key_fits : (n : ℕ) (key : Value) (o : Option TableDef) → slice_get (tables_defined ds) n ≡ o → is_key_of o key ≡ true → is_key_of (slice_get (tables_defined (ds ++ d ∷ [])) n) key ≡ true
  key_fits n key None is e = absurd cc
  key_fits n key (Some t) is e = ap (λ o. is_key_of o key) (table_stays n t is) ∙ e

  cont_fits : (c : Cont) (o : Option ProgramDef) → program_named (programs_defined ds) c.program ≡ o → is_cont_of o c ≡ true → is_cont_of (program_named (programs_defined (ds ++ d ∷ [])) c.program) c ≡ true
  cont_fits c None is e = absurd cc
  cont_fits c (Some p) is e = ap (λ o. is_cont_of o c) (program_stays c.program p is) ∙ e

  pub grows : StaysFitting (definitions_reading read) ds d
  grows = record {
    tables = omega (arith, ap length tables_more, length-append (tables_defined ds) (tables_defined (d ∷ [])));
    row = λ n row few e. row_fits n row (slice_get (tables_defined ds) n) refl e;
    key = λ n key few e. key_fits n key (slice_get (tables_defined ds) n) refl e;
    cont = λ c e. cont_fits c (program_named (programs_defined ds) c.program) refl e;
  }
