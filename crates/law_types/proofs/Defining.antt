-- What is kept fits its definitions with one more that is not refused.
use Rattle.salt_ast.specs.Judgement.{table_fault}
use Rattle.salt_ast.specs.ProgramJudgement.{program_fault, program_named}
use Rattle.salt_ast.specs.declared.programs.ProgramDef.{ProgramDef}
use Rattle.salt_ast.specs.declared.trees.TableDef.{TableDef}
use Rattle.salt_stands.specs.Fitting.{is_cont_of, is_row_of}
use Rattle.law_story.proofs.Every.{every-append, every-map}
use Rattle.salt_model.specs.Kept.{Definition, Kept, OfProgram, OfTable, program_of_definition, programs_of, schema_of, table_of_definition}
use Rattle.salt_model.specs.Tables.{Entry}
use Rattle.salt_model.specs.Words.{Every}
use Rattle.salt_model.specs.declared.places.Place.{Place}
use Rattle.salt_ast.specs.TokenSpelling.{same_bytes}
use Rattle.law_types.proofs.Judged.{program-proper, program-stays, table-proper}
use Rattle.law_types.specs.Typed.{AreRowsOf, IsContOf, IsProperProgram, IsProperTable, IsRowAt, IsTyped, has_key}
use Rattle.salt_values.specs.declared.cont.Cont.{Cont}
use Rattle.salt_values.specs.declared.value.Value.{Value}
use Rattle.std.proofs.Common.{ap, append-nil, subst, sym, ◌∙◌}
use Rattle.std.specs.List.{cons_option, filter_map}
use Rattle.std.specs.Prelude.{Bool, List, None, Option, Some, [], cond, false, refl, suc, true, zero, ℕ, ◌++◌, ◌∷◌, ◌≡◌, slice_get}

filtered-append : {A B : Type 0} (f : A → Option B) (xs ys : List A) → filter_map f (xs ++ ys) ≡ filter_map f xs ++ filter_map f ys
filtered-append f [] ys = refl
filtered-append {A} {B} f (x ∷ xs) ys = ap (cons_option (f x)) (filtered-append f xs ys) ∙ front (f x)
  where
    front : (o : Option B) → cons_option o (filter_map f xs ++ filter_map f ys) ≡ cons_option o (filter_map f xs) ++ filter_map f ys
    front None = refl
    front (Some y) = refl

place-stays : (schema more : List TableDef) (n : ℕ) (d : TableDef) → slice_get schema n ≡ Some d → slice_get (schema ++ more) n ≡ Some d
place-stays [] more n d e = absurd cc
place-stays (x ∷ schema) more zero d e = e
place-stays (x ∷ schema) more (suc n) d e = place-stays schema more n d e

row-stays : (schema more : List TableDef) (p : Place) (row : List Value) → IsRowAt schema p row → IsRowAt (schema ++ more) p row
row-stays schema more p row h = record { fits = by (slice_get schema p.table) refl h.fits; key = h.key }
  where
    by : (o : Option TableDef) → slice_get schema p.table ≡ o → is_row_of o row ≡ true → is_row_of (slice_get (schema ++ more) p.table) row ≡ true
    by None e g = absurd cc
    by (Some d) e g = ap (λ (o : Option TableDef). is_row_of o row) (place-stays schema more p.table d e) ∙ g

name-stays : (ps more : List ProgramDef) (n : List ℕ) (p : ProgramDef) → program_named ps n ≡ Some p → program_named (ps ++ more) n ≡ Some p
name-stays [] more n p e = absurd cc
name-stays (q ∷ ps) more n p e = by (same_bytes n q.name) (name-stays ps more n p) e
  where
    by : (b : Bool) → (program_named ps n ≡ Some p → program_named (ps ++ more) n ≡ Some p) → cond b (Some q) (program_named ps n) ≡ Some p →
        cond b (Some q) (program_named (ps ++ more) n) ≡ Some p
    by true ih h = h
    by false ih h = ih h

cont-stays : (ps more : List ProgramDef) (c : Cont) → is_cont_of (program_named ps c.program) c ≡ true → is_cont_of (program_named (ps ++ more) c.program) c ≡ true
cont-stays ps more c h = by (program_named ps c.program) refl h
  where
    by : (o : Option ProgramDef) → program_named ps c.program ≡ o → is_cont_of o c ≡ true → is_cont_of (program_named (ps ++ more) c.program) c ≡ true
    by None e g = absurd cc
    by (Some p) e g = ap (λ (o : Option ProgramDef). is_cont_of o c) (name-stays ps more c.program p e) ∙ g

module _ (k : Kept) (typed : IsTyped k) where
  -- with these definitions behind
  abbrev with_more : List Definition → Kept
  with_more ds = record k { definitions = k.definitions ++ ds }

  tables-of : (ds : List Definition) → schema_of k ++ filter_map table_of_definition ds ≡ schema_of (with_more ds)
  tables-of ds = sym (filtered-append table_of_definition k.definitions ds)

  programs-of : (ds : List Definition) → programs_of k ++ filter_map program_of_definition ds ≡ programs_of (with_more ds)
  programs-of ds = sym (filtered-append program_of_definition k.definitions ds)

  rows-of : (ds : List Definition) → AreRowsOf (schema_of (with_more ds)) k.tables
  rows-of ds =
      subst (λ schema. AreRowsOf schema k.tables) (tables-of ds)
      (every-map (λ (e : Entry). IsRowAt (schema_of k) e.0 e.1) (λ (e : Entry). IsRowAt (schema_of k ++ filter_map table_of_definition ds) e.0 e.1)
      (λ e. row-stays (schema_of k) (filter_map table_of_definition ds) e.0 e.1) k.tables.list typed.rows)

  conts-of : (ds : List Definition) → Every (IsContOf (with_more ds)) k.conts
  conts-of ds =
      every-map (IsContOf k) (IsContOf (with_more ds))
      (λ c h. subst (λ ps. is_cont_of (program_named ps c.program) c ≡ true) (programs-of ds) (cont-stays (programs_of k) (filter_map program_of_definition ds) c h)) k.conts typed.conts

  pub table-defined : (d : TableDef) → table_fault (schema_of k) d ≡ None → has_key d.columns ≡ true → IsTyped (with_more (OfTable d ∷ []))
  table-defined d h key = record {
    tables = subst (Every IsProperTable) (tables-of (OfTable d ∷ [])) (every-append IsProperTable (schema_of k) _ typed.tables (table-proper (schema_of k) d h key, tt));
    programs = subst (λ schema. Every (IsProperProgram schema) (programs_of (with_more (OfTable d ∷ [])))) (tables-of (OfTable d ∷ []))
        (subst (Every (IsProperProgram (schema_of k ++ d ∷ []))) (sym (append-nil (programs_of k)) ∙ programs-of (OfTable d ∷ []))
        (every-map (IsProperProgram (schema_of k)) (IsProperProgram (schema_of k ++ d ∷ [])) (program-stays (schema_of k) d) (programs_of k) typed.programs));
    rows = rows-of (OfTable d ∷ []);
    conts = conts-of (OfTable d ∷ []);
  }

  pub program-defined : (p : ProgramDef) → program_fault (schema_of k) (programs_of k) p ≡ None → IsTyped (with_more (OfProgram p ∷ []))
  program-defined p h = record {
    tables = subst (Every IsProperTable) (sym (append-nil (schema_of k)) ∙ tables-of (OfProgram p ∷ [])) typed.tables;
    programs = subst (λ schema. Every (IsProperProgram schema) (programs_of (with_more (OfProgram p ∷ [])))) (sym (append-nil (schema_of k)) ∙ tables-of (OfProgram p ∷ []))
        (subst (Every (IsProperProgram (schema_of k))) (programs-of (OfProgram p ∷ []))
        (every-append (IsProperProgram (schema_of k)) (programs_of k) _ typed.programs (program-proper (schema_of k) (programs_of k) p h, tt)));
    rows = rows-of (OfProgram p ∷ []);
    conts = conts-of (OfProgram p ∷ []);
  }
