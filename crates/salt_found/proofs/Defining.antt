-- One more text, read and added or refused, and texts one after another.
use Rattle.salt_ast.specs.declared.programs.ProgramDef.{ProgramDef}
use Rattle.salt_ast.specs.declared.trees.TableDef.{TableDef}
use Rattle.salt_bytes.specs.Coordinator.{NumberedText}
use Rattle.law_definitions.specs.Texts.{IsTextOf, definition_in, program_in, table_in}
use Rattle.salt_decisions.specs.Said.{text_of}
use Rattle.salt_stands.specs.Fitting.{is_refused, programs_defined, tables_defined}
use Rattle.salt_found.proofs.Refusals.{program_refused, table_refused}
use Rattle.salt_found.specs.Definitions.{AreOf, AreOfSome, Defines, FailsToDefine, IsJudged, IsProgramIn, IsTableIn, define_text, defined_by_texts, is_of_table, reading}
use Rattle.salt_found.specs.declared.error.RecoverErr.TheVariants.{Memory, NotSalt}
use Rattle.salt_found.specs.declared.error.RecoverErr.{RecoverErr}
use Rattle.salt_model.specs.Kept.{Definition, OfProgram, OfTable, program_of_definition, table_of_definition}
use Rattle.salt_program.specs.Refusals.{program_refusal}
use Rattle.salt_schema.specs.Refusals.{table_refusal}
use Rattle.salt_stands.specs.Coordinator.{define, definitions_read}
use Rattle.salt_stands.specs.Reading.{Reading}
use Rattle.std.proofs.Common.{Err, List, None, Ok, Option, Result, Some, [], ap, cond, drop, false, get_or, is_ok, is_some, length, not, refl, subst, sym, true, ℕ, ◌+◌, ◌++◌, ◌<◌, ◌≡◌, ◌≤◌, ◌∙◌, ◌∷◌}
use Rattle.std.proofs.lemmas.List.{drop_all, drop_more}
use Rattle.std.specs.List.{cons_option, filter_map}
use Rattle.std.specs.Prelude.{OnOk, map, option_map, ◌↔◌, option_and_then}
use Rattle.std.specs.Bool.{then_some}

-- numbers of texts say nothing of what is defined
pub defined_by_its_texts : {D : Type 0} (r : Reading D) (o : Option (List D)) (ts : List NumberedText) → definitions_read r o ts ≡ defined_by_texts r o (map text_of ts)
defined_by_its_texts r o [] = refl
defined_by_its_texts r o (t ∷ ts) = defined_by_its_texts r (define r t o) ts

-- what is not defined stays so
pub undefined : {D : Type 0} (r : Reading D) (texts : List (List ℕ)) → defined_by_texts r None texts ≡ None
undefined r [] = refl
undefined r (t ∷ ts) = undefined r ts

filter_map-push : {A B : Type 0} (f : A → Option B) (xs : List A) (x : A) → filter_map f (xs ++ x ∷ []) ≡ filter_map f xs ++ cons_option (f x) []
filter_map-push f [] x = refl
filter_map-push {A} {B} f (y ∷ xs) x = ap (cons_option (f y)) (filter_map-push f xs x) ∙ front (f y)
  where
    front : (o : Option B) → cons_option o (filter_map f xs ++ cons_option (f x) []) ≡ cons_option o (filter_map f xs) ++ cons_option (f x) []
    front None = refl
    front (Some z) = refl

append-none : {A : Type 0} (xs : List A) → xs ++ [] ≡ xs
append-none [] = refl
append-none (x ∷ xs) = ap (λ l. x ∷ l) (append-none xs)

with_table : (schema new : List TableDef) (catalogue : List ProgramDef) (ds : List Definition) (d : TableDef) → AreOf schema catalogue ds → new ≡ schema ++ d ∷ [] → AreOf new catalogue (ds ++ OfTable d ∷ [])
with_table schema new catalogue ds d are e = record {
  tables = e ∙ ap (λ l. l ++ d ∷ []) are.tables ∙ sym (filter_map-push table_of_definition ds (OfTable d));
  programs = are.programs ∙ sym (append-none (programs_defined ds)) ∙ sym (filter_map-push program_of_definition ds (OfTable d));
}

with_program : (schema : List TableDef) (catalogue new : List ProgramDef) (ds : List Definition) (p : ProgramDef) → AreOf schema catalogue ds → new ≡ catalogue ++ p ∷ [] → AreOf schema new (ds ++ OfProgram p ∷ [])
with_program schema catalogue new ds p are e = record {
  tables = are.tables ∙ sym (append-none (tables_defined ds)) ∙ sym (filter_map-push table_of_definition ds (OfProgram p));
  programs = e ∙ ap (λ l. l ++ p ∷ []) are.programs ∙ sym (filter_map-push program_of_definition ds (OfProgram p));
}

-- the text is that of this definition
module _ (text : List ℕ) (d : Definition) (is : definition_in text ≡ Some d) (ds : List Definition) where
  text_defines : define_text reading text (Some ds) ≡ then_some (not (is_refused ds d)) (ds ++ d ∷ [])
  text_defines = ap (option_and_then (λ x. then_some (not (is_refused ds x)) (ds ++ x ∷ []))) is

  accepted : is_refused ds d ≡ false → define_text reading text (Some ds) ≡ Some (ds ++ d ∷ [])
  accepted e = text_defines ∙ ap (λ b. then_some (not b) (ds ++ d ∷ [])) e

  refused : is_refused ds d ≡ true → define_text reading text (Some ds) ≡ None
  refused e = text_defines ∙ ap (λ b. then_some (not b) (ds ++ d ∷ [])) e

-- the text is that of no definition
unread : (text : List ℕ) (ds : List Definition) → definition_in text ≡ None → define_text reading text (Some ds) ≡ None
unread text ds is = ap (option_and_then (λ x. then_some (not (is_refused ds x)) (ds ++ x ∷ []))) is

-- its first letter tells whether it is a table's
no_program : (text : List ℕ) (p : ProgramDef) → is_of_table text ≡ true → definition_in text ≡ Some (OfProgram p) → ⊥
unfolding definition_in
no_program [] p first e = cc
no_program (c ∷ text) p first e = by (table_in (c ∷ text)) (ap (λ b. cond b (option_map OfTable (table_in (c ∷ text))) (option_map OfProgram (program_in (c ∷ text)))) (sym first) ∙ e)
  where
    by : (o : Option TableDef) → option_map OfTable o ≡ Some (OfProgram p) → ⊥
    by None e = cc
    by (Some d) e = cc

no_table : (text : List ℕ) (d : TableDef) → is_of_table text ≡ false → definition_in text ≡ Some (OfTable d) → ⊥
unfolding definition_in
no_table [] d first e = cc
no_table (c ∷ text) d first e = by (program_in (c ∷ text)) (ap (λ b. cond b (option_map OfTable (table_in (c ∷ text))) (option_map OfProgram (program_in (c ∷ text)))) (sym first) ∙ e)
  where
    by : (o : Option ProgramDef) → option_map OfProgram o ≡ Some (OfTable d) → ⊥
    by None e = cc
    by (Some p) e = cc

module _ (law : (text : List ℕ) (d : Definition) → (definition_in text ≡ Some d) ↔ IsTextOf d text) (text : List ℕ) (ds : List Definition) where
  -- no table has it
  pub no_table_in : is_of_table text ≡ true → IsTableIn text None → define_text reading text (Some ds) ≡ None
  no_table_in first none = unread text ds (by (definition_in text) refl)
    where
      by : (o : Option Definition) → definition_in text ≡ o → definition_in text ≡ None
      by None e = e
      by (Some (OfTable d)) e = absurd (none d ((law text (OfTable d)).0 e))
      by (Some (OfProgram p)) e = absurd (no_program text p first e)

  pub no_program_in : is_of_table text ≡ false → IsProgramIn text None → define_text reading text (Some ds) ≡ None
  no_program_in first none = unread text ds (by (definition_in text) refl)
    where
      by : (o : Option Definition) → definition_in text ≡ o → definition_in text ≡ None
      by None e = e
      by (Some (OfTable d)) e = absurd (no_table text d first e)
      by (Some (OfProgram p)) e = absurd (none p ((law text (OfProgram p)).0 e))

  pub table_added : {A : Type 0} (r : Result A RecoverErr) (schema new : List TableDef) (catalogue : List ProgramDef) (d : TableDef) → IsTextOf (OfTable d) text → AreOf schema catalogue ds
      → IsJudged r (is_some (table_refusal schema d)) → (is_ok r ≡ true → new ≡ schema ++ d ∷ []) → Defines r new catalogue (define_text reading text (Some ds))
  table_added (Ok x) schema new catalogue d t are judged more = record {
    definitions = ds ++ OfTable d ∷ [];
    is = accepted text (OfTable d) ((law text (OfTable d)).1 t) ds (table_refused ds d ∙ ap (λ s. is_some (table_refusal s d)) (sym are.tables) ∙ judged);
    are = with_table schema new catalogue ds d are (more refl);
  }
  table_added (Err NotSalt) schema new catalogue d t are judged more =
      refused text (OfTable d) ((law text (OfTable d)).1 t) ds (table_refused ds d ∙ ap (λ s. is_some (table_refusal s d)) (sym are.tables) ∙ judged)
  table_added (Err Memory) schema new catalogue d t are judged more = tt

  pub program_added : {A : Type 0} (r : Result A RecoverErr) (schema : List TableDef) (catalogue new : List ProgramDef) (p : ProgramDef) → IsTextOf (OfProgram p) text → AreOf schema catalogue ds
      → IsJudged r (is_some (program_refusal schema catalogue p)) → (is_ok r ≡ true → new ≡ catalogue ++ p ∷ []) → Defines r schema new (define_text reading text (Some ds))
  program_added (Ok x) schema catalogue new p t are judged more = record {
    definitions = ds ++ OfProgram p ∷ [];
    is = accepted text (OfProgram p) ((law text (OfProgram p)).1 t) ds (program_refused ds p ∙ known are ∙ judged);
    are = with_program schema catalogue new ds p are (more refl);
  }
    where
      known : AreOf schema catalogue ds → is_some (program_refusal (tables_defined ds) (programs_defined ds) p) ≡ is_some (program_refusal schema catalogue p)
      known are = ap (λ s. is_some (program_refusal s (programs_defined ds) p)) (sym are.tables) ∙ ap (λ c. is_some (program_refusal schema c p)) (sym are.programs)
  program_added (Err NotSalt) schema catalogue new p t are judged more =
      refused text (OfProgram p) ((law text (OfProgram p)).1 t) ds (program_refused ds p ∙ known are ∙ judged)
    where
      known : AreOf schema catalogue ds → is_some (program_refusal (tables_defined ds) (programs_defined ds) p) ≡ is_some (program_refusal schema catalogue p)
      known are = ap (λ s. is_some (program_refusal s (programs_defined ds) p)) (sym are.tables) ∙ ap (λ c. is_some (program_refusal schema c p)) (sym are.programs)
  program_added (Err Memory) schema catalogue new p t are judged more = tt

-- so many of the texts are added
pub record DefinedTo (texts : List (List ℕ)) (i : ℕ) (schema : List TableDef) (catalogue : List ProgramDef) : Type 0 where
  pub definitions : List Definition
  pub same : defined_by_texts reading (Some []) texts ≡ defined_by_texts reading (Some definitions) (drop i texts)
  pub are : AreOf schema catalogue definitions

module _ (texts : List (List ℕ)) (i : ℕ) (schema : List TableDef) (catalogue : List ProgramDef) (so_far : DefinedTo texts i schema catalogue) where
  pub all_defined : length texts ≤ i → AreOfSome schema catalogue (defined_by_texts reading (Some []) texts)
  all_defined long = record {
    definitions = so_far.definitions;
    is = so_far.same ∙ ap (defined_by_texts reading (Some so_far.definitions)) (drop_all i texts long);
    are = so_far.are;
  }

  module _ (text : List ℕ) (low : i < length texts) (here : text ≡ get_or texts i text) where
    one_on : defined_by_texts reading (Some []) texts ≡ defined_by_texts reading (define_text reading text (Some so_far.definitions)) (drop (i + 1) texts)
    one_on =
        so_far.same ∙ ap (defined_by_texts reading (Some so_far.definitions)) (drop_more texts i text low)
        ∙ ap (λ t. defined_by_texts reading (define_text reading t (Some so_far.definitions)) (drop (i + 1) texts)) (sym here)

    pub one_added : (new : List TableDef) (more : List ProgramDef) → AreOfSome new more (define_text reading text (Some so_far.definitions)) → DefinedTo texts (i + 1) new more
    one_added new more some = record {
      definitions = some.definitions;
      same = one_on ∙ ap (λ o. defined_by_texts reading o (drop (i + 1) texts)) some.is;
      are = some.are;
    }

    pub one_fails : (e : RecoverErr) → FailsToDefine e (define_text reading text (Some so_far.definitions)) → FailsToDefine e (defined_by_texts reading (Some []) texts)
    one_fails NotSalt none = one_on ∙ ap (λ o. defined_by_texts reading o (drop (i + 1) texts)) none ∙ undefined reading (drop (i + 1) texts)
    one_fails Memory none = tt

  -- the text of an item
  pub text_fails : (items : List (List ℕ)) → items ≡ texts → (item : List ℕ) → i < length items → item ≡ get_or items i item → (text : List ℕ) → text ≡ item → (e : RecoverErr)
      → FailsToDefine e (define_text reading text (Some so_far.definitions)) → FailsToDefine e (defined_by_texts reading (Some []) texts)
  text_fails items all item low here text same e fails =
      one_fails item (subst (λ ts. i < length ts) all low) (subst (λ ts. item ≡ get_or ts i item) all here) e (subst (λ t. FailsToDefine e (define_text reading t (Some so_far.definitions))) same fails)

pub when_ok : {T E : Type 0} (r : Result T E) (P : Type 0) → is_ok r ≡ true → OnOk r P → P
when_ok (Ok x) P e h = h
when_ok (Err y) P e h = absurd cc
