-- A text is read as a tree exactly where it is the tree's canonical text.
use Rattle.salt_ast.specs.Limits.{statement_limit, table_limit}
use Rattle.salt_ast.specs.ProgramLimits.{program_limit}
use Rattle.salt_ast.specs.ProgramTexts.{program_text}
use Rattle.salt_ast.specs.Spelling.{Passes, Spells, SpellsProgram, SpellsShallowProgram, SpellsShallowStatement, SpellsShallowTable, SpellsStatement, SpellsTable, by_parentheses, by_tree}
use Rattle.salt_ast.specs.Texts.{statement_text, table_text}
use Rattle.salt_ast.specs.declared.limit.LimitName.{LimitName}
use Rattle.salt_ast.specs.declared.programs.ProgramDef.{ProgramDef}
use Rattle.salt_ast.specs.declared.trees.Statement.{Statement}
use Rattle.salt_ast.specs.declared.trees.TableDef.{TableDef}
use Rattle.law_definitions.proofs.Rows.{never_memory}
use Rattle.law_definitions.specs.Texts.{IsStatementText, IsTextOf, definition_in, if_canonical, program_in, statement_in, symbols_at, table_in, tree_in}
use Rattle.salt_model.specs.Kept.{Definition, OfProgram, OfTable}
use Rattle.salt_parse.proofs.Whole.{TextLaw, program_deepens, program_settles, row_printable, row_program, row_statement, row_table, statement_deepens, statement_settles, table_deepens, table_settles}
use Rattle.salt_parse.specs.Attempts.{IsAnswer, answer_for}
use Rattle.salt_parse.specs.ProgramReading.{program_within}
use Rattle.salt_parse.specs.Settling.{ArePrintable, DeepProgram, DeepStatement, DeepTable, Settles, ShallowProgram, ShallowStatement, ShallowTable}
use Rattle.salt_parse.specs.StatementReading.{statement_within}
use Rattle.salt_parse.specs.TableReading.{table_within}
use Rattle.salt_parse.specs.declared.error.ParseErr.TheVariants.{Limit, Memory, Syntax}
use Rattle.salt_parse.specs.declared.error.ParseErr.{ParseErr}
use Rattle.salt_ast.proofs.TokenLaws.{lex_complete, lex_sound}
use Rattle.salt_ast.specs.Pieces.{Lexes, Piece}
use Rattle.salt_ast.specs.Scanning.{lex}
use Rattle.salt_ast.specs.TokenSpelling.{same_bytes}
use Rattle.salt_ast.specs.Symbols.{Symbols, symbols_of}
use Rattle.std.proofs.Common.{Bool, Err, List, None, Ok, Option, Result, Some, [], ap, arith, eqb, false, refl, subst, sym, true, ℕ, ◌&&◌, ◌≡◌, ◌∙◌, ◌∷◌}
use Rattle.std.proofs.lemmas.Bool.{eqb-true}
use Rattle.std.specs.Bool.{then_some}
use Rattle.std.specs.Prelude.{cond, option_and_then, option_map, ◌==◌, ◌↔◌}

same_is : (xs ys : List ℕ) → same_bytes xs ys ≡ true → xs ≡ ys
same_is [] [] h = refl
same_is [] (y ∷ ys) h = absurd cc
same_is (x ∷ xs) [] h = absurd cc
same_is (x ∷ xs) (y ∷ ys) h = go (eqb x y) refl (same_is xs ys) h
  where
    go : (t : Bool) → eqb x y ≡ t → (same_bytes xs ys ≡ true → xs ≡ ys) → (t && same_bytes xs ys) ≡ true → x ∷ xs ≡ y ∷ ys
    go true e ih h = let one : x ≡ y = eqb-true x y e in let rest = ih h in cc
    go false e ih h = absurd cc

eqb_same : (n : ℕ) → eqb n n ≡ true
eqb_same n = grind arith

same_self : (xs : List ℕ) → same_bytes xs xs ≡ true
same_self [] = refl
same_self (x ∷ xs) = ap (λ b. b && same_bytes xs xs) (eqb_same x) ∙ same_self xs

-- what is told of trees of one kind, by what reads a row of symbols and what it prints
pub record Kind {A : Type 0} (limit_of : A → Option LimitName) (Shallow Deep : Symbols → A → Type 0) (answer : Symbols → Result A ParseErr) (text_of : A → List ℕ) : Type 0 where
  pub settles : (ts : Symbols) (r : Result A ParseErr) → ArePrintable ts → IsAnswer r (answer ts) → Settles limit_of Shallow Deep ts r
  pub deepens : (ts : Symbols) (x : A) → Shallow ts x → Deep ts x
  pub one : (ts : Symbols) (a b : A) → Deep ts a → Deep ts b → a ≡ b
  pub never : (ts : Symbols) → answer ts ≡ Err Memory → ⊥
  pub canonical : (bytes : List ℕ) (x : A) → Spells Deep bytes x → limit_of x ≡ None → Spells Shallow (text_of x) x

module _ {A : Type 0} (limit_of : A → Option LimitName) (Shallow Deep : Symbols → A → Type 0) (answer : Symbols → Result A ParseErr) (text_of : A → List ℕ)
    (law : TextLaw) (k : Kind limit_of Shallow Deep answer text_of) where
  abbrev found_in : List ℕ → Option A
  found_in text = option_and_then (if_canonical text_of text) (option_and_then (λ ts. tree_in (answer ts)) (symbols_at text))

  pub record Read (text : List ℕ) (x : A) : Type 0 where
    pub bytes : List ℕ
    pub spells : Spells Deep bytes x
    pub within : limit_of x ≡ None
    pub same : text ≡ text_of x

  module _ (text : List ℕ) (x : A) where
    sound_tree : (ps : List Piece) → lex 0 text ≡ Some ps → (y : A) → answer (symbols_of ps) ≡ Ok y → (b : Bool) → same_bytes (text_of y) text ≡ b → then_some b y ≡ Some x → Read text x
    sound_tree ps is y gives false same e = absurd cc
    sound_tree ps is y gives true same e =
        let lexes : Lexes text ps = lex_sound 0 text ps (omega arith) is in
        let told = k.settles (symbols_of ps) (Ok y) (row_printable law text (symbols_of ps) (ps, lexes, refl)) gives in
        let one : y ≡ x = cc e in
        subst (Read text) one (record { bytes = text; spells = record { tokens = ps; lexes = lexes; spelled = k.deepens (symbols_of ps) y told.0 }; within = told.1; same = sym (same_is (text_of y) text same) })

    sound_answer : (ps : List Piece) → lex 0 text ≡ Some ps → (r : Result A ParseErr) → answer (symbols_of ps) ≡ r → option_and_then (if_canonical text_of text) (tree_in r) ≡ Some x → Read text x
    sound_answer ps is (Err f) gives e = absurd cc
    sound_answer ps is (Ok y) gives e = sound_tree ps is y gives (same_bytes (text_of y) text) refl e

    sound_row : (o : Option (List Piece)) → lex 0 text ≡ o → option_and_then (if_canonical text_of text) (option_and_then (λ ts. tree_in (answer ts)) (option_map symbols_of o)) ≡ Some x → Read text x
    sound_row None is e = absurd cc
    sound_row (Some ps) is e = sound_answer ps is (answer (symbols_of ps)) refl e

    pub sound : found_in text ≡ Some x → Read text x
    sound e = sound_row (lex 0 text) refl e

  module _ (x : A) (s : Spells Shallow (text_of x) x) (within : limit_of x ≡ None) where
    abbrev row : Symbols
    row = symbols_of s.tokens

    printable : ArePrintable row
    printable = row_printable law (text_of x) row (s.tokens, s.lexes, refl)

    deep : Deep row x
    deep = k.deepens row x s.spelled

    passes_none : (l : LimitName) → Passes (limit_of x) (Shallow row x) l → ⊥
    passes_none l (by_tree e) = cc
    passes_none l (by_parentheses e n) = n s.spelled

    answered : (r : Result A ParseErr) → answer row ≡ r → option_and_then (if_canonical text_of (text_of x)) (tree_in r) ≡ Some x
    answered (Ok y) is =
        let told = k.settles row (Ok y) printable is in
        let one : y ≡ x = k.one row y x (k.deepens row y told.0) deep in
        subst (λ z. then_some (same_bytes (text_of z) (text_of x)) z ≡ Some x) (sym one) (ap (λ b. then_some b x) (same_self (text_of x)))
    answered (Err Memory) is = absurd (k.never row is)
    answered (Err Syntax) is = absurd (k.settles row (Err Syntax) printable is x deep)
    answered (Err (Limit l)) is =
        let told = k.settles row (Err (Limit l)) printable is in
        absurd (passes_none l (subst (λ z. Passes (limit_of z) (Shallow row z) l) (k.one row told.0 x told.1 deep) told.2))

    complete_at : found_in (text_of x) ≡ Some x
    complete_at = ap (λ o. option_and_then (if_canonical text_of (text_of x)) (option_and_then (λ ts. tree_in (answer ts)) (option_map symbols_of o))) (lex_complete s.lexes) ∙ answered (answer row) refl

  pub complete : (x : A) (bytes : List ℕ) → Spells Deep bytes x → limit_of x ≡ None → found_in (text_of x) ≡ Some x
  complete x bytes spells within = complete_at x (k.canonical bytes x spells within) within

abbrev CanonicalTable : Type 0
CanonicalTable = (bytes : List ℕ) (d : TableDef) → SpellsTable bytes d → table_limit d ≡ None → SpellsShallowTable (table_text d) d

abbrev CanonicalProgram : Type 0
CanonicalProgram = (bytes : List ℕ) (p : ProgramDef) → SpellsProgram bytes p → program_limit p ≡ None → SpellsShallowProgram (program_text p) p

module _ (law : TextLaw) (table : CanonicalTable) (program : CanonicalProgram) where
  tables : Kind table_limit ShallowTable DeepTable (answer_for table_within) table_text
  tables = record { settles = table_settles; deepens = table_deepens; one = row_table; never = never_memory table_within; canonical = table }

  programs : Kind program_limit ShallowProgram DeepProgram (answer_for program_within) program_text
  programs = record { settles = program_settles; deepens = program_deepens; one = row_program; never = never_memory program_within; canonical = program }

  table_read : (text : List ℕ) (d : TableDef) → table_in text ≡ Some d → IsTextOf (OfTable d) text
  table_read text d e =
      let r = sound table_limit ShallowTable DeepTable (answer_for table_within) table_text law tables text d e in
      (record { text = r.bytes; spells = r.spells; within = r.within }, r.same)

  program_read : (text : List ℕ) (p : ProgramDef) → program_in text ≡ Some p → IsTextOf (OfProgram p) text
  program_read text p e =
      let r = sound program_limit ShallowProgram DeepProgram (answer_for program_within) program_text law programs text p e in
      (record { text = r.bytes; spells = r.spells; within = r.within }, r.same)

  of_tables : (text : List ℕ) (d : Definition) (o : Option TableDef) → table_in text ≡ o → option_map OfTable o ≡ Some d → IsTextOf d text
  of_tables text d None is e = absurd cc
  of_tables text d (Some t) is e = let same : OfTable t ≡ d = cc e in subst (λ x. IsTextOf x text) same (table_read text t is)

  of_programs : (text : List ℕ) (d : Definition) (o : Option ProgramDef) → program_in text ≡ o → option_map OfProgram o ≡ Some d → IsTextOf d text
  of_programs text d None is e = absurd cc
  of_programs text d (Some p) is e = let same : OfProgram p ≡ d = cc e in subst (λ x. IsTextOf x text) same (program_read text p is)

  by_first : (text : List ℕ) (d : Definition) (b : Bool) → cond b (option_map OfTable (table_in text)) (option_map OfProgram (program_in text)) ≡ Some d → IsTextOf d text
  by_first text d true e = of_tables text d (table_in text) refl e
  by_first text d false e = of_programs text d (program_in text) refl e

  read_sound : (text : List ℕ) (d : Definition) → definition_in text ≡ Some d → IsTextOf d text
  unfolding definition_in
  read_sound [] d e = absurd cc
  read_sound (first ∷ text) d e = by_first (first ∷ text) d (first == 99) e

  read_complete : (d : Definition) (text : List ℕ) → IsTextOf d text → definition_in text ≡ Some d
  unfolding definition_in
  read_complete (OfTable d) text h =
      ap definition_in h.1 ∙ ap (option_map OfTable) (complete table_limit ShallowTable DeepTable (answer_for table_within) table_text law tables d h.0.text h.0.spells h.0.within)
  read_complete (OfProgram p) text h =
      ap definition_in h.1 ∙ ap (option_map OfProgram) (complete program_limit ShallowProgram DeepProgram (answer_for program_within) program_text law programs p h.0.text h.0.spells h.0.within)

  pub read_exactly : (text : List ℕ) (d : Definition) → (definition_in text ≡ Some d) ↔ IsTextOf d text
  read_exactly text d = (read_sound text d, read_complete d text)

abbrev CanonicalStatement : Type 0
CanonicalStatement = (bytes : List ℕ) (st : Statement) → SpellsStatement bytes st → statement_limit st ≡ None → SpellsShallowStatement (statement_text st) st

module _ (law : TextLaw) (canonical : CanonicalStatement) where
  statements : Kind statement_limit ShallowStatement DeepStatement (answer_for statement_within) statement_text
  statements = record { settles = statement_settles; deepens = statement_deepens; one = row_statement; never = never_memory statement_within; canonical = canonical }

  statement_sound : (text : List ℕ) (st : Statement) → statement_in text ≡ Some st → IsStatementText st text
  unfolding statement_in
  statement_sound text st e =
      let r = sound statement_limit ShallowStatement DeepStatement (answer_for statement_within) statement_text law statements text st e in
      (record { text = r.bytes; spells = r.spells; within = r.within }, r.same)

  statement_complete : (text : List ℕ) (st : Statement) → IsStatementText st text → statement_in text ≡ Some st
  unfolding statement_in
  statement_complete text st h =
      ap statement_in h.1 ∙ complete statement_limit ShallowStatement DeepStatement (answer_for statement_within) statement_text law statements st h.0.text h.0.spells h.0.within

  pub statement_exactly : (text : List ℕ) (st : Statement) → (statement_in text ≡ Some st) ↔ IsStatementText st text
  statement_exactly text st = (statement_sound text st, statement_complete text st)
