-- The samples are printable: their statements, table and program are spelled.
use Rattle.salt_ast.specs.Grammar.{alone, is_not_null as not_null, one, plain, plus_int}
use Rattle.salt_ast.specs.Grammar.{Expression, Within}
use Rattle.salt_ast.specs.Limits.{statement_limit, table_limit}
use Rattle.salt_ast.specs.ProgramLimits.{program_limit}
use Rattle.salt_ast.specs.Programs as program_form
use Rattle.salt_ast.specs.Statements as form
use Rattle.salt_ast.specs.Tables as table_form
use Rattle.salt_ast.specs.Trees.{number}
use Rattle.salt_ast.specs.declared.trees.Expr.{Expr}
use Rattle.salt_model.specs.Naming.{IsName, IsNaming}
use Rattle.salt_model.specs.Printable.{IsPrintableStory, IsSpelled, IsSpelledProgram, IsSpelledTable}
use Rattle.law_texts.specs.Samples.{definition_story, insert_null, null_story, program, schema, select_all, t, table}
use Rattle.salt_ast.proofs.TokenLaws.{lex_sound}
use Rattle.salt_ast.specs.Pieces.{Lexes, Piece}
use Rattle.salt_ast.specs.Scanning.{first_at, lex}
use Rattle.salt_ast.specs.TokenSpelling.{keyword_of, sign_of}
use Rattle.salt_ast.specs.Symbols.{Symbols, int}
use Rattle.salt_ast.specs.declared.token.TokenKind.TheVariants as kind
use Rattle.salt_values.specs.declared.limits.TheConstants.{PARENTHESES_MOST}
use Rattle.std.proofs.Common.{List, Some, [], arith, codes, inl, inr, pos, refl, ℕ, ◌-◌, ◌∷◌, ◌≡◌}

lexed : (bs : List ℕ) (ps : List Piece) → lex 0 bs ≡ Some ps → Lexes bs ps
lexed bs ps h = lex_sound 0 bs ps (omega arith) h

abbrev word : List ℕ → Piece
word bs = record { kind = kind.Word; text = bs }

abbrev one_digit : Piece
one_digit = record { kind = kind.Int; text = codes "1" }

abbrev sign : List ℕ → Piece
sign bs = record { kind = kind.Sign; text = bs }

t_is_name : IsName t
unfolding lex first_at keyword_of
t_is_name = record { token = (word t ∷ [], lexed t (word t ∷ []) refl, refl); short = refl }

naming : IsNaming schema
naming = record { names = (t_is_name, tt); apart = refl }

-- 1
one_spelled : (Inner : Symbols → Expr → Type 0) → Expression Inner (int 1 ∷ []) (number (pos 1))
one_spelled Inner = one (one (plain (alone (one (one plus_int)))))

abbrev insert_text : List ℕ
insert_text = codes "insert into t values(1,null)"

abbrev insert_tokens : List Piece
insert_tokens =
    word (codes "insert") ∷ word (codes "into") ∷ word t ∷ word (codes "values") ∷ sign (codes "(") ∷ one_digit ∷ sign (codes ",") ∷
    word (codes "null") ∷ sign (codes ")") ∷ []

insert_spelled : IsSpelled insert_null
unfolding lex first_at keyword_of sign_of statement_limit
insert_spelled = record {
  text = insert_text;
  spells = record {
    tokens = insert_tokens;
    lexes = lexed insert_text insert_tokens refl;
    spelled = form.is_insert
        (form.items (form.is_expression (one_spelled (Within (PARENTHESES_MOST - 1)))) (form.one_more form.is_null form.no_more));
  };
  within = refl;
}

abbrev select_text : List ℕ
select_text = codes "select * from t"

abbrev select_tokens : List Piece
select_tokens = word (codes "select") ∷ sign (codes "*") ∷ word (codes "from") ∷ word t ∷ []

select_spelled : IsSpelled select_all
unfolding lex first_at keyword_of sign_of statement_limit
select_spelled = record {
  text = select_text;
  spells = record {
    tokens = select_tokens;
    lexes = lexed select_text select_tokens refl;
    spelled = form.is_select form.every_column form.no_where;
  };
  within = refl;
}

pub nulls_print : IsPrintableStory schema null_story
nulls_print = record {
  naming = naming;
  events = (
    record { form = tt; sizes = ((omega arith, omega arith), omega arith) },
    (
      record { form = insert_spelled; sizes = ((omega arith, omega arith), omega arith) },
      (
        record { form = select_spelled; sizes = ((omega arith, omega arith), ((omega arith, (tt, tt)), tt)) },
        (record { form = tt; sizes = ((omega arith, omega arith), omega arith) }, tt),
      ),
    ),
  );
}

abbrev created_text : List ℕ
created_text = codes "create table t(k int key,v int null)"

abbrev created_tokens : List Piece
created_tokens =
    word (codes "create") ∷ word (codes "table") ∷ word t ∷ sign (codes "(") ∷ word (codes "k") ∷ word (codes "int") ∷ word (codes "key") ∷
    sign (codes ",") ∷ word (codes "v") ∷ word (codes "int") ∷ word (codes "null") ∷ sign (codes ")") ∷ []

table_spelled : IsSpelledTable table
unfolding lex first_at keyword_of sign_of table_limit
table_spelled = record {
  text = created_text;
  spells = record {
    tokens = created_tokens;
    lexes = lexed created_text created_tokens refl;
    spelled = table_form.is_table table_form.int_field (form.one_more (table_form.is_nullable table_form.int_field) form.no_more) form.no_more;
  };
  within = refl;
}

abbrev programmed_text : List ℕ
programmed_text = codes "program p() acid {ensure 1 is not null} end"

abbrev programmed_tokens : List Piece
programmed_tokens =
    word (codes "program") ∷ word (codes "p") ∷ sign (codes "(") ∷ sign (codes ")") ∷ word (codes "acid") ∷ sign (codes "{") ∷
    word (codes "ensure") ∷ one_digit ∷ word (codes "is") ∷ word (codes "not") ∷ word (codes "null") ∷ sign (codes "}") ∷ word (codes "end") ∷ []

program_spelled : IsSpelledProgram program
unfolding lex first_at keyword_of sign_of program_limit
program_spelled = record {
  text = programmed_text;
  spells = record {
    tokens = programmed_tokens;
    lexes = lexed programmed_text programmed_tokens refl;
    spelled =
        program_form.is_program program_form.no_items program_form.no_variables
        (program_form.is_acid (program_form.is_block (form.items (form.is_ensure (one (one (plain (not_null (one (one plus_int))))))) form.no_more)));
  };
  within = refl;
}

pub definitions_print : IsPrintableStory schema definition_story
definitions_print = record {
  naming = naming;
  events = (
    record { form = inl (table, table_spelled, refl); sizes = omega arith },
    (record { form = inr (program, program_spelled, refl); sizes = omega arith }, tt),
  );
}
