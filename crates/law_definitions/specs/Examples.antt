-- Texts, and the definitions that they are read as.
use Rattle.salt_ast.specs.declared.trees.ColType.TheVariants as kind
use Rattle.law_definitions.specs.Texts.{definition_in}
use Rattle.salt_model.specs.Kept.{OfTable}
use Rattle.salt_parse.specs.Lists.{following_at}
use Rattle.salt_parse.specs.Reading.{after, atom_at, left_at, nots_at, once_at, tail_at, text_at, within_at}
use Rattle.salt_parse.specs.TableReading.{table_at}
use Rattle.salt_ast.specs.Scanning.{first_at, lex, quoted_at}
use Rattle.salt_ast.specs.TokenSpelling.{keyword_of, sign_of}
use Rattle.std.specs.Prelude.{None, Some, [], codes, false, refl, true, ◌∷◌, ◌≡◌}

table_read : definition_in (codes "create table t (id int key, v int null)") ≡ Some (OfTable (record {
  name = codes "t";
  columns = record { name = codes "id"; kind = kind.Int; nullable = false } ∷ record { name = codes "v"; kind = kind.Int; nullable = true } ∷ [];
  checks = [];
}))
unfolding definition_in lex first_at quoted_at keyword_of sign_of after atom_at left_at nots_at once_at tail_at text_at within_at table_at following_at
table_read = refl

-- it spells the table, but is not its canonical text
two_spaces : definition_in (codes "create table  t (id int key)") ≡ None
unfolding definition_in lex first_at quoted_at keyword_of sign_of after atom_at left_at nots_at once_at tail_at text_at within_at table_at following_at
two_spaces = refl

no_key : definition_in (codes "create table t (id int)") ≡ None
unfolding definition_in lex first_at quoted_at keyword_of sign_of after atom_at left_at nots_at once_at tail_at text_at within_at table_at following_at
no_key = refl

nothing : definition_in [] ≡ None
unfolding definition_in
nothing = refl
