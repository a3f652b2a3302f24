-- What stands may be opened again: its log defines the tables that an opening is given. So may a store with a table.
use Rattle.salt_ast.specs.Judgement.{table_fault}
use Rattle.salt_ast.specs.ProgramJudgement.{line_fault}
use Rattle.salt_ast.specs.declared.trees.ColType.TheVariants as kind
use Rattle.salt_ast.specs.declared.trees.TableDef.{TableDef}
use Rattle.salt_bytes.specs.Coordinator.{NumberedText}
use Rattle.salt_bytes.specs.Generations.{Counts, LogA, WhichLog}
use Rattle.law_definitions.specs.Texts.{definition_in}
use Rattle.salt_commit.specs.Openings.{IsSchemaWhere}
use Rattle.salt_commit.specs.Stores.{IsStore, MayDefine, reading}
use Rattle.salt_commit.specs.declared.store.Store.{Store}
use Rattle.salt_stands.specs.Fitting.{is_refused, tables_defined}
use Rattle.salt_disk.specs.Disks.{View}
use Rattle.salt_model.specs.Kept.{Definition, OfTable}
use Rattle.salt_parse.specs.Lists.{following_at}
use Rattle.salt_parse.specs.Reading.{after, atom_at, left_at, nots_at, once_at, tail_at, text_at, within_at}
use Rattle.salt_parse.specs.TableReading.{table_at}
use Rattle.salt_stands.proofs.Coordinators.{is_coordinator}
use Rattle.salt_stands.specs.Coordinator.{Coordinator, coordinator_pair}
use Rattle.salt_stands.specs.FirstOpening.{first_coordinator}
use Rattle.salt_stands.specs.Pieces.{IsCoordinator, PartView, with_definition}
use Rattle.salt_stands.specs.Stands.{logs_of}
use Rattle.salt_ast.specs.Scanning.{first_at, lex, quoted_at}
use Rattle.salt_ast.specs.TokenSpelling.{keyword_of, sign_of}
use Rattle.salt_place.specs.declared.placement.PlaceKind.TheVariants.{Remainder}
use Rattle.salt_place.specs.declared.placement.Shape.{Shape}
use Rattle.std.proofs.Common.{IsTrue, List, Some, [], ap, false, refl, subst, sym, ℕ, ◌++◌, ◌≡◌, ◌∙◌, ◌∷◌}
use Rattle.std.specs.Prelude.{codes, not, option_and_then}
use Rattle.std.specs.Bool.{then_some}

pub opens_again : (d : View) (x : Store) (which : WhichLog) (c : Coordinator Definition) (v : ℕ → PartView) → IsStore reading d x which c v → IsTrue d.told → IsSchemaWhere (tables_defined c.definitions) (coordinator_pair (logs_of d.bytes))
opens_again d x which c v is told =
    subst (IsSchemaWhere (tables_defined c.definitions)) (sym (is.decisions.counting.counts told)) (record { c = c; reads = is_coordinator reading c (is.sound told).coordinator; tables = refl })

abbrev table_text : List ℕ
table_text = codes "create table t (id int key)"

abbrev table : TableDef
table = record { name = codes "t"; columns = record { name = codes "id"; kind = kind.Int; nullable = false } ∷ []; checks = [] }

abbrev shape : Shape
shape = record { parts = 2; kind = Remainder }

abbrev numbered : NumberedText
numbered = record { number = 1; text = table_text }

abbrev with_table : Coordinator Definition
with_table = with_definition (first_coordinator shape 3) numbered (OfTable table)

text_read : definition_in table_text ≡ Some (OfTable table)
unfolding definition_in lex first_at quoted_at keyword_of sign_of after atom_at left_at nots_at once_at tail_at text_at within_at table_at following_at
text_read = refl

accepted : is_refused [] (OfTable table) ≡ false
unfolding line_fault table_fault
accepted = refl

-- a table may be defined in a new store
may_define : MayDefine reading (first_coordinator shape 3) table_text (OfTable table)
may_define = record { reads = text_read; accepted = accepted }

-- and the log that then counts is that of a schema with it
is_of_table : IsCoordinator reading with_table
is_of_table = record {
  defined = ap (λ o. option_and_then (λ d. then_some (not (is_refused [] d)) ([] ++ d ∷ [])) o) text_read ∙ ap (λ b. then_some (not b) (OfTable table ∷ [])) accepted;
  moves = refl;
  rise = refl;
  named = refl;
  decided = refl;
}

has_table : IsSchemaWhere (table ∷ []) (Counts LogA with_table.log)
has_table = record { c = with_table; reads = is_coordinator reading with_table is_of_table; tables = refl }
