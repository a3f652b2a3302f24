-- What is known in memory of a database, told by the definitions' record of what is kept.
use Rattle.salt_ast.specs.declared.programs.ProgramDef.{ProgramDef}
use Rattle.salt_ast.specs.declared.trees.TableDef.{TableDef}
use Rattle.salt_books.specs.declared.known.Known.{Known}
use Rattle.salt_model.specs.Kept.{Kept, programs_of, schema_of}
use Rattle.salt_values.specs.declared.cont.Cont.{Cont}
use Rattle.std.specs.Prelude.{List, ℕ, ◌≡◌}

-- WHAT IT SHOWS: the tables and programs defined, where programs go on, the boot and the last decision

abbrev pub tables_known : Known → List TableDef
tables_known x = x.schema

abbrev pub programs_known : Known → List ProgramDef
programs_known x = x.catalogue

abbrev pub conts_known : Known → List Cont
conts_known x = x.conts

abbrev pub boot_known : Known → ℕ
boot_known x = x.boot

abbrev pub decisions_known : Known → ℕ
decisions_known x = x.decisions

-- WHAT IT STANDS FOR: what is kept, but for the rows of tables, of which nothing is said
pub record IsKnown (x : Known) (k : Kept) : Type 0 where
  pub schema : tables_known x ≡ schema_of k
  pub catalogue : programs_known x ≡ programs_of k
  pub conts : conts_known x ≡ k.conts
  pub boot : boot_known x ≡ k.boot
  pub decisions : decisions_known x ≡ k.decisions
