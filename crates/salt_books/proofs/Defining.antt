-- Tables and programs after one definition more.
use Rattle.salt_ast.specs.declared.programs.ProgramDef.{ProgramDef}
use Rattle.salt_ast.specs.declared.trees.TableDef.{TableDef}
use Rattle.salt_model.specs.Kept.{Definition, OfProgram, OfTable, program_of_definition, table_of_definition}
use Rattle.std.proofs.Common.{ap}
use Rattle.std.specs.List.{filter_map}
use Rattle.std.specs.Prelude.{List, [], refl, ◌++◌, ◌∷◌, ◌≡◌}

pub tables-with-table : (ds : List Definition) (d : TableDef) →
    filter_map table_of_definition (ds ++ OfTable d ∷ []) ≡ filter_map table_of_definition ds ++ d ∷ []
tables-with-table [] d = refl
tables-with-table (OfTable e ∷ ds) d = ap (λ l. e ∷ l) (tables-with-table ds d)
tables-with-table (OfProgram p ∷ ds) d = tables-with-table ds d

pub programs-with-table : (ds : List Definition) (d : TableDef) →
    filter_map program_of_definition (ds ++ OfTable d ∷ []) ≡ filter_map program_of_definition ds
programs-with-table [] d = refl
programs-with-table (OfTable e ∷ ds) d = programs-with-table ds d
programs-with-table (OfProgram p ∷ ds) d = ap (λ l. p ∷ l) (programs-with-table ds d)

pub tables-with-program : (ds : List Definition) (p : ProgramDef) →
    filter_map table_of_definition (ds ++ OfProgram p ∷ []) ≡ filter_map table_of_definition ds
tables-with-program [] p = refl
tables-with-program (OfTable e ∷ ds) p = ap (λ l. e ∷ l) (tables-with-program ds p)
tables-with-program (OfProgram q ∷ ds) p = tables-with-program ds p

pub programs-with-program : (ds : List Definition) (p : ProgramDef) →
    filter_map program_of_definition (ds ++ OfProgram p ∷ []) ≡ filter_map program_of_definition ds ++ p ∷ []
programs-with-program [] p = refl
programs-with-program (OfTable e ∷ ds) p = programs-with-program ds p
programs-with-program (OfProgram q ∷ ds) p = ap (λ l. q ∷ l) (programs-with-program ds p)
