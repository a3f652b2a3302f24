-- The tables that commits have made.
use Rattle.law_states.specs.Overlays.{edits_of, with_edits}
use Rattle.salt_model.specs.Tables.{Tables, no_rows}
use Rattle.salt_verdict.specs.declared.rows.Rows.{Rows}

abbrev pub tables_made : Rows → Tables
tables_made rows = with_edits (edits_of rows.changes.items) no_rows
