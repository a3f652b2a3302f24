-- Changes that fit are sound in the partitions of their keys.
use Rattle.salt_ast.specs.declared.trees.TableDef.{TableDef}
use Rattle.salt_stands.specs.Fitting.{definitions_reading, is_key_of, is_row_of, tables_defined}
use Rattle.salt_model.specs.Kept.{Definition}
use Rattle.salt_model.specs.Tables.{changed_at}
use Rattle.salt_stands.specs.Coordinator.{Coordinator}
use Rattle.salt_stands.specs.Partition.{is_sound_change, is_sound_to, part_of_key}
use Rattle.law_types.proofs.Words.{both}
use Rattle.law_types.specs.Typed.{AreChangesOf, FitsAt}
use Rattle.salt_values.specs.declared.change.Change.{Change}
use Rattle.salt_values.specs.declared.value.Value.{Value}
use Rattle.std.proofs.Common.{arith}
use Rattle.std.proofs.lemmas.Bool.Decides.{nat_tests}
use Rattle.std.proofs.lemmas.Bool.{eq-eqb}
use Rattle.std.specs.List.{list_all}
use Rattle.std.specs.Prelude.{List, None, Option, Some, [], length, nat_lt, refl, suc, true, zero, ℕ, ◌&&◌, ◌<◌, ◌∷◌, ◌≡◌, slice_get}

below : (schema : List TableDef) (n : ℕ) (d : TableDef) → slice_get schema n ≡ Some d → n < length schema
below [] n d e = absurd cc
below (x ∷ schema) zero d e = omega arith
below (x ∷ schema) (suc n) d e = let h = below schema n d e in omega arith

of-row : (schema : List TableDef) (n : ℕ) (row : List Value) → is_row_of (slice_get schema n) row ≡ true → nat_lt n (length schema) ≡ true
of-row schema n row h = by (slice_get schema n) refl h
  where
    by : (o : Option TableDef) → slice_get schema n ≡ o → is_row_of o row ≡ true → nat_lt n (length schema) ≡ true
    by None e g = absurd cc
    by (Some d) e g = let b = below schema n d e in grind (arith, nat_tests)

of-key : (schema : List TableDef) (n : ℕ) (key : Value) → is_key_of (slice_get schema n) key ≡ true → nat_lt n (length schema) ≡ true
of-key schema n key h = by (slice_get schema n) refl h
  where
    by : (o : Option TableDef) → slice_get schema n ≡ o → is_key_of o key ≡ true → nat_lt n (length schema) ≡ true
    by None e g = absurd cc
    by (Some d) e g = let b = below schema n d e in grind (arith, nat_tests)

pub change-sound : (read : List ℕ → Option Definition) (c : Coordinator Definition) (ch : Change) → FitsAt (tables_defined c.definitions) (changed_at ch) ch.row →
    is_sound_change (definitions_reading read) c (part_of_key c.log.header.shape ch.key) ch ≡ true
change-sound read c ch h = by ch.row h
  where
    by : (row : Option (List Value)) → FitsAt (tables_defined c.definitions) (changed_at ch) row →
        (nat_lt ch.table (length (tables_defined c.definitions)) && is_sound_to (definitions_reading read) c (part_of_key c.log.header.shape ch.key) (changed_at ch) row) ≡ true
    by None g = both _ _ (of-key (tables_defined c.definitions) ch.table ch.key g) g
    by (Some row) g =
        both _ _ (of-row (tables_defined c.definitions) ch.table row g.fits)
        (both _ _ g.fits (eq-eqb (part_of_key c.log.header.shape ch.key) (part_of_key c.log.header.shape ch.key) refl))

pub all-sound : (read : List ℕ → Option Definition) (c : Coordinator Definition) (cs : List Change) → AreChangesOf (tables_defined c.definitions) cs →
    list_all (λ (ch : Change). is_sound_change (definitions_reading read) c (part_of_key c.log.header.shape ch.key) ch) cs ≡ true
all-sound read c [] h = refl
all-sound read c (ch ∷ cs) h = both _ _ (change-sound read c ch h.0) (all-sound read c cs h.1)
