-- Headers, entries and pages that were spelled are read again.
use Rattle.salt_bytes.specs.declared.moves.Move.{Move}
use Rattle.salt_values.specs.declared.change.Change.{Change}
use Rattle.salt_values.specs.declared.value.Value.{Value}
use Rattle.salt_bytes.proofs.Numbers.{takes_16, takes_32, takes_64, takes_id}
use Rattle.salt_bytes.proofs.Taking.{Takes, at_last, behind_byte, both, checked, given, takes_bytes, takes_each, whole-of}
use Rattle.salt_bytes.proofs.Values.{takes_cont, takes_move, takes_row, takes_value}
use Rattle.salt_bytes.specs.Changes.{spell_change, spell_change_to, take_change, take_change_to}
use Rattle.salt_bytes.specs.Conts.{move_in, spell_cont, spell_move, take_cont, take_move}
use Rattle.salt_bytes.specs.Coordinator.{Boots, CoordinatorEntry, CoordinatorHeader, Decides, Decision, Defines, NumberedText, entry_in, header_in, spell_entry, spell_header, spell_kind, spell_numbered, spell_text, take_decision, take_entry, take_entry_of, take_header, take_kind, take_numbered, take_text, take_word}
use Rattle.salt_bytes.specs.Ids.{spell_id}
use Rattle.salt_bytes.specs.Numbers.{spell_64, spell_counted, take_counted}
use Rattle.salt_bytes.specs.Page.{TableRow, spell_table_row, take_table_row}
use Rattle.salt_bytes.specs.Partition.{PartitionHeader, Prepared, partition_header_in, prepared_in, spell_partition_header, spell_prepared, take_partition_header, take_prepared}
use Rattle.salt_bytes.specs.Spellable.{Every, IsSpellableChange, IsSpellableCont, IsSpellableDecision, IsSpellableEntry, IsSpellableHeader, IsSpellableMove, IsSpellableNumbered, IsSpellablePartitionHeader, IsSpellablePrepared, IsSpellableTableRow, IsSpellableTo}
use Rattle.salt_bytes.specs.Taking.{Take, take_byte, then_take}
use Rattle.salt_bytes.specs.Values.{spell_values}
use Rattle.salt_place.specs.declared.placement.PlaceKind.TheVariants.{Bands, Remainder}
use Rattle.salt_place.specs.declared.placement.PlaceKind.{PlaceKind}
use Rattle.std.proofs.Common.{Bool, List, false, length, refl, subst, ℕ, ◌≡◌, ◌++◌, ◌∷◌, ◌<◌, ◌^◌, Some, None, Option, codes}
use Rattle.salt_values.specs.Value.{key_of}

takes_text : (text : List ℕ) → length text < 2 ^ 64 → Takes take_text (spell_text text) text
takes_text text fits = both _ (takes_64 (length text) fits) (takes_bytes text (length text) refl)

takes_counted : {A : Type 0} (P : A → Type 0) (take : Take A) (spell : A → List ℕ) → ((x : A) → P x → Takes take (spell x) x) → (xs : List A) → length xs < 2 ^ 64 → Every P xs → Takes (take_counted take) (spell_counted spell xs) xs
takes_counted P take spell law xs fits good = both _ (takes_64 (length xs) fits) (takes_each P take spell law xs good)

takes_numbered : (d : NumberedText) → IsSpellableNumbered d → Takes take_numbered (spell_numbered d) d
takes_numbered d good = both _ (takes_64 d.number good.number) (at_last _ (takes_text d.text good.text) (given d))

takes_kind : (kind : PlaceKind) → Takes take_kind (spell_kind kind) kind
takes_kind Remainder = record { taken = λ rest. refl }
takes_kind Bands = record { taken = λ rest. refl }

coordinator_word : Takes (take_word (codes "SALTC")) (codes "SALTC") (codes "SALTC")
coordinator_word = record { taken = λ rest. refl }

partition_word : Takes (take_word (codes "SALTP")) (codes "SALTP") (codes "SALTP")
partition_word = record { taken = λ rest. refl }

takes_header : (h : CoordinatorHeader) → IsSpellableHeader h → Takes take_header (spell_header h) h
takes_header h good =
    both _ coordinator_word
    (behind_byte _ h.format (checked good.format
    (both _ (takes_64 h.generation good.generation) (checked good.first
    (behind_byte _ h.shape.parts (checked good.parts
    (both _ (takes_kind h.shape.kind)
    (both _ (takes_64 h.boot good.boot)
    (both _ (takes_64 h.decisions good.decisions)
    (both _ (takes_counted IsSpellableNumbered take_numbered spell_numbered takes_numbered h.definitions good.count good.definitions)
    (at_last _ (takes_counted (IsSpellableCont h.format) (take_cont h.format) (spell_cont h.format) (takes_cont h.format) h.conts good.open_count good.conts) (given h))))))))))))

takes_decision : (parts : ℕ) (d : Decision) → IsSpellableDecision parts d → Takes (take_decision parts) (spell_64 d.number ++ (spell_id d.unit ++ (d.mask ∷ spell_text d.move))) d
takes_decision parts d good =
    both _ (takes_64 d.number good.number)
    (both _ (takes_id d.unit good.unit.boot good.unit.seq)
    (behind_byte _ d.mask (checked good.mask (at_last _ (takes_text d.move good.move) (given d)))))

takes_entry : (parts : ℕ) (e : CoordinatorEntry) → IsSpellableEntry parts e → Takes (take_entry parts) (spell_entry e) e
takes_entry parts (Boots boot) fits = behind_byte (take_entry_of parts) 1 (at_last _ (takes_64 boot fits) (given (Boots boot)))
takes_entry parts (Defines d) good = behind_byte (take_entry_of parts) 2 (at_last _ (takes_numbered d good) (given (Defines d)))
takes_entry parts (Decides d) good = behind_byte (take_entry_of parts) 3 (at_last _ (takes_decision parts d good) (given (Decides d)))

takes_to : (nulls : Bool) (table : ℕ) (key : Value) (row : Option (List Value)) → IsSpellableTo nulls key row → Takes (then_take take_byte (take_change_to nulls table)) (spell_change_to key row) (record { table = table; key = key; row = row })
takes_to nulls table key None good = behind_byte (take_change_to nulls table) 0 (at_last _ (takes_value false key good) (given (record { table = table; key = key; row = None })))
takes_to nulls table key (Some row) good =
    subst (λ k. Takes (then_take take_byte (take_change_to nulls table)) (1 ∷ spell_values row) (record { table = table; key = k; row = Some row })) good.1
    (behind_byte (take_change_to nulls table) 1 (at_last _ (takes_row nulls row good.0) (given (record { table = table; key = key_of row; row = Some row }))))

takes_change : (nulls : Bool) (c : Change) → IsSpellableChange nulls c → Takes (take_change nulls) (spell_change c) c
takes_change nulls c good = both _ (takes_16 c.table good.table) (takes_to nulls c.table c.key c.row good.to)

takes_partition_header : (h : PartitionHeader) → IsSpellablePartitionHeader h → Takes take_partition_header (spell_partition_header h) h
takes_partition_header h good =
    both _ partition_word
    (behind_byte _ h.format (checked good.format
    (both _ (takes_64 h.generation good.generation) (checked good.first
    (behind_byte _ h.part
    (at_last _ (both _ (takes_32 (length h.sides) good.count) (takes_bytes h.sides (length h.sides) refl)) (checked good.sides (given h))))))))

takes_prepared : (nulls : Bool) (p : Prepared) → IsSpellablePrepared nulls p → Takes (take_prepared nulls) (spell_prepared p) p
takes_prepared nulls p good =
    behind_byte _ 1
    (both _ (takes_id p.unit good.unit.boot good.unit.seq)
    (at_last _ (takes_counted (IsSpellableChange nulls) (take_change nulls) spell_change (takes_change nulls) p.changes good.count good.changes) (checked good.ordered (given p))))

pub takes_table_row : (nulls : Bool) (r : TableRow) → IsSpellableTableRow nulls r → Takes (take_table_row nulls) (spell_table_row r) r
takes_table_row nulls r good = both _ (takes_16 r.table good.table) (at_last _ (takes_row nulls r.row good.row) (given r))

-- WHAT WAS SPELLED IS READ

pub reads_move : (format : ℕ) (m : Move) → IsSpellableMove format m → move_in format (spell_move format m) ≡ Some m
reads_move format m good = whole-of (take_move format) (spell_move format m) m (takes_move format m good)

pub reads_header : (h : CoordinatorHeader) → IsSpellableHeader h → header_in (spell_header h) ≡ Some h
reads_header h good = whole-of take_header (spell_header h) h (takes_header h good)

pub reads_entry : (parts : ℕ) (e : CoordinatorEntry) → IsSpellableEntry parts e → entry_in parts (spell_entry e) ≡ Some e
reads_entry parts e good = whole-of (take_entry parts) (spell_entry e) e (takes_entry parts e good)

pub reads_partition_header : (h : PartitionHeader) → IsSpellablePartitionHeader h → partition_header_in (spell_partition_header h) ≡ Some h
reads_partition_header h good = whole-of take_partition_header (spell_partition_header h) h (takes_partition_header h good)

pub reads_prepared : (nulls : Bool) (p : Prepared) → IsSpellablePrepared nulls p → prepared_in nulls (spell_prepared p) ≡ Some p
reads_prepared nulls p good = whole-of (take_prepared nulls) (spell_prepared p) p (takes_prepared nulls p good)
