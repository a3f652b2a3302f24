-- A store that was opened, with what is recovered of its log, stands in its format; and what is found may be kept.
use Rattle.law_definitions.specs.Texts.{IsTextOf, definition_in}
use Rattle.salt_commit.proofs.Opening.{IsOfLog, of_log}
use Rattle.salt_commit.specs.Openings.{OpensStore}
use Rattle.salt_commit.specs.Stores.{IsSound, IsStore, reading}
use Rattle.salt_commit.specs.declared.store.Store.{Store}
use Rattle.salt_decisions.specs.Decisions.{IsDecisions}
use Rattle.salt_decisions.specs.declared.kept.Kept as log
use Rattle.salt_paged.specs.Partitions.{ArePartitions}
use Rattle.salt_stands.specs.Fitting.{kept_in}
use Rattle.salt_devices.proofs.Answered.{opened_stands}
use Rattle.salt_devices.proofs.Sound.{sound_kept}
use Rattle.salt_devices.specs.Opened.{IsRead, OpensIn}
use Rattle.salt_disk.specs.Disks.{SameShape, View}
use Rattle.salt_found.specs.Recovered.{IsRecovered}
use Rattle.salt_found.specs.declared.recovery.Recovered.{Recovered}
use Rattle.salt_model.specs.Kept.{Definition, Kept, OfTable}
use Rattle.salt_model.specs.Tables.{no_rows}
use Rattle.salt_ast.specs.declared.trees.TableDef.{TableDef}
use Rattle.salt_ast.specs.Spelling.{SpellsTable}
use Rattle.salt_stands.proofs.Coordinators.{is_coordinator}
use Rattle.salt_stands.specs.Commits.{found_of, partition_count}
use Rattle.salt_stands.specs.Coordinator.{Coordinator, coordinator_of, decided_for}
use Rattle.salt_stands.specs.CoordinatorLog.{CoordinatorLog}
use Rattle.salt_stands.specs.Partition.{is_format_under}
use Rattle.salt_stands.specs.Stands.{Stands, if_ok, stands_on}
use Rattle.salt_storage.specs.Storing.{IsFound, IsSoundKept}
use Rattle.salt_storage.specs.declared.found.Found.{Found}
use Rattle.law_types.proofs.Found.{IsFoundTyped, coordinator-typed, found-typed}
use Rattle.law_types.specs.Typed.{IsTyped, has_key}
use Rattle.salt_place.specs.declared.placement.Shape.{Shape}
use Rattle.std.proofs.Common.{Bool, IsTrue, List, None, Ok, Some, ap, arith, false, refl, subst, sym, true, ℕ, ◌<◌, ◌≡◌, ◌∙◌}

abbrev pub Texts : Type 0
Texts = (text : List ℕ) (d : Definition) → definition_in text ≡ Some d → IsTextOf d text

abbrev pub Keyed : Type 0
Keyed = (text : List ℕ) (d : TableDef) → SpellsTable text d → has_key d.columns ≡ true

module _ (texts : Texts) (keyed : Keyed) where
  keys : (text : List ℕ) (d : TableDef) → definition_in text ≡ Some (OfTable d) → has_key d.columns ≡ true
  keys text d e = let is = texts text (OfTable d) e in keyed is.0.text d is.0.spells

  module _ (d e : View) (shape : Shape) (x : Store) (kept : log.Kept) (o : OpensStore d e shape x kept) (same : SameShape d e) (r : Recovered) (read : IsRead kept r) where
    rec : IsRecovered r (coordinator_of reading o.c.log)
    rec = read.is o.c.log o.keeps

    own : IsOfLog rec.c o.c.log
    own = of_log o.c.log rec.c rec.stands

    same_coordinator : IsTrue e.told → o.c ≡ rec.c
    same_coordinator told =
        let is : coordinator_of reading o.c.log ≡ Some o.c = is_coordinator reading o.c (o.is.sound told).coordinator in
        let both : Some o.c ≡ Some rec.c = sym is ∙ rec.stands in
        cc

    stands : IsStore reading e x o.which rec.c o.v
    stands = record {
      decisions = subst (λ (l : CoordinatorLog). IsDecisions e x.decisions o.which l) (sym own.log_is) o.is.decisions;
      size = o.is.size ∙ sym (ap (λ (l : CoordinatorLog). l.header.shape.parts) own.log_is);
      parts = subst (λ (l : CoordinatorLog). ArePartitions e x.parts o.v (λ p. decided_for p l.told.decided)) (sym own.log_is) o.is.parts;
      sound = λ told. subst (λ (k : Coordinator Definition). IsSound reading k o.v) (same_coordinator told) (o.is.sound told);
    }

    has_shape : rec.c.log.header.shape ≡ shape
    has_shape = ap (λ (l : CoordinatorLog). l.header.shape) own.log_is ∙ o.has_shape

    under : (p : ℕ) → p < partition_count rec.c → is_format_under rec.c.log.header.format (o.v p).log.header.format ≡ true
    under p low =
        let count : partition_count rec.c ≡ partition_count o.c = ap (λ (l : CoordinatorLog). l.header.shape.parts) own.log_is in
        ap (λ (l : CoordinatorLog). is_format_under l.header.format (o.v p).log.header.format) own.log_is ∙ o.under p (omega (arith, low, count))

    -- the rows are known where the disks tell
    abbrev with_rows : Kept
    with_rows = kept_in (found_of rec.c o.v)

    abbrev without_rows : Kept
    without_rows = record with_rows { tables = no_rows }

    definitions_typed : IsFoundTyped definition_in keys rec.c
    definitions_typed = coordinator-typed definition_in keys o.c.log rec.c rec.stands

    sound_without : IsSoundKept without_rows
    sound_without =
        let t = definitions_typed in
        sound_kept rec.c own.is without_rows refl refl refl refl texts (record { tables = t.definitions.tables; programs = t.definitions.programs; rows = tt; conts = t.conts })

    -- the numbers that were found
    boot_found : kept.boot ≡ rec.c.log.told.boot
    boot_found = o.keeps.boot ∙ sym (ap (λ (l : CoordinatorLog). l.told.boot) own.log_is)

    decisions_found : kept.decisions ≡ rec.c.log.told.decisions
    decisions_found = o.keeps.decisions ∙ sym (ap (λ (l : CoordinatorLog). l.told.decisions) own.log_is)

    module _ (found : Found) (is : found ≡ record { schema = r.schema; catalogue = r.catalogue; conts = r.conts; boot = kept.boot; decisions = kept.decisions }) where
      is_found : IsFound found with_rows
      is_found = record {
        schema = ap (λ (f : Found). f.schema) is ∙ rec.schema;
        catalogue = ap (λ (f : Found). f.catalogue) is ∙ rec.catalogue;
        conts = ap (λ (f : Found). f.conts) is ∙ rec.conts;
        boot = ap (λ (f : Found). f.boot) is ∙ boot_found;
        decisions = ap (λ (f : Found). f.decisions) is ∙ decisions_found;
      }

      pub opens_in : OpensIn d e shape x found
      opens_in = by e.told refl
        where
          by : (b : Bool) → e.told ≡ b → OpensIn d e shape x found
          by true told = record {
            which = o.which;
            c = rec.c;
            v = o.v;
            is = stands;
            has_shape = has_shape;
            under = under;
            kept = with_rows;
            is_found = is_found;
            numbers = record { boot = stands.decisions.holds.boot; decisions = stands.decisions.holds.decisions };
            sound = sound_kept rec.c own.is with_rows refl refl refl refl texts typed;
            keeps = λ now. refl;
            finds = λ was. o.finds was ∙ ap (λ (k : Coordinator Definition). Stands (found_of k o.v)) (same_coordinator told);
          }
            where
              stood : stands_on reading d.bytes shape ≡ Ok (found_of o.c o.v)
              stood = opened_stands d.bytes shape (found_of o.c o.v) (o.finds (sym same.told ∙ told))

              typed : IsTyped with_rows
              typed = subst (λ (k : Coordinator Definition). IsTyped (kept_in (found_of k o.v))) (same_coordinator told) (found-typed definition_in keys d.bytes shape (found_of o.c o.v) (ap if_ok stood))
          by false mute = record {
            which = o.which;
            c = rec.c;
            v = o.v;
            is = stands;
            has_shape = has_shape;
            under = under;
            kept = without_rows;
            is_found = record { schema = is_found.schema; catalogue = is_found.catalogue; conts = is_found.conts; boot = is_found.boot; decisions = is_found.decisions };
            numbers = record { boot = stands.decisions.holds.boot; decisions = stands.decisions.holds.decisions };
            sound = sound_without;
            keeps = λ now. absurd (cc (now, mute));
            finds = λ was. absurd (cc (same.told ∙ was, mute));
          }

-- where the disks tell, the log of a store that was opened stands for something
pub not_unread : (d e : View) (shape : Shape) (x : Store) (kept : log.Kept) (o : OpensStore d e shape x kept) → IsTrue e.told → coordinator_of reading o.c.log ≡ None → ⊥
not_unread d e shape x kept o now none =
    let is : coordinator_of reading o.c.log ≡ Some o.c = is_coordinator reading o.c (o.is.sound now).coordinator in
    let both : None ≡ Some o.c = sym none ∙ is in
    absurd (cc both)
