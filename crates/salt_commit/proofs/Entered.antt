-- A boot and a definition, in each image and after Ok.
use Rattle.salt_bytes.proofs.Logs.{reads_entry}
use Rattle.salt_bytes.specs.Coordinator.{Boots, Defines, entry_in, spell_entry}
use Rattle.salt_bytes.specs.Generations.{WhichLog}
use Rattle.salt_commit.proofs.Standing.{after_entry, each_image, makes_boot, makes_definition, pages_same}
use Rattle.salt_commit.specs.Stores.{IsStore, MayDefine, StandForEither, last_boot, last_decision, next_text}
use Rattle.salt_commit.specs.declared.store.Store.{Store}
use Rattle.salt_decisions.specs.Decisions.{IsBeforeOrWith, IsDecisions, booted, defined, device_in, next_definition}
use Rattle.salt_disk.specs.Disks.{EachImage, KeepsOthers, View}
use Rattle.salt_disk.specs.declared.disks.DiskErr.{DiskErr}
use Rattle.salt_stands.specs.Commits.{found_of, partition_count}
use Rattle.salt_stands.specs.Coordinator.{Coordinator, device_of}
use Rattle.salt_stands.specs.Pieces.{StaysFitting, PartView, with_boot, with_definition}
use Rattle.salt_stands.specs.Reading.{Reading}
use Rattle.std.proofs.Common.{IsTrue, List, None, Option, Some, ap, refl, subst, ℕ, ◌+◌, ◌<◌, ◌^◌, ◌≡◌, ◌∙◌}

module _ {D : Type 0} (r : Reading D) (d e : View) (x : Store) (which : WhichLog) (c : Coordinator D) (v : ℕ → PartView) (is : IsStore r d x which c v) where
  -- A BOOT
  module _ (room : last_boot x + 1 < 2 ^ 64) where
    boot_spelled : entry_in (partition_count c) (spell_entry (Boots (last_boot x + 1))) ≡ Some (Boots (c.log.told.boot + 1))
    boot_spelled = reads_entry (partition_count c) (Boots (last_boot x + 1)) room ∙ ap (λ n. Some (Boots (n + 1))) is.decisions.holds.boot

    pub boot_images : (answer : Option DiskErr) → KeepsOthers (device_in x.decisions) d e answer → IsTrue d.told
        → EachImage e (device_of 0 which) (IsBeforeOrWith (d.bytes (device_of 0 which)) (spell_entry (Boots (last_boot x + 1)))) → StandForEither r e (found_of c v) (found_of (with_boot c) v)
    boot_images answer keeps told images =
        each_image r d x which c v is e answer keeps told (spell_entry (Boots (last_boot x + 1))) (with_boot c) (pages_same r d x which c v is told)
        (makes_boot r d x which c v is told (spell_entry (Boots (last_boot x + 1))) boot_spelled) images

    pub boot_ok : (y : Store) → KeepsOthers (device_in x.decisions) d e None → y.parts ≡ x.parts → IsDecisions e y.decisions which (booted c.log) → IsStore r e y which (with_boot c) v
    boot_ok y keeps parts decisions =
        after_entry r d x which c v is e y (spell_entry (Boots (last_boot x + 1))) (with_boot c) refl (λ p. refl)
        (λ told. makes_boot r d x which c v is told (spell_entry (Boots (last_boot x + 1))) boot_spelled) keeps parts decisions

  -- A DEFINITION
  module _ (text : List ℕ) (def : D) (room : last_decision x + 1 < 2 ^ 64) (short : Rattle.std.proofs.Common.length text < 2 ^ 64) (may : IsTrue d.told → MayDefine r c text def) (grows : StaysFitting r c.definitions def) where
    payload : List ℕ
    payload = spell_entry (Defines (next_definition x.decisions text))

    same_text : next_definition x.decisions text ≡ next_text c text
    same_text = ap (λ n. record { number = n + 1; text = text }) is.decisions.holds.decisions

    text_spelled : entry_in (partition_count c) payload ≡ Some (Defines (next_text c text))
    unfolding payload
    text_spelled = reads_entry (partition_count c) (Defines (next_definition x.decisions text)) (record { number = room; text = short }) ∙ ap (λ t. Some (Defines t)) same_text

    pub definition_images : (answer : Option DiskErr) → KeepsOthers (device_in x.decisions) d e answer → IsTrue d.told
        → EachImage e (device_of 0 which) (IsBeforeOrWith (d.bytes (device_of 0 which)) (spell_entry (Defines (next_definition x.decisions text))))
        → StandForEither r e (found_of c v) (found_of (with_definition c (next_text c text) def) v)
    unfolding payload
    definition_images answer keeps told images =
        each_image r d x which c v is e answer keeps told payload (with_definition c (next_text c text) def) (pages_same r d x which c v is told)
        (makes_definition r d x which c v is told payload (next_text c text) def text_spelled refl (may told).reads (may told).accepted grows) images

    pub definition_ok : (y : Store) → KeepsOthers (device_in x.decisions) d e None → y.parts ≡ x.parts → IsDecisions e y.decisions which (defined c.log (next_definition x.decisions text))
        → IsStore r e y which (with_definition c (next_text c text) def) v
    definition_ok y keeps parts decisions =
        after_entry r d x which c v is e y payload (with_definition c (next_text c text) def) refl (λ p. refl)
        (λ told. makes_definition r d x which c v is told payload (next_text c text) def text_spelled refl (may told).reads (may told).accepted grows) keeps parts
        (subst (λ t. IsDecisions e y.decisions which (defined c.log t)) same_text decisions)
