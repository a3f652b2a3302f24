use Rattle.salt_bytes.specs.Spellable.{Every}
use Rattle.salt_codec.specs.Entries.{CanBePut}
use Rattle.salt_checkpoint.specs.Sides.{KeepsNamed}
use Rattle.salt_directory.specs.Bytes.{IsWithin, bytes_of_changes, bytes_of_entries}
use Rattle.salt_disk.specs.Disks.{KeepsOthers}
use Rattle.salt_model.specs.Tables.{Tables, with_changes}
use Rattle.salt_partition.proofs.Keyed.{every_last}
use Rattle.salt_partition.proofs.Lasts.{applied_last, changes_kept, last_is}
use Rattle.salt_paged.proofs.Standing.{decided_rows, written}
use Rattle.salt_paged.proofs.partition.Partition.apply.Goals as goal
use Rattle.salt_partition.specs.Contents.{ArePut}
use Rattle.salt_partition.specs.Partitions.{prepared}
use Rattle.salt_paged.specs.Partitions.{page_count}
use Rattle.salt_rows.specs.Stores as stores
use Rattle.salt_rows.specs.Stores.{IsRowStore}
use Rattle.salt_stands.specs.Partition.{pages_device, part_tables}
use Rattle.salt_values.specs.declared.change.Change.{Change}
use Rattle.std.proofs.Common.{List, None, Some, [], ap, refl, subst, sym, true, ℕ, ◌+◌, ◌++◌, ◌≡◌, ◌∙◌, ◌∷◌}

pub apply-requires-clause-stands : goal.apply-requires-clause-stands
apply-requires-clause-stands g c = let r = c.requires in record { dev = pages_device r.p; named = r.v.log.header.sides; t = part_tables r.applied r.v.log r.v.rows; is = r.is.rows }

pub apply-requires-clause-put : goal.apply-requires-clause-put
apply-requires-clause-put g c =
    let r = c.requires in
    let x = c.args.self.now in
    let u = c.args.unit in
    let taken : x.last ≡ Some c.in-Some.prepared = sym c.take.ensures.value ∙ c.in-Some.is in
    let changes : c.in-Some.prepared.changes.items ≡ r.last.changes = changes_kept c.in-Some.prepared x.last (prepared u r.last.changes) taken (last_is r.v r.applied u x.last r.is.last r.last) in
    let put : ArePut (prepared u r.last.changes) = every_last ArePut r.last.before (prepared u r.last.changes) (subst (Every ArePut) r.last.last r.is.put) in
    subst (Every (CanBePut true)) (sym (c.as_slice.ensures.value ∙ changes)) put

pub returns-in_ok-apply-clause-ok : goal.returns-in_ok-apply-clause-ok
returns-in_ok-apply-clause-ok g c p v applied is last =
    let d = g.D.Disks.view c.args.disks.now in
    let e = g.D.Disks.view c.apply.new.disks in
    let x = c.args.self.now in
    let u = c.args.unit in
    let dev = pages_device p in
    let named = v.log.header.sides in
    let t : Tables = part_tables applied v.log v.rows in
    let taken : x.last ≡ Some c.in-Some.prepared = sym c.take.ensures.value ∙ c.in-Some.is in
    let changes : c.in-Some.prepared.changes.items ≡ last.changes = changes_kept c.in-Some.prepared x.last (prepared u last.changes) taken (last_is v applied u x.last is.last last) in
    let made : IsRowStore e c.apply.new.self dev named (with_changes c.as_slice.result.now t) = c.in_ok-apply.ensures.rows dev named t is.rows in
    let rows : IsRowStore e c.apply.new.self dev named (part_tables (applied ++ u ∷ []) v.log v.rows) =
    subst (λ k. IsRowStore e c.apply.new.self dev named k) (ap (λ (cs : List Change). with_changes cs t) (c.as_slice.ensures.value ∙ changes) ∙ sym (decided_rows applied v u last)) made in
    written d e x _ p v applied v.log.prepared is (subst (λ k. KeepsOthers k d e None) is.rows.is.device c.in_ok-apply.ensures.others)
    (c.apply.ensures.images dev named t is.rows) (λ told. c.in_ok-apply.ensures.named dev named t is.rows told)
    (applied ++ u ∷ []) v.log.prepared refl refl refl refl (applied_last v applied u last _) rows

-- WHAT IT WRITES, whatever it answers

pub returns-in_ok-apply-clause-images : goal.returns-in_ok-apply-clause-images
returns-in_ok-apply-clause-images g c p v applied is =
    let d = g.D.Disks.view c.args.disks.now in
    let e = g.D.Disks.view c.apply.new.disks in
    let sides = v.log.header.sides in
    let t : Tables = part_tables applied v.log v.rows in
    subst (λ (n : ℕ). KeepsNamed sides d e (pages_device n)) (sym is.part) (c.apply.ensures.images (pages_device p) sides t is.rows)

pub returns-in_err-apply-clause-images : goal.returns-in_err-apply-clause-images
returns-in_err-apply-clause-images g c p v applied is =
    let d = g.D.Disks.view c.args.disks.now in
    let e = g.D.Disks.view c.apply.new.disks in
    let sides = v.log.header.sides in
    let t : Tables = part_tables applied v.log v.rows in
    subst (λ (n : ℕ). KeepsNamed sides d e (pages_device n)) (sym is.part) (c.apply.ensures.images (pages_device p) sides t is.rows)

-- HOW MANY PAGES THERE ARE

pub returns-in_ok-apply-clause-pages : goal.returns-in_ok-apply-clause-pages
returns-in_ok-apply-clause-pages g c p v applied is last told =
    let x = c.args.self.now in
    let t : Tables = part_tables applied v.log v.rows in
    let taken : x.last ≡ Some c.in-Some.prepared = sym c.take.ensures.value ∙ c.in-Some.is in
    let changes : c.in-Some.prepared.changes.items ≡ last.changes = changes_kept c.in-Some.prepared x.last (prepared c.args.unit last.changes) taken (last_is v applied c.args.unit x.last is.last last) in
    subst (λ (cs : List Change). IsWithin (page_count x) (bytes_of_entries t.list + bytes_of_changes cs) (stores.page_count c.apply.new.self)) (c.as_slice.ensures.value ∙ changes) (c.apply.ensures.pages (pages_device p) v.log.header.sides t is.rows told)

pub returns-in_err-apply-clause-pages : goal.returns-in_err-apply-clause-pages
returns-in_err-apply-clause-pages g c p v applied is last told =
    let x = c.args.self.now in
    let t : Tables = part_tables applied v.log v.rows in
    let taken : x.last ≡ Some c.in-Some.prepared = sym c.take.ensures.value ∙ c.in-Some.is in
    let changes : c.in-Some.prepared.changes.items ≡ last.changes = changes_kept c.in-Some.prepared x.last (prepared c.args.unit last.changes) taken (last_is v applied c.args.unit x.last is.last last) in
    subst (λ (cs : List Change). IsWithin (page_count x) (bytes_of_entries t.list + bytes_of_changes cs) (stores.page_count c.apply.new.self)) (c.as_slice.ensures.value ∙ changes) (c.apply.ensures.pages (pages_device p) v.log.header.sides t is.rows told)
