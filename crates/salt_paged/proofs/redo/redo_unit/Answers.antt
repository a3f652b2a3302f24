use Rattle.salt_checkpoint.specs.Sides.{KeepsNamed}
use Rattle.salt_disk.specs.Disks.{KeepsOthers}
use Rattle.salt_model.specs.Tables.{Tables, no_rows, with_changes}
use Rattle.salt_codec.specs.Entries.{prepared_of}
use Rattle.salt_partition.proofs.Lasts.{last_gone}
use Rattle.salt_paged.proofs.Standing.{done_rows, undone, written}
use Rattle.salt_directory.specs.Bytes.{IsWithin, bytes_of_changes, bytes_of_entries}
use Rattle.salt_paged.proofs.redo.redo_unit.Goals as goal
use Rattle.salt_paged.specs.Partitions.{page_count}
use Rattle.salt_rows.specs.Stores.{IsRowStore}
use Rattle.salt_stands.specs.Partition.{changes_if, decided_changes, pages_device}
use Rattle.salt_values.specs.declared.change.Change.{Change}
use Rattle.std.proofs.Common.{List, None, [], ap, arith, refl, subst, sym, ℕ, ◌+◌, ◌++◌, ◌∙◌, ◌∷◌}

pub apply-requires-clause-stands : goal.apply-requires-clause-stands
apply-requires-clause-stands g c = let r = c.requires in record { dev = pages_device r.p; named = r.v.log.header.sides; t = with_changes (r.v.rows ++ decided_changes r.applied r.done) no_rows; is = r.is.rows }

pub returns-in_ok-apply-clause-ok : goal.returns-in_ok-apply-clause-ok
returns-in_ok-apply-clause-ok g c p v applied done is named =
    let d = g.D.Disks.view c.args.disks.now in
    let e = g.D.Disks.view c.apply.new.disks in
    let x = c.args.partition.now in
    let unit = prepared_of c.args.unit in
    let dev = pages_device p in
    let sides = v.log.header.sides in
    let t : Tables = with_changes (v.rows ++ decided_changes applied done) no_rows in
    let decided = named ∙ c.if-is_decided.true in
    let made : IsRowStore e c.apply.new.self dev sides (with_changes c.as_slice.result.now t) = c.in_ok-apply.ensures.rows dev sides t is.rows in
    let rows = subst (λ k. IsRowStore e c.apply.new.self dev sides k) (ap (λ (cs : List Change). with_changes cs t) c.as_slice.ensures.value ∙ sym (done_rows applied v done unit decided)) made in
    written d e x _ p v applied done is (subst (λ k. KeepsOthers k d e None) is.rows.is.device c.in_ok-apply.ensures.others)
    (c.apply.ensures.images dev sides t is.rows) (λ told. c.in_ok-apply.ensures.named dev sides t is.rows told)
    applied (done ++ unit ∷ []) refl refl refl refl (last_gone applied done unit None decided) rows

pub returns-else-is_decided-clause-ok : goal.returns-else-is_decided-clause-ok
returns-else-is_decided-clause-ok g c p v applied done is named = undone (g.D.Disks.view c.args.disks.now) c.args.partition.now p v applied done is c.args.unit (named ∙ c.if-is_decided.false)

pub returns-in_ok-apply-clause-pages : goal.returns-in_ok-apply-clause-pages
returns-in_ok-apply-clause-pages g c p v applied done is named told =
    let e = g.D.Disks.view c.apply.new.disks in
    let t : Tables = with_changes (v.rows ++ decided_changes applied done) no_rows in
    subst (λ (cs : List Change). IsWithin (page_count c.args.partition.now) (bytes_of_entries t.list + bytes_of_changes cs) (Rattle.salt_rows.specs.Stores.page_count c.apply.new.self)) (c.as_slice.ensures.value ∙ sym (ap (λ b. changes_if b c.args.unit.changes.items) c.if-is_decided.true))
    (c.apply.ensures.pages (pages_device p) v.log.header.sides t is.rows told)

pub returns-else-is_decided-clause-pages : goal.returns-else-is_decided-clause-pages
returns-else-is_decided-clause-pages g c p v applied done is named told = omega arith

-- WHAT IT WRITES, whatever it answers

pub returns-in_ok-apply-clause-images : goal.returns-in_ok-apply-clause-images
returns-in_ok-apply-clause-images g c p v applied done is =
    let d = g.D.Disks.view c.args.disks.now in
    let e = g.D.Disks.view c.apply.new.disks in
    let sides = v.log.header.sides in
    let t : Tables = with_changes (v.rows ++ decided_changes applied done) no_rows in
    subst (λ (n : ℕ). KeepsNamed sides d e (pages_device n)) (sym is.part) (c.apply.ensures.images (pages_device p) sides t is.rows)

pub returns-in_err-apply-clause-images : goal.returns-in_err-apply-clause-images
returns-in_err-apply-clause-images g c p v applied done is =
    let d = g.D.Disks.view c.args.disks.now in
    let e = g.D.Disks.view c.apply.new.disks in
    let sides = v.log.header.sides in
    let t : Tables = with_changes (v.rows ++ decided_changes applied done) no_rows in
    subst (λ (n : ℕ). KeepsNamed sides d e (pages_device n)) (sym is.part) (c.apply.ensures.images (pages_device p) sides t is.rows)

pub returns-in_err-apply-clause-pages : goal.returns-in_err-apply-clause-pages
returns-in_err-apply-clause-pages g c p v applied done is named told =
    let e = g.D.Disks.view c.apply.new.disks in
    let t : Tables = with_changes (v.rows ++ decided_changes applied done) no_rows in
    subst (λ (cs : List Change). IsWithin (page_count c.args.partition.now) (bytes_of_entries t.list + bytes_of_changes cs) (Rattle.salt_rows.specs.Stores.page_count c.apply.new.self)) (c.as_slice.ensures.value ∙ sym (ap (λ b. changes_if b c.args.unit.changes.items) c.if-is_decided.true))
    (c.apply.ensures.pages (pages_device p) v.log.header.sides t is.rows told)
