use Rattle.salt_checkpoint.proofs.Calls.{IsWriting, other_settled, writing, writing_stands, written_ready}
use Rattle.salt_checkpoint.proofs.applied.write_pages.Goals as goal
use Rattle.salt_checkpoint.specs.Sides.{all_written}
use Rattle.salt_disk.specs.Disks.{KeepsOthers}
use Rattle.salt_stands.specs.Coordinator.{device_of}
use Rattle.salt_stands.specs.Partition.{pages_device, part_device}
use Rattle.salt_stands.specs.Pieces.{other_log}
use Rattle.std.proofs.Common.{None, refl, subst, ◌≡◌}
use Rattle.std.specs.Result.{result_err}

pub returns-in_err-write_all-clause-images : goal.returns-in_err-write_all-clause-images
returns-in_err-write_all-clause-images g c r which k v told ready below spare =
    let d0 = g.D.Disks.view c.args.disks.now in
    let d1 = g.D.Disks.view c.write_all.new.disks in
    let ws = c.args.writes.now in
    let p = c.args.part in
    let wrote = subst (λ dev. IsWriting d0 d1 dev ws) c.pages_of-pages.ensures (writing d0 d1 (result_err c.write_all.result) c.pages_of-pages.result ws c.write_all.ensures.others c.write_all.ensures.images) in
    writing_stands r d0 which k v ready p below (device_of (part_device p) (other_log (v p).which)) refl (other_settled r d0 which k v ready p below) ws spare d1 wrote

pub returns-clause-images : goal.returns-clause-images
returns-clause-images g c r which k v told ready below spare =
    let d0 = g.D.Disks.view c.args.disks.now in
    let d1 = g.D.Disks.view c.write_all.new.disks in
    let ws = c.args.writes.now in
    let p = c.args.part in
    let wrote = subst (λ dev. IsWriting d0 d1 dev ws) c.pages_of-pages.ensures (writing d0 d1 (result_err c.write_all.result) c.pages_of-pages.result ws c.write_all.ensures.others c.write_all.ensures.images) in
    writing_stands r d0 which k v ready p below (device_of (part_device p) (other_log (v p).which)) refl (other_settled r d0 which k v ready p below) ws spare d1 wrote

pub returns-clause-ok : goal.returns-clause-ok
returns-clause-ok g c r which k v told ready below spare =
    let d0 = g.D.Disks.view c.args.disks.now in
    let d1 = g.D.Disks.view c.write_all.new.disks in
    let ws = c.args.writes.now in
    let p = c.args.part in
    let wrote = subst (λ dev. IsWriting d0 d1 dev ws) c.pages_of-pages.ensures (writing d0 d1 (result_err c.write_all.result) c.pages_of-pages.result ws c.write_all.ensures.others c.write_all.ensures.images) in
    let others : KeepsOthers (pages_device p) d0 d1 None = subst (λ dev. KeepsOthers dev d0 d1 None) c.pages_of-pages.ensures c.in_ok-write_all.ensures.others in
    let bytes : d1.bytes (pages_device p) ≡ all_written ws (d0.bytes (pages_device p)) = subst (λ dev. d1.bytes dev ≡ all_written ws (d0.bytes dev)) c.pages_of-pages.ensures (c.in_ok-write_all.ensures.bytes told) in
    written_ready r d0 which k v ready p below (device_of (part_device p) (other_log (v p).which)) refl (other_settled r d0 which k v ready p below) ws spare (c.requires.place told) d1 wrote bytes
    (λ dev apart. (others.kept dev apart).bytes)
