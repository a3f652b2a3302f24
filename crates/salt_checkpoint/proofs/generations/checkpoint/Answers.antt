use Rattle.salt_checkpoint.proofs.Calls.{IsSynced, IsWriting, after_ready, beginning, beginning_stands, creating, other_no_page, syncing, syncs, writing, writing_stands}
use Rattle.salt_checkpoint.proofs.Limits.{full_at, full_never, full_only, full_other, full_pages, not_full}
use Rattle.salt_checkpoint.proofs.generations.checkpoint.Goals as goal
use Rattle.salt_checkpoint.specs.Sides.{all_written, writes_end}
use Rattle.salt_disk.proofs.CallAfterCall.{keeps_on, keeps_wider, shape_goes_on}
use Rattle.salt_disk.specs.Disks.{EachImage, IsSettled, KeepsBut, KeepsOthers}
use Rattle.salt_disk.specs.declared.disks.DiskErr.TheVariants.{Full}
use Rattle.salt_bytes.specs.Log.{entries_in}
use Rattle.salt_gatelog.specs.Log.{IsBeforeOrWith}
use Rattle.salt_checkpoint.proofs.Calls.{log_bytes}
use Rattle.salt_stands.specs.Partition.{pages_device}
use Rattle.std.proofs.Common.{None, Some, [], ap, arith, inl, inr, length, refl, subst, sym, ◌+◌, ◌≡◌, ◌≢◌, ◌⊎◌, ◌∙◌, ◌∷◌, ℕ}
use Rattle.std.proofs.lemmas.Result.{err_from_is_err_and}
use Rattle.std.specs.Result.{result_err}

pub returns-in_err-write_all-clause-images : goal.returns-in_err-write_all-clause-images
returns-in_err-write_all-clause-images g c r which k v format sides rows told ready below is_other next =
    let d0 = g.D.Disks.view c.args.disks.now in
    let d1 = g.D.Disks.view c.write_all.new.disks in
    let ws = c.args.writes.now in
    let wrote = subst (λ dev. IsWriting d0 d1 dev ws) c.pages_of-pages.ensures (writing d0 d1 (result_err c.write_all.result) c.pages_of-pages.result ws c.write_all.ensures.others c.write_all.ensures.images) in
    writing_stands r d0 which k v ready c.args.part below c.args.other is_other c.requires.settled ws next.spare d1 wrote

pub returns-in_err-sync-clause-images : goal.returns-in_err-sync-clause-images
returns-in_err-sync-clause-images g c r which k v format sides rows told ready below is_other next =
    let d0 = g.D.Disks.view c.args.disks.now in
    let d1 = g.D.Disks.view c.write_all.new.disks in
    let d2 = g.D.Disks.view c.sync.new.self in
    let ws = c.args.writes.now in
    let dev = c.pages_of-pages.result in
    let wrote = writing d0 d1 (result_err c.write_all.result) dev ws c.write_all.ensures.others c.write_all.ensures.images in
    let synced = subst (λ dev. IsWriting d0 d2 dev ws) c.pages_of-pages.ensures (syncing d0 d1 d2 (result_err c.sync.result) dev ws wrote c.sync.ensures.others c.sync.ensures.images) in
    writing_stands r d0 which k v ready c.args.part below c.args.other is_other c.requires.settled ws next.spare d2 synced

pub returns-in_err-log-clause-images : goal.returns-in_err-log-clause-images
returns-in_err-log-clause-images g c r which k v format sides rows told ready below is_other next =
    let d0 = g.D.Disks.view c.args.disks.now in
    let d1 = g.D.Disks.view c.write_all.new.disks in
    let d2 = g.D.Disks.view c.sync.new.self in
    let d3 = g.D.Disks.view c.create.new.disks in
    let ws = c.args.writes.now in
    let header = c.args.header.now in
    let p = c.args.part in
    let other = c.args.other in
    let apart : other ≢ pages_device p = other_no_page p other c.requires.other in
    let synced : IsSynced d0 d2 (pages_device p) ws = subst (λ dev. IsSynced d0 d2 dev ws) c.pages_of-pages.ensures (syncs d0 d1 d2 c.pages_of-pages.result ws
    c.in_ok-write_all.ensures.others c.write_all.ensures.images c.in_ok-write_all.ensures.bytes c.in_ok-sync.ensures.others c.sync.ensures.images c.in_ok-sync.ensures.ok c.in_ok-sync.ensures.bytes) in
    let created = creating d0 d2 d3 (result_err c.create.result) (pages_device p) other ws header apart synced c.create.ensures.others c.create.ensures.images in
    beginning_stands r d0 which k v ready told p below other is_other c.requires.settled ws header format sides rows next (c.requires.place told) d3 created

pub returns-in_err-append-clause-images : goal.returns-in_err-append-clause-images
returns-in_err-append-clause-images g c r which k v format sides rows told ready below is_other next =
    let d0 = g.D.Disks.view c.args.disks.now in
    let d1 = g.D.Disks.view c.write_all.new.disks in
    let d2 = g.D.Disks.view c.sync.new.self in
    let d3 = g.D.Disks.view c.create.new.disks in
    let ws = c.args.writes.now in
    let header = c.args.header.now in
    let p = c.args.part in
    let other = c.args.other in
    let apart : other ≢ pages_device p = other_no_page p other c.requires.other in
    let synced : IsSynced d0 d2 (pages_device p) ws = subst (λ dev. IsSynced d0 d2 dev ws) c.pages_of-pages.ensures (syncs d0 d1 d2 c.pages_of-pages.result ws
    c.in_ok-write_all.ensures.others c.write_all.ensures.images c.in_ok-write_all.ensures.bytes c.in_ok-sync.ensures.others c.sync.ensures.images c.in_ok-sync.ensures.ok c.in_ok-sync.ensures.bytes) in
    let d4 = g.D.Disks.view c.append.new.disks in
    let created = creating d0 d2 d3 None (pages_device p) other ws header apart synced c.in_ok-log.ensures.others c.create.ensures.images in
    let device : c.in_ok-log.log.dev ≡ other = c.in_ok-log.ensures.log.0 in
    let begun = beginning d0 d3 d4 (result_err c.append.result) (pages_device p) other ws header apart created
    (subst (λ dev. KeepsOthers dev d3 d4 (result_err c.append.result)) device c.append.ensures.others)
    (subst (λ dev. EachImage d4 dev (IsBeforeOrWith [] header)) device (c.append.ensures.images [] c.in_ok-log.ensures.log.1)) in
    beginning_stands r d0 which k v ready told p below other is_other c.requires.settled ws header format sides rows next (c.requires.place told) d4 begun

pub returns-clause-images : goal.returns-clause-images
returns-clause-images g c r which k v format sides rows told ready below is_other next =
    let d0 = g.D.Disks.view c.args.disks.now in
    let d1 = g.D.Disks.view c.write_all.new.disks in
    let d2 = g.D.Disks.view c.sync.new.self in
    let d3 = g.D.Disks.view c.create.new.disks in
    let ws = c.args.writes.now in
    let header = c.args.header.now in
    let p = c.args.part in
    let other = c.args.other in
    let apart : other ≢ pages_device p = other_no_page p other c.requires.other in
    let synced : IsSynced d0 d2 (pages_device p) ws = subst (λ dev. IsSynced d0 d2 dev ws) c.pages_of-pages.ensures (syncs d0 d1 d2 c.pages_of-pages.result ws
    c.in_ok-write_all.ensures.others c.write_all.ensures.images c.in_ok-write_all.ensures.bytes c.in_ok-sync.ensures.others c.sync.ensures.images c.in_ok-sync.ensures.ok c.in_ok-sync.ensures.bytes) in
    let d4 = g.D.Disks.view c.append.new.disks in
    let created = creating d0 d2 d3 None (pages_device p) other ws header apart synced c.in_ok-log.ensures.others c.create.ensures.images in
    let device : c.in_ok-log.log.dev ≡ other = c.in_ok-log.ensures.log.0 in
    let begun = beginning d0 d3 d4 (result_err c.append.result) (pages_device p) other ws header apart created
    (subst (λ dev. KeepsOthers dev d3 d4 (result_err c.append.result)) device c.append.ensures.others)
    (subst (λ dev. EachImage d4 dev (IsBeforeOrWith [] header)) device (c.append.ensures.images [] c.in_ok-log.ensures.log.1)) in
    beginning_stands r d0 which k v ready told p below other is_other c.requires.settled ws header format sides rows next (c.requires.place told) d4 begun

pub returns-clause-ok : goal.returns-clause-ok
returns-clause-ok g c r which k v format sides rows told ready below is_other next =
    let d0 = g.D.Disks.view c.args.disks.now in
    let d1 = g.D.Disks.view c.write_all.new.disks in
    let d2 = g.D.Disks.view c.sync.new.self in
    let d3 = g.D.Disks.view c.create.new.disks in
    let ws = c.args.writes.now in
    let header = c.args.header.now in
    let p = c.args.part in
    let other = c.args.other in
    let apart : other ≢ pages_device p = other_no_page p other c.requires.other in
    let synced : IsSynced d0 d2 (pages_device p) ws = subst (λ dev. IsSynced d0 d2 dev ws) c.pages_of-pages.ensures (syncs d0 d1 d2 c.pages_of-pages.result ws
    c.in_ok-write_all.ensures.others c.write_all.ensures.images c.in_ok-write_all.ensures.bytes c.in_ok-sync.ensures.others c.sync.ensures.images c.in_ok-sync.ensures.ok c.in_ok-sync.ensures.bytes) in
    let d4 = g.D.Disks.view c.append.new.disks in
    let created = creating d0 d2 d3 None (pages_device p) other ws header apart synced c.in_ok-log.ensures.others c.create.ensures.images in
    let device : c.in_ok-log.log.dev ≡ other = c.in_ok-log.ensures.log.0 in
    let begun = beginning d0 d3 d4 (result_err c.append.result) (pages_device p) other ws header apart created
    (subst (λ dev. KeepsOthers dev d3 d4 (result_err c.append.result)) device c.append.ensures.others)
    (subst (λ dev. EachImage d4 dev (IsBeforeOrWith [] header)) device (c.append.ensures.images [] c.in_ok-log.ensures.log.1)) in
    let is_log = c.in_ok-append.ensures.ok [] c.in_ok-log.ensures.log.1 in
    let device' : c.append.new.self.dev ≡ other = c.append.ensures.device ∙ device in
    let fourth : KeepsOthers other d3 d4 None = subst (λ dev. KeepsOthers dev d3 d4 None) device c.in_ok-append.ensures.others in
    let third : KeepsOthers other d2 d3 None = c.in_ok-log.ensures.others in
    after_ready r d0 which k v ready told p below other is_other c.requires.settled ws header format sides rows next (c.requires.place told) d4 begun
    (subst (λ dev. IsSettled d4 dev) device' is_log.settled)
    (ap (λ dev. entries_in (d4.bytes dev)) (sym device') ∙ log_bytes d4 c.append.new.self (header ∷ []) (fourth.shape.told ∙ third.shape.told ∙ synced.is.shape.told ∙ told) is_log)
    ((fourth.kept (pages_device p) (λ e. apart (sym e))).bytes ∙ (third.kept (pages_device p) (λ e. apart (sym e))).bytes ∙ synced.bytes told)
    (λ dev no_pages no_other. (fourth.kept dev no_other).bytes ∙ (third.kept dev no_other).bytes ∙ synced.kept dev no_pages)

pub returns-clause-others : goal.returns-clause-others
returns-clause-others g c =
    let d0 = g.D.Disks.view c.args.disks.now in
    let d1 = g.D.Disks.view c.write_all.new.disks in
    let d2 = g.D.Disks.view c.sync.new.self in
    let d3 = g.D.Disks.view c.create.new.disks in
    let d4 = g.D.Disks.view c.append.new.disks in
    let p = c.args.part in
    let other = c.args.other in
    let touched : ℕ → Type 0 = λ dev. (dev ≡ pages_device p) ⊎ (dev ≡ other) in
    let first : KeepsBut touched d0 d1 None = keeps_wider (λ dev. dev ≡ c.pages_of-pages.result) touched d0 d1 None (λ dev e. inl (e ∙ c.pages_of-pages.ensures)) c.in_ok-write_all.ensures.others in
    let second : KeepsBut touched d1 d2 None = keeps_wider (λ dev. dev ≡ c.pages_of-pages.result) touched d1 d2 None (λ dev e. inl (e ∙ c.pages_of-pages.ensures)) c.in_ok-sync.ensures.others in
    let third : KeepsBut touched d2 d3 None = keeps_wider (λ dev. dev ≡ other) touched d2 d3 None (λ dev e. inr e) c.in_ok-log.ensures.others in
    let fourth : KeepsBut touched d3 d4 None = keeps_wider (λ dev. dev ≡ c.in_ok-log.log.dev) touched d3 d4 None (λ dev e. inr (e ∙ c.in_ok-log.ensures.log.0)) c.in_ok-append.ensures.others in
    keeps_on touched d0 d3 d4 None (keeps_on touched d0 d2 d3 None (keeps_on touched d0 d1 d2 None first second) third) fourth

-- WHAT IT LEAVES of the devices

pub returns-clause-device : goal.returns-clause-device
returns-clause-device g c = c.append.ensures.device ∙ c.in_ok-log.ensures.log.0

pub returns-clause-bytes : goal.returns-clause-bytes
returns-clause-bytes g c told =
    let d1 = g.D.Disks.view c.write_all.new.disks in
    let d2 = g.D.Disks.view c.sync.new.self in
    let d0 = g.D.Disks.view c.args.disks.now in
    let pages = pages_device c.args.part in
    let apart : pages ≢ c.args.other = λ e. other_no_page c.args.part c.args.other c.requires.other (sym e) in
    let synced : d2.bytes pages ≡ all_written c.args.writes.now (d0.bytes pages) =
    subst (λ dev. d2.bytes dev ≡ all_written c.args.writes.now (d0.bytes dev)) c.pages_of-pages.ensures (c.in_ok-sync.ensures.bytes ∙ c.in_ok-write_all.ensures.bytes told) in
    (c.in_ok-append.ensures.others.kept pages (λ e. apart (e ∙ c.in_ok-log.ensures.log.0))).bytes ∙ (c.in_ok-log.ensures.others.kept pages apart).bytes ∙ synced

pub returns-in_err-write_all-clause-written : goal.returns-in_err-write_all-clause-written
returns-in_err-write_all-clause-written g c dev is told =
    let p = err_from_is_err_and c.from_residual.result c.from_residual.ensures.1 in
    let d0 = g.D.Disks.view c.args.disks.now in
    let pages = c.pages_of-pages.result in
    let full : c.in_err-write_all.field-0.0 ≡ Full dev = cc (is, p.1, p.2) in
    inl (full_at pages (d0.limit pages) (writes_end c.args.writes.now) dev c.in_err-write_all.field-0.0 full c.in_err-write_all.ensures.full ∙ c.pages_of-pages.ensures)

pub returns-in_err-sync-clause-written : goal.returns-in_err-sync-clause-written
returns-in_err-sync-clause-written g c dev is told =
    let p = err_from_is_err_and c.from_residual-in_err-sync.result c.from_residual-in_err-sync.ensures.1 in
    let full : c.in_err-sync.field-0.0 ≡ Full dev = cc (is, p.1, p.2) in
    absurd (not_full dev c.in_err-sync.field-0.0 full c.in_err-sync.ensures.answers)

pub returns-in_err-log-clause-written : goal.returns-in_err-log-clause-written
returns-in_err-log-clause-written g c dev is told =
    let p = err_from_is_err_and c.from_residual-in_err-log.result c.from_residual-in_err-log.ensures.1 in
    let full : c.in_err-log.field-0.0 ≡ Full dev = cc (is, p.1, p.2) in
    let d2 = g.D.Disks.view c.sync.new.self in
    let d3 = g.D.Disks.view c.create.new.disks in
    let others : KeepsOthers c.args.other d2 d3 (Some (Full dev)) = subst (λ k. KeepsOthers c.args.other d2 d3 (Some k)) full c.in_err-log.ensures.others in
    let d0 = g.D.Disks.view c.args.disks.now in
    let pages = pages_device c.args.part in
    let apart : pages ≢ c.args.other = λ e. other_no_page c.args.part c.args.other c.requires.other (sym e) in
    let synced : d2.bytes pages ≡ all_written c.args.writes.now (d0.bytes pages) =
    subst (λ dev. d2.bytes dev ≡ all_written c.args.writes.now (d0.bytes dev)) c.pages_of-pages.ensures (c.in_ok-sync.ensures.bytes ∙ c.in_ok-write_all.ensures.bytes told) in
    inr ((others.kept pages apart).bytes ∙ synced)

pub returns-in_err-append-clause-written : goal.returns-in_err-append-clause-written
returns-in_err-append-clause-written g c dev is told =
    let p = err_from_is_err_and c.from_residual-in_err-append.result c.from_residual-in_err-append.ensures.1 in
    let full : c.in_err-append.field-0.0 ≡ Full dev = cc (is, p.1, p.2) in
    let d2 = g.D.Disks.view c.sync.new.self in
    let d3 = g.D.Disks.view c.create.new.disks in
    let d4 = g.D.Disks.view c.append.new.disks in
    let others : KeepsOthers c.in_ok-log.log.dev d3 d4 (Some (Full dev)) = subst (λ k. KeepsOthers c.in_ok-log.log.dev d3 d4 (Some k)) full c.in_err-append.ensures.others in
    let d0 = g.D.Disks.view c.args.disks.now in
    let pages = pages_device c.args.part in
    let apart : pages ≢ c.args.other = λ e. other_no_page c.args.part c.args.other c.requires.other (sym e) in
    let synced : d2.bytes pages ≡ all_written c.args.writes.now (d0.bytes pages) =
    subst (λ dev. d2.bytes dev ≡ all_written c.args.writes.now (d0.bytes dev)) c.pages_of-pages.ensures (c.in_ok-sync.ensures.bytes ∙ c.in_ok-write_all.ensures.bytes told) in
    inr ((others.kept pages (λ e. apart (e ∙ c.in_ok-log.ensures.log.0))).bytes ∙ (c.in_ok-log.ensures.others.kept pages apart).bytes ∙ synced)

pub returns-clause-stable : goal.returns-clause-stable
returns-clause-stable g c =
    let d2 = g.D.Disks.view c.sync.new.self in
    let pages = pages_device c.args.part in
    let apart : pages ≢ c.args.other = λ e. other_no_page c.args.part c.args.other c.requires.other (sym e) in
    let third = c.in_ok-log.ensures.others.kept pages apart in
    let fourth = c.in_ok-append.ensures.others.kept pages (λ e. apart (e ∙ c.in_ok-log.ensures.log.0)) in
    let settled : IsSettled d2 pages = subst (IsSettled d2) c.pages_of-pages.ensures c.in_ok-sync.ensures.ok in
    λ image left. settled image (third.images image (fourth.images image left)) ∙ sym third.bytes ∙ sym fourth.bytes

-- WHERE IT IS FULL

pub returns-in_err-write_all-clause-full : goal.returns-in_err-write_all-clause-full
returns-in_err-write_all-clause-full g c =
    let d0 = g.D.Disks.view c.args.disks.now in
    let p = err_from_is_err_and c.from_residual.result c.from_residual.ensures.1 in
    rw (p.1, p.2) (full_pages d0 (pages_device c.args.part) c.args.other c.args.writes.now (length c.args.header.now) c.pages_of-pages.result c.in_err-write_all.field-0.0 c.pages_of-pages.ensures c.in_err-write_all.ensures.full)

pub returns-in_err-sync-clause-full : goal.returns-in_err-sync-clause-full
returns-in_err-sync-clause-full g c =
    let d0 = g.D.Disks.view c.args.disks.now in
    let p = err_from_is_err_and c.from_residual-in_err-sync.result c.from_residual-in_err-sync.ensures.1 in
    rw (p.1, p.2) (full_never d0 (pages_device c.args.part) c.args.other c.args.writes.now (length c.args.header.now) c.in_err-sync.field-0.0 c.in_err-sync.ensures.answers)

pub returns-in_err-log-clause-full : goal.returns-in_err-log-clause-full
returns-in_err-log-clause-full g c =
    let d0 = g.D.Disks.view c.args.disks.now in
    let d1 = g.D.Disks.view c.write_all.new.disks in
    let d2 = g.D.Disks.view c.sync.new.self in
    let shape = shape_goes_on d0 d1 d2 c.in_ok-write_all.ensures.others.shape c.in_ok-sync.ensures.others.shape in
    let p = err_from_is_err_and c.from_residual-in_err-log.result c.from_residual-in_err-log.ensures.1 in
    rw (p.1, p.2) (full_other d0 (pages_device c.args.part) c.args.other c.args.writes.now (length c.args.header.now) d2 c.args.other 1 c.in_err-log.field-0.0 shape refl (omega arith) c.in_err-log.ensures.full)

pub returns-in_err-append-clause-full : goal.returns-in_err-append-clause-full
returns-in_err-append-clause-full g c =
    let d0 = g.D.Disks.view c.args.disks.now in
    let d1 = g.D.Disks.view c.write_all.new.disks in
    let d2 = g.D.Disks.view c.sync.new.self in
    let d3 = g.D.Disks.view c.create.new.disks in
    let header = length c.args.header.now in
    let log = c.in_ok-log.log in
    let shape = shape_goes_on d0 d2 d3 (shape_goes_on d0 d1 d2 c.in_ok-write_all.ensures.others.shape c.in_ok-sync.ensures.others.shape) c.in_ok-log.ensures.others.shape in
    let p = err_from_is_err_and c.from_residual-in_err-append.result c.from_residual-in_err-append.ensures.1 in
    let full = full_only log.dev (d3.limit log.dev) (10 + header) (log.end + 10 + header) c.in_err-append.field-0.0 (omega (arith, c.in_ok-log.ensures.log.1.end)) c.in_err-append.ensures.full in
    rw (p.1, p.2) (full_other d0 (pages_device c.args.part) c.args.other c.args.writes.now header d3 log.dev (10 + header) c.in_err-append.field-0.0 shape c.in_ok-log.ensures.log.0 (omega arith) full)
