use Rattle.salt_disk.proofs.CallAfterCall.{cause_on, keeps_on}
use Rattle.salt_paged.specs.Openings.{found_log}
use Rattle.salt_parts.proofs.Judged.{pages_refused, part_reads}
use Rattle.salt_parts.proofs.Reading.{all_settled, still_settled}
use Rattle.salt_parts.proofs.read.read_fitting.Goals as goal
use Rattle.salt_stands.specs.Partition.{is_format_under, pages_device}
use Rattle.salt_stands.specs.PartitionLog.{PartitionLog}
use Rattle.salt_disk.specs.Disks.{IsSettled}
use Rattle.std.proofs.Common.{None, ap, subst, sym, ℕ, ◌∙◌}
use Rattle.std.proofs.lemmas.Result.{err_from_is_err_and}

pub read_pages-requires-clause-found : goal.read_pages-requires-clause-found
read_pages-requires-clause-found g c = record { p = c.args.judge.now.part; is = c.in_ok-found.ensures.found }

pub read_pages-requires-clause-named : goal.read_pages-requires-clause-named
read_pages-requires-clause-named g c told =
    let d = g.D.Disks.view c.args.disks.now in
    let e = g.D.Disks.view c.find_fitting.new.disks in
    let h = c.in_ok-found.ensures in
    all_settled (found_log c.in_ok-found.found).header.sides e (pages_device c.in_ok-found.found.part)
    (subst (λ (k : ℕ). IsSettled e (pages_device k)) (sym h.found.part) (still_settled d e (pages_device c.args.judge.now.part) h.kept c.requires.pages))

pub read_pages-requires-clause-judge : goal.read_pages-requires-clause-judge
read_pages-requires-clause-judge g c = (c.requires.callable, c.requires.answers, c.requires.parts)

-- ITS LOG IS REFUSED

pub returns-in_err-found-clause-why : goal.returns-in_err-found-clause-why
returns-in_err-found-clause-why g c read c' k has told =
    let r = err_from_is_err_and c.from_residual.result c.from_residual.ensures.1 in
    rw (r.1, r.2) (c.in_err-found.ensures.why read c' k has told)

-- ITS PAGES ARE

pub returns-in_err-partition-clause-why : goal.returns-in_err-partition-clause-why
returns-in_err-partition-clause-why g c read c' k has told =
    let judge = c.args.judge.now in
    let d = g.D.Disks.view c.args.disks.now in
    let e = g.D.Disks.view c.find_fitting.new.disks in
    let h = c.in_ok-found.ensures in
    let r = err_from_is_err_and c.from_residual-in_err-partition.result c.from_residual-in_err-partition.ensures.1 in
    rw (r.1, r.2) (pages_refused read judge.schema.now judge.shape c' judge.part d e c.in_ok-found.found h.kept h.found (h.fits read c' k) has told c.in_err-partition.field-0.0 (c.in_err-partition.ensures.why (h.kept.shape.told ∙ told)))

pub returns-in_err-partition-clause-kept : goal.returns-in_err-partition-clause-kept
returns-in_err-partition-clause-kept g c =
    let r = err_from_is_err_and c.from_residual-in_err-partition.result c.from_residual-in_err-partition.ensures.1 in
    rw (r.1, r.2) (keeps_on (λ _. ⊥) (g.D.Disks.view c.args.disks.now) (g.D.Disks.view c.find_fitting.new.disks) (g.D.Disks.view c.read_pages.new.disks) _ c.in_ok-found.ensures.kept c.in_err-partition.ensures.kept)

pub returns-in_err-partition-clause-cause : goal.returns-in_err-partition-clause-cause
returns-in_err-partition-clause-cause g c =
    let r = err_from_is_err_and c.from_residual-in_err-partition.result c.from_residual-in_err-partition.ensures.1 in
    rw (r.1, r.2) (cause_on (g.D.Disks.view c.args.disks.now) (g.D.Disks.view c.find_fitting.new.disks) (g.D.Disks.view c.read_pages.new.disks) _ c.in_ok-found.ensures.cause c.in_err-partition.ensures.cause)

-- IT IS READ

pub returns-clause-reads : goal.returns-clause-reads
returns-clause-reads g c read c' k =
    let judge = c.args.judge.now in
    let d = g.D.Disks.view c.args.disks.now in
    let e = g.D.Disks.view c.find_fitting.new.disks in
    let f = g.D.Disks.view c.read_pages.new.disks in
    let h = c.in_ok-found.ensures in
    let reads = c.in_ok-partition.ensures.reads judge.part h.found in
    let fits = h.fits read c' k in
    record {
      view = reads.view;
      is = reads.is;
      under = ap (λ (l : PartitionLog). is_format_under c'.log.header.format l.header.format) reads.log ∙ fits.under;
      stands = λ told has. part_reads read judge.schema.now judge.shape c' judge.part d e c.in_ok-found.found h.kept h.found fits has f c.in_ok-partition.partition c.in_ok-partition.ensures.kept reads told c.in_ok-partition.ensures.judged;
    }

pub returns-clause-kept : goal.returns-clause-kept
returns-clause-kept g c = keeps_on (λ _. ⊥) (g.D.Disks.view c.args.disks.now) (g.D.Disks.view c.find_fitting.new.disks) (g.D.Disks.view c.read_pages.new.disks) None c.in_ok-found.ensures.kept c.in_ok-partition.ensures.kept

pub returns-clause-cause : goal.returns-clause-cause
returns-clause-cause g c = cause_on (g.D.Disks.view c.args.disks.now) (g.D.Disks.view c.find_fitting.new.disks) (g.D.Disks.view c.read_pages.new.disks) None c.in_ok-found.ensures.cause c.in_ok-partition.ensures.cause
