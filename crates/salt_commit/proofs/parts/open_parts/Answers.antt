use Rattle.law_definitions.specs.Texts.{definition_in}
use Rattle.salt_commit.proofs.Beginning.{open_answer}
use Rattle.salt_commit.proofs.Opened.{full_under, no_refusal, of_a_log, opens_all, redone_others, refuses_fail, stand_on, stops_fail, were_read, wrote_spare}
use Rattle.salt_commit.proofs.Opening.{nothing}
use Rattle.salt_commit.proofs.Paired.{err_of_pair, pair_answer}
use Rattle.salt_commit.proofs.Restarted.{only_fails_full}
use Rattle.salt_commit.proofs.parts.open_parts.Goals as goal
use Rattle.salt_disk.proofs.CallAfterCall.{cause_on}
use Rattle.salt_disk.specs.Disks.{KeepsAll}
use Rattle.salt_parts.specs.Openings.{HaveUnits, IsPagesOf, decided_in}
use Rattle.std.proofs.Common.{None, Some, ap, inl, inr, length, subst, sym, ◌∙◌}
use Rattle.std.proofs.lemmas.Result.{err_from_is_err_and}

pub read_all-requires-clause-ruled : goal.read_all-requires-clause-ruled
read_all-requires-clause-ruled g c = c.in_ok-ruling.ensures.size

pub redo_all-requires-clause-stand : goal.redo_all-requires-clause-stand
redo_all-requires-clause-stand g c =
    let k = c.requires.log in
    let own = of_a_log k.0 in
    were_read c.args.schema.now c.args.shape c.args.shape.parts (g.D.Disks.view c.args.disks.now) (g.D.Disks.view c.read_all.new.disks) own c.in_ok-read.read.items (c.in_ok-read.ensures.reads definition_in own (c.in_ok-ruling.ensures.is k.0 k.1))

pub redo_all-requires-clause-ruled : goal.redo_all-requires-clause-ruled
redo_all-requires-clause-ruled g c =
    let k = c.requires.log in
    let own = of_a_log k.0 in
    ap length c.as_slice.ensures.value ∙ c.in_ok-ruling.ensures.size ∙ sym (c.in_ok-read.ensures.reads definition_in own (c.in_ok-ruling.ensures.is k.0 k.1)).size

-- ONE IS REFUSED, before anything is written

pub returns-in_err-read-clause-why : goal.returns-in_err-read-clause-why
returns-in_err-read-clause-why g c c' k has told =
    let p = err_from_is_err_and c.from_residual-in_err-read.result c.from_residual-in_err-read.ensures.1 in
    rw (p.1, p.2) (refuses_fail c' (g.D.Disks.view c.args.disks.now).bytes c.args.shape.parts c.in_err-read.field-0.0 (c.in_err-read.ensures.why definition_in c' (c.in_ok-ruling.ensures.is c'.log k) has told))

pub returns-in_err-read-clause-wrote : goal.returns-in_err-read-clause-wrote
returns-in_err-read-clause-wrote g c c' k has told =
    let p = err_from_is_err_and c.from_residual-in_err-read.result c.from_residual-in_err-read.ensures.1 in
    rw (pair_answer c.from_residual-in_err-read.result p.0 c.in_err-read.field-0.0 p.1 p.2) (inl c.in_err-read.ensures.kept)

pub returns-in_err-read-clause-refused : goal.returns-in_err-read-clause-refused
returns-in_err-read-clause-refused g c =
    let p = err_from_is_err_and c.from_residual-in_err-read.result c.from_residual-in_err-read.ensures.1 in
    rw (p.1, p.2) (λ refused. subst (KeepsAll (g.D.Disks.view c.args.disks.now) (g.D.Disks.view c.read_all.new.disks)) (sym (err_of_pair c.in_err-read.field-0.0)) c.in_err-read.ensures.kept)

pub returns-in_err-read-clause-others : goal.returns-in_err-read-clause-others
returns-in_err-read-clause-others g c =
    let p = err_from_is_err_and c.from_residual-in_err-read.result c.from_residual-in_err-read.ensures.1 in
    rw (pair_answer c.from_residual-in_err-read.result p.0 c.in_err-read.field-0.0 p.1 p.2) (nothing (IsPagesOf c.args.shape.parts) (g.D.Disks.view c.args.disks.now) (g.D.Disks.view c.read_all.new.disks) _ c.in_err-read.ensures.kept)

pub returns-in_err-read-clause-cause : goal.returns-in_err-read-clause-cause
returns-in_err-read-clause-cause g c =
    let p = err_from_is_err_and c.from_residual-in_err-read.result c.from_residual-in_err-read.ensures.1 in
    rw (pair_answer c.from_residual-in_err-read.result p.0 c.in_err-read.field-0.0 p.1 p.2) c.in_err-read.ensures.cause

pub returns-in_err-read-clause-full : goal.returns-in_err-read-clause-full
returns-in_err-read-clause-full g c c' k has told =
    let p = err_from_is_err_and c.from_residual-in_err-read.result c.from_residual-in_err-read.ensures.1 in
    rw (pair_answer c.from_residual-in_err-read.result p.0 c.in_err-read.field-0.0 p.1 p.2) (only_fails_full _ _ c.in_err-read.ensures.answers)

-- ALL ARE READ, and a call of the disks fails as their units are applied

pub returns-in_err-redo_all-clause-why : goal.returns-in_err-redo_all-clause-why
returns-in_err-redo_all-clause-why g c c' k has told =
    let d = g.D.Disks.view c.args.disks.now in
    let reads = c.in_ok-read.ensures.reads definition_in c' (c.in_ok-ruling.ensures.is c'.log k) in
    let p = err_from_is_err_and c.from_residual-in_err-redo_all.result c.from_residual-in_err-redo_all.ensures.1 in
    rw (p.1, p.2) (stops_fail c' d.bytes c.args.shape.parts reads.view (stand_on c.args.schema.now c.args.shape c.args.shape.parts d (g.D.Disks.view c.read_all.new.disks) c' c.in_ok-read.read.items reads told has) c.in_err-redo_all.field-0.0)

pub returns-in_err-redo_all-clause-wrote : goal.returns-in_err-redo_all-clause-wrote
returns-in_err-redo_all-clause-wrote g c c' k has told =
    let d = g.D.Disks.view c.args.disks.now in
    let e = g.D.Disks.view c.read_all.new.disks in
    let reads = c.in_ok-read.ensures.reads definition_in c' (c.in_ok-ruling.ensures.is c'.log k) in
    inr (wrote_spare d e (g.D.Disks.view c.redo_all.new.disks) c' c.args.shape.parts (length c.in_ok-read.read.items) reads.view c.in_ok-read.ensures.kept reads.size
    (stand_on c.args.schema.now c.args.shape c.args.shape.parts d e c' c.in_ok-read.read.items reads told has) (c.redo_all.ensures.images reads.view reads.are))

pub returns-in_err-redo_all-clause-refused : goal.returns-in_err-redo_all-clause-refused
returns-in_err-redo_all-clause-refused g c =
    let p = err_from_is_err_and c.from_residual-in_err-redo_all.result c.from_residual-in_err-redo_all.ensures.1 in
    rw (p.1, p.2) (λ refused. absurd (no_refusal c.in_err-redo_all.field-0.0 refused))

pub returns-in_err-redo_all-clause-others : goal.returns-in_err-redo_all-clause-others
returns-in_err-redo_all-clause-others g c =
    let k = c.requires.log in
    let reads = c.in_ok-read.ensures.reads definition_in (of_a_log k.0) (c.in_ok-ruling.ensures.is k.0 k.1) in
    let p = err_from_is_err_and c.from_residual-in_err-redo_all.result c.from_residual-in_err-redo_all.ensures.1 in
    rw (open_answer c.from_residual-in_err-redo_all.result p.0 c.in_err-redo_all.field-0.0 p.1 p.2)
    (redone_others (g.D.Disks.view c.args.disks.now) (g.D.Disks.view c.read_all.new.disks) (g.D.Disks.view c.redo_all.new.disks) c.args.shape.parts (length c.in_ok-read.read.items) _ c.in_ok-read.ensures.kept reads.size c.in_err-redo_all.ensures.others)

pub returns-in_err-redo_all-clause-cause : goal.returns-in_err-redo_all-clause-cause
returns-in_err-redo_all-clause-cause g c =
    let p = err_from_is_err_and c.from_residual-in_err-redo_all.result c.from_residual-in_err-redo_all.ensures.1 in
    rw (open_answer c.from_residual-in_err-redo_all.result p.0 c.in_err-redo_all.field-0.0 p.1 p.2)
    (cause_on (g.D.Disks.view c.args.disks.now) (g.D.Disks.view c.read_all.new.disks) (g.D.Disks.view c.redo_all.new.disks) _ c.in_ok-read.ensures.cause c.in_err-redo_all.ensures.cause)

pub returns-in_err-redo_all-clause-full : goal.returns-in_err-redo_all-clause-full
returns-in_err-redo_all-clause-full g c c' k has told =
    let d = g.D.Disks.view c.args.disks.now in
    let e = g.D.Disks.view c.read_all.new.disks in
    let ruling = c.in_ok-ruling.ensures.is c'.log k in
    let reads = c.in_ok-read.ensures.reads definition_in c' ruling in
    let keeps = c.in_ok-read.ensures.kept in
    let p = err_from_is_err_and c.from_residual-in_err-redo_all.result c.from_residual-in_err-redo_all.ensures.1 in
    rw (open_answer c.from_residual-in_err-redo_all.result p.0 c.in_err-redo_all.field-0.0 p.1 p.2)
    (full_under d e (g.D.Disks.view c.redo_all.new.disks) c' c.args.shape.parts (length c.in_ok-read.read.items) reads.view keeps reads.size
    (stand_on c.args.schema.now c.args.shape c.args.shape.parts d e c' c.in_ok-read.read.items reads told has) (Some c.in_err-redo_all.field-0.0)
    (c.in_err-redo_all.ensures.full reads.view (decided_in c'.log) reads.are (subst (λ xs. HaveUnits xs (decided_in c'.log)) (sym c.as_slice.ensures.value) ruling.decided) (keeps.shape.told ∙ told)))

-- ALL ARE OPENED

pub returns-clause-opens : goal.returns-clause-opens
returns-clause-opens g c c' k =
    let ruling = c.in_ok-ruling.ensures.is c'.log k in
    let reads = c.in_ok-read.ensures.reads definition_in c' ruling in
    let made = c.in_ok-redo_all.ensures.ok reads.view (decided_in c'.log) reads.are (subst (λ xs. HaveUnits xs (decided_in c'.log)) (sym c.as_slice.ensures.value) ruling.decided) in
    opens_all c.args.schema.now c.args.shape c.args.shape.parts (g.D.Disks.view c.args.disks.now) (g.D.Disks.view c.read_all.new.disks) c' c.in_ok-read.read.items reads (g.D.Disks.view c.redo_all.new.disks) c.in_ok-redo_all.field-0.items made.0 made.1

pub returns-clause-wrote : goal.returns-clause-wrote
returns-clause-wrote g c c' k has told =
    let d = g.D.Disks.view c.args.disks.now in
    let e = g.D.Disks.view c.read_all.new.disks in
    let reads = c.in_ok-read.ensures.reads definition_in c' (c.in_ok-ruling.ensures.is c'.log k) in
    inr (wrote_spare d e (g.D.Disks.view c.redo_all.new.disks) c' c.args.shape.parts (length c.in_ok-read.read.items) reads.view c.in_ok-read.ensures.kept reads.size
    (stand_on c.args.schema.now c.args.shape c.args.shape.parts d e c' c.in_ok-read.read.items reads told has) (c.redo_all.ensures.images reads.view reads.are))

pub returns-clause-others : goal.returns-clause-others
returns-clause-others g c =
    let k = c.requires.log in
    let reads = c.in_ok-read.ensures.reads definition_in (of_a_log k.0) (c.in_ok-ruling.ensures.is k.0 k.1) in
    redone_others (g.D.Disks.view c.args.disks.now) (g.D.Disks.view c.read_all.new.disks) (g.D.Disks.view c.redo_all.new.disks) c.args.shape.parts (length c.in_ok-read.read.items) None c.in_ok-read.ensures.kept reads.size c.in_ok-redo_all.ensures.others

pub returns-clause-cause : goal.returns-clause-cause
returns-clause-cause g c = cause_on (g.D.Disks.view c.args.disks.now) (g.D.Disks.view c.read_all.new.disks) (g.D.Disks.view c.redo_all.new.disks) None c.in_ok-read.ensures.cause c.in_ok-redo_all.ensures.cause
