use Rattle.salt_commit.proofs.Beginning.{blank_image, wider_begun}
use Rattle.salt_commit.proofs.Opening.{begun_fails, begun_full, leaves_at, map_ok, nothing, opens_at, refused_at, units_full_at}
use Rattle.salt_commit.proofs.Paired.{err_of_pair, none_found, pair_answer, peek_full, peek_refused}
use Rattle.salt_commit.proofs.open.open_store.Goals as goal
use Rattle.salt_commit.specs.Openings.{OpeningFails, OpeningPassesLimit}
use Rattle.salt_commit.specs.Stores.{IsStoreDevice, reading}
use Rattle.salt_disk.proofs.CallAfterCall.{keeps_on}
use Rattle.salt_disk.specs.Disks.{KeepsAll}
use Rattle.salt_gatelog.specs.Answers.{open_disk_err}
use Rattle.salt_parts.proofs.Reading.{same_bytes}
use Rattle.salt_stands.specs.Coordinator.{coordinator_pair}
use Rattle.salt_stands.specs.LogDevices.{IsPartLog}
use Rattle.salt_stands.specs.Stands.{logs_of}
use Rattle.std.proofs.Common.{List, ap, arith, inl, subst, sym, ℕ, ◌<◌, ◌∙◌}
use Rattle.std.proofs.lemmas.Result.{err_from_is_err_and}
use Rattle.std.specs.Prelude.{IfErr, not}

-- THE PAIR is not read

pub returns-in_err-peek-clause-images : goal.returns-in_err-peek-clause-images
returns-in_err-peek-clause-images g c told blank image left =
    let d = g.D.Disks.view c.args.disks.now in
    let a = g.D.Disks.view c.peek.new.disks in
    let known : 1 < d.count = omega (arith, c.requires.room.known 0 (omega (arith, c.requires.parts.0))) in
    blank_image reading c.args.shape d a 0 _ (nothing (IsPartLog 0) d a _ c.in_err-peek.ensures.kept) known (c.requires.room.settled 0 (omega (arith, known))) (c.requires.room.settled 1 known) blank image left

pub returns-in_err-peek-clause-err : goal.returns-in_err-peek-clause-err
returns-in_err-peek-clause-err g c told =
    let p = err_from_is_err_and c.from_residual.result c.from_residual.ensures.1 in
    rw (p.1, p.2) (peek_refused c.args.shape (g.D.Disks.view c.args.disks.now).bytes c.in_err-peek.field-0.0 (c.in_err-peek.ensures.answer told))

pub returns-in_err-peek-clause-leaves : goal.returns-in_err-peek-clause-leaves
returns-in_err-peek-clause-leaves g c told some =
    let p = err_from_is_err_and c.from_residual.result c.from_residual.ensures.1 in
    rw (pair_answer c.from_residual.result p.0 c.in_err-peek.field-0.0 p.1 p.2) (inl c.in_err-peek.ensures.kept)

pub returns-in_err-peek-clause-refused : goal.returns-in_err-peek-clause-refused
returns-in_err-peek-clause-refused g c told =
    let p = err_from_is_err_and c.from_residual.result c.from_residual.ensures.1 in
    rw (p.1, p.2) (λ is. subst (KeepsAll (g.D.Disks.view c.args.disks.now) (g.D.Disks.view c.peek.new.disks)) (sym (err_of_pair c.in_err-peek.field-0.0)) c.in_err-peek.ensures.kept)

pub returns-in_err-peek-clause-others : goal.returns-in_err-peek-clause-others
returns-in_err-peek-clause-others g c =
    let d = g.D.Disks.view c.args.disks.now in
    let a = g.D.Disks.view c.peek.new.disks in
    let p = err_from_is_err_and c.from_residual.result c.from_residual.ensures.1 in
    rw (pair_answer c.from_residual.result p.0 c.in_err-peek.field-0.0 p.1 p.2) (nothing (IsStoreDevice c.args.shape.parts) d a _ c.in_err-peek.ensures.kept)

pub returns-in_err-peek-clause-cause : goal.returns-in_err-peek-clause-cause
returns-in_err-peek-clause-cause g c =
    let p = err_from_is_err_and c.from_residual.result c.from_residual.ensures.1 in
    rw (pair_answer c.from_residual.result p.0 c.in_err-peek.field-0.0 p.1 p.2) c.in_err-peek.ensures.cause

pub returns-in_err-peek-clause-full : goal.returns-in_err-peek-clause-full
returns-in_err-peek-clause-full g c told =
    let p = err_from_is_err_and c.from_residual.result c.from_residual.ensures.1 in
    rw (pair_answer c.from_residual.result p.0 c.in_err-peek.field-0.0 p.1 p.2)
    (peek_full (OpeningPassesLimit (g.D.Disks.view c.args.disks.now) (g.D.Disks.view c.peek.new.disks) c.args.shape) (coordinator_pair (logs_of (g.D.Disks.view c.args.disks.now).bytes)) c.in_err-peek.field-0.0 (c.in_err-peek.ensures.answer told))

-- A STORE IS BEGUN

pub returns-then-is_none-clause-err : goal.returns-then-is_none-clause-err
returns-then-is_none-clause-err g c told =
    let d = g.D.Disks.view c.args.disks.now in
    let keeps = c.in_ok-peek.ensures.kept in
    begun_fails c.args.shape d.bytes c.begin_store.result (none_found c.in_ok-peek.field-0 (coordinator_pair (logs_of d.bytes)) (c.is_none.ensures ∙ ap not c.if-is_none.true) (c.in_ok-peek.ensures.answer told)) (c.begin_store.ensures.err (keeps.shape.told ∙ told))

pub returns-then-is_none-clause-others : goal.returns-then-is_none-clause-others
returns-then-is_none-clause-others g c =
    let d = g.D.Disks.view c.args.disks.now in
    let a = g.D.Disks.view c.peek.new.disks in
    let b = g.D.Disks.view c.begin_store.new.disks in
    keeps_on (IsStoreDevice c.args.shape.parts) d a b _ (nothing (IsStoreDevice c.args.shape.parts) d a _ c.in_ok-peek.ensures.kept) (wider_begun c.args.shape.parts a b _ c.begin_store.ensures.others)

pub returns-then-is_none-clause-full : goal.returns-then-is_none-clause-full
returns-then-is_none-clause-full g c told =
    begun_full c.args.shape (g.D.Disks.view c.args.disks.now) (g.D.Disks.view c.begin_store.new.disks) (open_disk_err c.begin_store.result) (c.begin_store.ensures.full (c.in_ok-peek.ensures.kept.shape.told ∙ told))

-- A LOG COUNTS

pub returns-clause-ok : goal.returns-clause-ok
returns-clause-ok g c =
    map_ok c.open_counting.result _ _ (λ made. opens_at c.args.shape (g.D.Disks.view c.args.disks.now) (g.D.Disks.view c.peek.new.disks) (g.D.Disks.view c.open_counting.new.disks) made.0 made.1 c.in_ok-peek.ensures.kept) c.open_counting.ensures.ok

pub returns-clause-err : goal.returns-clause-err
returns-clause-err g c told =
    let keeps = c.in_ok-peek.ensures.kept in
    subst (λ (bytes : ℕ → List ℕ). IfErr c.open_counting.result (OpeningFails c.args.shape bytes)) (same_bytes (g.D.Disks.view c.args.disks.now) (g.D.Disks.view c.peek.new.disks) keeps) (c.open_counting.ensures.err (keeps.shape.told ∙ told))

pub returns-clause-leaves : goal.returns-clause-leaves
returns-clause-leaves g c told some =
    let keeps = c.in_ok-peek.ensures.kept in
    leaves_at c.args.shape (g.D.Disks.view c.args.disks.now) (g.D.Disks.view c.peek.new.disks) (g.D.Disks.view c.open_counting.new.disks) (open_disk_err c.open_counting.result) keeps (c.open_counting.ensures.leaves (keeps.shape.told ∙ told))

pub returns-clause-refused : goal.returns-clause-refused
returns-clause-refused g c told =
    let keeps = c.in_ok-peek.ensures.kept in
    refused_at (g.D.Disks.view c.args.disks.now) (g.D.Disks.view c.peek.new.disks) (g.D.Disks.view c.open_counting.new.disks) c.open_counting.result keeps (c.open_counting.ensures.refused (keeps.shape.told ∙ told))

pub returns-clause-others : goal.returns-clause-others
returns-clause-others g c =
    let d = g.D.Disks.view c.args.disks.now in
    let a = g.D.Disks.view c.peek.new.disks in
    keeps_on (IsStoreDevice c.args.shape.parts) d a (g.D.Disks.view c.open_counting.new.disks) _ (nothing (IsStoreDevice c.args.shape.parts) d a _ c.in_ok-peek.ensures.kept) c.open_counting.ensures.others

pub returns-clause-full : goal.returns-clause-full
returns-clause-full g c told =
    let keeps = c.in_ok-peek.ensures.kept in
    units_full_at c.args.shape (g.D.Disks.view c.args.disks.now) (g.D.Disks.view c.peek.new.disks) (g.D.Disks.view c.open_counting.new.disks) (open_disk_err c.open_counting.result) keeps (c.open_counting.ensures.full (keeps.shape.told ∙ told))
