use Rattle.salt_commit.proofs.Fields.{as_many}
use Rattle.salt_commit.proofs.Opening.{coordinator_refused, counting_full, leaves, only_coordinator, opens_store, own, own_has, own_kept, refused, room_on, then_pages, units_full}
use Rattle.salt_commit.proofs.open.open_counting.Goals as goal
use Rattle.salt_commit.specs.declared.store.Store.{Store}
use Rattle.salt_commit.specs.Openings.{UnitsPassLimit}
use Rattle.salt_disk.proofs.CallAfterCall.{cause_on, keeps_on}
use Rattle.salt_parts.proofs.Reading.{same_bytes}
use Rattle.salt_stands.specs.Coordinator.{coordinator_pair}
use Rattle.salt_stands.specs.Stands.{logs_of}
use Rattle.std.proofs.Common.{None, inl, refl, ◌∙◌}
use Rattle.std.proofs.lemmas.Result.{err_from_is_err_and}

-- THE COORDINATOR is refused

pub returns-in_err-decisions-clause-err : goal.returns-in_err-decisions-clause-err
returns-in_err-decisions-clause-err g c told =
    let p = err_from_is_err_and c.from_residual.result c.from_residual.ensures.1 in
    rw (p.1, p.2) (coordinator_refused c.args.schema.now c.args.shape (g.D.Disks.view c.args.disks.now).bytes (c.requires.schema told) c.in_err-decisions.field-0.0 (c.in_err-decisions.ensures.err told))

pub returns-in_err-decisions-clause-leaves : goal.returns-in_err-decisions-clause-leaves
returns-in_err-decisions-clause-leaves g c told =
    let p = err_from_is_err_and c.from_residual.result c.from_residual.ensures.1 in
    rw (p.1, p.2) (inl (c.in_err-decisions.ensures.kept told (c.requires.counts told)))

pub returns-in_err-decisions-clause-refused : goal.returns-in_err-decisions-clause-refused
returns-in_err-decisions-clause-refused g c told =
    let p = err_from_is_err_and c.from_residual.result c.from_residual.ensures.1 in
    rw (p.1, p.2) (λ is. c.in_err-decisions.ensures.kept told (c.requires.counts told))

pub returns-in_err-decisions-clause-others : goal.returns-in_err-decisions-clause-others
returns-in_err-decisions-clause-others g c =
    let p = err_from_is_err_and c.from_residual.result c.from_residual.ensures.1 in
    rw (p.1, p.2) (only_coordinator c.args.shape.parts (g.D.Disks.view c.args.disks.now) (g.D.Disks.view c.open_decisions.new.disks) _ c.in_err-decisions.ensures.others)

pub returns-in_err-decisions-clause-cause : goal.returns-in_err-decisions-clause-cause
returns-in_err-decisions-clause-cause g c =
    let p = err_from_is_err_and c.from_residual.result c.from_residual.ensures.1 in
    rw (p.1, p.2) c.in_err-decisions.ensures.cause

pub returns-in_err-decisions-clause-full : goal.returns-in_err-decisions-clause-full
returns-in_err-decisions-clause-full g c told =
    let p = err_from_is_err_and c.from_residual.result c.from_residual.ensures.1 in
    rw (p.1, p.2) (counting_full c.args.shape (coordinator_pair (logs_of (g.D.Disks.view c.args.disks.now).bytes)) (UnitsPassLimit (g.D.Disks.view c.args.disks.now) c.args.shape) c.in_err-decisions.field-0.0 (c.requires.counts told) (c.in_err-decisions.ensures.err told))

-- THE PARTITIONS

pub open_parts-requires-clause-log : goal.open_parts-requires-clause-log
open_parts-requires-clause-log g c =
    let o = c.in_ok-decisions.ensures.ok in
    (o.log, o.keeps)

pub open_parts-requires-clause-room : goal.open_parts-requires-clause-room
open_parts-requires-clause-room g c =
    let o = c.in_ok-decisions.ensures.ok in
    room_on c.args.shape.parts (g.D.Disks.view c.args.disks.now) (g.D.Disks.view c.open_decisions.new.disks) c.in_ok-decisions.decisions o.which o.log c.requires.room c.in_ok-decisions.ensures.others o.is

pub returns-in_err-parts-clause-err : goal.returns-in_err-parts-clause-err
returns-in_err-parts-clause-err g c told =
    let d = g.D.Disks.view c.args.disks.now in
    let b = g.D.Disks.view c.open_decisions.new.disks in
    let o = c.in_ok-decisions.ensures in
    let some = c.requires.counts in
    let w = own c.args.schema.now c.args.shape d b some c.requires.schema c.in_ok-decisions.kept c.in_ok-decisions.decisions o.ok in
    let p = err_from_is_err_and c.from_residual-in_err-parts.result c.from_residual-in_err-parts.ensures.1 in
    rw (p.1, p.2) (refused c.args.schema.now c.args.shape d b some c.requires.schema c.in_ok-decisions.kept c.in_ok-decisions.decisions o.ok (λ t. same_bytes d b (o.kept t (some t))) o.others.shape.told told c.in_err-parts.field-0.0
    (c.in_err-parts.ensures.why w.c (own_kept c.args.schema.now c.args.shape d b some c.requires.schema c.in_ok-decisions.kept c.in_ok-decisions.decisions o.ok) (own_has c.args.schema.now c.args.shape d b some c.requires.schema c.in_ok-decisions.kept c.in_ok-decisions.decisions o.ok told) (o.others.shape.told ∙ told)))

pub returns-in_err-parts-clause-leaves : goal.returns-in_err-parts-clause-leaves
returns-in_err-parts-clause-leaves g c told =
    let d = g.D.Disks.view c.args.disks.now in
    let b = g.D.Disks.view c.open_decisions.new.disks in
    let o = c.in_ok-decisions.ensures in
    let some = c.requires.counts in
    let w = own c.args.schema.now c.args.shape d b some c.requires.schema c.in_ok-decisions.kept c.in_ok-decisions.decisions o.ok in
    let p = err_from_is_err_and c.from_residual-in_err-parts.result c.from_residual-in_err-parts.ensures.1 in
    rw (p.1, p.2) (leaves c.args.schema.now c.args.shape d b some c.requires.schema c.in_ok-decisions.kept c.in_ok-decisions.decisions o.ok (λ t. same_bytes d b (o.kept t (some t))) o.others.shape.told c.requires.room (λ t. o.kept t (some t)) told
    (g.D.Disks.view c.open_parts.new.disks) _ c.in_err-parts.ensures.others
    (c.in_err-parts.ensures.wrote w.c (own_kept c.args.schema.now c.args.shape d b some c.requires.schema c.in_ok-decisions.kept c.in_ok-decisions.decisions o.ok) (own_has c.args.schema.now c.args.shape d b some c.requires.schema c.in_ok-decisions.kept c.in_ok-decisions.decisions o.ok told) (o.others.shape.told ∙ told)))

pub returns-in_err-parts-clause-refused : goal.returns-in_err-parts-clause-refused
returns-in_err-parts-clause-refused g c told =
    let d = g.D.Disks.view c.args.disks.now in
    let b = g.D.Disks.view c.open_decisions.new.disks in
    let p = err_from_is_err_and c.from_residual-in_err-parts.result c.from_residual-in_err-parts.ensures.1 in
    rw (p.1, p.2) (λ is. keeps_on (λ _. ⊥) d b (g.D.Disks.view c.open_parts.new.disks) _ (c.in_ok-decisions.ensures.kept told (c.requires.counts told)) (c.in_err-parts.ensures.refused is))

pub returns-in_err-parts-clause-others : goal.returns-in_err-parts-clause-others
returns-in_err-parts-clause-others g c =
    let p = err_from_is_err_and c.from_residual-in_err-parts.result c.from_residual-in_err-parts.ensures.1 in
    rw (p.1, p.2) (then_pages c.args.shape.parts (g.D.Disks.view c.args.disks.now) (g.D.Disks.view c.open_decisions.new.disks) (g.D.Disks.view c.open_parts.new.disks) _ c.in_ok-decisions.ensures.others c.in_err-parts.ensures.others)

pub returns-in_err-parts-clause-cause : goal.returns-in_err-parts-clause-cause
returns-in_err-parts-clause-cause g c =
    let p = err_from_is_err_and c.from_residual-in_err-parts.result c.from_residual-in_err-parts.ensures.1 in
    rw (p.1, p.2) (cause_on (g.D.Disks.view c.args.disks.now) (g.D.Disks.view c.open_decisions.new.disks) (g.D.Disks.view c.open_parts.new.disks) _ c.in_ok-decisions.ensures.cause c.in_err-parts.ensures.cause)

pub returns-in_err-parts-clause-full : goal.returns-in_err-parts-clause-full
returns-in_err-parts-clause-full g c told =
    let d = g.D.Disks.view c.args.disks.now in
    let b = g.D.Disks.view c.open_decisions.new.disks in
    let o = c.in_ok-decisions.ensures in
    let some = c.requires.counts in
    let w = own c.args.schema.now c.args.shape d b some c.requires.schema c.in_ok-decisions.kept c.in_ok-decisions.decisions o.ok in
    let p = err_from_is_err_and c.from_residual-in_err-parts.result c.from_residual-in_err-parts.ensures.1 in
    rw (p.1, p.2) (units_full c.args.schema.now c.args.shape d b some c.requires.schema c.in_ok-decisions.kept c.in_ok-decisions.decisions o.ok (λ t. same_bytes d b (o.kept t (some t))) o.others.shape.told c.requires.room (λ t. o.kept t (some t)) told _
    (c.in_err-parts.ensures.full w.c (own_kept c.args.schema.now c.args.shape d b some c.requires.schema c.in_ok-decisions.kept c.in_ok-decisions.decisions o.ok) (own_has c.args.schema.now c.args.shape d b some c.requires.schema c.in_ok-decisions.kept c.in_ok-decisions.decisions o.ok told) (o.others.shape.told ∙ told)))

-- THE STORE

pub returns-clause-ok : goal.returns-clause-ok
returns-clause-ok g c =
    let d = g.D.Disks.view c.args.disks.now in
    let b = g.D.Disks.view c.open_decisions.new.disks in
    let o = c.in_ok-decisions.ensures in
    let some = c.requires.counts in
    let w = own c.args.schema.now c.args.shape d b some c.requires.schema c.in_ok-decisions.kept c.in_ok-decisions.decisions o.ok in
    opens_store c.args.schema.now c.args.shape d b some c.requires.schema c.in_ok-decisions.kept c.in_ok-decisions.decisions o.ok (λ t. same_bytes d b (o.kept t (some t))) o.others.shape.told (g.D.Disks.view c.open_parts.new.disks) _ refl c.in_ok-parts.ensures.others
    (c.in_ok-parts.ensures.opens w.c (own_kept c.args.schema.now c.args.shape d b some c.requires.schema c.in_ok-decisions.kept c.in_ok-decisions.decisions o.ok))

pub returns-clause-leaves : goal.returns-clause-leaves
returns-clause-leaves g c told =
    let d = g.D.Disks.view c.args.disks.now in
    let b = g.D.Disks.view c.open_decisions.new.disks in
    let o = c.in_ok-decisions.ensures in
    let some = c.requires.counts in
    let w = own c.args.schema.now c.args.shape d b some c.requires.schema c.in_ok-decisions.kept c.in_ok-decisions.decisions o.ok in
    leaves c.args.schema.now c.args.shape d b some c.requires.schema c.in_ok-decisions.kept c.in_ok-decisions.decisions o.ok (λ t. same_bytes d b (o.kept t (some t))) o.others.shape.told c.requires.room (λ t. o.kept t (some t)) told
    (g.D.Disks.view c.open_parts.new.disks) None c.in_ok-parts.ensures.others
    (c.in_ok-parts.ensures.wrote w.c (own_kept c.args.schema.now c.args.shape d b some c.requires.schema c.in_ok-decisions.kept c.in_ok-decisions.decisions o.ok) (own_has c.args.schema.now c.args.shape d b some c.requires.schema c.in_ok-decisions.kept c.in_ok-decisions.decisions o.ok told) (o.others.shape.told ∙ told))

pub returns-clause-others : goal.returns-clause-others
returns-clause-others g c = then_pages c.args.shape.parts (g.D.Disks.view c.args.disks.now) (g.D.Disks.view c.open_decisions.new.disks) (g.D.Disks.view c.open_parts.new.disks) None c.in_ok-decisions.ensures.others c.in_ok-parts.ensures.others

pub returns-clause-cause : goal.returns-clause-cause
returns-clause-cause g c = cause_on (g.D.Disks.view c.args.disks.now) (g.D.Disks.view c.open_decisions.new.disks) (g.D.Disks.view c.open_parts.new.disks) None c.in_ok-decisions.ensures.cause c.in_ok-parts.ensures.cause

pub invariant_of-result : goal.invariant_of-result
invariant_of-result g c =
    let d = g.D.Disks.view c.args.disks.now in
    let b = g.D.Disks.view c.open_decisions.new.disks in
    let o = c.in_ok-decisions.ensures in
    let some = c.requires.counts in
    let w = own c.args.schema.now c.args.shape d b some c.requires.schema c.in_ok-decisions.kept c.in_ok-decisions.decisions o.ok in
    let x : Store = record { decisions = c.in_ok-decisions.decisions; parts = c.in_ok-parts.parts.items; messages = None } in
    let opens =
    opens_store c.args.schema.now c.args.shape d b some c.requires.schema c.in_ok-decisions.kept c.in_ok-decisions.decisions o.ok (λ t. same_bytes d b (o.kept t (some t))) o.others.shape.told (g.D.Disks.view c.open_parts.new.disks) x refl c.in_ok-parts.ensures.others
    (c.in_ok-parts.ensures.opens w.c (own_kept c.args.schema.now c.args.shape d b some c.requires.schema c.in_ok-decisions.kept c.in_ok-decisions.decisions o.ok)) in
    as_many (g.D.Disks.view c.open_parts.new.disks) x opens.which opens.c opens.v opens.is
