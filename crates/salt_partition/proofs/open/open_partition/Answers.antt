use Rattle.salt_model.specs.Tables.{no_rows, with_changes}
use Rattle.salt_partition.proofs.Opened.{opens_as, why_of}
use Rattle.salt_partition.proofs.open.open_partition.Goals as goal
use Rattle.salt_partition.specs.Contents.{log_of, units_of}
use Rattle.salt_stands.specs.OpenedPart.{is_known_log}
use Rattle.salt_stands.specs.Partition.{decided_changes}
use Rattle.salt_values.specs.declared.id.Id.{Id}
use Rattle.salt_partition.specs.Partitions.{IsLastKept}
use Rattle.std.proofs.Common.{List, ap, refl, subst, sym, ◌∙◌}
use Rattle.std.proofs.lemmas.Result.{err_from_is_err_and}

pub returns-in_err-side-clause-why : goal.returns-in_err-side-clause-why
returns-in_err-side-clause-why g c told =
    let p = err_from_is_err_and c.from_residual.result c.from_residual.ensures.1 in
    rw (p.1, p.2) (why_of (g.D.Disks.view c.args.disks.now).bytes c.args.boot c.args.decided.now c.args.part c.in_err-side.field-0.0 (c.in_err-side.ensures.why told))

pub returns-clause-opens : goal.returns-clause-opens
returns-clause-opens g c =
    let found = c.in_ok-side.found in
    opens_as (g.D.Disks.view c.args.disks.now) (g.D.Disks.view c.chosen_log.new.disks) _ c.args.boot c.args.decided.now c.args.part c.in_ok-side.side found
    c.in_ok-side.ensures.kept c.requires.known c.requires.settled_a c.requires.settled_b c.in_ok-side.ensures.chosen
    (ap (λ (us : List Id). is_known_log c.args.boot us (log_of found)) (sym c.as_slice.ensures) ∙ sym c.in_ok-known.ensures ∙ c.if-not-known.false)
    (sym c.has_pages.ensures ∙ c.if-has_pages.false) refl refl c.has_nulls.ensures
    (c.in_ok-rows.ensures.rows ∙ ap (λ (us : List Id). (with_changes (decided_changes us (units_of found.units.items)) no_rows).list) c.as_slice-2.ensures)
    (subst (λ (us : List Id). IsLastKept us (units_of found.units.items) c.in_ok-rows.last) c.as_slice-2.ensures c.in_ok-rows.ensures.last)
