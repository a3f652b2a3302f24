use Rattle.salt_paged.proofs.Opened.{is_found, log_why, unknown_log}
use Rattle.salt_paged.proofs.found.find_log.Goals as goal
use Rattle.salt_partition.specs.Choices.{which_of}
use Rattle.salt_partition.specs.Contents.{log_of}
use Rattle.salt_stands.specs.OpenedPart.{is_known_log}
use Rattle.salt_values.specs.declared.id.Id.{Id}
use Rattle.std.proofs.Common.{List, Some, ap, refl, sym, ◌∙◌}
use Rattle.std.proofs.lemmas.Result.{err_from_is_err_and}

pub returns-in_err-side-clause-why : goal.returns-in_err-side-clause-why
returns-in_err-side-clause-why g c told =
    let p = err_from_is_err_and c.from_residual.result c.from_residual.ensures.1 in
    rw (p.1, p.2) (log_why (g.D.Disks.view c.args.disks.now).bytes c.args.boot c.args.decided.now c.args.part c.in_err-side.field-0.0 (c.in_err-side.ensures.why told))

pub returns-then-not-known-clause-why : goal.returns-then-not-known-clause-why
returns-then-not-known-clause-why g c told =
    let log = log_of c.in_ok-side.log in
    unknown_log (g.D.Disks.view c.args.disks.now) c.args.boot c.args.decided.now c.args.part (which_of c.in_ok-side.side) log (c.in_ok-side.ensures.chosen.counts told)
    (ap (λ (us : List Id). is_known_log c.args.boot us log) (sym c.as_slice.ensures) ∙ sym c.in_ok-known.ensures ∙ c.if-not-known.true)
    ∙ ap Some (sym c.log_of.ensures)

pub returns-clause-found : goal.returns-clause-found
returns-clause-found g c = (
  is_found (g.D.Disks.view c.args.disks.now) (g.D.Disks.view c.chosen_log.new.disks) _ c.args.part c.in_ok-side.ensures.kept c.requires.known c.requires.settled_a c.requires.settled_b refl c.in_ok-side.ensures.chosen,
  ap (λ (us : List Id). is_known_log c.args.boot us (log_of c.in_ok-side.log)) (sym c.as_slice.ensures) ∙ sym c.in_ok-known.ensures ∙ c.if-not-known.false,
)
