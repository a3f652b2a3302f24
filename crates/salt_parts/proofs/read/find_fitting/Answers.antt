use Rattle.salt_disk.proofs.CallAfterCall.{cause_memory}
use Rattle.salt_gatelog.proofs.Entries.{keeps_without_memory}
use Rattle.salt_paged.specs.Openings.{IsLogWhy, found_log}
use Rattle.salt_parts.proofs.Judged.{entries_not, log_refused, not_under}
use Rattle.salt_parts.proofs.Units.{ruled_units}
use Rattle.salt_parts.proofs.read.find_fitting.Goals as goal
use Rattle.salt_parts.specs.Openings.{decided_in}
use Rattle.salt_codec.specs.Entries.{prepared_of}
use Rattle.salt_stands.specs.Fitting.{definitions_reading}
use Rattle.salt_stands.specs.OpenedPart.{fits_definitions, is_known_log}
use Rattle.salt_stands.specs.Partition.{is_format_under}
use Rattle.std.proofs.Common.{ap, false, get_or, subst, sym, true, ◌≡◌, ◌∙◌}
use Rattle.std.proofs.lemmas.List.Folds.{list_all-map}
use Rattle.std.proofs.lemmas.Result.{err_from_is_err_and}
use Rattle.std.specs.List.{list_all}

pub returns-in_err-found-clause-why : goal.returns-in_err-found-clause-why
returns-in_err-found-clause-why g c read c' k has told =
    let p = c.args.judge.now.part in
    let bytes = (g.D.Disks.view c.args.disks.now).bytes in
    let same = ruled_units c.args.ruling.now c'.log p c.index-decided.result.now k c.requires.ruled (c.index-decided.ensures ∙ ap (λ i. get_or c.args.ruling.now.decided.items i c.index-decided.result.now) c.from.ensures) in
    let r = err_from_is_err_and c.from_residual.result c.from_residual.ensures.1 in
    rw (r.1, r.2) (log_refused read c' bytes p c.in_err-found.field-0.0
    (subst (λ b. IsLogWhy bytes b (decided_in c'.log p) p c.in_err-found.field-0.0) k.boot (subst (λ us. IsLogWhy bytes c.args.ruling.now.boot us p c.in_err-found.field-0.0) same (c.in_err-found.ensures.why told))))

pub returns-then-not-is_format_under-clause-why : goal.returns-then-not-is_format_under-clause-why
returns-then-not-is_format_under-clause-why g c read c' k has told =
    let p = c.args.judge.now.part in
    let x = c.in_ok-found.found in
    let h = c.in_ok-found.ensures in
    let same = ruled_units c.args.ruling.now c'.log p c.index-decided.result.now k c.requires.ruled (c.index-decided.ensures ∙ ap (λ i. get_or c.args.ruling.now.decided.items i c.index-decided.result.now) c.from.ensures) in
    let known : is_known_log c'.log.told.boot (decided_in c'.log p) (found_log x) ≡ true =
    subst (λ b. is_known_log b (decided_in c'.log p) (found_log x) ≡ true) k.boot (subst (λ us. is_known_log c.args.ruling.now.boot us (found_log x) ≡ true) same h.found.1) in
    not_under read c.args.judge.now.schema.now c.args.judge.now.shape c' p (g.D.Disks.view c.args.disks.now) (g.D.Disks.view c.find_log.new.disks) x h.kept h.found.0 c.device.result c.device.ensures told known
    (ap (λ f. is_format_under f (found_log x).header.format) (sym k.format) ∙ ap (is_format_under c.args.ruling.now.format) (sym c.format.ensures) ∙ sym c.is_format_under.ensures ∙ c.if-not-is_format_under.true)

pub returns-then-not-branch-clause-why : goal.returns-then-not-branch-clause-why
returns-then-not-branch-clause-why g c read c' k has told =
    let p = c.args.judge.now.part in
    let x = c.in_ok-found.found in
    let h = c.in_ok-found.ensures in
    let same = ruled_units c.args.ruling.now c'.log p c.index-decided.result.now k c.requires.ruled (c.index-decided.ensures ∙ ap (λ i. get_or c.args.ruling.now.decided.items i c.index-decided.result.now) c.from.ensures) in
    let known : is_known_log c'.log.told.boot (decided_in c'.log p) (found_log x) ≡ true =
    subst (λ b. is_known_log b (decided_in c'.log p) (found_log x) ≡ true) k.boot (subst (λ us. is_known_log c.args.ruling.now.boot us (found_log x) ≡ true) same h.found.1) in
    let f = fits_definitions (definitions_reading read) c' p in
    entries_not read c.args.judge.now.schema.now c.args.judge.now.shape c' p (g.D.Disks.view c.args.disks.now) (g.D.Disks.view c.find_log.new.disks) x h.kept h.found.0 c.device-then-not-branch.result c.device-then-not-branch.ensures told known
    (ap (list_all f) (sym c.units.ensures) ∙ list_all-map f prepared_of c.units.result.now ∙ sym (c.in_ok-units_fit.ensures read c' has) ∙ c.if-not-branch.true)

pub returns-clause-fits : goal.returns-clause-fits
returns-clause-fits g c read c' k =
    let p = c.args.judge.now.part in
    let x = c.in_ok-found.found in
    let h = c.in_ok-found.ensures in
    let same = ruled_units c.args.ruling.now c'.log p c.index-decided.result.now k c.requires.ruled (c.index-decided.ensures ∙ ap (λ i. get_or c.args.ruling.now.decided.items i c.index-decided.result.now) c.from.ensures) in
    let f = fits_definitions (definitions_reading read) c' p in
    record {
      known = subst (λ b. is_known_log b (decided_in c'.log p) (found_log x) ≡ true) k.boot (subst (λ us. is_known_log c.args.ruling.now.boot us (found_log x) ≡ true) same h.found.1);
      under = ap (λ f. is_format_under f (found_log x).header.format) (sym k.format) ∙ ap (is_format_under c.args.ruling.now.format) (sym c.format.ensures) ∙ sym c.is_format_under.ensures ∙ c.if-not-is_format_under.false;
      entries = λ has. ap (list_all f) (sym c.units.ensures) ∙ list_all-map f prepared_of c.units.result.now ∙ sym (c.in_ok-units_fit.ensures read c' has) ∙ c.if-not-branch.false;
    }

-- MEMORY RUNS OUT

pub returns-in_err-units_fit-clause-why : goal.returns-in_err-units_fit-clause-why
returns-in_err-units_fit-clause-why g c read c' k has told =
    let r = err_from_is_err_and c.from_residual-in_err-units_fit.result c.from_residual-in_err-units_fit.ensures.1 in
    rw (r.1, r.2) tt

pub returns-in_err-units_fit-clause-kept : goal.returns-in_err-units_fit-clause-kept
returns-in_err-units_fit-clause-kept g c =
    let r = err_from_is_err_and c.from_residual-in_err-units_fit.result c.from_residual-in_err-units_fit.ensures.1 in
    rw (r.1, r.2) (keeps_without_memory (g.D.Disks.view c.args.disks.now) (g.D.Disks.view c.find_log.new.disks) c.in_ok-found.ensures.kept)

pub returns-in_err-units_fit-clause-cause : goal.returns-in_err-units_fit-clause-cause
returns-in_err-units_fit-clause-cause g c =
    let r = err_from_is_err_and c.from_residual-in_err-units_fit.result c.from_residual-in_err-units_fit.ensures.1 in
    rw (r.1, r.2) (cause_memory (g.D.Disks.view c.args.disks.now) (g.D.Disks.view c.find_log.new.disks) c.in_ok-found.ensures.cause)

-- WHAT WAS CALLED wrote nothing

pub returns-then-not-is_format_under-clause-cause : goal.returns-then-not-is_format_under-clause-cause
returns-then-not-is_format_under-clause-cause g c = c.in_ok-found.ensures.cause

pub returns-then-not-branch-clause-cause : goal.returns-then-not-branch-clause-cause
returns-then-not-branch-clause-cause g c = c.in_ok-found.ensures.cause

pub returns-clause-cause : goal.returns-clause-cause
returns-clause-cause g c = c.in_ok-found.ensures.cause
