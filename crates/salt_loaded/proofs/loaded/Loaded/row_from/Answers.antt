use Rattle.salt_loaded.proofs.Tables.{as_many, rows_are}
use Rattle.salt_loaded.proofs.loaded.Loaded.row_from.Goals as goal
use Rattle.salt_loaded.specs.Loaded.{row_number}
use Rattle.salt_loaded.specs.Spots.{rows_at}
use Rattle.salt_model.specs.Tables.{Tables}
use Rattle.std.proofs.Common.{ap, length, slice_get, subst, sym, ◌<◌, ◌∙◌}

pub bytes_from-requires-clause-within : goal.bytes_from-requires-clause-within
bytes_from-requires-clause-within c =
    let long = as_many c.self.inside.table c.self.inside.bytes.items c.self.inside.spots.items c.self.invariant ∙ ap (λ (es : Tables). length es.list) c.self.view_is in
    subst (λ n. c.args.i < n) (sym (ap length c.as_slice-2.ensures.value ∙ long)) c.requires

pub returns : goal.returns
returns c =
    let found = c.bytes_from.ensures in (
      found.0,
      found.1,
      ap (λ (es : Tables). row_number es c.args.i) (sym c.self.view_is)
          ∙ ap (λ l. slice_get l c.args.i) (rows_are c.self.inside.table c.self.inside.bytes.items c.self.inside.spots.items c.self.invariant)
          ∙ (λ i. slice_get (rows_at (sym c.as_slice.ensures.value i) (sym c.as_slice-2.ensures.value i)) c.args.i)
          ∙ found.2,
      found.3,
    )
