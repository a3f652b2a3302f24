use Rattle.salt_loaded.proofs.Counted.{entry_is}
use Rattle.salt_loaded.proofs.Tables.{as_many, list_is}
use Rattle.salt_loaded.proofs.loaded.Loaded.has_key.Goals as goal
use Rattle.salt_loaded.specs.Spots.{rows_at}
use Rattle.salt_model.specs.Tables.{Tables}
use Rattle.salt_values.specs.Value.{is_same_value}
use Rattle.std.proofs.Common.{ap, length, slice_get, subst, sym, ◌<◌, ◌∙◌}

pub has_key-requires-clause-within : goal.has_key-requires-clause-within
has_key-requires-clause-within c =
    let long = as_many c.self.inside.table c.self.inside.bytes.items c.self.inside.spots.items c.self.invariant ∙ ap (λ (es : Tables). length es.list) c.self.view_is in
    subst (λ n. c.args.i < n) (sym (ap length c.as_slice-2.ensures.value ∙ long)) c.requires

pub returns : goal.returns
returns c =
    λ e found.
    let bytes = c.self.inside.bytes.items in
    let spots = c.self.inside.spots.items in
    let entry = entry_is c.self.inside.table (rows_at bytes spots) c.args.i e
    (ap (λ es. slice_get es c.args.i) (sym (list_is c.self.inside.table bytes spots c.self.invariant)) ∙ ap (λ (es : Tables). slice_get es.list c.args.i) c.self.view_is ∙ found) in
    c.has_key.ensures e.1 ((λ i. slice_get (rows_at (c.as_slice.ensures.value i) (c.as_slice-2.ensures.value i)) c.args.i) ∙ entry.0) ∙ ap (λ k. is_same_value k c.args.key.now) entry.1
