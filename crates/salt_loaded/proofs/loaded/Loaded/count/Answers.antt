use Rattle.salt_loaded.proofs.Tables.{as_many}
use Rattle.salt_loaded.proofs.loaded.Loaded.count.Goals as goal
use Rattle.salt_model.specs.Tables.{Tables}
use Rattle.std.proofs.Common.{ap, length, ◌∙◌}

pub returns : goal.returns
returns c = ap length c.as_slice.ensures.value ∙ as_many c.self.inside.table c.self.inside.bytes.items c.self.inside.spots.items c.self.invariant ∙ ap (λ (es : Tables). length es.list) c.self.view_is
