use Rattle.salt_loaded.proofs.Tables.{table_is}
use Rattle.salt_loaded.proofs.loaded.Loaded.table.Goals as goal
use Rattle.salt_loaded.specs.Loaded.{IsOfTable}
use Rattle.salt_model.specs.Tables.{Tables}
use Rattle.std.proofs.Common.{slice_get, subst}

pub returns : goal.returns
returns c = λ i. subst (λ (es : Tables). IsOfTable (slice_get es.list i) c.self.inside.table) c.self.view_is (table_is c.self.inside.table c.self.inside.bytes.items c.self.inside.spots.items c.self.invariant i)
