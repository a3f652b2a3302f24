use Rattle.salt_directory.proofs.Placed.{page_first}
use Rattle.salt_directory.proofs.directory.first_from.Goals as goal
use Rattle.salt_eval.proofs.InOrder.{in_order}
use Rattle.salt_model.specs.Tables.{place_cmp}
use Rattle.salt_model.specs.declared.places.Place.{Place}
use Rattle.std.proofs.Common.{List, subst, ℕ}
use Rattle.std.specs.BTreeMap.Range.{range_contains}
use Rattle.std.specs.Map.Iter.{TakesFirst, deref_pair}
use Rattle.std.specs.declared.ops.Bound.TheVariants.{Unbounded}

pub returns-clause-found : goal.returns-clause-found
returns-clause-found c =
    let es = c.args.directory.now in
    page_first (λ q. range_contains place_cmp c.args.start Unbounded q) es c.next.new.self (in_order place_cmp es c.rows_from.ensures.ordered) c.next.result
    (subst (λ (l : List (Place × ℕ)). TakesFirst deref_pair l c.next.result c.next.new.self) c.rows_from.ensures.between c.next.ensures.steps)
