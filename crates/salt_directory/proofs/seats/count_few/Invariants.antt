use Rattle.salt_directory.proofs.Seated.{IsCounting}
use Rattle.salt_directory.proofs.seats.count_few.Given as goal
use Rattle.salt_eval.specs.Views.{start_of}
use Rattle.salt_model.specs.Tables.{place_cmp}
use Rattle.salt_model.specs.declared.places.Place.{Place}
use Rattle.std.proofs.Common.{List, None, ℕ, ◌≡◌, ◌≤◌}
use Rattle.std.specs.BTreeMap.Range.{entries_between}
use Rattle.std.specs.List.Sorted.{IsStrictlySortedBy}
use Rattle.std.specs.Map.{keys_of}
use Rattle.std.specs.declared.ops.Bound.TheVariants.{Unbounded}

abbrev pub invariant-loop-place : goal.invariant-loop-place
invariant-loop-place l =
    record {
      can_next : (goal.iterator-loop-place).can_next l.place-iterator;
      is_finite : (goal.iterator-loop-place).is_finite l.place-iterator;
      low : l.count ≤ 16;
      so_far : (directory : List (Place × ℕ)) → IsStrictlySortedBy place_cmp (keys_of directory) → l.fn.rows ≡ entries_between place_cmp (start_of l.table l.range.lo None) Unbounded directory → IsCounting l.table l.range directory l.count l.place-iterator;
    }
