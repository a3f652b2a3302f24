-- Pages of a store are few where a row has room on none, and where there may be one more.
use Rattle.salt_directory.proofs.Bounds.{few, few_grown, tables_bytes}
use Rattle.salt_directory.specs.Bytes.{bytes_of_entries}
use Rattle.salt_directory.specs.Space.{HasRoom, may_grow}
use Rattle.salt_model.specs.Tables.{Tables}
use Rattle.salt_model.specs.declared.places.Place.{Place}
use Rattle.salt_rows.specs.Frames.{Frames}
use Rattle.salt_rows.specs.Stores.{HavePages}
use Rattle.std.proofs.Common.{List, None, arith, length, true, ℕ, ◌*◌, ◌≡◌, ◌≤◌}

pub few_in : (bytes : List ℕ) (x : Frames) (sides space : List ℕ) (directory : List (Place × ℕ)) (t : Tables) → HavePages bytes x sides space directory t → (size : ℕ) → size ≤ 4115 → HasRoom space size None → 4076 * length sides ≤ bytes_of_entries t.list
few_in bytes x sides space directory t has size small none =
    let all = few has.pages space size has.free small none in
    omega (arith, all, has.are.count, tables_bytes directory has.pages t has.rows)

-- so they are where there may be one more
pub few_growing : (bytes : List ℕ) (x : Frames) (sides space : List ℕ) (directory : List (Place × ℕ)) (t : Tables) → HavePages bytes x sides space directory t → may_grow space ≡ true → 4076 * length sides ≤ bytes_of_entries t.list
few_growing bytes x sides space directory t has grows =
    let all = few_grown has.pages space has.free grows in
    omega (arith, all, has.are.count, tables_bytes directory has.pages t has.rows)
