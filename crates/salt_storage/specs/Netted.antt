-- What the commits of a storage have sent over messages.
use Rattle.salt_ast.specs.declared.lines.Line.TheVariants.{Net}
use Rattle.salt_net.specs.Turns.{Turning, commits}
use Rattle.salt_place.specs.declared.placement.Shape.{Shape}
use Rattle.salt_stands.specs.Placed.{nodes_in}
use Rattle.salt_stands.specs.Turning.{no_turns, with_pairs}
use Rattle.salt_storage.specs.Staying.{Setup}
use Rattle.salt_values.specs.declared.change.Change.{Change}
use Rattle.salt_values.specs.declared.id.Id.{Id}
use Rattle.std.specs.Prelude.{List, None, Option, Some, if◌then◌else◌, option_map, ℕ}

-- of a storage that was just opened: nothing, and no pairs wait; none where commits go over no messages
abbrev pub net_begun : Setup → Option Turning
net_begun setup = if setup.over_net then Some no_turns else None

-- behind the commit of a unit with these changes
abbrev pub net_committed : Setup → Id → List Change → Option Turning → Option Turning
net_committed setup u cs net = option_map (commits u (nodes_in setup.shape cs)) net

-- with these pairs waiting behind the others, as a line that arms them has it
abbrev pub net_armed : List (ℕ × ℕ) → Option Turning → Option Turning
net_armed pairs net = option_map (with_pairs (Net pairs) pairs) net

-- of a run that has come to this in each shape
abbrev pub net_told : Setup → (Shape → Turning) → Option Turning
net_told setup net = if setup.over_net then Some (net setup.shape) else None
