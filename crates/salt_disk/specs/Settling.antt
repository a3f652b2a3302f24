-- Devices that were started.
use Rattle.salt_disk.specs.Disks.{IsSettled, View}
use Rattle.std.specs.Prelude.{ℕ, ◌<◌}

-- nothing is pending on any device
pub record AreSettled (d : View) : Type 0 where
  pub each : (dev : ℕ) → dev < d.count → IsSettled d dev
