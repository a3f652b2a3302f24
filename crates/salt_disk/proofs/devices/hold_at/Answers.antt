use Rattle.salt_disk.proofs.DeviceLists.{changed}
use Rattle.salt_disk.proofs.devices.hold_at.Goals as goal
use Rattle.salt_disk.specs.Devices.{Holds}

pub returns : goal.returns
returns c =
    changed c.args.devices.now.items c.args.dev c.index_mut-device.result.now c.hold.new.self (λ d e. Holds d e c.args.bytes.items) c.requires c.index_mut-device.ensures.value
    (record { bytes_are = c.hold.ensures.now; synced = c.hold.ensures.synced; limit = c.hold.ensures.limit })
