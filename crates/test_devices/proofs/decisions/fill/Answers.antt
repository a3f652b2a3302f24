use Rattle.salt_bytes.specs.Coordinator.{NumberedText}
use Rattle.salt_decisions.proofs.Unspent.{few_decisions, three_of_two}
use Rattle.test_devices.proofs.decisions.fill.Goals as goal
use Rattle.salt_decisions.specs.Decisions.{booted, defined, next_definition}
use Rattle.std.proofs.Common.{arith}

pub define-requires-clause-log : goal.define-requires-clause-log
define-requires-clause-log g c =
    let o = c.in_ok-log.ensures.ok in
    (o.which, (booted o.log, c.in_ok-boot.ensures.ok o.which o.log o.is))

pub define-requires-clause-below : goal.define-requires-clause-below
define-requires-clause-below g c =
    let o = c.in_ok-log.ensures.ok in
    let is = c.in_ok-boot.ensures.ok o.which o.log o.is in
    omega (arith, is.holds.decisions, few_decisions o.log.told.boot o.log.told.decisions o.unspent)

pub decide-requires-clause-log : goal.decide-requires-clause-log
decide-requires-clause-log g c =
    let o = c.in_ok-log.ensures.ok in
    let t : NumberedText = next_definition c.boot.new.self _ in
    (o.which, (defined (booted o.log) t, c.in_ok-define.ensures.ok o.which (booted o.log) (c.in_ok-boot.ensures.ok o.which o.log o.is)))

pub decide-requires-clause-below : goal.decide-requires-clause-below
decide-requires-clause-below g c =
    let o = c.in_ok-log.ensures.ok in
    let before = c.in_ok-boot.ensures.ok o.which o.log o.is in
    let is = c.in_ok-define.ensures.ok o.which (booted o.log) before in
    omega (arith, is.holds.decisions, before.holds.decisions, few_decisions o.log.told.boot o.log.told.decisions o.unspent)

pub decide-requires-clause-bits : goal.decide-requires-clause-bits
decide-requires-clause-bits g c =
    let o = c.in_ok-log.ensures.ok in
    let before = c.in_ok-boot.ensures.ok o.which o.log o.is in
    let is = c.in_ok-define.ensures.ok o.which (booted o.log) before in
    three_of_two c.define.new.self.shape o.log.header.shape is.holds.shape o.has_shape
