use Rattle.salt_commit.specs.Stores.{last_boot}
use Rattle.salt_devices.proofs.Booting.{decision_is}
use Rattle.salt_devices.proofs.Netted.{net_same, new_same, new_there, sent_same}
use Rattle.salt_devices.proofs.Standing.{breaks_off, callable_none, callable_on, callable_still, goes_on, none_held, the_going, the_store}
use Rattle.salt_devices.proofs.Within.{unchanged_within}
use Rattle.salt_devices.proofs.devices.DevicesStorage.define.Goals as goal
use Rattle.salt_devices.specs.Holding.{setup_in}
use Rattle.salt_devices.specs.declared.pending.Pending.TheVariants.{Decision}
use Rattle.salt_gatelog.proofs.Entries.{not_told}
use Rattle.salt_storage.specs.Storing.{defined}
use Rattle.std.proofs.Common.{ap, arith, refl, sym, ◌+◌, ◌∙◌}

pub decide_definition-requires-clause-stands : goal.decide_definition-requires-clause-stands
decide_definition-requires-clause-stands g c = (c.args.self.now.shape, (the_going _ _ _ _ _ c.in-Some.store c.in-Some.is c.requires.able).stands)

pub decide_definition-requires-clause-may : goal.decide_definition-requires-clause-may
decide_definition-requires-clause-may g c told =
    let r = c.requires.may told in
    (c.args.self.now.shape, r.0, the_store _ _ _ _ _ c.in-Some.store c.in-Some.is r.0 r.1, r.2)

pub returns-in-Ok-clause-able : goal.returns-in-Ok-clause-able
returns-in-Ok-clause-able g c =
    let going = the_going _ _ _ _ _ c.in-Some.store c.in-Some.is c.requires.able in
    let same = c.in-Ok.ensures.boot in
    callable_on _ _ _ _ _ c.in-Some.store c.in-Some.is (g.D.Disks.view c.decide_definition.new.disks) c.decide_definition.new.store (c.in-Ok.ensures.within (setup_in c.args.self.now.shape c.args.self.now.over_net) going.stands).shape c.requires.able
    (c.in-Ok.ensures.stands c.args.self.now.shape going.stands)
    (net_same c.in-Some.store c.decide_definition.new.store (last_boot c.in-Some.store) (last_boot c.decide_definition.new.store) c.in-Ok.ensures.messages (omega (arith, same)) going.net)

pub returns-in-Ok-clause-number : goal.returns-in-Ok-clause-number
returns-in-Ok-clause-number g c k h =
    c.in-Ok.ensures.number ∙ ap (λ n. n + 1) (decision_is (g.D.Disks.view c.args.disks.now) c.args.self.now.shape c.in-Some.store k (the_store _ _ _ _ _ c.in-Some.store c.in-Some.is k h))

pub returns-in-Ok-clause-holds : goal.returns-in-Ok-clause-holds
returns-in-Ok-clause-holds g c k def h reads may =
    let going = the_going _ _ _ _ _ c.in-Some.store c.in-Some.is c.requires.able in
    goes_on _ _ _ _ _ c.in-Some.store c.in-Some.is k h (g.D.Disks.view c.decide_definition.new.disks) c.decide_definition.new.store (defined k def) (c.in-Ok.ensures.within (setup_in c.args.self.now.shape c.args.self.now.over_net) going.stands).shape
    (c.in-Ok.ensures.holds c.args.self.now.shape k def (the_store _ _ _ _ _ c.in-Some.store c.in-Some.is k h) reads may)

pub returns-in-Ok-clause-is_new : goal.returns-in-Ok-clause-is_new
returns-in-Ok-clause-is_new g c u new =
    (c.in-Ok.ensures.is_new u new.0, new_same c.in-Some.store c.decide_definition.new.store u c.in-Ok.ensures.messages (new_there c.args.self.now.store c.in-Some.store u c.in-Some.is new.1))

pub returns-in-Err-clause-able : goal.returns-in-Err-clause-able
returns-in-Err-clause-able g c =
    let going = the_going _ _ _ _ _ c.in-Some.store c.in-Some.is c.requires.able in
    rw c.forget.ensures (callable_none _ _ _ _ _ c.in-Some.store c.in-Some.is (g.D.Disks.view c.decide_definition.new.disks) Decision (c.in-Err.ensures.within (setup_in c.args.self.now.shape c.args.self.now.over_net) going.stands).shape c.requires.able (λ is. absurd (cc is)))

pub returns-in-Err-clause-leaves : goal.returns-in-Err-clause-leaves
returns-in-Err-clause-leaves g c k def h reads may =
    let going = the_going _ _ _ _ _ c.in-Some.store c.in-Some.is c.requires.able in
    rw c.forget.ensures (breaks_off _ _ _ _ _ c.in-Some.store c.in-Some.is k h (g.D.Disks.view c.decide_definition.new.disks) c.numbers_of-before.result Decision (defined k def) (c.in-Err.ensures.within (setup_in c.args.self.now.shape c.args.self.now.over_net) going.stands).shape
    (c.in-Err.ensures.leaves c.args.self.now.shape k def (the_store _ _ _ _ _ c.in-Some.store c.in-Some.is k h) reads may) c.numbers_of-before.ensures (refl, refl))

pub returns-in-Err-clause-full : goal.returns-in-Err-clause-full
returns-in-Err-clause-full g c dev is =
    let going = the_going _ _ _ _ _ c.in-Some.store c.in-Some.is c.requires.able in
    let same = (c.in-Err.ensures.within (setup_in c.args.self.now.shape c.args.self.now.over_net) going.stands).shape in
    rw c.forget.ensures (λ now.
    let r = c.requires.may (sym same.told ∙ now) in
    c.in-Err.ensures.full dev is c.args.self.now.shape r.0 (the_store _ _ _ _ _ c.in-Some.store c.in-Some.is r.0 r.1) now)

pub returns-in-Ok-clause-within : goal.returns-in-Ok-clause-within
returns-in-Ok-clause-within g c =
    let going = the_going _ _ _ _ _ c.in-Some.store c.in-Some.is c.requires.able in
    c.in-Ok.ensures.within (setup_in c.args.self.now.shape c.args.self.now.over_net) going.stands

pub returns-in-Err-clause-within : goal.returns-in-Err-clause-within
returns-in-Err-clause-within g c =
    let going = the_going _ _ _ _ _ c.in-Some.store c.in-Some.is c.requires.able in
    rw c.forget.ensures (c.in-Err.ensures.within (setup_in c.args.self.now.shape c.args.self.now.over_net) going.stands)

pub returns-in-Ok-clause-net : goal.returns-in-Ok-clause-net
returns-in-Ok-clause-net g c = sent_same c.args.self.now.store c.in-Some.store c.decide_definition.new.store c.in-Some.is c.in-Ok.ensures.messages

-- WHERE NO STORE STANDS nothing is held, so the disks do not tell

pub reject-requires : goal.reject-requires
reject-requires g c = not_told (g.D.Disks.view c.args.disks.now).told (λ told. let r = c.requires.may told in none_held _ _ _ _ _ r.0 c.in_default.not-Some r.1)

pub returns-in_default-clause-able : goal.returns-in_default-clause-able
returns-in_default-clause-able g c = callable_still _ _ _ _ (g.D.Disks.view c.args.disks.now) (g.D.Disks.view c.reject.new.disks) c.reject.ensures.unchanged c.requires.able

pub returns-in_default-clause-leaves : goal.returns-in_default-clause-leaves
returns-in_default-clause-leaves g c k def h reads may = absurd (none_held _ _ _ _ _ k c.in_default.not-Some h)

pub returns-in_default-clause-within : goal.returns-in_default-clause-within
returns-in_default-clause-within g c = unchanged_within (g.D.Disks.view c.args.disks.now) (g.D.Disks.view c.reject.new.disks) (setup_in c.args.self.now.shape c.args.self.now.over_net) c.reject.ensures.unchanged
