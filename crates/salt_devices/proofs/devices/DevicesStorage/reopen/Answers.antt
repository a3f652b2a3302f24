use Rattle.salt_storage.specs.OpenErr.TheVariants as opening
use Rattle.salt_devices.proofs.Standing.{failed_callable, left_behind, not_opening, opened_callable, refound_either, the_left, the_memory}
use Rattle.salt_devices.proofs.devices.DevicesStorage.reopen.Goals as goal
use Rattle.salt_stands.specs.Stands.{are_spent}
use Rattle.salt_storage.specs.declared.found.Numbers.{Numbers}
use Rattle.std.proofs.Common.{Err, ap, sym, ◌≡◌, ◌∙◌}

pub open_again-requires-clause-room : goal.open_again-requires-clause-room
open_again-requires-clause-room g c = record { known = c.requires.settled.able.room; settled = c.requires.settled.settled.each }

pub open_again-requires-clause-left : goal.open_again-requires-clause-left
open_again-requires-clause-left g c told =
    let r = c.requires.left told in
    (r.0, r.1, the_left _ _ _ _ _ _ c.requires.settled r.0 r.1 r.2, the_memory _ _ _ _ _ _ c.requires.settled r.0 r.1 r.2)

pub returns-in-Ok-clause-able : goal.returns-in-Ok-clause-able
returns-in-Ok-clause-able g c =
    let x = c.args.self.now in
    opened_callable (g.D.Disks.view c.args.disks.now) (g.D.Disks.view c.open_again.new.disks) x.shape c.in-Ok.store c.put_over.result (c.in-Ok.ensures.within x.over_net).shape c.requires.settled.able
    (record { rests = c.put_over.ensures.rests; new = c.put_over.ensures.new; rest = c.put_over.ensures.rest }) c.in-Ok.ensures.stands

pub returns-in-Err-clause-able : goal.returns-in-Err-clause-able
returns-in-Err-clause-able g c =
    let s = c.requires.settled in
    let same = (c.in-Err.ensures.within c.args.self.now.over_net).shape in
    failed_callable (g.D.Disks.view c.args.disks.now) (g.D.Disks.view c.open_again.new.disks) _ _ _ _ same s
    (λ is told image left.
    let r = c.requires.left (sym same.told ∙ told) in
    absurd (not_opening c.args.self.now.pending r.0 r.1 (the_memory _ _ _ _ _ _ s r.0 r.1 r.2).follows is))

pub returns-in-Ok-clause-holds : goal.returns-in-Ok-clause-holds
returns-in-Ok-clause-holds g c a b h =
    let s = c.requires.settled in
    refound_either _ _ _ c.args.self.now.numbers _ _ s (g.D.Disks.view c.open_again.new.disks) c.in-Ok.store c.put_over.result c.numbers_of-found.result (c.in-Ok.ensures.within c.args.self.now.over_net).shape
    (record { rests = c.put_over.ensures.rests; new = c.put_over.ensures.new; rest = c.put_over.ensures.rest }) c.numbers_of-found.ensures a b
    (c.in-Ok.ensures.ok h.told a b (the_left _ _ _ _ _ _ s a b h))

pub returns-in-Ok-clause-numbers : goal.returns-in-Ok-clause-numbers
returns-in-Ok-clause-numbers g c = ap (λ (n : Numbers). are_spent n.boot n.decisions) c.numbers_of-found.ensures ∙ c.in-Ok.ensures.numbers

pub returns-in-Err-clause-leaves : goal.returns-in-Err-clause-leaves
returns-in-Err-clause-leaves g c a b h =
    let s = c.requires.settled in
    left_behind _ _ _ _ _ _ s a b h (g.D.Disks.view c.open_again.new.disks) (c.in-Err.ensures.within c.args.self.now.over_net).shape (c.in-Err.ensures.leaves h.told a b (the_left _ _ _ _ _ _ s a b h))

pub returns-in-Err-clause-known : goal.returns-in-Err-clause-known
returns-in-Err-clause-known g c a b h =
    let s = c.requires.settled in
    c.in-Err.ensures.known h.told a b (the_left _ _ _ _ _ _ s a b h) (the_memory _ _ _ _ _ _ s a b h)

pub returns-in-Err-clause-full : goal.returns-in-Err-clause-full
returns-in-Err-clause-full g c dev is = let full : c.in-Err.e ≡ opening.Full dev = cc is in c.in-Err.ensures.full dev (ap Err full)

pub returns-in-Ok-clause-net : goal.returns-in-Ok-clause-net
returns-in-Ok-clause-net g c = c.put_over.ensures.net

pub returns-in-Ok-clause-within : goal.returns-in-Ok-clause-within
returns-in-Ok-clause-within g c = c.in-Ok.ensures.within c.args.self.now.over_net

pub returns-in-Err-clause-within : goal.returns-in-Err-clause-within
returns-in-Err-clause-within g c = c.in-Err.ensures.within c.args.self.now.over_net
