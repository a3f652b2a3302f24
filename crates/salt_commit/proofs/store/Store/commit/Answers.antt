use Rattle.salt_commit.proofs.Committed.{answer_is, share_each}
use Rattle.salt_commit.proofs.Filled.{commit_full, of_store}
use Rattle.salt_commit.proofs.Roomed.{commit_on, may_commit_on, ok_maps, others_on, room_commit, stands_to_commit}
use Rattle.salt_commit.proofs.Standing.{unchanged_images}
use Rattle.salt_commit.proofs.store.Store.commit.Goals as goal
use Rattle.salt_commit.specs.Commits.{IsCommitDevice, MayCommitUnit, shares_in}
use Rattle.salt_commit.specs.Messages.{net_of}
use Rattle.salt_commit.specs.Shares.{shares_of}
use Rattle.salt_commit.specs.Stores.{IsStoreDevice, reading, shape_of_store}
use Rattle.salt_disk.proofs.CallAfterCall.{cause_on, keeps_wider}
use Rattle.salt_net.specs.Paces.{Pace, turning_of}
use Rattle.salt_net.specs.Turns.{commits}
use Rattle.salt_place.specs.declared.placement.Shape.{Shape}
use Rattle.salt_room.specs.Rooms.{HaveRoom}
use Rattle.salt_stands.specs.Placed.{nodes_in}
use Rattle.salt_turns.specs.Amid.{IsUnknown, Rests}
use Rattle.salt_values.specs.Id.{is_same_id}
use Rattle.salt_values.specs.declared.id.Id.{Id}
use Rattle.std.proofs.Common.{Bool, Option, Some, ap, arith, false, inl, length, refl, subst, sym, ℕ, ◌+◌, ◌≡◌, ◌∙◌}
use Rattle.std.proofs.lemmas.Result.{err_from_is_err_and}
use Rattle.std.specs.Prelude.{IfOk, IfSome, OnOk, option_map}
use Rattle.std.specs.Result.{result_err}

pub returns-in_err-shares-clause-images : goal.returns-in_err-shares-clause-images
returns-in_err-shares-clause-images g c which co v m conts is may told asked image left = inl (unchanged_images reading (g.D.Disks.view c.args.disks.now) c.args.self.now which co v is told asked image left)

-- ROOM

pub make_room-requires-clause-stands : goal.make_room-requires-clause-stands
make_room-requires-clause-stands g c = let s = c.requires.stands in record { which = s.which; c = s.c; v = s.v; is = s.is }

pub make_room-requires-clause-size : goal.make_room-requires-clause-size
make_room-requires-clause-size g c =
    let s = c.requires.stands in
    let shared : c.deref.result.now ≡ shares_in c.args.self.now c.args.changes.now = c.deref.ensures.value ∙ c.in_ok-shares.ensures in
    share_each reading (g.D.Disks.view c.args.disks.now) c.args.self.now s.which s.c s.v s.is c.args.unit c.args.changes.now c.args.mv.now s.m s.conts s.may c.deref.result.now shared

pub returns-in_err-make_room-clause-boot : goal.returns-in_err-make_room-clause-boot
returns-in_err-make_room-clause-boot g c = ap (λ (n : ℕ × ℕ). n.0) c.in_err-make_room.ensures.makes.numbers

pub returns-in_err-make_room-clause-images : goal.returns-in_err-make_room-clause-images
returns-in_err-make_room-clause-images g c which co v m conts is may told asked image left = inl (c.in_err-make_room.ensures.makes.images which co v is told asked image left)

pub returns-in_err-make_room-clause-others : goal.returns-in_err-make_room-clause-others
returns-in_err-make_room-clause-others g c =
    let p = err_from_is_err_and c.from_residual-in_err-make_room.result c.from_residual-in_err-make_room.ensures.1 in
    rw (answer_is c.from_residual-in_err-make_room.result p.0 c.in_err-make_room.field-0.0 p.1 p.2) c.in_err-make_room.ensures.makes.others

pub returns-in_err-make_room-clause-cause : goal.returns-in_err-make_room-clause-cause
returns-in_err-make_room-clause-cause g c =
    let p = err_from_is_err_and c.from_residual-in_err-make_room.result c.from_residual-in_err-make_room.ensures.1 in
    rw (answer_is c.from_residual-in_err-make_room.result p.0 c.in_err-make_room.field-0.0 p.1 p.2) c.in_err-make_room.ensures.makes.cause

pub returns-in_err-make_room-clause-full : goal.returns-in_err-make_room-clause-full
returns-in_err-make_room-clause-full g c told =
    let p = err_from_is_err_and c.from_residual-in_err-make_room.result c.from_residual-in_err-make_room.ensures.1 in
    let e = g.D.Disks.view c.make_room.new.disks in
    rw (answer_is c.from_residual-in_err-make_room.result p.0 c.in_err-make_room.field-0.0 p.1 p.2)
    (room_commit e c.args.self.now c.args.unit c.args.changes.now c.args.mv.now c.deref.result.now (c.deref.ensures.value ∙ c.in_ok-shares.ensures) (Some c.in_err-make_room.field-0.0) (c.in_err-make_room.ensures.makes.full told))

-- THE UNIT behind it

pub commit_shares-requires-clause-stands : goal.commit_shares-requires-clause-stands
commit_shares-requires-clause-stands g c =
    stands_to_commit (g.D.Disks.view c.args.disks.now) (g.D.Disks.view c.make_room.new.disks) c.args.self.now c.make_room.new.self c.deref.result.now c.in_ok-make_room.ensures.makes c.args.unit c.args.changes.now c.args.mv.now c.requires.stands

pub commit_shares-requires-clause-below : goal.commit_shares-requires-clause-below
commit_shares-requires-clause-below g c = omega (arith, c.requires.below, ap (λ (n : ℕ × ℕ). n.1) c.in_ok-make_room.ensures.makes.numbers)

pub commit_shares-requires-clause-rests : goal.commit_shares-requires-clause-rests
commit_shares-requires-clause-rests g c = subst (λ (o : Option Pace). IfSome o Rests) (sym c.in_ok-make_room.ensures.makes.messages) c.requires.rests

pub commit_shares-requires-clause-new : goal.commit_shares-requires-clause-new
commit_shares-requires-clause-new g c = subst (λ (o : Option Pace). IfSome o (IsUnknown c.args.unit)) (sym c.in_ok-make_room.ensures.makes.messages) c.requires.new

pub commit_shares-requires-clause-shared : goal.commit_shares-requires-clause-shared
commit_shares-requires-clause-shared g c = c.in_ok-shares.ensures ∙ ap (λ (s : Shape). shares_of s c.args.changes.now) (sym c.in_ok-make_room.ensures.makes.shape)

pub commit_shares-requires-clause-room : goal.commit_shares-requires-clause-room
commit_shares-requires-clause-room g c = c.in_ok-make_room.ensures.makes.room refl

pub commit_shares-requires-clause-room_each : goal.commit_shares-requires-clause-room_each
commit_shares-requires-clause-room_each g c =
    subst (λ l. HaveRoom (length c.make_room.new.self.parts) c.make_room.new.self.parts l) c.deref.ensures.value c.in_ok-make_room.ensures.room

pub returns-clause-ok : goal.returns-clause-ok
returns-clause-ok g c which co v m conts is may =
    let b = g.D.Disks.view c.make_room.new.disks in
    let made = c.in_ok-make_room.ensures.makes in
    let now = made.on refl which co v is in
    let may' = may_commit_on b.told co v now.0 c.args.unit c.args.changes.now c.args.mv.now m conts (subst (λ (t : Bool). MayCommitUnit t reading co v c.args.unit c.args.changes.now c.args.mv.now m conts) (sym made.others.shape.told) may) in
    ok_maps c.commit_shares.result (λ z. (now.0, z)) (c.commit_shares.ensures.ok now.0.which now.0.coordinator now.0.views m conts now.1 may')

pub returns-clause-number : goal.returns-clause-number
returns-clause-number g c = subst (λ (n : ℕ). IfOk c.commit_shares.result (λ k. k ≡ n + 1)) (ap (λ (n : ℕ × ℕ). n.1) c.in_ok-make_room.ensures.makes.numbers) c.commit_shares.ensures.number

pub returns-clause-boot : goal.returns-clause-boot
returns-clause-boot g c = c.commit_shares.ensures.boot ∙ ap (λ (n : ℕ × ℕ). n.0) c.in_ok-make_room.ensures.makes.numbers

pub returns-clause-images : goal.returns-clause-images
returns-clause-images g c which co v m conts is may told =
    let b = g.D.Disks.view c.make_room.new.disks in
    let e = g.D.Disks.view c.commit_shares.new.disks in
    let made = c.in_ok-make_room.ensures.makes in
    let now = made.on refl which co v is in
    let may' = may_commit_on b.told co v now.0 c.args.unit c.args.changes.now c.args.mv.now m conts (subst (λ (t : Bool). MayCommitUnit t reading co v c.args.unit c.args.changes.now c.args.mv.now m conts) (sym made.others.shape.told) may) in
    commit_on b.told co v now.0 c.args.unit c.args.changes.now c.args.mv.now m conts e (c.commit_shares.ensures.images now.0.which now.0.coordinator now.0.views m conts now.1 may' (made.others.shape.told ∙ told))

pub returns-clause-net : goal.returns-clause-net
returns-clause-net g c =
    let made = c.in_ok-make_room.ensures.makes in
    let cs = c.args.changes.now in
    subst (λ (o : Option Pace). OnOk c.commit_shares.result (net_of c.commit_shares.new.self ≡ option_map (commits c.args.unit (nodes_in (shape_of_store c.args.self.now) cs)) (option_map turning_of o))) made.messages
    (subst (λ (s : Shape). OnOk c.commit_shares.result (net_of c.commit_shares.new.self ≡ option_map (commits c.args.unit (nodes_in s cs)) (net_of c.make_room.new.self))) made.shape c.commit_shares.ensures.net)

pub returns-clause-others_new : goal.returns-clause-others_new
returns-clause-others_new g c =
    let made = c.in_ok-make_room.ensures.makes in
    ok_maps c.commit_shares.result (λ (all : (w : Id) → is_same_id w c.args.unit ≡ false → IfSome c.make_room.new.self.messages (IsUnknown w) → IfSome c.commit_shares.new.self.messages (IsUnknown w)) w other new.
    all w other (subst (λ (o : Option Pace). IfSome o (IsUnknown w)) (sym made.messages) new)) c.commit_shares.ensures.others_new

pub returns-clause-others : goal.returns-clause-others
returns-clause-others g c =
    let d = g.D.Disks.view c.args.disks.now in
    let b = g.D.Disks.view c.make_room.new.disks in
    let e = g.D.Disks.view c.commit_shares.new.disks in
    let y = c.make_room.new.self in
    let made = c.in_ok-make_room.ensures.makes in
    let s = c.requires.stands in
    let now = made.on refl s.which s.c s.v s.is in
    others_on d b c.args.self.now y c.deref.result.now made e (result_err c.commit_shares.result)
    (keeps_wider (IsCommitDevice y c.args.changes.now) (IsStoreDevice (shape_of_store y).parts) b e (result_err c.commit_shares.result) (of_store b e y now.0.which now.0.coordinator now.0.views now.1 c.args.changes.now) c.commit_shares.ensures.others)

pub returns-clause-cause : goal.returns-clause-cause
returns-clause-cause g c =
    cause_on (g.D.Disks.view c.args.disks.now) (g.D.Disks.view c.make_room.new.disks) (g.D.Disks.view c.commit_shares.new.disks) (result_err c.commit_shares.result) c.in_ok-make_room.ensures.makes.cause c.commit_shares.ensures.cause

pub returns-clause-full : goal.returns-clause-full
returns-clause-full g c told =
    let b = g.D.Disks.view c.make_room.new.disks in
    let e = g.D.Disks.view c.commit_shares.new.disks in
    let y = c.make_room.new.self in
    let made = c.in_ok-make_room.ensures.makes in
    let s = c.requires.stands in
    let now = made.on refl s.which s.c s.v s.is in
    let here = made.others.shape.told ∙ told in
    commit_full b e y now.0.which now.0.coordinator now.0.views now.1 here c.commit_shares.ensures.others.shape c.args.self.now (sym made.shape) c.args.unit c.args.changes.now c.args.mv.now c.commit_shares.result c.commit_shares.ensures.others
    (c.commit_shares.ensures.untouched here) (c.commit_shares.ensures.full here)
