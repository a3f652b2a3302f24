use Rattle.std.proofs.Common.{◌≡◌, ◌+◌, ◌<◌, ◌≤◌, ◌^◌, ◌++◌, [], ◌∷◌, ℕ, List, length, Some, refl, sym, ◌∙◌, ap, subst, arith, length-append}
use Rattle.std.proofs.lemmas.Result.{err_from_is_err_and}
use Rattle.salt_disk.specs.Disks.{FullExactly}
use Rattle.salt_disk.proofs.CallAfterCall.{full_later}
use Rattle.salt_bytes.specs.Log.{framed, spelled}
use Rattle.std.proofs.lemmas.List.{take-append-le}
use Rattle.salt_gatelog.proofs.Bytes.{length-framed, length-spelled-push, count_within}
use Rattle.salt_gatelog.proofs.Appends.{at_start, behind, stages, weaker, opening, opens}
use Rattle.salt_gatelog.specs.Log.{payload_in}
use Rattle.salt_gatelog.proofs.log.GateLog.append_frame.Goals as goal

pub returns-in_err-frame-clause-images : goal.returns-in_err-frame-clause-images
returns-in_err-frame-clause-images g c entries is =
    let log = c.args.self.now in
    let dev = log.dev in
    let payload = payload_in c.args.frame.items in
    let d = g.D.Disks.view c.args.disks.now in
    weaker d dev entries payload (at_start entries payload log d (omega arith) is)

pub returns-in_err-write_and_sync-clause-images : goal.returns-in_err-write_and_sync-clause-images
returns-in_err-write_and_sync-clause-images g c entries is =
    let log = c.args.self.now in
    let dev = log.dev in
    let payload = payload_in c.args.frame.items in
    let d = g.D.Disks.view c.args.disks.now in
    let d1 = g.D.Disks.view c.write_and_sync.new.disks in
    weaker d1 dev entries payload (behind entries payload log d (omega arith) is d1 (log.end + 1) (length c.deref.result.now) refl c.write_and_sync.ensures.others.shape c.write_and_sync.ensures.images)

pub returns-in_err-write_and_sync-2-clause-images : goal.returns-in_err-write_and_sync-2-clause-images
returns-in_err-write_and_sync-2-clause-images g c entries is =
    let log = c.args.self.now in
    let dev = log.dev in
    let payload = payload_in c.args.frame.items in
    let d = g.D.Disks.view c.args.disks.now in
    let d1 = g.D.Disks.view c.write_and_sync.new.disks in
    let whole : c.deref.result.now ≡ framed payload ++ 0 ∷ [] = c.deref.ensures.value ∙ c.in_ok-frame.ensures in
    let size : length c.deref.result.now ≡ length payload + 9 = omega (arith, ap length whole, length-append (framed payload) (0 ∷ []), length-framed payload) in
    let room : log.end + 10 + length payload ≤ d.limit dev = omega (arith, c.in_ok-write_and_sync.ensures.full, size) in
    let fits : log.end + 9 + length payload < 2 ^ 64 = omega (arith, room, c.write_and_sync.ensures.limit) in
    let staged = stages entries payload log d (omega arith) is d1 (log.end + 1) c.deref.result.now refl whole c.write_and_sync.ensures.others.shape c.in_ok-write_and_sync.ensures.bytes c.in_ok-write_and_sync.ensures.settled in
    let d2 = g.D.Disks.view c.write_and_sync-2.new.disks in
    let either = opening entries payload log is.end fits d1 staged d2 c.write_and_sync-2.ensures.others.shape c.write_and_sync-2.ensures.images in
    either

pub returns-clause-images : goal.returns-clause-images
returns-clause-images g c entries is =
    let log = c.args.self.now in
    let dev = log.dev in
    let payload = payload_in c.args.frame.items in
    let d = g.D.Disks.view c.args.disks.now in
    let d1 = g.D.Disks.view c.write_and_sync.new.disks in
    let whole : c.deref.result.now ≡ framed payload ++ 0 ∷ [] = c.deref.ensures.value ∙ c.in_ok-frame.ensures in
    let size : length c.deref.result.now ≡ length payload + 9 = omega (arith, ap length whole, length-append (framed payload) (0 ∷ []), length-framed payload) in
    let room : log.end + 10 + length payload ≤ d.limit dev = omega (arith, c.in_ok-write_and_sync.ensures.full, size) in
    let fits : log.end + 9 + length payload < 2 ^ 64 = omega (arith, room, c.write_and_sync.ensures.limit) in
    let staged = stages entries payload log d (omega arith) is d1 (log.end + 1) c.deref.result.now refl whole c.write_and_sync.ensures.others.shape c.in_ok-write_and_sync.ensures.bytes c.in_ok-write_and_sync.ensures.settled in
    let d2 = g.D.Disks.view c.write_and_sync-2.new.disks in
    let either = opening entries payload log is.end fits d1 staged d2 c.write_and_sync-2.ensures.others.shape c.write_and_sync-2.ensures.images in
    either

pub returns-clause-ok : goal.returns-clause-ok
returns-clause-ok g c entries is =
    let log = c.args.self.now in
    let dev = log.dev in
    let payload = payload_in c.args.frame.items in
    let d = g.D.Disks.view c.args.disks.now in
    let d1 = g.D.Disks.view c.write_and_sync.new.disks in
    let whole : c.deref.result.now ≡ framed payload ++ 0 ∷ [] = c.deref.ensures.value ∙ c.in_ok-frame.ensures in
    let size : length c.deref.result.now ≡ length payload + 9 = omega (arith, ap length whole, length-append (framed payload) (0 ∷ []), length-framed payload) in
    let room : log.end + 10 + length payload ≤ d.limit dev = omega (arith, c.in_ok-write_and_sync.ensures.full, size) in
    let fits : log.end + 9 + length payload < 2 ^ 64 = omega (arith, room, c.write_and_sync.ensures.limit) in
    let staged = stages entries payload log d (omega arith) is d1 (log.end + 1) c.deref.result.now refl whole c.write_and_sync.ensures.others.shape c.in_ok-write_and_sync.ensures.bytes c.in_ok-write_and_sync.ensures.settled in
    let d2 = g.D.Disks.view c.write_and_sync-2.new.disks in
    let either = opening entries payload log is.end fits d1 staged d2 c.write_and_sync-2.ensures.others.shape c.write_and_sync-2.ensures.images in
    record {
      known = omega (arith, is.known, c.write_and_sync.ensures.others.shape.count, c.write_and_sync-2.ensures.others.shape.count);
      end = omega (arith, is.end, length-spelled-push entries payload);
      room = omega (arith, room, c.write_and_sync.ensures.limit);
      count = omega (arith, is.count, length-append entries (payload ∷ []));
      file = opens entries payload log is.end fits d1 staged d2 c.write_and_sync-2.ensures.others.shape c.in_ok-write_and_sync-2.ensures.bytes;
      settled = c.in_ok-write_and_sync-2.ensures.settled;
      next = omega (arith, is.next);
      within = omega (arith, is.within);
      place = λ told.
          is.place (sym c.write_and_sync.ensures.others.shape.told ∙ sym c.write_and_sync-2.ensures.others.shape.told ∙ told)
          ∙ sym (ap (λ (es : List (List ℕ)). length (spelled es)) (take-append-le log.next entries (payload ∷ []) (omega (arith, is.next, is.count))));
      block = tt;
    }

pub returns-in_err-write_and_sync-clause-full : goal.returns-in_err-write_and_sync-clause-full
returns-in_err-write_and_sync-clause-full g c =
    let log = c.args.self.now in
    let dev = log.dev in
    let payload = payload_in c.args.frame.items in
    let d = g.D.Disks.view c.args.disks.now in
    let whole : c.deref.result.now ≡ framed payload ++ 0 ∷ [] = c.deref.ensures.value ∙ c.in_ok-frame.ensures in
    let size : length c.deref.result.now ≡ length payload + 9 = omega (arith, ap length whole, length-append (framed payload) (0 ∷ []), length-framed payload) in
    let p = err_from_is_err_and c.from_residual-in_err-write_and_sync.result c.from_residual-in_err-write_and_sync.ensures.1 in
    rw (p.1, p.2) (subst (λ (end : ℕ). FullExactly dev (d.limit dev) end (Some c.in_err-write_and_sync.field-0.0)) (omega (arith, size)) c.in_err-write_and_sync.ensures.full)

pub returns-in_err-write_and_sync-2-clause-full : goal.returns-in_err-write_and_sync-2-clause-full
returns-in_err-write_and_sync-2-clause-full g c =
    let log = c.args.self.now in
    let dev = log.dev in
    let payload = payload_in c.args.frame.items in
    let d = g.D.Disks.view c.args.disks.now in
    let whole : c.deref.result.now ≡ framed payload ++ 0 ∷ [] = c.deref.ensures.value ∙ c.in_ok-frame.ensures in
    let size : length c.deref.result.now ≡ length payload + 9 = omega (arith, ap length whole, length-append (framed payload) (0 ∷ []), length-framed payload) in
    let room : log.end + 10 + length payload ≤ d.limit dev = omega (arith, c.in_ok-write_and_sync.ensures.full, size) in
    let fits : log.end + 9 + length payload < 2 ^ 64 = omega (arith, room, c.write_and_sync.ensures.limit) in
    let p = err_from_is_err_and c.from_residual-in_err-write_and_sync-2.result c.from_residual-in_err-write_and_sync-2.ensures.1 in
    rw (p.1, p.2) (full_later dev (d.limit dev) ((g.D.Disks.view c.write_and_sync.new.disks).limit dev) (log.end + 10 + length payload) (log.end + 1) c.in_err-write_and_sync-2.field-0.0 c.in_err-write_and_sync-2.ensures.full (c.write_and_sync.ensures.others.shape.limit dev) (omega (arith, room)) room)

pub returns-clause-full : goal.returns-clause-full
returns-clause-full g c =
    let log = c.args.self.now in
    let dev = log.dev in
    let payload = payload_in c.args.frame.items in
    let d = g.D.Disks.view c.args.disks.now in
    let whole : c.deref.result.now ≡ framed payload ++ 0 ∷ [] = c.deref.ensures.value ∙ c.in_ok-frame.ensures in
    let size : length c.deref.result.now ≡ length payload + 9 = omega (arith, ap length whole, length-append (framed payload) (0 ∷ []), length-framed payload) in
    let room : log.end + 10 + length payload ≤ d.limit dev = omega (arith, c.in_ok-write_and_sync.ensures.full, size) in
    let fits : log.end + 9 + length payload < 2 ^ 64 = omega (arith, room, c.write_and_sync.ensures.limit) in
    room

pub overflow_add-self : goal.overflow_add-self
overflow_add-self g c = omega (arith, c.requires.log.1.room)

pub overflow_add-self-2 : goal.overflow_add-self-2
overflow_add-self-2 g c =
    let log = c.args.self.now in
    let dev = log.dev in
    let payload = payload_in c.args.frame.items in
    let d = g.D.Disks.view c.args.disks.now in
    let whole : c.deref.result.now ≡ framed payload ++ 0 ∷ [] = c.deref.ensures.value ∙ c.in_ok-frame.ensures in
    let size : length c.deref.result.now ≡ length payload + 9 = omega (arith, ap length whole, length-append (framed payload) (0 ∷ []), length-framed payload) in
    let room : log.end + 10 + length payload ≤ d.limit dev = omega (arith, c.in_ok-write_and_sync.ensures.full, size) in
    let fits : log.end + 9 + length payload < 2 ^ 64 = omega (arith, room, c.write_and_sync.ensures.limit) in
    omega (arith, fits, c.requires.log.1.count, c.requires.log.1.end, count_within c.requires.log.0)

pub overflow_add-self-3 : goal.overflow_add-self-3
overflow_add-self-3 g c =
    let log = c.args.self.now in
    let dev = log.dev in
    let payload = payload_in c.args.frame.items in
    let d = g.D.Disks.view c.args.disks.now in
    let whole : c.deref.result.now ≡ framed payload ++ 0 ∷ [] = c.deref.ensures.value ∙ c.in_ok-frame.ensures in
    let size : length c.deref.result.now ≡ length payload + 9 = omega (arith, ap length whole, length-append (framed payload) (0 ∷ []), length-framed payload) in
    let room : log.end + 10 + length payload ≤ d.limit dev = omega (arith, c.in_ok-write_and_sync.ensures.full, size) in
    let fits : log.end + 9 + length payload < 2 ^ 64 = omega (arith, room, c.write_and_sync.ensures.limit) in
    omega (arith, fits, c.requires.log.1.count, c.requires.log.1.end, count_within c.requires.log.0)
