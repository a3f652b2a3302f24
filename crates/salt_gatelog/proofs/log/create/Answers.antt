use Rattle.std.proofs.Common.{◌≡◌, ◌⊎◌, inl, inr, [], ◌∷◌, get_or, refl}
use Rattle.salt_gatelog.proofs.Creates.{creating}
use Rattle.salt_gatelog.proofs.log.create.Goals as goal
use Rattle.salt_gatelog.proofs.log.create.Goals.{then-count-eq0-via-then-count-eq0, then-count-eq0-via-else-count-eq0+then-first-eq1}

pub returns-in_err-write_and_sync-clause-images : goal.returns-in_err-write_and_sync-clause-images
returns-in_err-write_and_sync-clause-images g c =
    let dev = c.args.dev in
    let d = g.D.Disks.view c.args.disks.now in
    let first : (c.in_ok-count.count ≡ 0) ⊎ (get_or c.read.new.buf 0 0 ≡ 1) = elim c.then-count-eq0.branch [
      | then-count-eq0-via-then-count-eq0 w ↦ inl w.if-count-eq0.true
      | then-count-eq0-via-else-count-eq0+then-first-eq1 w ↦ inr w.if-first-eq1.true
    ] in
    creating d (g.D.Disks.view c.read.new.self) (g.D.Disks.view c.write_and_sync.new.disks) dev (1 ∷ []) c.read.new.buf c.in_ok-count.count c.requires.settled c.read.ensures.kept.shape c.write_and_sync.ensures.others.shape (c.read.ensures.kept.images dev (λ none. none)) refl c.in_ok-count.ensures.bytes first c.write_and_sync.ensures.images

pub returns-then-count-eq0-clause-images : goal.returns-then-count-eq0-clause-images
returns-then-count-eq0-clause-images g c =
    let dev = c.args.dev in
    let d = g.D.Disks.view c.args.disks.now in
    let first : (c.in_ok-count.count ≡ 0) ⊎ (get_or c.read.new.buf 0 0 ≡ 1) = elim c.then-count-eq0.branch [
      | then-count-eq0-via-then-count-eq0 w ↦ inl w.if-count-eq0.true
      | then-count-eq0-via-else-count-eq0+then-first-eq1 w ↦ inr w.if-first-eq1.true
    ] in
    creating d (g.D.Disks.view c.read.new.self) (g.D.Disks.view c.write_and_sync.new.disks) dev (1 ∷ []) c.read.new.buf c.in_ok-count.count c.requires.settled c.read.ensures.kept.shape c.write_and_sync.ensures.others.shape (c.read.ensures.kept.images dev (λ none. none)) refl c.in_ok-count.ensures.bytes first c.write_and_sync.ensures.images
