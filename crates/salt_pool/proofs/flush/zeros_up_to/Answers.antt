use Rattle.salt_checkpoint.specs.Sides.{all_written}
use Rattle.salt_disk.specs.Disks.{IsUnchanged}
use Rattle.salt_pool.proofs.Left.{full_only, keeps_none, keeps_zeros, left_same, left_zeros, unless_nothing}
use Rattle.salt_pool.proofs.Writing.{zeros_are}
use Rattle.salt_pool.proofs.flush.zeros_up_to.Goals as goal
use Rattle.salt_pool.specs.Flushing.{IsLeftBy}
use Rattle.std.proofs.Common.{List, [], ap, arith, length, refl, take, ◌+◌, ◌-◌, ◌≡◌, ◌≤◌, ◌∙◌, ℕ}
use Rattle.std.proofs.lemmas.List.{length-replicate, take-replicate}
use Rattle.std.proofs.lemmas.Result.{err_from_is_err_and}
use Rattle.std.specs.Prelude.{replicate}

zeros_length : (n : ℕ) → n ≤ 8192 → length {A = ℕ} (take n (replicate 8192 0)) ≡ n
zeros_length n low = ap (λ (l : List ℕ). length l) (take-replicate {X = ℕ} n 8192 0 low) ∙ length-replicate {A = ℕ} n 0

pub returns-in_ok-put-clause-bytes : goal.returns-in_ok-put-clause-bytes
returns-in_ok-put-clause-bytes g c told =
    c.in_ok-put.ensures.bytes told ∙ ap (λ ws. all_written ws ((g.D.Disks.view c.args.disks.now).bytes c.args.dev)) (zeros_are c.args.len.now c.args.at _ c.if-end-at.true (take-replicate {X = ℕ} (c.args.at - c.args.len.now) 8192 0 (omega (arith, c.requires.near))))

pub returns-in_err-put-clause-left : goal.returns-in_err-put-clause-left
returns-in_err-put-clause-left g c =
    let d0 = g.D.Disks.view c.args.disks.now in
    let d1 = g.D.Disks.view c.put.new.disks in
    let dev = c.args.dev in
    let len = c.args.len.now in
    let p = err_from_is_err_and c.from_residual.result c.from_residual.ensures.1 in
    rw (p.1, p.2) (unless_nothing c.in_err-put.field-0.0 (IsUnchanged d0 d1 dev) (IsLeftBy len [] d0 d1 dev len) (λ h. left_same len [] d0 d1 dev len c.requires.length h.bytes) c.in_err-put.ensures.nothing)

pub returns-in_ok-put-clause-left : goal.returns-in_ok-put-clause-left
returns-in_ok-put-clause-left g c =
    let d0 = g.D.Disks.view c.args.disks.now in
    let d1 = g.D.Disks.view c.put.new.disks in
    let len = c.args.len.now in
    let at = c.args.at in
    left_zeros len at (take (at - len) (replicate 8192 0)) d0 d1 c.args.dev c.if-end-at.true (zeros_length (at - len) (omega (arith, c.requires.near))) c.requires.length c.in_ok-put.ensures.bytes

pub returns-else-end-at-clause-left : goal.returns-else-end-at-clause-left
returns-else-end-at-clause-left g c =
    let d0 = g.D.Disks.view c.args.disks.now in
    left_same c.args.len.now [] d0 d0 c.args.dev c.args.len.now c.requires.length refl

pub returns-in_err-put-clause-images : goal.returns-in_err-put-clause-images
returns-in_err-put-clause-images g c = keeps_zeros c.args.len.now (length {A = ℕ} (take (c.args.at - c.args.len.now) (replicate 8192 0))) (g.D.Disks.view c.args.disks.now) (g.D.Disks.view c.put.new.disks) c.args.dev c.put.ensures.images

pub returns-in_ok-put-clause-images : goal.returns-in_ok-put-clause-images
returns-in_ok-put-clause-images g c = keeps_zeros c.args.len.now (length {A = ℕ} (take (c.args.at - c.args.len.now) (replicate 8192 0))) (g.D.Disks.view c.args.disks.now) (g.D.Disks.view c.put.new.disks) c.args.dev c.put.ensures.images

pub returns-else-end-at-clause-images : goal.returns-else-end-at-clause-images
returns-else-end-at-clause-images g c =
    let d0 = g.D.Disks.view c.args.disks.now in
    keeps_none c.args.len.now [] d0 d0 c.args.dev (λ image left. left)

pub returns-in_err-put-clause-full : goal.returns-in_err-put-clause-full
returns-in_err-put-clause-full g c =
    let limit = (g.D.Disks.view c.args.disks.now).limit c.args.dev in
    let len = c.args.len.now in
    let at = c.args.at in
    let size : length {A = ℕ} (take (at - len) (replicate 8192 0)) ≡ at - len = zeros_length (at - len) (omega (arith, c.requires.near)) in
    let p = err_from_is_err_and c.from_residual.result c.from_residual.ensures.1 in
    rw (p.1, p.2) (full_only c.args.dev limit limit at (len + length {A = ℕ} (take (at - len) (replicate 8192 0))) c.in_err-put.field-0.0 refl (omega (arith, size, c.if-end-at.true)) c.in_err-put.ensures.full)
