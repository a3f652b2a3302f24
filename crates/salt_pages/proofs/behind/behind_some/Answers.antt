use Rattle.salt_pages.proofs.Bytes.{are_bytes}
use Rattle.salt_pages.proofs.Tagged.{last, row_taken, shorter}
use Rattle.salt_pages.proofs.behind.behind_some.Goals as goal
use Rattle.std.proofs.Common.{arith, ◌∷◌}

pub overflow_sub-tag : goal.overflow_sub-tag
overflow_sub-tag c = omega (arith, shorter c.args.nulls c.args.bytes.now (are_bytes c.args.bytes.now (λ k. omega (arith, c.type_inv.bytes k))) c.in_ok-rest.ensures.0 c.in_ok-rest.rest.now c.in_ok-rest.ensures.1)

pub overflow_sub-tag-2 : goal.overflow_sub-tag-2
overflow_sub-tag-2 c = omega (arith, shorter c.args.nulls c.args.bytes.now (are_bytes c.args.bytes.now (λ k. omega (arith, c.type_inv.bytes k))) c.in_ok-rest.ensures.0 c.in_ok-rest.rest.now c.in_ok-rest.ensures.1)

pub returns : goal.returns
returns c =
    let key = c.in_ok-rest.ensures in
    let others = c.in_ok-behind.ensures in
    let small = are_bytes c.args.bytes.now (λ k. omega (arith, c.type_inv.bytes k)) in (
      key.0 ∷ others.0,
      row_taken c.args.nulls c.args.bytes.now small key.0 c.in_ok-rest.rest.now key.1 c.args.count others.0 c.in_ok-behind.behind.now c.requires others.1,
      last c.args.nulls c.args.bytes.now small key.0 c.in_ok-rest.rest.now key.1,
    )
