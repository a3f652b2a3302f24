use Rattle.salt_pages.proofs.Appended.{key_longer, no_tag, tag_there}
use Rattle.salt_pages.proofs.Bytes.{are_bytes}
use Rattle.salt_pages.proofs.append.tag_in.Goals as goal
use Rattle.std.proofs.Common.{arith}

pub returns-in_default-behind_value : goal.returns-in_default-behind_value
returns-in_default-behind_value c = λ r taken. no_tag c.args.spelled.now (are_bytes c.args.spelled.now (λ k. omega (arith, c.type_inv.spelled k))) c.in-len3-up.len_at_least r taken c.in_default-behind_value.ensures

pub overflow_sub-result : goal.overflow_sub-result
overflow_sub-result c = omega (arith, key_longer c.args.spelled.now (are_bytes c.args.spelled.now (λ k. omega (arith, c.type_inv.spelled k))) c.in-len3-up.len_at_least c.in-Some.ensures.0 c.in-Some.behind.now c.in-Some.ensures.1)

pub overflow_sub-result-2 : goal.overflow_sub-result-2
overflow_sub-result-2 c = omega (arith, key_longer c.args.spelled.now (are_bytes c.args.spelled.now (λ k. omega (arith, c.type_inv.spelled k))) c.in-len3-up.len_at_least c.in-Some.ensures.0 c.in-Some.behind.now c.in-Some.ensures.1)

pub returns : goal.returns
returns c = λ r taken. tag_there c.args.spelled.now (are_bytes c.args.spelled.now (λ k. omega (arith, c.type_inv.spelled k))) c.in-len3-up.len_at_least r taken c.in-Some.ensures.0 c.in-Some.behind.now c.in-Some.ensures.1
