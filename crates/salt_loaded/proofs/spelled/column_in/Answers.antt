use Rattle.salt_loaded.proofs.Columns.{column_at, goes_on, past, stepped}
use Rattle.salt_loaded.proofs.spelled.column_in.Goals as goal
use Rattle.std.proofs.Common.{arith}

pub returns-then-count-number : goal.returns-then-count-number
returns-then-count-number c = λ r rest h. past c.args.row.now c.args.number c.in-len1-up.len_at_least c.if-count-number.true r rest h

pub returns-in_default-behind_value : goal.returns-in_default-behind_value
returns-in_default-behind_value c =
    λ r rest h. let below = c.if-count-number.false in let i = c.loop-passed-test.true in
    absurd (goes_on c.args.row.now c.loop-passed._passed c.loop-passed.rest.now (omega (arith, below, i)) c.loop-passed.invariant r rest h (λ v more t. c.in_default-behind_value.ensures v more t))

pub loop-passed-preserved : goal.loop-passed-preserved
loop-passed-preserved c =
    λ r rest h. let below = c.if-count-number.false in let i = c.loop-passed-test.true in
    stepped c.args.row.now c.loop-passed._passed c.loop-passed.rest.now (omega (arith, below, i)) c.loop-passed.invariant r rest h c.in-Some.behind.now (λ v more t. c.in-Some.ensures v more t)

pub returns : goal.returns
returns c = λ r rest h. column_at c.args.row.now c.loop-passed._passed c.args.number c.loop-passed.rest.now c.loop-passed.auto._passed-end c.loop-passed-test.false c.if-count-number.false c.loop-passed.invariant r rest h
