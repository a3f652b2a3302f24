use Rattle.std.proofs.Common.{None, Option, Some, [], ap, arith, length, subst, sym, ◌++◌, ◌<◌, ◌∙◌, ◌∷◌, ◌≡◌}
use Rattle.salt_ast.specs.declared.limit.LimitName.{LimitName}
use Rattle.salt_ast.specs.declared.limit.LimitName.TheVariants as limit
use Rattle.salt_script.proofs.Keeping.{full_passes, holds_limit, holds_whole, limit_is, on_ok, room_passes, still_passed, whole_is, within_room}
use Rattle.salt_script.proofs.pairs.Arming.keep.Goals as goal
use Rattle.salt_script.specs.Literals.{HoldsList, pair_passed, pairs_passed}
use Rattle.std.specs.Prelude.{false, is_some, true}

some_is : (o : Option LimitName) → is_some o ≡ true → (l : LimitName) × (o ≡ Some l)
some_is None h = absurd cc
some_is (Some l) h = (l, λ t. Some l)

none_is : (o : Option LimitName) → is_some o ≡ false → o ≡ None
none_is None h = λ t. None
none_is (Some l) h = absurd cc

pub returns-then-is_some-clause-holds : goal.returns-then-is_some-clause-holds
returns-then-is_some-clause-holds c = λ pairs h.
    let passed = pairs_passed c.args.self.now.armed in
    let more = pairs ++ (c.args.first, c.args.second) ∷ [] in
    let some = some_is c.args.self.now.passed (sym c.is_some.ensures ∙ c.if-is_some.true) in
    subst (λ (p : Option LimitName). HoldsList passed p c.args.self.now.pairs more) (sym some.1)
    (holds_limit passed c.args.self.now.pairs more some.0
    (still_passed limit.Pairs (pair_passed c.args.self.now.armed) 8 pairs (c.args.first, c.args.second) some.0 (limit_is passed h some.1)))

pub returns-then-len-eq-PAIRS_MOST-clause-holds : goal.returns-then-len-eq-PAIRS_MOST-clause-holds
returns-then-len-eq-PAIRS_MOST-clause-holds c = λ pairs h.
    let passed = pairs_passed c.args.self.now.armed in
    let more = pairs ++ (c.args.first, c.args.second) ∷ [] in
    let none = none_is c.args.self.now.passed (sym c.is_some.ensures ∙ c.if-is_some.false) in
    let full : length pairs ≡ 8 = sym (ap length (whole_is passed h none)) ∙ sym c.len.ensures ∙ c.if-len-eq-PAIRS_MOST.true in
    holds_limit passed c.args.self.now.pairs more limit.Pairs
    (full_passes limit.Pairs (pair_passed c.args.self.now.armed) 8 pairs (c.args.first, c.args.second) (limit_is passed h none) full)

pub returns-in-Some-clause-holds : goal.returns-in-Some-clause-holds
returns-in-Some-clause-holds c = λ pairs h.
    let passed = pairs_passed c.args.self.now.armed in
    let one = pair_passed c.args.self.now.armed in
    let more = pairs ++ (c.args.first, c.args.second) ∷ [] in
    let none = none_is c.args.self.now.passed (sym c.is_some.ensures ∙ c.if-is_some.false) in
    let within = within_room limit.Pairs one 8 pairs (limit_is passed h none) in
    let room : length pairs < 8 = omega (arith, within, ap length (whole_is passed h none), c.len.ensures, c.if-len-eq-PAIRS_MOST.false) in
    holds_limit passed c.args.self.now.pairs more c.in-Some.limit
    (room_passes limit.Pairs one 8 pairs (c.args.first, c.args.second) (limit_is passed h none) room ∙ sym c.pair_limit.ensures.limit ∙ c.in-Some.is)

pub returns-in-None-clause-holds : goal.returns-in-None-clause-holds
returns-in-None-clause-holds c = on_ok c.push.result
    (λ grown pairs h. (
    let passed = pairs_passed c.args.self.now.armed in
    let one = pair_passed c.args.self.now.armed in
    let more = pairs ++ (c.args.first, c.args.second) ∷ [] in
    let none = none_is c.args.self.now.passed (sym c.is_some.ensures ∙ c.if-is_some.false) in
    let within = within_room limit.Pairs one 8 pairs (limit_is passed h none) in
    let room : length pairs < 8 = omega (arith, within, ap length (whole_is passed h none), c.len.ensures, c.if-len-eq-PAIRS_MOST.false) in
    holds_whole passed c.args.self.now.passed c.push.new.self more none
    (room_passes limit.Pairs one 8 pairs (c.args.first, c.args.second) (limit_is passed h none) room ∙ sym c.pair_limit.ensures.limit ∙ c.in-None.is)
    (grown ∙ ap (λ l. l ++ (c.args.first, c.args.second) ∷ []) (whole_is passed h none)))) c.push.ensures.ok
