use Rattle.salt_locks.proofs.Puts.{goes, is_left, left_invariant, left_view}
use Rattle.salt_locks.proofs.drops.drop_all.Goals as goal
use Rattle.std.proofs.Common.{rules, ◌≡◌}
use Rattle.std.proofs.lemmas.Fn.{filter_same}
use Rattle.std.specs.List.{filter}

pub mark-requires-clause-order : goal.mark-requires-clause-order
mark-requires-clause-order c =
    let left : c.retain.new.self.items ≡ filter (is_left (goes c.args.leaving.now)) c.args.locks.now.items = filter_same _ _ _ (λ x b f' k. search rules) _ _ c.retain.ensures.filtered in
    (left_invariant (goes c.args.leaving.now) c.args.numbers.now.items c.drop_numbers.new.numbers.items c.args.locks.now.items c.retain.new.self.items (c.requires.numbers, c.requires.order)
    c.drop_numbers.ensures left).1

pub returns-clause-numbers : goal.returns-clause-numbers
returns-clause-numbers c =
    let left : c.retain.new.self.items ≡ filter (is_left (goes c.args.leaving.now)) c.args.locks.now.items = filter_same _ _ _ (λ x b f' k. search rules) _ _ c.retain.ensures.filtered in
    (left_invariant (goes c.args.leaving.now) c.args.numbers.now.items c.drop_numbers.new.numbers.items c.args.locks.now.items c.retain.new.self.items (c.requires.numbers, c.requires.order)
    c.drop_numbers.ensures left).0

pub returns-clause-order : goal.returns-clause-order
returns-clause-order c =
    let left : c.retain.new.self.items ≡ filter (is_left (goes c.args.leaving.now)) c.args.locks.now.items = filter_same _ _ _ (λ x b f' k. search rules) _ _ c.retain.ensures.filtered in
    (left_invariant (goes c.args.leaving.now) c.args.numbers.now.items c.drop_numbers.new.numbers.items c.args.locks.now.items c.retain.new.self.items (c.requires.numbers, c.requires.order)
    c.drop_numbers.ensures left).1

pub returns-clause-all : goal.returns-clause-all
returns-clause-all c =
    let left : c.retain.new.self.items ≡ filter (is_left (goes c.args.leaving.now)) c.args.locks.now.items = filter_same _ _ _ (λ x b f' k. search rules) _ _ c.retain.ensures.filtered in
    left_view (goes c.args.leaving.now) c.args.numbers.now.items c.drop_numbers.new.numbers.items c.args.locks.now.items c.retain.new.self.items
    c.drop_numbers.ensures left
