use Rattle.std.proofs.Common.{List, length, ◌≡◌}
use Rattle.salt_script.proofs.Reading.{with_front}
use Rattle.salt_script.proofs.args.items.Given as goal
use Rattle.salt_script.specs.Literals.{HoldsArgs, at_item, behind_item, items_at}
use Rattle.salt_parse.specs.Settling.{ArePrintable}
use Rattle.salt_ast.specs.Symbols.{symbols_in}
use Rattle.salt_values.specs.declared.value.Value.{Value}

-- some literals were read, and the others stand behind them
abbrev pub invariant-items : goal.invariant-items
invariant-items l =
    (read : List Value) × HoldsArgs l.args read × ArePrintable (symbols_in l.args.rest.now) ×
    (items_at at_item (symbols_in l.fn.tokens) ≡ with_front read (items_at behind_item (symbols_in l.args.rest.now)))

abbrev pub decreases-items : goal.decreases-items
decreases-items l = length l.args.rest.now
