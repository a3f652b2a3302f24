use Rattle.salt_words.proofs.Orders.{settings-swapped}
use Rattle.salt_words.proofs.laws.settings_in_any_order.Goals as goal
use Rattle.salt_promise.specs.Words.{Settings, script_with}
use Rattle.std.proofs.Common.{ap}
use Rattle.std.specs.Prelude.{option_and_then, option_map}

pub returns-clause-command : goal.returns-clause-command
returns-clause-command c = λ a b some_a some_b. ap (option_map script_with) (settings-swapped a b some_a some_b)

pub returns-clause-folder : goal.returns-clause-folder
returns-clause-folder c = λ a b some_a some_b. ap (option_and_then (λ (s : Settings). s.folder)) (settings-swapped a b some_a some_b)
