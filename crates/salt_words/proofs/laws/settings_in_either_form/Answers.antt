use Rattle.salt_words.proofs.Forms.{settings-same}
use Rattle.salt_words.proofs.laws.settings_in_either_form.Goals as goal
use Rattle.salt_promise.specs.Words.{Settings, script_with}
use Rattle.std.proofs.Common.{ap}
use Rattle.std.specs.Prelude.{option_and_then, option_map}

pub returns-clause-command : goal.returns-clause-command
returns-clause-command c = λ setting value before after h. ap (option_map script_with) (settings-same setting value before after h)

pub returns-clause-folder : goal.returns-clause-folder
returns-clause-folder c = λ setting value before after h. ap (option_and_then (λ (s : Settings). s.folder)) (settings-same setting value before after h)
