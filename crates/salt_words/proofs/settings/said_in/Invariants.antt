use Rattle.salt_words.proofs.settings.said_in.Given as goal
use Rattle.salt_words.specs.Meanings.{settings_behind}
use Rattle.salt_promise.specs.Words.{all_given, settings_said}
use Rattle.std.proofs.Common.{length, map, ◌≡◌}
use Rattle.std.specs.Prelude.{option_and_then, string_bytes}

abbrev pub invariant-loop-rest : goal.invariant-loop-rest
invariant-loop-rest l = settings_said (map string_bytes l.words) ≡ option_and_then (settings_behind l.said) (all_given (map string_bytes l.rest))

abbrev pub decreases-loop-rest : goal.decreases-loop-rest
decreases-loop-rest l = length l.rest
