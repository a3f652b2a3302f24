use Rattle.law_types.proofs.Sound.{all-sound, change-sound}
use Rattle.law_types.proofs.laws.typed_changes_are_sound.Goals as goal

pub returns : goal.returns
returns c = record { one = change-sound; all = all-sound; conts = λ read k c h. h }
