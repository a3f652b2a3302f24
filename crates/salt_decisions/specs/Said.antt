-- What was read of a log says what the log says.
use Rattle.salt_bytes.specs.Coordinator.{Decision, NumberedText}
use Rattle.salt_decisions.specs.Header.{numbered_of}
use Rattle.salt_decisions.specs.declared.said.Said.{Said}
use Rattle.salt_stands.specs.Coordinator.{unit_of}
use Rattle.salt_stands.specs.CoordinatorLog.{Told}
use Rattle.std.specs.Prelude.{Bool, List, None, Option, Some, false, map, true, ℕ, ◌≡◌}

abbrev pub mask_of : Decision → ℕ
mask_of d = d.mask

abbrev pub move_of : Decision → List ℕ
move_of d = d.move

abbrev pub text_of : NumberedText → List ℕ
text_of t = t.text

pub record SaysTold (s : Said) (t : Told) : Type 0 where
  pub boot : s.boot ≡ t.boot
  pub decisions : s.decisions ≡ t.decisions
  pub definitions : map numbered_of s.definitions ≡ t.definitions
  pub decided : s.decided ≡ map unit_of t.decided
  pub masks : s.masks ≡ map mask_of t.decided
  pub moves : s.moves ≡ map move_of t.decided

-- with one entry more, where it follows on
abbrev pub HasHeard : Bool → Said → Option Told → Type 0
HasHeard true s o = (now : Told) × ((o ≡ Some now) × SaysTold s now)
HasHeard false s o = o ≡ None
