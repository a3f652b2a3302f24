-- What is known by a state is what a trace tells.
use Rattle.salt_audit.specs.Formed.{block_of}
use Rattle.salt_audit.specs.Standing.{begun_in}
use Rattle.salt_audit.specs.declared.state.Begun.{Begun}
use Rattle.salt_audit.specs.declared.state.State.{State}
use Rattle.salt_model.specs.After.{kept}
use Rattle.salt_model.specs.Kept.{programs_of, schema_of}
use Rattle.salt_model.specs.Phases.{has_opened}
use Rattle.salt_model.specs.Programs.{accepted_in, finished_in, programs_in}
use Rattle.salt_model.specs.Trace.{Trace}
use Rattle.salt_model.specs.Units.{done_of, is_open, kind_of}
use Rattle.salt_values.specs.declared.cont.Cont.{Cont}
use Rattle.salt_values.specs.declared.id.Id.{Id}
use Rattle.std.specs.Prelude.{List, None, Option, Some, false, length, map, true, ℕ, ◌≡◌}

pub record IsUnit (trace : Trace) (u : Id) (n : Begun) : Type 0 where
  pub kind : kind_of u trace ≡ Some n.kind
  pub standing : is_open trace u ≡ n.is_open
  pub block : is_open trace u ≡ true → block_of u trace ≡ n.block
  pub done : length (done_of u trace) ≡ n.done

-- a unit that has not begun is not open
pub record IsNoUnit (trace : Trace) (u : Id) : Type 0 where
  pub there : kind_of u trace ≡ None
  pub standing : is_open trace u ≡ false

abbrev pub TellsUnit : Trace → Id → Option Begun → Type 0
TellsUnit trace u None = IsNoUnit trace u
TellsUnit trace u (Some n) = IsUnit trace u n

-- where a program stands, whatever its arguments and variables are
pub record Stand : Type 0 where
  pub base : Id
  pub program : List ℕ
  pub next : ℕ
  pub tries : ℕ

abbrev pub stand_of : Cont → Stand
stand_of c = record { base = c.base; program = c.program; next = c.next; tries = c.tries }

pub record Knows (s : State) (trace : Trace) : Type 0 where
  pub opened : has_opened trace ≡ s.opened
  pub schema : schema_of (kept trace) ≡ s.schema
  pub programs : programs_of (kept trace) ≡ s.catalogue
  pub conts : map stand_of (kept trace).conts ≡ map stand_of s.conts
  pub units : (u : Id) → TellsUnit trace u (begun_in u s.units)
  pub bases : programs_in trace ≡ s.bases
  pub accepted : accepted_in trace ≡ s.accepted
  pub finished : finished_in trace ≡ s.finished
