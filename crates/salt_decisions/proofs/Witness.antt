-- There is a log that is opened: the first one, of two partitions, on disks that tell their bytes.
use Rattle.salt_bytes.specs.Generations.{Counts, IsRead, LogA, content_of, pair_of, read_or_outside}
use Rattle.salt_bytes.specs.Log.{entries_in, framed, spelled}
use Rattle.salt_decisions.proofs.Begun.{first_log}
use Rattle.salt_decisions.proofs.Contents.{log_bytes}
use Rattle.salt_decisions.proofs.Moving.{some_same}
use Rattle.salt_decisions.specs.Decisions.{IsDecisions}
use Rattle.salt_decisions.specs.Opened.{begun, first_payload}
use Rattle.salt_decisions.specs.declared.decisions.Decisions.{Decisions}
use Rattle.salt_disk.specs.Disks.{View}
use Rattle.salt_gatelog.specs.Log.{IsLog}
use Rattle.salt_gatelog.specs.declared.log.GateLog.{GateLog}
use Rattle.salt_stands.specs.CoordinatorLog.{coordinator_generation, coordinator_in}
use Rattle.salt_place.specs.declared.placement.PlaceKind.TheVariants.{Remainder}
use Rattle.salt_place.specs.declared.placement.Shape.{Shape}
use Rattle.std.proofs.Common.{List, None, [], ap, arith, false, refl, suc, true, zero, ℕ, ◌++◌, ◌∙◌, ◌∷◌, ◌≡◌}
use Rattle.std.specs.Prelude.{length}

abbrev shape : Shape
shape = record { parts = 2; kind = Remainder }

abbrev bytes : ℕ → List ℕ
bytes zero = spelled (first_payload shape ∷ []) ++ 0 ∷ []
bytes (suc dev) = []

abbrev view : View
view = record { count = 2; limit = λ dev. 1000; can_stop = false; told = true; bytes = bytes; image = λ dev c. c ≡ bytes dev; faults = 0; armed = [] }

abbrev gate : GateLog
gate = record { dev = 0; end = 57; count = 1; next = 0; place = 0; block = None }

abbrev counting : Decisions
counting = record { which = LogA; gate = gate; format = 3; generation = 1; shape = shape; boot = 0; decisions = 0; definitions = []; conts = [] }

end_is : 57 ≡ length (spelled (first_payload shape ∷ []))
unfolding framed
end_is = refl

is_log : IsLog view gate (first_payload shape ∷ [])
is_log = record {
  known = omega arith;
  end = end_is;
  room = omega arith;
  count = refl;
  file = λ told. record { gate = 0; rest = []; is_closed = λ e. omega (arith, e); bytes_are = refl };
  settled = λ c left. left;
  next = omega arith;
  within = omega arith;
  place = λ told. refl;
  block = tt;
}

blank_behind : pair_of coordinator_generation (IsRead (begun shape)) (content_of coordinator_in (entries_in [])) ≡ Counts LogA (begun shape)
unfolding entries_in
blank_behind = refl

pub witness : IsDecisions view counting LogA (begun shape)
witness = record {
  own = refl;
  holds = record { format = refl; generation = refl; shape = refl; boot = refl; decisions = refl; definitions = refl; conts = λ rises cs is. some_same [] cs is; parts = refl };
  counting = record {
    entries = first_payload shape ∷ [];
    is_log = is_log;
    device = refl;
    known = omega arith;
    other = λ c left. left;
    counts = λ told.
        ap (λ o. pair_of coordinator_generation (content_of coordinator_in o) (content_of coordinator_in (entries_in []))) (log_bytes view gate (first_payload shape ∷ []) refl is_log)
        ∙ ap (λ x. pair_of coordinator_generation (read_or_outside x) (content_of coordinator_in (entries_in []))) (first_log shape (first_payload shape) (omega arith, omega arith) refl)
        ∙ blank_behind;
  };
}
