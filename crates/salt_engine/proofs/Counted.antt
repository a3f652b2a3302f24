-- Stops and faults, as a call of the storage counts them.
use Rattle.salt_ast.specs.declared.lines.Line.{Line}
use Rattle.salt_disk.proofs.Coming.{come_on, none_come}
use Rattle.salt_disk.specs.Disks.{HasCause, View, stops_in}
use Rattle.salt_disk.specs.declared.disks.DiskErr.TheVariants.{Memory}
use Rattle.salt_disk.specs.declared.disks.DiskErr.{DiskErr}
use Rattle.salt_model.specs.declared.events.Event.{Event}
use Rattle.salt_driver.proofs.Counted.{come-same, counts-cause, rose-on}
use Rattle.salt_driver.specs.Counting.{CountsStops, armed_told}
use Rattle.salt_storage.specs.Answers.{disk_err, disk_err_of}
use Rattle.salt_storage.specs.declared.halt.Halt.{Halt}
use Rattle.std.proofs.Common.{arith, subst, sym}
use Rattle.std.specs.Prelude.{Err, List, None, Ok, Option, Result, Some, [], refl, ℕ, ◌+◌, ◌++◌, ◌≡◌}
use Rattle.std.specs.Result.{IsErrAnd}

-- a call that was not made
pub same-cause : (d : View) → HasCause d d None
same-cause d = record { later = omega arith; failed = λ h. cc; stops = none_come d.armed d.armed refl }

-- what was done was for nothing, since memory ran out behind it
pub cause-lost : (old new : View) → HasCause old new None → HasCause old new (Some Memory)
cause-lost old new h = record { later = h.later; failed = λ f. cc; stops = h.stops }

-- a call of the storage was broken off
pub counts-broken : (line : Line) (old new : View) (result : Result (Option Event) Halt) (halt : Halt) → IsErrAnd result (λ told. told ≡ halt) → HasCause old new (Some (disk_err_of halt)) →
    CountsStops old new (disk_err result) (armed_told line result) 0
counts-broken line old new (Ok e) halt never h = absurd never
counts-broken line old new (Err told) halt is h =
    counts-cause old new (Some (disk_err_of told)) [] refl (subst (λ (t : Halt). HasCause old new (Some (disk_err_of t))) (sym is) h)

pub cause-told : (old new : View) (halt told : Halt) → told ≡ halt → HasCause old new (Some (disk_err_of halt)) → HasCause old new (Some (disk_err_of told))
cause-told old new halt told is h = subst (λ (t : Halt). HasCause old new (Some (disk_err_of t))) (sym is) h

pub counts-told : (old new : View) (halt told : Halt) (armed : List (ℕ × ℕ)) → told ≡ halt → CountsStops old new (Some (disk_err_of halt)) armed 0 → CountsStops old new (Some (disk_err_of told)) armed 0
counts-told old new halt told armed is h = subst (λ (t : Halt). CountsStops old new (Some (disk_err_of t)) armed 0) (sym is) h

pub cause-broken : {T : Type 0} (old new : View) (result : Result T Halt) (halt : Halt) → IsErrAnd result (λ told. told ≡ halt) → HasCause old new (Some (disk_err_of halt)) →
    HasCause old new (disk_err result)
cause-broken old new (Ok e) halt never h = absurd never
cause-broken old new (Err told) halt is h = subst (λ (t : Halt). HasCause old new (Some (disk_err_of t))) (sym is) h

-- one call behind another
pub cause-on : (a b c : View) (answer : Option DiskErr) → HasCause a b None → HasCause b c answer → HasCause a c answer
cause-on a b c answer g h = record {
  later = let x = g.later in let y = h.later in omega arith;
  failed = λ is. rose-on a.faults b.faults c.faults g.later (h.failed is);
  stops = come-same (0 + stops_in answer) (stops_in answer) a.armed a.armed c.armed (omega arith) refl (come_on 0 (stops_in answer) a.armed b.armed c.armed g.stops h.stops);
}

pub counts-armed : (old new : View) (armed : List (ℕ × ℕ)) → new.faults ≡ old.faults → new.armed ≡ old.armed ++ armed → CountsStops old new None armed 0
counts-armed old new armed faults stops = record {
  faults = record { later = let f = faults in omega arith; failed = λ h. cc };
  stops = λ other. none_come (old.armed ++ armed) new.armed stops;
}

pub counts-lost : (old new : View) (armed : List (ℕ × ℕ)) → new.faults ≡ old.faults → CountsStops old new (Some Memory) armed 0
counts-lost old new armed faults = record { faults = record { later = let f = faults in omega arith; failed = λ h. cc }; stops = λ other. absurd (other refl) }
