-- WHERE OPENINGS ARE NOT EARLY nothing that they add counts: what is held, released, refused and due is said by what stood without them.
use Rattle.salt_ast.specs.declared.lines.Act.{Act}
use Rattle.salt_model.specs.Locks.{as_held, held, taken_in}
use Rattle.salt_model.specs.Openings.{drains}
use Rattle.salt_model.specs.Programs.{accepted_in, left_out, over_in, released_in, unreleased}
use Rattle.salt_model.specs.Reads.{releasable, to_release}
use Rattle.salt_model.specs.Refusals.{is_held_back}
use Rattle.salt_model.specs.Trace.{Trace, ◌says◌}
use Rattle.salt_model.specs.Turns.{begins, can_go, next_turn, still_to_go}
use Rattle.salt_model.specs.declared.events.Event.TheVariants.{Released}
use Rattle.salt_model.specs.declared.events.UnitKind.TheVariants.{Later}
use Rattle.salt_values.specs.Id.{in_order, without}
use Rattle.salt_values.specs.declared.cont.Cont.{Cont}
use Rattle.salt_values.specs.declared.id.Id.{Id}
use Rattle.std.specs.List.{filter_map, find}
use Rattle.std.specs.Prelude.{List, [], false, ◌++◌, ◌∷◌, ◌≡◌}

pub record IsAsEver (trace : Trace) : Type 0 where
  pub left : left_out trace ≡ []
  pub over : over_in trace ≡ released_in trace
  pub released : (bs : List Id) → released_in (trace says Released bs) ≡ released_in trace ++ bs
  pub unreleased : unreleased trace ≡ in_order (without (released_in trace) (accepted_in trace))
  pub due : to_release trace ≡ releasable trace
  pub held : held trace ≡ filter_map (as_held trace) (taken_in trace)
  pub turn : next_turn trace ≡ find (can_go trace) (still_to_go trace)
  pub taken : (act : Act) → is_held_back trace act ≡ false
  pub drain : (c : Cont) (cs : List Cont) → drains trace (c ∷ cs) ≡ begins trace (Later c.base c.next)
