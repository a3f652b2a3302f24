-- What an engine begins with behind an early opening: the cover, the programs that it names, and their group.
use Rattle.law_states.specs.KeptSources.{Dependencies, KeepsDependencies}
use Rattle.law_states.specs.KeptWaits.{waiting}
use Rattle.law_states.specs.UnitFacts.{covered_by}
use Rattle.salt_model.specs.After.{kept}
use Rattle.salt_model.specs.Locks.{held}
use Rattle.salt_model.specs.Programs.{named_early, unreleased}
use Rattle.salt_model.specs.Trace.{Trace}
use Rattle.salt_model.specs.Turns.{owes_turn, still_to_go}
use Rattle.salt_model.specs.Units.{base_count, open_units, unit_count}
use Rattle.salt_values.specs.Id.{has_id, in_order, is_same_id}
use Rattle.salt_values.specs.declared.cont.Cont.{Cont}
use Rattle.salt_values.specs.declared.id.Id.{Id}
use Rattle.std.specs.Prelude.{List, None, [], false, map, not, ◌&&◌, ◌≡◌}

-- each of these is read from by each other one, and nothing else is kept
abbrev pub group_of : List Id → Dependencies
group_of bs = record {
  writer = λ p. None;
  reads = λ x y. has_id x bs && has_id y bs && not (is_same_id y x);
  finished = λ b. false;
}

pub record KeepsCover (trace : Trace) (bs : List Id) : Type 0 where
  pub names : bs ≡ in_order (map (λ (c : Cont). c.base) (kept trace).conts)
  pub named : named_early trace ≡ bs
  pub units : open_units trace ≡ []
  pub begun : unit_count trace ≡ 0
  pub bases : base_count trace ≡ 0
  pub to_go : still_to_go trace ≡ []
  pub owes : owes_turn trace ≡ false
  pub locks : held trace ≡ covered_by (kept trace) bs
  pub waits : waiting trace ≡ []
  pub programs : unreleased trace ≡ bs
  pub dependencies : KeepsDependencies (group_of bs) trace
