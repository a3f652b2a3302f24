-- A commit that comes next: the conditions of the laws can be met.
use Rattle.law_states.specs.OpenUnits.{OpenUnit}
use Rattle.law_states.specs.Steps.{begun, units_of}
use Rattle.salt_bytes.specs.declared.moves.Move.TheVariants.{Plain}
use Rattle.salt_model.specs.Computing.{computing}
use Rattle.salt_model.specs.Kept.{WellKept, nothing_kept}
use Rattle.salt_model.specs.Played.{IsPlayed}
use Rattle.salt_model.specs.Scripts.{begin, commit}
use Rattle.salt_model.specs.Trace.{Trace, Tree, from, ◌asks◌, ◌says◌}
use Rattle.salt_model.specs.Walk.{new_database}
use Rattle.salt_model.specs.declared.events.End.TheVariants.{Committed}
use Rattle.salt_model.specs.declared.events.Event.TheVariants.{Began, Opened, Ready}
use Rattle.salt_model.specs.declared.events.UnitKind.TheVariants.{Acid}
use Rattle.law_decisions.specs.Ending.{EndsNext, IsSoundState, MayEnd}
use Rattle.law_decisions.specs.Naming.{IsToCome}
use Rattle.salt_storage.specs.Storing.{IsSoundKept}
use Rattle.law_types.specs.Typed.{IsTyped}
use Rattle.salt_values.specs.declared.id.Id.{Id}
use Rattle.std.proofs.Common.{inl, inr, lit≤}
use Rattle.std.specs.Prelude.{[], refl}

abbrev first : Id
first = record { boot = 1; seq = 1 }

abbrev session_begins : Trace
session_begins = from new_database says Opened 1 0 says Ready asks Tree (begin 1)

abbrev session_commits : Trace
session_commits = session_begins says Began first (Acid 1) asks Tree (commit 1)

abbrev its_unit : OpenUnit
its_unit = begun (units_of session_begins) first (Acid 1)

played : IsPlayed session_commits
unfolding computing
played = (((((tt, (lit≤ tt, lit≤ tt, inl refl)), refl), (refl, refl, refl)), refl), (refl, refl, refl))

well : WellKept nothing_kept
well = record { boots = tt; accepted = tt; defined = tt; tries = tt }

typed : IsTyped nothing_kept
typed = record { tables = tt; programs = tt; rows = tt; conts = tt }

may_be_kept : IsSoundKept (units_of session_commits).kept
may_be_kept = record {
  typed = record { tables = tt; programs = tt; rows = tt; conts = tt };
  well = record { boots = tt; accepted = tt; defined = tt; tries = tt };
  rise = refl;
  spelled = tt;
}

sound : IsSoundState (units_of session_commits) session_commits
unfolding computing
sound = record {
  keeps = record {
    kept = refl;
    phase = refl;
    line = refl;
    to_go = refl;
    early = refl;
    named = refl;
    owes = refl;
    units = refl;
    each = (record { kind = refl; single = refl; waiting = refl; asks = refl; done = refl; vars = refl; changes = refl }, tt);
    unit_count = refl;
    base_count = refl;
  };
  sound = record { played = played; well = well };
  typed = typed;
  keyed = (tt, (tt, tt));
  may_be_kept = may_be_kept;
}

commit_comes : EndsNext (units_of session_commits) session_commits its_unit (Committed 1)
unfolding computing
commit_comes = record { state = sound; is_open = refl; comes = refl }

-- it may be decided now, and the next unit later
first_is_to_come : IsToCome (units_of session_commits) first
first_is_to_come = (refl, inl (inl refl))

second_is_to_come : IsToCome (units_of session_commits) (record { boot = 1; seq = 2 })
second_is_to_come = (refl, inr (lit≤ tt))

-- what it leaves
commit_leaves : MayEnd (units_of session_commits) its_unit (Committed 1) [] Plain []
unfolding computing
commit_leaves = record {
  may = record {
    boot = lit≤ tt;
    ordered = refl;
    fits = tt;
    moves = refl;
    sound = record {
      typed = record { tables = tt; programs = tt; rows = tt; conts = tt };
      well = record { boots = tt; accepted = tt; defined = tt; tries = tt };
      rise = refl;
      spelled = tt;
    };
  };
  leaves = refl;
}
