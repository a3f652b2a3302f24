-- A recovery of definitions and then of continuations.
use Rattle.salt_decisions.specs.Kept.{IsKept}
use Rattle.salt_decisions.specs.declared.kept.Kept.{Kept}
use Rattle.salt_found.proofs.Defining.{defined_by_its_texts}
use Rattle.salt_found.specs.Conts.{OpensConts, open_conts_of}
use Rattle.salt_found.specs.Definitions.{AreOfSome, FailsToDefine, defined_by_texts, reading}
use Rattle.salt_found.specs.Errors.{recover_err_of_cont}
use Rattle.salt_found.specs.Recovered.{IsRecovered, Recovers}
use Rattle.salt_found.specs.declared.error.ContErr.TheVariants as cont
use Rattle.salt_found.specs.declared.error.ContErr.{ContErr}
use Rattle.salt_found.specs.declared.error.RecoverErr.TheVariants.{Memory, NotSalt}
use Rattle.salt_found.specs.declared.error.RecoverErr.{RecoverErr}
use Rattle.salt_found.specs.declared.recovery.Recovered.{Recovered}
use Rattle.salt_model.specs.Kept.{Definition}
use Rattle.salt_stands.specs.Coordinator.{Coordinator, are_sound, coordinator_of, definitions_read}
use Rattle.salt_stands.specs.CoordinatorLog.{CoordinatorLog}
use Rattle.salt_stands.specs.OpenConts.{moved}
use Rattle.salt_values.specs.declared.cont.Cont.{Cont}
use Rattle.std.proofs.Common.{Bool, Err, List, None, Option, Some, [], ap, false, refl, sym, true, ◌≡◌, ◌∙◌}
use Rattle.std.specs.Bool.{then_some}
use Rattle.std.specs.Prelude.{option_and_then}

module _ (k : Kept) (log : CoordinatorLog) (is : IsKept k log) where
  texts_are : definitions_read reading (Some []) log.told.definitions ≡ defined_by_texts reading (Some []) k.definitions
  texts_are = defined_by_its_texts reading (Some []) log.told.definitions ∙ ap (defined_by_texts reading (Some [])) (sym is.definitions)

  abbrev with_conts : List Definition → Option (Coordinator Definition)
  with_conts ds =
      option_and_then (λ cs. then_some (are_sound reading log ds) (record { log = log; definitions = ds; conts = cs })) (moved log.header.format (Some log.header.conts) log.told.decided)

  coordinator_is : coordinator_of reading log ≡ option_and_then with_conts (defined_by_texts reading (Some []) k.definitions)
  coordinator_is = ap (option_and_then with_conts) texts_are

  pub nothing_defined : defined_by_texts reading (Some []) k.definitions ≡ None → coordinator_of reading log ≡ None
  nothing_defined e = coordinator_is ∙ ap (option_and_then with_conts) e

  module _ (ds : List Definition) (defined : defined_by_texts reading (Some []) k.definitions ≡ Some ds) where
    pub nothing_open : open_conts_of log ds ≡ None → coordinator_of reading log ≡ None
    nothing_open e = coordinator_is ∙ ap (option_and_then with_conts) defined ∙ by (are_sound reading log ds) (moved log.header.format (Some log.header.conts) log.told.decided) e
      where
        by : (b : Bool) (o : Option (List Cont)) → option_and_then (then_some b) o ≡ None → option_and_then {U = Coordinator Definition} (λ cs. then_some b (record { log = log; definitions = ds; conts = cs })) o ≡ None
        by b None e = refl
        by true (Some cs) e = absurd cc
        by false (Some cs) e = refl

    all_open : (conts : List Cont) → open_conts_of log ds ≡ Some conts → coordinator_of reading log ≡ Some (record { log = log; definitions = ds; conts = conts })
    all_open conts e = coordinator_is ∙ ap (option_and_then with_conts) defined ∙ by (are_sound reading log ds) (moved log.header.format (Some log.header.conts) log.told.decided) e
      where
        by : (b : Bool) (o : Option (List Cont)) → option_and_then (then_some b) o ≡ Some conts →
            option_and_then {U = Coordinator Definition} (λ cs. then_some b (record { log = log; definitions = ds; conts = cs })) o ≡ Some (record { log = log; definitions = ds; conts = conts })
        by b None e = absurd cc
        by true (Some cs) e = cc
        by false (Some cs) e = absurd cc

pub recovers : (k : Kept) (log : CoordinatorLog) → IsKept k log → (r : Recovered) → (some : AreOfSome r.schema r.catalogue (defined_by_texts reading (Some []) k.definitions)) → open_conts_of log some.definitions ≡ Some r.conts
    → IsRecovered r (coordinator_of reading log)
recovers k log is r some going = record {
  c = record { log = log; definitions = some.definitions; conts = r.conts };
  stands = all_open k log is some.definitions some.is r.conts going;
  schema = some.are.tables;
  catalogue = some.are.programs;
  conts = refl;
}

-- A PART FAILS

pub definitions_fail : (k : Kept) (log : CoordinatorLog) → IsKept k log → (e : RecoverErr) → FailsToDefine e (defined_by_texts reading (Some []) k.definitions) → Recovers (Err e) (coordinator_of reading log)
definitions_fail k log is NotSalt none = nothing_defined k log is none
definitions_fail k log is Memory none = tt

pub conts_fail : (k : Kept) (log : CoordinatorLog) → IsKept k log → (ds : List Definition) → defined_by_texts reading (Some []) k.definitions ≡ Some ds → (e : ContErr) → OpensConts (Err e) (open_conts_of log ds)
    → Recovers (Err (recover_err_of_cont e)) (coordinator_of reading log)
conts_fail k log is ds defined cont.NotMove none = nothing_open k log is ds defined none
conts_fail k log is ds defined cont.Memory none = tt
