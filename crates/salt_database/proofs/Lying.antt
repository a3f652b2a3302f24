-- What can be opened at a point: at first, and behind a fall.
use Rattle.salt_books.specs.declared.books.Books.{Books}
use Rattle.salt_database.proofs.Falling.{flies-fallen, left-fallen}
use Rattle.salt_database.specs.Finding.{IsFoundAgain, IsNew}
use Rattle.salt_database.specs.Standing.{opening_books}
use Rattle.salt_engine.proofs.Halting.{is-left}
use Rattle.salt_engine.specs.Flights.{IsInFlight}
use Rattle.salt_engine.specs.Standing.{KnowsUnits, LeavesOnDevices, CanReopenAt}
use Rattle.salt_engine.specs.Stored.{IsEither, IsLeft}
use Rattle.salt_engine.specs.declared.flights.InFlight.{InFlight}
use Rattle.salt_engine.specs.declared.stage.Stage.{Stage}
use Rattle.law_states.specs.OpenUnits.{UnitState}
use Rattle.law_states.specs.Points.{Point}
use Rattle.law_states.specs.Steps.{units_after}
use Rattle.salt_books.specs.Known.{IsKnown}
use Rattle.salt_model.specs.Kept.{Kept}
use Rattle.salt_model.specs.Turns.{is_statement_line}
use Rattle.salt_model.specs.declared.events.Event.{Event}
use Rattle.salt_model.specs.declared.events.Event.TheVariants.{Down}
use Rattle.salt_model.specs.declared.events.Why.{Why}
use Rattle.salt_drain.specs.declared.recovery.Recovery.{Recovery}
use Rattle.salt_driver.specs.Opening.{IsFallenFrom, IsOpenedFirst}
use Rattle.salt_storage.specs.Storing.{IsSoundKept}
use Rattle.salt_storage.specs.declared.found.Numbers.{Numbers}
use Rattle.std.proofs.Common.{ap, inl, inr, subst, sym, ◌∙◌}
use Rattle.std.specs.Prelude.{Bool, IsSome, None, Option, Some, [], refl, ℕ, ◌≡◌}

-- AT FIRST

pub opened-first : (holds : Kept → Type 0) (leaves : Kept → Kept → Type 0) (stoppable : Bool) (found : Option Numbers) (stage : Stage Recovery) (single : Bool)
    (in_flight : Option InFlight) (early over : Bool) (k : Kept) → IsNew early k found stage single in_flight → holds k → IsSoundKept k →
    IsOpenedFirst (CanReopenAt holds leaves stoppable found (opening_books stage) single in_flight) k stoppable early over
opened-first holds leaves stoppable found stage single in_flight early over k new holding sound p u =
    let taken = new.taken in
    let books = taken.fresh p.state.units.phase p.state.units.line in
    record {
      left = subst (λ (f : Option Numbers). LeavesOnDevices holds leaves (IsSome in_flight) f 0 p) (sym taken.is) (k, holding, is-left (IsSome in_flight) p k (inl (sym u.kept)), taken.numbered);
      knows = (
        taken.books,
        ap opening_books taken.there,
        record {
          units = 0;
          bases = 0;
          goes = [];
          are = record {
            known = subst (IsKnown taken.books.known) (sym u.kept) books.known;
            units = books.units ∙ sym u.units;
            unit_count = books.unit_count;
            base_count = books.base_count;
            to_go = books.to_go;
            early = books.early ∙ sym u.early;
            named = books.named ∙ sym u.named;
            owes = books.owes ∙ sym u.owes;
          };
          going = inl refl;
        },
      );
      sound = subst IsSoundKept (sym u.kept) sound;
      can_stop = u.can_stop;
      line = new.line ∙ sym (ap is_statement_line u.line);
      flies = subst (λ (i : Option InFlight). IsInFlight i p.flight p.state.units) (sym new.none) u.flight;
    }

-- BEHIND A FALL the one or the other is found.

pub left-either : (doubt : Type 0) (room : ℕ) (p : Point) (a b k : Kept) → IsLeft doubt room p a → IsLeft doubt room p b → IsEither a b k → IsLeft doubt room p k
left-either doubt room p a b k is_a is_b (inl e) = subst (IsLeft doubt room p) (sym e) is_a
left-either doubt room p a b k is_a is_b (inr e) = subst (IsLeft doubt room p) (sym e) is_b

pub found-left : (holds : Kept → Type 0) (leaves : Kept → Kept → Type 0) (books : Books) (a b : Kept) (found : Option Numbers) (stage : Stage Recovery) (doubt : Type 0) (room : ℕ) (p : Point) →
    IsFoundAgain holds books a b found stage → IsLeft doubt room p a → IsLeft doubt room p b → LeavesOnDevices holds leaves doubt found room p
found-left holds leaves books a b found stage doubt room p f is_a is_b =
    subst (λ (n : Option Numbers). LeavesOnDevices holds leaves doubt n room p) (sym f.is) (f.kept, f.holding, left-either doubt room p a b f.kept is_a is_b f.either, f.numbered)

-- WHAT IS LEFT, whether it was found since or not: a stop leaves it

pub left-stops : (holds : Kept → Type 0) (leaves : Kept → Kept → Type 0) (doubt : Type 0) (found : Option Numbers) (room : ℕ) (p : Point) → ((k : Kept) → holds k → leaves k k) →
    LeavesOnDevices holds leaves doubt found room p → (a b : Kept) × leaves a b × IsLeft doubt room p a × IsLeft doubt room p b
left-stops holds leaves doubt None room p stays h = h
left-stops holds leaves doubt (Some n) room p stays h = (h.0, h.0, stays h.0 h.1, h.2, h.2)

-- BEHIND A DOWN

pub fallen-lies : (holds now : Kept → Type 0) (leaves again : Kept → Kept → Type 0) (old stoppable : Bool) (found : Option Numbers) (books later : Option Books) (single : Bool)
    (in_flight : Option InFlight) (room : ℕ) (p q : Point) → CanReopenAt holds leaves old found books single in_flight room p → IsFallenFrom p q → stoppable ≡ old →
    ((k : Kept) → holds k → leaves k k) → ((a b : Kept) → leaves a b → again a b) →
    ((s : UnitState) (why : Why) → KnowsUnits books s → KnowsUnits later (units_after (Down why) s)) → CanReopenAt now again stoppable None later single in_flight room q
fallen-lies holds now leaves again old stoppable found books later single in_flight room p q h fell same stays left knows =
    let l = left-stops holds leaves (IsSome in_flight) found room p stays h.left in
    let units = fell.after.units in
    record {
      left = (
        l.0,
        l.1,
        left l.0 l.1 l.2,
        left-fallen (IsSome in_flight) in_flight room p q l.0 h.flies fell l.3,
        left-fallen (IsSome in_flight) in_flight room p q l.1 h.flies fell l.4,
      );
      knows = subst (KnowsUnits later) (sym units) (knows p.state.units fell.why h.knows);
      sound = subst (λ (s : UnitState). IsSoundKept s.kept) (sym units) h.sound;
      can_stop = fell.after.can_stop ∙ h.can_stop ∙ sym same;
      line = h.line ∙ sym (ap (λ (s : UnitState). is_statement_line s.line) units);
      flies =
          subst (λ (f : Option Event). IsInFlight in_flight f q.state.units) (sym fell.flight)
          (subst (IsInFlight in_flight p.flight) (sym units) (flies-fallen in_flight p.flight fell.why p.state.units h.flies));
    }
