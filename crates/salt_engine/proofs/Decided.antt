-- A unit's end that comes next is decided, or broken off.
use Rattle.salt_books.specs.declared.books.Books.{Books}
use Rattle.salt_cont.specs.Move.{Move}
use Rattle.salt_engine.specs.Deciding.{IsBefore, LeavesEventUndone, branches_in}
use Rattle.salt_engine.specs.Stored.{Stored}
use Rattle.law_states.specs.Keeps.{KeepsUnits}
use Rattle.law_states.specs.Laws.{IsSound, is_of_run}
use Rattle.law_states.specs.OpenUnits.{OpenUnit, UnitState, unit_named}
use Rattle.law_states.specs.Overlays.{Edit, edits_of}
use Rattle.law_states.specs.Steps.{kept_ended, units_after}
use Rattle.law_states.specs.Told.{at_devices_in, commits_in, next_decision_number}
use Rattle.law_story.proofs.Ids.{is_same_id-true}
use Rattle.law_story.proofs.NextFits.{find-in}
use Rattle.salt_model.specs.Kept.{Kept, conts_branched, conts_committed}
use Rattle.salt_model.specs.Next.{is_decision}
use Rattle.salt_model.specs.Trace.{Trace, ◌says◌}
use Rattle.salt_model.specs.declared.events.Cause.{Cause}
use Rattle.salt_model.specs.declared.events.End.TheVariants.{Branched, Committed}
use Rattle.salt_model.specs.declared.events.End.{End}
use Rattle.salt_model.specs.declared.events.Event.TheVariants.{Ended}
use Rattle.salt_model.specs.declared.events.Event.{Event}
use Rattle.law_decisions.proofs.Naming.{decided-boot, may-be-before, may-no-more, open-may}
use Rattle.law_decisions.specs.Ending.{EndsNext}
use Rattle.law_decisions.specs.Naming.{IsToCome}
use Rattle.salt_stands.specs.OpenConts.{make_move}
use Rattle.salt_driver.specs.Writing.{IsWrittenBy, changes_decided}
use Rattle.salt_storage.specs.Storing.{IsSoundKept}
use Rattle.salt_storage.specs.Writing.{OfUnit, ToWrite}
use Rattle.salt_storage.specs.declared.halt.Halt.TheVariants.{DeviceFull, Memory}
use Rattle.salt_storage.specs.declared.halt.Halt.{Halt}
use Rattle.salt_values.specs.Id.{is_same_id}
use Rattle.salt_values.specs.declared.change.Change.{Change}
use Rattle.salt_values.specs.declared.id.Id.{Id}
use Rattle.std.proofs.Common.{ap, inl, inr, subst, sym, ◌∙◌}
use Rattle.std.specs.Prelude.{List, Option, Some, [], false, map, refl, true, ℕ, ◌∷◌, ◌≡◌}
use Rattle.salt_stands.specs.Turning.{change_at}

-- CHANGES

pub edits-back : (ds : List Edit) → edits_of (map change_at ds) ≡ ds
edits-back [] = refl
edits-back (d ∷ ds) = ap (λ (es : List Edit). d ∷ es) (edits-back ds)

pub changes-back : (cs : List Change) → map change_at (edits_of cs) ≡ cs
changes-back [] = refl
changes-back (c ∷ cs) = ap (λ (ds : List Change). c ∷ ds) (changes-back cs)

-- UNITS BY THEIR NAMES

pub named-unit : (u : Id) (os : List OpenUnit) (o : OpenUnit) → unit_named u os ≡ Some o → o.unit ≡ u
named-unit u os o h = is_same_id-true o.unit u (find-in (λ (o : OpenUnit). is_same_id o.unit u) o os h).1

pub named-own : (u : Id) (os : List OpenUnit) (o : OpenUnit) → unit_named u os ≡ Some o → unit_named o.unit os ≡ Some o
named-own u os o h = ap (λ v. unit_named v os) (named-unit u os o h) ∙ h

-- a storage that holds what an event leaves
pub stored-behind : (holds now : Kept → Type 0) (is_new new_now : Id → Type 0) (s : UnitState) (trace : Trace) (e : Event) → KeepsUnits s trace →
    IsSound (trace says e) → is_of_run e ≡ false → Stored holds is_new s → now (units_after e s).kept →
    ((u : Id) → IsToCome (units_after e s) u → is_new u → new_now u) → Stored now new_now (units_after e s)
stored-behind holds now is_new new_now s trace e keeps sound plain stored holding stays = record {
  holding = holding;
  new = λ u h. stays u h (stored.new u (may-be-before s trace e u keeps sound plain h));
}

-- a storage that stays as it is
pub stored-still : (holds now : Kept → Type 0) (is_new new_now : Id → Type 0) (s : UnitState) → Stored holds is_new s →
    ((k : Kept) → holds k → now k) → ((u : Id) → is_new u → new_now u) → Stored now new_now s
stored-still holds now is_new new_now s stored held stays = record { holding = held s.kept stored.holding; new = λ u h. stays u (stored.new u h) }

-- MEMORY RAN OUT before an event, or behind it

pub undone-before : (leaves : Kept → Kept → Type 0) (fills : ToWrite → ℕ → Type 0) (s : UnitState) (e : Event) → leaves s.kept s.kept →
    LeavesEventUndone leaves fills Memory s e
undone-before leaves fills s e left = record {
  left = record { one = s.kept; other = s.kept; left = left; is_one = inl refl; is_other = inl refl };
  reason = inl refl;
  full = λ dev h. cc;
}

-- A UNIT THAT IS TO END so next

module _ (holds : Kept → Type 0) (is_new : Id → Type 0) (x : Books) (s : UnitState) (o : OpenUnit) (u : Id) (end : End)
    (b : IsBefore holds is_new x (Ended o.unit end) s) (named : unit_named u s.units ≡ Some o) (may : (k : Kept) → holds k → IsSoundKept k) where
  sound-here : IsSoundKept s.kept
  sound-here = may s.kept b.stored.holding

  pub ends-next : EndsNext s b.comes.trace o end
  ends-next = record {
    state = record { keeps = b.comes.keeps; sound = b.comes.sound; typed = b.comes.typed; keyed = b.comes.keyed; may_be_kept = sound-here };
    is_open = named-own u s.units o named;
    comes = b.comes.next;
  }

  pub sound-behind : IsSound (b.comes.trace says Ended o.unit end)
  sound-behind = record { played = (b.comes.sound.played, b.comes.next); well = b.comes.sound.well }

  pub is-new-unit : is_decision (Ended o.unit end) ≡ true → is_new u
  is-new-unit decides =
      let may : IsToCome s o.unit = open-may s o (named-own u s.units o named) (decided-boot s b.comes.trace o.unit end b.comes.keeps b.comes.sound b.comes.next decides b.comes.late) in
      subst is_new (named-unit u s.units o named) (b.stored.new o.unit may)

  -- the unit is new no more
  pub ended-stored : (now : Kept → Type 0) (new_now : Id → Type 0) → now (units_after (Ended o.unit end) s).kept →
      ((v : Id) → is_same_id v u ≡ false → is_new v → new_now v) → Stored now new_now (units_after (Ended o.unit end) s)
  ended-stored now new_now holding stays =
      stored-behind holds now is_new new_now s b.comes.trace (Ended o.unit end) b.comes.keeps sound-behind refl b.stored holding
      (λ v h. stays v (subst (λ w. is_same_id v w ≡ false) (named-unit u s.units o named) (may-no-more s b.comes.trace o.unit end v b.comes.keeps sound-behind h)))

  -- what is written of it
  pub ended-undone : (leaves : Kept → Kept → Type 0) (fills : ToWrite → ℕ → Type 0) (halt : Halt) (cs : List Change) (m : Move) → at_devices_in s (Ended o.unit end) ≡ true →
      leaves s.kept (units_after (Ended o.unit end) s).kept → ((w : ToWrite) → w ≡ OfUnit u cs m → IsWrittenBy s (Some (Ended o.unit end)) w) →
      ((dev : ℕ) → halt ≡ DeviceFull dev → fills (OfUnit u cs m) dev) → LeavesEventUndone leaves fills halt s (Ended o.unit end)
  ended-undone leaves fills halt cs m devices left written full = record {
    left = record { one = s.kept; other = (units_after (Ended o.unit end) s).kept; left = left; is_one = inl refl; is_other = inr (tt, refl) };
    reason = inr devices;
    full = λ dev h. (OfUnit u cs m, written (OfUnit u cs m) refl, full dev h);
  }

pub commit-written : (s : UnitState) (o : OpenUnit) (u : Id) (cs : List Change) (m : Move) → unit_named u s.units ≡ Some o → cs ≡ map change_at o.changes →
    make_move s.kept.conts m ≡ Some (conts_committed s.kept (next_decision_number s) o.kind o.vars) → (w : ToWrite) → w ≡ OfUnit u cs m → IsWrittenBy s (Some (commits_in s o)) w
commit-written s o u cs m named are moves w is =
    let own = named-own u s.units o named in
    record {
      made = m;
      moves = moves ∙ ap (λ (q : Option OpenUnit). Some (kept_ended s.kept (Committed (next_decision_number s)) q).conts) (sym own);
      writes = is ∙ (λ i. OfUnit (sym (named-unit u s.units o named) i) ((are ∙ ap (changes_decided (Committed (next_decision_number s))) (sym own)) i) m);
    }

pub branch-written : (s : UnitState) (o : OpenUnit) (u : Id) (cause : Cause) (m : Move) → unit_named u s.units ≡ Some o →
    make_move s.kept.conts m ≡ Some (conts_branched s.kept o.kind) → (w : ToWrite) → w ≡ OfUnit u [] m → IsWrittenBy s (Some (branches_in s o.unit cause)) w
branch-written s o u cause m named moves w is =
    let own = named-own u s.units o named in
    record {
      made = m;
      moves = moves ∙ ap (λ (q : Option OpenUnit). Some (kept_ended s.kept (Branched (next_decision_number s) cause) q).conts) (sym own);
      writes = is ∙ (λ i. OfUnit (sym (named-unit u s.units o named) i) [] m);
    }
