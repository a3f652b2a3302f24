-- `MeetsNothing` is met: by the run of an empty script over blank devices.
use Rattle.salt_bytes.specs.Log.{entries_in}
use Rattle.salt_disk.specs.Disks.{Rose}
use Rattle.salt_model.specs.Kept.{Definition, nothing_kept}
use Rattle.salt_model.specs.Lines.{AskInOrder}
use Rattle.salt_model.specs.Next.{next}
use Rattle.salt_model.specs.Phases.{Fallen, Serving, phase}
use Rattle.salt_model.specs.Played.{IsPlayed}
use Rattle.salt_model.specs.Trace.{Asked, Trace, from, line_of, lines_asked, story_of, ◌asks◌, ◌says◌, ◌turns◌}
use Rattle.salt_model.specs.Programs.{named_early}
use Rattle.salt_model.specs.Turns.{can_go, ids_after, next_to_go, next_turn, owes_turn, still_to_go, turn_owed}
use Rattle.salt_values.specs.declared.id.Id.{Id}
use Rattle.std.specs.List.{find}
use Rattle.std.specs.Option.{option_or}
use Rattle.salt_model.specs.declared.events.Event.TheVariants.{Down, Opened, Ready, Refused}
use Rattle.salt_model.specs.declared.events.Event.{Event}
use Rattle.salt_ast.specs.declared.lines.Line.TheVariants.{Nothing}
use Rattle.salt_promise.specs.Completing.{MayTell, MeetsNothing}
use Rattle.salt_promise.specs.Ending.{AreSpentBehind}
use Rattle.salt_promise.specs.Filling.{IsFullBehind, NextFills}
use Rattle.salt_promise.specs.Given.{Run}
use Rattle.salt_promise.specs.declared.command.Command.TheVariants.{Script}
use Rattle.salt_promise.specs.declared.status.Status.TheVariants.{Done}
use Rattle.salt_promise.specs.Standing.{IsReader, OpenAs}
use Rattle.salt_promise.specs.Worked.{ample, blank, holding, one_part, opened}
use Rattle.salt_stands.specs.Stands.{nothing_found}
use Rattle.std.proofs.Common.{ap, arith, subst, sym, ◌∙◌}
use Rattle.std.specs.Prelude.{List, None, Option, Some, [], codes, false, if◌then◌else◌, is_some, refl, ℕ, ◌&&◌, ◌++◌, ◌∷◌, ◌≡◌}

abbrev empty : Run
empty = record {
  command = Some (Script one_part false false);
  before = record { source = record { bytes = Some []; faults = 0 }; sink = record { bytes = Some []; faults = 0 }; devices = holding ample blank [] };
  after = record { source = record { bytes = Some []; faults = 0 }; sink = record { bytes = Some (codes "opened 1 0" ++ 10 ∷ (codes "ready" ++ 10 ∷ [])); faults = 0 }; devices = holding ample opened [] };
  status = Done;
  flight = None;
  story = Opened 1 0 ∷ Ready ∷ [];
  net = None;
}

-- no text is a line of it
front-of-none : (xs more : List (List ℕ)) → [] ≡ xs ++ more → xs ≡ []
front-of-none [] more e = refl
front-of-none (x ∷ xs) more e = absurd cc

none-asked : (texts : List (List ℕ)) (asked : List Asked) → texts ≡ [] → AskInOrder texts asked → asked ≡ []
none-asked [] [] e h = refl
none-asked [] (a ∷ asked) e h = absurd h
none-asked (t ∷ texts) asked e h = absurd cc

no-lines : (t : Trace) → MayTell empty (Script one_part false false) t → lines_asked t ≡ []
no-lines t m = none-asked m.lines.0 (lines_asked t) (front-of-none m.lines.0 m.lines.2.first.0 m.lines.2.first.1) m.lines.1

not-last : {A : Type 0} (xs : List A) (x : A) → xs ++ x ∷ [] ≡ [] → ⊥
not-last [] x e = cc
not-last (y ∷ xs) x e = cc

in-no-line : (t : Trace) → lines_asked t ≡ [] → line_of t ≡ Nothing
in-no-line (from k) e = refl
in-no-line (t asks a) e = absurd (not-last (lines_asked t) a e)
in-no-line (t turns b) e = in-no-line t e
in-no-line (t says a) e = in-no-line t e

last-is : (xs : List Event) (e : Event) → xs ++ e ∷ [] ≡ Opened 1 0 ∷ Ready ∷ [] → e ≡ Ready
last-is [] e h = absurd cc
last-is (x ∷ []) e h = cc
last-is (x ∷ y ∷ []) e h = absurd cc
last-is (x ∷ y ∷ z ∷ xs) e h = absurd cc

-- no line turns to a program
none-to-go : (t : Trace) → lines_asked t ≡ [] → still_to_go t ≡ []
none-to-go (from k) e = refl
none-to-go (t asks a) e = absurd (not-last (lines_asked t) a e)
none-to-go (t turns b) e = ap (ids_after b) (none-to-go t e)
none-to-go (t says Down why) e = refl
none-to-go (t says a) e = none-to-go t e

-- and none owes a turn
none-owed : (t : Trace) → lines_asked t ≡ [] → owes_turn t ≡ false
none-owed (from k) e = refl
none-owed (t asks a) e = absurd (not-last (lines_asked t) a e)
none-owed (t turns b) e = ap (λ owes. owes && is_some (next_to_go t)) (none-owed t e)
none-owed (t says Down why) e = refl
none-owed (t says Refused r) e = refl
none-owed (t says a) e = none-owed t e

turns-to-none : (t : Trace) → lines_asked t ≡ [] → next_turn t ≡ None
turns-to-none t e =
    ap (λ o. option_or o (turn_owed t)) (ap (find (can_go t)) (none-to-go t e))
    ∙ ap (λ owes. if owes then find (can_go t) (named_early t) else None) (none-owed t e)

no-turn : (t : Trace) (b : Id) → lines_asked t ≡ [] → next_turn t ≡ Some b → ⊥
no-turn t b e h = let both : None ≡ Some b = sym (turns-to-none t e) ∙ h in cc

-- behind its story nothing is next, and it serves
record IsServed (t : Trace) : Type 0 where
  serves : phase t ≡ Serving
  nothing : next t ≡ None

served : (t : Trace) → lines_asked t ≡ [] → story_of t ≡ empty.story → IsPlayed t → IsServed t
served (from k) n s p = absurd cc
served (t asks a) n s p = absurd (not-last (lines_asked t) a n)
served (t turns b) n s p = absurd (no-turn t b n p.3)
served (t says e) n s p = subst (λ a. IsServed (t says a)) (sym (last-is (story_of t) e s)) (record { serves = refl; nothing = refl })

module _ (read : List ℕ → Option Definition) (reads : IsReader read) where
  opens : OpenAs one_part blank nothing_kept
  unfolding entries_in
  opens = record { found = nothing_found one_part; answers = record { read = read; reads = reads; is = refl }; keeps = refl }

  behind : (t : Trace) → MayTell empty (Script one_part false false) t → IsServed t
  behind t m = served t (no-lines t m) m.tells.told m.tells.played

  not-spent : (t : Trace) (boot decisions : ℕ) → IsServed t → AreSpentBehind t boot decisions → ⊥
  not-spent t boot decisions s h = let both : Serving ≡ Fallen = sym s.serves ∙ h.down in cc

  has-room : (t : Trace) (dev : ℕ) → IsServed t → IsFullBehind empty.after.devices one_part t dev → ⊥
  has-room t dev s h =
      subst (λ e. NextFills empty.after.devices one_part t Serving e dev) s.nothing (subst (λ p. NextFills empty.after.devices one_part t p (next t) dev) s.serves h)

  unrisen : Rose 0 0 → ⊥
  unrisen h = omega arith

  pub unhindered : MeetsNothing empty (Script one_part false false)
  unhindered = record {
    told = refl;
    kept = nothing_kept;
    opens = opens;
    reads = unrisen;
    writes = unrisen;
    devices = unrisen;
    unspent = λ t boot decisions m h. not-spent t boot decisions (behind t m) h;
    room = λ t dev m h. has-room t dev (behind t m) h;
    script = omega arith;
  }
