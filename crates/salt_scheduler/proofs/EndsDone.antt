-- A unit has ended, by a decision or without one.
use Rattle.std.specs.Option.{option_copied}
use Rattle.salt_books.proofs.Decided.{undecided as nothing-decided}
use Rattle.salt_books.specs.Books.{AreBooks}
use Rattle.salt_books.specs.Called.{name_told}
use Rattle.salt_books.specs.Coming.{CommitsAtEnd}
use Rattle.salt_books.specs.Ends.{IsUndecided}
use Rattle.salt_books.specs.declared.books.Books.{Books}
use Rattle.salt_scheduler.proofs.ApartCircles.{commits-close-none}
use Rattle.salt_scheduler.proofs.Beginning.{first-in, first-without, without-none}
use Rattle.salt_scheduler.proofs.Calm.{calm-behind, calm-stays, undecided-brings-none}
use Rattle.salt_scheduler.proofs.Done.{IsCalledAt, at-follow, called-at, called-stays, gives, gives-same, into-first, into-programs, state_by, sub-called, a_program, beginning, to_accept}
use Rattle.salt_scheduler.proofs.Facts.{facts-ended}
use Rattle.salt_scheduler.proofs.InTurn.{branched, committed, undecided}
use Rattle.salt_books.proofs.Named.{done-branched, named-unit}
use Rattle.salt_scheduler.specs.Calm.{is_calm_behind}
use Rattle.salt_scheduler.specs.Follows.{FollowsOn, behind_branch, behind_commit}
use Rattle.salt_books.specs.Ends.{done_of}
use Rattle.salt_scheduler.specs.Standing.{AnswersWithComing, AnswersWith, StandsForState, accepting, bases_called, watched_by}
use Rattle.salt_books.specs.declared.coming.Coming.TheVariants as coming
use Rattle.salt_books.specs.declared.coming.Coming.{Coming}
use Rattle.salt_scheduler.specs.declared.scheduler.Scheduler.{Scheduler}
use Rattle.salt_scheduler.specs.declared.follow.Follow.TheVariants.{Finish, Nothing}
use Rattle.law_states.specs.DependencyCalls.{IsCommitted}
use Rattle.law_states.specs.Members.{In}
use Rattle.law_states.specs.OpenUnits.{OpenUnit, UnitState, unit_named}
use Rattle.law_states.specs.Overlays.{Edit, edits_of}
use Rattle.law_states.specs.States.{State}
use Rattle.law_states.specs.Steps.{units_after}
use Rattle.law_states.specs.Told.{commits_in, fails_in, next_decision_number}
use Rattle.law_states.specs.UnitFacts.{UnitFacts, facts_in, facts_of}
use Rattle.law_states.specs.WatchSteps.{base_by, first_by}
use Rattle.law_states.specs.Watches.{Watch}
use Rattle.salt_model.specs.Units.{program_begun, program_of_kind}
use Rattle.salt_model.specs.declared.events.Cause.{Cause}
use Rattle.salt_model.specs.declared.events.End.TheVariants.{Branched, Committed, Failed}
use Rattle.salt_model.specs.declared.events.End.{End}
use Rattle.salt_model.specs.declared.events.Event.TheVariants.{Ended}
use Rattle.salt_model.specs.declared.events.Event.{Event}
use Rattle.salt_model.specs.declared.events.UnitKind.TheVariants.{Acid, Call, First, Later}
use Rattle.salt_model.specs.declared.events.UnitKind.{UnitKind}
use Rattle.salt_values.specs.declared.change.Change.{Change}
use Rattle.salt_values.specs.declared.id.Id.{Id}
use Rattle.salt_conflicts.specs.Watched.{GoesBy, IsWatch, place_of}
use Rattle.salt_conflicts.specs.declared.watching.Watching.{Watching}
use Rattle.std.proofs.Common.{Bor, ap, inl, inr, subst, sym, ◌∙◌}
use Rattle.std.specs.Prelude.{Bool, IsSome, List, None, Option, Some, [], false, is_some, map, option_map, refl, true, ℕ, ◌∷◌, ◌≡◌}

-- the facts that calls of the watch ask for

pub ended-base : (s : UnitState) (u : Id) (end : End) (o : OpenUnit) → unit_named u s.units ≡ Some o →
    base_by (facts_in s (Ended u end)) ≡ program_of_kind o.kind
ended-base s u end o named = ap base_by (facts-ended s u end o named)

pub ended-first : (s : UnitState) (u : Id) (end : End) (o : OpenUnit) → unit_named u s.units ≡ Some o →
    first_by (facts_in s (Ended u end)) ≡ program_begun o.kind
ended-first s u end o named = ap first_by (facts-ended s u end o named)

pub ended-first-none : (s : UnitState) (u : Id) (end : End) → unit_named u s.units ≡ None → first_by (facts_in s (Ended u end)) ≡ None
ended-first-none s u end none = ap (λ o. first_by (facts_of s (Ended u end) o)) none

edit-places : (cs : List Change) → map (λ (e : Edit). e.0) (edits_of cs) ≡ map place_of cs
edit-places [] = refl
edit-places (c ∷ cs) = ap (λ ps. place_of c ∷ ps) (edit-places cs)

pub ended-places : (s : UnitState) (u : Id) (end : End) (o : OpenUnit) (cs : List Change) → unit_named u s.units ≡ Some o → o.changes ≡ edits_of cs →
    map (λ (e : Edit). e.0) (facts_in s (Ended u end)).changes ≡ map place_of cs
ended-places s u end o cs named changed =
    ap (λ (f : UnitFacts). map (λ (e : Edit). e.0) f.changes) (facts-ended s u end o named) ∙ ap (map (λ (e : Edit). e.0)) changed ∙ edit-places cs

-- one that is found is the only one
pub one-found : {A : Type 0} (found : Option A) (x y : A) → found ≡ Some x → found ≡ Some y → x ≡ y
one-found {A = A} found x y is same = let both : Some x ≡ Some y = sym is ∙ same in cc

-- a commit

plain-watch : (kind : UnitKind) (x : Watching) (w : Watch) → IsWatch x w → watched_by (behind_commit kind) x w
plain-watch (Acid t) x w h = h
plain-watch (Call t n args) x w h = h
plain-watch (First t b n args) x w h = h
plain-watch (Later b part) x w h = h

accepts-first : (kind : UnitKind) (b : Id) → In b (accepting (behind_commit kind)) → program_begun kind ≡ Some b
accepts-first (Acid t) b i = absurd i
accepts-first (Call t n args) b i = absurd i
accepts-first (First t c n args) b (inl e) = ap Some e
accepts-first (First t c n args) b (inr i) = absurd i
accepts-first (Later c part) b i = absurd i

pub commit-gives : (x new : Scheduler) (u : Id) (o : OpenUnit) (quiet : Bool) (s : State) (given : Option Event) → StandsForState x s → unit_named u s.units.units ≡ Some o →
    given ≡ Some (Ended u (Committed (next_decision_number s.units))) → AreBooks new.books (units_after (Ended u (Committed (next_decision_number s.units))) s.units) →
    GoesBy (facts_in s.units (Ended u (Committed (next_decision_number s.units)))) (Ended u (Committed (next_decision_number s.units))) s.watch new.watch →
    new.called ≡ x.called → new.follow ≡ behind_commit o.kind →
    (quiet ≡ true → program_of_kind o.kind ≡ None) → ((w : Watch) → IsWatch new.watch w → new.calm ≡ is_calm_behind x.calm quiet w.waits) →
    AnswersWith s (Some (commits_in s.units o)) new given
commit-gives x new u o quiet s given stands named told books watch same follow acid calm =
    gives-same s (Some (commits_in s.units o)) (Some e) given new
    (ap (λ v. Some (Ended v (Committed (next_decision_number s.units)))) (named-unit u s.units.units o named))
    (gives IsWatch e s watch.0 x new given stands told (at-follow (behind_commit o.kind) e s watch.0 new follow (record {
      served = refl;
      follows = committed u (next_decision_number s.units) s.units (units_after e s.units) o named;
      watch = watch.1;
      watched = plain-watch o.kind new.watch watch.0 watch.2;
      books = books;
      called = called-stays IsWatch (behind_commit o.kind) s t x new stands same (λ b. refl) sub;
      calm = calm-behind e s watch.0 x.calm quiet new.calm stands.calm watch.1
          (λ is. inl (ended-base s.units u (Committed (next_decision_number s.units)) o named ∙ acid is))
          (commits-close-none (facts_in s.units e) u (next_decision_number s.units) s.watch watch.0 watch.1) (calm watch.0 watch.2);
    })))
  where
    e : Event
    e = Ended u (Committed (next_decision_number s.units))

    t : State
    t = state_by e s watch.0

    sub : (b : Id) → In b (bases_called (behind_commit o.kind) t) → In b (bases_called x.follow s)
    sub b i = by (called-at (behind_commit o.kind) t b i)
      where
        by : IsCalledAt (behind_commit o.kind) t b → In b (bases_called x.follow s)
        by (a_program j) = into-programs x.follow s b (subst (In b) watch.1.programs j)
        by (beginning j) = into-first x.follow s b (first-without u b s.units.units j)
        by (to_accept j) = into-first x.follow s b (first-in u b s.units.units o named (accepts-first o.kind b j))

-- an end that no decision makes

pub books-unended : (x : Books) (s : UnitState) (u : Id) (end : End) → IsUndecided end → unit_named u s.units ≡ None → AreBooks x s →
    AreBooks x (units_after (Ended u end) s)
books-unended x s u end free none books =
    subst (λ (r : UnitState). AreBooks x r) (sym same) books
  where
    same : units_after (Ended u end) s ≡ s
    same = λ i. record s { kept = nothing-decided end s.kept (unit_named u s.units) free i; units = without-none u s.units none i }

pub end-gives : (x new : Scheduler) (u : Id) (end : End) (s : State) (given : Option Event) → StandsForState x s → IsUndecided end →
    given ≡ Some (Ended u end) → AreBooks new.books (units_after (Ended u end) s.units) →
    GoesBy (facts_in s.units (Ended u end)) (Ended u end) s.watch new.watch →
    ((w : Watch) (b : Id) → IsWatch new.watch w → In b (bases_called Nothing (state_by (Ended u end) s w)) → name_told new.called b ≡ name_told x.called b) →
    new.follow ≡ Nothing → new.calm ≡ x.calm → AnswersWith s (Some (Ended u end)) new given
end-gives x new u end s given stands free told books watch names follow calm =
    gives IsWatch (Ended u end) s watch.0 x new given stands told (at-follow Nothing (Ended u end) s watch.0 new follow (record {
      served = refl;
      follows = undecided u end s.units (units_after (Ended u end) s.units) free;
      watch = watch.1;
      watched = watch.2;
      books = books;
      called = λ b i. names watch.0 b watch.2 i ∙ stands.called b
          (sub-called Nothing x.follow s (state_by (Ended u end) s watch.0) refl (λ c j. subst (In c) watch.1.programs j) (λ c j. first-without u c s.units.units j) b i);
      calm = calm-stays (Ended u end) s watch.0 x.calm new.calm stands.calm watch.1 (undecided-brings-none (facts_in s.units (Ended u end)) u end s.watch free) calm;
    }))

-- a failure of a later part

pub branch-gives : (x new : Scheduler) (u base : Id) (part : ℕ) (cause : Cause) (o : OpenUnit) (s : State) (given : Option Event) → StandsForState x s →
    unit_named u s.units.units ≡ Some o → o.kind ≡ Later base part → given ≡ Some (Ended u (Branched (next_decision_number s.units) cause)) →
    AreBooks new.books (units_after (Ended u (Branched (next_decision_number s.units) cause)) s.units) →
    GoesBy (facts_in s.units (Ended u (Branched (next_decision_number s.units) cause))) (Ended u (Branched (next_decision_number s.units) cause)) s.watch new.watch →
    new.called ≡ x.called → new.follow ≡ Finish base → new.calm ≡ x.calm →
    AnswersWith s (Some (Ended u (Branched (next_decision_number s.units) cause))) new given
branch-gives x new u base part cause o s given stands named kind told books watch same follow calm =
    gives IsWatch e s watch.0 x new given stands told (at-follow (Finish base) e s watch.0 new follow (record {
      served = refl;
      follows = subst (λ k. FollowsAs k) kind (branched u (next_decision_number s.units) cause s.units (units_after e s.units) o named);
      watch = watch.1;
      watched = watch.2;
      books = books;
      called = called-stays IsWatch (Finish base) s (state_by e s watch.0) x new stands same (λ b. refl)
          (sub-called (Finish base) x.follow s (state_by e s watch.0) refl (λ b i. subst (In b) watch.1.programs i) (λ b i. first-without u b s.units.units i));
      calm = calm-stays e s watch.0 x.calm new.calm stands.calm watch.1 tt calm;
    }))
  where
    e : Event
    e = Ended u (Branched (next_decision_number s.units) cause)

    FollowsAs : UnitKind → Type 0
    FollowsAs k = FollowsOn (behind_branch k) e s.units (units_after e s.units)

-- behind a statement

pub copied-none : {A : Type 0} (r : Option (Bor A)) (o : Option A) → option_copied r ≡ o → is_some r ≡ false → o ≡ None
copied-none None o same none = sym same
copied-none (Some x) o same none = cc

pub undecided-free : (end : End) → IsUndecided end → IsCommitted end → ⊥
undecided-free (Committed n) h g = h
undecided-free end h g = g

-- what a failure brings

pub done-failed : (s : UnitState) (u : Id) (o : OpenUnit) (c : Cause) → unit_named u s.units ≡ Some o → ((b : Id) (part : ℕ) → o.kind ≡ Later b part → ⊥) →
    done_of s (Some c) (unit_named u s.units) ≡ Some (Ended u (Failed c))
done-failed s u o c named other =
    ap (done_of s (Some c)) named ∙ by o.kind refl ∙ ap (λ v. Some (Ended v (Failed c))) (named-unit u s.units o named)
  where
    by : (kind : UnitKind) → o.kind ≡ kind → Some (fails_in s o c kind) ≡ Some (Ended o.unit (Failed c))
    by (Acid t) is = refl
    by (Call t n args) is = refl
    by (First t b n args) is = refl
    by (Later b part) is = absurd (other b part is)

-- a unit is to commit, or to go on behind its failure

pub end-brings : (x : Scheduler) (s : State) (u : Id) (c : Coming) → StandsForState x s → CommitsAtEnd s.units u c → AnswersWithComing s (done_of s.units None (unit_named u s.units.units)) x c
end-brings x s u coming.Nothing stands none = record { meant = sym none; ready = (stands, tt) }
end-brings x s u (coming.Commit v) stands end = record {
  meant = ap (λ w. option_map (commits_in s.units) (unit_named w s.units.units)) end.0 ∙ sym end.2;
  ready = (stands, subst (λ w. IsSome (unit_named w s.units.units)) (sym end.0) end.1);
}
end-brings x s u c stands end = absurd end

pub branch-brings : (x : Scheduler) (s : State) (u b : Id) (part : ℕ) (o : OpenUnit) (c : Cause) → StandsForState x s → unit_named u s.units.units ≡ Some o →
    o.kind ≡ Later b part → AnswersWithComing s (done_of s.units (Some c) (unit_named u s.units.units)) x (coming.Branch u b c)
branch-brings x s u b part o c stands named kind = record {
  meant = sym (done-branched s.units u b part o c named kind);
  ready = (stands, record { unit = o; part = part; named = named; kind = kind });
}
