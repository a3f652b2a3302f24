-- A program is accepted, has finished or is released.
use Rattle.salt_books.specs.Books.{AreBooks}
use Rattle.salt_books.specs.Called.{name_told}
use Rattle.salt_scheduler.proofs.Done.{IsCalledAt, at-follow, brings-plain, called-at, called-stays, gives, into-accepting, into-first, into-programs, state_by, sub-called, a_program, beginning, to_accept}
use Rattle.salt_scheduler.proofs.Calm.{calm-stays}
use Rattle.salt_books.specs.declared.coming.Coming.TheVariants as coming
use Rattle.salt_scheduler.specs.Standing.{AnswersWithComing, AnswersWith, StandsForState, StandsWith, accepting, bases_called, watched_by}
use Rattle.salt_scheduler.specs.declared.scheduler.Scheduler.{Scheduler}
use Rattle.salt_scheduler.specs.declared.follow.Follow.TheVariants.{Accept, Finish, Nothing, Release}
use Rattle.law_states.specs.Members.{In}
use Rattle.law_states.specs.Readings.{WatchReading}
use Rattle.law_states.specs.States.{State}
use Rattle.law_states.specs.Told.{finishes_in}
use Rattle.law_states.specs.UnitFacts.{facts_in}
use Rattle.law_states.specs.WatchSteps.{WatchBy}
use Rattle.law_states.specs.Watches.{Watch}
use Rattle.salt_model.specs.Kept.{cont_of}
use Rattle.salt_model.specs.Turns.{releases}
use Rattle.salt_values.specs.Id.{in_order, insert_id}
use Rattle.salt_model.specs.declared.events.Event.TheVariants.{Accepted, Finished, Released}
use Rattle.salt_model.specs.declared.events.Event.{Event}
use Rattle.salt_values.specs.declared.cont.Cont.{Cont}
use Rattle.salt_values.specs.Id.{is_older, is_same_id}
use Rattle.salt_values.specs.declared.id.Id.{Id}
use Rattle.salt_conflicts.proofs.Others.{marks}
use Rattle.salt_conflicts.specs.Watched.{GoesBy, IsFinishing, IsWatch}
use Rattle.std.proofs.Common.{ap, inl, inr, subst, sym, ◌∙◌}
use Rattle.std.specs.Bool.{then_some}
use Rattle.std.specs.List.{filter}
use Rattle.std.specs.Prelude.{Bool, List, None, Option, Some, [], cond, false, is_none, refl, true, ◌∷◌, ◌≡◌, ◌⊎◌}

-- who is among names with one more, and among names without some

in-inserted : (u b : Id) (vs : List Id) → In b (insert_id u vs) → (u ≡ b) ⊎ In b vs
in-inserted u b [] (inl e) = inl e
in-inserted u b [] (inr i) = absurd i
in-inserted u b (v ∷ vs) i = by (is_older u v) (is_same_id u v) i (in-inserted u b vs)
  where
    more : (u ≡ b) ⊎ In b vs → (u ≡ b) ⊎ In b (v ∷ vs)
    more (inl e) = inl e
    more (inr j) = inr (inr j)

    front : In b (u ∷ v ∷ vs) → (u ≡ b) ⊎ In b (v ∷ vs)
    front (inl e) = inl e
    front (inr j) = inr j

    back : In b (v ∷ insert_id u vs) → (In b (insert_id u vs) → (u ≡ b) ⊎ In b vs) → (u ≡ b) ⊎ In b (v ∷ vs)
    back (inl e) rest = inr (inl e)
    back (inr j) rest = more (rest j)

    by : (x y : Bool) → In b (cond x (u ∷ v ∷ vs) (cond y (v ∷ vs) (v ∷ insert_id u vs))) → (In b (insert_id u vs) → (u ≡ b) ⊎ In b vs) → (u ≡ b) ⊎ In b (v ∷ vs)
    by true y j rest = front j
    by false true j rest = inr j
    by false false j rest = back j rest

in-filtered : (p : Id → Bool) (b : Id) (vs : List Id) → In b (filter p vs) → In b vs
in-filtered p b [] i = i
in-filtered p b (v ∷ vs) i = by (p v) i (in-filtered p b vs)
  where
    front : In b (v ∷ filter p vs) → (In b (filter p vs) → In b vs) → In b (v ∷ vs)
    front (inl e) rest = inl e
    front (inr j) rest = inr (rest j)

    by : (t : Bool) → In b (cond t (v ∷ filter p vs) (filter p vs)) → (In b (filter p vs) → In b vs) → In b (v ∷ vs)
    by true j rest = front j rest
    by false j rest = inr (rest j)

pub accept-gives : (x new : Scheduler) (base : Id) (s : State) (given : Option Event) → StandsForState x s → x.follow ≡ Accept base → given ≡ Some (Accepted base) →
    new.books ≡ x.books → GoesBy (facts_in s.units (Accepted base)) (Accepted base) s.watch new.watch → new.called ≡ x.called → new.follow ≡ Finish base →
    new.calm ≡ x.calm → AnswersWith s (Some (Accepted base)) new given
accept-gives x new base s given stands accepts told books watch same follow calm =
    gives IsWatch (Accepted base) s watch.0 x new given stands told (at-follow (Finish base) (Accepted base) s watch.0 new follow (record {
      served = refl;
      follows = λ beside. refl;
      watch = watch.1;
      watched = watch.2;
      books = subst (λ b. AreBooks b s.units) (sym books) stands.books;
      called = called-stays IsWatch (Finish base) s t x new stands same (λ b. refl) sub;
      calm = calm-stays (Accepted base) s watch.0 x.calm new.calm stands.calm watch.1 tt calm;
    }))
  where
    t : State
    t = state_by (Accepted base) s watch.0

    sub : (b : Id) → In b (bases_called (Finish base) t) → In b (bases_called x.follow s)
    sub b i = by (called-at (Finish base) t b i)
      where
        accepted : (base ≡ b) ⊎ In b s.watch.programs → In b (bases_called x.follow s)
        accepted (inl e) = into-accepting x.follow s b (subst (λ f. In b (accepting f)) (sym accepts) (inl e))
        accepted (inr j) = into-programs x.follow s b j

        by : IsCalledAt (Finish base) t b → In b (bases_called x.follow s)
        by (a_program j) = accepted (in-inserted base b s.watch.programs (subst (In b) watch.1.programs j))
        by (beginning j) = into-first x.follow s b j
        by (to_accept j) = absurd j

finishes-now : (s : State) (base : Id) → cont_of base s.units.kept ≡ None → finishes_in s.units base ≡ Some (Finished base)
finishes-now s base none = ap (λ (o : Option Cont). then_some (is_none o) (Finished base)) none

pub finish-brings : (x new : Scheduler) (base : Id) (s : State) → StandsForState x s → cont_of base s.units.kept ≡ None →
    new.books ≡ x.books → new.watch ≡ x.watch → new.called ≡ x.called → new.follow ≡ Release base → new.calm ≡ x.calm →
    AnswersWithComing s (finishes_in s.units base) new (coming.Told (Finished base))
finish-brings x new base s stands none books watch same follow calm =
    brings-plain s (finishes_in s.units base) new (Finished base) refl
    (subst (λ (want : Option Event). AnswersWith s want new (Some (Finished base))) (sym (finishes-now s base none))
    (gives IsWatch (Finished base) s w x new (Some (Finished base)) stands refl (at-follow (Release base) (Finished base) s w new follow (record {
      served = refl;
      follows = λ beside. refl;
      watch = marked.1;
      watched = subst (λ v. IsFinishing base v w) (sym watch) marked.2;
      books = subst (λ b. AreBooks b s.units) (sym books) stands.books;
      called = called-stays IsWatch (Release base) s (state_by (Finished base) s w) x new stands same (λ b. refl)
          (sub-called (Release base) x.follow s (state_by (Finished base) s w) refl (λ b i. subst (In b) marked.1.programs i) (λ b i. i));
      calm = calm-stays (Finished base) s w x.calm new.calm stands.calm marked.1 tt calm;
    }))))
  where
    marked : (w : Watch) × WatchBy (facts_in s.units (Finished base)) (Finished base) s.watch w × IsFinishing base x.watch w
    marked = marks x.watch s.watch (facts_in s.units (Finished base)) base stands.watch

    w : Watch
    w = marked.0

-- what finishing releases

releases-some : (due : List Id) → (due ≡ [] → ⊥) → releases due ≡ Some (Released due)
releases-some [] h = absurd (h refl)
releases-some (b ∷ bs) h = refl

pub release-brings : (x new : Scheduler) (base : Id) (s : State) (r : WatchReading s.watch) (due : List Id) →
    StandsWith (watched_by (Release base)) x s → due ≡ in_order r.due → (due ≡ [] → ⊥) →
    GoesBy (facts_in s.units (Released due)) (Released due) s.watch new.watch → new.books ≡ x.books →
    ((w : Watch) (b : Id) → IsWatch new.watch w → In b (bases_called Nothing (state_by (Released due) s w)) → name_told new.called b ≡ name_told x.called b) →
    new.follow ≡ Nothing → new.calm ≡ x.calm → AnswersWithComing s (releases (in_order r.due)) new (coming.Told (Released due))
release-brings x new base s r due stands told some watch books names follow calm =
    brings-plain s (releases (in_order r.due)) new (Released due) refl
    (subst (λ (want : Option Event). AnswersWith s want new (Some (Released due))) (sym (releases-some due some) ∙ ap releases told)
    (gives (watched_by (Release base)) (Released due) s watch.0 x new (Some (Released due)) stands refl (at-follow Nothing (Released due) s watch.0 new follow (record {
      served = refl;
      follows = λ beside. refl;
      watch = watch.1;
      watched = watch.2;
      books = subst (λ b. AreBooks b s.units) (sym books) stands.books;
      called = λ b i. names watch.0 b watch.2 i ∙ stands.called b
          (sub-called Nothing x.follow s (state_by (Released due) s watch.0) refl
          (λ c j. in-filtered _ c s.watch.programs (subst (In c) watch.1.programs j)) (λ c j. j) b i);
      calm = calm-stays (Released due) s watch.0 x.calm new.calm stands.calm watch.1 tt calm;
    }))))
