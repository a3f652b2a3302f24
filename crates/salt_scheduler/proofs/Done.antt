-- An event that is done: what calls left of books, watch and names is what the event makes of the state.
use Rattle.salt_books.specs.Books.{AreBooks}
use Rattle.salt_books.specs.Called.{name_told}
use Rattle.salt_scheduler.specs.Follows.{FollowsOn}
use Rattle.salt_scheduler.specs.Serving.{is_served}
use Rattle.salt_scheduler.specs.Standing.{AnswersWithComing, AnswersWith, HasDoneEvent, IsTurning, StandsAtEvent, StandsForState, StandsWith, accepting, bases_called, watched_by}
use Rattle.salt_books.specs.declared.coming.Coming.TheVariants as coming
use Rattle.salt_books.specs.declared.coming.Coming.{Coming}
use Rattle.salt_scheduler.specs.declared.scheduler.Scheduler.{Scheduler}
use Rattle.salt_scheduler.specs.declared.follow.Follow.TheVariants.{Nothing}
use Rattle.salt_scheduler.specs.declared.follow.Follow.{Follow}
use Rattle.law_states.specs.Circles.{NoneOnCircle}
use Rattle.law_states.specs.Members.{In}
use Rattle.law_states.specs.OpenUnits.{UnitState}
use Rattle.law_states.specs.Readings.{first_parts}
use Rattle.law_states.specs.States.{State, named_by, net_by}
use Rattle.law_states.specs.Steps.{units_after}
use Rattle.law_states.specs.UnitFacts.{facts_in}
use Rattle.law_states.specs.WatchSteps.{WatchBy}
use Rattle.law_states.specs.Watches.{Watch}
use Rattle.salt_model.specs.declared.events.Event.{Event}
use Rattle.salt_model.specs.declared.events.Event.TheVariants.{Began, Defined, Did, Down, Early, Ended, Opened, Ready, Waits}
use Rattle.salt_values.specs.declared.id.Id.{Id}
use Rattle.salt_conflicts.specs.declared.watching.Watching.{Watching}
use Rattle.salt_model.specs.Next.{decision_in}
use Rattle.std.proofs.Common.{ap, inl, inr, subst, sym, ◌∙◌}
use Rattle.std.specs.Prelude.{IsTrue, List, None, Option, Some, [], refl, true, ◌++◌, ◌∷◌, ◌≡◌, ◌⊎◌}

in-left : (b : Id) (xs ys : List Id) → In b xs → In b (xs ++ ys)
in-left b [] ys i = absurd i
in-left b (x ∷ xs) ys (inl e) = inl e
in-left b (x ∷ xs) ys (inr i) = inr (in-left b xs ys i)

in-right : (b : Id) (xs ys : List Id) → In b ys → In b (xs ++ ys)
in-right b [] ys i = i
in-right b (x ∷ xs) ys i = inr (in-right b xs ys i)

in-cases : (b : Id) (xs ys : List Id) → In b (xs ++ ys) → In b xs ⊎ In b ys
in-cases b [] ys i = inr i
in-cases b (x ∷ xs) ys (inl e) = inl (inl e)
in-cases b (x ∷ xs) ys (inr i) = later (in-cases b xs ys i)
  where
    later : In b xs ⊎ In b ys → In b (x ∷ xs) ⊎ In b ys
    later (inl j) = inl (inr j)
    later (inr j) = inr j

abbrev pub state_by : Event → State → Watch → State
state_by e s w = record { units = units_after e s.units; watch = w; names = named_by e s.names; can_stop = s.can_stop; over_net = s.over_net; net = net_by e s.units s.net }

-- an event leaves the programs that have still to turn
pub to-go-stays : (e : Event) (s : UnitState) → is_served e ≡ true → (units_after e s).to_go ≡ s.to_go
to-go-stays (Began u kind) s h = refl
to-go-stays (Did u st answer) s h = refl
to-go-stays (Waits u owners) s h = refl
to-go-stays (Ended u end) s h = refl
to-go-stays (Defined n text) s h = refl
to-go-stays (Down why) s h = cc
to-go-stays (Opened boot n) s h = cc
to-go-stays Ready s h = cc
to-go-stays (Early bs) s h = cc
to-go-stays e s h = refl

pub line-stays : (e : Event) (s : UnitState) → (units_after e s).line ≡ s.line
line-stays (Began u kind) s = refl
line-stays (Did u st answer) s = refl
line-stays (Waits u owners) s = refl
line-stays (Ended u end) s = refl
line-stays (Defined n text) s = refl
line-stays (Down why) s = refl
line-stays (Opened boot n) s = refl
line-stays Ready s = refl
line-stays (Early bs) s = refl
line-stays e s = refl

turns-on : (e : Event) (s : UnitState) → is_served e ≡ true → IsTurning s → IsTurning (units_after e s)
turns-on e s h (inl g) = inl (to-go-stays e s h ∙ g)
turns-on e s h (inr g) = inr (line-stays e s ∙ g)

-- what the calls of an event leave, which this follows
pub record HasCalled (f : Follow) (e : Event) (s : State) (w : Watch) (new : Scheduler) : Type 0 where
  pub served : is_served e ≡ true
  pub follows : FollowsOn f e s.units (units_after e s.units)
  pub watch : WatchBy (facts_in s.units e) e s.watch w
  pub watched : watched_by f new.watch w
  pub books : AreBooks new.books (units_after e s.units)
  pub called : (b : Id) → In b (bases_called f (state_by e s w)) → name_told new.called b ≡ Some (named_by e s.names b)
  pub calm : IsTrue new.calm → NoneOnCircle w

pub at-follow : (f : Follow) (e : Event) (s : State) (w : Watch) (new : Scheduler) → new.follow ≡ f → HasCalled f e s w new → HasCalled new.follow e s w new
at-follow f e s w new same h = subst (λ g. HasCalled g e s w new) (sym same) h

pub done : (watched : Watching → Watch → Type 0) (e : Event) (s : State) (w : Watch) (x new : Scheduler) → StandsWith watched x s →
    HasCalled new.follow e s w new → HasDoneEvent new e s (state_by e s w)
done watched e s w x new stands h = record {
  served = h.served;
  after = record { units = refl; watch = h.watch; names = λ b. refl; can_stop = refl; over_net = refl; net = λ shape. refl };
  behind = record {
    books = h.books;
    watch = h.watched;
    called = h.called;
    turns = turns-on e s.units h.served stands.turns;
    calm = h.calm;
  };
  follows = h.follows;
}

-- names that are kept: no more programs are called, and by the same names
pub called-stays : (watched : Watching → Watch → Type 0) (f : Follow) (s t : State) (x new : Scheduler) → StandsWith watched x s → new.called ≡ x.called →
    ((b : Id) → t.names b ≡ s.names b) → ((b : Id) → In b (bases_called f t) → In b (bases_called x.follow s)) →
    (b : Id) → In b (bases_called f t) → name_told new.called b ≡ Some (t.names b)
called-stays watched f s t x new stands same names sub b i =
    ap (λ c. name_told c b) same ∙ stands.called b (sub b i) ∙ sym (ap Some (names b))

-- programs called, by where they come from
pub into-programs : (f : Follow) (s : State) (b : Id) → In b s.watch.programs → In b (bases_called f s)
into-programs f s b i = in-left b s.watch.programs (first_parts s.units.units ++ accepting f) i

pub into-first : (f : Follow) (s : State) (b : Id) → In b (first_parts s.units.units) → In b (bases_called f s)
into-first f s b i = in-right b s.watch.programs (first_parts s.units.units ++ accepting f) (in-left b (first_parts s.units.units) (accepting f) i)

pub into-accepting : (f : Follow) (s : State) (b : Id) → In b (accepting f) → In b (bases_called f s)
into-accepting f s b i = in-right b s.watch.programs (first_parts s.units.units ++ accepting f) (in-right b (first_parts s.units.units) (accepting f) i)

pub data IsCalledAt (f : Follow) (s : State) (b : Id) : Type 0 where
  a_program : In b s.watch.programs → IsCalledAt f s b
  beginning : In b (first_parts s.units.units) → IsCalledAt f s b
  to_accept : In b (accepting f) → IsCalledAt f s b

pub called-at : (f : Follow) (s : State) (b : Id) → In b (bases_called f s) → IsCalledAt f s b
called-at f s b i = by (in-cases b s.watch.programs (first_parts s.units.units ++ accepting f) i)
  where
    later : In b (first_parts s.units.units) ⊎ In b (accepting f) → IsCalledAt f s b
    later (inl j) = beginning j
    later (inr j) = to_accept j

    by : In b s.watch.programs ⊎ In b (first_parts s.units.units ++ accepting f) → IsCalledAt f s b
    by (inl j) = a_program j
    by (inr j) = later (in-cases b (first_parts s.units.units) (accepting f) j)

-- where none is about to be accepted
pub under-way-at : (t : State) (b : Id) → In b (bases_called Nothing t) → In b (t.watch.programs ++ first_parts t.units.units)
under-way-at t b i = by (called-at Nothing t b i)
  where
    by : IsCalledAt Nothing t b → In b (t.watch.programs ++ first_parts t.units.units)
    by (a_program j) = in-left b t.watch.programs (first_parts t.units.units) j
    by (beginning j) = in-right b t.watch.programs (first_parts t.units.units) j
    by (to_accept j) = absurd j

-- no program more is called, where none is about to be accepted
pub sub-called : (f g : Follow) (s t : State) → accepting f ≡ [] → ((b : Id) → In b t.watch.programs → In b s.watch.programs) →
    ((b : Id) → In b (first_parts t.units.units) → In b (first_parts s.units.units)) → (b : Id) → In b (bases_called f t) → In b (bases_called g s)
sub-called f g s t none programs firsts b i = by (called-at f t b i)
  where
    by : IsCalledAt f t b → In b (bases_called g s)
    by (a_program j) = into-programs g s b (programs b j)
    by (beginning j) = into-first g s b (firsts b j)
    by (to_accept j) = absurd (subst (In b) none j)

-- an event is given that is what the state tells, and is done
pub gives : (watched : Watching → Watch → Type 0) (e : Event) (s : State) (w : Watch) (x new : Scheduler) (given : Option Event) → StandsWith watched x s →
    given ≡ Some e → HasCalled new.follow e s w new → AnswersWith s (Some e) new given
gives watched e s w x new given stands told h = record {
  told = told;
  done = subst (λ g. StandsAtEvent new g s) (sym told) (state_by e s w, done watched e s w x new stands h);
}

-- what is told in other words
pub gives-same : (s : State) (want other given : Option Event) (new : Scheduler) → want ≡ other → AnswersWith s other new given → AnswersWith s want new given
gives-same s want other given new same h = record { told = h.told ∙ sym same; done = h.done }

-- what is to come: an event that is done, which no decision makes
pub brings-told : (s : State) (want : Option Event) (new : Scheduler) (e : Event) → AnswersWith s want new (Some e) → decision_in want ≡ None → AnswersWithComing s want new (coming.Told e)
brings-told s want new e h plain = record { meant = h.told; ready = (h.done, ap decision_in h.told ∙ plain) }

pub brings-plain : (s : State) (want : Option Event) (new : Scheduler) (e : Event) → decision_in (Some e) ≡ None → AnswersWith s want new (Some e) → AnswersWithComing s want new (coming.Told e)
brings-plain s want new e plain h = record { meant = h.told; ready = (h.done, plain) }

-- nothing
pub brings-none : (s : State) (want : Option Event) (new : Scheduler) → want ≡ None → StandsForState new s → AnswersWithComing s want new coming.Nothing
brings-none s want new none stands = record { meant = sym none; ready = (stands, tt) }

-- what is told in other words
pub brings-same : (s : State) (want other : Option Event) (new : Scheduler) (c : Coming) → want ≡ other → AnswersWithComing s other new c → AnswersWithComing s want new c
brings-same s want other new c same h = record { meant = h.meant ∙ sym same; ready = h.ready }
