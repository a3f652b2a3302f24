-- A unit has begun.
use Rattle.salt_ast.specs.declared.lines.Line.{Line}
use Rattle.salt_books.specs.Books.{AreBooks}
use Rattle.salt_books.specs.Called.{name_told}
use Rattle.salt_books.specs.declared.called.CalledNames.{CalledNames}
use Rattle.salt_scheduler.proofs.Beginning.{first-begun}
use Rattle.salt_scheduler.proofs.Done.{HasCalled, IsCalledAt, at-follow, called-at, gives, into-first, into-programs, state_by, a_program, beginning, to_accept}
use Rattle.salt_scheduler.proofs.InTurn.{begun-alone, begun-turns}
use Rattle.salt_scheduler.specs.Follows.{opens_alone}
use Rattle.salt_scheduler.specs.Calling.{IsCalled}
use Rattle.salt_scheduler.specs.Standing.{AnswersWith, StandsForState, accepting, bases_called}
use Rattle.salt_scheduler.specs.declared.scheduler.Scheduler.{Scheduler}
use Rattle.salt_scheduler.specs.declared.follow.Follow.TheVariants.{Nothing, Turn}
use Rattle.salt_scheduler.specs.declared.follow.Follow.{Follow}
use Rattle.law_states.specs.Circles.{NoneOnCircle}
use Rattle.law_states.specs.Members.{In}
use Rattle.law_states.specs.Readings.{first_parts}
use Rattle.law_states.specs.States.{State, named_by}
use Rattle.law_states.specs.Steps.{begun, units_after}
use Rattle.law_states.specs.Told.{begins_in, next_unit}
use Rattle.law_states.specs.UnitFacts.{facts_in}
use Rattle.law_story.proofs.Ids.{is_same_id-refl}
use Rattle.salt_model.specs.Units.{program_begun}
use Rattle.salt_model.specs.declared.events.Event.TheVariants.{Began}
use Rattle.salt_model.specs.declared.events.Event.{Event}
use Rattle.salt_model.specs.declared.events.UnitKind.TheVariants.{Acid, Call, First, Later}
use Rattle.salt_model.specs.declared.events.UnitKind.{UnitKind}
use Rattle.salt_values.specs.Id.{is_same_id}
use Rattle.salt_values.specs.declared.id.Id.{Id}
use Rattle.salt_conflicts.proofs.Others.{others}
use Rattle.salt_conflicts.specs.Watched.{IsWatch}
use Rattle.std.proofs.Common.{ap, inl, inr, subst, sym, ◌∙◌}
use Rattle.std.specs.Prelude.{Bool, IsTrue, List, Option, Some, [], false, if◌then◌else◌, refl, true, ℕ, ◌≡◌, ◌⊎◌}

called-by : (kind : UnitKind) (u b : Id) (old new : CalledNames) (names : Id → List ℕ) → IsCalled kind old new →
    (name_told old b ≡ Some (names b)) ⊎ (program_begun kind ≡ Some b) → name_told new b ≡ Some (named_by (Began u kind) names b)
called-by (First t c n args) u b old new names h (inl told) = h b ∙ by (is_same_id b c) told
  where
    by : (t : Bool) → name_told old b ≡ Some (names b) → (if t then Some n else name_told old b) ≡ Some (if t then n else names b)
    by true told = refl
    by false told = told
called-by (First t c n args) u b old new names h (inr begins) =
    let same : c ≡ b = cc in
    let is : is_same_id b c ≡ true = subst (λ x. is_same_id b x ≡ true) (sym same) (is_same_id-refl b) in
    h b ∙ ap (λ t. if t then Some n else name_told old b) is ∙ sym (ap (λ t. Some (if t then n else names b)) is)
called-by (Acid t) u b old new names h (inl told) = ap (λ c. name_told c b) h ∙ told
called-by (Acid t) u b old new names h (inr begins) = cc
called-by (Call t n args) u b old new names h (inl told) = ap (λ c. name_told c b) h ∙ told
called-by (Call t n args) u b old new names h (inr begins) = cc
called-by (Later c part) u b old new names h (inl told) = ap (λ c. name_told c b) h ∙ told
called-by (Later c part) u b old new names h (inr begins) = cc

begun-called : (f : Follow) (kind : UnitKind) (x new : Scheduler) (s : State) → accepting f ≡ [] → StandsForState x s → IsCalled kind x.called new.called →
    (b : Id) → In b (bases_called f (state_by (begins_in s.units kind) s s.watch)) → name_told new.called b ≡ Some (named_by (begins_in s.units kind) s.names b)
begun-called f kind x new s none stands called b i = by (called-at f (state_by (begins_in s.units kind) s s.watch) b i)
  where
    begins : In b (first_parts s.units.units) ⊎ (program_begun kind ≡ Some b) → name_told new.called b ≡ Some (named_by (begins_in s.units kind) s.names b)
    begins (inl k) = called-by kind (next_unit s.units) b x.called new.called s.names called (inl (stands.called b (into-first x.follow s b k)))
    begins (inr e) = called-by kind (next_unit s.units) b x.called new.called s.names called (inr e)

    by : IsCalledAt f (state_by (begins_in s.units kind) s s.watch) b → name_told new.called b ≡ Some (named_by (begins_in s.units kind) s.names b)
    by (a_program j) = called-by kind (next_unit s.units) b x.called new.called s.names called (inl (stands.called b (into-programs x.follow s b j)))
    by (beginning j) = begins (first-begun b s.units.units (begun s.units (next_unit s.units) kind) j)
    by (to_accept j) = absurd (subst (In b) none j)

abbrev pub follow_begun : Id → Bool → Follow
follow_begun u alone = if alone then Nothing else Turn u

pub begin-gives : (now : Line) (kind : UnitKind) (x new : Scheduler) (s : State) (given : Option Event) → StandsForState x s → s.units.line ≡ now →
    given ≡ Some (begins_in s.units kind) → IsWatch new.watch s.watch → AreBooks new.books (units_after (begins_in s.units kind) s.units) →
    IsCalled kind x.called new.called → new.follow ≡ (if opens_alone now kind then Nothing else Turn (next_unit s.units)) → new.calm ≡ x.calm →
    AnswersWith s (Some (begins_in s.units kind)) new given
begin-gives now kind x new s given stands line told watch books called follow calm =
    gives IsWatch (begins_in s.units kind) s s.watch x new given stands told (by (opens_alone s.units.line kind) refl)
  where
    follows : new.follow ≡ follow_begun (next_unit s.units) (opens_alone s.units.line kind)
    follows = follow ∙ ap (λ l. follow_begun (next_unit s.units) (opens_alone l kind)) (sym line)

    begun-calm : IsTrue new.calm → NoneOnCircle s.watch
    begun-calm is = stands.calm (sym calm ∙ is)

    by : (t : Bool) → opens_alone s.units.line kind ≡ t → HasCalled new.follow (begins_in s.units kind) s s.watch new
    by true is = at-follow Nothing (begins_in s.units kind) s s.watch new (follows ∙ ap (follow_begun (next_unit s.units)) is) (record {
      served = refl;
      follows = begun-alone (next_unit s.units) kind s.units (units_after (begins_in s.units kind) s.units) is;
      watch = others s.watch (facts_in s.units (begins_in s.units kind)) (begins_in s.units kind) tt;
      watched = watch;
      books = books;
      called = begun-called Nothing kind x new s refl stands called;
      calm = begun-calm;
    })
    by false is = at-follow (Turn (next_unit s.units)) (begins_in s.units kind) s s.watch new (follows ∙ ap (follow_begun (next_unit s.units)) is) (record {
      served = refl;
      follows = begun-turns (next_unit s.units) kind s.units (units_after (begins_in s.units kind) s.units) is;
      watch = others s.watch (facts_in s.units (begins_in s.units kind)) (begins_in s.units kind) tt;
      watched = watch;
      books = books;
      called = begun-called (Turn (next_unit s.units)) kind x new s refl stands called;
      calm = begun-calm;
    })

pub follows-alone : (now : Line) (kind : UnitKind) (u : Id) (f : Follow) (t : Bool) → t ≡ opens_alone now kind → t ≡ true → f ≡ Nothing →
    f ≡ (if opens_alone now kind then Nothing else Turn u)
follows-alone now kind u f t told is at = at ∙ sym (ap (follow_begun u) (sym told ∙ is))

pub follows-turn : (now : Line) (kind : UnitKind) (u v : Id) (f : Follow) (t : Bool) → t ≡ opens_alone now kind → t ≡ false → v ≡ u → f ≡ Turn v →
    f ≡ (if opens_alone now kind then Nothing else Turn u)
follows-turn now kind u v f t told is name at = at ∙ ap Turn name ∙ sym (ap (follow_begun u) (sym told ∙ is))
