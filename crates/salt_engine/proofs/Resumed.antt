-- Behind an early opening a scheduler stands for the state that it makes.
use Rattle.salt_books.specs.Books.{AreBooks}
use Rattle.salt_books.specs.Called.{name_told}
use Rattle.salt_books.specs.declared.books.Books.{Books}
use Rattle.salt_books.specs.declared.called.CalledNames.{CalledNames}
use Rattle.salt_conflicts.specs.Watched.{GoesBy, IsWatch}
use Rattle.salt_conflicts.specs.declared.watching.Watching.{Watching}
use Rattle.salt_engine.specs.Resuming.{AreCalled, GoesOnEarly, IsCalledBy, IsEarlyOver}
use Rattle.law_states.proofs.Ascending.{every-in}
use Rattle.law_states.specs.Members.{In}
use Rattle.law_states.specs.States.{State}
use Rattle.law_states.specs.UnitFacts.{UnitFacts}
use Rattle.law_story.proofs.Ids.{is_same_id-refl, is_same_id-true}
use Rattle.law_story.proofs.Lists.{in-cases, in-left, in-map, in-order, in-right, into-map}
use Rattle.salt_model.specs.declared.events.Event.TheVariants.{Early}
use Rattle.salt_scheduler.specs.Standing as scheduling
use Rattle.salt_scheduler.specs.declared.scheduler.Scheduler.{Scheduler}
use Rattle.salt_values.specs.Id.{is_same_id}
use Rattle.salt_values.specs.declared.cont.Cont.{Cont}
use Rattle.salt_values.specs.declared.id.Id.{Id}
use Rattle.std.proofs.Common.{ap, get_or, inl, inr, subst, sym, take, ◌∙◌}
use Rattle.std.proofs.lemmas.List.{take_more}
use Rattle.std.specs.Prelude.{Bool, List, Some, [], false, if◌then◌else◌, length, map, refl, true, ℕ, ◌++◌, ◌+◌, ◌<◌, ◌∷◌, ◌≡◌, ◌⊎◌}

-- NAMES are kept one by one: one that is kept already stays, or is that of another continuation of the same program

abbrev base_of : Cont → Id
base_of c = c.base

told-last : (called new : CalledNames) (b : Id) (c : Cont) → is_same_id b c.base ≡ true → name_told new b ≡ (if is_same_id b c.base then Some c.program else name_told called b) →
    name_told new b ≡ Some c.program
told-last called new b c same told = told ∙ ap (λ (t : Bool). if t then Some c.program else name_told called b) same

told-still : (called new : CalledNames) (b : Id) (c : Cont) → is_same_id b c.base ≡ false → name_told new b ≡ (if is_same_id b c.base then Some c.program else name_told called b) →
    name_told new b ≡ name_told called b
told-still called new b c other told = told ∙ ap (λ (t : Bool). if t then Some c.program else name_told called b) other

called-more : (called new : CalledNames) (cs : List Cont) (c : Cont) → AreCalled called cs →
    ((b : Id) → name_told new b ≡ (if is_same_id b c.base then Some c.program else name_told called b)) → AreCalled new (cs ++ c ∷ [])
called-more called new cs c before told b i = by (is_same_id b c.base) refl
  where
    from_before : is_same_id b c.base ≡ false → IsCalledBy called cs b → IsCalledBy new (cs ++ c ∷ []) b
    from_before other h =
        record { cont = h.cont; kept = in-left h.cont cs (c ∷ []) h.kept; base = h.base; name = told-still called new b c other (told b) ∙ h.name }

    among : (d : Cont) → d.base ≡ b → is_same_id b c.base ≡ false → In d cs ⊎ In d (c ∷ []) → In b (map base_of cs)
    among d is other (inl j) = subst (λ (x : Id). In x (map base_of cs)) is (into-map base_of d cs j)
    among d is other (inr (inl e)) =
        let same : b ≡ c.base = sym is ∙ ap base_of (sym e) in
        let t : true ≡ false = sym (subst (λ (x : Id). is_same_id b x ≡ true) same (is_same_id-refl b)) ∙ other in
        cc
    among d is other (inr (inr j)) = absurd j

    by : (t : Bool) → is_same_id b c.base ≡ t → IsCalledBy new (cs ++ c ∷ []) b
    by true same =
        record { cont = c; kept = in-right c cs (c ∷ []) (inl refl); base = sym (is_same_id-true b c.base same); name = told-last called new b c same (told b) }
    by false other =
        let m = in-map base_of b (cs ++ c ∷ []) i in
        from_before other (before b (among m.0 m.2 other (in-cases m.0 cs (c ∷ []) m.1)))

-- so it goes along a list
pub called-next : (called new : CalledNames) (cs : List Cont) (i : ℕ) (c : Cont) → i < length cs → c ≡ get_or cs i c → AreCalled called (take i cs) →
    ((b : Id) → name_told new b ≡ (if is_same_id b c.base then Some c.program else name_told called b)) → AreCalled new (take (i + 1) cs)
called-next called new cs i c within is before told =
    let front = take_more cs i c within ∙ ap (λ (d : Cont). take i cs ++ d ∷ []) (sym is) in
    subst (λ (ds : List Cont). AreCalled new ds) (sym front) (called-more called new (take i cs) c before told)

-- THE STATE behind the opening

pub goes-on-early : (x : Books) (called : CalledNames) (conts : List Cont) (watch : Watching) (y : Scheduler) (f : UnitFacts) (bs : List Id) (s : State) → IsEarlyOver x bs s →
    conts ≡ s.units.kept.conts → AreCalled called conts → GoesBy f (Early bs) s.watch watch →
    ((t : State) → AreBooks x t.units → t.units.units ≡ [] → scheduling.IsTurning t.units → IsWatch watch t.watch → t.watch.waits ≡ [] →
    ((b : Id) → In b t.watch.programs → name_told called b ≡ Some (t.names b)) → scheduling.StandsForState y t) → GoesOnEarly (λ t. scheduling.StandsForState y t) f bs s
goes-on-early x called conts watch y f bs s at same told goes stands = record {
  watch = goes.0;
  watched = goes.1;
  stands = stands (record s { watch = goes.0 }) at.books at.units (inl at.to_go) goes.2 goes.1.waits (λ b i. named b (subst (λ (ps : List Id). In b ps) goes.1.programs i));
}
  where
    named : (b : Id) → In b bs → name_told called b ≡ Some (s.names b)
    named b i =
        let among = in-order b (map base_of s.units.kept.conts) (subst (λ (ps : List Id). In b ps) at.unfinished i) in
        let h = told b (subst (λ (cs : List Cont). In b (map base_of cs)) (sym same) among) in
        let name = every-in (λ (c : Cont). s.names c.base ≡ c.program) h.cont s.units.kept.conts at.called (subst (λ (cs : List Cont). In h.cont cs) same h.kept) in
        h.name ∙ ap (λ (n : List ℕ). Some n) (sym name ∙ ap s.names h.base)
