-- What an opening goes on with, where nothing follows: an event that is done at once, and no preparation.
use Rattle.salt_books.specs.Ends.{done_of}
use Rattle.salt_books.specs.declared.coming.Coming.{Coming}
use Rattle.salt_books.specs.declared.coming.Coming.TheVariants as coming
use Rattle.salt_engine.proofs.Unprepared.{done-plain, either-plain, finish-plain, serves-plain}
use Rattle.salt_engine.specs.Performing.{is_prepared}
use Rattle.law_states.specs.Follows.{cut_in, cuts_or_drains_in, drains_in, unfinished_in}
use Rattle.law_states.specs.OpenUnits.{OpenUnit, UnitState, unit_named}
use Rattle.law_states.specs.States.{State}
use Rattle.law_states.specs.Told.{commits_in, does_in, next_decision_number, serve_in}
use Rattle.salt_model.specs.Words.{is_empty}
use Rattle.salt_model.specs.declared.events.End.TheVariants.{Branched, Cut}
use Rattle.salt_model.specs.declared.events.Event.{Event}
use Rattle.salt_model.specs.declared.events.Event.TheVariants.{Began, Early, Ended, Ready}
use Rattle.salt_drain.specs.Follows.{comes_behind, event_of, rest_in}
use Rattle.salt_drain.specs.Recovering.{AnswersWithComing}
use Rattle.salt_drain.specs.declared.behind.Behind.{Behind}
use Rattle.salt_drain.specs.declared.behind.Behind.TheVariants.{Accept, Done, Finish, Nothing, Turn}
use Rattle.salt_drain.specs.declared.recovery.Recovery.{Recovery}
use Rattle.salt_values.specs.declared.cont.Cont.{Cont}
use Rattle.salt_values.specs.declared.id.Id.{Id}
use Rattle.std.proofs.Common.{ap, sym, ◌∙◌}
use Rattle.std.specs.Bool.{then_some}
use Rattle.std.specs.Prelude.{Bool, IsSome, List, None, Option, Some, [], false, option_and_then, option_map, refl, true, ⊤, ◌∷◌, ◌≡◌}

abbrev pub is_resting : Event → Bool
is_resting (Ended u Cut) = true
is_resting (Began u kind) = true
is_resting Ready = true
is_resting (Early bs) = true
is_resting e = false

pub rests-only : (s : UnitState) (e : Event) → Some e ≡ rest_in s → is_resting e ≡ true
rests-only s e h = by (cut_in s) h
  where
    unfinished : (early : Bool) (c : Cont) (cs : List Cont) → is_resting (unfinished_in early s c cs) ≡ true
    unfinished true c cs = refl
    unfinished false c cs = refl

    drains : (cs : List Cont) → is_resting (drains_in s cs) ≡ true
    drains [] = refl
    drains (c ∷ cs) = unfinished s.early c cs

    on : (b : Bool) → Some e ≡ then_some b (drains_in s s.kept.conts) → is_resting e ≡ true
    on true h = let same : e ≡ drains_in s s.kept.conts = cc in ap is_resting same ∙ drains s.kept.conts
    on false h = cc

    by : (us : List Id) → Some e ≡ cuts_or_drains_in s us → is_resting e ≡ true
    by (u ∷ us) h = let same : e ≡ Ended u Cut = cc in ap is_resting same
    by [] h = on (is_empty s.units) h

none-some : (o : Option Event) → None ≡ o → IsSome o → ⊥
none-some None e h = cc
none-some (Some e) h k = cc

abbrev pub IsTold : Coming → Type 0
IsTold (coming.Told e) = ⊤
IsTold c = ⊥

pub rest-told : (s : State) (x : Recovery) (c : Coming) → AnswersWithComing s (rest_in s.units) x c → IsSome (rest_in s.units) → IsTold c
rest-told s x coming.Nothing b h = none-some (rest_in s.units) b.meant h
rest-told s x (coming.Told e) b h = tt
rest-told s x (coming.Act a) b h =
    let o = b.ready.1.0 in
    let not : false ≡ true = rests-only s.units (does_in s.units o a.statement) (sym (ap (option_map (λ (p : OpenUnit). does_in s.units p a.statement)) b.ready.1.1.named) ∙ b.meant) in
    cc
rest-told s x (coming.Commit u) b h = by (unit_named u s.units.units) refl b.ready.1
  where
    by : (q : Option OpenUnit) → unit_named u s.units.units ≡ q → IsSome q → ⊥
    by None e some = cc
    by (Some o) e some = let not : false ≡ true = rests-only s.units (commits_in s.units o) (sym (ap (option_map (commits_in s.units)) e) ∙ b.meant) in cc
rest-told s x (coming.Branch u base cause) b h = let not : false ≡ true = rests-only s.units (Ended u (Branched (next_decision_number s.units) cause)) b.meant in cc

pub told-event : (c : Coming) → IsTold c → (e : Event) × (c ≡ coming.Told e)
told-event (coming.Told e) h = (e, refl)
told-event coming.Nothing h = absurd h
told-event (coming.Act a) h = absurd h
told-event (coming.Commit u) h = absurd h
told-event (coming.Branch u base cause) h = absurd h

-- NO PREPARATION comes in an opening.

rest-plain : (s : UnitState) → is_prepared (rest_in s) ≡ false
rest-plain s = by (cut_in s)
  where
    unfinished : (early : Bool) (c : Cont) (cs : List Cont) → is_prepared (Some (unfinished_in early s c cs)) ≡ false
    unfinished true c cs = refl
    unfinished false c cs = refl

    drains : (b : Bool) (cs : List Cont) → is_prepared (then_some b (drains_in s cs)) ≡ false
    drains true [] = refl
    drains true (c ∷ cs) = unfinished s.early c cs
    drains false cs = refl

    by : (us : List Id) → is_prepared (cuts_or_drains_in s us) ≡ false
    by (u ∷ us) = refl
    by [] = drains (is_empty s.units) s.kept.conts

behind-plain : (b : Behind) (s : UnitState) → is_prepared (event_of b s) ≡ false
behind-plain Nothing s = refl
behind-plain (Turn u) s = serves-plain s (unit_named u s.units)
behind-plain (Done u failed) s =
    either-plain (done_of s failed (unit_named u s.units)) (option_and_then (serve_in s) (unit_named u s.units)) (done-plain s failed (unit_named u s.units)) (serves-plain s (unit_named u s.units))
behind-plain (Accept b) s = refl
behind-plain (Finish b) s = finish-plain s b

pub opening-plain : (b : Behind) (s : UnitState) → is_prepared (comes_behind b s) ≡ false
opening-plain b s = either-plain (event_of b s) (rest_in s) (behind-plain b s) (rest-plain s)
