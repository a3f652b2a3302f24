-- What follows each event in an opening.
use Rattle.salt_ast.specs.declared.trees.Statement.{Statement}
use Rattle.salt_books.specs.Ends.{done_of}
use Rattle.law_states.specs.Follows.{follow_opening_in}
use Rattle.law_states.specs.OpenUnits.{OpenUnit, UnitState, change_unit, unit_named}
use Rattle.law_states.specs.Steps.{begun, doing_one, units_after}
use Rattle.law_states.specs.Told.{after_end_in, serve_in}
use Rattle.law_story.proofs.Ids.{is_same_id-refl}
use Rattle.salt_model.specs.Honest.{cause_in}
use Rattle.salt_model.specs.declared.events.Answer.TheVariants.{Failed}
use Rattle.salt_model.specs.declared.events.Answer.{Answer}
use Rattle.salt_model.specs.declared.events.Cause.{Cause}
use Rattle.salt_model.specs.declared.events.End.TheVariants.{Branched, Committed, Cut}
use Rattle.salt_model.specs.declared.events.Event.TheVariants.{Began, Did, Ended}
use Rattle.salt_model.specs.declared.events.UnitKind.TheVariants.{Acid, Call, First, Later}
use Rattle.salt_model.specs.declared.events.UnitKind.{UnitKind}
use Rattle.salt_drain.specs.Follows.{FollowsOn, behind_commit, event_of}
use Rattle.salt_drain.specs.Recovering.{IsOfDrain, IsOfPart, IsPartIfOpen}
use Rattle.salt_drain.specs.declared.behind.Behind.TheVariants.{Done, Finish, Nothing, Turn}
use Rattle.salt_values.specs.Id.{is_same_id}
use Rattle.salt_values.specs.declared.id.Id.{Id}
use Rattle.std.proofs.Common.{ap, subst, sym, ◌∙◌}
use Rattle.std.specs.Option.{option_or}
use Rattle.std.specs.Prelude.{Bool, List, None, Option, Some, [], cond, false, option_and_then, option_map, refl, true, ℕ, ◌++◌, ◌∷◌, ◌≡◌}

pub cut : (u : Id) (old new : UnitState) → FollowsOn Nothing (Ended u Cut) old new
cut u old new = by (unit_named u old.units)
  where
    by : (o : Option OpenUnit) → follow_opening_in new (Ended u Cut) o ≡ None
    by None = refl
    by (Some o) = refl

pub began : (u : Id) (kind : UnitKind) (old new : UnitState) → FollowsOn (Turn u) (Began u kind) old new
began u kind old new = by (unit_named u new.units)
  where
    by : (o : Option OpenUnit) → follow_opening_in new (Began u kind) o ≡ option_and_then (serve_in new) o
    by None = refl
    by (Some o) = refl

pub did : (u : Id) (st : Statement) (answer : Answer) (old new : UnitState) → FollowsOn (Done u (cause_in answer)) (Did u st answer) old new
did u st answer old new = by answer (unit_named u new.units)
  where
    by : (a : Answer) (o : Option OpenUnit) → follow_opening_in new (Did u st a) o ≡ option_or (done_of new (cause_in a) o) (option_and_then (serve_in new) o)
    by a None = refl
    by (Failed c) (Some o) = refl
    by a (Some o) = refl

pub committed : (u : Id) (n : ℕ) (old new : UnitState) (o : OpenUnit) → unit_named u old.units ≡ Some o →
    FollowsOn (behind_commit o.kind) (Ended u (Committed n)) old new
committed u n old new o at = ap (follow_opening_in new (Ended u (Committed n))) at ∙ by o.kind
  where
    by : (kind : UnitKind) → after_end_in new (Committed n) kind ≡ event_of (behind_commit kind) new
    by (Acid t) = refl
    by (Call t m args) = refl
    by (First t b m args) = refl
    by (Later b part) = refl

pub branched : (u b : Id) (part n : ℕ) (c : Cause) (old new : UnitState) (o : OpenUnit) → unit_named u old.units ≡ Some o → o.kind ≡ Later b part →
    FollowsOn (Finish b) (Ended u (Branched n c)) old new
branched u b part n c old new o at kind =
    ap (follow_opening_in new (Ended u (Branched n c))) at ∙ ap (after_end_in new (Branched n c)) kind

-- A UNIT THAT IS TO GO ON is of a program.

named-changed : (u : Id) (f : OpenUnit → OpenUnit) → ((o : OpenUnit) → (f o).unit ≡ o.unit) → (os : List OpenUnit) →
    unit_named u (change_unit u f os) ≡ option_map f (unit_named u os)
named-changed u f same [] = refl
named-changed u f same (o ∷ os) = by (is_same_id o.unit u) refl (named-changed u f same os)
  where
    by : (t : Bool) → is_same_id o.unit u ≡ t → unit_named u (change_unit u f os) ≡ option_map f (unit_named u os) →
        unit_named u (cond t (f o) o ∷ change_unit u f os) ≡ option_map f (cond t (Some o) (unit_named u os))
    by true e more = ap (λ t. cond t (Some (f o)) (unit_named u (change_unit u f os))) (ap (λ v. is_same_id v u) (same o) ∙ e)
    by false e more = ap (λ t. cond t (Some o) (unit_named u (change_unit u f os))) e ∙ more

pub did-part : (u : Id) (st : Statement) (a : Answer) (s : UnitState) (o : OpenUnit) → unit_named u s.units ≡ Some o → IsOfPart o →
    IsPartIfOpen (units_after (Did u st a) s) u
did-part u st a s o named part p there =
    let after : unit_named u (change_unit u (doing_one s.kept st) s.units) ≡ Some (doing_one s.kept st o) =
    named-changed u (doing_one s.kept st) (λ o. refl) s.units ∙ ap (option_map (doing_one s.kept st)) named in
    let both : Some (doing_one s.kept st o) ≡ Some p = sym after ∙ there in
    let same : doing_one s.kept st o ≡ p = cc in
    subst IsOfPart same part

pub began-part : (u b : Id) (part : ℕ) (s : UnitState) → s.units ≡ [] → IsPartIfOpen (units_after (Began u (Later b part)) s) u
began-part u b part s none p there =
    let mine = begun s u (Later b part) in
    let after : unit_named u (s.units ++ mine ∷ []) ≡ Some mine =
    ap (λ (os : List OpenUnit). unit_named u (os ++ mine ∷ [])) none ∙ ap (λ t. cond t (Some mine) None) (is_same_id-refl u) in
    let both : Some mine ≡ Some p = sym after ∙ there in
    let same : mine ≡ p = cc in
    subst IsOfPart same (b, part, refl)

pub commit-drain : (kind : UnitKind) (s : UnitState) → IsOfDrain (behind_commit kind) s
commit-drain (Acid t) s = tt
commit-drain (Call t m args) s = tt
commit-drain (First t b m args) s = tt
commit-drain (Later b part) s = tt
