-- What follows each event in its turn.
use Rattle.salt_books.specs.Ends.{IsUndecided}
use Rattle.salt_scheduler.specs.Follows.{opens_alone}
use Rattle.salt_scheduler.specs.Follows.{FollowsOn, behind_branch, behind_commit, event_of}
use Rattle.salt_books.specs.Ends.{done_of}
use Rattle.salt_scheduler.specs.declared.follow.Follow.TheVariants.{Done, Nothing, Turn}
use Rattle.salt_ast.specs.declared.lines.Act.TheVariants.{Begin, Call}
use Rattle.salt_ast.specs.declared.lines.Line.{Line}
use Rattle.salt_ast.specs.declared.lines.Line.TheVariants.{Session}
use Rattle.salt_ast.specs.declared.trees.Statement.{Statement}
use Rattle.law_states.specs.Follows.{follow_in}
use Rattle.law_states.specs.OpenUnits.{OpenUnit, UnitState, unit_named}
use Rattle.law_states.specs.Told.{Clashes, after_began_in, after_end_in, turn_in, turn_of_in}
use Rattle.salt_model.specs.Honest.{cause_in}
use Rattle.salt_model.specs.declared.events.Answer.{Answer}
use Rattle.salt_model.specs.declared.events.Answer.TheVariants.{Failed}
use Rattle.salt_model.specs.declared.events.Cause.{Cause}
use Rattle.salt_model.specs.declared.events.End.{End}
use Rattle.salt_model.specs.declared.events.End.TheVariants.{Branched, Committed}
use Rattle.salt_model.specs.declared.events.Event.TheVariants.{Began, Did, Ended}
use Rattle.salt_model.specs.declared.events.UnitKind.{UnitKind}
use Rattle.salt_model.specs.declared.events.UnitKind.TheVariants.{Acid, Call, First, Later}
use Rattle.salt_values.specs.declared.id.Id.{Id}
use Rattle.std.proofs.Common.{ap, ◌∙◌}
use Rattle.std.specs.Prelude.{None, Option, Some, false, refl, true, ℕ, ◌≡◌}

pub begun-alone : (u : Id) (kind : UnitKind) (old new : UnitState) → opens_alone new.line kind ≡ true → FollowsOn Nothing (Began u kind) old new
begun-alone u kind old new h x = by (unit_named u new.units)
  where
    none : (clash : Clashes) (o : OpenUnit) (line : Line) (k : UnitKind) → opens_alone line k ≡ true → after_began_in new clash o line k ≡ None
    none clash o (Session t Begin) (Acid z) h = refl
    none clash o (Session t Begin) k h = cc
    none clash o line k h = cc

    by : (o : Option OpenUnit) → follow_in new x (Began u kind) o ≡ None
    by None = refl
    by (Some o) = none x.clash o new.line kind h

pub begun-turns : (u : Id) (kind : UnitKind) (old new : UnitState) → opens_alone new.line kind ≡ false → FollowsOn (Turn u) (Began u kind) old new
begun-turns u kind old new h x = by (unit_named u new.units)
  where
    turns : (clash : Clashes) (o : OpenUnit) (line : Line) (k : UnitKind) → opens_alone line k ≡ false → after_began_in new clash o line k ≡ turn_in new clash o
    turns clash o (Session t Begin) (Acid z) h = cc
    turns clash o (Session t Begin) k h = refl
    turns clash o line k h = refl

    by : (o : Option OpenUnit) → follow_in new x (Began u kind) o ≡ turn_of_in new x.clash o
    by None = refl
    by (Some o) = turns x.clash o new.line kind h

pub did : (u : Id) (st : Statement) (answer : Answer) (old new : UnitState) → FollowsOn (Done u (cause_in answer)) (Did u st answer) old new
did u st answer old new x = by answer (unit_named u new.units)
  where
    by : (a : Answer) (o : Option OpenUnit) → follow_in new x (Did u st a) o ≡ done_of new (cause_in a) o
    by a None = refl
    by (Failed c) (Some o) = refl
    by a (Some o) = refl

pub committed : (u : Id) (n : ℕ) (old new : UnitState) (o : OpenUnit) → unit_named u old.units ≡ Some o →
    FollowsOn (behind_commit o.kind) (Ended u (Committed n)) old new
committed u n old new o at x = ap (follow_in new x (Ended u (Committed n))) at ∙ by o.kind
  where
    by : (kind : UnitKind) → after_end_in new (Committed n) kind ≡ event_of (behind_commit kind) new x
    by (Acid t) = refl
    by (Call t m args) = refl
    by (First t b m args) = refl
    by (Later b part) = refl

pub branched : (u : Id) (n : ℕ) (c : Cause) (old new : UnitState) (o : OpenUnit) → unit_named u old.units ≡ Some o →
    FollowsOn (behind_branch o.kind) (Ended u (Branched n c)) old new
branched u n c old new o at x = ap (follow_in new x (Ended u (Branched n c))) at ∙ by o.kind
  where
    by : (kind : UnitKind) → after_end_in new (Branched n c) kind ≡ event_of (behind_branch kind) new x
    by (Acid t) = refl
    by (Call t m args) = refl
    by (First t b m args) = refl
    by (Later b part) = refl

pub undecided : (u : Id) (end : End) (old new : UnitState) → IsUndecided end → FollowsOn Nothing (Ended u end) old new
undecided u end old new h x = by end h (unit_named u old.units)
  where
    by : (end : End) → IsUndecided end → (o : Option OpenUnit) → follow_in new x (Ended u end) o ≡ None
    by (Committed n) h o = absurd h
    by (Branched n c) h o = absurd h
    by end h None = refl
    by end h (Some o) = refl
