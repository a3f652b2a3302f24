-- What follows a statement of a unit, or its end, is no preparation, in a line and in an opening.
use Rattle.salt_ast.specs.declared.trees.Statement.{Statement}
use Rattle.salt_books.specs.Ends.{done_of}
use Rattle.salt_engine.specs.Performing.{is_prepared}
use Rattle.law_states.specs.OpenUnits.{OpenUnit, UnitState, asks_next}
use Rattle.law_states.specs.Told.{commits_in, does_in, fails_in, finishes_in, serve_in}
use Rattle.salt_model.specs.Kept.{cont_of}
use Rattle.salt_model.specs.declared.events.Cause.{Cause}
use Rattle.salt_model.specs.declared.events.Event.{Event}
use Rattle.salt_model.specs.declared.events.Event.TheVariants.{Finished}
use Rattle.salt_model.specs.declared.events.UnitKind.{UnitKind}
use Rattle.salt_model.specs.declared.events.UnitKind.TheVariants.{Acid, Call, First, Later}
use Rattle.salt_values.specs.declared.id.Id.{Id}
use Rattle.std.specs.Bool.{then_some}
use Rattle.std.specs.Option.{option_or}
use Rattle.std.specs.Prelude.{Bool, None, Option, Some, false, is_none, option_and_then, option_map, refl, true, ◌≡◌}

pub either-plain : (a b : Option Event) → is_prepared a ≡ false → is_prepared b ≡ false → is_prepared (option_or a b) ≡ false
either-plain None b h k = k
either-plain (Some e) b h k = h

pub serves-plain : (s : UnitState) (o : Option OpenUnit) → is_prepared (option_and_then (serve_in s) o) ≡ false
serves-plain s None = refl
serves-plain s (Some o) = by (asks_next s o)
  where
    by : (q : Option Statement) → is_prepared (option_map (does_in s o) q) ≡ false
    by None = refl
    by (Some st) = refl

fails-plain : (s : UnitState) (o : OpenUnit) (c : Cause) (kind : UnitKind) → is_prepared (Some (fails_in s o c kind)) ≡ false
fails-plain s o c (Acid t) = refl
fails-plain s o c (Call t n args) = refl
fails-plain s o c (First t b n args) = refl
fails-plain s o c (Later b part) = refl

pub done-plain : (s : UnitState) (failed : Option Cause) (o : Option OpenUnit) → is_prepared (done_of s failed o) ≡ false
done-plain s failed None = refl
done-plain s (Some c) (Some o) = fails-plain s o c o.kind
done-plain s None (Some o) = by _
  where
    by : (b : Bool) → is_prepared (then_some b (commits_in s o)) ≡ false
    by true = refl
    by false = refl

pub finish-plain : (s : UnitState) (b : Id) → is_prepared (finishes_in s b) ≡ false
finish-plain s b = by (is_none (cont_of b s.kept))
  where
    by : (t : Bool) → is_prepared (then_some t (Finished b)) ≡ false
    by true = refl
    by false = refl
