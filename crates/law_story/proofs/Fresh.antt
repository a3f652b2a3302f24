-- A unit that no event of a trace names is new there; and a fact of an event that may come.
use Rattle.std.specs.Bool.{then_some}
use Rattle.std.specs.Option.{option_or}
use Rattle.law_story.specs.Names.{is_named, is_unit_of}
use Rattle.salt_model.specs.Trace.{Trace, from, ◌asks◌, ◌says◌, ◌turns◌}
use Rattle.salt_model.specs.Units.{Never, Standing, standing, standing_after}
use Rattle.salt_model.specs.declared.events.Event.TheVariants.{Began, Did, Ended, Waits}
use Rattle.salt_model.specs.declared.events.Event.{Event}
use Rattle.salt_values.specs.declared.id.Id.{Id}
use Rattle.std.proofs.Common.{◌∙◌}
use Rattle.std.specs.Prelude.{Bool, None, Option, Some, false, option_map, refl, true, ⊤, ◌||◌, ◌≡◌}

pub or_left : (p q : Bool) → (p || q) ≡ false → p ≡ false
or_left true q h = h
or_left false q h = refl

pub or_right : (p q : Bool) → (p || q) ≡ false → q ≡ false
or_right true q h = cc
or_right false q h = h

pub standing-other : (u : Id) (e : Event) (s : Standing) → is_unit_of u e ≡ false → standing_after u e s ≡ s
standing-other u (Began v kind) s h = rw h refl
standing-other u (Did v st answer) s h = rw h refl
standing-other u (Waits v owners) s h = rw h refl
standing-other u (Ended v end) s h = rw h refl
standing-other u e s h = refl

pub standing-new : (u : Id) (trace : Trace) → is_named u trace ≡ false → standing u trace ≡ Never
standing-new u (from k) h = refl
standing-new u (trace asks line) h = standing-new u trace h
standing-new u (trace turns b) h = standing-new u trace h
standing-new u (trace says e) h = standing-other u e (standing u trace) (or_left _ _ h) ∙ standing-new u trace (or_right (is_unit_of u e) _ h)

abbrev pub IfComes : (Event → Type 0) → Option Event → Type 0
IfComes P None = ⊤
IfComes P (Some e) = P e

pub comes-option_or : (P : Event → Type 0) (o other : Option Event) → IfComes P o → IfComes P other → IfComes P (option_or o other)
comes-option_or P None other h g = g
comes-option_or P (Some e) other h g = h

pub comes-map : {A : Type 0} (P : Event → Type 0) (f : A → Event) (o : Option A) → ((a : A) → P (f a)) → IfComes P (option_map f o)
comes-map P f None h = tt
comes-map P f (Some a) h = h a

pub comes-then_some : (P : Event → Type 0) (b : Bool) (e : Event) → P e → IfComes P (then_some b e)
comes-then_some P true e h = h
comes-then_some P false e h = tt
