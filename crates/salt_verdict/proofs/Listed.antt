-- Names in lists of units.
use Rattle.law_states.specs.Members.{In}
use Rattle.salt_audit.proofs.Marking.{has_more, or_group}
use Rattle.salt_model.specs.Trace.{Trace, from, ◌asks◌, ◌says◌, ◌turns◌}
use Rattle.salt_model.specs.Units.{kind_of, units_begun}
use Rattle.salt_model.specs.declared.events.Event.TheVariants as event
use Rattle.salt_values.specs.Id.{has_id, is_same_id}
use Rattle.salt_values.specs.declared.id.Id.{Id}
use Rattle.std.proofs.Common.{Bool, List, [], ap, cond, false, inl, inr, is_some, refl, sym, true, ◌++◌, ◌∙◌, ◌∷◌, ◌≡◌, ◌||◌}
use Rattle.std.specs.Bool.{then_some}
use Rattle.std.specs.List.{filter}
use Rattle.std.specs.Option.{option_or}

pub or_swap : (a b : Bool) → (a || b) ≡ (b || a)
or_swap true true = refl
or_swap true false = refl
or_swap false true = refl
or_swap false false = refl

pub has_app : (u : Id) (us vs : List Id) → has_id u (us ++ vs) ≡ (has_id u us || has_id u vs)
has_app u [] vs = refl
has_app u (w ∷ us) vs = ap (λ (t : Bool). is_same_id u w || t) (has_app u us vs) ∙ or_group (is_same_id u w) (has_id u us) (has_id u vs)

-- a list filtered by tests that agree on its members
pub agreeing : {A : Type 0} (p q : A → Bool) (xs : List A) → ((x : A) → In x xs → p x ≡ q x) → filter p xs ≡ filter q xs
agreeing p q [] h = refl
agreeing p q (x ∷ xs) h = λ i. cond (h x (inl refl) i) (x ∷ agreeing p q xs (λ y k. h y (inr k)) i) (agreeing p q xs (λ y k. h y (inr k)) i)

-- the units that have begun are listed
pub begun_listed : (trace : Trace) (v : Id) → is_some (kind_of v trace) ≡ has_id v (units_begun trace)
begun_listed (from k) v = refl
begun_listed (trace asks asked) v = begun_listed trace v
begun_listed (trace turns b) v = begun_listed trace v
begun_listed (trace says event.Began u kind) v = by (is_same_id v u) ∙ ap (λ (t : Bool). is_same_id v u || t) (begun_listed trace v) ∙ sym (has_more v u (units_begun trace))
  where
    by : (t : Bool) → is_some (option_or (then_some t kind) (kind_of v trace)) ≡ (t || is_some (kind_of v trace))
    by true = refl
    by false = refl
begun_listed (trace says event.Did u st a) v = begun_listed trace v
begun_listed (trace says event.Ended u e) v = begun_listed trace v
begun_listed (trace says event.Waits u os) v = begun_listed trace v
begun_listed (trace says event.Accepted b) v = begun_listed trace v
begun_listed (trace says event.Finished b) v = begun_listed trace v
begun_listed (trace says event.Released bs) v = begun_listed trace v
begun_listed (trace says event.Early bs) v = begun_listed trace v
begun_listed (trace says event.Down w) v = begun_listed trace v
begun_listed (trace says event.Opened boot n) v = begun_listed trace v
begun_listed (trace says event.Ready) v = begun_listed trace v
begun_listed (trace says event.Defined n text) v = begun_listed trace v
begun_listed (trace says event.Refused r) v = begun_listed trace v
begun_listed (trace says event.Armed pairs) v = begun_listed trace v
begun_listed (trace says event.Shown items) v = begun_listed trace v
