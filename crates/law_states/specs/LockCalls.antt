-- The calls on a table of numbered locks: what each leaves, by its members.
use Rattle.law_states.specs.KeptLocks.{Numbered, is_owned_by, saline_of}
use Rattle.law_states.specs.Members.{In, SameMembers}
use Rattle.salt_model.specs.declared.events.Owner.{Owner}
use Rattle.salt_model.specs.declared.events.Owner.TheVariants.{Base, Unit}
use Rattle.salt_model.specs.declared.locks.Lock.{Lock}
use Rattle.salt_values.specs.declared.id.Id.{Id}
use Rattle.std.specs.Prelude.{List, [], false, true, ℕ, ◌↔◌, ◌∷◌, ◌≡◌, ◌⊎◌}

-- a lock is added, with this number
abbrev pub HasTaken : ℕ → Lock → List Numbered → List Numbered → Type 0
HasTaken k l old new = (n : Numbered) → In n new ↔ (In n old ⊎ (n ≡ record { number = k; lock = l }))

-- an owner's locks are gone
abbrev pub HasDropped : Owner → List Numbered → List Numbered → Type 0
HasDropped o old new = (n : Numbered) → In n new ↔ (In n old × (is_owned_by o n.lock ≡ false))

-- those of these programs are gone, one after another
abbrev pub HasDroppedAll : List Id → List Numbered → List Numbered → Type 0
HasDroppedAll [] old new = SameMembers new old
HasDroppedAll (b ∷ bs) old new = (mid : List Numbered) × HasDropped (Base b) old mid × HasDroppedAll bs mid new

-- a unit's locks are saline ones of its program, with their numbers
abbrev pub HasSalted : Id → Id → List Numbered → List Numbered → Type 0
HasSalted u b old new =
    (n : Numbered) → In n new ↔
    ((In n old × (is_owned_by (Unit u) n.lock ≡ false)) ⊎
    ((m : Numbered) × In m old × (is_owned_by (Unit u) m.lock ≡ true) × (n ≡ record { number = m.number; lock = saline_of b m.lock })))
