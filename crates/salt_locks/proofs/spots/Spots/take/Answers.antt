use Rattle.salt_locks.proofs.Spotting.{listed-others}
use Rattle.salt_locks.proofs.spots.Spots.take.Goals as goal
use Rattle.salt_locks.specs.Spots.{spots_at, spots_in}
use Rattle.salt_locks.specs.declared.spots.Spots.{Spots}
use Rattle.salt_model.specs.Locks.{is_same_owner}
use Rattle.salt_model.specs.declared.events.Owner.TheVariants.{Base, Unit}
use Rattle.salt_model.specs.declared.events.Owner.{Owner}
use Rattle.std.proofs.Common.{ap, false, refl, sym, ◌∙◌, ◌≡◌}

pub returns-in-Unit-clause-spots : goal.returns-in-Unit-clause-spots
returns-in-Unit-clause-spots c = c.unless_none.ensures ∙ (ap spots_in c.remove.ensures.value ∙ ap (spots_at c.args.self.now) (sym c.in-Unit.is))

pub returns-in-Unit-clause-others : goal.returns-in-Unit-clause-others
returns-in-Unit-clause-others c = λ o other. by o (sym (ap (λ p. is_same_owner p o) c.in-Unit.is) ∙ other)
  where
    old : Spots
    old = c.args.self.now

    new : Spots
    new = record { alloc = old.alloc; whole = old.whole; units = c.remove.new.self; bases = old.bases }

    by : (o : Owner) → is_same_owner (Unit c.in-Unit.unit) o ≡ false → spots_at new o ≡ spots_at old o
    by (Unit u) h = listed-others old.units c.remove.new.self c.in-Unit.unit u c.remove.ensures.updates.0 h
    by (Base b) h = refl

pub returns-in-Base-clause-spots : goal.returns-in-Base-clause-spots
returns-in-Base-clause-spots c = c.unless_none-in-Base.ensures ∙ (ap spots_in c.remove-in-Base.ensures.value ∙ ap (spots_at c.args.self.now) (sym c.in-Base.is))

pub returns-in-Base-clause-others : goal.returns-in-Base-clause-others
returns-in-Base-clause-others c = λ o other. by o (sym (ap (λ p. is_same_owner p o) c.in-Base.is) ∙ other)
  where
    old : Spots
    old = c.args.self.now

    new : Spots
    new = record { alloc = old.alloc; whole = old.whole; units = old.units; bases = c.remove-in-Base.new.self }

    by : (o : Owner) → is_same_owner (Base c.in-Base.base) o ≡ false → spots_at new o ≡ spots_at old o
    by (Unit u) h = refl
    by (Base b) h = listed-others old.bases c.remove-in-Base.new.self c.in-Base.base b c.remove-in-Base.ensures.updates.0 h
