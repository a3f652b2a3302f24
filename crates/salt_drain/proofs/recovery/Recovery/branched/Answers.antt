use Rattle.salt_drain.proofs.recovery.Recovery.branched.Goals as goal
use Rattle.law_states.specs.Steps.{units_after}
use Rattle.law_states.specs.Told.{next_decision_number}
use Rattle.salt_model.specs.Kept.{conts_branched}
use Rattle.salt_model.specs.declared.events.End.TheVariants.{Branched}
use Rattle.salt_model.specs.declared.events.Event.TheVariants.{Ended}
use Rattle.salt_drain.proofs.Done.{gives}
use Rattle.salt_drain.proofs.Follows.{branched}
use Rattle.salt_books.proofs.Named.{rising}
use Rattle.std.specs.Prelude.{refl}

pub returns : goal.returns
returns c = λ s o part number stands r named kind moves.
    let u = c.args.unit in
    let n = next_decision_number s.units in
    let e = Ended u (Branched n c.args.cause) in
    gives e _ _ s _ r (λ i. Ended u (Branched (number i) c.args.cause)) refl refl
    (record {
      books = c.in_ok-branch.ensures s.units o (conts_branched s.units.kept o.kind) c.args.cause number stands.books (rising s r.sound) named moves refl;
      opening = stands.opening;
      single = stands.single;
      drain = tt;
    })
    (branched u c.args.base part n c.args.cause s.units (units_after e s.units) o named kind)
