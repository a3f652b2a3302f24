use Rattle.salt_drain.proofs.recovery.Recovery.table_defined.Goals as goal
use Rattle.salt_ast.specs.Texts.{table_text}
use Rattle.law_states.specs.Told.{next_decision_number}
use Rattle.salt_model.specs.declared.events.Event.TheVariants.{Defined}
use Rattle.salt_drain.proofs.Done.{gives}
use Rattle.std.specs.Prelude.{refl}

pub returns : goal.returns
returns c = λ s stands r line.
    let told = c.in_ok-number.ensures.told s.units stands.books in
    gives (Defined (next_decision_number s.units) (table_text c.args.def.now)) _ _ s _ r (λ i. Defined (told.0 i) (told.1 i)) refl refl
    (record { books = c.in_ok-number.ensures.state s.units stands.books line; opening = stands.opening; single = stands.single; drain = tt }) refl
