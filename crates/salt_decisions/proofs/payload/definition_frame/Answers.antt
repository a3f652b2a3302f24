use Rattle.salt_bytes.specs.Coordinator.{spell_text}
use Rattle.salt_bytes.specs.Numbers.{spell_64}
use Rattle.salt_codec.proofs.Puts.{both_put}
use Rattle.salt_decisions.proofs.payload.definition_frame.Goals as goal
use Rattle.salt_gatelog.proofs.Payloads.{front_stays, payload_put}
use Rattle.std.proofs.Common.{List, [], arith, refl, ℕ, ◌++◌, ◌∷◌}

pub returns-clause-payload : goal.returns-clause-payload
returns-clause-payload c =
    let text : List ℕ = spell_text c.args.text.now in
    let numbered : List ℕ = spell_64 c.args.number ++ text in
    let made = c.with_text.result in
    payload_put made (λ made. made.items) c.in_ok-out.out.items (2 ∷ numbered) c.in_ok-out.ensures
    (both_put made (λ made. made.items) c.in_ok-out.out.items c.in_ok-out-2.out.items (2 ∷ []) numbered numbered c.in_ok-out-2.ensures refl
    (both_put made (λ made. made.items) c.in_ok-out-2.out.items c.in_ok-out-3.out.items (spell_64 c.args.number) text text c.in_ok-out-3.ensures refl c.with_text.ensures))

pub returns-clause-front : goal.returns-clause-front
returns-clause-front c =
    front_stays c.with_text.result (λ made. made.items) (2 ∷ spell_64 c.args.number ++ spell_text c.args.text.now) (omega arith) (returns-clause-payload c)
