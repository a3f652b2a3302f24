use Rattle.salt_bytes.specs.Coordinator.{spell_text}
use Rattle.salt_bytes.specs.Ids.{spell_id}
use Rattle.salt_bytes.specs.Numbers.{spell_64}
use Rattle.salt_codec.proofs.Puts.{both_put}
use Rattle.salt_decisions.proofs.payload.decision_frame.Goals as goal
use Rattle.salt_gatelog.proofs.Payloads.{front_stays, payload_put}
use Rattle.std.proofs.Common.{List, [], arith, refl, ℕ, ◌++◌, ◌∷◌}

pub returns-clause-payload : goal.returns-clause-payload
returns-clause-payload c =
    let text : List ℕ = spell_text c.args.mv.now in
    let bits : List ℕ = c.args.parts ∷ text in
    let unit : List ℕ = spell_id c.args.unit ++ bits in
    let number : List ℕ = spell_64 c.args.number ++ unit in
    let made = c.with_text.result in
    payload_put made (λ made. made.items) c.in_ok-out.out.items (3 ∷ number) c.in_ok-out.ensures
    (both_put made (λ made. made.items) c.in_ok-out.out.items c.in_ok-out-2.out.items (3 ∷ []) number number c.in_ok-out-2.ensures refl
    (both_put made (λ made. made.items) c.in_ok-out-2.out.items c.in_ok-out-3.out.items (spell_64 c.args.number) unit unit c.in_ok-out-3.ensures refl
    (both_put made (λ made. made.items) c.in_ok-out-3.out.items c.in_ok-out-4.out.items (spell_id c.args.unit) bits bits c.in_ok-out-4.ensures.put refl
    (both_put made (λ made. made.items) c.in_ok-out-4.out.items c.in_ok-out-5.out.items (c.args.parts ∷ []) text text c.in_ok-out-5.ensures refl c.with_text.ensures))))

pub returns-clause-front : goal.returns-clause-front
returns-clause-front c =
    let unit : List ℕ = spell_id c.args.unit ++ (c.args.parts ∷ spell_text c.args.mv.now) in
    front_stays c.with_text.result (λ made. made.items) (3 ∷ spell_64 c.args.number ++ unit) (omega arith) (returns-clause-payload c)
