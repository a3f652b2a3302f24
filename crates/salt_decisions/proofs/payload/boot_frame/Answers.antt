use Rattle.salt_bytes.specs.Numbers.{spell_64}
use Rattle.salt_codec.proofs.Puts.{both_put}
use Rattle.salt_decisions.proofs.payload.boot_frame.Goals as goal
use Rattle.salt_gatelog.proofs.Payloads.{front_stays, payload_put}
use Rattle.std.proofs.Common.{List, [], arith, refl, ℕ, ◌∷◌}

pub returns-clause-payload : goal.returns-clause-payload
returns-clause-payload c =
    let boot : List ℕ = spell_64 c.args.boot in
    let made = c.with_u64.result in
    payload_put made (λ made. made.items) c.in_ok-out.out.items (1 ∷ boot) c.in_ok-out.ensures
    (both_put made (λ made. made.items) c.in_ok-out.out.items c.in_ok-out-2.out.items (1 ∷ []) boot boot c.in_ok-out-2.ensures refl c.with_u64.ensures)

pub returns-clause-front : goal.returns-clause-front
returns-clause-front c = front_stays c.with_u64.result (λ made. made.items) (1 ∷ spell_64 c.args.boot) (omega arith) (returns-clause-payload c)
