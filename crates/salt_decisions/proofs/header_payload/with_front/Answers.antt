use Rattle.salt_bytes.specs.Coordinator.{spell_kind}
use Rattle.salt_bytes.specs.Numbers.{spell_64}
use Rattle.salt_codec.proofs.Puts.{both_put}
use Rattle.salt_decisions.proofs.header_payload.with_front.Goals as goal
use Rattle.salt_decisions.specs.Header.{mark}
use Rattle.std.proofs.Common.{List, [], refl, ℕ, ◌++◌, ◌∷◌}

pub returns : goal.returns
returns c =
    let kind : List ℕ = spell_kind c.args.shape.kind in
    let parts : List ℕ = c.args.shape.parts ∷ kind in
    let generation : List ℕ = spell_64 c.args.generation ++ parts in
    let items = c.with_kind.result in
    both_put items (λ made. made.items) c.args.out.items c.in_ok-out.out.items mark (3 ∷ generation) (3 ∷ generation) c.in_ok-out.ensures refl
    (both_put items (λ made. made.items) c.in_ok-out.out.items c.in_ok-out-2.out.items (3 ∷ []) generation generation c.in_ok-out-2.ensures refl
    (both_put items (λ made. made.items) c.in_ok-out-2.out.items c.in_ok-out-3.out.items (spell_64 c.args.generation) parts parts c.in_ok-out-3.ensures refl
    (both_put items (λ made. made.items) c.in_ok-out-3.out.items c.in_ok-out-4.out.items (c.args.shape.parts ∷ []) kind kind c.in_ok-out-4.ensures refl c.with_kind.ensures)))
