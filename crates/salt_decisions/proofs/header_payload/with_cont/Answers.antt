use Rattle.salt_bytes.specs.Ids.{spell_id}
use Rattle.salt_bytes.specs.Numbers.{spell_32, spell_64}
use Rattle.salt_bytes.specs.Values.{spell_values}
use Rattle.salt_codec.proofs.Puts.{always, both_put}
use Rattle.salt_decisions.proofs.header_payload.with_cont.Goals as goal
use Rattle.std.proofs.Common.{List, [], arith, length, refl, ℕ, ◌++◌, ◌∷◌}

pub returns-clause-put : goal.returns-clause-put
returns-clause-put c =
    let cont = c.args.cont.now in
    let tries : List ℕ = cont.tries ∷ [] in
    let next : List ℕ = spell_32 cont.next ++ tries in
    let vars : List ℕ = spell_values cont.vars ++ next in
    let args : List ℕ = spell_values cont.args ++ vars in
    let program : List ℕ = (length cont.program ∷ cont.program) ++ args in
    let accepted : List ℕ = spell_64 cont.accepted ++ program in
    let items = c.with_byte.result in
    both_put items (λ made. made.items) c.args.out.items c.in_ok-out.out.items (spell_id cont.base) accepted accepted c.in_ok-out.ensures.put refl
    (both_put items (λ made. made.items) c.in_ok-out.out.items c.in_ok-out-2.out.items (spell_64 cont.accepted) program program c.in_ok-out-2.ensures refl
    (both_put items (λ made. made.items) c.in_ok-out-2.out.items c.in_ok-out-3.out.items (length cont.program ∷ cont.program) args args c.in_ok-out-3.ensures refl
    (both_put items (λ made. made.items) c.in_ok-out-3.out.items c.in_ok-out-4.out.items (spell_values cont.args) vars vars c.in_ok-out-4.ensures.put refl
    (both_put items (λ made. made.items) c.in_ok-out-4.out.items c.in_ok-out-5.out.items (spell_values cont.vars) next next c.in_ok-out-5.ensures.put refl
    (both_put items (λ made. made.items) c.in_ok-out-5.out.items c.in_ok-out-6.out.items (spell_32 cont.next) tries tries c.in_ok-out-6.ensures refl c.with_byte.ensures)))))

pub returns-clause-spellable : goal.returns-clause-spellable
returns-clause-spellable c = always c.with_byte.result _ (record {
  base = c.in_ok-out.ensures.spellable;
  accepted = omega arith;
  args = c.in_ok-out-4.ensures.spellable;
  vars = c.in_ok-out-5.ensures.spellable;
  next = omega arith;
  tries = tt;
})
