-- One spelling per continuation and move.
use Rattle.salt_bytes.specs.declared.moves.Move.{Move}
use Rattle.salt_bytes.specs.declared.moves.Move.TheVariants.{Continue, Finish, Plain}
use Rattle.salt_values.specs.declared.cont.Cont.{Cont}
use Rattle.salt_bytes.proofs.Only.{Only, given_only, only_32, only_64, only_values, pair_only, rest_of, took}
use Rattle.salt_bytes.specs.Conts.{move_in, spell_cont, spell_move, spell_tries, take_cont, take_move, take_move_of, take_tries}
use Rattle.salt_bytes.specs.Formats.{has_nulls, has_tries}
use Rattle.salt_bytes.specs.Ids.{spell_id, take_id}
use Rattle.salt_bytes.specs.Numbers.{spell_32, spell_64, take_32, take_64}
use Rattle.salt_bytes.specs.Spellable.{AreBytes}
use Rattle.salt_bytes.specs.Taking.{Take, give, if_all, take_byte, take_bytes, then_take, whole}
use Rattle.salt_bytes.specs.Values.{spell_values, take_values}
use Rattle.salt_values.specs.declared.id.Id.{Id}
use Rattle.std.proofs.Common.{Bool, List, None, Option, Some, [], ap, append_assoc, false, length, refl, subst, suc, sym, true, zero, ℕ, ◌++◌, ◌≡◌, ◌∙◌, ◌∷◌}
use Rattle.std.proofs.lemmas.List.{append-nil}

-- what is taken from bytes is spelled by them, and has Q
record Gives {B : Type 0} (take : Take B) (spell : B → List ℕ) (Q : B → Type 0) : Type 0 where
  gives : (bytes : List ℕ) → AreBytes bytes → (y : B) (rest : List ℕ) → take bytes ≡ Some (y, rest) → (bytes ≡ spell y ++ rest) × Q y

last : {B : Type 0} (x : B) (Q : B → Type 0) → Q x → Gives (give x) (λ y. []) Q
last {B = B} x Q q = record { gives = λ bytes small y rest e. let g = given_only x y bytes rest e in (g.1, subst Q g.0 q) }

-- first a part of it, and then what is behind
first : {A B : Type 0} (take : Take A) (spell : A → List ℕ) (next : A → Take B) (part : B → A) (behind : B → List ℕ) (Q : B → Type 0)
    → Only take spell → ((x : A) → Gives (next x) behind (λ y. (x ≡ part y) × Q y)) → Gives (then_take take next) (λ y. spell (part y) ++ behind y) Q
first take spell next part behind Q one more = record {
  gives = λ bytes small y rest e.
      let t = took next (take bytes) (y, rest) e in
      let f = one.only bytes small t.x t.rest t.was in
      let g = (more t.x).gives t.rest (rest_of one bytes small t.x t.rest t.was) y rest t.goes in
      (f ∙ ap (λ (l : List ℕ). spell t.x ++ l) g.0 ∙ sym (append_assoc (spell t.x) (behind y) rest) ∙ ap (λ x. (spell x ++ behind y) ++ rest) g.1.0, g.1.1);
}

is_only : {B : Type 0} (take : Take B) (spell : B → List ℕ) → Gives take (λ y. spell y ++ []) (λ y. Unit {0}) → Only take spell
is_only take spell h = record { only = λ bytes small y rest e. (h.gives bytes small y rest e).0 ∙ ap (λ (l : List ℕ). l ++ rest) (append-nil (spell y)) }

plain_only : {B : Type 0} (take : Take B) (spell : B → List ℕ) → Gives take spell (λ y. Unit {0}) → Only take spell
plain_only take spell h = record { only = λ bytes small y rest e. (h.gives bytes small y rest e).0 }

id_gives : Gives take_id (λ (u : Id). spell_64 u.boot ++ (spell_64 u.seq ++ [])) (λ u. Unit {0})
id_gives =
    first take_64 spell_64 _ (λ (u : Id). u.boot) (λ u. spell_64 u.seq ++ []) (λ u. Unit {0}) only_64 (λ boot.
    first take_64 spell_64 _ (λ (u : Id). u.seq) (λ u. []) (λ u. (boot ≡ u.boot) × Unit {0}) only_64 (λ seq.
    last (record { boot = boot; seq = seq }) (λ (u : Id). (seq ≡ u.seq) × ((boot ≡ u.boot) × Unit {0})) (refl, (refl, tt))))

pub only_id : Only take_id spell_id
only_id = record { only = λ bytes small u rest e. (id_gives.gives bytes small u rest e).0 ∙ ap (λ (l : List ℕ). (spell_64 u.boot ++ l) ++ rest) (append-nil (spell_64 u.seq)) }

only_name : Only (then_take take_byte take_bytes) (λ bytes. length bytes ∷ bytes)
only_name = record { only = by }
  where
    by : (bytes : List ℕ) → AreBytes bytes → (x : List ℕ) (rest : List ℕ) → then_take take_byte take_bytes bytes ≡ Some (x, rest) → bytes ≡ (length x ∷ x) ++ rest
    by [] small x rest e = cc
    by (n ∷ bytes) small x rest e = let f = Rattle.salt_bytes.proofs.Only.bytes_only n bytes x rest e in ap (λ (k : ℕ). k ∷ bytes) (sym f.1) ∙ ap (λ (l : List ℕ). length x ∷ l) f.0

only_tries : (told : Bool) → Only (take_tries told) (spell_tries told)
only_tries true = record { only = by }
  where
    by : (bytes : List ℕ) → AreBytes bytes → (x : ℕ) (rest : List ℕ) → take_byte bytes ≡ Some (x, rest) → bytes ≡ (x ∷ []) ++ rest
    by [] small x rest e = cc
    by (b ∷ bytes) small x rest e = let g = pair_only b x bytes rest e in ap (λ (k : ℕ). k ∷ bytes) g.0 ∙ ap (λ (l : List ℕ). x ∷ l) g.1
only_tries false = record { only = λ bytes small x rest e. (given_only 0 x bytes rest e).1 }

module _ (format : ℕ) where
  abbrev Value' : Bool
  Value' = has_nulls format

  cont_gives : Gives (take_cont format)
      (λ (c : Cont). spell_id c.base ++ (spell_64 c.accepted ++ ((length c.program ∷ c.program) ++ (spell_values c.args ++ (spell_values c.vars ++ (spell_32 c.next ++ (spell_tries (has_tries format) c.tries ++ [])))))))
      (λ c. Unit {0})
  cont_gives =
      first take_id spell_id _ (λ (c : Cont). c.base) (λ c. spell_64 c.accepted ++ ((length c.program ∷ c.program) ++ (spell_values c.args ++ (spell_values c.vars ++ (spell_32 c.next ++ (spell_tries (has_tries format) c.tries ++ [])))))) (λ c. Unit {0}) only_id (λ base.
      first take_64 spell_64 _ (λ (c : Cont). c.accepted) (λ c. (length c.program ∷ c.program) ++ (spell_values c.args ++ (spell_values c.vars ++ (spell_32 c.next ++ (spell_tries (has_tries format) c.tries ++ []))))) (λ c. (base ≡ c.base) × Unit {0}) only_64 (λ accepted.
      first (then_take take_byte take_bytes) (λ bytes. length bytes ∷ bytes) _ (λ (c : Cont). c.program) (λ c. spell_values c.args ++ (spell_values c.vars ++ (spell_32 c.next ++ (spell_tries (has_tries format) c.tries ++ [])))) (λ c. (accepted ≡ c.accepted) × ((base ≡ c.base) × Unit {0})) only_name (λ program.
      first (take_values (has_nulls format)) spell_values _ (λ (c : Cont). c.args) (λ c. spell_values c.vars ++ (spell_32 c.next ++ (spell_tries (has_tries format) c.tries ++ []))) (λ c. (program ≡ c.program) × ((accepted ≡ c.accepted) × ((base ≡ c.base) × Unit {0}))) (only_values (has_nulls format)) (λ args.
      first (take_values (has_nulls format)) spell_values _ (λ (c : Cont). c.vars) (λ c. spell_32 c.next ++ (spell_tries (has_tries format) c.tries ++ [])) (λ c. (args ≡ c.args) × ((program ≡ c.program) × ((accepted ≡ c.accepted) × ((base ≡ c.base) × Unit {0})))) (only_values (has_nulls format)) (λ vars.
      first take_32 spell_32 _ (λ (c : Cont). c.next) (λ c. spell_tries (has_tries format) c.tries ++ []) (λ c. (vars ≡ c.vars) × ((args ≡ c.args) × ((program ≡ c.program) × ((accepted ≡ c.accepted) × ((base ≡ c.base) × Unit {0}))))) only_32 (λ next.
      first (take_tries (has_tries format)) (spell_tries (has_tries format)) _ (λ (c : Cont). c.tries) (λ c. []) (λ c. (next ≡ c.next) × ((vars ≡ c.vars) × ((args ≡ c.args) × ((program ≡ c.program) × ((accepted ≡ c.accepted) × ((base ≡ c.base) × Unit {0})))))) (only_tries (has_tries format)) (λ tries.
      last (record { base = base; accepted = accepted; program = program; args = args; vars = vars; next = next; tries = tries }) (λ (c : Cont). (tries ≡ c.tries) × ((next ≡ c.next) × ((vars ≡ c.vars) × ((args ≡ c.args) × ((program ≡ c.program) × ((accepted ≡ c.accepted) × ((base ≡ c.base) × Unit {0})))))))
      (refl, (refl, (refl, (refl, (refl, (refl, (refl, tt))))))))))))))

  pub only_cont : Only (take_cont format) (spell_cont format)
  only_cont = record { only = λ bytes small c rest e. (cont_gives.gives bytes small c rest e).0 ∙ ap (λ (l : List ℕ). (spell_id c.base ++ (spell_64 c.accepted ++ ((length c.program ∷ c.program) ++ (spell_values c.args ++ (spell_values c.vars ++ (spell_32 c.next ++ l)))))) ++ rest) (append-nil (spell_tries (has_tries format) c.tries)) }

  of_byte : (b : ℕ) (bytes : List ℕ) → AreBytes bytes → (m : Move) (rest : List ℕ) → take_move_of format b bytes ≡ Some (m, rest) → b ∷ bytes ≡ spell_move format m ++ rest
  of_byte zero bytes small m rest e =
      let g = given_only Plain m bytes rest e in
      ap (λ (l : List ℕ). 0 ∷ l) g.1 ∙ ap (λ (x : Move). spell_move format x ++ rest) g.0
  of_byte (suc zero) bytes small m rest e =
      let t = took (λ c. give (Continue c)) (take_cont format bytes) (m, rest) e in
      let g = given_only (Continue t.x) m t.rest rest t.goes in
      ap (λ (l : List ℕ). 1 ∷ l) (only_cont.only bytes small t.x t.rest t.was ∙ ap (λ (l : List ℕ). spell_cont format t.x ++ l) g.1) ∙ ap (λ (x : Move). spell_move format x ++ rest) g.0
  of_byte (suc (suc zero)) bytes small m rest e =
      let t = took (λ b. give (Finish b)) (take_id bytes) (m, rest) e in
      let g = given_only (Finish t.x) m t.rest rest t.goes in
      ap (λ (l : List ℕ). 2 ∷ l) (only_id.only bytes small t.x t.rest t.was ∙ ap (λ (l : List ℕ). spell_id t.x ++ l) g.1) ∙ ap (λ (x : Move). spell_move format x ++ rest) g.0
  of_byte (suc (suc (suc n))) bytes small m rest e = cc

  pub only_move : Only (take_move format) (spell_move format)
  only_move = record { only = by }
    where
      by : (bytes : List ℕ) → AreBytes bytes → (m : Move) (rest : List ℕ) → take_move format bytes ≡ Some (m, rest) → bytes ≡ spell_move format m ++ rest
      by [] small m rest e = cc
      by (b ∷ bytes) small m rest e = of_byte b bytes small.1 m rest e

-- what is read as a whole was spelled
pub whole_only : {A : Type 0} (take : Take A) (spell : A → List ℕ) → Only take spell → (bytes : List ℕ) → AreBytes bytes → (x : A) → whole take bytes ≡ Some x → bytes ≡ spell x
whole_only {A = A} take spell one bytes small x e = by (take bytes) refl e
  where
    by : (o : Option (A × List ℕ)) → take bytes ≡ o → if_all o ≡ Some x → bytes ≡ spell x
    by None is e = cc
    by (Some (y, [])) is e = one.only bytes small y [] is ∙ append-nil (spell y) ∙ ap spell same
      where
        same : y ≡ x
        same = cc
    by (Some (y, b ∷ bs)) is e = cc

pub move_only : (format : ℕ) (bytes : List ℕ) → AreBytes bytes → (m : Move) → move_in format bytes ≡ Some m → bytes ≡ spell_move format m
move_only format bytes small m e = whole_only (take_move format) (spell_move format) (only_move format) bytes small m e
