-- Small words: on tests that are both true, on results and on the table of a name.
use Rattle.salt_ast.specs.Judgement.{columns_of, same_types}
use Rattle.salt_ast.specs.declared.trees.ColType.TheVariants as kind
use Rattle.salt_ast.specs.declared.trees.ColType.{ColType}
use Rattle.salt_ast.specs.declared.trees.TableDef.{TableDef}
use Rattle.law_story.proofs.Every.{IfOk}
use Rattle.law_story.proofs.Lists.{In}
use Rattle.salt_model.specs.Reaches.{table_from}
use Rattle.salt_model.specs.Words.{Every, and_then}
use Rattle.salt_model.specs.declared.events.Cause.{Cause}
use Rattle.salt_ast.specs.TokenSpelling.{same_bytes}
use Rattle.std.proofs.Common.{ap, arith, inl, inr, subst}
use Rattle.std.specs.Prelude.{Bool, Err, List, None, Ok, Option, Result, Some, [], cond, false, refl, suc, true, zero, ℕ, ◌&&◌, ◌+◌, ◌∷◌, ◌≡◌, slice_get}

pub both : (p q : Bool) → p ≡ true → q ≡ true → (p && q) ≡ true
both true q h g = g
both false q h g = h

pub ok-then : {A B : Type 0} (P : A → Type 0) (Q : B → Type 0) (r : Result A Cause) (f : A → Result B Cause) → IfOk P r → ((x : A) → P x → IfOk Q (f x)) → IfOk Q (and_then r f)
ok-then P Q (Err c) f h g = tt
ok-then P Q (Ok x) f h g = g x h

pub ok-with : {A B : Type 0} (Q : B → Type 0) (r : Result A Cause) (f : A → Result B Cause) → ((x : A) → r ≡ Ok x → IfOk Q (f x)) → IfOk Q (and_then r f)
ok-with Q (Err c) f g = tt
ok-with Q (Ok x) f g = g x refl

pub every-of : {A : Type 0} (P : A → Type 0) (x : A) (xs : List A) → Every P xs → In x xs → P x
every-of P x [] h i = absurd i
every-of P x (y ∷ xs) h (inl e) = subst P e h.0
every-of P x (y ∷ xs) h (inr i) = every-of P x xs h.1 i

pub alike : (a b : Option ColType) → same_types a b ≡ true → (t : ColType) × (a ≡ Some t) × (b ≡ Some t)
alike (Some kind.Int) (Some kind.Int) h = (kind.Int, refl, refl)
alike (Some kind.Text) (Some kind.Text) h = (kind.Text, refl, refl)
alike (Some kind.Int) (Some kind.Text) h = absurd cc
alike (Some kind.Text) (Some kind.Int) h = absurd cc
alike (Some a) None h = absurd cc
alike None b h = absurd cc

-- a table that is found by its name stands at its number, and has the columns of the name
pub record IsFound (schema : List TableDef) (name : List ℕ) (n : ℕ) (def : TableDef) : Type 0 where
  pub place : slice_get schema n ≡ Some def
  pub columns : columns_of schema name ≡ def.columns
  pub one : In def schema

found-from : (m : ℕ) (name : List ℕ) (schema : List TableDef) (d : ℕ × TableDef) → table_from m name schema ≡ Some d → (n : ℕ) × (d.0 ≡ m + n) × IsFound schema name n d.1
found-from m name [] d h = absurd cc
found-from m name (e ∷ schema) d h = by (same_bytes name e.name) refl h (found-from (m + 1) name schema d)
  where
    by : (b : Bool) → same_bytes name e.name ≡ b → cond b (Some (m, e)) (table_from (m + 1) name schema) ≡ Some d →
        (table_from (m + 1) name schema ≡ Some d → (n : ℕ) × (d.0 ≡ (m + 1) + n) × IsFound schema name n d.1) → (n : ℕ) × (d.0 ≡ m + n) × IsFound (e ∷ schema) name n d.1
    by true same g more =
        let pair : (m, e) ≡ d = cc in
        let number : m ≡ d.0 = ap (λ (p : ℕ × TableDef). p.0) pair in
        let def : e ≡ d.1 = ap (λ (p : ℕ × TableDef). p.1) pair in
        (zero, omega arith, record { place = ap Some def; columns = rw same (ap (λ (x : TableDef). x.columns) def); one = inl def })
    by false same g more =
        let rest = more g in
        let number : d.0 ≡ (m + 1) + rest.0 = rest.1 in
        (suc rest.0, omega arith, record { place = rest.2.place; columns = rw same rest.2.columns; one = inr rest.2.one })

pub found : (schema : List TableDef) (name : List ℕ) (d : ℕ × TableDef) → table_from 0 name schema ≡ Some d → IsFound schema name d.0 d.1
found schema name d h =
    let f = found-from 0 name schema d h in
    let number : d.0 ≡ 0 + f.0 = f.1 in
    let same : f.0 ≡ d.0 = omega arith in
    subst (λ n. IsFound schema name n d.1) same f.2
