-- Calls and their literals: what is read is what the grammar spells.
use Rattle.std.proofs.Common.{List, None, Option, Some, [], ap, append_assoc, arith, length, nat_lt, refl, subst, sym, ℕ, ◌++◌, ◌<◌, ◌∙◌, ◌∷◌, ◌≡◌, ◌≤◌}
use Rattle.std.proofs.lemmas.Bool.Decides.{nat_tests}
use Rattle.std.specs.Option.{option_or}
use Rattle.salt_ast.specs.declared.limit.LimitName.TheVariants as limit
use Rattle.std.specs.Prelude.{Err, Ok, Result, false, option_map, true}
use Rattle.salt_ast.specs.Limits.{name_passed, value_passed}
use Rattle.salt_ast.specs.Lines as form
use Rattle.salt_ast.specs.Lines.{IsLiteral}
use Rattle.salt_ast.specs.Programs.{AnyListed, no_items, some_items}
use Rattle.salt_ast.specs.Statements.{Following, Listed, items, no_more, one_more}
use Rattle.salt_ast.specs.Words.{first_in}
use Rattle.salt_ast.specs.declared.limit.LimitName.{LimitName}
use Rattle.salt_parse.specs.declared.error.ParseErr.{ParseErr}
use Rattle.salt_script.specs.Answers.{GivesOrLimit}
use Rattle.salt_script.specs.Literals.{args_at, at_item, behind_item, items_at}
use Rattle.salt_script.specs.Spelled.{call_at, call_passed}
use Rattle.salt_ast.specs.Symbols.{Symbols, int, name, sign, text}
use Rattle.salt_ast.specs.declared.sign.Sign.TheVariants as mark
use Rattle.salt_values.specs.declared.value.Value.{Value}

-- the parenthesis that ends a call
abbrev closed : Symbols → Symbols
closed ts = ts ++ sign mark.Close ∷ []

-- ---- what the grammar spells is read

literal_complete : {ts : Symbols} {v : Value} (us : Symbols) → IsLiteral ts v →
    items_at at_item (ts ++ us) ≡ option_map (λ vs. v ∷ vs) (items_at behind_item us)
unfolding items_at
literal_complete us form.plus_int = refl
literal_complete us form.minus_int = refl
literal_complete us form.literal = refl

following_complete : {ts : Symbols} {vs : List Value} → Following IsLiteral ts vs → items_at behind_item (closed ts) ≡ Some vs
unfolding items_at
following_complete no_more = refl
following_complete (one_more {a = a} {b = b} {x = x} g d) =
    ap (items_at at_item) (append_assoc a b (sign mark.Close ∷ [])) ∙ literal_complete (closed b) g ∙ ap (option_map (λ vs. x ∷ vs)) (following_complete d)

listed_complete : {ts : Symbols} {vs : List Value} → Listed IsLiteral ts vs → items_at at_item (closed ts) ≡ Some vs
listed_complete (items {a = a} {b = b} {x = x} g d) =
    ap (items_at at_item) (append_assoc a b (sign mark.Close ∷ [])) ∙ literal_complete (closed b) g ∙ ap (option_map (λ vs. x ∷ vs)) (following_complete d)

-- a list of literals does not begin with the parenthesis
not_closed : {ts : Symbols} {vs : List Value} → Listed IsLiteral ts vs → args_at (closed ts) ≡ items_at at_item (closed ts)
not_closed (items form.plus_int d) = refl
not_closed (items form.minus_int d) = refl
not_closed (items form.literal d) = refl

pub args_complete : {ts : Symbols} {vs : List Value} → AnyListed IsLiteral ts vs → args_at (closed ts) ≡ Some vs
args_complete no_items = refl
args_complete (some_items d) = not_closed d ∙ listed_complete d

pub call_complete : (p : List ℕ) (ts : Symbols) (vs : List Value) → AnyListed IsLiteral ts vs →
    call_at (name p ∷ sign mark.Open ∷ (ts ++ sign mark.Close ∷ [])) ≡ Some (p, vs)
call_complete p ts vs d = ap (option_map (λ ws. (p, ws))) (args_complete d)

-- ---- what is read the grammar spells

-- up to the parenthesis the symbols are of this form
abbrev Front : (Symbols → List Value → Type 0) → Symbols → List Value → Type 0
Front G us vs = (ts : Symbols) × (us ≡ closed ts) × G ts vs

-- behind a literal
abbrev Behind : Symbols → Type 0
Behind us = (vs : List Value) → items_at behind_item us ≡ Some vs → Front (Following IsLiteral) us vs

with_item : {ts : Symbols} {v : Value} (us : Symbols) (vs : List Value) → IsLiteral ts v → Behind us →
    option_map (λ ws. v ∷ ws) (items_at behind_item us) ≡ Some vs → Front (Listed IsLiteral) (ts ++ us) vs
with_item {ts} {v} us vs g behind h = go (items_at behind_item us) behind h
  where
    go : (o : Option (List Value)) → ((ws : List Value) → o ≡ Some ws → Front (Following IsLiteral) us ws) → option_map (λ ws. v ∷ ws) o ≡ Some vs →
        Front (Listed IsLiteral) (ts ++ us) vs
    go None f e = absurd cc
    go (Some ws) f e =
        let r = f ws refl in
        let same : v ∷ ws ≡ vs = cc e in (
          ts ++ r.0,
          ap (λ (x : Symbols). ts ++ x) r.1 ∙ sym (append_assoc ts r.0 (sign mark.Close ∷ [])),
          subst (Listed IsLiteral (ts ++ r.0)) same (items g r.2),
        )

following_of : {ts : Symbols} {vs : List Value} → Listed IsLiteral ts vs → Following IsLiteral (sign mark.Comma ∷ ts) vs
following_of (items g d) = one_more g d

further : {us : Symbols} {vs : List Value} → Front (Listed IsLiteral) us vs → Front (Following IsLiteral) (sign mark.Comma ∷ us) vs
further r = (sign mark.Comma ∷ r.0, ap (λ (x : Symbols). sign mark.Comma ∷ x) r.1, following_of r.2)

mutual
  unfolding items_at

  item_sound : (us : Symbols) (vs : List Value) → items_at at_item us ≡ Some vs → Front (Listed IsLiteral) us vs
  item_sound (int n ∷ us) vs h = with_item us vs form.plus_int (behind_sound us) h
  item_sound (text t ∷ us) vs h = with_item us vs form.literal (behind_sound us) h
  item_sound (sign mark.Minus ∷ int n ∷ us) vs h = with_item us vs form.minus_int (behind_sound us) h
  item_sound _ vs h = absurd cc

  behind_sound : (us : Symbols) → Behind us
  behind_sound (sign mark.Comma ∷ us) vs h = further (item_sound us vs h)
  behind_sound (sign mark.Close ∷ []) vs h = ([], refl, subst (Following IsLiteral []) (cc h) no_more)
  behind_sound _ vs h = absurd cc

pub args_sound : (us : Symbols) (vs : List Value) → args_at us ≡ Some vs → Front (AnyListed IsLiteral) us vs
args_sound (sign mark.Close ∷ []) vs h = ([], refl, subst (AnyListed IsLiteral []) (cc h) no_items)
args_sound us vs h = let r = item_sound us vs h in (r.0, r.1, some_items r.2)

-- ---- a name before them

pub named_limit : (program : List ℕ) (args : Result (List Value) LimitName) (read : Option (List Value)) → (l : LimitName) →
    GivesOrLimit (first_in value_passed) (Ok args) read → name_passed program ≡ Some l →
    GivesOrLimit call_passed (Ok (Err l)) (option_map (λ vs. (program, vs)) read)
named_limit program (Ok vs) read l h e =
    ((program, vs), ap (option_map (λ ws. (program, ws))) h.0, ap (λ (o : Option LimitName). option_or o (first_in value_passed vs)) e)
named_limit program (Err k) read l h e =
    ((program, h.0), ap (option_map (λ ws. (program, ws))) h.1, ap (λ (o : Option LimitName). option_or o (first_in value_passed h.0)) e)

abbrev pub with_name : List ℕ → Result (List Value) LimitName → Result (Result (List ℕ × List Value) LimitName) ParseErr
with_name program (Ok vs) = Ok (Ok (program, vs))
with_name program (Err l) = Ok (Err l)

pub named_args : (program : List ℕ) (args : Result (List Value) LimitName) (read : Option (List Value)) →
    GivesOrLimit (first_in value_passed) (Ok args) read → name_passed program ≡ None →
    GivesOrLimit call_passed (with_name program args) (option_map (λ vs. (program, vs)) read)
named_args program (Ok vs) read h e = (ap (option_map (λ ws. (program, ws))) h.0, (λ t. option_or (e t) (h.1 t)))
named_args program (Err k) read h e =
    ((program, h.0), ap (option_map (λ ws. (program, ws))) h.1, (λ t. option_or (e t) (h.2 t)))

pub long_name : (n : List ℕ) → 32 < length n → name_passed n ≡ Some limit.Name
long_name n h = rw (lit n h) refl
  where
    lit : (m : List ℕ) → 32 < length m → nat_lt 32 (length m) ≡ true
    lit m k = grind (arith, nat_tests)

pub short_name : (n : List ℕ) → length n ≤ 32 → name_passed n ≡ None
short_name n h = rw (lit n h) refl
  where
    lit : (m : List ℕ) → length m ≤ 32 → nat_lt 32 (length m) ≡ false
    lit m k = grind (arith, nat_tests)
