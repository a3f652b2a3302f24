-- Lists that are read item by item.
use Rattle.std.proofs.Common.{List, None, Option, Some, [], ap, append-nil, append_assoc, refl, sym, ℕ, ◌++◌, ◌∷◌, ◌≡◌}
use Rattle.std.specs.Prelude.{Err, option_map}
use Rattle.salt_ast.specs.declared.limit.LimitName.{LimitName}
use Rattle.salt_script.specs.Answers.{FailsToRead, GivesOrLimit}
use Rattle.salt_script.specs.Literals.{at_item, behind_item, closed_at, comma_at, ended_at, items_at, literal_at, pair_at, pairs_at}
use Rattle.salt_parse.specs.declared.error.ParseErr.{ParseErr}
use Rattle.salt_parse.specs.declared.error.ParseErr.TheVariants.{Limit, Memory, Syntax}
use Rattle.salt_ast.specs.Symbols.{Symbols, int, sign, text}
use Rattle.salt_ast.specs.declared.sign.Sign.TheVariants as mark
use Rattle.salt_values.specs.declared.value.Value.{Value}

-- these items before those that are read behind them
abbrev pub with_front : {A : Type 0} → List A → Option (List A) → Option (List A)
with_front front read = option_map (λ xs. front ++ xs) read

pub front_none : {A : Type 0} (read : Option (List A)) → read ≡ with_front [] read
front_none None = refl
front_none (Some xs) = refl

pub front_more : {A : Type 0} (front : List A) (x : A) (read : Option (List A)) →
    with_front front (option_map (λ xs. x ∷ xs) read) ≡ with_front (front ++ x ∷ []) read
front_more front x None = refl
front_more front x (Some xs) = ap Some (sym (append_assoc front (x ∷ []) xs))

-- a failure to read a part is one to read the whole
pub fails_whole : {A B : Type 0} (limit_of : A → Option LimitName) (e : ParseErr) (part : Option B) (whole : Option A) → FailsToRead e part →
    (part ≡ None → whole ≡ None) → GivesOrLimit limit_of (Err e) whole
fails_whole limit_of Memory part whole h f = tt
fails_whole limit_of Syntax part whole h f = f h
fails_whole limit_of (Limit l) part whole h f = absurd h

-- ---- literals

pub literal_read : (ts : Symbols) (v : Value) (rest : Symbols) → literal_at ts ≡ Some (v, rest) →
    items_at at_item ts ≡ option_map (λ vs. v ∷ vs) (items_at behind_item rest)
unfolding items_at
literal_read ts v rest h = go ts h
  where
    is : (w : Value) (us : Symbols) → ◌≡◌ {A = Option (Value × Symbols)} (Some (w, us)) (Some (v, rest)) →
        option_map (λ vs. w ∷ vs) (items_at behind_item us) ≡ option_map (λ vs. v ∷ vs) (items_at behind_item rest)
    is w us e =
        let p : ◌≡◌ {A = Value × Symbols} (w, us) (v, rest) = cc e in
        ap (λ (x : Value × Symbols). option_map (λ vs. x.0 ∷ vs) (items_at behind_item x.1)) p

    go : (us : Symbols) → literal_at us ≡ Some (v, rest) → items_at at_item us ≡ option_map (λ vs. v ∷ vs) (items_at behind_item rest)
    go (int n ∷ us) e = is _ us e
    go (sign mark.Minus ∷ int n ∷ us) e = is _ us e
    go (text t ∷ us) e = is _ us e
    go _ e = absurd cc

pub no_literal : (ts : Symbols) → literal_at ts ≡ None → items_at at_item ts ≡ None
unfolding items_at
no_literal (int n ∷ us) e = absurd cc
no_literal (sign mark.Minus ∷ int n ∷ us) e = absurd cc
no_literal (text t ∷ us) e = absurd cc
no_literal _ e = refl

pub comma_read : (ts us : Symbols) → comma_at ts ≡ Some us → items_at behind_item ts ≡ items_at at_item us
unfolding items_at
comma_read (sign mark.Comma ∷ vs) us e = let p : vs ≡ us = cc e in ap (items_at at_item) p
comma_read _ us e = absurd cc

pub no_comma : (front : List Value) (ts : Symbols) → comma_at ts ≡ None → with_front front (items_at behind_item ts) ≡ closed_at front ts
unfolding items_at
no_comma front (sign mark.Comma ∷ vs) e = absurd cc
no_comma front (sign mark.Close ∷ []) e = ap Some (append-nil front)
no_comma front _ e = refl

-- ---- pairs

pub pair_read : (ts : Symbols) (s : ℕ × ℕ) (rest : Symbols) → pair_at ts ≡ Some (s, rest) → pairs_at ts ≡ option_map (λ xs. s ∷ xs) (pairs_at rest)
unfolding pairs_at
pair_read (int n ∷ int m ∷ us) s rest e =
    let p : ◌≡◌ {A = (ℕ × ℕ) × Symbols} ((n, m), us) (s, rest) = cc e in
    ap (λ (x : (ℕ × ℕ) × Symbols). option_map (λ xs. x.0 ∷ xs) (pairs_at x.1)) p
pair_read _ s rest e = absurd cc

pub no_pair : (front : List (ℕ × ℕ)) (ts : Symbols) → pair_at ts ≡ None → with_front front (pairs_at ts) ≡ ended_at front ts
unfolding pairs_at
no_pair front [] e = ap Some (append-nil front)
no_pair front (int n ∷ int m ∷ us) e = absurd cc
no_pair front _ e = refl
