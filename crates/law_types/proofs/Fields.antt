-- Columns and variables whose names are apart: what is set is of its type, and the others stay.
use Rattle.salt_ast.specs.Judgement.{doubled_name, field_named, field_names, is_key, same_types, type_named, value_type}
use Rattle.salt_ast.specs.ProgramJudgement.{are_arguments}
use Rattle.salt_ast.specs.Words.{is_among}
use Rattle.salt_ast.specs.declared.trees.ColType.{ColType}
use Rattle.salt_ast.specs.declared.trees.Field.{Field}
use Rattle.salt_stands.specs.Fitting.{are_of_columns, is_of_column}
use Rattle.law_story.proofs.Ids.{and_left, and_right}
use Rattle.law_story.proofs.Lists.{or_left_true, or_right_true}
use Rattle.salt_model.specs.Eval.{named_values}
use Rattle.salt_model.specs.Statements.{set_field, set_var}
use Rattle.salt_ast.specs.TokenSpelling.{same_bytes}
use Rattle.law_types.specs.Typed.{AreVariables}
use Rattle.salt_values.specs.declared.value.Value.{Value}
use Rattle.std.proofs.Common.{ap, subst}
use Rattle.std.proofs.lemmas.Bool.{eq-eqb, eqb-true}
use Rattle.std.specs.Prelude.{Bool, List, None, Some, [], cond, false, option_map, refl, true, ℕ, ◌++◌, ◌==◌, ◌∷◌, ◌≡◌}
use Rattle.salt_values.specs.Value.{key_of}

pub same-true : (n m : List ℕ) → same_bytes n m ≡ true → n ≡ m
same-true [] [] h = refl
same-true [] (y ∷ ys) h = cc
same-true (x ∷ xs) [] h = cc
same-true (x ∷ xs) (y ∷ ys) h = λ i. eqb-true x y (and_left (x == y) _ h) i ∷ same-true xs ys (and_right (x == y) _ h) i

pub same-itself : (n : List ℕ) → same_bytes n n ≡ true
same-itself [] = refl
same-itself (x ∷ xs) = rw (eq-eqb x x refl) (same-itself xs)

-- the head of names that are apart is new, and so are those behind it
new-head : (before : List (List ℕ)) (n : List ℕ) (ns : List (List ℕ)) → doubled_name before (n ∷ ns) ≡ None → (is_among n before ≡ false) × (doubled_name (n ∷ before) ns ≡ None)
new-head before n ns h = by (is_among n before) refl h
  where
    by : (b : Bool) → is_among n before ≡ b → cond b (Some n) (doubled_name (n ∷ before) ns) ≡ None → (is_among n before ≡ false) × (doubled_name (n ∷ before) ns ≡ None)
    by true e g = absurd cc
    by false e g = (e, g)

-- a name that came before comes no more
pub not-again : (before : List (List ℕ)) (fs : List Field) (n : List ℕ) → doubled_name before (field_names fs) ≡ None → is_among n before ≡ true → field_named fs n ≡ None
not-again before [] n h e = refl
not-again before (f ∷ fs) n h e =
    let head = new-head before f.name (field_names fs) h in
    by (same_bytes n f.name) refl head.0 (not-again (f.name ∷ before) fs n head.1 (or_right_true (same_bytes n f.name) _ e))
  where
    by : (b : Bool) → same_bytes n f.name ≡ b → is_among f.name before ≡ false → field_named fs n ≡ None → cond b (Some f) (field_named fs n) ≡ None
    by true same new more = let there : is_among f.name before ≡ true = subst (λ m. is_among m before ≡ true) (same-true n f.name same) e in absurd cc
    by false same new more = more

-- one of these names is none behind them
once : (before : List (List ℕ)) (f : Field) (fs : List Field) (n : List ℕ) → doubled_name before (field_names (f ∷ fs)) ≡ None → same_bytes n f.name ≡ true → field_named fs n ≡ None
once before f fs n h same =
    not-again (f.name ∷ before) fs n (new-head before f.name (field_names fs) h).1 (or_left_true (same_bytes n f.name) _ same)

-- COLUMNS

set-none : (fs : List Field) (c : List ℕ) (v : Value) (row : List Value) → field_named fs c ≡ None → are_of_columns fs row ≡ true → are_of_columns fs (set_field fs c v row) ≡ true
set-none [] c v row e h = h
set-none (f ∷ fs) c v [] e h = absurd cc
set-none (f ∷ fs) c v (w ∷ row) e h = by (same_bytes c f.name) e (λ g. set-none fs c v row g (and_right (is_of_column f w) _ h))
  where
    by : (b : Bool) → cond b (Some f) (field_named fs c) ≡ None → (field_named fs c ≡ None → are_of_columns fs (set_field fs c v row) ≡ true) →
        are_of_columns (f ∷ fs) (cond b v w ∷ set_field fs c v row) ≡ true
    by true g more = absurd cc
    by false g more = rw (and_left (is_of_column f w) _ h) (more g)

pub set-column : (before : List (List ℕ)) (fs : List Field) (c : List ℕ) (f : Field) (v : Value) (row : List Value) → doubled_name before (field_names fs) ≡ None →
    field_named fs c ≡ Some f → is_of_column f v ≡ true → are_of_columns fs row ≡ true → are_of_columns fs (set_field fs c v row) ≡ true
set-column before [] c f v row apart e own h = absurd cc
set-column before (g ∷ fs) c f v [] apart e own h = absurd cc
set-column before (g ∷ fs) c f v (w ∷ row) apart e own h =
    by (same_bytes c g.name) refl e (λ q. set-column (g.name ∷ before) fs c f v row (new-head before g.name (field_names fs) apart).1 q own (and_right (is_of_column g w) _ h))
  where
    by : (b : Bool) → same_bytes c g.name ≡ b → cond b (Some g) (field_named fs c) ≡ Some f →
        (field_named fs c ≡ Some f → are_of_columns fs (set_field fs c v row) ≡ true) → are_of_columns (g ∷ fs) (cond b v w ∷ set_field fs c v row) ≡ true
    by true same q more =
        let this : f ≡ g = cc in
        let first : is_of_column g v ≡ true = subst (λ (x : Field). is_of_column x v ≡ true) this own in
        rw first (set-none fs c v row (once before g fs c apart same) (and_right (is_of_column g w) _ h))
    by false same q more = rw (and_left (is_of_column g w) _ h) (more q)

-- the key stays where another column is set
pub key-stays : (fs : List Field) (c : List ℕ) (v : Value) (row : List Value) → is_key fs c ≡ false → key_of (set_field fs c v row) ≡ key_of row
key-stays [] c v row e = refl
key-stays (f ∷ fs) c v [] e = refl
key-stays (f ∷ fs) c v (w ∷ row) e = rw e refl

-- VARIABLES

pub set-variable : (fields : List Field) (vs : List Value) (n : List ℕ) (t : ColType) (x : Value) → are_arguments fields vs ≡ true → type_named fields n ≡ Some t →
    same_types (Some t) (value_type x) ≡ true → AreVariables fields (set_var n x (named_values fields vs))
set-variable [] vs n t x h e own = absurd cc
set-variable (f ∷ fields) [] n t x h e own = absurd cc
set-variable (f ∷ fields) (v ∷ vs) n t x h e own =
    by (same_bytes n f.name) refl e (λ g. set-variable fields vs n t x (and_right (same_types (Some f.kind) (value_type v)) _ h) g own)
  where
    first : same_types (Some f.kind) (value_type v) ≡ true
    first = and_left _ _ h

    rest : are_arguments fields vs ≡ true
    rest = and_right (same_types (Some f.kind) (value_type v)) _ h

    by : (b : Bool) → same_bytes n f.name ≡ b → option_map (λ (f : Field). f.kind) (cond b (Some f) (field_named fields n)) ≡ Some t →
        (type_named fields n ≡ Some t → AreVariables fields (set_var n x (named_values fields vs))) →
        AreVariables (f ∷ fields) (cond b (record { name = n; value = x } ∷ named_values fields vs) (record { name = f.name; value = v } ∷ set_var n x (named_values fields vs)))
    by true same g more =
        let this : t ≡ f.kind = cc in
        let fits : same_types (Some f.kind) (value_type x) ≡ true = subst (λ (k : ColType). same_types (Some k) (value_type x) ≡ true) this own in
        record {
          values = x ∷ vs;
          named = λ i. record { name = same-true n f.name same i; value = x } ∷ named_values fields vs;
          typed = rw fits rest;
        }
    by false same g more =
        let behind = more g in
        record {
          values = v ∷ behind.values;
          named = λ i. record { name = f.name; value = v } ∷ behind.named i;
          typed = rw first behind.typed;
        }

-- a variable's name is no parameter's
pub not-before : (before : List (List ℕ)) (params vars : List Field) (n : List ℕ) (t : ColType) → doubled_name before (field_names (params ++ vars)) ≡ None →
    type_named vars n ≡ Some t → type_named (params ++ vars) n ≡ Some t
not-before before [] vars n t apart e = e
not-before before (p ∷ params) vars n t apart e =
    by (same_bytes n p.name) refl (not-before (p.name ∷ before) params vars n t (new-head before p.name (field_names (params ++ vars)) apart).1 e)
  where
    by : (b : Bool) → same_bytes n p.name ≡ b → type_named (params ++ vars) n ≡ Some t →
        option_map (λ (f : Field). f.kind) (cond b (Some p) (field_named (params ++ vars) n)) ≡ Some t
    by true same rest =
        let none : type_named (params ++ vars) n ≡ None = ap (option_map (λ (f : Field). f.kind)) (once before p (params ++ vars) n apart same) in
        absurd cc
    by false same rest = rest
