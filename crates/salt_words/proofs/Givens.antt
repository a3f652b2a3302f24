-- What is given first.
use Rattle.salt_promise.specs.Words.{Given, all_given, given_by, given_in}
use Rattle.std.specs.Global.{Global}
use Rattle.std.proofs.Common.{ap, arith, refl, sym}
use Rattle.std.proofs.lemmas.List.{take_rest}
use Rattle.std.specs.Prelude.{List, None, Some, [], drop, length, map, option_map, slice_index_or, string_bytes, take, ℕ, ◌-◌, ◌<◌, ◌∷◌, ◌≡◌}
use Rattle.std.specs.declared.string.String.{String}

pub one-given : (word : List ℕ) (words : List (List ℕ)) (g : Given) → given_in word ≡ Some g → all_given (word ∷ words) ≡ option_map (λ gs. g ∷ gs) (all_given words)
unfolding all_given
one-given word [] g e = rw e refl
one-given word (next ∷ words) g e = rw e refl

pub two-given : (name value : List ℕ) (words : List (List ℕ)) (g : Given) → given_in name ≡ None → given_by name value ≡ Some g → all_given (name ∷ value ∷ words) ≡ option_map (λ gs. g ∷ gs) (all_given words)
unfolding all_given
two-given name value words g e f = rw (e, f) refl

pub none-given : (name value : List ℕ) (words : List (List ℕ)) → given_in name ≡ None → given_by name value ≡ None → all_given (name ∷ value ∷ words) ≡ None
unfolding all_given
none-given name value words e f = rw (e, f) refl

pub none-alone : (name : List ℕ) → given_in name ≡ None → all_given (name ∷ []) ≡ None
unfolding all_given
none-alone name e = rw e refl

with-front : (words : List (String Global)) (word : String Global) → 0 < length words → word ≡ slice_index_or words 0 word →
    map string_bytes words ≡ string_bytes word ∷ map string_bytes (drop 1 words)
with-front [] word h e = absurd (omega arith)
with-front (w ∷ words) word h e = ap (λ x. string_bytes x ∷ map string_bytes words) (sym e)

pub bytes-of-front : (words : List (String Global)) (word : String Global) → 0 < length words → word ≡ slice_index_or words 0 word →
    map string_bytes words ≡ string_bytes word ∷ map string_bytes (take (length words - 1) (drop 1 words))
bytes-of-front words word h e = rw (take_rest words 1) (with-front words word h e)

pub bytes-of-none : (words : List (String Global)) → length words < 1 → map string_bytes words ≡ []
bytes-of-none [] h = refl
bytes-of-none (w ∷ words) h = absurd (omega arith)

pub all-of-none : (words : List (String Global)) → length words < 1 → all_given (map string_bytes words) ≡ Some []
unfolding all_given
all-of-none [] h = refl
all-of-none (w ∷ words) h = absurd (omega arith)
