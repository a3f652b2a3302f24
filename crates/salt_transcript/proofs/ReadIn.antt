-- Bytes that are read piece by piece.
use Rattle.salt_io.specs.Streams.{IsAtEnd, bytes_before}
use Rattle.std.proofs.Common.{List, None, Option, Some, [], ap, append-nil, append_assoc, drop, refl, subst, sym, take, ℕ, ◌++◌, ◌∙◌, ◌≡◌, ◌≤◌}
use Rattle.std.proofs.lemmas.List.{take-append-drop, take-take}
use Rattle.std.specs.Prelude.{IfSome}

-- nothing is read of all
pub none_read : (all : Option (List ℕ)) → all ≡ bytes_before [] all
none_read None = refl
none_read (Some bytes) = refl

-- one piece more is read
pub more_read : (first before after : Option (List ℕ)) (read piece : List ℕ) → first ≡ bytes_before read before → before ≡ bytes_before piece after →
    first ≡ bytes_before (read ++ piece) after
more_read first before after read piece e f = e ∙ ap (bytes_before read) f ∙ joined after
  where
    joined : (o : Option (List ℕ)) → bytes_before read (bytes_before piece o) ≡ bytes_before (read ++ piece) o
    joined None = refl
    joined (Some bytes) = ap (λ (l : List ℕ). Some l) (sym (append_assoc read piece bytes))

-- all is read where none is left
pub all_read : (first left : Option (List ℕ)) (read : List ℕ) → first ≡ bytes_before read left → IsAtEnd left → IfSome first (λ (all : List ℕ). read ≡ all)
all_read None left read e h = tt
all_read (Some all) None read e h = absurd cc
all_read (Some all) (Some rest) read e h =
    let none : rest ≡ [] = h in
    let is : all ≡ read ++ rest = cc in
    sym (is ∙ ap (λ (l : List ℕ). read ++ l) none ∙ append-nil read)

-- a piece of no bytes is read at the end
pub end_read : (first before after : Option (List ℕ)) (read buf : List ℕ) (count : ℕ) → first ≡ bytes_before read before →
    before ≡ bytes_before (take count buf) after → count ≡ 0 → IsAtEnd after → IfSome first (λ (all : List ℕ). read ≡ all)
end_read first before after read buf count e f none h =
    let same : read ++ take count buf ≡ read = ap (λ (n : ℕ). read ++ take n buf) none ∙ append-nil read in
    all_read first after read (subst (λ (l : List ℕ). first ≡ bytes_before l after) same (more_read first before after read (take count buf) e f)) h

-- what holds of the bytes that are read holds of all
pub of_all : (P : List ℕ → Type 0) (all : Option (List ℕ)) (read : List ℕ) → IfSome all (λ (bytes : List ℕ). read ≡ bytes) → P read → IfSome all P
of_all P None read h p = tt
of_all P (Some bytes) read h p = subst P h p

-- of a piece that is read, what is taken in, and what is behind it: what holds of them with whatever is left holds of all
pub of_piece : (P : List ℕ → Type 0) (first before after : Option (List ℕ)) (come buf : List ℕ) (count within : ℕ) → first ≡ bytes_before come before →
    before ≡ bytes_before (take count buf) after → within ≤ count →
    ((more : List ℕ) → P (come ++ (take within buf ++ (drop within (take count buf) ++ more)))) → IfSome first P
of_piece P None before after come buf count within e f le p = tt
of_piece P (Some all) None after come buf count within e f le p = absurd cc
of_piece P (Some all) (Some left) None come buf count within e f le p = absurd cc
of_piece P (Some all) (Some left) (Some rest) come buf count within e f le p =
    let is : all ≡ come ++ left = cc in
    let piece : left ≡ take count buf ++ rest = cc in
    let parts : take within buf ++ drop within (take count buf) ≡ take count buf =
    ap (λ (l : List ℕ). l ++ drop within (take count buf)) (sym (take-take within count buf le)) ∙ take-append-drop within (take count buf) in
    let whole : come ++ (take within buf ++ (drop within (take count buf) ++ rest)) ≡ all =
    ap (λ (l : List ℕ). come ++ l)
    (sym (append_assoc (take within buf) (drop within (take count buf)) rest) ∙ ap (λ (l : List ℕ). l ++ rest) parts ∙ sym piece)
    ∙ sym is in
    subst P whole (p rest)
