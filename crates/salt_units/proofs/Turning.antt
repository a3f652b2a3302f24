-- Changes taken from the end of a list, and put in from the front.
use Rattle.salt_units.specs.Putting.{put_change, put_each}
use Rattle.salt_values.specs.declared.change.Change.{Change}
use Rattle.std.proofs.Common.{ap, append_assoc, arith, length-append, sym, ◌<◌, ◌∙◌}
use Rattle.std.proofs.lemmas.List.{reverse-append}
use Rattle.std.specs.Prelude.{List, [], length, reverse, ◌++◌, ◌∷◌, ◌≡◌}

pub turned-last : (cs front : List Change) (c : Change) → cs ≡ front ++ c ∷ [] → reverse cs ≡ c ∷ reverse front
turned-last cs front c is = ap reverse is ∙ reverse-append front (c ∷ [])

pub moved-last : (turned cs front : List Change) (c : Change) → cs ≡ front ++ c ∷ [] → (turned ++ c ∷ []) ++ reverse front ≡ turned ++ reverse cs
moved-last turned cs front c is = append_assoc turned (c ∷ []) (reverse front) ∙ ap (λ l. turned ++ l) (sym (turned-last cs front c is))

pub put-last : (cs front ds now : List Change) (c : Change) → cs ≡ front ++ c ∷ [] → now ≡ put_change c ds → put_each (reverse front) now ≡ put_each (reverse cs) ds
put-last cs front ds now c is put = ap (put_each (reverse front)) put ∙ sym (ap (λ l. put_each l ds) (turned-last cs front c is))

-- of fewer than two changes the last is all
pub only-last : (cs front : List Change) (c : Change) → cs ≡ front ++ c ∷ [] → length cs < 2 → cs ≡ c ∷ []
only-last cs [] c is few = is
only-last cs (d ∷ ds) c is few = absurd (omega (arith, ap length is, length-append ds (c ∷ [])))
