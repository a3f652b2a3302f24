-- Which bytes are a text, and the order of values and of places.
use Rattle.salt_model.specs.Tables.{place, place_cmp}
use Rattle.salt_model.specs.declared.places.Place.{Place}
use Rattle.salt_values.specs.Text.{is_text}
use Rattle.salt_values.specs.Value.{value_cmp}
use Rattle.salt_values.specs.declared.value.Value.TheVariants.{Null}
use Rattle.salt_values.specs.declared.value.Value.{Value}
use Rattle.std.specs.List.{range_with_len}
use Rattle.std.specs.Ordering.{nat_cmp}
use Rattle.std.specs.Prelude.{List, [], codes, false, map, refl, replicate, true, ℕ, ◌∷◌, ◌≡◌}
use Rattle.rows_texts.specs.Keys.{at, below_0, greatest, least, word}

-- ---- texts: at most 255 bytes, each from 32 to 126

texts : map is_text ([] ∷ codes " ~'" ∷ replicate 255 126 ∷ []) ≡ true ∷ true ∷ true ∷ []
texts = refl

no_texts : map is_text (replicate 256 126 ∷ (97 ∷ 31 ∷ []) ∷ (127 ∷ []) ∷ (10 ∷ []) ∷ []) ≡ false ∷ false ∷ false ∷ false ∷ []
no_texts = refl

-- ---- values from the first in order to the last: each stands to each as its place to the other's place

abbrev in_order : List Value
in_order =
    least ∷ below_0 1 ∷ at 0 ∷ greatest ∷ word [] ∷ word (codes "A") ∷ word (codes "AB") ∷ word (codes "B") ∷ word (codes "a") ∷ Null ∷ []

abbrev places : List ℕ
places = range_with_len 0 10

they_are_in_order : map (λ v. map (value_cmp v) in_order) in_order ≡ map (λ i. map (nat_cmp i) places) places
they_are_in_order = refl

-- ---- likewise places: by table, then by key

abbrev places_in_order : List Place
places_in_order = place 0 (at 9) ∷ place 0 (word []) ∷ place 1 (below_0 9) ∷ place 1 (at 9) ∷ []

places_are_in_order : map (λ p. map (place_cmp p) places_in_order) places_in_order ≡ map (λ i. map (nat_cmp i) (range_with_len 0 4)) (range_with_len 0 4)
places_are_in_order = refl
