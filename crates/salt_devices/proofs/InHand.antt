-- What values and changes in hand tell: values can be spelled, NULL too, and each key is a value.
use Rattle.salt_bytes.specs.Spellable as bytes
use Rattle.salt_bytes.specs.Spellable.{AreSpellableValues}
use Rattle.salt_bytes.specs.Values.{is_row_length}
use Rattle.salt_codec.specs.Entries.{IsTold, MayStand}
use Rattle.salt_model.specs.Words.{Every}
use Rattle.salt_model.specs.declared.places.Place.{Place}
use Rattle.salt_stands.proofs.Places.{equal_is, place_same}
use Rattle.salt_values.specs.Value.{IsValue, key_of, value_cmp}
use Rattle.salt_values.specs.declared.change.Change.{Change}
use Rattle.salt_values.specs.declared.value.Value.TheVariants.{Int, Null, Text}
use Rattle.salt_values.specs.declared.value.Value.{Value}
use Rattle.std.proofs.Common.{List, [], ap, arith, get_or, length, refl, sym, true, ℕ, ◌≡◌, ◌≤◌, ◌∷◌}
use Rattle.std.proofs.lemmas.Bool.Decides.{nat_tests}
use Rattle.std.specs.Ordering.{is_eq}

pub values_spell : (vs : List Value) → bytes.Every IsValue vs → AreSpellableValues true vs
values_spell [] told = tt
values_spell (Int z ∷ vs) told = (told.0, values_spell vs told.1)
values_spell (Text t ∷ vs) told = (told.0, values_spell vs told.1)
values_spell (Null ∷ vs) told = (refl, values_spell vs told.1)

pub keys_are_values : (cs : List Change) → bytes.Every IsTold cs → Every (λ (c : Change). IsValue c.key) cs
keys_are_values [] told = tt
keys_are_values (c ∷ cs) told = (told.0.key, keys_are_values cs told.1)

-- A ROW that can be put

pub all_stand : (vs : List Value) → bytes.Every (MayStand true) vs
all_stand [] = tt
all_stand (Int z ∷ vs) = (tt, all_stand vs)
all_stand (Text t ∷ vs) = (tt, all_stand vs)
all_stand (Null ∷ vs) = (refl, all_stand vs)

pub head_is : (row : List Value) (first : Value) → 1 ≤ length row → first ≡ get_or row 0 first → key_of row ≡ first
head_is [] first low is = absurd (omega (arith, low))
head_is (v ∷ vs) first low is = sym is

pub same_value : (v w : Value) → is_eq (value_cmp v w) ≡ true → v ≡ w
same_value v w e =
    let p : Place = record { table = 0; key = v } in
    let q : Place = record { table = 0; key = w } in
    ap (λ (z : Place). z.key) (place_same p q (equal_is _ e))

pub few_values : (n : ℕ) → 1 ≤ n → n ≤ 16 → is_row_length n ≡ true
few_values n low most = grind (arith, nat_tests)
