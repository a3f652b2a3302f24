-- The place of a row that is spelled behind its table's number.
use Rattle.salt_bytes.proofs.Only.{pair_only}
use Rattle.salt_bytes.proofs.Values.{takes_value}
use Rattle.salt_bytes.specs.Page.{TableRow, take_table_row}
use Rattle.salt_bytes.specs.Spellable.{AreBytes}
use Rattle.salt_bytes.specs.Values.{take_value}
use Rattle.salt_directory.specs.Halves.{place_of_row}
use Rattle.salt_model.specs.Tables.{place}
use Rattle.salt_pages.proofs.Found.{good_key, row_key}
use Rattle.salt_pages.proofs.Kept.{took_row}
use Rattle.salt_pages.proofs.Taken.{drop_to_end}
use Rattle.salt_values.specs.Value.{key_of}
use Rattle.salt_values.specs.declared.value.Value.{Value}
use Rattle.std.proofs.Common.{List, Some, [], ap, drop, get_or, length, sym, take, true, ℕ, ◌-◌, ◌≡◌, ◌≤◌, ◌∙◌, ◌∷◌}
use Rattle.std.proofs.lemmas.Nat.{from_be_bytes-to_be_bytes_2}
use Rattle.std.specs.Int.{from_be_bytes, w16}

pub place_there : (bytes : List ℕ) → AreBytes bytes → 3 ≤ length bytes → (v : Value) (back : List ℕ) → take_value true (take (length bytes - 3) (drop 3 bytes)) ≡ Some (v, back)
    → (r : TableRow) → take_table_row true bytes ≡ Some (r, []) → place_of_row r ≡ place (from_be_bytes w16 (get_or bytes 0 0 ∷ get_or bytes 1 0 ∷ [])) v
place_there bytes small long v back found r taken =
    let t = took_row true bytes small r [] taken in
    let key = row_key r [] t.good in
    let behind : take (length bytes - 3) (drop 3 bytes) ≡ drop 3 bytes = drop_to_end 3 bytes long in
    let whole = behind ∙ ap (drop 3) t.spelled ∙ key.1 in
    let table : from_be_bytes w16 (get_or bytes 0 0 ∷ get_or bytes 1 0 ∷ []) ≡ r.table = ap (λ (l : List ℕ). from_be_bytes w16 (get_or l 0 0 ∷ get_or l 1 0 ∷ [])) t.spelled ∙ from_be_bytes-to_be_bytes_2 r.table t.good.table in
    let same = (pair_only v (key_of r.row) back key.0 (sym found ∙ ap (take_value true) whole ∙ (takes_value true (key_of r.row) (good_key r.row t.good.row)).taken key.0)).0 in
    λ i. place (sym table i) (sym same i)
