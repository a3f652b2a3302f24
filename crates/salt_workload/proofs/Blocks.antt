-- Where the calls of a workload stand.
use Rattle.salt_ast.specs.Sample.{transfer as transfer_def}
use Rattle.salt_ast.specs.declared.lines.Line.TheVariants as line
use Rattle.std.proofs.Common.{Bool, Some, [], ap, arith, cond, eqb, false, length, map, refl, suc, true, zero, ℕ, length-append}
use Rattle.std.proofs.Common.{◌%◌, ◌*◌, ◌+◌, ◌++◌, ◌-◌, ◌/◌, ◌<◌, ◌≤◌, ◌∙◌, ◌∷◌, ◌≡◌}
use Rattle.std.proofs.lemmas.Bool.{eqb-false, eqb-true}
use Rattle.std.proofs.lemmas.List.FromFn.{get_or-map-range_with_len, length-map-range_with_len}
use Rattle.std.proofs.lemmas.Option.{slice_get-get_or}
use Rattle.std.specs.List.{flat_map, range_with_len, slice_get}
use Rattle.salt_workload.proofs.Elements.{slice_get-append_left, slice_get-append_right, slice_get-blocks}
use Rattle.salt_workload.specs.Places.{lines_through}
use Rattle.salt_promise.specs.Workload.{account_def, balance, behind_eighth, behind_fiftieth, call_lines, calls, closing, deposit, load_lines}
use Rattle.salt_promise.specs.Workload.{opening, turn}

eighths : (i : ℕ) (b : Bool) → eqb ((i + 1) % 8) 0 ≡ b → length (cond b (turn ∷ []) []) + i / 8 ≡ (i + 1) / 8
eighths i true e = omega (arith, eqb-true ((i + 1) % 8) 0 e)
eighths i false e = omega (arith, eqb-false ((i + 1) % 8) 0 e)

fiftieths : (i : ℕ) (b : Bool) → eqb ((i + 1) % 50) 0 ≡ b → length (cond b (balance ∷ turn ∷ turn ∷ []) []) + 3 * (i / 50) ≡ 3 * ((i + 1) / 50)
fiftieths i true e = omega (arith, eqb-true ((i + 1) % 50) 0 e)
fiftieths i false e = omega (arith, eqb-false ((i + 1) % 50) 0 e)

lines_of_a_call : (i : ℕ) → length (call_lines (i + 1)) + lines_through i ≡ lines_through (i + 1)
lines_of_a_call i =
    let joined = length-append (behind_eighth (i + 1)) (behind_fiftieth (i + 1)) in
    omega (arith, joined, eighths i (eqb ((i + 1) % 8) 0) refl, fiftieths i (eqb ((i + 1) % 50) 0) refl)

lines_from : (a n : ℕ) → length (flat_map call_lines (range_with_len (a + 1) n)) + lines_through a ≡ lines_through (a + n)
lines_from a zero = rw (let same : a + 0 ≡ a = omega arith in same) (omega arith)
lines_from a (suc n) =
    let joined = length-append (call_lines (a + 1)) (flat_map call_lines (range_with_len (a + 1 + 1) n)) in
    let next : a + suc n ≡ a + 1 + n = omega arith in
    rw next (omega (arith, joined, lines_of_a_call a, lines_from (a + 1) n))

-- the arithmetic counts the lines of the calls
pub length-calls : (n : ℕ) → length (calls n) ≡ lines_through n
length-calls n = omega (arith, lines_from 0 n)

-- a line of the calls, by how many calls are over before it, and how many lines these are
pub slice_get-calls : (n over before at : ℕ) → before ≡ lines_through over → before ≤ at → at < lines_through (over + 1) → at < lines_through n
    → slice_get (calls n) at ≡ slice_get (call_lines (over + 1)) (at - before)
slice_get-calls n over before at e low high within =
    let there : length (calls over) + (at - before) ≡ at = omega (arith, length-calls over) in
    let next : 1 + over ≡ over + 1 = omega arith in
    let short : at - before < length (call_lines (over + 1)) = omega (arith, lines_of_a_call over) in
    rw next at (rw there at (slice_get-blocks call_lines 1 n over (at - before) (omega arith) (rw next short)))

-- a line of the calls stands there also where more follows
pub slice_get-within_calls : (n at : ℕ) → at < lines_through n → slice_get (calls n ++ closing) at ≡ slice_get (calls n) at
slice_get-within_calls n at h = slice_get-append_left (calls n) closing at (omega (arith, length-calls n))

-- what follows the calls
pub slice_get-behind_calls : (n at : ℕ) → lines_through n ≤ at → slice_get (calls n ++ closing) at ≡ slice_get closing (at - lines_through n)
slice_get-behind_calls n at h =
    let there : lines_through n + (at - lines_through n) ≡ at = omega arith in
    rw there at (slice_get-append_right (calls n) closing (lines_through n) (at - lines_through n) (omega (arith, length-calls n)))

length-opening : length opening ≡ 102
unfolding opening
length-opening = refl

slice_get-opening : (k : ℕ) → k < 100 → slice_get opening (suc (suc k)) ≡ Some (deposit k)
unfolding opening
slice_get-opening k h =
    let accounts = map deposit (range_with_len 0 100) in
    slice_get-get_or accounts k (deposit k) (omega (arith, length-map-range_with_len deposit 0 100))
    ∙ ap Some (get_or-map-range_with_len deposit 0 100 k k (deposit k) h (omega arith))

pub length_load : (n : ℕ) → length (load_lines n) ≡ 102 + lines_through n + 3
length_load n =
    omega (arith, length-append opening (calls n ++ closing), length-append (calls n) closing, length-opening, length-calls n)

pub load_table : (n : ℕ) → slice_get (load_lines n) 0 ≡ Some (line.Table account_def)
unfolding opening
load_table n = refl

pub load_program : (n : ℕ) → slice_get (load_lines n) 1 ≡ Some (line.Program transfer_def)
unfolding opening
load_program n = refl

pub load_deposit : (n i : ℕ) → 2 ≤ i → i ≤ 101 → slice_get (load_lines n) i ≡ Some (deposit (i - 2))
load_deposit n i low high =
    let there : suc (suc (i - 2)) ≡ i = omega arith in
    slice_get-append_left opening (calls n ++ closing) i (omega (arith, length-opening)) ∙ rw there at (slice_get-opening (i - 2) (omega arith))

pub load_behind_opening : (n i : ℕ) → 102 ≤ i → slice_get (load_lines n) i ≡ slice_get (calls n ++ closing) (i - 102)
load_behind_opening n i low =
    let there : 102 + (i - 102) ≡ i = omega arith in
    rw there at (slice_get-append_right opening (calls n ++ closing) 102 (i - 102) (omega (arith, length-opening)))
