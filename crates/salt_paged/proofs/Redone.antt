-- The pages that the decided units of a log can fill.
use Rattle.salt_bytes.specs.Page.{page_place}
use Rattle.salt_bytes.specs.Partition.{Prepared}
use Rattle.salt_bytes.specs.Spellable.{Every}
use Rattle.salt_codec.specs.Entries.{prepared_of}
use Rattle.salt_codec.specs.declared.prepared.PreparedUnit.{PreparedUnit}
use Rattle.salt_directory.proofs.Bounds.{change_most, within_more, within_on}
use Rattle.salt_directory.specs.Bytes.{IsWithin, bytes_of_changes, bytes_of_entries}
use Rattle.salt_disk.specs.Disks.{FullOnly}
use Rattle.salt_disk.specs.declared.disks.DiskErr.TheVariants.{Failed, Full, Memory, Stopped}
use Rattle.salt_disk.specs.declared.disks.DiskErr.{DiskErr}
use Rattle.salt_model.specs.Tables.{Tables, make_change, no_rows, with_changes}
use Rattle.salt_paged.specs.Openings.{page_bound}
use Rattle.salt_partition.proofs.Seeing.{units_push}
use Rattle.salt_partition.specs.Contents.{ArePut, units_of}
use Rattle.salt_stands.proofs.Decided.{changes_push, with_changes_append}
use Rattle.salt_stands.specs.Partition.{changes_if, decided_changes}
use Rattle.salt_stands.specs.Pieces.{PartView}
use Rattle.salt_values.specs.Id.{has_id}
use Rattle.salt_values.specs.declared.change.Change.{Change}
use Rattle.salt_values.specs.declared.id.Id.{Id}
use Rattle.std.proofs.Common.{Bool, List, None, Option, Some, [], ap, append_assoc, arith, get_or, length, refl, subst, suc, sym, take, zero, ℕ, ◌+◌, ◌++◌, ◌<◌, ◌≡◌, ◌≤◌, ◌∙◌, ◌∷◌}

-- BYTES

changes_bytes : (xs ys : List Change) → bytes_of_changes (xs ++ ys) ≡ bytes_of_changes xs + bytes_of_changes ys
changes_bytes [] ys = omega arith
changes_bytes (x ∷ xs) ys = omega (arith, changes_bytes xs ys)

made_most : (cs : List Change) (t : Tables) → bytes_of_entries (with_changes cs t).list ≤ bytes_of_entries t.list + bytes_of_changes cs
unfolding with_changes
made_most [] t = omega arith
made_most (c ∷ cs) t = omega (arith, made_most cs (make_change c t), change_most c t)

-- the bytes of a view's rows, and of what these units put among them
abbrev pub bytes_with : List Id → PartView → List Prepared → ℕ
bytes_with us v done = bytes_of_entries (with_changes v.rows no_rows).list + bytes_of_changes (decided_changes us done)

rows_most : (us : List Id) (v : PartView) (done : List Prepared) → bytes_of_entries (with_changes (v.rows ++ decided_changes us done) no_rows).list ≤ bytes_with us v done
rows_most us v done =
    subst (λ (t : Tables). bytes_of_entries t.list ≤ bytes_with us v done) (sym (with_changes_append v.rows (decided_changes us done) no_rows)) (made_most (decided_changes us done) (with_changes v.rows no_rows))

one_more : (us : List Id) (v : PartView) (done : List Prepared) (x : Prepared) → bytes_with us v (done ++ x ∷ []) ≡ bytes_with us v done + bytes_of_changes (changes_if (has_id x.unit us) x.changes)
one_more us v done x =
    let more = ap bytes_of_changes (changes_push us done x) ∙ changes_bytes (decided_changes us done) (changes_if (has_id x.unit us) x.changes) in
    omega (arith, more)

-- ONE UNIT AFTER ANOTHER

pub next_within : (us : List Id) (v : PartView) (done : List Prepared) (x : Prepared) (first old new : ℕ) → IsWithin first (bytes_with us v done) old
    → IsWithin old (bytes_of_entries (with_changes (v.rows ++ decided_changes us done) no_rows).list + bytes_of_changes (changes_if (has_id x.unit us) x.changes)) new
    → IsWithin first (bytes_with us v (done ++ x ∷ [])) new
next_within us v done x first old new so_far next =
    let grown = one_more us v done x in
    let most = rows_most us v done in
    within_on first old new (bytes_with us v (done ++ x ∷ []))
    (within_more first (bytes_with us v done) (bytes_with us v (done ++ x ∷ [])) old (omega (arith, grown)) so_far)
    (within_more old (bytes_of_entries (with_changes (v.rows ++ decided_changes us done) no_rows).list + bytes_of_changes (changes_if (has_id x.unit us) x.changes)) (bytes_with us v (done ++ x ∷ [])) new (omega (arith, grown, most)) next)

-- units behind others are decided beside them
changes_both : (us : List Id) (xs ys : List Prepared) → decided_changes us (xs ++ ys) ≡ decided_changes us xs ++ decided_changes us ys
changes_both us [] ys = refl
changes_both us (x ∷ xs) ys =
    ap (λ cs. changes_if (has_id x.unit us) x.changes ++ cs) (changes_both us xs ys) ∙ sym (append_assoc (changes_if (has_id x.unit us) x.changes) (decided_changes us xs) (decided_changes us ys))

-- THE FIRST OF A LIST

module _ {X : Type 0} where
  pub prefix_next : (all xs : List X) (x : X) → xs ≡ take (length xs) all → (length xs < length all) × (x ≡ get_or all (length xs) x) → xs ++ x ∷ [] ≡ take (length (xs ++ x ∷ [])) all
  prefix_next [] xs x e t = absurd (omega (arith, t.0))
  prefix_next (a ∷ all) [] x e t = ap (λ (y : X). y ∷ []) t.1
  prefix_next (a ∷ all) (b ∷ xs) x e t =
      let first : b ≡ a = cc e in
      let rest : xs ≡ take (length xs) all = cc e in
      let more : xs ++ x ∷ [] ≡ take (length (xs ++ x ∷ [])) all = prefix_next all xs x rest (omega (arith, t.0), t.1) in
      ap (λ (y : X). y ∷ xs ++ x ∷ []) first ∙ ap (λ (l : List X). a ∷ l) more

  pub rest_of : (all xs : List X) → xs ≡ take (length xs) all → (ys : List X) × (xs ++ ys ≡ all)
  rest_of all [] e = (all, refl)
  rest_of [] (b ∷ xs) e = absurd (cc e)
  rest_of (a ∷ all) (b ∷ xs) e =
      let first : b ≡ a = cc e in
      let rest : xs ≡ take (length xs) all = cc e in
      let more = rest_of all xs rest in (more.0, ap (λ (y : X). y ∷ xs ++ more.0) first ∙ ap (λ (l : List X). a ∷ l) more.1)

  -- as many as all are all
  pub prefix_all : (all xs : List X) → xs ≡ take (length xs) all → length xs ≡ length all → xs ≡ all
  prefix_all [] [] e n = refl
  prefix_all [] (b ∷ xs) e n = absurd (omega (arith, n))
  prefix_all (a ∷ all) [] e n = absurd (omega (arith, n))
  prefix_all (a ∷ all) (b ∷ xs) e n =
      let first : b ≡ a = cc e in
      let rest : xs ≡ take (length xs) all = cc e in
      ap (λ (y : X). y ∷ xs) first ∙ ap (λ (l : List X). a ∷ l) (prefix_all all xs rest (omega (arith, n)))

-- UNITS THAT WERE READ

-- each can be put into rows
pub put_at : (all : List PreparedUnit) (k : ℕ) (x : PreparedUnit) → Every ArePut (units_of all) → (k < length all) × (x ≡ get_or all k x) → ArePut (prepared_of x)
put_at [] k x put t = absurd (omega (arith, t.0))
put_at (a ∷ all) zero x put t = subst (λ (y : PreparedUnit). ArePut (prepared_of y)) (sym t.1) put.0
put_at (a ∷ all) (suc k) x put t = put_at all k x put.1 (omega (arith, t.0), t.1)

-- the next one fills so many pages
pub unit_within : (us : List Id) (v : PartView) (done : List PreparedUnit) (unit : PreparedUnit) (is_decided : Bool) (old new : ℕ) → has_id unit.unit us ≡ is_decided
    → IsWithin (length v.log.header.sides) (bytes_with us v (units_of done)) old
    → IsWithin old (bytes_of_entries (with_changes (v.rows ++ decided_changes us (units_of done)) no_rows).list + bytes_of_changes (changes_if is_decided unit.changes.items)) new
    → IsWithin (length v.log.header.sides) (bytes_with us v (units_of (done ++ unit ∷ []))) new
unit_within us v done unit is_decided old new named so_far next =
    let before = units_of done in
    let x = prepared_of unit in
    let own : IsWithin old (bytes_of_entries (with_changes (v.rows ++ decided_changes us before) no_rows).list + bytes_of_changes (changes_if (has_id x.unit us) x.changes)) new =
    subst (λ (b : Bool). IsWithin old (bytes_of_entries (with_changes (v.rows ++ decided_changes us before) no_rows).list + bytes_of_changes (changes_if b x.changes)) new) (sym named) next in
    subst (λ (ps : List Prepared). IsWithin (length v.log.header.sides) (bytes_with us v ps) new) (sym (units_push done unit)) (next_within us v before x (length v.log.header.sides) old new so_far own)

units_both : (xs ys : List PreparedUnit) → units_of (xs ++ ys) ≡ units_of xs ++ units_of ys
units_both [] ys = refl
units_both (x ∷ xs) ys = ap (λ (l : List Prepared). prepared_of x ∷ l) (units_both xs ys)

-- those that are done are some of all
pub within_all : (us : List Id) (v : PartView) (all done : List PreparedUnit) (now : ℕ) → units_of all ≡ v.log.prepared → done ≡ take (length done) all → IsWithin (length v.log.header.sides) (bytes_with us v (units_of done)) now → now ≤ page_bound us v
within_all us v all done now units prefix within =
    let rest = rest_of all done prefix in
    let some = units_of done in
    let left = units_of rest.0 in
    let both : some ++ left ≡ v.log.prepared = sym (units_both done rest.0) ∙ ap units_of rest.1 ∙ units in
    let whole = ap (λ ps. bytes_of_changes (decided_changes us ps)) (sym both) ∙ ap bytes_of_changes (changes_both us some left) ∙ changes_bytes (decided_changes us some) (decided_changes us left) in
    let more = within_more (length v.log.header.sides) (bytes_with us v some) (bytes_with us v v.log.prepared) now (omega (arith, whole)) within in
    omega (arith, more)

-- what is full with few pages is so with many
pub full_wider : (dev limit few many : ℕ) (answer : Option DiskErr) → few ≤ many → FullOnly dev limit (page_place few 0) answer → FullOnly dev limit (page_place many 0) answer
full_wider dev limit few many None less h = tt
full_wider dev limit few many (Some Failed) less h = tt
full_wider dev limit few many (Some Stopped) less h = tt
full_wider dev limit few many (Some Memory) less h = tt
full_wider dev limit few many (Some (Full n)) less h = (h.0, omega (arith, h.1, less))
