-- What is shown, read and back.
use Rattle.salt_ast.specs.Judgement.{doubled_name}
use Rattle.salt_ast.specs.ProgramTexts.{id_text}
use Rattle.salt_ast.specs.Texts.{value_text}
use Rattle.salt_ast.specs.Words.{is_among}
use Rattle.salt_ast.specs.declared.trees.TableDef.{TableDef}
use Rattle.salt_events.proofs.ListLaws.{front_if_if, owner_back, owner_read}
use Rattle.salt_events.proofs.NameLaws.{IsNameFront, name_back, name_read}
use Rattle.salt_events.proofs.Numbers.{IsId, behind_back, id_back, id_read, map_if, then_if}
use Rattle.salt_events.proofs.PartLaws.{IsWhole, below_back, below_read, either_if, map_some, number_whole, same_back, whole_back, word_if}
use Rattle.salt_events.proofs.ValueLaws.{IsValueFront, value_back, value_read}
use Rattle.salt_events.specs.Fronts.{Front, behind, id_at, number_at}
use Rattle.salt_events.specs.Items.{base_item_in, family_at, high_in, item_in, lock_in, mode_at, of_base, of_owner, on_table, place_in, range_in, range_of, table_at}
use Rattle.salt_events.specs.Lists.{owner_at}
use Rattle.salt_events.specs.Names.{name_at}
use Rattle.salt_events.specs.Reading.{if_below, if_empty, number_in, part_in}
use Rattle.salt_events.specs.Values.{value_at}
use Rattle.salt_model.specs.EventTexts.{family_text, mode_text, owner_text, place_text, range_text, table_name}
use Rattle.salt_model.specs.Naming.{IsName, IsNaming, table_names}
use Rattle.salt_model.specs.Printable.{IsPrintableItem, IsPrintableRange}
use Rattle.salt_model.specs.Sized.{IsSizedId, IsSizedItem, IsSizedOwner, IsSizedPlace, IsValueIn}
use Rattle.salt_model.specs.Words.{Every}
use Rattle.salt_model.specs.declared.events.Owner.{Owner}
use Rattle.salt_model.specs.declared.locks.Family.TheVariants as family
use Rattle.salt_model.specs.declared.locks.Family.{Family}
use Rattle.salt_model.specs.declared.locks.Mode.TheVariants as mode
use Rattle.salt_model.specs.declared.locks.Mode.{Mode}
use Rattle.salt_model.specs.declared.shown.BaseAt.TheVariants as place
use Rattle.salt_model.specs.declared.shown.BaseAt.{BaseAt}
use Rattle.salt_model.specs.declared.shown.Item.TheVariants as item
use Rattle.salt_model.specs.declared.shown.Item.{Item}
use Rattle.salt_ranges.specs.declared.range.KeyRange.{KeyRange}
use Rattle.salt_schema.specs.Definitions.{is_named}
use Rattle.salt_schema.specs.Schemas.{table_number}
use Rattle.law_texts.specs.EventLines.{item_line}
use Rattle.salt_ast.specs.TokenSpelling.{same_bytes}
use Rattle.salt_values.specs.Value.{IsValue}
use Rattle.salt_values.specs.declared.id.Id.{Id}
use Rattle.salt_values.specs.declared.value.Value.{Value}
use Rattle.std.proofs.Common.{Bool, IfSome, List, None, Option, Some, [], ap, append-nil, arith, codes, cond, false, is_none, length, option_and_then, option_map, refl, subst, suc, sym, true, zero, ℕ, ◌+◌, ◌++◌, ◌<◌, ◌==◌, ◌^◌, ◌∙◌, ◌∷◌, ◌≡◌, ◌||◌}
use Rattle.std.proofs.lemmas.Bool.Decides.{nat_tests}
use Rattle.std.specs.List.{position_from}

-- WORDS

pub family_read : (f : Family) (x : List ℕ) → family_at (family_text f ++ (32 ∷ x)) ≡ Some (f, x)
family_read family.Acid x = refl
family_read family.Alkaline x = refl
family_read family.Saline x = refl

abbrev IsFamily : List ℕ → Family × List ℕ → Type 0
IsFamily bytes r = bytes ≡ family_text r.0 ++ (32 ∷ r.1)

pub family_back : (bytes : List ℕ) → IfSome (family_at bytes) (IsFamily bytes)
family_back bytes =
    front_if_if (behind (codes "acid ") bytes) (λ r. Some (family.Acid, r)) _ (λ x. bytes ≡ codes "acid " ++ x) (IsFamily bytes) (behind_back (codes "acid ") bytes)
    (λ x e. e)
    (front_if_if (behind (codes "alkaline ") bytes) (λ r. Some (family.Alkaline, r)) _ (λ x. bytes ≡ codes "alkaline " ++ x) (IsFamily bytes)
    (behind_back (codes "alkaline ") bytes) (λ x e. e)
    (front_if_if (behind (codes "saline ") bytes) (λ r. Some (family.Saline, r)) None (λ x. bytes ≡ codes "saline " ++ x) (IsFamily bytes)
    (behind_back (codes "saline ") bytes) (λ x e. e) tt))

pub mode_read : (m : Mode) (x : List ℕ) → mode_at (mode_text m ++ (32 ∷ x)) ≡ Some (m, x)
mode_read mode.Read x = refl
mode_read mode.Write x = refl

abbrev IsMode : List ℕ → Mode × List ℕ → Type 0
IsMode bytes r = bytes ≡ mode_text r.0 ++ (32 ∷ r.1)

pub mode_back : (bytes : List ℕ) → IfSome (mode_at bytes) (IsMode bytes)
mode_back bytes =
    front_if_if (behind (codes "read ") bytes) (λ r. Some (mode.Read, r)) _ (λ x. bytes ≡ codes "read " ++ x) (IsMode bytes) (behind_back (codes "read ") bytes)
    (λ x e. e)
    (front_if_if (behind (codes "write ") bytes) (λ r. Some (mode.Write, r)) None (λ x. bytes ≡ codes "write " ++ x) (IsMode bytes) (behind_back (codes "write ") bytes)
    (λ x e. e) tt)

-- TABLES BY NAME

no_other : (a b : Bool) → (a || b) ≡ false → (a ≡ false) × (b ≡ false)
no_other false b h = (refl, h)
no_other true b h = absurd cc

no_first : (n : List ℕ) (t : Bool) (more : Option (List ℕ)) → cond t (Some n) more ≡ None → (t ≡ false) × (more ≡ None)
no_first n false more h = (refl, h)
no_first n true more h = absurd cc

same_itself : (n : List ℕ) → same_bytes n n ≡ true
same_itself [] = refl
same_itself (b ∷ bs) = let t : (b == b) ≡ true = grind (arith, nat_tests) in rw t (same_itself bs)

-- no table has a name that came before
apart_from : (before : List (List ℕ)) (schema : List TableDef) → doubled_name before (table_names schema) ≡ None → (j : ℕ) → j < length schema →
    is_among (table_name schema j) before ≡ false
apart_from before [] h j lt = absurd (omega arith)
apart_from before (d ∷ ds) h zero lt = (no_first d.name (is_among d.name before) (doubled_name (d.name ∷ before) (table_names ds)) h).0
apart_from before (d ∷ ds) h (suc j) lt =
    let more = (no_first d.name (is_among d.name before) (doubled_name (d.name ∷ before) (table_names ds)) h).1 in
    (no_other (same_bytes (table_name ds j) d.name) (is_among (table_name ds j) before) (apart_from (d.name ∷ before) ds more j (omega arith))).1

number_from : (before : List (List ℕ)) (schema : List TableDef) → doubled_name before (table_names schema) ≡ None → (k j : ℕ) → j < length schema →
    position_from (is_named (λ (d : TableDef). d.name) (table_name schema j)) k schema ≡ Some (k + j)
number_from before [] h k j lt = absurd (omega arith)
number_from before (d ∷ ds) h k zero lt = let n : k ≡ k + 0 = omega arith in rw (same_itself d.name) (ap (λ i. Some i) n)
number_from before (d ∷ ds) h k (suc j) lt =
    let more = (no_first d.name (is_among d.name before) (doubled_name (d.name ∷ before) (table_names ds)) h).1 in
    let other = (no_other (same_bytes (table_name ds j) d.name) (is_among (table_name ds j) before) (apart_from (d.name ∷ before) ds more j (omega arith))).0 in
    let n : (k + 1) + j ≡ k + suc j = omega arith in
    rw other (number_from (d.name ∷ before) ds more (k + 1) j (omega arith) ∙ ap (λ i. Some i) n)

pub table_number_read : (schema : List TableDef) → IsNaming schema → (n : ℕ) → n < length schema → table_number schema (table_name schema n) ≡ Some n
table_number_read schema naming n lt = let z : 0 + n ≡ n = omega arith in number_from [] schema naming.apart 0 n lt ∙ ap (λ i. Some i) z

abbrev IsNumberFrom : List TableDef → List ℕ → ℕ → ℕ → Type 0
IsNumberFrom schema name k n = (j : ℕ) × (n ≡ k + j) × (j < length schema) × (table_name schema j ≡ name)

position_back : (schema : List TableDef) (name : List ℕ) (k : ℕ) →
    IfSome (position_from (is_named (λ (d : TableDef). d.name) name) k schema) (IsNumberFrom schema name k)
position_back [] name k = tt
position_back (d ∷ ds) name k = go (same_bytes name d.name) refl (position_back ds name (k + 1))
  where
    go : (t : Bool) → same_bytes name d.name ≡ t → IfSome (position_from (is_named (λ (d : TableDef). d.name) name) (k + 1) ds) (IsNumberFrom ds name (k + 1)) →
        IfSome (cond t (Some k) (position_from (is_named (λ (d : TableDef). d.name) name) (k + 1) ds)) (IsNumberFrom (d ∷ ds) name k)
    go true e more = (0, omega arith, omega arith, sym (same_back name d.name e))
    go false e more =
        map_some (position_from (is_named (λ (d : TableDef). d.name) name) (k + 1) ds) (IsNumberFrom ds name (k + 1)) (IsNumberFrom (d ∷ ds) name k) more
        (λ n h. let same : (k + 1) + h.0 ≡ k + suc h.0 = omega arith in (suc h.0, h.1 ∙ same, omega (arith, h.2), h.3))

abbrev pub IsTable : List TableDef → List ℕ → ℕ → Type 0
IsTable schema name n = (n < length schema) × (table_name schema n ≡ name)

pub table_number_back : (schema : List TableDef) (name : List ℕ) → IfSome (table_number schema name) (IsTable schema name)
table_number_back schema name =
    map_some (table_number schema name) (IsNumberFrom schema name 0) (IsTable schema name) (position_back schema name 0)
    (λ n h. let z : 0 + h.0 ≡ h.0 = omega arith in subst (IsTable schema name) (sym (h.1 ∙ z)) (h.2, h.3))

name_of_table : (schema : List TableDef) (n : ℕ) → Every IsName (table_names schema) → n < length schema → IsName (table_name schema n)
name_of_table [] n h lt = absurd (omega arith)
name_of_table (d ∷ ds) zero h lt = h.0
name_of_table (d ∷ ds) (suc n) h lt = name_of_table ds n h.1 (omega arith)

pub table_read : (schema : List TableDef) → IsNaming schema → (n : ℕ) (x : List ℕ) → n < length schema → table_at schema (table_name schema n ++ (32 ∷ x)) ≡ Some (n, 32 ∷ x)
table_read schema naming n x lt =
    rw (name_read (table_name schema n) (32 ∷ x) (name_of_table schema n naming.names lt) refl) (rw (table_number_read schema naming n lt) refl)

abbrev IsTableFront : List TableDef → List ℕ → ℕ × List ℕ → Type 0
IsTableFront schema bytes r = (bytes ≡ table_name schema r.0 ++ r.1) × (r.0 < length schema)

pub table_back : (schema : List TableDef) (bytes : List ℕ) → IfSome (table_at schema bytes) (IsTableFront schema bytes)
table_back schema bytes =
    then_if (name_at bytes) (λ n. option_map (λ t. (t, n.1)) (table_number schema n.0)) (λ n. IsNameFront bytes n.0 n.1) (IsTableFront schema bytes) (name_back bytes)
    (λ n f. map_if {B = ℕ × List ℕ} (table_number schema n.0) (λ t. (t, n.1)) (IsTable schema n.0) (IsTableFront schema bytes) (table_number_back schema n.0)
    (λ t h. (f.text ∙ ap (λ l. l ++ n.1) (sym h.1), h.0)))

-- RANGES

pub range_read : (lo hi : Option Value) → is_none lo ≡ is_none hi → IsValueIn lo → IsValueIn hi → range_in (range_text lo hi) ≡ Some (record { lo = lo; hi = hi })
unfolding number_at
range_read None None e g h = refl
range_read None (Some hi) e g h = absurd cc
range_read (Some lo) None e g h = absurd cc
range_read (Some lo) (Some hi) e g h =
    let upper : value_at (value_text hi) ≡ Some (hi, []) = subst (λ l. value_at l ≡ Some (hi, [])) (append-nil (value_text hi)) (value_read hi [] h (tt, tt)) in
    rw (value_read lo (46 ∷ 46 ∷ value_text hi) g (refl, refl)) (rw upper refl)

pub record IsRange (bytes : List ℕ) (r : KeyRange) : Type 0 where
  pub text : bytes ≡ range_text r.lo r.hi
  pub both : IsPrintableRange r
  pub lo : IsValueIn r.lo
  pub hi : IsValueIn r.hi

high_end : (bytes : List ℕ) (lo hi : Value) (x : List ℕ) → IsValue lo → IsValue hi → bytes ≡ value_text lo ++ (codes ".." ++ (value_text hi ++ x)) →
    IfSome (if_empty {A = KeyRange} (record { lo = Some lo; hi = Some hi }) x) (IsRange bytes)
high_end bytes lo hi [] g h e = record { text = e ∙ ap (λ l. value_text lo ++ (codes ".." ++ l)) (append-nil (value_text hi)); both = refl; lo = g; hi = h }
high_end bytes lo hi (b ∷ bs) g h e = tt

range_of_back : (bytes : List ℕ) (o : Front Value) → IfSome o (λ r. IsValueFront bytes r.0 r.1) → IfSome (range_of bytes o) (IsRange bytes)
range_of_back bytes None h =
    word_if bytes (codes "all") (record { lo = None; hi = None }) None (IsRange bytes) (λ e. record { text = e; both = refl; lo = tt; hi = tt }) tt
range_of_back bytes (Some lo) h =
    then_if (behind (codes "..") lo.1) (high_in lo.0) (λ x. lo.1 ≡ codes ".." ++ x) (IsRange bytes) (behind_back (codes "..") lo.1)
    (λ x e. then_if (value_at x) (λ hi. if_empty (record { lo = Some lo.0; hi = Some hi.0 }) hi.1) (λ r. IsValueFront x r.0 r.1) (IsRange bytes) (value_back x)
    (λ hi k. high_end bytes lo.0 hi.0 hi.1 h.is k.is (h.text ∙ ap (λ l. value_text lo.0 ++ l) (e ∙ ap (λ l. codes ".." ++ l) k.text))))

pub range_back : (bytes : List ℕ) → IfSome (range_in bytes) (IsRange bytes)
range_back bytes = range_of_back bytes (value_at bytes) (value_back bytes)

-- PLACES

pub place_read : (at : BaseAt) → IsSizedPlace at → place_in (place_text at) ≡ Some at
place_read place.First g = refl
place_read (place.Next n) g = rw (number_whole n (omega arith)) (rw (below_read (2 ^ 32) n g) refl)
place_read place.Finished g = refl

pub record IsPlace (bytes : List ℕ) (at : BaseAt) : Type 0 where
  pub text : bytes ≡ place_text at
  pub sized : IsSizedPlace at

abbrev IsPart : List ℕ → ℕ → Type 0
IsPart bytes n = IsWhole bytes n × (n < 2 ^ 32)

pub place_back : (bytes : List ℕ) → IfSome (place_in bytes) (IsPlace bytes)
place_back bytes =
    either_if (behind (codes "next ") bytes) (λ r. option_map place.Next (part_in r)) _ (λ x. bytes ≡ codes "next " ++ x) (IsPlace bytes) (behind_back (codes "next ") bytes)
    (λ x e. map_if (part_in x) place.Next (IsPart x) (IsPlace bytes)
    (then_if (number_in x) (if_below (2 ^ 32)) (IsWhole x) (IsPart x) (whole_back x) (λ n h. below_back (2 ^ 32) n (IsWhole x) h))
    (λ n h. record { text = e ∙ ap (λ l. codes "next " ++ l) h.0.0; sized = h.1 }))
    (word_if bytes (codes "first") place.First _ (IsPlace bytes) (λ e. record { text = e; sized = tt })
    (word_if bytes (codes "finished") place.Finished None (IsPlace bytes) (λ e. record { text = e; sized = tt }) tt))

-- ITEMS

pub item_read : (schema : List TableDef) → IsNaming schema → (i : Item) → IsPrintableItem schema i → IsSizedItem i →
    item_in schema (item_line schema i) ≡ Some i
item_read schema naming (item.Lock l) p g =
    let ranged = range_text l.range.lo l.range.hi in
    let tabled = table_name schema l.table ++ (32 ∷ ranged) in
    rw (owner_read l.owner (32 ∷ (family_text l.family ++ (32 ∷ (mode_text l.mode ++ (32 ∷ tabled))))) g.0 refl)
    (rw (family_read l.family (mode_text l.mode ++ (32 ∷ tabled)))
    (rw (mode_read l.mode tabled)
    (rw (table_read schema naming l.table ranged p.0)
    (rw (range_read l.range.lo l.range.hi p.1 g.1 g.2) refl))))
item_read schema naming (item.Base b n at) p g =
    rw (id_read b (32 ∷ (n ++ (32 ∷ place_text at))) g.0 refl) (rw (name_read n (32 ∷ place_text at) p refl) (rw (place_read at g.1) refl))

module _ (schema : List TableDef) where
  pub record IsItem (line : List ℕ) (i : Item) : Type 0 where
    pub text : line ≡ item_line schema i
    pub printable : IsPrintableItem schema i
    pub sized : IsSizedItem i

  on_table_back : (line : List ℕ) (o : Owner) (f : Family) (m : Mode) (x : List ℕ) → IsSizedOwner o →
      line ≡ codes "lock " ++ (owner_text o ++ (codes " " ++ (family_text f ++ (codes " " ++ (mode_text m ++ (codes " " ++ x)))))) →
      IfSome (on_table schema o f m x) (IsItem line)
  on_table_back line o f m x g e =
      then_if (table_at schema x)
      (λ t. option_map (λ r. item.Lock (record { owner = o; family = f; mode = m; table = t.0; range = r })) (option_and_then range_in (behind (codes " ") t.1)))
      (IsTableFront schema x) (IsItem line) (table_back schema x)
      (λ t s. map_if (option_and_then range_in (behind (codes " ") t.1)) (λ r. item.Lock (record { owner = o; family = f; mode = m; table = t.0; range = r }))
      (λ r. (y : List ℕ) × (t.1 ≡ codes " " ++ y) × IsRange y r) (IsItem line)
      (then_if (behind (codes " ") t.1) range_in (λ y. t.1 ≡ codes " " ++ y) (λ r. (y : List ℕ) × (t.1 ≡ codes " " ++ y) × IsRange y r) (behind_back (codes " ") t.1)
      (λ y b. map_some (range_in y) (IsRange y) (λ r. (y : List ℕ) × (t.1 ≡ codes " " ++ y) × IsRange y r) (range_back y) (λ r k. (y, b, k))))
      (λ r k. record {
        text = e ∙ ap (λ l. codes "lock " ++ (owner_text o ++ (codes " " ++ (family_text f ++ (codes " " ++ (mode_text m ++ (codes " " ++ l)))))))
            (s.0 ∙ ap (λ l. table_name schema t.0 ++ l) (k.1 ∙ ap (λ l. codes " " ++ l) k.2.text));
        printable = (s.1, k.2.both);
        sized = (g, k.2.lo, k.2.hi);
      }))

  of_owner_back : (line : List ℕ) (o : Owner) (x : List ℕ) → IsSizedOwner o → line ≡ codes "lock " ++ (owner_text o ++ (codes " " ++ x)) →
      IfSome (of_owner schema o x) (IsItem line)
  of_owner_back line o x g e =
      then_if (family_at x) (λ f. option_and_then (λ m. on_table schema o f.0 m.0 m.1) (mode_at f.1)) (IsFamily x) (IsItem line) (family_back x)
      (λ f s. then_if (mode_at f.1) (λ m. on_table schema o f.0 m.0 m.1) (IsMode f.1) (IsItem line) (mode_back f.1)
      (λ m t. on_table_back line o f.0 m.0 m.1 g
      (e ∙ ap (λ l. codes "lock " ++ (owner_text o ++ (codes " " ++ l))) (s ∙ ap (λ l. family_text f.0 ++ (codes " " ++ l)) t))))

  lock_back : (line x : List ℕ) → line ≡ codes "lock " ++ x → IfSome (lock_in schema x) (IsItem line)
  lock_back line x e =
      then_if (owner_at x) (λ o. option_and_then (of_owner schema o.0) (behind (codes " ") o.1)) (λ o. (x ≡ owner_text o.0 ++ o.1) × IsSizedOwner o.0) (IsItem line) (owner_back x)
      (λ o s. then_if (behind (codes " ") o.1) (of_owner schema o.0) (λ y. o.1 ≡ codes " " ++ y) (IsItem line) (behind_back (codes " ") o.1)
      (λ y t. of_owner_back line o.0 y s.1 (e ∙ ap (λ l. codes "lock " ++ l) (s.0 ∙ ap (λ l. owner_text o.0 ++ l) t))))

  of_base_back : (line : List ℕ) (b : Id) (x : List ℕ) → IsSizedId b → line ≡ codes "base b" ++ (id_text b ++ (codes " " ++ x)) → IfSome (of_base b x) (IsItem line)
  of_base_back line b x g e =
      then_if (name_at x) (λ n. option_map (λ at. item.Base b n.0 at) (option_and_then place_in (behind (codes " ") n.1))) (λ n. IsNameFront x n.0 n.1) (IsItem line) (name_back x)
      (λ n s. map_if (option_and_then place_in (behind (codes " ") n.1)) (λ at. item.Base b n.0 at) (λ at. (y : List ℕ) × (n.1 ≡ codes " " ++ y) × IsPlace y at) (IsItem line)
      (then_if (behind (codes " ") n.1) place_in (λ y. n.1 ≡ codes " " ++ y) (λ at. (y : List ℕ) × (n.1 ≡ codes " " ++ y) × IsPlace y at) (behind_back (codes " ") n.1)
      (λ y t. map_some (place_in y) (IsPlace y) (λ at. (y : List ℕ) × (n.1 ≡ codes " " ++ y) × IsPlace y at) (place_back y) (λ at k. (y, t, k))))
      (λ at k. record {
        text = e ∙ ap (λ l. codes "base b" ++ (id_text b ++ (codes " " ++ l))) (s.text ∙ ap (λ l. n.0 ++ l) (k.1 ∙ ap (λ l. codes " " ++ l) k.2.text));
        printable = s.name;
        sized = (g, k.2.sized);
      }))

  base_item_back : (line x : List ℕ) → line ≡ codes "base b" ++ x → IfSome (base_item_in x) (IsItem line)
  base_item_back line x e =
      then_if (id_at x) (λ b. option_and_then (of_base b.0) (behind (codes " ") b.1)) (λ b. IsId x b.0 b.1) (IsItem line) (id_back x)
      (λ b s. then_if (behind (codes " ") b.1) (of_base b.0) (λ y. b.1 ≡ codes " " ++ y) (IsItem line) (behind_back (codes " ") b.1)
      (λ y t. of_base_back line b.0 y s.sized (e ∙ ap (λ l. codes "base b" ++ l) (s.text ∙ ap (λ l. id_text b.0 ++ l) t))))

  pub item_back : (line : List ℕ) → IfSome (item_in schema line) (IsItem line)
  item_back line =
      either_if (behind (codes "lock ") line) (lock_in schema) _ (λ x. line ≡ codes "lock " ++ x) (IsItem line) (behind_back (codes "lock ") line) (λ x e. lock_back line x e)
      (either_if (behind (codes "base b") line) base_item_in None (λ x. line ≡ codes "base b" ++ x) (IsItem line) (behind_back (codes "base b") line)
      (λ x e. base_item_back line x e) tt)
