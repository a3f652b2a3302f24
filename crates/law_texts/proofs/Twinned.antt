-- Without a premise there are two stories of one text.
use Rattle.salt_ast.specs.declared.trees.TableDef.{TableDef}
use Rattle.salt_model.specs.Naming.{IsName, IsNaming}
use Rattle.salt_model.specs.Printable.{IsPrintable}
use Rattle.salt_model.specs.declared.events.Event.{Event}
use Rattle.salt_model.specs.declared.events.Event.TheVariants as event
use Rattle.salt_model.specs.declared.shown.Item.TheVariants as item
use Rattle.law_texts.specs.Twins.{AreTwins, IsOfAnyNames, IsOfAnySize, IsOfSharedNames, keyed, long_name, named, opened, whole}
use Rattle.salt_values.specs.declared.value.Value.TheVariants.{Int}
use Rattle.std.proofs.Common.{List, Some, [], ap, arith, codes, length, pos, refl, ℕ, ◌*◌, ◌<◌, ◌^◌, ◌∷◌}
use Rattle.std.specs.Fmt.{digits}

boot_of : List Event → ℕ
boot_of (event.Opened boot n ∷ es) = boot
boot_of es = 0

table_of : List Event → ℕ
table_of (event.Shown (item.Lock l ∷ is) ∷ es) = l.table
table_of es = 0

key_of : List Event → ℕ
key_of (event.Shown (item.Lock l ∷ is) ∷ es) = elim l.range.lo [ Some (Int (pos k)) ↦ k | v ↦ 0 ]
key_of es = 0

pub wide_twins : (schema : List TableDef) → IsNaming schema → AreTwins IsOfAnySize schema (opened (10 ^ 64)) (opened (2 * 10 ^ 64))
unfolding digits boot_of
wide_twins schema g = record {
  left = (g, (tt, tt));
  right = (g, (tt, tt));
  text = refl;
  apart = λ e. omega (arith, ap boot_of e);
}

pub wide_value_twins : (schema : List TableDef) → IsNaming schema → 0 < length schema →
    AreTwins IsOfAnySize schema (keyed (10 ^ 64)) (keyed (2 * 10 ^ 64))
unfolding digits key_of
wide_value_twins schema g h = record {
  left = (g, (((h, refl), tt), tt));
  right = (g, (((h, refl), tt), tt));
  text = refl;
  apart = λ e. omega (arith, ap key_of e);
}

-- the lock of a unit on a whole table is printable
whole_is : (schema : List TableDef) (n : ℕ) → n < length schema → IsPrintable schema (whole n)
whole_is schema n h = record {
  form = ((h, refl), tt);
  sizes = (((omega arith, omega arith), tt, tt), tt);
}

pub same_name_twins : (d : TableDef) → IsName d.name → AreTwins IsOfSharedNames (d ∷ d ∷ []) (whole 0 ∷ []) (whole 1 ∷ [])
unfolding table_of
same_name_twins d g = record {
  left = ((g, (g, tt)), (whole_is (d ∷ d ∷ []) 0 (omega arith), tt));
  right = ((g, (g, tt)), (whole_is (d ∷ d ∷ []) 1 (omega arith), tt));
  text = refl;
  apart = λ e. omega (arith, ap table_of e);
}

abbrev odd_schema : List TableDef
odd_schema = named (codes "t") ∷ named long_name ∷ []

pub long_name_twins : AreTwins IsOfAnyNames odd_schema (whole 0 ∷ whole 0 ∷ []) (whole 1 ∷ [])
unfolding digits table_of
long_name_twins = record {
  left = (refl, (whole_is odd_schema 0 (omega arith), (whole_is odd_schema 0 (omega arith), tt)));
  right = (refl, (whole_is odd_schema 1 (omega arith), tt));
  text = refl;
  apart = λ e. omega (arith, ap table_of e);
}
