-- A literal or a name that stands alone is read by each level as by the tightest.
use Rattle.salt_ast.specs.declared.limit.LimitName.TheVariants as limit
use Rattle.salt_ast.specs.declared.trees.Expr.{Column}
use Rattle.salt_parse.specs.Answers.{Fails}
use Rattle.salt_parse.specs.Flags.{BuiltTree, Flags, int_tree, kept, kept_name, leaf, note, signed, text_tree}
use Rattle.salt_parse.specs.Lone.{ends_operand, is_lone}
use Rattle.salt_parse.specs.Parsing.{Parsing, ReadsBuilt}
use Rattle.salt_parse.specs.Reading.{Reader, after, atom_at, comparison_at, conjunction_at, left_at, level_at, name_flags, negation_at, nots_at, once_at, product_at, sum_at, tail_at, text_at, text_flags}
use Rattle.salt_parse.specs.declared.built.Built.{Built}
use Rattle.salt_parse.specs.declared.error.ParseErr.{ParseErr}
use Rattle.salt_parse.specs.declared.expr.Level.{Level}
use Rattle.salt_parse.specs.declared.expr.Level.TheVariants as level
use Rattle.salt_ast.specs.Symbols.{Symbol, Symbols, int, key, name, sign, text}
use Rattle.salt_ast.specs.declared.keyword.Keyword.TheVariants as word
use Rattle.salt_ast.specs.declared.sign.Sign.TheVariants as mark
use Rattle.std.proofs.Common.{Err, Ok, Result, Some, [], false, is_none, refl, subst, sym, true, ℕ, ◌≡◌, ◌∙◌, ◌∷◌}
use Rattle.std.specs.Bool.{then_some}

left_alone : (p : ℕ) (operand : Reader BuiltTree) (f : Flags) (us : Symbols) (x : BuiltTree) (g : Flags) (ts : Symbols) → operand f us ≡ Some (x, g, ts) → ends_operand ts ≡ true
    → left_at p operand f us ≡ Some (x, g, ts)
unfolding left_at tail_at
left_alone p operand f us x g [] h e = rw h refl
left_alone p operand f us x g (sign mark.Comma ∷ ts) h e = rw h refl
left_alone p operand f us x g (sign mark.Close ∷ ts) h e = rw h refl
left_alone p operand f us x g (key word.Where ∷ ts) h e = rw h refl
left_alone p operand f us x g ts h e = absurd cc

compared_alone : (operand : Reader BuiltTree) (f : Flags) (us : Symbols) (x : BuiltTree) (g : Flags) (ts : Symbols) → operand f us ≡ Some (x, g, ts) → ends_operand ts ≡ true
    → once_at 3 operand f us ≡ Some (x, g, ts)
unfolding once_at after
compared_alone operand f us x g [] h e = rw h refl
compared_alone operand f us x g (sign mark.Comma ∷ ts) h e = rw h refl
compared_alone operand f us x g (sign mark.Close ∷ ts) h e = rw h refl
compared_alone operand f us x g (key word.Where ∷ ts) h e = rw h refl
compared_alone operand f us x g ts h e = absurd cc

module _ (inner : Reader BuiltTree) (f : Flags) (t : Symbol) (ts : Symbols) (x : BuiltTree) (g : Flags) (atom : atom_at inner f (t ∷ ts) ≡ Some (x, g, ts))
    (no_not : nots_at (comparison_at inner) f (t ∷ ts) ≡ comparison_at inner f (t ∷ ts)) (ends : ends_operand ts ≡ true) where
  product_alone : product_at inner f (t ∷ ts) ≡ Some (x, g, ts)
  product_alone = left_alone 5 (atom_at inner) f (t ∷ ts) x g ts atom ends

  sum_alone : sum_at inner f (t ∷ ts) ≡ Some (x, g, ts)
  sum_alone = left_alone 4 (product_at inner) f (t ∷ ts) x g ts product_alone ends

  conjunction_alone : conjunction_at inner f (t ∷ ts) ≡ Some (x, g, ts)
  conjunction_alone = left_alone 2 (negation_at inner) f (t ∷ ts) x g ts (no_not ∙ compared_alone (sum_at inner) f (t ∷ ts) x g ts sum_alone ends) ends

  level_alone : (l : Level) → level_at l inner f (t ∷ ts) ≡ Some (x, g, ts)
  level_alone level.Disjunction = left_alone 1 (conjunction_at inner) f (t ∷ ts) x g ts conjunction_alone ends
  level_alone level.Conjunction = conjunction_alone
  level_alone level.Sum = sum_alone
  level_alone level.Product = product_alone

  pub level_is_atom : (l : Level) → level_at l inner f (t ∷ ts) ≡ atom_at inner f (t ∷ ts)
  level_is_atom l = level_alone l ∙ sym atom

pub lone_is_atom : (l : Level) (inner : Reader BuiltTree) (f : Flags) (ts : Symbols) → is_lone ts ≡ true → level_at l inner f ts ≡ atom_at inner f ts
unfolding atom_at text_at nots_at
lone_is_atom l inner f (int n ∷ ts) h =
    level_is_atom inner f (int n) ts (leaf (int_tree (signed false n))) (note f (then_some (is_none (signed false n)) limit.Number) false) refl refl h l
lone_is_atom l inner f (text t ∷ ts) h = level_is_atom inner f (text t) ts (leaf (kept (text_flags t f) (text_tree t))) (text_flags t f) refl refl h l
lone_is_atom l inner f (name n ∷ ts) h = level_is_atom inner f (name n) ts (leaf (Column (kept_name (name_flags n f) n))) (name_flags n f) refl refl h l
lone_is_atom l inner f ts h = absurd cc

-- what reads the same from there answers the same
pub reads_same : (r : Result Built ParseErr) (a b : Reader BuiltTree) (old new : Parsing) → b old.flags old.left ≡ a old.flags old.left → ReadsBuilt r a old new → ReadsBuilt r b old new
reads_same (Ok x) a b old new e h = e ∙ h
reads_same (Err err) a b old new e h = subst (Fails err) (sym e) h
