-- Canonical texts of lists are read as their items.
use Rattle.salt_ast.proofs.Each.{Each, each_of_append}
use Rattle.salt_ast.proofs.Fragments.{Stops, behind, comma_stops, nothing, respelled, same_bytes_read, space_before, space_stops, spaced_sign}
use Rattle.salt_ast.proofs.TokenRows.{AreReadAs, HasToken}
use Rattle.salt_ast.specs.TokenLaws.{TokenLaws}
use Rattle.salt_ast.specs.Programs.{AnyListed, Several, and_more, last_one, no_items, some_items}
use Rattle.salt_ast.specs.Statements.{Following, FollowingBy, Listed, ListedBy, items, no_more, one_more}
use Rattle.salt_ast.specs.Texts.{between_commas, preceded}
use Rattle.salt_ast.specs.TokenSpelling.{sign_spelling}
use Rattle.salt_ast.specs.Symbols.{Symbols, sign}
use Rattle.salt_ast.specs.declared.sign.Sign.{Sign}
use Rattle.salt_ast.specs.declared.sign.Sign.TheVariants as mark
use Rattle.std.proofs.Common.{List, [], append-nil, append_assoc, codes, sym, ℕ, ◌++◌, ◌∷◌}

pub preceded_stops : {A : Type 0} (before : List ℕ) → ((rest : List ℕ) → Stops (before ++ rest)) → (text : A → List ℕ) (xs : List A) (rest : List ℕ) →
    Stops rest → Stops (preceded before text xs ++ rest)
preceded_stops before stops text [] rest h = h
preceded_stops before stops text (x ∷ xs) rest h = rw (append_assoc before (text x ++ preceded before text xs) rest) (stops _)

pub following_stops : {A : Type 0} (text : A → List ℕ) (xs : List A) (rest : List ℕ) → Stops rest → Stops (preceded (codes ", ") text xs ++ rest)
following_stops text [] rest h = h
following_stops text (x ∷ xs) rest h = comma_stops _

-- what stands between two items
abbrev pub between : Sign → List ℕ
between separator = sign_spelling separator ++ codes " "

-- items, with such signs between them
abbrev pub listed_text : {A : Type 0} → Sign → (A → List ℕ) → List A → List ℕ
listed_text separator text [] = []
listed_text separator text (x ∷ xs) = text x ++ preceded (between separator) text xs

module _ (laws : TokenLaws) {A : Type 0} {Form Item : Symbols → A → Type 0} {text : A → List ℕ} {Low : A → Type 0}
    (read : AreReadAs Form Item text Low) where
  module _ (separator : Sign) (stops : (rest : List ℕ) → Stops (between separator ++ rest)) where
    pub following_by_read : AreReadAs (FollowingBy separator Form) (FollowingBy separator Item) (preceded (between separator) text) (Each Low)
    following_by_read _ _ no_more h low = record { symbols = []; fragment = nothing; spelled = no_more }
    following_by_read _ _ (one_more {a = a} {b = b} {x = x} {xs = xs} d k) (_, h) (low, lows) =
        let rows = each_of_append HasToken a b h in
        let first = read a x d rows.0 low in
        let others = following_by_read b xs k rows.1 lows in
        let item = behind first.fragment (preceded_stops (between separator) stops text xs) others.fragment in
        record {
          symbols = sign separator ∷ (first.symbols ++ others.symbols);
          fragment = same_bytes_read (sym (append_assoc (sign_spelling separator) (codes " ") (text x ++ preceded (between separator) text xs)))
              (spaced_sign laws separator item);
          spelled = one_more first.spelled others.spelled;
        }

    pub listed_by_read : AreReadAs (ListedBy separator Form) (ListedBy separator Item) (listed_text separator text) (Each Low)
    listed_by_read _ _ (items {a = a} {b = b} {x = x} {xs = xs} d k) h (low, lows) =
        let rows = each_of_append HasToken a b h in
        let first = read a x d rows.0 low in
        let others = following_by_read b xs k rows.1 lows in
        record {
          symbols = first.symbols ++ others.symbols;
          fragment = behind first.fragment (preceded_stops (between separator) stops text xs) others.fragment;
          spelled = items first.spelled others.spelled;
        }

  pub following_read : AreReadAs (Following Form) (Following Item) (preceded (codes ", ") text) (Each Low)
  following_read = following_by_read mark.Comma (λ rest. comma_stops _)

  pub listed_read : AreReadAs (Listed Form) (Listed Item) (between_commas text) (Each Low)
  listed_read _ _ (items d k) = listed_by_read mark.Comma (λ rest. comma_stops _) _ _ (items d k)

  pub any_listed_read : AreReadAs (AnyListed Form) (AnyListed Item) (between_commas text) (Each Low)
  any_listed_read _ _ no_items h low = record { symbols = []; fragment = nothing; spelled = no_items }
  any_listed_read _ _ (some_items {ts = ts} {xs = xs} d) h low = respelled (λ _ d. some_items d) (listed_read ts xs d h low)

  -- each behind a space
  pub several_read : AreReadAs (Several Form) (Several Item) (preceded (codes " ") text) (Each Low)
  several_read _ _ (last_one {ts = ts} {x = x} d) h (low, _) =
      let item = read ts x d h low in
      record {
        symbols = item.symbols;
        fragment = space_before (same_bytes_read (sym (append-nil (text x))) item.fragment);
        spelled = last_one item.spelled;
      }
  several_read _ _ (and_more {a = a} {b = b} {x = x} {xs = xs} d k) h (low, lows) =
      let rows = each_of_append HasToken a b h in
      let first = read a x d rows.0 low in
      let others = several_read b xs k rows.1 lows in
      record {
        symbols = first.symbols ++ others.symbols;
        fragment = space_before (behind first.fragment (preceded_stops (codes " ") (λ rest. space_stops _) text xs) others.fragment);
        spelled = and_more first.spelled others.spelled;
      }
