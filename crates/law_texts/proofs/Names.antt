-- Names.
use Rattle.salt_model.specs.Naming.{IsName}
use Rattle.law_texts.proofs.Clear.{Clear, Stops, run_one}
use Rattle.salt_ast.specs.Bytes.{is_letter, is_word}
use Rattle.salt_ast.specs.Pieces.{First, IsToken, Lexes, NotNext, Piece, EachPasses, blank, ended, token}
use Rattle.salt_ast.specs.TokenSpelling.{keyword_of, sign_of}
use Rattle.salt_ast.specs.Symbols.{name, symbols_of, sign_symbol, symbol_by, word_symbol}
use Rattle.salt_ast.specs.declared.keyword.Keyword.{Keyword}
use Rattle.salt_ast.specs.declared.sign.Sign.{Sign}
use Rattle.salt_ast.specs.declared.token.TokenKind.{TokenKind}
use Rattle.salt_ast.specs.declared.token.TokenKind.TheVariants as kind
use Rattle.std.proofs.Common.{Bool, List, None, Option, Some, [], false, refl, subst, true, ℕ, ◌==◌, ◌||◌, ◌∷◌, ◌≡◌}

pub word_is : (text n : List ℕ) (found : Option Keyword) → word_symbol text found ≡ name n → text ≡ n
word_is text n None e = cc
word_is text n (Some k) e = absurd cc

pub no_sign : (found : Option Sign) (n : List ℕ) → sign_symbol found ≡ name n → ⊥
no_sign None n e = cc
no_sign (Some s) n e = cc

by_kind : (k : TokenKind) (text n : List ℕ) → IsToken k text → symbol_by k text ≡ name n → First is_letter is_word n
by_kind kind.Word text n is e = subst (λ (l : List ℕ). First is_letter is_word l) (word_is text n (keyword_of text) e) is
by_kind kind.Int text n is e = absurd cc
by_kind kind.Text text n is e = absurd cc
by_kind kind.Sign text n is e = absurd (no_sign (sign_of text) n e)

name_in_row : {bs : List ℕ} {ps : List Piece} (n : List ℕ) → Lexes bs ps → name n ∷ [] ≡ symbols_of ps → First is_letter is_word n
name_in_row n ended e = absurd cc
name_in_row n (blank h d) e = name_in_row n d e
name_in_row n (token k text is ends d) e = let here : symbol_by k text ≡ name n = cc in by_kind k text n is here

-- a name is a letter and then what words go on with
pub name_word : (n : List ℕ) → IsName n → First is_letter is_word n
name_word n h = name_in_row n h.token.1 h.token.2

letter_word : (b : ℕ) → is_letter b ≡ true → is_word b ≡ true
letter_word b h = rw h refl

first_run : (n : List ℕ) → First is_letter is_word n → EachPasses is_word n
first_run [] h = absurd h
first_run (b ∷ bs) h = (letter_word b h.0, h.1)

pub name_run : (n : List ℕ) → IsName n → EachPasses is_word n
name_run n h = first_run n (name_word n h)

word_part : (w q : Bool) → (w || q) ≡ false → w ≡ false
word_part false q h = refl
word_part true q h = absurd cc

pub not_word : (x : List ℕ) → Stops x → NotNext is_word x
not_word [] s = tt
not_word (b ∷ bs) s = word_part (is_word b) (b == 39) s

pub name_clear : Clear IsName (λ n. n)
name_clear = record {
  one = λ a b x y g h s t e. run_one is_word a b x y (name_run a g) (name_run b h) (not_word x s) (not_word y t) e;
}
