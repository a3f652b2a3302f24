-- What the bytes spell, by what their symbols spell.
use Rattle.std.proofs.Common.{◌≡◌, ◌≢◌, ℕ, Bool, true, false, not, ◌&&◌, List, [], ◌∷◌, ◌++◌, Option, Some, None, Result, Ok, Err, refl, sym, ap}
use Rattle.std.proofs.Common.{subst, ◌∙◌, arith}
use Rattle.std.proofs.lemmas.List.{append-nil}
use Rattle.std.specs.List.{list_all}
use Rattle.std.specs.Prelude.{IfOk, is_none}
use Rattle.salt_ast.specs.Grammar.{Within}
use Rattle.salt_ast.specs.Limits.{statement_limit, table_limit}
use Rattle.salt_ast.specs.ProgramLimits.{program_limit}
use Rattle.salt_ast.specs.Programs.{IsProgram}
use Rattle.salt_ast.specs.Spelling.{IsWithinLimits, Passes, Spells, by_parentheses, by_tree}
use Rattle.salt_ast.specs.Statements.{IsStatement}
use Rattle.salt_ast.specs.Tables.{IsTable}
use Rattle.std.specs.Bool.{then_some}
use Rattle.std.specs.Option.{option_or}
use Rattle.salt_ast.specs.declared.limit.LimitName.{LimitName}
use Rattle.salt_ast.specs.declared.limit.LimitName.TheVariants as limit
use Rattle.salt_ast.specs.declared.programs.ProgramDef.{ProgramDef}
use Rattle.salt_ast.specs.declared.trees.Statement.{Statement}
use Rattle.salt_ast.specs.declared.trees.TableDef.{TableDef}
use Rattle.salt_parse.specs.Answers.{parse_err}
use Rattle.salt_parse.specs.Attempts.{IsAnswer, answer_for, attempt_of, ended, limit_in, settled, tree_or_limit}
use Rattle.salt_parse.specs.Flags.{Flags, clear, no_flags}
use Rattle.salt_parse.specs.ProgramReading.{program_at, program_within}
use Rattle.salt_parse.specs.Reading.{Read, after, within_at}
use Rattle.salt_parse.specs.Settling.{ArePrintable, DeepProgram, DeepStatement, DeepTable, IsPrintable, Settles, ShallowProgram, ShallowStatement}
use Rattle.salt_parse.specs.Settling.{ShallowTable}
use Rattle.salt_parse.specs.StatementReading.{statement_at, statement_within}
use Rattle.salt_parse.specs.TableReading.{table_at, table_within}
use Rattle.salt_parse.specs.declared.error.ParseErr.{ParseErr}
use Rattle.salt_parse.specs.declared.error.ParseErr.TheVariants.{Limit, Memory, Syntax}
use Rattle.salt_parse.proofs.ExpressionLaws.{some_is, within_complete, within_sound}
use Rattle.salt_parse.proofs.Mirror.{Agrees, AreKept, Marks, noted, within_mirrors}
use Rattle.salt_parse.proofs.MirrorPrograms.{program_agrees, program_marks}
use Rattle.salt_parse.proofs.MirrorStatements.{statement_agrees, statement_marks, table_agrees, table_marks}
use Rattle.salt_parse.proofs.StatementComplete.{Ends, statement_complete, table_complete}
use Rattle.salt_parse.proofs.StatementSound.{statement_sound, table_sound}
use Rattle.salt_parse.proofs.StatementTrees.{statement_of, table_of}
use Rattle.salt_parse.proofs.Trees.{within_of}
use Rattle.salt_parse.proofs.ProgramLaws.{program_complete, program_sound, program_up}
use Rattle.salt_parse.proofs.ProgramTrees.{program_of}
use Rattle.salt_parse.proofs.Up.{statement_up, table_up, within_up}
use Rattle.salt_ast.specs.Bytes.{is_printable}
use Rattle.salt_ast.specs.Pieces.{IsToken, Lexes, Piece, EachPasses, blank, ended as no_more, quoted, token}
use Rattle.salt_ast.specs.TokenSpelling.{keyword_of, sign_of}
use Rattle.salt_ast.specs.Symbols.{HasSymbols, Symbols, symbols_of, sign_symbol, symbol_by, text, word_symbol}
use Rattle.salt_ast.specs.declared.error.ScanErr.{ScanErr}
use Rattle.salt_ast.specs.declared.error.ScanErr.TheVariants as scan
use Rattle.salt_ast.specs.declared.keyword.Keyword.{Keyword}
use Rattle.salt_ast.specs.declared.sign.Sign.{Sign}
use Rattle.salt_ast.specs.declared.token.TokenKind.{TokenKind}
use Rattle.salt_ast.specs.declared.token.TokenKind.TheVariants as kind

-- ---- texts of tokens are printable

run_all : (bs : List ℕ) → EachPasses is_printable bs → list_all is_printable bs ≡ true
run_all [] r = refl
run_all (b ∷ bs) r = rw r.0 (run_all bs r.1)

-- a text in quotes stands for the text
abbrev pub TextLaw : Type 0
TextLaw = (content : List ℕ) → symbol_by kind.Text (quoted content) ≡ text content

word_printable : (bs : List ℕ) (k : Option Keyword) → IsPrintable (word_symbol bs k)
word_printable bs None = tt
word_printable bs (Some k) = tt

sign_printable : (s : Option Sign) → IsPrintable (sign_symbol s)
sign_printable None = tt
sign_printable (Some s) = tt

token_printable : TextLaw → (k : TokenKind) (bs : List ℕ) → IsToken k bs → IsPrintable (symbol_by k bs)
token_printable law kind.Word bs h = word_printable bs (keyword_of bs)
token_printable law kind.Int bs h = tt
token_printable law kind.Text bs h =
    let is : symbol_by kind.Text bs ≡ text h.0 = ap (λ (x : List ℕ). symbol_by kind.Text x) h.2 ∙ law h.0 in
    subst IsPrintable (sym is) (run_all h.0 h.1)
token_printable law kind.Sign bs h = sign_printable (sign_of bs)

lexes_printable : TextLaw → {bs : List ℕ} {ps : List Piece} → Lexes bs ps → ArePrintable (symbols_of ps)
lexes_printable law no_more = tt
lexes_printable law (blank b d) = lexes_printable law d
lexes_printable law (token k bs t e d) = (token_printable law k bs t, lexes_printable law d)

pub row_printable : TextLaw → (bytes : List ℕ) (r : Symbols) → HasSymbols bytes r → ArePrintable r
row_printable law bytes r h = subst ArePrintable (sym h.2) (lexes_printable law h.1)

-- ---- one attempt

-- the first limit that a tree passes
limit_of : {A : Type 0} → Marks A → A → Option LimitName
limit_of m x = option_or (m.passed x) (then_some (m.high x) limit.Depth)

-- what an attempt tells of the tree that is found
abbrev Finds : {A : Type 0} → Marks A → Option (A × Symbols) → Result (Result A LimitName) ParseErr → Type 0
Finds m q (Ok (Ok x)) = (q ≡ Some (x, [])) × (option_or (m.passed x) (then_some (m.high x) limit.Depth) ≡ None)
Finds {A} m q (Ok (Err l)) = (x : A) × (q ≡ Some (x, [])) × (option_or (m.passed x) (then_some (m.high x) limit.Depth) ≡ Some l)
Finds {A} m q (Err Syntax) = (x : A) → q ≢ Some (x, [])
Finds m q (Err Memory) = ⊥
Finds m q (Err (Limit l)) = ⊥

-- where no limit is found, the flags are clear
none_clear : (f : Flags) → limit_in f ≡ None → clear f ≡ true
none_clear f h = go f.over f.deep h
  where
    go : (v : Option LimitName) (d : Bool) → option_or v (then_some d limit.Depth) ≡ None → (is_none v && not d) ≡ true
    go None false h = refl
    go None true h = absurd cc
    go (Some x) d h = absurd cc

module _ {A : Type 0} (m : Marks A) where
  of_tree : (x a : A) (f : Flags) → f ≡ noted m no_flags a → (clear f ≡ true → x ≡ a) → Finds m (Some (a, [])) (tree_or_limit x (limit_in f))
  of_tree x a f e i = go (limit_in f) refl
    where
      same : limit_in f ≡ option_or (m.passed a) (then_some (m.high a) limit.Depth)
      same = ap limit_in e

      go : (l : Option LimitName) → limit_in f ≡ l → Finds m (Some (a, [])) (tree_or_limit x l)
      go None h =
          let is : x ≡ a = i (none_clear f h) in
          subst (λ (z : A). (◌≡◌ {A = Option (A × Symbols)} (Some (a, [])) (Some (z, []))) ×
          (option_or (m.passed z) (then_some (m.high z) limit.Depth) ≡ None)) (sym is) (refl, sym same ∙ h)
      go (Some l) h = (a, refl, sym same ∙ h)

  pub finds : (r : Option (Read A)) (q : Option (A × Symbols)) → Agrees m AreKept no_flags r q → Finds m q (attempt_of r)
  finds None None h = λ x e. cc
  finds None (Some y) h = absurd h
  finds (Some x) None h = absurd h
  finds (Some x) (Some y) h = go x.2 y.1 h.left
    where
      go : (us vs : Symbols) → us ≡ vs → Finds m (Some (y.0, vs)) (ended x.0 x.1 us)
      go [] [] e = of_tree x.0 y.0 x.1 h.flags h.is
      go [] (v ∷ vs) e = absurd cc
      go (u ∷ us) [] e = absurd cc
      go (u ∷ us) (v ∷ vs) e = λ z k. (let is : v ∷ vs ≡ [] = ap (λ (t : A × Symbols). t.1) (some_is (y.0, v ∷ vs) (z, []) k) in cc)

-- ---- two attempts

module _ {A : Type 0} (m : Marks A) (Shallow Deep : Symbols → A → Type 0) (up : (ts : Symbols) (x : A) → Shallow ts x → Deep ts x)
    (p q : Option (A × Symbols)) (ts : Symbols) where
  abbrev Found : Option (A × Symbols) → (Symbols → A → Type 0) → Type 0
  Found o G = ((x : A) → o ≡ Some (x, []) → G ts x) × ((x : A) → G ts x → o ≡ Some (x, []))

  abbrev Tells : Result A ParseErr → Type 0
  Tells = Settles (λ x. option_or (m.passed x) (then_some (m.high x) limit.Depth)) Shallow Deep ts

  settles : (r s : Result (Result A LimitName) ParseErr) → Found p Shallow → Found q Deep → Finds m p r → Finds m q s → Tells (settled r s)
  settles (Ok (Ok x)) s f g h k = (f.0 x h.0, h.1)
  settles (Ok (Err l)) s f g h k = (h.0, up ts h.0 (f.0 h.0 h.1), by_tree h.2)
  settles (Err Memory) s f g h k = absurd h
  settles (Err (Limit l)) s f g h k = absurd h
  settles (Err Syntax) (Ok (Ok x)) f g h k = (x, g.0 x k.0, by_parentheses k.1 (λ d. h x (f.1 x d)))
  settles (Err Syntax) (Ok (Err l)) f g h k = (k.0, g.0 k.0 k.1, by_tree k.2)
  settles (Err Syntax) (Err Syntax) f g h k = λ x d. k x (g.1 x d)
  settles (Err Syntax) (Err Memory) f g h k = absurd k
  settles (Err Syntax) (Err (Limit l)) f g h k = absurd k

  pub answered : (r : Result A ParseErr) (a : Result A ParseErr) → IsAnswer r a → Tells a → Tells r
  answered (Ok x) a e h = subst Tells e h
  answered (Err Memory) a e h = tt
  answered (Err Syntax) a e h = subst Tells e h
  answered (Err (Limit l)) a e h = subst Tells e h

  pub all : (r : Result A ParseErr) (u v : Option (Read A)) → Found p Shallow → Found q Deep → Agrees m AreKept no_flags u p →
      Agrees m AreKept no_flags v q → IsAnswer r (settled (attempt_of u) (attempt_of v)) → Tells r
  all r u v f g h k e = answered r (settled (attempt_of u) (attempt_of v)) e (settles (attempt_of u) (attempt_of v) f g (finds m u p h) (finds m v q k))

-- ---- statements

ends : Ends []
unfolding after
ends = record { stops = tt; no_where = refl; no_comma = refl }

whole : {A : Type 0} (G : Symbols → A → Type 0) (ts : Symbols) (x : A) → (front : Symbols) × (ts ≡ front ++ []) × G front x → G ts x
whole {A} G ts x r = subst (λ (z : Symbols). G z x) (sym (r.1 ∙ append-nil r.0)) r.2

statement_found : (d n : ℕ) (ts : Symbols) →
    ((x : Statement) → statement_of (within_of d) (within_of n) ts ≡ Some (x, []) → IsStatement (Within d) (Within n) ts x) ×
    ((x : Statement) → IsStatement (Within d) (Within n) ts x → statement_of (within_of d) (within_of n) ts ≡ Some (x, []))
statement_found d n ts = (
  λ x h. whole (IsStatement (Within d) (Within n)) ts x
      (statement_sound (Within d) (Within n) (within_of d) (within_sound d) (within_of n) (within_sound n) ts x [] h),
  λ x h. ap (statement_of (within_of d) (within_of n)) (sym (append-nil ts))
      ∙ statement_complete (Within d) (Within n) (within_of d) (within_of n) (within_sound d) (within_sound n) (within_complete d)
      (within_complete n) ts [] x h ends,
)

table_found : (d : ℕ) (ts : Symbols) →
    ((x : TableDef) → table_of (within_of d) ts ≡ Some (x, []) → IsTable (Within d) ts x) ×
    ((x : TableDef) → IsTable (Within d) ts x → table_of (within_of d) ts ≡ Some (x, []))
table_found d ts = (
  λ x h. whole (IsTable (Within d)) ts x (table_sound (Within d) (within_of d) (within_sound d) ts x [] h),
  λ x h. ap (table_of (within_of d)) (sym (append-nil ts)) ∙ table_complete (Within d) (within_of d) (within_sound d) (within_complete d) ts [] x h,
)

program_found : (d n : ℕ) (ts : Symbols) →
    ((x : ProgramDef) → program_of (within_of d) (within_of n) ts ≡ Some (x, []) → IsProgram (Within d) (Within n) ts x) ×
    ((x : ProgramDef) → IsProgram (Within d) (Within n) ts x → program_of (within_of d) (within_of n) ts ≡ Some (x, []))
program_found d n ts = (
  λ x h. whole (IsProgram (Within d) (Within n)) ts x
      (program_sound (Within d) (Within n) (within_of d) (within_of n) (within_sound d) (within_sound n) ts x [] h),
  λ x h. ap (program_of (within_of d) (within_of n)) (sym (append-nil ts))
      ∙ program_complete (Within d) (Within n) (within_of d) (within_of n) (within_sound d) (within_sound n) (within_complete d)
      (within_complete n) ts [] x h tt,
)

-- no row spells two trees
one_of : {A : Type 0} (G : Symbols → A → Type 0) (o : Option (A × Symbols)) (ts : Symbols) → ((x : A) → G ts x → o ≡ Some (x, [])) → (a b : A) →
    G ts a → G ts b → a ≡ b
one_of {A} G o ts c a b d k = ap (λ (x : A × Symbols). x.0) (some_is (a, []) (b, []) (sym (c a d) ∙ c b k))

-- the bytes have one row of tokens at most
abbrev pub OneRow : Type 0
OneRow = (bs : List ℕ) (ps qs : List Piece) → Lexes bs ps → Lexes bs qs → ps ≡ qs

module _ {A : Type 0} (one : OneRow) (bytes : List ℕ) where
  -- what the row of the bytes spells, they spell
  spelled : (G : Symbols → A → Type 0) (r : Symbols) (x : A) → HasSymbols bytes r → G r x → Spells G bytes x
  spelled G r x h d = record { tokens = h.0; lexes = h.1; spelled = subst (λ (z : Symbols). G z x) h.2 d }

  unspelled : (G : Symbols → A → Type 0) (r : Symbols) (x : A) → HasSymbols bytes r → Spells G bytes x → G r x
  unspelled G r x h s =
      let same : symbols_of s.tokens ≡ r = ap symbols_of (one bytes s.tokens h.0 s.lexes h.1) ∙ sym h.2 in
      subst (λ (z : Symbols). G z x) same s.spelled

  pub one_tree : (G : Symbols → A → Type 0) → ((ts : Symbols) (a b : A) → G ts a → G ts b → a ≡ b) → (a b : A) → Spells G bytes a → Spells G bytes b → a ≡ b
  one_tree G same a b s t =
      let h : HasSymbols bytes (symbols_of t.tokens) = (t.tokens, t.lexes, refl) in
      same (symbols_of t.tokens) a b (unspelled G (symbols_of t.tokens) a h s) t.spelled

  passes : (Shallow : Symbols → A → Type 0) (o : Option LimitName) (r : Symbols) (x : A) (l : LimitName) → HasSymbols bytes r →
      Passes o (Shallow r x) l → Passes o (Spells Shallow bytes x) l
  passes Shallow o r x l h (by_tree e) = by_tree e
  passes Shallow o r x l h (by_parentheses e n) = by_parentheses e (λ s. n (unspelled Shallow r x h s))

pub row_statement : (ts : Symbols) (a b : Statement) → DeepStatement ts a → DeepStatement ts b → a ≡ b
row_statement ts a b = one_of DeepStatement (statement_of (within_of 128) (within_of 127) ts) ts (statement_found 128 127 ts).1 a b

pub row_table : (ts : Symbols) (a b : TableDef) → DeepTable ts a → DeepTable ts b → a ≡ b
row_table ts a b = one_of DeepTable (table_of (within_of 127) ts) ts (table_found 127 ts).1 a b

pub row_program : (ts : Symbols) (a b : ProgramDef) → DeepProgram ts a → DeepProgram ts b → a ≡ b
row_program ts a b = one_of DeepProgram (program_of (within_of 128) (within_of 127) ts) ts (program_found 128 127 ts).1 a b

-- ---- the answers

pub statement_deepens : (ts : Symbols) (x : Statement) → ShallowStatement ts x → DeepStatement ts x
statement_deepens ts x d = statement_up (within_up 64 128 (omega arith)) (within_up 64 127 (omega arith)) ts x d

pub statement_settles : (ts : Symbols) (r : Result Statement ParseErr) → ArePrintable ts → IsAnswer r (answer_for statement_within ts) →
    Settles statement_limit ShallowStatement DeepStatement ts r
unfolding statement_limit
statement_settles ts r p e =
    all statement_marks ShallowStatement DeepStatement (λ us x d. statement_deepens us x d)
    (statement_of (within_of 64) (within_of 64) ts) (statement_of (within_of 128) (within_of 127) ts) ts r
    (statement_at (within_at 64) (within_at 64) no_flags ts) (statement_at (within_at 128) (within_at 127) no_flags ts) (statement_found 64 64 ts)
    (statement_found 128 127 ts)
    (statement_agrees (within_at 64) (within_at 64) (within_of 64) (within_of 64) (within_mirrors 64) (within_mirrors 64) no_flags ts p)
    (statement_agrees (within_at 128) (within_at 127) (within_of 128) (within_of 127) (within_mirrors 128) (within_mirrors 127) no_flags ts p) e

pub table_deepens : (ts : Symbols) (x : TableDef) → ShallowTable ts x → DeepTable ts x
table_deepens ts x d = table_up (within_up 64 127 (omega arith)) ts x d

pub table_settles : (ts : Symbols) (r : Result TableDef ParseErr) → ArePrintable ts → IsAnswer r (answer_for table_within ts) →
    Settles table_limit ShallowTable DeepTable ts r
unfolding table_limit
table_settles ts r p e =
    all table_marks ShallowTable DeepTable (λ us x d. table_deepens us x d) (table_of (within_of 64) ts)
    (table_of (within_of 127) ts) ts r
    (table_at (within_at 64) no_flags ts) (table_at (within_at 127) no_flags ts) (table_found 64 ts) (table_found 127 ts)
    (table_agrees (within_at 64) (within_of 64) (within_mirrors 64) no_flags ts p)
    (table_agrees (within_at 127) (within_of 127) (within_mirrors 127) no_flags ts p) e

pub program_deepens : (ts : Symbols) (x : ProgramDef) → ShallowProgram ts x → DeepProgram ts x
program_deepens ts x d = program_up (within_up 64 128 (omega arith)) (within_up 64 127 (omega arith)) ts x d

pub program_settles : (ts : Symbols) (r : Result ProgramDef ParseErr) → ArePrintable ts → IsAnswer r (answer_for program_within ts) →
    Settles program_limit ShallowProgram DeepProgram ts r
unfolding program_limit
program_settles ts r p e =
    all program_marks ShallowProgram DeepProgram (λ us x d. program_deepens us x d)
    (program_of (within_of 64) (within_of 64) ts) (program_of (within_of 128) (within_of 127) ts) ts r
    (program_at (within_at 64) (within_at 64) no_flags ts) (program_at (within_at 128) (within_at 127) no_flags ts) (program_found 64 64 ts)
    (program_found 128 127 ts)
    (program_agrees (within_at 64) (within_at 64) (within_of 64) (within_of 64) (within_mirrors 64) (within_mirrors 64) no_flags ts p)
    (program_agrees (within_at 128) (within_at 127) (within_of 128) (within_of 127) (within_mirrors 128) (within_mirrors 127) no_flags ts p) e

-- what an answer for the row of the bytes tells of what they spell
module _ {A : Type 0} (one : OneRow) (bytes : List ℕ) (limit_of : A → Option LimitName) (Shallow Deep : Symbols → A → Type 0) (ts : Symbols)
    (h : HasSymbols bytes ts) where
  pub is_found : (r : Result A ParseErr) → Settles limit_of Shallow Deep ts r → IfOk r (λ x. IsWithinLimits (limit_of x) (Spells Shallow bytes x))
  is_found (Ok x) k = record { tree = k.1; parentheses = spelled one bytes Shallow ts x h k.0 }
  is_found (Err e) k = tt

  pub is_limit : (r : Result A ParseErr) → Settles limit_of Shallow Deep ts r → (l : LimitName) → r ≡ Err (Limit l) →
      (x : A) × Spells Deep bytes x × Passes (limit_of x) (Spells Shallow bytes x) l
  is_limit (Ok x) k l is = absurd cc
  is_limit (Err Memory) k l is = absurd cc
  is_limit (Err Syntax) k l is = absurd cc
  is_limit (Err (Limit m)) k l is =
      let same : m ≡ l = cc is in (
        k.0,
        spelled one bytes Deep ts k.0 h k.1,
        subst (λ (z : LimitName). Passes (limit_of k.0) (Spells Shallow bytes k.0) z) same (passes one bytes Shallow (limit_of k.0) ts k.0 m h k.2),
      )

  pub spells_none : (r : Result A ParseErr) → Settles limit_of Shallow Deep ts r → r ≡ Err Syntax → (x : A) → Spells Deep bytes x → ⊥
  spells_none (Ok x) k is y s = absurd cc
  spells_none (Err Memory) k is y s = absurd cc
  spells_none (Err (Limit m)) k is y s = absurd cc
  spells_none (Err Syntax) k is y s = k y (unspelled one bytes Deep ts y h s)

-- where the bytes are no tokens
pub scan_limit : {A : Type 0} (B : Type 0) (e : ScanErr) (l : LimitName) → ◌≡◌ {A = Result A ParseErr} (Err (parse_err e)) (Err (Limit l)) → B
scan_limit B scan.Memory l is = absurd cc
scan_limit B scan.Syntax l is = absurd cc

pub scan_none : {A : Type 0} (bytes : List ℕ) (Deep : Symbols → A → Type 0) (e : ScanErr) →
    (e ≡ scan.Syntax → (ts : Symbols) → HasSymbols bytes ts → ⊥) → ◌≡◌ {A = Result A ParseErr} (Err (parse_err e)) (Err Syntax) →
    (x : A) → Spells Deep bytes x → ⊥
scan_none bytes Deep scan.Memory nothing is x s = absurd cc
scan_none bytes Deep scan.Syntax nothing is x s = nothing refl (symbols_of s.tokens) (s.tokens, s.lexes, refl)
