-- Texts, and what each asks.
use Rattle.salt_ast.specs.Lines as form
use Rattle.salt_ast.specs.ProgramLimits.{line_limit}
use Rattle.salt_ast.specs.Spelling.{by_tree}
use Rattle.salt_ast.specs.declared.limit.LimitName.TheVariants as limit
use Rattle.salt_ast.specs.declared.lines.Line.TheVariants as line
use Rattle.salt_model.specs.Lines.{Asks, has_other_byte, is_idle, is_line, is_long, passes}
use Rattle.salt_model.specs.Trace.{Rejected, Tree}
use Rattle.salt_model.specs.declared.events.Refusal.TheVariants as refused
use Rattle.salt_ast.specs.TokenSpelling.{keyword_of, sign_of}
use Rattle.salt_ast.specs.Pieces.{Lexes, Piece, blank, ended, token}
use Rattle.salt_ast.specs.declared.sign.Sign.TheVariants as mark
use Rattle.salt_ast.specs.declared.token.TokenKind.TheVariants as kind
use Rattle.std.proofs.Common.{lit<, lit≤}
use Rattle.std.specs.Prelude.{List, [], codes, refl, suc, zero, ℕ, ◌++◌, ◌∷◌}

-- spaces and tabs alone, a comment, and nothing do nothing
empty_asks : Asks [] (Tree line.Nothing)
empty_asks = is_idle (lit≤ tt) refl

blank_asks : Asks (32 ∷ 9 ∷ []) (Tree line.Nothing)
blank_asks = is_idle (lit≤ tt) refl

-- no byte of a comment is refused
comment_asks : Asks (codes "-- " ++ 7 ∷ 200 ∷ []) (Tree line.Nothing)
comment_asks = is_idle (lit≤ tt) refl

-- a tab may stand in a line, and another byte below 32 may not
other_byte_asks : Asks (codes "go" ++ 9 ∷ 7 ∷ []) (Rejected refused.Byte)
other_byte_asks = has_other_byte (lit≤ tt) refl refl

-- as many bytes
abbrev blanks : ℕ → List ℕ
blanks zero = []
blanks (suc n) = 32 ∷ blanks n

-- a line that is too long is refused also where it would do nothing
long_asks : Asks (blanks 65537) (Rejected refused.Long)
long_asks = is_long (lit< tt)

abbrev go_all_pieces : List Piece
go_all_pieces = record { kind = kind.Word; text = codes "go" } ∷ record { kind = kind.Word; text = codes "ALL" } ∷ []

go_all_lexes : Lexes (codes "go ALL ") go_all_pieces
go_all_lexes = token kind.Word (codes "go") (refl, (refl, tt)) refl (blank refl (token kind.Word (codes "ALL") (refl, (refl, (refl, tt))) refl (blank refl ended)))

go_all_asks : Asks (codes "go ALL ") (Tree line.GoAll)
unfolding line_limit keyword_of
go_all_asks =
    is_line
    (record { within = lit≤ tt; does_something = refl; bytes = refl })
    (record { tree = refl; parentheses = record { tokens = go_all_pieces; lexes = go_all_lexes; spelled = form.of_go_all } })

-- a session past the greatest
abbrev past_pieces : List Piece
past_pieces =
    record { kind = kind.Sign; text = codes "@" } ∷ record { kind = kind.Int; text = codes "65" } ∷ record { kind = kind.Word; text = codes "begin" } ∷ []

past_lexes : Lexes (codes "@65 begin") past_pieces
unfolding sign_of
past_lexes =
    token kind.Sign (codes "@") (mark.At, refl) refl
    (token kind.Int (codes "65") (refl, (refl, tt)) refl
    (blank refl (token kind.Word (codes "begin") (refl, (refl, (refl, (refl, (refl, tt))))) tt ended)))

past_asks : Asks (codes "@65 begin") (Rejected (refused.Limit limit.Session))
unfolding line_limit keyword_of sign_of
past_asks =
    passes
    (record { within = lit≤ tt; does_something = refl; bytes = refl })
    (record { tokens = past_pieces; lexes = past_lexes; spelled = form.of_session form.begins })
    (by_tree refl)
